use Rattle.std.proofs.Common.{Option, rules}
use Rattle.plan.proofs.Numbers.{first_number}
use Rattle.guide.specs.declared.place.Place.{Place}
use Rattle.guide.specs.Places.{place_at}
use Rattle.guide.proofs.Placing.{FirstPlace, found_by, alone_by, place_first}
use Rattle.guide.proofs.place.Place.find.Goals as goal

pub returns : goal.returns
returns g c =
    let m = g.M.Movement.plan c.args.movement.now in
    let laws = g.met.M.Movement.lawful c.args.movement.now in
    let r = c.args.round in
    let pair = c.args.pair in
    let place : Option Place = c.find_map.result in
    let first : FirstPlace m r pair m.tables place = first_number _ _ m.tables _ (record { start = cc; end = cc; exhausted = cc }) (λ t. place_at t pair (m.seat r t)) place c.find_map.ensures.runs (λ a r f' k. search rules) (λ t o k. search rules) in
    let found = found_by m laws r pair place first in
    record { value = place_first m r pair m.tables place first; found = found; alone = alone_by m laws r pair place found }
