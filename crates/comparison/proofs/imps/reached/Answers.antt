use denote.Bor.{Bor}
use Rattle.std.proofs.Common.{◌≡◌, ℕ, Bool, ◌≤◌, length, min, count_by, nat_le, refl, arith, rules}
use Rattle.std.proofs.lemmas.Fn.{fold_over, fronts, slice_gives}
use Rattle.std.proofs.lemmas.List.Sums.{count_by-le-length}
use Rattle.comparison.proofs.Counting.{counted_more}
use Rattle.comparison.proofs.imps.reached.Goals as goal

pub returns : goal.returns
returns c =
    let passed : ℕ → Bool = λ start. nat_le start c.args.difference in
    let starts = c.iter.result.rest.now in
    let counted : c.fold.result ≡ min (count_by passed starts) 255 =
    fold_over fronts (λ (start : Bor ℕ). start.now) _ (λ xs count. count ≡ min (count_by passed xs) 255) _
    (λ xs before start after f' same call. (counted_more passed xs start.now before after same (search rules), search rules))
    c.iter.result starts _ _ (slice_gives c.iter.result) refl c.fold.ensures.ran in
    let all : starts ≡ c.args.starts.now = search rules in
    let most = count_by-le-length passed starts in
    let few : length starts ≤ 24 = grind (arith, c.told-starts) in
    grind arith
