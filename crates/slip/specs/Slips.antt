-- The slip of a return.
use Rattle.std.specs.Prelude.{ℕ, if◌then◌else◌, List, [], ◌++◌, codes, decimal, ◌==◌}
use Rattle.returns.specs.declared.group.Group.{Group}
use Rattle.returns.specs.declared.returned.Return.{Return}
use Rattle.returns.specs.declared.returned.Return.TheVariants.{Scored, Passed, Averages}
use Rattle.slip.specs.Letters.{denomination_text, doubling_text, declarer_text, average_text}

-- group 0 is not written
abbrev pub group_text : Group → List ℕ
group_text g = if g.number == 0 then [] else codes " G" ++ decimal g.number

abbrev pub slip_of : Return → List ℕ
-- as 4SX N 10 G1
slip_of (Scored c g) =
    decimal c.level ++ (denomination_text c.denomination ++ (doubling_text c.doubling ++ (codes " " ++
    (declarer_text c.declarer ++ (codes " " ++ (decimal c.tricks ++ group_text g))))))
-- as PASS G1
slip_of (Passed g) = codes "PASS" ++ group_text g
-- as AVE +-
slip_of (Averages ns ew) = codes "AVE " ++ (average_text ns ++ average_text ew)
