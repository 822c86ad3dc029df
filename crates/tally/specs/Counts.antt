-- How a count of figures is printed.
use Rattle.std.specs.Prelude.{ℕ, List, ◌++◌, codes, decimal}

-- as `175 agree, 0 differ`
abbrev pub counts_text : ℕ → ℕ → List ℕ
counts_text agreed differed = decimal agreed ++ (codes " agree, " ++ (decimal differed ++ codes " differ"))
