-- A way of comparing: what one score wins from another, and the constants that go with it.
use Rattle.std.specs.Prelude.{◌≡◌, ℕ, ◌+◌, ◌*◌, ◌≤◌, ℤ, pos, ◌+ℤ◌, neg_ℤ, ◌≤ℤ◌}
use Rattle.scoring.specs.declared.score.Score.{Score}

pub record Way : Type 0 where
  -- the points that the holder of the first score wins from the holder of the second
  pub compare : Score → Score → ℤ
  -- what each side has of a tie
  pub tie : ℕ
  -- what an average-plus gains over an average, in fifths of a point
  pub lift : ℕ
  -- by how much a printed score is multiplied
  pub scale : ℕ
  -- the number of this way in a book
  pub code : ℕ

-- these are the constants of the way
pub record HasConstants (w : Way) (tie lift scale code : ℕ) : Type 0 where
  pub tie_is : w.tie ≡ tie
  pub lift_is : w.lift ≡ lift
  pub scale_is : w.scale ≡ scale
  pub code_is : w.code ≡ code

pub record Lawful (w : Way) : Type 0 where
  -- the two sides of a comparison add up to twice the tie value
  pub balanced : (a b : Score) → w.compare a b +ℤ w.compare b a ≡ pos (2 * w.tie)
  -- a higher score never wins less
  pub rising : (a higher b : Score) → a.points ≤ℤ higher.points → w.compare a b ≤ℤ w.compare higher b
  pub points_least : (a b : Score) → neg_ℤ (pos 20000) ≤ℤ w.compare a b
  pub points_most : (a b : Score) → w.compare a b ≤ℤ pos 20000
  pub tie_most : w.tie ≤ 20000
  pub lift_least : 1 ≤ w.lift
  pub lift_most : 5 * w.tie + w.lift ≤ 100000
  pub scale_least : 1 ≤ w.scale
  pub scale_most : w.scale ≤ 50
  pub code_least : 1 ≤ w.code
  pub code_most : w.code ≤ 255
