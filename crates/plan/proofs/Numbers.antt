-- What a chain over the numbers 1 to n tells.
use Rattle.std.proofs.Common.{◌≡◌, ℕ, ◌+◌, ◌-◌, ◌<◌, ◌↔◌, Bool, true, false, IsTrue, Option, Some, None, refl, ap, ◌∙◌, subst, arith, rules}
use Rattle.std.proofs.lemmas.Grind.{common_steps}
use denote.Param.Members.{Mut, Called}
use Rattle.std.specs.declared.ops.RangeInclusive.{RangeInclusive}
use Rattle.std.specs.Bool.{MatchBool}
use Rattle.std.specs.Option.{MatchOption}
use Rattle.std.specs.Range.{range_inclusive_start, range_inclusive_end, range_inclusive_exhausted}
use Rattle.std.specs.Iterator.Runs.{Run, SomeRun, AllItemsGive, AnyItemGives, CallKeepsClosure, IsFirstToGive, ItemsCountUp}
use Rattle.std.proofs.iter.runs.Sources.{nat_range_inclusive_steps, inclusive_listed}
use Rattle.plan.specs.Laws.{In}

-- none of the numbers 1 to n has come yet
pub record Counts (n : ℕ) (s : RangeInclusive ℕ) : Type 0 where
  pub start : range_inclusive_start s ≡ 1
  pub end : range_inclusive_end s ≡ n
  pub exhausted : range_inclusive_exhausted s ≡ false

count_up : (n : ℕ) (s : RangeInclusive ℕ) (p : Run nat_range_inclusive_steps) → Counts n s → p.from ≡ s → ItemsCountUp p 1 (n + 1)
count_up n s p c e =
    let h = inclusive_listed p p.seen in
    let start : h.0 ≡ 1 = h.2 ∙ ap range_inclusive_start e ∙ c.start in
    let end : h.1 ≡ n + 1 = h.3 ∙ ap (λ (s : RangeInclusive ℕ). range_inclusive_end s + 1) e ∙ ap (λ k. k + 1) c.end in
    let up = h.4 (ap range_inclusive_exhausted e ∙ c.exhausted) in
    subst (ItemsCountUp p 1) end (subst (λ a. ItemsCountUp p a h.1) start up.0)

module _ {F : Type 0} (g : Mut F (ℕ × Unit {0}) Bool) (f : F) (n : ℕ) (s : RangeInclusive ℕ) (counts : Counts n s) (P : ℕ → Type 0) where
  -- `all` is true exactly where P holds of each number, if each call that gives true tells P, and none gives false where P holds
  pub all_numbers : (r : Bool) → SomeRun nat_range_inclusive_steps s (λ p. MatchBool r (IsTrue p.whole × AllItemsGive p g f true) (AnyItemGives p g f false))
      → CallKeepsClosure g f → ((k : ℕ) → Called g f (k, tt) true f → P k) → ((k : ℕ) → Called g f (k, tt) false f → P k → ⊥)
      → IsTrue r ↔ ((k : ℕ) → In n k → P k)
  all_numbers true run keeps tells denies = ((λ _ k range. at k range), λ _. refl)
    where
      at : (k : ℕ) → In n k → P k
      at k range =
          let p = run.0 in
          let up = count_up n s p counts run.1 in
          let all = run.2.1 keeps (k - 1) in
          let len = up.1 (search rules) in
          let item = up.3 (k - 1) (omega arith) in
          let same : 1 + (k - 1) ≡ k = omega arith in
          grind (arith, common_steps, tells k)
  all_numbers false run keeps tells denies = (
    (λ h. cc),
    λ every.
        let p = run.0 in
        let up = count_up n s p counts run.1 in
        let any = run.2 keeps in
        let item = up.3 any.0 any.1 in
        absurd (grind (arith, common_steps, denies (1 + any.0), every (1 + any.0))),
  )

module _ {F B : Type 0} (g : Mut F (ℕ × Unit {0}) (Option B)) (f : F) (n : ℕ) (s : RangeInclusive ℕ) (counts : Counts n s) (h : ℕ → Option B) where
  -- `find_map` gives what h gives first, if each call gives what h does
  pub first_number : (r : Option B)
      → SomeRun nat_range_inclusive_steps s (λ p. MatchOption r (IsTrue p.whole × AllItemsGive p g f None) (λ y. (i : ℕ) × (i < p.len) × (p.len ≡ i + 1) × IsFirstToGive p g f (Some y) None i))
      → CallKeepsClosure g f → ((k : ℕ) (o : Option B) → Called g f (k, tt) o f → o ≡ h k)
      → MatchOption r ((k : ℕ) → In n k → h k ≡ None) (λ y. (k : ℕ) × In n k × (h k ≡ Some y) × ((j : ℕ) → In (k - 1) j → h j ≡ None))
  first_number None run keeps gives = λ k range.
      let p = run.0 in
      let up = count_up n s p counts run.1 in
      let all = run.2.1 keeps (k - 1) in
      let len = up.1 (search rules) in
      let item = up.3 (k - 1) (omega arith) in
      let same : 1 + (k - 1) ≡ k = omega arith in
      grind (arith, common_steps, gives k None)
  first_number (Some y) run keeps gives =
      let p = run.0 in
      let up = count_up n s p counts run.1 in
      let i = run.2.0 in
      let first = run.2.3 keeps in
      let item = up.3 i run.2.1 in (
        1 + i,
        (omega arith, omega arith),
        grind (arith, common_steps, gives (1 + i) (Some y)),
        λ j range.
            let below = first.1 (j - 1) (omega arith) in
            let earlier = up.3 (j - 1) (omega arith) in
            let same : 1 + (j - 1) ≡ j = omega arith in
            grind (arith, common_steps, gives j None),
      )
