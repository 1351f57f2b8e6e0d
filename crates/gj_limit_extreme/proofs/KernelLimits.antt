-- Numbers that solve the rows that are kept give a perturbation that is not 0, if one of them is
-- positive.
use Rattle.std.proofs.Common.{◌≡◌, ◌≢◌, ℕ, zero, suc, ◌⊎◌, inl, inr, ◌+◌, ◌-◌, ◌*◌, ◌/◌, ◌%◌, ◌<◌, ◌≤◌, Option, Some, ℤ, pos, ◌+ℤ◌, ◌<ℤ◌, List, length, map, get_or, sym, ap, subst, ◌∙◌, ⊎_elim, arith}
use Rattle.std.specs.Prelude.{All, Any}
use Rattle.std.proofs.Math.Nat.{mod-lt, mod-eq_of_lt, div-add-mod'}
use Rattle.std.proofs.lemmas.Bool.{cases_lt}
use Rattle.std.proofs.lemmas.Int.{ints}
use Rattle.gj_lemmas.proofs.Integers.{same_or_apart_z}
use Rattle.gj_cover.specs.declared.covered.Cover.{Cover}
use Rattle.gj_shape.specs.Elimination.{Solution, at_column, kernel}
use Rattle.gj_shape.specs.FunctionData.{FunctionData, IsWithinBounds}
use Rattle.gj_shape.specs.SlopeRows.{component_in}
use Rattle.gj_theory.specs.TriangularRows.{Solves, SolvesKept}
use Rattle.gj_theory.proofs.Eliminations.{elimination_has}
use Rattle.gj_theory.proofs.Kernels.{kernel_columns, kernel_solves, kernel_positive}
use Rattle.gj_theory.proofs.SoundArithmetic.{whole_sound}
use Rattle.gj_jumps.specs.LimitCover.{IsTightAt}
use Rattle.gj_limit_grids.specs.Grids.{IsLimitPerturbation}
use Rattle.gj_limit_averages.specs.Moved.{HasSome}
use Rattle.gj_limit_averages.proofs.FromAverages.{solution_is_perturbation}
use Rattle.gj_limit_system.specs.Decided.{SolveLimitRows}
use Rattle.gj_limit_system.specs.LimitRows.{limit_rows, row_value}
use Rattle.gj_limit_system.specs.Unknowns.{right_column, value_column, slope_column, columns_for, value_from, limits_from}
use Rattle.gj_limit_system.proofs.Components.{component_low, has_interval}
use Rattle.gj_limit_system.proofs.FromRows.{before_next, limits_solve}
use Rattle.gj_limit_proof.specs.LimitRowsKept.{named_row}
use Rattle.gj_limit_proof.proofs.LinearRows.{named_products}
use Rattle.gj_extreme.proofs.DecidedHalves.{all_made_of, of_some, positive_column}
use Rattle.gj_limit_extreme.specs.Decision.{AreAllCovered, columns_of, limit_elimination, kernel_limits}
use Rattle.gj_limit_extreme.proofs.DecidedGroups.{system_rows, system_columns}

-- ---- numbers that are not all 0

module _ (f : FunctionData) (cover : Cover) (component : List ℕ) (bounds : IsWithinBounds f)
    (covered : AreAllCovered f cover component)
    (x : ℕ → ℤ) where
  abbrev q : ℕ
  q = f.order

  abbrev comp : ℕ → ℕ
  comp = component_in component

  -- at the column of a limit from the right or of a value
  some_number : (n k r : ℕ) → n ≡ 2 * k + r → r < 2 → n < 2 * f.order - 1 → x n ≢ pos 0 →
      HasSome (limits_from f.order comp x)
  some_number n k zero e r_low low apart =
      let two = bounds.order_low in
      let i = f.order - 1 - k in
      let below : i < f.order = omega arith in
      let is : n ≡ right_column f.order i = omega arith in (
        i,
        inr (inr (λ none. apart
            (ap x is ∙ ap (λ j. x (right_column f.order j)) (sym (mod-eq_of_lt below)) ∙ none))),
      )
  some_number n k (suc zero) e r_low low apart =
      let i = f.order - 2 - k in
      let below : suc i < f.order = omega arith in
      let is : n ≡ value_column f.order (suc i) = omega arith in (
        suc i,
        inr (inl (λ none. apart
            (ap x is ∙ ap (value_from f.order x) (sym (mod-eq_of_lt below)) ∙ none))),
      )
  some_number n k (suc (suc r)) e r_low low apart = absurd (omega arith)

  -- at the column of a slope
  some_slope : (i m : ℕ) → i < f.order → comp i ≡ m → x (slope_column f.order m) ≢ pos 0 →
      HasSome (limits_from f.order comp x)
  some_slope i m low e apart = elim (same_or_apart_z (x (right_column f.order i)) (pos 0)) [
    | inl flat ↦
        let before = before_next f.order i low in (
          i + 1,
          inl (λ none.
              let sum : x (right_column f.order i) +ℤ x (slope_column f.order (comp i)) ≡ pos 0 =
              sym (ap (λ j. x (right_column f.order j) +ℤ x (slope_column f.order (comp j))) before)
              ∙ none in
              let slope : x (slope_column f.order (comp i)) ≡ pos 0 =
              omega (arith, ints, flat, sum) in
              apart (ap (λ c. x (slope_column f.order c)) (sym e) ∙ slope)),
        )
    | inr right ↦ (
      i,
      inr (inr (λ none. right (ap (λ j. x (right_column f.order j)) (sym (mod-eq_of_lt low))
          ∙ none))),
    )
  ]

  some_limit : (n : ℕ) → n < columns_for f.order cover.count → x n ≢ pos 0 →
      HasSome (limits_from f.order comp x)
  some_limit n low apart = elim (cases_lt n (2 * f.order - 1)) [
    | inl number ↦
        let parts = div-add-mod' n 2 in
        some_number n (n / 2) (n % 2) (omega (arith, parts)) (mod-lt n (omega arith)) number apart
    | inr slope ↦
        let m = n - (2 * f.order - 1) in
        let is : n ≡ slope_column f.order m = omega arith in
        let found = has_interval f.order (IsTightAt f) cover component covered.is_cover
        covered.numbers m (omega arith) in
        some_slope found.0 m found.1 found.2 (λ none. apart (ap x is ∙ none))
  ]

-- ---- the kernel

-- what the numbers of the kernel are
pub record SolvesKernel (f : FunctionData) (cover : Cover) (component : List ℕ) (s : Solution) :
    Type 0 where
  pub columns : length s.numbers ≡ columns_of f cover
  pub perturbation : IsLimitPerturbation f 1 (kernel_limits f component s)
  pub some : HasSome (kernel_limits f component s)

pub kernel_perturbs : (f : FunctionData) (cover : Cover) (component : List ℕ) (s : Solution) →
    IsWithinBounds f →
    AreAllCovered f cover component →
    kernel (columns_of f cover) (limit_elimination f component (columns_of f cover)).kept
    ≡ Some s →
    SolvesKernel f cover component s
kernel_perturbs f cover component s bounds covered e =
    let n = columns_of f cover in
    let comp = component_in component in
    let rows = system_rows f comp n in
    let kept = (limit_elimination f component n).kept in
    let two : 2 ≤ f.order = bounds.order_low in
    let order_some : 0 < f.order = omega arith in
    let few = component_low f.order (IsTightAt f) cover component covered.is_cover
    covered.numbers in
    let has = elimination_has whole_sound n rows (system_columns f comp n) in
    let columns = of_some (kernel n kept) s (λ t. length t.numbers ≡ n) e (kernel_columns n kept) in
    let solves = of_some (kernel n kept) s (λ t. SolvesKept t.numbers kept) e
    (kernel_solves n kept has.triangular) in
    let positive = of_some (kernel n kept) s (λ t. Any (λ x. pos 0 <ℤ x) t.numbers) e
    (kernel_positive n kept has.triangular) in
    let products = all_made_of (Solves s.numbers) (named_row f comp n) (limit_rows f)
    ((has.same s.numbers).before (tt, columns) solves).1 in
    let solved : SolveLimitRows f comp (at_column s.numbers) =
    λ k d low. sym (named_products f comp cover.count order_some few
    (get_or (limit_rows f) k d) s.numbers columns) ∙ products k d low in
    let column = positive_column s.numbers positive in
    record {
      columns = columns;
      perturbation = solution_is_perturbation f (kernel_limits f component s)
          (limits_solve f bounds comp (at_column s.numbers) solved);
      some = some_limit f cover component bounds covered (at_column s.numbers) column.0
          (subst (λ (k : ℕ). column.0 < k) columns column.1)
          (λ none. let here = column.2 in omega (arith, ints));
    }
