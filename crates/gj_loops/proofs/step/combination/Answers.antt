use Rattle.std.proofs.Common.{◌≡◌, ℤ, pos, ◌*ℤ◌, ◌-ℤ◌, FitsSigned, to_z, of_z, sym, ap, subst, ◌∙◌, rules, arith}
use Rattle.std.specs.Prelude.{Result, Ok, Err}
use Rattle.std.specs.Result.{OkIff}
use Rattle.std.proofs.lemmas.Int.{ints, to_z-of_z}
use Rattle.std.proofs.lemmas.Result.{err_from_is_err_and}
use mir.Syntax.{w128}
use Rattle.gj_frac.specs.Fraction.{Fits}
use Rattle.gj_frac.specs.declared.checked.Wide.{Wide}
use Rattle.gj_frac.proofs.Refusals.{on_err}
use Rattle.gj_theory.specs.Fitting.{FitsCombined}
use Rattle.gj_theory.proofs.CombinedRows.{IsCombination, combination_of}
use Rattle.gj_loops.proofs.step.combination.Goals as goal

-- ---- where the kept row has 0

zero_from : (e : ℤ) → FitsSigned w128 e → of_z w128 e ≡ 0 → e ≡ pos 0
zero_from e fits h = sym (to_z-of_z w128 e fits) ∙ ap (to_z w128) h

no_product : (w e : ℤ) → e ≡ pos 0 → w *ℤ e ≡ pos 0
no_product w e h = ap (λ z. w *ℤ z) h ∙ omega (arith, ints)

none_fits : (z : ℤ) → z ≡ pos 0 → Fits z
none_fits z h = let some : Fits (pos 0) = omega arith in subst Fits (sym h) some

-- the product alone is the combination
product_alone : (u x w e : ℤ) (r : Result ℤ Wide) → e ≡ pos 0 → OkIff r (Fits (u *ℤ x)) (u *ℤ x) →
    IsCombination u x w e r
product_alone u x w e (Ok z) none h =
    let second = no_product w e none in
    let same : u *ℤ x ≡ u *ℤ x -ℤ w *ℤ e = omega (arith, ints) in record {
      value = h.1 ∙ same;
      fits = record {
        first = h.0;
        second = none_fits (w *ℤ e) second;
        difference =
            subst Fits same h.0;
      };
      wide = tt;
    }
product_alone u x w e (Err d) none h = record { value = tt; fits = tt; wide = λ all. h all.first }

nothing_left : (c : goal.Then-x-eq0) →
    IsCombination {E = Wide} c.args.u c.args.x c.args.w c.args.e (Ok (pos 0))
nothing_left c =
    let first = no_product c.args.u c.args.x (zero_from c.args.x c.ranges.x c.if-x-eq0.true) in
    product_alone c.args.u c.args.x c.args.w c.args.e (Ok (pos 0))
    (zero_from c.args.e c.ranges.e c.if-e-eq0.true)
    (none_fits (c.args.u *ℤ c.args.x) first, sym first)

pub returns-then-x-eq0-clause-value : goal.returns-then-x-eq0-clause-value
returns-then-x-eq0-clause-value c = (nothing_left c).value

pub returns-then-x-eq0-clause-fits : goal.returns-then-x-eq0-clause-fits
returns-then-x-eq0-clause-fits c = (nothing_left c).fits

first_alone : (c : goal.After-product) →
    IsCombination c.args.u c.args.x c.args.w c.args.e c.product.result
first_alone c =
    let u = to_z-of_z w128 c.args.u c.ranges.u in
    let x = to_z-of_z w128 c.args.x c.ranges.x in
    product_alone c.args.u c.args.x c.args.w c.args.e c.product.result
    (zero_from c.args.e c.ranges.e c.if-e-eq0.true)
    (simp (u, x) at c.product.ensures)

pub returns-then-e-eq0-clause-value : goal.returns-then-e-eq0-clause-value
returns-then-e-eq0-clause-value c = (first_alone c).value

pub returns-then-e-eq0-clause-fits : goal.returns-then-e-eq0-clause-fits
returns-then-e-eq0-clause-fits c = (first_alone c).fits

pub returns-then-e-eq0-clause-wide : goal.returns-then-e-eq0-clause-wide
returns-then-e-eq0-clause-wide c = (first_alone c).wide

-- ---- a product that passes 2^127 - 1

pub returns-in_err-first-clause-value : goal.returns-in_err-first-clause-value
returns-in_err-first-clause-value c =
    rw (err_from_is_err_and c.from_residual.result c.from_residual.ensures.1).1 tt

pub returns-in_err-first-clause-fits : goal.returns-in_err-first-clause-fits
returns-in_err-first-clause-fits c =
    rw (err_from_is_err_and c.from_residual.result c.from_residual.ensures.1).1 tt

pub returns-in_err-first-clause-wide : goal.returns-in_err-first-clause-wide
returns-in_err-first-clause-wide c =
    let u = to_z-of_z w128 c.args.u c.ranges.u in
    let x = to_z-of_z w128 c.args.x c.ranges.x in
    let wide = simp (u, x) at c.in_err-first.ensures in
    on_err c.from_residual.result (FitsCombined c.args.u c.args.x c.args.w c.args.e → ⊥)
    (λ all. wide all.first)

pub returns-in_err-second-clause-value : goal.returns-in_err-second-clause-value
returns-in_err-second-clause-value c =
    rw (err_from_is_err_and c.from_residual-in_err-second.result
    c.from_residual-in_err-second.ensures.1).1 tt

pub returns-in_err-second-clause-fits : goal.returns-in_err-second-clause-fits
returns-in_err-second-clause-fits c =
    rw (err_from_is_err_and c.from_residual-in_err-second.result
    c.from_residual-in_err-second.ensures.1).1 tt

pub returns-in_err-second-clause-wide : goal.returns-in_err-second-clause-wide
returns-in_err-second-clause-wide c =
    let w = to_z-of_z w128 c.args.w c.ranges.w in
    let e = to_z-of_z w128 c.args.e c.ranges.e in
    let wide = simp (w, e) at c.in_err-second.ensures in
    on_err c.from_residual-in_err-second.result (FitsCombined c.args.u c.args.x c.args.w c.args.e →
    ⊥) (λ all. wide all.second)

-- ---- the difference of two products

combined : (c : goal.After-checked_difference) →
    IsCombination c.args.u c.args.x c.args.w c.args.e c.checked_difference.result
combined c =
    let u = to_z-of_z w128 c.args.u c.ranges.u in
    let x = to_z-of_z w128 c.args.x c.ranges.x in
    let w = to_z-of_z w128 c.args.w c.ranges.w in
    let e = to_z-of_z w128 c.args.e c.ranges.e in
    let first = to_z-of_z w128 c.in_ok-first.first (search rules) in
    let second = to_z-of_z w128 c.in_ok-second.second (search rules) in
    combination_of c.args.u c.args.x c.args.w c.args.e c.in_ok-first.first c.in_ok-second.second
    c.checked_difference.result
    (simp (u, x) at c.in_ok-first.ensures.0) (simp (u, x) at c.in_ok-first.ensures.1)
    (simp (w, e) at c.in_ok-second.ensures.0) (simp (w, e) at c.in_ok-second.ensures.1)
    (simp (first, second) at c.checked_difference.ensures)

pub returns-clause-value : goal.returns-clause-value
returns-clause-value c = (combined c).value

pub returns-clause-fits : goal.returns-clause-fits
returns-clause-fits c = (combined c).fits

pub returns-clause-wide : goal.returns-clause-wide
returns-clause-wide c = (combined c).wide
