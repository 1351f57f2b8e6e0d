use Rattle.std.proofs.Common.{◌≡◌, ℤ, pos, ap, subst, ◌∙◌, rules}
use Rattle.std.proofs.lemmas.Int.{to_z-of_z}
use Rattle.std.proofs.lemmas.Option.{MatchOption-at_some}
use Rattle.std.proofs.lemmas.Result.{IfOk-weaker, on_err_weaker, on_ok_weaker}
use Rattle.gj_frac.specs.Fraction.{IsRatio, SameValue, fraction_of, product_of}
use Rattle.gj_fields.specs.Rational.{whole, rational, ◌*ℚ◌}
use Rattle.gj_problem.proofs.AddedSums.{product_value, whole_ratio}
use Rattle.gj_problem.proofs.NarrowSums.{narrow_times}
use Rattle.gj_problem.proofs.rounding.scaled.Goals as goal
use mir.Syntax.{w128}

pub returns-clause-value : goal.returns-clause-value
returns-clause-value c =
    let n = c.in_ok-n.n in
    let x = c.args.x in
    let n_is : rational n ≡ whole (pos c.args.grid) =
    whole_ratio n (pos c.args.grid)
    (subst (λ (z : ℤ). IsRatio n z (pos 1)) (to_z-of_z w128 c.from.result (search rules)
    ∙ c.from.ensures) (MatchOption-at_some _ _ n c.in_ok-n.ensures.ok_part
    c.new.ensures.value)) in
    IfOk-weaker c.checked_mul.result
    (λ s. SameValue (fraction_of s) (product_of (fraction_of n) (fraction_of x)))
    (λ s. rational s ≡ whole (pos c.args.grid) *ℚ rational x)
    (λ s is. product_value n x s is ∙ ap (λ w. w *ℚ rational x) n_is) c.checked_mul.ensures.value

pub returns-clause-wide : goal.returns-clause-wide
returns-clause-wide c =
    let n = c.in_ok-n.n in
    let n_is : rational n ≡ whole (pos c.args.grid) =
    whole_ratio n (pos c.args.grid)
    (subst (λ (z : ℤ). IsRatio n z (pos 1)) (to_z-of_z w128 c.from.result (search rules)
    ∙ c.from.ensures) (MatchOption-at_some _ _ n c.in_ok-n.ensures.ok_part
    c.new.ensures.value)) in
    on_err_weaker c.checked_mul.result (λ wide. (n, n_is, wide)) c.checked_mul.ensures.wide

pub returns-clause-narrow : goal.returns-clause-narrow
returns-clause-narrow c =
    let n = c.in_ok-n.n in
    let n_is : rational n ≡ whole (pos c.args.grid) =
    whole_ratio n (pos c.args.grid)
    (subst (λ (z : ℤ). IsRatio n z (pos 1)) (to_z-of_z w128 c.from.result (search rules)
    ∙ c.from.ensures) (MatchOption-at_some _ _ n c.in_ok-n.ensures.ok_part
    c.new.ensures.value)) in
    on_ok_weaker c.checked_mul.result (narrow_times c.args.grid n c.args.x n_is)
    c.checked_mul.ensures.fits
