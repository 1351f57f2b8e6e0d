use Rattle.std.proofs.Common.{rules, ◌≡◌, ◌+◌, ℕ, ℤ, pos, get_or, slice_set, to_z, of_z, add-one, sym, subst, ap, ◌∙◌}
use Rattle.std.specs.List.{AllZip}
use Rattle.std.proofs.lemmas.Int.{to_z-of_z}
use Rattle.gj_frac.specs.declared.Frac.{Frac}
use Rattle.gj_frac.specs.Fraction.{IsRatio}
use Rattle.gj_problem.proofs.FractionsUpTo.{AreMadeUpTo, zero_over, none_made, next_made, next_zero, all_made}
use Rattle.gj_problem.proofs.combination.fractions.Goals as goal
use Rattle.gj_problem.proofs.combination.fractions.Goals.{then-numerator-ne0+in_ok-made-2, else-numerator-ne0}
use mir.Syntax.{w128}

pub loop-i-init : goal.loop-i-init
loop-i-init c =
    let d = to_z w128 (of_z w128 c.args.denominator) in
    let z = c.ratio.result in
    let ns = c.args.numerators.now in (
      z,
      zero_over z d c.ratio.ensures,
      subst (AreMadeUpTo d z 0 ns)
          (sym (c.in_ok-made.ensures.items_if_clones_equal (λ (y : Frac) h. h)))
          (none_made d z ns),
    )

pub loop-i-preserved : goal.loop-i-preserved
loop-i-preserved c =
    let d = to_z w128 (of_z w128 c.args.denominator) in
    let ns = c.args.numerators.now in
    let i = c.loop-i.i in
    let (z, zero_is, made) = c.loop-i.invariant in
    let read : to_z w128 (of_z w128 (get_or ns i (pos 0))) ≡ get_or ns i (pos 0) =
    to_z-of_z w128 (get_or ns i (pos 0)) (search rules) in
    elim c.if-numerator-ne0.branch [
      | then-numerator-ne0+in_ok-made-2 w ↦ (
        z,
        zero_is,
        subst (AreMadeUpTo d z (i + 1) ns) (sym (ap (λ v. v.items) w.made-is))
            (subst (λ (j : ℕ). AreMadeUpTo d z j ns
            (slice_set c.loop-i.made.items i w.in_ok-made-2.field-0)) (sym (add-one i))
            (next_made d z i ns c.loop-i.made.items (pos 0) w.in_ok-made-2.field-0 made
            c.loop-i-test.true
            (subst (λ (n : ℤ). IsRatio w.in_ok-made-2.field-0 n d) read w.in_ok-made-2.ensures))),
      )
      | else-numerator-ne0 w ↦ (
        z,
        zero_is,
        subst (AreMadeUpTo d z (i + 1) ns) (sym (ap (λ v. v.items) w.made-is))
            (subst (λ (j : ℕ). AreMadeUpTo d z j ns c.loop-i.made.items) (sym (add-one i))
            (next_zero d z i ns c.loop-i.made.items (pos 0) zero_is made c.loop-i-test.true
            (sym read ∙ ap (to_z w128) w.if-numerator-ne0.false))),
      )
    ]

pub returns : goal.returns
returns c =
    let (z, zero_is, made) = c.loop-i.invariant in
    subst (λ (d : ℤ). AllZip (λ (n : ℤ) (x : Frac). IsRatio x n d) c.args.numerators.now
    c.loop-i.made.items)
    (to_z-of_z w128 c.args.denominator c.ranges.denominator)
    (all_made (to_z w128 (of_z w128 c.args.denominator)) z c.loop-i.i c.args.numerators.now
    c.loop-i.made.items c.loop-i-test.false made)
