use Rattle.std.proofs.Common.{◌≡◌, ℕ, ◌+◌, ◌≤◌, ℤ, ◌+ℤ◌, ◌-ℤ◌, neg_ℤ, rules, pos, w64, to_z, of_z, sym, ap, ap₂, subst, ◌∙◌, arith, FitsSigned}
use Rattle.std.proofs.lemmas.Int.{ints, to_z-of_z, fits_signed_from_abs}
use Rattle.gj_family.specs.Signs.{sum_of_steps}
use Rattle.gj_shape.proofs.ListEntries.{entries_pushed}
use Rattle.gj_family.proofs.Heights.{sum_rise, sum_fall, sum_small}
use Rattle.gj_family.proofs.slopes.sums_of_steps.Goals as goal
use Rattle.gj_family.proofs.slopes.sums_of_steps.Goals.{then-sign, else-sign}

turned : (x : ℤ) (n : ℕ) → x ≡ pos n → n ≤ 1000 →
    to_z w64 (of_z w64 (pos 0 -ℤ to_z w64 (of_z w64 x))) ≡ neg_ℤ (pos n)
turned x n e small = ap (λ z. to_z w64 (of_z w64 (pos 0 -ℤ to_z w64 (of_z w64 z)))) e
    ∙ omega (arith, ints)

-- the next sum is one step from the last
next : (c : goal.Joined-sign) →
    to_z w64 c.loop-sign.sum-bits +ℤ to_z w64 c.if-sign.step-bits
    ≡ sum_of_steps c.args.up c.args.down c.args.signs.now (c.loop-sign.sign-index + 1)
next c =
    let signs = c.args.signs.now in
    let i = c.loop-sign.sign-index in
    elim c.if-sign.branch [
      | then-sign w ↦
          ap₂ (λ x y. x +ℤ y) c.loop-sign.invariant.sum_is
          (w.step-is ∙ to_z-of_z w64 _ (search rules) ∙ w.from-step.ensures)
          ∙ sym (sum_rise c.args.up c.args.down signs i _ c.loop-sign-test.true w.if-sign.true)
      | else-sign w ↦
          ap₂ (λ x y. x +ℤ y) c.loop-sign.invariant.sum_is
          (w.step-is ∙ turned _ c.args.down w.from.ensures c.requires.down_small)
          ∙ sym (sum_fall c.args.up c.args.down signs i _ c.loop-sign-test.true w.if-sign.false)
    ]

fits : (c : goal.Joined-sign) →
    FitsSigned w64 (sum_of_steps c.args.up c.args.down c.args.signs.now
    (c.loop-sign.sign-index + 1))
fits c =
    let small = sum_small c.args.up c.args.down c.args.signs.now (c.loop-sign.sign-index + 1)
    c.requires.up_small c.requires.down_small c.requires.few in
    fits_signed_from_abs w64 _ (omega arith)

pub overflow_add-sum : goal.overflow_add-sum
overflow_add-sum c = subst (FitsSigned w64) (sym (next c)) (fits c)

pub loop-sign-preserved : goal.loop-sign-preserved
loop-sign-preserved c = record {
  entries = entries_pushed _ _ _ _ _ c.loop-sign.invariant.entries c.in_ok-push.ensures.items
      c.loop-sign.invariant.sum_is;
  sum_is = ap (λ z. to_z w64 (of_z w64 z)) (next c) ∙ to_z-of_z w64 _ (fits c);
}
