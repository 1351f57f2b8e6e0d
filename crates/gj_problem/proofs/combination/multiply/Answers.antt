use Rattle.std.proofs.Common.{rules, ◌≡◌, ◌*ℤ◌, ◌<◌, ◌≤◌, ◌+◌, ℕ, ℤ, List, length, pos, get_or, to_z, of_z, add-one, arith, refl, sym, ap, subst, ◌∙◌, slice_set}
use Rattle.std.specs.List.{AllZip}
use Rattle.std.proofs.lemmas.Int.{to_z-of_z}
use Rattle.gj_frac.specs.Fraction.{Fits}
use Rattle.gj_problem.specs.OneDenominator.{IsTimes}
use Rattle.gj_problem.proofs.DoneUpTo.{AreDoneUpTo, next_same, next_done, next_kept, all_done}
use Rattle.gj_problem.proofs.combination.multiply.Goals as goal
use Rattle.gj_problem.proofs.combination.multiply.Goals.{then-index-ne0+in_ok-product, else-index-ne0}
use lib.IntN.{zero-*ℤ}
use mir.Syntax.{w128}

pub loop-i-init : goal.loop-i-init
loop-i-init c = refl

pub loop-i-preserved : goal.loop-i-preserved
loop-i-preserved c =
    let k = to_z w128 (of_z w128 c.args.factor) in
    let i = c.loop-i.i in
    let ns = c.args.numbers.now.items in
    let ms = c.loop-i.numbers.items in
    let below : i < length ns =
    subst (λ (n : ℕ). i < n) (c.len-i-end.ensures ∙ c.args.numbers.now.ok.0)
    c.loop-i-test.true in
    let old = c.index.result.now in
    let old_is : old ≡ get_or ns i (pos 0) =
    c.index.ensures ∙ next_same (IsTimes k) i ns ms old (pos 0) c.loop-i.invariant below in
    let read : to_z w128 (of_z w128 old) ≡ old = to_z-of_z w128 old (search rules) in
    elim c.if-index-ne0.branch [
      | then-index-ne0+in_ok-product w ↦
          let v = to_z w128 (of_z w128 w.in_ok-product.product) in
          let now = w.index-then-index-ne0.result.now in
          let now_is : to_z w128 (of_z w128 now) ≡ get_or ns i (pos 0) =
          to_z-of_z w128 now (search rules) ∙ w.index-then-index-ne0.ensures
          ∙ next_same (IsTimes k) i ns ms now (pos 0) c.loop-i.invariant below in
          let v_is = to_z-of_z w128 w.in_ok-product.product (search rules)
          ∙ w.in_ok-product.ensures.1 in
          subst (λ (l : List ℤ). AreDoneUpTo (IsTimes k) (i + 1) ns l)
          (sym (ap (λ v. v.items) w.numbers-is))
          (subst (λ (j : ℕ). AreDoneUpTo (IsTimes k) j ns (slice_set ms i v)) (sym (add-one i))
          (next_done (IsTimes k) i ns ms (pos 0) v c.loop-i.invariant below
          (record {
            is = v_is ∙ ap (λ z. z *ℤ k) now_is;
            fits = subst Fits (sym v_is) w.in_ok-product.ensures.0;
          })))
      | else-index-ne0 w ↦
          let none : get_or ns i (pos 0) ≡ pos 0 =
          sym old_is ∙ sym read ∙ ap (to_z w128) w.if-index-ne0.false in
          subst (λ (l : List ℤ). AreDoneUpTo (IsTimes k) (i + 1) ns l)
          (sym (ap (λ v. v.items) w.numbers-is))
          (subst (λ (j : ℕ). AreDoneUpTo (IsTimes k) j ns ms) (sym (add-one i))
          (next_kept (IsTimes k) i ns ms (pos 0) c.loop-i.invariant below
          (subst (λ (n : ℤ). IsTimes k n n) (sym none)
          (record { is = sym (zero-*ℤ k); fits = omega arith }))))
    ]

pub returns : goal.returns
returns c =
    let ns = c.args.numbers.now.items in
    let i = c.loop-i.i in
    let end : length ns ≤ i =
    subst (λ (n : ℕ). n ≤ i) (c.len-i-end.ensures ∙ c.args.numbers.now.ok.0)
    c.loop-i-test.false in
    subst (λ (k : ℤ). AllZip (IsTimes k) ns c.loop-i.numbers.items)
    (to_z-of_z w128 c.args.factor c.ranges.factor)
    (all_done (IsTimes (to_z w128 (of_z w128 c.args.factor))) i ns c.loop-i.numbers.items end
    c.loop-i.invariant)
