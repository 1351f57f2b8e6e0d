use Rattle.std.proofs.Common.{rules, ◌≡◌, true, neg_ℤ, ◌<ℤ◌, [], ◌∷◌, ◌++◌, ap, sym, subst, ◌∙◌, append_assoc}
use Rattle.std.specs.List.{AllZip}
use Rattle.gj_frac.specs.declared.Frac.{Frac}
use Rattle.gj_shape.specs.TwoSlopes.{rise}
use Rattle.gj_fill.specs.FillPoints.{IsPairOf, value_point}
use Rattle.gj_fill.proofs.FillPairs.{points_crossing, points_single}
use Rattle.gj_fill.proofs.fill_in.push_points.Goals as goal

pub returns-in_ok-push-2 : goal.returns-in_ok-push-2
returns-in_ok-push-2 c =
    let f = c.args.shape.now in
    let s = c.args.steps.rise in
    let t = c.args.steps.fall in
    let a = c.args.a in
    let value : Frac × Frac = (c.ratio-x.result, c.value.result) in
    let pair : IsPairOf (value_point f c.args.a) value = search rules in
    let crossing = c.crossing_pair.result in
    let tests = c.crosses.ensures.0 c.if-crosses.true in (
      value ∷ crossing ∷ [],
      subst (λ ps. AllZip IsPairOf ps (value ∷ crossing ∷ []))
          (sym (points_crossing f s t a tests.0 tests.1))
          (pair, (c.crossing_pair.ensures, tt)),
      c.in_ok-push-2.ensures.items ∙ ap (λ bs. bs ++ crossing ∷ []) c.in_ok-push.ensures.items
          ∙ append_assoc c.args.points.now.items (value ∷ []) (crossing ∷ []),
    )

pub returns-else-crosses : goal.returns-else-crosses
returns-else-crosses c =
    let f = c.args.shape.now in
    let s = c.args.steps.rise in
    let t = c.args.steps.fall in
    let value : Frac × Frac = (c.ratio-x.result, c.value.result) in
    let pair : IsPairOf (value_point f c.args.a) value = search rules in
    let none : (neg_ℤ t <ℤ rise f c.args.a) × (rise f c.args.a <ℤ s) → ⊥ =
    λ tests. let is : c.crosses.result ≡ true = c.crosses.ensures.1 tests in
    cc (is, c.if-crosses.false) in (
      value ∷ [],
      subst (λ ps. AllZip IsPairOf ps (value ∷ [])) (sym (points_single f s t c.args.a none))
          (pair, tt),
      c.in_ok-push.ensures.items,
    )
