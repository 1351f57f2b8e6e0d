use Rattle.std.proofs.Common.{refl, sym, ap, ◌∙◌, length}
use Rattle.std.proofs.lemmas.Result.{IfOk-weaker}
use Rattle.gj_shape.specs.Points.{lefts, values, rights}
use Rattle.gj_shape.proofs.GivenFractions.{given_as}
use Rattle.gj_shape.proofs.PointLists.{kept_lists, kept_length}
use Rattle.gj_shape.proofs.points.Points.shape.Goals as goal

pub over-requires-clause-lengths : goal.over-requires-clause-lengths
over-requires-clause-lengths c =
    rw (c.as_slice.ensures.value, c.as_slice-2.ensures.value, c.as_slice-3.ensures.value)
    (kept_length _ _ _ _ _ c.self.invariant (ap length c.self.view_is ∙ c.requires.count))

pub returns : goal.returns
returns c =
    let have = kept_lists _ _ _ _ c.self.invariant in
    IfOk-weaker c.over.result _ _
    (λ f h.
    given_as _ _ _ _ _ _ _ _ _ _ f refl refl (c.as_slice.ensures.value ∙ sym have.left_are
    ∙ ap lefts c.self.view_is)
    (c.as_slice-2.ensures.value ∙ sym have.value_are ∙ ap values c.self.view_is)
    (c.as_slice-3.ensures.value ∙ sym have.right_are ∙ ap rights c.self.view_is) h)
    c.over.ensures
