use Rattle.std.proofs.Common.{IfSome, IfNone, subst}
use Rattle.gj_check.specs.HalvesRules.{IsRefinement, HasRefinement}
use Rattle.gj_check.proofs.HalvesTests.{halves_scale_read}
use Rattle.gj_check.proofs.halves.refinement_of_halves.Goals as goal

pub returns : goal.returns
returns c =
    let f = c.args.shape.now in
    let h = c.args.halves.now in
    let r = c.refinement_of.result in
    let read = halves_scale_read h.scale c.requires.scale_low c.requires.scale_high in
    record {
      some = subst (λ s. IfSome r (IsRefinement f h.order s)) read c.refinement_of.ensures.some;
      none =
          subst (λ s. IfNone r (HasRefinement f h.order s → ⊥)) read c.refinement_of.ensures.none;
    }
