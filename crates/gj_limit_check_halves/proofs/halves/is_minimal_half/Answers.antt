use Rattle.std.proofs.Common.{◌*◌, to_z, of_z, refl, ap}
use mir.Syntax.{w128}
use Rattle.gj_check_minimal.proofs.TestsInTurn.{in_other_words}
use Rattle.gj_limit_check_halves.specs.declared.half.Half.{Half}
use Rattle.gj_check.proofs.HalvesTests.{halves_scale_read}
use Rattle.gj_limit_check_halves.proofs.Refinements.{IsMadeOf, half_made, half_by}
use Rattle.gj_limit_check_halves.proofs.halves.is_minimal_half.Goals as goal
use Rattle.gj_limit_check_halves.proofs.halves.is_minimal_half.Goals.{After-as_slice-3}

-- the half that the code makes
abbrev half : After-as_slice-3 → Half
half c = record {
  order = c.args.halves.now.order;
  place = c.place.result * c.args.refinement.times;
  scale = to_z w128 (of_z w128 c.args.halves.now.scale);
  left = c.as_slice.result;
  value = c.as_slice-2.result;
  right = c.as_slice-3.result;
}

made : (c : After-as_slice-3) →
    IsMadeOf c.args.shape.now c.args.halves.now c.args.refinement c.args.numbers.now (half c)
made c = record {
  order = refl;
  place = ap (λ p. p * c.args.refinement.times) c.place.ensures.value;
  scale = halves_scale_read c.args.halves.now.scale c.requires.halves.scale_low
      c.requires.halves.scale_high;
  left = c.as_slice.ensures;
  value = c.as_slice-2.ensures;
  right = c.as_slice-3.ensures;
}

pub is_minimal-requires : goal.is_minimal-requires
is_minimal-requires c =
    let d = (goal.at.is_minimal-requires c).After-as_slice-3 in
    half_made c.args.shape.now c.args.halves.now c.args.refinement c.args.numbers.now
    (half d) c.place.ensures.limits c.requires.halves
    c.requires.refinement c.requires.numbers (made d)

pub returns : goal.returns
returns c =
    let d = (goal.at.returns c).After-as_slice-3 in
    in_other_words _ _ _ c.is_minimal.ensures
    (half_by c.args.shape.now c.args.halves.now c.args.refinement c.args.numbers.now
    (half d) c.place.ensures.limits
    c.requires.refinement (made d))
