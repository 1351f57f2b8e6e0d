use Rattle.std.proofs.Common.{◌≡◌, length, take}
use Rattle.gj_safe_cut.specs.SafeCuts.{IsCoefficient}
use Rattle.gj_safe_cut.specs.AddedTerms.{HasOneValue, AreAdded, IsWideAdding, surplus_of_sum}
use Rattle.gj_safe_cut.proofs.terms.add_terms.Given as goal

abbrev pub invariant-loop-piece : goal.invariant-loop-piece
invariant-loop-piece g l = record {
  added : AreAdded (IsCoefficient (g.V.Values.has_value l.values) l.slopes.up l.slopes.down)
      (take l.piece-index l.pieces)
      (surplus_of_sum l.initial.sum) (surplus_of_sum l.sum);
  narrow : HasOneValue (g.V.Values.has_value l.values) →
      IsWideAdding (g.V.Values.has_value l.values) (g.V.Values.is_out l.values) l.slopes.up
      l.slopes.down (take l.piece-index l.pieces)
      (length l.initial.sum.coefficients.items) (surplus_of_sum l.initial.sum) → ⊥;
  count : length l.sum.coefficients.items ≡ length l.initial.sum.coefficients.items;
}
