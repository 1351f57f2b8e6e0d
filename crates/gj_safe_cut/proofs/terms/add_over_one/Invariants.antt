use Rattle.std.proofs.Common.{take}
use Rattle.gj_safe_cut.specs.AddedTerms.{AddsTerms}
use Rattle.gj_safe_cut.proofs.terms.add_over_one.Given as goal

abbrev pub invariant-loop-piece : goal.invariant-loop-piece
invariant-loop-piece g l =
    AddsTerms (g.V.Values.has_value l.values) (g.V.Values.is_out l.values) l.slopes.up l.slopes.down
    (take l.piece-index l.pieces) l.initial.sum l.sum
