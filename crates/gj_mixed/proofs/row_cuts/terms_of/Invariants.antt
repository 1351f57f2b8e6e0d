use Rattle.std.proofs.Common.{◌≡◌, ◌≤◌, take, length}
use Rattle.std.specs.List.{AllZip}
use Rattle.std.specs.Vec.{vec_len, vec_capacity}
use Rattle.gj_cut.specs.RowCuts.{IsTermOf}
use Rattle.gj_mixed.specs.MixedCuts.{IsWeightTermOf, whole_entries, continuous_entries}
use Rattle.gj_mixed.proofs.row_cuts.terms_of.Given as goal

abbrev pub invariant-loop-entry : goal.invariant-loop-entry
invariant-loop-entry g l = record {
  few : vec_len l.terms ≤ l.entry-index;
  room : vec_capacity l.terms ≡ length l.entries;
  terms : AllZip (IsTermOf g.E.Evaluator.answers l.rule)
      (whole_entries l.continuous (take l.entry-index l.entries)) l.terms.items;
  weights : AllZip (IsWeightTermOf g.G.Evaluator.answers l.slopes)
      (continuous_entries l.continuous (take l.entry-index l.entries)) l.weights.items;
}
