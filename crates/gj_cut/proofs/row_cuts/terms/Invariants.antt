use Rattle.std.proofs.Common.{◌≡◌, take, length}
use Rattle.std.specs.List.{AllZip}
use Rattle.std.specs.Vec.{vec_len, vec_capacity}
use Rattle.gj_cut.specs.RowCuts.{IsTermOf}
use Rattle.gj_cut.proofs.row_cuts.terms.Given as goal

abbrev pub invariant-loop-entry : goal.invariant-loop-entry
invariant-loop-entry g l = record {
  count : vec_len l.terms ≡ l.entry-index;
  room : vec_capacity l.terms ≡ length l.entries;
  terms : AllZip (IsTermOf g.E.Evaluator.answers l.rule)
      (take l.entry-index l.entries) l.terms.items;
}
