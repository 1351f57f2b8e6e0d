use Rattle.std.proofs.Common.{ap, ◌∙◌, ◌+◌}
use Rattle.gj_cut.specs.RowCuts.{IsTermOf}
use Rattle.gj_cut.proofs.RowTerms.{zip_next}
use Rattle.gj_cut.proofs.row_cuts.terms.Goals as goal

pub loop-entry-preserved : goal.loop-entry-preserved
loop-entry-preserved g c = record {
  count = c.push_reserved.ensures.len ∙ ap (λ n. n + 1) c.loop-entry.invariant.count;
  room = c.push_reserved.ensures.capacity ∙ c.loop-entry.invariant.room;
  terms =
      zip_next (IsTermOf g.E.Evaluator.answers c.args.rule.now) c.args.entries.now
      c.loop-entry.entry-index c.entry-item.result
      c.loop-entry.terms.items c.push_reserved.new.self.items c.term.result c.loop-entry-test.true
      c.entry-item.is
      c.push_reserved.ensures.items c.loop-entry.invariant.terms c.term.ensures;
}
