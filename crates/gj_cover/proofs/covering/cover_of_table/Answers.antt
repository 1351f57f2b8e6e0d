use Rattle.std.proofs.Common.{sym, subst}
use Rattle.gj_shape.specs.Cover.{IsNextLine}
use Rattle.gj_cover.specs.Linking.{tight_linking}
use Rattle.gj_cover.specs.Progress.{progress_data}
use Rattle.gj_cover.proofs.Linked.{tight_linked}
use Rattle.gj_cover.proofs.Ends.{uncovered, ended, components, cover_lines}
use Rattle.gj_cover.specs.CoverOf.{IsCoverOf}
use Rattle.gj_cover.specs.Table.{IsTightInTable}
use Rattle.gj_cover.proofs.covering.cover_of_table.Goals as goal

pub least_class-requires : goal.least_class-requires
least_class-requires c =
    let t = c.args.table.now in
    let p = c.in_ok-found.found in
    let progress = c.in_ok-found.ensures.progress in
    uncovered (tight_linking t.order (IsTightInTable t)) (tight_linked t.order (IsTightInTable t))
    (IsNextLine t.order (IsTightInTable t)) (progress_data p) progress.kept
    (ended t.order (IsTightInTable t) p progress c.in_ok-found.ensures.complete)

pub returns : goal.returns
returns c =
    let t = c.args.table.now in
    let p = c.in_ok-found.found in
    let progress = c.in_ok-found.ensures.progress in
    let complete = c.in_ok-found.ensures.complete in
    subst (IsCoverOf t.order (IsTightInTable t)) (sym c.with_class.ensures) (record {
      lines = cover_lines t.order (IsTightInTable t) p progress complete;
      count = progress.kept.count;
      component = components t.order (IsTightInTable t) p progress complete;
      «class» = c.in_ok-class.ensures;
    })
