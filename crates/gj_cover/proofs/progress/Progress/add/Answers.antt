use Rattle.std.proofs.Common.{◌+◌, Some, refl, arith}
use Rattle.std.specs.Vec.{with_item}
use Rattle.gj_cover.specs.Table.{IsTightInTable}
use Rattle.gj_cover.proofs.Advance.{joined_line, opened_line, fewer}
use Rattle.gj_cover.proofs.Linked.{tight_linked}
use Rattle.gj_cover.proofs.NextLines.{next_to}
use Rattle.gj_cover.specs.Linking.{tight_linking}
use Rattle.gj_cover.specs.Progress.{progress_data}
use Rattle.gj_shape.specs.Cover.{IsNextLine}
use Rattle.gj_cover.specs.declared.progress.Progress.{Progress}
use Rattle.gj_cover.proofs.progress.Progress.add.Goals as goal

pub returns-then-line-clause-progress : goal.returns-then-line-clause-progress
returns-then-line-clause-progress c =
    let q = c.args.table.now.order in
    let T = IsTightInTable c.args.table.now in
    let new : Progress = record {
      component = with_item c.args.self.now.component c.args.line.interval
          (Some c.unwrap_or-number.result);
      free = c.remove.new.self;
      near = c.or-self.result;
      lines = c.push.new.self;
      count = c.args.self.now.count;
      searched = c.args.self.now.searched;
    } in
    joined_line q T c.args.self.now new c.args.line c.unwrap_or-number.result c.index.result.now
    c.args.joined.now c.requires.progress c.requires.next
    (record {
      was = c.index.ensures;
      number = c.unwrap_or-number.ensures;
      lines = c.in_ok-push.ensures.items;
      component = refl;
      free = c.remove.ensures;
      near = c.or-self.ensures;
      told = λ k low other. (c.requires.joined k low other).0;
      whole = λ k low other _ _ at. (c.requires.joined k low other).1 at;
    })
    c.if-line.true refl refl

pub returns-then-line-clause-fewer : goal.returns-then-line-clause-fewer
returns-then-line-clause-fewer c =
    let q = c.args.table.now.order in
    let T = IsTightInTable c.args.table.now in
    let less = fewer (tight_linking q T) (tight_linked q T) (IsNextLine q T) (next_to q T)
    (progress_data c.args.self.now) c.args.line c.unwrap_or-number.result c.requires.progress.kept
    c.requires.next in
    omega (arith, less)

pub returns-clause-progress : goal.returns-clause-progress
returns-clause-progress c =
    let q = c.args.table.now.order in
    let T = IsTightInTable c.args.table.now in
    let new : Progress = record {
      component = with_item c.args.self.now.component c.args.line.interval
          (Some c.unwrap_or-number.result);
      free = c.remove.new.self;
      near = c.or-self.result;
      lines = c.push.new.self;
      count = c.args.self.now.count + 1;
      searched = c.args.line.interval;
    } in
    opened_line q T c.args.self.now new c.args.line c.unwrap_or-number.result c.index.result.now
    c.args.joined.now c.requires.progress c.requires.next
    (record {
      was = c.index.ensures;
      number = c.unwrap_or-number.ensures;
      lines = c.in_ok-push.ensures.items;
      component = refl;
      free = c.remove.ensures;
      near = c.or-self.ensures;
      told = λ k low other. (c.requires.joined k low other).0;
      whole = λ k low other _ _ at. (c.requires.joined k low other).1 at;
    })
    c.if-line.false refl refl

pub returns-clause-fewer : goal.returns-clause-fewer
returns-clause-fewer c =
    let q = c.args.table.now.order in
    let T = IsTightInTable c.args.table.now in
    let less = fewer (tight_linking q T) (tight_linked q T) (IsNextLine q T) (next_to q T)
    (progress_data c.args.self.now) c.args.line c.unwrap_or-number.result c.requires.progress.kept
    c.requires.next in
    omega (arith, less)
