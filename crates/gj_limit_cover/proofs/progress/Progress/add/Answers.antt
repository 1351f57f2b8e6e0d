use Rattle.std.proofs.Common.{◌+◌, Some, refl, arith}
use Rattle.std.specs.Vec.{with_item}
use Rattle.gj_jumps.specs.LimitCover.{IsTightAt}
use Rattle.gj_limit_cover.specs.LimitCover.{IsNextLine}
use Rattle.gj_limit_cover.specs.Linking.{limit_linking}
use Rattle.gj_limit_cover.specs.Progress.{progress_data}
use Rattle.gj_limit_cover.proofs.Linked.{limit_linked}
use Rattle.gj_limit_cover.proofs.NextLines.{next_to}
use Rattle.gj_cover.proofs.Advance.{joined_on, opened_on, fewer}
use Rattle.gj_limit_cover.specs.declared.progress.Progress.{Progress}
use Rattle.gj_limit_cover.proofs.progress.Progress.add.Goals as goal

pub returns-then-line-clause-progress : goal.returns-then-line-clause-progress
returns-then-line-clause-progress c =
    let q = c.args.shape.now.order in
    let T = IsTightAt c.args.shape.now in
    let new : Progress = record {
      component = with_item c.args.self.now.component c.args.line.interval
          (Some c.unwrap_or-number.result);
      free = c.remove.new.self;
      near = c.or-self.result;
      lines = c.push.new.self;
      count = c.args.self.now.count;
    } in
    joined_on (limit_linking q T) (limit_linked q T) (IsNextLine q T) (next_to q T)
    (progress_data c.args.self.now) (progress_data new) c.args.line c.unwrap_or-number.result
    c.index.result.now c.args.joined.now c.requires.progress c.requires.next
    (record {
      was = c.index.ensures;
      number = c.unwrap_or-number.ensures;
      lines = c.in_ok-push.ensures.items;
      component = refl;
      free = c.remove.ensures;
      near = c.or-self.ensures;
      told = c.requires.joined.joined;
      whole = c.requires.joined.whole;
    })
    c.if-line.true refl

pub returns-then-line-clause-fewer : goal.returns-then-line-clause-fewer
returns-then-line-clause-fewer c =
    let q = c.args.shape.now.order in
    let T = IsTightAt c.args.shape.now in
    let less = fewer (limit_linking q T) (limit_linked q T) (IsNextLine q T) (next_to q T)
    (progress_data c.args.self.now) c.args.line c.unwrap_or-number.result c.requires.progress
    c.requires.next in
    omega (arith, less)

pub returns-clause-progress : goal.returns-clause-progress
returns-clause-progress c =
    let q = c.args.shape.now.order in
    let T = IsTightAt c.args.shape.now in
    let new : Progress = record {
      component = with_item c.args.self.now.component c.args.line.interval
          (Some c.unwrap_or-number.result);
      free = c.remove.new.self;
      near = c.or-self.result;
      lines = c.push.new.self;
      count = c.args.self.now.count + 1;
    } in
    opened_on (limit_linking q T) (limit_linked q T) (IsNextLine q T) (next_to q T)
    (progress_data c.args.self.now) (progress_data new) c.args.line c.unwrap_or-number.result
    c.index.result.now c.args.joined.now c.requires.progress c.requires.next
    (record {
      was = c.index.ensures;
      number = c.unwrap_or-number.ensures;
      lines = c.in_ok-push.ensures.items;
      component = refl;
      free = c.remove.ensures;
      near = c.or-self.ensures;
      told = c.requires.joined.joined;
      whole = c.requires.joined.whole;
    })
    c.if-line.false refl

pub returns-clause-fewer : goal.returns-clause-fewer
returns-clause-fewer c =
    let q = c.args.shape.now.order in
    let T = IsTightAt c.args.shape.now in
    let less = fewer (limit_linking q T) (limit_linked q T) (IsNextLine q T) (next_to q T)
    (progress_data c.args.self.now) c.args.line c.unwrap_or-number.result c.requires.progress
    c.requires.next in
    omega (arith, less)
