use Rattle.std.proofs.Common.{◌≡◌, None, replicate, refl, rules}
use Rattle.gj_cover.proofs.Pending.{begun}
use Rattle.gj_limit_cover.specs.LimitCover.{IsNextLine}
use Rattle.gj_limit_cover.specs.Linking.{limit_linking}
use Rattle.gj_limit_cover.specs.Progress.{progress_data}
use Rattle.gj_limit_cover.specs.declared.progress.Progress.{Progress}
use Rattle.gj_jumps.specs.LimitCover.{IsTightAt}
use Rattle.gj_limit_cover.proofs.progress.Progress.new.Goals as goal

pub returns : goal.returns
returns c =
    let none : c.in_ok-vec.field-0.items ≡ replicate c.order-order.result None = search rules in
    let p : Progress = record {
      component = c.in_ok-vec.field-0;
      free = c.below.result;
      near = c.empty.result;
      lines = c.new.result;
      count = 0;
    } in
    let t = c.args.shape.now in
    begun (limit_linking t.order (IsTightAt t)) (IsNextLine t.order (IsTightAt t))
    c.order-order.result (progress_data p) c.order-order.ensures.value
    none c.below.ensures c.empty.ensures c.new.ensures.items refl
