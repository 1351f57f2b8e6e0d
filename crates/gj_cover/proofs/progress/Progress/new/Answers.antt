use Rattle.std.proofs.Common.{◌≡◌, None, replicate, refl, rules}
use Rattle.gj_cover.proofs.Pending.{begun, searched_none}
use Rattle.gj_cover.specs.declared.progress.Progress.{Progress}
use Rattle.gj_shape.specs.Cover.{IsNextLine}
use Rattle.gj_cover.specs.Linking.{tight_linking}
use Rattle.gj_cover.specs.Progress.{progress_data}
use Rattle.gj_cover.specs.Table.{IsTightInTable}
use Rattle.gj_cover.proofs.progress.Progress.new.Goals as goal

pub returns : goal.returns
returns c =
    let none : c.in_ok-vec.field-0.items ≡ replicate c.order-order.result None = search rules in
    let p : Progress = record {
      component = c.in_ok-vec.field-0;
      free = c.below.result;
      near = c.empty.result;
      lines = c.new.result;
      count = 0;
      searched = 0;
    } in
    let t = c.args.table.now in
    record {
      kept = begun (tight_linking t.order (IsTightInTable t))
          (IsNextLine t.order (IsTightInTable t))
          c.order-order.result (progress_data p) c.order-order.ensures.value
          none c.below.ensures c.empty.ensures c.new.ensures.items refl;
      searched = searched_none t.order (IsTightInTable t) p.component.items;
    }
