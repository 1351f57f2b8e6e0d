use Rattle.std.proofs.Common.{◌≡◌, ◌+◌, ◌%◌, length, ap, ◌∙◌, arith}
use Rattle.gj_shape.specs.SlopeRows.{component_in}
use Rattle.gj_system.specs.Components.{rises_at}
use Rattle.gj_system.proofs.RowCounts.{length-rises_at, AreCounts, same_rows}
use Rattle.gj_system.proofs.counted.SlopeRows.have_same_counts.Goals as goal

pub returns : goal.returns
returns c = λ place.
    let f = component_in c.args.self.now.component in
    let n = c.args.self.now.columns in
    let q = length c.args.self.now.component in
    let order : c.len-order.result ≡ length c.args.self.now.component =
    c.len-order.ensures ∙ c.self.inside.component.ok.0
    ∙ ap (λ v. length v.component) c.self.view_is in
    let one : AreCounts f n c.args.a c.args.b ((c.args.a + c.args.b) % q) c.counts_before.result.now
    c.counts_before-2.result.now
    c.counts_before-3.result.now = record {
      first_is = c.counts_before.ensures;
      second_is = c.counts_before-2.ensures;
      third_is = c.counts_before-3.ensures
          ∙ ap (rises_at f n) (c.sum_below-first_sum.ensures
          ∙ ap (λ m. (c.args.a + c.args.b) % m) order);
    } in
    let other : AreCounts f n c.args.c c.args.d
    ((c.args.c + c.args.d) % q) c.counts_before-4.result.now c.counts_before-5.result.now
    c.counts_before-6.result.now = record {
      first_is = c.counts_before-4.ensures;
      second_is = c.counts_before-5.ensures;
      third_is = c.counts_before-6.ensures
          ∙ ap (rises_at f n) (c.sum_below-second_sum.ensures
          ∙ ap (λ m. (c.args.c + c.args.d) % m) order);
    } in
    let len : length c.counts_before.result.now ≡ n = ap length c.counts_before.ensures
    ∙ length-rises_at f n c.args.a in
    let same = same_rows f n q place c.args.a c.args.b c.args.c c.args.d _ _ _ _ _ _ one other in (
      λ yes. same.0 (λ i below. c.are_same_slacks.ensures.0 yes i (omega arith)),
      λ are. c.are_same_slacks.ensures.1 (λ i below. same.1 are i (omega arith)),
    )
