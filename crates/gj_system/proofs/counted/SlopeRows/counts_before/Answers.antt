use Rattle.std.proofs.Common.{◌≡◌, ◌+◌, ◌-◌, ◌*◌, take, drop, length, ap, ◌∙◌, arith}
use Rattle.gj_shape.specs.SlopeRows.{component_in}
use Rattle.gj_system.specs.Components.{rises_at}
use Rattle.gj_system.proofs.RowCounts.{point_within, point_in_list}
use Rattle.gj_system.proofs.counted.SlopeRows.counts_before.Goals as goal

pub overflow_mul-start : goal.overflow_mul-start
overflow_mul-start c =
    let s = c.self.inside in
    let same : length c.self.inside.component.items ≡ length c.args.self.now.component =
    ap (λ v. length v.component) c.self.view_is in
    let whole = point_within (component_in s.component.items) s.columns
    (length s.component.items) c.args.i s.counts.items
    c.self.invariant.counts (omega arith) in
    omega (arith, whole, c.self.inside.counts.ok.0, c.self.inside.counts.small)

pub overflow_add-result : goal.overflow_add-result
overflow_add-result c =
    let s = c.self.inside in
    let same : length c.self.inside.component.items ≡ length c.args.self.now.component =
    ap (λ v. length v.component) c.self.view_is in
    let whole = point_within (component_in s.component.items) s.columns
    (length s.component.items) c.args.i s.counts.items
    c.self.invariant.counts (omega arith) in
    omega (arith, whole, c.self.inside.counts.ok.0, c.self.inside.counts.small)

pub offset_bounds-deref-start : goal.offset_bounds-deref-start
offset_bounds-deref-start c =
    let s = c.self.inside in
    let same : length c.self.inside.component.items ≡ length c.args.self.now.component =
    ap (λ v. length v.component) c.self.view_is in
    let whole = point_within (component_in s.component.items) s.columns
    (length s.component.items) c.args.i s.counts.items
    c.self.invariant.counts (omega arith) in
    omega (arith, whole, c.self.inside.counts.ok.0, c.self.inside.counts.small)

pub slice_bounds-result-end : goal.slice_bounds-result-end
slice_bounds-result-end c =
    let s = c.self.inside in
    let same : length c.self.inside.component.items ≡ length c.args.self.now.component =
    ap (λ v. length v.component) c.self.view_is in
    let whole = point_within (component_in s.component.items) s.columns
    (length s.component.items) c.args.i s.counts.items
    c.self.invariant.counts (omega arith) in
    let len = ap length c.deref.ensures.value in
    omega (arith, whole, len)

pub returns : goal.returns
returns c =
    let s = c.self.inside in
    let i = c.args.i in
    let same : length c.self.inside.component.items ≡ length c.args.self.now.component =
    ap (λ v. length v.component) c.self.view_is in
    let rest : c.args.i * c.self.inside.columns + c.self.inside.columns - c.args.i
    * c.self.inside.columns ≡ c.self.inside.columns =
    omega arith in
    let m = i * s.columns + s.columns - i * s.columns in
    ap (λ xs. take m (drop (i * s.columns) xs)) c.deref.ensures.value
    ∙ point_in_list (component_in s.component.items) s.columns
    (length s.component.items) i m s.counts.items c.self.invariant.counts
    (omega arith) rest
    ∙ ap (λ v. rises_at (component_in v.component) v.columns i) c.self.view_is
