use Rattle.std.proofs.Common.{◌≡◌, ◌<◌, ◌+◌, ◌++◌, get_or, length, ap, ap₂, subst, ◌∙◌, arith}
use Rattle.std.proofs.lemmas.List.{get_or_default}
use Rattle.std.proofs.lemmas.List.Elements.{All-get_or}
use Rattle.std.specs.List.{flat_map, range_with_len}
use Rattle.gj_shape.specs.SlopeRows.{component_in}
use Rattle.gj_system.specs.Components.{rises_at}
use Rattle.gj_system.proofs.RowCounts.{no_counts, length-rises_at, one_count_more, first_point, one_point_more, count_at_most}
use Rattle.gj_system.proofs.counted.counts_of.Goals as goal

pub loop-c-init : goal.loop-c-init
loop-c-init c =
    let none = c.in_ok-count.ensures.items_if_clones_equal (λ y e. e)
    ∙ no_counts (component_in c.args.component.now) c.args.columns in (
      none,
      first_point (component_in c.args.component.now) c.args.columns
          c.extend_from_slice.new.self.items
          (c.in_ok-extend_from_slice.ensures.items
          ∙ ap₂ (λ xs ys. xs ++ ys) c.in_ok-counts.ensures.items (c.as_slice.ensures.value ∙ none)),
    )

pub index_mut-requires : goal.index_mut-requires
index_mut-requires c =
    let inside = All-get_or (λ x. x < c.args.columns) c.args.component.now c.loop-c.c-index 0
    (omega arith) c.requires.components in
    let len : length c.loop-c.count.items ≡ c.args.columns =
    ap length c.loop-c.invariant.0
    ∙ length-rises_at (component_in c.args.component.now) c.args.columns c.loop-c.c-index in
    omega (arith, c.loop-c.count.ok.0)

pub overflow_add-index_mut : goal.overflow_add-index_mut
overflow_add-index_mut c =
    let old = c.loop-c.count.items in
    let i = get_or c.args.component.now c.loop-c.c-index 0 in
    let inside = All-get_or (λ x. x < c.args.columns) c.args.component.now c.loop-c.c-index 0
    (omega arith) c.requires.components in
    let len : length c.loop-c.count.items ≡ c.args.columns =
    ap length c.loop-c.invariant.0
    ∙ length-rises_at (component_in c.args.component.now) c.args.columns c.loop-c.c-index in
    let most = count_at_most (component_in c.args.component.now) c.args.columns c.loop-c.c-index
    (get_or c.args.component.now c.loop-c.c-index 0) c.loop-c.count.items c.loop-c.invariant.0
    inside in
    let within : get_or c.args.component.now c.loop-c.c-index 0 < length c.loop-c.count.items =
    omega arith in
    let read : c.index_mut.result.now
    ≡ get_or c.loop-c.count.items (get_or c.args.component.now c.loop-c.c-index 0) 0 =
    c.index_mut.ensures.value ∙ get_or_default old i c.index_mut.result.now 0 within in
    omega arith

pub loop-c-preserved : goal.loop-c-preserved
loop-c-preserved c =
    let f = component_in c.args.component.now in
    let n = c.args.columns in
    let at = c.loop-c.c-index in
    let old = c.loop-c.count.items in
    let i = get_or c.args.component.now c.loop-c.c-index 0 in
    let inside = All-get_or (λ x. x < c.args.columns) c.args.component.now c.loop-c.c-index 0
    (omega arith) c.requires.components in
    let len : length c.loop-c.count.items ≡ c.args.columns =
    ap length c.loop-c.invariant.0 ∙ length-rises_at f n at in
    let within : get_or c.args.component.now c.loop-c.c-index 0 < length c.loop-c.count.items =
    omega arith in
    let read : c.index_mut.result.now
    ≡ get_or c.loop-c.count.items (get_or c.args.component.now c.loop-c.c-index 0) 0 =
    c.index_mut.ensures.value ∙ get_or_default old i c.index_mut.result.now 0 within in
    let more = one_count_more f n at (c.index_mut.result.now + 1) old c.loop-c.invariant.0 inside
    (ap (λ x. x + 1) read) in (
      more,
      one_point_more f n at c.loop-c.counts.items c.extend_from_slice-in-loop-c.new.self.items
          c.as_slice-in-loop-c.result.now
          c.loop-c.invariant.1 (c.as_slice-in-loop-c.ensures.value
          ∙ more) c.in_ok-extend_from_slice-2.ensures.items,
    )

pub returns : goal.returns
returns c =
    let all : c.loop-c.c-index ≡ length c.args.component.now =
    omega (arith, c.loop-c.auto.c-index-end, c.loop-c-test.false) in
    subst (λ k. c.loop-c.counts.items
    ≡ flat_map (rises_at (component_in c.args.component.now) c.args.columns)
    (range_with_len 0 (k + 1))) all
    c.loop-c.invariant.1
