use Rattle.std.proofs.Common.{◌≡◌, ◌↔◌, ℕ, ◌<◌, Bool, true, List, get_or, length, ap, sym, subst, ◌∙◌, arith}
use Rattle.std.proofs.lemmas.List.{get_or_default}
use Rattle.gj_loops.specs.IndexSets.{has}
use Rattle.gj_loops.specs.declared.index_set.IndexSet.{IndexSet}
use Rattle.gj_jumps.specs.LimitCover.{IsTightAt}
use Rattle.gj_shape.specs.FunctionData.{FunctionData}
use Rattle.gj_limit_cover.specs.Links.{IsLink, AreLinkedRows}
use Rattle.gj_limit_cover.proofs.LinkedRows.{AreLinking, linking_none, linking_added, linking_skipped}
use Rattle.gj_limit_cover.proofs.table.Table.linking_below.Goals as goal

pub loop-j-init : goal.loop-j-init
loop-j-init c =
    let f = c.args.shape.now in
    linking_none f.order (IsTightAt f) c.args.i (has c.empty-set.result) c.empty-set.ensures

-- what the bit at j says
told : (f : FunctionData) (rows : List IndexSet) (row : IndexSet) (i j : ℕ) (is_linked : Bool) →
    AreLinkedRows f f.order rows → i < f.order → j < f.order →
    row ≡ get_or rows j row → is_linked ≡ has row i →
    (is_linked ≡ true) ↔ IsLink f.order (IsTightAt f) j i
told f rows row i j is_linked linked i_low j_low row_is bit =
    let count = linked.count in
    let within : j < length rows = omega (arith, count, j_low) in
    let here = row_is ∙ get_or_default _ _ _ _ within in
    let is = bit ∙ ap (λ (r : IndexSet). has r i) here in
    let at = linked.each j i j_low in (
      λ yes'. (at.0 (sym is ∙ yes')).1,
      λ l. is ∙ at.1 (i_low, l),
    )

pub loop-j-preserved-then-not-contains : goal.loop-j-preserved-then-not-contains
loop-j-preserved-then-not-contains c =
    let f = c.args.shape.now in
    let end = c.requires.end in
    let here = told f c.args.self.now.linked.items c.index.result.now c.args.i c.loop-j.j
    c.contains.result c.requires.table.linked c.requires.within
    (omega (arith, c.loop-j-test.true, end)) c.index.ensures c.contains.ensures in
    linking_skipped f.order (IsTightAt f) c.args.i c.loop-j.j (has c.loop-j.set)
    c.loop-j.invariant
    (λ l. let yes' = here.1 l in let no' = c.if-not-contains.true in absurd (cc (yes', no')))

pub loop-j-preserved : goal.loop-j-preserved
loop-j-preserved c =
    let f = c.args.shape.now in
    let end = c.requires.end in
    let here = told f c.args.self.now.linked.items c.index.result.now c.args.i c.loop-j.j
    c.contains.result c.requires.table.linked c.requires.within
    (omega (arith, c.loop-j-test.true, end)) c.index.ensures c.contains.ensures in
    linking_added f.order (IsTightAt f) c.args.i c.loop-j.j (has c.loop-j.set)
    (has c.insert.new.self) c.loop-j.invariant c.insert.ensures (here.0 c.if-not-contains.false)

pub returns : goal.returns
returns c =
    let f = c.args.shape.now in
    let all : c.loop-j.j ≡ c.args.end = omega arith in
    subst (λ n. AreLinking f.order (IsTightAt f) c.args.i n (has c.loop-j.set)) all
    c.loop-j.invariant
