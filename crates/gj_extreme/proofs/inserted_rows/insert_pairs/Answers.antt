use Rattle.std.proofs.Common.{◌≡◌, ℕ, List, ◌+◌, ◌-◌, ◌++◌, length, sym, ap, subst, subst₂, ◌∙◌, arith}
use Rattle.gj_shape.specs.SlopeRows.{component_in, row_of}
use Rattle.gj_shape.specs.declared.extremality.RowName.TheVariants.{Pair}
use Rattle.gj_elim.proofs.Keeping.{same_error}
use Rattle.gj_extreme.specs.PairsLeft.{AreIntervalsOf}
use Rattle.gj_extreme.specs.RowsToCome.{AreToCome, pairs_from, row_names_from}
use Rattle.gj_extreme.proofs.RowOrder.{next_rows}
use Rattle.gj_extreme.proofs.LeftPairs.{found_below, found_tight, found_next, found_none, next_is_known}
use Rattle.gj_extreme.proofs.TakenRows.{rows_are_ready}
use Rattle.gj_extreme.proofs.inserted_rows.insert_pairs.Goals as goal

pub pairs_left-left-requires-clause-order : goal.pairs_left-left-requires-clause-order
pairs_left-left-requires-clause-order c = c.requires.order ∙ sym c.requires.pairs.order

pub pairs_left-left-requires-clause-intervals : goal.pairs_left-left-requires-clause-intervals
pairs_left-left-requires-clause-intervals c =
    subst (λ q. AreIntervalsOf (component_in c.args.system.now.component) q c.args.intervals.now)
    (sym c.requires.pairs.order) c.requires.intervals

pub pairs-init : goal.pairs-init
pairs-init c = (
  omega arith,
  omega (arith, c.requires.below),
  subst (AreToCome c.args.shape.now (component_in c.args.system.now.component)
      c.args.system.now.columns c.args.rows.now)
      (next_rows c.args.shape.now c.args.a c.requires.below) c.requires.to_come,
  c.requires.seen,
)

pub contains-requires : goal.contains-requires
contains-requires c = let high = c.in-Some.ensures.within in omega arith

pub has_row_of_pair_before-requires-clause-second :
    goal.has_row_of_pair_before-requires-clause-second
has_row_of_pair_before-requires-clause-second c =
    let below = found_below c.args.shape.now (component_in c.args.system.now.component)
    c.args.pairs.now c.args.a c.pairs.from c.in-Some.b
    c.pairs_left-left.result c.requires.pairs c.pairs_left-left.ensures c.in-Some.ensures in
    let same = ap length c.component-component.ensures ∙ c.requires.order in
    omega arith

pub insert_pair-requires-clause-name : goal.insert_pair-requires-clause-name
insert_pair-requires-clause-name c = (
  c.requires.below,
  found_below c.args.shape.now (component_in c.args.system.now.component) c.args.pairs.now c.args.a
      c.pairs.from c.in-Some.b
      c.pairs_left-left.result c.requires.pairs c.pairs_left-left.ensures c.in-Some.ensures,
)

pub insert_pair-requires-clause-ready : goal.insert_pair-requires-clause-ready
insert_pair-requires-clause-ready c =
    rows_are_ready c.args.shape.now (component_in c.args.system.now.component)
    c.args.system.now.columns c.pairs.rows _
    c.requires.limits c.pairs.invariant.2

pub returns-in_err-insert_pair-clause-wide : goal.returns-in_err-insert_pair-clause-wide
returns-in_err-insert_pair-clause-wide c = λ e.
    c.in_err-insert_pair.ensures.wide
    (same_error c.from_residual.result c.in_err-insert_pair.field-0.0 _ c.from_residual.ensures.0
    c.from_residual.ensures.1 e)
    (pairs_from c.args.shape.now c.args.a (c.in-Some.b + 1) ++ row_names_from c.args.shape.now
    (c.args.a + 1))
    (found_next c.args.shape.now (component_in c.args.system.now.component)
    c.args.system.now.columns c.args.pairs.now c.args.a c.pairs.from
    c.in-Some.b c.pairs_left-left.result c.pairs.rows c.requires.pairs c.pairs_left-left.ensures
    c.pairs.invariant.0 c.in-Some.ensures
    c.pairs.invariant.2)

pub pairs-smaller : goal.pairs-smaller
pairs-smaller c =
    let low = c.in-Some.ensures.behind in
    let high = c.in-Some.ensures.within in
    omega arith

pub pairs-preserved : goal.pairs-preserved
pairs-preserved c =
    let f = c.args.shape.now in
    let comp = component_in c.args.system.now.component in
    let left = c.pairs_left-left.result in
    let a = c.args.a in
    let b = c.in-Some.b in
    let below = found_below f comp c.args.pairs.now a c.pairs.from b left c.requires.pairs
    c.pairs_left-left.ensures c.in-Some.ensures in
    let behind = c.in-Some.ensures.behind in
    let low = c.pairs.invariant.0 in (
      omega arith,
      omega arith,
      c.in_ok-insert_pair.ensures.to_come
          (pairs_from f a (c.in-Some.b + 1) ++ row_names_from f (c.args.a + 1))
          (found_next f comp c.args.system.now.columns c.args.pairs.now a c.pairs.from b left
          c.pairs.rows c.requires.pairs
          c.pairs_left-left.ensures low c.in-Some.ensures c.pairs.invariant.2),
      c.in_ok-insert_pair.ensures.seen,
    )

pub pairs-preserved-then-has_row_of_pair_before : goal.pairs-preserved-then-has_row_of_pair_before
pairs-preserved-then-has_row_of_pair_before c =
    let f = c.args.shape.now in
    let comp = component_in c.args.system.now.component in
    let n = c.args.system.now.columns in
    let left = c.pairs_left-left.result in
    let a = c.args.a in
    let b = c.in-Some.b in
    let p = c.requires.pairs in
    let l = c.pairs_left-left.ensures in
    let first = c.in-Some.ensures in
    let below = found_below f comp c.args.pairs.now a c.pairs.from b left p l first in
    let behind = first.behind in
    let low = c.pairs.invariant.0 in
    let less = c.if-b-first.true in
    let same = subst₂ (λ (xs : List ℕ) (q : ℕ).
    row_of (component_in xs) n q f.place (Pair a (c.in-Some.b - 1))
    ≡ row_of (component_in xs) n q f.place (Pair a b))
    c.component-component.ensures (ap length c.component-component.ensures ∙ c.requires.order)
    (c.has_row_of_pair_before.ensures c.if-has_row_of_pair_before.true n f.place) in
    let before = (c.row-row.ensures.tells (c.in-Some.b - 1) (omega (arith, below, p.order))).0
    (sym c.contains.ensures ∙ c.if-contains.true) in (
      omega arith,
      omega arith,
      next_is_known f comp n c.args.pairs.now a b c.pairs.rows p c.requires.some less below
          (found_tight f comp c.args.pairs.now a c.pairs.from b left p l first) before same
          (found_next f comp n c.args.pairs.now a c.pairs.from b left c.pairs.rows p l low first
          c.pairs.invariant.2),
      c.pairs.invariant.3,
    )

pub returns-clause-to_come : goal.returns-clause-to_come
returns-clause-to_come c =
    found_none c.args.shape.now (component_in c.args.system.now.component) c.args.system.now.columns
    c.args.pairs.now c.args.a c.pairs.from
    c.pairs_left-left.result c.pairs.rows c.requires.pairs c.pairs_left-left.ensures
    c.pairs.invariant.0 c.pairs.invariant.1
    c.in_default.ensures c.pairs.invariant.2
