use Rattle.std.proofs.Common.{ℕ, ◌≡◌, ◌+◌, ℤ, List, ◌∷◌, Some, length, sym, ap, ap₂, subst, ◌∙◌, arith}
use Rattle.gj_shape.specs.FunctionData.{at}
use Rattle.gj_residue.specs.Source.{RowsToCome}
use Rattle.gj_group.specs.GroupRows.{entry_row, sum_row}
use Rattle.gj_group.specs.RowsToCome.{upcoming_rows, rows_from, pair_rows, IsNextPair}
use Rattle.gj_group.specs.declared.table_rows.Upcoming.TheVariants.{Start, Place, Pair}
use Rattle.gj_group.proofs.PairRows.{pairs_begin}
use Rattle.gj_group.proofs.table_rows.GroupRowsRowSource.next.Goals as goal

pub returns-in_ok-row-in-Start-clause-told : goal.returns-in_ok-row-in-Start-clause-told
returns-in_ok-row-in-Start-clause-told c =
    let t = at c.self.inside.values.items in
    let n = length c.self.inside.values.items in
    let k = c.self.inside.place in
    let whole : c.len-order.result ≡ length c.self.inside.values.items =
    omega (arith, c.len-order.ensures, c.self.inside.values.ok.0) in
    let left : c.args.self.now.left ≡ upcoming_rows t n k c.self.inside.upcoming =
    sym (ap (λ (r : RowsToCome). r.left) c.self.view_is) in
    let start : c.self.inside.upcoming ≡ Start = c.in-Start.is in
    left ∙ ap (upcoming_rows t n k) start
    ∙ ap (λ (row : List ℤ). row ∷ entry_row n k ∷ rows_from t n 1)
    (sym (c.in_ok-row-in-Start.ensures ∙ ap (λ (m : ℕ). entry_row m 0) whole))

pub returns-in_ok-row-in-Place-clause-told : goal.returns-in_ok-row-in-Place-clause-told
returns-in_ok-row-in-Place-clause-told c =
    let t = at c.self.inside.values.items in
    let n = length c.self.inside.values.items in
    let k = c.self.inside.place in
    let whole : c.len-order.result ≡ length c.self.inside.values.items =
    omega (arith, c.len-order.ensures, c.self.inside.values.ok.0) in
    let left : c.args.self.now.left ≡ upcoming_rows t n k c.self.inside.upcoming =
    sym (ap (λ (r : RowsToCome). r.left) c.self.view_is) in
    let place : c.self.inside.upcoming ≡ Place = c.in-Place.is in
    left ∙ ap (upcoming_rows t n k) place
    ∙ ap₂ (λ (row : List ℤ) (rows : List (List ℤ)). row ∷ rows)
    (sym (c.in_ok-row-in-Place.ensures ∙ ap (λ (m : ℕ). entry_row m k) whole))
    (pairs_begin t n 1 (omega arith))

pub returns-in_ok-row-in-Pair-clause-told : goal.returns-in_ok-row-in-Pair-clause-told
returns-in_ok-row-in-Pair-clause-told c =
    let t = at c.self.inside.values.items in
    let n = length c.self.inside.values.items in
    let whole : c.len-order.result ≡ length c.self.inside.values.items =
    omega (arith, c.len-order.ensures, c.self.inside.values.ok.0) in
    let left : c.args.self.now.left ≡ upcoming_rows t n c.self.inside.place c.self.inside.upcoming =
    sym (ap (λ (r : RowsToCome). r.left) c.self.view_is) in
    let pair : c.self.inside.upcoming ≡ Pair c.in-Pair.a c.in-Pair.from = c.in-Pair.is in
    let next : IsNextPair t n c.in-Pair.a c.in-Pair.from (Some (c.in-Some.a, c.in-Some.b)) =
    subst (λ (ys : List ℤ). IsNextPair (at ys) (length ys) c.in-Pair.a c.in-Pair.from
    (Some (c.in-Some.a, c.in-Some.b)))
    c.as_slice.ensures.value c.in-Some.ensures in
    left ∙ ap (upcoming_rows t n c.self.inside.place) pair ∙ next.3
    ∙ ap (λ (row : List ℤ). row ∷ pair_rows t n c.in-Some.a (c.in-Some.b + 1))
    (sym (c.in_ok-row-in-Pair.ensures ∙ ap (λ (m : ℕ). sum_row m c.in-Some.a c.in-Some.b) whole))

pub row_of_pair-requires : goal.row_of_pair-requires
row_of_pair-requires c =
    let t = at c.self.inside.values.items in
    let n = length c.self.inside.values.items in
    let whole : c.len-order.result ≡ length c.self.inside.values.items =
    omega (arith, c.len-order.ensures, c.self.inside.values.ok.0) in
    let next : IsNextPair t n c.in-Pair.a c.in-Pair.from (Some (c.in-Some.a, c.in-Some.b)) =
    subst (λ (ys : List ℤ). IsNextPair (at ys) (length ys) c.in-Pair.a c.in-Pair.from
    (Some (c.in-Some.a, c.in-Some.b)))
    c.as_slice.ensures.value c.in-Some.ensures in
    let few = c.self.invariant.few in
    record {
      some = next.0;
      ordered = next.1;
      within = omega (arith, next.2);
      short =
          omega (arith, few);
    }
