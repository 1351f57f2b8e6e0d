use Rattle.std.proofs.Common.{◌≡◌, ◌↔◌, ◌+◌, ◌%◌, ◌<◌, ◌≤◌, ℕ, true, ◌&&◌, ap, sym, ◌∙◌, arith}
use Rattle.std.specs.Prelude.{◌==◌, if◌then◌else◌}
use Rattle.std.proofs.Math.Nat.{mod-eq_of_lt}
use Rattle.std.proofs.lemmas.Bool.{and_left}
use Rattle.gj_loops.specs.IndexSets.{has}
use Rattle.gj_loops.specs.declared.index_set.IndexSet.{IndexSet}
use Rattle.gj_loops.proofs.Counts.{counted_at_most}
use Rattle.gj_shape.specs.Additive.{IsTight}
use Rattle.gj_faces.proofs.CountedTriangles.{counted_sets, lower_by_pairs, upper_by_pairs}
use Rattle.gj_faces.proofs.PairRows.{row_of_index, next_in_row}
use Rattle.gj_faces.proofs.triangles.count_in_row.Goals as goal

few_found : (c : goal.After-count-upper) → c.count-lower.result + c.count-upper.result ≤ 2048
few_found c =
    let lower = counted_at_most (has c.and.result) 1024 in
    let upper = counted_at_most (has c.and-2.result) 1024 in
    omega (arith, c.count-lower.ensures, c.count-upper.ensures)

pub overflow_add-result : goal.overflow_add-result
overflow_add-result c = let few = few_found c in record { fits = omega arith }

pub overflow_cast-result : goal.overflow_cast-result
overflow_cast-result c = let few = few_found c in record { fits = omega arith }

pub returns-clause-few : goal.returns-clause-few
returns-clause-few c = few_found c

pub returns-clause-count : goal.returns-clause-count
returns-clause-count c =
    let f = c.args.shape.now in
    let a = c.args.a in
    let limits = c.order-order.ensures.limits in
    let period = c.order-order.ensures.value in
    let order = c.requires.pairs.order in
    let middle = row_of_index f c.args.pairs.now a a c.row-middle.result.now limits c.requires.pairs
    (sym (mod-eq_of_lt c.requires.within))
    c.row-middle.ensures.tells in
    let east = row_of_index f c.args.pairs.now (a + 1) c.wrapped.result c.row-east.result.now limits
    c.requires.pairs
    (c.wrapped.ensures.value ∙ ap (λ q. (a + 1) % q) period) c.row-east.ensures.tells in
    let after : (b : ℕ) (row : IndexSet) →
    has row (if b + 1 == c.order-order.result then 0 else b + 1)
    ≡ has row (if b + 1 == f.order then 0 else b + 1) =
    λ b row. ap (λ q. has row (if b + 1 == q then 0 else b + 1)) period in
    let north : (b : ℕ) → b < c.args.shape.now.order → (has c.turned_down-north.result b ≡ true)
    ↔ IsTight c.args.shape.now c.args.a (b + 1) =
    λ b below. next_in_row f a b c.row-middle.result.now (has c.turned_down-north.result b) limits
    below middle
    (c.turned_down-north.ensures b ∙ after b c.row-middle.result.now) in
    let north_east : (b : ℕ) → b < c.args.shape.now.order →
    (has c.turned_down-north_east.result b ≡ true) ↔ IsTight c.args.shape.now (c.args.a + 1)
    (b + 1) =
    λ b below. next_in_row f (a + 1) b c.row-east.result.now (has c.turned_down-north_east.result b)
    limits below east
    (c.turned_down-north_east.ensures b ∙ after b c.row-east.result.now) in
    let lower : (b : ℕ) →
    has c.and.result b ≡ ((has c.row-east.result.now b && has c.turned_down-north.result b)
    && has c.row-middle.result.now b) =
    λ b. c.and.ensures b ∙ ap (λ e. e && has c.row-middle.result.now b) (c.and-edges.ensures b) in
    let upper : (b : ℕ) →
    has c.and-2.result b
    ≡ ((has c.row-east.result.now b && has c.turned_down-north.result b)
    && has c.turned_down-north_east.result b) =
    λ b. c.and-2.ensures b ∙ ap (λ e. e && has c.turned_down-north_east.result b)
    (c.and-edges.ensures b) in
    counted_sets f a c.count-lower.result c.count-upper.result (has c.and.result)
    (has c.and-2.result) limits.order_high
    (λ b below.
    let both = lower_by_pairs f limits a b (has c.row-middle.result.now b)
    (has c.row-east.result.now b) (has c.turned_down-north.result b)
    (middle b below) (east b below) (north b below) in
    (λ yes. both.0 (sym (lower b) ∙ yes), λ additive. lower b ∙ both.1 additive))
    (λ b below.
    let both = upper_by_pairs f limits a b (has c.row-middle.result.now b)
    (has c.row-east.result.now b) (has c.turned_down-north.result b)
    (middle b below) (east b below) (north b below) (has c.turned_down-north_east.result b)
    (north_east b below) in
    (λ yes. both.0 (sym (upper b) ∙ yes), λ additive. upper b ∙ both.1 additive))
    (λ b past.
    let east_out = c.row-east.ensures.within b (omega arith) in
    lower b ∙ and_left (has c.row-east.result.now b && has c.turned_down-north.result b)
    (has c.row-middle.result.now b)
    (and_left (has c.row-east.result.now b) (has c.turned_down-north.result b) east_out))
    (λ b past.
    let east_out = c.row-east.ensures.within b (omega arith) in
    upper b ∙ and_left (has c.row-east.result.now b && has c.turned_down-north.result b)
    (has c.turned_down-north_east.result b)
    (and_left (has c.row-east.result.now b) (has c.turned_down-north.result b) east_out))
    c.count-lower.ensures c.count-upper.ensures
