use Rattle.std.proofs.Common.{◌≡◌, ◌+◌, ◌-◌, ◌%◌, ◌<◌, ◌≤◌, ℕ, false, ap, sym, ◌∙◌, arith}
use Rattle.std.specs.Prelude.{◌==◌, if◌then◌else◌}
use Rattle.std.proofs.Math.Nat.{mod-eq_of_lt}
use Rattle.gj_loops.specs.IndexSets.{has}
use Rattle.gj_loops.proofs.Shifts.{in_limit}
use Rattle.gj_loops.specs.declared.index_set.IndexSet.{IndexSet}
use Rattle.gj_shape.specs.Additive.{IsTight}
use Rattle.gj_shape.specs.declared.faces.FaceKind.TheVariants.{Vertex, Horizontal, Vertical, Diagonal, Lower, Upper}
use Rattle.gj_faces.specs.Alone.{set_of}
use Rattle.gj_faces.specs.declared.alone.Alone.{Alone}
use Rattle.gj_faces.proofs.AloneFlags.{Around, AreAround, AreFlags, all_flags, any_flag, edge_flag, flag, no_flag}
use Rattle.gj_faces.proofs.PairRows.{row_of_index, next_in_row, previous_in_row}
use Rattle.gj_faces.proofs.alone.Alone.of.Goals as goal

-- what the rows and their neighbours have at an index
around_of : (c : goal.After-or-11) → ℕ → Around
around_of c b = record {
  middle = has c.row-middle.result.now b;
  east = has c.row-east.result.now b;
  west = has c.row-west.result.now b;
  north = has c.turned_down-north.result b;
  south = has c.turned_up-south.result b;
  north_west = has c.turned_down-north_west.result b;
  south_east = has c.turned_up-south_east.result b;
  north_east = has c.turned_down-north_east.result b;
}

-- the sets
alone_of : goal.After-or-11 → Alone
alone_of c = record {
  any = c.or-11.result;
  edges = c.or-edges.result;
  vertex = c.and_not-vertex.result;
  horizontal = c.and_not-horizontal.result;
  vertical = c.and_not-vertical.result;
  diagonal = c.and_not-diagonal.result;
  lower = c.and-lower.result;
  upper = c.and-upper.result;
}

vertex_at : (c : goal.After-or-11) (b : ℕ) →
    has c.and_not-vertex.result b ≡ flag Vertex (around_of c b)
unfolding around_of
vertex_at c b =
    let or' = c.or.ensures b in
    let or_2' = c.or-2.ensures b in
    let or_3' = c.or-3.ensures b in
    let or_4' = c.or-4.ensures b in
    let or_beside' = c.or-beside.ensures b in
    let without_vertex' = c.and_not-vertex.ensures b in
    cc

horizontal_at : (c : goal.After-or-11) (b : ℕ) →
    has c.and_not-horizontal.result b ≡ flag Horizontal (around_of c b)
unfolding around_of
horizontal_at c b =
    let and_low' = c.and-low.ensures b in
    let or_5' = c.or-5.ensures b in
    let without_horizontal' = c.and_not-horizontal.ensures b in
    cc

vertical_at : (c : goal.After-or-11) (b : ℕ) →
    has c.and_not-vertical.result b ≡ flag Vertical (around_of c b)
unfolding around_of
vertical_at c b =
    let and' = c.and.ensures b in
    let or_6' = c.or-6.ensures b in
    let without_vertical' = c.and_not-vertical.ensures b in
    cc

diagonal_at : (c : goal.After-or-11) (b : ℕ) →
    has c.and_not-diagonal.result b ≡ flag Diagonal (around_of c b)
unfolding around_of
diagonal_at c b =
    let and_high' = c.and-high.ensures b in
    let or_7' = c.or-7.ensures b in
    let without_diagonal' = c.and_not-diagonal.ensures b in
    cc

lower_at : (c : goal.After-or-11) (b : ℕ) → has c.and-lower.result b ≡ flag Lower (around_of c b)
unfolding around_of
lower_at c b =
    let and_low' = c.and-low.ensures b in
    let and_lower' = c.and-lower.ensures b in
    cc

upper_at : (c : goal.After-or-11) (b : ℕ) → has c.and-upper.result b ≡ flag Upper (around_of c b)
unfolding around_of
upper_at c b =
    let and_high' = c.and-high.ensures b in
    let and_upper' = c.and-upper.ensures b in
    cc

edges_at : (c : goal.After-or-11) (b : ℕ) → has c.or-edges.result b ≡ edge_flag (around_of c b)
edges_at c b =
    let vertex = vertex_at c b in
    let horizontal = horizontal_at c b in
    let vertical = vertical_at c b in
    let diagonal = diagonal_at c b in
    let or_8' = c.or-8.ensures b in
    let or_9' = c.or-9.ensures b in
    let or_edges' = c.or-edges.ensures b in
    cc

any_at : (c : goal.After-or-11) (b : ℕ) → has c.or-11.result b ≡ any_flag (around_of c b)
any_at c b =
    let vertex = vertex_at c b in
    let horizontal = horizontal_at c b in
    let vertical = vertical_at c b in
    let diagonal = diagonal_at c b in
    let lower = lower_at c b in
    let upper = upper_at c b in
    let edges = edges_at c b in
    let or_10' = c.or-10.ensures b in
    let or_11' = c.or-11.ensures b in
    cc

-- each set has the flag of its kind
flags_at : (c : goal.After-or-11) (b : ℕ) → AreFlags (alone_of c) b (around_of c b)
unfolding alone_of
flags_at c b = record {
  each = λ kind. elim kind as (λ k. has (set_of (alone_of c) k) b ≡ flag k (around_of c b)) [
    | Vertex ↦ vertex_at c b
    | Horizontal ↦ horizontal_at c b
    | Vertical ↦ vertical_at c b
    | Diagonal ↦ diagonal_at c b
    | Lower ↦ lower_at c b
    | Upper ↦ upper_at c b
  ];
  any = any_at c b;
  edges = edges_at c b;
}

tells_at : (c : goal.After-or-11) (b : ℕ) → b < c.args.shape.now.order →
    AreAround c.args.shape.now.order (IsTight c.args.shape.now) c.args.a b (around_of c b)
unfolding around_of
tells_at c b below =
    let f = c.args.shape.now in
    let a = c.args.a in
    let limits = c.order-period.ensures.limits in
    let period = c.order-period.ensures.value in
    let few = limits.order_high in
    let middle = row_of_index f c.args.pairs.now a a c.row-middle.result.now limits c.requires.pairs
    (sym (mod-eq_of_lt c.requires.within))
    c.row-middle.ensures.tells in
    let east = row_of_index f c.args.pairs.now (a + 1) c.wrapped-2.result c.row-east.result.now
    limits c.requires.pairs
    (c.wrapped-2.ensures.value ∙ ap (λ q. (a + 1) % q) period) c.row-east.ensures.tells in
    let west = row_of_index f c.args.pairs.now
    (a + (f.order - 1)) c.wrapped.result c.row-west.result.now limits c.requires.pairs
    (c.wrapped.ensures.value ∙ ap (λ q. (a + (q - 1)) % q) period) c.row-west.ensures.tells in
    let after : (row : IndexSet) → has row (if b + 1 == c.order-period.result then 0 else b + 1)
    ≡ has row (if b + 1 == f.order then 0 else b + 1) =
    λ row. ap (λ q. has row (if b + 1 == q then 0 else b + 1)) period in
    let behind : (row : IndexSet) → has row (if b == 0 then c.order-period.result - 1 else b - 1)
    ≡ has row (if b == 0 then f.order - 1 else b - 1) =
    λ row. ap (λ q. has row (if b == 0 then q - 1 else b - 1)) period in
    let inside : b < 1024 = omega arith in
    record {
      middle = middle b below;
      east = east b below;
      west = west b below;
      north = next_in_row f a b c.row-middle.result.now (has c.turned_down-north.result b) limits
          below middle
          (c.turned_down-north.ensures b ∙ after c.row-middle.result.now);
      south = previous_in_row f a b c.row-middle.result.now (has c.turned_up-south.result b) limits
          below middle
          (c.turned_up-south.ensures b ∙ in_limit b _ inside ∙ behind c.row-middle.result.now);
      north_west = next_in_row f (a + (f.order - 1)) b c.row-west.result.now
          (has c.turned_down-north_west.result b) limits below west
          (c.turned_down-north_west.ensures b ∙ after c.row-west.result.now);
      south_east = previous_in_row f (a + 1) b c.row-east.result.now
          (has c.turned_up-south_east.result b) limits below east
          (c.turned_up-south_east.ensures b ∙ in_limit b _ inside ∙ behind c.row-east.result.now);
      north_east = next_in_row f (a + 1) b c.row-east.result.now
          (has c.turned_down-north_east.result b) limits below east
          (c.turned_down-north_east.ensures b ∙ after c.row-east.result.now);
    }

none_from : (c : goal.After-or-11) (b : ℕ) → c.args.shape.now.order ≤ b →
    any_flag (around_of c b) ≡ false
unfolding around_of
none_from c b past =
    let order = c.requires.pairs.order in
    no_flag (around_of c b) (c.row-middle.ensures.within b (omega arith))
    (c.row-east.ensures.within b (omega arith))

pub returns : goal.returns
unfolding alone_of
returns c =
    all_flags c.args.shape.now c.args.a (alone_of c) (around_of c) c.order-period.ensures.limits
    (flags_at c) (tells_at c) (none_from c)
