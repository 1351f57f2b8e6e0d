-- Bounds of the table of a minimal function, and its least positive slack.
use Rattle.std.proofs.Common.{◌≡◌, ℕ, ◌+◌, ◌*◌, ◌<◌, ◌≤◌, ◌^◌, ℤ, pos, ◌+ℤ◌, ◌-ℤ◌, ◌≤ℤ◌, List, get_or, map, unsigned_abs, ap, subst, ◌∙◌, mul-pos, mul-le-mul_right, arith}
use Rattle.std.specs.List.{range_with_len}
use Rattle.std.proofs.lemmas.Int.{ints}
use Rattle.std.proofs.lemmas.List.FromFn.{get_or-map-range_with_len}
use Rattle.gj_shape.specs.FunctionData.{FunctionData, IsWithinBounds}
use Rattle.gj_shape.specs.Perturbation.{slack_on_grid, IsLeastSlack}
use Rattle.gj_shape.specs.Table.{table, IsMinimalTable, IsMinimal}
use Rattle.gj_theory.proofs.SlacksAndSizes.{at_most_scale}

-- ---- bounds

-- entries of a minimal table are at most 1
pub entry_at_most : (t : ℕ → ℤ) (n k s i : ℕ) → 0 < n → IsMinimalTable t n k s →
    unsigned_abs (t i) ≤ s
entry_at_most t n k s i some h =
    let high = at_most_scale t n k s i some h in
    let low = h.nonnegative i in
    omega (arith, ints)

-- the scale of the table on a grid of order up to 4 q
pub scale_small : (d m : ℕ) → d < 2 ^ 31 → m ≤ 4 → d * m < 2 ^ 33
scale_small d m small few =
    let most : m * d ≤ 4 * d = mul-le-mul_right d few in
    omega arith

-- ---- the list of a table

pub listed_at : (t : ℕ → ℤ) (xs : List ℤ) (n i : ℕ) → xs ≡ map t (range_with_len 0 n) → i < n →
    get_or xs i (pos 0) ≡ t i
listed_at t xs n i e below =
    ap (λ ys. get_or ys i (pos 0)) e ∙ get_or-map-range_with_len t 0 n i i (pos 0) below
    (omega arith)

-- ---- the least positive slack

-- x is the least positive slack, which is at most twice the scale
pub record HasLeastSlack (f : FunctionData) (m : ℕ) (x : ℤ) : Type 0 where
  pub u : ℕ
  pub same : x ≡ pos u
  pub least : IsLeastSlack f m u
  pub small : u ≤ 2 * (f.scale * m)

slack_at_most : (x y z : ℤ) (s : ℕ) → unsigned_abs x ≤ s → unsigned_abs y ≤ s → pos 0 ≤ℤ z →
    (x +ℤ y -ℤ z) ≤ℤ pos (2 * s)
slack_at_most x y z s x_small y_small sign = omega (arith, ints)

pub has_least_slack : (f : FunctionData) (m : ℕ) (x : ℤ) (u : ℕ) → IsWithinBounds f → IsMinimal f →
    0 < m → x ≡ pos u →
    IsLeastSlack f m u → HasLeastSlack f m x
has_least_slack f m x u l minimal some same least =
    let t = table f m in
    let s = f.scale * m in
    let n_some : 0 < f.order * m = mul-pos (omega (arith, l.order_low)) some in
    let h = minimal m some in
    let at_most = λ (i : ℕ). entry_at_most t (f.order * m) (f.place * m) s i n_some h in
    let high = slack_at_most (t least.i) (t least.j) (t (least.i + least.j)) s (at_most least.i)
    (at_most least.j)
    (h.nonnegative (least.i + least.j)) in
    let met : slack_on_grid f m least.i least.j ≡ pos u = least.reached in
    record {
      u = u;
      same = same;
      least = least;
      small = let most : pos u ≤ℤ pos (2 * s) =
          subst (λ z. z ≤ℤ pos (2 * s)) met high in omega (arith, ints);
    }
