-- The tables of a function and of that of -x: both functions are minimal or neither is, and both
-- are extreme or neither is.
use Rattle.std.proofs.Common.{◌≡◌, ℕ, ◌+◌, ◌-◌, ◌*◌, ◌%◌, ◌<◌, ◌≤◌, pos, ◌*ℤ◌, sym, ap, subst, ◌∙◌, mul-pos, arith}
use Rattle.std.proofs.Math.Nat.{mul-mod_left, mul-le-mul_right, add_comm}
use Rattle.gj_lemmas.proofs.Quotients.{same_remainder}
use Rattle.gj_shape.specs.Extreme.{IsExtreme}
use Rattle.gj_shape.specs.FunctionData.{FunctionData, IsWithinBounds}
use Rattle.gj_shape.specs.Table.{table, IsMinimal}
use Rattle.gj_theory.proofs.SameVerdicts.{minimal_over, extreme_over}
use Rattle.gj_transform.specs.Transforms.{IsMirrorOf}
use Rattle.gj_transform.proofs.Multiples.{minimal_at_multiples, extreme_at_multiples}

-- a function is the mirror of its mirror
pub mirror_back : (f g : FunctionData) → IsMirrorOf f g → IsMirrorOf g f
mirror_back f g r = record {
  order = sym r.order;
  place = add_comm f.place g.place ∙ r.place ∙ sym r.order;
  same_values = λ m i j some opposite.
      sym (r.same_values m j i some (ap (λ x. x % (f.order * m)) (add_comm j i)
      ∙ subst (λ (q : ℕ). (i + j) % (q * m) ≡ 0) r.order opposite));
}

-- i times one less than the order of the grid is opposite to i
pub opposite_place : (n c i : ℕ) → c + 1 ≡ n → (i + i * c) % n ≡ 0
opposite_place n c i e =
    let whole : i + i * c ≡ i * n = let scaled : i * (c + 1) ≡ i * n = ap (λ x. i * x) e in
    omega arith in
    ap (λ x. x % n) whole ∙ mul-mod_left i n

turned_place : (n k K c : ℕ) → c + 1 ≡ n → K + k ≡ n → (K * c) % n ≡ k % n
turned_place n k K c e sum =
    let scaled : K * (c + 1) ≡ K * n = ap (λ x. K * x) e in
    same_remainder (K * c) k 1 K n (omega arith)

pub mirror_entries : (f g : FunctionData) (m c i : ℕ) → 0 < m → c + 1 ≡ f.order * m →
    IsMirrorOf f g →
    table g m i *ℤ pos (f.scale * m) ≡ table f m (i * c) *ℤ pos (g.scale * m)
mirror_entries f g m c i some e r =
    r.same_values m i (i * c) some (opposite_place (f.order * m) c i e)

-- the places of both on a grid
places_add_up : (f g : FunctionData) (m : ℕ) → IsMirrorOf f g →
    g.place * m + f.place * m ≡ f.order * m
places_add_up f g m r = let scaled : (g.place + f.place) * m ≡ f.order * m =
    ap (λ x. x * m) r.place in omega arith

pub mirror_minimal : (f g : FunctionData) → IsWithinBounds f → IsMirrorOf f g → IsMinimal f →
    IsMinimal g
mirror_minimal f g l r minimal m some =
    let low = l.scale_low in
    let order = l.order_low in
    let n = f.order * m in
    let long : 2 * m ≤ n = mul-le-mul_right m order in
    let c = n - 1 in
    let e : c + 1 ≡ n = omega arith in
    let period : g.order * m ≡ n = ap (λ q. q * m) r.order in
    rw period
    (minimal_over (λ i. table f m (i * c)) (table g m) n (g.place * m) (f.scale * m) (g.scale * m)
    (mul-pos (omega arith) some)
    (λ i. mirror_entries f g m c i some e r)
    (minimal_at_multiples (table f m) n (f.place * m) (f.scale * m) c c n (g.place * m)
    (omega arith)
    (turned_place n (f.place * m) (g.place * m) c e (places_add_up f g m r)) (minimal m some)))

pub mirror_extreme : (f g : FunctionData) → IsWithinBounds f → IsWithinBounds g → IsMirrorOf f g →
    IsExtreme f → IsExtreme g
mirror_extreme f g l h r extreme m some =
    let low = l.scale_low in
    let g_low = h.scale_low in
    let order = l.order_low in
    let n = f.order * m in
    let long : 2 * m ≤ n = mul-le-mul_right m order in
    let w = n - 2 in
    let c = n - 1 in
    let e : c + 1 ≡ n = omega arith in
    let c_is : c ≡ w + 1 = omega arith in
    let n_is : n ≡ w + 2 = omega arith in
    let inverse : c * c ≡ w * n + 1 = inverse_is w c n c_is n_is in
    let sum = places_add_up f g m r in
    let turned : f.place * m + g.place * m ≡ n = omega arith in
    let period : g.order * m ≡ n = ap (λ q. q * m) r.order in
    rw period
    (extreme_over (λ i. table f m (i * c)) (table g m) n (g.place * m) (f.scale * m) (g.scale * m)
    (mul-pos (omega arith) some)
    (mul-pos (omega arith) some) (λ i. mirror_entries f g m c i some e r)
    (extreme_at_multiples (table f m) n (f.place * m) (g.place * m) (f.scale * m) c w inverse
    (turned_place n (f.place * m) (g.place * m) c e sum)
    (turned_place n (g.place * m) (f.place * m) c e turned) (extreme m some)))
  where
    inverse_is : (w c n : ℕ) → c ≡ w + 1 → n ≡ w + 2 → c * c ≡ w * n + 1
    inverse_is w c n c_is n_is =
        let square : c * c ≡ (w + 1) * (w + 1) = ap (λ x. x * x) c_is in
        let product : w * n ≡ w * (w + 2) = ap (λ x. w * x) n_is in
        omega arith
