-- Places of a table that are used: what they add up to, and what they weigh if they add up to the
-- place of a right side.
use Rattle.std.proofs.Common.{◌≡◌, ℕ, ◌+◌, ◌*◌, ◌%◌, ◌<◌, ◌≢◌, [], ◌∷◌, ℤ, pos, ◌+ℤ◌, ◌-ℤ◌, ◌*ℤ◌, ◌≤ℤ◌, unsigned_abs, refl, sym, ap, ap₂, ◌∙◌, arith}
use Rattle.std.proofs.lemmas.Int.{ints}
use Rattle.gj_lemmas.proofs.Integers.{add_mul_z, mul_assoc_z, mul_comm_z, sub_mul_z, mul_cancel_right_z, mul_le_cancel_right_z, mul_le_mul_right_z}
use Rattle.gj_lemmas.proofs.Ring.{by_ring, ring}
use Rattle.gj_shape.specs.Valid.{IsValidTable}
use Rattle.gj_shape.specs.Values.{IsCongruent}
use Rattle.gj_shape.proofs.ValueLemmas.{congruent_rests}
use Rattle.gj_theory.proofs.Weights.{HasList, with_copies}

-- places of a table of period n over s that add up to x/c, modulo 1, and weigh y/g
pub record UsedPlaces (t : ℕ → ℤ) (n s c g : ℕ) (x y : ℤ) : Type 0 where
  pub places : ℤ
  pub index : ℕ
  pub values : ℤ
  pub list : HasList t index values
  pub index_is : IsCongruent (pos index) places n
  pub places_are : x *ℤ pos n ≡ places *ℤ pos c
  pub values_are : y *ℤ pos s ≡ values *ℤ pos g

-- no place
pub none_used : (t : ℕ → ℤ) (n s c g : ℕ) → UsedPlaces t n s c g (pos 0) (pos 0)
none_used t n s c g = record {
  places = pos 0;
  index = 0;
  values = pos 0;
  list = ([], refl, refl);
  index_is = (pos 0, omega (arith, ints));
  places_are = omega (arith, ints);
  values_are = omega (arith, ints);
}

next_index : (i u j : ℕ) → pos (i * u + j) ≡ pos i *ℤ pos u +ℤ pos j
next_index i u j = by_ring (pos i ∷ pos u ∷ pos j ∷ []) (search ring depth 30) refl

congruent_longer : (p k n q l u : ℤ) →
    (p +ℤ k *ℤ n) *ℤ u +ℤ (q +ℤ l *ℤ n) ≡ (p *ℤ u +ℤ q) +ℤ (k *ℤ u +ℤ l) *ℤ n
congruent_longer p k n q l u = by_ring (p ∷ k ∷ n ∷ q ∷ l ∷ u ∷ []) (search ring depth 30) refl

-- u more uses of a place
pub with_uses : (t : ℕ → ℤ) (n s c g i u : ℕ) (p x y x' y' : ℤ) → IsCongruent (pos i) p n →
    x *ℤ pos n ≡ (p *ℤ pos u) *ℤ pos c → y *ℤ pos s ≡ (t i *ℤ pos u) *ℤ pos g →
    UsedPlaces t n s c g x' y' → UsedPlaces t n s c g (x +ℤ x') (y +ℤ y')
with_uses t n s c g i u p x y x' y' (k, i_is) x_is y_is r =
    let l = r.index_is.0 in
    record {
      places = p *ℤ pos u +ℤ r.places;
      index = i * u + r.index;
      values = t i *ℤ pos u +ℤ r.values;
      list = with_copies t i u r.index r.values r.list;
      index_is = (
        k *ℤ pos u +ℤ l,
        next_index i u r.index ∙ ap₂ (λ a b. a *ℤ pos u +ℤ b) i_is r.index_is.1
            ∙ congruent_longer p k (pos n) r.places l (pos u),
      );
      places_are = add_mul_z x x' (pos n) ∙ ap₂ (λ a b. a +ℤ b) x_is r.places_are
          ∙ sym (add_mul_z (p *ℤ pos u) r.places (pos c));
      values_are = add_mul_z y y' (pos s) ∙ ap₂ (λ a b. a +ℤ b) y_is r.values_are
          ∙ sym (add_mul_z (t i *ℤ pos u) r.values (pos g));
    }

-- the same over e times the denominators
pub over_more : (t : ℕ → ℤ) (n s c g e : ℕ) (x y : ℤ) → UsedPlaces t n s c g x y →
    UsedPlaces t n s (c * e) (g * e) (pos e *ℤ x) (pos e *ℤ y)
over_more t n s c g e x y r = record {
  places = r.places;
  index = r.index;
  values = r.values;
  list = r.list;
  index_is = r.index_is;
  places_are = mul_assoc_z (pos e) x (pos n) ∙ mul_comm_z (pos e) (x *ℤ pos n)
      ∙ ap (λ z. z *ℤ pos e) r.places_are ∙ mul_assoc_z r.places (pos c) (pos e);
  values_are = mul_assoc_z (pos e) y (pos s) ∙ mul_comm_z (pos e) (y *ℤ pos s)
      ∙ ap (λ z. z *ℤ pos e) r.values_are ∙ mul_assoc_z r.values (pos g) (pos e);
}

solution_split : (c b x n : ℤ) → (c *ℤ b +ℤ x) *ℤ n ≡ (b *ℤ n) *ℤ c +ℤ x *ℤ n
solution_split c b x n = by_ring (c ∷ b ∷ x ∷ n ∷ []) (search ring depth 30) refl

-- at a solution of a row the places add up to that of the right side
place_of_sum : (c b x n p w k : ℤ) → unsigned_abs c ≢ 0 → (c *ℤ b +ℤ x) *ℤ n ≡ (w *ℤ n +ℤ k) *ℤ c →
    x *ℤ n ≡ p *ℤ c →
    p ≡ k +ℤ (w -ℤ b) *ℤ n
place_of_sum c b x n p w k some whole sum =
    let both : (b *ℤ n +ℤ p) *ℤ c ≡ (w *ℤ n +ℤ k) *ℤ c =
    add_mul_z (b *ℤ n) p c ∙ ap (λ z. (b *ℤ n) *ℤ c +ℤ z) (sym sum) ∙ sym (solution_split c b x n)
    ∙ whole in
    let same : b *ℤ n +ℤ p ≡ w *ℤ n +ℤ k =
    mul_cancel_right_z (b *ℤ n +ℤ p) (w *ℤ n +ℤ k) c both some in
    let split = sub_mul_z w b n in
    omega (arith, ints)

-- places of a valid table that add up to the fractional part k/n of a right side less a whole
-- number weigh 1 or more
pub weigh_one : (t : ℕ → ℤ) (n k s c g : ℕ) (x y basic w : ℤ) → IsValidTable t n k s → 0 < s →
    0 < c →
    (pos c *ℤ basic +ℤ x) *ℤ pos n ≡ (w *ℤ pos n +ℤ pos k) *ℤ pos c → UsedPlaces t n s c g x y →
    pos g ≤ℤ y
weigh_one t n k s c g x y basic w valid s_some c_some whole r =
    let place = place_of_sum (pos c) basic x (pos n) r.places w (pos k)
    (omega arith) whole r.places_are in
    let joined = add_mul_z (w -ℤ basic) r.index_is.0 (pos n) in
    let rests : r.index % n ≡ k % n = congruent_rests r.index k n (
      w -ℤ basic +ℤ r.index_is.0,
      r.index_is.1 ∙ ap (λ z. z +ℤ r.index_is.0 *ℤ pos n) place
          ∙ omega (arith, ints),
    ) in
    let (uses, sum_is, weight_is) = r.list in
    let least_weight = valid.at_solutions uses (ap (λ i. i % n) sum_is ∙ rests) in
    let reached : pos s ≤ℤ r.values = omega (arith, ints) in
    let scaled : (pos s *ℤ pos g) ≤ℤ (r.values *ℤ pos g) =
    mul_le_mul_right_z (pos s) r.values (pos g) (omega (arith, ints)) reached in
    let sum = r.values_are in
    mul_le_cancel_right_z (pos g) y (pos s) (omega (arith, ints)) (omega (arith, ints))
