-- What the lanes of a function say of its tight limits.
use Rattle.std.proofs.Common.{◌≡◌, ◌↔◌, ℕ, ◌+◌, ◌-◌, ◌*◌, ◌<◌, ◌≤◌, ℤ, pos, ◌+ℤ◌, List, length, get_or, drop, take, ap, ◌∙◌, arith}
use Rattle.std.proofs.lemmas.Int.{ints}
use Rattle.std.proofs.lemmas.List.{get_or-drop, get_or-take}
use Rattle.gj_shape.specs.FunctionData.{FunctionData, IsWithinBounds, at}
use Rattle.gj_limit_faces.specs.Lanes.{AreSides}
use Rattle.gj_limit_faces.specs.Terms.{by_side, numbers_on, limit_by}
use Rattle.gj_limit_faces.specs.declared.terms.Side.{Side}
use Rattle.gj_limit_faces.specs.declared.terms.Side.TheVariants.{Left, Value, Right}
use Rattle.gj_limit_faces.specs.declared.terms.Terms.{Terms}

module _ {L : Type 0} (number : L → ℤ) (least : ℤ) (bound : ℕ) (f : FunctionData)
    (limits : IsWithinBounds f) (left value right : List L)
    (sides : AreSides number least bound f left value right) where
  count : (s : Side) → length (numbers_on f s) ≡ f.order
  count Left = limits.left_length
  count Value = limits.value_length
  count Right = limits.right_length

  number_at : (s : Side) (xs : List L) (i : ℕ) (z : L) → xs ≡ by_side s left value right →
      i ≤ 2 * f.order → number (get_or xs i z) ≡ at (numbers_on f s) i
  number_at s xs i z is most =
      let n = count s in
      ap (λ ys. number (get_or ys i z)) is ∙ (sides.periods s).same i z (omega arith)

  number_from : (s : Side) (xs : List L) (k i : ℕ) (z : L) → xs ≡ by_side s left value right →
      i < f.order → k + i ≤ 2 * f.order →
      number (get_or (take (length xs - k) (drop k xs)) i z) ≡ at (numbers_on f s) (k + i)
  number_from s xs k i z is low most =
      let room : length xs ≡ 2 * f.order + 65 = ap length is ∙ sides.room s in
      ap number (get_or-take (length xs - k) (drop k xs) i z (omega arith) ∙ get_or-drop k xs i z)
      ∙ number_at s xs (k + i) z is most

  pub row_by_sides : (t : Terms) (a b n : ℕ) (x y sum : List L) (first : L) (P : Type 0) →
      t.right ≤ 1 → t.above ≤ 1 → a < f.order → n ≡ f.order → x ≡ by_side t.x left value right →
      y ≡ by_side t.y left value right → sum ≡ by_side t.sum left value right →
      first ≡ get_or x (a + t.right) first →
      P ↔ ((b < n) × (number (get_or (take (length y - t.above) (drop t.above y)) b first)
      +ℤ number first ≡ number (get_or (take (length sum - (a + t.right + t.above))
      (drop (a + t.right + t.above) sum)) b first))) →
      P ↔ ((b < f.order) × (limit_by f t a b ≡ pos 0))
  row_by_sides t a b n x y sum first P right_low above_low below order x_is y_is sum_is first_is
      both = (
        λ p. let there = both.0 p in
            let inside : b < f.order = omega (arith, there.0) in
            (inside, (tight inside).0 there.1),
        λ pair. let inside = pair.0 in both.1 (omega arith, (tight inside).1 pair.1),
      )
    where
      tight : b < f.order →
          (number (get_or (take (length y - t.above) (drop t.above y)) b first)
          +ℤ number first ≡ number (get_or (take (length sum - (a + t.right + t.above))
          (drop (a + t.right + t.above) sum)) b first)) ↔ (limit_by f t a b ≡ pos 0)
      tight inside =
          let at_a : number first ≡ at (numbers_on f t.x) (a + t.right) =
          ap number first_is ∙ number_at t.x x (a + t.right) first x_is (omega arith) in
          let up : t.above + b ≡ b + t.above = omega arith in
          let at_b = number_from t.y y t.above b first y_is inside (omega arith)
          ∙ ap (at (numbers_on f t.y)) up in
          let on : a + t.right + t.above + b ≡ a + t.right + (b + t.above) = omega arith in
          let at_sum = number_from t.sum sum (a + t.right + t.above) b first sum_is inside
          (omega arith)
          ∙ ap (at (numbers_on f t.sum)) on in (
            λ tie. omega (arith, ints),
            λ tie. omega (arith, ints),
          )
