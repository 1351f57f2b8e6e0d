-- The numbers of a function, read from lanes by pieces.
use Rattle.std.proofs.Common.{◌≡◌, ◌↔◌, ℕ, ◌+◌, ◌*◌, ◌<◌, ◌≤◌, ℤ, pos, List, length, get_or, sym, subst, ◌∙◌, arith}
use Rattle.std.proofs.lemmas.Int.{ints}
use Rattle.gj_shape.specs.FunctionData.{FunctionData, IsWithinBounds, at}
use Rattle.gj_loops.specs.Lanes.{ArePeriods}
use Rattle.gj_check_minimal.specs.declared.squares.Lanes.{Lanes}
use Rattle.gj_check_minimal.specs.declared.squares.Part.{Part}
use Rattle.gj_check_minimal.specs.Lanes.{AreLanesOf, HasIndex, IsPartBelow, HasNoExcess, part_at}
use Rattle.gj_check_minimal.specs.Tests.{IsSubadditiveAt}
use Rattle.gj_check_minimal.proofs.RowTests.{square_read}

-- a lane is below the bound
lane_below : {L : Type 0} (number : L → ℤ) (natural : L → ℕ) (least : ℤ) (bound : ℕ)
    (lanes : List L) (numbers : List ℤ) (i : ℕ) (e : L) →
    ((x : L) → number x ≡ pos (natural x)) → ArePeriods number least bound lanes numbers →
    i ≤ 2 * length numbers →
    natural (get_or lanes i e) < bound
lane_below number natural least bound lanes numbers i e natural_of h most =
    let whole : pos (natural (get_or lanes i e)) ≡ at numbers i = sym (natural_of _)
    ∙ h.same i e most in
    let high = (h.range i).1 in
    omega (arith, ints)

module _ {L : Type 0} (number : L → ℤ) (natural : L → ℕ) (least : ℤ) (bound : ℕ) (f : FunctionData)
    (l : Lanes L)
    (natural_of : (x : L) → number x ≡ pos (natural x)) (limits : IsWithinBounds f)
    (h : AreLanesOf number least bound f l) where
  -- there are lanes of each piece from an index below twice the order on
  pub has_part : (i : ℕ) → i < 2 * f.order → HasIndex l i
  has_part i below =
      let value = h.values.room in
      let right = h.rights.room in
      let left = h.lefts.room in
      let value_length = limits.value_length in
      let right_length = limits.right_length in
      let left_length = limits.left_length in
      (omega arith, omega arith, omega arith)

  -- and they are below the bound
  pub part_below : (i : ℕ) (p : Part L) → i < 2 * f.order → ((e : L) → p ≡ part_at l i e) →
      IsPartBelow natural bound p
  part_below i p below is =
      let e = p.value in
      let value_length = limits.value_length in
      let right_length = limits.right_length in
      let left_length = limits.left_length in
      subst (IsPartBelow natural bound) (sym (is e)) (
        lane_below number natural least bound _ _ i e natural_of h.values (omega arith),
        lane_below number natural least bound _ _ i e natural_of h.rights (omega arith),
        lane_below number natural least bound _ _ (i + 1) e natural_of h.lefts (omega arith),
      )

  -- the excess in a square tells of all limits there
  pub square_excess : (a b x : ℕ) (first second sum next : Part L) → a < f.order → b < f.order →
      ((e : L) → first ≡ part_at l a e) →
      ((e : L) → second ≡ part_at l b e) → ((e : L) → sum ≡ part_at l (a + b) e) →
      ((e : L) → next ≡ part_at l (a + b + 1) e) →
      (x ≡ 0) ↔ HasNoExcess natural first second sum next → (x ≡ 0) ↔ IsSubadditiveAt f a b
  square_excess a b x first second sum next a_below b_below first_is second_is sum_is next_is
      excess =
      let e = first.value in
      let p = part_at l a e in
      let q = part_at l b e in
      let s = part_at l (a + b) e in
      let one = subst (λ z. (x ≡ 0) ↔ HasNoExcess natural z second sum next) (first_is e) excess in
      let two = subst (λ z. (x ≡ 0) ↔ HasNoExcess natural p z sum next) (second_is e) one in
      let three = subst (λ z. (x ≡ 0) ↔ HasNoExcess natural p q z next) (sum_is e) two in
      let four = subst (λ z. (x ≡ 0) ↔ HasNoExcess natural p q s z) (next_is e) three in
      let square = square_read number natural least bound f l natural_of limits h a b e a_below
      b_below in
      (λ none. square.0 (four.0 none), λ all. four.1 (square.1 all))
