-- The limits of the slack at the corners of faces, from the numbers that they are made of.
use Rattle.std.proofs.Common.{◌≡◌, ℕ, zero, suc, ◌*◌, ◌≤◌, ℤ, pos, ◌+ℤ◌, ◌*ℤ◌, List, [], ◌∷◌, length, map, get_or, unsigned_abs, refl, sym, ap, ap₂, subst, ◌∙◌, arith}
use Rattle.std.proofs.lemmas.Int.{ints}
use Rattle.std.proofs.lemmas.List.{get_or_past}
use Rattle.gj_lemmas.proofs.Ring.{by_ring, ring}
use Rattle.gj_shape.specs.FunctionData.{FunctionData, at}
use Rattle.gj_shape.specs.Faces.{slack_from, limits_of}
use Rattle.gj_shape.specs.declared.faces.FaceKind.{FaceKind}
use Rattle.gj_shape.specs.declared.faces.FaceKind.TheVariants.{Vertex, Horizontal, Vertical, Diagonal, Lower, Upper}
use Rattle.gj_jumps.specs.LimitSystem.{Limits}
use Rattle.gj_jumps.specs.WholeLimits.{whole_slacks_of}
use Rattle.gj_jumps.proofs.Terms.{Side, Place, Sum, pick, read, sums_of}
use Rattle.gj_jumps.proofs.Terms.Side.{before, there, behind}
use Rattle.gj_limit_grids.specs.Grids.{slack_at_corner}
use Rattle.gj_limit_averages.specs.Moved.{IsBoundOf}

abbrev number_at : Limits ℤ → Place → ℤ
number_at w p = read w.left w.value w.right p

abbrev slack_by : Limits ℤ → Sum → ℤ
slack_by w t = slack_from (number_at w t.first) (number_at w t.second) (number_at w t.third)

slacks_are : (w : Limits ℤ) (kind : FaceKind) (a b : ℕ) →
    whole_slacks_of w kind a b ≡ map (slack_by w) (sums_of kind a b)
slacks_are w Vertex a b = refl
slacks_are w Horizontal a b = refl
slacks_are w Vertical a b = refl
slacks_are w Diagonal a b = refl
slacks_are w Lower a b = refl
slacks_are w Upper a b = refl

slack_is : (w : Limits ℤ) (kind : FaceKind) (a b c : ℕ) →
    slack_at_corner w kind a b c ≡ get_or (map (slack_by w) (sums_of kind a b)) c (pos 0)
slack_is w kind a b c = ap (λ xs. get_or xs c (pos 0)) (slacks_are w kind a b)

-- ---- the numbers of a function

abbrev pub own_limits : FunctionData → Limits ℤ
own_limits g = record { left = at g.left; value = at g.value; right = at g.right }

-- its limits of the slack are those of its numbers
own_slacks : (g : FunctionData) (kind : FaceKind) (a b : ℕ) →
    limits_of g kind a b ≡ whole_slacks_of (own_limits g) kind a b
own_slacks g Vertex a b = refl
own_slacks g Horizontal a b = refl
own_slacks g Vertical a b = refl
own_slacks g Diagonal a b = refl
own_slacks g Lower a b = refl
own_slacks g Upper a b = refl

pub own_slack : (g : FunctionData) (kind : FaceKind) (a b c : ℕ) →
    get_or (limits_of g kind a b) c (pos 0) ≡ slack_at_corner (own_limits g) kind a b c
own_slack g kind a b c = ap (λ xs. get_or xs c (pos 0)) (own_slacks g kind a b)

-- past the last corner there is no limit
slack_count : (f : FunctionData) (w : Limits ℤ) (kind : FaceKind) (a b : ℕ) →
    length (whole_slacks_of w kind a b) ≡ length (limits_of f kind a b)
slack_count f w Vertex a b = refl
slack_count f w Horizontal a b = refl
slack_count f w Vertical a b = refl
slack_count f w Diagonal a b = refl
slack_count f w Lower a b = refl
slack_count f w Upper a b = refl

pub slack_past : (g : FunctionData) (w : Limits ℤ) (kind : FaceKind) (a b c : ℕ) →
    length (limits_of g kind a b) ≤ c → slack_at_corner w kind a b c ≡ pos 0
slack_past g w kind a b c past =
    get_or_past (whole_slacks_of w kind a b) c (pos 0) (omega (arith, slack_count g w kind a b))

-- numbers that are the same
pub same_limits : (v w : Limits ℤ) → ((i : ℕ) → v.left i ≡ w.left i) →
    ((i : ℕ) → v.value i ≡ w.value i) → ((i : ℕ) → v.right i ≡ w.right i) → v ≡ w
same_limits v w l m r = λ k. record { left = λ i. l i k; value = λ i. m i k; right = λ i. r i k }

-- ---- sums of multiples

-- m times the one and s times the other
abbrev pub combined : ℤ → Limits ℤ → ℤ → Limits ℤ → Limits ℤ
combined m v s w = record {
  left = λ i. m *ℤ v.left i +ℤ s *ℤ w.left i;
  value = λ i. m *ℤ v.value i +ℤ s *ℤ w.value i;
  right = λ i. m *ℤ v.right i +ℤ s *ℤ w.right i;
}

picked : (m s : ℤ) (side : Side) (x y z p q r : ℤ) →
    pick side (m *ℤ x +ℤ s *ℤ p) (m *ℤ y +ℤ s *ℤ q) (m *ℤ z +ℤ s *ℤ r)
    ≡ m *ℤ pick side x y z +ℤ s *ℤ pick side p q r
picked m s before x y z p q r = refl
picked m s there x y z p q r = refl
picked m s behind x y z p q r = refl

combined_z : (m s x y z p q r : ℤ) →
    slack_from (m *ℤ x +ℤ s *ℤ p) (m *ℤ y +ℤ s *ℤ q) (m *ℤ z +ℤ s *ℤ r)
    ≡ m *ℤ slack_from x y z +ℤ s *ℤ slack_from p q r
combined_z m s x y z p q r =
    by_ring (m ∷ s ∷ x ∷ y ∷ z ∷ p ∷ q ∷ r ∷ []) (search ring depth 30) refl

three_same : {x x' y y' z z' : ℤ} → x ≡ x' → y ≡ y' → z ≡ z' →
    slack_from x y z ≡ slack_from x' y' z'
three_same e g h = cc

module _ (m s : ℤ) (v w : Limits ℤ) where
  number_is : (p : Place) →
      number_at (combined m v s w) p ≡ m *ℤ number_at v p +ℤ s *ℤ number_at w p
  number_is p =
      let i = p.index in
      picked m s p.side (v.left i) (v.value i) (v.right i) (w.left i) (w.value i) (w.right i)

  each_slack : (ts : List Sum) (c : ℕ) →
      get_or (map (slack_by (combined m v s w)) ts) c (pos 0)
      ≡ m *ℤ get_or (map (slack_by v) ts) c (pos 0) +ℤ s *ℤ get_or (map (slack_by w) ts) c (pos 0)
  each_slack [] c = omega (arith, ints)
  each_slack (t ∷ ts) zero =
      three_same (number_is t.first) (number_is t.second) (number_is t.third)
      ∙ combined_z m s (number_at v t.first) (number_at v t.second) (number_at v t.third)
      (number_at w t.first) (number_at w t.second) (number_at w t.third)
  each_slack (t ∷ ts) (suc c) = each_slack ts c

  pub combined_slack : (kind : FaceKind) (a b c : ℕ) →
      slack_at_corner (combined m v s w) kind a b c
      ≡ m *ℤ slack_at_corner v kind a b c +ℤ s *ℤ slack_at_corner w kind a b c
  combined_slack kind a b c =
      slack_is (combined m v s w) kind a b c ∙ each_slack (sums_of kind a b) c
      ∙ ap₂ (λ x y. m *ℤ x +ℤ s *ℤ y) (sym (slack_is v kind a b c)) (sym (slack_is w kind a b c))

-- ---- sizes

picked_size : (side : Side) (x y z : ℤ) (p : ℕ) → unsigned_abs x ≤ p → unsigned_abs y ≤ p →
    unsigned_abs z ≤ p → unsigned_abs (pick side x y z) ≤ p
picked_size before x y z p e g h = e
picked_size there x y z p e g h = g
picked_size behind x y z p e g h = h

size_z : (x y z : ℤ) (p : ℕ) → unsigned_abs x ≤ p → unsigned_abs y ≤ p → unsigned_abs z ≤ p →
    unsigned_abs (slack_from x y z) ≤ 3 * p
size_z x y z p e g h = omega (arith, ints)

module _ (w : Limits ℤ) (p : ℕ) (h : IsBoundOf w p) where
  number_size : (x : Place) → unsigned_abs (number_at w x) ≤ p
  number_size x =
      let i = x.index in
      picked_size x.side (w.left i) (w.value i) (w.right i) p (h.left i) (h.value i) (h.right i)

  each_size : (ts : List Sum) (c : ℕ) →
      unsigned_abs (get_or (map (slack_by w) ts) c (pos 0)) ≤ 3 * p
  each_size [] c = omega (arith, ints)
  each_size (t ∷ ts) zero =
      size_z (number_at w t.first) (number_at w t.second) (number_at w t.third) p
      (number_size t.first) (number_size t.second) (number_size t.third)
  each_size (t ∷ ts) (suc c) = each_size ts c

  -- the slack of numbers of at most p
  pub slack_size : (kind : FaceKind) (a b c : ℕ) →
      unsigned_abs (slack_at_corner w kind a b c) ≤ 3 * p
  slack_size kind a b c =
      subst (λ x. unsigned_abs x ≤ 3 * p) (sym (slack_is w kind a b c))
      (each_size (sums_of kind a b) c)
