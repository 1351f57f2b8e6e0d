-- Joined intervals are linked by additive edges, and where a face that joins or covers can stand.
use Rattle.std.proofs.Common.{◌≡◌, ◌≢◌, ℕ, ◌⊎◌, ◌+◌, ◌/◌, ◌%◌, ◌<◌, ◌≤◌, refl, sym, ap, ◌∙◌, inl, inr, arith}
use Rattle.std.proofs.Math.Nat.{mod-mod, mod-lt, mod-eq_of_lt}
use Rattle.gj_lemmas.proofs.Quotients.{same_remainder, from_same_remainder}
use Rattle.gj_shape.specs.Additive.{IsAdditive}
use Rattle.gj_shape.specs.Cover.{Joins, AreJoined}
use Rattle.gj_shape.specs.declared.faces.FaceKind.{FaceKind}
use Rattle.gj_shape.specs.declared.faces.FaceKind.TheVariants.{Vertex, Horizontal, Vertical, Diagonal, Lower, Upper}
use Rattle.gj_shape.specs.WalkOrder.{position_of_kind}
use Rattle.gj_cover.specs.Links.{Links, diagonal, horizontal, vertical, LeadsBy}
use Rattle.gj_faces.proofs.Periods.{same_sum}
use Rattle.gj_cover.proofs.Parts.{Corners, corners, additive, corners_same, Intervals, intervals, one_of, HasPeriod}

-- ---- rests

-- a number below q is its own rest
below_same : (q x i : ℕ) → i < q → x % q ≡ i % q → x % q ≡ i
below_same q x i i_below e = e ∙ mod-eq_of_lt i_below

pub is_it : (q a i : ℕ) → a < q → i < q → a % q ≡ i % q → a ≡ i
is_it q a i a_below i_below e = sym (mod-eq_of_lt a_below) ∙ e ∙ mod-eq_of_lt i_below

clash : {A : Type 0} (q x i j : ℕ) → i < q → j < q → i ≢ j → x % q ≡ i % q → x % q ≡ j % q → A
clash q x i j i_below j_below other e g = absurd (other (is_it q i j i_below j_below (sym e ∙ g)))

-- equal sums with equal rests leave equal rests
cancelled : (q a b i s : ℕ) → a % q ≡ i % q → (a + b) % q ≡ (i + s) % q → b % q ≡ s % q
cancelled q a b i s e g =
    let first = from_same_remainder a i q e in
    let both = from_same_remainder (a + b) (i + s) q g in
    same_remainder b s ((i + s) / q + a / q) ((a + b) / q + i / q) q (omega arith)

-- there is one number below q that leads from i to j
pub one_step : (q i b s j : ℕ) → b < q → s < q → (i + b) % q ≡ j → (i + s) % q ≡ j → b ≡ s
one_step q i b s j b_below s_below e g =
    is_it q b s b_below s_below (cancelled q i b i s refl (e ∙ sym g))

-- ---- edges

edge_horizontal : (q : ℕ) (T : ℕ → ℕ → Type 0) → HasPeriod q T → (a b i j : ℕ) → 0 < q → i < q →
    j < q →
    a % q ≡ i % q → (a + b) % q ≡ j % q → Corners T Horizontal a b → Links q T i j
edge_horizontal q T p a b i j some i_below j_below e g h =
    horizontal (b % q) (mod-lt b some)
    (same_sum q i (b % q) a b (sym e) (mod-mod b q) ∙ g ∙ mod-eq_of_lt j_below)
    (additive T Horizontal i (b % q)
    (corners_same q T p Horizontal a b i (b % q) e (sym (mod-mod b q)) h))

edge_vertical : (q : ℕ) (T : ℕ → ℕ → Type 0) → HasPeriod q T → (a b i j : ℕ) → 0 < q → i < q →
    j < q →
    b % q ≡ i % q → (a + b) % q ≡ j % q → Corners T Vertical a b → Links q T i j
edge_vertical q T p a b i j some i_below j_below e g h =
    vertical (a % q) (mod-lt a some)
    (same_sum q (a % q) i a b (mod-mod a q) (sym e) ∙ g ∙ mod-eq_of_lt j_below)
    (additive T Vertical (a % q) i
    (corners_same q T p Vertical a b (a % q) i (sym (mod-mod a q)) e h))

edge_diagonal : (q : ℕ) (T : ℕ → ℕ → Type 0) → HasPeriod q T → (a b i j : ℕ) →
    a % q ≡ i % q → b % q ≡ j % q → Corners T Diagonal a b → Links q T i j
edge_diagonal q T p a b i j e g h =
    diagonal (additive T Diagonal i j (corners_same q T p Diagonal a b i j e g h))

-- ---- from joined to linked

-- what is asked of two different intervals of one complex
record AreTwo (q i j : ℕ) : Type 0 where
  some : 0 < q
  first : i < q
  second : j < q
  different : i ≢ j

linked_by_horizontal : (q : ℕ) (T : ℕ → ℕ → Type 0) → HasPeriod q T → (a b i j : ℕ) → AreTwo q i j →
    Corners T Horizontal a b → Intervals q Horizontal a b i → Intervals q Horizontal a b j →
    Links q T i j ⊎ Links q T j i
linked_by_horizontal q T p a b i j t h (inl x) (inl y) =
    clash q a i j t.first t.second t.different x y
linked_by_horizontal q T p a b i j t h (inl x) (inr y) =
    inl (edge_horizontal q T p a b i j t.some t.first t.second x y h)
linked_by_horizontal q T p a b i j t h (inr x) (inl y) =
    inr (edge_horizontal q T p a b j i t.some t.second t.first y x h)
linked_by_horizontal q T p a b i j t h (inr x) (inr y) =
    clash q (a + b) i j t.first t.second t.different x y

linked_by_vertical : (q : ℕ) (T : ℕ → ℕ → Type 0) → HasPeriod q T → (a b i j : ℕ) → AreTwo q i j →
    Corners T Vertical a b → Intervals q Vertical a b i → Intervals q Vertical a b j →
    Links q T i j ⊎ Links q T j i
linked_by_vertical q T p a b i j t h (inl x) (inl y) =
    clash q b i j t.first t.second t.different x y
linked_by_vertical q T p a b i j t h (inl x) (inr y) =
    inl (edge_vertical q T p a b i j t.some t.first t.second x y h)
linked_by_vertical q T p a b i j t h (inr x) (inl y) =
    inr (edge_vertical q T p a b j i t.some t.second t.first y x h)
linked_by_vertical q T p a b i j t h (inr x) (inr y) =
    clash q (a + b) i j t.first t.second t.different x y

linked_by_diagonal : (q : ℕ) (T : ℕ → ℕ → Type 0) → HasPeriod q T → (a b i j : ℕ) → AreTwo q i j →
    Corners T Diagonal a b → Intervals q Diagonal a b i → Intervals q Diagonal a b j →
    Links q T i j ⊎ Links q T j i
linked_by_diagonal q T p a b i j t h (inl x) (inl y) =
    clash q a i j t.first t.second t.different x y
linked_by_diagonal q T p a b i j t h (inl x) (inr y) = inl (edge_diagonal q T p a b i j x y h)
linked_by_diagonal q T p a b i j t h (inr x) (inl y) = inr (edge_diagonal q T p a b j i y x h)
linked_by_diagonal q T p a b i j t h (inr x) (inr y) =
    clash q b i j t.first t.second t.different x y

linked_by_lower : (q : ℕ) (T : ℕ → ℕ → Type 0) → HasPeriod q T → (a b i j : ℕ) → AreTwo q i j →
    Corners T Lower a b → Intervals q Lower a b i → Intervals q Lower a b j →
    Links q T i j ⊎ Links q T j i
linked_by_lower q T p a b i j t h (inl x) (inl y) = clash q a i j t.first t.second t.different x y
linked_by_lower q T p a b i j t h (inl x) (inr (inl y)) =
    linked_by_diagonal q T p a b i j t (h.1, h.2) (inl x) (inr y)
linked_by_lower q T p a b i j t h (inl x) (inr (inr y)) =
    linked_by_horizontal q T p a b i j t (h.0, h.1) (inl x) (inr y)
linked_by_lower q T p a b i j t h (inr (inl x)) (inl y) =
    linked_by_diagonal q T p a b i j t (h.1, h.2) (inr x) (inl y)
linked_by_lower q T p a b i j t h (inr (inl x)) (inr (inl y)) =
    clash q b i j t.first t.second t.different x y
linked_by_lower q T p a b i j t h (inr (inl x)) (inr (inr y)) =
    linked_by_vertical q T p a b i j t (h.0, h.2) (inl x) (inr y)
linked_by_lower q T p a b i j t h (inr (inr x)) (inl y) =
    linked_by_horizontal q T p a b i j t (h.0, h.1) (inr x) (inl y)
linked_by_lower q T p a b i j t h (inr (inr x)) (inr (inl y)) =
    linked_by_vertical q T p a b i j t (h.0, h.2) (inr x) (inl y)
linked_by_lower q T p a b i j t h (inr (inr x)) (inr (inr y)) =
    clash q (a + b) i j t.first t.second t.different x y

-- the sum one further on is that at the upper and at the right edge
up : (q a b i : ℕ) → (a + b + 1) % q ≡ i % q → (a + (b + 1)) % q ≡ i % q
up q a b i e = let same : a + (b + 1) ≡ a + b + 1 = omega arith in ap (λ n. n % q) same ∙ e

right : (q a b i : ℕ) → (a + b + 1) % q ≡ i % q → (a + 1 + b) % q ≡ i % q
right q a b i e = let same : a + 1 + b ≡ a + b + 1 = omega arith in ap (λ n. n % q) same ∙ e

linked_by_upper : (q : ℕ) (T : ℕ → ℕ → Type 0) → HasPeriod q T → (a b i j : ℕ) → AreTwo q i j →
    Corners T Upper a b → Intervals q Upper a b i → Intervals q Upper a b j →
    Links q T i j ⊎ Links q T j i
linked_by_upper q T p a b i j t h (inl x) (inl y) = clash q a i j t.first t.second t.different x y
linked_by_upper q T p a b i j t h (inl x) (inr (inl y)) =
    linked_by_diagonal q T p a b i j t (h.0, h.1) (inl x) (inr y)
linked_by_upper q T p a b i j t h (inl x) (inr (inr y)) =
    linked_by_horizontal q T p a (b + 1) i j t (h.1, h.2) (inl x) (inr (up q a b j y))
linked_by_upper q T p a b i j t h (inr (inl x)) (inl y) =
    linked_by_diagonal q T p a b i j t (h.0, h.1) (inr x) (inl y)
linked_by_upper q T p a b i j t h (inr (inl x)) (inr (inl y)) =
    clash q b i j t.first t.second t.different x y
linked_by_upper q T p a b i j t h (inr (inl x)) (inr (inr y)) =
    linked_by_vertical q T p (a + 1) b i j t (h.0, h.2) (inl x) (inr (right q a b j y))
linked_by_upper q T p a b i j t h (inr (inr x)) (inl y) =
    linked_by_horizontal q T p a (b + 1) i j t (h.1, h.2) (inr (up q a b i x)) (inl y)
linked_by_upper q T p a b i j t h (inr (inr x)) (inr (inl y)) =
    linked_by_vertical q T p (a + 1) b i j t (h.0, h.2) (inr (right q a b i x)) (inl y)
linked_by_upper q T p a b i j t h (inr (inr x)) (inr (inr y)) =
    clash q (a + b + 1) i j t.first t.second t.different x y

linked_by : (q : ℕ) (T : ℕ → ℕ → Type 0) → HasPeriod q T → (kind : FaceKind) (a b i j : ℕ) →
    AreTwo q i j →
    Corners T kind a b → Intervals q kind a b i → Intervals q kind a b j →
    Links q T i j ⊎ Links q T j i
linked_by q T p Vertex a b i j t h x y = absurd x
linked_by q T p Horizontal a b i j t h x y = linked_by_horizontal q T p a b i j t h x y
linked_by q T p Vertical a b i j t h x y = linked_by_vertical q T p a b i j t h x y
linked_by q T p Diagonal a b i j t h x y = linked_by_diagonal q T p a b i j t h x y
linked_by q T p Lower a b i j t h x y = linked_by_lower q T p a b i j t h x y
linked_by q T p Upper a b i j t h x y = linked_by_upper q T p a b i j t h x y

-- two different joined intervals are linked by an additive edge
pub linked : (q : ℕ) (T : ℕ → ℕ → Type 0) → HasPeriod q T → (i j : ℕ) → i < q → j < q → i ≢ j →
    AreJoined q T i j → Links q T i j ⊎ Links q T j i
linked q T p i j i_below j_below other (kind, a, b, h) =
    linked_by q T p kind a b i j
    (record { some = omega arith; first = i_below; second = j_below; different = other })
    (corners T kind a b h.additive) (intervals q kind a b i h.first)
    (intervals q kind a b j h.second)

-- ---- faces that lead from one interval to another

leads_ends : (q i j : ℕ) → j < q → (kind : FaceKind) (a b : ℕ) → LeadsBy q i j kind a b →
    Intervals q kind a b i × Intervals q kind a b j
leads_ends q i j j_below Vertex a b h = absurd h
leads_ends q i j j_below Horizontal a b (x, y, z) =
    (inl (ap (λ n. n % q) x), inr (z ∙ sym (mod-eq_of_lt j_below)))
leads_ends q i j j_below Vertical a b (x, y, z) =
    (inl (ap (λ n. n % q) y), inr (z ∙ sym (mod-eq_of_lt j_below)))
leads_ends q i j j_below Diagonal a b (x, y) = (inl (ap (λ n. n % q) x), inr (ap (λ n. n % q) y))
leads_ends q i j j_below Lower a b h = absurd h
leads_ends q i j j_below Upper a b (x, y, inl z, w) =
    (inl (ap (λ n. n % q) z), inr (inr (w ∙ sym (mod-eq_of_lt j_below))))
leads_ends q i j j_below Upper a b (x, y, inr z, w) =
    (inr (inl (ap (λ n. n % q) z)), inr (inr (w ∙ sym (mod-eq_of_lt j_below))))

-- an additive one joins the two
pub joins_by : (q : ℕ) (T : ℕ → ℕ → Type 0) (i j : ℕ) → j < q → (kind : FaceKind) (a b : ℕ) →
    LeadsBy q i j kind a b →
    IsAdditive T kind a b → Joins q T kind a b i j
joins_by q T i j j_below kind a b at h =
    let ends = leads_ends q i j j_below kind a b at in
    record { additive = h; first = one_of q kind a b i ends.0; second = one_of q kind a b j ends.1 }

-- linked intervals are joined
pub joined_by_links : (q : ℕ) (T : ℕ → ℕ → Type 0) (i j : ℕ) → i < q → j < q → Links q T i j →
    AreJoined q T i j
joined_by_links q T i j i_below j_below (diagonal h) =
    (Diagonal, i, j, joins_by q T i j j_below Diagonal i j (refl, refl) h)
joined_by_links q T i j i_below j_below (horizontal b b_below e h) =
    (Horizontal, i, b, joins_by q T i j j_below Horizontal i b (refl, b_below, e) h)
joined_by_links q T i j i_below j_below (vertical a a_below e h) =
    (Vertical, a, i, joins_by q T i j j_below Vertical a i (a_below, refl, e) h)

-- ---- the faces that lead are first

-- the square (a, b) lies in the complex
record IsSquare (q a b : ℕ) : Type 0 where
  first : a < q
  second : b < q

-- an additive face of the square (a, b) leads from one of two intervals to the other, and has no
-- higher rank than the kind
pub record IsLed (q : ℕ) (T : ℕ → ℕ → Type 0) (kind : FaceKind) (a b i j : ℕ) : Type 0 where
  pub by : FaceKind
  pub leads : LeadsBy q i j by a b ⊎ LeadsBy q j i by a b
  pub additive : IsAdditive T by a b
  pub low : position_of_kind by ≤ position_of_kind kind

led_horizontal : (q : ℕ) (T : ℕ → ℕ → Type 0) (kind : FaceKind) (a b i j : ℕ) →
    1 ≤ position_of_kind kind → AreTwo q i j → IsSquare q a b →
    Corners T Horizontal a b → Intervals q Horizontal a b i → Intervals q Horizontal a b j →
    IsLed q T kind a b i j
led_horizontal q T kind a b i j r t s h (inl x) (inl y) =
    clash q a i j t.first t.second t.different x y
led_horizontal q T kind a b i j r t s h (inl x) (inr y) = record {
  by = Horizontal;
  leads = inl (is_it q a i s.first t.first x, s.second, below_same q (a + b) j t.second y);
  additive = additive T Horizontal a b h;
  low = r;
}
led_horizontal q T kind a b i j r t s h (inr x) (inl y) = record {
  by = Horizontal;
  leads = inr (is_it q a j s.first t.second y, s.second, below_same q (a + b) i t.first x);
  additive = additive T Horizontal a b h;
  low = r;
}
led_horizontal q T kind a b i j r t s h (inr x) (inr y) =
    clash q (a + b) i j t.first t.second t.different x y

led_vertical : (q : ℕ) (T : ℕ → ℕ → Type 0) (kind : FaceKind) (a b i j : ℕ) →
    2 ≤ position_of_kind kind → AreTwo q i j → IsSquare q a b →
    Corners T Vertical a b → Intervals q Vertical a b i → Intervals q Vertical a b j →
    IsLed q T kind a b i j
led_vertical q T kind a b i j r t s h (inl x) (inl y) =
    clash q b i j t.first t.second t.different x y
led_vertical q T kind a b i j r t s h (inl x) (inr y) = record {
  by = Vertical;
  leads = inl (s.first, is_it q b i s.second t.first x, below_same q (a + b) j t.second y);
  additive = additive T Vertical a b h;
  low = r;
}
led_vertical q T kind a b i j r t s h (inr x) (inl y) = record {
  by = Vertical;
  leads = inr (s.first, is_it q b j s.second t.second y, below_same q (a + b) i t.first x);
  additive = additive T Vertical a b h;
  low = r;
}
led_vertical q T kind a b i j r t s h (inr x) (inr y) =
    clash q (a + b) i j t.first t.second t.different x y

led_diagonal : (q : ℕ) (T : ℕ → ℕ → Type 0) (kind : FaceKind) (a b i j : ℕ) →
    3 ≤ position_of_kind kind → AreTwo q i j → IsSquare q a b →
    Corners T Diagonal a b → Intervals q Diagonal a b i → Intervals q Diagonal a b j →
    IsLed q T kind a b i j
led_diagonal q T kind a b i j r t s h (inl x) (inl y) =
    clash q a i j t.first t.second t.different x y
led_diagonal q T kind a b i j r t s h (inl x) (inr y) = record {
  by = Diagonal;
  leads = inl (is_it q a i s.first t.first x, is_it q b j s.second t.second y);
  additive = additive T Diagonal a b h;
  low = r;
}
led_diagonal q T kind a b i j r t s h (inr x) (inl y) = record {
  by = Diagonal;
  leads = inr (is_it q a j s.first t.second y, is_it q b i s.second t.first x);
  additive = additive T Diagonal a b h;
  low = r;
}
led_diagonal q T kind a b i j r t s h (inr x) (inr y) =
    clash q b i j t.first t.second t.different x y

led_lower : (q : ℕ) (T : ℕ → ℕ → Type 0) (a b i j : ℕ) → AreTwo q i j → IsSquare q a b →
    Corners T Lower a b →
    Intervals q Lower a b i → Intervals q Lower a b j → IsLed q T Lower a b i j
led_lower q T a b i j t s h (inl x) (inl y) = clash q a i j t.first t.second t.different x y
led_lower q T a b i j t s h (inl x) (inr (inl y)) =
    led_diagonal q T Lower a b i j (omega arith) t s (h.1, h.2) (inl x) (inr y)
led_lower q T a b i j t s h (inl x) (inr (inr y)) =
    led_horizontal q T Lower a b i j (omega arith) t s (h.0, h.1) (inl x) (inr y)
led_lower q T a b i j t s h (inr (inl x)) (inl y) =
    led_diagonal q T Lower a b i j (omega arith) t s (h.1, h.2) (inr x) (inl y)
led_lower q T a b i j t s h (inr (inl x)) (inr (inl y)) =
    clash q b i j t.first t.second t.different x y
led_lower q T a b i j t s h (inr (inl x)) (inr (inr y)) =
    led_vertical q T Lower a b i j (omega arith) t s (h.0, h.2) (inl x) (inr y)
led_lower q T a b i j t s h (inr (inr x)) (inl y) =
    led_horizontal q T Lower a b i j (omega arith) t s (h.0, h.1) (inr x) (inl y)
led_lower q T a b i j t s h (inr (inr x)) (inr (inl y)) =
    led_vertical q T Lower a b i j (omega arith) t s (h.0, h.2) (inr x) (inl y)
led_lower q T a b i j t s h (inr (inr x)) (inr (inr y)) =
    clash q (a + b) i j t.first t.second t.different x y

-- an upper triangle that leads itself
led_itself : (q : ℕ) (T : ℕ → ℕ → Type 0) (a b i j : ℕ) → Corners T Upper a b →
    LeadsBy q i j Upper a b ⊎ LeadsBy q j i Upper a b →
    IsLed q T Upper a b i j
led_itself q T a b i j h leads =
    record { by = Upper; leads = leads; additive = additive T Upper a b h; low = omega arith }

led_upper : (q : ℕ) (T : ℕ → ℕ → Type 0) (a b i j : ℕ) → AreTwo q i j → IsSquare q a b →
    Corners T Upper a b →
    Intervals q Upper a b i → Intervals q Upper a b j → IsLed q T Upper a b i j
led_upper q T a b i j t s h (inl x) (inl y) = clash q a i j t.first t.second t.different x y
led_upper q T a b i j t s h (inl x) (inr (inl y)) =
    led_diagonal q T Upper a b i j (omega arith) t s (h.0, h.1) (inl x) (inr y)
led_upper q T a b i j t s h (inl x) (inr (inr y)) =
    led_itself q T a b i j h
    (inl (
      s.first,
      s.second,
      inl (is_it q a i s.first t.first x),
      below_same q
          (a + b + 1) j t.second y,
    ))
led_upper q T a b i j t s h (inr (inl x)) (inl y) =
    led_diagonal q T Upper a b i j (omega arith) t s (h.0, h.1) (inr x) (inl y)
led_upper q T a b i j t s h (inr (inl x)) (inr (inl y)) =
    clash q b i j t.first t.second t.different x y
led_upper q T a b i j t s h (inr (inl x)) (inr (inr y)) =
    led_itself q T a b i j h
    (inl (
      s.first,
      s.second,
      inr (is_it q b i s.second t.first x),
      below_same q
          (a + b + 1) j t.second y,
    ))
led_upper q T a b i j t s h (inr (inr x)) (inl y) =
    led_itself q T a b i j h
    (inr (
      s.first,
      s.second,
      inl (is_it q a j s.first t.second y),
      below_same q
          (a + b + 1) i t.first x,
    ))
led_upper q T a b i j t s h (inr (inr x)) (inr (inl y)) =
    led_itself q T a b i j h
    (inr (
      s.first,
      s.second,
      inr (is_it q b j s.second t.second y),
      below_same q
          (a + b + 1) i t.first x,
    ))
led_upper q T a b i j t s h (inr (inr x)) (inr (inr y)) =
    clash q (a + b + 1) i j t.first t.second t.different x y

led : (q : ℕ) (T : ℕ → ℕ → Type 0) (kind : FaceKind) (a b i j : ℕ) → AreTwo q i j → IsSquare q a b →
    Corners T kind a b →
    Intervals q kind a b i → Intervals q kind a b j → IsLed q T kind a b i j
led q T Vertex a b i j t s h x y = absurd x
led q T Horizontal a b i j t s h x y = led_horizontal q T Horizontal a b i j (omega arith) t s h x y
led q T Vertical a b i j t s h x y = led_vertical q T Vertical a b i j (omega arith) t s h x y
led q T Diagonal a b i j t s h x y = led_diagonal q T Diagonal a b i j (omega arith) t s h x y
led q T Lower a b i j t s h x y = led_lower q T a b i j t s h x y
led q T Upper a b i j t s h x y = led_upper q T a b i j t s h x y

-- in the square of a face that joins two different intervals
pub joins_led : (q : ℕ) (T : ℕ → ℕ → Type 0) (kind : FaceKind) (a b i j : ℕ) → i < q → j < q →
    i ≢ j → a < q → b < q →
    Joins q T kind a b i j → IsLed q T kind a b i j
joins_led q T kind a b i j i_below j_below other a_below b_below h =
    led q T kind a b i j
    (record { some = omega arith; first = i_below; second = j_below; different = other })
    (record { first = a_below; second = b_below })
    (corners T kind a b h.additive) (intervals q kind a b i h.first)
    (intervals q kind a b j h.second)
