-- Squares with an additive triangle that covers an interval, as sets.
use Rattle.std.proofs.Common.{◌≡◌, ◌≢◌, ℕ, ◌⊎◌, ◌+◌, ◌%◌, ◌<◌, ◌↔◌, ◌&&◌, ◌||◌, Bool, true, refl, sym, ap, ◌∙◌, inl, inr, arith}
use Rattle.std.proofs.Math.Nat.{mod-mod, mod-lt, mod-eq_of_lt}
use Rattle.std.proofs.lemmas.Bool.{and_parts, and_from, or_cases, or_left, or_right}
use Rattle.gj_faces.proofs.Periods.{same_sum}
use Rattle.gj_shape.specs.declared.faces.FaceKind.{FaceKind}
use Rattle.gj_shape.specs.declared.faces.FaceKind.TheVariants.{Vertex, Horizontal, Vertical, Diagonal, Lower, Upper}
use Rattle.gj_cover.specs.Table.{is_tight_in, IsTightInTable, CoversBy}
use Rattle.gj_cover.specs.declared.table.Table.{Table}
use Rattle.gj_cover.proofs.Edges.{one_step}
use Rattle.gj_cover.proofs.Parts.{Corners, corners, additive, covered_one, one_covered, IsTriangle, Intervals}
use Rattle.gj_cover.proofs.TablePairs.{same_tight, tight, told}

-- a triangle of the square is additive
abbrev pub has_triangle : Table → ℕ → ℕ → Bool
has_triangle t a b =
    (is_tight_in t (a + 1) b && is_tight_in t a (b + 1))
    && (is_tight_in t a b || is_tight_in t (a + 1) (b + 1))

lower : (t : Table) (a b i : ℕ) → Corners (IsTightInTable t) Lower a b →
    Intervals t.order Lower a b i → CoversBy t i Lower a b
lower t a b i h at = record {
  additive = additive (IsTightInTable t) Lower a b h;
  projection = one_covered t.order Lower a b i tt at;
}

upper : (t : Table) (a b i : ℕ) → Corners (IsTightInTable t) Upper a b →
    Intervals t.order Upper a b i → CoversBy t i Upper a b
upper t a b i h at = record {
  additive = additive (IsTightInTable t) Upper a b h;
  projection = one_covered t.order Upper a b i tt at;
}

-- by one of its first two projections
pub by_triangle : (t : Table) (a b i : ℕ) →
    (a % t.order ≡ i % t.order) ⊎ (b % t.order ≡ i % t.order) →
    has_triangle t a b ≡ true → (kind : FaceKind) × CoversBy t i kind a b
by_triangle t a b i at e =
    let both = and_parts (is_tight_in t (a + 1) b && is_tight_in t a (b + 1))
    (is_tight_in t a b || is_tight_in t (a + 1) (b + 1)) e in
    let edge = and_parts (is_tight_in t (a + 1) b) (is_tight_in t a (b + 1)) both.0 in
    let east = tight t (a + 1) b edge.0 in
    let north = tight t a (b + 1) edge.1 in
    elim (or_cases (is_tight_in t a b) (is_tight_in t (a + 1) (b + 1)) both.1) [
      | inl x ↦ (
        Lower,
        lower t a b i (tight t a b x, east, north)
            (elim at [ inl y ↦ inl y | inr y ↦ inr (inl y) ]),
      )
      | inr x ↦ (
        Upper,
        upper t a b i (east, north, tight t (a + 1) (b + 1) x)
            (elim at [ inl y ↦ inl y | inr y ↦ inr (inl y) ]),
      )
    ]

lower_told : (t : Table) (a b : ℕ) → Corners (IsTightInTable t) Lower a b →
    has_triangle t a b ≡ true
lower_told t a b h =
    and_from (is_tight_in t (a + 1) b && is_tight_in t a (b + 1))
    (is_tight_in t a b || is_tight_in t (a + 1) (b + 1))
    (and_from (is_tight_in t (a + 1) b) (is_tight_in t a (b + 1)) (told t (a + 1) b h.1)
    (told t a (b + 1) h.2))
    (or_left (is_tight_in t a b) (is_tight_in t (a + 1) (b + 1)) (told t a b h.0))

upper_told : (t : Table) (a b : ℕ) → Corners (IsTightInTable t) Upper a b →
    has_triangle t a b ≡ true
upper_told t a b h =
    and_from (is_tight_in t (a + 1) b && is_tight_in t a (b + 1))
    (is_tight_in t a b || is_tight_in t (a + 1) (b + 1))
    (and_from (is_tight_in t (a + 1) b) (is_tight_in t a (b + 1)) (told t (a + 1) b h.0)
    (told t a (b + 1) h.1))
    (or_right (is_tight_in t a b) (is_tight_in t (a + 1) (b + 1)) (told t (a + 1) (b + 1) h.2))

told_by : (t : Table) (kind : FaceKind) (a b : ℕ) → IsTriangle kind →
    Corners (IsTightInTable t) kind a b → has_triangle t a b ≡ true
told_by t Vertex a b s h = absurd s
told_by t Horizontal a b s h = absurd s
told_by t Vertical a b s h = absurd s
told_by t Diagonal a b s h = absurd s
told_by t Lower a b s h = lower_told t a b h
told_by t Upper a b s h = upper_told t a b h

-- the row of the interval
pub in_row : (t : Table) (i b : ℕ) (r : Bool) → r ≡ has_triangle t i b →
    (r ≡ true) ↔ ((kind : FaceKind) × CoversBy t i kind i b)
in_row t i b r is = (
  λ e. by_triangle t i b i (inl refl) (sym is ∙ e),
  λ (kind, h). is ∙ told_by t kind i b (covered_one t.order kind i b i h.projection).0
      (corners (IsTightInTable t) kind i b h.additive),
)

-- ---- another row: b leads from a to i, and short from the index behind a

-- the squares with i as the sum or as the one behind it
abbrev pub by_sum : Table → ℕ → ℕ → ℕ → Bool
by_sum t a b short =
    (is_tight_in t a b && is_tight_in t (a + 1) b)
    && (is_tight_in t a (b + 1) || is_tight_in t (a + 1) short)

-- the short step and one more is the step
stretched : (q a b short i : ℕ) → 0 < q → b < q → (a + b) % q ≡ i → (a + 1 + short) % q ≡ i →
    (short + 1) % q ≡ b
stretched q a b short i some b_below e g =
    let order : a + (short + 1) ≡ a + 1 + short = omega arith in
    one_step q a ((short + 1) % q) b i (mod-lt (short + 1) some) b_below
    (same_sum q a ((short + 1) % q) a (short + 1) refl (mod-mod (short + 1) q)
    ∙ ap (λ n. n % q) order ∙ g) e

next_same : (t : Table) (a b short : ℕ) → b < t.order → (short + 1) % t.order ≡ b → (c : ℕ) →
    is_tight_in t c (short + 1) ≡ is_tight_in t c b
next_same t a b short below e c = same_tight t c (short + 1) c b refl (e ∙ sym (mod-eq_of_lt below))

from_sum : (t : Table) (a b short i : ℕ) → a < t.order → b < t.order → short < t.order →
    (a + b) % t.order ≡ i →
    (a + 1 + short) % t.order ≡ i → i < t.order → by_sum t a b short ≡ true →
    (kind : FaceKind) × (d : ℕ) × (d < t.order) × CoversBy t i kind a d
from_sum t a b short i a_below b_below short_below e g i_below h =
    let q = t.order in
    let both = and_parts (is_tight_in t a b && is_tight_in t (a + 1) b)
    (is_tight_in t a (b + 1) || is_tight_in t (a + 1) short) h in
    let edge = and_parts (is_tight_in t a b) (is_tight_in t (a + 1) b) both.0 in
    elim (or_cases (is_tight_in t a (b + 1)) (is_tight_in t (a + 1) short) both.1) [
      | inl x ↦ (
        Lower,
        b,
        b_below,
        lower t a b i (tight t a b edge.0, tight t (a + 1) b edge.1, tight t a (b + 1) x)
            (inr (inr (e ∙ sym (mod-eq_of_lt i_below)))),
      )
      | inr x ↦
          let next = stretched q a b short i (omega arith) b_below e g in
          let order : a + short + 1 ≡ a + 1 + short = omega arith in (
            Upper,
            short,
            short_below,
            upper t a short i (
              tight t (a + 1) short x,
              tight t a (short + 1) (next_same t a b short b_below next a ∙ edge.0),
              tight t (a + 1) (short + 1) (next_same t a b short b_below next (a + 1) ∙ edge.1),
            )
                (inr (inr (ap (λ n. n % q) order ∙ g ∙ sym (mod-eq_of_lt i_below)))),
          )
    ]

-- what a triangle of the row that covers the interval shows
shows : (t : Table) (a b short i d : ℕ) (kind : FaceKind) → a < t.order → b < t.order →
    short < t.order → (a + b) % t.order ≡ i →
    (a + 1 + short) % t.order ≡ i → i < t.order → a ≢ i → d < t.order → IsTriangle kind →
    Corners (IsTightInTable t) kind a d →
    Intervals t.order kind a d i → (has_triangle t a i || by_sum t a b short) ≡ true
shows t a b short i d Vertex a_below b_below short_below e g i_below other d_below s h at = absurd s
shows t a b short i d Horizontal a_below b_below short_below e g i_below other d_below s h at =
    absurd s
shows t a b short i d Vertical a_below b_below short_below e g i_below other d_below s h at =
    absurd s
shows t a b short i d Diagonal a_below b_below short_below e g i_below other d_below s h at =
    absurd s
shows t a b short i d Lower a_below b_below short_below e g i_below other d_below s h (inl x) =
    absurd (other (sym (mod-eq_of_lt a_below) ∙ x ∙ mod-eq_of_lt i_below))
shows t a b short i d Lower a_below b_below short_below e g i_below other d_below s h
    (inr (inl x)) =
    let same : d ≡ i = sym (mod-eq_of_lt d_below) ∙ x ∙ mod-eq_of_lt i_below in
    or_left (has_triangle t a i) (by_sum t a b short) (ap (has_triangle t a) (sym same)
    ∙ lower_told t a d h)
shows t a b short i d Lower a_below b_below short_below e g i_below other d_below s h
    (inr (inr x)) =
    let q = t.order in
    let same : d ≡ b = one_step q a d b i d_below b_below (x ∙ mod-eq_of_lt i_below) e in
    or_right (has_triangle t a i) (by_sum t a b short) (ap (λ n. by_sum t a n short) (sym same)
    ∙ and_from (is_tight_in t a d && is_tight_in t (a + 1) d)
    (is_tight_in t a (d + 1) || is_tight_in t (a + 1) short)
    (and_from (is_tight_in t a d) (is_tight_in t (a + 1) d) (told t a d h.0) (told t (a + 1) d h.1))
    (or_left (is_tight_in t a (d + 1)) (is_tight_in t (a + 1) short) (told t a (d + 1) h.2)))
shows t a b short i d Upper a_below b_below short_below e g i_below other d_below s h (inl x) =
    absurd (other (sym (mod-eq_of_lt a_below) ∙ x ∙ mod-eq_of_lt i_below))
shows t a b short i d Upper a_below b_below short_below e g i_below other d_below s h
    (inr (inl x)) =
    let same : d ≡ i = sym (mod-eq_of_lt d_below) ∙ x ∙ mod-eq_of_lt i_below in
    or_left (has_triangle t a i) (by_sum t a b short) (ap (has_triangle t a) (sym same)
    ∙ upper_told t a d h)
shows t a b short i d Upper a_below b_below short_below e g i_below other d_below s h
    (inr (inr x)) =
    let q = t.order in
    let order : a + 1 + d ≡ a + d + 1 = omega arith in
    let same : d ≡ short =
    one_step q (a + 1) d short i d_below short_below
    (ap (λ n. n % q) order ∙ x ∙ mod-eq_of_lt i_below) g in
    let next = stretched q a b short i (omega arith) b_below e g in
    let east : is_tight_in t (a + 1) short ≡ true = ap (is_tight_in t (a + 1)) (sym same)
    ∙ told t (a + 1) d h.0 in
    let north : is_tight_in t a b ≡ true = sym (next_same t a b short b_below next a)
    ∙ ap (λ n. is_tight_in t a (n + 1)) (sym same) ∙ told t a (d + 1) h.1 in
    let corner : is_tight_in t (a + 1) b ≡ true = sym (next_same t a b short b_below next (a + 1))
    ∙ ap (λ n. is_tight_in t (a + 1) (n + 1)) (sym same) ∙ told t (a + 1) (d + 1) h.2 in
    or_right (has_triangle t a i) (by_sum t a b short)
    (and_from (is_tight_in t a b && is_tight_in t (a + 1) b)
    (is_tight_in t a (b + 1) || is_tight_in t (a + 1) short)
    (and_from (is_tight_in t a b) (is_tight_in t (a + 1) b) north corner)
    (or_right (is_tight_in t a (b + 1)) (is_tight_in t (a + 1) short) east))

pub in_another : (t : Table) (a b short i : ℕ) (r : Bool) → a < t.order → b < t.order →
    short < t.order → (a + b) % t.order ≡ i →
    (a + 1 + short) % t.order ≡ i → i < t.order → a ≢ i →
    r ≡ (has_triangle t a i || by_sum t a b short) →
    (r ≡ true) ↔ ((kind : FaceKind) × (d : ℕ) × (d < t.order) × CoversBy t i kind a d)
in_another t a b short i r a_below b_below short_below e g i_below other is = (
  λ y. elim (or_cases (has_triangle t a i) (by_sum t a b short) (sym is ∙ y)) [
    | inl x ↦ let at = by_triangle t a i i (inr refl) x in (at.0, i, i_below, at.1)
    | inr x ↦ from_sum t a b short i a_below b_below short_below e g i_below x
  ],
  λ (kind, d, d_below, h).
      let at = covered_one t.order kind a d i h.projection in
      is ∙ shows t a b short i d kind a_below b_below short_below e g i_below other d_below at.0
      (corners (IsTightInTable t) kind a d h.additive) at.1,
)
