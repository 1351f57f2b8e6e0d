-- The joins of one row of squares, and the intervals to which edges link the row's interval.
use Rattle.std.proofs.Common.{◌≡◌, ◌↔◌, ◌⊎◌, ℕ, ◌+◌, ◌%◌, ◌<◌, ◌≤◌, ◌&&◌, ◌||◌, ltb, Bool, true, inl, inr, refl, sym, ap, subst, ◌∙◌, arith}
use Rattle.std.proofs.Math.Nat.{mod-lt, mod-mod, mod-eq_of_lt}
use Rattle.std.proofs.lemmas.Bool.{and_parts, and_from, or_cases, or_left, or_right, lt-ltb, ltb-true}
use Rattle.gj_faces.proofs.Periods.{same_sum}
use Rattle.gj_cover.proofs.Edges.{one_step}
use Rattle.gj_cover.proofs.Turns.{place_of, place_turned}
use Rattle.gj_shape.specs.declared.faces.FaceKind.{FaceKind}
use Rattle.gj_shape.specs.declared.faces.FaceKind.TheVariants.{Vertex, Horizontal, Vertical, Diagonal, Lower, Upper}
use Rattle.gj_limit_faces.specs.RowJoins.{IsHorizontalJoin, IsDiagonalJoin}
use Rattle.gj_limit_cover.specs.LimitCover.{LinksBy}
use Rattle.gj_limit_cover.specs.Links.{IsLink}
use Rattle.gj_limit_cover.proofs.Complexes.{IsComplex}

-- ---- places

-- a set that is turned by s has j if the set had an index whose sum with s is j
pub turned_has : (q s j : ℕ) (set : ℕ → Bool) (t : Bool) → s ≤ q →
    t ≡ (ltb j q && set (place_of q s j)) →
    (t ≡ true) ↔ ((k : ℕ) × (k < q) × ((s + k) % q ≡ j) × (set k ≡ true))
turned_has q s j set t s_most is = (
  λ yes'.
      let both = and_parts (ltb j q) (set (place_of q s j)) (sym is ∙ yes') in
      let at = place_turned q s j s_most (ltb-true j q both.0) in
      (place_of q s j, at.0, at.1, both.1),
  λ (k, low, sum, yes').
      let below : j < q = subst (λ n. n < q) sum (mod-lt (s + k) (omega arith)) in
      let at = place_turned q s j s_most below in
      let same = one_step q s (place_of q s j) k j at.0 low at.1 sum in
      is ∙ and_from (ltb j q) (set (place_of q s j)) (lt-ltb j q below) (ap set same ∙ yes'),
)

-- ---- links of the interval i

module _ (q : ℕ) (T : FaceKind → ℕ → ℕ → ℕ → Type 0) (complex : IsComplex q T) (i j : ℕ)
    (i_below : i < q) (j_below : j < q) where
  i_is : i % q ≡ i
  i_is = mod-eq_of_lt i_below

  j_is : j % q ≡ j
  j_is = mod-eq_of_lt j_below

  pub link_of_horizontal : (k : ℕ) → (i + k) % q ≡ j → IsHorizontalJoin q T i k → IsLink q T i j
  link_of_horizontal k sum (inl along) =
      (Horizontal, i, k, (along.0, along.1, refl, sum ∙ sym j_is))
  link_of_horizontal k sum (inr (inl along)) =
      (Lower, i, k, inl (along.0, along.1, refl, sum ∙ sym j_is))
  link_of_horizontal k sum (inr (inr (c, low, next, along))) =
      let order : i + c + 1 ≡ i + (c + 1) = omega arith in
      let rest : (c + 1) % q ≡ k % q =
      next ∙ sym (mod-eq_of_lt (subst (λ n. n < q) next (mod-lt (c + 1) (omega arith)))) in (
        Upper,
        i,
        c,
        inl (
          along.0,
          along.1,
          refl,
          ap (λ n. n % q) order ∙ same_sum q i (c + 1) i k refl rest ∙ sum ∙ sym j_is,
        ),
      )

  pub link_of_diagonal : IsDiagonalJoin T i j → IsLink q T i j
  link_of_diagonal (inl along) = (Diagonal, i, j, (along.0, along.1, refl, refl))
  link_of_diagonal (inr (inl along)) = (Lower, i, j, inr (inr (along.0, along.1, refl, refl)))
  link_of_diagonal (inr (inr along)) = (Upper, i, j, inr (inr (along.0, along.1, refl, refl)))

  -- what an edge that links i to j is in row i
  abbrev pub Found : Type 0
  Found = ((k : ℕ) × (k < q) × ((i + k) % q ≡ j) × IsHorizontalJoin q T i k) ⊎ IsDiagonalJoin T i j

  some : 0 < q
  some = omega arith

  in_row : (kind : FaceKind) (a b c : ℕ) → a % q ≡ i % q → T kind a b c → T kind i (b % q) c
  in_row kind a b c e t = subst (λ n. T kind n (b % q) c) (e ∙ i_is) (complex.reduced kind a b c t)

  in_square : (kind : FaceKind) (a b c : ℕ) → a % q ≡ i % q → b % q ≡ j % q → T kind a b c →
      T kind i j c
  in_square kind a b c e g t = subst (λ n. T kind i n c) (g ∙ j_is) (in_row kind a b c e t)

  sum_in_row : (a b : ℕ) → a % q ≡ i % q → (a + b) % q ≡ j % q → (i + b % q) % q ≡ j
  sum_in_row a b e g = same_sum q i (b % q) a b (sym e) (mod-mod b q) ∙ g ∙ j_is

  next_in_row : (a b : ℕ) → a % q ≡ i % q → (a + b + 1) % q ≡ j % q → (i + (b % q + 1) % q) % q ≡ j
  next_in_row a b e g =
      let order : a + (b + 1) ≡ a + b + 1 = omega arith in
      same_sum q i ((b % q + 1) % q) a (b + 1) (sym e)
      (mod-mod (b % q + 1) q ∙ same_sum q (b % q) 1 b 1 (mod-mod b q) refl)
      ∙ ap (λ n. n % q) order ∙ g ∙ j_is

  by_horizontal : (a b : ℕ) → T Horizontal a b 0 → T Horizontal a b 1 → a % q ≡ i % q →
      (a + b) % q ≡ j % q → Found
  by_horizontal a b x y e g =
      inl (
        b % q,
        mod-lt b some,
        sum_in_row a b e g,
        inl (in_row Horizontal a b 0 e x, in_row Horizontal a b 1 e y),
      )

  by_lower : (a b : ℕ) → T Lower a b 0 → T Lower a b 1 → a % q ≡ i % q → (a + b) % q ≡ j % q → Found
  by_lower a b x y e g =
      inl (
        b % q,
        mod-lt b some,
        sum_in_row a b e g,
        inr (inl (in_row Lower a b 0 e x, in_row Lower a b 1 e y)),
      )

  by_upper : (a b : ℕ) → T Upper a b 1 → T Upper a b 2 → a % q ≡ i % q → (a + b + 1) % q ≡ j % q →
      Found
  by_upper a b x y e g =
      inl (
        (b % q + 1) % q,
        mod-lt (b % q + 1) some,
        next_in_row a b e g,
        inr (inr (b % q, mod-lt b some, refl, (in_row Upper a b 1 e x, in_row Upper a b 2 e y))),
      )

  pub found : (kind : FaceKind) (a b : ℕ) → LinksBy q T kind a b i j → Found
  found Vertex a b h = absurd h
  found Horizontal a b (x, y, e, g) = by_horizontal a b x y e g
  found Vertical a b (x, y, e, g) =
      let order : b + a ≡ a + b = omega arith in
      by_horizontal b a (complex.upright a b 0 x) (complex.upright a b 1 y) e (ap (λ n. n % q) order
      ∙ g)
  found Diagonal a b (x, y, e, g) =
      inr (inl (in_square Diagonal a b 0 e g x, in_square Diagonal a b 1 e g y))
  found Lower a b (inl (x, y, e, g)) = by_lower a b x y e g
  found Lower a b (inr (inl (x, y, e, g))) =
      let order : b + a ≡ a + b = omega arith in
      by_lower b a (complex.lower_first a b x) (complex.lower_third a b y) e (ap (λ n. n % q) order
      ∙ g)
  found Lower a b (inr (inr (x, y, e, g))) =
      inr (inr (inl (in_square Lower a b 1 e g x, in_square Lower a b 2 e g y)))
  found Upper a b (inl (x, y, e, g)) = by_upper a b x y e g
  found Upper a b (inr (inl (x, y, e, g))) =
      let order : b + a + 1 ≡ a + b + 1 = omega arith in
      by_upper b a (complex.upper_first a b x) (complex.upper_third a b y) e (ap (λ n. n % q) order
      ∙ g)
  found Upper a b (inr (inr (x, y, e, g))) =
      inr (inr (inr (in_square Upper a b 0 e g x, in_square Upper a b 1 e g y)))

-- the turned horizontal joins of row i and its diagonal ones are the intervals to which edges link
-- i
pub linked_row : (q : ℕ) (T : FaceKind → ℕ → ℕ → ℕ → Type 0) → IsComplex q T →
    (i j : ℕ) (r t d : Bool)
    (level slope : ℕ → Bool) → i < q → r ≡ (t || d) → t ≡ (ltb j q && level (place_of q i j)) →
    d ≡ slope j →
    ((b : ℕ) → (level b ≡ true) ↔ ((b < q) × IsHorizontalJoin q T i b)) →
    ((b : ℕ) → (slope b ≡ true) ↔ ((b < q) × IsDiagonalJoin T i b)) →
    (r ≡ true) ↔ ((j < q) × IsLink q T i j)
linked_row q T complex i j r t d level slope i_below r_is t_is d_is level_told slope_told =
    let turned = turned_has q i j level t (omega arith) t_is in (
      λ yes'. elim (or_cases t d (sym r_is ∙ yes')) [
        | inl e ↦
            let (k, low, sum, at) = turned.0 e in
            let j_below : j < q = subst (λ n. n < q) sum (mod-lt (i + k) (omega arith)) in (
              j_below,
              link_of_horizontal q T complex i j i_below j_below k sum
                  ((level_told k).0 at).1,
            )
        | inr e ↦
            let at = (slope_told j).0 (sym d_is ∙ e) in
            (at.0, link_of_diagonal q T complex i j i_below at.0 at.1)
      ],
      λ (j_below, (kind, a, b, links)). r_is
          ∙ (elim (found q T complex i j i_below j_below kind a b links) [
            | inl (k, low, sum, join) ↦ or_left t d
                (turned.1 (k, low, sum, (level_told k).1 (low, join)))
            | inr join ↦ or_right t d (d_is ∙ (slope_told j).1 (j_below, join))
          ]),
    )
