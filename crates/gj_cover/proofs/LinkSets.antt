-- The intervals that edges link, as sets.
use Rattle.std.proofs.Common.{◌≡◌, ℕ, ◌+◌, ◌%◌, ◌<◌, ◌⊎◌, ◌↔◌, ◌||◌, ◌&&◌, Bool, true, false, ltb, refl, sym, ap, ap₂, ◌∙◌, inl, inr, arith}
use Rattle.std.proofs.Math.Nat.{mod-mod, mod-lt, mod-eq_of_lt}
use Rattle.std.proofs.lemmas.Bool.{and_parts, and_from, or_cases, or_left, or_right}
use Rattle.gj_shape.specs.declared.faces.FaceKind.TheVariants.{Horizontal, Vertical, Diagonal}
use Rattle.gj_cover.specs.Links.{Links, diagonal, horizontal, vertical}
use Rattle.gj_cover.specs.Table.{is_tight_in, IsTightInTable}
use Rattle.gj_cover.specs.declared.table.Table.{Table}
use Rattle.gj_cover.proofs.Edges.{one_step}
use Rattle.gj_cover.proofs.Parts.{corners, additive, add_same}
use Rattle.gj_cover.proofs.Turns.{place_of, turned_place, back_in}
use Rattle.gj_faces.proofs.Periods.{same_sum}
use Rattle.gj_cover.proofs.TablePairs.{same_tight, tight, told}

-- the intervals j that stand behind i: k leads from i to j
pub linked_from : (t : Table) (i j k : ℕ) (r d h v : Bool) → i < t.order → j < t.order →
    k < t.order → (i + k) % t.order ≡ j →
    r ≡ ((d || h) || v) →
    d ≡ (is_tight_in t (i + 1) j && is_tight_in t i ((j + 1) % t.order)) →
    h ≡ (is_tight_in t i k && is_tight_in t (i + 1) k) →
    v ≡ (is_tight_in t k i && is_tight_in t k (i + 1)) →
    (r ≡ true) ↔ Links t.order (IsTightInTable t) i j
linked_from t i j k r d h v i_below j_below k_below leads r_is d_is h_is v_is =
    let q = t.order in
    let T = IsTightInTable t in
    let back : k + i ≡ i + k = omega arith in
    let next : is_tight_in t i ((j + 1) % q) ≡ is_tight_in t i (j + 1) =
    same_tight t i ((j + 1) % q) i (j + 1) refl (mod-mod (j + 1) q) in (
      λ e. elim (or_cases (d || h) v (sym r_is ∙ e)) [
        | inl x ↦ elim (or_cases d h x) [
          | inl y ↦
              let both = and_parts (is_tight_in t (i + 1) j) (is_tight_in t i ((j + 1) % q))
              (sym d_is ∙ y) in
              diagonal (additive T Diagonal i j
              (tight t (i + 1) j both.0, tight t i (j + 1) (sym next ∙ both.1)))
          | inr y ↦
              let both = and_parts (is_tight_in t i k) (is_tight_in t (i + 1) k) (sym h_is ∙ y) in
              horizontal k k_below leads
              (additive T Horizontal i k (tight t i k both.0, tight t (i + 1) k both.1))
        ]
        | inr y ↦
            let both = and_parts (is_tight_in t k i) (is_tight_in t k (i + 1)) (sym v_is ∙ y) in
            vertical k k_below (ap (λ n. n % q) back ∙ leads)
            (additive T Vertical k i (tight t k i both.0, tight t k (i + 1) both.1))
      ],
      λ l. r_is ∙ (elim l [
        | diagonal a ↦
            let both = corners T Diagonal i j a in
            or_left (d || h) v (or_left d h
            (d_is ∙ and_from (is_tight_in t (i + 1) j) (is_tight_in t i ((j + 1) % q))
            (told t (i + 1) j both.0) (next ∙ told t i (j + 1) both.1)))
        | horizontal b b_below e a ↦
            let same = one_step q i b k j b_below k_below e leads in
            let both = corners T Horizontal i b a in
            or_left (d || h) v (or_right d h
            (h_is ∙ and_from (is_tight_in t i k) (is_tight_in t (i + 1) k)
            (ap (is_tight_in t i) (sym same) ∙ told t i b both.0)
            (ap (is_tight_in t (i + 1)) (sym same) ∙ told t (i + 1) b both.1)))
        | vertical b b_below e a ↦
            let turned : i + b ≡ b + i = omega arith in
            let same = one_step q i b k j b_below k_below (ap (λ n. n % q) turned ∙ e) leads in
            let both = corners T Vertical b i a in
            or_right (d || h) v (v_is ∙ and_from (is_tight_in t k i) (is_tight_in t k (i + 1))
            (ap (λ n. is_tight_in t n i) (sym same) ∙ told t b i both.0)
            (ap (λ n. is_tight_in t n (i + 1)) (sym same) ∙ told t b (i + 1) both.1))
      ]),
    )

-- two of three sets are one
pub again : (d h : Bool) → (d || h) ≡ ((d || h) || h)
again true h = refl
again false true = refl
again false false = refl

-- if the test does not see the order of two indices, the vertical edges are the horizontal ones
pub linked_from_symmetric : (t : Table) (i j k : ℕ) (r d h : Bool) → i < t.order → j < t.order →
    k < t.order →
    (i + k) % t.order ≡ j → ((a b : ℕ) → is_tight_in t a b ≡ is_tight_in t b a) → r ≡ (d || h) →
    d ≡ (is_tight_in t (i + 1) j && is_tight_in t i ((j + 1) % t.order)) →
    h ≡ (is_tight_in t i k && is_tight_in t (i + 1) k) →
    (r ≡ true) ↔ Links t.order (IsTightInTable t) i j
linked_from_symmetric t i j k r d h i_below j_below k_below leads about r_is d_is h_is =
    linked_from t i j k r d h h i_below j_below k_below leads (r_is ∙ again d h) d_is h_is
    (h_is ∙ ap₂ (λ (x y : Bool). x && y) (about i k) (about (i + 1) k))

-- the same for the intervals behind which i stands: j is before i, and k leads from j to i
pub linked_to : (t : Table) (i j k : ℕ) (r d h v : Bool) → i < t.order → j < t.order → k < t.order →
    (j + k) % t.order ≡ i →
    r ≡ ((d || h) || v) →
    d ≡ (is_tight_in t j (i + 1) && is_tight_in t ((j + 1) % t.order) i) →
    h ≡ (is_tight_in t j k && is_tight_in t ((j + 1) % t.order) k) →
    v ≡ (is_tight_in t k j && is_tight_in t k ((j + 1) % t.order)) →
    (r ≡ true) ↔ Links t.order (IsTightInTable t) j i
linked_to t i j k r d h v i_below j_below k_below leads r_is d_is h_is v_is =
    let q = t.order in
    let T = IsTightInTable t in
    let back : k + j ≡ j + k = omega arith in
    let next : (b : ℕ) → is_tight_in t ((j + 1) % q) b ≡ is_tight_in t (j + 1) b = λ b.
    same_tight t ((j + 1) % q) b (j + 1) b (mod-mod (j + 1) q) refl in
    let after : (a : ℕ) → is_tight_in t a ((j + 1) % q) ≡ is_tight_in t a (j + 1) = λ a.
    same_tight t a ((j + 1) % q) a (j + 1) refl (mod-mod (j + 1) q) in (
      λ e. elim (or_cases (d || h) v (sym r_is ∙ e)) [
        | inl x ↦ elim (or_cases d h x) [
          | inl y ↦
              let both = and_parts (is_tight_in t j (i + 1)) (is_tight_in t ((j + 1) % q) i)
              (sym d_is ∙ y) in
              diagonal (additive T Diagonal j i
              (tight t (j + 1) i (sym (next i) ∙ both.1), tight t j (i + 1) both.0))
          | inr y ↦
              let both = and_parts (is_tight_in t j k) (is_tight_in t ((j + 1) % q) k)
              (sym h_is ∙ y) in
              horizontal k k_below leads
              (additive T Horizontal j k
              (tight t j k both.0, tight t (j + 1) k (sym (next k) ∙ both.1)))
        ]
        | inr y ↦
            let both = and_parts (is_tight_in t k j) (is_tight_in t k ((j + 1) % q))
            (sym v_is ∙ y) in
            vertical k k_below (ap (λ n. n % q) back ∙ leads)
            (additive T Vertical k j
            (tight t k j both.0, tight t k (j + 1) (sym (after k) ∙ both.1)))
      ],
      λ l. r_is ∙ (elim l [
        | diagonal a ↦
            let both = corners T Diagonal j i a in
            or_left (d || h) v (or_left d h
            (d_is ∙ and_from (is_tight_in t j (i + 1)) (is_tight_in t ((j + 1) % q) i)
            (told t j (i + 1) both.1) (next i ∙ told t (j + 1) i both.0)))
        | horizontal b b_below e a ↦
            let same = one_step q j b k i b_below k_below e leads in
            let both = corners T Horizontal j b a in
            or_left (d || h) v (or_right d h
            (h_is ∙ and_from (is_tight_in t j k) (is_tight_in t ((j + 1) % q) k)
            (ap (is_tight_in t j) (sym same) ∙ told t j b both.0)
            (next k ∙ ap (is_tight_in t (j + 1)) (sym same) ∙ told t (j + 1) b both.1)))
        | vertical b b_below e a ↦
            let turned : j + b ≡ b + j = omega arith in
            let same = one_step q j b k i b_below k_below (ap (λ n. n % q) turned ∙ e) leads in
            let both = corners T Vertical b j a in
            or_right (d || h) v (v_is ∙ and_from (is_tight_in t k j) (is_tight_in t k ((j + 1) % q))
            (ap (λ n. is_tight_in t n j) (sym same) ∙ told t b j both.0)
            (after k ∙ ap (λ n. is_tight_in t n (j + 1)) (sym same) ∙ told t b (j + 1) both.1))
      ]),
    )

-- if the test does not see the order of two indices, the horizontal edges are all but those
-- diagonal ones that link both ways
pub linked_to_symmetric : (t : Table) (i j k : ℕ) (h : Bool) → i < t.order → j < t.order →
    k < t.order →
    (j + k) % t.order ≡ i → ((a b : ℕ) → is_tight_in t a b ≡ is_tight_in t b a) →
    h ≡ (is_tight_in t j k && is_tight_in t ((j + 1) % t.order) k) →
    ((h ≡ true) → Links t.order (IsTightInTable t) j i)
    × (Links t.order (IsTightInTable t) j i → (h ≡ true) ⊎ Links t.order (IsTightInTable t) i j)
linked_to_symmetric t i j k h i_below j_below k_below leads about h_is =
    let q = t.order in
    let T = IsTightInTable t in
    let d = is_tight_in t j (i + 1) && is_tight_in t ((j + 1) % q) i in
    let told = linked_to t i j k ((d || h) || h) d h h i_below j_below k_below leads refl refl h_is
    (h_is ∙ ap₂ (λ (x y : Bool). x && y) (about j k) (about ((j + 1) % q) k)) in (
      λ e. told.0 (or_right (d || h) h e),
      λ l. elim (or_cases (d || h) h (told.1 l)) [
        | inl x ↦ elim (or_cases d h x) [
          | inl y ↦
              let both = and_parts (is_tight_in t j (i + 1)) (is_tight_in t ((j + 1) % q) i) y in
              let next = same_tight t i ((j + 1) % q) i (j + 1) refl (mod-mod (j + 1) q) in
              inr (diagonal (additive T Diagonal i j (
                tight t (i + 1) j (about (i + 1) j ∙ both.0),
                tight t i (j + 1)
                    (sym next ∙ about i ((j + 1) % q) ∙ both.1),
              )))
          | inr y ↦ inl y
        ]
        | inr y ↦ inl y
      ],
    )

-- ---- horizontal edges from the sets of two sums

-- the sum of the next index and the same one
pub sum_next : (q i j k : ℕ) → (j + k) % q ≡ i % q → ((j + 1) % q + k) % q ≡ (i + 1) % q
sum_next q i j k sum =
    let later : j + 1 + k ≡ j + k + 1 = omega arith in
    same_sum q ((j + 1) % q) k (j + 1) k (mod-mod (j + 1) q) refl ∙ ap (λ m. m % q) later
    ∙ add_same q 1 (j + k) i sum

-- the horizontal edges from the first indices of two sums
pub horizontal_at : (t : Table) (i j : ℕ) (these next : ℕ → Bool) (moved h : Bool) → i < t.order →
    j < t.order →
    h ≡ (these j && moved) → moved ≡ (ltb j t.order && next ((j + 1) % t.order)) →
    ((a b : ℕ) → a < t.order → b < t.order → (a + b) % t.order ≡ i % t.order →
    these a ≡ is_tight_in t a b) →
    ((a b : ℕ) → a < t.order → b < t.order → (a + b) % t.order ≡ (i + 1) % t.order →
    next a ≡ is_tight_in t a b) →
    h ≡ (is_tight_in t j (place_of t.order j i) && is_tight_in t ((j + 1) % t.order)
    (place_of t.order j i))
horizontal_at t i j these next moved h i_below below is moved_is these_are next_are =
    let q = t.order in
    let k = place_of q j i in
    let place = turned_place q j i below i_below in
    let up = (j + 1) % q in
    let sum : (j + k) % q ≡ i % q = place.1 ∙ sym (mod-eq_of_lt i_below) in
    is ∙ ap₂ (λ (x y : Bool). x && y) (these_are j k below place.0 sum)
    (back_in q q j next moved refl below moved_is
    ∙ next_are up k (mod-lt (j + 1) {m = q} (omega arith)) place.0 (sum_next q i j k sum))
