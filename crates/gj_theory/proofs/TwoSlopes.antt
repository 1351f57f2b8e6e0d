-- A minimal continuous function with two slopes rises on the first interval, falls on the last, and
-- goes on each as on one of these.
use Rattle.std.proofs.Common.{◌≡◌, ℕ, zero, suc, ◌⊎◌, inl, inr, ◌+◌, ◌-◌, ◌%◌, ℤ, pos, ◌-ℤ◌, ◌≤ℤ◌, ◌<ℤ◌, ap, sym, ◌∙◌, arith}
use Rattle.std.proofs.lemmas.Int.{ints, by_lt_z}
use Rattle.gj_shape.specs.FunctionData.{FunctionData, IsWithinBounds, at}
use Rattle.gj_shape.specs.Table.{IsMinimal}
use Rattle.gj_shape.specs.TwoSlopes.{rise, HasTwoSlopes}
use Rattle.gj_theory.specs.RisesAndFalls.{RisesOrFalls}
use Rattle.gj_theory.proofs.Continuous.{HasMinimalValues, own_values}

-- the values of a minimal function
pub minimal_values : (f : FunctionData) → IsMinimal f → HasMinimalValues f
minimal_values f minimal = own_values f (minimal 1 (omega arith))

-- the value at f is 1
pub value_at_place : (f : FunctionData) → HasMinimalValues f → at f.value f.place ≡ pos f.scale
value_at_place f h =
    let opposite = h.symmetric f.place 0
    (ap (λ i. i % f.order) (let e : f.place + 0 ≡ f.place = omega arith in e)) in
    let start = h.zero_at_zero in
    omega (arith, ints)

-- the value at 1 is that at 0
pub value_at_order : (f : FunctionData) → HasMinimalValues f → at f.value f.order ≡ pos 0
value_at_order f h = ap (at f.value) (let e : f.order ≡ 0 + f.order = omega arith in e)
    ∙ h.has_period 0 ∙ h.zero_at_zero

-- ---- tables that go one way

never_rises : (v : ℕ → ℤ) → ((a : ℕ) → (v (a + 1) -ℤ v a) ≤ℤ pos 0) → (n : ℕ) → v n ≤ℤ v 0
never_rises v down zero = omega (arith, ints)
never_rises v down (suc n) =
    let next : v (suc n) ≡ v (n + 1) = ap v (omega arith) in
    let before = never_rises v down n in
    let step = down n in
    omega (arith, ints)

never_falls : (v : ℕ → ℤ) → ((a : ℕ) → pos 0 ≤ℤ (v (a + 1) -ℤ v a)) → (k n : ℕ) → v k ≤ℤ v (k + n)
never_falls v up k zero = let here : v (k + zero) ≡ v k = ap v (omega arith) in omega (arith, ints)
never_falls v up k (suc n) =
    let next : v (k + suc n) ≡ v (k + n + 1) = ap v (omega arith) in
    let before = never_falls v up k n in
    let step = up (k + n) in
    omega (arith, ints)

-- ---- two slopes

-- a step that does not fall and one that does not rise, of two slopes of which one falls and one
-- rises
by_signs : (x y first last r : ℤ) → (x <ℤ pos 0) ⊎ (y <ℤ pos 0) → (pos 0 <ℤ x) ⊎ (pos 0 <ℤ y) →
    pos 0 ≤ℤ first → last ≤ℤ pos 0 → (first ≡ x) ⊎ (first ≡ y) → (last ≡ x) ⊎ (last ≡ y) →
    (r ≡ x) ⊎ (r ≡ y) →
    (pos 0 <ℤ first) × (last <ℤ pos 0) × ((r ≡ first) ⊎ (r ≡ last))
by_signs x y first last r below above up down (inl e) (inl g) h = elim below [
  | inl b ↦ absurd (omega (arith, ints))
  | inr b ↦ elim above
      [ inl c ↦ absurd (omega (arith, ints)) | inr c ↦ absurd (omega (arith, ints)) ]
]
by_signs x y first last r below above up down (inl e) (inr g) h =
    let falls : y <ℤ pos 0 = elim below [ inl b ↦ absurd (omega (arith, ints)) | inr b ↦ b ] in
    let rises : pos 0 <ℤ x = elim above [ inl c ↦ c | inr c ↦ absurd (omega (arith, ints)) ] in (
      omega (arith, ints),
      omega (arith, ints),
      elim h
          [ inl a ↦ inl (a ∙ sym e) | inr a ↦ inr (a ∙ sym g) ],
    )
by_signs x y first last r below above up down (inr e) (inl g) h =
    let falls : x <ℤ pos 0 = elim below [ inl b ↦ b | inr b ↦ absurd (omega (arith, ints)) ] in
    let rises : pos 0 <ℤ y = elim above [ inl c ↦ absurd (omega (arith, ints)) | inr c ↦ c ] in (
      omega (arith, ints),
      omega (arith, ints),
      elim h
          [ inl a ↦ inr (a ∙ sym g) | inr a ↦ inl (a ∙ sym e) ],
    )
by_signs x y first last r below above up down (inr e) (inr g) h = elim below [
  | inl b ↦ elim above
      [ inl c ↦ absurd (omega (arith, ints)) | inr c ↦ absurd (omega (arith, ints)) ]
  | inr b ↦ absurd (omega (arith, ints))
]

-- one of the two slopes falls
one_falls : (v : ℕ → ℤ) (x y : ℤ) (k n : ℕ) →
    ((a : ℕ) → (v (a + 1) -ℤ v a ≡ x) ⊎ (v (a + 1) -ℤ v a ≡ y)) →
    v (k + n) <ℤ v k → (x <ℤ pos 0) ⊎ (y <ℤ pos 0)
one_falls v x y k n each lower =
    by_lt_z x (pos 0) inl
    (λ x_up. by_lt_z y (pos 0) inr
    (λ y_up. let up = never_falls v
    (λ a. elim (each a) [ inl e ↦ omega (arith, ints) | inr e ↦ omega (arith, ints) ]) k n in
    absurd (omega (arith, ints))))

-- one of the two slopes rises
one_rises : (v : ℕ → ℤ) (x y : ℤ) (n : ℕ) →
    ((a : ℕ) → (v (a + 1) -ℤ v a ≡ x) ⊎ (v (a + 1) -ℤ v a ≡ y)) →
    v 0 <ℤ v n → (pos 0 <ℤ x) ⊎ (pos 0 <ℤ y)
one_rises v x y n each higher =
    by_lt_z (pos 0) x inl
    (λ x_down. by_lt_z (pos 0) y inr
    (λ y_down. let down =
    never_rises v (λ a. elim (each a)
    [ inl e ↦ omega (arith, ints) | inr e ↦ omega (arith, ints) ]) n in
    absurd (omega (arith, ints))))

pub rises_and_falls : (f : FunctionData) → IsWithinBounds f → IsMinimal f → HasTwoSlopes f →
    RisesOrFalls f
rises_and_falls f l minimal two = record {
  first_rises = (parts 0).0;
  last_falls = (parts 0).1;
  each = λ a. (parts a).2;
}
  where
    h : HasMinimalValues f
    h = minimal_values f minimal

    below : (rise f two.one <ℤ pos 0) ⊎ (rise f two.other <ℤ pos 0)
    below =
        let place = value_at_place f h in
        let last : at f.value (f.place + (f.order - f.place)) ≡ pos 0 =
        ap (at f.value) (let e : f.place + (f.order - f.place) ≡ f.order =
        omega (arith, l.place_high) in e) ∙ value_at_order f h in
        one_falls (at f.value) (rise f two.one) (rise f two.other) f.place
        (f.order - f.place) two.each
        (omega (arith, ints, l.scale_low))

    above : (pos 0 <ℤ rise f two.one) ⊎ (pos 0 <ℤ rise f two.other)
    above =
        let place = value_at_place f h in
        let start = h.zero_at_zero in
        one_rises (at f.value) (rise f two.one) (rise f two.other) f.place two.each
        (omega (arith, ints, l.scale_low))

    up : pos 0 ≤ℤ rise f 0
    up = let start = h.zero_at_zero in let first = h.nonnegative (0 + 1) in omega (arith, ints)

    down : rise f (f.order - 1) ≤ℤ pos 0
    down =
        let end : at f.value (f.order - 1 + 1) ≡ pos 0 =
        ap (at f.value) (let e : f.order - 1 + 1 ≡ f.order = omega (arith, l.order_low) in e)
        ∙ value_at_order f h in
        let last = h.nonnegative (f.order - 1) in
        omega (arith, ints)

    parts : (a : ℕ) → (pos 0 <ℤ rise f 0) × (rise f (f.order - 1) <ℤ pos 0)
        × ((rise f a ≡ rise f 0) ⊎ (rise f a ≡ rise f (f.order - 1)))
    parts a =
        by_signs (rise f two.one) (rise f two.other) (rise f 0) (rise f (f.order - 1))
        (rise f a) below above up down
        (two.each 0) (two.each (f.order - 1)) (two.each a)
