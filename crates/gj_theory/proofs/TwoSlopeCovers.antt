-- The intervals of a minimal continuous function with two slopes are covered, in two components at
-- most.
use Rattle.std.proofs.Common.{◌≡◌, ℕ, inl, inr, ◌+◌, ◌-◌, ◌%◌, ◌<◌, ◌≤◌, ◌==◌, Bool, true, false, cond, int_eq, pos, List, [], ◌∷◌, refl, sym, ap, ◌∙◌, arith}
use Rattle.std.proofs.lemmas.Bool.{eqb-true}
use Rattle.std.proofs.lemmas.Bool.Decides.{Decides-int_eq}
use Rattle.std.proofs.lemmas.Int.{ints}
use Rattle.std.proofs.lemmas.List.Elements.{All-cons, All-nil}
use Rattle.gj_shape.specs.Additive.{IsTight, IsAdditive}
use Rattle.gj_shape.specs.Cover.{IsOneOf, AreJoined, IsDirectlyCovered, IsCovered, AreInOneComponent, LeadsTo, AreCoverLines, components_in}
use Rattle.gj_shape.specs.Cover.LeadsTo.{here, onward}
use Rattle.gj_shape.specs.FunctionData.{FunctionData, at}
use Rattle.gj_shape.specs.TwoSlopes.{rise}
use Rattle.gj_shape.specs.declared.extremality.CoverLine.{CoverLine}
use Rattle.gj_shape.specs.declared.faces.FaceKind.TheVariants.{Lower, Upper}
use Rattle.gj_theory.specs.RisesAndFalls.{RisesOrFalls}
use Rattle.gj_theory.proofs.Continuous.{HasMinimalValues}
use Rattle.gj_theory.proofs.CoverPaths.{leads_through, leads_turned}
use Rattle.gj_theory.proofs.FewPassing.{few_passing}
use Rattle.gj_theory.proofs.OpeningLines.{openings_apart}
use Rattle.gj_theory.proofs.TwoSlopes.{value_at_order}

-- ---- the triangles

pub rising_lower : (f : FunctionData) (a : ℕ) → HasMinimalValues f → rise f a ≡ rise f 0 →
    IsAdditive (IsTight f) Lower 0 a
rising_lower f a h same =
    let start = h.zero_at_zero in
    let P : ℕ × ℕ → Type 0 = λ corner. IsTight f corner.0 corner.1 in
    let low : at f.value (0 + a) ≡ at f.value a = ap (at f.value) (omega arith) in
    let turned : at f.value (0 + 1 + a) ≡ at f.value (a + 1) = ap (at f.value) (omega arith) in
    let next : at f.value (0 + (a + 1)) ≡ at f.value (a + 1) = ap (at f.value) (omega arith) in
    let first : IsTight f 0 a = omega (arith, ints) in
    let second : IsTight f (0 + 1) a = omega (arith, ints) in
    let third : IsTight f 0 (a + 1) = omega (arith, ints) in
    All-cons P (0, a) ((0 + 1, a) ∷ (0, a + 1) ∷ []) first
    (All-cons P (0 + 1, a) ((0, a + 1) ∷ []) second (All-cons P (0, a + 1) [] third (All-nil P)))

pub falling_upper : (f : FunctionData) (a : ℕ) → 0 < f.order → HasMinimalValues f →
    rise f a ≡ rise f (f.order - 1) →
    IsAdditive (IsTight f) Upper (f.order - 1) a
falling_upper f a some h same =
    let l = f.order - 1 in
    let P : ℕ × ℕ → Type 0 = λ corner. IsTight f corner.0 corner.1 in
    let end : at f.value (l + 1) ≡ pos 0 =
    ap (at f.value) (let e : l + 1 ≡ f.order = omega arith in e) ∙ value_at_order f h in
    let around = λ (i k : ℕ) (e : k ≡ i + f.order). ap (at f.value) e ∙ h.has_period i in
    let first_sum : at f.value (l + 1 + a) ≡ at f.value a = around a (l + 1 + a) (omega arith) in
    let second_sum : at f.value (l + (a + 1)) ≡ at f.value a =
    around a (l + (a + 1)) (omega arith) in
    let third_sum : at f.value (l + 1 + (a + 1)) ≡ at f.value (a + 1) =
    around (a + 1) (l + 1 + (a + 1)) (omega arith) in
    let first : IsTight f (l + 1) a = omega (arith, ints) in
    let second : IsTight f l (a + 1) = omega (arith, ints) in
    let third : IsTight f (l + 1) (a + 1) = omega (arith, ints) in
    All-cons P (l + 1, a) ((l, a + 1) ∷ (l + 1, a + 1) ∷ []) first
    (All-cons P (l, a + 1) ((l + 1, a + 1) ∷ []) second
    (All-cons P (l + 1, a + 1) [] third (All-nil P)))

-- ---- joined intervals

-- an element of a list of three
pub first_of_three : (q x y z i : ℕ) → x ≡ i → IsOneOf q (x ∷ y ∷ z ∷ []) i
first_of_three q x y z i e = (0, x, omega arith, refl, ap (λ k. k % q) e)

pub second_of_three : (q x y z i : ℕ) → y ≡ i → IsOneOf q (x ∷ y ∷ z ∷ []) i
second_of_three q x y z i e = (1, y, omega arith, refl, ap (λ k. k % q) e)

-- the interval and the first or the last are projections of one additive triangle
pub joined_first : (f : FunctionData) (a : ℕ) → HasMinimalValues f → rise f a ≡ rise f 0 →
    AreJoined f.order (IsTight f) a 0
joined_first f a h same = (
  Lower,
  0,
  a,
  record {
    additive = rising_lower f a h same;
    first = second_of_three f.order 0 a (0 + a) a refl;
    second = first_of_three f.order 0 a (0 + a) 0 refl;
  },
)

pub joined_last : (f : FunctionData) (a : ℕ) → 0 < f.order → HasMinimalValues f →
    rise f a ≡ rise f (f.order - 1) →
    AreJoined f.order (IsTight f) a (f.order - 1)
joined_last f a some h same = (
  Upper,
  f.order - 1,
  a,
  record {
    additive = falling_upper f a some h same;
    first = second_of_three f.order (f.order - 1) a (f.order - 1 + a + 1) a refl;
    second = first_of_three f.order (f.order - 1) a (f.order - 1 + a + 1) (f.order - 1) refl;
  },
)

-- each interval is a projection of such a triangle
covered_directly : (f : FunctionData) (a : ℕ) → 0 < f.order → HasMinimalValues f → RisesOrFalls f →
    IsDirectlyCovered f.order (IsTight f) a
covered_directly f a some h goes = elim (goes.each a) [
  | inl same ↦ (
    Lower,
    0,
    a,
    record {
      additive = rising_lower f a h same;
      projection =
          second_of_three f.order 0 a (0 + a) a refl;
    },
  )
  | inr same ↦ (
    Upper,
    f.order - 1,
    a,
    record {
      additive = falling_upper f a some h same;
      projection = second_of_three f.order (f.order - 1) a (f.order - 1 + a + 1) a refl;
    },
  )
]

pub covered : (f : FunctionData) (a : ℕ) → 0 < f.order → HasMinimalValues f → RisesOrFalls f →
    IsCovered f.order (IsTight f) a
covered f a some h goes = (a, covered_directly f a some h goes, here a refl)

-- ---- components

-- from an interval to the first or the last
to_first : (f : FunctionData) (a : ℕ) → HasMinimalValues f → rise f a ≡ rise f 0 →
    LeadsTo f.order (IsTight f) 0 a
to_first f a h same = onward a 0 (joined_first f a h same) (here 0 refl)

to_last : (f : FunctionData) (a : ℕ) → 0 < f.order → HasMinimalValues f →
    rise f a ≡ rise f (f.order - 1) →
    LeadsTo f.order (IsTight f) (f.order - 1) a
to_last f a some h same = onward a (f.order - 1) (joined_last f a some h same)
    (here (f.order - 1) refl)

-- from an interval to one with the same slope
pub leads_alike : (f : FunctionData) (a b : ℕ) → 0 < f.order → HasMinimalValues f → RisesOrFalls f →
    rise f a ≡ rise f b →
    LeadsTo f.order (IsTight f) b a
leads_alike f a b some h goes same = elim (goes.each b) [
  | inl is ↦
      leads_through f.order (IsTight f) b 0 a
      (leads_turned f.order (IsTight f) 0 b (to_first f b h is)) (to_first f a h (same ∙ is))
  | inr is ↦
      leads_through f.order (IsTight f) b (f.order - 1) a
      (leads_turned f.order (IsTight f) (f.order - 1) b (to_last f b some h is))
      (to_last f a some h (same ∙ is))
]

pub alike_in_component : (f : FunctionData) (a b : ℕ) → 0 < f.order → HasMinimalValues f →
    RisesOrFalls f → rise f a ≡ rise f b →
    AreInOneComponent f.order (IsTight f) a b
alike_in_component f a b some h goes same =
    (covered f a some h goes, covered f b some h goes, leads_alike f a b some h goes same)

-- 0 for a slope like that of the first interval, 1 for any other
slope_class : FunctionData → ℕ → ℕ
slope_class f a = cond (int_eq (rise f a) (rise f 0)) 0 1

class_below : (f : FunctionData) (a : ℕ) → slope_class f a < 2
unfolding slope_class
class_below f a = by_test (int_eq (rise f a) (rise f 0))
  where
    by_test : (b : Bool) → cond b 0 1 < 2
    by_test true = omega arith
    by_test false = omega arith

-- intervals of one class have one slope
alike_in_class : (f : FunctionData) (a b : ℕ) → RisesOrFalls f → slope_class f a ≡ slope_class f b →
    rise f a ≡ rise f b
unfolding slope_class
alike_in_class f a b goes same =
    by_tests (int_eq (rise f a) (rise f 0)) (int_eq (rise f b) (rise f 0)) refl refl same
  where
    not_first : (i : ℕ) → int_eq (rise f i) (rise f 0) ≡ false → rise f i ≡ rise f (f.order - 1)
    not_first i e = elim (goes.each i) [
      | inl is ↦ let t = (Decides-int_eq (rise f i) (rise f 0)).1 is in absurd (cc)
      | inr is ↦ is
    ]

    by_tests : (s t : Bool) → int_eq (rise f a) (rise f 0) ≡ s → int_eq (rise f b) (rise f 0) ≡ t →
        cond {A = ℕ} s 0 1 ≡ cond t 0 1 → rise f a ≡ rise f b
    by_tests true true e g same = (Decides-int_eq (rise f a) (rise f 0)).0 e
        ∙ sym ((Decides-int_eq (rise f b) (rise f 0)).0 g)
    by_tests true false e g same = absurd (omega arith)
    by_tests false true e g same = absurd (omega arith)
    by_tests false false e g same = not_first a e ∙ sym (not_first b g)

pub two_components : (f : FunctionData) (lines : List CoverLine) → 0 < f.order →
    HasMinimalValues f → RisesOrFalls f →
    AreCoverLines f.order (IsTight f) lines → components_in lines ≤ 2
two_components f lines some h goes cover =
    few_passing (λ l. l.from == l.interval) (λ l. slope_class f l.interval) 2 lines
    (λ l. class_below f l.interval)
    (record {
      apart = λ before l middle m after place first second same.
          openings_apart f.order (IsTight f) lines before l middle m after cover place
          (eqb-true m.from m.interval second)
          (leads_alike f l.interval m.interval some h goes
          (alike_in_class f l.interval m.interval goes same));
    })
