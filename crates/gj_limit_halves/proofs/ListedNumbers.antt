-- Limits and values that are listed one after another.
use Rattle.std.proofs.Common.{◌≡◌, ℕ, zero, suc, ◌+◌, ◌-◌, ◌*◌, ◌%◌, ◌<◌, ℤ, pos, ◌+ℤ◌, List, [], ◌∷◌, ◌++◌, length, map, All, inl, inr, refl, sym, ap, ap₂, subst, ◌∙◌, arith}
use Rattle.std.specs.List.{range_with_len}
use Rattle.std.proofs.Math.Nat.{zero-add, mod-eq_of_lt}
use Rattle.std.proofs.lemmas.Bool.{cases_lt}
use Rattle.std.proofs.lemmas.List.{get_or_past}
use Rattle.std.proofs.lemmas.List.Elements.{All-push}
use Rattle.std.proofs.lemmas.List.FromFn.{map-range_with_len_more}
use Rattle.gj_lemmas.proofs.Lists.{All-made}
use Rattle.gj_frac.specs.Fraction.{Fits}
use Rattle.gj_shape.specs.Elimination.{at_column}
use Rattle.gj_shape.specs.SlopeRows.{component_in}
use Rattle.gj_limit_system.specs.Unknowns.{value_from, interval_before, right_column, slope_column, limits_from}
use Rattle.gj_limit_halves.specs.Sides.{HasWide}

-- one more is listed
pub listed_more : (g : ℕ → ℤ) (items more : List ℤ) (i : ℕ) (x : ℤ) →
    items ≡ map g (range_with_len 0 i) →
    more ≡ items ++ x ∷ [] → x ≡ g i → more ≡ map g (range_with_len 0 (i + 1))
listed_more g items more i x e push here =
    push ∙ ap₂ (λ ys y. ys ++ y ∷ []) e here ∙ sym (map-range_with_len_more g 0 i i (zero-add i))

-- a value behind 0
behind : (q : ℕ) (x : ℕ → ℤ) (i : ℕ) → 0 < i → x (2 * (q - i) - 1) ≡ value_from q x i
behind q x zero some = absurd (omega (arith, some))
behind q x (suc i) some = refl

pub value_behind : (q : ℕ) (x : ℕ → ℤ) (i : ℕ) → 0 < i → i < q →
    x (2 * (q - i) - 1) ≡ value_from q x (i % q)
value_behind q x i some below = behind q x i some ∙ ap (value_from q x) (sym (mod-eq_of_lt below))

-- all fit with one more
pub fits_more : (items more : List ℤ) (x : ℤ) → All Fits items → more ≡ items ++ x ∷ [] → Fits x →
    All Fits more
fits_more items more x all push fits = subst (All Fits) (sym push) (All-push Fits items x all fits)

-- a limit from the left
pub left_here : (component : List ℕ) (numbers : List ℤ) (i before : ℕ) (x y z : ℤ) →
    before ≡ interval_before (length component) i →
    x ≡ at_column numbers (right_column (length component) before) →
    y ≡ at_column numbers (2 * length component - 1 + component_in component before) → z ≡ x +ℤ y →
    z ≡ (limits_from (length component) (component_in component) (at_column numbers)).left i
left_here component numbers i before x y z is first second sum =
    sum ∙ ap₂ (λ s t. s +ℤ t) first second
    ∙ ap (λ b. at_column numbers (right_column (length component) b)
    +ℤ at_column numbers (slope_column (length component) (component_in component b))) is

-- one that does not fit
pub wide_here : (component : List ℕ) (numbers : List ℤ) (i : ℕ) (z : ℤ) → i < length component →
    z ≡ (limits_from (length component) (component_in component) (at_column numbers)).left i →
    (Fits z → ⊥) →
    HasWide (length component)
    (limits_from (length component) (component_in component) (at_column numbers))
wide_here component numbers i z below is wide =
    record { i = i; below = below; wide = inl (λ fits. wide (subst Fits (sym is) fits)) }

-- numbers at columns, listed, all fit
pub column_fits : (numbers : List ℤ) (c : ℕ) → All Fits numbers → Fits (at_column numbers c)
column_fits numbers c fits = elim (cases_lt c (length numbers)) [
  | inl low ↦ fits c (pos 0) low
  | inr high ↦ subst Fits (sym (get_or_past numbers c (pos 0) high)) (omega arith)
]

value_fits : (q : ℕ) (numbers : List ℤ) (i : ℕ) → All Fits numbers →
    Fits (value_from q (at_column numbers) i)
value_fits q numbers zero fits = omega arith
value_fits q numbers (suc i) fits = column_fits numbers (2 * (q - suc i) - 1) fits

pub values_fit : (q : ℕ) (numbers : List ℤ) → All Fits numbers →
    All Fits (map (λ i. value_from q (at_column numbers) (i % q)) (range_with_len 0 q))
values_fit q numbers fits =
    All-made Fits (λ i. value_from q (at_column numbers) (i % q)) 0 q
    (λ i below. value_fits q numbers (i % q) fits)

pub rights_fit : (q : ℕ) (numbers : List ℤ) → All Fits numbers →
    All Fits (map (λ i. at_column numbers (right_column q (i % q))) (range_with_len 0 q))
rights_fit q numbers fits =
    All-made Fits (λ i. at_column numbers (right_column q (i % q))) 0 q
    (λ i below. column_fits numbers (right_column q (i % q)) fits)
