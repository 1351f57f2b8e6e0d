-- A continuous minimal function is extreme if cover lines and rows leave no perturbation but 0.
use Rattle.std.proofs.Common.{◌≡◌, ℕ, zero, suc, ◌+◌, ◌*◌, ◌/◌, ◌%◌, ◌<◌, ◌≤◌, ◌==◌, true, ℤ, pos, ◌+ℤ◌, ◌-ℤ◌, ◌*ℤ◌, List, [], ◌∷◌, All, length, count_by, refl, ap, sym, subst, ◌∙◌, arith}
use Rattle.std.proofs.Math.Nat.{mod-mod, mod-lt, mul-pos, div-add-mod'}
use Rattle.std.proofs.lemmas.Bool.Decides.{Decides-int_eq}
use Rattle.std.proofs.lemmas.Int.{ints}
use Rattle.std.proofs.lemmas.List.FromFn.{length-map-range_with_len}
use Rattle.std.proofs.lemmas.List.Elements.{All-cons, All-nil}
use Rattle.std.proofs.lemmas.Nat.{div_below}
use Rattle.gj_lemmas.proofs.Integers.{mul_add_z, mul_sub_z, zero_factor_z}
use Rattle.gj_lemmas.proofs.Lists.{made_has}
use Rattle.gj_lemmas.proofs.Quotients.{same_at_remainder}
use Rattle.gj_lemmas.proofs.Ring.{by_ring, ring}
use Rattle.gj_shape.specs.Additive.{IsTight, IsAdditive}
use Rattle.gj_shape.specs.Cover.{HasComponent}
use Rattle.gj_shape.specs.Extreme.{IsExtreme}
use Rattle.gj_shape.specs.FunctionData.{FunctionData, IsWithinBounds, IsContinuous, at}
use Rattle.gj_shape.specs.SlopeRows.{is_tight, row_names, row_of, sum_of_products, SolveRows}
use Rattle.gj_shape.specs.Table.{table, IsMinimal}
use Rattle.gj_shape.specs.declared.extremality.CoverLine.{CoverLine}
use Rattle.gj_shape.specs.declared.extremality.RowName.{RowName}
use Rattle.gj_shape.specs.declared.extremality.RowName.TheVariants.{Period, F, Pair}
use Rattle.gj_shape.specs.declared.faces.FaceKind.TheVariants.{Vertex}
use Rattle.gj_theory.specs.CoverRules.{MeetsCoverRules}
use Rattle.gj_theory.specs.Steps.{HasStep, HasStepOn, IsAdditiveOnGrid}
use Rattle.gj_theory.specs.PivotRows.{HavePivots}
use Rattle.gj_theory.proofs.AverageDifference.{difference_additive, difference_zero}
use Rattle.gj_theory.proofs.CarriedSteps.{same_place}
use Rattle.gj_theory.proofs.CoverSteps.{number_below, one_step_a_component}
use Rattle.gj_theory.proofs.SlopeSums.{sum_before, slopes_of, period_row, place_row, pair_row}
use Rattle.gj_theory.proofs.TightFaces.{tight_in_face}
use Rattle.gj_theory.proofs.OrderedPairs.{made_of_pairs, all_pairs}
use Rattle.gj_theory.proofs.PivotsLeaveZero.{whole_cancels, only_zero}

-- ---- values from slopes

along_run : (p : ℕ → ℤ) (a m : ℕ) (t : ℤ) → HasStep p a m t → (k : ℕ) → k ≤ m →
    p (a + k) ≡ p a +ℤ pos k *ℤ t
along_run p a m t step zero low =
    let none : pos 0 *ℤ t ≡ pos 0 = omega (arith, ints) in
    let here : p (a + zero) ≡ p a = ap p (omega arith) in
    omega (arith, ints)
along_run p a m t step (suc k) low =
    let before = along_run p a m t step k (omega arith) in
    let next : p (a + suc k) ≡ p (a + k + 1) = ap p (omega arith) in
    let one = step k (omega arith) in
    let more : pos (suc k) *ℤ t ≡ pos k *ℤ t +ℤ t =
    by_ring (pos k ∷ t ∷ []) (search ring depth 20) refl in
    omega (arith, ints)

-- at the multiples of 1/order
pub value_from_slopes : (p : ℕ → ℤ) (q m : ℕ) (slope : ℕ → ℤ) → p 0 ≡ pos 0 →
    ((i : ℕ) → i < q → HasStepOn p m i (slope i)) →
    (i : ℕ) → i ≤ q → p (i * m) ≡ pos m *ℤ sum_before slope i
unfolding sum_before
value_from_slopes p q m slope start steps zero low =
    let here : p (zero * m) ≡ p 0 = ap p (omega arith) in
    let none : pos m *ℤ pos 0 ≡ pos 0 = omega (arith, ints) in
    omega (arith, ints)
value_from_slopes p q m slope start steps (suc i) low =
    let next : p (suc i * m) ≡ p (i * m + m) = ap p (omega arith) in
    let before = value_from_slopes p q m slope start steps i (omega arith) in
    let run = along_run p (i * m) m (slope i) (steps i (omega arith)) m (omega arith) in
    let split = mul_add_z (pos m) (sum_before slope i) (slope i) in
    omega (arith, ints)

-- ---- the slopes of a perturbation solve the rows

-- tight pairs among the rows
pair_is_tight : (f : FunctionData) (a b : ℕ) → is_tight f a b ≡ true → IsTight f a b
pair_is_tight f a b e = (Decides-int_eq (at f.value a +ℤ at f.value b) (at f.value (a + b))).0 e

-- what holds at the period, at f and at tight pairs below the order holds of all rows
pub each_row : (P : RowName → Type 0) (f : FunctionData) → P Period → P F →
    ((a b : ℕ) → a < f.order → b < f.order → IsTight f a b → P (Pair a b)) → All P (row_names f)
each_row P f period place pairs =
    let rest = made_of_pairs Pair (is_tight f) f.order in
    All-cons P Period (F ∷ rest) period
    (All-cons P F rest place
    (all_pairs P Pair (is_tight f) f.order
    (λ a b a_low b_low passes. pairs a b a_low b_low (pair_is_tight f a b passes))))

-- the sum of the values at two places, if the table is additive
pair_of_values : (f : FunctionData) (m a b : ℕ) (p : ℕ → ℤ) → IsContinuous f → 0 < m →
    IsAdditiveOnGrid f m p →
    IsTight f a b → p (a * m) +ℤ p (b * m) ≡ p ((a + b) % f.order * m)
pair_of_values f m a b p continuous some h tight =
    let face : IsAdditive (IsTight f) Vertex a b =
    All-cons (λ corner. IsTight f corner.0 corner.1) (a, b) [] tight
    (All-nil (λ corner. IsTight f corner.0 corner.1)) in
    let sum : a * m + b * m ≡ (a + b) * m + 0 = omega arith in
    let rest : (a + b) % f.order * m ≡ (a + b) % f.order * m + 0 = omega arith in
    h.additive (a * m) (b * m)
    (tight_in_face f m Vertex a b (a * m) (b * m) continuous some face (refl, refl))
    ∙ same_at_remainder p (f.order * m) h.has_period (a * m + b * m) ((a + b) % f.order * m)
    (same_place (a + b) ((a + b) % f.order) f.order m 0 _ _
    (sym (mod-mod (a + b) f.order)) sum rest)

slopes_solve : (f : FunctionData) (m n : ℕ) (p s : ℕ → ℤ) (component : ℕ → ℕ) → IsWithinBounds f →
    IsContinuous f → 0 < m →
    IsAdditiveOnGrid f m p → p 0 ≡ pos 0 → p (f.place * m) ≡ pos 0 →
    ((i : ℕ) → i < f.order → component i < n) →
    ((i : ℕ) → i < f.order → HasStepOn p m i (s (component i))) →
    SolveRows component n f (slopes_of s n)
slopes_solve f m n p s component l continuous some h start place below steps =
    let slope = λ (i : ℕ). s (component i) in
    let value = value_from_slopes p f.order m slope start steps in
    let order_some : 0 < f.order = omega (arith, l.order_low) in
    let place_low : f.place ≤ f.order = omega (arith, l.place_high) in
    let whole : f.order * m ≡ 0 + f.order * m = omega arith in
    each_row (λ name. sum_of_products (row_of component n f.order f.place name) (slopes_of s n)
    ≡ pos 0) f
    (period_row component s n f.order f.place below
    ∙ zero_factor_z m (sum_before slope f.order) some
    (sym (value f.order (omega arith)) ∙ ap p whole ∙ h.has_period 0 ∙ start))
    (place_row component s n f.order f.place below place_low
    ∙ zero_factor_z m (sum_before slope f.place) some (sym (value f.place place_low) ∙ place))
    (λ a b a_low b_low tight.
    let r = (a + b) % f.order in
    let r_low : r < f.order = mod-lt (a + b) order_some in
    let first = value a (omega arith) in
    let second = value b (omega arith) in
    let third = value r (omega arith) in
    let pair : p (a * m) +ℤ p (b * m) ≡ p (r * m) =
    pair_of_values f m a b p continuous some h tight in
    let split = mul_sub_z (pos m) (sum_before slope a +ℤ sum_before slope b) (sum_before slope r) in
    let sum = mul_add_z (pos m) (sum_before slope a) (sum_before slope b) in
    pair_row component s n f.order f.place a b below (omega arith) (omega arith) (omega arith)
    ∙ zero_factor_z m (sum_before slope a +ℤ sum_before slope b -ℤ sum_before slope r) some
    (omega (arith, ints)))

-- ---- a table with only the step 0

zero_upto : (p : ℕ → ℤ) (q m : ℕ) → 0 < m → p 0 ≡ pos 0 →
    ((i : ℕ) → i < q → HasStepOn p m i (pos 0)) →
    (x : ℕ) → x ≤ q * m → p x ≡ pos 0
zero_upto p q m some start steps zero low = start
zero_upto p q m some start steps (suc x) low =
    let before = zero_upto p q m some start steps x (omega arith) in
    let parts = div-add-mod' x m in
    let step = steps (x / m) (div_below x m q some (omega arith)) (x % m) (mod-lt x some) in
    let here : p (x / m * m + x % m) ≡ p x = ap p parts in
    let next : p (x / m * m + x % m + 1) ≡ p (suc x) = ap p (omega arith) in
    omega (arith, ints)

pub zero_everywhere : (p : ℕ → ℤ) (q m : ℕ) → 0 < q → 0 < m → ((i : ℕ) → p (i + q * m) ≡ p i) →
    p 0 ≡ pos 0 →
    ((i : ℕ) → i < q → HasStepOn p m i (pos 0)) → (x : ℕ) → p x ≡ pos 0
zero_everywhere p q m q_some m_some period start steps x =
    let below = mod-lt x (mul-pos q_some m_some) in
    same_at_remainder p (q * m) period x (x % (q * m)) (sym (mod-mod x (q * m)))
    ∙ zero_upto p q m m_some start steps (x % (q * m)) (omega arith)

-- ---- extreme functions

-- a perturbation is 0 everywhere
no_perturbation : (f : FunctionData) (lines : List CoverLine) (component : ℕ → ℕ) (n m : ℕ) (p : ℕ →
    ℤ) →
    IsWithinBounds f → IsContinuous f → MeetsCoverRules f.order (IsTight f) lines →
    ((i : ℕ) → i < f.order → HasComponent lines (component i) i) →
    n ≡ count_by (λ l. l.from == l.interval) lines →
    ((slopes : List ℤ) → length slopes ≡ n → SolveRows component n f slopes →
    All (λ x. x ≡ pos 0) slopes) →
    0 < m → IsAdditiveOnGrid f m p → p 0 ≡ pos 0 → p (f.place * m) ≡ pos 0 → (x : ℕ) → p x ≡ pos 0
no_perturbation f lines component n m p l continuous rules has counted only some h start place =
    let steps = one_step_a_component f m p lines continuous some h rules in
    let s = steps.0 in
    let below = λ (i : ℕ) (low : i < f.order).
    subst (λ (k : ℕ). component i < k) (sym counted)
    (number_below lines (component i) i (has i low)) in
    let own = λ (i : ℕ) (low : i < f.order). steps.1 (component i) i (has i low) in
    let zeros = only (slopes_of s n) (length-map-range_with_len s 0 n)
    (slopes_solve f m n p s component l continuous some h start place below own) in
    let none = λ (i : ℕ) (low : i < f.order).
    subst (λ (t : ℤ). HasStepOn p m i t)
    (made_has (λ t. t ≡ pos 0) s (component i) n (below i low) zeros) (own i low) in
    zero_everywhere p f.order m (omega (arith, l.order_low)) some h.has_period start none

pub extreme_by_cover : (f : FunctionData) (lines : List CoverLine) (component : ℕ → ℕ) (n : ℕ) →
    IsWithinBounds f → IsContinuous f → IsMinimal f → MeetsCoverRules f.order (IsTight f) lines →
    ((i : ℕ) → i < f.order → HasComponent lines (component i) i) →
    n ≡ count_by (λ l. l.from == l.interval) lines →
    ((slopes : List ℤ) → length slopes ≡ n → SolveRows component n f slopes →
    All (λ x. x ≡ pos 0) slopes) →
    IsExtreme f
extreme_by_cover f lines component n l continuous minimal rules has counted only m some = record {
  minimal = minimal m some;
  no_average = λ c a b c_some first second average i.
      let t = table f m in
      let starts = difference_zero t a (f.order * m) (f.place * m) (f.scale * m) c
      (minimal m some) first in
      let additive = difference_additive t a b (f.order * m) (f.place * m) (f.scale * m) c
      (minimal m some) first second average in
      let none = no_perturbation f lines component n m (λ x. a x -ℤ pos c *ℤ t x) l continuous rules
      has counted only some
      additive starts.0 starts.1 i in
      let twice : pos (2 * c) *ℤ t i ≡ pos c *ℤ t i +ℤ pos c *ℤ t i =
      by_ring (pos c ∷ t i ∷ []) (search ring depth 20) refl in
      omega (arith, ints, average i);
}

pub extreme_by_rows : (f : FunctionData) (lines : List CoverLine) (component : ℕ → ℕ) (n : ℕ)
    (row : ℕ → List ℤ) (pivot : ℕ → ℕ) →
    IsWithinBounds f → IsContinuous f → IsMinimal f → MeetsCoverRules f.order (IsTight f) lines →
    ((i : ℕ) → i < f.order → HasComponent lines (component i) i) →
    n ≡ count_by (λ l. l.from == l.interval) lines →
    HavePivots n row pivot →
    ((slopes : List ℤ) → length slopes ≡ n → SolveRows component n f slopes →
    (g : ℕ) → g < n → sum_of_products (row g) slopes ≡ pos 0) →
    IsExtreme f
extreme_by_rows f lines component n row pivot l continuous minimal rules has counted rows solved =
    extreme_by_cover f lines component n l continuous minimal rules has counted
    (λ slopes long solve. only_zero whole_cancels n row pivot slopes rows long
    (solved slopes long solve))
