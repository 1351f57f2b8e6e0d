-- As many rows with different pivots modulo m as columns leave only 0 modulo m; and what this
-- leaves of whole numbers.
use Rattle.std.proofs.Common.{◌≡◌, ℕ, zero, suc, ◌+◌, ◌*◌, ◌<◌, ◌≤◌, ℤ, pos, ◌*ℤ◌, List, [], ◌∷◌, length, unsigned_abs, refl, sym, ap, ap₂, subst, ◌∙◌, arith}
use Rattle.std.specs.Prelude.{All}
use Rattle.std.proofs.lemmas.Int.{ints, unsigned_abs-mul}
use Rattle.std.proofs.lemmas.List.{length-map}
use Rattle.std.proofs.lemmas.List.Elements.{All-nil, All-cons, All-head, All-tail, All-from_get_or, All-get_or}
use Rattle.std.proofs.Math.Nat.{mul-le-mul_right}
use Rattle.gj_lemmas.proofs.Integers.{mul_comm_z, abs_zero_z, zero_factor_z}
use Rattle.gj_shape.specs.Elimination.{scaled}
use Rattle.gj_shape.specs.Residues.{IsZeroModulo, IsInvertible, SolvesModulo}
use Rattle.gj_shape.specs.SlopeRows.{sum_of_products}
use Rattle.gj_theory.specs.TriangularRows.{Solves}
use Rattle.gj_theory.specs.TriangularResidues.{HavePivotsModulo}
use Rattle.gj_theory.proofs.Kernels.{sum_scaled_numbers}
use Rattle.gj_theory.proofs.Modulo.{zero_none, zero_difference, zero_times, cancel_invertible}
use Rattle.gj_theory.proofs.PivotsLeaveZero.{CancelsZero, only_zero}

pub modulo_cancels : (m : ℕ) → CancelsZero (IsZeroModulo m) (IsInvertible m)
modulo_cancels m = record {
  none = zero_none m;
  difference = zero_difference m;
  times = zero_times m;
  cancel = cancel_invertible m;
}

pub only_zero_modulo : (m n : ℕ) (row : ℕ → List ℤ) (pivot : ℕ → ℕ) (numbers : List ℤ) →
    HavePivotsModulo m n row pivot →
    length numbers ≡ n → ((g : ℕ) → g < n → SolvesModulo m numbers (row g)) →
    All (IsZeroModulo m) numbers
only_zero_modulo m = only_zero (modulo_cancels m)

-- ---- the descent

-- numbers that are all 0 modulo m are m times others
divided_by : (m : ℕ) (w : List ℤ) → All (IsZeroModulo m) w → (v : List ℤ) × (scaled (pos m) v ≡ w)
divided_by m [] all = ([], refl)
divided_by m (x ∷ w) all =
    let (k, is) = All-head (IsZeroModulo m) x w all in
    let (v, rest) = divided_by m w (All-tail (IsZeroModulo m) x w all) in
    (k ∷ v, ap₂ (λ y ys. y ∷ ys) (mul_comm_z (pos m) k ∙ sym is) rest)

-- at most k in absolute value
abbrev IsWithin : ℕ → ℤ → Type 0
IsWithin k x = unsigned_abs x ≤ k

-- m times a number is larger than it, if it is not 0
smaller : (m k : ℕ) (v x : ℤ) → 1 < m → pos m *ℤ v ≡ x → IsWithin (suc k) x → IsWithin k v
smaller m k v x large is within =
    let size : m * unsigned_abs v ≡ unsigned_abs x = sym (unsigned_abs-mul (pos m) v)
    ∙ ap unsigned_abs is in
    let twice : 2 * unsigned_abs v ≤ m * unsigned_abs v = mul-le-mul_right (unsigned_abs v) large in
    omega arith

all_smaller : (m k : ℕ) (v w : List ℤ) → 1 < m → scaled (pos m) v ≡ w → All (IsWithin (suc k)) w →
    All (IsWithin k) v
all_smaller m k [] w large is all = All-nil (IsWithin k)
all_smaller m k (y ∷ v) w large is all =
    let whole : All (IsWithin (suc k)) ((pos m *ℤ y) ∷ scaled (pos m) v) =
    subst (All (IsWithin (suc k))) (sym is) all in
    All-cons (IsWithin k) y v
    (smaller m k y (pos m *ℤ y) large refl
    (All-head (IsWithin (suc k)) (pos m *ℤ y) (scaled (pos m) v) whole))
    (all_smaller m k v (scaled (pos m) v) large refl
    (All-tail (IsWithin (suc k)) (pos m *ℤ y) (scaled (pos m) v) whole))

all_within_zero : (w : List ℤ) → All (IsWithin 0) w → All (λ x. x ≡ pos 0) w
all_within_zero [] all = All-nil (λ x. x ≡ pos 0)
all_within_zero (x ∷ w) all =
    let size : unsigned_abs x ≤ 0 = All-head (IsWithin 0) x w all in
    All-cons (λ y. y ≡ pos 0) x w (abs_zero_z x (omega arith))
    (all_within_zero w (All-tail (IsWithin 0) x w all))

all_scaled_zero : (m : ℕ) (v : List ℤ) → All (λ x. x ≡ pos 0) v →
    All (λ x. x ≡ pos 0) (scaled (pos m) v)
all_scaled_zero m [] all = All-nil (λ x. x ≡ pos 0)
all_scaled_zero m (x ∷ v) all =
    let here : x ≡ pos 0 = All-head (λ y. y ≡ pos 0) x v all in
    All-cons (λ y. y ≡ pos 0) (pos m *ℤ x) (scaled (pos m) v)
    (ap (λ y. pos m *ℤ y) here ∙ omega (arith, ints))
    (all_scaled_zero m v (All-tail (λ y. y ≡ pos 0) x v all))

-- the rows are solved by numbers of which they are solved m times
divided_solves : (m : ℕ) (v : List ℤ) (rows : List (List ℤ)) → 0 < m →
    All (Solves (scaled (pos m) v)) rows → All (Solves v) rows
divided_solves m v [] some all = All-nil (Solves v)
divided_solves m v (row ∷ rows) some all =
    All-cons (Solves v) row rows
    (zero_factor_z m (sum_of_products row v) some
    (sym (sum_scaled_numbers (pos m) row v) ∙ All-head (Solves (scaled (pos m) v)) row rows all))
    (divided_solves m v rows some (All-tail (Solves (scaled (pos m) v)) row rows all))

descend : (m : ℕ) (rows : List (List ℤ)) → 1 < m → (n : ℕ) →
    ((w : List ℤ) → length w ≡ n → All (Solves w) rows → All (IsZeroModulo m) w) →
    (k : ℕ) (w : List ℤ) → length w ≡ n → All (Solves w) rows → All (IsWithin k) w →
    All (λ x. x ≡ pos 0) w
descend m rows large n divides zero w long solved within = all_within_zero w within
descend m rows large n divides (suc k) w long solved within =
    let (v, is) = divided_by m w (divides w long solved) in
    let columns : length v ≡ n = sym (length-map v (λ x. pos m *ℤ x)) ∙ ap length is ∙ long in
    let zeros =
    descend m rows large n divides k v columns
    (divided_solves m v rows (omega arith)
    (subst (λ (z : List ℤ). All (Solves z) rows) (sym is) solved))
    (all_smaller m k v w large is within) in
    subst (All (λ x. x ≡ pos 0)) is (all_scaled_zero m v zeros)

-- a bound of all numbers
bound_of : (w : List ℤ) → (k : ℕ) × All (IsWithin k) w
bound_of [] = (0, All-nil (IsWithin 0))
bound_of (x ∷ w) =
    let (k, all) = bound_of w in (
      unsigned_abs x + k,
      All-cons (IsWithin (unsigned_abs x + k)) x w (omega arith)
          (All-from_get_or (IsWithin (unsigned_abs x + k)) w (pos 0)
          (λ i below. let small = All-get_or (IsWithin k) w i (pos 0) below all in omega arith)),
    )

-- rows whose solutions are all 0 modulo m are solved by 0 only
pub only_zero_by_descent : (m n : ℕ) (rows : List (List ℤ)) (w : List ℤ) → 1 < m →
    ((v : List ℤ) → length v ≡ n → All (Solves v) rows → All (IsZeroModulo m) v) →
    length w ≡ n → All (Solves w) rows → All (λ x. x ≡ pos 0) w
only_zero_by_descent m n rows w large divides long solved =
    let (k, within) = bound_of w in descend m rows large n divides k w long solved within

pub only_zero_of_rows : (m n : ℕ) (row : ℕ → List ℤ) (pivot : ℕ → ℕ) (rows : List (List ℤ))
    (w : List ℤ) → 1 < m →
    HavePivotsModulo m n row pivot →
    ((v : List ℤ) → length v ≡ n → All (Solves v) rows → (g : ℕ) → g < n →
    SolvesModulo m v (row g)) →
    length w ≡ n → All (Solves w) rows → All (λ x. x ≡ pos 0) w
only_zero_of_rows m n row pivot rows w large pivots solves long solved =
    only_zero_by_descent m n rows w large
    (λ v columns all. only_zero_modulo m n row pivot v pivots columns (solves v columns all)) long
    solved
