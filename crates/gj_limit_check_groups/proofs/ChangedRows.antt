-- Rows whose entries are all changed, and what they are as whole rows.
use Rattle.std.proofs.Common.{◌≡◌, ◌≢◌, ℕ, zero, suc, ◌+◌, ◌*◌, ◌<◌, ◌≤◌, ◌⊎◌, inl, inr, Bool, true, false, cond, ℤ, pos, ◌-ℤ◌, ◌*ℤ◌, ◌<ℤ◌, int_div, List, [], ◌∷◌, map, unsigned_abs, eqb, refl, sym, ap, ap₂, subst, ◌∙◌, arith, lit<}
use Rattle.std.specs.Prelude.{All}
use Rattle.std.specs.Int.{◌∣◌}
use Rattle.std.specs.List.{range_with_len}
use Rattle.std.proofs.lemmas.Bool.{cases_eq}
use Rattle.std.proofs.lemmas.Int.{ints, unsigned_abs-mul}
use Rattle.std.proofs.lemmas.List.Elements.{All-nil, All-cons, All-head, All-tail}
use Rattle.std.proofs.lemmas.Nat.Gcd.{dvd_trans}
use Rattle.std.proofs.Math.Nat.{mul-le-mul_right, dvd-zero}
use Rattle.gj_lemmas.specs.Divisors.{gcd_of}
use Rattle.gj_lemmas.proofs.Divisors.{gcd_of_is}
use Rattle.gj_lemmas.proofs.Integers.{abs_zero_z, mul_comm_z, mul_cancel_left_z}
use Rattle.gj_frac.specs.Fraction.{Fits}
use Rattle.gj_frac.proofs.Reduced.{quotient_of_divisor}
use Rattle.gj_shape.specs.Elimination.{gcd_of_row}
use Rattle.gj_shape.specs.Residues.{residue, IsZeroModulo}
use Rattle.gj_theory.specs.Modulus.{modulus}
use Rattle.gj_theory.proofs.DividedRows.{smaller, negated_fits}
use Rattle.gj_theory.proofs.Modulo.{residue_same, cancel_invertible, zero_is}
use Rattle.gj_theory.proofs.RowGcds.{gcd_zero_of}
use Rattle.gj_check_groups.specs.RowNumbers.{IsResidue}
use Rattle.gj_check_groups.proofs.ResidueRows.{residue_is}
use Rattle.gj_sparse_elim.specs.declared.entry.Entry.{Entry}
use Rattle.gj_sparse_elim.specs.Sparse.{factor_at, dense, AreSparseFrom, AreSparse}
use Rattle.gj_sparse_elim.proofs.SparseRows.{factor_here, factor_later, factor_before}
use Rattle.gj_limit_check_groups.specs.declared.change.Change.{Change}
use Rattle.gj_limit_check_groups.specs.declared.change.Change.TheVariants.{Divide, Negate, Read, Multiply}
use Rattle.gj_limit_check_groups.specs.Changes.{CanChange, changed, changed_entry}
use Rattle.gj_limit_check_groups.proofs.MergedRows.{residue_fits}

-- ---- one factor

-- only 0 is below the modulus and a multiple of it
small_zero : (m : ℕ) (x : ℤ) → unsigned_abs x < m → IsZeroModulo m x → x ≡ pos 0
small_zero m x small (k, is) = by_size (unsigned_abs k) refl
  where
    size : unsigned_abs x ≡ unsigned_abs k * m
    size = ap unsigned_abs is ∙ unsigned_abs-mul k (pos m)

    by_size : (n : ℕ) → unsigned_abs k ≡ n → x ≡ pos 0
    by_size zero none = abs_zero_z x
        (let no : unsigned_abs k * m ≡ 0 * m = ap (λ n. n * m) none in omega (arith, size))
    by_size (suc n) some =
        let more : 1 * m ≤ suc n * m = mul-le-mul_right m (omega arith) in
        let same : unsigned_abs k * m ≡ suc n * m = ap (λ j. j * m) some in
        absurd (omega (arith, size))

residue_none : (x : ℤ) → residue modulus x ≡ pos 0 → IsZeroModulo modulus x
residue_none x none =
    let same = residue_same modulus x (lit< tt) in
    zero_is modulus x (x -ℤ residue modulus x) (let all : x ≡ x -ℤ residue modulus x =
    omega (arith, ints) in all) same

residue_size : (x : ℤ) → IsResidue x → unsigned_abs x < modulus
residue_size x is = let low = is.low in let below = is.below in omega (arith, ints)

no_quotient : (q d x : ℤ) → q *ℤ d ≡ x → q ≡ pos 0 → x ≡ pos 0
no_quotient q d x is none = sym is ∙ ap (λ z. z *ℤ d) none ∙ omega (arith, ints)

-- a quotient fits
quotient_fits : (d x : ℤ) → CanChange (Divide d) x → Fits (int_div x d)
quotient_fits d x (positive, fits, divides) =
    let whole : pos (unsigned_abs d) ≡ d = omega (arith, ints) in
    let product : pos (unsigned_abs d) *ℤ int_div x d ≡ x =
    mul_comm_z (pos (unsigned_abs d)) (int_div x d) ∙ ap (λ z. int_div x d *ℤ z) whole
    ∙ quotient_of_divisor x d divides in
    let most = smaller (unsigned_abs d) (int_div x d) x (omega (arith, ints)) product in
    omega arith

-- a factor that is not 0 becomes one that is not 0, and fits
pub changed_some : (change : Change) (x : ℤ) → CanChange change x → x ≢ pos 0 →
    (changed change x ≢ pos 0) × Fits (changed change x)
changed_some (Divide d) x can some = (
  λ none. some (no_quotient (int_div x d) d x (quotient_of_divisor x d can.2) none),
  quotient_fits d x can,
)
changed_some Negate x fits some = (λ none. some (omega (arith, ints)), negated_fits x fits)
changed_some Read x small some = (
  λ none. some (small_zero modulus x small (residue_none x none)),
  residue_fits (residue modulus x) (residue_is x),
)
changed_some (Multiply u) x (first, second, invertible) some = (
  λ none. some (small_zero modulus x (residue_size x second)
      (cancel_invertible modulus u x invertible (residue_none (u *ℤ x) none))),
  residue_fits (residue modulus (u *ℤ x)) (residue_is (u *ℤ x)),
)

-- 0 stays 0
pub divided_nothing : (d : ℤ) → pos 0 <ℤ d → int_div (pos 0) d ≡ pos 0
divided_nothing d positive =
    mul_cancel_left_z (int_div (pos 0) d) (pos 0) d
    (mul_comm_z d (int_div (pos 0) d) ∙ quotient_of_divisor (pos 0) d (dvd-zero (unsigned_abs d))
    ∙ omega (arith, ints))
    (λ none. omega (arith, ints))

-- ---- whole rows

-- what becomes of the factors of a row, that of 0 being 0
changed_from : (change : Change) (a n : ℕ) (row : List Entry) → AreSparseFrom a n row →
    All (λ e. CanChange change e.factor) row →
    AreSparseFrom a n (map (changed_entry change) row)
changed_from change a n [] h all = tt
changed_from change a n (e ∷ row) (first, later) all =
    let here : CanChange change e.factor = All-head (λ e. CanChange change e.factor) e row all in
    let (some, fits) = changed_some change e.factor here first.some in (
      record { behind = first.behind; below = first.below; some = some; fits = fits },
      changed_from change (e.column + 1) n row later
          (All-tail (λ e. CanChange change e.factor) e row all),
    )

changed_at : (change : Change) (row : List Entry) (k : ℕ) → changed change (pos 0) ≡ pos 0 →
    factor_at (map (changed_entry change) row) k ≡ changed change (factor_at row k)
changed_at change [] k none = sym none
changed_at change (e ∷ row) k none = by_test (eqb e.column k) (changed_at change row k none)
  where
    by_test : (b : Bool) → factor_at (map (changed_entry change) row) k
        ≡ changed change (factor_at row k) →
        cond b (changed change e.factor) (factor_at (map (changed_entry change) row) k)
        ≡ changed change (cond b e.factor (factor_at row k))
    by_test true later = refl
    by_test false later = later

map_twice : (f : ℤ → ℤ) (g h : ℕ → ℤ) (xs : List ℕ) → ((k : ℕ) → h k ≡ f (g k)) →
    map h xs ≡ map f (map g xs)
map_twice f g h [] same = refl
map_twice f g h (x ∷ xs) same = ap₂ (λ y ys. y ∷ ys) (same x) (map_twice f g h xs same)

pub changed_row : (change : Change) (n : ℕ) (row : List Entry) → changed change (pos 0) ≡ pos 0 →
    AreSparse n row →
    All (λ e. CanChange change e.factor) row →
    AreSparse n (map (changed_entry change) row)
    × (dense n (map (changed_entry change) row) ≡ map (changed change) (dense n row))
unfolding dense
changed_row change n row none h all = (
  changed_from change 0 n row h all,
  map_twice (changed change) (factor_at row) (factor_at (map (changed_entry change) row))
      (range_with_len 0 n)
      (λ k. changed_at change row k none),
)

-- ---- the greatest common divisor

-- the factors alone
abbrev pub factors : List Entry → List ℤ
factors row = map (λ e. e.factor) row

-- what the entries have, the factors have
pub all_factors : (P : ℤ → Type 0) (row : List Entry) → All (λ e. P e.factor) row →
    All P (factors row)
all_factors P [] all = All-nil P
all_factors P (e ∷ row) all =
    All-cons P e.factor (factors row) (All-head (λ e. P e.factor) e row all)
    (all_factors P row (All-tail (λ e. P e.factor) e row all))

-- and the factor at each column, if 0 has it
pub entry_has : (P : ℤ → Type 0) (row : List Entry) (k : ℕ) → P (pos 0) →
    All (λ e. P e.factor) row → P (factor_at row k)
entry_has P [] k none all = none
entry_has P (e ∷ row) k none all =
    by_test (eqb e.column k) (All-head (λ e. P e.factor) e row all)
    (entry_has P row k none (All-tail (λ e. P e.factor) e row all))
  where
    by_test : (b : Bool) → P e.factor → P (factor_at row k) → P (cond b e.factor (factor_at row k))
    by_test true here later = here
    by_test false here later = later

same_gcd : (f g : ℕ → ℤ) (b k : ℕ) → ((c : ℕ) → b ≤ c → f c ≡ g c) →
    gcd_of_row (map f (range_with_len b k)) ≡ gcd_of_row (map g (range_with_len b k))
same_gcd f g b zero same = refl
same_gcd f g b (suc k) same =
    ap₂ (λ x y. gcd_of (unsigned_abs x) y) (same b (omega arith))
    (same_gcd f g (b + 1) k (λ c from. same c (omega arith)))

gcd_from : (a m n : ℕ) (row : List Entry) → AreSparseFrom a n row → n ≡ a + m →
    gcd_of_row (map (factor_at row) (range_with_len a m)) ≡ gcd_of_row (factors row)
gcd_from a zero n [] h end = refl
gcd_from a zero n (e ∷ row) (first, later) end =
    let behind = first.behind in let below = first.below in absurd (omega arith)
gcd_from a (suc m) n [] h end = gcd_zero_of _ ∙ gcd_from (a + 1) m n [] tt (omega arith)
gcd_from a (suc m) n (e ∷ row) (first, later) end =
    by_column (cases_eq e.column a) (λ rest. gcd_from (a + 1) m n row rest (omega arith))
    (λ rest. gcd_from (a + 1) m n (e ∷ row) rest (omega arith))
  where
    by_column : (e.column ≡ a) ⊎ (e.column ≢ a) →
        (AreSparseFrom (a + 1) n row → gcd_of_row (map (factor_at row) (range_with_len (a + 1) m))
        ≡ gcd_of_row (factors row)) →
        (AreSparseFrom (a + 1) n (e ∷ row) →
        gcd_of_row (map (factor_at (e ∷ row)) (range_with_len (a + 1) m))
        ≡ gcd_of_row (factors (e ∷ row))) →
        gcd_of_row (map (factor_at (e ∷ row)) (range_with_len a (suc m)))
        ≡ gcd_of_row (factors (e ∷ row))
    by_column (inl here) behind_it whole =
        ap₂ (λ x y. gcd_of (unsigned_abs x) y) (factor_here e row a here)
        (same_gcd (factor_at (e ∷ row)) (factor_at row) (a + 1) m
        (λ c from. factor_later e row c (λ same. omega arith))
        ∙ behind_it (subst (λ (b : ℕ). AreSparseFrom (b + 1) n row) here later))
    by_column (inr apart) behind_it whole =
        let behind = first.behind in
        let before : AreSparseFrom (a + 1) n (e ∷ row) = (
          record {
            behind = omega arith;
            below = first.below;
            some = first.some;
            fits = first.fits;
          },
          later,
        ) in
        ap (λ x. gcd_of (unsigned_abs x)
        (gcd_of_row (map (factor_at (e ∷ row)) (range_with_len (a + 1) m))))
        (factor_before (a + 1) n (e ∷ row) a before (omega arith))
        ∙ gcd_zero_of (gcd_of_row (map (factor_at (e ∷ row)) (range_with_len (a + 1) m)))
        ∙ whole before

-- that of the entries is that of the whole row
pub gcd_of_dense : (n : ℕ) (row : List Entry) → AreSparse n row →
    gcd_of_row (dense n row) ≡ gcd_of_row (factors row)
unfolding dense
gcd_of_dense n row h = gcd_from 0 n n row h (omega arith)

-- each factor is a multiple of it
pub all_divided : (d : ℕ) (row : List Entry) → d ∣ gcd_of_row (factors row) → 0 < d →
    All (λ e. Fits e.factor) row →
    All (λ e. CanChange (Divide (pos d)) e.factor) row
all_divided d [] divides some all = All-nil (λ e. CanChange (Divide (pos d)) e.factor)
all_divided d (e ∷ row) divides some all =
    let both = gcd_of_is (unsigned_abs e.factor) (gcd_of_row (factors row)) in
    let first : CanChange (Divide (pos d)) e.factor =
    (omega (arith, ints), All-head (λ e. Fits e.factor) e row all, dvd_trans d divides both.0) in
    All-cons (λ e. CanChange (Divide (pos d)) e.factor) e row first
    (all_divided d row (dvd_trans d divides both.1) some (All-tail (λ e. Fits e.factor) e row all))

-- and each quotient fits
pub all_quotients : (d : ℤ) (row : List Entry) → All (λ e. CanChange (Divide d) e.factor) row →
    All (λ e. Fits e.factor) (map (changed_entry (Divide d)) row)
all_quotients d [] all = All-nil (λ e. Fits e.factor)
all_quotients d (e ∷ row) all =
    All-cons (λ e. Fits e.factor) (changed_entry (Divide d) e) (map (changed_entry (Divide d)) row)
    (quotient_fits d e.factor (All-head (λ e. CanChange (Divide d) e.factor) e row all))
    (all_quotients d row (All-tail (λ e. CanChange (Divide d) e.factor) e row all))
