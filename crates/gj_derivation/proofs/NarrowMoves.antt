-- Where all numbers of the moves fit, none is said not to.
use Rattle.std.proofs.Common.{◌≡◌, ◌⊎◌, ⊎_elim, ℕ, ◌+◌, ◌<◌, ◌≤◌, ◌^◌, Bool, List, [], length, get_or, take, pos, ◌<ℤ◌, refl, sym, ap, ap₂, subst, subst₂, ◌∙◌, arith}
use Rattle.std.proofs.lemmas.Int.{ints}
use Rattle.std.proofs.lemmas.Bool.{cases_lt}
use Rattle.std.proofs.lemmas.List.{get_or-take, length-take-le, take_all}
use Rattle.gj_frac.specs.declared.Frac.{Frac}
use Rattle.gj_frac.specs.Fits.{FitsProduct, FitsSum}
use Rattle.gj_frac.specs.Fraction.{numerator}
use Rattle.gj_fields.specs.Rational.{Rational, whole, rational, ◌+ℚ◌, ◌*ℚ◌, neg_ℚ, ◌-ℚ◌}
use Rattle.gj_fields.proofs.RationalLaws.{mul_zero_q}
use Rattle.gj_fields.proofs.RationalRing.{by_ring_q, ring_q}
use Rattle.gj_problem.proofs.AddedSums.{zero_frac, zero_minus}
use Rattle.gj_problem.proofs.OneMove.{no_shift, one_shift}
use Rattle.gj_problem.proofs.OneRow.{rational_injective}
use Rattle.gj_problem.proofs.Prefixes.{default_unused}
use Rattle.gj_problem.specs.declared.problem.Column.{Column}
use Rattle.gj_problem.specs.declared.sums.Sum.{Sum}
use Rattle.gj_problem.specs.Moves.{HasLower, HasUpper, IsMovedBy, AreMovedBy}
use Rattle.gj_derivation.specs.Checks.{line_of_sum, claimed_at, IsUnmovable, IsFirstUnmovable, IsWideTimesBound, IsWideShift, IsWideMoved, IsWideColumn, IsWideMoving}
use Rattle.gj_derivation.proofs.CheckedMoves.{scaled, claimed_is, IsMovedUpTo}
use Rattle.gj_derivation.proofs.ExactVerdicts.{not_moved, not_all_moved}
use Rattle.gj_derivation.proofs.FoundTerms.{last_or_before}
use Rattle.gj_derivation.proofs.NarrowNumbers.{zero_times, zero_added}
use Rattle.gj_derivation.proofs.OneRightSide.{lower_same, upper_same, one_total}
use Rattle.gj_derivation.proofs.TermsFit.{num_of_whole}

-- ---- one column

pub narrow_bound : (IsBound : Frac → Type 0) (change b : Frac) →
    ((x y : Frac) → IsBound x → IsBound y → rational x ≡ rational y) → IsBound b →
    FitsProduct change b → IsWideTimesBound IsBound change → ⊥
narrow_bound IsBound change b one is fits (d, d_is, wide) =
    wide (subst (FitsProduct change) (rational_injective b d (one b d is d_is)) fits)

pub narrow_shift : (c : Column) (x y m change : Frac) → rational m ≡ neg_ℚ (rational x) →
    FitsSum y m → rational change ≡ rational y -ℚ rational x →
    (pos 0 <ℤ numerator change → IsWideTimesBound (HasLower c) change → ⊥) →
    (numerator change <ℤ pos 0 → IsWideTimesBound (HasUpper c) change → ⊥) → IsWideShift c x y → ⊥
narrow_shift c x y m change m_is fits change_is up down =
    ⊎_elim
    (λ (k : (n : Frac) × (rational n ≡ neg_ℚ (rational x)) × (FitsSum y n → ⊥)).
    k.2 (subst (FitsSum y) (rational_injective m k.0 (m_is ∙ sym k.1)) fits))
    (λ (k : (d : Frac) × (rational d ≡ rational y -ℚ rational x)
    × (((pos 0 <ℤ numerator d) × IsWideTimesBound (HasLower c) d)
    ⊎ ((numerator d <ℤ pos 0) × IsWideTimesBound (HasUpper c) d))).
    let same : k.0 ≡ change = rational_injective k.0 change (k.1 ∙ sym change_is) in
    ⊎_elim
    (λ (l : (pos 0 <ℤ numerator k.0) × IsWideTimesBound (HasLower c) k.0).
    up (subst (λ (d : Frac). pos 0 <ℤ numerator d) same l.0)
    (subst (IsWideTimesBound (HasLower c)) same l.1))
    (λ (l : (numerator k.0 <ℤ pos 0) × IsWideTimesBound (HasUpper c) k.0).
    down (subst (λ (d : Frac). numerator d <ℤ pos 0) same l.0)
    (subst (IsWideTimesBound (HasUpper c)) same l.1))
    k.2)

pub narrow_moved : (c : Column) (factor coefficient y right x : Frac) →
    FitsProduct factor coefficient → rational x ≡ rational factor *ℚ rational coefficient →
    (IsWideShift c x y → ⊥) →
    ((s : Frac) → IsMovedBy (HasLower c) (HasUpper c) (rational x) (rational y) (rational s) →
    FitsSum right s) → IsWideMoved c factor coefficient y right → ⊥
narrow_moved c factor coefficient y right x fits x_is narrow sums =
    ⊎_elim
    (λ (k : FitsProduct factor coefficient → ⊥). k fits)
    (λ (k : (z : Frac) × (rational z ≡ rational factor *ℚ rational coefficient)
    × (IsWideShift c z y ⊎ ((s : Frac)
    × IsMovedBy (HasLower c) (HasUpper c) (rational z) (rational y) (rational s)
    × (FitsSum right s → ⊥)))).
    let same : k.0 ≡ x = rational_injective k.0 x (k.1 ∙ sym x_is) in
    ⊎_elim
    (λ (l : IsWideShift c k.0 y). narrow (subst (λ (z : Frac). IsWideShift c z y) same l))
    (λ (l : (s : Frac) × IsMovedBy (HasLower c) (HasUpper c) (rational k.0) (rational y)
    (rational s) × (FitsSum right s → ⊥)).
    l.2 (sums l.0 (subst (λ (z : Frac). IsMovedBy (HasLower c) (HasUpper c) (rational z)
    (rational y) (rational l.0)) same l.1)))
    k.2)

-- the right side with the shift fits, since this one is the shift
pub sum_of_shift : (c : Column) (x y right s : Frac) →
    IsMovedBy (HasLower c) (HasUpper c) (rational x) (rational y) (rational s) → FitsSum right s →
    (t : Frac) → IsMovedBy (HasLower c) (HasUpper c) (rational x) (rational y) (rational t) →
    FitsSum right t
sum_of_shift c x y right s moved fits t other =
    subst (FitsSum right)
    (rational_injective s t (one_shift (HasLower c) (HasUpper c) (lower_same c) (upper_same c)
    (rational x) (rational y) (rational s) (rational t) moved other))
    fits

-- there is none
pub no_shift_fits : (c : Column) (x y right : Frac) → IsUnmovable c (rational x) (rational y) →
    (s : Frac) → IsMovedBy (HasLower c) (HasUpper c) (rational x) (rational y) (rational s) →
    FitsSum right s
no_shift_fits c x y right stuck s moved =
    absurd (not_moved c (rational x) (rational y) (rational s) stuck moved)

pub no_multiple : (f x : Rational) → x ≡ whole (pos 0) → f *ℚ x ≡ whole (pos 0)
no_multiple f x none = ap (λ w. f *ℚ w) none ∙ mul_zero_q f

pub zero_turned : neg_ℚ (whole (pos 0)) ≡ whole (pos 0)
zero_turned = by_ring_q [] (search ring_q depth 40) refl

pub none_of : (x : Frac) → rational x ≡ whole (pos 0) → numerator x ≡ pos 0
none_of x is = num_of_whole x (pos 0) is

-- a column with neither coefficient has nothing that does not fit
pub narrow_moved_none : (c : Column) (factor coefficient y right : Frac) →
    numerator coefficient ≡ pos 0 → numerator y ≡ pos 0 →
    IsWideMoved c factor coefficient y right → ⊥
narrow_moved_none c factor coefficient y right none no_claim =
    let y_none = zero_frac y no_claim in
    ⊎_elim
    (λ (k : FitsProduct factor coefficient → ⊥). k (zero_times factor coefficient none))
    (λ (k : (x : Frac) × (rational x ≡ rational factor *ℚ rational coefficient)
    × (IsWideShift c x y ⊎ ((s : Frac)
    × IsMovedBy (HasLower c) (HasUpper c) (rational x) (rational y) (rational s)
    × (FitsSum right s → ⊥)))).
    let x_none : rational k.0 ≡ whole (pos 0) =
    k.1 ∙ no_multiple (rational factor) (rational coefficient) (zero_frac coefficient none) in
    ⊎_elim
    (⊎_elim
    (λ (l : (m : Frac) × (rational m ≡ neg_ℚ (rational k.0)) × (FitsSum y m → ⊥)).
    l.2 (zero_added y l.0 (none_of l.0 (l.1 ∙ ap neg_ℚ x_none ∙ zero_turned))))
    (λ (l : (d : Frac) × (rational d ≡ rational y -ℚ rational k.0)
    × (((pos 0 <ℤ numerator d) × IsWideTimesBound (HasLower c) d)
    ⊎ ((numerator d <ℤ pos 0) × IsWideTimesBound (HasUpper c) d))).
    let stays : numerator l.0 ≡ pos 0 =
    none_of l.0 (l.1 ∙ ap₂ (λ a b. a -ℚ b) y_none x_none ∙ zero_minus) in
    ⊎_elim
    (λ (h : (pos 0 <ℤ numerator l.0) × IsWideTimesBound (HasLower c) l.0).
    let above = h.0 in omega (arith, ints))
    (λ (h : (numerator l.0 <ℤ pos 0) × IsWideTimesBound (HasUpper c) l.0).
    let below = h.0 in omega (arith, ints))
    l.2))
    (λ (l : (s : Frac) × IsMovedBy (HasLower c) (HasUpper c) (rational k.0) (rational y)
    (rational s) × (FitsSum right s → ⊥)).
    l.2 (zero_added right l.0 (none_of l.0
    (no_shift (HasLower c) (HasUpper c) (rational k.0) (rational y) (rational l.0) l.1
    (y_none ∙ sym x_none)))))
    k.2)

-- ---- more columns

-- all that is said of the moves before column i
abbrev pub IsNarrowTo : List Column → Frac → Sum → List Frac → ℕ → Type 0
IsNarrowTo columns factor sum claimed i =
    (w : IsWideColumn columns factor (line_of_sum sum) (claimed_at claimed)) → w.index < i → ⊥

pub narrow_to_first : (columns : List Column) (factor : Frac) (sum : Sum) (claimed : List Frac) →
    IsNarrowTo columns factor sum claimed 0
narrow_to_first columns factor sum claimed w below = omega arith

pub narrow_to_next : (columns : List Column) (factor : Frac) (sum : Sum) (claimed : List Frac)
    (i : ℕ) (c : Column) (coefficient y right : Frac) (b : Bool) → i < length columns →
    length sum.coefficients.items ≡ length columns → length claimed ≡ length columns →
    c ≡ get_or columns i c → coefficient ≡ get_or sum.coefficients.items i coefficient →
    y ≡ get_or claimed i y → IsMovedUpTo columns factor sum claimed i right b →
    IsNarrowTo columns factor sum claimed i → (IsWideMoved c factor coefficient y right → ⊥) →
    IsNarrowTo columns factor sum claimed (i + 1)
narrow_to_next columns factor sum claimed i c coefficient y right b below count claims here c_here
    y_here moved before narrow w w_below =
    ⊎_elim (before w)
    (λ (at : w.index ≡ i).
    let column : w.column ≡ c =
    w.is ∙ ap (λ (k : ℕ). get_or columns k w.column) at ∙ default_unused columns i w.column c below
    ∙ sym here in
    let coefficient_same : w.coefficient ≡ coefficient =
    rational_injective w.coefficient coefficient
    (w.coefficient_is ∙ ap (line_of_sum sum).coefficient at
    ∙ sym (claimed_is sum.coefficients.items i coefficient (omega arith) c_here)) in
    let claimed_same : w.claimed ≡ y =
    rational_injective w.claimed y
    (w.claimed_is ∙ ap (claimed_at claimed) at ∙ sym (claimed_is claimed i y (omega arith) y_here))
    in
    let total : w.total ≡ moved.total =
    one_total (take i columns) (scaled factor sum) (claimed_at claimed) w.total moved.total
    (subst (λ (k : ℕ). AreMovedBy (take k columns) (scaled factor sum) (claimed_at claimed)
    w.total) at w.moved_before) moved.moved in
    let right_same : w.right ≡ right =
    rational_injective w.right right
    (w.right_is ∙ ap (λ t. rational factor *ℚ rational sum.right +ℚ t) total ∙ sym moved.right_is)
    in
    narrow
    (subst₂ (λ (d : Column) (x : Frac). IsWideMoved d factor x y right) column coefficient_same
    (subst₂ (λ (z r : Frac). IsWideMoved w.column factor w.coefficient z r) claimed_same right_same
    w.wide)))
    (last_or_before i w.index w_below)

same_right : (factor : Frac) (sum : Sum) → FitsProduct factor sum.right →
    (right : Frac) × (rational right ≡ rational sum.right) × (FitsProduct factor right → ⊥) → ⊥
same_right factor sum fits (r, is, wide) =
    wide (subst (FitsProduct factor) (rational_injective sum.right r (sym is)) fits)

pub narrow_to_end : (columns : List Column) (factor : Frac) (sum : Sum) (claimed : List Frac)
    (i : ℕ) (right : Frac) (b : Bool) → length columns ≤ i → FitsProduct factor sum.right →
    IsMovedUpTo columns factor sum claimed i right b → IsNarrowTo columns factor sum claimed i →
    IsWideMoving columns factor (line_of_sum sum) (claimed_at claimed) → ⊥
narrow_to_end columns factor sum claimed i right b end fits moved before =
    ⊎_elim (same_right factor sum fits)
    (⊎_elim
    (λ (w : IsWideColumn columns factor (line_of_sum sum) (claimed_at claimed)).
    let below = w.below in before w (omega arith))
    (λ (k : (j : ℕ) × IsFirstUnmovable columns (scaled factor sum) (claimed_at claimed) j
    × (2 ^ 32 ≤ j)).
    not_all_moved columns k.0 k.1.column (scaled factor sum) (claimed_at claimed) moved.total
    k.1.below k.1.is k.1.unmovable
    (subst (λ (cs : List Column). AreMovedBy cs (scaled factor sum) (claimed_at claimed)
    moved.total) (take_all i columns end) moved.moved)))

-- the columns before a later one are not all moved
not_past : (columns : List Column) (i k : ℕ) (c : Column) (xs ys : ℕ → Rational)
    (total : Rational) → i < k → i < length columns → k < length columns →
    c ≡ get_or columns i c → IsUnmovable c (xs i) (ys i) →
    AreMovedBy (take k columns) xs ys total → ⊥
not_past columns i k c xs ys total before below within here stuck moved =
    let fewer : length (take k columns) ≡ k = length-take-le k columns (omega arith) in
    not_all_moved (take k columns) i c xs ys total (omega arith)
    (here ∙ sym (get_or-take k columns i c before)) stuck moved

pub narrow_to_stuck : (columns : List Column) (factor : Frac) (sum : Sum) (claimed : List Frac)
    (i : ℕ) (c : Column) (coefficient y right : Frac) (b : Bool) → i < length columns →
    length sum.coefficients.items ≡ length columns → length claimed ≡ length columns →
    c ≡ get_or columns i c → coefficient ≡ get_or sum.coefficients.items i coefficient →
    y ≡ get_or claimed i y → IsMovedUpTo columns factor sum claimed i right b →
    IsNarrowTo columns factor sum claimed i → (IsWideMoved c factor coefficient y right → ⊥) →
    i < 2 ^ 32 → FitsProduct factor sum.right →
    IsFirstUnmovable columns (scaled factor sum) (claimed_at claimed) i →
    IsWideMoving columns factor (line_of_sum sum) (claimed_at claimed) → ⊥
narrow_to_stuck columns factor sum claimed i c coefficient y right b below count claims here c_here
    y_here moved before narrow small fits stuck =
    let xs = scaled factor sum in
    let ys = claimed_at claimed in
    ⊎_elim (same_right factor sum fits)
    (⊎_elim
    (λ (w : IsWideColumn columns factor (line_of_sum sum) ys).
    ⊎_elim
    (λ (l : w.index < i + 1). narrow_to_next columns factor sum claimed i c coefficient y right b
    below count claims here c_here y_here moved before narrow w l)
    (λ (l : i + 1 ≤ w.index). not_past columns i w.index stuck.column xs ys w.total (omega arith)
    below w.below stuck.is stuck.unmovable w.moved_before)
    (cases_lt w.index (i + 1)))
    (λ (k : (j : ℕ) × IsFirstUnmovable columns xs ys j × (2 ^ 32 ≤ j)).
    let far = k.2 in
    not_past columns i k.0 stuck.column xs ys k.1.total (omega arith) below k.1.below stuck.is
    stuck.unmovable k.1.moved_before))
