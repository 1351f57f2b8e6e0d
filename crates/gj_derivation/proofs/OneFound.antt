-- The terms that are found for a claim are one list.
use Rattle.std.proofs.Common.{◌≡◌, ⊎_elim, ℕ, ◌+◌, ◌<◌, ◌≤◌, Option, Some, None, List, [], ◌∷◌, length, get_or, take, pos, refl, sym, ap, ap₂, subst, ◌∙◌, arith}
use Rattle.std.proofs.lemmas.Bool.{cases_lt, cases_order}
use Rattle.std.proofs.lemmas.List.{get_or-take, length-take-le}
use Rattle.gj_frac.specs.declared.Frac.{Frac}
use Rattle.gj_fields.specs.Rational.{Rational, whole, rational, ◌+ℚ◌, ◌*ℚ◌}
use Rattle.gj_problem.proofs.OneMove.{one_on_grid}
use Rattle.gj_problem.proofs.OneRow.{no_time, rational_injective}
use Rattle.gj_problem.proofs.OneTerms.{one_terms}
use Rattle.gj_problem.proofs.Prefixes.{default_unused}
use Rattle.gj_problem.specs.declared.problem.Column.{Column}
use Rattle.gj_problem.specs.declared.problem.Entry.{Entry}
use Rattle.gj_problem.specs.declared.problem.Inequality.{Inequality}
use Rattle.gj_problem.specs.Problems.{AreTermsWithin}
use Rattle.gj_derivation.specs.Derivations.{Line, coefficient_in, times, IsRightOf}
use Rattle.gj_derivation.specs.Drafts.{IsFoundFor, AreFoundFor, IsFirstNotFound, IsFoundClaim}
use Rattle.gj_derivation.proofs.AgreeingTerms.{AgreeIn}
use Rattle.gj_derivation.proofs.ColumnSums.{column_sum, sum_by_columns}
use Rattle.gj_derivation.proofs.OneRightSide.{one_right_of}
use Rattle.gj_derivation.proofs.TermsFit.{other_unit}

-- ---- one coefficient

one_found_for : (grid : Option ℕ) (c : Column) (x y z : Rational) → IsFoundFor grid c x y →
    IsFoundFor grid c x z → y ≡ z
one_found_for None c x y z h k = h ∙ sym k
one_found_for (Some n) c x y z h k = one_on_grid n c.lower c.upper x y z h k

-- the column at an index
column_at : (columns : List Column) (j : ℕ) → j < length columns →
    (c : Column) × (c ≡ get_or columns j c)
column_at [] j below = absurd (omega arith)
column_at (d ∷ columns) j below =
    let c = get_or (d ∷ columns) j d in
    (c, default_unused (d ∷ columns) j d c below)

pub agree_if_found : (grid : Option ℕ) (columns : List Column) (xs ys zs : ℕ → Rational) →
    AreFoundFor grid columns xs ys → AreFoundFor grid columns xs zs → AgreeIn columns ys zs
agree_if_found grid columns xs ys zs h k j below =
    let (c, is) = column_at columns j below in
    one_found_for grid c (xs j) (ys j) (zs j) (h j c below is) (k j c below is)

-- ---- no coefficient

not_found_before : (grid : Option ℕ) (columns : List Column) (xs : ℕ → Rational) (i j : ℕ) →
    i < j → IsFirstNotFound grid columns xs i → IsFirstNotFound grid columns xs j → ⊥
not_found_before grid columns xs i j before h k =
    let below = k.below in
    let fewer : length (take j columns) ≡ j = length-take-le j columns (omega arith) in
    h.none (k.ys i) (k.found_before i h.column (omega arith)
    (h.is ∙ sym (get_or-take j columns i h.column before)))

pub one_not_found : (grid : Option ℕ) (columns : List Column) (xs : ℕ → Rational) (i j : ℕ) →
    IsFirstNotFound grid columns xs i → IsFirstNotFound grid columns xs j → i ≡ j
one_not_found grid columns xs i j h k =
    ⊎_elim (λ (same : i ≡ j). same)
    (⊎_elim
    (λ (before : i < j). absurd (not_found_before grid columns xs i j before h k))
    (λ (after : j < i). absurd (not_found_before grid columns xs j i after k h)))
    (cases_order i j)

pub found_or_not : (grid : Option ℕ) (columns : List Column) (xs ys : ℕ → Rational) (j : ℕ) →
    AreFoundFor grid columns xs ys → IsFirstNotFound grid columns xs j → ⊥
found_or_not grid columns xs ys j found none =
    none.none (ys j) (found j none.column none.below none.is)

-- ---- one claim

none_past : (i n j : ℕ) (es : List Entry) → AreTermsWithin i n es → n ≤ j →
    coefficient_in es j ≡ whole (pos 0)
none_past i n j [] h past = refl
none_past i n j (e ∷ es) h past =
    let end = none_end (e.column + 1) n es h.2 in
    ap₂ (λ v w. rational e.value *ℚ v +ℚ w) (other_unit j e.column (omega arith))
    (none_past (e.column + 1) n j es h.2 past)
    ∙ no_time (rational e.value) (whole (pos 0))
  where
    none_end : (i n : ℕ) (fs : List Entry) → AreTermsWithin i n fs → i ≤ n
    none_end i n [] k = k
    none_end i n (f ∷ fs) k = let rest = none_end (f.column + 1) n fs k.2 in omega (arith, k.0)

agreeing_terms : (columns : List Column) (es fs : List Entry) →
    AreTermsWithin 0 (length columns) es → AreTermsWithin 0 (length columns) fs →
    AgreeIn columns (coefficient_in es) (coefficient_in fs) → es ≡ fs
agreeing_terms columns es fs h k same =
    let n = length columns in
    let all : (j : ℕ) → coefficient_in es j ≡ coefficient_in fs j = λ j.
    ⊎_elim (λ (below : j < n). same j below)
    (λ (past : n ≤ j). none_past 0 n j es h past ∙ sym (none_past 0 n j fs k past)) (cases_lt j n)
    in
    let functions : coefficient_in es ≡ coefficient_in fs = λ i j. all j i in
    one_terms 0 n es fs h k
    (λ point. sum_by_columns point es ∙ ap (column_sum point) functions
    ∙ sym (sum_by_columns point fs))

pub one_found_claim : (grid : Option ℕ) (columns : List Column) (factor : Frac) (base : Line)
    (q r : Inequality) → IsFoundClaim grid columns factor base q →
    IsFoundClaim grid columns factor base r → q ≡ r
one_found_claim grid columns factor base q r (terms, found, right) (terms', found', right') =
    let entries : q.entries ≡ r.entries =
    agreeing_terms columns q.entries r.entries terms terms'
    (agree_if_found grid columns (times factor base) (coefficient_in q.entries)
    (coefficient_in r.entries) found found') in
    let rights : q.right ≡ r.right =
    rational_injective q.right r.right
    (one_right_of columns factor base (coefficient_in r.entries) (rational q.right)
    (rational r.right)
    (subst (λ (es : List Entry). IsRightOf columns factor base (coefficient_in es)
    (rational q.right)) entries right) right') in
    λ i. record { entries = entries i; right = rights i }
