-- When the least common denominator of the numbers of a constraint does not fit.
use Rattle.std.proofs.Common.{◌≡◌, ◌⊎◌, ⊎_elim, ℕ, zero, suc, ◌+◌, ◌<◌, ◌≤◌, ◌^◌, ℤ, pos, unsigned_abs, All, List, [], ◌∷◌, ◌++◌, length, get_or, take, drop, map, sym, ap, subst, ◌∙◌, append_assoc, arith}
use Rattle.std.proofs.lemmas.Int.{ints}
use Rattle.std.proofs.lemmas.List.{map-append}
use Rattle.std.proofs.lemmas.List.Elements.{All-head, All-tail}
use Rattle.std.proofs.lemmas.Nat.Gcd.{le_of_dvd}
use Rattle.gj_frac.specs.declared.Frac.{Frac}
use Rattle.gj_lemmas.proofs.Lists.{All-front}
use Rattle.gj_shape.specs.Given.{IsCommonDenominator, IsLeastCommonDenominator}
use Rattle.gj_shape.proofs.LeastDenominator.{Divides, least_common_some}
use Rattle.gj_problem.specs.declared.problem.Entry.{Entry}
use Rattle.gj_problem.specs.WideRows.{numbers_of}
use Rattle.gj_problem.proofs.Prefixes.{split_at}

-- with more fractions it is not less
pub least_grows : (xs ys zs : List Frac) (m n k : ℕ) → zs ≡ xs ++ ys →
    IsLeastCommonDenominator xs m → IsLeastCommonDenominator zs n →
    k ≤ m → k ≤ n
least_grows xs ys zs m n k split least all low =
    let common : IsCommonDenominator (xs ++ ys) n =
    subst (λ (vs : List Frac). IsCommonDenominator vs n) split all.common in
    let below = le_of_dvd (least_common_some zs n all)
    (least.least n (All-front (Divides n) xs ys common)) in
    omega arith

-- the numbers up to an entry, and those behind it
pub numbers_split : (right : Frac) (es : List Entry) (i : ℕ) (e : Entry) → i < length es →
    e ≡ get_or es i e →
    numbers_of right es ≡ (numbers_of right (take i es) ++ e.value ∷ []) ++ map
    (λ (f : Entry). f.value) (drop (i + 1) es)
numbers_split right es i e below here =
    let value : Entry → Frac = λ f. f.value in
    ap (λ (vs : List Frac). right ∷ vs)
    (ap (map value) (split_at es i e below here)
    ∙ map-append value (take i es) (e ∷ drop (i + 1) es)
    ∙ sym (append_assoc (map value (take i es)) (e.value ∷ []) (map value (drop (i + 1) es))))

-- what is true of all numbers is true of that of an entry
pub value_in : (P : Frac → Type 0) (es : List Entry) (i : ℕ) (e : Entry) → i < length es →
    e ≡ get_or es i e →
    All P (map (λ (f : Entry). f.value) es) → P e.value
value_in P [] i e below here all = absurd (omega arith)
value_in P (d ∷ es) zero e below here all =
    subst (λ (f : Entry). P f.value) (sym here)
    (All-head P d.value (map (λ (f : Entry). f.value) es) all)
value_in P (d ∷ es) (suc i) e below here all =
    value_in P es i e (omega arith) here (All-tail P d.value (map (λ (f : Entry). f.value) es) all)

-- ---- whole numbers as fractions

-- a whole number that is none has 2^127 or more in absolute value
pub whole_wide : (n : ℕ) (z d : ℤ) → z ≡ pos n → d ≡ pos 1 →
    (d ≡ pos 0) ⊎ ((unsigned_abs z ≡ 2 ^ 127) ⊎ (unsigned_abs d ≡ 2 ^ 127)) → 2 ^ 127 ≤ n
whole_wide n z d z_is d_is =
    ⊎_elim (λ (a : d ≡ pos 0). absurd (one_some (sym d_is ∙ a)))
    (⊎_elim (λ (b : unsigned_abs z ≡ 2 ^ 127). let same : n ≡ 2 ^ 127 = sym (ap unsigned_abs z_is)
    ∙ b in omega arith)
    (λ (b : unsigned_abs d ≡ 2 ^ 127). let same : 1 ≡ 2 ^ 127 = sym (ap unsigned_abs d_is) ∙ b in
    absurd (omega arith)))
  where
    one_some : pos 1 ≡ pos 0 → ⊥
    one_some e = omega (arith, ints)
