-- Where all numbers of a sum fit, none is said not to.
use Rattle.std.proofs.Common.{◌≡◌, ⊎_elim, ℕ, ◌+◌, ◌<◌, ◌≤◌, List, [], length, get_or, take, pos, sym, subst, ◌∙◌, arith}
use Rattle.gj_frac.specs.declared.Frac.{Frac}
use Rattle.gj_frac.specs.Fraction.{SameValue, fraction_of, product_of}
use Rattle.gj_frac.specs.Fits.{FitsProduct, FitsSum}
use Rattle.gj_fields.specs.Rational.{Rational, whole, rational, ◌+ℚ◌, ◌*ℚ◌}
use Rattle.gj_problem.specs.declared.problem.Entry.{Entry}
use Rattle.gj_problem.specs.Problems.{sum_at}
use Rattle.gj_problem.specs.Rows.{dot}
use Rattle.gj_problem.specs.RoundedCuts.{IsWideTimes}
use Rattle.gj_problem.specs.Steps.{IsWideAt, IsWideEntry, IsWideWithin}
use Rattle.gj_problem.proofs.AddedSums.{product_value}
use Rattle.gj_problem.proofs.Failing.{Fails, none_next, none_at_first}
use Rattle.gj_problem.proofs.OneRow.{rational_injective, same_coefficients}
use Rattle.gj_problem.proofs.Prefixes.{default_unused}

-- ---- one number

pub narrow_at : (x factor value product : Frac) →
    SameValue (fraction_of product) (product_of (fraction_of factor) (fraction_of value)) →
    FitsSum x product → IsWideAt x factor value → ⊥
narrow_at x factor value product is fits =
    ⊎_elim
    (λ (wide : FitsProduct factor value → ⊥). wide (product, is))
    (λ (k : (z : Frac) × SameValue (fraction_of z) (product_of (fraction_of factor) (fraction_of value)) × (FitsSum x z → ⊥)).
    let same : product ≡ k.0 =
    rational_injective product k.0 (product_value factor value product is
    ∙ sym (product_value factor value k.0 k.1)) in
    k.2 (subst (FitsSum x) same fits))

pub narrow_entry : (cs : List Frac) (factor old : Frac) (e : Entry) → e.column < length cs →
    old ≡ get_or cs e.column old →
    (IsWideAt old factor e.value → ⊥) → IsWideEntry cs factor e → ⊥
narrow_entry cs factor old e below here narrow =
    ⊎_elim
    (λ (out : length cs ≤ e.column). omega arith)
    (λ (k : (x : Frac) × (get_or cs e.column x ≡ x) × IsWideAt x factor e.value).
    let same : k.0 ≡ old = sym k.1 ∙ default_unused cs e.column k.0 old below ∙ sym here in
    narrow (subst (λ (x : Frac). IsWideAt x factor e.value) same k.2))

pub narrow_times : (n : ℕ) (m x : Frac) → rational m ≡ whole (pos n) → FitsProduct m x →
    IsWideTimes n x → ⊥
narrow_times n m x is fits (k, k_is, wide) =
    wide (subst (λ (f : Frac). FitsProduct f x) (rational_injective m k (is ∙ sym k_is)) fits)

-- ---- more entries

-- the entries before it have been added, and then it is at this entry
abbrev IsWideNow : List Frac → Frac → List Entry → Entry → Type 0
IsWideNow cs factor before e = (reached : List Frac) × (length reached ≡ length cs)
    × ((point : List Rational) →
    dot reached point ≡ dot cs point +ℚ rational factor *ℚ sum_at point before)
    × IsWideEntry reached factor e

fails_within : (cs : List Frac) (factor : Frac) (es : List Entry) → IsWideWithin cs factor es →
    Fails (IsWideNow cs factor) es
fails_within cs factor es w = record {
  before = w.before;
  next = w.entry;
  after = w.after;
  place = w.place;
  fails = (w.reached, w.count, w.adds, w.wide);
}

within_fails : (cs : List Frac) (factor : Frac) (es : List Entry) → Fails (IsWideNow cs factor) es →
    IsWideWithin cs factor es
within_fails cs factor es f = record {
  before = f.before;
  entry = f.next;
  after = f.after;
  place = f.place;
  reached = f.fails.0;
  count = f.fails.1;
  adds = f.fails.2;
  wide = f.fails.3;
}

pub narrow_at_first : (cs : List Frac) (factor : Frac) → IsWideWithin cs factor [] → ⊥
narrow_at_first cs factor w = none_at_first (IsWideNow cs factor) (fails_within cs factor [] w)

pub narrow_next : (cs : List Frac) (factor : Frac) (es : List Entry) (i : ℕ) (e : Entry)
    (now : List Frac) → i < length es → e ≡ get_or es i e →
    length now ≡ length cs →
    ((point : List Rational) →
    dot now point ≡ dot cs point +ℚ rational factor *ℚ sum_at point (take i es)) →
    (IsWideWithin cs factor (take i es) → ⊥) → (IsWideEntry now factor e → ⊥) →
    IsWideWithin cs factor (take (i + 1) es) → ⊥
narrow_next cs factor es i e now below here count adds none narrow w =
    none_next (IsWideNow cs factor) es i e below here
    (λ f. none (within_fails cs factor (take i es) f))
    (λ k.
    let same : k.0 ≡ now =
    same_coefficients k.0 now (k.1 ∙ sym count) (λ point. k.2 point ∙ sym (adds point)) in
    narrow (subst (λ (xs : List Frac). IsWideEntry xs factor e) same k.3))
    (fails_within cs factor (take (i + 1) es) w)
