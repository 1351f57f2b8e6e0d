-- The terms of a row's entries, and the cut that they make.
use Rattle.std.proofs.Common.{◌≡◌, ℕ, ◌^◌, ◌+◌, ◌<◌, ◌≤◌, ◌++◌, List, [], ◌∷◌, length, get_or, take, map, All, unsigned_abs, sym, ap, ◌∙◌, subst, subst₂, arith}
use Rattle.std.specs.List.{AllZip}
use Rattle.std.specs.Int.{◌∣◌}
use Rattle.std.proofs.lemmas.Nat.Gcd.{le_of_dvd}
use Rattle.std.proofs.lemmas.List.{take_more}
use Rattle.std.proofs.lemmas.List.Elements.{All-nil, All-cons, All-head, All-tail}
use Rattle.gj_frac.specs.declared.Frac.{Frac}
use Rattle.gj_frac.specs.Fraction.{denominator}
use Rattle.gj_shape.specs.Given.{IsCommonDenominator}
use Rattle.gj_theory.proofs.RowGrids.{cut_by_function, cut_by_gmic}
use Rattle.gj_rule.specs.Kept.{KeptRule}
use Rattle.gj_rule.specs.Kind.{IsKindWithinBounds, IsKindValue, IsMinimalKind}
use Rattle.gj_rule.specs.declared.kind.RuleKind.{RuleKind}
use Rattle.gj_rule.specs.declared.kind.RuleKind.TheVariants.{Gmic, Table}
use Rattle.gj_row.specs.TableauLimits.{AreWithinLimits, numbers_of}
use Rattle.gj_shape.specs.Limits.{IsSmallNumber, IsRowNumber}
use Rattle.gj_row.specs.declared.tableau.Entry.{Entry}
use Rattle.gj_row.specs.declared.tableau.Row.{Row}
use Rattle.gj_cut.specs.RowCuts.{HasPart, IsTermOfKind, IsTermOf, IsCutOf, IsCutOfKind, IsGmicCutOf, HoldsFor}
use Rattle.gj_cut.specs.declared.cut.Term.{Term}
use Rattle.gj_cut.specs.declared.cut.RowCut.{RowCut}
use Rattle.gj_cut.specs.declared.cut.RowCut.TheVariants.{Cut, Integral, OtherFraction}

-- ---- the entries of a row

in_range_all : (d : ℕ) (entries : List Entry) → 0 < d → d < 2 ^ 31 →
    All IsSmallNumber (map (λ e. e.value) entries) →
    IsCommonDenominator (map (λ e. e.value) entries) d → All (λ e. IsRowNumber e.value) entries
in_range_all d [] some fine small common = All-nil (λ e. IsRowNumber e.value)
in_range_all d (e ∷ entries) some fine small common =
    let divides = All-head (λ x. unsigned_abs (denominator x) ∣ d) e.value
    (map (λ e. e.value) entries) common in
    let bound : unsigned_abs (denominator e.value) ≤ d = le_of_dvd some divides in
    All-cons (λ e. IsRowNumber e.value) e entries
    (record {
      small = All-head IsSmallNumber e.value (map (λ e. e.value) entries) small;
      fine =
          omega arith;
    })
    (in_range_all d entries some fine
    (All-tail IsSmallNumber e.value (map (λ e. e.value) entries) small)
    (All-tail (λ x. unsigned_abs (denominator x) ∣ d) e.value (map (λ e. e.value) entries) common))

-- those of a row within the limits can stand in a row
pub entries_in_range : (row : Row) → AreWithinLimits (numbers_of row) →
    All (λ e. IsRowNumber e.value) row.entries
entries_in_range row h =
    let values = map (λ e. e.value) row.entries in
    let d = h.common.0 in
    in_range_all d row.entries h.common.1 h.common.2 (All-tail IsSmallNumber row.rhs values h.small)
    (All-tail (λ x. unsigned_abs (denominator x) ∣ d) row.rhs values h.common.3)

-- so is its right side
pub right_fine : (row : Row) → AreWithinLimits (numbers_of row) →
    unsigned_abs (denominator row.rhs) < 2 ^ 31
right_fine row h =
    let d = h.common.0 in
    let divides = All-head (λ x. unsigned_abs (denominator x) ∣ d) row.rhs
    (map (λ e. e.value) row.entries) h.common.3 in
    let some : 0 < d = h.common.1 in
    let bound : unsigned_abs (denominator row.rhs) ≤ d = le_of_dvd some divides in
    let fine : d < 2 ^ 31 = h.common.2 in
    omega arith

-- ---- terms

-- one more item in each of two lists
pub zip_longer : {A B : Type 0} (R : A → B → Type 0) (xs : List A) (ys : List B) (x : A) (y : B) →
    AllZip R xs ys → R x y →
    AllZip R (xs ++ x ∷ []) (ys ++ y ∷ [])
zip_longer R [] [] x y h last = (last, tt)
zip_longer R [] (z ∷ ys) x y h last = absurd h
zip_longer R (w ∷ xs) [] x y h last = absurd h
zip_longer R (w ∷ xs) (z ∷ ys) x y h last = (h.0, zip_longer R xs ys x y h.1 last)

-- one more item of a list that is gone through
pub zip_next : {A B : Type 0} (R : A → B → Type 0) (xs : List A) (i : ℕ) (x : A) (ys zs : List B)
    (y : B) → i < length xs →
    x ≡ get_or xs i x → zs ≡ ys ++ y ∷ [] → AllZip R (take i xs) ys → R x y →
    AllZip R (take (i + 1) xs) zs
zip_next R xs i x ys zs y below here next h last =
    let more : take (i + 1) xs ≡ take i xs ++ x ∷ [] = take_more xs i x below
    ∙ ap (λ z. take i xs ++ z ∷ []) (sym here) in
    subst₂ (AllZip R) (sym more) (sym next) (zip_longer R (take i xs) ys x y h last)

-- what follows place by place
pub zip_weaker : {A B : Type 0} (R S : A → B → Type 0) (xs : List A) (ys : List B) →
    ((x : A) (y : B) → R x y → S x y) → AllZip R xs ys → AllZip S xs ys
zip_weaker R S [] [] weaker h = tt
zip_weaker R S [] (y ∷ ys) weaker h = absurd h
zip_weaker R S (x ∷ xs) [] weaker h = absurd h
zip_weaker R S (x ∷ xs) (y ∷ ys) weaker h =
    (weaker x y h.0, zip_weaker R S xs ys weaker h.1)

-- ---- the cut

-- the coefficients are values at the entries
pub values_of : (P : Entry → Term → Type 0) (V : Frac → Frac → Type 0) (entries : List Entry)
    (terms : List Term) →
    ((e : Entry) (t : Term) → P e t → (t.entry ≡ e.value) × V e.value t.cut) →
    AllZip P entries terms → AllZip V (map (λ t. t.entry) terms) (map (λ t. t.cut) terms)
values_of P V [] [] give h = tt
values_of P V [] (t ∷ terms) give h = absurd h
values_of P V (e ∷ entries) [] give h = absurd h
values_of P V (e ∷ entries) (t ∷ terms) give h =
    let (same, value) = give e t h.0 in
    (subst (λ (x : Frac). V x t.cut) (sym same) value, values_of P V entries terms give h.1)

-- a cut of values of a minimal kind holds
pub kind_holds : (kind : RuleKind) (row : Row) (terms : List Term) → IsKindWithinBounds kind →
    IsMinimalKind kind → HasPart kind row.rhs →
    AllZip (IsKindValue kind) (map (λ t. t.entry) terms) (map (λ t. t.cut) terms) →
    HoldsFor row (Cut terms)
kind_holds (Gmic f) row terms bounded minimal part values =
    cut_by_gmic f (map (λ t. t.entry) terms) row.rhs (map (λ t. t.cut) terms) bounded.0 part values
kind_holds (Table shape) row terms bounded minimal part values =
    cut_by_function shape (map (λ t. t.entry) terms) row.rhs (map (λ t. t.cut) terms) bounded
    minimal part values

-- ---- cuts by any rule of a kind

pub cut_of_kind : {E : Type 0} (answers : E → Frac → Frac → Type 0) (rule : KeptRule E) (row : Row)
    (cut : RowCut) →
    IsCutOf answers rule row cut → IsCutOfKind rule.kind row cut
cut_of_kind answers rule row (Cut terms) h = (
  h.0,
  h.1,
  zip_weaker (IsTermOf answers rule) (IsTermOfKind rule.kind) row.entries terms
      (λ e t p. p.of_kind) h.2,
)
cut_of_kind answers rule row Integral h = h
cut_of_kind answers rule row OtherFraction h = h

pub gmic_cut_of : (f : Frac) (row : Row) (cut : RowCut) → HasPart (Gmic f) row.rhs →
    IsCutOfKind (Gmic f) row cut →
    IsGmicCutOf row cut
gmic_cut_of f row (Cut terms) part h = (f, h)
gmic_cut_of f row Integral part h = h
gmic_cut_of f row OtherFraction part h = absurd (h.1 part)
