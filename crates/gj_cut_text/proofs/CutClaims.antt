-- The claim about the cuts of the rows of a tableau: every rule of the checker holds of it.
use Rattle.std.proofs.Common.{◌≡◌, ◌≢◌, ℕ, suc, ◌<◌, List, [], ◌∷◌, ◌++◌, All, AllPairs, length, map, get_or, refl, sym, ap, ap₂, subst, subst₂, ◌∙◌, append_assoc, arith}
use Rattle.std.specs.List.{AllZip}
use Rattle.std.proofs.lemmas.List.{map-append}
use Rattle.std.proofs.lemmas.List.Elements.{All-nil, All-cons, All-head, All-tail, All-append, All-map}
use Rattle.std.proofs.lemmas.List.Kept.{AllPairs-cons, AllPairs-from_increasing}
use Rattle.gj_frac.specs.declared.Frac.{Frac}
use Rattle.gj_lemmas.proofs.Lists.{All-front, All-back}
use Rattle.gj_shape.proofs.LeastDenominator.{Divides}
use Rattle.gj_lex.specs.Name.{IsName}
use Rattle.gj_row.specs.TableauLimits.{AreWithinLimits, IsRowWithinLimits, IsTableau}
use Rattle.gj_shape.specs.Limits.{IsSmallNumber}
use Rattle.gj_row.specs.declared.tableau.Entry.{Entry}
use Rattle.gj_row.specs.declared.tableau.Row.{Row}
use Rattle.gj_row.specs.declared.tableau.Tableau.{Tableau}
use Rattle.gj_proof.specs.ProofText.{HasNames, IsBounded, IsBoundedRule}
use Rattle.gj_proof.specs.Rules.{MeetsLimit, MeetsValue}
use Rattle.gj_proof.specs.declared.claim.Claim.TheVariants as claim
use Rattle.gj_proof.specs.declared.cut.CutLine.{CutLine}
use Rattle.gj_proof.specs.declared.cut.CutLine.TheVariants.{Cut, Skip}
use Rattle.gj_proof.specs.declared.cut.CutRule.{CutRule}
use Rattle.gj_proof.specs.declared.cut.CutTerm.{CutTerm}
use Rattle.gj_check.specs.CutRows.{MeetTerms, MeetsCutRow}
use Rattle.gj_check.proofs.CutDemands.{cuts_meet}
use Rattle.gj_check.proofs.RulesGiveMeaning.{meaning_of_rules}
use Rattle.gj_cut_text.specs.CutLines.{IsLineFor, IsTermFor}
use Rattle.gj_cut_text.specs.CutClaim.{IsCutClaim}
use Rattle.gj_cut_text.specs.CutRules.{PassesTests}

-- ---- names that all differ

abbrev Differ : List (List ℕ) → Type 0
Differ names = AllPairs (λ a b. a ≢ b) names

first_differs : (x : List ℕ) (xs : List (List ℕ)) → Differ (x ∷ xs) → All (λ y. x ≢ y) xs
first_differs x xs h k d within = h 0 (suc k) d (omega arith) (omega arith)

rest_differ : (x : List ℕ) (xs : List (List ℕ)) → Differ (x ∷ xs) → Differ xs
rest_differ x xs h i j d lt within = h (suc i) (suc j) d (omega arith) (omega arith)

front_differ : (xs ys : List (List ℕ)) → Differ (xs ++ ys) → Differ xs
front_differ [] ys h = λ i j d lt within. absurd (omega arith)
front_differ (x ∷ xs) ys h =
    AllPairs-cons (λ (a b : List ℕ). a ≢ b) x xs
    (All-front (λ y. x ≢ y) xs ys (first_differs x (xs ++ ys) h))
    (front_differ xs ys (rest_differ x (xs ++ ys) h))

-- one name less
fewer_differ : (xs : List (List ℕ)) (y : List ℕ) (ys : List (List ℕ)) → Differ (xs ++ y ∷ ys) →
    Differ (xs ++ ys)
fewer_differ [] y ys h = rest_differ y ys h
fewer_differ (x ∷ xs) y ys h =
    let P : List ℕ → Type 0 = λ z. x ≢ z in
    let first = first_differs x (xs ++ y ∷ ys) h in
    AllPairs-cons (λ (a b : List ℕ). a ≢ b) x (xs ++ ys)
    (All-append P xs ys (All-front P xs (y ∷ ys) first)
    (All-tail P y ys (All-back P xs (y ∷ ys) first)))
    (fewer_differ xs y ys (rest_differ x (xs ++ y ∷ ys) h))

-- those before a name are others
before_differ : (xs : List (List ℕ)) (y : List ℕ) (ys : List (List ℕ)) → Differ (xs ++ y ∷ ys) →
    All (λ x. x ≢ y) xs
before_differ [] y ys h = All-nil (λ x. x ≢ y)
before_differ (x ∷ xs) y ys h =
    let P : List ℕ → Type 0 = λ z. x ≢ z in
    All-cons (λ z. z ≢ y) x xs
    (All-head P y ys (All-back P xs (y ∷ ys) (first_differs x (xs ++ y ∷ ys) h)))
    (before_differ xs y ys (rest_differ x (xs ++ y ∷ ys) h))

-- the names of the columns are none of a basic variable
basics_differ : (columns : List (List ℕ)) (rows : List Row) →
    Differ (columns ++ map (λ row. row.basic) rows) →
    All (λ row. All (λ x. x ≢ row.basic) columns) rows
basics_differ columns [] h = All-nil (λ (row : Row). All (λ x. x ≢ row.basic) columns)
basics_differ columns (row ∷ rows) h =
    All-cons (λ (row : Row). All (λ x. x ≢ row.basic) columns) row rows
    (before_differ columns row.basic (map (λ row. row.basic) rows) h)
    (basics_differ columns rows (fewer_differ columns row.basic (map (λ row. row.basic) rows) h))

-- columns that ascend have names that differ
ascending_differ : (columns : List (List ℕ)) (cs : List ℕ) → Differ columns →
    AllPairs (λ c d. c < d) cs → All (λ c. c < length columns) cs →
    Differ (map (λ c. get_or columns c []) cs)
ascending_differ columns [] h up below = λ i j d lt within. absurd (omega arith)
ascending_differ columns (c ∷ cs) h up below =
    let name : ℕ → List ℕ = λ c. get_or columns c [] in
    let rest = All-tail (λ c. c < length columns) c cs below in
    let apart : All (λ d. name c ≢ name d) cs =
    λ k d within. h c (get_or cs k d) [] (up 0 (suc k) d (omega arith) (omega arith))
    (rest k d within) in
    AllPairs-cons (λ (a b : List ℕ). a ≢ b) (name c) (map name cs)
    (All-map (λ z. name c ≢ z) name cs apart)
    (ascending_differ columns cs h
    (λ i j d lt within. up (suc i) (suc j) d (omega arith) (omega arith)) rest)

-- ---- the terms of a row

module _ (r : CutRule) (columns : List (List ℕ)) (row : Row) where
  entries_are : (entries : List Entry) (terms : List CutTerm) →
      AllZip (IsTermFor r columns row) entries terms →
      map (λ t. t.entry) terms ≡ map (λ e. e.value) entries
  entries_are [] [] h = refl
  entries_are [] (t ∷ terms) h = absurd h
  entries_are (e ∷ entries) [] h = absurd h
  entries_are (e ∷ entries) (t ∷ terms) h =
      ap₂ (λ x xs. x ∷ xs) h.0.entry (entries_are entries terms h.1)

  names_are : (entries : List Entry) (terms : List CutTerm) →
      AllZip (IsTermFor r columns row) entries terms →
      map (λ t. t.name) terms ≡ map (λ c. get_or columns c []) (map (λ e. e.column) entries)
  names_are [] [] h = refl
  names_are [] (t ∷ terms) h = absurd h
  names_are (e ∷ entries) [] h = absurd h
  names_are (e ∷ entries) (t ∷ terms) h =
      ap₂ (λ x xs. x ∷ xs) h.0.name (names_are entries terms h.1)

  -- what each name of a column has, each term's name has
  each_name : (P : List ℕ → Type 0) (entries : List Entry) (terms : List CutTerm) →
      AllZip (IsTermFor r columns row) entries terms →
      All (λ e. e.column < length columns) entries → All P columns → All (λ t. P t.name) terms
  each_name P [] [] h below all = All-nil (λ (t : CutTerm). P t.name)
  each_name P [] (t ∷ terms) h below all = absurd h
  each_name P (e ∷ entries) [] h below all = absurd h
  each_name P (e ∷ entries) (t ∷ terms) h below all =
      All-cons (λ (t : CutTerm). P t.name) t terms
      (subst P (sym h.0.name)
      (all e.column [] (All-head (λ (e : Entry). e.column < length columns) e entries below)))
      (each_name P entries terms h.1
      (All-tail (λ (e : Entry). e.column < length columns) e entries below) all)

  each_value : (entries : List Entry) (terms : List CutTerm) →
      AllZip (IsTermFor r columns row) entries terms →
      All (λ t. MeetsValue r row.rhs t) terms
  each_value [] [] h = All-nil (λ t. MeetsValue r row.rhs t)
  each_value [] (t ∷ terms) h = absurd h
  each_value (e ∷ entries) [] h = absurd h
  each_value (e ∷ entries) (t ∷ terms) h = All-cons (λ t. MeetsValue r row.rhs t) t terms h.0.value
      (each_value entries terms h.1)

-- ---- the rules on a row

limit_at : (xs : List Frac) (x : Frac) (ys : List Frac) → AreWithinLimits (xs ++ x ∷ ys) →
    MeetsLimit xs x
limit_at xs x ys h =
    let d = h.common.0 in
    record {
      small = All-head IsSmallNumber x ys (All-back IsSmallNumber xs (x ∷ ys) h.small);
      common = (
        d,
        h.common.1,
        h.common.2,
        All-front (Divides d) (xs ++ x ∷ []) ys
            (subst (All (Divides d)) (sym (append_assoc xs (x ∷ []) ys)) h.common.3),
      );
    }

-- the name of a term behind others
name_behind : (P : List ℕ → Type 0) (before : List CutTerm) (t : CutTerm) (after : List CutTerm) →
    All P (map (λ u. u.name) (before ++ t ∷ after)) → P t.name
name_behind P [] t after h = All-head P t.name (map (λ u. u.name) after) h
name_behind P (u ∷ before) t after h =
    name_behind P before t after (All-tail P u.name (map (λ u. u.name) (before ++ t ∷ after)) h)

names_before : (before : List CutTerm) (t : CutTerm) (after : List CutTerm) →
    Differ (map (λ u. u.name) (before ++ t ∷ after)) →
    All (λ u. u.name ≢ t.name) before
names_before [] t after h = All-nil (λ (u : CutTerm). u.name ≢ t.name)
names_before (u ∷ before) t after h =
    let rest = map (λ (u : CutTerm). u.name) (before ++ t ∷ after) in
    All-cons (λ (u : CutTerm). u.name ≢ t.name) u before
    (name_behind (λ z. u.name ≢ z) before t after (first_differs u.name rest h))
    (names_before before t after (rest_differ u.name rest h))

terms_meet : (r : CutRule) (columns : List (List ℕ)) (row : Row) (terms : List CutTerm) →
    Differ columns →
    All (λ x. x ≢ row.basic) columns → IsRowWithinLimits (length columns) row →
    AllZip (IsTermFor r columns row) row.entries terms →
    MeetTerms r row.basic row.rhs terms
terms_meet r columns row terms differ basic limits h j before t after place index =
    let numbers : AreWithinLimits (row.rhs ∷ map (λ u. u.entry) terms) =
    subst (λ xs. AreWithinLimits (row.rhs ∷ xs))
    (sym (entries_are r columns row row.entries terms h)) limits.numbers in
    let split : map (λ (u : CutTerm). u.entry) terms ≡ map (λ u. u.entry) before ++ t.entry ∷ map
    (λ u. u.entry) after =
    ap (map (λ u. u.entry)) place ∙ map-append (λ u. u.entry) before (t ∷ after) in
    let columns_differ :
    Differ (map (λ (c : ℕ). get_or columns c []) (map (λ e. e.column) row.entries)) =
    ascending_differ columns (map (λ e. e.column) row.entries) differ
    (AllPairs-from_increasing (map (λ e. e.column) row.entries) limits.ascending)
    (All-map (λ c. c < length columns) (λ e. e.column) row.entries limits.below) in
    let names_differ : Differ (map (λ (u : CutTerm). u.name) (before ++ t ∷ after)) =
    subst Differ (sym (names_are r columns row row.entries terms h) ∙ ap (map (λ u. u.name)) place)
    columns_differ in
    let B : CutTerm → Type 0 = λ u. u.name ≢ row.basic in
    let V : CutTerm → Type 0 = λ u. MeetsValue r row.rhs u in
    record {
      limit = limit_at (row.rhs ∷ map (λ u. u.entry) before) t.entry (map (λ u. u.entry) after)
          (subst (λ xs. AreWithinLimits (row.rhs ∷ xs)) split numbers);
      name = record {
        not_basic = All-head B t after (All-back B before (t ∷ after)
            (subst (All B) place
            (each_name r columns row (λ x. x ≢ row.basic) row.entries terms h limits.below
            basic)));
        new = names_before before t after names_differ;
      };
      value = All-head V t after
          (All-back V before (t ∷ after)
          (subst (All V) place (each_value r columns row row.entries terms h)));
    }

row_meets : (r : CutRule) (columns : List (List ℕ)) (row : Row) (line : CutLine) → Differ columns →
    All (λ x. x ≢ row.basic) columns → IsRowWithinLimits (length columns) row →
    IsLineFor r columns row line → MeetsCutRow r line
row_meets r columns row (Cut name right terms) differ basic limits h = record {
  fraction = h.2;
  cut = (
    subst (MeetsLimit []) (sym h.1)
        (limit_at [] row.rhs (map (λ e. e.value) row.entries) limits.numbers),
    subst₂ (λ n b. MeetTerms r n b terms) (sym h.0) (sym h.1)
        (terms_meet r columns row terms differ basic limits h.3),
  );
}
row_meets r columns row (Skip name right reason) differ basic limits h =
    record { fraction = h.2; cut = tt }

-- ---- all rows

rows_meet : (r : CutRule) (columns : List (List ℕ)) (rows : List Row) (lines : List CutLine) →
    Differ columns →
    All (λ row. All (λ x. x ≢ row.basic) columns) rows →
    All (IsRowWithinLimits (length columns)) rows →
    AllZip (IsLineFor r columns) rows lines → All (MeetsCutRow r) lines
rows_meet r columns [] [] differ basics limits h = All-nil (MeetsCutRow r)
rows_meet r columns [] (l ∷ lines) differ basics limits h = absurd h
rows_meet r columns (row ∷ rows) [] differ basics limits h = absurd h
rows_meet r columns (row ∷ rows) (l ∷ lines) differ basics limits h =
    let B : Row → Type 0 = λ row. All (λ x. x ≢ row.basic) columns in
    All-cons (MeetsCutRow r) l lines
    (row_meets r columns row l differ (All-head B row rows basics)
    (All-head (IsRowWithinLimits (length columns)) row rows limits) h.0)
    (rows_meet r columns rows lines differ (All-tail B row rows basics)
    (All-tail (IsRowWithinLimits (length columns)) row rows limits) h.1)

-- ---- names

row_has_names : (r : CutRule) (columns : List (List ℕ)) (row : Row) (line : CutLine) →
    All IsName columns → IsName row.basic →
    IsRowWithinLimits (length columns) row → IsLineFor r columns row line → HasNames line
row_has_names r columns row (Cut name right terms) names basic limits h = (
  subst IsName (sym h.0) basic,
  each_name r columns row IsName row.entries terms h.3 limits.below
      names,
)
row_has_names r columns row (Skip name right reason) names basic limits h =
    subst IsName (sym h.0) basic

rows_have_names : (r : CutRule) (columns : List (List ℕ)) (rows : List Row) (lines : List CutLine) →
    All IsName columns →
    All IsName (map (λ row. row.basic) rows) → All (IsRowWithinLimits (length columns)) rows →
    AllZip (IsLineFor r columns) rows lines → All HasNames lines
rows_have_names r columns [] [] names basics limits h = All-nil HasNames
rows_have_names r columns [] (l ∷ lines) names basics limits h = absurd h
rows_have_names r columns (row ∷ rows) [] names basics limits h = absurd h
rows_have_names r columns (row ∷ rows) (l ∷ lines) names basics limits h =
    let bs = map (λ (row : Row). row.basic) rows in
    All-cons HasNames l lines
    (row_has_names r columns row l names (All-head IsName row.basic bs basics)
    (All-head (IsRowWithinLimits (length columns)) row rows limits) h.0)
    (rows_have_names r columns rows lines names (All-tail IsName row.basic bs basics)
    (All-tail (IsRowWithinLimits (length columns)) row rows limits) h.1)

-- ---- the claim

pub cuts_are_bounded : (r : CutRule) (t : Tableau) (lines : List CutLine) → IsBoundedRule r →
    IsTableau t →
    AllZip (IsLineFor r t.columns) t.rows lines → IsBounded (claim.Cut r lines)
cuts_are_bounded r t lines bounded is h = (
  bounded,
  rows_have_names r t.columns t.rows lines
      (All-front IsName t.columns (map (λ row. row.basic) t.rows) is.names.valid)
      (All-back IsName t.columns (map (λ row. row.basic) t.rows) is.names.valid) is.each_row h,
)

-- a line for each row makes the claim
pub claim_of_lines : (r : CutRule) (t : Tableau) (lines : List CutLine) → PassesTests r →
    IsTableau t → AllZip (IsLineFor r t.columns) t.rows lines →
    IsCutClaim r t (claim.Cut r lines)
claim_of_lines r t lines passes is h =
    let bs = map (λ (row : Row). row.basic) t.rows in
    let rules = cuts_meet r lines passes.tests
    (rows_meet r t.columns t.rows lines (front_differ t.columns bs is.names.differ)
    (basics_differ t.columns t.rows is.names.differ) is.each_row h) in
    record {
      lines = lines;
      claim_is = refl;
      lines_are = h;
      hold = meaning_of_rules (claim.Cut r lines) (cuts_are_bounded r t lines passes.bounded is h)
          tt rules;
      rules = rules;
    }
