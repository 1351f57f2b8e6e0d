-- The lines of a claim's own: their names differ, and each has one line feed, at its end.
use Rattle.std.proofs.Common.{◌≡◌, ◌≢◌, ℕ, suc, ◌+◌, ◌≤◌, List, [], ◌∷◌, ◌++◌, All, length, flat_map, zip, refl, sym, ap, subst, ◌∙◌, arith}
use Rattle.std.proofs.lemmas.List.{append_assoc, append-nil, map-append}
use Rattle.std.proofs.lemmas.List.Elements.{All-nil, All-cons, All-head, All-tail, All-append, All-weaker}
use Rattle.gj_lex.specs.Name.{IsName}
use Rattle.gj_forms.specs.TextLines.{line_feeds}
use Rattle.gj_shape.specs.declared.extremality.CoverLine.{CoverLine}
use Rattle.gj_forms.proofs.LineFeeds.{one_feed}
use Rattle.gj_proof.specs.ProofText.{ProofLine, OwnLine, IsBounded, HasNames, HasText, own_lines, violation_line, row_line, term_line, terms_of, term_lines, row_lines, covered_lines, extreme_lines, pair_lines, row_text, own_text}
use Rattle.gj_proof.specs.ProofGrammar.{violation_form, head_form, term_form}
use Rattle.gj_proof.specs.declared.claim.Claim.{Claim}
use Rattle.gj_proof.specs.declared.claim.Claim.TheVariants.{Minimal, NotMinimal, Cut, Extreme, ExtremeByResidues, NotExtreme}
use Rattle.gj_proof.specs.declared.numbers.Numbers.{Numbers}
use Rattle.gj_proof.specs.declared.numbers.Numbers.TheVariants.{Whole, Residues}
use Rattle.gj_proof.specs.declared.pivot.PivotRow.{PivotRow}
use Rattle.gj_proof.specs.declared.cut.CutLine.{CutLine}
use Rattle.gj_proof.specs.declared.cut.CutLine.TheVariants as cuts
use Rattle.gj_proof.specs.declared.cut.CutTerm.{CutTerm}
use Rattle.gj_proof.proofs.ClearLines.{violation_is_clear, head_is_clear, term_is_clear}
use Rattle.gj_proof.proofs.CutTexts.{head_of}
use Rattle.gj_proof.proofs.LineLists.{names, bytes, bytes_append, Differ, differ_append, HasOneFeed}
use Rattle.gj_proof.proofs.ExtremeLines.{IsCoveredFrom, covered_are, IsBehindCover, behind_cover, behind_are, IsPairFrom, pairs_are, extreme_lines_differ, halves_lines_differ, extreme_have_one_feed, halves_have_one_feed, extreme_bytes, halves_bytes}

-- ---- the bytes of the lines of cuts

term_bytes : (i j : ℕ) (terms : List CutTerm) →
    bytes (term_lines i j terms) ≡ flat_map term_line terms
term_bytes i j [] = refl
term_bytes i j (t ∷ terms) = ap (λ u. term_line t ++ u) (term_bytes i (j + 1) terms)

row_bytes : (i : ℕ) (rows : List CutLine) → bytes (row_lines i rows) ≡ flat_map row_text rows
row_bytes i [] = refl
row_bytes i (l ∷ rows) =
    ap (λ t. row_line l ++ t) (bytes_append (term_lines i 0 (terms_of l)) (row_lines (i + 1) rows))
    ∙ sym (append_assoc (row_line l) (bytes (term_lines i 0 (terms_of l)))
    (bytes (row_lines (i + 1) rows)))
    ∙ ap (λ t. row_line l ++ t ++ bytes (row_lines (i + 1) rows)) (term_bytes i 0 (terms_of l))
    ∙ ap (λ t. row_text l ++ t) (row_bytes (i + 1) rows)

-- the bytes of all lines of a claim's own are their text
pub own_bytes : (c : Claim) → bytes (own_lines c) ≡ own_text c
own_bytes (Minimal f) = refl
own_bytes (NotMinimal f v) = append-nil (violation_line v)
own_bytes (Cut rule rows) = row_bytes 0 rows
own_bytes (Extreme f lines rows) = extreme_bytes Whole lines rows
own_bytes (ExtremeByResidues f lines rows) = extreme_bytes Residues lines rows
own_bytes (NotExtreme f h) = halves_bytes h

-- ---- parts of them

pub term_lines_append : (i j : ℕ) (a b : List CutTerm) →
    term_lines i j (a ++ b) ≡ term_lines i j a ++ term_lines i (j + length a) b
term_lines_append i j [] b = let e : j ≡ j + 0 = omega arith in ap (λ k. term_lines i k b) e
term_lines_append i j (t ∷ a) b =
    let e : j + 1 + length a ≡ j + suc (length a) = omega arith in
    let l : OwnLine = record { name = ProofLine.term i j; bytes = term_line t } in
    ap (λ ls. l ∷ ls) (term_lines_append i (j + 1) a b
    ∙ ap (λ k. term_lines i (j + 1) a ++ term_lines i k b) e)

pub row_lines_append : (i : ℕ) (a b : List CutLine) →
    row_lines i (a ++ b) ≡ row_lines i a ++ row_lines (i + length a) b
row_lines_append i [] b = let e : i ≡ i + 0 = omega arith in ap (λ k. row_lines k b) e
row_lines_append i (l ∷ a) b =
    let e : i + 1 + length a ≡ i + suc (length a) = omega arith in
    let first : OwnLine = record { name = ProofLine.cut i; bytes = row_line l } in
    let terms = term_lines i 0 (terms_of l) in
    ap (λ ls. (first ∷ terms) ++ ls)
    (row_lines_append (i + 1) a b ∙ ap (λ k. row_lines (i + 1) a ++ row_lines k b) e)
    ∙ sym (append_assoc (first ∷ terms) (row_lines (i + 1) a) (row_lines (i + suc (length a)) b))

-- ---- their names differ

-- the line is of a term of the i-th row, from the j-th on
abbrev IsTermFrom : ℕ → ℕ → ProofLine → Type 0
IsTermFrom i j (ProofLine.term k m) = (k ≡ i) × (j ≤ m)
IsTermFrom i j l = ⊥

-- the line is of a row, or of a term of one, from the i-th on
abbrev IsRowFrom : ℕ → ProofLine → Type 0
IsRowFrom i (ProofLine.cut k) = i ≤ k
IsRowFrom i (ProofLine.term k m) = i ≤ k
IsRowFrom i l = ⊥

later_term : (i j : ℕ) (l : ProofLine) → IsTermFrom i (j + 1) l → IsTermFrom i j l
later_term i j (ProofLine.term k m) h = (h.0, omega (arith, h.1))
later_term i j l h = absurd h

later_row : (i : ℕ) (l : ProofLine) → IsRowFrom (i + 1) l → IsRowFrom i l
later_row i (ProofLine.cut k) h = omega (arith, h)
later_row i (ProofLine.term k m) h = omega (arith, h)
later_row i l h = absurd h

term_is_of_row : (i : ℕ) (l : ProofLine) → IsTermFrom i 0 l → IsRowFrom i l
term_is_of_row i (ProofLine.term k m) h = omega (arith, h.0)
term_is_of_row i l h = absurd h

terms_are : (i j : ℕ) (terms : List CutTerm) → All (IsTermFrom i j) (names (term_lines i j terms))
terms_are i j [] = All-nil (IsTermFrom i j)
terms_are i j (t ∷ terms) =
    All-cons (IsTermFrom i j) (ProofLine.term i j) (names (term_lines i (j + 1) terms))
    (refl, omega arith)
    (All-weaker (IsTermFrom i (j + 1)) (IsTermFrom i j) (later_term i j)
    (names (term_lines i (j + 1) terms)) (terms_are i (j + 1) terms))

rows_are : (i : ℕ) (rows : List CutLine) → All (IsRowFrom i) (names (row_lines i rows))
rows_are i [] = All-nil (IsRowFrom i)
rows_are i (l ∷ rows) =
    let terms = term_lines i 0 (terms_of l) in
    let more = row_lines (i + 1) rows in
    let all : All (IsRowFrom i) (names terms ++ names more) =
    All-append (IsRowFrom i) (names terms) (names more)
    (All-weaker (IsTermFrom i 0) (IsRowFrom i) (term_is_of_row i) (names terms)
    (terms_are i 0 (terms_of l)))
    (All-weaker (IsRowFrom (i + 1)) (IsRowFrom i) (later_row i) (names more)
    (rows_are (i + 1) rows)) in
    All-cons (IsRowFrom i) (ProofLine.cut i) (names (terms ++ more)) (omega arith)
    (subst (All (IsRowFrom i)) (sym (map-append (λ (o : OwnLine). o.name) terms more)) all)

not_this_term : (i j : ℕ) (l : ProofLine) → IsTermFrom i (j + 1) l → l ≢ ProofLine.term i j
not_this_term i j l h e = let k = subst (IsTermFrom i (j + 1)) e h in omega (arith, k.1)

no_term : (i j : ℕ) (l : ProofLine) → IsTermFrom i j l → l ≢ ProofLine.cut i
no_term i j l h e = subst (IsTermFrom i j) e h

no_later_row : (i : ℕ) (l : ProofLine) → IsRowFrom (i + 1) l → l ≢ ProofLine.cut i
no_later_row i l h e = let k : i + 1 ≤ i = subst (IsRowFrom (i + 1)) e h in omega (arith, k)

-- a term of the i-th row is no line of a later one
term_apart : (i : ℕ) (l m : ProofLine) → IsTermFrom i 0 l → IsRowFrom (i + 1) m → m ≢ l
term_apart i l m h k e = both l h (subst (IsRowFrom (i + 1)) e k)
  where
    both : (l : ProofLine) → IsTermFrom i 0 l → IsRowFrom (i + 1) l → ⊥
    both (ProofLine.term k m) h r = omega (arith, h.0, r)
    both l h r = absurd h

terms_differ : (i j : ℕ) (terms : List CutTerm) → Differ (names (term_lines i j terms))
terms_differ i j [] = tt
terms_differ i j (t ∷ terms) = (
  All-weaker (IsTermFrom i (j + 1)) (λ k. k ≢ ProofLine.term i j) (not_this_term i j)
      (names (term_lines i (j + 1) terms))
      (terms_are i (j + 1) terms),
  terms_differ i (j + 1) terms,
)

rows_differ : (i : ℕ) (rows : List CutLine) → Differ (names (row_lines i rows))
rows_differ i [] = tt
rows_differ i (l ∷ rows) =
    let terms = names (term_lines i 0 (terms_of l)) in
    let more = names (row_lines (i + 1) rows) in
    let terms_here = terms_are i 0 (terms_of l) in
    let more_here = rows_are (i + 1) rows in
    let joined : names (term_lines i 0 (terms_of l) ++ row_lines (i + 1) rows) ≡ terms ++ more =
    map-append (λ (o : OwnLine). o.name) (term_lines i 0 (terms_of l)) (row_lines (i + 1) rows) in
    let first : All (λ k. k ≢ ProofLine.cut i) (terms ++ more) =
    All-append (λ k. k ≢ ProofLine.cut i) terms more
    (All-weaker (IsTermFrom i 0) (λ k. k ≢ ProofLine.cut i) (no_term i 0) terms terms_here)
    (All-weaker (IsRowFrom (i + 1)) (λ k. k ≢ ProofLine.cut i) (no_later_row i) more more_here) in
    let others : Differ (terms ++ more) =
    differ_append terms more (terms_differ i 0 (terms_of l)) (rows_differ (i + 1) rows)
    (All-weaker (IsTermFrom i 0) (λ l. All (λ k. k ≢ l) more)
    (λ l h. All-weaker (IsRowFrom (i + 1)) (λ k. k ≢ l)
    (λ m k. term_apart i l m h k) more more_here) terms terms_here) in (
      subst (All (λ k. k ≢ ProofLine.cut i)) (sym joined) first,
      subst Differ (sym joined) others,
    )

pub own_lines_differ : (c : Claim) → Differ (names (own_lines c))
own_lines_differ (Minimal f) = tt
own_lines_differ (NotMinimal f v) = (All-nil (λ k. k ≢ ProofLine.violation_shown), tt)
own_lines_differ (Cut rule rows) = rows_differ 0 rows
own_lines_differ (Extreme f lines rows) = extreme_lines_differ Whole lines rows
own_lines_differ (ExtremeByResidues f lines rows) = extreme_lines_differ Residues lines rows
own_lines_differ (NotExtreme f h) = halves_lines_differ h

-- ---- and differ from all others

abbrev pub IsOwn : ProofLine → Type 0
IsOwn ProofLine.violation_shown = Unit {0}
IsOwn (ProofLine.cut i) = Unit {0}
IsOwn (ProofLine.term i j) = Unit {0}
IsOwn (ProofLine.covered i) = Unit {0}
IsOwn ProofLine.modulus_named = Unit {0}
IsOwn (ProofLine.group g) = Unit {0}
IsOwn (ProofLine.reduction g r) = Unit {0}
IsOwn (ProofLine.group_pivot g) = Unit {0}
IsOwn ProofLine.halves = Unit {0}
IsOwn (ProofLine.pair i) = Unit {0}
IsOwn l = ⊥

row_is_own : (i : ℕ) (l : ProofLine) → IsRowFrom i l → IsOwn l
row_is_own i (ProofLine.cut k) h = tt
row_is_own i (ProofLine.term k m) h = tt
row_is_own i l h = absurd h

covered_is_own : (l : ProofLine) → IsCoveredFrom 0 l → IsOwn l
covered_is_own (ProofLine.covered k) h = tt
covered_is_own l h = absurd h

behind_is_own : (l : ProofLine) → IsBehindCover l → IsOwn l
behind_is_own ProofLine.modulus_named h = tt
behind_is_own (ProofLine.group k) h = tt
behind_is_own (ProofLine.reduction k m) h = tt
behind_is_own (ProofLine.group_pivot k) h = tt
behind_is_own l h = absurd h

pair_is_own : (l : ProofLine) → IsPairFrom 0 l → IsOwn l
pair_is_own (ProofLine.pair k) h = tt
pair_is_own l h = absurd h

extreme_are_own : (n : Numbers) (lines : List CoverLine) (rows : List PivotRow) →
    All IsOwn (names (extreme_lines n lines rows))
extreme_are_own n lines rows =
    let first = names (covered_lines 0 lines) in
    let more = names (behind_cover n rows) in
    subst (All IsOwn) (sym
    (map-append (λ (o : OwnLine). o.name) (covered_lines 0 lines) (behind_cover n rows)))
    (All-append IsOwn first more
    (All-weaker (IsCoveredFrom 0) IsOwn covered_is_own first (covered_are 0 lines))
    (All-weaker IsBehindCover IsOwn behind_is_own more (behind_are n rows)))

pub own_lines_are_own : (c : Claim) → All IsOwn (names (own_lines c))
own_lines_are_own (Minimal f) = All-nil IsOwn
own_lines_are_own (NotMinimal f v) = All-cons IsOwn ProofLine.violation_shown [] tt (All-nil IsOwn)
own_lines_are_own (Cut rule rows) =
    All-weaker (IsRowFrom 0) IsOwn (row_is_own 0) (names (row_lines 0 rows)) (rows_are 0 rows)
own_lines_are_own (Extreme f lines rows) = extreme_are_own Whole lines rows
own_lines_are_own (ExtremeByResidues f lines rows) = extreme_are_own Residues lines rows
own_lines_are_own (NotExtreme f h) =
    let pairs = pair_lines 0 (zip h.first h.second) in
    All-cons IsOwn ProofLine.halves (names pairs) tt
    (All-weaker (IsPairFrom 0) IsOwn pair_is_own (names pairs) (pairs_are 0 (zip h.first h.second)))

-- ---- line feeds

feeds_of_row : (l : CutLine) → HasNames l → line_feeds (row_line l) ≡ 1
feeds_of_row (cuts.Cut name right terms) h =
    one_feed head_form head_is_clear (head_of (cuts.Cut name right terms)) h.0
feeds_of_row (cuts.Skip name right r) h =
    one_feed head_form head_is_clear (head_of (cuts.Skip name right r)) h

terms_have_one_feed : (i j : ℕ) (terms : List CutTerm) → All (λ t. IsName t.name) terms →
    All HasOneFeed (term_lines i j terms)
terms_have_one_feed i j [] named = All-nil HasOneFeed
terms_have_one_feed i j (t ∷ terms) named =
    let P : CutTerm → Type 0 = λ t. IsName t.name in
    All-cons HasOneFeed (record { name = ProofLine.term i j; bytes = term_line t })
    (term_lines i (j + 1) terms)
    (one_feed term_form term_is_clear t (All-head P t terms named))
    (terms_have_one_feed i (j + 1) terms (All-tail P t terms named))

pub names_of_terms : (l : CutLine) → HasNames l → All (λ t. IsName t.name) (terms_of l)
names_of_terms (cuts.Cut name right terms) h = h.1
names_of_terms (cuts.Skip name right r) h = All-nil (λ t. IsName t.name)

rows_have_one_feed : (i : ℕ) (rows : List CutLine) → All HasNames rows →
    All HasOneFeed (row_lines i rows)
rows_have_one_feed i [] named = All-nil HasOneFeed
rows_have_one_feed i (l ∷ rows) named =
    let here = All-head HasNames l rows named in
    All-cons HasOneFeed (record { name = ProofLine.cut i; bytes = row_line l })
    (term_lines i 0 (terms_of l) ++ row_lines (i + 1) rows)
    (feeds_of_row l here)
    (All-append HasOneFeed (term_lines i 0 (terms_of l)) (row_lines (i + 1) rows)
    (terms_have_one_feed i 0 (terms_of l) (names_of_terms l here))
    (rows_have_one_feed (i + 1) rows (All-tail HasNames l rows named)))

pub own_lines_have_one_feed : (c : Claim) → IsBounded c → HasText c → All HasOneFeed (own_lines c)
own_lines_have_one_feed (Minimal f) b t = All-nil HasOneFeed
own_lines_have_one_feed (NotMinimal f v) b t =
    All-cons HasOneFeed (record { name = ProofLine.violation_shown; bytes = violation_line v }) []
    (one_feed violation_form violation_is_clear v tt)
    (All-nil HasOneFeed)
own_lines_have_one_feed (Cut rule rows) b t = rows_have_one_feed 0 rows b.1
own_lines_have_one_feed (Extreme f lines rows) b t =
    extreme_have_one_feed Whole f.order lines rows b.order_high t.1 t.2
own_lines_have_one_feed (ExtremeByResidues f lines rows) b t =
    extreme_have_one_feed Residues f.order lines rows b.order_high t.1 t.2
own_lines_have_one_feed (NotExtreme f h) b t = halves_have_one_feed h t
