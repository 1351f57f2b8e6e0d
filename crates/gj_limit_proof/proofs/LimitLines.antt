-- The lines of a claim's own: their names are those of the lines of a claim of texts 1 and 2, so
-- that they differ; and each has one line feed, at its end.
use Rattle.std.proofs.Common.{◌≡◌, ℕ, ℤ, pos, ◌+◌, ◌<◌, ◌≤◌, List, [], ◌∷◌, ◌++◌, All, map, flat_map, zip, refl, sym, ap, ◌∙◌, arith}
use Rattle.std.proofs.lemmas.List.{append_assoc, map-append}
use Rattle.std.proofs.lemmas.List.Elements.{All-nil, All-cons, All-head, All-tail, All-append}
use Rattle.gj_lemmas.proofs.Lists.{All-front, All-back}
use Rattle.gj_forms.proofs.LineFeeds.{one_feed}
use Rattle.gj_shape.specs.declared.extremality.CoverLine.{CoverLine}
use Rattle.gj_shape.specs.declared.extremality.Halves.{Halves}
use Rattle.gj_shape.specs.declared.extremality.LimitHalves.{LimitHalves}
use Rattle.gj_shape.specs.declared.extremality.RowName.TheVariants.{Period}
use Rattle.gj_function_lines.specs.FaceLines.{cover_line}
use Rattle.gj_proof.specs.ProofGrammar.{halves_form}
use Rattle.gj_proof.specs.ProofText.{ProofLine, OwnLine, Subject, function, IsCoverLineBelow, reduction_line, pivot_line, covered_lines, reduction_lines, modulus_lines, extreme_claim, subject_of}
use Rattle.gj_proof.specs.ProofText as plain
use Rattle.gj_proof.specs.declared.claim.Claim.{Claim}
use Rattle.gj_proof.specs.declared.claim.Claim.TheVariants as plain_claims
use Rattle.gj_proof.specs.declared.numbers.Numbers.{Numbers}
use Rattle.gj_proof.specs.declared.numbers.Numbers.TheVariants.{Whole, Residues}
use Rattle.gj_proof.specs.declared.pivot.PivotRow.{PivotRow}
use Rattle.gj_proof.proofs.ClearLines.{halves_is_clear}
use Rattle.gj_proof.proofs.ExtremeLines.{covered_bytes, extreme_have_one_feed, reduction_bytes, modulus_bytes}
use Rattle.gj_proof.proofs.LineLists.{names, bytes, bytes_append, HasOneFeed}
use Rattle.gj_limit_proof.specs.LimitGrammar.{row_form, pair_form}
use Rattle.gj_limit_proof.specs.LimitText.{function_of, IsBounded, HasText, group_line, group_text, pair_line, pairs_of, halves_line, group_lines, extreme_lines, pair_lines, own_lines, extreme_text, own_text, greatest_columns, IsLimitPivotRowBelow}
use Rattle.gj_limit_proof.specs.declared.claim.LimitClaim.{LimitClaim}
use Rattle.gj_limit_proof.specs.declared.claim.LimitClaim.TheVariants.{Extreme, NotExtreme}
use Rattle.gj_limit_proof.specs.declared.claim.LimitPivotRow.{LimitPivotRow}
use Rattle.gj_proof.proofs.ExtremeTexts.{reduce_form, reduce_is_clear}
use Rattle.gj_limit_proof.proofs.GroupTexts.{pivot_form, pivot_is_clear}
use Rattle.gj_limit_proof.proofs.HalvesTexts.{head_of, head_in_bounds, pairs_fit}
use Rattle.gj_limit_proof.proofs.LimitForms.{row_is_clear}
use Rattle.gj_limit_proof.proofs.PairForms.{Pair, HavePairFit, pair_is_clear}

-- ---- a claim whose lines have the same names

abbrev plain_row : LimitPivotRow → PivotRow
plain_row row = record { name = Period; reduce = row.reduce; pivot = row.pivot }

abbrev no_values : List Pair → List ℤ
no_values pairs = map (λ p. pos 0) pairs

abbrev plain_halves : LimitHalves → Halves
plain_halves h =
    record {
      order = h.order;
      scale = h.scale;
      first = no_values (pairs_of h);
      second =
          no_values (pairs_of h);
    }

abbrev pub plain_claim : LimitClaim → Claim
plain_claim (Extreme numbers f lines rows) = extreme_claim numbers f lines (map plain_row rows)
plain_claim (NotExtreme f h) = plain_claims.NotExtreme f (plain_halves h)

pub same_subject : (c : LimitClaim) → subject_of (plain_claim c) ≡ function (function_of c)
same_subject (Extreme Whole f lines rows) = refl
same_subject (Extreme Residues f lines rows) = refl
same_subject (NotExtreme f h) = refl

-- a line of a claim's own
abbrev own_line : ProofLine → List ℕ → OwnLine
own_line name bytes = record { name = name; bytes = bytes }

pub names_append : (a b : List OwnLine) → names (a ++ b) ≡ names a ++ names b
names_append a b = map-append (λ (o : OwnLine). o.name) a b

same_names_of_groups : (g : ℕ) (rows : List LimitPivotRow) →
    names (group_lines g rows) ≡ names (plain.group_lines g (map plain_row rows))
same_names_of_groups g [] = refl
same_names_of_groups g (row ∷ rows) =
    let steps = reduction_lines g 0 row.reduce in
    let last = own_line (ProofLine.group_pivot g) (pivot_line row.pivot) in
    let more = group_lines (g + 1) rows in
    let others = plain.group_lines (g + 1) (map plain_row rows) in
    ap (λ ns. ProofLine.group g ∷ ns)
    (names_append steps (last ∷ more)
    ∙ ap (λ ns. names steps ++ ProofLine.group_pivot g ∷ ns) (same_names_of_groups (g + 1) rows)
    ∙ sym (names_append steps (last ∷ others)))

same_names_of_pairs : (i : ℕ) (pairs : List Pair) →
    names (pair_lines i pairs)
    ≡ names (plain.pair_lines i (zip (no_values pairs) (no_values pairs)))
same_names_of_pairs i [] = refl
same_names_of_pairs i (p ∷ pairs) =
    ap (λ ns. ProofLine.pair i ∷ ns) (same_names_of_pairs (i + 1) pairs)

same_names_of_extreme : (n : Numbers) (lines : List CoverLine) (rows : List LimitPivotRow) →
    names (extreme_lines n lines rows) ≡ names (plain.extreme_lines n lines (map plain_row rows))
same_names_of_extreme n lines rows =
    let cover = covered_lines 0 lines in
    let modulus = modulus_lines n in
    let groups = group_lines 0 rows in
    let others = plain.group_lines 0 (map plain_row rows) in
    names_append cover (modulus ++ groups)
    ∙ ap (λ ns. names cover ++ ns) (names_append modulus groups)
    ∙ ap (λ ns. names cover ++ (names modulus ++ ns)) (same_names_of_groups 0 rows)
    ∙ ap (λ ns. names cover ++ ns) (sym (names_append modulus others))
    ∙ sym (names_append cover (modulus ++ others))

pub same_names : (c : LimitClaim) → names (own_lines c) ≡ names (plain.own_lines (plain_claim c))
same_names (Extreme Whole f lines rows) = same_names_of_extreme Whole lines rows
same_names (Extreme Residues f lines rows) = same_names_of_extreme Residues lines rows
same_names (NotExtreme f h) = ap (λ ns. ProofLine.halves ∷ ns) (same_names_of_pairs 0 (pairs_of h))

-- ---- their bytes

group_bytes : (g : ℕ) (rows : List LimitPivotRow) →
    bytes (group_lines g rows) ≡ flat_map group_text rows
group_bytes g [] = refl
group_bytes g (row ∷ rows) =
    let last = own_line (ProofLine.group_pivot g) (pivot_line row.pivot) in
    ap (λ t. group_line row.name ++ t)
    (bytes_append (reduction_lines g 0 row.reduce) (last ∷ group_lines (g + 1) rows)
    ∙ ap (λ t. t ++ (pivot_line row.pivot ++ bytes (group_lines (g + 1) rows)))
    (reduction_bytes g 0 row.reduce)
    ∙ ap (λ t. flat_map reduction_line row.reduce ++ (pivot_line row.pivot ++ t))
    (group_bytes (g + 1) rows))
    ∙ regroup (group_line row.name) (flat_map reduction_line row.reduce) (pivot_line row.pivot)
    (flat_map group_text rows)
  where
    regroup : (a b c d : List ℕ) → a ++ (b ++ (c ++ d)) ≡ (a ++ b ++ c) ++ d
    regroup a b c d = simp append_assoc

extreme_bytes : (n : Numbers) (lines : List CoverLine) (rows : List LimitPivotRow) →
    bytes (extreme_lines n lines rows) ≡ extreme_text n lines rows
extreme_bytes n lines rows =
    let more = modulus_lines n ++ group_lines 0 rows in
    bytes_append (covered_lines 0 lines) more ∙ ap (λ t. t ++ bytes more) (covered_bytes 0 lines)
    ∙ ap (λ t. flat_map cover_line lines ++ t)
    (bytes_append (modulus_lines n) (group_lines 0 rows)
    ∙ (λ i. modulus_bytes n i ++ group_bytes 0 rows i))

pair_bytes : (i : ℕ) (pairs : List Pair) → bytes (pair_lines i pairs) ≡ flat_map pair_line pairs
pair_bytes i [] = refl
pair_bytes i (p ∷ pairs) = ap (λ t. pair_line p ++ t) (pair_bytes (i + 1) pairs)

-- the bytes of all lines of a claim's own are their text
pub own_bytes : (c : LimitClaim) → bytes (own_lines c) ≡ own_text c
own_bytes (Extreme n f lines rows) = extreme_bytes n lines rows
own_bytes (NotExtreme f h) = ap (λ t. halves_line h ++ t) (pair_bytes 0 (pairs_of h))

-- ---- their line feeds

reductions_have_one_feed : (g r : ℕ) (columns : List ℕ) → All (λ c. c < greatest_columns) columns →
    All HasOneFeed (reduction_lines g r columns)
reductions_have_one_feed g r [] h = All-nil HasOneFeed
reductions_have_one_feed g r (c ∷ columns) h =
    let P : ℕ → Type 0 = λ c. c < greatest_columns in
    All-cons HasOneFeed (own_line (ProofLine.reduction g r) (reduction_line c))
    (reduction_lines g (r + 1) columns)
    (one_feed (reduce_form greatest_columns) (reduce_is_clear greatest_columns (omega arith)) c
    (All-head P c columns h))
    (reductions_have_one_feed g (r + 1) columns (All-tail P c columns h))

groups_have_one_feed : (g q : ℕ) (rows : List LimitPivotRow) → q ≤ 1000 →
    All (IsLimitPivotRowBelow q) rows → All HasOneFeed (group_lines g rows)
groups_have_one_feed g q [] small h = All-nil HasOneFeed
groups_have_one_feed g q (row ∷ rows) small h =
    let here = All-head (IsLimitPivotRowBelow q) row rows h in
    let last = own_line (ProofLine.group_pivot g) (pivot_line row.pivot) in
    let more = group_lines (g + 1) rows in
    All-cons HasOneFeed (own_line (ProofLine.group g) (group_line row.name))
    (reduction_lines g 0 row.reduce ++ last ∷ more)
    (one_feed (row_form q) (row_is_clear q small) row.name here.name)
    (All-append HasOneFeed (reduction_lines g 0 row.reduce) (last ∷ more)
    (reductions_have_one_feed g 0 row.reduce here.reduce)
    (All-cons HasOneFeed last more (one_feed pivot_form pivot_is_clear row.pivot here.pivot)
    (groups_have_one_feed (g + 1) q rows small (All-tail (IsLimitPivotRowBelow q) row rows h))))

-- those of covered intervals, and that of the modulus, as texts 1 and 2 have them
first_have_one_feed : (n : Numbers) (q : ℕ) (lines : List CoverLine) → q ≤ 1000 →
    All (IsCoverLineBelow q) lines →
    All HasOneFeed (covered_lines 0 lines ++ (modulus_lines n ++ []))
first_have_one_feed n q lines small h =
    extreme_have_one_feed n q lines [] small h (All-nil (plain.IsPivotRowBelow q))

extreme_have_feeds : (n : Numbers) (q : ℕ) (lines : List CoverLine) (rows : List LimitPivotRow) →
    q ≤ 1000 →
    All (IsCoverLineBelow q) lines → All (IsLimitPivotRowBelow q) rows →
    All HasOneFeed (extreme_lines n lines rows)
extreme_have_feeds n q lines rows small h k =
    let first = first_have_one_feed n q lines small h in
    let cover = All-front HasOneFeed (covered_lines 0 lines) (modulus_lines n ++ []) first in
    let modulus = All-front HasOneFeed (modulus_lines n) []
    (All-back HasOneFeed (covered_lines 0 lines) (modulus_lines n ++ []) first) in
    All-append HasOneFeed (covered_lines 0 lines) (modulus_lines n ++ group_lines 0 rows) cover
    (All-append HasOneFeed (modulus_lines n) (group_lines 0 rows) modulus
    (groups_have_one_feed 0 q rows small k))

pairs_have_one_feed : (i : ℕ) (pairs : List Pair) → All HavePairFit pairs →
    All HasOneFeed (pair_lines i pairs)
pairs_have_one_feed i [] h = All-nil HasOneFeed
pairs_have_one_feed i (p ∷ pairs) h =
    All-cons HasOneFeed (own_line (ProofLine.pair i) (pair_line p)) (pair_lines (i + 1) pairs)
    (one_feed pair_form pair_is_clear p (All-head HavePairFit p pairs h))
    (pairs_have_one_feed (i + 1) pairs (All-tail HavePairFit p pairs h))

pub own_lines_have_one_feed : (c : LimitClaim) → IsBounded c → HasText c →
    All HasOneFeed (own_lines c)
own_lines_have_one_feed (Extreme n f lines rows) b t =
    extreme_have_feeds n f.order lines rows b.order_high t.lines_below t.rows_below
own_lines_have_one_feed (NotExtreme f h) b t =
    All-cons HasOneFeed (own_line ProofLine.halves (halves_line h)) (pair_lines 0 (pairs_of h))
    (one_feed halves_form halves_is_clear (head_of h) (head_in_bounds h t))
    (pairs_have_one_feed 0 (pairs_of h) (pairs_fit h t))
