-- The lines of a claim about a function that may jump have the numbers of those of a claim about a
-- continuous one that has as many of each kind.
use Rattle.std.proofs.Common.{◌≡◌, ◌≢◌, ℕ, ◌+◌, ◌<◌, ℤ, List, [], ◌∷◌, ◌++◌, length, map, zip, refl, sym, ap, subst, ◌∙◌, arith}
use Rattle.std.specs.List.{range_with_len}
use Rattle.std.proofs.lemmas.List.{append_assoc, length-map, length-append}
use Rattle.std.proofs.lemmas.List.FromFn.{length-map-range_with_len}
use Rattle.std.proofs.lemmas.Slice.Zip.{length-zip}
use Rattle.gj_shape.specs.FunctionData.{FunctionData}
use Rattle.gj_shape.specs.Perturbation.{AreHalvesInBounds}
use Rattle.gj_shape.specs.declared.extremality.CoverLine.{CoverLine}
use Rattle.gj_shape.specs.declared.extremality.Halves.{Halves}
use Rattle.gj_shape.specs.declared.extremality.LimitHalves.{LimitHalves}
use Rattle.gj_shape.specs.declared.extremality.RowName.TheVariants.{Period}
use Rattle.gj_proof.specs.ProofText as plain
use Rattle.gj_proof.specs.ProofText.{ProofLine, OwnLine, function, subject_lines, extreme_claim, covered_lines, modulus_lines, reduction_lines, pivot_line}
use Rattle.gj_proof.specs.ProofText.ProofLine.{title, claim, order, place, point, covered, group, group_pivot, halves, pair, last}
use Rattle.gj_proof.specs.declared.claim.Claim.{Claim}
use Rattle.gj_proof.specs.declared.claim.Claim.TheVariants as claims
use Rattle.gj_proof.specs.declared.numbers.Numbers.{Numbers}
use Rattle.gj_proof.specs.declared.numbers.Numbers.TheVariants.{Whole, Residues}
use Rattle.gj_proof.specs.declared.pivot.PivotRow.{PivotRow}
use Rattle.gj_proof.proofs.AtPlaces.{at_index, split_there}
use Rattle.gj_proof.proofs.LineCounts.{own_line, length-covered}
use Rattle.gj_proof.proofs.LineLists.{names}
use Rattle.gj_check.proofs.OwnLineNumbers.{function_lines, number_of_cover, number_behind_groups, number_of_halves, number_of_pair}
use Rattle.gj_check_groups.proofs.ClaimGroups.{number_in_extreme}
use Rattle.gj_limit_proof.specs.declared.claim.LimitClaim.{LimitClaim}
use Rattle.gj_limit_proof.specs.declared.claim.LimitClaim.TheVariants.{Extreme, NotExtreme}
use Rattle.gj_limit_proof.specs.declared.claim.LimitPivotRow.{LimitPivotRow}
use Rattle.gj_limit_proof.specs.declared.triple.Triple.{Triple}
use Rattle.gj_limit_proof.specs.LimitText.{AreLimitHalvesInBounds, group_lines, extreme_lines, pair_lines, pairs_of, proof_lines_of, HasNumber}
use Rattle.gj_limit_proof.proofs.LimitLines.{names_append}

-- ---- the other claim

-- a group with the same steps
abbrev pub plain_row : LimitPivotRow → PivotRow
plain_row row = record { name = Period; reduce = row.reduce; pivot = row.pivot }

-- the halves without their limits
abbrev pub plain_halves : LimitHalves → Halves
plain_halves h = record {
  order = h.order;
  scale = h.scale;
  first = h.first.value;
  second =
      h.second.value;
}

abbrev pub plain_claim : LimitClaim → Claim
plain_claim (Extreme numbers f lines rows) = extreme_claim numbers f lines (map plain_row rows)
plain_claim (NotExtreme f h) = claims.NotExtreme f (plain_halves h)

-- ---- its lines

group_names : (g : ℕ) (rows : List LimitPivotRow) →
    names (group_lines g rows) ≡ names (plain.group_lines g (map plain_row rows))
group_names g [] = refl
group_names g (row ∷ rows) =
    let steps = reduction_lines g 0 row.reduce in
    let end = own_line (group_pivot g) (pivot_line row.pivot) in
    let others = plain.group_lines (g + 1) (map plain_row rows) in
    ap (λ ns. group g ∷ ns)
    (names_append steps (end ∷ group_lines (g + 1) rows)
    ∙ ap (λ ns. names steps ++ group_pivot g ∷ ns) (group_names (g + 1) rows)
    ∙ sym (names_append steps (end ∷ others)))

extreme_names : (n : Numbers) (lines : List CoverLine) (rows : List LimitPivotRow) →
    names (extreme_lines n lines rows) ≡ names (plain.extreme_lines n lines (map plain_row rows))
extreme_names n lines rows =
    let covers = covered_lines 0 lines in
    let others = plain.group_lines 0 (map plain_row rows) in
    names_append covers (modulus_lines n ++ group_lines 0 rows)
    ∙ ap (λ ns. names covers ++ ns)
    (names_append (modulus_lines n) (group_lines 0 rows)
    ∙ ap (λ ns. names (modulus_lines n) ++ ns) (group_names 0 rows)
    ∙ sym (names_append (modulus_lines n) others))
    ∙ sym (names_append covers (modulus_lines n ++ others))

pair_names : (i : ℕ) (pairs : List (Triple × Triple)) (others : List (ℤ × ℤ)) →
    length pairs ≡ length others →
    names (pair_lines i pairs) ≡ names (plain.pair_lines i others)
pair_names i [] [] len = refl
pair_names i [] (q ∷ others) len = absurd (omega arith)
pair_names i (p ∷ pairs) [] len = absurd (omega arith)
pair_names i (p ∷ pairs) (q ∷ others) len =
    ap (λ ns. pair i ∷ ns) (pair_names (i + 1) pairs others (omega arith))

all_lines : FunctionData → List ProofLine → List ProofLine
all_lines f own = title ∷ claim ∷ order ∷ place ∷ map point (range_with_len 0 f.order) ++ own
    ++ last ∷ []

extreme_same : (n : Numbers) (f : FunctionData) (lines : List CoverLine)
    (rows : List LimitPivotRow) →
    proof_lines_of (Extreme n f lines rows)
    ≡ plain.proof_lines_of (extreme_claim n f lines (map plain_row rows))
unfolding all_lines
extreme_same Whole f lines rows = ap (all_lines f) (extreme_names Whole lines rows)
extreme_same Residues f lines rows = ap (all_lines f) (extreme_names Residues lines rows)

halves_same : (f : FunctionData) (h : LimitHalves) → AreLimitHalvesInBounds h →
    proof_lines_of (NotExtreme f h) ≡ plain.proof_lines_of (claims.NotExtreme f (plain_halves h))
unfolding all_lines
halves_same f h b =
    let first = b.first.value_length in
    let second = b.second.value_length in
    let zipped = length-zip h.first.value h.second.value in
    let made : length (pairs_of h) ≡ h.order = length-map-range_with_len _ 0 h.order in
    ap (λ ns. all_lines f (halves ∷ ns))
    (pair_names 0 (pairs_of h) (zip h.first.value h.second.value) (omega arith))

-- ---- their numbers

moved : (c : LimitClaim) (d : Claim) (l : ProofLine) (n : ℕ) →
    proof_lines_of c ≡ plain.proof_lines_of d → plain.HasNumber d l n →
    HasNumber c l n
moved c d l n same h = record {
  before = h.before;
  after = h.after;
  place = same ∙ h.place;
  first = h.first;
  number = h.number;
}

-- the line of the i-th covered interval
pub number_of_cover_line : (n : Numbers) (f : FunctionData) (lines : List CoverLine)
    (rows : List LimitPivotRow) (i : ℕ) → i < length lines →
    HasNumber (Extreme n f lines rows) (covered i) (f.order + 5 + i)
number_of_cover_line n f lines rows i below =
    moved (Extreme n f lines rows) (extreme_claim n f lines (map plain_row rows)) (covered i)
    (f.order + 5 + i) (extreme_same n f lines rows)
    (number_of_cover n f lines (map plain_row rows) i below)

-- as many lines of groups
pub count_of_groups : (rows : List LimitPivotRow) →
    length (group_lines 0 rows) ≡ length (plain.group_lines 0 (map plain_row rows))
count_of_groups rows =
    sym (length-map (group_lines 0 rows) (λ (l : OwnLine). l.name)) ∙ ap length (group_names 0 rows)
    ∙ length-map (plain.group_lines 0 (map plain_row rows)) (λ (l : OwnLine). l.name)

-- the last line
pub number_of_end : (n : Numbers) (f : FunctionData) (lines : List CoverLine)
    (rows : List LimitPivotRow) →
    HasNumber (Extreme n f lines rows) last
    (f.order + 5 + length lines + length (modulus_lines n) + length (group_lines 0 rows))
number_of_end n f lines rows =
    let c = Extreme n f lines rows in
    let d = extreme_claim n f lines (map plain_row rows) in
    subst (λ (k : ℕ). HasNumber c last (f.order + 5 + length lines + length (modulus_lines n) + k))
    (sym (count_of_groups rows))
    (moved c d last _ (extreme_same n f lines rows)
    (number_behind_groups n f lines (map plain_row rows)))

-- the line of a group behind so many others
pub number_in_groups : (n : Numbers) (f : FunctionData) (lines : List CoverLine)
    (rows : List LimitPivotRow) (above : List OwnLine)
    (line : OwnLine) (under : List OwnLine) → group_lines 0 rows ≡ above ++ line ∷ under →
    HasNumber (Extreme n f lines rows) line.name
    (f.order + length lines + 5 + length (modulus_lines n) + length above)
number_in_groups n f lines rows above line under split =
    let others = plain.group_lines 0 (map plain_row rows) in
    let count = count_of_groups rows in
    let long = ap length split ∙ length-append above (line ∷ under) in
    let there = split_there others (length above) (omega arith) in
    let named : names above ++ line.name ∷ names under ≡ names there.before ++ there.item.name
    ∷ names there.after =
    sym (names_append above (line ∷ under)) ∙ ap names (sym split) ∙ group_names 0 rows
    ∙ ap names there.place
    ∙ names_append there.before (there.item ∷ there.after) in
    let above_long : length (names above) ≡ length above =
    length-map above (λ (l : OwnLine). l.name) in
    let before_long : length (names there.before) ≡ length there.before =
    length-map there.before (λ (l : OwnLine). l.name) in
    let index = there.index in
    let same : line.name ≡ there.item.name =
    at_index (names above ++ line.name ∷ names under) (λ front l. l ≡ there.item.name)
    (names there.before) there.item.name
    (names there.after) named refl (names above) line.name (names under) refl (omega arith) in
    let covers = covered_lines 0 lines in
    let modulus = modulus_lines n in
    let front = covers ++ (modulus ++ there.before) in
    let own : plain.extreme_lines n lines (map plain_row rows) ≡ front ++ there.item ∷ there.after =
    ap (λ ls. covers ++ (modulus ++ ls)) there.place
    ∙ regroup covers modulus there.before (there.item ∷ there.after) in
    let covered_long = length-covered 0 lines in
    let both = length-append covers (modulus ++ there.before) in
    let more = length-append modulus there.before in
    let points = function_lines f in
    let number : length (subject_lines (function f)) + length front + 3 ≡ f.order + length lines + 5
    + length modulus + length above =
    omega arith in
    let c = Extreme n f lines rows in
    let d = extreme_claim n f lines (map plain_row rows) in
    moved c d line.name _ (extreme_same n f lines rows)
    (subst (λ (k : ℕ). plain.HasNumber d line.name k) number
    (subst (λ (l : ProofLine). plain.HasNumber d l
    (length (subject_lines (function f)) + length front + 3)) (sym same)
    (number_in_extreme n f lines (map plain_row rows) front there.after there.item own)))
  where
    regroup : (a b c d : List OwnLine) → a ++ (b ++ (c ++ d)) ≡ (a ++ (b ++ c)) ++ d
    regroup a b c d = simp append_assoc

-- the line of halves
pub number_of_halves_line : (f : FunctionData) (h : LimitHalves) → AreLimitHalvesInBounds h →
    HasNumber (NotExtreme f h) halves (f.order + 5)
number_of_halves_line f h b =
    moved (NotExtreme f h) (claims.NotExtreme f (plain_halves h)) halves (f.order + 5)
    (halves_same f h b) (number_of_halves f (plain_halves h))

-- that of the numbers at the i-th point
pub number_of_pair_line : (f : FunctionData) (h : LimitHalves) (i : ℕ) → AreLimitHalvesInBounds h →
    i < h.order →
    HasNumber (NotExtreme f h) (pair i) (f.order + 5 + (i + 1))
number_of_pair_line f h i b below =
    let plain_bounds : AreHalvesInBounds (plain_halves h) = record {
      order_low = b.order_low;
      order_high = b.order_high;
      scale_low = b.scale_low;
      scale_high = b.scale_high;
      first_length = b.first.value_length;
      second_length = b.second.value_length;
      first_fit = b.first.value_fit;
      second_fit = b.second.value_fit;
    } in
    moved (NotExtreme f h) (claims.NotExtreme f (plain_halves h)) (pair i) (f.order + 5 + (i + 1))
    (halves_same f h b)
    (number_of_pair f (plain_halves h) i plain_bounds below)
