-- The numbers of lines of claims of extremality.
use Rattle.std.proofs.Common.{◌≡◌, ◌≢◌, ℕ, suc, ◌+◌, ◌<◌, List, [], ◌∷◌, ◌++◌, All, length, map, zip, ℤ, refl, ap, ap₂, subst, ◌∙◌, append_assoc, arith}
use Rattle.std.specs.List.{range_with_len}
use Rattle.std.proofs.lemmas.List.{length-append, length-map}
use Rattle.std.proofs.lemmas.Slice.Zip.{length-zip}
use Rattle.std.proofs.lemmas.List.Elements.{All-nil, All-cons, All-append, All-map, All-weaker}
use Rattle.std.proofs.lemmas.List.FromFn.{length-map-range_with_len}
use Rattle.gj_shape.specs.Perturbation.{AreHalvesInBounds}
use Rattle.gj_lemmas.proofs.Lists.{All-range}
use Rattle.gj_shape.specs.FunctionData.{FunctionData}
use Rattle.gj_shape.specs.declared.extremality.CoverLine.{CoverLine}
use Rattle.gj_shape.specs.declared.extremality.Halves.{Halves}
use Rattle.gj_proof.specs.declared.claim.Claim.{Claim}
use Rattle.gj_proof.specs.declared.claim.Claim.TheVariants.{Extreme, ExtremeByResidues, NotExtreme}
use Rattle.gj_proof.specs.declared.numbers.Numbers.{Numbers}
use Rattle.gj_proof.specs.declared.numbers.Numbers.TheVariants.{Whole, Residues}
use Rattle.gj_proof.specs.declared.pivot.PivotRow.{PivotRow}
use Rattle.gj_proof.specs.ProofText.{ProofLine, OwnLine, Subject, function, gmic, subject_of, subject_lines, own_lines, extreme_claim, modulus_lines, extreme_lines, covered_lines, reduction_lines, group_lines, group_line, pivot_line, halves_line, pair_lines, HasNumber}
use Rattle.gj_proof.specs.ProofText.ProofLine.{title, claim, order, place, point, rule_named, covered, group, group_pivot, halves, pair, last}
use Rattle.gj_proof.proofs.LineLists.{names}
use Rattle.gj_proof.proofs.LineNumbers.{number_of_own}
use Rattle.gj_proof.proofs.OwnLines.{IsOwn, own_lines_are_own}
use Rattle.gj_check_groups.proofs.ClaimGroups.{number_in_extreme}
use Rattle.gj_proof.proofs.LineCounts.{own_line, length-covered, length-reductions}
use Rattle.gj_proof.proofs.AtPlaces.{split_there}

-- the lines of a function
pub function_lines : (f : FunctionData) → length (subject_lines (function f)) ≡ f.order + 2
function_lines f =
    let long : length (map point (range_with_len 0 f.order)) ≡ f.order =
    length-map-range_with_len point 0 f.order in
    omega arith

-- the first line behind them
pub behind_function : (f : FunctionData) (n : ℕ) → n ≡ length (subject_lines (function f)) + 3 →
    f.order + 5 ≡ n
behind_function f n is = let points = function_lines f in omega arith

-- ---- the last line

no_last_in_subject : (s : Subject) → All (λ k. k ≢ last) (subject_lines s)
no_last_in_subject (function f) =
    let P : ProofLine → Type 0 = λ k. k ≢ last in
    let points : All P (map point (range_with_len 0 f.order)) =
    All-map P point (range_with_len 0 f.order)
    (All-range (λ i. P (point i)) 0 f.order (λ i below e. cc)) in
    All-cons P order (place ∷ map point (range_with_len 0 f.order)) (λ e. cc)
    (All-cons P place (map point (range_with_len 0 f.order)) (λ e. cc) points)
no_last_in_subject gmic = All-cons (λ k. k ≢ last) rule_named [] (λ e. cc) (All-nil (λ k. k ≢ last))

-- it stands behind the two first, those of the subject and the claim's own
number_of_last : (c : Claim) →
    HasNumber c last (length (subject_lines (subject_of c)) + length (own_lines c) + 3)
number_of_last c =
    let P : ProofLine → Type 0 = λ k. k ≢ last in
    let subject = subject_lines (subject_of c) in
    let own = names (own_lines c) in
    let long : length own ≡ length (own_lines c) =
    length-map (own_lines c) (λ (o : OwnLine). o.name) in
    let both = length-append subject own in
    record {
      before = title ∷ claim ∷ (subject ++ own);
      after = [];
      place = refl;
      first = All-cons P title (claim ∷ (subject ++ own)) (λ e. cc)
          (All-cons P claim (subject ++ own) (λ e. cc)
          (All-append P subject own (no_last_in_subject (subject_of c))
          (All-weaker IsOwn P (λ k is e. subst IsOwn e is) own (own_lines_are_own c))));
      number = omega arith;
    }

-- ---- an extreme function

covered_split : (i : ℕ) (front rest : List CoverLine) →
    covered_lines i (front ++ rest) ≡ covered_lines i front ++ covered_lines (i + length front) rest
covered_split i [] rest = let none : i ≡ i + 0 = omega arith in
    ap (λ (k : ℕ). covered_lines k rest) none
covered_split i (l ∷ front) rest =
    let next : i + 1 + length front ≡ i + suc (length front) = omega arith in
    ap₂ (λ x ls. x ∷ ls) refl
    (covered_split (i + 1) front rest
    ∙ ap (λ (k : ℕ). covered_lines (i + 1) front ++ covered_lines k rest) next)

-- the line of the i-th covered interval
pub number_of_cover : (n : Numbers) (f : FunctionData) (lines : List CoverLine)
    (rows : List PivotRow) (i : ℕ) → i < length lines →
    HasNumber (extreme_claim n f lines rows) (covered i) (f.order + 5 + i)
number_of_cover n f lines rows i below =
    let c = extreme_claim n f lines rows in
    let more = modulus_lines n ++ group_lines 0 rows in
    let split = split_there lines i below in
    let front = covered_lines 0 split.before in
    let back = covered_lines (0 + length split.before) (split.item ∷ split.after) in
    let own : extreme_lines n lines rows ≡ front ++ (back ++ more) =
    ap (λ ls. covered_lines 0 ls ++ more) split.place
    ∙ ap (λ ls. ls ++ more) (covered_split 0 split.before (split.item ∷ split.after))
    ∙ append_assoc front back more in
    let subject = function_lines f in
    let long = length-covered 0 split.before in
    let index = split.index in
    let number : length (subject_lines (function f)) + length front + 3 ≡ f.order + 5 + i =
    omega arith in
    let same : 0 + length split.before ≡ i = omega arith in
    subst (HasNumber c (covered i)) number
    (subst (λ (k : ℕ). HasNumber c (covered k)
    (length (subject_lines (function f)) + length front + 3)) same
    (number_in_extreme n f lines rows front _ _ own))

-- one group more
pub one_group_more : (g : ℕ) (rows : List PivotRow) (row : PivotRow) →
    length (group_lines g (rows ++ row ∷ [])) ≡ length (group_lines g rows) + length row.reduce + 2
one_group_more g [] row =
    let one = length-append
    (own_line (group g) (group_line row.name) ∷ reduction_lines g 0 row.reduce)
    (own_line (group_pivot g) (pivot_line row.pivot) ∷ []) in
    let steps = length-reductions g 0 row.reduce in
    omega arith
one_group_more g (first ∷ rows) row =
    let one = length-append
    (own_line (group g) (group_line first.name) ∷ reduction_lines g 0 first.reduce)
    (own_line (group_pivot g) (pivot_line first.pivot) ∷ group_lines (g + 1) rows) in
    let longer = length-append
    (own_line (group g) (group_line first.name) ∷ reduction_lines g 0 first.reduce)
    (own_line (group_pivot g) (pivot_line first.pivot) ∷ group_lines (g + 1) (rows ++ row ∷ [])) in
    let more = one_group_more (g + 1) rows row in
    omega arith

-- the last line of an extreme function
pub number_behind_groups : (n : Numbers) (f : FunctionData) (lines : List CoverLine)
    (rows : List PivotRow) →
    HasNumber (extreme_claim n f lines rows) last
    (f.order + 5 + length lines + length (modulus_lines n) + length (group_lines 0 rows))
number_behind_groups n f lines rows =
    let subject = function_lines f in
    let covers = length-covered 0 lines in
    let both = length-append (covered_lines 0 lines) (modulus_lines n ++ group_lines 0 rows) in
    let more = length-append (modulus_lines n) (group_lines 0 rows) in
    let number : length (subject_lines (function f)) + length (extreme_lines n lines rows) + 3
    ≡ f.order + 5 + length lines + length (modulus_lines n) + length (group_lines 0 rows) =
    omega arith in
    subst (HasNumber (extreme_claim n f lines rows) last) number (number_of_end n)
  where
    number_of_end : (n : Numbers) →
        HasNumber (extreme_claim n f lines rows) last
        (length (subject_lines (function f)) + length (extreme_lines n lines rows) + 3)
    number_of_end Whole = number_of_last (Extreme f lines rows)
    number_of_end Residues = number_of_last (ExtremeByResidues f lines rows)

-- ---- one that is not extreme

-- the line of halves
pub number_of_halves : (f : FunctionData) (h : Halves) →
    HasNumber (NotExtreme f h) halves (f.order + 5)
number_of_halves f h =
    let subject = function_lines f in
    let number : length (subject_lines (function f)) + 0 + 3 ≡ f.order + 5 = omega arith in
    subst (HasNumber (NotExtreme f h) halves) number
    (number_of_own (NotExtreme f h) [] (pair_lines 0 (zip h.first h.second))
    (own_line halves (halves_line h)) refl)

pairs_split : (i : ℕ) (front rest : List (ℤ × ℤ)) →
    pair_lines i (front ++ rest) ≡ pair_lines i front ++ pair_lines (i + length front) rest
pairs_split i [] rest = let none : i ≡ i + 0 = omega arith in ap (λ (k : ℕ). pair_lines k rest) none
pairs_split i (p ∷ front) rest =
    let next : i + 1 + length front ≡ i + suc (length front) = omega arith in
    ap₂ (λ x ls. x ∷ ls) refl (pairs_split (i + 1) front rest
    ∙ ap (λ (k : ℕ). pair_lines (i + 1) front ++ pair_lines k rest) next)

count_pairs : (i : ℕ) (pairs : List (ℤ × ℤ)) → length (pair_lines i pairs) ≡ length pairs
count_pairs i [] = refl
count_pairs i (p ∷ pairs) = ap suc (count_pairs (i + 1) pairs)

-- the line of the i-th pair
pub number_of_pair : (f : FunctionData) (h : Halves) (i : ℕ) → AreHalvesInBounds h → i < h.order →
    HasNumber (NotExtreme f h) (pair i) (f.order + 5 + (i + 1))
number_of_pair f h i b below =
    let pairs = zip h.first h.second in
    let first_length = b.first_length in
    let second_length = b.second_length in
    let counted_pairs = length-zip h.first h.second in
    let long : length pairs ≡ h.order = omega arith in
    let split = split_there pairs i (omega arith) in
    let head = own_line halves (halves_line h) in
    let front = pair_lines 0 split.before in
    let back = pair_lines (0 + length split.before) (split.item ∷ split.after) in
    let own : own_lines (NotExtreme f h) ≡ (head ∷ front) ++ back =
    ap (λ ps. head ∷ pair_lines 0 ps) split.place
    ∙ ap (λ ls. head ∷ ls) (pairs_split 0 split.before (split.item ∷ split.after)) in
    let subject = function_lines f in
    let counted = count_pairs 0 split.before in
    let index = split.index in
    let number : length (subject_lines (function f)) + length (head ∷ front) + 3
    ≡ f.order + 5 + (i + 1) = omega arith in
    let same : 0 + length split.before ≡ i = omega arith in
    subst (HasNumber (NotExtreme f h) (pair i)) number
    (subst (λ (k : ℕ). HasNumber (NotExtreme f h) (pair k)
    (length (subject_lines (function f)) + length (head ∷ front) + 3)) same
    (number_of_own (NotExtreme f h) (head ∷ front) _ _ own))
