-- The lines of extremality are read as what they spell.
use Rattle.std.proofs.Common.{◌≡◌, ◌≢◌, ℕ, ◌<◌, ◌≤◌, ◌^◌, ℤ, List, [], ◌∷◌, ◌++◌, All, length, flat_map, map, zip, codes, refl, sym, ap, subst, ◌∙◌, arith, length-append}
use Rattle.std.proofs.lemmas.List.{append_assoc, length-map}
use Rattle.std.proofs.lemmas.List.Elements.{All-nil, All-cons, All-head, All-tail}
use Rattle.gj_frac.specs.Fraction.{Fits}
use Rattle.gj_lex.specs.declared.spelling.Spelling.TheVariants.{Strict}
use Rattle.gj_forms.specs.Parts.{Part, BeginsWithWord, then_part, made_part, IsExactPart}
use Rattle.gj_forms.proofs.PartLaws.{empty_part_is_exact, then_part_is_exact, made_part_is_exact}
use Rattle.gj_forms.proofs.WhereLaws.{shorter_behind_line}
use Rattle.gj_forms.specs.LineForms.{LineForm, line_of, rule_of}
use Rattle.gj_forms.specs.ListParts.{IsPrinted}
use Rattle.gj_forms.proofs.PlainWords.{known, apart}
use Rattle.gj_forms.proofs.LineLaws.{IsClear, part_is_exact, line_is_printed, begins_so, begins_not}
use Rattle.gj_forms.proofs.ListLaws.{while_part_is_exact, until_part_is_exact, times_part_is_exact, while_is_printed, until_is_printed, then_is_printed, times_is_printed}
use Rattle.gj_shape.specs.Limits.{greatest_order}
use Rattle.gj_shape.specs.Perturbation.{AreHalvesInBounds}
use Rattle.gj_shape.specs.declared.extremality.Halves.{Halves}
use Rattle.gj_shape.specs.declared.extremality.RowName.{RowName}
use Rattle.gj_shape.specs.declared.extremality.RowName.TheVariants.{Period, F, Pair}
use Rattle.gj_function_lines.specs.FaceLines.{cover_line}
use Rattle.gj_proof.specs.ProofText.{IsCoverLineBelow, IsRowNameBelow, group_line, reduction_line, pivot_line, pair_line, IsPivotRowBelow, group_text, halves_text, modulus_text}
use Rattle.gj_proof.specs.ProofGrammar.{cover_form, row_name_form, column_form, modulus_form, halves_form, pair_form, form_part, covered_part, modulus_part, steps_part, group_part, groups_part, pairs_part, halves_part}
use Rattle.gj_proof.specs.declared.halves.HalvesHead.{HalvesHead}
use Rattle.gj_proof.specs.declared.numbers.Numbers.{Numbers}
use Rattle.gj_proof.specs.declared.numbers.Numbers.TheVariants.{Whole, Residues}
use Rattle.gj_proof.specs.declared.pivot.PivotRow.{PivotRow}
use Rattle.gj_proof.proofs.ClearLines.{cover_is_clear, row_name_is_clear, column_is_clear, modulus_is_clear, halves_is_clear, pair_is_clear}
use Rattle.gj_proof.proofs.CutTexts.{BeginsEnd}
use Rattle.gj_forms.proofs.ListRead.{printed_as}

abbrev pub BeginsStep : List ℕ → Type 0
BeginsStep = BeginsWithWord Strict (codes "reduce")

abbrev pub EndsSteps : List ℕ → Type 0
EndsSteps rest = BeginsStep rest → ⊥

abbrev pub reduce_form : ℕ → LineForm ℕ
reduce_form limit = column_form (codes "reduce") limit

abbrev pub pivot_form : LineForm ℕ
pivot_form = column_form (codes "pivot") greatest_order

pub reduce_is_clear : (limit : ℕ) → limit ≤ 2 ^ 127 → IsClear (reduce_form limit)
reduce_is_clear limit small =
    column_is_clear (codes "reduce") limit (known (codes "reduce") refl) small

pub pivot_is_clear : IsClear pivot_form
pivot_is_clear =
    column_is_clear (codes "pivot") greatest_order (known (codes "pivot") refl) (omega arith)

-- what follows the steps of a group, and what follows its first line
abbrev pub makes_row : RowName → List ℕ → ℕ → PivotRow → Type 0
makes_row name columns c row = row ≡ record { name = name; reduce = columns; pivot = c }

abbrev pub behind_steps : RowName → List ℕ → Part PivotRow
behind_steps name columns = made_part (makes_row name columns) (form_part pivot_form)

abbrev pub behind_name : RowName → Part PivotRow
behind_name name = then_part (steps_part greatest_order) (behind_steps name)

-- what follows the first line of halves
abbrev pub makes_halves : HalvesHead → List (ℤ × ℤ) → Halves → Type 0
makes_halves head pairs h =
    h ≡ record {
      order = head.order;
      scale = head.scale;
      first = map (λ p. p.0) pairs;
      second =
          map (λ p. p.1) pairs;
    }

abbrev pub behind_head : HalvesHead → Part Halves
behind_head head = made_part (makes_halves head) (pairs_part head.order)

-- ---- they are exact

pub covered_is_exact : (q : ℕ) → q ≤ 1000 →
    IsExactPart (covered_part q).Reads (covered_part q).Faults
covered_is_exact q small =
    times_part_is_exact (form_part (cover_form q))
    (part_is_exact (cover_form q) (cover_is_clear q small)) q []

pub modulus_is_exact : (n : Numbers) → IsExactPart (modulus_part n).Reads (modulus_part n).Faults
modulus_is_exact Whole = empty_part_is_exact tt
modulus_is_exact Residues = part_is_exact modulus_form modulus_is_clear

pub steps_are_exact : (limit : ℕ) → limit ≤ 2 ^ 127 →
    IsExactPart (steps_part limit).Reads (steps_part limit).Faults
steps_are_exact limit small =
    while_part_is_exact BeginsStep (form_part (reduce_form limit))
    (part_is_exact (reduce_form limit) (reduce_is_clear limit small)) []

behind_name_is_exact : (name : RowName) →
    IsExactPart (behind_name name).Reads (behind_name name).Faults
behind_name_is_exact name =
    then_part_is_exact (steps_part greatest_order) (behind_steps name)
    (steps_are_exact greatest_order (omega arith))
    (λ columns. made_part_is_exact (makes_row name columns) (λ c r s h k. h ∙ sym k)
    (form_part pivot_form)
    (part_is_exact pivot_form pivot_is_clear))

pub group_is_exact : (q : ℕ) → q ≤ 1000 → IsExactPart (group_part q).Reads (group_part q).Faults
group_is_exact q small =
    then_part_is_exact (form_part (row_name_form q)) behind_name
    (part_is_exact (row_name_form q) (row_name_is_clear q small))
    behind_name_is_exact

pub groups_are_exact : (q : ℕ) → q ≤ 1000 → IsExactPart (groups_part q).Reads (groups_part q).Faults
groups_are_exact q small = until_part_is_exact BeginsEnd (group_part q) (group_is_exact q small) []

pub halves_are_exact : IsExactPart halves_part.Reads halves_part.Faults
halves_are_exact =
    then_part_is_exact (form_part halves_form) behind_head
    (part_is_exact halves_form halves_is_clear)
    (λ head. made_part_is_exact (makes_halves head) (λ pairs g h k l. k ∙ sym l)
    (pairs_part head.order)
    (times_part_is_exact (form_part pair_form) (part_is_exact pair_form pair_is_clear) head.order
    []))

-- less is left behind a group
pub shorter_behind_group : (q : ℕ) (text rest : List ℕ) (row : PivotRow) →
    (group_part q).Reads text row rest → length rest < length text
shorter_behind_group q text rest row (name, middle, first, more) =
    let less = shorter_behind_line Strict (rule_of (row_name_form q)) text middle name first in
    let ends = (behind_name_is_exact name).rest_ends middle row rest more in
    omega (arith, ap length ends.1, length-append ends.0 rest)

-- ---- they are read as they are printed

pub covered_is_printed : (q : ℕ) → q ≤ 1000 →
    IsPrinted (covered_part q) (λ rest. Unit {0}) (flat_map cover_line)
    (λ lines. (length lines ≡ q) × All (IsCoverLineBelow q) lines)
covered_is_printed q small =
    times_is_printed (form_part (cover_form q)) cover_line (IsCoverLineBelow q)
    (line_is_printed (cover_form q) (cover_is_clear q small)) q

pub modulus_is_printed : (n : Numbers) →
    IsPrinted (modulus_part n) (λ rest. Unit {0}) (λ t. modulus_text n) (λ t. Unit {0})
modulus_is_printed Whole =
    record { reads = λ t rest h f. (refl, refl); found = λ text rest t h. (h.1, tt) }
modulus_is_printed Residues = line_is_printed modulus_form modulus_is_clear

-- ---- groups

pub steps_are_printed : (limit : ℕ) → limit ≤ 2 ^ 127 →
    IsPrinted (steps_part limit) EndsSteps (flat_map reduction_line) (All (λ c. c < limit))
steps_are_printed limit small =
    let form = reduce_form limit in
    let clear = reduce_is_clear limit small in
    while_is_printed BeginsStep (form_part form) (λ rest. Unit {0}) reduction_line
    (λ c. c < limit)
    (line_is_printed form clear) (λ c rest h. tt)
    (λ c rest h. begins_so form clear c (codes "reduce") _ rest h refl)
    (λ rest h. tt)

-- what follows the first line of a group of this name
abbrev HasSteps : RowName → PivotRow → Type 0
HasSteps name row = (name ≡ row.name) × All (λ c. c < greatest_order) row.reduce
    × (row.pivot < greatest_order)

abbrev steps_text : PivotRow → List ℕ
steps_text row = flat_map reduction_line row.reduce ++ pivot_line row.pivot

behind_is_printed : (name : RowName) →
    IsPrinted (behind_name name) (λ rest. Unit {0}) steps_text (HasSteps name)
behind_is_printed name =
    then_is_printed (steps_part greatest_order) (behind_steps name) EndsSteps (λ rest. Unit {0})
    (flat_map reduction_line) (All (λ c. c < greatest_order))
    (HasSteps name) (λ row. row.reduce) (λ row. pivot_line row.pivot)
    (steps_are_printed greatest_order (omega arith))
    (λ row h. h.1)
    (λ row rest h t. begins_not pivot_form pivot_is_clear row.pivot (codes "pivot")
    (codes "reduce") _ rest h.2 refl
    (apart (codes "pivot") (codes "reduce") refl))
    reads found
  where
    reads : (row : PivotRow) (rest : List ℕ) → HasSteps name row → Unit {0} →
        (behind_steps name row.reduce).Reads (pivot_line row.pivot ++ rest) row rest
    reads row rest h t = (
      row.pivot,
      (line_is_printed pivot_form pivot_is_clear).reads row.pivot rest h.2 tt,
      λ i. record { name = sym h.0 i; reduce = row.reduce; pivot = row.pivot },
    )

    found : (columns : List ℕ) (text rest : List ℕ) (row : PivotRow) →
        All (λ c. c < greatest_order) columns →
        (behind_steps name columns).Reads text row rest → (text ≡ pivot_line row.pivot ++ rest)
        × (columns ≡ row.reduce) × HasSteps name row
    found columns text rest row has (c, line, is) =
        let one = (line_is_printed pivot_form pivot_is_clear).found text rest c line in
        let P : PivotRow → Type 0 = λ r. (text ≡ pivot_line r.pivot ++ rest) × (columns ≡ r.reduce)
        × HasSteps name r in
        subst P (sym is) (one.0, refl, (refl, has, one.1))

begins_row : (q : ℕ) → q ≤ 1000 → (n : RowName) (v rest : List ℕ) → IsRowNameBelow q n →
    codes "row" ≢ v →
    BeginsWithWord Strict v (group_line n ++ rest) → ⊥
begins_row q small Period v rest h other =
    begins_not (row_name_form q) (row_name_is_clear q small) Period
    (codes "row") v _ rest h refl other
begins_row q small F v rest h other = begins_not (row_name_form q) (row_name_is_clear q small) F
    (codes "row") v _ rest h refl other
begins_row q small (Pair a b) v rest h other =
    begins_not (row_name_form q) (row_name_is_clear q small) (Pair a b)
    (codes "row") v _ rest h refl other

-- the text of a group, its first line before the others
abbrev text_of_group : PivotRow → List ℕ
text_of_group row = group_line row.name ++ steps_text row

group_is_printed : (q : ℕ) → q ≤ 1000 →
    IsPrinted (group_part q) (λ rest. Unit {0}) text_of_group (IsPivotRowBelow q)
group_is_printed q small =
    then_is_printed (form_part (row_name_form q)) behind_name (λ rest. Unit {0})
    (λ rest. Unit {0}) group_line (IsRowNameBelow q)
    (IsPivotRowBelow q) (λ row. row.name) steps_text
    (line_is_printed (row_name_form q) (row_name_is_clear q small)) (λ row h. h.name)
    (λ row rest h t. tt)
    (λ row rest h t. (behind_is_printed row.name).reads row rest (refl, h.reduce, h.pivot) tt)
    (λ name text rest row below reads.
    let one = (behind_is_printed name).found text rest row reads in (
      one.0,
      one.1.0,
      record {
        name = subst (IsRowNameBelow q) one.1.0 below;
        reduce =
            one.1.1;
        pivot = one.1.2;
      },
    ))

pub groups_are_printed : (q : ℕ) → q ≤ 1000 →
    IsPrinted (groups_part q) BeginsEnd (flat_map group_text) (All (IsPivotRowBelow q))
groups_are_printed q small =
    printed_as (groups_part q) BeginsEnd (flat_map text_of_group) (flat_map group_text)
    (All (IsPivotRowBelow q))
    (until_is_printed BeginsEnd (group_part q) (λ rest. Unit {0}) text_of_group (IsPivotRowBelow q)
    (group_is_printed q small)
    (λ row rest h. tt) other (λ rest e. tt))
    same
  where
    other : (row : PivotRow) (rest : List ℕ) → IsPivotRowBelow q row →
        BeginsEnd (text_of_group row ++ rest) → ⊥
    other row rest h e =
        begins_row q small row.name (codes "end") (steps_text row ++ rest) h.name
        (apart (codes "row") (codes "end") refl)
        (subst (BeginsWithWord Strict (codes "end"))
        (append_assoc (group_line row.name) (steps_text row) rest) ([], e))

    same : (rows : List PivotRow) → flat_map text_of_group rows ≡ flat_map group_text rows
    same [] = refl
    same (row ∷ rows) =
        λ i. sym (append_assoc (group_line row.name) (flat_map reduction_line row.reduce)
        (pivot_line row.pivot)) i ++ same rows i

-- ---- halves

pairs_are_printed : (n : ℕ) →
    IsPrinted (pairs_part n) (λ rest. Unit {0}) (flat_map pair_line)
    (λ pairs. (length pairs ≡ n) × All (λ p. Fits p.0 × Fits p.1) pairs)
pairs_are_printed n =
    times_is_printed (form_part pair_form) pair_line (λ p. Fits p.0 × Fits p.1)
    (line_is_printed pair_form pair_is_clear) n

-- pairs and their two lists
fit_pairs : (first second : List ℤ) → All Fits first → All Fits second →
    All (λ (p : ℤ × ℤ). Fits p.0 × Fits p.1) (zip first second)
fit_pairs [] second h k = All-nil (λ p. Fits p.0 × Fits p.1)
fit_pairs (x ∷ first) [] h k = All-nil (λ p. Fits p.0 × Fits p.1)
fit_pairs (x ∷ first) (y ∷ second) h k =
    All-cons (λ p. Fits p.0 × Fits p.1) (x, y) (zip first second)
    (All-head Fits x first h, All-head Fits y second k)
    (fit_pairs first second (All-tail Fits x first h) (All-tail Fits y second k))

firsts_of_zip : (first second : List ℤ) → length first ≡ length second →
    map (λ p. p.0) (zip first second) ≡ first
firsts_of_zip [] second e = refl
firsts_of_zip (x ∷ first) [] e = absurd (omega (arith, e))
firsts_of_zip (x ∷ first) (y ∷ second) e =
    ap (λ xs. x ∷ xs) (firsts_of_zip first second (omega (arith, e)))

seconds_of_zip : (first second : List ℤ) → length first ≡ length second →
    map (λ p. p.1) (zip first second) ≡ second
seconds_of_zip [] [] e = refl
seconds_of_zip [] (y ∷ second) e = absurd (omega (arith, e))
seconds_of_zip (x ∷ first) [] e = absurd (omega (arith, e))
seconds_of_zip (x ∷ first) (y ∷ second) e =
    ap (λ ys. y ∷ ys) (seconds_of_zip first second (omega (arith, e)))

zip_of_parts : (pairs : List (ℤ × ℤ)) → zip (map (λ p. p.0) pairs) (map (λ p. p.1) pairs) ≡ pairs
zip_of_parts [] = refl
zip_of_parts (p ∷ pairs) = ap (λ ps. p ∷ ps) (zip_of_parts pairs)

length_of_zip : (first second : List ℤ) → length first ≡ length second →
    length (zip first second) ≡ length first
length_of_zip [] second e = refl
length_of_zip (x ∷ first) [] e = absurd (omega (arith, e))
length_of_zip (x ∷ first) (y ∷ second) e =
    omega (arith, length_of_zip first second (omega (arith, e)))

firsts_fit : (pairs : List (ℤ × ℤ)) → All (λ p. Fits p.0 × Fits p.1) pairs →
    All Fits (map (λ p. p.0) pairs)
firsts_fit [] h = All-nil Fits
firsts_fit (p ∷ pairs) h =
    let P : ℤ × ℤ → Type 0 = λ p. Fits p.0 × Fits p.1 in
    All-cons Fits p.0 (map (λ p. p.0) pairs) (All-head P p pairs h).0
    (firsts_fit pairs (All-tail P p pairs h))

seconds_fit : (pairs : List (ℤ × ℤ)) → All (λ p. Fits p.0 × Fits p.1) pairs →
    All Fits (map (λ p. p.1) pairs)
seconds_fit [] h = All-nil Fits
seconds_fit (p ∷ pairs) h =
    let P : ℤ × ℤ → Type 0 = λ p. Fits p.0 × Fits p.1 in
    All-cons Fits p.1 (map (λ p. p.1) pairs) (All-head P p pairs h).1
    (seconds_fit pairs (All-tail P p pairs h))

abbrev pub head_of : Halves → HalvesHead
head_of h = record { order = h.order; scale = h.scale }

abbrev pairs_text : Halves → List ℕ
pairs_text h = flat_map pair_line (zip h.first h.second)

pub halves_are_printed : IsPrinted halves_part (λ rest. Unit {0}) halves_text AreHalvesInBounds
halves_are_printed =
    then_is_printed (form_part halves_form) behind_head (λ rest. Unit {0}) (λ rest. Unit {0})
    (line_of halves_form) halves_form.HasLine
    AreHalvesInBounds head_of pairs_text (line_is_printed halves_form halves_is_clear)
    (λ h b. record {
      order_low = b.order_low;
      order_high = b.order_high;
      scale_low =
          b.scale_low;
      scale_high = b.scale_high;
    })
    (λ h rest b t. tt) reads found
  where
    reads : (h : Halves) (rest : List ℕ) → AreHalvesInBounds h → Unit {0} →
        (behind_head (head_of h)).Reads (pairs_text h ++ rest) h rest
    reads h rest b t =
        let same : length h.first ≡ length h.second = b.first_length ∙ sym b.second_length in
        let pairs = zip h.first h.second in
        let first = firsts_of_zip h.first h.second same in
        let second = seconds_of_zip h.first h.second same in (
          pairs,
          (pairs_are_printed h.order).reads pairs rest (
            length_of_zip h.first h.second same
                ∙ b.first_length,
            fit_pairs h.first h.second b.first_fit b.second_fit,
          ) tt,
          λ i. record {
            order = h.order;
            scale = h.scale;
            first = sym first i;
            second =
                sym second i;
          },
        )

    found : (head : HalvesHead) (text rest : List ℕ) (h : Halves) → halves_form.HasLine head →
        (behind_head head).Reads text h rest →
        (text ≡ pairs_text h ++ rest) × (head ≡ head_of h) × AreHalvesInBounds h
    found head text rest h bounds (pairs, reads, is) =
        let one = (pairs_are_printed head.order).found text rest pairs reads in
        let P : Halves → Type 0 = λ g. (text ≡ pairs_text g ++ rest) × (head ≡ head_of g)
        × AreHalvesInBounds g in
        subst P (sym is) (
          one.0 ∙ ap (λ ps. flat_map pair_line ps ++ rest) (sym (zip_of_parts pairs)),
          refl,
          record {
            order_low = bounds.order_low;
            order_high = bounds.order_high;
            scale_low = bounds.scale_low;
            scale_high = bounds.scale_high;
            first_length = length-map pairs (λ (p : ℤ × ℤ). p.0) ∙ one.1.0;
            second_length = length-map pairs (λ (p : ℤ × ℤ). p.1) ∙ one.1.0;
            first_fit = firsts_fit pairs one.1.1;
            second_fit = seconds_fit pairs one.1.1;
          },
        )
