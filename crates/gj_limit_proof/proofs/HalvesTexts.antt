-- The lines of halves are read as what they spell.
use Rattle.std.proofs.Common.{◌≡◌, ℕ, ◌<◌, ℤ, pos, List, [], ◌++◌, All, length, get_or, flat_map, map, refl, sym, ap, subst, ◌∙◌, arith}
use Rattle.std.specs.List.{range_with_len}
use Rattle.std.proofs.lemmas.List.{length-map, get_or-map}
use Rattle.std.proofs.lemmas.List.Elements.{All-map, All-weaker}
use Rattle.std.proofs.lemmas.List.FromFn.{length-map-range_with_len, fill_by_all}
use Rattle.std.proofs.lemmas.Simd.{map-map}
use Rattle.gj_frac.specs.Fraction.{Fits}
use Rattle.gj_forms.specs.LineForms.{line_of}
use Rattle.gj_forms.specs.ListParts.{IsPrinted}
use Rattle.gj_forms.specs.Parts.{Part, made_part, IsExactPart}
use Rattle.gj_forms.proofs.LineLaws.{part_is_exact, line_is_printed}
use Rattle.gj_forms.proofs.ListLaws.{times_part_is_exact, then_is_printed, times_is_printed}
use Rattle.gj_forms.proofs.PartLaws.{then_part_is_exact, made_part_is_exact}
use Rattle.gj_lemmas.proofs.Lists.{All-made}
use Rattle.gj_shape.specs.FunctionData.{at}
use Rattle.gj_shape.specs.declared.extremality.LimitHalves.{LimitHalves}
use Rattle.gj_shape.specs.declared.extremality.SideNumbers.{SideNumbers}
use Rattle.gj_shape.proofs.AtLemmas.{at_below}
use Rattle.gj_proof.specs.ProofGrammar.{halves_form, form_part}
use Rattle.gj_proof.specs.declared.halves.HalvesHead.{HalvesHead}
use Rattle.gj_proof.proofs.ClearLines.{halves_is_clear}
use Rattle.gj_limit_proof.specs.LimitGrammar.{AllFit, pair_part, pairs_part, side_numbers_of, halves_part}
use Rattle.gj_limit_proof.specs.LimitText.{triple_at, pair_line, pairs_of, halves_text, AreSideNumbersWithin, AreLimitHalvesInBounds}
use Rattle.gj_limit_proof.specs.declared.triple.Triple.{Triple}
use Rattle.gj_limit_proof.proofs.PairForms.{Pair, HavePairFit, pair_part_is_exact, pair_is_printed}
use Rattle.gj_limit_proof.proofs.Triples.{pair_at, item_fits}

-- what follows the first line of halves
abbrev pub makes_halves : HalvesHead → List Pair → LimitHalves → Type 0
makes_halves head pairs h =
    h ≡ record {
      order = head.order;
      scale = head.scale;
      first = side_numbers_of (map (λ p. p.0) pairs);
      second = side_numbers_of (map (λ p. p.1) pairs);
    }

abbrev pub behind_head : HalvesHead → Part LimitHalves
behind_head head = made_part (makes_halves head) (pairs_part head.order)

-- ---- they are exact

pub halves_are_exact : IsExactPart halves_part.Reads halves_part.Faults
halves_are_exact =
    then_part_is_exact (form_part halves_form) behind_head
    (part_is_exact halves_form halves_is_clear)
    (λ head. made_part_is_exact (makes_halves head) (λ pairs g h k l. k ∙ sym l)
    (pairs_part head.order)
    (times_part_is_exact pair_part pair_part_is_exact head.order []))

-- ---- triples and the numbers of a function

-- the items of a list are those at its indices
items_at : (xs : List ℤ) (n : ℕ) → length xs ≡ n → xs ≡ map (at xs) (range_with_len 0 n)
items_at xs n long =
    fill_by_all (at xs) xs n (pos 0) long (λ k below. let within : k < length xs = omega arith in
    sym (at_below xs k within))

-- the numbers of a function, made of its triples
numbers_again : (s : SideNumbers) (n : ℕ) → AreSideNumbersWithin n s →
    side_numbers_of (map (triple_at s) (range_with_len 0 n)) ≡ s
numbers_again s n h =
    let places = range_with_len 0 n in
    let left = map-map (λ (t : Triple). t.left) (triple_at s) places
    ∙ sym (items_at s.left n h.left_length) in
    let value = map-map (λ (t : Triple). t.value) (triple_at s) places
    ∙ sym (items_at s.value n h.value_length) in
    let right = map-map (λ (t : Triple). t.right) (triple_at s) places
    ∙ sym (items_at s.right n h.right_length) in
    λ i. record { left = left i; value = value i; right = right i }

-- an item of the numbers of triples
one_number : (f : Triple → ℤ) (ts : List Triple) (t : Triple) (k : ℕ) → k < length ts →
    at (map f ts) k ≡ f (get_or ts k t)
one_number f ts t k below =
    let within : k < length (map f ts) = omega (arith, length-map ts f) in
    at_below (map f ts) k within ∙ get_or-map f ts k t (pos 0) below

triple_again : (ts : List Triple) (t : Triple) (k : ℕ) → k < length ts →
    triple_at (side_numbers_of ts) k ≡ get_or ts k t
triple_again ts t k below =
    let left = one_number (λ t. t.left) ts t k below in
    let value = one_number (λ t. t.value) ts t k below in
    let right = one_number (λ t. t.right) ts t k below in
    λ i. record { left = left i; value = value i; right = right i }

-- the halves of pairs
abbrev pub made_halves : HalvesHead → List Pair → LimitHalves
made_halves head pairs = record {
  order = head.order;
  scale = head.scale;
  first = side_numbers_of (map (λ p. p.0) pairs);
  second = side_numbers_of (map (λ p. p.1) pairs);
}

no_numbers : Pair
no_numbers = let none : Triple = record { left = pos 0; value = pos 0; right = pos 0 } in
    (none, none)

pair_again : (head : HalvesHead) (pairs : List Pair) (k : ℕ) → k < length pairs →
    ◌≡◌ {A = Pair} (get_or pairs k no_numbers) (pair_at (made_halves head pairs) k)
pair_again head pairs k below =
    let first = triple_again (map (λ (p : Pair). p.0) pairs) no_numbers.0 k
    (omega (arith, length-map pairs (λ (p : Pair). p.0)))
    ∙ get_or-map (λ (p : Pair). p.0) pairs k no_numbers no_numbers.0 below in
    let second = triple_again (map (λ (p : Pair). p.1) pairs) no_numbers.1 k
    (omega (arith, length-map pairs (λ (p : Pair). p.1)))
    ∙ get_or-map (λ (p : Pair). p.1) pairs k no_numbers no_numbers.1 below in
    λ i. (sym first i, sym second i)

pairs_again : (head : HalvesHead) (pairs : List Pair) → length pairs ≡ head.order →
    pairs_of (made_halves head pairs) ≡ pairs
pairs_again head pairs long =
    sym (fill_by_all (pair_at (made_halves head pairs)) pairs head.order no_numbers long
    (λ k below. pair_again head pairs k (omega arith)))

-- ---- the numbers fit

triples_fit : (s : SideNumbers) (n : ℕ) → AreSideNumbersWithin n s → (i : ℕ) → i < n →
    AllFit (triple_at s i)
triples_fit s n h i below = (
  item_fits s.left n i h.left_length below h.left_fit,
  item_fits s.value n i h.value_length below h.value_fit,
  item_fits s.right n i h.right_length below h.right_fit,
)

pub pairs_fit : (h : LimitHalves) → AreLimitHalvesInBounds h → All HavePairFit (pairs_of h)
pairs_fit h b =
    All-made HavePairFit (pair_at h) 0 h.order
    (λ i below.
    let low : i < h.order = omega arith in
    (triples_fit h.first h.order b.first i low, triples_fit h.second h.order b.second i low))

numbers_within : (ts : List Triple) (n : ℕ) → length ts ≡ n → All AllFit ts →
    AreSideNumbersWithin n (side_numbers_of ts)
numbers_within ts n long fit = record {
  left_length = length-map ts (λ t. t.left) ∙ long;
  value_length = length-map ts (λ t. t.value) ∙ long;
  right_length = length-map ts (λ t. t.right) ∙ long;
  left_fit = All-map Fits (λ t. t.left) ts
      (All-weaker AllFit (λ t. Fits t.left) (λ t h. h.0) ts fit);
  value_fit = All-map Fits (λ t. t.value) ts
      (All-weaker AllFit (λ t. Fits t.value) (λ t h. h.1) ts fit);
  right_fit = All-map Fits (λ t. t.right) ts
      (All-weaker AllFit (λ t. Fits t.right) (λ t h. h.2) ts fit);
}

-- ---- halves are read as they are printed

pairs_are_printed : (n : ℕ) →
    IsPrinted (pairs_part n) (λ rest. Unit {0}) (flat_map pair_line)
    (λ pairs. (length pairs ≡ n) × All HavePairFit pairs)
pairs_are_printed n = times_is_printed pair_part pair_line HavePairFit pair_is_printed n

abbrev pub head_of : LimitHalves → HalvesHead
head_of h = record { order = h.order; scale = h.scale }

pub head_in_bounds : (h : LimitHalves) → AreLimitHalvesInBounds h → halves_form.HasLine (head_of h)
head_in_bounds h b =
    record {
      order_low = b.order_low;
      order_high = b.order_high;
      scale_low =
          b.scale_low;
      scale_high = b.scale_high;
    }

abbrev pairs_text : LimitHalves → List ℕ
pairs_text h = flat_map pair_line (pairs_of h)

pub halves_are_printed : IsPrinted halves_part (λ rest. Unit {0}) halves_text AreLimitHalvesInBounds
halves_are_printed =
    then_is_printed (form_part halves_form) behind_head (λ rest. Unit {0}) (λ rest. Unit {0})
    (line_of halves_form) halves_form.HasLine
    AreLimitHalvesInBounds head_of pairs_text (line_is_printed halves_form halves_is_clear)
    head_in_bounds (λ h rest b t. tt) reads found
  where
    reads : (h : LimitHalves) (rest : List ℕ) → AreLimitHalvesInBounds h → Unit {0} →
        (behind_head (head_of h)).Reads (pairs_text h ++ rest) h rest
    reads h rest b t =
        let places = range_with_len 0 h.order in
        let first = ap side_numbers_of (map-map (λ (p : Pair). p.0) (pair_at h) places)
        ∙ numbers_again h.first h.order b.first in
        let second = ap side_numbers_of (map-map (λ (p : Pair). p.1) (pair_at h) places)
        ∙ numbers_again h.second h.order b.second in (
          pairs_of h,
          (pairs_are_printed h.order).reads (pairs_of h) rest
              (length-map-range_with_len (pair_at h) 0 h.order, pairs_fit h b) tt,
          λ i. record {
            order = h.order;
            scale = h.scale;
            first = sym first i;
            second =
                sym second i;
          },
        )

    found : (head : HalvesHead) (text rest : List ℕ) (h : LimitHalves) → halves_form.HasLine head →
        (behind_head head).Reads text h rest →
        (text ≡ pairs_text h ++ rest) × (head ≡ head_of h) × AreLimitHalvesInBounds h
    found head text rest h bounds (pairs, reads, is) =
        let one = (pairs_are_printed head.order).found text rest pairs reads in
        let P : LimitHalves → Type 0 = λ g. (text ≡ pairs_text g ++ rest) × (head ≡ head_of g)
        × AreLimitHalvesInBounds g in
        subst P (sym is) (
          one.0 ∙ ap (λ ps. flat_map pair_line ps ++ rest) (sym (pairs_again head pairs one.1.0)),
          refl,
          record {
            order_low = bounds.order_low;
            order_high = bounds.order_high;
            scale_low = bounds.scale_low;
            scale_high = bounds.scale_high;
            first = numbers_within (map (λ p. p.0) pairs) head.order
                (length-map pairs (λ (p : Pair). p.0) ∙ one.1.0)
                (All-map AllFit (λ (p : Pair). p.0) pairs
                (All-weaker HavePairFit (λ (p : Pair). AllFit p.0) (λ p h. h.0) pairs one.1.1));
            second = numbers_within (map (λ p. p.1) pairs) head.order
                (length-map pairs (λ (p : Pair). p.1) ∙ one.1.0)
                (All-map AllFit (λ (p : Pair). p.1) pairs
                (All-weaker HavePairFit (λ (p : Pair). AllFit p.1) (λ p h. h.1) pairs one.1.1));
          },
        )
