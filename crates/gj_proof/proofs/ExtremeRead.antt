-- The lines of extremality, read one after another.
use Rattle.std.proofs.Common.{◌≡◌, ℕ, ◌+◌, ◌<◌, ◌≤◌, ℤ, List, [], ◌∷◌, ◌++◌, map, refl, sym, ap, subst, ◌∙◌}
use Rattle.std.proofs.lemmas.List.{map-append}
use Rattle.gj_lex.specs.declared.spelling.Spelling.TheVariants.{Strict}
use Rattle.gj_forms.specs.declared.fault.PartFault.{PartFault}
use Rattle.gj_forms.specs.Parts.{IsFaultOf}
use Rattle.gj_forms.proofs.PartLaws.{fault_in_first, fault_in_next, fault_in_made}
use Rattle.gj_shape.specs.FunctionData.{FunctionData}
use Rattle.gj_shape.specs.declared.extremality.CoverLine.{CoverLine}
use Rattle.gj_shape.specs.declared.extremality.RowName.{RowName}
use Rattle.gj_function_lines.specs.FunctionGrammar.{function_part}
use Rattle.gj_shape.specs.Limits.{greatest_order}
use Rattle.gj_proof.specs.ProofText.{extreme_claim}
use Rattle.gj_proof.specs.ProofGrammar.{row_name_form, pair_form, form_part, covered_part, modulus_part, steps_part, group_part, groups_part, pairs_part, halves_part, extreme_part, claim_part}
use Rattle.gj_proof.specs.declared.claim.Claim.{Claim}
use Rattle.gj_proof.specs.declared.claim.ClaimWord.TheVariants.{NotExtreme}
use Rattle.gj_proof.specs.declared.numbers.Numbers.{Numbers}
use Rattle.gj_proof.specs.declared.pivot.PivotRow.{PivotRow}
use Rattle.gj_proof.proofs.ExtremeTexts.{pivot_form, makes_row, behind_steps, behind_name}
use Rattle.gj_forms.proofs.ListRead.{LeavesTimes, times_begin, times_on, times_end}
use Rattle.gj_proof.proofs.ReadTexts.{makes_extreme, behind_modulus, behind_cover, behind_function, makes_not_extreme, behind_subject}

-- ---- one group

pub fault_in_steps : (q : ℕ) (text middle : List ℕ) (name : RowName) (e : PartFault) →
    (form_part (row_name_form q)).Reads text name middle →
    IsFaultOf (steps_part greatest_order) middle e → IsFaultOf (group_part q) text e
fault_in_steps q text middle name e first h =
    fault_in_next (form_part (row_name_form q)) behind_name text name middle e first
    (fault_in_first (steps_part greatest_order) (behind_steps name) middle e h)

pub fault_in_pivot : (q : ℕ) (text middle behind : List ℕ) (name : RowName) (columns : List ℕ)
    (e : PartFault) →
    (form_part (row_name_form q)).Reads text name middle →
    (steps_part greatest_order).Reads middle columns behind →
    IsFaultOf (form_part pivot_form) behind e →
    IsFaultOf (group_part q) text e
fault_in_pivot q text middle behind name columns e first steps h =
    fault_in_next (form_part (row_name_form q)) behind_name text name middle e first
    (fault_in_next (steps_part greatest_order) (behind_steps name) middle columns behind e steps
    (fault_in_made (makes_row name columns) (form_part pivot_form) behind e h))

-- ---- pairs of values

-- i pairs of n are read, as two lists
pub record ArePairsRead (n i : ℕ) (text rest : List ℕ) (first second : List ℤ) : Type 0 where
  pub pairs : List (ℤ × ℤ)
  pub leaves : LeavesTimes (form_part pair_form) n i text rest pairs
  pub first_are : first ≡ map (λ (p : ℤ × ℤ). p.0) pairs
  pub second_are : second ≡ map (λ (p : ℤ × ℤ). p.1) pairs

pub pairs_begin : (n : ℕ) (text : List ℕ) → ArePairsRead n 0 text text [] []
pairs_begin n text =
    record {
      pairs = [];
      leaves = times_begin (form_part pair_form) n text;
      first_are =
          refl;
      second_are = refl;
    }

pub pairs_on : (n i : ℕ) (text rest behind : List ℕ) (first second new_first new_second : List ℤ)
    (p : ℤ × ℤ) →
    ArePairsRead n i text rest first second → i < n → (form_part pair_form).Reads rest p behind →
    new_first ≡ first ++ p.0 ∷ [] →
    new_second ≡ second ++ p.1 ∷ [] → ArePairsRead n (i + 1) text behind new_first new_second
pairs_on n i text rest behind first second new_first new_second p h below one first_is second_is =
    record {
      pairs = h.pairs ++ p ∷ [];
      leaves = times_on (form_part pair_form) n i text rest h.pairs h.leaves below behind
          (h.pairs ++ p ∷ []) p one refl;
      first_are = first_is ∙ ap (λ xs. xs ++ p.0 ∷ []) h.first_are
          ∙ sym (map-append (λ (p : ℤ × ℤ). p.0) h.pairs (p ∷ []));
      second_are = second_is ∙ ap (λ ys. ys ++ p.1 ∷ []) h.second_are
          ∙ sym (map-append (λ (p : ℤ × ℤ). p.1) h.pairs (p ∷ []));
    }

pub pairs_end : (n i : ℕ) (text rest : List ℕ) (first second : List ℤ) →
    ArePairsRead n i text rest first second → n ≤ i →
    (pairs : List (ℤ × ℤ)) × (pairs_part n).Reads text pairs rest × (first ≡ map (λ p. p.0) pairs)
    × (second ≡ map (λ p. p.1) pairs)
pairs_end n i text rest first second h over = (
  h.pairs,
  times_end (form_part pair_form) n i text rest h.pairs h.leaves over,
  h.first_are,
  h.second_are,
)

-- ---- the claims

module _ (n : Numbers) (q : ℕ) (text middle : List ℕ) (f : FunctionData) (e : PartFault)
    (is : q ≡ f.order)
    (reads : (function_part Strict).Reads text f middle) where
  pub fault_in_cover : IsFaultOf (covered_part q) middle e → IsFaultOf (extreme_part n) text e
  fault_in_cover h =
      fault_in_next (function_part Strict) (behind_function n) text f middle e reads
      (fault_in_first (covered_part f.order) (behind_cover n f) middle e
      (subst (λ (m : ℕ). IsFaultOf (covered_part m) middle e) is h))

  module _ (behind : List ℕ) (lines : List CoverLine)
      (covered : (covered_part q).Reads middle lines behind) where
    fault_behind_cover : IsFaultOf (behind_cover n f lines) behind e →
        IsFaultOf (extreme_part n) text e
    fault_behind_cover h =
        fault_in_next (function_part Strict) (behind_function n) text f middle e reads
        (fault_in_next (covered_part f.order) (behind_cover n f) middle lines behind e
        (subst (λ (m : ℕ). (covered_part m).Reads middle lines behind) is covered) h)

    pub fault_in_modulus : IsFaultOf (modulus_part n) behind e → IsFaultOf (extreme_part n) text e
    fault_in_modulus h =
        fault_behind_cover (fault_in_first (modulus_part n) (λ t. behind_modulus n f lines) behind e
        h)

    pub fault_in_groups : (groups : List ℕ) → (modulus_part n).Reads behind tt groups →
        IsFaultOf (groups_part q) groups e →
        IsFaultOf (extreme_part n) text e
    fault_in_groups groups modulus h =
        fault_behind_cover
        (fault_in_next (modulus_part n) (λ t. behind_modulus n f lines) behind tt groups e modulus
        (fault_in_made (makes_extreme n f lines) (groups_part f.order) groups e
        (subst (λ (m : ℕ). IsFaultOf (groups_part m) groups e) is h)))

pub extreme_read : (n : Numbers) (q : ℕ) (text middle behind groups rest : List ℕ)
    (f : FunctionData) (lines : List CoverLine)
    (rows : List PivotRow) (c : Claim) → q ≡ f.order → (function_part Strict).Reads text f middle →
    (covered_part q).Reads middle lines behind → (modulus_part n).Reads behind tt groups →
    (groups_part q).Reads groups rows rest →
    c ≡ extreme_claim n f lines rows → (extreme_part n).Reads text c rest
extreme_read n q text middle behind groups rest f lines rows c is reads covered modulus h c_is = (
  f,
  middle,
  reads,
  (
    lines,
    behind,
    subst (λ (m : ℕ). (covered_part m).Reads middle lines behind) is covered,
    (
      tt,
      groups,
      modulus,
      (rows, subst (λ (m : ℕ). (groups_part m).Reads groups rows rest) is h, c_is),
    ),
  ),
)

pub fault_in_halves : (text middle : List ℕ) (f : FunctionData) (e : PartFault) →
    (function_part Strict).Reads text f middle →
    IsFaultOf halves_part middle e → IsFaultOf (claim_part NotExtreme) text e
fault_in_halves text middle f e reads h =
    fault_in_next (function_part Strict) behind_subject text f middle e reads
    (fault_in_made (makes_not_extreme f) halves_part middle e h)
