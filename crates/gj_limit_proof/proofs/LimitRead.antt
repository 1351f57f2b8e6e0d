-- The lines of a proof text about a function that jumps, read one after another: the fault of a
-- line is that of the text.
use Rattle.std.proofs.Common.{◌≡◌, inr, ℕ, List, Result, refl, subst}
use Rattle.std.specs.Borrow.{Bor}
use Rattle.gj_lex.specs.declared.spelling.Spelling.TheVariants.{Strict}
use Rattle.gj_forms.specs.declared.fault.PartFault.{PartFault}
use Rattle.gj_forms.specs.Parts.{empty_part, made_part, end_part, IsFaultOf, IsReading, IsTail}
use Rattle.gj_forms.proofs.PartLaws.{fault_in_first, fault_in_next, fault_in_made, reading_behind, tail_refused}
use Rattle.gj_forms.proofs.WhereLaws.{fault_where, fault_else, reading_else}
use Rattle.gj_shape.specs.FunctionData.{FunctionData}
use Rattle.gj_shape.specs.declared.extremality.CoverLine.{CoverLine}
use Rattle.gj_function_lines.specs.FunctionGrammar.{function_part}
use Rattle.gj_proof.specs.ProofGrammar.{form_part, covered_part, modulus_form}
use Rattle.gj_proof.specs.declared.numbers.Numbers.{Numbers}
use Rattle.gj_proof.specs.declared.numbers.Numbers.TheVariants.{Whole}
use Rattle.gj_proof.proofs.ReadTexts.{last_part}
use Rattle.gj_limit_proof.specs.LimitGrammar.{numbers_part, groups_part, extreme_part, halves_part, not_extreme_part, claim_part, limit_proof_text}
use Rattle.gj_limit_proof.specs.declared.claim.LimitClaim.{LimitClaim}
use Rattle.gj_limit_proof.specs.declared.claim.LimitClaim.TheVariants.{Extreme}
use Rattle.gj_limit_proof.specs.declared.claim.LimitPivotRow.{LimitPivotRow}
use Rattle.gj_limit_proof.proofs.GroupTexts.{BeginsModulus, makes_residues}
use Rattle.gj_limit_proof.proofs.LimitReadTexts.{title_part, extreme_words, words_part, BeginsNotExtreme, named_not_extreme, named_extreme, makes_extreme, behind_numbers, behind_cover, behind_function, makes_not_extreme, behind_subject, after_claim, after_title}

-- ---- an extreme function

pub fault_in_modulus : (text : List ℕ) (e : PartFault) → BeginsModulus text →
    IsFaultOf (form_part modulus_form) text e →
    IsFaultOf numbers_part text e
fault_in_modulus text e is h =
    fault_where BeginsModulus (made_part makes_residues (form_part modulus_form))
    (empty_part Whole) text e is
    (fault_in_made makes_residues (form_part modulus_form) text e h)

module _ (q : ℕ) (text middle : List ℕ) (f : FunctionData) (is : q ≡ f.order)
    (reads : (function_part Strict).Reads text f middle) where
  pub fault_in_cover : (e : PartFault) → IsFaultOf (covered_part q) middle e →
      IsFaultOf extreme_part text e
  fault_in_cover e h =
      fault_in_next (function_part Strict) behind_function text f middle e reads
      (fault_in_first (covered_part f.order) (behind_cover f) middle e
      (subst (λ (m : ℕ). IsFaultOf (covered_part m) middle e) is h))

  module _ (behind : List ℕ) (lines : List CoverLine)
      (covered : (covered_part q).Reads middle lines behind) where
    fault_behind_cover : (e : PartFault) → IsFaultOf (behind_cover f lines) behind e →
        IsFaultOf extreme_part text e
    fault_behind_cover e h =
        fault_in_next (function_part Strict) behind_function text f middle e reads
        (fault_in_next (covered_part f.order) (behind_cover f) middle lines behind e
        (subst (λ (m : ℕ). (covered_part m).Reads middle lines behind) is covered) h)

    pub fault_in_numbers : (e : PartFault) → IsFaultOf numbers_part behind e →
        IsFaultOf extreme_part text e
    fault_in_numbers e h =
        fault_behind_cover e (fault_in_first numbers_part (behind_numbers f lines) behind e h)

    module _ (groups : List ℕ) (n : Numbers) (named : numbers_part.Reads behind n groups) where
      pub fault_in_groups : (e : PartFault) → IsFaultOf (groups_part q) groups e →
          IsFaultOf extreme_part text e
      fault_in_groups e h =
          fault_behind_cover e
          (fault_in_next numbers_part (behind_numbers f lines) behind n groups e named
          (fault_in_made (makes_extreme f lines n) (groups_part f.order) groups e
          (subst (λ (m : ℕ). IsFaultOf (groups_part m) groups e) is h)))

      pub extreme_read : (rest : List ℕ) (rows : List LimitPivotRow) →
          (groups_part q).Reads groups rows rest →
          extreme_part.Reads text (Extreme n f lines rows) rest
      extreme_read rest rows h = (
        f,
        middle,
        reads,
        (
          lines,
          behind,
          subst (λ (m : ℕ). (covered_part m).Reads middle lines behind) is covered,
          (
            n,
            groups,
            named,
            (
              rows,
              subst (λ (m : ℕ). (groups_part m).Reads groups rows rest) is h,
              refl,
            ),
          ),
        ),
      )

-- ---- halves

pub fault_in_halves : (text middle : List ℕ) (f : FunctionData) (e : PartFault) →
    (function_part Strict).Reads text f middle →
    IsFaultOf halves_part middle e → IsFaultOf not_extreme_part text e
fault_in_halves text middle f e reads h =
    fault_in_next (function_part Strict) behind_subject text f middle e reads
    (fault_in_made (makes_not_extreme f) halves_part middle e h)

-- ---- the claim

module _ (text : List ℕ) (not : BeginsNotExtreme text → ⊥) where
  pub fault_in_extreme_line : (e : PartFault) → IsFaultOf (words_part extreme_words) text e →
      IsFaultOf claim_part text e
  fault_in_extreme_line e h =
      fault_else BeginsNotExtreme named_not_extreme named_extreme text e not
      (fault_in_first (words_part extreme_words) (λ t. extreme_part) text e h)

  pub extreme_claim_read : (middle : List ℕ)
      (result : Result (LimitClaim × Bor (List ℕ)) PartFault) →
      (words_part extreme_words).Reads text tt middle → IsReading extreme_part middle result →
      IsReading claim_part text result
  extreme_claim_read middle result named h =
      reading_else BeginsNotExtreme named_not_extreme named_extreme text result not
      (reading_behind (words_part extreme_words) (λ t. extreme_part) text tt middle result named h)

-- ---- the text

module _ (text m : List ℕ) (fault : PartFault) (title : title_part.Reads text tt m) where
  behind_title : IsFaultOf after_title m fault → IsFaultOf limit_proof_text text fault
  behind_title h = fault_in_next title_part (λ t. after_title) text tt m fault title h

  pub fault_in_claim : IsFaultOf claim_part m fault → IsFaultOf limit_proof_text text fault
  fault_in_claim h = behind_title (fault_in_first claim_part after_claim m fault h)

  module _ (rest : List ℕ) (c : LimitClaim) (reads : claim_part.Reads m c rest) where
    behind_claim : IsFaultOf (after_claim c) rest fault → IsFaultOf limit_proof_text text fault
    behind_claim h = behind_title (fault_in_next claim_part after_claim m c rest fault reads h)

    pub fault_in_last : IsFaultOf last_part rest fault → IsFaultOf limit_proof_text text fault
    fault_in_last h = behind_claim (fault_in_first last_part (λ _. end_part Strict c) rest fault h)

    pub fault_behind_last : (behind : List ℕ) → last_part.Reads rest tt behind →
        IsTail Strict behind fault →
        IsFaultOf limit_proof_text text fault
    fault_behind_last behind end h =
        behind_claim (fault_in_next last_part (λ _. end_part Strict c) rest tt behind fault end
        (tail_refused Strict c behind fault h))
