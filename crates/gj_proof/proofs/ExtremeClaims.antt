-- A claim that a function is extreme, by rows of whole numbers or of residues.
use Rattle.std.proofs.Common.{◌≡◌, ℕ, List, ◌++◌, codes}
use Rattle.gj_shape.specs.FunctionData.{FunctionData, IsWithinBounds}
use Rattle.gj_shape.specs.declared.extremality.CoverLine.{CoverLine}
use Rattle.gj_function_lines.specs.FunctionLines.{line, AreFunctionLines}
use Rattle.gj_proof.specs.ProofText.{extreme_claim, AreExtremeLines, IsBounded, IsProofText, extreme_text}
use Rattle.gj_proof.specs.declared.numbers.Numbers.{Numbers}
use Rattle.gj_proof.specs.declared.numbers.Numbers.TheVariants.{Whole, Residues}
use Rattle.gj_proof.specs.declared.pivot.PivotRow.{PivotRow}
use Rattle.gj_proof.proofs.LineLists.{title_line}

-- the text is that of the claim, by rows of these numbers
pub record IsExtremeText (n : Numbers) (f : FunctionData) (lines : List CoverLine)
    (rows : List PivotRow) (text : List ℕ) : Type 0 where
  pub has_text : AreExtremeLines f lines rows
  pub subject : List ℕ
  pub are_subject_lines : AreFunctionLines f subject
  pub spelled : text ≡ title_line n ++ line (codes "claim extreme") ++ subject
      ++ extreme_text n lines rows
      ++ line (codes "end")

module _ (f : FunctionData) (lines : List CoverLine) (rows : List PivotRow) where
  pub extreme_is_text : (n : Numbers) (text : List ℕ) → IsExtremeText n f lines rows text →
      IsProofText (extreme_claim n f lines rows) text
  extreme_is_text Whole text h =
      record {
        has_text = h.has_text;
        subject = h.subject;
        are_subject_lines =
            h.are_subject_lines;
        spelled = h.spelled;
      }
  extreme_is_text Residues text h =
      record {
        has_text = h.has_text;
        subject = h.subject;
        are_subject_lines =
            h.are_subject_lines;
        spelled = h.spelled;
      }

  pub of_extreme_text : (n : Numbers) (text : List ℕ) →
      IsProofText (extreme_claim n f lines rows) text → IsExtremeText n f lines rows text
  of_extreme_text Whole text p =
      record {
        has_text = p.has_text;
        subject = p.subject;
        are_subject_lines =
            p.are_subject_lines;
        spelled = p.spelled;
      }
  of_extreme_text Residues text p =
      record {
        has_text = p.has_text;
        subject = p.subject;
        are_subject_lines =
            p.are_subject_lines;
        spelled = p.spelled;
      }

  pub extreme_is_bounded : (n : Numbers) → IsWithinBounds f →
      IsBounded (extreme_claim n f lines rows)
  extreme_is_bounded Whole b = b
  extreme_is_bounded Residues b = b
