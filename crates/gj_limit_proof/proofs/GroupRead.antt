-- The lines of a group, read one after another.
use Rattle.std.proofs.Common.{ℕ, List}
use Rattle.gj_forms.specs.declared.fault.PartFault.{PartFault}
use Rattle.gj_forms.specs.Parts.{IsFaultOf}
use Rattle.gj_forms.proofs.PartLaws.{fault_in_first, fault_in_next, fault_in_made}
use Rattle.gj_limit_system.specs.declared.limit_row.LimitRow.{LimitRow}
use Rattle.gj_proof.specs.ProofGrammar.{form_part, steps_part}
use Rattle.gj_limit_proof.specs.LimitText.{greatest_columns}
use Rattle.gj_limit_proof.specs.LimitGrammar.{row_form, group_part}
use Rattle.gj_limit_proof.proofs.GroupTexts.{pivot_form, makes_row, behind_steps, behind_name}

module _ (q : ℕ) (text middle : List ℕ) (name : LimitRow) (e : PartFault)
    (first : (form_part (row_form q)).Reads text name middle) where
  pub fault_in_steps : IsFaultOf (steps_part greatest_columns) middle e →
      IsFaultOf (group_part q) text e
  fault_in_steps h =
      fault_in_next (form_part (row_form q)) behind_name text name middle e first
      (fault_in_first (steps_part greatest_columns) (behind_steps name) middle e h)

  pub fault_in_pivot : (behind : List ℕ) (columns : List ℕ) →
      (steps_part greatest_columns).Reads middle columns behind →
      IsFaultOf (form_part pivot_form) behind e → IsFaultOf (group_part q) text e
  fault_in_pivot behind columns steps h =
      fault_in_next (form_part (row_form q)) behind_name text name middle e first
      (fault_in_next (steps_part greatest_columns) (behind_steps name) middle columns behind e steps
      (fault_in_made (makes_row name columns) (form_part pivot_form) behind e h))
