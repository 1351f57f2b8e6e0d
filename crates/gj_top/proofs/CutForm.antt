-- What follows a rule, the claims about the cuts of an input, and why no input of `cut` is both in
-- its form and refused.
use Rattle.std.proofs.Common.{◌≡◌, ℕ, List, subst}
use Rattle.std.specs.List.{AllZip}
use Rattle.gj_proof.specs.ProofText.{IsBounded, IsBoundedRule}
use Rattle.gj_lex.specs.declared.reason.Reason.{Reason}
use Rattle.gj_function_text.specs.RuleText.{BeginsAsRule, IsFirstFaultOfRule}
use Rattle.gj_function_text.specs.FirstFault.{IsFirstFaultOfFunction}
use Rattle.gj_function_text.proofs.OneText.{one_function_text, no_fault_of_text}
use Rattle.gj_function_text.proofs.FunctionTexts.{function_is_within}
use Rattle.gj_function_text.proofs.RuleTexts.{one_end, no_fault_of_rule}
use Rattle.gj_row.specs.TableauText.{records_of, IsTableauText}
use Rattle.gj_row.proofs.OneTableau.{no_first_fault}
use Rattle.gj_proof.specs.declared.claim.Claim.TheVariants as claim
use Rattle.gj_proof.specs.declared.cut.CutLine.{CutLine}
use Rattle.gj_proof.specs.declared.cut.CutRule.{CutRule}
use Rattle.gj_proof.specs.declared.cut.CutRule.TheVariants.{Gmic, Table}
use Rattle.gj_cut_text.specs.CutLines.{IsLineFor}
use Rattle.gj_cut_text.proofs.CutClaims.{cuts_are_bounded}
use Rattle.gj_top.specs.Cut.{BeginsWithRule, CutInput, SpellsCutInput, RefusesCutInput}
use Rattle.gj_top.specs.Cut.RefusesCutInput.{of_rule, of_function, of_tableau}
use Rattle.gj_top.proofs.InputLines.{rule_of_lines}

-- ---- what follows a rule

pub one_rest : (text : List ℕ) (r s : CutRule) (a b : List ℕ) → BeginsWithRule text r a →
    BeginsWithRule text s b → a ≡ b
one_rest text Gmic Gmic a b h k = one_end text a b h.1 k.1
one_rest text Gmic (Table g) a b h k = absurd (k.0 h.0)
one_rest text (Table f) Gmic a b h k = absurd (h.0 k.0)
one_rest text (Table f) (Table g) a b h k = (one_function_text text f g a b h.1 k.1).1

-- the function that a text begins with is within the limits
pub rule_is_bounded : (text : List ℕ) (r : CutRule) (rest : List ℕ) → BeginsWithRule text r rest →
    IsBoundedRule r
rule_is_bounded text Gmic rest h = tt
rule_is_bounded text (Table f) rest h = function_is_within text f rest h.1

-- the lines of an input are those of a claim
pub lines_are_bounded : (input : List ℕ) (thing : CutInput) (lines : List CutLine) →
    SpellsCutInput input thing →
    AllZip (IsLineFor thing.rule thing.tableau.columns) thing.tableau.rows lines →
    IsBounded (claim.Cut thing.rule lines)
lines_are_bounded input thing lines spelled h =
    let begins = rule_of_lines input thing.rule spelled.rest spelled.rule in
    cuts_are_bounded thing.rule thing.tableau lines
    (rule_is_bounded input thing.rule spelled.rest begins) spelled.tableau.is_tableau h

-- ---- refusals

pub no_rule_fault : (text : List ℕ) (r : CutRule) (rest : List ℕ) (n : ℕ) (e : Reason) →
    BeginsWithRule text r rest →
    BeginsAsRule text → IsFirstFaultOfRule text n e → ⊥
no_rule_fault text Gmic rest n e h begins fault = no_fault_of_rule text rest n e h.1 fault
no_rule_fault text (Table f) rest n e h begins fault = h.0 begins

pub no_function_fault : (text : List ℕ) (r : CutRule) (rest : List ℕ) (n : ℕ) (e : Reason) →
    BeginsWithRule text r rest →
    (BeginsAsRule text → ⊥) → IsFirstFaultOfFunction text n e → ⊥
no_function_fault text Gmic rest n e h begins fault = begins h.0
no_function_fault text (Table f) rest n e h begins fault =
    no_fault_of_text text rest f n e h.1 fault

pub cut_input_refuses_only_others : (input text : List ℕ) (thing : CutInput) →
    SpellsCutInput input thing → RefusesCutInput input text → ⊥
cut_input_refuses_only_others input text thing h (of_rule begins fault) =
    no_rule_fault input thing.rule h.rest fault.at_line fault.reason
    (rule_of_lines input thing.rule h.rest h.rule) begins fault.first
cut_input_refuses_only_others input text thing h (of_function begins fault) =
    no_function_fault input thing.rule h.rest fault.at_line fault.reason
    (rule_of_lines input thing.rule h.rest h.rule) begins fault.first
cut_input_refuses_only_others input text thing h (of_tableau fault) =
    let same : h.rest ≡ fault.rest =
    one_rest input thing.rule fault.rule h.rest fault.rest
    (rule_of_lines input thing.rule h.rest h.rule) fault.begins in
    no_first_fault (records_of fault.rest) thing.tableau fault.record_number fault.reason
    (subst (λ rest. IsTableauText rest thing.tableau) same h.tableau) fault.first
