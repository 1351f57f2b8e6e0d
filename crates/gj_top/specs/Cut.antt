-- The command `cut`: a function or a rule, and a tableau behind it, are answered with the cuts of
-- its rows (Gomory and Johnson 1972; the form is own).
use Rattle.std.specs.Prelude.{ℕ, ◌≡◌, List, [], ◌∷◌, ◌++◌, All, codes, decimal}
use Rattle.std.specs.List.{AllZip}
use Rattle.gj_forms.specs.TextLines.{HasLines}
use Rattle.gj_lex.specs.declared.spelling.Spelling.TheVariants.{Lenient}
use Rattle.gj_function_lines.specs.FunctionLines.{line}
use Rattle.gj_function_text.specs.BreaksText.{end_words}
use Rattle.gj_function_text.specs.FunctionText.{IsFunctionText}
use Rattle.gj_function_text.specs.FirstFault.{IsFirstFaultOfFunction}
use Rattle.gj_function_text.specs.RuleText.{rule_title_words, rule_name_words, BeginsAsRule, IsRuleText, IsFirstFaultOfRule}
use Rattle.gj_row.specs.FirstFault.{IsFirstFaultOfTableau, reason_word}
use Rattle.gj_row.specs.TableauText.{IsTableauText}
use Rattle.gj_row.specs.declared.faults.RowReason.{RowReason}
use Rattle.gj_proof.specs.CutRules.{MakesCuts}
use Rattle.gj_proof.specs.Meaning.{CutLineHolds}
use Rattle.gj_proof.specs.ProofText.{IsProofText}
use Rattle.gj_proof.specs.Rules.{MeetsRules}
use Rattle.gj_proof.specs.declared.claim.Claim.TheVariants as claim
use Rattle.gj_proof.specs.declared.cut.CutLine.{CutLine}
use Rattle.gj_proof.specs.declared.cut.CutRule.{CutRule}
use Rattle.gj_proof.specs.declared.cut.CutRule.TheVariants.{Gmic, Table}
use Rattle.gj_top.specs.Objection.{NamesViolation}
use Rattle.gj_cut_text.specs.CutLines.{IsLineFor}
pub use Rattle.gj_top.specs.declared.cut_input.CutInput.{CutInput}
use Rattle.gj_top.specs.declared.reply.End.{End}
use Rattle.gj_top.specs.declared.reply.End.TheVariants.{Done, NoFunction}
use Rattle.gj_top.specs.Promise.{Form, Promise}
use Rattle.gj_top.specs.Promise.Form.{reading}
use Rattle.gj_top.specs.Task.{Task}
use Rattle.gj_top.specs.Forms.{BeginsWithFunction, NamesFault}

-- ---- the input

-- the text begins with the lines `gj-rule 1`, `gmic` and `end`, or with those of a function, and
-- the rest follows
abbrev pub HasLinesOfRule : List ℕ → CutRule → List ℕ → Type 0
HasLinesOfRule text Gmic rest =
    HasLines Lenient text (rule_title_words ∷ rule_name_words ∷ end_words ∷ []) rest
HasLinesOfRule text (Table f) rest = BeginsWithFunction text f rest

-- and the rest is a tableau
pub record SpellsCutInput (text : List ℕ) (input : CutInput) : Type 0 where
  pub rest : List ℕ
  pub «rule» : HasLinesOfRule text input.rule rest
  pub tableau : IsTableauText rest input.tableau

abbrev pub cut_input : Form CutInput
cut_input = reading SpellsCutInput

-- ---- refusals

-- the text begins with a rule text or a function text, and the rest follows its line `end`
abbrev pub BeginsWithRule : List ℕ → CutRule → List ℕ → Type 0
BeginsWithRule text Gmic rest = BeginsAsRule text × IsRuleText text rest
BeginsWithRule text (Table f) rest = (BeginsAsRule text → ⊥) × IsFunctionText text f rest

-- the line that refuses an input for the n-th record of its tableau
abbrev pub refused_record_line : ℕ → RowReason → List ℕ
refused_record_line n reason =
    line (codes "refused record " ++ decimal n ++ codes " " ++ reason_word reason)

-- the text names the record that is the first at fault in what follows a rule, and the reason
pub record NamesRefusedRecord (input text : List ℕ) : Type 0 where
  pub «rule» : CutRule
  pub rest : List ℕ
  pub begins : BeginsWithRule input «rule» rest
  pub record_number : ℕ
  pub reason : RowReason
  pub first : IsFirstFaultOfTableau rest record_number reason
  pub spelled : text ≡ refused_record_line record_number reason

-- why an input is refused: its rule text, its function text, or its tableau is at fault
pub data RefusesCutInput (input text : List ℕ) : Type 0 where
  of_rule : BeginsAsRule input → NamesFault (IsFirstFaultOfRule input) text →
      RefusesCutInput input text
  of_function : (BeginsAsRule input → ⊥) → NamesFault (IsFirstFaultOfFunction input) text →
      RefusesCutInput input text
  of_tableau : NamesRefusedRecord input text → RefusesCutInput input text

-- ---- the cuts

-- the text is the proof text of a line for each row, in their order; each cut holds at every
-- solution of its row
pub record AreCutsOf (input : CutInput) (text : List ℕ) : Type 0 where
  pub lines : List CutLine
  pub lines_are : AllZip (IsLineFor input.rule input.tableau.columns) input.tableau.rows lines
  pub hold : All CutLineHolds lines
  pub spelled : IsProofText (claim.Cut input.rule lines) text

-- ---- the answer

-- the text is the proof text of the cuts, and every rule of the checker holds of their claim
pub record AreCheckedCutsOf (input : CutInput) (text : List ℕ) : Type 0 where
  pub cuts : AreCutsOf input text
  pub rules : MeetsRules (claim.Cut input.rule cuts.lines)

-- the cuts of the rows, if the rule makes cuts; and else the first violation
abbrev pub IsCutReply : CutInput → End → List ℕ → Type 0
IsCutReply input Done text = MakesCuts input.rule × AreCheckedCutsOf input text
IsCutReply input NoFunction text = NamesViolation input.rule text
IsCutReply input end text = ⊥

-- the headline: the rows that are written are those of the tableau, and each cut holds at every
-- solution of its row
abbrev pub cut_promise : Promise
cut_promise = record { Thing = CutInput; form = cut_input; headline = AreCutsOf }

abbrev pub cut : Task
cut = record {
  promise = cut_promise;
  work = record { refuses = RefusesCutInput; replies = IsCutReply };
}
