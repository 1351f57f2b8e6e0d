-- The rule and the rows of cuts, read one line after another.
use Rattle.std.proofs.Common.{◌≡◌, inl, inr, ℕ, List, [], ◌∷◌, codes, refl, sym, subst, ◌∙◌}
use Rattle.gj_lex.specs.declared.spelling.Spelling.TheVariants.{Strict}
use Rattle.gj_forms.specs.declared.fault.PartFault.{PartFault}
use Rattle.gj_forms.specs.Parts.{words_rule, Part, line_part, made_part, BeginsWithLine, IsExactPart, IsFaultOf}
use Rattle.gj_forms.proofs.PartLaws.{words_rule_is_exact, line_part_is_exact, made_part_is_exact, fault_in_first, fault_in_next, fault_in_made}
use Rattle.gj_forms.proofs.WhereLaws.{where_part_is_exact, fault_where, fault_else}
use Rattle.gj_shape.specs.FunctionData.{FunctionData}
use Rattle.gj_function_lines.specs.FunctionGrammar.{function_part}
use Rattle.gj_function_lines.proofs.ExactFunctions.{function_part_is_exact}
use Rattle.gj_proof.specs.ProofGrammar.{head_form, form_part, rule_part, terms_part, behind_head, row_part, rows_part, claim_part}
use Rattle.gj_proof.specs.declared.claim.ClaimWord.TheVariants.{Cut}
use Rattle.gj_proof.specs.declared.claim.Claim.{Claim}
use Rattle.gj_proof.specs.declared.claim.Claim.TheVariants as claims
use Rattle.gj_proof.specs.declared.cut.CutRule.{CutRule}
use Rattle.gj_proof.specs.declared.cut.CutRule.TheVariants.{Gmic, Table}
use Rattle.gj_proof.specs.declared.cut.CutLine.{CutLine}
use Rattle.gj_proof.specs.declared.cut.CutLine.TheVariants as cuts
use Rattle.gj_proof.specs.declared.cut.CutTerm.{CutTerm}
use Rattle.gj_proof.specs.declared.cut_rows.RowHead.{RowHead}
use Rattle.gj_proof.specs.declared.cut_rows.RowKind.{RowKind}
use Rattle.gj_proof.specs.declared.cut_rows.RowKind.TheVariants.{WithCut}

-- ---- the rule

abbrev pub gmic_words : List (List ℕ)
gmic_words = codes "rule" ∷ codes "gmic" ∷ []

abbrev pub gmic_part : Part CutRule
gmic_part = made_part (λ (t : Unit {0}) r. r ≡ Gmic) (line_part Strict (words_rule gmic_words))

abbrev pub table_part : Part CutRule
table_part = made_part (λ (f : FunctionData) r. r ≡ Table f) (function_part Strict)

pub rule_part_is_exact : IsExactPart rule_part.Reads rule_part.Faults
rule_part_is_exact =
    where_part_is_exact (BeginsWithLine Strict gmic_words) gmic_part table_part
    (made_part_is_exact (λ (t : Unit {0}) r. r ≡ Gmic) (λ t r s h k. h ∙ sym k)
    (line_part Strict (words_rule gmic_words))
    (line_part_is_exact Strict (words_rule gmic_words) (words_rule_is_exact gmic_words)))
    (made_part_is_exact (λ (f : FunctionData) r. r ≡ Table f) (λ f r s h k. h ∙ sym k)
    (function_part Strict)
    (function_part_is_exact Strict))

pub fault_in_gmic : (text : List ℕ) (e : PartFault) → BeginsWithLine Strict gmic_words text →
    IsFaultOf (line_part Strict (words_rule gmic_words)) text e → IsFaultOf rule_part text e
fault_in_gmic text e is h =
    fault_where (BeginsWithLine Strict gmic_words) gmic_part table_part text e is
    (fault_in_made (λ (t : Unit {0}) r. r ≡ Gmic) (line_part Strict (words_rule gmic_words)) text e
    h)

pub fault_in_table : (text : List ℕ) (e : PartFault) → (BeginsWithLine Strict gmic_words text → ⊥) →
    IsFaultOf (function_part Strict) text e → IsFaultOf rule_part text e
fault_in_table text e not h =
    fault_else (BeginsWithLine Strict gmic_words) gmic_part table_part text e not
    (fault_in_made (λ (f : FunctionData) r. r ≡ Table f) (function_part Strict) text e h)

pub gmic_read : (text rest : List ℕ) → BeginsWithLine Strict gmic_words text →
    (line_part Strict (words_rule gmic_words)).Reads text tt rest → rule_part.Reads text Gmic rest
gmic_read text rest is h = inl (is, (tt, h, refl))

pub table_read : (text rest : List ℕ) (f : FunctionData) →
    (BeginsWithLine Strict gmic_words text → ⊥) →
    (function_part Strict).Reads text f rest → rule_part.Reads text (Table f) rest
table_read text rest f not h = inr (not, (f, h, refl))

-- ---- one row

pub fault_in_terms : (text middle : List ℕ) (head : RowHead) (e : PartFault) →
    (form_part head_form).Reads text head middle → head.kind ≡ WithCut →
    IsFaultOf terms_part middle e → IsFaultOf row_part text e
fault_in_terms text middle head e line kind h =
    fault_in_next (form_part head_form) (λ h. behind_head h.name h.right h.kind) text head middle e
    line
    (subst (λ (k : RowKind). IsFaultOf (behind_head head.name head.right k) middle e) (sym kind)
    (fault_in_made (λ (terms : List CutTerm) l. l ≡ cuts.Cut head.name head.right terms) terms_part
    middle e h))

pub row_read : (text middle rest : List ℕ) (head : RowHead) (k : RowKind) (l : CutLine) →
    (form_part head_form).Reads text head middle →
    head.kind ≡ k → (behind_head head.name head.right k).Reads middle l rest →
    row_part.Reads text l rest
row_read text middle rest head k l line kind h = (
  head,
  middle,
  line,
  subst
      (λ (k : RowKind). (behind_head head.name head.right k).Reads middle l rest) (sym kind) h,
)

-- ---- the claim

abbrev rows_of : CutRule → List CutLine → Claim → Type 0
rows_of rule rows c = c ≡ claims.Cut rule rows

pub fault_in_rule : (text : List ℕ) (e : PartFault) → IsFaultOf rule_part text e →
    IsFaultOf (claim_part Cut) text e
fault_in_rule text e h =
    fault_in_first rule_part (λ rule. made_part (rows_of rule) rows_part) text e h

pub fault_in_rows : (text middle : List ℕ) (rule : CutRule) (e : PartFault) →
    rule_part.Reads text rule middle →
    IsFaultOf rows_part middle e → IsFaultOf (claim_part Cut) text e
fault_in_rows text middle rule e reads h =
    fault_in_next rule_part (λ rule. made_part (rows_of rule) rows_part) text rule middle e reads
    (fault_in_made (rows_of rule) rows_part middle e h)
