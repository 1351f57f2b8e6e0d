-- The texts that the part `proof_text` reads are the proof texts of claims.
use Rattle.std.proofs.Common.{◌≡◌, inl, inr, ℕ, List, [], ◌∷◌, ◌++◌, flat_map, codes, refl, sym, ap, subst, ◌∙◌}
use Rattle.std.specs.List.{join_with_byte}
use Rattle.std.proofs.lemmas.List.{append_assoc, append-nil}
use Rattle.gj_lex.specs.declared.spelling.Spelling.TheVariants.{Strict}
use Rattle.gj_forms.specs.Parts.{Part, words_rule, line_part, then_part, made_part, end_part, IsExactPart}
use Rattle.gj_forms.proofs.CanonicalLines.{plain_by_test}
use Rattle.gj_forms.proofs.PartLaws.{line_part_is_exact, words_rule_is_exact, then_part_is_exact, then_read_is_exact, made_part_is_exact, end_part_is_exact}
use Rattle.gj_shape.specs.FunctionData.{FunctionData, IsWithinBounds}
use Rattle.gj_shape.specs.declared.extremality.CoverLine.{CoverLine}
use Rattle.gj_shape.specs.declared.extremality.Halves.{Halves}
use Rattle.gj_shape.specs.declared.violations.Violation.{Violation}
use Rattle.gj_function_lines.specs.FaceLines.{cover_line}
use Rattle.gj_function_lines.specs.FunctionLines.{line, AreFunctionLines}
use Rattle.gj_function_lines.specs.FunctionGrammar.{function_part}
use Rattle.gj_function_lines.proofs.CanonicalFunctions.{canonical_lines_are_read}
use Rattle.gj_function_lines.proofs.ExactFunctions.{function_part_is_exact}
use Rattle.gj_function_lines.proofs.FunctionRead.{within_bounds}
use Rattle.gj_function_lines.proofs.StrictFunctions.{strict_lines_are_canonical}
use Rattle.gj_forms.specs.LineForms.{line_of}
use Rattle.gj_forms.proofs.SpelledLaws.{spelled_words}
use Rattle.gj_function_lines.specs.FunctionLines.{order_form}
use Rattle.gj_forms.proofs.LineLaws.{part_is_exact, line_is_read, only_line}
use Rattle.gj_proof.specs.ProofText.{IfFunction, IsBounded, subject_of_rule, extreme_claim, AreSubjectLines, violation_line, IsProofText, row_text, group_text, halves_text, modulus_text}
use Rattle.gj_proof.specs.ProofGrammar.{title_form, numbers_of_word, claim_form, violation_form, form_part, rule_part, rows_part, covered_part, modulus_part, groups_part, halves_part, claim_part, proof_text}
use Rattle.gj_forms.specs.Parts.{BeginsWithLine}
use Rattle.gj_proof.specs.declared.claim.Claim.{Claim}
use Rattle.gj_proof.specs.declared.claim.Claim.TheVariants as claims
use Rattle.gj_proof.specs.declared.claim.ClaimWord.{ClaimWord}
use Rattle.gj_proof.specs.declared.claim.ClaimWord.TheVariants.{Minimal, NotMinimal, Cut, Extreme, NotExtreme}
use Rattle.gj_proof.specs.declared.cut.CutRule.{CutRule}
use Rattle.gj_proof.specs.declared.cut.CutRule.TheVariants.{Gmic, Table}
use Rattle.gj_proof.specs.declared.cut.CutLine.{CutLine}
use Rattle.gj_proof.specs.declared.numbers.Numbers.{Numbers}
use Rattle.gj_proof.specs.declared.numbers.Numbers.TheVariants.{Whole, Residues}
use Rattle.gj_proof.specs.declared.pivot.PivotRow.{PivotRow}
use Rattle.gj_proof.proofs.StrictParts.{line_reads, line_found}
use Rattle.gj_forms.proofs.WhereLaws.{other_line, begins_so}
use Rattle.gj_proof.proofs.ClearLines.{title_is_clear, claim_is_clear, violation_is_clear}
use Rattle.gj_proof.proofs.CutRead.{gmic_words, rule_part_is_exact, gmic_read, table_read}
use Rattle.gj_proof.proofs.CutTexts.{BeginsEnd, rows_are_exact, rows_are_printed}
use Rattle.gj_proof.proofs.ExtremeClaims.{IsExtremeText, extreme_is_text, of_extreme_text, extreme_is_bounded}
use Rattle.gj_proof.proofs.LineLists.{title_line}
use Rattle.gj_proof.proofs.ExtremeTexts.{covered_is_exact, modulus_is_exact, groups_are_exact, halves_are_exact, covered_is_printed, modulus_is_printed, groups_are_printed, halves_are_printed}

-- ---- the parts of a proof text

abbrev pub title_part : Part Numbers
title_part = form_part title_form

abbrev pub last_part : Part (Unit {0})
last_part = line_part Strict (words_rule (codes "end" ∷ []))

abbrev pub violation_part : Part Violation
violation_part = form_part violation_form

abbrev pub word_part : Numbers → Part ClaimWord
word_part n = form_part (claim_form n)

-- the line of the word and the lines of the claim
abbrev pub named_claim : Numbers → Part Claim
named_claim n = then_part (word_part n) claim_part

-- what follows those, and what follows the title
abbrev pub after_claim : Claim → Part Claim
after_claim c = then_part last_part (λ _. end_part Strict c)

abbrev pub after_title : Numbers → Part Claim
after_title n = then_part (named_claim n) after_claim

-- ---- each is exact

-- what follows the line of the modulus of a claim that a function is extreme, what follows the
-- lines of covered intervals, and what follows the function
abbrev pub makes_extreme : Numbers → FunctionData → List CoverLine → List PivotRow → Claim → Type 0
makes_extreme n f lines rows c = c ≡ extreme_claim n f lines rows

abbrev pub behind_modulus : Numbers → FunctionData → List CoverLine → Part Claim
behind_modulus n f lines = made_part (makes_extreme n f lines) (groups_part f.order)

abbrev pub behind_cover : Numbers → FunctionData → List CoverLine → Part Claim
behind_cover n f lines = then_part (modulus_part n) (λ t. behind_modulus n f lines)

abbrev pub behind_function : Numbers → FunctionData → Part Claim
behind_function n f = then_part (covered_part f.order) (behind_cover n f)

-- what follows the function of a claim that it is not extreme
abbrev pub makes_not_extreme : FunctionData → Halves → Claim → Type 0
makes_not_extreme f h c = c ≡ claims.NotExtreme f h

abbrev pub behind_subject : FunctionData → Part Claim
behind_subject f = made_part (makes_not_extreme f) halves_part

claim_part_is_exact : (w : ClaimWord) → IsExactPart (claim_part w).Reads (claim_part w).Faults
claim_part_is_exact Minimal =
    made_part_is_exact (λ (f : FunctionData) c. c ≡ claims.Minimal f) (λ f c d h k. h ∙ sym k)
    (function_part Strict)
    (function_part_is_exact Strict)
claim_part_is_exact NotMinimal =
    let behind : FunctionData →
    Part Claim = λ f. made_part (λ (v : Violation) c. c ≡ claims.NotMinimal f v)
    violation_part in
    then_part_is_exact (function_part Strict) behind (function_part_is_exact Strict)
    (λ f. made_part_is_exact (λ (v : Violation) c. c ≡ claims.NotMinimal f v)
    (λ v c d h k. h ∙ sym k) violation_part
    (part_is_exact violation_form violation_is_clear))
claim_part_is_exact Cut =
    let behind : CutRule →
    Part Claim = λ rule. made_part (λ (rows : List CutLine) c. c ≡ claims.Cut rule rows)
    rows_part in
    then_part_is_exact rule_part behind rule_part_is_exact
    (λ rule. made_part_is_exact (λ (rows : List CutLine) c. c ≡ claims.Cut rule rows)
    (λ rows c d h k. h ∙ sym k) rows_part
    rows_are_exact)
claim_part_is_exact (Extreme n) =
    then_read_is_exact (function_part Strict) (behind_function n) (function_part_is_exact Strict)
    (λ text f m h.
    let small = (within_bounds Strict text f m h).order_high in
    then_part_is_exact (covered_part f.order) (behind_cover n f) (covered_is_exact f.order small)
    (λ lines. then_part_is_exact (modulus_part n) (λ t. behind_modulus n f lines)
    (modulus_is_exact n)
    (λ t. made_part_is_exact (makes_extreme n f lines) (λ rows c d h k. h ∙ sym k)
    (groups_part f.order)
    (groups_are_exact f.order small))))
claim_part_is_exact NotExtreme =
    then_part_is_exact (function_part Strict) behind_subject (function_part_is_exact Strict)
    (λ f. made_part_is_exact (makes_not_extreme f)
    (λ h c d k l. k ∙ sym l) halves_part halves_are_exact)

pub proof_text_is_exact : IsExactPart proof_text.Reads proof_text.Faults
proof_text_is_exact =
    then_part_is_exact title_part after_title (part_is_exact title_form title_is_clear)
    (λ n. then_part_is_exact (named_claim n) after_claim
    (then_part_is_exact (word_part n) claim_part (part_is_exact (claim_form n) (claim_is_clear n))
    claim_part_is_exact)
    (λ c. then_part_is_exact last_part (λ _. end_part Strict c)
    (line_part_is_exact Strict (words_rule (codes "end" ∷ []))
    (words_rule_is_exact (codes "end" ∷ [])))
    (λ _. end_part_is_exact Strict c)))

-- ---- the lines as bytes

abbrev word_line : ClaimWord → List ℕ
word_line w = line_of (claim_form (numbers_of_word w)) w

abbrev last_line : List ℕ
last_line = line (codes "end")

last_reads : last_part.Reads last_line tt []
last_reads =
    line_reads (words_rule (codes "end" ∷ [])) last_line [] (codes "end" ∷ []) tt (λ e. cc)
    (plain_by_test (codes "end" ∷ []) refl) refl (sym (append-nil last_line))

-- ---- the rule of cuts

gmic_reads : (rest : List ℕ) →
    (line_part Strict (words_rule gmic_words)).Reads (line (codes "rule gmic") ++ rest) tt rest
gmic_reads rest =
    line_reads (words_rule gmic_words) (line (codes "rule gmic") ++ rest) rest gmic_words tt
    (λ e. cc) (plain_by_test gmic_words refl) refl
    refl

-- the lines of a function begin with none of that rule
no_gmic_line : (text rest : List ℕ) (f : FunctionData) → (function_part Strict).Reads text f rest →
    BeginsWithLine Strict gmic_words text → ⊥
no_gmic_line text rest f (q, next, (start, words, strict, (n, (spelled, has), order_is)), h) =
    other_line Strict text start words gmic_words next strict
    (λ e. not_both _ (sym (spelled_words Strict (order_form.fields n) words spelled) ∙ e))
  where
    not_both : (word : List ℕ) → codes "order" ∷ word ∷ [] ≡ gmic_words → ⊥
    not_both word e = cc

rule_reads : (r : CutRule) (lines rest : List ℕ) → IfFunction (subject_of_rule r) IsWithinBounds →
    AreSubjectLines (subject_of_rule r) lines → rule_part.Reads (lines ++ rest) r rest
rule_reads (Table f) lines rest b are =
    let reads = canonical_lines_are_read Strict f lines rest b are in
    table_read (lines ++ rest) rest f (no_gmic_line (lines ++ rest) rest f reads) reads
rule_reads Gmic lines rest b are =
    subst (λ t. rule_part.Reads (t ++ rest) Gmic rest) (sym are)
    (gmic_read (line (codes "rule gmic") ++ rest) rest
    (begins_so Strict _ rest gmic_words (gmic_reads rest)) (gmic_reads rest))

-- the line of the end begins as one
end_begins : BeginsEnd last_line
end_begins = begins_so Strict last_line [] (codes "end" ∷ []) last_reads

-- ---- a text of a claim is read as the claim

-- the lines of a claim's subject and its own are read, and so is the whole
whole_reads : (w : ClaimWord) (c : Claim) (inner text : List ℕ) →
    (claim_part w).Reads inner c last_line →
    text ≡ title_line (numbers_of_word w) ++ (word_line w ++ inner) → proof_text.Reads text c []
whole_reads w c inner text reads is =
    let n = numbers_of_word w in
    let rest = word_line w ++ inner in
    let whole : proof_text.Reads (title_line n ++ rest) c [] = (
      n,
      rest,
      line_is_read title_form title_is_clear n rest tt,
      (
        c,
        last_line,
        (w, inner, line_is_read (claim_form n) (claim_is_clear n) w inner refl, reads),
        (tt, [], last_reads, (refl, refl, refl)),
      ),
    ) in
    subst (λ t. proof_text.Reads t c []) (sym is) whole

extreme_is_read : (n : Numbers) (f : FunctionData) (lines : List CoverLine) (rows : List PivotRow)
    (text : List ℕ) → IsWithinBounds f →
    IsExtremeText n f lines rows text → proof_text.Reads text (extreme_claim n f lines rows) []
extreme_is_read n f lines rows text b p =
    let groups = flat_map group_text rows ++ last_line in
    let modulus = modulus_text n in
    let behind = flat_map cover_line lines ++ (modulus ++ groups) in
    let covered = (covered_is_printed f.order b.order_high).reads lines (modulus ++ groups)
    (p.has_text.0, p.has_text.1) tt in
    whole_reads (Extreme n) (extreme_claim n f lines rows) (p.subject ++ behind) text (
      f,
      behind,
      canonical_lines_are_read Strict f p.subject behind b p.are_subject_lines,
      (
        lines,
        modulus ++ groups,
        covered,
        (
          tt,
          groups,
          (modulus_is_printed n).reads tt groups tt tt,
          (
            rows,
            (groups_are_printed f.order b.order_high).reads rows last_line p.has_text.2
                end_begins,
            refl,
          ),
        ),
      ),
    )
    (p.spelled
    ∙ regroup (title_line n) (word_line (Extreme n)) p.subject (flat_map cover_line lines) modulus
    (flat_map group_text rows) last_line)
  where
    regroup : (a b c d m e g : List ℕ) →
        a ++ b ++ c ++ (d ++ (m ++ e)) ++ g ≡ a ++ (b ++ (c ++ (d ++ (m ++ (e ++ g)))))
    regroup a b c d m e g = simp append_assoc

pub text_is_read : (c : Claim) (text : List ℕ) → IsBounded c → IsProofText c text →
    proof_text.Reads text c []
text_is_read (claims.Minimal f) text b p =
    whole_reads Minimal (claims.Minimal f) (p.subject ++ last_line) text
    (f, canonical_lines_are_read Strict f p.subject last_line b p.are_subject_lines, refl)
    (p.spelled ∙ regroup (title_line Whole) (word_line Minimal) p.subject last_line)
  where
    regroup : (a b c d : List ℕ) → a ++ b ++ c ++ [] ++ d ≡ a ++ (b ++ (c ++ d))
    regroup a b c d = simp (append-nil, append_assoc)
text_is_read (claims.NotMinimal f v) text b p =
    whole_reads NotMinimal (claims.NotMinimal f v) (p.subject ++ (violation_line v ++ last_line))
    text (
      f,
      violation_line v ++ last_line,
      canonical_lines_are_read Strict f p.subject
          (violation_line v ++ last_line) b p.are_subject_lines,
      (v, line_is_read violation_form violation_is_clear v last_line tt, refl),
    )
    (p.spelled ∙ regroup (title_line Whole) (word_line NotMinimal) p.subject
    (violation_line v) last_line)
  where
    regroup : (a b c d e : List ℕ) → a ++ b ++ c ++ d ++ e ≡ a ++ (b ++ (c ++ (d ++ e)))
    regroup a b c d e = simp append_assoc
text_is_read (claims.Cut rule rows) text b p =
    let behind = flat_map row_text rows ++ last_line in
    whole_reads Cut (claims.Cut rule rows) (p.subject ++ behind) text (
      rule,
      behind,
      rule_reads rule p.subject behind b.0 p.are_subject_lines,
      (rows, rows_are_printed.reads rows last_line b.1 end_begins, refl),
    )
    (p.spelled
    ∙ regroup (title_line Whole) (word_line Cut) p.subject (flat_map row_text rows) last_line)
  where
    regroup : (a b c d e : List ℕ) → a ++ b ++ c ++ d ++ e ≡ a ++ (b ++ (c ++ (d ++ e)))
    regroup a b c d e = simp append_assoc
text_is_read (claims.Extreme f lines rows) text b p =
    extreme_is_read Whole f lines rows text b (of_extreme_text f lines rows Whole text p)
text_is_read (claims.ExtremeByResidues f lines rows) text b p =
    extreme_is_read Residues f lines rows text b (of_extreme_text f lines rows Residues text p)
text_is_read (claims.NotExtreme f h) text b p =
    let behind = halves_text h ++ last_line in
    whole_reads NotExtreme (claims.NotExtreme f h) (p.subject ++ behind) text (
      f,
      behind,
      canonical_lines_are_read Strict f p.subject behind b p.are_subject_lines,
      (h, halves_are_printed.reads h last_line p.has_text tt, refl),
    )
    (p.spelled
    ∙ regroup (title_line Whole) (word_line NotExtreme) p.subject (halves_text h) last_line)
  where
    regroup : (a b c d e : List ℕ) → a ++ b ++ c ++ d ++ e ≡ a ++ (b ++ (c ++ (d ++ e)))
    regroup a b c d e = simp append_assoc

-- ---- what is read is the text of a claim

pub function_found : (text : List ℕ) (f : FunctionData) (rest : List ℕ) →
    (function_part Strict).Reads text f rest →
    IsWithinBounds f × (lines : List ℕ) × AreFunctionLines f lines × (text ≡ lines ++ rest)
function_found text f rest h =
    let (lines, are, is) = strict_lines_are_canonical f text rest h in
    (within_bounds Strict text f rest h, lines, are, is)

-- the subject of a rule that was read
pub record RuleFound (r : CutRule) (text rest : List ℕ) : Type 0 where
  pub within : IfFunction (subject_of_rule r) IsWithinBounds
  pub lines : List ℕ
  pub are_lines : AreSubjectLines (subject_of_rule r) lines
  pub spelled : text ≡ lines ++ rest

rule_found : (text rest : List ℕ) (r : CutRule) → rule_part.Reads text r rest →
    RuleFound r text rest
rule_found text rest r (inl (is, (t, h, r_is))) =
    let (words, words_are, spelled) = line_found (words_rule gmic_words) text rest t h in
    let found : RuleFound Gmic text rest = record {
      within = tt;
      lines = line (codes "rule gmic");
      are_lines = refl;
      spelled = spelled ∙ ap (λ ws. line (join_with_byte 32 ws) ++ rest) words_are;
    } in
    subst (λ (r : CutRule). RuleFound r text rest) (sym r_is) found
rule_found text rest r (inr (not, (f, h, r_is))) =
    let (within, lines, are, is) = function_found text f rest h in
    let found : RuleFound (Table f) text rest =
    record { within = within; lines = lines; are_lines = are; spelled = is } in
    subst (λ (r : CutRule). RuleFound r text rest) (sym r_is) found

claim_found : (w : ClaimWord) (c : Claim) (text inner rest : List ℕ) →
    (claim_part w).Reads inner c rest →
    text ≡ title_line (numbers_of_word w) ++ (word_line w ++ inner) → rest ≡ last_line →
    IsBounded c × IsProofText c text
claim_found Minimal c text inner rest (f, reads, c_is) is rest_is =
    let (within, bytes, lines, inner_is) = function_found inner f rest reads in
    let P : Claim → Type 0 = λ d. IsBounded d × IsProofText d text in
    subst P (sym c_is) (
      within,
      record {
        has_text = tt;
        subject = bytes;
        are_subject_lines = lines;
        spelled = is ∙ ap (λ t. title_line Whole ++ (word_line Minimal ++ t))
            (inner_is ∙ ap (λ t. bytes ++ t) rest_is)
            ∙ regroup (title_line Whole) (word_line Minimal) bytes last_line;
      },
    )
  where
    regroup : (a b c d : List ℕ) → a ++ (b ++ (c ++ d)) ≡ a ++ b ++ c ++ [] ++ d
    regroup a b c d = simp (append-nil, append_assoc)
claim_found NotMinimal c text inner rest (f, middle, reads, (v, shown, c_is)) is rest_is =
    let (within, bytes, lines, inner_is) = function_found inner f middle reads in
    let middle_is = (only_line violation_form violation_is_clear middle rest v shown).0 in
    let P : Claim → Type 0 = λ d. IsBounded d × IsProofText d text in
    subst P (sym c_is) (
      within,
      record {
        has_text = tt;
        subject = bytes;
        are_subject_lines = lines;
        spelled = is
            ∙ ap (λ t. title_line Whole ++ (word_line NotMinimal ++ t))
            (inner_is ∙ ap (λ t. bytes ++ t) (middle_is ∙ ap (λ t. violation_line v ++ t) rest_is))
            ∙ regroup (title_line Whole) (word_line NotMinimal) bytes (violation_line v) last_line;
      },
    )
  where
    regroup : (a b c d e : List ℕ) → a ++ (b ++ (c ++ (d ++ e))) ≡ a ++ b ++ c ++ d ++ e
    regroup a b c d e = simp append_assoc
claim_found Cut c text inner rest (rule, middle, reads, (rows, more, c_is)) is rest_is =
    let subject = rule_found inner middle rule reads in
    let found = rows_are_printed.found middle rest rows more in
    let P : Claim → Type 0 = λ d. IsBounded d × IsProofText d text in
    let own : middle ≡ flat_map row_text rows ++ last_line = found.0
    ∙ ap (λ t. flat_map row_text rows ++ t) rest_is in
    subst P (sym c_is) (
      (subject.within, found.1),
      record {
        has_text = tt;
        subject = subject.lines;
        are_subject_lines = subject.are_lines;
        spelled = is
            ∙ ap (λ t. title_line Whole ++ (word_line Cut ++ t))
            (subject.spelled ∙ ap (λ t. subject.lines ++ t) own)
            ∙ regroup (title_line Whole) (word_line Cut) subject.lines
            (flat_map row_text rows) last_line;
      },
    )
  where
    regroup : (a b c d e : List ℕ) → a ++ (b ++ (c ++ (d ++ e))) ≡ a ++ b ++ c ++ d ++ e
    regroup a b c d e = simp append_assoc
claim_found (Extreme n) c text inner rest
    (f, middle, reads, (lines, behind, covered, (t, groups, modulus_reads, (rows, more, c_is)))) is
    rest_is =
    let (within, function, subject, inner_is) = function_found inner f middle reads in
    let small = within.order_high in
    let cover = (covered_is_printed f.order small).found middle behind lines covered in
    let modulus = modulus_text n in
    let found = (groups_are_printed f.order small).found groups rest rows more in
    let P : Claim → Type 0 = λ d. IsBounded d × IsProofText d text in
    let groups_are : groups ≡ flat_map group_text rows ++ last_line = found.0
    ∙ ap (λ t. flat_map group_text rows ++ t) rest_is in
    let own : middle ≡ flat_map cover_line lines
    ++ (modulus ++ (flat_map group_text rows ++ last_line)) =
    cover.0 ∙ ap (λ t. flat_map cover_line lines ++ t)
    (((modulus_is_printed n).found behind groups t modulus_reads).0
    ∙ ap (λ u. modulus ++ u) groups_are) in
    let whole : IsExtremeText n f lines rows text = record {
      has_text = (cover.1.0, cover.1.1, found.1);
      subject = function;
      are_subject_lines = subject;
      spelled = is
          ∙ ap (λ t. title_line n ++ (word_line (Extreme n) ++ t))
          (inner_is ∙ ap (λ t. function ++ t) own)
          ∙ regroup (title_line n) (word_line (Extreme n)) function
          (flat_map cover_line lines) modulus (flat_map group_text rows) last_line;
    } in
    subst P (sym c_is) (
      extreme_is_bounded f lines rows n within,
      extreme_is_text f lines rows n
          text whole,
    )
  where
    regroup : (a b c d m e g : List ℕ) → a ++ (b ++ (c ++ (d ++ (m ++ (e ++ g)))))
        ≡ a ++ b ++ c ++ (d ++ (m ++ e)) ++ g
    regroup a b c d m e g = simp append_assoc
claim_found NotExtreme c text inner rest (f, middle, reads, (h, shown, c_is)) is rest_is =
    let (within, bytes, subject, inner_is) = function_found inner f middle reads in
    let found = halves_are_printed.found middle rest h shown in
    let P : Claim → Type 0 = λ d. IsBounded d × IsProofText d text in
    subst P (sym c_is) (
      within,
      record {
        has_text = found.1;
        subject = bytes;
        are_subject_lines = subject;
        spelled = is
            ∙ ap (λ t. title_line Whole ++ (word_line NotExtreme ++ t))
            (inner_is ∙ ap (λ t. bytes ++ t) (found.0 ∙ ap (λ t. halves_text h ++ t) rest_is))
            ∙ regroup (title_line Whole) (word_line NotExtreme) bytes (halves_text h) last_line;
      },
    )
  where
    regroup : (a b c d e : List ℕ) → a ++ (b ++ (c ++ (d ++ e))) ≡ a ++ b ++ c ++ d ++ e
    regroup a b c d e = simp append_assoc

pub read_is_text : (c : Claim) (text : List ℕ) → proof_text.Reads text c [] →
    IsBounded c × IsProofText c text
read_is_text c text
    (n, m, title, (d, rest, (w, inner, word, reads), (u, left, end, (c_is, nil, nothing)))) =
    let claimed = only_line (claim_form n) (claim_is_clear n) m inner w word in
    let numbers_are = claimed.1 in
    let (end_words, end_is, rest_is) = line_found (words_rule (codes "end" ∷ [])) rest left u end in
    let whole : text ≡ title_line (numbers_of_word w) ++ (word_line w ++ inner) =
    (only_line title_form title_is_clear text m n title).0
    ∙ ap (λ k. title_line k ++ m) (sym numbers_are)
    ∙ ap (λ t. title_line (numbers_of_word w) ++ t) claimed.0 in
    let last_is : rest ≡ last_line =
    rest_is ∙ ap (λ ws. line (join_with_byte 32 ws) ++ left) end_is
    ∙ ap (λ t. last_line ++ t) nothing ∙ append-nil last_line in
    let P : Claim → Type 0 = λ a. IsBounded a × IsProofText a text in
    subst P (sym c_is) (claim_found w d text inner rest reads whole last_is)

-- the lines of a text, read one after another, are those of a claim
pub lines_read : (text m inner rest behind : List ℕ) (n : Numbers) (w : ClaimWord) (c : Claim) →
    title_part.Reads text n m →
    (word_part n).Reads m w inner → (claim_part w).Reads inner c rest →
    last_part.Reads rest tt behind → behind ≡ [] →
    proof_text.Reads text c []
lines_read text m inner rest behind n w c title word reads end ended =
    (n, m, title, (c, rest, (w, inner, word, reads), (tt, behind, end, (refl, ended, ended))))
