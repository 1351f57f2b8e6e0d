-- The texts that the part `limit_proof_text` reads are the proof texts of claims.
use Rattle.std.proofs.Common.{◌≡◌, inl, inr, ℕ, List, [], ◌∷◌, ◌++◌, flat_map, codes, refl, sym, ap, subst, ◌∙◌}
use Rattle.std.specs.List.{join_with_byte}
use Rattle.std.proofs.lemmas.List.{append_assoc, append-nil}
use Rattle.gj_lex.specs.declared.spelling.Spelling.TheVariants.{Strict}
use Rattle.gj_forms.specs.LineForms.{bytes_of}
use Rattle.gj_forms.specs.Parts.{Part, BeginsWithLine, words_rule, line_part, then_part, made_part, end_part, IsExactPart}
use Rattle.gj_forms.proofs.CanonicalLines.{plain_by_test}
use Rattle.gj_forms.proofs.LineLaws.{part_is_exact, line_is_read, only_line}
use Rattle.gj_forms.proofs.PartLaws.{line_part_is_exact, words_rule_is_exact, then_part_is_exact, then_read_is_exact, made_part_is_exact, end_part_is_exact}
use Rattle.gj_forms.proofs.PlainWords.{apart}
use Rattle.gj_forms.proofs.WhereLaws.{where_part_is_exact, other_line, other_word, begins_so}
use Rattle.gj_shape.specs.FunctionData.{FunctionData}
use Rattle.gj_shape.specs.declared.extremality.CoverLine.{CoverLine}
use Rattle.gj_shape.specs.declared.extremality.LimitHalves.{LimitHalves}
use Rattle.gj_function_lines.specs.FaceLines.{cover_line}
use Rattle.gj_function_lines.specs.FunctionGrammar.{function_part}
use Rattle.gj_function_lines.specs.FunctionLines.{line}
use Rattle.gj_function_lines.proofs.CanonicalFunctions.{canonical_lines_are_read}
use Rattle.gj_function_lines.proofs.ExactFunctions.{function_part_is_exact}
use Rattle.gj_function_lines.proofs.FunctionRead.{within_bounds}
use Rattle.gj_proof.specs.ProofGrammar.{form_part, covered_part}
use Rattle.gj_proof.specs.ProofText.{claim_fields, modulus_text}
use Rattle.gj_proof.specs.declared.numbers.Numbers.{Numbers}
use Rattle.gj_proof.proofs.CutTexts.{BeginsEnd}
use Rattle.gj_proof.proofs.ExtremeTexts.{covered_is_exact, covered_is_printed}
use Rattle.gj_proof.proofs.ReadTexts.{last_part, function_found}
use Rattle.gj_proof.proofs.StrictParts.{line_reads, line_found}
use Rattle.gj_limit_proof.specs.LimitGrammar.{title_form, numbers_part, groups_part, extreme_part, halves_part, not_extreme_part, claim_part, limit_proof_text}
use Rattle.gj_limit_proof.specs.LimitText.{IsBounded, title_fields, claim_word, group_text, halves_text, IsLimitProofText}
use Rattle.gj_limit_proof.specs.declared.claim.LimitClaim.{LimitClaim}
use Rattle.gj_limit_proof.specs.declared.claim.LimitClaim.TheVariants.{Extreme, NotExtreme}
use Rattle.gj_limit_proof.specs.declared.claim.LimitPivotRow.{LimitPivotRow}
use Rattle.gj_limit_proof.proofs.GroupTexts.{BeginsModulus, numbers_are_exact, numbers_are_printed, groups_are_exact, groups_are_printed, no_modulus_line}
use Rattle.gj_limit_proof.proofs.HalvesTexts.{halves_are_exact, halves_are_printed}
use Rattle.gj_limit_proof.proofs.LimitForms.{title_is_clear}

-- ---- the parts of a proof text

abbrev pub title_part : Part (Unit {0})
title_part = form_part title_form

abbrev pub extreme_words : List (List ℕ)
extreme_words = codes "claim" ∷ codes "extreme" ∷ []

abbrev pub not_extreme_words : List (List ℕ)
not_extreme_words = codes "claim" ∷ codes "not-extreme" ∷ []

-- the line of these words
abbrev pub words_part : List (List ℕ) → Part (Unit {0})
words_part words = line_part Strict (words_rule words)

abbrev pub BeginsNotExtreme : List ℕ → Type 0
BeginsNotExtreme = BeginsWithLine Strict not_extreme_words

abbrev pub named_not_extreme : Part LimitClaim
named_not_extreme = then_part (words_part not_extreme_words) (λ t. not_extreme_part)

abbrev pub named_extreme : Part LimitClaim
named_extreme = then_part (words_part extreme_words) (λ t. extreme_part)

-- what follows the numbers of rows, the lines of covered intervals, and the function
abbrev pub makes_extreme : FunctionData → List CoverLine → Numbers → List LimitPivotRow →
    LimitClaim → Type 0
makes_extreme f lines numbers rows c = c ≡ Extreme numbers f lines rows

abbrev pub behind_numbers : FunctionData → List CoverLine → Numbers → Part LimitClaim
behind_numbers f lines numbers = made_part (makes_extreme f lines numbers) (groups_part f.order)

abbrev pub behind_cover : FunctionData → List CoverLine → Part LimitClaim
behind_cover f lines = then_part numbers_part (behind_numbers f lines)

abbrev pub behind_function : FunctionData → Part LimitClaim
behind_function f = then_part (covered_part f.order) (behind_cover f)

-- what follows the function of a claim that it is not extreme
abbrev pub makes_not_extreme : FunctionData → LimitHalves → LimitClaim → Type 0
makes_not_extreme f h c = c ≡ NotExtreme f h

abbrev pub behind_subject : FunctionData → Part LimitClaim
behind_subject f = made_part (makes_not_extreme f) halves_part

-- what follows the claim, and what follows the title
abbrev pub after_claim : LimitClaim → Part LimitClaim
after_claim c = then_part last_part (λ u. end_part Strict c)

abbrev pub after_title : Part LimitClaim
after_title = then_part claim_part after_claim

-- ---- each is exact

words_are_exact : (words : List (List ℕ)) →
    IsExactPart (words_part words).Reads (words_part words).Faults
words_are_exact words = line_part_is_exact Strict (words_rule words) (words_rule_is_exact words)

extreme_is_exact : IsExactPart extreme_part.Reads extreme_part.Faults
extreme_is_exact =
    then_read_is_exact (function_part Strict) behind_function (function_part_is_exact Strict)
    (λ text f m h.
    let small = (within_bounds Strict text f m h).order_high in
    then_part_is_exact (covered_part f.order) (behind_cover f) (covered_is_exact f.order small)
    (λ lines. then_part_is_exact numbers_part (behind_numbers f lines) numbers_are_exact
    (λ numbers. made_part_is_exact (makes_extreme f lines numbers) (λ rows c d h k. h ∙ sym k)
    (groups_part f.order)
    (groups_are_exact f.order small))))

not_extreme_is_exact : IsExactPart not_extreme_part.Reads not_extreme_part.Faults
not_extreme_is_exact =
    then_part_is_exact (function_part Strict) behind_subject (function_part_is_exact Strict)
    (λ f. made_part_is_exact (makes_not_extreme f)
    (λ h c d k l. k ∙ sym l) halves_part halves_are_exact)

claim_is_exact : IsExactPart claim_part.Reads claim_part.Faults
claim_is_exact =
    where_part_is_exact BeginsNotExtreme named_not_extreme named_extreme
    (then_part_is_exact (words_part not_extreme_words) (λ t. not_extreme_part)
    (words_are_exact not_extreme_words) (λ t. not_extreme_is_exact))
    (then_part_is_exact (words_part extreme_words) (λ t. extreme_part)
    (words_are_exact extreme_words) (λ t. extreme_is_exact))

pub limit_text_is_exact : IsExactPart limit_proof_text.Reads limit_proof_text.Faults
limit_text_is_exact =
    then_part_is_exact title_part (λ t. after_title) (part_is_exact title_form title_is_clear)
    (λ t. then_part_is_exact claim_part after_claim claim_is_exact
    (λ c. then_part_is_exact last_part (λ u. end_part Strict c) (words_are_exact (codes "end" ∷ []))
    (λ u. end_part_is_exact Strict c)))

-- ---- the lines as bytes

abbrev pub title_line : List ℕ
title_line = bytes_of title_fields

abbrev pub claim_line : LimitClaim → List ℕ
claim_line c = bytes_of (claim_fields (claim_word c))

abbrev last_line : List ℕ
last_line = line (codes "end")

last_reads : last_part.Reads last_line tt []
last_reads =
    line_reads (words_rule (codes "end" ∷ [])) last_line [] (codes "end" ∷ []) tt (λ e. cc)
    (plain_by_test (codes "end" ∷ []) refl) refl (sym (append-nil last_line))

end_begins : BeginsEnd last_line
end_begins = begins_so Strict last_line [] (codes "end" ∷ []) last_reads

-- the line of the end begins with no line of the modulus
no_modulus_at_end : BeginsModulus last_line → ⊥
no_modulus_at_end =
    let (start, words, line, spelled) = last_reads in
    other_word Strict last_line start words (codes "modulus") [] line
    (λ more e.
    let both : codes "end" ∷ [] ≡ codes "modulus" ∷ more = sym spelled ∙ e in
    apart (codes "end") (codes "modulus") refl (cc))

-- the line of the claim's word
extreme_reads : (rest : List ℕ) →
    (words_part extreme_words).Reads (line (codes "claim extreme") ++ rest) tt rest
extreme_reads rest =
    line_reads (words_rule extreme_words) (line (codes "claim extreme") ++ rest) rest extreme_words
    tt (λ e. cc)
    (plain_by_test extreme_words refl) refl refl

not_extreme_reads : (rest : List ℕ) →
    (words_part not_extreme_words).Reads (line (codes "claim not-extreme") ++ rest) tt rest
not_extreme_reads rest =
    line_reads (words_rule not_extreme_words) (line (codes "claim not-extreme") ++ rest) rest
    not_extreme_words tt (λ e. cc)
    (plain_by_test not_extreme_words refl) refl refl

pub other_claim : (text rest : List ℕ) → (words_part extreme_words).Reads text tt rest →
    BeginsNotExtreme text → ⊥
other_claim text rest (start, words, line, spelled) =
    other_line Strict text start words not_extreme_words rest line
    (λ e.
    let both : extreme_words ≡ not_extreme_words = sym spelled ∙ e in
    apart (codes "extreme") (codes "not-extreme") refl (cc))

-- ---- a text of a claim is read as the claim

-- the claim is read, and so is the whole
whole_reads : (c : LimitClaim) (inner text : List ℕ) → claim_part.Reads inner c last_line →
    text ≡ title_line ++ inner →
    limit_proof_text.Reads text c []
whole_reads c inner text reads is =
    let whole : limit_proof_text.Reads (title_line ++ inner) c [] = (
      tt,
      inner,
      line_is_read title_form title_is_clear tt inner tt,
      (c, last_line, reads, (tt, [], last_reads, (refl, refl, refl))),
    ) in
    subst (λ t. limit_proof_text.Reads t c []) (sym is) whole

pub text_is_read : (c : LimitClaim) (text : List ℕ) → IsBounded c → IsLimitProofText c text →
    limit_proof_text.Reads text c []
text_is_read (Extreme numbers f lines rows) text b p =
    let groups = flat_map group_text rows ++ last_line in
    let behind = flat_map cover_line lines ++ (modulus_text numbers ++ groups) in
    let inner = line (codes "claim extreme") ++ (p.subject ++ behind) in
    let first = extreme_reads (p.subject ++ behind) in
    let small = b.order_high in
    let has = p.has_text in
    let other = no_modulus_line f.order small rows last_line has.rows_below no_modulus_at_end in
    let reads : extreme_part.Reads (p.subject ++ behind) (Extreme numbers f lines rows) last_line = (
      f,
      behind,
      canonical_lines_are_read Strict f p.subject behind b p.are_function_lines,
      (
        lines,
        modulus_text numbers ++ groups,
        (covered_is_printed f.order small).reads lines (modulus_text numbers ++ groups)
            (has.count, has.lines_below) tt,
        (
          numbers,
          groups,
          numbers_are_printed.reads numbers groups tt other,
          (
            rows,
            (groups_are_printed f.order small).reads rows last_line has.rows_below end_begins,
            refl,
          ),
        ),
      ),
    ) in
    whole_reads (Extreme numbers f lines rows) inner text
    (inr (other_claim inner (p.subject ++ behind) first, (tt, p.subject ++ behind, first, reads)))
    (p.spelled
    ∙ regroup title_line (line (codes "claim extreme")) p.subject (flat_map cover_line lines)
    (modulus_text numbers)
    (flat_map group_text rows) last_line)
  where
    regroup : (a b c d m e g : List ℕ) →
        a ++ b ++ c ++ (d ++ (m ++ e)) ++ g ≡ a ++ (b ++ (c ++ (d ++ (m ++ (e ++ g)))))
    regroup a b c d m e g = simp append_assoc
text_is_read (NotExtreme f h) text b p =
    let behind = halves_text h ++ last_line in
    let inner = line (codes "claim not-extreme") ++ (p.subject ++ behind) in
    let first = not_extreme_reads (p.subject ++ behind) in
    let reads : not_extreme_part.Reads (p.subject ++ behind) (NotExtreme f h) last_line = (
      f,
      behind,
      canonical_lines_are_read Strict f p.subject behind b p.are_function_lines,
      (h, halves_are_printed.reads h last_line p.has_text tt, refl),
    ) in
    whole_reads (NotExtreme f h) inner text
    (inl (
      begins_so Strict inner (p.subject ++ behind) not_extreme_words first,
      (tt, p.subject ++ behind, first, reads),
    ))
    (p.spelled ∙ regroup title_line (line (codes "claim not-extreme")) p.subject
    (halves_text h) last_line)
  where
    regroup : (a b c d e : List ℕ) → a ++ b ++ c ++ d ++ e ≡ a ++ (b ++ (c ++ (d ++ e)))
    regroup a b c d e = simp append_assoc

-- ---- what is read is the text of a claim

-- the text of a claim, behind the line of its word
pub record ClaimFound (c : LimitClaim) (inner rest : List ℕ) : Type 0 where
  pub bounded : IsBounded c
  pub text : (whole : List ℕ) → whole ≡ title_line ++ (claim_line c ++ inner) → rest ≡ last_line →
      IsLimitProofText c whole

extreme_found : (c : LimitClaim) (inner rest : List ℕ) → extreme_part.Reads inner c rest →
    ClaimFound c inner rest × (claim_line c ≡ line (codes "claim extreme"))
extreme_found c inner rest
    (f, middle, reads, (lines, behind, covered, (numbers, groups, named, (rows, more, c_is)))) =
    let (within, function, subject, inner_is) = function_found inner f middle reads in
    let small = within.order_high in
    let cover = (covered_is_printed f.order small).found middle behind lines covered in
    let modulus = numbers_are_printed.found behind groups numbers named in
    let found = (groups_are_printed f.order small).found groups rest rows more in
    let P : LimitClaim → Type 0 = λ d. ClaimFound d inner rest
    × (claim_line d ≡ line (codes "claim extreme")) in
    let own : middle ≡ flat_map cover_line lines
    ++ (modulus_text numbers ++ (flat_map group_text rows ++ rest)) =
    cover.0 ∙ ap (λ t. flat_map cover_line lines ++ t)
    (modulus.0 ∙ ap (λ u. modulus_text numbers ++ u) found.0) in
    subst P (sym c_is) (
      record {
        bounded = within;
        text = λ whole is rest_is. record {
          has_text = record { count = cover.1.0; lines_below = cover.1.1; rows_below = found.1 };
          subject = function;
          are_function_lines = subject;
          spelled = is
              ∙ ap (λ t. title_line ++ (line (codes "claim extreme") ++ t))
              (inner_is ∙ ap (λ t. function ++ t) own)
              ∙ ap (λ r. title_line
              ++ (line (codes "claim extreme") ++ (function ++ (flat_map cover_line lines
              ++ (modulus_text numbers ++ (flat_map group_text rows ++ r)))))) rest_is
              ∙ regroup title_line (line (codes "claim extreme")) function
              (flat_map cover_line lines) (modulus_text numbers)
              (flat_map group_text rows) last_line;
        };
      },
      refl,
    )
  where
    regroup : (a b c d m e g : List ℕ) → a ++ (b ++ (c ++ (d ++ (m ++ (e ++ g)))))
        ≡ a ++ b ++ c ++ (d ++ (m ++ e)) ++ g
    regroup a b c d m e g = simp append_assoc

not_extreme_found : (c : LimitClaim) (inner rest : List ℕ) → not_extreme_part.Reads inner c rest →
    ClaimFound c inner rest × (claim_line c ≡ line (codes "claim not-extreme"))
not_extreme_found c inner rest (f, middle, reads, (h, shown, c_is)) =
    let (within, bytes, subject, inner_is) = function_found inner f middle reads in
    let found = halves_are_printed.found middle rest h shown in
    let P : LimitClaim → Type 0 = λ d. ClaimFound d inner rest
    × (claim_line d ≡ line (codes "claim not-extreme")) in
    subst P (sym c_is) (
      record {
        bounded = within;
        text = λ whole is rest_is. record {
          has_text = found.1;
          subject = bytes;
          are_function_lines = subject;
          spelled = is
              ∙ ap (λ t. title_line ++ (line (codes "claim not-extreme") ++ t))
              (inner_is ∙ ap (λ t. bytes ++ t) (found.0 ∙ ap (λ t. halves_text h ++ t) rest_is))
              ∙ regroup title_line (line (codes "claim not-extreme")) bytes
              (halves_text h) last_line;
        };
      },
      refl,
    )
  where
    regroup : (a b c d e : List ℕ) → a ++ (b ++ (c ++ (d ++ e))) ≡ a ++ b ++ c ++ d ++ e
    regroup a b c d e = simp append_assoc

-- a claim behind the line of its word
named_found : (words : List (List ℕ)) (c : LimitClaim) (text inner rest : List ℕ) (t : Unit {0}) →
    (words_part words).Reads text t inner →
    ClaimFound c inner rest × (claim_line c ≡ line (join_with_byte 32 words)) → IsBounded c
    × ((whole : List ℕ) → whole ≡ title_line ++ text → rest ≡ last_line → IsLimitProofText c whole)
named_found words c text inner rest t named found =
    let (read, same, spelled) = line_found (words_rule words) text inner t named in
    let text_is : text ≡ claim_line c ++ inner =
    spelled ∙ ap (λ ws. line (join_with_byte 32 ws) ++ inner) same
    ∙ ap (λ l. l ++ inner) (sym found.1) in (
      found.0.bounded,
      λ whole is rest_is. found.0.text whole
          (is ∙ ap (λ u. title_line ++ u) text_is) rest_is,
    )

claim_found : (c : LimitClaim) (text rest : List ℕ) → claim_part.Reads text c rest → IsBounded c
    × ((whole : List ℕ) → whole ≡ title_line ++ text → rest ≡ last_line → IsLimitProofText c whole)
claim_found c text rest (inl (is, (t, inner, named, more))) =
    named_found not_extreme_words c text inner rest t named (not_extreme_found c inner rest more)
claim_found c text rest (inr (not, (t, inner, named, more))) =
    named_found extreme_words c text inner rest t named (extreme_found c inner rest more)

pub read_is_text : (c : LimitClaim) (text : List ℕ) → limit_proof_text.Reads text c [] →
    IsBounded c × IsLimitProofText c text
read_is_text c text (t, m, title, (d, rest, claimed, (u, left, end, (c_is, nil, nothing)))) =
    let (end_words, end_is, rest_is) = line_found (words_rule (codes "end" ∷ [])) rest left u end in
    let last_is : rest ≡ last_line =
    rest_is ∙ ap (λ ws. line (join_with_byte 32 ws) ++ left) end_is
    ∙ ap (λ l. last_line ++ l) nothing ∙ append-nil last_line in
    let found = claim_found d m rest claimed in
    let P : LimitClaim → Type 0 = λ a. IsBounded a × IsLimitProofText a text in
    subst P (sym c_is) (
      found.0,
      found.1 text (only_line title_form title_is_clear text m t title).0
          last_is,
    )

-- the lines of a text, read one after another, are those of a claim
pub lines_read : (text m rest behind : List ℕ) (c : LimitClaim) → title_part.Reads text tt m →
    claim_part.Reads m c rest →
    last_part.Reads rest tt behind → behind ≡ [] → limit_proof_text.Reads text c []
lines_read text m rest behind c title reads end ended =
    (tt, m, title, (c, rest, reads, (tt, behind, end, (refl, ended, ended))))
