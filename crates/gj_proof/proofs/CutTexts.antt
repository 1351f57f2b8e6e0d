-- The lines of cuts are read as the rows that they spell.
use Rattle.std.proofs.Common.{◌≡◌, ◌≢◌, ℕ, ◌<◌, List, [], ◌∷◌, ◌++◌, All, length, flat_map, codes, refl, sym, ap, subst, ◌∙◌, arith, length-append}
use Rattle.std.proofs.lemmas.List.{append_assoc}
use Rattle.gj_frac.specs.declared.Frac.{Frac}
use Rattle.gj_lex.specs.declared.spelling.Spelling.TheVariants.{Strict}
use Rattle.gj_lex.specs.Name.{IsName}
use Rattle.gj_forms.specs.Parts.{BeginsWithLine, BeginsWithWord, IsExactPart}
use Rattle.gj_forms.proofs.PartLaws.{empty_part_is_exact, then_part_is_exact, made_part_is_exact}
use Rattle.gj_forms.proofs.WhereLaws.{other_word, shorter_behind_line}
use Rattle.gj_forms.specs.LineForms.{line_of, rule_of}
use Rattle.gj_forms.specs.ListParts.{IsPrinted}
use Rattle.gj_forms.proofs.PlainWords.{apart}
use Rattle.gj_forms.proofs.LineLaws.{part_is_exact, line_is_printed, begins_so, begins_not}
use Rattle.gj_forms.proofs.ListLaws.{while_part_is_exact, until_part_is_exact, while_is_printed, until_is_printed, then_is_printed}
use Rattle.gj_proof.specs.ProofText.{HasNames, row_line, term_line, terms_of, row_text}
use Rattle.gj_proof.specs.ProofGrammar.{head_form, term_form, form_part, terms_part, behind_head, row_part, rows_part}
use Rattle.gj_proof.specs.declared.cut.CutLine.{CutLine}
use Rattle.gj_proof.specs.declared.cut.CutLine.TheVariants as cuts
use Rattle.gj_proof.specs.declared.cut.CutTerm.{CutTerm}
use Rattle.gj_proof.specs.declared.cut_rows.RowHead.{RowHead}
use Rattle.gj_proof.specs.declared.cut_rows.RowKind.{RowKind}
use Rattle.gj_proof.specs.declared.cut_rows.RowKind.TheVariants.{WithCut, Skipped}
use Rattle.gj_proof.proofs.ClearLines.{head_is_clear, term_is_clear}
use Rattle.gj_forms.proofs.ListRead.{printed_as}

abbrev pub BeginsTerm : List ℕ → Type 0
BeginsTerm = BeginsWithWord Strict (codes "term")

abbrev pub BeginsEnd : List ℕ → Type 0
BeginsEnd = BeginsWithLine Strict (codes "end" ∷ [])

abbrev EndsTerms : List ℕ → Type 0
EndsTerms rest = BeginsTerm rest → ⊥

-- ---- they are exact

terms_are_exact : IsExactPart terms_part.Reads terms_part.Faults
terms_are_exact = while_part_is_exact BeginsTerm (form_part term_form)
    (part_is_exact term_form term_is_clear) []

behind_is_exact : (name : List ℕ) (right : Frac) (k : RowKind) →
    IsExactPart (behind_head name right k).Reads (behind_head name right k).Faults
behind_is_exact name right WithCut =
    made_part_is_exact (λ (terms : List CutTerm) l. l ≡ cuts.Cut name right terms)
    (λ terms l m h k. h ∙ sym k) terms_part terms_are_exact
behind_is_exact name right (Skipped r) = empty_part_is_exact (cuts.Skip name right r)

row_is_exact : IsExactPart row_part.Reads row_part.Faults
row_is_exact =
    then_part_is_exact (form_part head_form) (λ h. behind_head h.name h.right h.kind)
    (part_is_exact head_form head_is_clear)
    (λ h. behind_is_exact h.name h.right h.kind)

pub rows_are_exact : IsExactPart rows_part.Reads rows_part.Faults
rows_are_exact = until_part_is_exact BeginsEnd row_part row_is_exact []

-- less is left behind a row
pub shorter_behind_row : (text rest : List ℕ) (l : CutLine) → row_part.Reads text l rest →
    length rest < length text
shorter_behind_row text rest l (h, middle, head, more) =
    let less = shorter_behind_line Strict (rule_of head_form) text middle h head in
    let ends = (behind_is_exact h.name h.right h.kind).rest_ends middle l rest more in
    omega (arith, ap length ends.1, length-append ends.0 rest)

-- ---- they are read as they are printed

terms_are_printed : IsPrinted terms_part EndsTerms (flat_map term_line) (All (λ t. IsName t.name))
terms_are_printed =
    while_is_printed BeginsTerm (form_part term_form) (λ rest. Unit {0}) term_line term_form.HasLine
    (line_is_printed term_form term_is_clear) (λ t rest h. tt)
    (λ t rest h. begins_so term_form term_is_clear t (codes "term") _ rest h refl) (λ rest h. tt)

-- what the first line of a row tells
abbrev pub head_of : CutLine → RowHead
head_of (cuts.Cut name right terms) = record { kind = WithCut; name = name; right = right }
head_of (cuts.Skip name right reason) = record { kind = Skipped reason; name = name; right = right }

abbrev terms_text : CutLine → List ℕ
terms_text l = flat_map term_line (terms_of l)

pub has_name : (l : CutLine) → HasNames l → IsName (head_of l).name
has_name (cuts.Cut name right terms) h = h.0
has_name (cuts.Skip name right r) h = h

behind_reads : (l : CutLine) (rest : List ℕ) → HasNames l → EndsTerms rest →
    (behind_head (head_of l).name (head_of l).right (head_of l).kind).Reads
    (terms_text l ++ rest) l rest
behind_reads (cuts.Cut name right terms) rest h ends =
    (terms, terms_are_printed.reads terms rest h.1 ends, refl)
behind_reads (cuts.Skip name right r) rest h ends = (refl, refl)

behind_found : (k : RowKind) (name : List ℕ) (right : Frac) (text rest : List ℕ) (l : CutLine) →
    IsName name →
    (behind_head name right k).Reads text l rest →
    (text ≡ terms_text l ++ rest)
    × (◌≡◌ {A = RowHead} (record { kind = k; name = name; right = right }) (head_of l))
    × HasNames l
behind_found WithCut name right text rest l h (terms, reads, is) =
    let found = terms_are_printed.found text rest terms reads in
    let head : RowHead = record { kind = WithCut; name = name; right = right } in
    let P : CutLine → Type 0 = λ m. (text ≡ terms_text m ++ rest) × (head ≡ head_of m)
    × HasNames m in
    subst P (sym is) (found.0, refl, (h, found.1))
behind_found (Skipped r) name right text rest l h (is, same) =
    let head : RowHead = record { kind = Skipped r; name = name; right = right } in
    let P : CutLine → Type 0 = λ m. (text ≡ terms_text m ++ rest) × (head ≡ head_of m)
    × HasNames m in
    subst P (sym is) (same, refl, h)

-- a row begins with another word than a term and the end
begins_other : (l : CutLine) (v : List ℕ) (rest : List ℕ) → HasNames l → codes "cut" ≢ v →
    codes "skip" ≢ v →
    BeginsWithWord Strict v (row_text l ++ rest) → ⊥
begins_other (cuts.Cut name right terms) v rest h cut skip is =
    let l = cuts.Cut name right terms in
    begins_not head_form head_is_clear (head_of l) (codes "cut") v _
    (terms_text l ++ rest) h.0 refl cut
    (subst (BeginsWithWord Strict v) (append_assoc (row_line l) (terms_text l) rest) is)
begins_other (cuts.Skip name right r) v rest h cut skip is =
    let l = cuts.Skip name right r in
    begins_not head_form head_is_clear (head_of l) (codes "skip") v _
    (terms_text l ++ rest) h refl skip
    (subst (BeginsWithWord Strict v) (append_assoc (row_line l) (terms_text l) rest) is)

ends_at_row : (l : CutLine) (rest : List ℕ) → HasNames l → EndsTerms (row_text l ++ rest)
ends_at_row l rest h =
    begins_other l (codes "term") rest h (apart (codes "cut") (codes "term") refl)
    (apart (codes "skip") (codes "term") refl)

row_is_printed : IsPrinted row_part EndsTerms row_text HasNames
row_is_printed =
    printed_as row_part EndsTerms (λ l. line_of head_form (head_of l) ++ terms_text l) row_text
    HasNames
    (then_is_printed (form_part head_form) (λ h. behind_head h.name h.right h.kind)
    (λ rest. Unit {0}) EndsTerms (line_of head_form)
    head_form.HasLine HasNames head_of terms_text (line_is_printed head_form head_is_clear) has_name
    (λ l rest h e. tt) behind_reads
    (λ h text rest l has reads. behind_found h.kind h.name h.right text rest l has reads))
    same
  where
    same : (l : CutLine) → line_of head_form (head_of l) ++ terms_text l ≡ row_text l
    same (cuts.Cut name right terms) = refl
    same (cuts.Skip name right reason) = refl

pub rows_are_printed : IsPrinted rows_part BeginsEnd (flat_map row_text) (All HasNames)
rows_are_printed =
    until_is_printed BeginsEnd row_part EndsTerms row_text HasNames row_is_printed ends_at_row
    (λ l rest h e. begins_other l (codes "end") rest h (apart (codes "cut") (codes "end") refl)
    (apart (codes "skip") (codes "end") refl) ([], e))
    (λ rest e. other_word Strict rest _ _ (codes "term") _ e.2 (λ more is. cc))
