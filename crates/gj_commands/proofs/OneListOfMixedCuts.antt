-- A text of mixed cuts spells one list of them.
use Rattle.std.proofs.Common.{◌≡◌, ◌≢◌, ℕ, List, [], ◌∷◌, ◌++◌, All, map, flat_map, codes, refl, sym, ap, ap₂, ◌∙◌, arith}
use Rattle.std.proofs.lemmas.Grind.{flat_map-append}
use Rattle.std.proofs.lemmas.List.{append_assoc, append-nil}
use Rattle.std.proofs.lemmas.List.Elements.{All-nil, All-cons, All-head, All-tail, All-append, All-map}
use Rattle.gj_frac.specs.declared.Frac.{Frac}
use Rattle.gj_lex.specs.Name.{IsName}
use Rattle.gj_forms.specs.LineForms.{Field, LineForm, words_of, first_of, others_of, line_of}
use Rattle.gj_forms.specs.LineForms.Field.{word, fraction}
use Rattle.gj_forms.proofs.FieldWords.{AreGood, head_and_tail}
use Rattle.gj_forms.proofs.LineLaws.{IsClear, same_lines}
use Rattle.gj_forms.proofs.PlainWords.{apart, known, name_is_plain}
use Rattle.gj_proof.specs.ProofText.{HasNames, row_fields, row_line, term_fields, term_line, terms_of}
use Rattle.gj_proof.specs.declared.cut.CutLine.{CutLine}
use Rattle.gj_proof.specs.declared.cut.CutLine.TheVariants as cuts
use Rattle.gj_proof.specs.declared.cut.CutTerm.{CutTerm}
use Rattle.gj_proof.specs.declared.cut.SkipReason.{SkipReason}
use Rattle.gj_proof.proofs.ClearLines.{head_is_clear, term_is_clear}
use Rattle.gj_proof.proofs.CutTexts.{head_of}
use Rattle.gj_proof.proofs.OwnLines.{names_of_terms}
use Rattle.gj_cut_text.specs.MixedLines.{mixed_row_text, weight_line}
use Rattle.gj_cut_text.specs.declared.mixed_lines.MixedLine.{MixedLine}
use Rattle.gj_cut_text.proofs.NamedTerms.{weight_lines_are}
use Rattle.gj_commands.specs.MixedNames.{HasMixedNames}

-- ---- lines as data

data MixedPart : Type 0 where
  cut : List ℕ → Frac → MixedPart
  skip : List ℕ → Frac → SkipReason → MixedPart
  term : CutTerm → MixedPart
  weight : CutTerm → MixedPart

abbrev fields_of : MixedPart → List Field
fields_of (cut name right) = row_fields (cuts.Cut name right [])
fields_of (skip name right r) = row_fields (cuts.Skip name right r)
fields_of (term t) = term_fields t
fields_of (weight t) = word (codes "weight") ∷ word t.name ∷ fraction t.entry ∷ fraction t.cut ∷ []

abbrev HasName : MixedPart → Type 0
HasName (cut name right) = IsName name
HasName (skip name right r) = IsName name
HasName (term t) = IsName t.name
HasName (weight t) = IsName t.name

abbrev part_form : LineForm MixedPart
part_form = record { fields = fields_of; HasForm = HasName; HasLine = HasName }

abbrev line_bytes : MixedPart → List ℕ
line_bytes = line_of part_form

-- the first line of a row
abbrev first_part : CutLine → MixedPart
first_part (cuts.Cut name right terms) = cut name right
first_part (cuts.Skip name right r) = skip name right r

-- the lines of a row, in their order
abbrev parts_of : MixedLine → List MixedPart
parts_of m = first_part m.line ∷ (map term (terms_of m.line) ++ map weight m.weights)

-- ---- the words of a line tell it

-- its first word
abbrev head : MixedPart → List ℕ
head (cut name right) = codes "cut"
head (skip name right r) = codes "skip"
head (term t) = codes "term"
head (weight t) = codes "weight"

good : (l : MixedPart) → HasName l → AreGood (fields_of l)
good (cut name right) h = head_is_clear.good (head_of (cuts.Cut name right [])) h
good (skip name right r) h = head_is_clear.good (head_of (cuts.Skip name right r)) h
good (term t) h = term_is_clear.good t h
good (weight t) h = (known (codes "weight") refl, (name_is_plain t.name h, (tt, tt)))

one : (a b : MixedPart) → HasName a → HasName b → words_of (fields_of a) ≡ words_of (fields_of b) →
    a ≡ b
one (cut n x) (cut m y) h k e =
    let same = head_is_clear.one (head_of (cuts.Cut n x [])) (head_of (cuts.Cut m y [])) h k e in
    λ i. cut (same i).name (same i).right
one (skip n x r) (skip m y s) h k e =
    let same = head_is_clear.one (head_of (cuts.Skip n x r)) (head_of (cuts.Skip m y s)) h k e in
    let kind = ap (λ h. h.kind) same in
    let why : r ≡ s = cc in
    λ i. skip (same i).name (same i).right (why i)
one (term t) (term u) h k e = ap term (term_is_clear.one t u h k e)
one (weight t) (weight u) h k e =
    ap weight (term_is_clear.one t u h k (ap (λ ws. codes "term" ∷ others_of ws) e))
one a b h k e = absurd (apart (head a) (head b) refl (ap first_of e))

part_is_clear : IsClear part_form
part_is_clear = record { of_form = λ a h. h; good = good; one = one }

-- ---- lines tell cuts

-- what a line is of: a row, a term or a weight
abbrev place : MixedPart → ℕ
place (cut name right) = 0
place (skip name right r) = 0
place (term t) = 1
place (weight t) = 2

-- what the next line is of; at the end as before a row
abbrev next : List MixedPart → ℕ
next [] = 0
next (l ∷ ls) = place l

one_term : (t u : CutTerm) → term t ≡ term u → t ≡ u
one_term t u e = cc

one_weight : (t u : CutTerm) → weight t ≡ weight u → t ≡ u
one_weight t u e = cc

module _ (make : CutTerm → MixedPart) (n : ℕ) (is : (t : CutTerm) → place (make t) ≡ n)
    (one_made : (t u : CutTerm) → make t ≡ make u → t ≡ u) where
  same_terms : (ts us : List CutTerm) (xs ys : List MixedPart) → next xs ≢ n → next ys ≢ n →
      map make ts ++ xs ≡ map make us ++ ys →
      (ts ≡ us) × (xs ≡ ys)
  same_terms [] [] xs ys start end e = (refl, e)
  same_terms [] (u ∷ us) xs ys start end e = absurd (start (ap next e ∙ is u))
  same_terms (t ∷ ts) [] xs ys start end e = absurd (end (ap next (sym e) ∙ is t))
  same_terms (t ∷ ts) (u ∷ us) xs ys start end e =
      let both = head_and_tail (make t) (make u) (map make ts ++ xs) (map make us ++ ys) e in
      let rest = same_terms ts us xs ys start end both.1 in
      (ap₂ (λ k ks. k ∷ ks) (one_made t u both.0) rest.0, rest.1)

place_of_first : (l : CutLine) → place (first_part l) ≡ 0
place_of_first (cuts.Cut name right terms) = refl
place_of_first (cuts.Skip name right r) = refl

begins_anew : (ms : List MixedLine) → next (flat_map parts_of ms) ≡ 0
begins_anew [] = refl
begins_anew (m ∷ ms) = place_of_first m.line

no_term_first : (ws : List CutTerm) (ms : List MixedLine) →
    next (map weight ws ++ flat_map parts_of ms) ≢ 1
no_term_first [] ms e = omega (arith, begins_anew ms, e)
no_term_first (w ∷ ws) ms e = omega (arith, e)

no_weight_first : (ms : List MixedLine) → next (flat_map parts_of ms) ≢ 2
no_weight_first ms e = omega (arith, begins_anew ms, e)

one_cut : (l m : CutLine) → first_part l ≡ first_part m → terms_of l ≡ terms_of m → l ≡ m
one_cut (cuts.Cut name right terms) (cuts.Cut other value named) e f =
    let same : name ≡ other = cc in
    let number : right ≡ value = cc in
    λ i. cuts.Cut (same i) (number i) (f i)
one_cut (cuts.Skip name right r) (cuts.Skip other value s) e f =
    let same : name ≡ other = cc in
    let number : right ≡ value = cc in
    let why : r ≡ s = cc in
    λ i. cuts.Skip (same i) (number i) (why i)
one_cut (cuts.Cut name right terms) (cuts.Skip other value s) e f = absurd cc
one_cut (cuts.Skip name right r) (cuts.Cut other value named) e f = absurd cc

same_cuts : (ms ns : List MixedLine) → flat_map parts_of ms ≡ flat_map parts_of ns → ms ≡ ns
same_cuts [] [] e = refl
same_cuts [] (n ∷ ns) e = absurd cc
same_cuts (m ∷ ms) [] e = absurd cc
same_cuts (m ∷ ms) (n ∷ ns) e =
    let later = flat_map parts_of ms in
    let others = flat_map parts_of ns in
    let both = head_and_tail (first_part m.line) (first_part n.line)
    ((map term (terms_of m.line) ++ map weight m.weights) ++ later)
    ((map term (terms_of n.line) ++ map weight n.weights) ++ others) e in
    let behind = sym (append_assoc (map term (terms_of m.line)) (map weight m.weights) later)
    ∙ both.1
    ∙ append_assoc (map term (terms_of n.line)) (map weight n.weights) others in
    let terms = same_terms term 1 (λ t. refl) one_term (terms_of m.line) (terms_of n.line)
    (map weight m.weights ++ later)
    (map weight n.weights ++ others) (no_term_first m.weights ms)
    (no_term_first n.weights ns) behind in
    let weights = same_terms weight 2 (λ t. refl) one_weight m.weights n.weights later others
    (no_weight_first ms) (no_weight_first ns) terms.1 in
    let line = one_cut m.line n.line both.0 terms.0 in
    ap₂ (λ (k : MixedLine) ks. k ∷ ks)
    (ap₂ (λ l ws. record { line = l; weights = ws }) line weights.0) (same_cuts ms ns weights.1)

-- ---- the text has the bytes of the lines

bytes_are : (line : CutTerm → List ℕ) (make : CutTerm → MixedPart) →
    ((t : CutTerm) → line t ≡ line_bytes (make t)) → (ts : List CutTerm) →
    flat_map line ts ≡ flat_map line_bytes (map make ts)
bytes_are line make same [] = refl
bytes_are line make same (t ∷ ts) =
    ap₂ (λ (s u : List ℕ). s ++ u) (same t) (bytes_are line make same ts)

first_is : (l : CutLine) → row_line l ≡ line_bytes (first_part l)
first_is (cuts.Cut name right terms) = refl
first_is (cuts.Skip name right r) = refl

weight_is : (t : CutTerm) → weight_line t ≡ line_bytes (weight t)
weight_is t =
    sym (append-nil (weight_line t))
    ∙ sym (weight_lines_are (t.name ∷ [])
    (record { column = 0; entry = t.entry; cut = t.cut } ∷ []))
    ∙ append-nil (line_bytes (weight t))

cut_is : (m : MixedLine) → mixed_row_text m ≡ flat_map line_bytes (parts_of m)
cut_is m =
    let terms = terms_of m.line in
    append_assoc (row_line m.line) (flat_map term_line terms) (flat_map weight_line m.weights)
    ∙ ap₂ (λ (s t : List ℕ). s ++ t) (first_is m.line)
    (ap₂ (λ (s t : List ℕ). s ++ t) (bytes_are term_line term (λ t. refl) terms)
    (bytes_are weight_line weight weight_is m.weights)
    ∙ sym (flat_map-append line_bytes (map term terms) (map weight m.weights)))

text_is : (ms : List MixedLine) →
    flat_map mixed_row_text ms ≡ flat_map line_bytes (flat_map parts_of ms)
text_is [] = refl
text_is (m ∷ ms) =
    ap₂ (λ (s t : List ℕ). s ++ t) (cut_is m) (text_is ms)
    ∙ sym (flat_map-append line_bytes (parts_of m) (flat_map parts_of ms))

-- ---- names

first_named : (l : CutLine) → HasNames l → HasName (first_part l)
first_named (cuts.Cut name right terms) h = h.0
first_named (cuts.Skip name right r) h = h

parts_named : (ms : List MixedLine) → All HasMixedNames ms → All HasName (flat_map parts_of ms)
parts_named [] h = All-nil HasName
parts_named (m ∷ ms) h =
    let has = All-head HasMixedNames m ms h in
    All-append HasName (parts_of m) (flat_map parts_of ms)
    (All-cons HasName (first_part m.line) (map term (terms_of m.line) ++ map weight m.weights)
    (first_named m.line has.0)
    (All-append HasName (map term (terms_of m.line)) (map weight m.weights)
    (All-map HasName term (terms_of m.line) (names_of_terms m.line has.0))
    (All-map HasName weight m.weights has.1)))
    (parts_named ms (All-tail HasMixedNames m ms h))

pub one_list : (ms ns : List MixedLine) → All HasMixedNames ms → All HasMixedNames ns →
    flat_map mixed_row_text ms ≡ flat_map mixed_row_text ns → ms ≡ ns
one_list ms ns g h e =
    same_cuts ms ns
    (same_lines part_form part_is_clear (flat_map parts_of ms) (flat_map parts_of ns)
    (parts_named ms g) (parts_named ns h)
    (sym (text_is ms) ∙ e ∙ text_is ns))
