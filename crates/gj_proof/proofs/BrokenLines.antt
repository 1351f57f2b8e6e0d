-- Words that are no line of a form: others than the form has, or no such numbers.
use Rattle.std.proofs.Common.{◌≡◌, ◌≢◌, ℕ, ◌<◌, ◌^◌, ℤ, pos, List, [], ◌∷◌, codes, decimal, refl, sym, subst, ◌∙◌, arith}
use Rattle.std.specs.Fmt.{signed_decimal}
use Rattle.std.proofs.lemmas.Int.{ints}
use Rattle.gj_frac.specs.Fraction.{Fits}
use Rattle.gj_frac.specs.declared.Frac.{Frac}
use Rattle.gj_lex.specs.declared.spelling.Spelling.TheVariants.{Strict}
use Rattle.gj_lex.specs.Name.{IsName}
use Rattle.gj_lex.specs.NumberText.{fraction_text}
use Rattle.gj_lex.specs.SpelledNumbers.{IsCountWord}
use Rattle.gj_lex.proofs.Decimals.{same_from_decimal}
use Rattle.gj_lex.proofs.SpelledWords.{canonical_count}
use Rattle.gj_forms.specs.LineForms.{words_of, with_numbers, AreOfForm}
use Rattle.gj_forms.proofs.WholeNumbers.{whole, same_from_whole}
use Rattle.gj_function_lines.specs.FaceLines.{face_word, cover_fields}
use Rattle.gj_theory.specs.Modulus.{modulus}
use Rattle.gj_shape.specs.declared.extremality.CoverLine.{CoverLine}
use Rattle.gj_shape.specs.declared.extremality.RowName.{RowName}
use Rattle.gj_shape.specs.declared.extremality.RowName.TheVariants.{Period, F, Pair}
use Rattle.gj_shape.specs.declared.faces.FaceKind.{FaceKind}
use Rattle.gj_shape.specs.declared.violations.Violation.{Violation}
use Rattle.gj_shape.specs.declared.violations.Violation.TheVariants as violation
use Rattle.gj_proof.specs.HeadWords.{texts_of_head}
use Rattle.gj_proof.specs.ProofText.{violation_fields, IsCoverLineBelow, IsRowNameBelow, row_name_fields}
use Rattle.gj_proof.specs.ProofGrammar.{violation_form, head_fields, head_form, term_form, modulus_form, IsHeadInBounds, halves_form, pair_form}
use Rattle.gj_proof.specs.declared.cut.CutTerm.{CutTerm}
use Rattle.gj_proof.specs.declared.cut_rows.RowHead.{RowHead}
use Rattle.gj_proof.specs.declared.cut_rows.RowKind.{RowKind}
use Rattle.gj_proof.specs.declared.cut_rows.RowKind.TheVariants.{WithCut, Skipped}
use Rattle.gj_proof.specs.declared.halves.HalvesHead.{HalvesHead}

-- any fraction
pub zero_fraction : Frac
zero_fraction = whole (pos 0) (omega (arith, ints))

-- ---- violations

pub no_point : (w x : List ℕ) → ((y : Frac) → x ≡ fraction_text y → ⊥) → (v : Violation) →
    w ∷ x ∷ [] ≡ words_of (violation_fields v) →
    Unit {0} → ⊥
no_point w x none violation.Zero e t = cc
no_point w x none (violation.Negative y) e t = none y cc
no_point w x none (violation.Asymmetric y) e t = none y cc
no_point w x none (violation.Superadditive y z) e t = cc

pub no_points : (w x y : List ℕ) → ((p q : Frac) → x ≡ fraction_text p → y ≡ fraction_text q → ⊥) →
    (v : Violation) →
    w ∷ x ∷ y ∷ [] ≡ words_of (violation_fields v) → Unit {0} → ⊥
no_points w x y none violation.Zero e t = cc
no_points w x y none (violation.Negative p) e t = cc
no_points w x y none (violation.Asymmetric p) e t = cc
no_points w x y none (violation.Superadditive p q) e t =
    let first : x ≡ fraction_text p = cc in
    let second : y ≡ fraction_text q = cc in
    none p q first second

pub no_violation : (words : List (List ℕ)) → words ≢ codes "zero" ∷ [] →
    ((x : List ℕ) → words ≡ codes "negative" ∷ x ∷ [] → ⊥) →
    ((x : List ℕ) → words ≡ codes "asymmetric" ∷ x ∷ [] → ⊥) →
    ((x y : List ℕ) → words ≡ codes "superadditive" ∷ x ∷ y ∷ [] → ⊥) →
    AreOfForm violation_form words → ⊥
no_violation words zero negative asymmetric superadditive (violation.Zero, is, t) = zero is
no_violation words zero negative asymmetric superadditive (violation.Negative x, is, t) =
    negative _ is
no_violation words zero negative asymmetric superadditive (violation.Asymmetric x, is, t) =
    asymmetric _ is
no_violation words zero negative asymmetric superadditive (violation.Superadditive x y, is, t) =
    superadditive _ _ is

-- ---- rows of cuts

pub no_head_number : (k : RowKind) (name right : List ℕ) →
    ((x : Frac) → right ≡ fraction_text x → ⊥) → (h : RowHead) →
    texts_of_head k name right ≡ words_of (head_form.fields h) → IsName h.name → ⊥
no_head_number k name right none h e named = none h.right (by k h.kind e)
  where
    by : (k l : RowKind) → texts_of_head k name right ≡ words_of (head_fields l h.name h.right) →
        right ≡ fraction_text h.right
    by WithCut WithCut e = cc
    by (Skipped r) (Skipped s) e = cc
    by k l e = absurd cc

-- the words are those of some row
pub of_head : (k : RowKind) (name right : List ℕ) →
    texts_of_head k name right ≡ with_numbers (head_fields k name zero_fraction)
    (texts_of_head k name right)
of_head WithCut name right = refl
of_head (Skipped r) name right = refl

-- ---- terms

pub no_term_numbers : (name entry cut : List ℕ) →
    ((x y : Frac) → entry ≡ fraction_text x → cut ≡ fraction_text y → ⊥) → (t : CutTerm) →
    codes "term" ∷ name ∷ entry ∷ cut ∷ [] ≡ words_of (term_form.fields t) → IsName t.name → ⊥
no_term_numbers name entry cut none t e named =
    let first : entry ≡ fraction_text t.entry = cc in
    let second : cut ≡ fraction_text t.cut = cc in
    none t.entry t.cut first second

-- ---- covered intervals

-- a line of any numbers, with a face of this kind
abbrev pub of_kind : FaceKind → CoverLine
of_kind kind = record { interval = 0; from = 0; face = record { kind = kind; a = 0; b = 0 } }

pub no_cover : (q : ℕ) (kind : FaceKind) (i j a b : List ℕ) →
    ((l : CoverLine) → i ≡ decimal l.interval → j ≡ decimal l.from → a ≡ decimal l.face.a →
    b ≡ decimal l.face.b → IsCoverLineBelow q l → ⊥) →
    (l : CoverLine) → codes "cover" ∷ i ∷ j ∷ face_word kind ∷ a ∷ b ∷ []
    ≡ words_of (cover_fields l) → IsCoverLineBelow q l → ⊥
no_cover q kind i j a b none l e below =
    let interval : i ≡ decimal l.interval = cc in
    let from : j ≡ decimal l.from = cc in
    let first : a ≡ decimal l.face.a = cc in
    let second : b ≡ decimal l.face.b = cc in
    none l interval from first second below

-- ---- the modulus and the names of rows

pub no_modulus : (word : List ℕ) → (word ≡ decimal modulus → ⊥) → (t : Unit {0}) →
    codes "modulus" ∷ word ∷ [] ≡ words_of (modulus_form.fields t) → Unit {0} → ⊥
no_modulus word none t e h = none (second e)
  where
    second : {v w : List ℕ} → codes "modulus" ∷ v ∷ [] ≡ codes "modulus" ∷ w ∷ [] → v ≡ w
    second e = cc

pub no_pair_name : (q : ℕ) (x y : List ℕ) →
    ((a b : ℕ) → x ≡ decimal a → y ≡ decimal b → IsRowNameBelow q (Pair a b) → ⊥) →
    (n : RowName) → codes "row" ∷ x ∷ y ∷ [] ≡ words_of (row_name_fields n) → IsRowNameBelow q n → ⊥
no_pair_name q x y none Period e h = cc
no_pair_name q x y none F e h = cc
no_pair_name q x y none (Pair a b) e h =
    let first : x ≡ decimal a = cc in
    let second : y ≡ decimal b = cc in
    none a b first second h

-- ---- halves

scale_fits : (h : HalvesHead) → IsHeadInBounds h → Fits h.scale
scale_fits h b = let low = b.scale_low in let high = b.scale_high in omega (arith, ints)

-- the first word is no count
pub no_order : (first second : List ℕ) → ((n : ℕ) → n < 2 ^ 32 → IsCountWord Strict first n → ⊥) →
    (h : HalvesHead) → first ≡ decimal h.order → second ≡ signed_decimal h.scale →
    IsHeadInBounds h → ⊥
no_order first second none h order scale b =
    let high = b.order_high in
    none h.order (omega arith)
    (subst (λ w. IsCountWord Strict w h.order) (sym order)
    (canonical_count Strict h.order (omega arith)))

-- the numbers are outside the limits
pub not_in_bounds : (first second : List ℕ) (order : ℕ) (scale : ℤ) → order < 2 ^ 32 →
    first ≡ decimal order →
    second ≡ signed_decimal scale → Fits scale →
    (IsHeadInBounds (record { order = order; scale = scale }) → ⊥) →
    (h : HalvesHead) → first ≡ decimal h.order → second ≡ signed_decimal h.scale →
    IsHeadInBounds h → ⊥
not_in_bounds first second order scale small count is fits not h order_is scale_is b =
    let high = b.order_high in
    let same_order = same_from_decimal order h.order (omega arith) (omega arith)
    (sym count ∙ order_is) in
    let same_scale = same_from_whole scale h.scale fits (scale_fits h b) (sym is ∙ scale_is) in
    not (subst (λ (g : HalvesHead). IsHeadInBounds g)
    (λ i. record { order = sym same_order i; scale = sym same_scale i }) b)

pub no_halves : (first second : List ℕ) →
    ((h : HalvesHead) → first ≡ decimal h.order → second ≡ signed_decimal h.scale →
    IsHeadInBounds h → ⊥) → (h : HalvesHead) →
    codes "halves" ∷ first ∷ second ∷ [] ≡ words_of (halves_form.fields h) → IsHeadInBounds h → ⊥
no_halves first second none h e b =
    let order : first ≡ decimal h.order = cc in
    let scale : second ≡ signed_decimal h.scale = cc in
    none h order scale b

pub no_pair : (first second : List ℕ) →
    ((x y : ℤ) → first ≡ signed_decimal x → second ≡ signed_decimal y → Fits x → Fits y → ⊥) →
    (p : ℤ × ℤ) → codes "pair" ∷ first ∷ second ∷ [] ≡ words_of (pair_form.fields p) →
    Fits p.0 × Fits p.1 → ⊥
no_pair first second none p e h =
    let x : first ≡ signed_decimal p.0 = cc in
    let y : second ≡ signed_decimal p.1 = cc in
    none p.0 p.1 x y h.0 h.1
