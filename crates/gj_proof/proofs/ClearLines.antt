-- The forms of the lines of a proof text are clear.
use Rattle.std.proofs.Common.{◌^◌, ◌≡◌, ℕ, ◌≤◌, ℤ, List, codes, refl, sym, ap, ◌∙◌, arith, lit<}
use Rattle.std.proofs.lemmas.Int.{ints}
use Rattle.gj_frac.specs.Fraction.{Fits}
use Rattle.gj_frac.specs.declared.Frac.{Frac}
use Rattle.gj_lex.specs.Name.{IsName}
use Rattle.gj_lex.proofs.WordBytes.{IsPlain}
use Rattle.gj_forms.specs.LineForms.{words_of}
use Rattle.gj_forms.proofs.FieldWords.{AreGood, same_fields}
use Rattle.gj_forms.proofs.LineLaws.{IsClear}
use Rattle.gj_forms.proofs.PlainWords.{known, apart, name_is_plain}
use Rattle.gj_function_lines.specs.FaceLines.{face_word, cover_fields}
use Rattle.gj_shape.specs.declared.extremality.CoverLine.{CoverLine}
use Rattle.gj_shape.specs.declared.extremality.RowName.{RowName}
use Rattle.gj_shape.specs.declared.extremality.RowName.TheVariants.{Period, F, Pair}
use Rattle.gj_shape.specs.declared.faces.FaceKind.{FaceKind}
use Rattle.gj_shape.specs.declared.faces.FaceKind.TheVariants.{Vertex, Horizontal, Vertical, Diagonal, Lower, Upper}
use Rattle.gj_shape.specs.declared.violations.Violation.{Violation}
use Rattle.gj_shape.specs.declared.violations.Violation.TheVariants as violation
use Rattle.gj_proof.specs.ProofText.{title_fields, violation_fields, reason_word, IsCoverLineBelow, IsRowNameBelow, row_name_fields}
use Rattle.gj_proof.specs.ProofGrammar.{title_form, claim_word_text, numbers_of_word, claim_form, violation_form, head_fields, head_form, term_form, cover_form, row_name_form, column_form, modulus_form, IsHeadInBounds, halves_form, pair_form}
use Rattle.gj_proof.specs.declared.claim.ClaimWord.{ClaimWord}
use Rattle.gj_proof.specs.declared.claim.ClaimWord.TheVariants as words
use Rattle.gj_proof.specs.declared.numbers.Numbers.{Numbers}
use Rattle.gj_proof.specs.declared.numbers.Numbers.TheVariants.{Whole, Residues}
use Rattle.gj_proof.specs.declared.cut.CutTerm.{CutTerm}
use Rattle.gj_proof.specs.declared.cut.SkipReason.{SkipReason}
use Rattle.gj_proof.specs.declared.cut.SkipReason.TheVariants.{Integral, Other}
use Rattle.gj_proof.specs.declared.halves.HalvesHead.{HalvesHead}
use Rattle.gj_proof.specs.declared.cut_rows.RowKind.{RowKind}
use Rattle.gj_proof.specs.declared.cut_rows.RowKind.TheVariants.{WithCut, Skipped}

-- ---- the title and the claim

good_title : (n : Numbers) → AreGood (title_fields n)
good_title Whole = (known (codes "gj-proof") refl, known (codes "1") refl)
good_title Residues = (known (codes "gj-proof") refl, known (codes "2") refl)

one_title : (m n : Numbers) → words_of (title_fields m) ≡ words_of (title_fields n) → m ≡ n
one_title Whole Whole e = refl
one_title Residues Residues e = refl
one_title Whole Residues e = absurd (apart (codes "1") (codes "2") refl cc)
one_title Residues Whole e = absurd (apart (codes "2") (codes "1") refl cc)

pub title_is_clear : IsClear title_form
title_is_clear = record {
  of_form = λ n h. tt;
  good = λ n h. good_title n;
  one =
      λ m n h k. one_title m n;
}

claim_is_plain : (w : ClaimWord) → IsPlain (claim_word_text w)
claim_is_plain words.Minimal = known (codes "minimal") refl
claim_is_plain words.NotMinimal = known (codes "not-minimal") refl
claim_is_plain words.Cut = known (codes "cut") refl
claim_is_plain (words.Extreme n) = known (codes "extreme") refl
claim_is_plain words.NotExtreme = known (codes "not-extreme") refl

one_claim : (w v : ClaimWord) → claim_word_text w ≡ claim_word_text v →
    numbers_of_word w ≡ numbers_of_word v → w ≡ v
one_claim words.Minimal words.Minimal e h = refl
one_claim words.NotMinimal words.NotMinimal e h = refl
one_claim words.Cut words.Cut e h = refl
one_claim (words.Extreme m) (words.Extreme n) e h = ap words.Extreme h
one_claim words.NotExtreme words.NotExtreme e h = refl
one_claim w v e h = absurd (apart (claim_word_text w) (claim_word_text v) refl e)

pub claim_is_clear : (n : Numbers) → IsClear (claim_form n)
claim_is_clear n = record {
  of_form = λ w h. h;
  good = λ w h. (known (codes "claim") refl, claim_is_plain w);
  one = λ w v h k e. one_claim w v (let same : claim_word_text w ≡ claim_word_text v = cc in same)
      (h ∙ sym k);
}

-- ---- violations

good_violation : (v : Violation) → AreGood (violation_fields v)
good_violation violation.Zero = known (codes "zero") refl
good_violation (violation.Negative x) = (known (codes "negative") refl, tt)
good_violation (violation.Asymmetric x) = (known (codes "asymmetric") refl, tt)
good_violation (violation.Superadditive x y) = (known (codes "superadditive") refl, (tt, tt))

one_violation : (a b : Violation) → words_of (violation_fields a) ≡ words_of (violation_fields b) →
    a ≡ b
one_violation violation.Zero violation.Zero e = refl
one_violation (violation.Negative x) (violation.Negative y) e =
    let a = violation.Negative x in
    let b = violation.Negative y in
    let same = same_fields (violation_fields a) (violation_fields b) tt (good_violation a)
    (good_violation b) e in
    ap violation.Negative cc
one_violation (violation.Asymmetric x) (violation.Asymmetric y) e =
    let a = violation.Asymmetric x in
    let b = violation.Asymmetric y in
    let same = same_fields (violation_fields a) (violation_fields b) tt (good_violation a)
    (good_violation b) e in
    ap violation.Asymmetric cc
one_violation (violation.Superadditive x y) (violation.Superadditive z w) e =
    let a = violation.Superadditive x y in
    let b = violation.Superadditive z w in
    let same = same_fields (violation_fields a) (violation_fields b) tt (good_violation a)
    (good_violation b) e in
    let first : x ≡ z = cc in
    let second : y ≡ w = cc in
    λ i. violation.Superadditive (first i) (second i)
one_violation (violation.Negative x) (violation.Asymmetric y) e =
    absurd (apart (codes "negative") (codes "asymmetric") refl cc)
one_violation (violation.Asymmetric x) (violation.Negative y) e =
    absurd (apart (codes "asymmetric") (codes "negative") refl cc)
one_violation a b e = absurd cc

pub violation_is_clear : IsClear violation_form
violation_is_clear =
    record {
      of_form = λ a h. tt;
      good = λ a h. good_violation a;
      one =
          λ a b h k. one_violation a b;
    }

-- ---- rows of cuts

one_word : (r s : SkipReason) → reason_word r ≡ reason_word s → r ≡ s
one_word Integral Integral e = refl
one_word Other Other e = refl
one_word Integral Other e = cc
one_word Other Integral e = cc

reason_is_plain : (r : SkipReason) → IsPlain (reason_word r)
reason_is_plain Integral = known (codes "integral") refl
reason_is_plain Other = known (codes "other") refl

good_head : (k : RowKind) (name : List ℕ) (x : Frac) → IsName name → AreGood (head_fields k name x)
good_head WithCut name x h = (known (codes "cut") refl, (name_is_plain name h, tt))
good_head (Skipped r) name x h =
    (known (codes "skip") refl, (name_is_plain name h, (tt, reason_is_plain r)))

one_head : (k l : RowKind) (n m : List ℕ) (x y : Frac) → IsName n → IsName m →
    words_of (head_fields k n x) ≡ words_of (head_fields l m y) → (k ≡ l) × (n ≡ m) × (x ≡ y)
one_head WithCut WithCut n m x y h i e =
    let same = same_fields (head_fields WithCut n x) (head_fields WithCut m y) tt
    (good_head WithCut n x h) (good_head WithCut m y i) e in
    (refl, cc, cc)
one_head (Skipped r) (Skipped s) n m x y h i e =
    let same = same_fields (head_fields (Skipped r) n x) (head_fields (Skipped s) m y) tt
    (good_head (Skipped r) n x h)
    (good_head (Skipped s) m y i) e in
    (ap Skipped (one_word r s cc), cc, cc)
one_head k l n m x y h i e = absurd cc

pub head_is_clear : IsClear head_form
head_is_clear = record {
  of_form = λ a h. h;
  good = λ a h. good_head a.kind a.name a.right h;
  one = λ a b h k e.
      let same = one_head a.kind b.kind a.name b.name a.right b.right h k e in
      λ i. record { kind = same.0 i; name = same.1 i; right = same.2 i };
}

pub term_is_clear : IsClear term_form
term_is_clear = record { of_form = λ a h. h; good = good; one = one }
  where
    good : (t : CutTerm) → IsName t.name → AreGood (term_form.fields t)
    good t h = (known (codes "term") refl, (name_is_plain t.name h, (tt, tt)))

    one : (t u : CutTerm) → IsName t.name → IsName u.name →
        words_of (term_form.fields t) ≡ words_of (term_form.fields u) → t ≡ u
    one t u h k e =
        let same = same_fields (term_form.fields t) (term_form.fields u) tt (good t h)
        (good u k) e in
        let name : t.name ≡ u.name = cc in
        let entry : t.entry ≡ u.entry = cc in
        let cut : t.cut ≡ u.cut = cc in
        λ i. record { name = name i; entry = entry i; cut = cut i }

-- ---- covered intervals

one_kind : (k l : FaceKind) → face_word k ≡ face_word l → k ≡ l
one_kind Vertex Vertex e = refl
one_kind Horizontal Horizontal e = refl
one_kind Vertical Vertical e = refl
one_kind Diagonal Diagonal e = refl
one_kind Lower Lower e = refl
one_kind Upper Upper e = refl
one_kind k l e = absurd (apart (face_word k) (face_word l) refl e)

kind_is_plain : (k : FaceKind) → IsPlain (face_word k)
kind_is_plain Vertex = known (codes "vertex") refl
kind_is_plain Horizontal = known (codes "horizontal") refl
kind_is_plain Vertical = known (codes "vertical") refl
kind_is_plain Diagonal = known (codes "diagonal") refl
kind_is_plain Lower = known (codes "lower") refl
kind_is_plain Upper = known (codes "upper") refl

pub cover_is_clear : (q : ℕ) → q ≤ 1000 → IsClear (cover_form q)
cover_is_clear q small = record { of_form = λ a h. h.not_vertex; good = good; one = one }
  where
    good : (l : CoverLine) → IsCoverLineBelow q l → AreGood (cover_fields l)
    good l h = (
      known (codes "cover") refl,
      (
        omega (arith, h.interval),
        (
          omega (arith, h.from),
          (kind_is_plain l.face.kind, (omega (arith, h.first), omega (arith, h.second))),
        ),
      ),
    )

    one : (l m : CoverLine) → IsCoverLineBelow q l → IsCoverLineBelow q m →
        words_of (cover_fields l) ≡ words_of (cover_fields m) → l ≡ m
    one l m h k e =
        let same = same_fields (cover_fields l) (cover_fields m) tt (good l h) (good m k) e in
        let interval : l.interval ≡ m.interval = cc in
        let from : l.from ≡ m.from = cc in
        let kind = one_kind l.face.kind m.face.kind cc in
        let a : l.face.a ≡ m.face.a = cc in
        let b : l.face.b ≡ m.face.b = cc in
        λ i. record {
          interval = interval i;
          from = from i;
          face =
              record { kind = kind i; a = a i; b = b i };
        }

-- ---- the modulus, the names of rows, and columns

pub modulus_is_clear : IsClear modulus_form
modulus_is_clear = record {
  of_form = λ a h. tt;
  good = λ a h. (known (codes "modulus") refl, lit< tt);
  one = λ a b h k e. refl;
}

pub row_name_is_clear : (q : ℕ) → q ≤ 1000 → IsClear (row_name_form q)
row_name_is_clear q small = record { of_form = λ a h. tt; good = good; one = one }
  where
    good : (n : RowName) → IsRowNameBelow q n → AreGood (row_name_fields n)
    good Period h = (known (codes "row") refl, known (codes "period") refl)
    good F h = (known (codes "row") refl, known (codes "f") refl)
    good (Pair a b) h = (known (codes "row") refl, (omega (arith, h.1, h.2), omega (arith, h.2)))

    one : (m n : RowName) → IsRowNameBelow q m → IsRowNameBelow q n →
        words_of (row_name_fields m) ≡ words_of (row_name_fields n) → m ≡ n
    one Period Period h k e = refl
    one F F h k e = refl
    one (Pair a b) (Pair c d) h k e =
        let same = same_fields (row_name_fields (Pair a b)) (row_name_fields (Pair c d)) tt
        (good (Pair a b) h) (good (Pair c d) k) e in
        let first : a ≡ c = cc in
        let second : b ≡ d = cc in
        λ i. Pair (first i) (second i)
    one m n h k e = absurd cc

pub column_is_clear : (w : List ℕ) (limit : ℕ) → IsPlain w → limit ≤ 2 ^ 127 →
    IsClear (column_form w limit)
column_is_clear w limit plain small = record {
  of_form = λ a h. tt;
  good = λ c h. (plain, omega arith);
  one = λ c d h k e.
      let same = same_fields ((column_form w limit).fields c) ((column_form w limit).fields d) tt
      (plain, omega arith) (plain, omega arith) e in
      cc;
}

-- ---- halves

pub halves_is_clear : IsClear halves_form
halves_is_clear = record { of_form = λ a h. tt; good = good; one = one }
  where
    good : (h : HalvesHead) → IsHeadInBounds h → AreGood (halves_form.fields h)
    good h b =
        let high = b.order_high in
        let low = b.scale_low in
        let top = b.scale_high in
        (known (codes "halves") refl, (omega arith, omega (arith, ints)))

    one : (g h : HalvesHead) → IsHeadInBounds g → IsHeadInBounds h →
        words_of (halves_form.fields g) ≡ words_of (halves_form.fields h) → g ≡ h
    one g h b c e =
        let same = same_fields (halves_form.fields g) (halves_form.fields h) tt (good g b)
        (good h c) e in
        let order : g.order ≡ h.order = cc in
        let scale : g.scale ≡ h.scale = cc in
        λ i. record { order = order i; scale = scale i }

pub pair_is_clear : IsClear pair_form
pair_is_clear = record { of_form = λ a h. tt; good = good; one = one }
  where
    good : (p : ℤ × ℤ) → Fits p.0 × Fits p.1 → AreGood (pair_form.fields p)
    good p h = (known (codes "pair") refl, (h.0, h.1))

    one : (p r : ℤ × ℤ) → Fits p.0 × Fits p.1 → Fits r.0 × Fits r.1 →
        words_of (pair_form.fields p) ≡ words_of (pair_form.fields r) → p ≡ r
    one p r h k e =
        let same = same_fields (pair_form.fields p) (pair_form.fields r) tt (good p h)
        (good r k) e in
        let first : p.0 ≡ r.0 = cc in
        let second : p.1 ≡ r.1 = cc in
        λ i. (first i, second i)
