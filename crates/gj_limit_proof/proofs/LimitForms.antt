-- The forms of the lines of groups and of halves are clear.
use Rattle.std.proofs.Common.{◌≡◌, ℕ, zero, suc, ◌<◌, ◌≤◌, ◌^◌, cond, List, [], ◌∷◌, length, codes, decimal, refl, sym, ap, ◌∙◌, arith}
use Rattle.gj_lex.proofs.Decimals.{same_from_decimal}
use Rattle.gj_lex.proofs.WordBytes.{IsPlain}
use Rattle.gj_forms.specs.LineForms.{words_of}
use Rattle.gj_forms.proofs.FieldWords.{AreGood}
use Rattle.gj_forms.proofs.LineLaws.{IsClear}
use Rattle.gj_forms.proofs.PlainWords.{known, are_same}
use Rattle.gj_shape.specs.Faces.{corners_of}
use Rattle.gj_shape.specs.declared.faces.FaceKind.{FaceKind}
use Rattle.gj_shape.specs.declared.faces.FaceKind.TheVariants.{Vertex, Horizontal, Vertical, Diagonal, Lower, Upper}
use Rattle.gj_limit_system.specs.declared.limit_row.LimitRow.{LimitRow}
use Rattle.gj_limit_system.specs.declared.limit_row.LimitRow.TheVariants.{F, Tight}
use Rattle.gj_limit_proof.specs.LimitGrammar.{title_form, row_form}
use Rattle.gj_limit_proof.specs.LimitText.{sides_fields, row_fields, IsRowWithin, IsLimitRowWithin}
use Rattle.gj_limit_proof.specs.Sides.{sides_word}

-- ---- the title

pub title_is_clear : IsClear title_form
title_is_clear = record {
  of_form = λ a h. tt;
  good = λ a h. (known (codes "gj-proof") refl, known (codes "3") refl);
  one = λ a b h k e. refl;
}

-- ---- the words of sides

pub sides_are_plain : (kind : FaceKind) (corner : ℕ) → IsPlain (sides_word kind corner)
sides_are_plain Vertex corner = known (codes "000") refl
sides_are_plain Horizontal zero = known (codes "+0+") refl
sides_are_plain Horizontal (suc corner) = known (codes "-0-") refl
sides_are_plain Vertical zero = known (codes "0++") refl
sides_are_plain Vertical (suc corner) = known (codes "0--") refl
sides_are_plain Diagonal zero = known (codes "-+0") refl
sides_are_plain Diagonal (suc corner) = known (codes "+-0") refl
sides_are_plain Lower zero = known (codes "+++") refl
sides_are_plain Lower (suc zero) = known (codes "-+-") refl
sides_are_plain Lower (suc (suc corner)) = known (codes "+--") refl
sides_are_plain Upper zero = known (codes "-++") refl
sides_are_plain Upper (suc zero) = known (codes "+-+") refl
sides_are_plain Upper (suc (suc corner)) = known (codes "---") refl

-- the first of these corners that has the word
abbrev first_with : List ℕ → List (FaceKind × ℕ) → FaceKind × ℕ
first_with w [] = (Vertex, 0)
first_with w (c ∷ corners) = cond (are_same w (sides_word c.0 c.1)) c (first_with w corners)

abbrev corner_with : List ℕ → FaceKind × ℕ
corner_with w =
    first_with w ((Horizontal, 0) ∷ (Horizontal, 1) ∷ (Vertical, 0) ∷ (Vertical, 1) ∷ (Diagonal, 0)
    ∷ (Diagonal, 1)
    ∷ (Lower, 0) ∷ (Lower, 1) ∷ (Lower, 2) ∷ (Upper, 0) ∷ (Upper, 1) ∷ (Upper, 2) ∷ [])

corner_of_word : (kind : FaceKind) (corner : ℕ) → corner < length (corners_of kind 0 0) →
    corner_with (sides_word kind corner) ≡ (kind, corner)
corner_of_word Vertex zero h = refl
corner_of_word Vertex (suc corner) h = absurd (omega arith)
corner_of_word Horizontal zero h = refl
corner_of_word Horizontal (suc zero) h = refl
corner_of_word Horizontal (suc (suc corner)) h = absurd (omega arith)
corner_of_word Vertical zero h = refl
corner_of_word Vertical (suc zero) h = refl
corner_of_word Vertical (suc (suc corner)) h = absurd (omega arith)
corner_of_word Diagonal zero h = refl
corner_of_word Diagonal (suc zero) h = refl
corner_of_word Diagonal (suc (suc corner)) h = absurd (omega arith)
corner_of_word Lower zero h = refl
corner_of_word Lower (suc zero) h = refl
corner_of_word Lower (suc (suc zero)) h = refl
corner_of_word Lower (suc (suc (suc corner))) h = absurd (omega arith)
corner_of_word Upper zero h = refl
corner_of_word Upper (suc zero) h = refl
corner_of_word Upper (suc (suc zero)) h = refl
corner_of_word Upper (suc (suc (suc corner))) h = absurd (omega arith)

-- a word is that of one corner
one_corner : (k l : FaceKind) (c d : ℕ) → c < length (corners_of k 0 0) →
    d < length (corners_of l 0 0) →
    sides_word k c ≡ sides_word l d → (k ≡ l) × (c ≡ d)
one_corner k l c d h i e =
    let same : ◌≡◌ {A = FaceKind × ℕ} (k, c) (l, d) = sym (corner_of_word k c h) ∙ ap corner_with e
    ∙ corner_of_word l d i in
    (ap (λ (p : FaceKind × ℕ). p.0) same, ap (λ (p : FaceKind × ℕ). p.1) same)

-- the words of sides, if there are any, are those of one corner
pub one_limit : (k l : FaceKind) (c d : ℕ) → c < length (corners_of k 0 0) →
    d < length (corners_of l 0 0) →
    words_of (sides_fields k c) ≡ words_of (sides_fields l d) → (k ≡ l) × (c ≡ d)
one_limit Vertex Vertex c d h i e = (refl, omega arith)
one_limit Vertex l c d h i e = absurd cc
one_limit k Vertex c d h i e = absurd cc
one_limit k l c d h i e = one_corner k l c d h i (cc)

-- ---- rows

module _ (q : ℕ) (small : q ≤ 1000) where
  below_bound : (kind : FaceKind) (corner a b : ℕ) → IsLimitRowWithin q kind corner a b →
      (a < 2 ^ 127) × (b < 2 ^ 127)
  below_bound kind corner a b h = let up = h.ascending in let low = h.below in
      (omega arith, omega arith)

  good_row : (row : LimitRow) → IsRowWithin q row → AreGood (row_fields row)
  good_row F h = (known (codes "row") refl, known (codes "f") refl)
  good_row (Tight Vertex corner a b) h = let low = below_bound Vertex corner a b h in
      (known (codes "row") refl, (low.0, low.1))
  good_row (Tight kind corner a b) h =
      let low = below_bound kind corner a b h in
      (known (codes "row") refl, (low.0, (low.1, sides_are_plain kind corner)))

  same_count : (m n : ℕ) → m < 2 ^ 127 → n < 2 ^ 127 → decimal m ≡ decimal n → m ≡ n
  same_count m n h i e = same_from_decimal m n (omega arith) (omega arith) e

  one_row : (r s : LimitRow) → IsRowWithin q r → IsRowWithin q s →
      words_of (row_fields r) ≡ words_of (row_fields s) → r ≡ s
  one_row F F h i e = refl
  one_row (Tight k c a b) (Tight l d m n) h i e =
      let first : decimal a ≡ decimal m = cc in
      let second : decimal b ≡ decimal n = cc in
      let left = below_bound k c a b h in
      let right = below_bound l d m n i in
      let a_is = same_count a m left.0 right.0 first in
      let b_is = same_count b n left.1 right.1 second in
      let corner = one_limit k l c d h.corner_is i.corner_is (cc) in
      λ j. Tight (corner.0 j) (corner.1 j) (a_is j) (b_is j)
  one_row r s h i e = absurd cc

  pub row_is_clear : IsClear (row_form q)
  row_is_clear = record { of_form = λ a h. tt; good = good_row; one = one_row }
