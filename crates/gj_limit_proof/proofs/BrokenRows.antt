-- Words that are no first line of a group: others than the form has, or no such numbers.
use Rattle.std.proofs.Common.{◌≡◌, ◌≢◌, ℕ, ◌<◌, List, [], ◌∷◌, length, codes, decimal, refl, sym, subst₂}
use Rattle.gj_forms.specs.LineForms.{words_of, with_numbers, AreOfForm}
use Rattle.gj_shape.specs.Faces.{corners_of}
use Rattle.gj_shape.specs.declared.faces.FaceKind.{FaceKind}
use Rattle.gj_shape.specs.declared.faces.FaceKind.TheVariants.{Vertex}
use Rattle.gj_limit_system.specs.declared.limit_row.LimitRow.{LimitRow}
use Rattle.gj_limit_system.specs.declared.limit_row.LimitRow.TheVariants.{F, Tight}
use Rattle.gj_limit_proof.specs.LimitGrammar.{row_form}
use Rattle.gj_limit_proof.specs.LimitText.{row_fields, IsRowWithin, IsLimitRowWithin}
use Rattle.gj_limit_proof.specs.RowWords.{texts_of_row}
use Rattle.gj_limit_proof.specs.Sides.{sides_word}
use Rattle.gj_limit_proof.proofs.LimitForms.{one_limit}

-- the words are those of some row
pub of_row : (kind : FaceKind) (corner : ℕ) (x y : List ℕ) →
    texts_of_row kind corner x y ≡ with_numbers (row_fields (Tight kind corner 0 0))
    (texts_of_row kind corner x y)
of_row Vertex corner x y = refl
of_row kind corner x y = refl

-- the numbers are those of no row
pub no_row : (q : ℕ) (kind : FaceKind) (corner : ℕ) (x y : List ℕ) →
    corner < length (corners_of kind 0 0) →
    ((a b : ℕ) → x ≡ decimal a → y ≡ decimal b → IsLimitRowWithin q kind corner a b → ⊥) →
    (r : LimitRow) →
    texts_of_row kind corner x y ≡ words_of (row_fields r) → IsRowWithin q r → ⊥
no_row q kind corner x y low none F e h = cc
no_row q kind corner x y low none (Tight l d a b) e h =
    let first : x ≡ decimal a = cc in
    let second : y ≡ decimal b = cc in
    let same = one_limit kind l corner d low h.corner_is (cc) in
    none a b first second
    (subst₂ (λ (k : FaceKind) (c : ℕ). IsLimitRowWithin q k c a b) (sym same.0) (sym same.1) h)

-- the words are those of no row
pub no_words : (q : ℕ) (words : List (List ℕ)) → words ≢ codes "row" ∷ codes "f" ∷ [] →
    ((kind : FaceKind) (corner : ℕ) (x y : List ℕ) → words ≡ texts_of_row kind corner x y → ⊥) →
    AreOfForm (row_form q) words → ⊥
no_words q words other none (F, is, t) = other is
no_words q words other none (Tight Vertex corner a b, is, t) = none Vertex corner _ _ is
no_words q words other none (Tight kind corner a b, is, t) = none kind corner _ _ is

-- the last word is that of no sides
pub no_sides : (words : List (List ℕ)) (x y w : List ℕ) → words ≡ codes "row" ∷ x ∷ y ∷ w ∷ [] →
    ((kind : FaceKind) (corner : ℕ) → kind ≢ Vertex → w ≡ sides_word kind corner → ⊥) →
    (kind : FaceKind) (corner : ℕ) (u v : List ℕ) →
    words ≡ texts_of_row kind corner u v → ⊥
no_sides words x y w is none Vertex corner u v e = cc
no_sides words x y w is none kind corner u v e = none kind corner (λ same. cc) (cc)
