-- The lines of claims of extremality, written one part after another.
use Rattle.std.proofs.Common.{◌≡◌, ℕ, ◌+◌, ◌<◌, min, ℤ, pos, Result, OnOk, List, [], ◌∷◌, ◌++◌, length, take, flat_map, zip, get_or, sym, ap, ◌∙◌, arith}
use Rattle.std.proofs.Math.Seq.{take-length}
use Rattle.std.proofs.lemmas.Grind.{flat_map-append}
use Rattle.std.proofs.lemmas.List.{append_assoc, append-nil, take_more}
use Rattle.std.proofs.lemmas.Result.{on_ok_weaker}
use Rattle.std.proofs.lemmas.Slice.Zip.{length-zip, get_or-zip}
use Rattle.gj_shape.specs.declared.extremality.CoverLine.{CoverLine}
use Rattle.gj_function_lines.specs.FaceLines.{cover_line}
use Rattle.gj_proof.specs.ProofText.{pair_line, group_text, modulus_text, extreme_text}
use Rattle.gj_proof.specs.declared.numbers.Numbers.{Numbers}
use Rattle.gj_proof.specs.declared.pivot.PivotRow.{PivotRow}

-- one pair more
pub pair_pushed : (first second : List ℤ) (i n : ℕ) (x y : ℤ) (start old new : List ℕ) →
    i < length first → i < length second → n ≡ i + 1 →
    x ≡ get_or first i (pos 0) → y ≡ get_or second i (pos 0) →
    old ≡ start ++ flat_map pair_line (take i (zip first second)) →
    new ≡ old ++ pair_line (x, y) → new ≡ start ++ flat_map pair_line (take n (zip first second))
pair_pushed first second i n x y start old new h k n_is x_is y_is old_is new_is =
    let pairs = zip first second in
    let long : i < length pairs = omega (arith, length-zip first second) in
    let pair : ◌≡◌ {A = ℤ × ℤ} (x, y) (get_or pairs i (pos 0, pos 0)) =
    (λ j. (x_is j, y_is j)) ∙ sym (get_or-zip first second i (pos 0, pos 0) h k) in
    let more : flat_map pair_line (take n pairs) ≡ flat_map pair_line (take i pairs) ++ pair_line
    (x, y) =
    ap (λ m. flat_map pair_line (take m pairs)) n_is
    ∙ ap (flat_map pair_line) (take_more pairs i (pos 0, pos 0) long
    ∙ ap (λ (p : ℤ × ℤ). take i pairs ++ p ∷ []) (sym pair))
    ∙ flat_map-append pair_line (take i pairs) ((x, y) ∷ [])
    ∙ ap (λ t. flat_map pair_line (take i pairs) ++ t) (append-nil (pair_line (x, y))) in
    new_is ∙ ap (λ t. t ++ pair_line (x, y)) old_is
    ∙ append_assoc start (flat_map pair_line (take i pairs)) (pair_line (x, y))
    ∙ ap (λ t. start ++ t) (sym more)

-- all pairs
pub pairs_pushed : (first second : List ℤ) (n : ℕ) (start new : List ℕ) →
    n ≡ min (length first) (length second) →
    new ≡ start ++ flat_map pair_line (take n (zip first second)) →
    new ≡ start ++ flat_map pair_line (zip first second)
pairs_pushed first second n start new n_is new_is =
    new_is ∙ ap (λ ps. start ++ flat_map pair_line ps)
    (ap (λ k. take k (zip first second)) (n_is ∙ sym (length-zip first second))
    ∙ take-length (zip first second))

-- the lines of an extreme function, one part after another
pub extreme_pushed : {E : Type 0} (r : Result (Unit {0}) E) (n : Numbers) (cover : List CoverLine)
    (rows : List PivotRow)
    (start first second new : List ℕ) → first ≡ start ++ flat_map cover_line cover →
    second ≡ first ++ modulus_text n →
    OnOk r (new ≡ second ++ flat_map group_text rows) →
    OnOk r (new ≡ start ++ extreme_text n cover rows)
extreme_pushed r n cover rows start first second new first_is second_is =
    on_ok_weaker r (λ e. e
    ∙ ap (λ t. t ++ flat_map group_text rows) (second_is ∙ ap (λ t. t ++ modulus_text n) first_is)
    ∙ regroup start (flat_map cover_line cover) (modulus_text n) (flat_map group_text rows))
  where
    regroup : (a b c d : List ℕ) → a ++ b ++ c ++ d ≡ a ++ (b ++ (c ++ d))
    regroup a b c d = simp append_assoc
