-- Texts that begin with the printed line of a point.
use Rattle.std.proofs.Common.{◌≡◌, ℕ, false, List, [], ◌∷◌, ◌++◌, codes, refl, sym, ap, ◌∙◌, append_assoc}
use Rattle.gj_frac.specs.declared.Frac.{Frac}
use Rattle.gj_lex.specs.NumberText.{fraction_text}
use Rattle.gj_shape.specs.declared.points.Point.{Point}
use Rattle.gj_forms.specs.LineForms.{line_of}
use Rattle.gj_function_lines.specs.FunctionLines.{point_form, has_no_jump, point_line}
use Rattle.gj_function_lines.proofs.ClearLines.{no_jump_where_same, number_of_even, numbers_of_jump}

-- one fraction is printed for a point without a jump
pub even_printed : (text behind more rest : List ℕ) (x : Frac) → text ≡ codes "point " ++ behind →
    behind ≡ fraction_text x ++ more →
    more ≡ 10 ∷ rest → text ≡ point_line (record { left = x; value = x; right = x }) ++ rest
even_printed text behind more rest x text_is behind_is more_is =
    let p : Point = record { left = x; value = x; right = x } in
    text_is ∙ ap (λ t. codes "point " ++ t) (behind_is ∙ ap (λ t. fraction_text x ++ t) more_is)
    ∙ sym (append_assoc (codes "point " ++ fraction_text x) (10 ∷ []) rest)
    ∙ ap (λ n. line_of point_form n ++ rest)
    (sym (number_of_even p (no_jump_where_same p refl refl)))

-- and three for one with a jump
pub jump_printed : (p : Point) (first second third fourth fifth rest : List ℕ) →
    has_no_jump p ≡ false → first ≡ 32 ∷ second →
    second ≡ fraction_text p.value ++ third → third ≡ 32 ∷ fourth →
    fourth ≡ fraction_text p.right ++ fifth → fifth ≡ 10 ∷ rest →
    codes "point " ++ (fraction_text p.left ++ first) ≡ point_line p ++ rest
jump_printed p first second third fourth fifth rest e first_is second_is third_is fourth_is
    fifth_is =
    let l = fraction_text p.left in
    let v = fraction_text p.value in
    let r = fraction_text p.right in
    let all : first ≡ 32 ∷ (v ++ 32 ∷ (r ++ 10 ∷ rest)) =
    first_is
    ∙ ap (λ t. 32 ∷ t) (second_is
    ∙ ap (λ t. v ++ t) (third_is ∙ ap (λ t. 32 ∷ t) (fourth_is ∙ ap (λ t. r ++ t) fifth_is))) in
    ap (λ t. codes "point " ++ (l ++ t)) all ∙ ap (λ t. codes "point " ++ t) (joined l v r)
    ∙ ap (λ n. line_of point_form n ++ rest) (sym (numbers_of_jump p e))
  where
    joined : (l v r : List ℕ) →
        l ++ 32 ∷ (v ++ 32 ∷ (r ++ 10 ∷ rest)) ≡ (l ++ 32 ∷ (v ++ 32 ∷ (r ++ 10 ∷ []))) ++ rest
    joined l v r = simp append_assoc
