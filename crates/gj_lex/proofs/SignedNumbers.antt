-- A number in lenient form, with its sign, and the fraction that it is.
use Rattle.std.proofs.Common.{◌≡◌, ℕ, ◌^◌, ◌<◌, ℤ, pos, List, Bool, sym, ◌∙◌, ap, subst}
use Rattle.std.specs.Str.Parse.{starts_with_minus, without_leading_sign}
use Rattle.gj_frac.specs.declared.Frac.{Frac}
use Rattle.gj_frac.specs.Fraction.{IsRatio, with_sign}
use Rattle.gj_lex.specs.NumberText.{IsNumberText, IsWritten}

-- what was read behind a sign is spelled so, with the sign
pub number_found : (word rest : List ℕ) (minus : Bool) (top bottom : ℕ) (x : Frac) →
    rest ≡ without_leading_sign word →
    minus ≡ starts_with_minus word → IsWritten rest top bottom → top < 2 ^ 127 → bottom < 2 ^ 127 →
    0 < bottom →
    IsRatio x (with_sign minus top) (pos bottom) → (n : ℤ) × (d : ℕ) × IsNumberText word n d
    × IsRatio x n (pos d)
number_found word rest minus top bottom x rest_is minus_is written small low some is =
    let text : IsNumberText word (with_sign minus top) bottom = record {
      top = top;
      written = subst (λ bs. IsWritten bs top bottom) rest_is written;
      top_fits = small;
      bottom_fits = low;
      bottom_some = some;
      value = ap (λ m. with_sign m top) minus_is;
    } in
    (with_sign minus top, bottom, text, is)

-- what is spelled so was read
pub number_only : (word : List ℕ) (minus : Bool) (x : Frac) (n : ℤ) (d : ℕ)
    (t : IsNumberText word n d) → minus ≡ starts_with_minus word →
    IsRatio x (with_sign minus t.top) (pos d) → IsRatio x n (pos d)
number_only word minus x n d t minus_is is =
    subst (λ z. IsRatio x z (pos d)) (ap (λ m. with_sign m t.top) minus_is ∙ sym t.value) is
