-- The line of a form has one line feed.
use Rattle.std.proofs.Common.{◌≡◌, ◌≢◌, ℕ, ◌+◌, ◌==◌, false, List, [], ◌∷◌, All, refl, ap, ◌∙◌}
use Rattle.std.specs.List.{join_with_byte}
use Rattle.std.proofs.lemmas.Bool.{ne_eqb}
use Rattle.std.proofs.lemmas.List.Elements.{All-head, All-tail}
use Rattle.gj_forms.specs.TextLines.{line_feeds}
use Rattle.gj_forms.proofs.LineNumbers.{line_feeds_append}
use Rattle.gj_forms.proofs.StrictLines.{strict_no_feed}
use Rattle.gj_forms.specs.LineForms.{LineForm, words_of, line_of}
use Rattle.gj_forms.proofs.FieldWords.{joined_words}
use Rattle.gj_forms.proofs.LineLaws.{IsClear, strict_line}

no_feeds : (bs : List ℕ) → All (λ b. b ≢ 10) bs → line_feeds bs ≡ 0
no_feeds [] h = refl
no_feeds (b ∷ bs) h =
    let other : (b == 10) ≡ false = ne_eqb b 10 (All-head (λ c. c ≢ 10) b bs h) in
    rw other (no_feeds bs (All-tail (λ c. c ≢ 10) b bs h))

pub one_feed : {A : Type 0} (form : LineForm A) → IsClear form → (a : A) → form.HasLine a →
    line_feeds (line_of form a) ≡ 1
one_feed form clear a has =
    let line = join_with_byte 32 (words_of (form.fields a)) in
    let none = no_feeds line (strict_no_feed _ _ [] (strict_line form clear a [] has)) in
    ap line_feeds (joined_words (form.fields a)) ∙ line_feeds_append line (10 ∷ [])
    ∙ ap (λ n. n + 1) none
