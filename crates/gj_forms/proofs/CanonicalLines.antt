-- Lines of words without a CR are lines in either spelling.
use Rattle.std.proofs.Common.{◌≡◌, ◌≢◌, ℕ, ◌<◌, Bool, true, false, cond, List, [], ◌∷◌, ◌++◌, length, get_or, refl, sym, ap, subst, arith}
use Rattle.std.specs.List.{All, join_with_byte}
use Rattle.std.proofs.Math.Dec.{eqb, ltb}
use Rattle.std.proofs.lemmas.Bool.{false≢true, ne_eqb}
use Rattle.std.proofs.lemmas.Bool.Decides.{nat_tests}
use Rattle.std.proofs.lemmas.List.Elements.{All-nil, All-cons}
use Rattle.gj_lex.specs.NumberText.{IsWordByte}
use Rattle.gj_lex.specs.declared.spelling.Spelling.{Spelling}
use Rattle.gj_lex.specs.declared.spelling.Spelling.TheVariants.{Lenient, Strict}
use Rattle.gj_forms.specs.TextLines.{HasLine}
use Rattle.gj_forms.specs.Parts.{words_rule, line_part}
use Rattle.gj_lex.proofs.WordBytes.{IsPlain}
use Rattle.gj_forms.proofs.StrictLines.{plain_line, strict_line_is_lenient}

-- the words in a line, one space between them
pub line_in : (s : Spelling) (w : List ℕ) (ws : List (List ℕ)) (text rest : List ℕ) →
    All IsPlain (w ∷ ws) → get_or w 0 0 ≢ 35 →
    text ≡ join_with_byte 32 (w ∷ ws) ++ 10 ∷ rest → HasLine s text text (w ∷ ws) rest
line_in s w ws text rest plain other e = subst (λ t. HasLine s t t (w ∷ ws) rest) (sym e) (either s)
  where
    either : (s : Spelling) →
        HasLine s (join_with_byte 32 (w ∷ ws) ++ 10 ∷ rest)
        (join_with_byte 32 (w ∷ ws) ++ 10 ∷ rest) (w ∷ ws) rest
    either Lenient =
        strict_line_is_lenient (join_with_byte 32 (w ∷ ws) ++ 10 ∷ rest) (w ∷ ws) rest
        (plain_line w ws rest plain)
        (λ skipped. other (ap (λ v. get_or v 0 0) skipped.1))
    either Strict = (refl, plain_line w ws rest plain)

-- ---- words that are known

abbrev pub plain_bytes : List ℕ → Bool
plain_bytes [] = true
plain_bytes (b ∷ bs) =
    cond (eqb b 9) false
    (cond (eqb b 10) false (cond (eqb b 13) false (cond (eqb b 32) false (plain_bytes bs))))

abbrev plain_words : List (List ℕ) → Bool
plain_words [] = true
plain_words (w ∷ ws) = cond (ltb 0 (length w)) (cond (plain_bytes w) (plain_words ws) false) false

byte_by_test : (b : ℕ) (more : Bool) →
    cond (eqb b 9) false
    (cond (eqb b 10) false (cond (eqb b 13) false (cond (eqb b 32) false more))) ≡ true →
    IsWordByte b × (more ≡ true)
byte_by_test b more h =
    let test : ℕ → Bool =
    λ c. cond (eqb c 9) false
    (cond (eqb c 10) false (cond (eqb c 13) false (cond (eqb c 32) false more))) in
    let tab : b ≢ 9 = λ e. false≢true (subst (λ c. test c ≡ true) e h) in
    let feed : b ≢ 10 = λ e. false≢true (subst (λ c. test c ≡ true) e h) in
    let return : b ≢ 13 = λ e. false≢true (subst (λ c. test c ≡ true) e h) in
    let space : b ≢ 32 = λ e. false≢true (subst (λ c. test c ≡ true) e h) in (
      record { no_tab = tab; no_line_feed = feed; no_carriage_return = return; no_space = space },
      rw (ne_eqb b 9 tab, ne_eqb b 10 feed, ne_eqb b 13 return, ne_eqb b 32 space) at h,
    )

pub bytes_by_test : (bs : List ℕ) → plain_bytes bs ≡ true → All IsWordByte bs
bytes_by_test [] h = All-nil IsWordByte
bytes_by_test (b ∷ bs) h = let p = byte_by_test b (plain_bytes bs) h in
    All-cons IsWordByte b bs p.0 (bytes_by_test bs p.1)

word_by_test : (some bytes more : Bool) → cond some (cond bytes more false) false ≡ true →
    (some ≡ true) × (bytes ≡ true) × (more ≡ true)
word_by_test true true more h = (refl, refl, h)
word_by_test true false more h = absurd (false≢true h)
word_by_test false bytes more h = absurd (false≢true h)

some_by_test : (n : ℕ) → ltb 0 n ≡ true → 0 < n
some_by_test n h = grind (arith, nat_tests)

-- the test of known words computes
pub plain_by_test : (ws : List (List ℕ)) → plain_words ws ≡ true → All IsPlain ws
plain_by_test [] h = All-nil IsPlain
plain_by_test (w ∷ ws) h =
    let p = word_by_test (ltb 0 (length w)) (plain_bytes w) (plain_words ws) h in
    All-cons IsPlain w ws (some_by_test (length w) p.0, bytes_by_test w p.1) (plain_by_test ws p.2)

-- a line of exactly these words
pub words_line : (s : Spelling) (w : List ℕ) (ws : List (List ℕ)) (text rest : List ℕ) →
    plain_words (w ∷ ws) ≡ true →
    get_or w 0 0 ≢ 35 → text ≡ join_with_byte 32 (w ∷ ws) ++ 10 ∷ rest →
    (line_part s (words_rule (w ∷ ws))).Reads text tt rest
words_line s w ws text rest plain other e =
    (text, w ∷ ws, line_in s w ws text rest (plain_by_test (w ∷ ws) plain) other e, refl)
