-- A field that is a number without blanks.
use Rattle.std.proofs.Common.{◌≡◌, ℕ, ◌-◌, ◌<◌, false, List, [], ◌∷◌, ◌++◌, All, reverse, length, refl, sym, ◌∙◌, ap, subst, inr, arith, append-nil}
use Rattle.std.proofs.lemmas.Bool.Decides.{nat_tests}
use Rattle.std.proofs.lemmas.List.{reverse-reverse, length-reverse, get_or-reverse}
use Rattle.std.proofs.lemmas.List.Elements.{All-head, All-weaker, All-from_get_or, All-get_or}
use Rattle.std.proofs.lemmas.List.Splits.{slice_split_none, slice_split_at}
use Rattle.gj_frac.specs.declared.Frac.{Frac}
use Rattle.gj_lex.specs.SpelledNumbers.{IsFractionWord}
use Rattle.gj_lex.specs.Words.{is_blank}
use Rattle.gj_lex.specs.declared.spelling.Spelling.TheVariants.{Lenient}
use Rattle.gj_lex.proofs.LeadingNumbers.{BeginsWithFraction, IsLenientByte, lenient_bytes}
use Rattle.gj_row.specs.TableauText.{SpellsEntry, word_of, without_blanks_before}
use Rattle.gj_row.specs.Reading.{BeginsWithEntry, fields_of_line, is_comma}

no_comma : (b : ℕ) → IsLenientByte b → is_comma b ≡ false
no_comma b h = let other = h.no_comma in grind (arith, nat_tests)

no_blank : (b : ℕ) → IsLenientByte b → is_blank b ≡ false
no_blank b h = let high = h.high in grind (arith, nat_tests)

-- no blanks stand before it
starts_with_word : (word : List ℕ) → All (λ b. is_blank b ≡ false) word →
    without_blanks_before word ≡ word
starts_with_word [] h = refl
starts_with_word (b ∷ bs) h = rw (All-head (λ b. is_blank b ≡ false) b bs h) refl

reversed : (P : ℕ → Type 0) (xs : List ℕ) → All P xs → All P (reverse xs)
reversed P xs h = All-from_get_or P (reverse xs) 0
    (λ i l.
    let short : i < length xs = omega (arith, l, length-reverse xs) in
    subst P (sym (get_or-reverse xs i 0 short))
    (All-get_or P xs (length xs - 1 - i) 0 (omega arith) h))

-- nor behind it
is_word : (word : List ℕ) → All (λ b. is_blank b ≡ false) word → word_of word ≡ word
is_word word h =
    let front = starts_with_word word h in
    rw (front, starts_with_word (reverse word) (reversed (λ b. is_blank b ≡ false) word h))
    (reverse-reverse word)

spells : (word : List ℕ) (x : Frac) → IsFractionWord Lenient word x → SpellsEntry (word_of word) x
spells word x h =
    subst (λ w. SpellsEntry w x)
    (sym (is_word word (All-weaker IsLenientByte (λ b. is_blank b ≡ false) no_blank word
    (lenient_bytes word x h)))) (inr h)

-- a number is the whole line
pub number_alone : (line rest : List ℕ) (x : Frac) → BeginsWithFraction line x rest →
    length rest ≡ 0 → BeginsWithEntry line x []
number_alone line [] x (word, is, spelled) none =
    let bytes = All-weaker IsLenientByte (λ b. is_comma b ≡ false) no_comma word
    (lenient_bytes word x spelled) in
    record {
      field = word;
      fields_are = ap fields_of_line (is ∙ append-nil word) ∙ slice_split_none is_comma word bytes;
      spelled = spells word x spelled;
    }
number_alone line (b ∷ rest) x begins none = absurd (omega arith)

-- a comma follows it
pub number_first : (line rest behind : List ℕ) (comma : ℕ) (x : Frac) →
    BeginsWithFraction line x rest → rest ≡ comma ∷ behind → comma ≡ 44 →
    BeginsWithEntry line x (fields_of_line behind)
number_first line rest behind comma x (word, is, spelled) next at =
    let bytes = All-weaker IsLenientByte (λ b. is_comma b ≡ false) no_comma word
    (lenient_bytes word x spelled) in
    record {
      field = word;
      fields_are = ap fields_of_line (is ∙ ap (λ r. word ++ r) next)
          ∙ slice_split_at is_comma word comma behind bytes (rw at refl);
      spelled = spells word x spelled;
    }
