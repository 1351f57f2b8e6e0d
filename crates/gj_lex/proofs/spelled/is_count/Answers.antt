use Rattle.std.proofs.Common.{◌≡◌, ◌↔◌, ℕ, Bool, IsTrue, List, refl, sym, subst}
use Rattle.std.specs.Str.Parse.{digits_value}
use Rattle.gj_lex.specs.declared.spelling.Spelling.{Spelling}
use Rattle.gj_lex.specs.declared.spelling.Spelling.TheVariants.{Strict}
use Rattle.gj_lex.specs.SpelledNumbers.{IsCount, IsCountWord}
use Rattle.gj_lex.proofs.SpelledWords.{strict_count_by_tests, count_by_no_numeral}
use Rattle.gj_lex.proofs.spelled.is_count.Goals as goal

strict_count : (s : Spelling) (w : List ℕ) (b : Bool) → s ≡ Strict → (IsTrue b ↔ IsCount w) →
    (IsTrue b ↔ IsCountWord s w (digits_value 10 w))
strict_count s w b is same =
    subst (λ (t : Spelling). IsTrue b ↔ IsCountWord t w (digits_value 10 w)) (sym is)
    (λ h. (same.0 h, refl), λ h. same.1 h.0)

pub returns-then-is_numeral : goal.returns-then-is_numeral
returns-then-is_numeral c =
    strict_count c.args.spelling c.args.word.now _ c.in-Strict.is
    (strict_count_by_tests c.args.word.now c.has_leading_zero.result
    (c.is_numeral-in-Strict.ensures.0 c.if-is_numeral.true) c.has_leading_zero.ensures)

pub returns-else-is_numeral : goal.returns-else-is_numeral
returns-else-is_numeral c =
    strict_count c.args.spelling c.args.word.now _ c.in-Strict.is
    (count_by_no_numeral c.args.word.now c.is_numeral-in-Strict.result
    c.is_numeral-in-Strict.ensures c.if-is_numeral.false)
