use Rattle.std.proofs.lemmas.Bool.Decides.{nat_tests}
use Rattle.std.proofs.lemmas.Grind.{common_steps}
use Rattle.std.proofs.Common.{◌≡◌, ◌↔◌, ℕ, ◌<◌, ◌==◌, IsTrue, false, arith}
use Rattle.std.specs.Char.{IsAsciiDigit}
use Rattle.std.specs.List.{All}
use Rattle.gj_lex.proofs.WordBytes.{all_from_digits, digits_from_all}
use Rattle.gj_lex.proofs.spelled.is_numeral.Goals as goal

some_from_test : (n : ℕ) → false ≡ (n == 0) → 0 < n
some_from_test n h = grind (arith, nat_tests)

pub returns-then-not-is_empty : goal.returns-then-not-is_empty
returns-then-not-is_empty c =
    let digits : IsTrue c.all.result ↔ All IsAsciiDigit c.args.word.now =
    grind (arith, common_steps) in (
      λ h. (some_from_test _ c.if-not-is_empty.ensures, digits_from_all _ (digits.0 h)),
      λ h. digits.1 (all_from_digits _ h.1),
    )
