use Rattle.std.proofs.Common.{pos, ◌<ℤ◌, inr, refl, subst}
use Rattle.std.proofs.lemmas.Bool.{false≢true}
use Rattle.gj_frac.specs.Fraction.{numerator}
use Rattle.gj_frac.specs.declared.Frac.{Frac}
use Rattle.gj_lex.proofs.SpelledWords.{one_fraction}
use Rattle.gj_line.proofs.SpelledNumbers.{zero}
use Rattle.gj_line.proofs.numbers.PositiveFractionField.of_word.Goals as goal

pub returns-in_default-clause-fault : goal.returns-in_default-clause-fault
returns-in_default-clause-fault c =
    inr (refl, (zero, refl, tt), λ x h k. c.in_default.ensures.none x h)

pub returns-then-not-is_positive-clause-fault : goal.returns-then-not-is_positive-clause-fault
returns-then-not-is_positive-clause-fault c =
    inr (
      refl,
      (zero, refl, tt),
      λ x h k. false≢true (c.if-not-is_positive.ensures.1
          (subst (λ (y : Frac). pos 0 <ℤ numerator y)
          (one_fraction c.args.spelling c.args.word.now x c.in-Some.x h c.in-Some.ensures.found)
          k)),
    )
