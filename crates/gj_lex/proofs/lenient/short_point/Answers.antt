use Rattle.std.proofs.Common.{◌<◌, length, refl, arith}
use Rattle.std.proofs.lemmas.Bool.Decides.{nat_tests}
use Rattle.gj_frac.proofs.TenPowers.{ten_small}
use Rattle.gj_lex.proofs.WrittenNumbers.{nothing_read}
use Rattle.gj_lex.proofs.lenient.short_point.Goals as goal

pub returns-in_err-top-clause-some : goal.returns-in_err-top-clause-some
returns-in_err-top-clause-some c =
    rw c.from_residual.ensures (nothing_read _ (λ p. c.in_err-top.ensures (p.0.1, p.1)))

pub returns-clause-some : goal.returns-clause-some
returns-clause-some c =
    let all = c.in_ok-top.ensures in
    let some : 0 < length c.args.back.now = grind (arith, nat_tests) in (
      λ e. ((some, all.0.0), all.0.1, ten_small (length c.args.back.now) c.requires.few),
      λ p. refl,
    )
