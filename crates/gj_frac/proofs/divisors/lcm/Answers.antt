use Rattle.std.proofs.Common.{arith}
use Rattle.std.proofs.lemmas.Nat.Gcd.{dvd_refl, dvd_of_mod-eq-zero}
use Rattle.gj_frac.proofs.divisors.lcm.Goals as goal

pub returns-then-a-b-eq0 : goal.returns-then-a-b-eq0
returns-then-a-b-eq0 c =
    rw c.from.ensures (dvd_refl c.args.a, dvd_of_mod-eq-zero c.args.b (omega arith), λ m p q. p)
