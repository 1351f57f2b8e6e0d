use Rattle.std.proofs.Common.{ℕ, ◌≡◌, ◌%◌, ◌+◌}
use Rattle.std.specs.Int.{IsGcd}
use Rattle.gj_frac.proofs.divisors.gcd_of_odd.Given as goal

abbrev pub invariant-loop-first : goal.invariant-loop-first
invariant-loop-first l = record {
  first : l.first % 2 ≡ 1;
  second : l.second % 2 ≡ 1;
  divisors : (g : ℕ) → IsGcd l.first l.second g → IsGcd l.fn.a l.fn.b g;
}

abbrev pub decreases-loop-first : goal.decreases-loop-first
decreases-loop-first l = l.first + l.second
