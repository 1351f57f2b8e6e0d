use Rattle.std.proofs.Common.{unsigned_abs, rules, ◌∙◌, ◌≡◌, ◌*ℤ◌}
use Rattle.std.specs.Int.{IsGcd}
use Rattle.std.proofs.lemmas.Int.{to_z-of_z}
use Rattle.std.proofs.lemmas.Nat.Gcd.{IsGcd-swap}
use Rattle.gj_frac.proofs.Sums.{quotient_by_gcd}
use Rattle.gj_frac.proofs.parts.coprime_quotients.Goals as goal
use mir.Syntax.{w128}

pub quotient-requires-clause-divides : goal.quotient-requires-clause-divides
quotient-requires-clause-divides c =
    let n = to_z-of_z w128 c.args.n c.ranges.n in
    let divisor = to_z-of_z w128 c.common_divisor-divisor.result (search rules) in
    simp (n, divisor) (simp n at c.common_divisor-divisor.ensures.greatest.0)

pub quotient-requires-2-clause-divides : goal.quotient-requires-2-clause-divides
quotient-requires-2-clause-divides c =
    let d = to_z-of_z w128 c.args.d c.ranges.d in
    let divisor = to_z-of_z w128 c.common_divisor-divisor.result (search rules) in
    simp (d, divisor) (simp d at c.common_divisor-divisor.ensures.greatest.1)

-- the divisor is the greatest common divisor of the numbers as they were passed
greatest : (c : goal.After-quotient-2) →
    IsGcd (unsigned_abs c.args.n) (unsigned_abs c.args.d)
    (unsigned_abs c.common_divisor-divisor.result)
greatest c =
    let n = to_z-of_z w128 c.args.n c.ranges.n in
    let d = to_z-of_z w128 c.args.d c.ranges.d in
    simp (n, d) at c.common_divisor-divisor.ensures.greatest

pub returns-clause-first : goal.returns-clause-first
returns-clause-first c g h =
    let n = to_z-of_z w128 c.args.n c.ranges.n in
    let divisor = to_z-of_z w128 c.common_divisor-divisor.result (search rules) in
    let is : c.quotient.result *ℤ c.common_divisor-divisor.result ≡ c.args.n =
    simp (n, divisor) at c.quotient.ensures in
    to_z-of_z w128 c.quotient.result (search rules)
    ∙ quotient_by_gcd c.args.n _ c.args.d _ g c.requires.n_positive
    c.common_divisor-divisor.ensures.positive is (greatest c) h

pub returns-clause-second : goal.returns-clause-second
returns-clause-second c g h =
    let d = to_z-of_z w128 c.args.d c.ranges.d in
    let divisor = to_z-of_z w128 c.common_divisor-divisor.result (search rules) in
    let is : c.quotient-2.result *ℤ c.common_divisor-divisor.result ≡ c.args.d =
    simp (d, divisor) at c.quotient-2.ensures in
    to_z-of_z w128 c.quotient-2.result (search rules)
    ∙ quotient_by_gcd c.args.d _ c.args.n _ g c.requires.d_positive
    c.common_divisor-divisor.ensures.positive is
    (IsGcd-swap _ _ _ (greatest c)) (IsGcd-swap _ _ _ h)
