use Rattle.std.proofs.Common.{◌≡◌, ◌*◌, ◌%◌, ◌^◌, ◌≤◌, min, subst, subst₂, sym, ap, ◌∙◌, arith, w64}
use Rattle.std.specs.Int.{IsGcd, trailing_zeros}
use Rattle.std.proofs.Math.Nat.{mod-eq_of_lt}
use Rattle.std.proofs.lemmas.Nat.Gcd.{le_of_dvd}
use Rattle.gj_frac.proofs.OddParts.{odd_part, odd_powers}
use Rattle.gj_frac.proofs.divisors.gcd_of_positive.Goals as goal

pub gcd_of_odd-requires-clause-odd : goal.gcd_of_odd-requires-clause-odd
gcd_of_odd-requires-clause-odd c = (odd_part c.args.a c.requires.first (omega arith)).0

pub gcd_of_odd-requires-clause-other_odd : goal.gcd_of_odd-requires-clause-other_odd
gcd_of_odd-requires-clause-other_odd c = (odd_part c.args.b c.requires.second (omega arith)).0

pub returns : goal.returns
returns c =
    let a = odd_part c.args.a c.requires.first (omega arith) in
    let b = odd_part c.args.b c.requires.second (omega arith) in
    let g = c.gcd_of_odd.result * 2 ^ min (trailing_zeros w64 c.args.a)
    (trailing_zeros w64 c.args.b) in
    let h : IsGcd c.args.a c.args.b g =
    subst₂ (λ m n. IsGcd m n g) a.1 b.1 (odd_powers _ _ _ _ _ a.0 b.0 c.gcd_of_odd.ensures) in
    let most : g ≤ c.args.a = le_of_dvd c.requires.first h.0 in
    let whole : g % 2 ^ 64 ≡ g = mod-eq_of_lt (omega arith) in
    subst (IsGcd c.args.a c.args.b)
    (sym (ap (λ n. c.gcd_of_odd.result * 2 ^ n % 2 ^ 64) c.min.ensures ∙ whole)) h
