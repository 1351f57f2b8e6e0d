use Rattle.std.proofs.Common.{◌^◌, inl, arith}
use Rattle.std.proofs.lemmas.Bool.{leb-true, le-leb}
use Rattle.gj_lemmas.proofs.Divisors.{gcd_positive}
use Rattle.gj_check.proofs.Multiples.{fine_product}
use Rattle.gj_check.proofs.denominators.has_fine_multiple.Goals as goal

pub nonzero_div-a : goal.nonzero_div-a
nonzero_div-a c =
    let some = gcd_positive _ _ _ c.gcd.ensures (inl c.requires.first) in
    omega arith

pub returns-in-Some : goal.returns-in-Some
returns-in-Some c =
    let both =
    fine_product c.args.a c.args.b c.gcd.result c.requires.first c.requires.second
    c.gcd.ensures in
    let is = c.in-Some.ensures.1 in (
      λ h. both.0 (let k = leb-true c.in-Some.multiple (2 ^ 62) h in omega arith),
      λ h. le-leb _ _ (let k = both.1 h in omega arith),
    )

pub returns-in-None : goal.returns-in-None
returns-in-None c =
    let both =
    fine_product c.args.a c.args.b c.gcd.result c.requires.first c.requires.second
    c.gcd.ensures in
    let wide = c.in-None.ensures in
    (λ h. absurd (cc), λ h. absurd (wide (let k = both.1 h in omega arith)))
