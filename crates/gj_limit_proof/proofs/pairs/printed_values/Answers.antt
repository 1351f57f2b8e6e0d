use Rattle.std.proofs.Common.{◌≡◌, ◌<◌, ◌^◌, ℤ, unsigned_abs, to_z, of_z, w64, sym, ap, subst, ◌∙◌, arith}
use Rattle.std.proofs.lemmas.Int.{ints}
use Rattle.gj_frac.specs.Fraction.{Fits}
use Rattle.gj_lex.proofs.CanonicalTexts.{within_bits}
use Rattle.gj_limit_proof.specs.LimitGrammar.{AllFit}
use Rattle.gj_limit_proof.proofs.BrokenPairs.{values_printed}
use Rattle.gj_limit_proof.proofs.PairForms.{thrice}
use Rattle.gj_limit_proof.proofs.pairs.printed_values.Goals as goal

few_digits : (n : ℤ) → unsigned_abs n < 10 ^ 18 → to_z w64 (of_z w64 n) ≡ n
few_digits n small = omega (arith, ints)

small_fits : (n : ℤ) → unsigned_abs n < 10 ^ 18 → Fits n
small_fits n small = omega arith

pub returns : goal.returns
returns c =
    let x = c.in_ok-first.first in
    let y = c.in_ok-second.second in
    let x_fits = small_fits x c.in_ok-first.ensures.small in
    let y_fits = small_fits y c.in_ok-second.ensures.small in
    let first = within_bits _ x (c.from.ensures ∙ few_digits x c.in_ok-first.ensures.small)
    x_fits in
    let second = within_bits _ y (c.from-2.ensures ∙ few_digits y c.in_ok-second.ensures.small)
    y_fits in
    let s : c.thrice-first.result ≡ thrice x = c.thrice-first.ensures ∙ ap thrice first in
    let t : c.thrice-second.result ≡ thrice y = c.thrice-second.ensures ∙ ap thrice second in (
      values_printed _ _ _ _ _ _ _ _ _ _ c.in_ok-words.ensures.found c.in_ok-first.ensures.found
          c.in_ok-behind_byte.ensures.found
          c.in_ok-second.ensures.found c.in_ok-rest.ensures.found s t,
      subst AllFit (sym s) (x_fits, x_fits, x_fits),
      subst AllFit (sym t) (y_fits, y_fits, y_fits),
    )
