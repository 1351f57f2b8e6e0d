use Rattle.std.proofs.Common.{◌≡◌, ◌%◌, ℕ, unsigned_abs, subst, sym, ap, ◌∙◌, arith}
use Rattle.std.proofs.lemmas.Int.{ints}
use Rattle.std.proofs.lemmas.Bool.{eqb-true, eq-eqb}
use Rattle.std.proofs.lemmas.Nat.Gcd.{dvd_of_mod-eq-zero, mod-eq-zero_of_dvd}
use Rattle.std.specs.Int.{◌∣◌}
use Rattle.gj_relaxed.proofs.GridValues.{grid_if_divides, divides_if_grid, read_den, grid_den_small}
use Rattle.gj_relaxed.proofs.forms.is_grid_value.Goals as goal

pub returns-in-Ok : goal.returns-in-Ok
returns-in-Ok c =
    let n = c.args.grid in
    let x = c.args.x in
    let d_is : c.in-Ok.den ≡ unsigned_abs x.den = c.in-Ok.ensures.1
    ∙ ap unsigned_abs (read_den x c.den.result c.den.ensures) in (
      λ none. grid_if_divides n x
          (subst (λ (d : ℕ). d ∣ n) d_is
          (dvd_of_mod-eq-zero c.in-Ok.den (eqb-true (n % c.in-Ok.den) 0 none))),
      λ on. eq-eqb (n % c.in-Ok.den) 0
          (mod-eq-zero_of_dvd c.in-Ok.den
          (subst (λ (d : ℕ). d ∣ n) (sym d_is) (divides_if_grid n x on))),
    )

pub returns-in-Err : goal.returns-in-Err
returns-in-Err c =
    let x = c.args.x in
    let is = read_den x c.den.result c.den.ensures in (
      λ t. absurd (cc),
      λ on. absurd (c.in-Err.ensures (
        omega (arith, ints, is, x.lowest.positive),
        omega (arith, ints, is, grid_den_small c.args.grid x c.requires c.ranges.grid.fits on),
      )),
    )
