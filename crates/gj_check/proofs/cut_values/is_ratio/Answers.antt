use Rattle.std.proofs.Common.{◌≡◌, pos, to_z, of_z, arith}
use Rattle.std.proofs.lemmas.Int.{ints, to_z-of_z}
use Rattle.gj_frac.proofs.Reduced.{read_part}
use Rattle.gj_check.proofs.Ratios.{least_parts}
use Rattle.gj_check.proofs.cut_values.is_ratio.Goals as goal
use Rattle.gj_check.proofs.cut_values.is_ratio.Goals.{then-num-lt0-via-then-num-lt0, then-num-lt0-via-else-num-lt0+then-num-from, then-num-lt0-via-else-num-lt0+else-num-from+then-den-from}
use mir.Syntax.{w128}

pub returns-then-num-lt0 : goal.returns-then-num-lt0
returns-then-num-lt0 c = (
  λ no. absurd cc,
  λ is.
      let x = c.args.x in
      let least = least_parts x c.args.n c.args.d c.requires is in
      let num = read_part x.num x.lowest.num_fits in
      let den = read_part x.den x.lowest.den_fits in
      let n : to_z w128 (of_z w128 (pos c.args.n)) ≡ pos c.args.n =
      to_z-of_z w128 (pos c.args.n) (omega (arith, ints, c.ranges.n.fits)) in
      let d : to_z w128 (of_z w128 (pos c.args.d)) ≡ pos c.args.d =
      to_z-of_z w128 (pos c.args.d) (omega (arith, ints, c.ranges.d.fits)) in
      absurd
      (elim c.then-num-lt0.branch [
        | then-num-lt0-via-then-num-lt0 w ↦
            let low = simp (c.num.ensures, num) at w.if-num-lt0.true in
            omega (arith, ints, least.0, low)
        | then-num-lt0-via-else-num-lt0+then-num-from w ↦
            let high = simp (w.num-else-num-lt0.ensures, w.from.ensures, num, n) at
            w.if-num-from.true in
            omega (arith, ints, least.1, high)
        | then-num-lt0-via-else-num-lt0+else-num-from+then-den-from w ↦
            let high = simp (w.den.ensures, w.from-else-num-from.ensures, den, d) at
            w.if-den-from.true in
            omega (arith, ints, least.2, high)
      ]),
)
