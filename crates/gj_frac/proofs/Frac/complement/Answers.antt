use Rattle.std.proofs.Common.{◌-ℤ◌}
use Rattle.gj_frac.specs.Lowest.{IsLowest}
use Rattle.gj_frac.proofs.Floors.{complement_lowest}
use Rattle.gj_frac.proofs.Reduced.{read_part}
use Rattle.gj_frac.proofs.Frac.complement.Goals as goal

pub invariant_of-result : goal.invariant_of-result
invariant_of-result c =
    let n = c.args.self.num in
    let d = c.args.self.den in
    let num = read_part n c.args.self.lowest.num_fits in
    let den = read_part d c.args.self.lowest.den_fits in
    let lowest : IsLowest (d -ℤ n) d =
    complement_lowest n d c.args.self.lowest c.requires.not_negative c.requires.at_most_one in
    let rest = read_part (d -ℤ n) lowest.num_fits in
    simp (num, den, rest) (record { lowest = lowest })
