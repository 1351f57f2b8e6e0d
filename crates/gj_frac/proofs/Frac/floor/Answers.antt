use Rattle.std.proofs.Common.{rules, subst, sym, ◌∙◌}
use Rattle.std.proofs.lemmas.Int.{to_z-of_z}
use Rattle.gj_frac.specs.Floor.{IsFloor}
use Rattle.gj_frac.proofs.Floors.{quotient_is_floor}
use Rattle.gj_frac.proofs.Reduced.{read_part}
use Rattle.gj_frac.proofs.Frac.floor.Goals as goal
use mir.Syntax.{w128}

pub returns : goal.returns
returns c =
    let num = read_part c.args.self.num c.args.self.lowest.num_fits in
    let den = read_part c.args.self.den c.args.self.lowest.den_fits in
    let result = to_z-of_z w128 c.floor_quotient.result (search rules) in
    let is = simp (num, den) at c.floor_quotient.ensures in
    subst (IsFloor c.args.self) (sym (result ∙ is)) (quotient_is_floor c.args.self)
