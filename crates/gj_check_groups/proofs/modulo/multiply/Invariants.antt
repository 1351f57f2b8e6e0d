use Rattle.std.proofs.Common.{◌≡◌, ◌*ℤ◌, ◌++◌, map, take, drop}
use Rattle.gj_shape.specs.Residues.{residue}
use Rattle.gj_theory.specs.Modulus.{modulus}
use Rattle.gj_check_groups.proofs.modulo.multiply.Given as goal

abbrev pub invariant-loop-x : goal.invariant-loop-x
invariant-loop-x l =
    l.row ≡ map (λ x. residue modulus (l.factor *ℤ x)) (take l.x-index l.initial.row)
    ++ drop l.x-index l.initial.row
