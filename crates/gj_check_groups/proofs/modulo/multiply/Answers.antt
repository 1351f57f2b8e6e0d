use Rattle.std.proofs.Common.{rules, ◌≡◌, ℕ, pos, ℤ, List, get_or, ◌*ℤ◌, ◌++◌, map, take, drop, sym, ◌∙◌, subst, arith}
use Rattle.std.proofs.lemmas.Int.{to_z-of_z}
use mir.Syntax.{w128}
use Rattle.gj_shape.specs.Residues.{residue}
use Rattle.gj_theory.specs.Modulus.{modulus}
use Rattle.gj_theory.proofs.DividedRows.{over_more, over_all, over_open}
use Rattle.gj_check_groups.specs.RowNumbers.{IsResidue}
use Rattle.gj_check_groups.proofs.ResidueRows.{multiplied}
use Rattle.gj_check_groups.proofs.modulo.multiply.Goals as goal

-- the row so far, by this factor
abbrev IsSoFar : List ℤ → List ℤ → ℕ → ℤ → Type 0
IsSoFar old row i u = row ≡ map (λ x. residue modulus (u *ℤ x)) (take i old) ++ drop i old

pub product-requires-clause-second : goal.product-requires-clause-second
product-requires-clause-second c =
    let x = to_z-of_z w128 (get_or c.loop-x.row c.loop-x.x-index (pos 0)) (search rules) in
    let so_far = subst (IsSoFar c.args.row.now c.loop-x.row c.loop-x.x-index)
    (to_z-of_z w128 c.args.factor c.ranges.factor) c.loop-x.invariant in
    subst IsResidue (sym x)
    (over_open (λ x. residue modulus (c.args.factor *ℤ x)) IsResidue c.args.row.now c.loop-x.row
    c.loop-x.x-index c.loop-x-test.true
    c.loop-x.auto.row so_far c.requires.row)

pub loop-x-preserved : goal.loop-x-preserved
loop-x-preserved c =
    let u = to_z-of_z w128 c.args.factor c.ranges.factor in
    let x = to_z-of_z w128 (get_or c.loop-x.row c.loop-x.x-index (pos 0)) (search rules) in
    let so_far = subst (IsSoFar c.args.row.now c.loop-x.row c.loop-x.x-index) u
    c.loop-x.invariant in
    subst (IsSoFar c.args.row.now _ _) (sym u)
    (over_more (λ x. residue modulus (c.args.factor *ℤ x)) c.args.row.now c.loop-x.row
    c.loop-x.x-index _ (omega arith) c.loop-x.auto.row
    so_far (to_z-of_z w128 c.product.result (search rules) ∙ simp (u, x) at c.product.ensures))

pub returns : goal.returns
returns c =
    let so_far = subst (IsSoFar c.args.row.now c.loop-x.row c.loop-x.x-index)
    (to_z-of_z w128 c.args.factor c.ranges.factor) c.loop-x.invariant in
    over_all (λ x. residue modulus (c.args.factor *ℤ x)) c.args.row.now c.loop-x.row
    c.loop-x.x-index (omega arith) c.loop-x.auto.row so_far
    ∙ sym (multiplied c.args.factor c.args.row.now)
