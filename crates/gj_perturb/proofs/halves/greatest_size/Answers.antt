use Rattle.std.proofs.Common.{◌≡◌, pos, get_or, length, unsigned_abs, ap, subst, ◌∙◌, arith, rules}
use Rattle.std.proofs.lemmas.Int.{to_z-of_z}
use Rattle.gj_perturb.proofs.Sizes.{IsSizeBelow, no_size, one_size_more, size_of_all}
use Rattle.gj_perturb.proofs.halves.greatest_size.Goals as goal
use mir.Syntax.{w128}

pub loop-value-init : goal.loop-value-init
loop-value-init c = no_size c.args.values.now

pub loop-value-preserved : goal.loop-value-preserved
loop-value-preserved c =
    let xs = c.args.values.now in
    let n = c.loop-value.value-index in
    let entry = get_or xs n (pos 0) in
    one_size_more xs n c.loop-value.size c.unsigned_abs.result c.max-size.result
    c.loop-value-test.true c.loop-value.invariant
    (c.unsigned_abs.ensures.value ∙ ap unsigned_abs (to_z-of_z w128 entry (search rules)))
    c.max-size.ensures

pub returns : goal.returns
returns c =
    let xs = c.args.values.now in
    let all : c.loop-value.value-index ≡ length c.args.values.now = omega arith in
    size_of_all xs c.loop-value.size c.requires
    (subst (λ n. IsSizeBelow xs n c.loop-value.size) all c.loop-value.invariant)
