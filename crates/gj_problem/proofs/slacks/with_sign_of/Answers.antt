use Rattle.std.proofs.Common.{List, ℤ, to_z, of_z, refl, sym, ap, subst₂, ◌∙◌}
use Rattle.std.specs.List.{AllZip}
use Rattle.gj_frac.proofs.Reduced.{read_part}
use Rattle.gj_problem.specs.declared.problem.Entry.{Entry}
use Rattle.gj_problem.specs.Signs.{IsNegated}
use Rattle.gj_problem.proofs.Multiples.{one_multiple, negated_multiple, sign_one, sign_minus_one}
use Rattle.gj_problem.proofs.slacks.with_sign_of.Goals as goal
use mir.Syntax.{w128}

pub returns : goal.returns
returns c =
    let f = c.args.factor in
    let read = ap (λ (z : ℤ). to_z w128 (of_z w128 z)) c.num.ensures
    ∙ read_part f.num f.lowest.num_fits in
    let one = sign_one f c.requires (simp read at c.if-num-lt0.false) in
    one_multiple f c.args.entries.now c.args.right
    (record { entries = c.of-2.result; right = c.args.right }) one
    (c.of-2.ensures ∙ c.in_ok-made.ensures.items) refl

pub returns-then-num-lt0 : goal.returns-then-num-lt0
returns-then-num-lt0 c =
    let f = c.args.factor in
    let read = ap (λ (z : ℤ). to_z w128 (of_z w128 z)) c.num.ensures
    ∙ read_part f.num f.lowest.num_fits in
    let minus = sign_minus_one f c.requires (simp read at c.if-num-lt0.true) in
    negated_multiple f c.args.entries.now c.args.right
    (record { entries = c.of.result; right = c.neg.result }) minus
    (subst₂ (λ (xs ys : List Entry). AllZip IsNegated xs ys) c.in_ok-made.ensures.items
    (sym c.of.ensures) c.negate.ensures) c.neg.ensures
