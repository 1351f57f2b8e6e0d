use Rattle.std.proofs.Common.{pos, get_or, FitsSigned, to_z, of_z, below_more, refl, sym, ap, ◌∙◌, rules, arith}
use mir.Syntax.{w128}
use Rattle.std.proofs.lemmas.Int.{to_z-of_z}
use Rattle.gj_shape.proofs.AtLemmas.{at_below}
use Rattle.gj_check.proofs.HalvesTests.{same_everywhere}
use Rattle.gj_check.proofs.halves.are_different.Goals as goal

pub returns-then-first-i : goal.returns-then-first-i
returns-then-first-i c =
    let i = c.loop-i.i in
    let first = at_below c.args.first.now i (omega arith) in
    let second = at_below c.args.second.now i (let len = c.requires.lengths in omega arith) in
    let other = c.if-first-i.true in
    (λ _. (i, λ e. other (ap (of_z w128) (sym first ∙ e ∙ second))), λ _. refl)

pub loop-i-preserved : goal.loop-i-preserved
loop-i-preserved c =
    let i = c.loop-i.i in
    let first = at_below c.args.first.now i (omega arith) in
    let second = at_below c.args.second.now i (let len = c.requires.lengths in omega arith) in
    let same = c.if-first-i.false in
    let x : FitsSigned w128 (get_or c.args.first.now i (pos 0)) = search rules in
    let y : FitsSigned w128 (get_or c.args.second.now i (pos 0)) = search rules in
    below_more _ i c.loop-i.invariant
    (first ∙ sym (to_z-of_z w128 _ x) ∙ ap (to_z w128) same ∙ to_z-of_z w128 _ y ∙ sym second)

pub returns : goal.returns
returns c =
    let all = same_everywhere c.args.first.now c.args.second.now c.requires.some c.requires.lengths
    (λ i below. c.loop-i.invariant i (omega arith)) in
    (λ none. absurd cc, λ (i, differ). absurd (differ (all i)))
