use Rattle.std.proofs.Common.{◌≡◌, ℤ, pos, IsTrue, true, to_z, of_z, inl, refl, sym, ap, ◌∙◌}
use Rattle.gj_frac.proofs.Reduced.{read_part}
use Rattle.gj_problem.proofs.bounds.turn.Goals as goal
use mir.Syntax.{w128}

pub returns-then-num-eq0-clause-next : goal.returns-then-num-eq0-clause-next
returns-then-num-eq0-clause-next c = λ (done : IsTrue true).
    let x = c.args.coefficient in
    let none : x.num ≡ pos 0 =
    sym (read_part x.num x.lowest.num_fits)
    ∙ ap (λ (z : ℤ). to_z w128 (of_z w128 z)) (sym c.num.ensures)
    ∙ ap (to_z w128) c.if-num-eq0.true in
    inl (inl none, refl)

pub returns-then-num-eq0-clause-narrow : goal.returns-then-num-eq0-clause-narrow
returns-then-num-eq0-clause-narrow c = λ wide.
    let x = c.args.coefficient in
    let none : x.num ≡ pos 0 =
    sym (read_part x.num x.lowest.num_fits)
    ∙ ap (λ (z : ℤ). to_z w128 (of_z w128 z)) (sym c.num.ensures)
    ∙ ap (to_z w128) c.if-num-eq0.true in
    wide.kept (inl none)
