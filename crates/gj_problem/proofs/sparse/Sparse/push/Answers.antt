use Rattle.std.proofs.Common.{◌≡◌, ◌++◌, ◌∷◌, [], OnOk, List, pos, ℤ, to_z, of_z, sym, ap, subst, ◌∙◌}
use Rattle.gj_frac.proofs.Reduced.{read_part}
use Rattle.gj_frac.specs.declared.Frac.{Frac}
use Rattle.gj_problem.specs.declared.sparse.Run.{Run}
use Rattle.gj_problem.specs.Sparse.{spread}
use Rattle.gj_problem.proofs.Runs.{spread_push, zero_is}
use Rattle.gj_problem.proofs.sparse.Sparse.push.Goals as goal
use mir.Syntax.{w128}

pub returns-then-num-eq0 : goal.returns-then-num-eq0
returns-then-num-eq0 c =
    let x = c.args.x in
    let none : x.num ≡ pos 0 =
    sym (read_part x.num x.lowest.num_fits)
    ∙ ap (λ (z : ℤ). to_z w128 (of_z w128 z)) (sym c.num.ensures)
    ∙ ap (to_z w128) c.if-num-eq0.true in
    subst (λ (y : Frac). OnOk c.push_zero.result (c.push_zero.new.self ≡ c.args.self.now ++ y ∷ []))
    (sym (zero_is x none)) c.push_zero.ensures

pub returns : goal.returns
returns c =
    let r : Run = record { zeros = c.self.inside.behind; value = c.args.x } in
    ap (λ (rs : List Run). spread rs 0) c.in_ok-push.ensures.items
    ∙ spread_push c.self.inside.kept.items r
    ∙ ap (λ (xs : List Frac). xs ++ c.args.x ∷ []) c.self.view_is
