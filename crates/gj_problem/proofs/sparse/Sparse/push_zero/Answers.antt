use Rattle.std.proofs.Common.{rules, ◌≡◌, ◌++◌, ◌∷◌, [], ◌+◌, ap, ◌∙◌}
use Rattle.gj_problem.specs.Sparse.{no_fraction, spread}
use Rattle.gj_problem.proofs.Runs.{spread_zero}
use Rattle.gj_problem.proofs.sparse.Sparse.push_zero.Goals as goal

pub returns : goal.returns
returns c =
    let more : c.in-Some.behind ≡ c.self.inside.behind + 1 = search rules in
    ap (λ n. spread c.self.inside.kept.items n) more
    ∙ spread_zero c.self.inside.kept.items c.self.inside.behind
    ∙ ap (λ xs. xs ++ no_fraction ∷ []) c.self.view_is
