use Rattle.std.proofs.Common.{sym, ◌∙◌}
use Rattle.std.proofs.lemmas.Bool.{true≢false}
use Rattle.gj_faces.proofs.AddedFaces.{adds_one, adds_none}
use Rattle.gj_faces.proofs.maximal_faces.push_if.Goals as goal

pub returns-then-is_maximal-clause-added : goal.returns-then-is_maximal-clause-added
returns-then-is_maximal-clause-added c = λ f maximal.
    adds_one f _ c.args.faces.now.items c.push_reserved.new.self.items
    (maximal.0 c.if-is_maximal.true)
    c.push_reserved.ensures.items

pub returns-else-is_maximal-clause-added : goal.returns-else-is_maximal-clause-added
returns-else-is_maximal-clause-added c = λ f maximal.
    adds_none f _ c.args.faces.now.items
    (λ yes. true≢false (sym (maximal.1 yes) ∙ c.if-is_maximal.false))
