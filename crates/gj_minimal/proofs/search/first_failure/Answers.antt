use Rattle.std.proofs.Common.{Some, None, IfNone}
use Rattle.gj_shape.specs.FirstViolation.{PassesAll}
use Rattle.gj_minimal.specs.FirstFailure.{HoldsBelow}
use Rattle.gj_minimal.specs.Failures.{PassesRow}
use Rattle.gj_minimal.proofs.Theory.{tests_pass}
use Rattle.gj_minimal.proofs.search.first_failure.Goals as goal

pub returns-clause-none : goal.returns-clause-none
returns-clause-none c =
    let f = c.args.shape.now in
    elim c.failed_face.result as (λ r. IfNone r (HoldsBelow (PassesRow f) f.order) →
    IfNone r (PassesAll f)) [
      | None ↦ λ rows. tests_pass f c.in_default-failed_vertex.ensures.none
          (λ a b a_below b_below. rows a a_below b b_below)
      | Some x ↦ λ _. tt
    ] c.failed_face.ensures.none
