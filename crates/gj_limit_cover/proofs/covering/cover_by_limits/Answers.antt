use Rattle.std.proofs.Common.{◌≤◌, ◌↔◌, ap, sym, subst, arith}
use Rattle.gj_jumps.specs.LimitCover.{IsTightAt, IsCoveredByLimits}
use Rattle.gj_shape.specs.Cover.{HasCoverLine}
use Rattle.gj_limit_cover.specs.CoverOf.{IsCoverOf}
use Rattle.gj_cover.proofs.Ends.{uncovered}
use Rattle.gj_limit_cover.specs.LimitCover.{IsNextLine}
use Rattle.gj_limit_cover.specs.Linking.{limit_linking}
use Rattle.gj_limit_cover.specs.Progress.{progress_data}
use Rattle.gj_limit_cover.proofs.Ends.{ended, components, cover_lines}
use Rattle.gj_limit_cover.proofs.Linked.{limit_linked}
use Rattle.gj_limit_cover.proofs.CoveredByLines.{covered_by_lines}
use Rattle.gj_limit_cover.proofs.covering.cover_by_limits.Goals as goal

pub least_class-requires-clause-uncovered : goal.least_class-requires-clause-uncovered
least_class-requires-clause-uncovered c =
    let t = c.args.shape.now in
    let p = c.in_ok-found.found in
    let progress = c.in_ok-found.ensures.progress in
    uncovered (limit_linking t.order (IsTightAt t)) (limit_linked t.order (IsTightAt t))
    (IsNextLine t.order (IsTightAt t)) (progress_data p) progress
    (ended t.order (IsTightAt t) p progress c.in_ok-found.ensures.complete)

pub returns-clause-cover : goal.returns-clause-cover
returns-clause-cover c =
    let t = c.args.shape.now in
    let p = c.in_ok-found.found in
    let progress = c.in_ok-found.ensures.progress in
    let complete = c.in_ok-found.ensures.complete in
    subst (IsCoverOf t.order (IsTightAt t)) (sym c.with_class.ensures) (record {
      lines = cover_lines t.order (IsTightAt t) p progress complete;
      count = progress.count;
      component = components t.order (IsTightAt t) p progress complete;
      «class» = c.in_ok-class.ensures;
    })

pub returns-clause-covered : goal.returns-clause-covered
returns-clause-covered c i below =
    let t = c.args.shape.now in
    subst (λ lines. HasCoverLine lines i ↔ IsCoveredByLimits t i)
    (ap (λ cover. cover.lines) (sym c.with_class.ensures))
    (covered_by_lines t c.in_ok-found.found c.in_ok-found.ensures.progress
    c.in_ok-found.ensures.complete i below)

pub returns-clause-few : goal.returns-clause-few
returns-clause-few c =
    let few = c.in_ok-found.ensures.progress.few in
    subst (λ cover. cover.count ≤ c.args.shape.now.order) (sym c.with_class.ensures)
    (omega (arith, few))
