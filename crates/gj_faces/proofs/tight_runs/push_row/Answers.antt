use Rattle.std.proofs.Common.{inl, inr, ◌&&◌, not, refl, ap, ◌∙◌, arith}
use Rattle.gj_loops.specs.IndexSets.{has}
use Rattle.gj_loops.proofs.Shifts.{in_limit}
use Rattle.gj_shape.specs.Additive.{IsTight}
use Rattle.gj_faces.proofs.RunSteps.{next_run, run_ends, row_done}
use Rattle.gj_faces.proofs.tight_runs.push_row.Goals as goal

pub loop-from-init : goal.loop-from-init
loop-from-init c = (c.requires.before, omega arith, inl refl)

pub loop-from-preserved : goal.loop-from-preserved
loop-from-preserved c =
    let f = c.args.shape.now in
    let row = c.args.row.now in
    let start = c.in-Some.ensures in
    let stop = c.in-Some-first_from.ensures in
    let made = next_run f.order (IsTight f) c.args.a c.loop-from.place c.in-Some.from
    c.in-Some-first_from.to (has row)
    (has c.and_not-starts.result) (has c.and_not-ends.result) c.loop-from.runs.items
    c.loop-from.invariant.0 c.requires.within c.requires.order.1
    c.requires.row (λ i below. c.and_not-starts.ensures i
    ∙ ap (λ b. has row i && not b) (c.up.ensures i ∙ in_limit i _ below))
    (λ i. c.and_not-ends.ensures i ∙ ap (λ b. has row i && not b) (c.down.ensures i))
    c.loop-from.invariant.2
    start.behind start.found start.before stop.behind stop.found stop.before in (
      rw c.in_ok-push.ensures.items made.0,
      omega (arith, made.2),
      inr made.1,
    )

pub unreachable-requires : goal.unreachable-requires
unreachable-requires c =
    let f = c.args.shape.now in
    let row = c.args.row.now in
    let start = c.in-Some.ensures in
    run_ends f.order (IsTight f c.args.a) c.in-Some.from (has row) (has c.and_not-starts.result)
    (has c.and_not-ends.result) c.requires.order.1
    c.requires.row (λ i below. c.and_not-starts.ensures i
    ∙ ap (λ b. has row i && not b) (c.up.ensures i ∙ in_limit i _ below))
    (λ i. c.and_not-ends.ensures i ∙ ap (λ b. has row i && not b) (c.down.ensures i)) start.within
    start.found
    c.in_default-first_from.ensures

pub returns : goal.returns
returns c =
    let f = c.args.shape.now in
    let row = c.args.row.now in
    row_done f.order (IsTight f) c.args.a c.loop-from.place (has row)
    (has c.and_not-starts.result) c.loop-from.runs.items
    c.loop-from.invariant.0 c.requires.order.1 c.requires.row
    (λ i below. c.and_not-starts.ensures i
    ∙ ap (λ b. has row i && not b) (c.up.ensures i ∙ in_limit i _ below))
    c.loop-from.invariant.2
    c.loop-from.invariant.1 c.in_default.ensures
