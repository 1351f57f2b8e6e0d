use Rattle.std.proofs.Common.{inl, inr, ◌∙◌, ◌+◌, ◌-◌, ◌/◌, arith}
use Rattle.gj_faces.proofs.RunLists.{narrowed_up, narrowed_down}
use Rattle.gj_faces.proofs.search.is_in_runs.Goals as goal

pub loop-low-preserved-then-run-b : goal.loop-low-preserved-then-run-b
loop-low-preserved-then-run-b c =
    let first = c.wrapped-a.ensures.value in
    let second = c.wrapped-b.ensures.value in (
      omega arith,
      omega arith,
      narrowed_up c.args.q c.args.runs.now c.args.i c.args.j c.loop-low.low c.loop-low.high
          (c.loop-low.low + (c.loop-low.high - c.loop-low.low) / 2)
          (record { a = 0; from = 0; to = 0 }) c.requires.in_order
          (omega arith)
          (elim c.if-run-b.either [
            | inl row ↦ inl (omega arith)
            | inr same ↦ inr (same.1 ∙ first, let place = same.2 in omega arith)
          ])
          c.loop-low.invariant.2,
    )

pub loop-low-preserved : goal.loop-low-preserved
loop-low-preserved c =
    let first = c.wrapped-a.ensures.value in
    let second = c.wrapped-b.ensures.value in (
      omega arith,
      omega arith,
      narrowed_down c.args.q c.args.runs.now c.args.i c.args.j c.loop-low.low c.loop-low.high
          (c.loop-low.low + (c.loop-low.high - c.loop-low.low) / 2)
          (record { a = 0; from = 0; to = 0 }) c.requires.in_order
          (omega arith) (elim c.if-b-run.either [
            | inl row ↦ inl (omega arith)
            | inr place ↦ elim c.if-run-b.either [
              | inl same ↦ inr (same.1 ∙ first, omega arith)
              | inr apart ↦ inl (omega arith)
            ]
          ])
          c.loop-low.invariant.2,
    )
