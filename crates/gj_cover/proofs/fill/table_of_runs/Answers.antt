use Rattle.std.proofs.Common.{◌≡◌, ◌↔◌, ◌⊎◌, ◌<◌, ℕ, length, get_or, sym, subst, ◌∙◌, arith}
use Rattle.std.proofs.lemmas.List.{get_or_default}
use Rattle.gj_faces.specs.Runs.{RunHolds}
use Rattle.gj_faces.specs.declared.run.Run.{Run}
use Rattle.gj_cover.proofs.Marks.{IsMarked, HoldRuns, no_runs, one_run_more, tells_runs}
use Rattle.gj_cover.proofs.fill.table_of_runs.Goals as goal

pub loop-run-init : goal.loop-run-init
loop-run-init c = (
  c.in_ok-rows.ensures.length,
  no_runs c.args.q c.args.runs.now c.in_ok-rows.rows.items c.in_ok-rows.ensures.none,
)

pub mark-requires-clause-order : goal.mark-requires-clause-order
mark-requires-clause-order c = rw c.loop-run.invariant.0 c.requires.order

pub loop-run-preserved : goal.loop-run-preserved
loop-run-preserved c =
    let zero : Run = record { a = 0; from = 0; to = 0 } in
    let n = c.loop-run.run-index in
    let run = get_or c.args.runs.now n zero in
    let rows = c.loop-run.rows.items in
    let new = c.mark.new.rows.items in
    let marked = subst (λ (q : ℕ). (i j : ℕ) → i < q → j < q →
    IsMarked new i j ↔ (IsMarked rows i j ⊎ RunHolds q i j run))
    c.loop-run.invariant.0 c.mark.ensures.marked in (
      c.mark.ensures.length ∙ c.loop-run.invariant.0,
      one_run_more c.args.q n c.args.runs.now run rows new c.loop-run-test.true
          (get_or_default c.args.runs.now n run zero c.loop-run-test.true) c.loop-run.invariant.1
          marked,
    )

pub returns-clause-tells : goal.returns-clause-tells
returns-clause-tells c =
    let some = c.requires.order.0 in
    let t = c.in_ok-table.table in
    let all : c.loop-run.run-index ≡ length c.args.runs.now = omega arith in
    tells_runs c.args.q c.args.runs.now c.loop-run.run-index t
    (omega arith) c.in_ok-table.ensures.order all
    (subst (HoldRuns c.args.q c.args.runs.now c.loop-run.run-index)
    (sym c.in_ok-table.ensures.rows) c.loop-run.invariant.1)
