use Rattle.std.proofs.Common.{get_or, below_more, arith, ◌∙◌, sym, refl}
use Rattle.std.proofs.lemmas.List.Elements.{All-from_get_or, All-get_or}
use Rattle.gj_shape.specs.Faces.{corners_of}
use Rattle.gj_faces.specs.Runs.{InRuns}
use Rattle.gj_faces.proofs.Corners.{corner_count}
use Rattle.gj_faces.proofs.search.in_runs.Goals as goal

pub returns-then-not-is_in_runs : goal.returns-then-not-is_in_runs
returns-then-not-is_in_runs c =
    let f = c.args.face in
    let count = corner_count f.kind f.a f.b in (
      λ impossible. absurd (let contrary = impossible in cc),
      λ additive. sym c.if-not-is_in_runs.true ∙ c.is_in_runs.ensures.1
          (rw c.corner-i.ensures
          (All-get_or (λ corner. InRuns c.args.q c.args.runs.now corner.0 corner.1)
          (corners_of f.kind f.a f.b)
          c.loop-index.index (0, 0) (omega arith) additive)),
    )

pub loop-index-preserved : goal.loop-index-preserved
loop-index-preserved c =
    let f = c.args.face in
    below_more (λ k. InRuns c.args.q c.args.runs.now (get_or (corners_of f.kind f.a f.b) k (0, 0)).0
    (get_or (corners_of f.kind f.a f.b) k (0, 0)).1) c.loop-index.index c.loop-index.invariant
    (rw c.corner-i.ensures at (c.is_in_runs.ensures.0 c.if-not-is_in_runs.false))

pub returns : goal.returns
returns c =
    let f = c.args.face in
    let count = corner_count f.kind f.a f.b in (
      λ _. All-from_get_or (λ corner. InRuns c.args.q c.args.runs.now corner.0 corner.1)
          (corners_of f.kind f.a f.b) (0, 0)
          (λ k below. c.loop-index.invariant k (omega arith)),
      λ _. refl,
    )
