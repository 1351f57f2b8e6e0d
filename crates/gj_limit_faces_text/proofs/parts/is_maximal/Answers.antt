use Rattle.std.proofs.Common.{true, sym, ◌∙◌}
use Rattle.gj_shape.specs.FunctionData.{FunctionData}
use Rattle.gj_limit_faces_text.proofs.MaximalFaces.{told_by_rows}
use Rattle.gj_limit_faces_text.proofs.parts.is_maximal.Goals as goal

pub returns-then-has : goal.returns-then-has
returns-then-has c =
    λ (f : FunctionData) a rows.
    told_by_rows f a c.args.b c.args.back c.args.here.now c.args.before.now rows c.args.kind true
    c.is_part.result
    (sym c.if-has.true ∙ c.has.ensures) c.is_part.ensures
