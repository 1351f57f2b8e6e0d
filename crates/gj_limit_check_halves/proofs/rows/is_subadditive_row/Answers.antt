use Rattle.gj_shape.specs.declared.faces.FaceKind.TheVariants.{Vertex, Horizontal, Vertical, Diagonal, Lower, Upper}
use Rattle.gj_check_minimal.proofs.TestsInTurn.{one_fails}
use Rattle.gj_limit_check_halves.specs.Half.{data_of}
use Rattle.gj_limit_check_halves.proofs.HalfTests.{kind_of_row, row_of_kinds}
use Rattle.gj_limit_check_halves.proofs.rows.is_subadditive_row.Goals as goal

pub returns-then-not-passes_kind : goal.returns-then-not-passes_kind
returns-then-not-passes_kind c =
    one_fails _ _ _ c.if-not-passes_kind.true c.passes_kind.ensures
    (kind_of_row (data_of c.args.half) c.args.a Vertex)

pub returns-then-not-passes_kind-2 : goal.returns-then-not-passes_kind-2
returns-then-not-passes_kind-2 c =
    one_fails _ _ _ c.if-not-passes_kind-2.true c.passes_kind-2.ensures
    (kind_of_row (data_of c.args.half) c.args.a Horizontal)

pub returns-then-not-passes_kind-3 : goal.returns-then-not-passes_kind-3
returns-then-not-passes_kind-3 c =
    one_fails _ _ _ c.if-not-passes_kind-3.true c.passes_kind-3.ensures
    (kind_of_row (data_of c.args.half) c.args.a Vertical)

pub returns-then-not-passes_kind-4 : goal.returns-then-not-passes_kind-4
returns-then-not-passes_kind-4 c =
    one_fails _ _ _ c.if-not-passes_kind-4.true c.passes_kind-4.ensures
    (kind_of_row (data_of c.args.half) c.args.a Diagonal)

pub returns-then-not-passes_kind-5 : goal.returns-then-not-passes_kind-5
returns-then-not-passes_kind-5 c =
    one_fails _ _ _ c.if-not-passes_kind-5.true c.passes_kind-5.ensures
    (kind_of_row (data_of c.args.half) c.args.a Lower)

pub returns : goal.returns
returns c =
    let f = data_of c.args.half in (
      λ t. row_of_kinds f c.args.a record {
        vertex = c.passes_kind.ensures.0 c.if-not-passes_kind.false;
        horizontal = c.passes_kind-2.ensures.0 c.if-not-passes_kind-2.false;
        vertical = c.passes_kind-3.ensures.0 c.if-not-passes_kind-3.false;
        diagonal = c.passes_kind-4.ensures.0 c.if-not-passes_kind-4.false;
        lower = c.passes_kind-5.ensures.0 c.if-not-passes_kind-5.false;
        upper = c.passes_kind-6.ensures.0 t;
      },
      λ row. c.passes_kind-6.ensures.1 (kind_of_row f c.args.a Upper row),
    )
