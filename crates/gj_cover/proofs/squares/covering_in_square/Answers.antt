use Rattle.std.proofs.Common.{arith}
use Rattle.gj_shape.specs.declared.faces.FaceKind.TheVariants.{Upper}
use Rattle.gj_cover.specs.Table.{CoversBy}
use Rattle.gj_cover.proofs.OneSquare.{first_there, none_there, ranked, all_ranked, edge_covers_none}
use Rattle.gj_cover.proofs.squares.covering_in_square.Goals as goal

pub returns-then-is_covering-2 : goal.returns-then-is_covering-2
returns-then-is_covering-2 c =
    let t = c.args.table.now in
    let i = c.args.i in
    let a = c.args.a in
    let b = c.args.b in
    let none = edge_covers_none t i a b in
    first_there (CoversBy t i) Upper a b (c.is_covering-2.ensures.0 c.if-is_covering-2.true)
    (ranked (λ kind. CoversBy t i kind a b) 5 none.0 (λ low. none.1) (λ low. none.2) (λ low. none.3)
    (λ low h. let lower = c.is_covering.ensures.1 h in cc (lower, c.if-is_covering.false))
    (λ low h. absurd (omega arith)))

pub returns : goal.returns
returns c =
    let t = c.args.table.now in
    let i = c.args.i in
    let a = c.args.a in
    let b = c.args.b in
    let none = edge_covers_none t i a b in
    none_there (CoversBy t i) a b
    (all_ranked (λ kind. CoversBy t i kind a b) none.0 none.1 none.2 none.3
    (λ h. let lower = c.is_covering.ensures.1 h in cc (lower, c.if-is_covering.false))
    (λ h. let upper = c.is_covering-2.ensures.1 h in cc (upper, c.if-is_covering-2.false)))
