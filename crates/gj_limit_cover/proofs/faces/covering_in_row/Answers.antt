use Rattle.std.proofs.Common.{◌<◌, sym, subst, arith}
use Rattle.gj_loops.specs.IndexSets.{has}
use Rattle.gj_jumps.specs.LimitCover.{IsTightAt}
use Rattle.gj_shape.specs.declared.faces.Face.{Face}
use Rattle.gj_cover.specs.FirstFound.{IsFirstOf}
use Rattle.gj_limit_cover.specs.LimitCover.{Covers}
use Rattle.gj_limit_cover.proofs.RowCovers.{IsInRow, all_listed, squares_below, none_more, none_next, none_in_row, lower_found, upper_found}
use Rattle.gj_limit_cover.proofs.faces.covering_in_row.Goals as goal

pub squares-smaller : goal.squares-smaller
squares-smaller c =
    let low = c.in-Some.ensures.behind in
    let high = c.in-Some.ensures.within in
    omega arith

pub is_covering-requires-clause-second : goal.is_covering-requires-clause-second
is_covering-requires-clause-second c =
    let f = c.args.shape.now in
    let q = f.order in
    let T = IsTightAt f in
    let a = c.args.a in
    let i = c.args.i in
    let row = c.row-row.result.now in
    let told = c.row-row.ensures f c.requires.joins in
    let all = all_listed q c.order-order.result T a i (has row.lower) (has row.upper)
    (has c.or-triangles.result) (has c.squares_onto.result) c.and-squares.result
    c.order-order.ensures.value told.lower told.upper c.or-triangles.ensures c.and-squares.ensures
    c.squares_onto.ensures in
    let b = c.in-Some.place in
    let low = squares_below q T a i (has row.lower) (has row.upper) (has c.or-triangles.result)
    (has c.squares_onto.result) c.and-squares.result told.lower told.upper c.or-triangles.ensures
    c.and-squares.ensures b c.in-Some.ensures.found in
    subst (λ (g : Face). g.b < q) (sym c.face_of-lower.ensures) low

pub is_covering-requires-in-Some-clause-second : goal.is_covering-requires-in-Some-clause-second
is_covering-requires-in-Some-clause-second c =
    let f = c.args.shape.now in
    let q = f.order in
    let T = IsTightAt f in
    let a = c.args.a in
    let i = c.args.i in
    let row = c.row-row.result.now in
    let told = c.row-row.ensures f c.requires.joins in
    let all = all_listed q c.order-order.result T a i (has row.lower) (has row.upper)
    (has c.or-triangles.result) (has c.squares_onto.result) c.and-squares.result
    c.order-order.ensures.value told.lower told.upper c.or-triangles.ensures c.and-squares.ensures
    c.squares_onto.ensures in
    let b = c.in-Some.place in
    let low = squares_below q T a i (has row.lower) (has row.upper) (has c.or-triangles.result)
    (has c.squares_onto.result) c.and-squares.result told.lower told.upper c.or-triangles.ensures
    c.and-squares.ensures b c.in-Some.ensures.found in
    subst (λ (g : Face). g.b < q) (sym c.face_of-upper.ensures) low

pub returns-then-is_covering : goal.returns-then-is_covering
returns-then-is_covering c =
    let f = c.args.shape.now in
    let q = f.order in
    let T = IsTightAt f in
    let a = c.args.a in
    let i = c.args.i in
    let row = c.row-row.result.now in
    let told = c.row-row.ensures f c.requires.joins in
    let all = all_listed q c.order-order.result T a i (has row.lower) (has row.upper)
    (has c.or-triangles.result) (has c.squares_onto.result) c.and-squares.result
    c.order-order.ensures.value told.lower told.upper c.or-triangles.ensures c.and-squares.ensures
    c.squares_onto.ensures in
    let b = c.in-Some.place in
    let low = squares_below q T a i (has row.lower) (has row.upper) (has c.or-triangles.result)
    (has c.squares_onto.result) c.and-squares.result told.lower told.upper c.or-triangles.ensures
    c.and-squares.ensures b c.in-Some.ensures.found in
    let none = none_more q T a i c.squares.from b c.and-squares.result c.squares.invariant
    c.in-Some.ensures
    all in
    subst (λ (g : Face). IsFirstOf (IsInRow q a) (λ kind x y. Covers q T kind x y i) g)
    (sym c.face_of-lower.ensures)
    (lower_found q T a i b low none
    (subst (λ (g : Face). Covers q T g.kind g.a g.b i) c.face_of-lower.ensures
    (c.is_covering.ensures.0 c.if-is_covering.true)))

pub returns-then-is_covering-2 : goal.returns-then-is_covering-2
returns-then-is_covering-2 c =
    let f = c.args.shape.now in
    let q = f.order in
    let T = IsTightAt f in
    let a = c.args.a in
    let i = c.args.i in
    let row = c.row-row.result.now in
    let told = c.row-row.ensures f c.requires.joins in
    let all = all_listed q c.order-order.result T a i (has row.lower) (has row.upper)
    (has c.or-triangles.result) (has c.squares_onto.result) c.and-squares.result
    c.order-order.ensures.value told.lower told.upper c.or-triangles.ensures c.and-squares.ensures
    c.squares_onto.ensures in
    let b = c.in-Some.place in
    let low = squares_below q T a i (has row.lower) (has row.upper) (has c.or-triangles.result)
    (has c.squares_onto.result) c.and-squares.result told.lower told.upper c.or-triangles.ensures
    c.and-squares.ensures b c.in-Some.ensures.found in
    let none = none_more q T a i c.squares.from b c.and-squares.result c.squares.invariant
    c.in-Some.ensures
    all in
    subst (λ (g : Face). IsFirstOf (IsInRow q a) (λ kind x y. Covers q T kind x y i) g)
    (sym c.face_of-upper.ensures)
    (upper_found q T a i b low none
    (λ d.
    let yes' = c.is_covering.ensures.1
    (subst (λ (g : Face). Covers q T g.kind g.a g.b i) (sym c.face_of-lower.ensures) d) in
    cc (yes', c.if-is_covering.false))
    (subst (λ (g : Face). Covers q T g.kind g.a g.b i) c.face_of-upper.ensures
    (c.is_covering-in-Some.ensures.0 c.if-is_covering-2.true)))

pub squares-preserved : goal.squares-preserved
squares-preserved c =
    let f = c.args.shape.now in
    let q = f.order in
    let T = IsTightAt f in
    let a = c.args.a in
    let i = c.args.i in
    let row = c.row-row.result.now in
    let told = c.row-row.ensures f c.requires.joins in
    let all = all_listed q c.order-order.result T a i (has row.lower) (has row.upper)
    (has c.or-triangles.result) (has c.squares_onto.result) c.and-squares.result
    c.order-order.ensures.value told.lower told.upper c.or-triangles.ensures c.and-squares.ensures
    c.squares_onto.ensures in
    let b = c.in-Some.place in
    let low = squares_below q T a i (has row.lower) (has row.upper) (has c.or-triangles.result)
    (has c.squares_onto.result) c.and-squares.result told.lower told.upper c.or-triangles.ensures
    c.and-squares.ensures b c.in-Some.ensures.found in
    let none = none_more q T a i c.squares.from b c.and-squares.result c.squares.invariant
    c.in-Some.ensures
    all in
    none_next q T a i b none
    (λ d.
    let yes' = c.is_covering.ensures.1
    (subst (λ (g : Face). Covers q T g.kind g.a g.b i) (sym c.face_of-lower.ensures) d) in
    cc (yes', c.if-is_covering.false))
    (λ d.
    let yes' = c.is_covering-in-Some.ensures.1
    (subst (λ (g : Face). Covers q T g.kind g.a g.b i) (sym c.face_of-upper.ensures) d) in
    cc (yes', c.if-is_covering-2.false))

pub returns : goal.returns
returns c =
    let f = c.args.shape.now in
    let q = f.order in
    let T = IsTightAt f in
    let a = c.args.a in
    let i = c.args.i in
    let row = c.row-row.result.now in
    let told = c.row-row.ensures f c.requires.joins in
    let all = all_listed q c.order-order.result T a i (has row.lower) (has row.upper)
    (has c.or-triangles.result) (has c.squares_onto.result) c.and-squares.result
    c.order-order.ensures.value told.lower told.upper c.or-triangles.ensures c.and-squares.ensures
    c.squares_onto.ensures in
    none_in_row q T a i c.squares.from c.and-squares.result c.squares.invariant c.in_default.ensures
    all
