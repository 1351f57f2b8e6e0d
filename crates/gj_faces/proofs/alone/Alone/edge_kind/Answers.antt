use Rattle.std.proofs.Common.{sym, ◌∙◌}
use Rattle.gj_shape.specs.declared.faces.FaceKind.TheVariants.{Vertex, Horizontal, Vertical, Diagonal}
use Rattle.gj_faces.proofs.alone.Alone.edge_kind.Goals as goal

pub returns-then-contains-clause-maximal : goal.returns-then-contains-clause-maximal
returns-then-contains-clause-maximal c = λ f a alone below.
    (alone.each Vertex c.args.b below).0 (sym c.contains.ensures ∙ c.if-contains.true)

pub returns-then-contains-2-clause-maximal : goal.returns-then-contains-2-clause-maximal
returns-then-contains-2-clause-maximal c = λ f a alone below.
    (alone.each Horizontal c.args.b below).0 (sym c.contains-else-contains.ensures
    ∙ c.if-contains-2.true)

pub returns-then-contains-3-clause-maximal : goal.returns-then-contains-3-clause-maximal
returns-then-contains-3-clause-maximal c = λ f a alone below.
    (alone.each Vertical c.args.b below).0 (sym c.contains-else-contains-2.ensures
    ∙ c.if-contains-3.true)

pub returns-else-contains-3-clause-maximal : goal.returns-else-contains-3-clause-maximal
returns-else-contains-3-clause-maximal c = λ f a alone below.
    (alone.each Diagonal c.args.b below).0
    (alone.rest c.args.b c.requires.one (sym c.contains.ensures ∙ c.if-contains.false)
    (sym c.contains-else-contains.ensures ∙ c.if-contains-2.false)
    (sym c.contains-else-contains-2.ensures ∙ c.if-contains-3.false))
