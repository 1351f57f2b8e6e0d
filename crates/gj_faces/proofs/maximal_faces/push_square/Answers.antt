use Rattle.std.proofs.Common.{◌≡◌, ◌↔◌, Bool, [], ◌∷◌, IsTrue, sym, ◌∙◌}
use Rattle.gj_shape.specs.declared.faces.FaceKind.TheVariants.{Vertex, Horizontal, Vertical, Diagonal, Lower, Upper}
use Rattle.gj_shape.specs.WalkOrder.{faces_in}
use Rattle.gj_faces.proofs.AddedFaces.{adds_joined, adds_edge, adds_no_edge}
use Rattle.gj_faces.proofs.maximal_faces.push_square.Goals as goal

-- what holds of a test holds of what is the same
same_as : (x y : Bool) (P : Type 0) → x ≡ y → IsTrue y ↔ P → IsTrue x ↔ P
same_as x y P same both = (λ yes. both.0 (sym same ∙ yes), λ h. same ∙ both.1 h)

pub edge_kind-kind-requires-clause-one : goal.edge_kind-kind-requires-clause-one
edge_kind-kind-requires-clause-one c = sym c.contains.ensures ∙ c.if-contains.true

pub returns-then-contains-clause-added : goal.returns-then-contains-clause-added
returns-then-contains-clause-added c = λ f alone below.
    adds_edge f c.edge_kind-kind.result c.args.a c.args.b c.args.alone.now c.args.faces.now.items
    c.push_reserved.new.self.items alone c.edge_kind-kind.ensures.plain
    (c.edge_kind-kind.ensures.maximal f c.args.a alone below) c.push_reserved.ensures.items

pub returns-else-contains-clause-added : goal.returns-else-contains-clause-added
returns-else-contains-clause-added c = λ f alone below.
    let a = c.args.a in
    let b = c.args.b in
    let old = c.args.faces.now.items in
    let five = c.push_if.new.faces.items in
    let all = c.push_if-else-contains.new.faces.items in
    adds_joined f (faces_in (Vertex ∷ Horizontal ∷ Vertical ∷ Diagonal ∷ Lower ∷ []) a b)
    (faces_in (Upper ∷ []) a b) old five all
    (adds_joined f (faces_in (Vertex ∷ Horizontal ∷ Vertical ∷ Diagonal ∷ []) a b)
    (faces_in (Lower ∷ []) a b) old old five
    (adds_no_edge f a b c.args.alone.now old alone below
    (sym c.contains.ensures ∙ c.if-contains.false))
    (c.push_if.ensures.added f
    (same_as _ _ _ c.contains-else-contains.ensures (alone.each Lower b below))))
    (c.push_if-else-contains.ensures.added f
    (same_as _ _ _ c.contains-else-contains-2.ensures (alone.each Upper b below)))
