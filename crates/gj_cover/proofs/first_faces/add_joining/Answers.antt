use Rattle.gj_shape.specs.Additive.{IsAdditive}
use Rattle.gj_shape.specs.declared.faces.FaceKind.TheVariants.{Horizontal, Vertical, Diagonal, Upper}
use Rattle.gj_cover.specs.FirstFound.{IsThis}
use Rattle.gj_cover.specs.Links.{LeadsBy}
use Rattle.gj_cover.specs.Table.{IsTightInTable}
use Rattle.gj_cover.proofs.Adding.{EitherOf, passed_all, both_added, added_restated}
use Rattle.gj_cover.proofs.FirstFaces.{steps_at, Five, five_on, five_back, all_behind}
use Rattle.gj_cover.proofs.first_faces.add_joining.Goals as goal

pub returns-then-is_in_row_before : goal.returns-then-is_in_row_before
returns-then-is_in_row_before c =
    let t = c.args.table.now in
    let q = t.order in
    let i = c.args.from in
    let j = c.args.to in
    let step = c.difference-step.result in
    let short = c.difference-short.result in
    let found = c.args.found.now in
    let steps = steps_at q c.order-q.result i step short j c.order-q.ensures.value c.requires.start
    c.requires.end
    c.difference-step.ensures.below c.difference-short.ensures.below c.difference-step.ensures.value
    c.difference-short.ensures.value in
    passed_all (LeadsBy q i j) (IsAdditive (IsTightInTable t)) found
    (λ kind a b leads. all_behind found i step short j
    (c.is_in_row_before.ensures c.if-is_in_row_before.true) kind a b
    (five_back q i step short j steps kind a b leads))

pub returns : goal.returns
returns c =
    let t = c.args.table.now in
    let q = t.order in
    let i = c.args.from in
    let j = c.args.to in
    let step = c.difference-step.result in
    let short = c.difference-short.result in
    let steps = steps_at q c.order-q.result i step short j c.order-q.ensures.value c.requires.start
    c.requires.end
    c.difference-step.ensures.below c.difference-short.ensures.below c.difference-step.ensures.value
    c.difference-short.ensures.value in
    let P = IsAdditive (IsTightInTable t) in
    let found = c.args.found.now in
    let one = IsThis Upper i short in
    let two = EitherOf one (IsThis Horizontal i step) in
    let three = EitherOf two (IsThis Diagonal i j) in
    let four = EitherOf three (IsThis Upper short i) in
    let first = both_added one (IsThis Horizontal i step) P found c.add_face.new.found
    c.add_face-2.new.found
    c.add_face.ensures c.add_face-2.ensures in
    let second = both_added two (IsThis Diagonal i j) P found c.add_face-2.new.found
    c.add_face-3.new.found
    first c.add_face-3.ensures in
    let third = both_added three (IsThis Upper short i) P found c.add_face-3.new.found
    c.add_face-4.new.found
    second c.add_face-4.ensures in
    let fourth = both_added four (IsThis Vertical step i) P found c.add_face-4.new.found
    c.add_face-5.new.found
    third c.add_face-5.ensures in
    added_restated (Five i step short j) (LeadsBy q i j) P found c.add_face-5.new.found
    (five_on q i step short j steps) (five_back q i step short j steps) fourth
