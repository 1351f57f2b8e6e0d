use Rattle.std.proofs.Common.{◌-◌, length}
use Rattle.std.proofs.lemmas.Bool.{eqb-true}
use Rattle.gj_shape.specs.SlopeRows.{component_in}
use Rattle.gj_extreme.proofs.SeenRows.{same_row_as_before}
use Rattle.gj_extreme.proofs.inserted_rows.has_row_of_pair_before.Goals as goal

pub returns : goal.returns
returns c = λ e n place.
    let comp = component_in c.args.component.now in
    let same = eqb-true (comp (c.args.b - 1)) (comp c.wrapped.result) e in
    same_row_as_before comp n (length c.args.component.now) place c.args.a c.args.b c.wrapped.result
    c.requires.positive
    c.requires.first c.requires.second c.if-a-b.false c.wrapped.ensures.value same
