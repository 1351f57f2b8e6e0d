use Rattle.gj_cut.proofs.RowTerms.{right_fine}
use Rattle.gj_cut.proofs.right_sides.gmic_place.Goals as goal

pub returns-clause-kind : goal.returns-clause-kind
returns-clause-kind c = c.part_of.ensures.kind (right_fine c.args.row.now c.requires)
