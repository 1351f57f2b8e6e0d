use Rattle.std.proofs.Common.{◌≡◌, pos, to_z, ap, sym, ◌∙◌}
use Rattle.std.proofs.lemmas.Int.{to_z-of_z}
use mir.Syntax.{w64}
use Rattle.gj_shape.specs.Elimination.{scaled}
use Rattle.gj_theory.proofs.DividedRows.{scaled_one}
use Rattle.gj_sparse_elim.proofs.ColumnSets.{support_still}
use Rattle.gj_sparse_elim.proofs.SparseSteps.{scaled_zero}
use Rattle.gj_sparse_elim.proofs.lazy.multiply.Goals as goal

pub returns-else-factor-ne1-clause-value : goal.returns-else-factor-ne1-clause-value
returns-else-factor-ne1-clause-value c =
    let is : c.args.factor ≡ pos 1 =
    sym (to_z-of_z w64 c.args.factor c.ranges.factor) ∙ ap (to_z w64) c.if-factor-ne1.false in
    sym (scaled_one c.args.row.now) ∙ ap (λ u. scaled u c.args.row.now) (sym is)

pub returns-then-factor-ne1-clause-support : goal.returns-then-factor-ne1-clause-support
returns-then-factor-ne1-clause-support c =
    support_still c.args.touched.now c.args.row.now c.scale.new.row c.requires.support
    c.scale.auto.row
    (λ k none. scaled_zero _ c.args.row.now c.scale.new.row k c.scale.ensures none)
