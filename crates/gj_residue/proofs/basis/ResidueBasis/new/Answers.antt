use Rattle.std.proofs.Common.{length, map, ap, ap₂, sym, subst, ◌∙◌}
use Rattle.gj_theory.specs.TriangularResidues.{AreTriangularResidues}
use Rattle.gj_theory.proofs.Triangular.{no_rows_triangular}
use Rattle.gj_elim.specs.KeptRows.{kept_rows}
use Rattle.gj_residue.specs.Rows.{numbers_of}
use Rattle.gj_residue.proofs.basis.ResidueBasis.new.Goals as goal

pub invariant_of-result : goal.invariant_of-result
invariant_of-result c = record {
  kept = record {
    lines = ap length c.new.ensures.items ∙ sym (ap length c.new-2.ensures.items);
    triangular = subst (AreTriangularResidues c.args.columns)
        (sym (ap₂ (λ ls rs. kept_rows ls (map numbers_of rs)) c.new.ensures.items
        c.new-2.ensures.items))
        (no_rows_triangular c.args.columns);
    narrow = c.ranges.columns.fits;
  };
  columns = sym c.in_ok-vec.field-0.ok.0 ∙ c.in_ok-vec.ensures.len;
}
