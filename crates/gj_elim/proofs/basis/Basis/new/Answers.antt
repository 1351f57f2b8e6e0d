use Rattle.std.proofs.Common.{List, length, ap, ap₂, sym, subst, ◌∙◌}
use Rattle.std.specs.Prelude.{All}
use Rattle.std.proofs.lemmas.List.Elements.{All-nil}
use Rattle.gj_theory.specs.TriangularRows.{AreTriangular}
use Rattle.gj_theory.proofs.Triangular.{no_rows_triangular}
use Rattle.gj_frac.specs.Fraction.{Fits}
use Rattle.gj_elim.specs.KeptRows.{kept_rows}
use Rattle.gj_elim.specs.declared.log.LogRow.{LogRow}
use Rattle.gj_elim.specs.Tables.{ArePlaces}
use Rattle.gj_elim.proofs.KeptTables.{no_extents}
use Rattle.gj_elim.proofs.basis.Basis.new.Goals as goal

pub invariant_of-result : goal.invariant_of-result
invariant_of-result c = record {
  kept = record {
    lines = ap length c.new.ensures.items ∙ sym (ap length c.new-2.ensures.items);
    triangular = subst (AreTriangular c.args.columns)
        (sym (ap₂ kept_rows c.new.ensures.items c.new-2.ensures.items))
        (no_rows_triangular c.args.columns);
    fits = subst (All (All Fits)) (sym c.new-2.ensures.items) (All-nil (All Fits));
    places = subst (λ (ls : List LogRow). ArePlaces c.args.columns ls
        c.in_ok-no_places.field-0.items)
        (sym c.new.ensures.items)
        c.in_ok-no_places.ensures;
    extents = no_extents c.new-2.result.items c.new-3.result.items c.new-2.ensures.items
        c.new-3.ensures.items;
    narrow = c.ranges.columns.fits;
  };
  columns = sym c.in_ok-vec.field-0.ok.0 ∙ c.in_ok-vec.ensures.len;
  small_columns = sym c.in_ok-vec-2.field-0.ok.0 ∙ c.in_ok-vec-2.ensures.len;
}
