use Rattle.std.proofs.Common.{List, length, ap, ap₂, sym, subst, ◌∙◌, arith}
use Rattle.std.specs.Prelude.{All}
use Rattle.std.proofs.lemmas.List.Elements.{All-nil}
use Rattle.gj_theory.specs.TriangularRows.{AreTriangular}
use Rattle.gj_theory.proofs.Triangular.{no_rows_triangular}
use Rattle.gj_elim.specs.declared.log.LogRow.{LogRow}
use Rattle.gj_elim.specs.Tables.{ArePlaces}
use Rattle.gj_sparse_elim.specs.Rows.{kept_sparse}
use Rattle.gj_sparse_elim.specs.Sparse.{AreSparse}
use Rattle.gj_sparse_elim.proofs.KeptEntries.{no_bounds}
use Rattle.gj_sparse_elim.proofs.SeenRows.{empty_rows_seen}
use Rattle.gj_sparse_elim.proofs.basis.SparseBasis.new.Goals as goal

pub invariant_of-result : goal.invariant_of-result
invariant_of-result c = record {
  kept = record {
    lines = ap length c.new.ensures.items ∙ sym (ap length c.new-2.ensures.items);
    sparse = subst (All (AreSparse c.args.columns)) (sym c.new-2.ensures.items)
        (All-nil (AreSparse c.args.columns));
    triangular = subst (AreTriangular c.args.columns)
        (sym (ap₂ (kept_sparse c.args.columns) c.new.ensures.items c.new-2.ensures.items))
        (no_rows_triangular c.args.columns);
    places = subst (λ (ls : List LogRow). ArePlaces c.args.columns ls
        c.in_ok-no_places.field-0.items)
        (sym c.new.ensures.items)
        c.in_ok-no_places.ensures;
    bounds = no_bounds c.args.columns c.new-2.result.items c.new-3.result.items
        c.new-2.ensures.items
        c.new-3.ensures.items;
    narrow = c.ranges.columns.fits;
  };
  columns = sym c.in_ok-vec.field-0.ok.0 ∙ c.in_ok-vec.ensures.len;
  kept_columns = sym c.in_ok-vec-2.field-0.ok.0 ∙ c.in_ok-vec-2.ensures.len;
  small_columns = c.in_ok-zeros.ensures.columns;
  support = record {
    room = let room = c.in_ok-no_columns.ensures.room in let len =
        c.in_ok-zeros.ensures.columns in omega arith;
    few = c.in_ok-no_columns.ensures.few;
    within = λ k found. let none = c.in_ok-no_columns.ensures.empty k in absurd cc;
    zero = λ k none. c.in_ok-zeros.ensures.zero k;
  };
  seen = empty_rows_seen c.args.columns _ c.in_ok-empty_rows.field-0.items
      c.in_ok-empty_rows.ensures.empty;
  some = let count = c.in_ok-empty_rows.ensures.count in omega arith;
}
