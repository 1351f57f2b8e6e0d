use Rattle.std.proofs.Common.{◌≡◌, ◌<◌, ◌↔◌, List, [], length, get_or, sym, ap, subst, ◌∙◌, arith}
use Rattle.std.proofs.Math.ListN.{length-set}
use Rattle.std.proofs.lemmas.List.Elements.{All-set}
use Rattle.gj_theory.specs.TriangularRows.{Solves, SolvesKept}
use Rattle.gj_elim.specs.Data.{BasisData, behind}
use Rattle.gj_elim.proofs.Keeping.{solutions_from}
use Rattle.gj_sparse_elim.specs.Basis.{data_of}
use Rattle.gj_sparse_elim.specs.Seen.{IsSeen}
use Rattle.gj_sparse_elim.specs.Sparse.{dense}
use Rattle.gj_sparse_elim.specs.declared.entry.Entry.{Entry}
use Rattle.gj_sparse_elim.proofs.SparseRows.{length-dense}
use Rattle.gj_sparse_elim.proofs.SeenRows.{known, just_seen}
use Rattle.gj_sparse_elim.proofs.basis.SparseBasis.insert.Goals as goal

pub returns-then-is_at-clause-kept : goal.returns-then-is_at-clause-kept
returns-then-is_at-clause-kept c =
    let D = data_of c.self.inside in
    let seen = c.as_slice.ensures.value in
    let inside : c.place_of-place.result < length c.self.inside.seen.items =
    omega (arith, c.place_of-place.ensures, c.len.ensures, c.self.inside.seen.ok.0) in
    let told = known D c.args.self.now c.self.inside.seen.items c.place_of-place.result
    c.args.row.now c.self.view_is c.self.invariant.seen inside
    (ap (λ xs. get_or xs c.place_of-place.result []) (sym seen)
    ∙ c.is_at.ensures c.if-is_at.true) in
    told.kept

pub returns-then-is_at-clause-solutions : goal.returns-then-is_at-clause-solutions
returns-then-is_at-clause-solutions c w =
    let D = data_of c.self.inside in
    let seen = c.as_slice.ensures.value in
    let inside : c.place_of-place.result < length c.self.inside.seen.items =
    omega (arith, c.place_of-place.ensures, c.len.ensures, c.self.inside.seen.ok.0) in
    let told = known D c.args.self.now c.self.inside.seen.items c.place_of-place.result
    c.args.row.now c.self.view_is c.self.invariant.seen inside
    (ap (λ xs. get_or xs c.place_of-place.result []) (sym seen)
    ∙ c.is_at.ensures c.if-is_at.true) in
    solutions_from D c.args.self.now (dense c.args.self.now.columns c.args.row.now) w _
    c.self.view_is c.self.invariant.kept.triangular
    (length-dense c.args.self.now.columns c.args.row.now) told.rows

pub invariant_of-self-2 : goal.invariant_of-self-2
invariant_of-self-2 c =
    let D = data_of c.self-2.inside in
    let old = c.args.self.now in
    let row = dense old.columns c.args.row.now in
    let now : D ≡ behind old row = c.self-2.view_is ∙ c.in_ok-inserted.ensures.kept in
    let copy_is : c.of-copy.result ≡ c.args.row.now = c.of-copy.ensures
    ∙ c.in_ok-from_slice.ensures.items in
    let new : IsSeen D.columns D.kept c.of-copy.result =
    subst (λ (b : BasisData). IsSeen b.columns b.kept c.of-copy.result) (sym now)
    (subst (λ (xs : List Entry). IsSeen old.columns (behind old row).kept xs) (sym copy_is)
    (just_seen old.columns old.inserted old.kept c.args.row.now c.requires.sparse
    c.in_ok-inserted.ensures.narrow)) in
    record {
      kept = c.self-2.invariant.kept;
      columns = c.self-2.invariant.columns;
      kept_columns = c.self-2.invariant.kept_columns;
      small_columns = c.self-2.invariant.small_columns;
      support = c.self-2.invariant.support;
      seen = All-set (IsSeen D.columns D.kept) c.self-2.inside.seen.items
          c.place_of-place-2.result c.of-copy.result new c.self-2.invariant.seen;
      some = let some = c.self-2.invariant.some in omega (
        arith,
        length-set c.self-2.inside.seen.items c.place_of-place-2.result c.of-copy.result,
      );
    }

pub returns-clause-solutions : goal.returns-clause-solutions
returns-clause-solutions c w =
    subst (λ (b : BasisData). SolvesKept w b.kept ↔ (SolvesKept w c.args.self.now.kept
    × Solves w (dense c.args.self.now.columns c.args.row.now))) (sym c.self-2.view_is)
    (c.in_ok-inserted.ensures.solutions w)
