use Rattle.std.proofs.Common.{rules, ◌≡◌, pos, neg_ℤ, if◌then◌else◌, get_or, refl, sym, ap, subst, ◌∙◌, arith}
use Rattle.std.proofs.lemmas.Int.{to_z-of_z}
use mir.Syntax.{w64}
use Rattle.gj_frac.specs.Fraction.{Fits}
use Rattle.gj_theory.proofs.WideNumbers.{read_fitting}
use Rattle.gj_elim.proofs.LazyProgress.{some_small, zero_small}
use Rattle.gj_sparse_elim.specs.Left.{signed_row}
use Rattle.gj_sparse_elim.proofs.ColumnSets.{next_column}
use Rattle.gj_sparse_elim.proofs.SparseRows.{gathered_start}
use Rattle.gj_sparse_elim.proofs.LeftRows.{signed_to, signed_none, signed_more, signed_end, signed_fits}
use Rattle.gj_sparse_elim.proofs.left.signed_entries.Goals as goal
use Rattle.gj_sparse_elim.proofs.left.signed_entries.Goals.{then-row-found-ne0+in_ok-push, else-row-found-ne0}

pub loop-found-init : goal.loop-found-init
loop-found-init c = record {
  gathered = gathered_start (signed_row c.args.is_negative c.args.row.now)
      c.new-entries.result.items
      c.new-entries.ensures.items;
  within = omega arith;
}

pub loop-found-preserved : goal.loop-found-preserved
loop-found-preserved c =
    let next = next_column c.args.touched.now c.args.row.now c.loop-found.next c.in-Some.found
    c.requires.support c.in-Some.ensures in
    let inside = next.inside in
    let so_far = signed_to c.args.is_negative c.args.row.now c.loop-found.entries.items
    c.loop-found.next c.in-Some.found c.loop-found.invariant.gathered next in
    let read = to_z-of_z w64 (get_or c.args.row.now c.in-Some.found (pos 0)) (search rules) in
    record {
      gathered = elim c.if-row-found-ne0.branch [
        | then-row-found-ne0+in_ok-push w ↦
            let x = get_or c.args.row.now c.in-Some.found (pos 0) in
            let number : w.signed.result ≡ (if c.args.is_negative then neg_ℤ x else x) =
            w.signed.ensures ∙ ap (λ y. if c.args.is_negative then neg_ℤ y else y) read in
            signed_more c.args.is_negative c.args.row.now c.loop-found.entries.items _
            c.in-Some.found _ so_far refl
            (read_fitting w.signed.result (subst Fits (sym number)
            (signed_fits c.args.is_negative x (c.requires.small c.in-Some.found))) ∙ number)
            (some_small (get_or c.args.row.now c.in-Some.found (pos 0)) w.if-row-found-ne0.true)
            (c.requires.small c.in-Some.found) (ap (λ v. v.items) w.entries-is
            ∙ w.in_ok-push.ensures.items)
        | else-row-found-ne0 w ↦
            let none = zero_small (get_or c.args.row.now c.in-Some.found (pos 0)) (search rules)
            w.if-row-found-ne0.false in
            let on = signed_none c.args.is_negative c.args.row.now c.loop-found.entries.items
            c.in-Some.found so_far none in
            rw (ap (λ v. v.items) w.entries-is) on
      ];
      within = omega arith;
    }

pub returns-clause-sparse : goal.returns-clause-sparse
returns-clause-sparse c =
    (signed_end c.args.is_negative c.args.row.now c.loop-found.entries.items c.loop-found.next
    c.loop-found.invariant.gathered c.loop-found.invariant.within
    (λ k high. c.requires.support.zero k (c.in_default.ensures k high))).0

pub returns-clause-value : goal.returns-clause-value
returns-clause-value c =
    (signed_end c.args.is_negative c.args.row.now c.loop-found.entries.items c.loop-found.next
    c.loop-found.invariant.gathered c.loop-found.invariant.within
    (λ k high. c.requires.support.zero k (c.in_default.ensures k high))).1
