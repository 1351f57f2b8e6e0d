use Rattle.std.proofs.Common.{◌≡◌, ⊎_elim, List, ℤ, pos, to_z, of_z, refl, sym, ap, subst, ◌∙◌}
use Rattle.gj_frac.specs.Fraction.{numerator}
use Rattle.gj_frac.proofs.Reduced.{read_part}
use Rattle.gj_fields.specs.Rational.{◌+ℚ◌, ◌*ℚ◌}
use Rattle.gj_problem.specs.declared.problem.Entry.{Entry}
use Rattle.gj_problem.specs.Combinations.{IsAdded}
use Rattle.gj_problem.specs.Problems.{surplus_at}
use Rattle.gj_problem.proofs.AddedSums.{none_weighted}
use Rattle.gj_safe_cut.specs.AddedTerms.{surplus_of}
use Rattle.gj_relaxed.proofs.RowGaps.{difference_value}
use Rattle.gj_relaxed.proofs.NarrowGaps.{narrow_rise}
use Rattle.gj_relaxed.proofs.rows.add_rise_over_one.Goals as goal
use mir.Syntax.{w128}

pub returns-in_ok-add : goal.returns-in_ok-add
returns-in_ok-add c = λ cs r h.
    let s = c.args.piece.now in
    let entry = c.args.entry in
    let rise = c.in_ok-rise.rise in
    let value = difference_value entry s.entry rise c.in_ok-rise.ensures.value in
    let (ds, t, parts, given) = c.in_ok-add.ensures cs r h in
    let added : IsAdded cs r rise s.inequality.entries s.inequality.right ds t =
    subst (λ (es : List Entry). IsAdded cs r rise es s.inequality.right ds t) c.as_slice.ensures
    given in (
      ds,
      t,
      parts,
      record {
        count = added.count;
        adds = λ point.
            added.adds point ∙ ap (λ w. surplus_of cs r point +ℚ w *ℚ surplus_at point s.inequality)
            value;
        fits = narrow_rise cs r entry rise s c.in_ok-rise.ensures.fits value
            (λ some. ⊎_elim added.entries_fit added.right_fits);
      },
    )

pub returns-else-num-ne0 : goal.returns-else-num-ne0
returns-else-num-ne0 c = λ cs r h.
    let s = c.args.piece.now in
    let entry = c.args.entry in
    let rise = c.in_ok-rise.rise in
    let value = difference_value entry s.entry rise c.in_ok-rise.ensures.value in
    let none : numerator rise ≡ pos 0 =
    sym (read_part rise.num rise.lowest.num_fits)
    ∙ ap (λ (z : ℤ). to_z w128 (of_z w128 z)) (sym c.num.ensures)
    ∙ ap (to_z w128) c.if-num-ne0.false in (
      cs,
      r,
      h,
      record {
        count = refl;
        adds = λ point.
            none_weighted rise (surplus_of cs r point) (surplus_at point s.inequality) none
            ∙ ap (λ w. surplus_of cs r point +ℚ w *ℚ surplus_at point s.inequality) value;
        fits = narrow_rise cs r entry rise s c.in_ok-rise.ensures.fits value
            (λ some. absurd (some none));
      },
    )
