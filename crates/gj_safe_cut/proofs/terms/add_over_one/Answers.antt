use Rattle.std.proofs.Common.{⊎_elim, List, length, refl, subst, ◌∙◌}
use Rattle.std.proofs.lemmas.List.{take_all}
use Rattle.gj_problem.specs.declared.pieces.Piece.{Piece}
use Rattle.gj_problem.specs.declared.problem.Entry.{Entry}
use Rattle.gj_problem.specs.Combinations.{IsAdded}
use Rattle.gj_safe_cut.specs.AddedTerms.{surplus_of, AreTermsAdded}
use Rattle.gj_safe_cut.proofs.NarrowTerms.{narrow_adding_none, narrow_adding_next}
use Rattle.gj_safe_cut.proofs.TermSums.{none_added, one_added}
use Rattle.gj_safe_cut.proofs.terms.add_over_one.Goals as goal

pub loop-piece-init : goal.loop-piece-init
loop-piece-init g c = λ cs r h. (
  cs,
  r,
  h,
  record {
    count = refl;
    added = none_added _ (surplus_of cs r);
    fit = λ one. narrow_adding_none (g.V.Values.has_value c.args.values.now)
        (g.V.Values.is_out c.args.values.now) c.args.slopes.up c.args.slopes.down
        one (length cs) (surplus_of cs r);
  },
)

pub loop-piece-preserved : goal.loop-piece-preserved
loop-piece-preserved g c = λ cs r h.
    let ps = c.args.pieces.now in
    let i = c.loop-piece.piece-index in
    let s = c.piece-item.result in
    let k = c.in_ok-coefficient.coefficient in
    let (ds, t, parts, so_far) = c.loop-piece.invariant cs r h in
    let (es, u, new_parts, more) = c.in_ok-add.ensures ds t parts in
    let added : IsAdded ds t k s.inequality.entries s.inequality.right es u =
    subst (λ (entries : List Entry). IsAdded ds t k entries s.inequality.right es u)
    c.as_slice.ensures more in (
      es,
      u,
      new_parts,
      record {
        count = added.count ∙ so_far.count;
        added = one_added _ ps i s k (surplus_of cs r) (surplus_of ds t)
            (surplus_of es u) c.loop-piece-test.true c.piece-item.is so_far.added
            c.in_ok-coefficient.ensures.coefficient added.adds;
        fit = λ one. narrow_adding_next (g.V.Values.has_value c.args.values.now)
            (g.V.Values.is_out c.args.values.now) c.args.slopes.up
            c.args.slopes.down one ps i s k (length cs)
            (surplus_of cs r) ds t c.loop-piece-test.true c.piece-item.is so_far.added
            so_far.count
            (so_far.fit one) c.in_ok-coefficient.ensures.narrow
            c.in_ok-coefficient.ensures.coefficient
            (⊎_elim added.entries_fit added.right_fits);
      },
    )

pub returns : goal.returns
returns g c = λ cs r h.
    let (ds, t, parts, added) = c.loop-piece.invariant cs r h in (
      ds,
      t,
      parts,
      subst
          (λ (ps : List Piece). AreTermsAdded (g.V.Values.has_value c.args.values.now)
          (g.V.Values.is_out c.args.values.now) c.args.slopes.up
          c.args.slopes.down ps cs r ds t)
          (take_all c.loop-piece.piece-index c.args.pieces.now c.loop-piece-test.false) added,
    )
