use Rattle.std.proofs.Common.{◌⊎◌, ◌+◌, inl, inr, List, length, take, drop, refl, ap, subst, ◌∙◌}
use Rattle.std.proofs.lemmas.List.{take_all}
use Rattle.gj_problem.specs.declared.pieces.Piece.{Piece}
use Rattle.gj_frac.proofs.Refusals.{on_err}
use Rattle.gj_fields.specs.Rational.{Rational, rational, ◌+ℚ◌, ◌*ℚ◌, ◌-ℚ◌}
use Rattle.gj_problem.specs.declared.problem.Entry.{Entry}
use Rattle.gj_problem.specs.Problems.{sum_at}
use Rattle.gj_problem.specs.Steps.{IsWideAt, IsWideWithin}
use Rattle.gj_problem.proofs.Prefixes.{split_at}
use Rattle.gj_safe_cut.specs.AddedTerms.{surplus_of_sum, IsWideAdding}
use Rattle.gj_safe_cut.proofs.NarrowTerms.{narrow_adding_none, narrow_adding_next}
use Rattle.gj_safe_cut.proofs.TermSums.{none_added, one_added, all_added}
use Rattle.gj_safe_cut.proofs.terms.add_terms.Goals as goal

pub loop-piece-init : goal.loop-piece-init
loop-piece-init g c = record {
  added = none_added _ (surplus_of_sum c.args.sum.now);
  narrow = λ one. narrow_adding_none (g.V.Values.has_value c.args.values.now)
      (g.V.Values.is_out c.args.values.now) c.args.slopes.up c.args.slopes.down
      one (length c.args.sum.now.coefficients.items) (surplus_of_sum c.args.sum.now);
  count = refl;
}

pub loop-piece-preserved : goal.loop-piece-preserved
loop-piece-preserved g c =
    let s = c.piece-item.result in
    let k = c.in_ok-coefficient.coefficient in
    record {
      added = one_added _ c.args.pieces.now c.loop-piece.piece-index s k
          (surplus_of_sum c.args.sum.now)
          (surplus_of_sum c.loop-piece.sum) (surplus_of_sum c.add.new.self) c.loop-piece-test.true
          c.piece-item.is c.loop-piece.invariant.added c.in_ok-coefficient.ensures.coefficient
          (λ (point : List Rational). c.in_ok-add.ensures.added point
          ∙ ap (λ (es : List Entry). surplus_of_sum c.loop-piece.sum point +ℚ rational k
          *ℚ (sum_at point es -ℚ rational s.inequality.right))
          c.as_slice.ensures);
      narrow = λ one. narrow_adding_next (g.V.Values.has_value c.args.values.now)
          (g.V.Values.is_out c.args.values.now) c.args.slopes.up
          c.args.slopes.down one c.args.pieces.now c.loop-piece.piece-index s k
          (length c.args.sum.now.coefficients.items)
          (surplus_of_sum c.args.sum.now) c.loop-piece.sum.coefficients.items
          c.loop-piece.sum.right
          c.loop-piece-test.true c.piece-item.is
          c.loop-piece.invariant.added c.loop-piece.invariant.count
          (c.loop-piece.invariant.narrow one) c.in_ok-coefficient.ensures.narrow
          c.in_ok-coefficient.ensures.coefficient
          (subst (λ (es : List Entry). IsWideWithin c.loop-piece.sum.coefficients.items k es
          ⊎ IsWideAt c.loop-piece.sum.right k s.inequality.right → ⊥)
          c.as_slice.ensures c.in_ok-add.ensures.narrow);
      count = c.add.ensures.count ∙ c.loop-piece.invariant.count;
    }

pub returns-clause-added : goal.returns-clause-added
returns-clause-added g c =
    all_added _ c.args.pieces.now c.loop-piece.piece-index (surplus_of_sum c.args.sum.now)
    (surplus_of_sum c.loop-piece.sum)
    c.loop-piece-test.false c.loop-piece.invariant.added

pub returns-in_err-coefficient-clause-wide : goal.returns-in_err-coefficient-clause-wide
returns-in_err-coefficient-clause-wide g c =
    let ps = c.args.pieces.now in
    let i = c.loop-piece.piece-index in
    on_err c.from_residual.result
    (IsWideAdding (g.V.Values.has_value c.args.values.now)
    (g.V.Values.is_out c.args.values.now) c.args.slopes.up c.args.slopes.down ps
    (length c.args.sum.now.coefficients.items) (surplus_of_sum c.args.sum.now))
    (record {
      before = take i ps;
      next = c.piece-item.result;
      after = drop (i + 1) ps;
      place = split_at ps i c.piece-item.result c.loop-piece-test.true c.piece-item.is;
      coefficients = c.loop-piece.invariant.added.coefficients;
      given = c.loop-piece.invariant.added.given;
      sum = c.loop-piece.sum.coefficients.items;
      right = c.loop-piece.sum.right;
      count = c.loop-piece.invariant.count;
      adds = c.loop-piece.invariant.added.adds;
      wide = inl c.in_err-coefficient.ensures.wide;
    })

pub returns-in_err-add-clause-wide : goal.returns-in_err-add-clause-wide
returns-in_err-add-clause-wide g c =
    let ps = c.args.pieces.now in
    let i = c.loop-piece.piece-index in
    let s = c.piece-item.result in
    let k = c.in_ok-coefficient.coefficient in
    let sum = c.loop-piece.sum in
    on_err c.from_residual-in_err-add.result
    (IsWideAdding (g.V.Values.has_value c.args.values.now)
    (g.V.Values.is_out c.args.values.now) c.args.slopes.up c.args.slopes.down ps
    (length c.args.sum.now.coefficients.items) (surplus_of_sum c.args.sum.now))
    (record {
      before = take i ps;
      next = s;
      after = drop (i + 1) ps;
      place = split_at ps i s c.loop-piece-test.true c.piece-item.is;
      coefficients = c.loop-piece.invariant.added.coefficients;
      given = c.loop-piece.invariant.added.given;
      sum = sum.coefficients.items;
      right = sum.right;
      count = c.loop-piece.invariant.count;
      adds = c.loop-piece.invariant.added.adds;
      wide = inr (
        k,
        c.in_ok-coefficient.ensures.coefficient,
        subst (λ (es : List Entry). IsWideWithin sum.coefficients.items k es
            ⊎ IsWideAt sum.right k s.inequality.right) c.as_slice.ensures
            c.in_err-add.ensures.wide,
      );
    })

pub returns-clause-narrow : goal.returns-clause-narrow
returns-clause-narrow g c one =
    subst
    (λ (ps : List Piece). IsWideAdding (g.V.Values.has_value c.args.values.now)
    (g.V.Values.is_out c.args.values.now) c.args.slopes.up
    c.args.slopes.down ps (length c.args.sum.now.coefficients.items)
    (surplus_of_sum c.args.sum.now) → ⊥)
    (take_all c.loop-piece.piece-index c.args.pieces.now c.loop-piece-test.false)
    (c.loop-piece.invariant.narrow one)
