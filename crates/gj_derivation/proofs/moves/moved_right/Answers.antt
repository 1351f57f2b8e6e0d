use Rattle.std.proofs.Common.{◌≡◌, inl, inr, get_or, refl, sym, subst, arith, rules}
use Rattle.std.proofs.lemmas.Option.{MatchOption-at_some}
use Rattle.gj_problem.proofs.AddedSums.{sum_value, product_value}
use Rattle.gj_frac.proofs.Refusals.{on_err}
use Rattle.gj_safe_cut.proofs.PointCuts.{is_true}
use Rattle.gj_fields.specs.Rational.{rational}
use Rattle.gj_problem.specs.Moves.{HasLower, HasUpper, IsMovedBy}
use Rattle.gj_derivation.specs.Checks.{IsFirstUnmovable, line_of_sum, claimed_at, IsWideMoving}
use Rattle.gj_derivation.proofs.CheckedMoves.{scaled, IsShift, none_up_to, none_more, one_up_to, stuck_at, all_up_to, wide_at}
use Rattle.gj_derivation.proofs.NarrowMoves.{narrow_moved, narrow_moved_none, sum_of_shift, no_shift_fits, narrow_to_first, narrow_to_next, narrow_to_end, narrow_to_stuck}
use Rattle.gj_derivation.proofs.moves.moved_right.Goals as goal

pub loop-j-init : goal.loop-j-init
loop-j-init c = record {
  moved = none_up_to c.args.columns.now c.args.factor c.args.sum.now c.args.claimed.now
      c.in_ok-right.right
      (product_value c.args.factor c.args.sum.now.right c.in_ok-right.right
      c.in_ok-right.ensures.value);
  narrow = narrow_to_first c.args.columns.now c.args.factor c.args.sum.now c.args.claimed.now;
}

pub loop-j-preserved : goal.loop-j-preserved
loop-j-preserved c =
    let coefficient_is : c.index-coefficient.result.now ≡ get_or c.args.sum.now.coefficients.items
    c.loop-j.j c.index-coefficient.result.now = search rules in
    let shifted : IsMovedBy (HasLower c.index-columns-j.result)
    (HasUpper c.index-columns-j.result) (rational c.in_ok-x.x) (rational c.index-claimed-j.result)
    (rational c.in-Some.shift) =
    MatchOption-at_some _ _ c.in-Some.shift c.in-Some.is c.in_ok-shift.ensures.is in
    let moved = one_up_to c.args.columns.now c.args.factor c.args.sum.now c.args.claimed.now
    c.loop-j.j
    c.index-columns-j.result c.index-coefficient.result.now c.in_ok-x.x
    c.index-claimed-j.result c.in-Some.shift c.loop-j.right c.in_ok-right-2.right c.loop-j.is_whole
    c.stays_whole-is_whole.result c.loop-j-test.true c.requires.sum c.requires.claimed
    c.index-columns-j.is coefficient_is
    (product_value c.args.factor c.index-coefficient.result.now c.in_ok-x.x c.in_ok-x.ensures.value)
    c.index-claimed-j.is shifted
    (sum_value c.loop-j.right c.in-Some.shift c.in_ok-right-2.right c.in_ok-right-2.ensures.value)
    c.stays_whole-is_whole.ensures c.loop-j.invariant.moved in
    let narrow = narrow_to_next c.args.columns.now c.args.factor c.args.sum.now c.args.claimed.now
    c.loop-j.j
    c.index-columns-j.result c.index-coefficient.result.now c.index-claimed-j.result c.loop-j.right
    c.loop-j.is_whole c.loop-j-test.true c.requires.sum c.requires.claimed c.index-columns-j.is
    coefficient_is c.index-claimed-j.is c.loop-j.invariant.moved c.loop-j.invariant.narrow
    (narrow_moved c.index-columns-j.result c.args.factor c.index-coefficient.result.now
    c.index-claimed-j.result c.loop-j.right c.in_ok-x.x c.in_ok-x.ensures.fits
    (product_value c.args.factor c.index-coefficient.result.now c.in_ok-x.x c.in_ok-x.ensures.value)
    c.in_ok-shift.ensures.narrow
    (sum_of_shift c.index-columns-j.result c.in_ok-x.x c.index-claimed-j.result c.loop-j.right
    c.in-Some.shift shifted c.in_ok-right-2.ensures.fits)) in
    record { moved = moved; narrow = narrow }

pub loop-j-preserved-then-is_zero-2 : goal.loop-j-preserved-then-is_zero-2
loop-j-preserved-then-is_zero-2 c =
    let coefficient_is : c.index-coefficient.result.now ≡ get_or c.args.sum.now.coefficients.items
    c.loop-j.j c.index-coefficient.result.now = search rules in
    let none = c.is_zero.ensures.0 (is_true c.is_zero.result c.if-is_zero.true) in
    let no_claim = c.is_zero-then-is_zero.ensures.0
    (is_true c.is_zero-then-is_zero.result c.if-is_zero-2.true) in
    let moved = none_more c.args.columns.now c.args.factor c.args.sum.now c.args.claimed.now
    c.loop-j.j
    c.index-columns-j.result c.index-coefficient.result.now
    c.index-claimed-j.result c.loop-j.right c.loop-j.is_whole c.loop-j-test.true c.requires.sum
    c.requires.claimed c.index-columns-j.is coefficient_is
    c.index-claimed-j.is none no_claim c.loop-j.invariant.moved in
    let narrow = narrow_to_next c.args.columns.now c.args.factor c.args.sum.now c.args.claimed.now
    c.loop-j.j
    c.index-columns-j.result c.index-coefficient.result.now c.index-claimed-j.result c.loop-j.right
    c.loop-j.is_whole c.loop-j-test.true c.requires.sum c.requires.claimed c.index-columns-j.is
    coefficient_is c.index-claimed-j.is c.loop-j.invariant.moved c.loop-j.invariant.narrow
    (narrow_moved_none c.index-columns-j.result c.args.factor c.index-coefficient.result.now
    c.index-claimed-j.result c.loop-j.right none no_claim) in
    record { moved = moved; narrow = narrow }

pub returns-in_default-clause-is : goal.returns-in_default-clause-is
returns-in_default-clause-is c =
    let coefficient_is : c.index-coefficient.result.now ≡ get_or c.args.sum.now.coefficients.items
    c.loop-j.j c.index-coefficient.result.now = search rules in
    subst (IsFirstUnmovable c.args.columns.now (scaled c.args.factor c.args.sum.now)
    (claimed_at c.args.claimed.now)) (sym c.in-Ok.ensures.1)
    (stuck_at c.args.columns.now c.args.factor c.args.sum.now c.args.claimed.now c.loop-j.j
    c.index-columns-j.result c.index-coefficient.result.now c.in_ok-x.x
    c.index-claimed-j.result c.loop-j.right c.loop-j.is_whole c.loop-j-test.true c.requires.sum
    c.requires.claimed c.index-columns-j.is coefficient_is
    (product_value c.args.factor c.index-coefficient.result.now c.in_ok-x.x c.in_ok-x.ensures.value)
    c.index-claimed-j.is
    (subst (IsShift c.index-columns-j.result c.in_ok-x.x c.index-claimed-j.result) c.in_default.is
    c.in_ok-shift.ensures.is) c.loop-j.invariant.moved)

pub returns-clause-is : goal.returns-clause-is
returns-clause-is c =
    all_up_to c.args.columns.now c.args.factor c.args.sum.now c.args.claimed.now c.loop-j.j
    c.loop-j.right c.rounded_if.result c.loop-j.is_whole
    c.loop-j-test.false c.rounded_if.ensures c.loop-j.invariant.moved

pub returns-in_err-right-clause-wide : goal.returns-in_err-right-clause-wide
returns-in_err-right-clause-wide c =
    on_err c.from_residual.result
    (IsWideMoving c.args.columns.now c.args.factor (line_of_sum c.args.sum.now)
    (claimed_at c.args.claimed.now))
    (inl (c.args.sum.now.right, refl, c.in_err-right.ensures.wide))

pub returns-in_err-x-clause-wide : goal.returns-in_err-x-clause-wide
returns-in_err-x-clause-wide c =
    let coefficient_is : c.index-coefficient.result.now ≡ get_or c.args.sum.now.coefficients.items
    c.loop-j.j c.index-coefficient.result.now = search rules in
    on_err c.from_residual-in_err-x.result
    (IsWideMoving c.args.columns.now c.args.factor (line_of_sum c.args.sum.now)
    (claimed_at c.args.claimed.now))
    (wide_at c.args.columns.now c.args.factor c.args.sum.now c.args.claimed.now c.loop-j.j
    c.index-columns-j.result c.index-coefficient.result.now
    c.index-claimed-j.result c.loop-j.right c.loop-j.is_whole c.loop-j-test.true c.requires.sum
    c.requires.claimed c.index-columns-j.is coefficient_is
    c.index-claimed-j.is
    (inl c.in_err-x.ensures.wide) c.loop-j.invariant.moved)

pub returns-in_err-shift-clause-wide : goal.returns-in_err-shift-clause-wide
returns-in_err-shift-clause-wide c =
    let coefficient_is : c.index-coefficient.result.now ≡ get_or c.args.sum.now.coefficients.items
    c.loop-j.j c.index-coefficient.result.now = search rules in
    on_err c.from_residual-in_err-shift.result
    (IsWideMoving c.args.columns.now c.args.factor (line_of_sum c.args.sum.now)
    (claimed_at c.args.claimed.now))
    (wide_at c.args.columns.now c.args.factor c.args.sum.now c.args.claimed.now c.loop-j.j
    c.index-columns-j.result c.index-coefficient.result.now
    c.index-claimed-j.result c.loop-j.right c.loop-j.is_whole c.loop-j-test.true c.requires.sum
    c.requires.claimed c.index-columns-j.is coefficient_is
    c.index-claimed-j.is
    (inr (
      c.in_ok-x.x,
      product_value c.args.factor c.index-coefficient.result.now c.in_ok-x.x
          c.in_ok-x.ensures.value,
      inl c.in_err-shift.ensures.wide,
    ))
    c.loop-j.invariant.moved)

pub returns-in_err-right-2-clause-wide : goal.returns-in_err-right-2-clause-wide
returns-in_err-right-2-clause-wide c =
    let coefficient_is : c.index-coefficient.result.now ≡ get_or c.args.sum.now.coefficients.items
    c.loop-j.j c.index-coefficient.result.now = search rules in
    on_err c.from_residual-in_err-right-2.result
    (IsWideMoving c.args.columns.now c.args.factor (line_of_sum c.args.sum.now)
    (claimed_at c.args.claimed.now))
    (wide_at c.args.columns.now c.args.factor c.args.sum.now c.args.claimed.now c.loop-j.j
    c.index-columns-j.result c.index-coefficient.result.now
    c.index-claimed-j.result c.loop-j.right c.loop-j.is_whole c.loop-j-test.true c.requires.sum
    c.requires.claimed c.index-columns-j.is coefficient_is
    c.index-claimed-j.is
    (inr (
      c.in_ok-x.x,
      product_value c.args.factor c.index-coefficient.result.now c.in_ok-x.x
          c.in_ok-x.ensures.value,
      inr (
        c.in-Some.shift,
        MatchOption-at_some _ _ c.in-Some.shift c.in-Some.is
            c.in_ok-shift.ensures.is,
        c.in_err-right-2.ensures.wide,
      ),
    )) c.loop-j.invariant.moved)

pub returns-in_default-try_from-clause-wide : goal.returns-in_default-try_from-clause-wide
returns-in_default-try_from-clause-wide c =
    let coefficient_is : c.index-coefficient.result.now ≡ get_or c.args.sum.now.coefficients.items
    c.loop-j.j c.index-coefficient.result.now = search rules in
    inr (inr (
      c.loop-j.j,
      stuck_at c.args.columns.now c.args.factor c.args.sum.now c.args.claimed.now c.loop-j.j
          c.index-columns-j.result c.index-coefficient.result.now c.in_ok-x.x
          c.index-claimed-j.result c.loop-j.right c.loop-j.is_whole c.loop-j-test.true
          c.requires.sum c.requires.claimed c.index-columns-j.is
          coefficient_is (product_value c.args.factor c.index-coefficient.result.now c.in_ok-x.x
          c.in_ok-x.ensures.value) c.index-claimed-j.is
          (subst (IsShift c.index-columns-j.result c.in_ok-x.x c.index-claimed-j.result)
          c.in_default.is c.in_ok-shift.ensures.is)
          c.loop-j.invariant.moved,
      omega (arith, c.in_default-try_from.ensures),
    ))

pub returns-clause-narrow : goal.returns-clause-narrow
returns-clause-narrow c =
    narrow_to_end c.args.columns.now c.args.factor c.args.sum.now c.args.claimed.now c.loop-j.j
    c.loop-j.right c.loop-j.is_whole c.loop-j-test.false c.in_ok-right.ensures.fits
    c.loop-j.invariant.moved c.loop-j.invariant.narrow

pub returns-in_default-clause-narrow : goal.returns-in_default-clause-narrow
returns-in_default-clause-narrow c =
    let coefficient_is : c.index-coefficient.result.now ≡ get_or c.args.sum.now.coefficients.items
    c.loop-j.j c.index-coefficient.result.now = search rules in
    let unmovable = subst (IsShift c.index-columns-j.result c.in_ok-x.x c.index-claimed-j.result)
    c.in_default.is c.in_ok-shift.ensures.is in
    let same = c.in-Ok.ensures.1 in
    narrow_to_stuck c.args.columns.now c.args.factor c.args.sum.now c.args.claimed.now c.loop-j.j
    c.index-columns-j.result c.index-coefficient.result.now c.index-claimed-j.result c.loop-j.right
    c.loop-j.is_whole c.loop-j-test.true c.requires.sum c.requires.claimed c.index-columns-j.is
    coefficient_is c.index-claimed-j.is c.loop-j.invariant.moved c.loop-j.invariant.narrow
    (narrow_moved c.index-columns-j.result c.args.factor c.index-coefficient.result.now
    c.index-claimed-j.result c.loop-j.right c.in_ok-x.x c.in_ok-x.ensures.fits
    (product_value c.args.factor c.index-coefficient.result.now c.in_ok-x.x c.in_ok-x.ensures.value)
    c.in_ok-shift.ensures.narrow
    (no_shift_fits c.index-columns-j.result c.in_ok-x.x c.index-claimed-j.result c.loop-j.right
    unmovable))
    (omega (arith, c.in-Ok.ensures.0, same)) c.in_ok-right.ensures.fits
    (stuck_at c.args.columns.now c.args.factor c.args.sum.now c.args.claimed.now c.loop-j.j
    c.index-columns-j.result c.index-coefficient.result.now c.in_ok-x.x
    c.index-claimed-j.result c.loop-j.right c.loop-j.is_whole c.loop-j-test.true c.requires.sum
    c.requires.claimed c.index-columns-j.is coefficient_is
    (product_value c.args.factor c.index-coefficient.result.now c.in_ok-x.x c.in_ok-x.ensures.value)
    c.index-claimed-j.is unmovable c.loop-j.invariant.moved)
