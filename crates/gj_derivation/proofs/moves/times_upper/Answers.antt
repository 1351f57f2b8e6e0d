use Rattle.gj_frac.proofs.Refusals.{on_err}
use Rattle.gj_problem.proofs.AddedSums.{product_value}
use Rattle.gj_problem.specs.Moves.{HasUpper}
use Rattle.gj_derivation.specs.Checks.{IsWideTimesBound}
use Rattle.gj_derivation.proofs.NarrowMoves.{narrow_bound}
use Rattle.gj_derivation.proofs.OneRightSide.{upper_same}
use Rattle.gj_derivation.proofs.moves.times_upper.Goals as goal

pub returns-clause-is : goal.returns-clause-is
returns-clause-is c = (
  c.upper_bound-bound.result,
  (c.in-Some.upper, c.in-Some.is, c.upper_bound-bound.ensures),
  product_value c.args.change c.upper_bound-bound.result c.in_ok-shift.shift
      c.in_ok-shift.ensures.value,
)

pub returns-in_err-shift-clause-wide : goal.returns-in_err-shift-clause-wide
returns-in_err-shift-clause-wide c =
    on_err c.from_residual.result (IsWideTimesBound (HasUpper c.args.column) c.args.change) (
      c.upper_bound-bound.result,
      (c.in-Some.upper, c.in-Some.is, c.upper_bound-bound.ensures),
      c.in_err-shift.ensures.wide,
    )

pub returns-clause-narrow : goal.returns-clause-narrow
returns-clause-narrow c =
    narrow_bound (HasUpper c.args.column) c.args.change c.upper_bound-bound.result
    (upper_same c.args.column) (c.in-Some.upper, c.in-Some.is, c.upper_bound-bound.ensures)
    c.in_ok-shift.ensures.fits
