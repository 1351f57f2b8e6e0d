use Rattle.std.proofs.Common.{◌<◌, ◌^◌, Bool, [], pos, refl, sym, subst, arith}
use Rattle.std.proofs.lemmas.Result.{on_err_weaker, on_ok_weaker}
use Rattle.gj_frac.proofs.Refusals.{on_err}
use Rattle.gj_problem.specs.Aggregates.{IsScale}
use Rattle.gj_problem.specs.WideRows.{IsWideScale, numbers_of}
use Rattle.gj_problem.proofs.AddedSums.{whole_ratio}
use Rattle.gj_problem.proofs.WideRoundings.{no_more}
use Rattle.gj_problem.proofs.WideScales.{least_grows}
use Rattle.gj_problem.proofs.scales.scale.Goals as goal

pub returns-else-is_whole-clause-scale : goal.returns-else-is_whole-clause-scale
returns-else-is_whole-clause-scale c = (
  1,
  subst (λ (is_whole : Bool). IsScale c.args.right c.args.entries.now is_whole 1)
      (sym c.if-is_whole.false) refl,
  whole_ratio c.ratio.result (pos 1) c.ratio.ensures,
)

pub returns-in_err-common_denominator-clause-wide :
    goal.returns-in_err-common_denominator-clause-wide
returns-in_err-common_denominator-clause-wide c =
    on_err c.from_residual.result (IsWideScale c.args.right c.args.entries.now c.args.is_whole) (
      c.if-is_whole.true,
      λ n least. let over = c.in_err-common_denominator.ensures.wide n least in
          omega arith,
    )

pub returns-in_ok-common_denominator-clause-wide : goal.returns-in_ok-common_denominator-clause-wide
returns-in_ok-common_denominator-clause-wide c =
    let numbers = numbers_of c.args.right c.args.entries.now in
    let m = c.in_ok-common_denominator.field-0 in
    on_err_weaker c.whole_number.result
    (λ over. (
      c.if-is_whole.true,
      λ n least. least_grows numbers [] numbers m n (2 ^ 127)
          (no_more numbers) c.in_ok-common_denominator.ensures.least least over,
    ))
    c.whole_number.ensures.wide

pub returns-in_ok-common_denominator-clause-narrow :
    goal.returns-in_ok-common_denominator-clause-narrow
returns-in_ok-common_denominator-clause-narrow c =
    let m = c.in_ok-common_denominator.field-0 in
    on_ok_weaker c.whole_number.result
    (λ (small : m < 2 ^ 127) (wide : IsWideScale c.args.right c.args.entries.now c.args.is_whole).
    let low = wide.1 m c.in_ok-common_denominator.ensures.least in omega arith)
    c.whole_number.ensures.fits
