use Rattle.std.proofs.Common.{◌<◌, ◌^◌, pos, length, ◌∙◌, ap, subst, refl, arith}
use Rattle.std.proofs.lemmas.Bool.Decides.{nat_tests}
use Rattle.std.proofs.lemmas.Int.{to_z_pos}
use Rattle.gj_frac.specs.Fraction.{IsRatio}
use Rattle.gj_frac.proofs.TenPowers.{ten_small, ten_large}
use Rattle.gj_lex.proofs.WrittenNumbers.{nothing_read, point_front, point_back, point_value}
use Rattle.gj_lex.proofs.lenient.read_point.Goals as goal
use Rattle.gj_lex.proofs.lenient.read_point.Goals.{then-is_empty-via-then-is_empty, then-is_empty-via-else-is_empty+then-back-gt-MOST_PLACES}
use mir.Syntax.{w128}

pub returns-then-is_empty-clause-some : goal.returns-then-is_empty-clause-some
returns-then-is_empty-clause-some c =
    nothing_read _
    (λ p. let some = p.0.1.0 in
    elim c.then-is_empty.branch [
      | then-is_empty-via-then-is_empty w ↦ absurd (grind (arith, nat_tests))
      | then-is_empty-via-else-is_empty+then-back-gt-MOST_PLACES w ↦ ten_large
          (length c.args.back.now) (omega arith) p.1.1
    ])

pub returns-in_err-read_run-clause-some : goal.returns-in_err-read_run-clause-some
returns-in_err-read_run-clause-some c =
    rw c.from_residual.ensures
    (nothing_read _ (point_front c.args.front.now c.args.back.now
    (length c.args.back.now) c.in_err-read_run.ensures))

pub returns-in_err-top-clause-some : goal.returns-in_err-top-clause-some
returns-in_err-top-clause-some c =
    rw c.from_residual-in_err-top.ensures
    (nothing_read _
    (point_back c.args.front.now c.args.back.now _
    (length c.args.back.now) c.in_ok-read_run.ensures.1 c.in_err-top.ensures))

pub returns-clause-some : goal.returns-clause-some
returns-clause-some c =
    let front = c.in_ok-read_run.ensures in
    let all = c.in_ok-top.ensures in
    let top = point_value c.args.front.now c.args.back.now _ c.in_ok-top.top front.1 all.1 in
    let some : 0 < length c.args.back.now = grind (arith, nat_tests) in (
      λ e. (
        (front.0.0, (some, all.0.0)),
        (omega (arith, all.0.1, all.1, top), ten_small (length c.args.back.now) (omega arith)),
      ),
      λ p. refl,
    )

pub returns-clause-value : goal.returns-clause-value
returns-clause-value c =
    let front = c.in_ok-read_run.ensures in
    let all = c.in_ok-top.ensures in
    let top = point_value c.args.front.now c.args.back.now _ c.in_ok-top.top front.1 all.1 in
    let read = to_z_pos w128 c.in_ok-top.top (omega (arith, all.0.1, all.1)) in
    subst (λ z. IsRatio c.decimal.result z (pos (10 ^ length c.args.back.now)))
    (read ∙ ap pos top) c.decimal.ensures
