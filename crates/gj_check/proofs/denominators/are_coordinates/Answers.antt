use Rattle.std.proofs.Common.{◌≡◌, true, false, sym, ◌∙◌}
use Rattle.gj_check.proofs.Multiples.{two_read}
use Rattle.gj_check.proofs.denominators.are_coordinates.Goals as goal
use Rattle.gj_check.proofs.denominators.are_coordinates.Goals.{then-is_within_period, else-is_within_period}

pub returns-then-is_within_period-2 : goal.returns-then-is_within_period-2
returns-then-is_within_period-2 c =
    let passed = c.if-is_within_period-2.true in
    elim c.if-is_within_period.branch [
      | then-is_within_period w ↦
          let x_is = c.is_within_period.ensures.0 w.if-is_within_period.true in
          let y_is = w.is_within_period-then-is_within_period.ensures.0 (sym w.value-is ∙ passed) in
          let both =
          two_read c.args.x c.args.y c.positive_denominator.result
          c.positive_denominator-then-is_within_period-2.result x_is y_is
          c.positive_denominator.ensures.value
          c.positive_denominator-then-is_within_period-2.ensures.value in
          let e = c.has_fine_multiple.ensures in
          (λ h. both.0 (e.0 h), λ h. e.1 (both.1 h))
      | else-is_within_period w ↦
          let failed = w.if-is_within_period.false in
          absurd (let k : false ≡ true = sym failed ∙ sym w.value-is ∙ passed in cc)
    ]
