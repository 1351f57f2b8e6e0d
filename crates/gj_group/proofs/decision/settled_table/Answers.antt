use Rattle.std.proofs.Common.{ℕ, ◌≡◌, ◌<◌, ◌^◌, ℤ, List, length, sym, subst, subst₂, arith}
use Rattle.std.proofs.lemmas.Result.{err_from_is_err_and}
use Rattle.std.specs.Prelude.{All}
use Rattle.gj_frac.specs.Fraction.{Fits}
use Rattle.gj_shape.specs.FunctionData.{at}
use Rattle.gj_residue.specs.Settled.{IsSettled, AnswersRows, AreRowsTooWide}
use Rattle.gj_group.specs.GroupRows.{group_rows}
use Rattle.gj_group.proofs.RowBounds.{rows_length, rows_fit, rows_few}
use Rattle.gj_group.proofs.TableAnswers.{wide_settling, no_wide}
use Rattle.gj_group.proofs.decision.settled_table.Goals as goal

pub settle-requires-clause-some : goal.settle-requires-clause-some
settle-requires-clause-some c =
    let low = c.order-order.ensures.limits.order_low in
    let same = c.order-order.ensures.value in
    omega arith

pub settle-requires-clause-lengths : goal.settle-requires-clause-lengths
settle-requires-clause-lengths c =
    let f = c.args.shape.now in
    subst (λ (rows : List (List ℤ)). All (λ row. length row ≡ c.order-order.result) rows)
    (sym c.in_ok-rows.ensures.all)
    (subst (λ (n : ℕ). All (λ row. length row ≡ n) (group_rows (at f.value) f.order f.place))
    (sym c.order-order.ensures.value)
    (rows_length (at f.value) f.order f.place))

pub settle-requires-clause-entries : goal.settle-requires-clause-entries
settle-requires-clause-entries c =
    let f = c.args.shape.now in
    subst (λ (rows : List (List ℤ)). All (All Fits) rows) (sym c.in_ok-rows.ensures.all)
    (rows_fit (at f.value) f.order f.place)

pub settle-requires-clause-count : goal.settle-requires-clause-count
settle-requires-clause-count c =
    let f = c.args.shape.now in
    subst (λ (rows : List (List ℤ)). length rows < 2 ^ 63) (sym c.in_ok-rows.ensures.all)
    (rows_few (at f.value) f.order f.place c.order-order.ensures.limits.order_high)

pub returns-in_err-rows-clause-wide : goal.returns-in_err-rows-clause-wide
returns-in_err-rows-clause-wide c = λ e.
    absurd (no_wide c.from_residual.result c.in_err-rows.field-0.0 c.from_residual.ensures.0
    c.from_residual.ensures.1 e)

pub returns-in_err-rows-clause-settled : goal.returns-in_err-rows-clause-settled
returns-in_err-rows-clause-settled c =
    rw (err_from_is_err_and c.from_residual.result c.from_residual.ensures.1).1 tt

pub returns-in_err-rows-clause-answers : goal.returns-in_err-rows-clause-answers
returns-in_err-rows-clause-answers c =
    rw (err_from_is_err_and c.from_residual.result c.from_residual.ensures.1).1 tt

pub returns-in_err-settle-clause-settled : goal.returns-in_err-settle-clause-settled
returns-in_err-settle-clause-settled c =
    rw (err_from_is_err_and c.from_residual-in_err-settle.result
    c.from_residual-in_err-settle.ensures.1).1 tt

pub returns-in_err-settle-clause-answers : goal.returns-in_err-settle-clause-answers
returns-in_err-settle-clause-answers c =
    rw (err_from_is_err_and c.from_residual-in_err-settle.result
    c.from_residual-in_err-settle.ensures.1).1 tt

pub returns-in_err-settle-clause-wide : goal.returns-in_err-settle-clause-wide
returns-in_err-settle-clause-wide c = λ e.
    subst₂ AreRowsTooWide c.order-order.ensures.value c.in_ok-rows.ensures.all
    (c.in_err-settle.ensures.wide
    (wide_settling c.from_residual-in_err-settle.result c.in_err-settle.field-0.0
    c.from_residual-in_err-settle.ensures.0 c.from_residual-in_err-settle.ensures.1 e))

pub returns-clause-settled : goal.returns-clause-settled
returns-clause-settled c =
    subst₂ (λ (n : ℕ) (rows : List (List ℤ)). IsSettled n rows c.in_ok-settle.field-0)
    c.order-order.ensures.value
    c.in_ok-rows.ensures.all c.in_ok-settle.ensures.settled

pub returns-clause-answers : goal.returns-clause-answers
returns-clause-answers c =
    subst₂ (λ (n : ℕ) (rows : List (List ℤ)). AnswersRows n rows c.in_ok-settle.field-0)
    c.order-order.ensures.value
    c.in_ok-rows.ensures.all c.in_ok-settle.ensures.answers
