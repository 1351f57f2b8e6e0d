use Rattle.std.proofs.Common.{rules, pos, get_or}
use Rattle.std.proofs.lemmas.Int.{to_z-of_z}
use mir.Syntax.{w128}
use Rattle.gj_frac.proofs.Refusals.{on_err}
use Rattle.gj_elim.proofs.Solving.{solving_of, solved_value, solved_wide_sum, solved_wide, solved_narrow}
use Rattle.gj_elim.proofs.solve.solve_at.Goals as goal

pub returns-in_err-behind-clause-wide : goal.returns-in_err-behind-clause-wide
returns-in_err-behind-clause-wide c =
    on_err _ _ (solved_wide_sum c.args.row.now c.args.numbers.now c.args.column
    c.in_err-behind.ensures.wide)

pub returns-in_err-multiply-clause-wide : goal.returns-in_err-multiply-clause-wide
returns-in_err-multiply-clause-wide c =
    let e = to_z-of_z w128 (get_or c.args.row.now c.args.column (pos 0)) (search rules) in
    let t = to_z-of_z w128 c.in_ok-behind.behind (search rules) in
    let d = simp (t, e) at c.common_divisor-divisor.ensures.value in
    let s = solving_of c.args.row.now c.args.numbers.now c.args.column c.in_ok-behind.behind
    c.common_divisor-divisor.result
    c.in_ok-behind.ensures.value c.in_ok-behind.ensures.fits d
    c.common_divisor-divisor.ensures.positive (search rules) (search rules) in
    on_err _ _ (solved_wide c.args.row.now c.args.numbers.now c.args.column _ _ _ _ s
    c.in_err-multiply.ensures.wide)

pub overflow_sub-numbers : goal.overflow_sub-numbers
overflow_sub-numbers c =
    let e = to_z-of_z w128 (get_or c.args.row.now c.args.column (pos 0)) (search rules) in
    let t = to_z-of_z w128 c.in_ok-behind.behind (search rules) in
    let d = simp (t, e) at c.common_divisor-divisor.ensures.value in
    let s = solving_of c.args.row.now c.args.numbers.now c.args.column c.in_ok-behind.behind
    c.common_divisor-divisor.result
    c.in_ok-behind.ensures.value c.in_ok-behind.ensures.fits d
    c.common_divisor-divisor.ensures.positive (search rules) (search rules) in
    s.fits

pub returns-clause-value : goal.returns-clause-value
returns-clause-value c =
    let e = to_z-of_z w128 (get_or c.args.row.now c.args.column (pos 0)) (search rules) in
    let t = to_z-of_z w128 c.in_ok-behind.behind (search rules) in
    let d = simp (t, e) at c.common_divisor-divisor.ensures.value in
    let s = solving_of c.args.row.now c.args.numbers.now c.args.column c.in_ok-behind.behind
    c.common_divisor-divisor.result
    c.in_ok-behind.ensures.value c.in_ok-behind.ensures.fits d
    c.common_divisor-divisor.ensures.positive (search rules) (search rules) in
    solved_value c.args.row.now c.args.numbers.now c.multiply.new.numbers c.args.column _ _ _ _ s
    c.in_ok-multiply.ensures.value

pub returns-clause-narrow : goal.returns-clause-narrow
returns-clause-narrow c =
    let e = to_z-of_z w128 (get_or c.args.row.now c.args.column (pos 0)) (search rules) in
    let t = to_z-of_z w128 c.in_ok-behind.behind (search rules) in
    let d = simp (t, e) at c.common_divisor-divisor.ensures.value in
    let s = solving_of c.args.row.now c.args.numbers.now c.args.column c.in_ok-behind.behind
    c.common_divisor-divisor.result
    c.in_ok-behind.ensures.value c.in_ok-behind.ensures.fits d
    c.common_divisor-divisor.ensures.positive (search rules) (search rules) in
    solved_narrow c.args.row.now c.args.numbers.now c.args.column _ _ _ _ s
    c.in_ok-behind.ensures.narrow c.in_ok-multiply.ensures.narrow
