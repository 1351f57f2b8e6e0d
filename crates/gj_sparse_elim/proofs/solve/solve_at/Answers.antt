use Rattle.std.proofs.Common.{rules, ◌≢◌, ℤ, pos, ◌<ℤ◌, get_or, sym, subst, ◌∙◌, arith}
use Rattle.std.proofs.lemmas.Int.{ints, to_z-of_z}
use mir.Syntax.{w128}
use Rattle.gj_frac.proofs.Refusals.{on_err}
use Rattle.gj_elim.proofs.Solving.{solved_value, solved_wide_sum, solved_wide, solved_narrow}
use Rattle.gj_sparse_elim.proofs.SparseRows.{no_entry, first_entry}
use Rattle.gj_sparse_elim.proofs.Summing.{sparse_solving}
use Rattle.gj_sparse_elim.proofs.solve.solve_at.Goals as goal

not_zero : (x : ℤ) → pos 0 <ℤ x → x ≢ pos 0
not_zero x positive e = let low : pos 0 <ℤ pos 0 = subst (λ (z : ℤ). pos 0 <ℤ z) e
    positive in absurd (omega (arith, ints))

pub bounds-row-0 : goal.bounds-row-0
bounds-row-0 c =
    (first_entry _ c.args.column c.args.row.now c.requires.sparse c.requires.within c.requires.zero
    (not_zero _ c.requires.positive)).some

pub common_divisor-divisor-requires-clause-some : goal.common_divisor-divisor-requires-clause-some
common_divisor-divisor-requires-clause-some c none =
    let first = first_entry _ c.args.column c.args.row.now c.requires.sparse c.requires.within
    c.requires.zero (not_zero _ c.requires.positive) in
    let e = to_z-of_z w128 (get_or c.args.row.now 0 no_entry).factor (search rules) in
    not_zero _ c.requires.positive (sym first.factor ∙ sym e ∙ none)

pub returns-in_err-behind-clause-wide : goal.returns-in_err-behind-clause-wide
returns-in_err-behind-clause-wide c =
    on_err _ _ (solved_wide_sum _ c.args.numbers.now c.args.column c.in_err-behind.ensures.wide)

pub returns-in_err-multiply-clause-wide : goal.returns-in_err-multiply-clause-wide
returns-in_err-multiply-clause-wide c =
    let first = first_entry _ c.args.column c.args.row.now c.requires.sparse c.requires.within
    c.requires.zero (not_zero _ c.requires.positive) in
    let e = to_z-of_z w128 (get_or c.args.row.now 0 no_entry).factor (search rules) in
    let t = to_z-of_z w128 c.in_ok-behind.behind (search rules) in
    let d = simp (t, e) at c.common_divisor-divisor.ensures.value in
    let s = sparse_solving _ c.args.numbers.now c.args.column c.in_ok-behind.behind
    c.common_divisor-divisor.result
    (get_or c.args.row.now 0 no_entry).factor first.factor
    c.in_ok-behind.ensures.value c.in_ok-behind.ensures.fits d
    c.common_divisor-divisor.ensures.positive (search rules) (search rules) in
    on_err _ _ (solved_wide _ c.args.numbers.now c.args.column _ _ _ _ s
    c.in_err-multiply.ensures.wide)

pub overflow_sub-numbers : goal.overflow_sub-numbers
overflow_sub-numbers c =
    let first = first_entry _ c.args.column c.args.row.now c.requires.sparse c.requires.within
    c.requires.zero (not_zero _ c.requires.positive) in
    let e = to_z-of_z w128 (get_or c.args.row.now 0 no_entry).factor (search rules) in
    let t = to_z-of_z w128 c.in_ok-behind.behind (search rules) in
    let d = simp (t, e) at c.common_divisor-divisor.ensures.value in
    let s = sparse_solving _ c.args.numbers.now c.args.column c.in_ok-behind.behind
    c.common_divisor-divisor.result
    (get_or c.args.row.now 0 no_entry).factor first.factor
    c.in_ok-behind.ensures.value c.in_ok-behind.ensures.fits d
    c.common_divisor-divisor.ensures.positive (search rules) (search rules) in
    s.fits

pub returns-clause-value : goal.returns-clause-value
returns-clause-value c =
    let first = first_entry _ c.args.column c.args.row.now c.requires.sparse c.requires.within
    c.requires.zero (not_zero _ c.requires.positive) in
    let e = to_z-of_z w128 (get_or c.args.row.now 0 no_entry).factor (search rules) in
    let t = to_z-of_z w128 c.in_ok-behind.behind (search rules) in
    let d = simp (t, e) at c.common_divisor-divisor.ensures.value in
    let s = sparse_solving _ c.args.numbers.now c.args.column c.in_ok-behind.behind
    c.common_divisor-divisor.result
    (get_or c.args.row.now 0 no_entry).factor first.factor
    c.in_ok-behind.ensures.value c.in_ok-behind.ensures.fits d
    c.common_divisor-divisor.ensures.positive (search rules) (search rules) in
    solved_value _ c.args.numbers.now c.multiply.new.numbers c.args.column _ _ _ _ s
    c.in_ok-multiply.ensures.value

pub returns-clause-narrow : goal.returns-clause-narrow
returns-clause-narrow c =
    let first = first_entry _ c.args.column c.args.row.now c.requires.sparse c.requires.within
    c.requires.zero (not_zero _ c.requires.positive) in
    let e = to_z-of_z w128 (get_or c.args.row.now 0 no_entry).factor (search rules) in
    let t = to_z-of_z w128 c.in_ok-behind.behind (search rules) in
    let d = simp (t, e) at c.common_divisor-divisor.ensures.value in
    let s = sparse_solving _ c.args.numbers.now c.args.column c.in_ok-behind.behind
    c.common_divisor-divisor.result
    (get_or c.args.row.now 0 no_entry).factor first.factor
    c.in_ok-behind.ensures.value c.in_ok-behind.ensures.fits d
    c.common_divisor-divisor.ensures.positive (search rules) (search rules) in
    solved_narrow _ c.args.numbers.now c.args.column _ _ _ _ s c.in_ok-behind.ensures.narrow
    c.in_ok-multiply.ensures.narrow
