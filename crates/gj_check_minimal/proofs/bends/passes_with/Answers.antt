use Rattle.std.proofs.Common.{◌≡◌, ◌+◌, ◌-◌, length, ap, sym, ◌∙◌, arith}
use Rattle.gj_shape.specs.FunctionData.{at}
use Rattle.gj_check_minimal.proofs.TestsInTurn.{one_fails}
use Rattle.gj_check_minimal.proofs.TableTests.{entry_read}
use Rattle.gj_check_minimal.proofs.BendTests.{pair_test, sum_read}
use Rattle.gj_check_minimal.proofs.bends.passes_with.Goals as goal

pub returns-then-not-is_at_most : goal.returns-then-not-is_at_most
returns-then-not-is_at_most g c = λ values len periods.
    let number = g.E.Entry.number in
    let i = c.args.i in
    let j = c.args.j in
    let first = entry_read number _ values i _ periods (omega arith) c.index-entries-i.is in
    let second = entry_read number _ values j _ periods (omega arith) c.index-entries-j.is in
    let sum = entry_read number _ values (i + j) _ periods (omega arith) c.index-entries-i-2.is in
    one_fails _ _ _ c.if-not-is_at_most.true
    (pair_test values i j _ _ _ _ _ first second sum c.max_rise.ensures c.is_at_most.ensures)
    (λ both. both.0)

pub returns : goal.returns
returns g c = λ values len periods.
    let number = g.E.Entry.number in
    let i = c.args.i in
    let j = c.args.j in
    let first = entry_read number _ values i _ periods (omega arith) c.index-entries-i.is in
    let second = entry_read number _ values j _ periods (omega arith) c.index-entries-j.is in
    let sum = entry_read number _ values (i + j) _ periods (omega arith) c.index-entries-i-2.is in
    let one = pair_test values i j _ _ _ _ _ first second sum c.max_rise.ensures
    c.is_at_most.ensures in
    let far : c.args.count + j - i ≡ length values + j - i = ap (λ n. n + j - i) (sym len) in
    let rest = entry_read number _ values (c.args.count + j - i) _ periods
    (omega arith) c.index-entries-count.is ∙ ap (at values) far in
    let last = sum_read values i j _ (omega arith) second in
    let two = pair_test values i (length values + j - i) _ _ _ _ _ first rest last
    c.max_rise-2.ensures c.is_at_most-2.ensures in
    (λ h. (one.0 c.if-not-is_at_most.false, two.0 h), λ both. two.1 both.1)
