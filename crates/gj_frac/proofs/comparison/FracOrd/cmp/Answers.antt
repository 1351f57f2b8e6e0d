use Rattle.std.proofs.Common.{◌≡◌, ◌<◌, ◌^◌, true, false, ℤ, pos, ◌<ℤ◌, ◌≤ℤ◌, unsigned_abs, to_z, of_z, sym, ◌∙◌, arith}
use Rattle.std.proofs.lemmas.Int.{ints}
use Rattle.gj_frac.proofs.Reduced.{read_part}
use Rattle.gj_frac.proofs.Signs.{cmp_negative, cmp_not_negative, cmp_negative_first, cmp_negative_second}
use Rattle.gj_frac.proofs.comparison.FracOrd.cmp.Goals as goal
use borrow.Author.Differences.{lt-true, lt-false}
use lib.Signed.{lt_z}
use mir.Syntax.{w128}

-- what the tests of the signs say
is_negative : (z : ℤ) → unsigned_abs z < 2 ^ 127 → lt_z (to_z w128 (of_z w128 z)) (pos 0) ≡ true →
    z <ℤ pos 0
is_negative z h e =
    let read = read_part z h in
    let below = lt-true z (pos 0) (simp read at e) in
    omega (arith, ints)

not_negative : (z : ℤ) → unsigned_abs z < 2 ^ 127 → lt_z (to_z w128 (of_z w128 z)) (pos 0) ≡ false →
    pos 0 ≤ℤ z
not_negative z h e =
    let read = read_part z h in
    let above = lt-false z (pos 0) (simp read at e) in
    omega (arith, ints)

pub returns-in-true-true : goal.returns-in-true-true
returns-in-true-true c =
    let x = c.args.self.now in
    let y = c.args.other.now in
    c.compare_sizes.ensures
    ∙ sym (cmp_negative x.num x.den y.num y.den
    (is_negative x.num x.lowest.num_fits c.in-true-true.is-0)
    (is_negative y.num y.lowest.num_fits c.in-true-true.is-1) x.lowest.positive y.lowest.positive)

pub returns-in-true-false : goal.returns-in-true-false
returns-in-true-false c =
    let x = c.args.self.now in
    let y = c.args.other.now in
    sym (cmp_negative_first x.num x.den y.num y.den
    (is_negative x.num x.lowest.num_fits c.in-true-false.is-0)
    (not_negative y.num y.lowest.num_fits c.in-true-false.is-1) x.lowest.positive y.lowest.positive)

pub returns-in-false-true : goal.returns-in-false-true
returns-in-false-true c =
    let x = c.args.self.now in
    let y = c.args.other.now in
    sym (cmp_negative_second x.num x.den y.num y.den
    (not_negative x.num x.lowest.num_fits c.in-false-true.is-0)
    (is_negative y.num y.lowest.num_fits c.in-false-true.is-1) x.lowest.positive y.lowest.positive)

pub returns-in-false-false : goal.returns-in-false-false
returns-in-false-false c =
    let x = c.args.self.now in
    let y = c.args.other.now in
    c.compare_sizes-in-false-false.ensures
    ∙ sym (cmp_not_negative x.num x.den y.num y.den
    (not_negative x.num x.lowest.num_fits c.in-false-false.is-0)
    (not_negative y.num y.lowest.num_fits c.in-false-false.is-1) x.lowest.positive
    y.lowest.positive)
