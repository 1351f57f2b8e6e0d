use Rattle.std.proofs.Common.{◌≡◌, ◌<◌, ◌^◌, rules, inl, inr, get_or, ap, sym, subst, arith}
use Rattle.gj_fields.specs.Rational.{Rational, rational, ◌*ℚ◌}
use Rattle.gj_derivation.specs.Derivations.{times}
use Rattle.gj_derivation.specs.Checks.{line_of_sum, claimed_at}
use Rattle.gj_derivation.specs.Drafts.{IsFoundFor, IsFoundOrNone, IsFirstNotFound}
use Rattle.gj_derivation.proofs.CheckedMoves.{claimed_is}
use Rattle.gj_derivation.proofs.FoundTerms.{none_found, one_found, first_not_found, found_in_front}
use Rattle.gj_derivation.proofs.NarrowTerms.{found_narrow_first, found_narrow_next, found_narrow_stuck, found_narrow_end}
use Rattle.gj_derivation.proofs.terms.found_terms.Goals as goal

pub returns-in_err-y-clause-wide : goal.returns-in_err-y-clause-wide
returns-in_err-y-clause-wide c = λ fault.
    let xs = times c.args.factor (line_of_sum c.args.sum.now) in
    let count = c.requires.sum in
    let here : c.index.result.now ≡ get_or c.args.sum.now.coefficients.items c.loop-j.j
    c.index.result.now = search rules in
    let at : rational c.args.factor *ℚ rational c.index.result.now ≡ xs c.loop-j.j =
    ap (λ w. rational c.args.factor *ℚ w) (claimed_is c.args.sum.now.coefficients.items c.loop-j.j
    c.index.result.now (omega arith) here) in
    let found = c.loop-j.invariant.found in
    record {
      index = c.loop-j.j;
      below = c.loop-j-test.true;
      column = c.index-columns-j.result;
      is = c.index-columns-j.is;
      ys = claimed_at c.loop-j.terms.items;
      found_before = found_in_front c.args.grid c.args.columns.now xs c.loop-j.j
          c.loop-j.terms.items c.loop-j-test.true found;
      coefficient = c.index.result.now;
      coefficient_is = claimed_is c.args.sum.now.coefficients.items c.loop-j.j c.index.result.now
          (omega arith) here;
      wide = inl c.in_err-y.ensures.wide;
    }

pub returns-in_default-try_from-clause-wide : goal.returns-in_default-try_from-clause-wide
returns-in_default-try_from-clause-wide c = λ fault.
    let xs = times c.args.factor (line_of_sum c.args.sum.now) in
    let count = c.requires.sum in
    let here : c.index.result.now ≡ get_or c.args.sum.now.coefficients.items c.loop-j.j
    c.index.result.now = search rules in
    let at : rational c.args.factor *ℚ rational c.index.result.now ≡ xs c.loop-j.j =
    ap (λ w. rational c.args.factor *ℚ w) (claimed_is c.args.sum.now.coefficients.items c.loop-j.j
    c.index.result.now (omega arith) here) in
    let none = subst (IsFoundOrNone c.args.grid c.index-columns-j.result
    (rational c.args.factor *ℚ rational c.index.result.now)) c.in_default.is
    c.in_ok-y.ensures.is in
    let none_there = λ (y : Rational) (found : IsFoundFor c.args.grid c.index-columns-j.result
    (xs c.loop-j.j) y). none y (subst (λ (x : Rational). IsFoundFor c.args.grid
    c.index-columns-j.result x y) (sym at) found) in
    let found = c.loop-j.invariant.found in
    record {
      index = c.loop-j.j;
      below = c.loop-j-test.true;
      column = c.index-columns-j.result;
      is = c.index-columns-j.is;
      ys = claimed_at c.loop-j.terms.items;
      found_before = found_in_front c.args.grid c.args.columns.now xs c.loop-j.j
          c.loop-j.terms.items c.loop-j-test.true found;
      coefficient = c.index.result.now;
      coefficient_is = claimed_is c.args.sum.now.coefficients.items c.loop-j.j c.index.result.now
          (omega arith) here;
      wide = inr (none_there, omega (arith, c.in_default-try_from.ensures));
    }

pub returns-in_default-clause-is : goal.returns-in_default-clause-is
returns-in_default-clause-is c =
    let xs = times c.args.factor (line_of_sum c.args.sum.now) in
    let count = c.requires.sum in
    let here : c.index.result.now ≡ get_or c.args.sum.now.coefficients.items c.loop-j.j
    c.index.result.now = search rules in
    let at : rational c.args.factor *ℚ rational c.index.result.now ≡ xs c.loop-j.j =
    ap (λ w. rational c.args.factor *ℚ w) (claimed_is c.args.sum.now.coefficients.items c.loop-j.j
    c.index.result.now (omega arith) here) in
    let none = subst (IsFoundOrNone c.args.grid c.index-columns-j.result
    (rational c.args.factor *ℚ rational c.index.result.now)) c.in_default.is
    c.in_ok-y.ensures.is in
    let none_there = λ (y : Rational) (found : IsFoundFor c.args.grid c.index-columns-j.result
    (xs c.loop-j.j) y). none y (subst (λ (x : Rational). IsFoundFor c.args.grid
    c.index-columns-j.result x y) (sym at) found) in
    subst (IsFirstNotFound c.args.grid c.args.columns.now xs) (sym c.in-Ok.ensures.1)
    (first_not_found c.args.grid c.args.columns.now xs c.loop-j.j c.loop-j.terms.items
    c.index-columns-j.result c.loop-j-test.true c.index-columns-j.is none_there
    c.loop-j.invariant.found)

pub returns-in_default-clause-narrow : goal.returns-in_default-clause-narrow
returns-in_default-clause-narrow c =
    let xs = times c.args.factor (line_of_sum c.args.sum.now) in
    let count = c.requires.sum in
    let here : c.index.result.now ≡ get_or c.args.sum.now.coefficients.items c.loop-j.j
    c.index.result.now = search rules in
    let at : rational c.args.factor *ℚ rational c.index.result.now ≡ xs c.loop-j.j =
    ap (λ w. rational c.args.factor *ℚ w) (claimed_is c.args.sum.now.coefficients.items c.loop-j.j
    c.index.result.now (omega arith) here) in
    let none = subst (IsFoundOrNone c.args.grid c.index-columns-j.result
    (rational c.args.factor *ℚ rational c.index.result.now)) c.in_default.is
    c.in_ok-y.ensures.is in
    let none_there = λ (y : Rational) (found : IsFoundFor c.args.grid c.index-columns-j.result
    (xs c.loop-j.j) y). none y (subst (λ (x : Rational). IsFoundFor c.args.grid
    c.index-columns-j.result x y) (sym at) found) in
    let same = c.in-Ok.ensures.1 in
    let small : c.loop-j.j < 2 ^ 32 = omega (arith, c.in-Ok.ensures.0, same) in
    found_narrow_stuck c.args.grid c.args.columns.now c.args.factor c.args.sum.now c.loop-j.j
    c.index-columns-j.result c.loop-j-test.true c.index-columns-j.is none_there
    (found_narrow_next c.args.grid c.args.columns.now c.args.factor c.args.sum.now c.loop-j.j
    c.index-columns-j.result c.index.result.now c.loop-j-test.true count c.index-columns-j.is here
    c.loop-j.invariant.narrow c.in_ok-y.ensures.narrow (λ no_term far. omega arith))

pub loop-j-init : goal.loop-j-init
loop-j-init c = record {
  found = none_found c.args.grid c.args.columns.now (times c.args.factor
      (line_of_sum c.args.sum.now)) c.new-terms.result.items c.new-terms.ensures.items;
  narrow = found_narrow_first c.args.grid c.args.columns.now c.args.factor c.args.sum.now;
}

pub loop-j-preserved : goal.loop-j-preserved
loop-j-preserved c =
    let xs = times c.args.factor (line_of_sum c.args.sum.now) in
    let count = c.requires.sum in
    let here : c.index.result.now ≡ get_or c.args.sum.now.coefficients.items c.loop-j.j
    c.index.result.now = search rules in
    let at : rational c.args.factor *ℚ rational c.index.result.now ≡ xs c.loop-j.j =
    ap (λ w. rational c.args.factor *ℚ w) (claimed_is c.args.sum.now.coefficients.items c.loop-j.j
    c.index.result.now (omega arith) here) in
    let is : IsFoundFor c.args.grid c.index-columns-j.result (xs c.loop-j.j)
    (rational c.in-Some.y) =
    subst (λ (x : Rational). IsFoundFor c.args.grid c.index-columns-j.result x
    (rational c.in-Some.y)) at
    (subst (IsFoundOrNone c.args.grid c.index-columns-j.result
    (rational c.args.factor *ℚ rational c.index.result.now)) c.in-Some.is c.in_ok-y.ensures.is) in
    record {
      found = one_found c.args.grid c.args.columns.now xs c.loop-j.j c.loop-j.terms.items
          c.push.new.self.items c.index-columns-j.result c.in-Some.y
          c.loop-j-test.true c.index-columns-j.is c.in_ok-push.ensures.items is
          c.loop-j.invariant.found;
      narrow = found_narrow_next c.args.grid c.args.columns.now c.args.factor c.args.sum.now
          c.loop-j.j c.index-columns-j.result c.index.result.now c.loop-j-test.true count
          c.index-columns-j.is here c.loop-j.invariant.narrow c.in_ok-y.ensures.narrow
          (λ no_term far. no_term (rational c.in-Some.y) is);
    }

pub returns-clause-narrow : goal.returns-clause-narrow
returns-clause-narrow c =
    found_narrow_end c.args.grid c.args.columns.now c.args.factor c.args.sum.now c.loop-j.j
    c.loop-j-test.false c.loop-j.invariant.narrow
