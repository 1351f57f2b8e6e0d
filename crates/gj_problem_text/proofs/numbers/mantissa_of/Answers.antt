use Rattle.std.proofs.Common.{ℕ, ◌≡◌, ◌<◌, ◌==◌, false, arith}
use Rattle.std.proofs.lemmas.Bool.Decides.{nat_tests}
use Rattle.gj_problem_text.proofs.WordsRead.{no_whole, point_found, point_alone, no_front, no_back}
use Rattle.gj_problem_text.proofs.numbers.mantissa_of.Goals as goal

some_from : (n : ℕ) → false ≡ (n == 0) → 0 < n
some_from n e = grind (arith, nat_tests)

pub returns-in_err-digits_of-clause-none : goal.returns-in_err-digits_of-clause-none
returns-in_err-digits_of-clause-none c =
    rw c.from_residual.ensures
    (no_whole c.args.notation c.radix-radix.result c.args.word.now c.radix-radix.ensures
    c.in_default.ensures.none c.in_err-digits_of.ensures)

pub returns-then-is_empty-clause-none : goal.returns-then-is_empty-clause-none
returns-then-is_empty-clause-none c =
    let (b, is_mark, parts, none) = c.in-Some.ensures.found in
    λ top places h small.
    point_alone c.args.notation c.args.word.now c.in-Some.front.now c.in-Some.back.now b is_mark
    parts none c.if-is_empty.ensures top places h

pub returns-in_err-digits_of-2-clause-none : goal.returns-in_err-digits_of-2-clause-none
returns-in_err-digits_of-2-clause-none c =
    let (b, is_mark, parts, none) = c.in-Some.ensures.found in
    rw c.from_residual-in_err-digits_of-2.ensures
    (no_front c.args.notation c.args.word.now c.in-Some.front.now c.in-Some.back.now b is_mark
    parts none c.radix-radix.result c.radix-radix.ensures
    c.in_err-digits_of-2.ensures)

pub returns-in_err-top-clause-none : goal.returns-in_err-top-clause-none
returns-in_err-top-clause-none c =
    let (b, is_mark, parts, none) = c.in-Some.ensures.found in
    rw c.from_residual-in_err-top.ensures
    (no_back c.args.notation c.args.word.now c.in-Some.front.now c.in-Some.back.now b is_mark parts
    none c.radix-radix.result
    c.in_ok-digits_of-2.field-0 c.radix-radix.ensures c.in_ok-digits_of-2.ensures.1
    c.in_err-top.ensures)

pub returns-clause-found : goal.returns-clause-found
returns-clause-found c =
    let (b, is_mark, parts, none) = c.in-Some.ensures.found in (
      point_found c.args.notation c.args.word.now c.in-Some.front.now c.in-Some.back.now b is_mark
          parts none c.radix-radix.result
          c.in_ok-digits_of-2.field-0 c.in_ok-top.top c.radix-radix.ensures
          c.in_ok-digits_of-2.ensures.0.0 c.in_ok-digits_of-2.ensures.1
          (some_from _ c.if-is_empty.ensures)
          c.in_ok-top.ensures.0.0 c.in_ok-top.ensures.1,
      omega (arith, c.in_ok-top.ensures),
    )
