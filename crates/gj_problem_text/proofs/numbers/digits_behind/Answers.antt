use Rattle.std.proofs.Common.{◌*◌, ◌+◌, get_or, arith, sym, ap, ◌∙◌}
use Rattle.std.specs.Char.{digit_value}
use Rattle.std.proofs.lemmas.Int.Digits.{digits_more}
use Rattle.gj_problem_text.proofs.WordsRead.{no_number_on, value_more}
use Rattle.gj_problem_text.proofs.numbers.digits_behind.Goals as goal

pub returns-in_err-value : goal.returns-in_err-value
returns-in_err-value c =
    rw c.from_residual.ensures
    (no_number_on c.args.radix c.args.front _ _ _ _ c.requires.radix_some c.loop-byte-test.true
    c.loop-byte.invariant.value c.in_err-value.ensures)

pub loop-byte-preserved : goal.loop-byte-preserved
loop-byte-preserved c =
    let e = c.in_ok-value.ensures in
    let next = value_more c.args.radix c.args.front c.args.word.now c.loop-byte.byte-index
    c.loop-byte-test.true in
    record {
      digits = digits_more c.args.radix _ _ c.loop-byte-test.true c.loop-byte.invariant.digits
          e.0.0;
      value = e.1 ∙ ap (λ v. v * c.args.radix + digit_value
          (get_or c.args.word.now c.loop-byte.byte-index 0)) c.loop-byte.invariant.value ∙ sym next;
      small = omega (arith, e.0.1, e.1);
    }
