use Rattle.std.proofs.Common.{pos, ◌*◌, ◌≤◌, length, ap, sym, subst, ◌∙◌, arith}
use Rattle.std.proofs.lemmas.Int.{ints}
use Rattle.std.proofs.Math.ListN.{length-set}
use Rattle.gj_check_minimal.proofs.TableTests.{value_fits, one_more_written}
use Rattle.gj_check_minimal.proofs.GridTests.{values_in_range, numerator_read}
use Rattle.gj_check_minimal.proofs.minimality.write_two_periods.Goals as goal

pub of-requires-clause-low : goal.of-requires-clause-low
of-requires-clause-low g c =
    let f = c.args.shape.now in
    let l = c.value_numerators-values.ensures.limits in
    let fits = c.requires.fits in
    let value = numerator_read f _ c.loop-i.i _ _ l c.value_numerators-values.ensures.value
    c.wrapped.ensures c.from.ensures in
    (value_fits f.value f.place (pos f.scale) g.E.Entry.bound c.loop-i.i _
    (values_in_range f l c.requires.symmetric) (omega (arith, ints)) value).0

pub of-requires-clause-high : goal.of-requires-clause-high
of-requires-clause-high g c =
    let f = c.args.shape.now in
    let l = c.value_numerators-values.ensures.limits in
    let fits = c.requires.fits in
    let value = numerator_read f _ c.loop-i.i _ _ l c.value_numerators-values.ensures.value
    c.wrapped.ensures c.from.ensures in
    (value_fits f.value f.place (pos f.scale) g.E.Entry.bound c.loop-i.i _
    (values_in_range f l c.requires.symmetric) (omega (arith, ints)) value).1

pub loop-i-preserved : goal.loop-i-preserved
loop-i-preserved g c =
    let f = c.args.shape.now in
    let l = c.value_numerators-values.ensures.limits in
    let value = numerator_read f _ c.loop-i.i _ _ l c.value_numerators-values.ensures.value
    c.wrapped.ensures c.from.ensures in
    let count = ap length c.value_numerators-values.ensures.value in
    let len = l.value_length in
    let high = l.order_high in
    let room = c.loop-i.invariant.0 in (
      subst (λ n. 2 * f.order ≤ n) (sym (length-set _ _ _)) room,
      one_more_written g.E.Entry.number c.loop-i.entries f.value c.loop-i.i c.of.result
          (omega arith) (c.of.ensures ∙ value) c.loop-i.invariant.1,
    )

pub returns : goal.returns
returns g c =
    let f = c.args.shape.now in
    let l = c.value_numerators-values.ensures.limits in
    let count = ap length c.value_numerators-values.ensures.value in
    let len = l.value_length in
    let high = l.order_high in
    let room = c.loop-i.invariant.0 in
    record {
      room = omega arith;
      same = λ i e below. c.loop-i.invariant.1 i (omega arith) e;
      low = (values_in_range f l c.requires.symmetric).low;
    }
