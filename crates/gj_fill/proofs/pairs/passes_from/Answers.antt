use Rattle.std.proofs.Common.{inl, inr, arith}
use Rattle.std.proofs.lemmas.Int.{ints}
use Rattle.gj_fill.proofs.FirstPairs.{one_more}
use Rattle.gj_fill.proofs.pairs.passes_from.Goals as goal
use Rattle.gj_fill.proofs.pairs.passes_from.Goals.{then-first-value_below, else-first-value_below}

pub loop-b-preserved : goal.loop-b-preserved
loop-b-preserved c =
    one_more c.args.values.now c.args.a c.args.start c.loop-b.b c.loop-b.passes
    c.if-first-value_below.passes c.loop-b.invariant
    (elim c.if-first-value_below.branch [
      | then-first-value_below w ↦ inl w.passes-is
      | else-first-value_below w ↦ inr (w.passes-is, λ less. omega (arith, ints))
    ])
