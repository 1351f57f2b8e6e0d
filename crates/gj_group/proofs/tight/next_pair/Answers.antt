use Rattle.std.proofs.Common.{length, ◌∙◌, arith}
use Rattle.gj_shape.specs.FunctionData.{at}
use Rattle.gj_group.proofs.PairRows.{pairs_begin, pairs_end, pair_found, no_pair}
use Rattle.gj_group.proofs.tight.next_pair.Goals as goal

pub returns-in-Some : goal.returns-in-Some
returns-in-Some c = (
  c.requires.some,
  omega (arith, c.in-Some.ensures.0),
  c.in-Some.ensures.1,
  pair_found (at c.args.values.now) (length c.args.values.now) c.args.a c.args.from c.in-Some.b
      c.in-Some.ensures.2,
)

pub loop-row-init : goal.loop-row-init
loop-row-init c = (
  omega arith,
  no_pair (at c.args.values.now)
      (length c.args.values.now) c.args.a c.args.from c.in_default.ensures,
)

pub loop-row-preserved : goal.loop-row-preserved
loop-row-preserved c =
    let t = at c.args.values.now in
    let n = length c.args.values.now in (
      omega (arith, c.loop-row.invariant.0),
      c.loop-row.invariant.1 ∙ pairs_begin t n c.loop-row.row (omega arith)
          ∙ no_pair t n c.loop-row.row c.loop-row.row c.in_default-tight_from.ensures,
    )

pub returns-in-Some-tight_from : goal.returns-in-Some-tight_from
returns-in-Some-tight_from c =
    let t = at c.args.values.now in
    let n = length c.args.values.now in (
      omega (arith, c.loop-row.invariant.0),
      c.in-Some-tight_from.ensures.0,
      c.in-Some-tight_from.ensures.1,
      c.loop-row.invariant.1 ∙ pairs_begin t n c.loop-row.row (omega arith)
          ∙ pair_found t n c.loop-row.row c.loop-row.row c.in-Some-tight_from.b
          c.in-Some-tight_from.ensures.2,
    )

pub returns : goal.returns
returns c = c.loop-row.invariant.1
    ∙ pairs_end (at c.args.values.now) (length c.args.values.now) c.loop-row.row (omega arith)
