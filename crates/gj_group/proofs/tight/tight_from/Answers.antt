use Rattle.std.proofs.Common.{length, refl, sym, ◌∙◌, arith}
use Rattle.gj_shape.specs.FunctionData.{at}
use Rattle.gj_group.proofs.PairRows.{tight_found, tight_passed, tight_end}
use Rattle.gj_group.proofs.tight.tight_from.Goals as goal

pub loop-b-init : goal.loop-b-init
loop-b-init c = (omega arith, refl)

pub loop-b-preserved : goal.loop-b-preserved
loop-b-preserved c = (
  omega (arith, c.loop-b.invariant.0),
  c.loop-b.invariant.1
      ∙ tight_passed (at c.args.values.now) (length c.args.values.now) c.args.a c.loop-b.b
      (omega arith)
      (sym c.is_tight.ensures ∙ c.if-is_tight.false),
)

pub returns-then-is_tight : goal.returns-then-is_tight
returns-then-is_tight c = (
  c.loop-b.invariant.0,
  omega arith,
  c.loop-b.invariant.1
      ∙ tight_found (at c.args.values.now) (length c.args.values.now) c.args.a c.loop-b.b
      (omega arith)
      (sym c.is_tight.ensures ∙ c.if-is_tight.true),
)

pub returns : goal.returns
returns c = c.loop-b.invariant.1
    ∙ tight_end (at c.args.values.now) (length c.args.values.now) c.args.a c.loop-b.b (omega arith)
