use Rattle.std.proofs.Common.{ℕ, ◌-◌, ◌*◌, ◌^◌, ◌<◌, ◌≤◌, ap, ◌∙◌, arith}
use Rattle.std.proofs.Math.Nat.{mul-pos}
use Rattle.gj_problem_text.proofs.ScaledNumbers.{one_power_less}
use Rattle.gj_problem_text.proofs.numbers.power_of.Goals as goal

positive : (b : ℕ) → 2 ≤ b → 0 < b
positive b some = omega (arith, some)

pub loop-left-preserved : goal.loop-left-preserved
loop-left-preserved c =
    let e = c.in-Some.ensures in
    record {
      some = omega (
        arith,
        e.1,
        mul-pos c.loop-left.invariant.some (positive c.args.base c.requires.base_some),
      );
      small = omega (arith, e.0, e.1);
      product = ap (λ v. v * c.args.base ^ (c.loop-left.left - 1)) e.1
          ∙ one_power_less c.loop-left.bottom c.args.base c.loop-left.left _ c.loop-left-test.true
          c.loop-left.invariant.product;
    }
