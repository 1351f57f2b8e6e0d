use Rattle.gj_function_lines.proofs.LinesRead.{one_spelled, three_spelled}
use Rattle.gj_function_lines.proofs.points.point_of.Goals as goal

pub returns-in_ok-value-in-One-clause-found : goal.returns-in_ok-value-in-One-clause-found
returns-in_ok-value-in-One-clause-found c =
    rw c.in-One.is (one_spelled c.args.spelling _ _ c.in_ok-value-in-One.ensures.found)

pub returns-in_ok-fraction_of-in-Three-3-clause-found :
    goal.returns-in_ok-fraction_of-in-Three-3-clause-found
returns-in_ok-fraction_of-in-Three-3-clause-found c =
    rw c.in-Three.is (three_spelled c.args.spelling _ _ _ (record {
      left = c.in_ok-fraction_of-in-Three.field-0;
      value = c.in_ok-fraction_of-in-Three-2.field-0;
      right = c.in_ok-fraction_of-in-Three-3.field-0;
    })
    c.in_ok-fraction_of-in-Three.ensures.found c.in_ok-fraction_of-in-Three-2.ensures.found
    c.in_ok-fraction_of-in-Three-3.ensures.found)
