use Rattle.gj_real_cuts.proofs.FractionValues.{value_of_function, value_of_gmic}
use Rattle.gj_real_cuts.proofs.rows.values_are_real_values.Goals as goal

pub returns-clause-by_function : goal.returns-clause-by_function
returns-clause-by_function g c f x y bounds minimal value =
    value_of_function g.K.Reals.field g.K.Reals.floors f bounds minimal x y value

pub returns-clause-by_gmic : goal.returns-clause-by_gmic
returns-clause-by_gmic g c f x y inside value =
    value_of_gmic g.K.Reals.field g.K.Reals.floors f inside x y value
