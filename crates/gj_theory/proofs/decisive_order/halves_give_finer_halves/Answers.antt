use Rattle.gj_shape.specs.Table.{table}
use Rattle.gj_theory.specs.Filling.{filling}
use Rattle.std.proofs.Common.{◌*◌}
use Rattle.gj_theory.proofs.Fillings.{function_finer_halves, halves_deny}
use Rattle.gj_theory.proofs.decisive_order.halves_give_finer_halves.Goals as goal

pub returns-clause-halves : goal.returns-clause-halves
returns-clause-halves c = function_finer_halves

pub returns-clause-deny : goal.returns-clause-deny
returns-clause-deny c = λ f d m c a b l continuous d_some m_some h.
    halves_deny (table f (d * m)) (f.order * (d * m)) (f.place * (d * m)) (f.scale * (d * m)) c
    (filling a m) (filling b m)
    (function_finer_halves f d m c a b l continuous d_some m_some h)
