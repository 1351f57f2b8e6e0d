use Rattle.gj_lex.proofs.DigitLanes.{all_by_lanes, end_by_lanes}
use Rattle.gj_lex.proofs.digits.end_of_digits.Goals as goal

pub returns-then-others-eq0-clause-none : goal.returns-then-others-eq0-clause-none
returns-then-others-eq0-clause-none c =
    all_by_lanes c.args.word.now c.requires c.type_inv.word c.if-others-eq0.true

pub returns-clause-found : goal.returns-clause-found
returns-clause-found c =
    end_by_lanes c.args.word.now c.requires c.type_inv.word c.if-others-eq0.false
