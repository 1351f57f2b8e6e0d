use Rattle.std.proofs.Common.{refl}
use Rattle.gj_check.proofs.SameNames.{same_names_new}
use Rattle.gj_check.proofs.names.first_repeated.Goals as goal

pub returns-then-have_known_names-clause-new : goal.returns-then-have_known_names-clause-new
returns-then-have_known_names-clause-new c = λ i below.
    let same = c.if-have_known_names.ensures refl in
    same_names_new c.args.basic.now c.args.known.now c.args.terms.now c.requires same.0 same.1 i
