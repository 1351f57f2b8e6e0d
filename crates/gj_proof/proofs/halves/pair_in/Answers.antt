use Rattle.std.proofs.Common.{pos, refl}
use Rattle.gj_forms.proofs.LineLaws.{no_such_numbers}
use Rattle.gj_proof.specs.ProofGrammar.{pair_form}
use Rattle.gj_proof.proofs.BrokenLines.{no_pair}
use Rattle.gj_proof.proofs.halves.pair_in.Goals as goal

pub returns-in-None-clause-fault : goal.returns-in-None-clause-fault
returns-in-None-clause-fault c =
    no_such_numbers pair_form _ _ (pos 0, pos 0) _ c.in-Some.ensures.found refl tt refl
    (no_pair _ _ c.in-None.ensures.none)
