use Rattle.std.proofs.Common.{pos, refl}
use Rattle.gj_forms.proofs.LineLaws.{no_such_numbers}
use Rattle.gj_proof.specs.ProofGrammar.{halves_form}
use Rattle.gj_proof.proofs.BrokenLines.{no_halves}
use Rattle.gj_proof.proofs.halves.halves_head_in.Goals as goal

pub returns-in-None-clause-fault : goal.returns-in-None-clause-fault
returns-in-None-clause-fault c =
    no_such_numbers halves_form _ _ (record { order = 0; scale = pos 0 }) _ c.in-Some.ensures.found
    refl tt refl
    (no_halves _ _ c.in-None.ensures.none)
