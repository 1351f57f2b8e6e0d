use Rattle.std.proofs.Common.{◌≡◌, pos, refl, sym, ◌∙◌, lit<}
use Rattle.gj_theory.specs.Modulus.{modulus}
use Rattle.gj_forms.proofs.LineLaws.{no_such_numbers}
use Rattle.gj_forms.proofs.WholeNumbers.{same_from_whole}
use Rattle.gj_proof.specs.ProofGrammar.{modulus_form}
use Rattle.gj_proof.proofs.BrokenLines.{no_modulus}
use Rattle.gj_proof.proofs.modulus.test_modulus.Goals as goal

pub returns-in_default-whole_of-clause-fault : goal.returns-in_default-whole_of-clause-fault
returns-in_default-whole_of-clause-fault c =
    let found = c.in-Some-whole_of.ensures.found in
    no_such_numbers modulus_form _ _ tt _ c.in-Some.ensures.found refl tt refl
    (no_modulus _ (λ e.
    let same : c.in-Some-whole_of.n ≡ pos modulus =
    same_from_whole c.in-Some-whole_of.n (pos modulus) found.1 (lit< tt) (sym found.0 ∙ e) in
    c.if-n-eq-MODULUS.false (rw same refl)))

pub returns-in_default-whole_of-2-clause-fault : goal.returns-in_default-whole_of-2-clause-fault
returns-in_default-whole_of-2-clause-fault c =
    no_such_numbers modulus_form _ _ tt _ c.in-Some.ensures.found refl tt refl
    (no_modulus _ (λ e. c.in_default-whole_of.ensures.none (pos modulus) e (lit< tt)))
