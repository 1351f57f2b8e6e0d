use Rattle.std.proofs.Common.{◌≡◌, length}
use Rattle.std.proofs.lemmas.Result.{IfOk-weaker}
use Rattle.gj_derivation_text.specs.DerivationInputs.{IsOfDrafts}
use Rattle.gj_derivation_text.specs.Readable.{IsReadableDerivation}
use Rattle.gj_derivation_text.specs.declared.input.DerivationInput.{DerivationInput}
use Rattle.gj_derivation_text.proofs.ReadableText.{claims_are_given, derivation_is_told, derivation_is_readable, only_derivation, only_memory}
use Rattle.gj_derivation_text.proofs.read.read_derivation.Goals as goal

pub derivation_of-requires : goal.derivation_of-requires
derivation_of-requires c = claims_are_given c.args.bytes.now c.in-Ok.input c.in-Ok.ensures.found

pub returns-in-Ok-clause-only : goal.returns-in-Ok-clause-only
returns-in-Ok-clause-only c = λ d h.
    only_derivation c.args.bytes.now c.in-Ok.input d c.derivation_of.result c.in-Ok.ensures.found
    c.derivation_of.ensures.found
    c.derivation_of.ensures.memory h

pub returns-in-Ok-clause-readable : goal.returns-in-Ok-clause-readable
returns-in-Ok-clause-readable c =
    IfOk-weaker c.derivation_of.result (IsOfDrafts c.in-Ok.input) IsReadableDerivation
    (λ (d : DerivationInput) h.
    (derivation_is_readable c.args.bytes.now d
    (derivation_is_told _ c.in-Ok.input d c.in-Ok.ensures.found h)).0)
    c.derivation_of.ensures.found

pub returns-in-Ok-clause-left : goal.returns-in-Ok-clause-left
returns-in-Ok-clause-left c =
    IfOk-weaker c.derivation_of.result (IsOfDrafts c.in-Ok.input)
    (λ (d : DerivationInput). length d.left ≡ length d.steps)
    (λ (d : DerivationInput) h.
    (derivation_is_readable c.args.bytes.now d
    (derivation_is_told _ c.in-Ok.input d c.in-Ok.ensures.found h)).1)
    c.derivation_of.ensures.found

pub returns-in-Err-clause-only : goal.returns-in-Err-clause-only
returns-in-Err-clause-only c = λ d h. only_memory c.args.bytes.now d _ c.in-Err.ensures.refused h
