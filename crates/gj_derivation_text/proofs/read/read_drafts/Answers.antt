use Rattle.std.proofs.Common.{true}
use Rattle.std.proofs.lemmas.Result.{IfOk-weaker}
use Rattle.gj_derivation_text.specs.DerivationInputs.{input_part, Tells}
use Rattle.gj_derivation_text.specs.Readable.{AreReadable}
use Rattle.gj_derivation_text.specs.declared.input.DraftInput.{DraftInput}
use Rattle.gj_derivation_text.proofs.ReadableText.{drafts_are_readable}
use Rattle.gj_derivation_text.proofs.TextRead.{only_one, input_part_is_exact}
use Rattle.gj_derivation_text.proofs.read.read_drafts.Goals as goal

pub returns-clause-only : goal.returns-clause-only
returns-clause-only c = λ a h.
    only_one (input_part true) (input_part_is_exact true) c.args.bytes.now a c.input_of.result
    c.input_of.ensures.found
    c.input_of.ensures.refused h

pub returns-clause-readable : goal.returns-clause-readable
returns-clause-readable c =
    IfOk-weaker c.input_of.result (Tells (input_part true) c.args.bytes.now)
    (λ (a : DraftInput). AreReadable a.function a.drafts)
    (drafts_are_readable c.args.bytes.now) c.input_of.ensures.found
