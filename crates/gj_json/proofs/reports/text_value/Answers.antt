use Rattle.gj_json.proofs.ProofLines.{printable_is_utf8, utf8_is_read}
use Rattle.gj_json.proofs.reports.text_value.Goals as goal

pub unwrap-requires : goal.unwrap-requires
unwrap-requires c =
    utf8_is_read c.from_utf8.result _ _ c.args.bytes.now c.from_utf8.ensures.cases
    (printable_is_utf8 c.args.bytes.now c.requires)
