use Rattle.gj_limit_proof.proofs.PrintedBytes.{text_bytes, text_is_ended}
use Rattle.gj_limit_proof.proofs.laws.limit_proof_text_is_printable.Goals as goal

pub returns : goal.returns
returns c = record { bytes = text_bytes; ended = text_is_ended }
