use Rattle.std.proofs.Common.{inl}
use Rattle.gj_top.proofs.extreme.limit_verdict_on.Goals as goal

pub returns-in_ok-wide_text-in-Err-Wide : goal.returns-in_ok-wide_text-in-Err-Wide
returns-in_ok-wide_text-in-Err-Wide c = record {
  jumps = c.requires.jumps;
  minimal = c.requires.minimal;
  wide = inl (c.in-Err-Wide.ensures.wide (cc (c.in-Err-Wide.field-0-is)));
  spelled = c.in_ok-wide_text-in-Err-Wide.ensures;
}
