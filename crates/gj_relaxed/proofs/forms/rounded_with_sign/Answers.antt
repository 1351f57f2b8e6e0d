use Rattle.gj_relaxed.proofs.forms.rounded_with_sign.Goals as goal

pub returns : goal.returns
returns c = (
  c.in_ok-given.given,
  c.in_ok-given.ensures,
  c.in_ok-made.ensures.is,
  c.in_ok-made.ensures.narrow,
)
