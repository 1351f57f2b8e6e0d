use Rattle.gj_line.proofs.NamedLines.{is_pushed}
use Rattle.gj_line.proofs.line.push_line.Goals as goal

pub returns : goal.returns
returns g c =
    is_pushed g.W.KnownWord.spelled (g.F.Fields.form c.args.line.now.fields) _ _ _ _ _
    c.text.ensures
    c.in_ok-extend_from_slice.ensures.items c.in_ok-push.ensures
