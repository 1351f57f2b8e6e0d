use Rattle.std.proofs.Common.{◌+◌, sym, refl}
use Rattle.std.proofs.lemmas.List.{take_rest}
use Rattle.gj_forms.proofs.CommentLines.{behind_comment, comment_to_end}
use Rattle.gj_forms.proofs.text_lines.behind_comment.Goals as goal

pub returns-in-Some : goal.returns-in-Some
returns-in-Some c =
    let text = c.args.text.now in
    rw (take_rest text (c.in-Some.end + 1))
    (behind_comment text c.in-Some.end c.requires (sym c.in-Some.ensures))

pub returns-in-None : goal.returns-in-None
returns-in-None c = comment_to_end c.args.text.now _ c.requires (sym c.in-None.ensures) refl
