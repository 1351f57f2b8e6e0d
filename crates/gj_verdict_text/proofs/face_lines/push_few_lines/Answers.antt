use Rattle.std.proofs.Common.{◌≡◌, ◌+◌, ◌-◌, ◌*◌, ◌++◌, length, replicate, vec_len, ap, ◌∙◌, arith}
use Rattle.std.proofs.lemmas.List.{take_all}
use Rattle.std.proofs.lemmas.List.Edits.{length-between}
use Rattle.gj_verdict_text.proofs.WrittenPieces.{lines_behind}
use Rattle.gj_verdict_text.proofs.face_lines.push_few_lines.Goals as goal

pub returns : goal.returns
returns c =
    let old = c.args.out.now.items in
    let before = c.len-before.result in
    let lines = c.write_face_lines-length in
    let whole = c.deref_mut.result.now in
    let all : length whole ≡ c.resize.new.self.len = c.deref_mut.ensures.len in
    let part : length lines.new.text ≡ length whole - before =
    lines.ensures.length ∙ length-between whole before (length whole) (omega arith) in
    let longest = before + 32 * length c.args.faces.now in
    let zeros = replicate (longest - vec_len c.args.out.now) 0 in
    let kept = take_all longest old (omega arith) in
    lines_behind before lines.result c.resize.new.self.len _ old zeros whole lines.new.text _
    c.truncate.new.self.items _
    (omega arith)
    (c.deref_mut.ensures.value ∙ c.in_ok-resize.ensures.items ∙ ap (λ xs. xs ++ zeros) kept)
    lines.ensures.within (omega (arith, all, part, c.in_ok-resize.ensures.len))
    c.truncate.ensures.items lines.ensures.written
