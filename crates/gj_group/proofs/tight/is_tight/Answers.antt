use Rattle.std.proofs.Common.{rules, ◌+◌, ◌%◌, w64, pos, length, get_or, ◌∙◌, arith}
use Rattle.std.proofs.lemmas.Int.{to_z-of_z}
use Rattle.gj_group.proofs.TightTests.{tight_read}
use Rattle.gj_group.proofs.tight.is_tight.Goals as goal

pub returns : goal.returns
returns c =
    let xs = c.args.values.now in
    let a = c.args.a in
    let b = c.args.b in
    tight_read xs a b c.from.result c.from-2.result c.from-3.result (omega arith) (omega arith)
    (c.from.ensures ∙ to_z-of_z w64 (get_or xs a (pos 0)) (search rules))
    (c.from-2.ensures ∙ to_z-of_z w64 (get_or xs b (pos 0)) (search rules))
    (c.from-3.ensures ∙ to_z-of_z w64 (get_or xs ((a + b) % length xs) (pos 0)) (search rules))
    (search rules) (search rules) (search rules) (search rules)
