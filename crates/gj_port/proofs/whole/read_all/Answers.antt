use Rattle.std.proofs.Common.{◌≡◌, ◌≤◌, ◌<◌, ◌+◌, Ok, Err, Bool, true, false, vec_len, arith}
use Rattle.gj_port.proofs.Reading.{first_told, second_told, last_told, not_enough, handed_on}
use Rattle.gj_port.proofs.whole.read_all.Goals as goal

pub returns-in_err-read_on-clause-told : goal.returns-in_err-read_on-clause-told
returns-in_err-read_on-clause-told g c =
    handed_on _ (g.S.Source.left c.read_on.new.source) c.args.limit c.read_on.new.bytes
    c.in_err-read_on.field-0.0 _
    (first_told _ (g.S.Source.left c.read_on.new.source) c.args.limit _ c.read_on.new.bytes (Err
    c.in_err-read_on.field-0.0)
    c.new-bytes.ensures.items c.in_err-read_on.ensures.told) c.from_residual.ensures.1

pub returns-then-branch-clause-told : goal.returns-then-branch-clause-told
returns-then-branch-clause-told g c =
    last_told _ (g.S.Source.left c.read_on.new.source) c.args.limit c.read_on.new.bytes
    c.in_ok-read_on.field-0
    (first_told _ (g.S.Source.left c.read_on.new.source) c.args.limit _ c.read_on.new.bytes (Ok
    c.in_ok-read_on.field-0)
    c.new-bytes.ensures.items c.in_ok-read_on.ensures.told) (c.if-branch.true)

pub returns-in_err-read_on-2-clause-told : goal.returns-in_err-read_on-2-clause-told
returns-in_err-read_on-2-clause-told g c =
    handed_on _ (g.S.Source.left c.read_on-2.new.source) c.args.limit c.read_on-2.new.bytes
    c.in_err-read_on-2.field-0.0 _
    (second_told _ (g.S.Source.left c.read_on.new.source) (g.S.Source.left c.read_on-2.new.source)
    c.args.limit c.read_on.new.bytes
    c.read_on-2.new.bytes (Err c.in_err-read_on-2.field-0.0) c.in_ok-read_on.field-0
    c.if-branch.false
    (first_told _ (g.S.Source.left c.read_on.new.source) c.args.limit _ c.read_on.new.bytes (Ok
    c.in_ok-read_on.field-0)
    c.new-bytes.ensures.items c.in_ok-read_on.ensures.told) c.in_err-read_on-2.ensures.told)
    c.from_residual-in_err-read_on-2.ensures.1

pub returns-clause-told : goal.returns-clause-told
returns-clause-told g c =
    last_told _ (g.S.Source.left c.read_on-2.new.source) c.args.limit c.read_on-2.new.bytes
    c.in_ok-read_on-2.field-0
    (second_told _ (g.S.Source.left c.read_on.new.source) (g.S.Source.left c.read_on-2.new.source)
    c.args.limit c.read_on.new.bytes
    c.read_on-2.new.bytes (Ok c.in_ok-read_on-2.field-0) c.in_ok-read_on.field-0 c.if-branch.false
    (first_told _ (g.S.Source.left c.read_on.new.source) c.args.limit _ c.read_on.new.bytes (Ok
    c.in_ok-read_on.field-0)
    c.new-bytes.ensures.items c.in_ok-read_on.ensures.told) c.in_ok-read_on-2.ensures.told)
    (not_enough _ c.in_ok-read_on-2.field-0 c.args.limit c.in_ok-read_on-2.ensures.enough
    c.in_ok-read_on-2.ensures.within)
