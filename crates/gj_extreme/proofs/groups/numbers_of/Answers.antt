use Rattle.std.proofs.Common.{◌≡◌, length, take, ap, ◌∙◌, arith}
use Rattle.std.proofs.Math.Seq.{take-length}
use Rattle.gj_extreme.proofs.groups.numbers_of.Goals as goal

pub returns : goal.returns
returns c =
    let all : c.loop-number.number-index ≡ length c.args.component.now = omega arith in
    c.loop-number.invariant ∙ ap (λ n. take n c.args.component.now) all
    ∙ take-length c.args.component.now
