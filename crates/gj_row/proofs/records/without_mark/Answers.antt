use Rattle.std.proofs.Common.{◌∙◌, arith}
use Rattle.std.proofs.lemmas.List.{take_rest}
use Rattle.gj_row.proofs.Lines.{behind_mark, no_mark}
use Rattle.gj_row.proofs.records.without_mark.Goals.{else-bytes-ge3-via-then-bytes-ge3+then-bytes+then-bytes-2+else-bytes-3, else-bytes-ge3-via-then-bytes-ge3+then-bytes+else-bytes-2, else-bytes-ge3-via-then-bytes-ge3+else-bytes, else-bytes-ge3-via-else-bytes-ge3}
use Rattle.gj_row.proofs.records.without_mark.Goals as goal

pub returns-then-bytes-3 : goal.returns-then-bytes-3
returns-then-bytes-3 c =
    take_rest c.args.bytes.now 3
    ∙ behind_mark c.args.bytes.now c.if-bytes-ge3.true c.if-bytes.true c.if-bytes-2.true
    c.if-bytes-3.true

pub returns : goal.returns
returns c = elim c.else-bytes-ge3.branch [
  | else-bytes-ge3-via-then-bytes-ge3+then-bytes+then-bytes-2+else-bytes-3 w ↦ no_mark
      c.args.bytes.now (λ long a b d. w.if-bytes-3.false d)
  | else-bytes-ge3-via-then-bytes-ge3+then-bytes+else-bytes-2 w ↦ no_mark c.args.bytes.now
      (λ long a b d. w.if-bytes-2.false b)
  | else-bytes-ge3-via-then-bytes-ge3+else-bytes w ↦ no_mark c.args.bytes.now
      (λ long a b d. w.if-bytes.false a)
  | else-bytes-ge3-via-else-bytes-ge3 w ↦ no_mark c.args.bytes.now
      (λ long a b d. omega (arith, long, w.if-bytes-ge3.false))
]
