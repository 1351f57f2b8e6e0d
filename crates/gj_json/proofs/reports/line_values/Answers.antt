use Rattle.std.proofs.Common.{get_or, ap, ◌∙◌, arith, rules}
use Rattle.serde_json.specs.Data.{string, array}
use Rattle.serde_json.proofs.Views.{view-Array}
use Rattle.gj_json.proofs.ProofLines.{line_ended, byte_taken, all_lines}
use Rattle.gj_json.proofs.reports.line_values.Goals.{then-byte-eq10+in_ok-text_value+in_ok-push, else-byte-eq10+in_ok-push-2}
use Rattle.gj_json.proofs.reports.line_values.Goals as goal

pub loop-byte-preserved : goal.loop-byte-preserved
loop-byte-preserved c =
    let text = c.args.text.now in
    let n = c.loop-byte.byte-index in
    let vs = c.loop-byte.values.items in
    let line = c.loop-byte.line.items in
    elim c.if-byte-eq10.branch [
      | then-byte-eq10+in_ok-text_value+in_ok-push w ↦
          rw (w.values-is, w.line-is)
          (line_ended text n vs w.push.new.self.items line w.clear.new.self.items
          w.in_ok-text_value.field-0 (get_or text n 0)
          (omega arith) (search rules) w.if-byte-eq10.true c.loop-byte.invariant
          (w.in_ok-text_value.ensures ∙ ap string w.as_slice.ensures.value)
          w.in_ok-push.ensures.items w.clear.ensures.items)
      | else-byte-eq10+in_ok-push-2 w ↦
          rw (w.values-is, w.line-is)
          (byte_taken text n vs line w.push-else-byte-eq10.new.self.items (get_or text n 0)
          (omega arith) (search rules)
          w.if-byte-eq10.false c.requires.bytes c.loop-byte.invariant w.in_ok-push-2.ensures.items)
    ]

pub returns : goal.returns
returns c =
    let h = all_lines c.args.text.now c.loop-byte.byte-index c.loop-byte.values.items
    c.loop-byte.line.items (omega arith)
    c.requires.ended c.loop-byte.invariant in
    (h.0, h.1, view-Array c.loop-byte.values ∙ ap array h.2)
