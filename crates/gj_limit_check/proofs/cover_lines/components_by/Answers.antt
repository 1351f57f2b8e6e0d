use Rattle.std.proofs.Common.{◌≡◌, ◌+◌, ℕ, List, set, true, take, get_or, sym, ap, subst, subst₂, ◌∙◌, arith}
use Rattle.std.proofs.lemmas.List.{get_or_default}
use Rattle.gj_check.specs.CoverLines.{HaveLines}
use Rattle.gj_check.proofs.NumberedLines.{zero_line}
use Rattle.gj_limit_check.proofs.LimitNumberedLines.{AreNumberedBy, opening, joining, broken, all_covered}
use Rattle.gj_limit_check.proofs.cover_lines.components_by.Goals as goal
use Rattle.gj_limit_check.proofs.cover_lines.components_by.Goals.{then-line, else-line}

pub returns-then-not-meets_rule : goal.returns-then-not-meets_rule
returns-then-not-meets_rule c =
    let lines = c.args.lines.now in
    let k = c.loop-index.index in
    let h = c.loop-index.invariant in
    let have = subst (HaveLines (take k lines)) (sym c.as_slice.ensures.value) h.numbered.have in
    broken c.args.shape.now lines k c.loop-index-test.true h.meet
    (λ meets. let yes' = (c.meets_rule.ensures (take k lines) have).1 meets in
    let no' = c.if-not-meets_rule.true in cc)

pub loop-index-preserved : goal.loop-index-preserved
loop-index-preserved c =
    let lines = c.args.lines.now in
    let k = c.loop-index.index in
    let low = c.loop-index-test.true in
    let h = c.loop-index.invariant in
    let l = get_or lines k zero_line in
    let is : l ≡ get_or lines k l = sym (get_or_default lines k l zero_line low) in
    let within = c.requires.lines k zero_line low in
    let have = subst (HaveLines (take k lines)) (sym c.as_slice.ensures.value) h.numbered.have in
    let meets = (c.meets_rule.ensures (take k lines) have).0 c.if-not-meets_rule.false in
    let has_line = c.loop-index.has_line.items in
    let numbers = c.loop-index.number.items in
    let Next = λ (number : List ℕ) (count : ℕ).
    AreNumberedBy c.args.shape.now lines (k + 1) (set has_line l.interval true) number count in
    elim c.if-line.branch [
      | then-line w ↦
          let more = opening c.args.shape.now lines k has_line numbers c.loop-index.count l h low is
          within.interval meets w.if-line.true in
          subst₂ Next (sym (ap (λ v. v.items) w.number-is)) (sym w.count-is) more
      | else-line w ↦
          let more = joining c.args.shape.now lines k has_line numbers c.loop-index.count l h low is
          within.interval within.from meets w.if-line.false in
          let number_length = h.numbered.number_length in
          let from = within.from in
          let read : w.index.result.now ≡ get_or numbers l.from 0 = w.index.ensures
          ∙ get_or_default numbers l.from _ 0 (omega arith) in
          let written = ap (λ v. v.items) w.number-is ∙ ap (λ n. set numbers l.interval n) read in
          subst₂ Next (sym written) (sym w.count-is) more
    ]

pub returns : goal.returns
returns c =
    let past = c.loop-index-test.false in
    let end = c.loop-index.auto.index-end in
    all_covered c.args.shape.now c.args.lines.now c.loop-index.index
    (omega arith) c.loop-index.has_line.items
    (record { number = c.loop-index.number; count = c.loop-index.count }) c.requires.count
    c.requires.lines c.loop-index.invariant
