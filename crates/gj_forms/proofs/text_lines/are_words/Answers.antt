use Rattle.std.proofs.Common.{◌≤◌, ℕ, length, get_or, below_more, arith}
use Rattle.std.proofs.lemmas.Bool.{false≢true, lt-ltb}
use borrow.Author.Tests.{ltb-true}
use Rattle.gj_forms.specs.TextLines.{IsInWord}
use Rattle.gj_forms.proofs.StrictLines.{IsPlainBetween, in_words, no_word_before, word_before, last_word}
use Rattle.gj_forms.proofs.text_lines.are_words.Goals as goal
use Rattle.gj_forms.proofs.text_lines.are_words.Goals.{then-byte-eq9-via-then-byte-eq9, then-byte-eq9-via-else-byte-eq9+then-byte-eq10, then-byte-eq32+else-place-start, else-byte-eq32+else-byte-eq9+else-byte-eq10}

pub returns-then-place-start : goal.returns-then-place-start
returns-then-place-start c = (
  λ h. absurd (false≢true h),
  λ all. absurd (no_word_before c.args.bytes.now c.loop-place.start c.loop-place.place
      c.if-place-start.true c.loop-place-test.true
      c.if-byte-eq32.true (c.loop-place.invariant.same.1 all)),
)

pub returns-then-byte-eq9 : goal.returns-then-byte-eq9
returns-then-byte-eq9 c = (
  λ h. absurd (false≢true h),
  λ all.
      let word = in_words c.args.bytes.now c.loop-place.place all c.loop-place-test.true
      c.if-byte-eq32.false in
      absurd
      (elim c.then-byte-eq9.branch [
        | then-byte-eq9-via-then-byte-eq9 w ↦ word.no_tab w.if-byte-eq9.true
        | then-byte-eq9-via-else-byte-eq9+then-byte-eq10 w ↦ word.no_line_feed w.if-byte-eq10.true
      ]),
)

pub loop-place-preserved : goal.loop-place-preserved
loop-place-preserved c =
    let bytes = c.args.bytes.now in
    let start = c.loop-place.start in
    let place = c.loop-place.place in
    let inv = c.loop-place.invariant in
    elim c.if-byte-eq32.branch [
      | then-byte-eq32+else-place-start w ↦
          let word = word_before bytes start place
          (omega (arith, inv.within, w.if-place-start.false)) c.loop-place-test.true inv.plain
          w.if-byte-eq32.true in
          rw w.start-is
          (record {
            same = (λ more. inv.same.0 (word.1 more), λ all. word.0 (inv.same.1 all));
            within = omega arith;
            plain = λ k low high. absurd (omega arith);
          })
      | else-byte-eq32+else-byte-eq9+else-byte-eq10 w ↦
          let byte : IsInWord (get_or bytes place 0) = record {
            no_tab = w.if-byte-eq9.false;
            no_line_feed = w.if-byte-eq10.false;
            no_space = w.if-byte-eq32.false;
          } in
          rw w.start-is
          (record {
            same = inv.same;
            within = omega (arith, inv.within);
            plain = λ k low high.
                below_more (λ (j : ℕ). start ≤ j → IsInWord (get_or bytes j 0)) place
                (λ j l lo. inv.plain j lo l) (λ lo. byte) k high low;
          })
    ]

pub returns : goal.returns
returns c =
    let bytes = c.args.bytes.now in
    let start = c.loop-place.start in
    let inv = c.loop-place.invariant in
    let plain : IsPlainBetween bytes start (length bytes) =
    λ k low high. inv.plain k low (omega arith) in
    let last = last_word bytes start (omega (arith, inv.within)) plain in (
      λ h. inv.same.0 (last.0 (ltb-true start (length bytes) h)),
      λ all. lt-ltb start (length bytes) (last.1 (inv.same.1 all)),
    )
