use Rattle.std.proofs.Common.{◌≡◌, ◌==◌, ℕ, suc, true, List, [], ◌∷◌, refl, ap, sym, ◌∙◌, true≢false, length, arith, length-append}
use Rattle.std.proofs.lemmas.Bool.Decides.{nat_tests}
use Rattle.gj_forms.specs.TextLines.HasNextLine.{here, further}
use Rattle.gj_forms.specs.TextLines.IsSkippedText.{nothing, more}
use Rattle.gj_forms.proofs.LenientLines.{first_part}
use Rattle.gj_forms.proofs.text_lines.next_lenient_line.Goals as goal

none_from_test : (xs : List ℕ) → true ≡ (length xs == 0) → xs ≡ []
none_from_test [] h = refl
none_from_test (x ∷ xs) h = absurd (no_zero (length xs) h)
  where
    no_zero : (n : ℕ) → true ≡ (suc n == 0) → ⊥
    no_zero n h = grind (arith, nat_tests)

pub returns-then-not-is_skipped-clause-found : goal.returns-then-not-is_skipped-clause-found
returns-then-not-is_skipped-clause-found c =
    c.loop-left.invariant.found _ _ _
    (here _ c.first_line-line.ensures.start c.first_line-line.ensures.words
    (λ s. true≢false (sym (c.is_skipped.ensures.1 s) ∙ c.if-not-is_skipped.true)))

pub loop-left-preserved-then-begins_comment : goal.loop-left-preserved-then-begins_comment
loop-left-preserved-then-begins_comment c =
    let comment = c.behind_comment-left.ensures in
    record {
      found = λ start words rest h. c.loop-left.invariant.found start words rest
          (further _ _ _ comment.1 comment.2 h);
      skipped = λ h. c.loop-left.invariant.skipped (more _ _ _ comment.1 comment.2 h);
    }

pub loop-left-preserved : goal.loop-left-preserved
loop-left-preserved c =
    let skipped = c.is_skipped.ensures.0 c.if-not-is_skipped.false in
    let first = c.first_line-line.ensures.words in
    record {
      found = λ start words rest h. c.loop-left.invariant.found start words rest
          (further _ _ _ first skipped h);
      skipped = λ h. c.loop-left.invariant.skipped (more _ _ _ first skipped h);
    }

pub loop-left-smaller : goal.loop-left-smaller
loop-left-smaller c =
    let part = first_part _ _ _ c.first_line-line.ensures.words in
    omega (arith, part.2, length-append part.0 c.first_line-line.result.rest.now, ap length part.1)

pub returns-clause-none : goal.returns-clause-none
returns-clause-none c =
    c.loop-left.invariant.skipped
    (nothing _ (none_from_test c.loop-left.left.now c.loop-left-test.ensures))
