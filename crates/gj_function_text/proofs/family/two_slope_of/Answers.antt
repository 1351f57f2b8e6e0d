use Rattle.std.proofs.Common.{refl, sym, subst}
use Rattle.std.proofs.lemmas.Bool.{false≢true}
use Rattle.gj_lex.specs.SpelledNumbers.{IsCountWord}
use Rattle.gj_lex.specs.declared.spelling.Spelling.TheVariants.{Lenient}
use Rattle.gj_lex.proofs.SpelledWords.{count_is_numeral}
use Rattle.gj_function_text.specs.FamilyLine.{AreSigns}
use Rattle.gj_function_text.proofs.FamilyRead.{no_slopes_count, no_slopes_signs, only_signs, two_slope_named, two_slope_refused}
use Rattle.gj_function_text.proofs.family.two_slope_of.Goals as goal

pub returns-then-not-is_count-clause-broken : goal.returns-then-not-is_count-clause-broken
returns-then-not-is_count-clause-broken c =
    no_slopes_count c.args.count.now c.args.word.now
    (λ n counted. false≢true (c.if-not-is_count.ensures.1
    (subst (IsCountWord Lenient c.args.count.now)
    (count_is_numeral Lenient c.args.count.now n counted).1 counted)))

pub returns-then-not-are_signs-clause-broken : goal.returns-then-not-are_signs-clause-broken
returns-then-not-are_signs-clause-broken c =
    no_slopes_signs c.args.count.now c.args.word.now _ (c.if-not-is_count.ensures.0 refl)
    (λ signs spelled. false≢true
    (c.if-not-are_signs.ensures.1 (only_signs c.args.word.now signs spelled)))

pub returns-in-Ok-two_slope-clause-found : goal.returns-in-Ok-two_slope-clause-found
returns-in-Ok-two_slope-clause-found c =
    two_slope_named c.args.count.now c.args.word.now _ _ c.as_slice.result.now
    c.in-Ok-two_slope.shape (c.if-not-is_count.ensures.0 refl)
    (subst (AreSigns c.args.word.now) (sym c.as_slice.ensures.value) c.in-Ok.ensures)
    c.cut_count-place.ensures c.in-Ok-two_slope.ensures.ok
    c.in-Ok-two_slope.ensures.closed_form c.in-Ok-two_slope.ensures.within_bounds

pub returns-in-Ok-clause-broken : goal.returns-in-Ok-clause-broken
returns-in-Ok-clause-broken c =
    two_slope_refused c.args.count.now c.args.word.now _ _ c.as_slice.result.now
    c.in-Err-two_slope.fault _
    (c.if-not-is_count.ensures.0 refl)
    (subst (AreSigns c.args.word.now) (sym c.as_slice.ensures.value) c.in-Ok.ensures)
    c.cut_count-place.ensures c.in-Err-two_slope.ensures.fault c.line_fault.ensures
