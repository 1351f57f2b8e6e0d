use Rattle.std.proofs.Common.{◌≡◌, ◌<◌, pos, get_or, int_div, w64, to_z, of_z, length, sym, ap, ap₂, subst, FitsSigned, ◌∙◌, rules, arith}
use Rattle.std.proofs.lemmas.Int.{ints, to_z-of_z, quot_fits}
use Rattle.gj_shape.specs.FunctionData.{at}
use Rattle.gj_shape.proofs.AtLemmas.{at_below}
use Rattle.gj_shape.proofs.ListEntries.{entries_pushed}
use Rattle.gj_transform.proofs.entries.quotients.Goals as goal

pub loop-n-preserved : goal.loop-n-preserved
loop-n-preserved c =
    let xs = c.args.entries.now in
    let i = c.loop-n.n-index in
    let d = c.args.divisor in
    let inside : i < length xs = omega arith in
    let entry : to_z w64 (of_z w64 (get_or xs i (pos 0))) ≡ at xs i = to_z-of_z w64 _ (search rules)
    ∙ sym (at_below xs i inside) in
    let fits : FitsSigned w64 (at xs i) = subst (FitsSigned w64) (sym (at_below xs i inside))
    (search rules) in
    let divisor : to_z w64 (of_z w64 c.from.result) ≡ pos d =
    ap (λ z. to_z w64 (of_z w64 z)) c.from.ensures ∙ omega (arith, ints) in
    entries_pushed (λ j. int_div (at xs j) (pos d)) i _ _ _ c.loop-n.invariant
    c.in_ok-push.ensures.items
    (ap (λ z. to_z w64 (of_z w64 z)) (ap₂ int_div entry divisor)
    ∙ to_z-of_z w64 (int_div (at xs i) (pos d))
    (quot_fits w64 (at xs i) (pos d) fits (omega (arith, ints))))
