use Rattle.std.proofs.Common.{ℕ, List, ◌++◌, ap, ◌∙◌, arith}
use Rattle.gj_derivation_text.specs.PrintedDerivation.{shown_line}
use Rattle.gj_derivation_text.proofs.PrintedPairs.{one_pair, all_pairs}
use Rattle.gj_derivation_text.proofs.print.push_shown.Goals as goal

pub loop-i-preserved : goal.loop-i-preserved
loop-i-preserved c =
    one_pair (shown_line c.args.columns.now c.args.lines.now) _ _ _ c.args.names.now
    c.args.shown.now c.loop-i.i c.index-names-i.result c.index-shown-i.result
    (omega (arith, c.loop-i-test.true, c.requires)) c.loop-i-test.true c.index-names-i.is
    c.index-shown-i.is c.loop-i.invariant
    (c.in_ok-push_shown_line.ensures
    ∙ ap (λ (name : List ℕ). c.loop-i.out.items
    ++ (shown_line c.args.columns.now c.args.lines.now) name c.index-shown-i.result)
    c.bytes.ensures.value)

pub returns : goal.returns
returns c =
    all_pairs (shown_line c.args.columns.now c.args.lines.now) _ _ c.args.names.now c.args.shown.now
    c.loop-i.i c.loop-i-test.false c.loop-i.invariant
