use Rattle.std.proofs.Common.{◌≢◌, ◌==◌, inl, [], length, sym, ap, subst, ◌∙◌}
use Rattle.gj_shape.specs.Additive.{IsTight}
use Rattle.gj_theory.specs.Uncovered.{AreUncoveredClasses}
use Rattle.gj_extreme.proofs.DecidedHalves.{least_class_uncovered}
use Rattle.gj_extreme.proofs.FaultCases.{handed_decision, memory_cause, memory_decision}
use Rattle.gj_extreme.proofs.decision.claim_by_cover.Goals as goal

pub zigzag_halves-requires-clause-uncovered : goal.zigzag_halves-requires-clause-uncovered
zigzag_halves-requires-clause-uncovered c =
    let some : c.args.cover.class ≢ [] =
    λ none. let e = c.is_empty.ensures ∙ ap (λ xs. length xs == 0) (c.as_slice.ensures ∙ none) in
    let f = c.if-is_empty.false in absurd cc in
    subst (AreUncoveredClasses c.args.shape.now.order (IsTight c.args.shape.now))
    (sym c.as_slice-2.ensures)
    (least_class_uncovered c.args.shape.now c.args.cover.class c.requires.cover.class some)

pub returns-in_err-halves : goal.returns-in_err-halves
returns-in_err-halves c =
    handed_decision c.args.shape.now c.from_residual.result c.in_err-halves.field-0.0
    c.from_residual.ensures.0 c.from_residual.ensures.1
    (memory_cause c.args.shape.now c.in_err-halves.field-0.0 c.in_err-halves.ensures.memory)

pub returns-in_err-copy : goal.returns-in_err-copy
returns-in_err-copy c =
    memory_decision c.args.shape.now c.from_residual-in_err-copy.result c.in_err-copy.field-0.0
    c.from_residual-in_err-copy.ensures.0
    c.from_residual-in_err-copy.ensures.1

pub returns : goal.returns
returns c = (
  (
    c.in_ok-copy.ensures,
    c.requires.minimal,
    c.requires.continuous,
    inl
        c.in_ok-halves.ensures.halves,
  ),
  c.in_ok-halves.ensures.limits,
)
