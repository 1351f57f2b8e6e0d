use Rattle.std.proofs.Common.{◌≡◌, ◌+◌, ◌<◌, ◌^◌, inl, inr, false, Bool, ℕ, List, [], ◌∷◌, ◌++◌, length, take, drop, get_or, refl, sym, subst, arith}
use Rattle.gj_frac.specs.declared.Frac.{Frac}
use Rattle.gj_fields.specs.Rational.{rational}
use Rattle.gj_problem.specs.declared.bounds.Held.{Held}
use Rattle.gj_problem.specs.Aggregates.{held, IsLeftOut, IsTurned}
use Rattle.gj_problem.specs.Steps.{AreTurned}
use Rattle.gj_problem.proofs.WideRoundings.{handed_on}
use Rattle.gj_problem.proofs.OneColumn.{right_begun, right_more}
use Rattle.gj_problem.proofs.Prefixes.{made_next, held_next, held_split, held_all_taken, default_unused}
use Rattle.gj_problem.proofs.TurnedColumns.{none_free}
use Rattle.gj_problem.specs.WideRows.{AreWideTurns}
use Rattle.gj_problem.proofs.NarrowRows.{narrow_turns_of_none, narrow_turns_with, narrow_turns_to_free}
use Rattle.gj_problem.proofs.bounds.turned_columns.Goals as goal

pub loop-j-init : goal.loop-j-init
loop-j-init c = record {
  turned = record {
    made = c.new.ensures.items;
    right_is = right_begun (rational c.args.right) c.new.result.items c.new.ensures.items;
  };
  narrow = narrow_turns_of_none c.args.right;
}

pub loop-j-preserved : goal.loop-j-preserved
loop-j-preserved c =
    let ds = c.args.columns.now in
    let cs = c.args.coefficients.now in
    let ups = c.args.at_upper.now in
    let j = c.loop-j.j in
    let up : Bool = get_or ups j false in
    let same : c.in-Ok.index ≡ j = c.in-Ok.ensures.1 in
    let c_below : j < length cs = omega arith in
    let up_below : j < length ups = omega arith in
    let next = held_next ds cs ups j c.index-columns-j.result c.index-coefficients-j.result up
    c.loop-j-test.true c_below up_below
    c.index-columns-j.is c.index-coefficients-j.is (default_unused ups j false up up_below) in
    let h : ℕ → Held = λ i. record {
      index = i;
      column = c.index-columns-j.result;
      coefficient = c.index-coefficients-j.result;
      at_upper = up;
    } in
    let next_is = subst (λ (i : ℕ). take (j + 1) (held 0 ds cs ups) ≡ take j (held 0 ds cs ups)
    ++ h i ∷ []) (sym same) next in
    let small : c.in-Ok.index < 2 ^ 32 = omega (arith, c.in-Ok.ensures.0, same) in
    record {
      turned = record {
        made = made_next IsLeftOut IsTurned (take j (held 0 ds cs ups))
            (take (j + 1) (held 0 ds cs ups)) (h c.in-Ok.index)
            c.loop-j.bounds.pieces.items c.turn.new.bounds.pieces.items next_is
            c.loop-j.invariant.turned.made (c.in_ok-turn.ensures.next c.if-not-branch.false);
        right_is = right_more (rational c.args.right) (rational c.loop-j.bounds.right)
            (rational c.turn.new.bounds.right)
            c.loop-j.bounds.pieces.items c.turn.new.bounds.pieces.items
            c.loop-j.invariant.turned.right_is
            (c.in_ok-turn.ensures.right c.if-not-branch.false);
      };
      narrow = narrow_turns_with (take j (held 0 ds cs ups))
          (take (j + 1) (held 0 ds cs ups)) c.args.right (h c.in-Ok.index)
          c.loop-j.bounds.pieces.items c.loop-j.bounds.right next_is c.loop-j.invariant.turned
          c.loop-j.invariant.narrow small
          c.in_ok-turn.ensures.narrow;
    }

pub returns-then-not-branch-clause-turned : goal.returns-then-not-branch-clause-turned
returns-then-not-branch-clause-turned c =
    let ds = c.args.columns.now in
    let cs = c.args.coefficients.now in
    let ups = c.args.at_upper.now in
    let j = c.loop-j.j in
    let up : Bool = get_or ups j false in
    let same : c.in-Ok.index ≡ j = c.in-Ok.ensures.1 in
    let c_below : j < length cs = omega arith in
    let up_below : j < length ups = omega arith in
    let split = held_split ds cs ups j c.index-columns-j.result c.index-coefficients-j.result up
    c.loop-j-test.true c_below
    up_below c.index-columns-j.is c.index-coefficients-j.is
    (default_unused ups j false up up_below) in
    let h : ℕ → Held = λ i. record {
      index = i;
      column = c.index-columns-j.result;
      coefficient = c.index-coefficients-j.result;
      at_upper = up;
    } in
    record {
      before = take j (held 0 ds cs ups);
      column = h c.in-Ok.index;
      after = drop (j + 1) (held 0 ds cs ups);
      place = subst (λ (i : ℕ). held 0 ds cs ups ≡ take j (held 0 ds cs ups) ++ h i ∷ drop (j + 1)
          (held 0 ds cs ups)) (sym same) split;
      none_before = none_free (take j (held 0 ds cs ups)) c.loop-j.bounds.pieces.items
          c.loop-j.invariant.turned.made;
      free = c.in_ok-turn.ensures.free c.if-not-branch.true;
      index = refl;
    }

pub returns-then-not-branch-clause-narrow : goal.returns-then-not-branch-clause-narrow
returns-then-not-branch-clause-narrow c =
    let ds = c.args.columns.now in
    let cs = c.args.coefficients.now in
    let ups = c.args.at_upper.now in
    let j = c.loop-j.j in
    let up : Bool = get_or ups j false in
    let same : c.in-Ok.index ≡ j = c.in-Ok.ensures.1 in
    let c_below : j < length cs = omega arith in
    let up_below : j < length ups = omega arith in
    let split = held_split ds cs ups j c.index-columns-j.result c.index-coefficients-j.result up
    c.loop-j-test.true c_below
    up_below c.index-columns-j.is c.index-coefficients-j.is
    (default_unused ups j false up up_below) in
    let h : ℕ → Held = λ i. record {
      index = i;
      column = c.index-columns-j.result;
      coefficient = c.index-coefficients-j.result;
      at_upper = up;
    } in
    narrow_turns_to_free (take j (held 0 ds cs ups)) (held 0 ds cs ups)
    (drop (j + 1) (held 0 ds cs ups)) c.args.right (h c.in-Ok.index)
    c.loop-j.bounds.pieces.items c.loop-j.bounds.right
    (subst (λ (i : ℕ). held 0 ds cs ups ≡ take j (held 0 ds cs ups) ++ h i ∷ drop (j + 1)
    (held 0 ds cs ups)) (sym same) split)
    c.loop-j.invariant.turned c.loop-j.invariant.narrow (omega (arith, c.in-Ok.ensures.0, same))
    (c.in_ok-turn.ensures.free c.if-not-branch.true)

pub returns-clause-turned : goal.returns-clause-turned
returns-clause-turned c =
    subst (λ (hs : List Held). AreTurned hs c.args.right c.loop-j.bounds.pieces.items
    c.loop-j.bounds.right)
    (held_all_taken c.args.columns.now c.args.coefficients.now c.args.at_upper.now c.loop-j.j
    c.loop-j-test.false) c.loop-j.invariant.turned

pub returns-in_err-turn-clause-wide : goal.returns-in_err-turn-clause-wide
returns-in_err-turn-clause-wide c = λ fault.
    let ds = c.args.columns.now in
    let cs = c.args.coefficients.now in
    let ups = c.args.at_upper.now in
    let j = c.loop-j.j in
    let up : Bool = get_or ups j false in
    let same : c.in-Ok.index ≡ j = c.in-Ok.ensures.1 in
    let c_below : j < length cs = omega arith in
    let up_below : j < length ups = omega arith in
    let split = held_split ds cs ups j c.index-columns-j.result c.index-coefficients-j.result up
    c.loop-j-test.true c_below
    up_below c.index-columns-j.is c.index-coefficients-j.is
    (default_unused ups j false up up_below) in
    let h : ℕ → Held = λ i. record {
      index = i;
      column = c.index-columns-j.result;
      coefficient = c.index-coefficients-j.result;
      at_upper = up;
    } in
    record {
      before = take j (held 0 ds cs ups);
      next = h c.in-Ok.index;
      after = drop (j + 1) (held 0 ds cs ups);
      place = subst (λ (i : ℕ). held 0 ds cs ups ≡ take j (held 0 ds cs ups) ++ h i ∷ drop (j + 1)
          (held 0 ds cs ups)) (sym same) split;
      pieces = c.loop-j.bounds.pieces.items;
      right = c.loop-j.bounds.right;
      turned = c.loop-j.invariant.turned;
      wide = inr (c.in_err-turn.ensures.wide
          (handed_on c.from_residual.result _ _ c.from_residual.ensures.1 fault));
    }

pub returns-in_default-clause-wide : goal.returns-in_default-clause-wide
returns-in_default-clause-wide c = λ fault.
    let ds = c.args.columns.now in
    let cs = c.args.coefficients.now in
    let ups = c.args.at_upper.now in
    let j = c.loop-j.j in
    let up : Bool = get_or ups j false in
    let k : Frac = get_or cs j c.args.right in
    let c_below : j < length cs = omega arith in
    let up_below : j < length ups = omega arith in
    record {
      before = take j (held 0 ds cs ups);
      next = record {
        index = j;
        column = c.index-columns-j.result;
        coefficient = k;
        at_upper =
            up;
      };
      after = drop (j + 1) (held 0 ds cs ups);
      place = held_split ds cs ups j c.index-columns-j.result k up c.loop-j-test.true c_below
          up_below c.index-columns-j.is
          (default_unused cs j c.args.right k c_below) (default_unused ups j false up up_below);
      pieces = c.loop-j.bounds.pieces.items;
      right = c.loop-j.bounds.right;
      turned = c.loop-j.invariant.turned;
      wide = inl (omega (arith, c.in_default.ensures));
    }

pub returns-clause-narrow : goal.returns-clause-narrow
returns-clause-narrow c =
    subst (λ (hs : List Held). AreWideTurns hs c.args.right → ⊥)
    (held_all_taken c.args.columns.now c.args.coefficients.now c.args.at_upper.now c.loop-j.j
    c.loop-j-test.false) c.loop-j.invariant.narrow
