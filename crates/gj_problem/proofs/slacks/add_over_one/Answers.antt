use Rattle.std.proofs.Common.{◌≡◌, ℤ, pos, to_z, of_z, inr, ⊎_elim, List, sym, ap, subst, ◌∙◌}
use Rattle.gj_frac.specs.Fraction.{numerator}
use Rattle.gj_frac.proofs.Reduced.{read_part}
use Rattle.gj_problem.specs.declared.problem.Entry.{Entry}
use Rattle.gj_problem.specs.declared.problem.Sense.TheVariants.{Equal}
use Rattle.gj_problem.specs.Aggregates.{Weighted}
use Rattle.gj_problem.specs.Combinations.{IsAdded}
use Rattle.gj_problem.proofs.Combinations.{constraint_added, constraint_left_out}
use Rattle.gj_problem.proofs.slacks.add_over_one.Goals as goal
use mir.Syntax.{w128}

pub returns-then-num-eq0-clause-sum : goal.returns-then-num-eq0-clause-sum
returns-then-num-eq0-clause-sum c = λ cs r h.
    let m = c.args.multiplier in
    let none : m.num ≡ pos 0 =
    sym (read_part m.num m.lowest.num_fits)
    ∙ ap (λ (z : ℤ). to_z w128 (of_z w128 z)) (sym c.num.ensures)
    ∙ ap (to_z w128) c.if-num-eq0.true in
    let w : Weighted = record { multiplier = m; constraint = c.args.constraint.now } in
    (cs, r, h, constraint_left_out c.args.problem.now cs r w none)

pub returns-then-is_equation-clause-sum : goal.returns-then-is_equation-clause-sum
returns-then-is_equation-clause-sum c = λ cs r h.
    let k = c.args.constraint.now in
    let w : Weighted = record { multiplier = c.args.multiplier; constraint = k } in
    let equal : k.sense ≡ Equal = c.is_equation.ensures.0 c.if-is_equation.true in
    let (ds, s, parts, added) = c.in_ok-add.ensures cs r h in (
      ds,
      s,
      parts,
      constraint_added c.args.problem.now cs r w ds s
          (subst (λ (es : List Entry). IsAdded cs r w.multiplier es k.right ds s) c.as_slice.ensures
          added) (λ some wide. some (inr equal)),
    )

pub returns-clause-sum : goal.returns-clause-sum
returns-clause-sum c = λ cs r h.
    let k = c.args.constraint.now in
    let w : Weighted = record { multiplier = c.args.multiplier; constraint = k } in
    let (ds, s, parts, added) = c.in_ok-add.ensures cs r h in (
      ds,
      s,
      parts,
      constraint_added c.args.problem.now cs r w ds s
          (subst (λ (es : List Entry). IsAdded cs r w.multiplier es k.right ds s) c.as_slice.ensures
          added)
          (λ some wide. c.in_ok-piece.ensures.narrow wide),
    )

pub returns-clause-slack : goal.returns-clause-slack
returns-clause-slack c =
    let some : numerator c.args.multiplier ≡ pos 0 →
    ⊥ = λ none. c.if-num-eq0.false (ap (of_z w128) (c.num.ensures ∙ none)) in
    let unequal : c.args.constraint.now.sense ≡ Equal → ⊥ = λ equal. let t =
    c.is_equation.ensures.1 equal in absurd (cc) in
    inr (
      λ passed. ⊎_elim some unequal passed,
      c.in_ok-piece.piece,
      c.in_ok-piece.ensures.slack,
      c.in_ok-push.ensures.items,
    )
