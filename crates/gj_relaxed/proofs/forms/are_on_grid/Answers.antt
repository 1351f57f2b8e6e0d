use Rattle.std.proofs.Common.{All, sym, subst, rules}
use Rattle.std.proofs.lemmas.List.{take_all}
use Rattle.std.proofs.lemmas.List.Elements.{All-more, All-get_or}
use Rattle.gj_problem.specs.declared.problem.Entry.{Entry}
use Rattle.gj_fields.specs.Rational.{rational}
use Rattle.gj_problem.specs.Moves.{IsGridValue}
use Rattle.gj_relaxed.proofs.forms.are_on_grid.Goals as goal

pub loop-entry-preserved : goal.loop-entry-preserved
loop-entry-preserved c =
    let P : Entry → Type 0 = λ e. IsGridValue c.args.grid (rational e.value) in
    All-more P c.args.entries.now c.loop-entry.entry-index c.entry-item.result
    c.loop-entry-test.true c.loop-entry.invariant
    (subst P c.entry-item.is (c.is_grid_value.ensures.0 c.if-not-is_grid_value.false))

pub returns-then-not-is_grid_value : goal.returns-then-not-is_grid_value
returns-then-not-is_grid_value c =
    let P : Entry → Type 0 = λ e. IsGridValue c.args.grid (rational e.value) in (
      λ t. absurd (cc),
      λ all. let t = c.is_grid_value.ensures.1 (subst P (sym c.entry-item.is)
          (All-get_or P c.args.entries.now c.loop-entry.entry-index c.entry-item.result
          c.loop-entry-test.true all)) in absurd (cc),
    )

pub returns : goal.returns
returns c =
    let P : Entry → Type 0 = λ e. IsGridValue c.args.grid (rational e.value) in (
      λ t. subst (All P) (take_all c.loop-entry.entry-index c.args.entries.now
          c.loop-entry-test.false) c.loop-entry.invariant,
      λ all. search rules,
    )
