use Rattle.std.proofs.Common.{All, map, sym, subst}
use Rattle.std.proofs.lemmas.List.Elements.{All-cons, All-tail, All-map}
use Rattle.gj_frac.specs.declared.Frac.{Frac}
use Rattle.gj_problem.specs.declared.problem.Entry.{Entry}
use Rattle.gj_fields.specs.Rational.{rational}
use Rattle.gj_problem.specs.Moves.{IsGridValue}
use Rattle.gj_relaxed.proofs.RelaxedSides.{unmapped}
use Rattle.gj_relaxed.proofs.forms.is_on_grid.Goals as goal

pub returns-then-is_grid_value : goal.returns-then-is_grid_value
returns-then-is_grid_value c =
    let k = c.args.constraint.now in
    let P : Frac → Type 0 = λ x. IsGridValue c.args.grid (rational x) in
    let value : Entry → Frac = λ e. e.value in
    let Q : Entry → Type 0 = λ e. P e.value in (
      λ t. All-cons P k.right (map value k.entries)
          (c.is_grid_value.ensures.0 c.if-is_grid_value.true)
          (All-map P value k.entries
          (subst (All Q) c.as_slice.ensures (c.are_on_grid.ensures.0 t))),
      λ all. c.are_on_grid.ensures.1
          (subst (All Q) (sym c.as_slice.ensures)
          (unmapped P value k.entries (All-tail P k.right (map value k.entries) all))),
    )
