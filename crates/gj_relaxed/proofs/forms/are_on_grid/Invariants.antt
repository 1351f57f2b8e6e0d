use Rattle.std.proofs.Common.{All, take}
use Rattle.gj_fields.specs.Rational.{rational}
use Rattle.gj_problem.specs.Moves.{IsGridValue}
use Rattle.gj_relaxed.proofs.forms.are_on_grid.Given as goal

abbrev pub invariant-loop-entry : goal.invariant-loop-entry
invariant-loop-entry l =
    All (λ e. IsGridValue l.grid (rational e.value)) (take l.entry-index l.entries)
