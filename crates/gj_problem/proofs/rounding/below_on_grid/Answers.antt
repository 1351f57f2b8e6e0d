use Rattle.std.proofs.Common.{◌≡◌, ◌∙◌, Option, IsNone, pos, to_z, of_z, sym, subst, subst₂, rules}
use Rattle.gj_frac.specs.declared.Frac.{Frac}
use Rattle.std.proofs.lemmas.Int.{to_z-of_z}
use Rattle.std.proofs.lemmas.Option.{MatchOption-at_some}
use Rattle.gj_frac.specs.Fraction.{IsRatio}
use Rattle.gj_fields.specs.Rational.{rational}
use Rattle.gj_problem.specs.Moves.{IsBelowOnGrid}
use Rattle.gj_problem.proofs.AddedSums.{ok_if_some}
use Rattle.gj_problem.proofs.GridParts.{below_from_floor}
use Rattle.gj_problem.proofs.rounding.below_on_grid.Goals as goal
use Rattle.gj_problem.specs.RoundedCuts.{IsWideTimes}
use Rattle.gj_problem.proofs.WideRoundings.{err_if_none, not_none}
use mir.Syntax.{w128}

pub returns-clause-value : goal.returns-clause-value
returns-clause-value c =
    ok_if_some c.ok_or.result c.new.result
    (λ y. IsBelowOnGrid c.args.grid (rational c.args.x) (rational y)) c.ok_or.ensures.ok_part
    (λ y is. below_from_floor c.args.grid c.args.x y c.in_ok-scaled.field-0 c.floor-multiple.result
    c.requires c.in_ok-scaled.ensures.value
    c.floor-multiple.ensures
    (subst₂ (IsRatio y) (to_z-of_z w128 c.floor-multiple.result (search rules))
    (to_z-of_z w128 c.from.result (search rules) ∙ c.from.ensures)
    (MatchOption-at_some _ _ y is c.new.ensures.value)))

pub returns-clause-wide : goal.returns-clause-wide
returns-clause-wide c =
    err_if_none c.ok_or.result c.new.result
    (IsWideTimes c.args.grid c.args.x) c.ok_or.ensures.ok_part
    (λ none.
    let k = c.floor-multiple.result in
    let s = c.in_ok-scaled.field-0 in
    let grid_is : to_z w128 (of_z w128 c.from.result) ≡ pos c.args.grid =
    to_z-of_z w128 c.from.result (search rules) ∙ c.from.ensures in
    let floor_is : to_z w128 (of_z w128 k) ≡ k = to_z-of_z w128 k (search rules) in
    let nothing : IsNone c.new.result =
    subst (λ (o : Option Frac). IsNone o) (sym none) (search rules) in
    absurd (not_none c.args.grid (to_z w128 (of_z w128 c.from.result))
    (to_z w128 (of_z w128 k)) k s grid_is floor_is c.requires c.ranges.grid.fits
    c.floor-multiple.ensures (c.new.ensures.none.0 nothing)))
