use Rattle.std.proofs.Common.{rules, ℤ, pos, ◌<ℤ◌, get_or, refl, sym, subst, arith}
use Rattle.gj_elim.proofs.LazySteps.{lazy_step}
use Rattle.gj_elim.proofs.LazyRows.{have_room, row_products, kept_products, are_narrow, zero_outside, extent_behind, factors_read, small_entry}
use Rattle.gj_elim.proofs.lazy.step_once.Goals as goal

pub combine_within-requires-clause-row : goal.combine_within-requires-clause-row
combine_within-requires-clause-row c =
    row_products _ _ _ _ _ _ _ _ _ _
    (have_room c.requires.extent c.requires.kept_extent c.requires.bound
    (omega arith) c.in-Some.ensures)

pub combine_within-requires-clause-kept : goal.combine_within-requires-clause-kept
combine_within-requires-clause-kept c =
    kept_products _ _ _ _ _ _ _ _ _ _
    (have_room c.requires.extent c.requires.kept_extent c.requires.bound
    (omega arith) c.in-Some.ensures)

pub combine_within-requires-clause-row_zero : goal.combine_within-requires-clause-row_zero
combine_within-requires-clause-row_zero c =
    zero_outside c.args.row.now c.args.column c.args.extent.bound c.args.extent.end
    c.in-Some.next.end c.requires.row_zero c.requires.extent
    c.in-Some.ensures.row_inside

pub combine_within-requires-clause-kept_zero : goal.combine_within-requires-clause-kept_zero
combine_within-requires-clause-kept_zero c =
    zero_outside c.args.kept.now c.args.column c.args.kept_extent.bound c.args.kept_extent.end
    c.in-Some.next.end c.requires.kept_zero
    c.requires.kept_extent c.in-Some.ensures.kept_inside

pub returns-in-Some-clause-step : goal.returns-in-Some-clause-step
returns-in-Some-clause-step c other multiple =
    lazy_step c.args.kept.now other c.args.row.now c.combine_within.new.row c.args.column
    c.factors_of-factors.result.row
    c.factors_of-factors.result.kept multiple c.requires.columns c.requires.positive
    (factors_read (get_or c.args.kept.now c.args.column (pos 0))
    (get_or c.args.row.now c.args.column (pos 0)) _ _ (search rules) (search rules)
    (let small = c.requires.kept_extent.small (omega arith) c.args.column in
    omega arith) c.factors_of-factors.ensures)
    (are_narrow _ _ _ _ _ _ _ _ _ _
    (have_room c.requires.extent c.requires.kept_extent c.requires.bound
    (omega arith) c.in-Some.ensures)) c.combine_within.ensures

pub returns-in-Some-clause-extent : goal.returns-in-Some-clause-extent
returns-in-Some-clause-extent c =
    extent_behind _ _ c.args.row.now c.args.kept.now c.combine_within.new.row _ _ _ _ _ _
    (have_room c.requires.extent c.requires.kept_extent c.requires.bound
    (omega arith) c.in-Some.ensures) c.requires.columns c.combine_within.ensures

pub returns-then-kept_extent-ge-GREATEST_BOUND-clause-same :
    goal.returns-then-kept_extent-ge-GREATEST_BOUND-clause-same
returns-then-kept_extent-ge-GREATEST_BOUND-clause-same c = λ none. refl

pub overflow_cast-kept : goal.overflow_cast-kept
overflow_cast-kept c =
    let small = c.requires.kept_extent.small (omega arith) c.args.column in
    (small_entry (get_or c.args.kept.now c.args.column (pos 0)) (search rules) (omega arith)).fits

pub factors_of-factors-requires : goal.factors_of-factors-requires
factors_of-factors-requires c =
    let small = c.requires.kept_extent.small (omega arith) c.args.column in
    let here = small_entry (get_or c.args.kept.now c.args.column (pos 0)) (search rules)
    (omega arith) in
    record { positive = subst (λ (z : ℤ). pos 0 <ℤ z) (sym here.read) c.requires.positive }

pub combine_within-requires-clause-columns : goal.combine_within-requires-clause-columns
combine_within-requires-clause-columns c = c.requires.columns

pub combine_within-requires-clause-entries : goal.combine_within-requires-clause-entries
combine_within-requires-clause-entries c k = let small =
    c.requires.kept_extent.small (omega arith) k in omega arith
