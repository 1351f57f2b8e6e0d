use Rattle.std.proofs.Common.{◌≡◌, ℕ, ◌<◌, List, length, sym, ap, subst, ◌∙◌}
use Rattle.std.specs.Prelude.{All}
use Rattle.std.proofs.lemmas.List.{with_items_is}
use Rattle.gj_frac.specs.Fraction.{Fits}
use Rattle.gj_frac.proofs.Refusals.{on_err}
use Rattle.gj_shape.specs.Elimination.{Passes}
use Rattle.gj_proof.specs.declared.numbers.Numbers.{Numbers}
use Rattle.gj_proof.specs.PresentRows.{arithmetic_of}
use Rattle.gj_check_groups.specs.RowNumbers.{IsPivotEntry}
use Rattle.gj_sparse_elim.specs.declared.entry.Entry.{Entry}
use Rattle.gj_sparse_elim.specs.Sparse.{factor_at, dense, AreSparse}
use Rattle.gj_sparse_elim.proofs.SparseRows.{at_dense, factor_fits}
use Rattle.gj_limit_check_groups.specs.declared.step.Step.{Step}
use Rattle.gj_limit_check_groups.specs.SparseRows.{IsReduced}
use Rattle.gj_limit_check_groups.specs.Steps.{CanStep, stepped_row, marked_by, IsStepOf, finished}
use Rattle.gj_limit_check_groups.proofs.SparseEntries.{entries_fit}
use Rattle.gj_limit_check_groups.proofs.StepsOnEntries.{can_step, step_value, step_marked, stepped_sparse}
use Rattle.gj_limit_check_groups.proofs.reduce.reduce.Goals as goal

pub step_of-step-requires-clause-pivot : goal.step_of-step-requires-clause-pivot
step_of-step-requires-clause-pivot c =
    subst (IsPivotEntry c.args.numbers)
    (at_dense c.args.columns c.args.kept.now c.args.column c.requires.within)
    c.requires.kept.pivot

pub step_of-step-requires-clause-fits : goal.step_of-step-requires-clause-fits
step_of-step-requires-clause-fits c =
    factor_fits 0 c.args.columns c.args.kept.now c.args.column c.requires.sparse

-- the step of the row as it is read
step_is : (numbers : Numbers) (n : ℕ) (kept row read : List Entry) (c : ℕ) (step : Step) →
    read ≡ row → c < n →
    ((m : ℕ) → c < m → IsStepOf numbers (dense m kept) (dense m read) c step) →
    IsStepOf numbers (dense n kept) (dense n row) c step
step_is numbers n kept row read c step is below h =
    subst (λ (xs : List Entry). IsStepOf numbers (dense n kept) (dense n xs) c step) is (h n below)

pub merge-requires-clause-numbers : goal.merge-requires-clause-numbers
merge-requires-clause-numbers c k =
    let n = c.args.columns in
    let row = c.args.row.now.entries.items in
    let step = step_is c.args.numbers n c.args.kept.now row c.as_slice.result.now c.args.column
    c.step_of-step.result
    c.as_slice.ensures.value c.requires.within c.step_of-step.ensures in
    subst (λ (xs : List Entry). CanStep c.step_of-step.result (factor_at xs k)
    (factor_at c.args.kept.now k))
    (sym c.as_slice-2.ensures.value)
    (can_step c.args.numbers n c.args.kept.now row c.args.column c.step_of-step.result step
    c.requires.within
    c.requires.sparse c.requires.row.sparse c.requires.kept.fits c.requires.row.fits k)

-- the numbers that are marked
marked_is : (numbers : Numbers) (n : ℕ) (kept row read again : List Entry) (c : ℕ) (step : Step) →
    read ≡ row → again ≡ row →
    c < n → ((m : ℕ) → c < m → IsStepOf numbers (dense m kept) (dense m read) c step) →
    marked_by step (dense n kept) (dense n again) ≡ (arithmetic_of numbers).marked (dense n kept)
    (dense n row) c
marked_is numbers n kept row read again c step is again_is below h =
    ap (λ xs. marked_by step (dense n kept) (dense n xs)) again_is
    ∙ step_marked numbers (dense n kept) (dense n row) c step
    (step_is numbers n kept row read c step is below h)

pub returns-in_err-merge-clause-wide : goal.returns-in_err-merge-clause-wide
returns-in_err-merge-clause-wide c =
    on_err _ _
    (subst Passes
    (marked_is c.args.numbers c.args.columns c.args.kept.now c.args.row.now.entries.items
    c.as_slice.result.now
    c.as_slice-2.result.now c.args.column c.step_of-step.result c.as_slice.ensures.value
    c.as_slice-2.ensures.value
    c.requires.within c.step_of-step.ensures) c.in_err-merge.ensures.wide)

pub returns-clause-narrow : goal.returns-clause-narrow
returns-clause-narrow c passes =
    c.in_ok-merge.ensures.narrow
    (subst Passes
    (sym (marked_is c.args.numbers c.args.columns c.args.kept.now c.args.row.now.entries.items
    c.as_slice.result.now
    c.as_slice-2.result.now c.args.column c.step_of-step.result c.as_slice.ensures.value
    c.as_slice-2.ensures.value
    c.requires.within c.step_of-step.ensures)) passes)

pub finish-requires : goal.finish-requires
finish-requires c =
    subst (λ (xs : List Entry). All (λ e. Fits e.factor) xs)
    (sym (c.as_mut_slice.ensures.value ∙ ap (λ v. v.items) c.swap.ensures.x_after))
    (entries_fit c.args.columns c.merge.new.next.items c.in_ok-merge.ensures.sparse)

-- the row that is left
is_left : (numbers : Numbers) (n : ℕ) (kept row read again made given finish after : List Entry)
    (c : ℕ) (step : Step) →
    read ≡ row → again ≡ row → c < n →
    ((m : ℕ) → c < m → IsStepOf numbers (dense m kept) (dense m read) c step) → AreSparse n made →
    dense n made ≡ stepped_row step (dense n kept) (dense n again) → given ≡ made →
    ((m : ℕ) → AreSparse m given → AreSparse m finish) →
    ((m : ℕ) → AreSparse m given → dense m finish ≡ finished numbers (dense m given)) →
    after ≡ finish →
    IsReduced numbers n kept row c after
is_left numbers n kept row read again made given finish after c step is again_is below h sparse
    value given_is keeps gives after_is =
    let given_sparse = subst (AreSparse n) (sym given_is) sparse in
    let whole = ap (dense n) after_is ∙ gives n given_sparse
    ∙ ap (finished numbers)
    (ap (dense n) given_is ∙ value
    ∙ ap (λ xs. stepped_row step (dense n kept) (dense n xs)) again_is)
    ∙ step_value numbers (dense n kept) (dense n row) c step
    (step_is numbers n kept row read c step is below h) in
    record {
      value = whole;
      row_is = stepped_sparse numbers n (dense n kept) (dense n row) c after
          (subst (AreSparse n) (sym after_is) (keeps n given_sparse)) whole;
    }

pub returns-clause-reduced : goal.returns-clause-reduced
returns-clause-reduced c =
    is_left c.args.numbers c.args.columns c.args.kept.now c.args.row.now.entries.items
    c.as_slice.result.now
    c.as_slice-2.result.now c.merge.new.next.items c.as_mut_slice.result.now c.finish.new.row _
    c.args.column
    c.step_of-step.result c.as_slice.ensures.value c.as_slice-2.ensures.value
    c.requires.within c.step_of-step.ensures
    c.in_ok-merge.ensures.sparse c.in_ok-merge.ensures.value
    (c.as_mut_slice.ensures.value ∙ ap (λ v. v.items) c.swap.ensures.x_after)
    c.finish.ensures.sparse c.finish.ensures.value
    (with_items_is c.swap.new.x c.finish.new.row
    (c.finish.auto.row ∙ ap length c.as_mut_slice.ensures.value ∙ sym c.swap.new.x.ok.0))
