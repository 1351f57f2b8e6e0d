use Rattle.std.proofs.Common.{refl, arith}
use Rattle.gj_elim.proofs.Keeping.{same_error}
use Rattle.gj_group.specs.Decision.{own_rows, rows_too_wide, halves_too_wide}
use Rattle.gj_group.specs.declared.decision.GroupAnswer.TheVariants.{NotMinimal, Extreme, NotExtreme}
use Rattle.gj_group.proofs.TableAnswers.{asked_of, extreme_exactly, plain_says, residues_say, plain_fits, residues_fit, kernel_own, kernel_splits, kernel_says, kernel_finds, kernel_fits_group, wide_split, some_is_not_none}
use Rattle.gj_group.proofs.decision.decide_group.Goals as goal

pub returns-in-Some-clause-says : goal.returns-in-Some-clause-says
returns-in-Some-clause-says c = (
  λ minimal. some_is_not_none c.in-Some.violation
      (c.in-Some.ensures.own_grid c.requires.continuous minimal),
  c.in-Some.ensures.shown,
)

pub returns-in-Some-clause-found : goal.returns-in-Some-clause-found
returns-in-Some-clause-found c = c.in-Some.ensures.first

pub returns-in-Some-clause-extreme : goal.returns-in-Some-clause-extreme
returns-in-Some-clause-extreme c =
    extreme_exactly c.args.shape.now (NotMinimal c.in-Some.violation)
    (returns-in-Some-clause-says c)

pub returns-in-Some-clause-narrow : goal.returns-in-Some-clause-narrow
returns-in-Some-clause-narrow c = λ minimal wide. (returns-in-Some-clause-says c).0 minimal

pub returns-in_err-settled_table-clause-wide : goal.returns-in_err-settled_table-clause-wide
returns-in_err-settled_table-clause-wide c = λ e. (
  c.in_default.ensures.minimal 1 (omega arith),
  rows_too_wide (c.in_err-settled_table.ensures.wide
      (same_error c.from_residual.result c.in_err-settled_table.field-0.0 _
      c.from_residual.ensures.0 c.from_residual.ensures.1 e)),
)

pub returns-in-Plain-clause-says : goal.returns-in-Plain-clause-says
returns-in-Plain-clause-says c =
    plain_says c.args.shape.now c.args.shape.now.order
    (own_rows c.args.shape.now) c.in_ok-settled_table.field-0 c.in-Plain.field-0
    (asked_of c.args.shape.now c.args.shape.now.order
    (own_rows c.args.shape.now) c.in_ok-settled_table.ensures.limits
    c.in_default.ensures.minimal
    refl refl) c.in-Plain.is
    c.in_ok-settled_table.ensures.answers

pub returns-in-Plain-clause-extreme : goal.returns-in-Plain-clause-extreme
returns-in-Plain-clause-extreme c =
    extreme_exactly c.args.shape.now Extreme (returns-in-Plain-clause-says c)

pub returns-in-Plain-clause-narrow : goal.returns-in-Plain-clause-narrow
returns-in-Plain-clause-narrow c = λ minimal wide.
    plain_fits c.args.shape.now c.args.shape.now.order
    (own_rows c.args.shape.now) c.in_ok-settled_table.field-0 c.in-Plain.field-0
    (asked_of c.args.shape.now c.args.shape.now.order
    (own_rows c.args.shape.now) c.in_ok-settled_table.ensures.limits
    c.in_default.ensures.minimal
    refl refl) c.in-Plain.is
    c.in_ok-settled_table.ensures.settled wide

pub returns-in-Residues-clause-says : goal.returns-in-Residues-clause-says
returns-in-Residues-clause-says c =
    residues_say c.args.shape.now c.args.shape.now.order
    (own_rows c.args.shape.now) c.in_ok-settled_table.field-0 c.in-Residues.field-0
    (asked_of c.args.shape.now c.args.shape.now.order
    (own_rows c.args.shape.now) c.in_ok-settled_table.ensures.limits
    c.in_default.ensures.minimal
    refl refl) c.in-Residues.is
    c.in_ok-settled_table.ensures.answers

pub returns-in-Residues-clause-extreme : goal.returns-in-Residues-clause-extreme
returns-in-Residues-clause-extreme c =
    extreme_exactly c.args.shape.now Extreme (returns-in-Residues-clause-says c)

pub returns-in-Residues-clause-narrow : goal.returns-in-Residues-clause-narrow
returns-in-Residues-clause-narrow c = λ minimal wide.
    residues_fit c.args.shape.now c.args.shape.now.order
    (own_rows c.args.shape.now) c.in_ok-settled_table.field-0 c.in-Residues.field-0
    (asked_of c.args.shape.now c.args.shape.now.order
    (own_rows c.args.shape.now) c.in_ok-settled_table.ensures.limits
    c.in_default.ensures.minimal
    refl refl) c.in-Residues.is
    c.in_ok-settled_table.ensures.settled wide

pub split-requires-clause-minimal : goal.split-requires-clause-minimal
split-requires-clause-minimal c = c.in_default.ensures.minimal

pub split-requires-clause-continuous : goal.split-requires-clause-continuous
split-requires-clause-continuous c = c.requires.continuous

pub split-requires-clause-perturbation : goal.split-requires-clause-perturbation
split-requires-clause-perturbation c =
    let f = c.args.shape.now in
    kernel_splits f c.args.shape.now.order (own_rows c.args.shape.now) c.in_ok-settled_table.field-0
    c.in-Kernel.numbers (asked_of c.args.shape.now c.args.shape.now.order
    (own_rows c.args.shape.now) c.in_ok-settled_table.ensures.limits
    c.in_default.ensures.minimal
    refl refl) c.in-Kernel.is
    c.in_ok-settled_table.ensures.settled c.in_ok-settled_table.ensures.answers

pub returns-in_err-halves-in-Kernel-clause-wide : goal.returns-in_err-halves-in-Kernel-clause-wide
returns-in_err-halves-in-Kernel-clause-wide c = λ e.
    let f = c.args.shape.now in
    let kernel = kernel_own f c.args.shape.now.order
    (own_rows c.args.shape.now) c.in_ok-settled_table.field-0 c.in-Kernel.numbers
    (asked_of c.args.shape.now c.args.shape.now.order
    (own_rows c.args.shape.now) c.in_ok-settled_table.ensures.limits
    c.in_default.ensures.minimal
    refl refl) c.in-Kernel.is
    c.in_ok-settled_table.ensures.settled in (
      c.in_default.ensures.minimal 1 (omega arith),
      halves_too_wide c.in-Kernel.numbers kernel
          (c.in_err-halves-in-Kernel.ensures.wide
          (wide_split c.from_residual-in_err-halves-in-Kernel.result
          c.in_err-halves-in-Kernel.field-0.0 c.from_residual-in_err-halves-in-Kernel.ensures.0
          c.from_residual-in_err-halves-in-Kernel.ensures.1 e)),
    )

pub returns-clause-says : goal.returns-clause-says
returns-clause-says c =
    kernel_says c.args.shape.now c.in-Kernel.numbers c.in_ok-halves-in-Kernel.halves
    c.in_default.ensures.minimal
    c.in_ok-halves-in-Kernel.ensures.halves c.in_ok-halves-in-Kernel.ensures.different

pub returns-clause-found : goal.returns-clause-found
returns-clause-found c =
    let f = c.args.shape.now in
    let kernel = kernel_own f c.args.shape.now.order
    (own_rows c.args.shape.now) c.in_ok-settled_table.field-0 c.in-Kernel.numbers
    (asked_of c.args.shape.now c.args.shape.now.order
    (own_rows c.args.shape.now) c.in_ok-settled_table.ensures.limits
    c.in_default.ensures.minimal
    refl refl) c.in-Kernel.is
    c.in_ok-settled_table.ensures.settled in
    kernel_finds f c.in-Kernel.numbers c.in_ok-halves-in-Kernel.halves kernel
    c.in_ok-halves-in-Kernel.ensures.halves c.in_ok-halves-in-Kernel.ensures.limits

pub returns-clause-extreme : goal.returns-clause-extreme
returns-clause-extreme c =
    extreme_exactly c.args.shape.now (NotExtreme c.in_ok-halves-in-Kernel.halves)
    (returns-clause-says c)

pub returns-clause-narrow : goal.returns-clause-narrow
returns-clause-narrow c = λ minimal wide.
    let f = c.args.shape.now in
    let kernel = kernel_own f c.args.shape.now.order
    (own_rows c.args.shape.now) c.in_ok-settled_table.field-0 c.in-Kernel.numbers
    (asked_of c.args.shape.now c.args.shape.now.order
    (own_rows c.args.shape.now) c.in_ok-settled_table.ensures.limits
    c.in_default.ensures.minimal
    refl refl) c.in-Kernel.is
    c.in_ok-settled_table.ensures.settled in
    kernel_fits_group f c.in-Kernel.numbers kernel c.in_ok-halves-in-Kernel.ensures.narrow
    wide
