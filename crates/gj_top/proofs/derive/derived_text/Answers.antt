use Rattle.std.proofs.Common.{◌≡◌, ◌-◌, ◌++◌, ℕ, List, length, take, drop, sym, ap, ap₂, subst, subst₂, ◌∙◌}
use Rattle.std.specs.Option.{option_copied}
use Rattle.gj_problem.specs.declared.problem.Constraint.{Constraint}
use Rattle.gj_derivation_text.specs.PrintedDerivation.{IsFront, steps_text}
use Rattle.gj_derivation_text.specs.declared.input.DraftInput.{DraftInput}
use Rattle.gj_top.specs.Derive.{constraint_names}
use Rattle.gj_top.proofs.DerivedTexts.{rest_is, names_counted, filled_in}
use Rattle.gj_top.proofs.derive.derived_text.Goals as goal

pub push_steps-requires : goal.push_steps-requires
push_steps-requires c =
    let a : DraftInput =
    record { function = option_copied c.args.function; drafts = c.args.drafts.now } in
    subst₂ (λ (cs : List Constraint) (lines : List (List ℕ)). length
    (take (length lines - length cs) (drop (length cs) lines)) ≡ length c.args.shown.now)
    (sym c.as_slice-count.ensures) (sym c.as_slice-lines.ensures)
    (ap length (rest_is (length a.drafts.task.problem.constraints) a.drafts.lines)
    ∙ names_counted a c.args.shown.now c.requires.readable c.requires.derived)

pub returns : goal.returns
returns c =
    let a : DraftInput =
    record { function = option_copied c.args.function; drafts = c.args.drafts.now } in
    let p = a.drafts.task.problem in
    let shown = c.args.shown.now in
    let (front, is, front_is) = c.in_ok-push_front.ensures in
    let begun : c.push_front.new.out.items ≡ front = front_is
    ∙ ap (λ (xs : List ℕ). xs ++ front) c.new-text.ensures.items in
    let columns = c.as_slice-columns.result.now in
    let at_columns = subst₂
    (λ (cs : List Constraint) (lines : List (List ℕ)). IsFront a.function columns
    (take (length cs) lines) p front)
    c.as_slice-count.ensures c.as_slice-lines.ensures is in
    filled_in a shown c.requires.readable c.requires.derived c.push_steps.new.out.items front
    (subst (λ (names : List (List ℕ)). IsFront a.function names (constraint_names a.drafts) p front)
    c.as_slice-columns.ensures at_columns)
    (c.in_ok-push_steps.ensures
    ∙ ap (λ (xs : List ℕ). xs ++ steps_text columns
    (take (length c.as_slice-count.result.now) c.as_slice-lines.result.now)
    (take (length c.as_slice-lines.result.now - length c.as_slice-count.result.now)
    (drop (length c.as_slice-count.result.now) c.as_slice-lines.result.now))
    shown) begun
    ∙ ap₂ (λ (cs : List Constraint) (lines : List (List ℕ)). front ++ steps_text columns
    (take (length cs) lines)
    (take (length lines - length cs) (drop (length cs) lines)) shown) c.as_slice-count.ensures
    c.as_slice-lines.ensures
    ∙ ap₂ (λ (names steps : List (List ℕ)). front ++ steps_text names
    (constraint_names a.drafts) steps shown) c.as_slice-columns.ensures
    (rest_is (length p.constraints) a.drafts.lines))
