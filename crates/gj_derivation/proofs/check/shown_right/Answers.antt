use Rattle.std.proofs.Common.{◌≡◌, ⊎_elim, inr, ℕ, List, length, ap, subst, subst₂, ◌∙◌}
use Rattle.gj_fields.specs.Rational.{Rational}
use Rattle.gj_problem.specs.declared.problem.Column.{Column}
use Rattle.gj_derivation.specs.Derivations.{Line, coefficient_in}
use Rattle.gj_derivation.specs.Checks.{claimed_at, line_of_sum, IsMovedRight, IsWideTerms, IsWideMoving}
use Rattle.gj_derivation.proofs.check.shown_right.Goals as goal

pub returns-in_err-moved-clause-wide : goal.returns-in_err-moved-clause-wide
returns-in_err-moved-clause-wide c = λ fault.
    let terms : claimed_at c.as_slice.result.now ≡ coefficient_in c.args.entries.now =
    ap claimed_at c.as_slice.ensures.value ∙ ap (λ (l : Line). l.coefficient)
    c.in_ok-terms.ensures.is.same in
    inr (subst₂ (λ (cs : List Column) (ys : ℕ → Rational). IsWideMoving cs c.args.factor
    (line_of_sum c.args.sum.now) ys)
    c.as_slice-columns.ensures terms c.in_err-moved.ensures.wide)

pub returns-clause-is : goal.returns-clause-is
returns-clause-is c =
    let terms : claimed_at c.as_slice.result.now ≡ coefficient_in c.args.entries.now =
    ap claimed_at c.as_slice.ensures.value ∙ ap (λ (l : Line). l.coefficient)
    c.in_ok-terms.ensures.is.same in
    subst₂ (λ (cs : List Column) (ys : ℕ → Rational). IsMovedRight cs c.args.factor
    (line_of_sum c.args.sum.now) ys c.in_ok-moved.moved)
    c.as_slice-columns.ensures terms c.in_ok-moved.ensures.is

pub returns-clause-narrow : goal.returns-clause-narrow
returns-clause-narrow c =
    let columns = ap (λ (cs : List Column). length cs) c.as_slice-columns.ensures in
    let terms : claimed_at c.as_slice.result.now ≡ coefficient_in c.args.entries.now =
    ap claimed_at c.as_slice.ensures.value ∙ ap (λ (l : Line). l.coefficient)
    c.in_ok-terms.ensures.is.same in
    ⊎_elim
    (subst (λ (n : ℕ). IsWideTerms n c.args.entries.now → ⊥) columns c.in_ok-terms.ensures.narrow)
    (subst₂ (λ (cs : List Column) (ys : ℕ → Rational). IsWideMoving cs c.args.factor
    (line_of_sum c.args.sum.now) ys → ⊥)
    c.as_slice-columns.ensures terms c.in_ok-moved.ensures.narrow)
