use Rattle.std.proofs.Common.{rules, ◌≡◌, ℕ, ◌<◌, ℤ, pos, int_div, List, unsigned_abs, sym, ap, ap₂, subst, ◌∙◌}
use Rattle.std.proofs.lemmas.Int.{to_z-of_z}
use mir.Syntax.{w128}
use Rattle.gj_lemmas.specs.Divisors.{gcd_of}
use Rattle.gj_proof.specs.declared.numbers.Numbers.{Numbers}
use Rattle.gj_proof.specs.declared.numbers.Numbers.TheVariants.{Whole, Residues}
use Rattle.gj_theory.proofs.DividedRows.{read_signed_quotient}
use Rattle.gj_theory.proofs.ReducedRows.{factors_of}
use Rattle.gj_sparse_elim.specs.declared.entry.Entry.{Entry}
use Rattle.gj_sparse_elim.specs.Sparse.{factor_at, dense}
use Rattle.gj_sparse_elim.proofs.SparseRows.{at_dense}
use Rattle.gj_limit_check_groups.specs.declared.step.Step.TheVariants.{Combine, Modulo}
use Rattle.gj_limit_check_groups.specs.Steps.{IsStepOf}
use Rattle.gj_limit_check_groups.proofs.step.step_of.Goals as goal

-- the factors by the divisor of both entries
whole_step : (m : Numbers) (n : ℕ) (kept row : List Entry) (c : ℕ) (p v d u w : ℤ) → m ≡ Whole →
    c < n →
    p ≡ factor_at kept c → v ≡ factor_at row c →
    d ≡ pos (gcd_of (unsigned_abs v) (unsigned_abs p)) → u ≡ int_div p d →
    w ≡ int_div v d → IsStepOf m (dense n kept) (dense n row) c (Combine u w)
whole_step m n kept row c p v d u w m_is below p_is v_is d_is u_is w_is =
    let first = p_is ∙ sym (at_dense n kept c below) in
    let second = v_is ∙ sym (at_dense n row c below) in
    let both = factors_of (dense n kept) (dense n row) c u w d
    (d_is ∙ ap₂ (λ x y. pos (gcd_of (unsigned_abs x) (unsigned_abs y))) second first)
    (u_is ∙ ap (λ x. int_div x d) first) (w_is ∙ ap (λ x. int_div x d) second) in
    subst (λ (k : Numbers). IsStepOf k (dense n kept) (dense n row) c (Combine u w)) (sym m_is)
    (both.first, both.second)

residue_step : (m : Numbers) (n : ℕ) (kept row : List Entry) (c : ℕ) (w : ℤ) → m ≡ Residues →
    c < n → w ≡ factor_at row c →
    IsStepOf m (dense n kept) (dense n row) c (Modulo w)
residue_step m n kept row c w m_is below is =
    subst (λ (k : Numbers). IsStepOf k (dense n kept) (dense n row) c (Modulo w)) (sym m_is)
    (is ∙ sym (at_dense n row c below))

pub returns-in-Whole : goal.returns-in-Whole
returns-in-Whole c n below =
    let p = c.factor_of-pivot.result in
    let v = c.factor_of-entry.result in
    let d = c.common_divisor-divisor.result in
    let x = to_z-of_z w128 p (search rules) in
    let y = to_z-of_z w128 v (search rules) in
    whole_step c.args.numbers n c.args.kept.now c.args.row.now c.args.column p v d _ _ c.in-Whole.is
    below
    c.factor_of-pivot.ensures c.factor_of-entry.ensures
    (simp (x, y) at c.common_divisor-divisor.ensures.value)
    (read_signed_quotient p d (search rules)
    (search rules) c.common_divisor-divisor.ensures.positive)
    (read_signed_quotient v d (search rules)
    (search rules) c.common_divisor-divisor.ensures.positive)

pub returns-in-Residues : goal.returns-in-Residues
returns-in-Residues c n below =
    residue_step c.args.numbers n c.args.kept.now c.args.row.now c.args.column _ c.in-Residues.is
    below
    (to_z-of_z w128 c.factor_of-entry.result (search rules) ∙ c.factor_of-entry.ensures)
