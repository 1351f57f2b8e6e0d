-- A step that is refused does not follow.
use Rattle.std.proofs.Common.{◌≡◌, ◌⊎◌, ⊎_elim, inl, inr, ℕ, zero, suc, ◌<◌, Option, None, List, [], ◌∷◌, length, get_or, All, refl, sym, subst, ◌∙◌, arith}
use Rattle.std.proofs.lemmas.List.Elements.{All-head}
use Rattle.gj_shape.specs.FunctionData.{FunctionData}
use Rattle.gj_lemmas.proofs.Lists.{All-back}
use Rattle.gj_fields.specs.Rational.{Rational, rational, ◌≤ℚ◌}
use Rattle.gj_problem.specs.declared.problem.Column.{Column}
use Rattle.gj_problem.specs.declared.problem.Inequality.{Inequality}
use Rattle.gj_problem.specs.declared.problem.Problem.{Problem}
use Rattle.gj_safe_cut.specs.declared.cut.SafeCut.{SafeCut}
use Rattle.gj_safe_cut.specs.declared.cut.SafeCut.TheVariants as cut
use Rattle.gj_derivation.specs.declared.step.Combination.{Combination}
use Rattle.gj_derivation.specs.declared.step.Multiplier.{Multiplier}
use Rattle.gj_derivation.specs.declared.step.Step.{Step}
use Rattle.gj_derivation.specs.declared.step.StepRule.{StepRule}
use Rattle.gj_derivation.specs.declared.step.StepRule.TheVariants.{Linear}
use Rattle.gj_derivation.specs.declared.step.Verdict.{Verdict}
use Rattle.gj_derivation.specs.declared.step.Verdict.TheVariants.{Accepted, Sign, Free, Integral, Other, Bound, Right, Wide}
use Rattle.gj_problem.specs.Moves.{IsUnmoved, IsMovedUp, IsMovedDown, IsMovedBy, HasLower, HasUpper, AreMovedBy}
use Rattle.gj_derivation.specs.Derivations.{Line, coefficient_in, line_of, times, IsSigned, AreSigned, IsUsableFor, IsCutOf, IsBase, Follows}
use Rattle.gj_derivation.specs.Checks.{IsFirstUnsigned, IsUnmovable, IsVerdict}
use Rattle.gj_derivation.proofs.OneBase.{cut_is_one, sum_or_cut, no_cut_of_sum, one_base}
use Rattle.gj_derivation.proofs.OneRightSide.{follows_if}
use Rattle.gj_problem.proofs.OnePieces.{same_most}

-- ---- moves

pub not_moved : (c : Column) (x y s : Rational) → IsUnmovable c x y →
    IsMovedBy (HasLower c) (HasUpper c) x y s → ⊥
not_moved c x y s stuck moved =
    ⊎_elim
    (λ (a : (y ≤ℚ x → ⊥) × (c.lower ≡ None)).
    ⊎_elim (λ (k : IsUnmoved x y s). a.0 (same_most y x k.same))
    (⊎_elim (λ (k : IsMovedUp (HasLower c) x y s). let (l, is, rounded) = k.bound_is in let both =
    sym a.1 ∙ is in absurd (cc))
    (λ (k : IsMovedDown (HasUpper c) x y s). a.0 k.lesser)) moved)
    (λ (a : (x ≤ℚ y → ⊥) × (c.upper ≡ None)).
    ⊎_elim (λ (k : IsUnmoved x y s). a.0 (same_most x y (sym k.same)))
    (⊎_elim (λ (k : IsMovedUp (HasLower c) x y s). a.0 k.greater)
    (λ (k : IsMovedDown (HasUpper c) x y s). let (u, is, rounded) = k.bound_is in let both = sym a.1
    ∙ is in absurd (cc))) moved)
    stuck

pub not_all_moved : (columns : List Column) (j : ℕ) (c : Column) (xs ys : ℕ → Rational)
    (total : Rational) → j < length columns → c ≡ get_or columns j c →
    IsUnmovable c (xs j) (ys j) → AreMovedBy columns xs ys total → ⊥
not_all_moved [] j c xs ys total below here stuck h = absurd (omega arith)
not_all_moved (d ∷ columns) zero c xs ys total below here stuck h =
    not_moved d (xs zero) (ys zero) h.0 (subst (λ (e : Column). IsUnmovable e (xs zero) (ys zero))
    here stuck) h.2
not_all_moved (d ∷ columns) (suc j) c xs ys total below here stuck h =
    not_all_moved columns j c (λ i. xs (suc i)) (λ i. ys (suc i)) h.1 (omega arith) here stuck h.3

-- ---- bases

pub not_signed : (rule : StepRule) (p : Problem) (ms : List Multiplier) (i : ℕ) →
    IsFirstUnsigned rule p ms i → AreSigned rule p ms → ⊥
not_signed rule p ms i h signed =
    h.unsigned (All-head (IsSigned rule p) h.multiplier h.after
    (All-back (IsSigned rule p) h.before (h.multiplier ∷ h.after)
    (subst (All (IsSigned rule p)) h.place signed)))

-- where the row has no cut, there is no base
pub no_base : (f : Option FunctionData) (p : Problem) (c : Combination) (base : Line)
    (answer : SafeCut) → IsUsableFor f c.rule → (answer ≡ cut.Wide → ⊥) →
    ((q : Inequality) → cut.Cut q ≡ answer → ⊥) → IsBase f p c base → IsCutOf f p c answer → ⊥
no_base f p c base answer usable narrow none h k =
    ⊎_elim
    (λ (linear : c.rule ≡ Linear). no_cut_of_sum f p c answer linear k)
    (λ (made : (q : Inequality) × IsCutOf f p c (cut.Cut q) × (base ≡ line_of q)). none made.0
    (cut_is_one f p c (cut.Cut made.0) answer usable made.1 k
    (λ wide. absurd (cc), λ wide. absurd (narrow wide))))
    (sum_or_cut c.rule f p c base h.1)

-- ---- verdicts

pub verdict_exact : (f : Option FunctionData) (p : Problem) (s : Step) (v : Verdict) →
    IsUsableFor f s.combination.rule → IsVerdict f p s v → Follows f p s →
    (v ≡ Accepted) ⊎ (v ≡ Wide)
verdict_exact f p s Accepted usable h follows = inl refl
verdict_exact f p s (Sign i) usable h (right, shown, below) =
    absurd (not_signed s.combination.rule p s.combination.multipliers i h shown.base_is.0)
verdict_exact f p s (Free j) usable h (right, shown, below) =
    absurd (no_base f p s.combination shown.base (cut.Free j) usable (λ e. cc) (λ q e. cc)
    shown.base_is h.1)
verdict_exact f p s Integral usable h (right, shown, below) =
    absurd (no_base f p s.combination shown.base cut.Integral usable (λ e. cc) (λ q e. cc)
    shown.base_is h.1)
verdict_exact f p s Other usable h (right, shown, below) =
    absurd (no_base f p s.combination shown.base cut.OtherFraction usable (λ e. cc)
    (λ q e. cc) shown.base_is h.1)
verdict_exact f p s (Bound j) usable (base, is, h) (right, shown, below) =
    let factor = s.combination.factor in
    let ys = coefficient_in s.claim.entries in
    let same : shown.base ≡ base = one_base f p s.combination shown.base base usable shown.base_is
    is in
    let moved : AreMovedBy p.columns (times factor base) ys shown.right_is.shift =
    subst (λ (l : Line). AreMovedBy p.columns (times factor l) ys shown.right_is.shift) same
    shown.right_is.moved in
    absurd (not_all_moved p.columns j h.column (times factor base) ys shown.right_is.shift h.below
    h.is h.unmovable moved)
verdict_exact f p s (Right b) usable h follows = absurd
    (h.1 ((follows_if f p s (rational b) usable h.0).0 follows))
verdict_exact f p s Wide usable h follows = inr refl
