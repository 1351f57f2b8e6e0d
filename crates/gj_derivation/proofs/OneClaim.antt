-- A draft shows one step, or one thing stands against it, if `Wide` comes where a number does not
-- fit.
use Rattle.std.proofs.Common.{◌≡◌, ⊎_elim, inl, inr, ℕ, Option, Some, List, refl, sym, ap, ap₂, subst, ◌∙◌}
use Rattle.gj_frac.specs.declared.Frac.{Frac}
use Rattle.gj_shape.specs.FunctionData.{FunctionData}
use Rattle.gj_fields.specs.Rational.{Rational, rational}
use Rattle.gj_problem.specs.declared.problem.Entry.{Entry}
use Rattle.gj_problem.specs.declared.problem.Inequality.{Inequality}
use Rattle.gj_problem.specs.declared.problem.Problem.{Problem}
use Rattle.gj_problem.proofs.MadePieces.{zip_one}
use Rattle.gj_problem.proofs.OneRow.{rational_injective}
use Rattle.gj_derivation.specs.declared.draft.Claim.{Claim}
use Rattle.gj_derivation.specs.declared.draft.Claim.TheVariants.{Absent, Terms, Given}
use Rattle.gj_derivation.specs.declared.draft.Reached.{Reached}
use Rattle.gj_derivation.specs.declared.draft.Shown.{Shown}
use Rattle.gj_derivation.specs.declared.draft.Shown.TheVariants as shown
use Rattle.gj_derivation.specs.declared.step.Combination.{Combination}
use Rattle.gj_derivation.specs.declared.step.Multiplier.{Multiplier}
use Rattle.gj_derivation.specs.declared.step.Step.{Step}
use Rattle.gj_derivation.specs.declared.step.Verdict.{Verdict}
use Rattle.gj_derivation.specs.declared.step.Verdict.TheVariants.{Accepted, Sign, Free, Integral, Other, Bound, Right, Wide}
use Rattle.gj_derivation.specs.Derivations.{Line, coefficient_in, times, IsUsableFor, IsRightOf, IsShown, Follows}
use Rattle.gj_derivation.specs.Checks.{IsAgainstTerms}
use Rattle.gj_derivation.specs.Drafts.{IsFirstNotFound, IsFoundClaim, IsClaimOf, IsAgainstFinding, IsAgainst, IsShownBy, line_at, IsPlaced}
use Rattle.gj_derivation.proofs.CheckedSteps.{step_of}
use Rattle.gj_derivation.proofs.OneBase.{one_base}
use Rattle.gj_derivation.proofs.OneFound.{one_not_found, found_or_not, one_found_claim}
use Rattle.gj_derivation.proofs.OneRightSide.{one_shown}
use Rattle.gj_derivation.proofs.OneVerdict.{IsNarrow, IsAgainstWith, one_against, none_against, one_against_terms, shown_or_against, one_narrow_verdict, wide_or_not}

-- ---- one combination

-- the line has this constraint, and the multiplier stays
abbrev IsPlacedAs : Reached → Multiplier → Multiplier → Type 0
IsPlacedAs r m n = (line_at r m.line ≡ Some n.line) × (n.value ≡ m.value)

some_same : (i j : ℕ) (o : Option ℕ) → o ≡ Some i → o ≡ Some j → i ≡ j
some_same i j o h k = let both : Some i ≡ Some j = sym h ∙ k in cc

one_multiplier : (r : Reached) (m n o : Multiplier) → IsPlacedAs r m n → IsPlacedAs r m o → n ≡ o
one_multiplier r m n o h k =
    ap₂ (λ (i : ℕ) (v : Frac). record { line = i; value = v })
    (some_same n.line o.line (line_at r m.line) h.0 k.0) (h.1 ∙ sym k.1)

pub one_placed_combination : (r : Reached) (c a b : Combination) → IsPlaced r c a →
    IsPlaced r c b → a ≡ b
one_placed_combination r c a b h k =
    let rule : a.rule ≡ b.rule = h.rule ∙ sym k.rule in
    let multipliers : a.multipliers ≡ b.multipliers =
    zip_one (IsPlacedAs r) (one_multiplier r) c.multipliers a.multipliers b.multipliers
    h.multipliers k.multipliers in
    let at_upper : a.at_upper ≡ b.at_upper = h.at_upper ∙ sym k.at_upper in
    let factor : a.factor ≡ b.factor = h.factor ∙ sym k.factor in
    λ i. record {
      rule = rule i;
      multipliers = multipliers i;
      at_upper = at_upper i;
      factor = factor i;
    }

module _ (f : Option FunctionData) (grid : Option ℕ) (p : Problem) (c : Combination)
    (usable : IsUsableFor f c.rule) where
  -- ---- absent claims

  abbrev IsMissing : Line → ℕ → Type 0
  IsMissing line j = IsFirstNotFound grid p.columns (times c.factor line) j

  finding_against : (v : Verdict) → IsNarrow v → IsAgainstFinding f grid p c v →
      IsAgainstWith f p c usable IsMissing v
  finding_against (Sign i) narrow h = inl h
  finding_against (Free j) narrow h = inl h
  finding_against Integral narrow h = inl h
  finding_against Other narrow h = inl h
  finding_against (Bound j) narrow (line, is, missing) = inr (j, refl, line, is, missing)
  finding_against Wide narrow h = absurd (narrow refl)
  finding_against Accepted narrow h = absurd h
  finding_against (Right b) narrow h = absurd h

  -- ---- one claim

  -- what is shown for terms is shown for a claim with them
  shown_along : (q r : Inequality) (right : Rational) → q.entries ≡ r.entries →
      IsShown f p (step_of c q) right → IsShown f p (step_of c r) right
  shown_along q r right same h = record {
    base = h.base;
    base_is = h.base_is;
    factor_positive = h.factor_positive;
    right_is = subst (λ (es : List Entry). IsRightOf p.columns c.factor h.base (coefficient_in es)
        right) same h.right_is;
  }

  pub one_claim : (claim : Claim) (q r : Inequality) → IsClaimOf f grid p c claim q →
      IsClaimOf f grid p c claim r → q ≡ r
  one_claim Absent q r (positive, line, is, h) (positive', other, is', k) =
      one_found_claim grid p.columns c.factor other q r
      (subst (λ (l : Line). IsFoundClaim grid p.columns c.factor l q)
      (one_base f p c line other usable is is') h) k
  one_claim (Terms entries) q r (terms, h) (terms', k) =
      let same : q.entries ≡ r.entries = terms ∙ sym terms' in
      let rights : q.right ≡ r.right =
      rational_injective q.right r.right (one_shown f p (step_of c r) (rational q.right)
      (rational r.right) usable (shown_along q r (rational q.right) same h) k) in
      λ i. record { entries = same i; right = rights i }
  one_claim (Given claim) q r h k = h.0 ∙ sym k.0

  pub claim_or_against : (claim : Claim) (q : Inequality) (v : Verdict) → IsNarrow v →
      IsClaimOf f grid p c claim q → IsAgainst f grid p c claim v → ⊥
  claim_or_against Absent q v narrow (positive, line, is, h) k =
      none_against f p c usable IsMissing v line narrow is
      (λ (j : ℕ) (missing : IsMissing line j). found_or_not grid p.columns (times c.factor line)
      (coefficient_in q.entries) j h.1 missing)
      (finding_against v narrow k)
  claim_or_against (Terms entries) q v narrow (terms, h) k =
      shown_or_against f p (step_of c q) (rational q.right) v usable narrow h
      (subst (λ (es : List Entry). IsAgainstTerms f p c es v) (sym terms) k)
  claim_or_against (Given claim) q v narrow (same, follows) (is, refused) =
      let here : Follows f p (step_of c claim) =
      subst (λ (r : Inequality). Follows f p (step_of c r)) same follows in
      refused (one_narrow_verdict f p (step_of c claim) usable v Accepted narrow (λ e. cc) is here)

  pub one_against_claim : (claim : Claim) (v w : Verdict) → IsNarrow v → IsNarrow w →
      IsAgainst f grid p c claim v → IsAgainst f grid p c claim w → v ≡ w
  one_against_claim Absent v w v_narrow w_narrow h k =
      one_against f p c usable IsMissing
      (λ line i j. one_not_found grid p.columns (times c.factor line) i j) v w v_narrow w_narrow
      (finding_against v v_narrow h) (finding_against w w_narrow k)
  one_against_claim (Terms entries) v w v_narrow w_narrow h k =
      one_against_terms f p c entries v w usable v_narrow w_narrow h k
  one_against_claim (Given claim) v w v_narrow w_narrow h k =
      one_narrow_verdict f p (step_of c claim) usable v w v_narrow w_narrow h.0 k.0

  -- ---- one step

  -- `Wide` is told where a number does not fit
  abbrev pub Tells : Claim → Shown → Type 0
  Tells claim x = IsAgainst f grid p c claim Wide → x ≡ shown.Against Wide

  step_or_against : (claim : Claim) (s : Step) (v : Verdict) → IsShownBy f grid p c claim
      (shown.Step s) → IsAgainst f grid p c claim v → Tells claim (shown.Step s) → ⊥
  step_or_against claim s v h k tells =
      ⊎_elim
      (λ (wide : v ≡ Wide). let told = tells (subst (IsAgainst f grid p c claim) wide k) in
      absurd (cc))
      (λ (narrow : IsNarrow v). claim_or_against claim s.claim v narrow h.1 k)
      (wide_or_not v)

  one_told : (claim : Claim) (v w : Verdict) → IsAgainst f grid p c claim v →
      IsAgainst f grid p c claim w → Tells claim (shown.Against v) →
      Tells claim (shown.Against w) → v ≡ w
  one_told claim v w h k v_tells w_tells =
      ⊎_elim
      (λ (wide : v ≡ Wide).
      let told = w_tells (subst (IsAgainst f grid p c claim) wide h) in
      let is : w ≡ Wide = cc in wide ∙ sym is)
      (λ (v_narrow : IsNarrow v).
      ⊎_elim
      (λ (wide : w ≡ Wide).
      let told = v_tells (subst (IsAgainst f grid p c claim) wide k) in
      let is : v ≡ Wide = cc in is ∙ sym wide)
      (λ (w_narrow : IsNarrow w). one_against_claim claim v w v_narrow w_narrow h k)
      (wide_or_not w))
      (wide_or_not v)

  pub one_shown_by : (claim : Claim) (x y : Shown) → IsShownBy f grid p c claim x →
      IsShownBy f grid p c claim y → Tells claim x → Tells claim y → x ≡ y
  one_shown_by claim (shown.Step s) (shown.Step t) h k x_tells y_tells =
      let combination : s.combination ≡ t.combination = h.0 ∙ sym k.0 in
      let claims : s.claim ≡ t.claim = one_claim claim s.claim t.claim h.1 k.1 in
      λ i. shown.Step (record { combination = combination i; claim = claims i })
  one_shown_by claim (shown.Step s) (shown.Against w) h k x_tells y_tells =
      absurd (step_or_against claim s w h k x_tells)
  one_shown_by claim (shown.Against v) (shown.Step t) h k x_tells y_tells =
      absurd (step_or_against claim t v k h y_tells)
  one_shown_by claim (shown.Against v) (shown.Against w) h k x_tells y_tells =
      ap (λ (u : Verdict). shown.Against u) (one_told claim v w h k x_tells y_tells)
