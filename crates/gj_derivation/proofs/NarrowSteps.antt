-- If `Wide` is told of each draft where a number does not fit, each number of the steps that come
-- back fits.
use Rattle.std.proofs.Common.{◌≡◌, ⊎_elim, inl, inr, ℕ, Option, IfSome, List, [], ◌∷◌, ◌++◌, length, refl, sym, ap, subst, ◌∙◌}
use Rattle.gj_shape.specs.FunctionData.{FunctionData}
use Rattle.gj_problem.specs.declared.problem.Entry.{Entry}
use Rattle.gj_problem.specs.declared.problem.Inequality.{Inequality}
use Rattle.gj_problem.specs.declared.problem.Problem.{Problem}
use Rattle.gj_derivation.specs.declared.draft.Claim.{Claim}
use Rattle.gj_derivation.specs.declared.draft.Claim.TheVariants.{Absent, Terms, Given}
use Rattle.gj_derivation.specs.declared.draft.Draft.{Draft}
use Rattle.gj_derivation.specs.declared.draft.Reached.{Reached}
use Rattle.gj_derivation.specs.declared.draft.Shown.{Shown}
use Rattle.gj_derivation.specs.declared.draft.Shown.TheVariants as shown
use Rattle.gj_derivation.specs.declared.step.Combination.{Combination}
use Rattle.gj_derivation.specs.declared.step.Step.{Step}
use Rattle.gj_derivation.specs.declared.step.Verdict.TheVariants.{Wide}
use Rattle.gj_derivation.specs.declared.steps.Checked.{Checked}
use Rattle.gj_derivation.specs.declared.steps.Checked.TheVariants.{Accepted, Failed}
use Rattle.gj_derivation.specs.declared.steps.Failure.{Failure}
use Rattle.gj_derivation.specs.Derivations.{Line, coefficient_in, times, with_claim, IsUsable, IsBase}
use Rattle.gj_derivation.specs.Checks.{IsBaseless, IsWideMoving, IsWideFor, IsAgainstTerms, IsVerdict}
use Rattle.gj_derivation.specs.StepLists.{with_claims, IsChecked, IsWideStep, IsWideFailure}
use Rattle.gj_derivation.specs.Drafts.{AreFoundFor, IsFoundClaim, IsClaimOf, IsAgainstFinding, IsAgainst, begun, reach, AreShown, TellWide, steps_of}
use Rattle.gj_derivation.proofs.CheckedSteps.{step_of}
use Rattle.gj_derivation.proofs.DerivedSteps.{shown_accepted}
use Rattle.gj_derivation.proofs.OneBase.{usable_from, one_base}
use Rattle.gj_derivation.proofs.OnePlace.{none_placed}
use Rattle.gj_derivation.proofs.TermsFit.{terms_fit}

module _ (f : Option FunctionData) (grid : Option ℕ) (usable : IfSome f IsUsable) where
  -- ---- one step

  -- the terms of a claim that is found stand in the order of their columns, so each fits; the
  -- numbers of the moves to them are among those of finding them
  narrow_found : (p : Problem) (c : Combination) (q : Inequality) (line : Line) →
      IsBase f p c line → IsFoundClaim grid p.columns c.factor line q →
      (IsAgainstFinding f grid p c Wide → ⊥) → IsVerdict f p (step_of c q) Wide → ⊥
  narrow_found p c q line is found narrow =
      ⊎_elim
      (λ (baseless : IsBaseless f p c Wide). narrow (inl baseless))
      (λ (k : (other : Line) × IsBase f p c other × IsWideFor p.columns c.factor other q.entries).
      let ys = coefficient_in q.entries in
      let same : line ≡ k.0 = one_base f p c line k.0 (usable_from f c.rule usable) is k.1 in
      ⊎_elim (terms_fit (length p.columns) q.entries found.0)
      (λ (moving : IsWideMoving p.columns c.factor k.0 ys).
      narrow (inr (
        k.0,
        k.1,
        inr (
          ys,
          subst (λ (l : Line). AreFoundFor grid p.columns (times c.factor l) ys) same found.1,
          inl moving,
        ),
      )))
      k.2)

  -- each number of a step fits, if none stands against the claim of its draft
  narrow_claim : (p : Problem) (c : Combination) (claim : Claim) (q : Inequality) →
      IsClaimOf f grid p c claim q → (IsAgainst f grid p c claim Wide → ⊥) →
      IsVerdict f p (step_of c q) Wide → ⊥
  narrow_claim p c Absent q (positive, line, is, found) narrow wide =
      narrow_found p c q line is found narrow wide
  narrow_claim p c (Terms entries) q (same, shows) narrow wide =
      narrow (subst (λ (es : List Entry). IsAgainstTerms f p c es Wide) same wide)
  narrow_claim p c (Given claim) q (same, follows) narrow wide =
      narrow (
        subst (λ (r : Inequality). IsVerdict f p (step_of c r) Wide) same wide,
        λ e. cc,
      )

  narrow_step : (p : Problem) (c : Combination) (claim : Claim) (s : Step) → s.combination ≡ c →
      IsClaimOf f grid p c claim s.claim → (IsAgainst f grid p c claim Wide → ⊥) →
      IsVerdict f p s Wide → ⊥
  narrow_step p c claim s same is narrow wide =
      narrow_claim p c claim s.claim is narrow
      (subst (λ (k : Combination). IsVerdict f p (step_of k s.claim) Wide) same wide)

  -- ---- one step after another

  narrow_from : (r : Reached) (drafts : List Draft) (xs : List Shown) →
      AreShown f grid r drafts xs → TellWide f grid r drafts xs →
      (before : List Step) (s : Step) (after : List Step) → steps_of xs ≡ before ++ s ∷ after →
      IsVerdict f (with_claims r.problem before) s Wide → ⊥
  narrow_from r [] [] h told before s after place wide = none_placed before s after place
  narrow_from r [] (x ∷ xs) h told before s after place wide = h
  narrow_from r (d ∷ drafts) [] h told before s after place wide = h
  narrow_from r (d ∷ drafts) (shown.Step t ∷ xs) ((c, placed, (same, claim)), goes, more) told []
      s after place wide =
      let here : t ≡ s = cc in
      narrow_step r.problem c d.claim t same claim
      (λ against. let no = told.0 c placed against in absurd (cc))
      (subst (λ (u : Step). IsVerdict f r.problem u Wide) (sym here) wide)
  narrow_from r (d ∷ drafts) (shown.Step t ∷ xs) (next, goes, more) told (b ∷ before) s after place
      wide =
      let here : t ≡ b = cc in
      let rest : steps_of xs ≡ before ++ s ∷ after = cc in
      narrow_from (reach r (shown.Step t)) drafts xs more told.1 before s after rest
      (subst (λ (u : Step). IsVerdict f (with_claims (with_claim r.problem u.claim) before) s Wide)
      (sym here) wide)
  narrow_from r (d ∷ drafts) (shown.Against v ∷ xs) (next, goes, more) told before s after place
      wide =
      narrow_from (reach r (shown.Against v)) drafts xs more told.1 before s after place wide

  pub none_is_wide : (p : Problem) (drafts : List Draft) (xs : List Shown) →
      AreShown f grid (begun p) drafts xs → TellWide f grid (begun p) drafts xs → (i : ℕ) →
      IsWideStep f p (steps_of xs) i → ⊥
  none_is_wide p drafts xs h told i w =
      narrow_from (begun p) drafts xs h told w.before w.step w.after w.place w.wide

  -- so a check accepts them
  pub told_accepted : (p : Problem) (drafts : List Draft) (xs : List Shown) (c : Checked) →
      AreShown f grid (begun p) drafts xs → TellWide f grid (begun p) drafts xs →
      IsChecked f p (steps_of xs) c → c ≡ Accepted
  told_accepted p drafts xs Accepted h told checked = refl
  told_accepted p drafts xs (Failed failure) h told checked =
      ⊎_elim
      (λ (accepted : Failed failure ≡ Accepted). accepted)
      (λ (k : IsWideFailure (Failed failure)).
      let one : Failed failure ≡ Failed k.0 = k.1 in
      let same : failure ≡ k.0 = cc in
      let wide : failure.verdict ≡ Wide = ap (λ (x : Failure). x.verdict) same ∙ k.2 in
      absurd (none_is_wide p drafts xs h told failure.step (record {
        before = checked.before;
        step = checked.step;
        after = checked.after;
        place = checked.place;
        index = checked.index;
        wide = subst (IsVerdict f (with_claims p checked.before) checked.step) wide checked.verdict;
      })))
      (shown_accepted f grid p drafts xs (Failed failure) usable h checked)
