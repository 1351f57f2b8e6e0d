-- Checks of steps, one after another.
use Rattle.std.proofs.Common.{◌≡◌, ◌⊎◌, inl, inr, ⊎_elim, ◌+◌, ◌<◌, ◌≤◌, ℕ, Option, IfSome, List, [], ◌∷◌, ◌++◌, length, get_or, take, drop, All, refl, sym, ap, ap₂, subst, subst₂, ◌∙◌, arith}
use Rattle.std.proofs.lemmas.Bool.{cases_order}
use Rattle.std.proofs.lemmas.List.{length-append, take_more, take_all, length-take-le}
use Rattle.std.proofs.lemmas.List.Elements.{All-head, All-nil}
use Rattle.gj_shape.specs.FunctionData.{FunctionData, IsWithinBounds}
use Rattle.gj_problem.specs.declared.problem.Problem.{Problem}
use Rattle.gj_problem.specs.Problems.{Holds}
use Rattle.gj_lemmas.proofs.Lists.{All-back}
use Rattle.gj_problem.proofs.Failing.{elsewhere}
use Rattle.gj_problem.proofs.Prefixes.{split_at}
use Rattle.gj_derivation.specs.declared.step.Step.{Step}
use Rattle.gj_derivation.specs.declared.step.Verdict.{Verdict}
use Rattle.gj_derivation.specs.declared.step.Verdict.TheVariants as verdict
use Rattle.gj_derivation.specs.declared.steps.Failure.{Failure}
use Rattle.gj_derivation.specs.declared.steps.Checked.{Checked}
use Rattle.gj_derivation.specs.declared.steps.Checked.TheVariants.{Accepted, Failed}
use Rattle.gj_derivation.specs.Derivations.{with_claim, Follows, IsDerivation, IsUsable, IsUsableFor, IsReadyStep}
use Rattle.gj_derivation.specs.Checks.{IsVerdict}
use Rattle.gj_derivation.specs.StepLists.{with_claims, IsFailure, IsChecked, IsWideStep, FailsBy, TellsWide, IsWideFailure}
use Rattle.gj_derivation.proofs.ClaimsHold.{claims_hold}
use Rattle.gj_derivation.proofs.CheckedSteps.{usable_function}
use Rattle.gj_derivation.proofs.OneBase.{usable_from}
use Rattle.gj_derivation.proofs.OnePlace.{none_placed, one_place}
use Rattle.gj_derivation.proofs.OneVerdict.{one_verdict}
use Rattle.gj_derivation.proofs.ExactVerdicts.{verdict_exact}

-- ---- functions

pub usable_for : (f : Option FunctionData) (steps : List Step) (s : Step) (after : List Step) →
    steps ≡ s ∷ after → IfSome f IsWithinBounds →
    All (IsReadyStep f) steps → IfSome f IsUsable
usable_for f steps s after is bounds ready =
    usable_function f s.combination.rule bounds (All-head (IsReadyStep f) s after
    (subst (All (IsReadyStep f)) is ready)).function

-- ---- one more step

pub claims_more : (p : Problem) (steps : List Step) (s : Step) →
    with_claims p (steps ++ s ∷ []) ≡ with_claim (with_claims p steps) s.claim
claims_more p [] s = refl
claims_more p (t ∷ steps) s = claims_more (with_claim p t.claim) steps s

module _ (f : Option FunctionData) where
  derivation_more : (p : Problem) (steps : List Step) (s : Step) → IsDerivation f p steps →
      Follows f (with_claims p steps) s →
      IsDerivation f p (steps ++ s ∷ [])
  derivation_more p [] s h follows = (follows, h)
  derivation_more p (t ∷ steps) s h follows = (
    h.0,
    derivation_more (with_claim p t.claim) steps s
        h.1 follows,
  )

  -- the steps are a derivation, and their claims are added
  pub record AreAdded (p grown : Problem) (steps : List Step) : Type 0 where
    pub derivation : IsDerivation f p steps
    pub grown_is : grown ≡ with_claims p steps

  pub none_added : (p : Problem) → AreAdded p p []
  none_added p = record {
    derivation = tt;
    grown_is = refl;
  }

  pub added_more : (p grown new : Problem) (steps : List Step) (i : ℕ) (s : Step) →
      i < length steps → s ≡ get_or steps i s →
      AreAdded p grown (take i steps) → Follows f grown s → new ≡ with_claim grown s.claim →
      AreAdded p new (take (i + 1) steps)
  added_more p grown new steps i s below here h follows new_is =
      let more : take (i + 1) steps ≡ take i steps ++ s ∷ [] =
      take_more steps i s below ∙ ap (λ (z : Step). take i steps ++ z ∷ []) (sym here) in
      subst (AreAdded p new) (sym more) (record {
        derivation = derivation_more p (take i steps) s h.derivation
            (subst (λ (q : Problem). Follows f q s) h.grown_is follows);
        grown_is = new_is ∙ ap (λ (q : Problem). with_claim q s.claim) h.grown_is
            ∙ sym (claims_more p (take i steps) s);
      })

  pub failed_at : (p grown : Problem) (steps : List Step) (i : ℕ) (s : Step) (v : Verdict) →
      i < length steps → s ≡ get_or steps i s →
      AreAdded p grown (take i steps) → IsVerdict f grown s v → (v ≡ verdict.Accepted → ⊥) →
      IsFailure f p steps (record { step = i; verdict = v })
  failed_at p grown steps i s v below here h is refused = record {
    before = take i steps;
    step = s;
    after = drop (i + 1) steps;
    place = split_at steps i s below here;
    index = sym (length-take-le i steps (omega arith));
    derivation_before = h.derivation;
    verdict = subst (λ (q : Problem). IsVerdict f q s v) h.grown_is is;
    refused = refused;
  }

  pub all_added : (p grown : Problem) (steps : List Step) (i : ℕ) → length steps ≤ i →
      AreAdded p grown (take i steps) → IsDerivation f p steps
  all_added p grown steps i end h = subst (IsDerivation f p) (take_all i steps end) h.derivation

  follows_at : (p : Problem) (before : List Step) (s : Step) (after : List Step) →
      IsDerivation f p (before ++ s ∷ after) →
      Follows f (with_claims p before) s
  follows_at p [] s after h = h.0
  follows_at p (t ∷ before) s after h = follows_at (with_claim p t.claim) before s after h.1

  -- ---- steps with a number that does not fit

  -- none of the steps before the i-th has one
  abbrev pub AreNarrowTo : Problem → List Step → ℕ → Type 0
  AreNarrowTo p steps i = (j : ℕ) → IsWideStep f p steps j → j < i → ⊥

  pub narrow_to_none : (p : Problem) (steps : List Step) → AreNarrowTo p steps 0
  narrow_to_none p steps j wide below = omega arith

  -- a step with one, at an index at which a step stands
  wide_here : (p grown : Problem) (steps : List Step) (i : ℕ) (s : Step) → i < length steps →
      s ≡ get_or steps i s → AreAdded p grown (take i steps) → IsWideStep f p steps i →
      IsVerdict f grown s verdict.Wide
  wide_here p grown steps i s below here h w =
      let same = one_place w.before (take i steps) w.step s w.after (drop (i + 1) steps)
      (sym w.place ∙ split_at steps i s below here)
      (sym w.index ∙ sym (length-take-le i steps (omega arith))) in
      subst₂ (λ (q : Problem) (t : Step). IsVerdict f q t verdict.Wide)
      (ap (with_claims p) same.0 ∙ sym h.grown_is) same.1 w.wide

  last_or_earlier : (i j : ℕ) → j < i + 1 → (j < i) ⊎ (j ≡ i)
  last_or_earlier i j below =
      ⊎_elim (λ (same : j ≡ i). inr same)
      (⊎_elim (λ (before : j < i). inl before) (λ (after : i < j). absurd (omega arith)))
      (cases_order j i)

  pub narrow_to_more : (p grown : Problem) (steps : List Step) (i : ℕ) (s : Step) →
      i < length steps → s ≡ get_or steps i s → AreAdded p grown (take i steps) →
      AreNarrowTo p steps i → (IsVerdict f grown s verdict.Wide → ⊥) → AreNarrowTo p steps (i + 1)
  narrow_to_more p grown steps i s below here h before narrow j wide j_below =
      ⊎_elim (before j wide)
      (λ (at : j ≡ i). narrow (wide_here p grown steps i s below here h
      (subst (IsWideStep f p steps) at wide)))
      (last_or_earlier i j j_below)

  pub failure_tells : (p grown : Problem) (steps : List Step) (i : ℕ) (s : Step) (v : Verdict) →
      i < length steps → s ≡ get_or steps i s → AreAdded p grown (take i steps) →
      AreNarrowTo p steps i → (IsVerdict f grown s verdict.Wide → v ≡ verdict.Wide) →
      TellsWide f p steps (Failed (record { step = i; verdict = v }))
  failure_tells p grown steps i s v below here h before tells j wide =
      ⊎_elim
      (λ (at : j ≡ i).
      let is_wide = tells (wide_here p grown steps i s below here h
      (subst (IsWideStep f p steps) at wide)) in
      (record { step = i; verdict = v }, refl, inr (sym at, is_wide)))
      (⊎_elim
      (λ (earlier : j < i). absurd (before j wide earlier))
      (λ (later : i < j). (record { step = i; verdict = v }, refl, inl later)))
      (cases_order j i)

  pub accepted_tells : (p : Problem) (steps : List Step) (i : ℕ) → length steps ≤ i →
      AreNarrowTo p steps i → TellsWide f p steps Accepted
  accepted_tells p steps i end before j wide =
      let some = ap length wide.place ∙ length-append wide.before (wide.step ∷ wide.after) in
      let at = wide.index in
      absurd (before j wide (omega arith))

  -- ---- one answer

  among_derivation : (p : Problem) (before : List Step) (s : Step) (after : List Step)
      (front : List Step) → front ≡ before ++ s ∷ after → IsDerivation f p front →
      Follows f (with_claims p before) s
  among_derivation p before s after front is h =
      follows_at p before s after (subst (IsDerivation f p) is h)

  -- a failure at a step that follows is told of as one with a number that does not fit
  wide_failure : (p : Problem) (steps : List Step) (failure : Failure)
      (h : IsFailure f p steps failure) → IsUsableFor f h.step.combination.rule →
      Follows f (with_claims p h.before) h.step → IsWideStep f p steps failure.step
  wide_failure p steps failure h usable follows =
      ⊎_elim
      (λ (accepted : failure.verdict ≡ verdict.Accepted). absurd (h.refused accepted))
      (λ (wide : failure.verdict ≡ verdict.Wide). record {
        before = h.before;
        step = h.step;
        after = h.after;
        place = h.place;
        index = h.index;
        wide = subst (IsVerdict f (with_claims p h.before) h.step) wide h.verdict;
      })
      (verdict_exact f (with_claims p h.before) h.step failure.verdict usable h.verdict follows)

  abbrev IsUsableStep : Step → Type 0
  IsUsableStep s = IsUsableFor f s.combination.rule

  usable_at : (steps before : List Step) (s : Step) (after : List Step) → steps ≡ before ++ s ∷
      after → All IsUsableStep steps → IsUsableStep s
  usable_at steps before s after place all =
      All-head IsUsableStep s after (All-back IsUsableStep before (s ∷ after)
      (subst (All IsUsableStep) place all))

  -- an answer that passes over no such step fails where another fails, or before
  not_later : (p : Problem) (steps : List Step) (a b : Failure) → All IsUsableStep steps →
      IsFailure f p steps a → IsFailure f p steps b → TellsWide f p steps (Failed b) →
      a.step < b.step → ⊥
  not_later p steps a b usable h k tells before =
      ⊎_elim
      (λ (x : (rest : List Step) × (h.before ≡ k.before ++ k.step ∷ rest)).
      let some = ap length x.1 ∙ length-append k.before (k.step ∷ x.0) in
      let at = h.index in
      let at' = k.index in
      omega arith)
      (⊎_elim
      (λ (x : (k.before ≡ h.before) × (k.step ≡ h.step)).
      let same = ap length x.0 in
      let at = h.index in
      let at' = k.index in
      omega arith)
      (λ (x : (rest : List Step) × (k.before ≡ h.before ++ h.step ∷ rest)).
      let follows = among_derivation p h.before h.step x.0 k.before x.1 k.derivation_before in
      let told = tells a.step (wide_failure p steps a h
      (usable_at steps h.before h.step h.after h.place usable) follows) in
      let same : b.step ≡ told.0.step = ap failed_step (told.1) in
      ⊎_elim (λ (earlier : told.0.step < a.step). omega arith)
      (λ (at : (told.0.step ≡ a.step) × (told.0.verdict ≡ verdict.Wide)).
      let here = at.0 in omega arith)
      told.2))
      (elsewhere h.before k.before h.after k.after h.step k.step (sym h.place ∙ k.place))
    where
      failed_step : Checked → ℕ
      failed_step Accepted = 0
      failed_step (Failed failure) = failure.step

  one_failure : (p : Problem) (steps : List Step) (a b : Failure) → All IsUsableStep steps →
      IsFailure f p steps a → IsFailure f p steps b → TellsWide f p steps (Failed a) →
      TellsWide f p steps (Failed b) → a.step ≡ b.step → a ≡ b
  one_failure p steps a b usable h k a_tells b_tells at =
      let same = one_place h.before k.before h.step k.step h.after k.after (sym h.place ∙ k.place)
      (sym h.index ∙ at ∙ k.index) in
      let q = with_claims p h.before in
      let other : IsVerdict f q h.step b.verdict =
      subst₂ (λ (r : Problem) (s : Step). IsVerdict f r s b.verdict)
      (ap (with_claims p) (sym same.0)) (sym same.1) k.verdict in
      let wide_at : IsVerdict f q h.step verdict.Wide → IsWideStep f p steps a.step = λ wide.
      record {
        before = h.before;
        step = h.step;
        after = h.after;
        place = h.place;
        index = h.index;
        wide = wide;
      } in
      let verdict_same : a.verdict ≡ b.verdict =
      one_verdict f q h.step a.verdict b.verdict
      (usable_at steps h.before h.step h.after h.place usable) h.verdict other
      (λ wide. told_there a a.step refl (a_tells a.step (wide_at wide)))
      (λ wide. told_there b a.step (sym at) (b_tells a.step (wide_at wide))) in
      ap₂ (λ (i : ℕ) (v : Verdict). record { step = i; verdict = v }) at verdict_same
    where
      told_there : (failure : Failure) (i : ℕ) → failure.step ≡ i → FailsBy i (Failed failure) →
          failure.verdict ≡ verdict.Wide
      told_there failure i at (told, is, where_it_is) =
          let same : failure ≡ told = cc in
          ⊎_elim
          (λ (earlier : told.step < i).
          let step_same : failure.step ≡ told.step = ap (λ (x : Failure). x.step) same in
          absurd (omega arith))
          (λ (here : (told.step ≡ i) × (told.verdict ≡ verdict.Wide)).
          ap (λ (x : Failure). x.verdict) same ∙ here.1)
          where_it_is

  -- where the steps are a derivation, an answer that fails passes over a step that does not fit
  not_failed : (p : Problem) (steps : List Step) (a : Failure) → All IsUsableStep steps →
      IsDerivation f p steps → IsFailure f p steps a → TellsWide f p steps Accepted → ⊥
  not_failed p steps a usable derivation h tells =
      let follows = among_derivation p h.before h.step h.after steps h.place derivation in
      let told = tells a.step (wide_failure p steps a h
      (usable_at steps h.before h.step h.after h.place usable) follows) in
      let e = told.1 in
      absurd (cc)

  pub one_check : (p : Problem) (steps : List Step) (c d : Checked) →
      All (λ s. IsUsableFor f s.combination.rule) steps →
      IsChecked f p steps c → IsChecked f p steps d → TellsWide f p steps c →
      TellsWide f p steps d → c ≡ d
  one_check p steps Accepted Accepted usable h k c_tells d_tells = refl
  one_check p steps Accepted (Failed b) usable h k c_tells d_tells =
      absurd (not_failed p steps b usable h k c_tells)
  one_check p steps (Failed a) Accepted usable h k c_tells d_tells =
      absurd (not_failed p steps a usable k h d_tells)
  one_check p steps (Failed a) (Failed b) usable h k c_tells d_tells =
      ⊎_elim
      (λ (at : a.step ≡ b.step). ap (λ (x : Failure). Failed x)
      (one_failure p steps a b usable h k c_tells d_tells at))
      (⊎_elim
      (λ (before : a.step < b.step). absurd (not_later p steps a b usable h k d_tells before))
      (λ (after : b.step < a.step). absurd (not_later p steps b a usable k h c_tells after)))
      (cases_order a.step b.step)

  -- ---- exact answers

  pub checked_exact : (p : Problem) (steps : List Step) (c : Checked) → IfSome f IsUsable →
      IsChecked f p steps c → IsDerivation f p steps →
      (c ≡ Accepted) ⊎ IsWideFailure c
  checked_exact p steps Accepted usable h derivation = inl refl
  checked_exact p steps (Failed failure) usable h derivation =
      let follows = follows_at p h.before h.step h.after
      (subst (IsDerivation f p) h.place derivation) in
      ⊎_elim
      (λ (accepted : failure.verdict ≡ verdict.Accepted). absurd (h.refused accepted))
      (λ (wide : failure.verdict ≡ verdict.Wide). inr (failure, refl, wide))
      (verdict_exact f (with_claims p h.before) h.step failure.verdict
      (usable_from f h.step.combination.rule usable) h.verdict follows)

  -- the steps that a failure stands among are some
  pub ready_exact : (p : Problem) (steps : List Step) (c : Checked) → IfSome f IsWithinBounds →
      All (IsReadyStep f) steps → IsChecked f p steps c →
      IsDerivation f p steps → (c ≡ Accepted) ⊎ IsWideFailure c
  ready_exact p [] Accepted bounds ready h derivation = inl refl
  ready_exact p [] (Failed failure) bounds ready h derivation =
      absurd (none_placed h.before h.step h.after h.place)
  ready_exact p (s ∷ steps) c bounds ready h derivation =
      checked_exact p (s ∷ steps) c (usable_for f (s ∷ steps) s steps refl bounds ready) h
      derivation

  pub accepted_holds : (p : Problem) (steps : List Step) (c : Checked) → IfSome f IsWithinBounds →
      All (IsReadyStep f) steps → IsChecked f p steps c →
      c ≡ Accepted → All (λ s. Holds p s.claim) steps
  accepted_holds p [] c bounds ready h is = All-nil (λ (s : Step). Holds p s.claim)
  accepted_holds p (s ∷ steps) Accepted bounds ready h is =
      claims_hold f p (s ∷ steps) (usable_for f (s ∷ steps) s steps refl bounds ready) h
  accepted_holds p (s ∷ steps) (Failed failure) bounds ready h is = absurd (cc)
