-- Drafts whose claims are given, and the steps that they are.
use Rattle.std.proofs.Common.{◌≡◌, List, [], ◌∷◌, ◌++◌, All, map, refl, sym, ap, ap₂, subst, ◌∙◌}
use Rattle.std.proofs.lemmas.List.{map-append, append_assoc}
use Rattle.std.proofs.lemmas.List.Elements.{All-head}
use Rattle.gj_lemmas.proofs.Lists.{All-back}
use Rattle.gj_problem.specs.declared.problem.Inequality.{Inequality}
use Rattle.gj_derivation.specs.declared.draft.Claim.{Claim}
use Rattle.gj_derivation.specs.declared.draft.Claim.TheVariants.{Given}
use Rattle.gj_derivation.specs.declared.draft.Draft.{Draft}
use Rattle.gj_derivation.specs.declared.step.Combination.{Combination}
use Rattle.gj_derivation.specs.declared.step.Step.{Step}
use Rattle.gj_derivation_text.specs.DerivationInputs.{as_draft, HasGivenClaim}

-- ---- one behind another

module _ (drafts : List Draft) (steps : List Step) (left : List Draft) (d : Draft)
    (rest : List Draft) (so_far : drafts ≡ map as_draft steps ++ left)
    (next : left ≡ d ∷ rest) where
  pub claim_at : All HasGivenClaim drafts → HasGivenClaim d
  claim_at all =
      All-head HasGivenClaim d rest
      (subst (All HasGivenClaim) next
      (All-back HasGivenClaim (map as_draft steps) left (subst (All HasGivenClaim) so_far all)))

  pub one_more : (s : Step) (new : List Step) → d ≡ as_draft s → new ≡ steps ++ s ∷ [] →
      drafts ≡ map as_draft new ++ rest
  one_more s new is new_is =
      so_far ∙ ap (λ (ds : List Draft). map as_draft steps ++ ds)
      (next ∙ ap (λ (e : Draft). e ∷ rest) is)
      ∙ sym (append_assoc (map as_draft steps) (as_draft s ∷ []) rest)
      ∙ ap (λ (ds : List Draft). ds ++ rest) (sym (map-append as_draft steps (s ∷ []))
      ∙ ap (λ (ss : List Step). map as_draft ss) (sym new_is))

-- ---- a draft is one step

same_claim : (q r : Inequality) → Given q ≡ Given r → q ≡ r
same_claim q r e = cc

same_step : (s t : Step) → as_draft s ≡ as_draft t → s ≡ t
same_step s t e =
    let first = ap (λ (d : Draft). d.combination) e in
    let claim = same_claim s.claim t.claim (ap (λ (d : Draft). d.claim) e) in
    λ i. record { combination = first i; claim = claim i }

no_draft : (d : Draft) (ds : List Draft) → [] ≡ d ∷ ds → ⊥
no_draft d ds e = cc

both : (d e : Draft) (ds es : List Draft) → d ∷ ds ≡ e ∷ es → (d ≡ e) × (ds ≡ es)
both d e ds es is = (cc, cc)

pub same_steps : (steps others : List Step) → map as_draft steps ≡ map as_draft others →
    steps ≡ others
same_steps [] [] e = refl
same_steps [] (t ∷ others) e = absurd (no_draft _ _ e)
same_steps (s ∷ steps) [] e = absurd (no_draft _ _ (sym e))
same_steps (s ∷ steps) (t ∷ others) e =
    let (first, more) = both _ _ _ _ e in
    ap₂ (λ (u : Step) (us : List Step). u ∷ us) (same_step s t first) (same_steps steps others more)
