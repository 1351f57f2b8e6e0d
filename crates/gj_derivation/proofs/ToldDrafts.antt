-- Of the drafts that are told of, `Wide` is told where a number does not fit.
use Rattle.std.proofs.Common.{◌≡◌, ◌+◌, ◌<◌, ℕ, Option, IfSome, List, [], ◌∷◌, ◌++◌, get_or, length, take, drop, All, sym, ap, subst, ◌∙◌}
use Rattle.std.proofs.lemmas.List.{take_more, take-append-drop}
use Rattle.std.proofs.lemmas.List.Elements.{All-get_or}
use Rattle.gj_shape.specs.FunctionData.{FunctionData}
use Rattle.gj_problem.specs.declared.problem.Problem.{Problem}
use Rattle.gj_problem.proofs.Prefixes.{split_at}
use Rattle.gj_derivation.specs.declared.draft.Draft.{Draft}
use Rattle.gj_derivation.specs.declared.draft.Reached.{Reached}
use Rattle.gj_derivation.specs.declared.draft.Shown.{Shown}
use Rattle.gj_derivation.specs.declared.draft.Shown.TheVariants as shown
use Rattle.gj_derivation.specs.declared.step.Combination.{Combination}
use Rattle.gj_derivation.specs.declared.step.Verdict.TheVariants.{Wide}
use Rattle.gj_derivation.specs.Derivations.{IsUsable, IsUsableFor, IsReady}
use Rattle.gj_derivation.specs.Drafts.{IsAgainst, begun, reach_all, IsPlaced, TellWide}
use Rattle.gj_derivation.proofs.DerivedSteps.{AreShownTo}
use Rattle.gj_derivation.proofs.OneBase.{usable_from}
use Rattle.gj_derivation.proofs.OneClaim.{one_placed_combination}
use Rattle.gj_derivation.proofs.OneDerivation.{TellsAt, tell_push, tell_longer}

pub ready_at : (f : Option FunctionData) (drafts : List Draft) (i : ℕ) (d : Draft) →
    i < length drafts → d ≡ get_or drafts i d → All (λ (e : Draft). IsReady f e.combination)
    drafts → IsReady f d.combination
ready_at f drafts i d below here all =
    let Ready : Draft → Type 0 = λ e. IsReady f e.combination in
    subst Ready (sym here) (All-get_or Ready drafts i d below all)

module _ (f : Option FunctionData) (grid : Option ℕ) where
  -- what is told of the combination that is placed is told of the draft
  tells_placed : (r reached : Reached) (d : Draft) (x : Shown) (c : Combination) →
      reached ≡ r → IsPlaced reached d.combination c → IfSome f IsUsable →
      (IsUsableFor f c.rule → IsAgainst f grid reached.problem c d.claim Wide →
      x ≡ shown.Against Wide) → TellsAt f grid r d x
  tells_placed r reached d x c same placed usable tells e e_placed wide =
      let here : IsPlaced reached d.combination e =
      subst (λ (q : Reached). IsPlaced q d.combination e) (sym same) e_placed in
      let one : e ≡ c = one_placed_combination reached d.combination e c here placed in
      tells (usable_from f c.rule usable)
      (subst (λ (q : Reached). IsAgainst f grid q.problem c d.claim Wide) (sym same)
      (subst (λ (k : Combination). IsAgainst f grid r.problem k d.claim Wide) one wide))

  told_on : (p : Problem) (drafts : List Draft) (i : ℕ) (d : Draft) (xs : List Shown)
      (after : List Draft) (x : Shown) (r : Reached) (c : Combination) →
      IsPlaced r d.combination c → IfSome f IsUsable →
      (IsUsableFor f c.rule → IsAgainst f grid r.problem c d.claim Wide → x ≡ shown.Against Wide) →
      AreShownTo f grid p (take i drafts) xs r →
      TellWide f grid (begun p) (take i drafts) xs →
      TellWide f grid (begun p) (take i drafts ++ d ∷ after) (xs ++ x ∷ [])
  told_on p drafts i d xs after x r c placed usable tells h told =
      tell_push f grid (begun p) (take i drafts) xs d after x h.are_shown told
      (tells_placed (reach_all (begun p) xs) r d x c h.reached_is placed usable tells)

  pub told_more : (p : Problem) (drafts : List Draft) (i : ℕ) (d : Draft) (xs new : List Shown)
      (x : Shown) (r : Reached) (c : Combination) → i < length drafts → d ≡ get_or drafts i d →
      new ≡ xs ++ x ∷ [] → IsPlaced r d.combination c → IfSome f IsUsable →
      (IsUsableFor f c.rule → IsAgainst f grid r.problem c d.claim Wide → x ≡ shown.Against Wide) →
      AreShownTo f grid p (take i drafts) xs r →
      TellWide f grid (begun p) (take i drafts) xs →
      TellWide f grid (begun p) (take (i + 1) drafts) new
  told_more p drafts i d xs new x r c below here new_is placed usable tells h told =
      let more : take (i + 1) drafts ≡ take i drafts ++ d ∷ [] =
      take_more drafts i d below ∙ ap (λ (z : Draft). take i drafts ++ z ∷ []) (sym here) in
      subst (TellWide f grid (begun p) (take (i + 1) drafts)) (sym new_is)
      (subst (λ (ds : List Draft). TellWide f grid (begun p) ds (xs ++ x ∷ [])) (sym more)
      (told_on p drafts i d xs [] x r c placed usable tells h told))

  pub told_to : (p : Problem) (drafts : List Draft) (i : ℕ) (d : Draft) (xs : List Shown)
      (x : Shown) (r : Reached) (c : Combination) → i < length drafts → d ≡ get_or drafts i d →
      IsPlaced r d.combination c → IfSome f IsUsable →
      (IsUsableFor f c.rule → IsAgainst f grid r.problem c d.claim Wide → x ≡ shown.Against Wide) →
      AreShownTo f grid p (take i drafts) xs r →
      TellWide f grid (begun p) (take i drafts) xs →
      TellWide f grid (begun p) drafts (xs ++ x ∷ [])
  told_to p drafts i d xs x r c below here placed usable tells h told =
      subst (λ (ds : List Draft). TellWide f grid (begun p) ds (xs ++ x ∷ []))
      (sym (split_at drafts i d below here))
      (told_on p drafts i d xs (drop (i + 1) drafts) x r c placed usable tells h told)

  pub told_of_all : (p : Problem) (drafts : List Draft) (i : ℕ) (xs : List Shown) →
      TellWide f grid (begun p) (take i drafts) xs → TellWide f grid (begun p) drafts xs
  told_of_all p drafts i xs told =
      subst (λ (ds : List Draft). TellWide f grid (begun p) ds xs) (take-append-drop i drafts)
      (tell_longer f grid (begun p) (take i drafts) xs (drop i drafts) told)
