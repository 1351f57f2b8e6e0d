-- The steps of drafts, one after another.
use Rattle.std.proofs.Common.{◌≡◌, ◌⊎◌, ◌+◌, ◌<◌, ◌≤◌, ℕ, Option, Some, IfSome, List, [], ◌∷◌, ◌++◌, length, get_or, take, drop, pos, ◌<ℤ◌, All, refl, sym, ap, subst, ◌∙◌, arith}
use Rattle.std.specs.List.{AllZip}
use Rattle.std.proofs.lemmas.List.{take_more, take_all, length-take-le}
use Rattle.std.proofs.lemmas.List.Elements.{All-nil, All-cons, All-head, All-tail, AllZip-push}
use Rattle.gj_frac.specs.declared.Frac.{Frac}
use Rattle.gj_frac.specs.Fraction.{numerator}
use Rattle.gj_shape.specs.FunctionData.{FunctionData}
use Rattle.gj_fields.specs.Rational.{rational}
use Rattle.gj_problem.specs.declared.problem.Problem.{Problem}
use Rattle.gj_problem.proofs.Prefixes.{split_at}
use Rattle.gj_derivation.specs.declared.draft.Claim.{Claim}
use Rattle.gj_derivation.specs.declared.draft.Claim.TheVariants.{Absent, Terms, Given}
use Rattle.gj_derivation.specs.declared.draft.Draft.{Draft}
use Rattle.gj_derivation.specs.declared.draft.Reached.{Reached}
use Rattle.gj_derivation.specs.declared.draft.Shown.{Shown}
use Rattle.gj_derivation.specs.declared.draft.Shown.TheVariants as shown
use Rattle.gj_derivation.specs.declared.step.Combination.{Combination}
use Rattle.gj_derivation.specs.declared.step.Multiplier.{Multiplier}
use Rattle.gj_derivation.specs.declared.step.Step.{Step}
use Rattle.gj_derivation.specs.declared.step.StepRule.{StepRule}
use Rattle.gj_derivation.specs.declared.steps.Checked.{Checked}
use Rattle.gj_derivation.specs.declared.steps.Checked.TheVariants.{Accepted}
use Rattle.gj_derivation.specs.Derivations.{HasFunctionFor, IsUsable, IsReady, IsReadyStep, Follows, IsDerivation}
use Rattle.gj_derivation.specs.StepLists.{IsChecked, IsWideFailure}
use Rattle.gj_derivation.specs.Drafts.{IsClaimOf, reach, reach_all, begun, line_at, IsPlaced, IsNext, Ends, AreShown, IsReached, steps_of}
use Rattle.gj_derivation.proofs.CheckedDerivations.{checked_exact}
use Rattle.gj_derivation.proofs.CheckedMoves.{at_most_itself}

-- ---- lines

-- these multipliers with the lines that they have now
abbrev pub ArePlacedAt : Reached → List Multiplier → List Multiplier → Type 0
ArePlacedAt r = AllZip (λ (m n : Multiplier). (line_at r m.line ≡ Some n.line)
    × (n.value ≡ m.value))

pub one_placed : (r : Reached) (ms : List Multiplier) (i : ℕ) (m n : Multiplier)
    (old new : List Multiplier) → i < length ms → m ≡ get_or ms i m →
    line_at r m.line ≡ Some n.line → n.value ≡ m.value → new ≡ old ++ n ∷ [] →
    ArePlacedAt r (take i ms) old → ArePlacedAt r (take (i + 1) ms) new
one_placed r ms i m n old new below here line value new_is h =
    let R = λ (m n : Multiplier). (line_at r m.line ≡ Some n.line) × (n.value ≡ m.value) in
    let more : take (i + 1) ms ≡ take i ms ++ m ∷ [] = take_more ms i m below
    ∙ ap (λ (z : Multiplier). take i ms ++ z ∷ []) (sym here) in
    subst (ArePlacedAt r (take (i + 1) ms)) (sym new_is)
    (subst (λ (ns : List Multiplier). ArePlacedAt r ns (old ++ n ∷ [])) (sym more)
    (AllZip-push R (take i ms) old m n h (line, value)))

-- ---- one draft after another

module _ (f : Option FunctionData) (grid : Option ℕ) where
  shown_more : (r : Reached) (drafts : List Draft) (xs : List Shown) (d : Draft) (x : Shown) →
      AreShown f grid r drafts xs →
      IsNext f grid (reach_all r xs) d x → (Ends d.claim x → ⊥) →
      AreShown f grid r (drafts ++ d ∷ []) (xs ++ x ∷ [])
  shown_more r [] [] d x h next goes = (next, goes, tt)
  shown_more r [] (y ∷ xs) d x h next goes = absurd h
  shown_more r (e ∷ drafts) [] d x h next goes = absurd h
  shown_more r (e ∷ drafts) (y ∷ xs) d x h next goes = (
    h.0,
    h.1,
    shown_more (reach r y) drafts xs d
        x h.2 next goes,
  )

  reach_more : (r : Reached) (xs : List Shown) (x : Shown) →
      reach_all r (xs ++ x ∷ []) ≡ reach (reach_all r xs) x
  reach_more r [] x = refl
  reach_more r (y ∷ xs) x = reach_more (reach r y) xs x

  -- the first drafts show these
  pub record AreShownTo (p : Problem) (drafts : List Draft) (xs : List Shown)
      (reached : Reached) : Type 0 where
    pub are_shown : AreShown f grid (begun p) drafts xs
    pub reached_is : reached ≡ reach_all (begun p) xs

  pub none_shown : (p : Problem) (xs : List Shown) (r : Reached) → xs ≡ [] → r ≡ begun p →
      AreShownTo p [] xs r
  none_shown p xs r none is = subst (λ (ys : List Shown). AreShownTo p [] ys r) (sym none)
      (record { are_shown = tt; reached_is = is })

  pub one_shown : (p : Problem) (drafts : List Draft) (i : ℕ) (d : Draft) (xs new : List Shown)
      (x : Shown) (r reached : Reached) → i < length drafts →
      d ≡ get_or drafts i d → new ≡ xs ++ x ∷ [] → reached ≡ reach r x → IsNext f grid r d x →
      (Ends d.claim x → ⊥) →
      AreShownTo p (take i drafts) xs r → AreShownTo p (take (i + 1) drafts) new reached
  one_shown p drafts i d xs new x r reached below here new_is reached_is next goes h =
      let more : take (i + 1) drafts ≡ take i drafts ++ d ∷ [] =
      take_more drafts i d below ∙ ap (λ (z : Draft). take i drafts ++ z ∷ []) (sym here) in
      subst (λ (ys : List Shown). AreShownTo p (take (i + 1) drafts) ys reached) (sym new_is)
      (subst (λ (ds : List Draft). AreShownTo p ds (xs ++ x ∷ []) reached) (sym more) (record {
        are_shown = shown_more (begun p) (take i drafts) xs d x h.are_shown
            (subst (λ (q : Reached). IsNext f grid q d x) h.reached_is next) goes;
        reached_is = reached_is ∙ ap (λ (q : Reached). reach q x) h.reached_is
            ∙ sym (reach_more (begun p) xs x);
      }))

  pub all_shown : (p : Problem) (drafts : List Draft) (i : ℕ) (xs : List Shown) (r : Reached) →
      length drafts ≤ i → AreShownTo p (take i drafts) xs r →
      AreShown f grid (begun p) drafts xs
  all_shown p drafts i xs r end h = subst (λ (ds : List Draft). AreShown f grid (begun p) ds xs)
      (take_all i drafts end) h.are_shown

  pub reached_at : (p : Problem) (drafts : List Draft) (i : ℕ) (d : Draft) (xs : List Shown)
      (r : Reached) → i < length drafts → d ≡ get_or drafts i d →
      AreShownTo p (take i drafts) xs r → IsReached f grid p drafts i xs r d
  reached_at p drafts i d xs r below here h = record {
    before = take i drafts;
    after = drop (i + 1) drafts;
    place = split_at drafts i d below here;
    index = sym (length-take-le i drafts (omega arith));
    are_shown = h.are_shown;
    reached = h.reached_is;
  }

  -- ---- the steps

  -- a claim that is found follows
  claim_follows : (p : Problem) (c : Combination) (claim : Claim) (s : Step) → s.combination ≡ c →
      IsClaimOf f grid p c claim s.claim → Follows f p s
  claim_follows p c claim s same h = subst (λ (k : Combination). Follows f p
      (record { combination = k; claim = s.claim })) (sym same) (by_claim claim h)
    where
      by_claim : (claim : Claim) → IsClaimOf f grid p c claim s.claim →
          Follows f p (record { combination = c; claim = s.claim })
      by_claim Absent (positive, base, is, h) = (
        rational s.claim.right,
        record {
          base = base;
          base_is = is;
          factor_positive = positive;
          right_is = h.2;
        },
        at_most_itself (rational s.claim.right),
      )
      by_claim (Terms entries) h = (
        rational s.claim.right,
        h.1,
        at_most_itself
            (rational s.claim.right),
      )
      by_claim (Given q) h = h.1

  pub shown_derivation : (r : Reached) (drafts : List Draft) (xs : List Shown) →
      AreShown f grid r drafts xs → IsDerivation f r.problem (steps_of xs)
  shown_derivation r [] [] h = tt
  shown_derivation r [] (x ∷ xs) h = absurd h
  shown_derivation r (d ∷ drafts) [] h = absurd h
  shown_derivation r (d ∷ drafts) (shown.Step s ∷ xs) ((c, placed, (same, claim)), goes, more) = (
    claim_follows r.problem c d.claim s same claim,
    shown_derivation (reach r (shown.Step s))
        drafts xs more,
  )
  shown_derivation r (d ∷ drafts) (shown.Against v ∷ xs) (next, goes, more) =
      shown_derivation (reach r (shown.Against v)) drafts xs more

  pub shown_accepted : (p : Problem) (drafts : List Draft) (xs : List Shown) (c : Checked) →
      IfSome f IsUsable → AreShown f grid (begun p) drafts xs →
      IsChecked f p (steps_of xs) c → (c ≡ Accepted) ⊎ IsWideFailure c
  shown_accepted p drafts xs c usable h checked = checked_exact f p (steps_of xs) c usable checked
      (shown_derivation (begun p) drafts xs h)

  placed_ready : (r : Reached) (c placed : Combination) → IsPlaced r c placed → IsReady f c →
      IsReady f placed
  placed_ready r c placed is ready = record {
    factor_positive = subst (λ (x : Frac). pos 0 <ℤ numerator x) (sym is.factor)
        ready.factor_positive;
    function = subst (λ (rule : StepRule). HasFunctionFor f rule) (sym is.rule) ready.function;
  }

  pub shown_ready : (r : Reached) (drafts : List Draft) (xs : List Shown) →
      AreShown f grid r drafts xs → All (λ d. IsReady f d.combination) drafts →
      All (IsReadyStep f) (steps_of xs)
  shown_ready r [] [] h ready = All-nil (IsReadyStep f)
  shown_ready r [] (x ∷ xs) h ready = absurd h
  shown_ready r (d ∷ drafts) [] h ready = absurd h
  shown_ready r (d ∷ drafts) (shown.Step s ∷ xs) ((c, placed, (same, claim)), goes, more) ready =
      let Ready = λ (d : Draft). IsReady f d.combination in
      All-cons (IsReadyStep f) s (steps_of xs)
      (subst (IsReady f) (sym same) (placed_ready r d.combination c placed
      (All-head Ready d drafts ready)))
      (shown_ready (reach r (shown.Step s)) drafts xs more (All-tail Ready d drafts ready))
  shown_ready r (d ∷ drafts) (shown.Against v ∷ xs) (next, goes, more) ready =
      shown_ready (reach r (shown.Against v)) drafts xs more
      (All-tail (λ (d : Draft). IsReady f d.combination) d drafts ready)
