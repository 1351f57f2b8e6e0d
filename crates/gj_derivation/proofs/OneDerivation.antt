-- What is derived from drafts is one thing, if `Wide` comes where a number does not fit.
use Rattle.std.proofs.Common.{◌≡◌, ◌⊎◌, ⊎_elim, inl, inr, ℕ, Option, Some, List, [], ◌∷◌, ◌++◌, length, All, refl, sym, ap, ap₂, subst, subst₂, ◌∙◌}
use Rattle.std.proofs.lemmas.List.{append-nil}
use Rattle.std.proofs.lemmas.List.Elements.{All-head, All-tail, AllZip-get_or}
use Rattle.gj_lemmas.proofs.Lists.{All-back, All-front}
use Rattle.gj_shape.specs.FunctionData.{FunctionData}
use Rattle.gj_problem.specs.declared.problem.Problem.{Problem}
use Rattle.gj_problem.proofs.Failing.{elsewhere}
use Rattle.gj_derivation.specs.declared.draft.Draft.{Draft}
use Rattle.gj_derivation.specs.declared.draft.Derived.{Derived}
use Rattle.gj_derivation.specs.declared.draft.Derived.TheVariants as derived
use Rattle.gj_derivation.specs.declared.draft.Reached.{Reached}
use Rattle.gj_derivation.specs.declared.draft.Shown.{Shown}
use Rattle.gj_derivation.specs.declared.draft.Shown.TheVariants as shown
use Rattle.gj_derivation.specs.declared.step.Combination.{Combination}
use Rattle.gj_derivation.specs.declared.step.Multiplier.{Multiplier}
use Rattle.gj_derivation.specs.declared.step.StepRule.{StepRule}
use Rattle.gj_derivation.specs.declared.step.Verdict.{Verdict}
use Rattle.gj_derivation.specs.declared.step.Verdict.TheVariants.{Wide}
use Rattle.gj_derivation.specs.declared.steps.Failure.{Failure}
use Rattle.gj_derivation.specs.Derivations.{IsUsableFor}
use Rattle.gj_derivation.specs.Drafts.{IsAgainst, IsShownBy, begun, reach, reach_all, line_at, IsPlaced, IsLost, IsNext, Ends, AreShown, IsReached, IsDerivedBy, TellWide, told_by}
use Rattle.gj_derivation.proofs.OneClaim.{one_placed_combination, one_shown_by}

-- the multipliers of a combination that is placed are not lost
placed_or_lost : (r : Reached) (c placed : Combination) → IsPlaced r c placed → IsLost r c → ⊥
placed_or_lost r c placed h (i, m, below, is, none) =
    let ns = placed.multipliers in
    let at = AllZip-get_or (λ (m n : Multiplier). (line_at r m.line ≡ Some n.line)
    × (n.value ≡ m.value)) c.multipliers ns i m m h.multipliers below in
    let line = ap (λ (k : Multiplier). line_at r k.line) is in
    let both = sym at.0 ∙ line ∙ none in
    cc

module _ (f : Option FunctionData) (grid : Option ℕ) where
  -- `Wide` is told of the draft where a number does not fit
  abbrev pub TellsAt : Reached → Draft → Shown → Type 0
  TellsAt r d x = (c : Combination) → IsPlaced r d.combination c →
      IsAgainst f grid r.problem c d.claim Wide → x ≡ shown.Against Wide

  -- ---- what is told of drafts, one after another

  pub tell_push : (r : Reached) (drafts : List Draft) (xs : List Shown) (d : Draft)
      (after : List Draft) (x : Shown) → AreShown f grid r drafts xs →
      TellWide f grid r drafts xs → TellsAt (reach_all r xs) d x →
      TellWide f grid r (drafts ++ d ∷ after) (xs ++ x ∷ [])
  tell_push r [] [] d after x h told tells = (tells, tt)
  tell_push r [] (y ∷ xs) d after x h told tells = absurd h
  tell_push r (e ∷ drafts) [] d after x h told tells = absurd h
  tell_push r (e ∷ drafts) (y ∷ xs) d after x h told tells =
      (told.0, tell_push (reach r y) drafts xs d after x h.2 told.1 tells)

  pub tell_longer : (r : Reached) (drafts : List Draft) (xs : List Shown) (after : List Draft) →
      TellWide f grid r drafts xs → TellWide f grid r (drafts ++ after) xs
  tell_longer r drafts [] after told = tt
  tell_longer r [] (x ∷ xs) after told = absurd told
  tell_longer r (d ∷ drafts) (x ∷ xs) after told =
      (told.0, tell_longer (reach r x) drafts xs after told.1)

  tell_front : (r : Reached) (before : List Draft) (xs : List Shown) (after : List Draft)
      (zs : List Shown) → AreShown f grid r before xs →
      TellWide f grid r (before ++ after) (xs ++ zs) → TellWide f grid r before xs
  tell_front r [] [] after zs h told = tt
  tell_front r [] (y ∷ xs) after zs h told = absurd h
  tell_front r (e ∷ before) [] after zs h told = absurd h
  tell_front r (e ∷ before) (y ∷ xs) after zs h told =
      (told.0, tell_front (reach r y) before xs after zs h.2 told.1)

  tell_at : (r : Reached) (before : List Draft) (xs : List Shown) (d : Draft)
      (after : List Draft) (x : Shown) (zs : List Shown) → AreShown f grid r before xs →
      TellWide f grid r (before ++ d ∷ after) (xs ++ x ∷ zs) → TellsAt (reach_all r xs) d x
  tell_at r [] [] d after x zs h told = told.0
  tell_at r [] (y ∷ xs) d after x zs h told = absurd h
  tell_at r (e ∷ before) [] d after x zs h told = absurd h
  tell_at r (e ∷ before) (y ∷ xs) d after x zs h told =
      tell_at (reach r y) before xs d after x zs h.2 told.1

  -- ---- one draft

  abbrev IsUsableDraft : Draft → Type 0
  IsUsableDraft d = IsUsableFor f d.combination.rule

  one_next : (r : Reached) (d : Draft) (x y : Shown) → IsUsableDraft d → IsNext f grid r d x →
      IsNext f grid r d y → TellsAt r d x → TellsAt r d y → x ≡ y
  one_next r d x y usable (c, placed, h) (e, placed', k) x_tells y_tells =
      let same : e ≡ c = one_placed_combination r d.combination e c placed' placed in
      one_shown_by f grid r.problem c
      (subst (λ (rule : StepRule). IsUsableFor f rule) (sym placed.rule) usable) d.claim x y h
      (subst (λ (a : Combination). IsShownBy f grid r.problem a d.claim y) same k)
      (x_tells c placed) (y_tells c placed)

  one_list : (r : Reached) (drafts : List Draft) (xs ys : List Shown) → All IsUsableDraft drafts →
      AreShown f grid r drafts xs → AreShown f grid r drafts ys → TellWide f grid r drafts xs →
      TellWide f grid r drafts ys → xs ≡ ys
  one_list r [] [] [] usable h k x_told y_told = refl
  one_list r [] [] (y ∷ ys) usable h k x_told y_told = absurd k
  one_list r [] (x ∷ xs) ys usable h k x_told y_told = absurd h
  one_list r (d ∷ drafts) [] ys usable h k x_told y_told = absurd h
  one_list r (d ∷ drafts) (x ∷ xs) [] usable h k x_told y_told = absurd k
  one_list r (d ∷ drafts) (x ∷ xs) (y ∷ ys) usable h k x_told y_told =
      let first : x ≡ y = one_next r d x y (All-head IsUsableDraft d drafts usable) h.0 k.0 x_told.0
      y_told.0 in
      let there = sym first in
      ap₂ (λ (z : Shown) (zs : List Shown). z ∷ zs) first
      (one_list (reach r x) drafts xs ys (All-tail IsUsableDraft d drafts usable) h.2
      (subst (λ (z : Shown). AreShown f grid (reach r z) drafts ys) there k.2) x_told.1
      (subst (λ (z : Shown). TellWide f grid (reach r z) drafts ys) there y_told.1))

  -- ---- a draft that ends them

  -- what the drafts before one, and it, show
  record AreSplit (r : Reached) (before : List Draft) (d : Draft) (zs : List Shown) : Type 0 where
    pub front : List Shown
    pub x : Shown
    pub back : List Shown
    pub place : zs ≡ front ++ x ∷ back
    pub are_shown : AreShown f grid r before front
    pub next : IsNext f grid (reach_all r front) d x
    pub goes : Ends d.claim x → ⊥

  split_shown : (r : Reached) (before : List Draft) (d : Draft) (after : List Draft)
      (zs : List Shown) → AreShown f grid r (before ++ d ∷ after) zs → AreSplit r before d zs
  split_shown r [] d after [] h = absurd h
  split_shown r [] d after (z ∷ zs) h = record {
    front = [];
    x = z;
    back = zs;
    place = refl;
    are_shown = tt;
    next = h.0;
    goes = h.1;
  }
  split_shown r (e ∷ before) d after [] h = absurd h
  split_shown r (e ∷ before) d after (z ∷ zs) h =
      let rest = split_shown (reach r z) before d after zs h.2 in
      record {
        front = z ∷ rest.front;
        x = rest.x;
        back = rest.back;
        place = ap (λ (ws : List Shown). z ∷ ws) rest.place;
        are_shown = (h.0, h.1, rest.are_shown);
        next = rest.next;
        goes = rest.goes;
      }

  -- it names a line that is left out, or its claim is given and has something against it
  abbrev IsEnd : Reached → Draft → Type 0
  IsEnd r d = IsLost r d.combination ⊎ ((v : Verdict) × IsNext f grid r d (shown.Against v)
      × Ends d.claim (shown.Against v) × TellsAt r d (shown.Against v))

  goes_or_ends : (r : Reached) (d : Draft) (x : Shown) → IsUsableDraft d → IsNext f grid r d x →
      (Ends d.claim x → ⊥) → TellsAt r d x → IsEnd r d → ⊥
  goes_or_ends r d x usable next goes tells =
      ⊎_elim
      (λ (lost : IsLost r d.combination). placed_or_lost r d.combination next.0 next.1 lost)
      (λ (end : (v : Verdict) × IsNext f grid r d (shown.Against v)
      × Ends d.claim (shown.Against v) × TellsAt r d (shown.Against v)).
      goes (subst (Ends d.claim) (sym (one_next r d x (shown.Against end.0) usable next end.1 tells
      end.3)) end.2))

  -- the drafts before the i-th, which ends them, show these
  record EndsAt (p : Problem) (drafts : List Draft) (i : ℕ) (xs : List Shown) (d : Draft) : Type 0
    where
      pub before : List Draft
      pub after : List Draft
      pub place : drafts ≡ before ++ d ∷ after
      pub index : i ≡ length before
      pub are_shown : AreShown f grid (begun p) before xs
      pub told : TellWide f grid (begun p) before xs
      pub end : IsEnd (reach_all (begun p) xs) d

  usable_draft : (drafts before : List Draft) (d : Draft) (after : List Draft) → drafts ≡ before ++
      d ∷ after → All IsUsableDraft drafts → All IsUsableDraft before × IsUsableDraft d
  usable_draft drafts before d after place all =
      let split = subst (All IsUsableDraft) place all in (
        All-front IsUsableDraft before (d ∷ after) split,
        All-head IsUsableDraft d after (All-back IsUsableDraft before (d ∷ after) split),
      )

  -- no list goes past such a draft
  past_end : (p : Problem) (drafts : List Draft) (i : ℕ) (xs : List Shown) (d : Draft)
      (h : EndsAt p drafts i xs d) → All IsUsableDraft drafts → (rest : List Draft)
      (zs : List Shown) → AreShown f grid (begun p) (h.before ++ d ∷ rest) zs →
      TellWide f grid (begun p) (h.before ++ d ∷ rest) zs → ⊥
  past_end p drafts i xs d h usable rest zs are_shown told =
      let s = split_shown (begun p) h.before d rest zs are_shown in
      let both = usable_draft drafts h.before d h.after h.place usable in
      let told_split : TellWide f grid (begun p) (h.before ++ d ∷ rest) (s.front ++ s.x ∷ s.back) =
      subst (TellWide f grid (begun p) (h.before ++ d ∷ rest)) s.place told in
      let same : s.front ≡ xs =
      one_list (begun p) h.before s.front xs both.0 s.are_shown h.are_shown
      (tell_front (begun p) h.before s.front (d ∷ rest) (s.x ∷ s.back) s.are_shown told_split)
      h.told in
      goes_or_ends (reach_all (begun p) s.front) d s.x both.1 s.next s.goes
      (tell_at (begun p) h.before s.front d rest s.x s.back s.are_shown told_split)
      (subst (λ (ys : List Shown). IsEnd (reach_all (begun p) ys) d) (sym same) h.end)

  same_end : (p : Problem) (drafts : List Draft) (i j : ℕ) (xs ys : List Shown) (d e : Draft) →
      All IsUsableDraft drafts → EndsAt p drafts i xs d → EndsAt p drafts j ys e →
      (i ≡ j) × (xs ≡ ys) × (d ≡ e)
  same_end p drafts i j xs ys d e usable h k =
      ⊎_elim
      (λ (a : (rest : List Draft) × (h.before ≡ k.before ++ e ∷ rest)).
      absurd (past_end p drafts j ys e k usable a.0 xs
      (subst (λ (ds : List Draft). AreShown f grid (begun p) ds xs) a.1 h.are_shown)
      (subst (λ (ds : List Draft). TellWide f grid (begun p) ds xs) a.1 h.told)))
      (⊎_elim
      (λ (a : (k.before ≡ h.before) × (e ≡ d)). (
        h.index ∙ ap length (sym a.0) ∙ sym k.index,
        one_list (begun p) h.before xs ys (usable_draft drafts h.before d h.after h.place usable).0
            h.are_shown (subst (λ (ds : List Draft). AreShown f grid (begun p) ds ys) a.0
            k.are_shown) h.told (subst (λ (ds : List Draft). TellWide f grid (begun p) ds ys) a.0
            k.told),
        sym a.1,
      ))
      (λ (a : (rest : List Draft) × (k.before ≡ h.before ++ d ∷ rest)).
      absurd (past_end p drafts i xs d h usable a.0 ys
      (subst (λ (ds : List Draft). AreShown f grid (begun p) ds ys) a.1 k.are_shown)
      (subst (λ (ds : List Draft). TellWide f grid (begun p) ds ys) a.1 k.told))))
      (elsewhere h.before k.before h.after k.after d e (sym h.place ∙ k.place))

  -- ---- what is derived

  ends_from : (p : Problem) (drafts : List Draft) (i : ℕ) (xs zs : List Shown) (r : Reached)
      (d : Draft) → IsReached f grid p drafts i xs r d →
      TellWide f grid (begun p) drafts (xs ++ zs) → IsEnd r d → EndsAt p drafts i xs d
  ends_from p drafts i xs zs r d h told end = record {
    before = h.before;
    after = h.after;
    place = h.place;
    index = h.index;
    are_shown = h.are_shown;
    told = tell_front (begun p) h.before xs (d ∷ h.after) zs h.are_shown
        (subst (λ (ds : List Draft). TellWide f grid (begun p) ds (xs ++ zs)) h.place told);
    end = subst (λ (q : Reached). IsEnd q d) h.reached end;
  }

  lost_end : (p : Problem) (drafts : List Draft) (i : ℕ) (xs : List Shown)
      (h : IsDerivedBy f grid p drafts (derived.Lost i xs)) → TellWide f grid (begun p) drafts xs →
      EndsAt p drafts i xs h.1
  lost_end p drafts i xs (r, d, reached, lost) told =
      ends_from p drafts i xs [] r d reached
      (subst (TellWide f grid (begun p) drafts) (sym (append-nil xs)) told) (inl lost)

  failed_tells : (p : Problem) (drafts : List Draft) (failure : Failure) (xs : List Shown)
      (h : IsDerivedBy f grid p drafts (derived.Failed failure xs)) →
      TellWide f grid (begun p) drafts (xs ++ shown.Against failure.verdict ∷ []) →
      TellsAt h.0 h.1 (shown.Against failure.verdict)
  failed_tells p drafts failure xs (r, d, reached, next, ends) told =
      subst (λ (q : Reached). TellsAt q d (shown.Against failure.verdict)) (sym reached.reached)
      (tell_at (begun p) reached.before xs d reached.after (shown.Against failure.verdict) []
      reached.are_shown
      (subst (λ (ds : List Draft). TellWide f grid (begun p) ds
      (xs ++ shown.Against failure.verdict ∷ [])) reached.place told))

  failed_end : (p : Problem) (drafts : List Draft) (failure : Failure) (xs : List Shown)
      (h : IsDerivedBy f grid p drafts (derived.Failed failure xs)) →
      TellWide f grid (begun p) drafts (xs ++ shown.Against failure.verdict ∷ []) →
      EndsAt p drafts failure.step xs h.1
  failed_end p drafts failure xs (r, d, reached, next, ends) told =
      ends_from p drafts failure.step xs (shown.Against failure.verdict ∷ []) r d reached told
      (inr (
        failure.verdict,
        next,
        ends,
        failed_tells p drafts failure xs (r, d, reached, next, ends) told,
      ))

  all_or_end : (p : Problem) (drafts : List Draft) (i : ℕ) (xs zs : List Shown) (d : Draft) →
      All IsUsableDraft drafts → EndsAt p drafts i xs d → AreShown f grid (begun p) drafts zs →
      TellWide f grid (begun p) drafts zs → ⊥
  all_or_end p drafts i xs zs d usable h are_shown told =
      past_end p drafts i xs d h usable h.after zs
      (subst (λ (ds : List Draft). AreShown f grid (begun p) ds zs) h.place are_shown)
      (subst (λ (ds : List Draft). TellWide f grid (begun p) ds zs) h.place told)

  lost_or_failed : (p : Problem) (drafts : List Draft) (i : ℕ) (failure : Failure)
      (xs ys : List Shown) → All IsUsableDraft drafts →
      IsDerivedBy f grid p drafts (derived.Lost i xs) →
      IsDerivedBy f grid p drafts (derived.Failed failure ys) →
      TellWide f grid (begun p) drafts xs →
      TellWide f grid (begun p) drafts (ys ++ shown.Against failure.verdict ∷ []) → ⊥
  lost_or_failed p drafts i failure xs ys usable h k x_told y_told =
      let same = same_end p drafts i failure.step xs ys h.1 k.1 usable
      (lost_end p drafts i xs h x_told) (failed_end p drafts failure ys k y_told) in
      let there : k.0 ≡ h.0 =
      k.2.reached ∙ ap (reach_all (begun p)) (sym same.1) ∙ sym h.2.reached in
      let lost : IsLost k.0 k.1.combination =
      subst₂ (λ (r : Reached) (d : Draft). IsLost r d.combination) (sym there) same.2 h.3 in
      placed_or_lost k.0 k.1.combination k.3.0 k.3.1 lost

  one_failed : (p : Problem) (drafts : List Draft) (a b : Failure) (xs ys : List Shown) →
      All IsUsableDraft drafts → IsDerivedBy f grid p drafts (derived.Failed a xs) →
      IsDerivedBy f grid p drafts (derived.Failed b ys) →
      TellWide f grid (begun p) drafts (xs ++ shown.Against a.verdict ∷ []) →
      TellWide f grid (begun p) drafts (ys ++ shown.Against b.verdict ∷ []) → (a ≡ b) × (xs ≡ ys)
  one_failed p drafts a b xs ys usable h k x_told y_told =
      let same = same_end p drafts a.step b.step xs ys h.1 k.1 usable
      (failed_end p drafts a xs h x_told) (failed_end p drafts b ys k y_told) in
      let there : k.0 ≡ h.0 =
      k.2.reached ∙ ap (reach_all (begun p)) (sym same.1) ∙ sym h.2.reached in
      let w = shown.Against b.verdict in
      let against : shown.Against a.verdict ≡ w =
      one_next h.0 h.1 (shown.Against a.verdict) w
      (usable_draft drafts h.2.before h.1 h.2.after h.2.place usable).1 h.3
      (subst₂ (λ (r : Reached) (d : Draft). IsNext f grid r d w) there (sym same.2) k.3)
      (failed_tells p drafts a xs h x_told)
      (subst₂ (λ (r : Reached) (d : Draft). TellsAt r d w) there (sym same.2)
      (failed_tells p drafts b ys k y_told)) in
      let verdict : a.verdict ≡ b.verdict = cc in (
        ap₂ (λ (i : ℕ) (v : Verdict). record { step = i; verdict = v }) same.0 verdict,
        same.1,
      )

  pub one_derivation : (p : Problem) (drafts : List Draft) (d e : Derived) →
      All (λ (draft : Draft). IsUsableFor f draft.combination.rule) drafts →
      IsDerivedBy f grid p drafts d → IsDerivedBy f grid p drafts e →
      TellWide f grid (begun p) drafts (told_by d) → TellWide f grid (begun p) drafts (told_by e) →
      d ≡ e
  one_derivation p drafts (derived.All xs) (derived.All ys) usable h k x_told y_told =
      ap (λ (zs : List Shown). derived.All zs)
      (one_list (begun p) drafts xs ys usable h k x_told y_told)
  one_derivation p drafts (derived.All xs) (derived.Lost j ys) usable h k x_told y_told =
      absurd (all_or_end p drafts j ys xs k.1 usable (lost_end p drafts j ys k y_told) h x_told)
  one_derivation p drafts (derived.All xs) (derived.Failed b ys) usable h k x_told y_told =
      absurd (all_or_end p drafts b.step ys xs k.1 usable (failed_end p drafts b ys k y_told) h
      x_told)
  one_derivation p drafts (derived.Lost i xs) (derived.All ys) usable h k x_told y_told =
      absurd (all_or_end p drafts i xs ys h.1 usable (lost_end p drafts i xs h x_told) k y_told)
  one_derivation p drafts (derived.Lost i xs) (derived.Lost j ys) usable h k x_told y_told =
      let same = same_end p drafts i j xs ys h.1 k.1 usable (lost_end p drafts i xs h x_told)
      (lost_end p drafts j ys k y_told) in
      ap₂ (λ (n : ℕ) (zs : List Shown). derived.Lost n zs) same.0 same.1
  one_derivation p drafts (derived.Lost i xs) (derived.Failed b ys) usable h k x_told y_told =
      absurd (lost_or_failed p drafts i b xs ys usable h k x_told y_told)
  one_derivation p drafts (derived.Failed a xs) (derived.All ys) usable h k x_told y_told =
      absurd (all_or_end p drafts a.step xs ys h.1 usable (failed_end p drafts a xs h x_told) k
      y_told)
  one_derivation p drafts (derived.Failed a xs) (derived.Lost j ys) usable h k x_told y_told =
      absurd (lost_or_failed p drafts j a ys xs usable k h y_told x_told)
  one_derivation p drafts (derived.Failed a xs) (derived.Failed b ys) usable h k x_told y_told =
      let same = one_failed p drafts a b xs ys usable h k x_told y_told in
      ap₂ (λ (x : Failure) (zs : List Shown). derived.Failed x zs) same.0 same.1
