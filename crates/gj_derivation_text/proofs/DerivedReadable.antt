-- The steps that drafts show can be read: they name columns and the lines before them, each once.
use Rattle.std.proofs.Common.{◌≡◌, ◌≢◌, ◌⊎◌, inl, inr, ℕ, zero, suc, pos, ◌<ℤ◌, ◌+◌, ◌-◌, ◌<◌, ◌≤◌, Bool, true, false, ltb, ltb-true, ltb-false, Option, Some, None, IsSome, List, [], ◌∷◌, ◌++◌, All, Contains, length, map, slice_index_or, append-nil, append_assoc, length-append, refl, sym, ap, subst, ◌∙◌, arith}
use Rattle.std.specs.List.{AllZip, range_with_len}
use Rattle.std.proofs.lemmas.List.{get_or_append_left, get_or-append_right}
use Rattle.std.proofs.lemmas.List.Elements.{All-append, All-tail, Contains-append_left, Contains-push_cases, Contains-push}
use Rattle.gj_lemmas.proofs.Lists.{All-front, All-back}
use Rattle.gj_lex.specs.Name.{IsName}
use Rattle.gj_problem_text.specs.CutText.{name_at, AreNames}
use Rattle.gj_derivation_text.specs.PrintedDerivation.{kept_names}
use Rattle.gj_frac.specs.Fraction.{numerator}
use Rattle.gj_shape.specs.FunctionData.{FunctionData}
use Rattle.gj_problem.specs.Problems.{AreTermsWithin}
use Rattle.gj_problem.specs.declared.problem.Entry.{Entry}
use Rattle.gj_problem.specs.declared.problem.Inequality.{Inequality}
use Rattle.gj_problem.specs.declared.problem.Problem.{Problem}
use Rattle.gj_derivation.specs.Drafts.{begun, reach, line_at, IsPlaced, IsClaimOf, AreShown, steps_of}
use Rattle.gj_derivation.specs.declared.draft.Claim.{Claim}
use Rattle.gj_derivation.specs.declared.draft.Claim.TheVariants.{Absent, Terms, Given}
use Rattle.gj_derivation.specs.declared.draft.Draft.{Draft}
use Rattle.gj_derivation.specs.declared.draft.Reached.{Reached}
use Rattle.gj_derivation.specs.declared.draft.Shown.{Shown}
use Rattle.gj_derivation.specs.declared.draft.Shown.TheVariants as shown
use Rattle.gj_derivation.specs.declared.step.Combination.{Combination}
use Rattle.gj_derivation.specs.declared.step.Multiplier.{Multiplier}
use Rattle.gj_derivation.specs.declared.step.Step.{Step}
use Rattle.gj_derivation.specs.declared.step.StepRule.TheVariants.{Linear, Function}
use Rattle.gj_derivation_text.specs.DerivationInputs.{as_draft}
use Rattle.gj_derivation_text.specs.Readable.{AreNewBelow, AreIndices, IsReadable, AreReadableTerms, IsReadableClaim, IsReadableDraft, AreReadableDrafts}
use Rattle.gj_derivation.proofs.TermsFit.{terms_end}
use Rattle.gj_problem_text.proofs.ExactTasks.{one_some}

-- ---- lines that are reached

-- the line of each draft is a constraint of its own
pub record AreOwn (r : Reached) : Type 0 where
  pub below : (i a : ℕ) → line_at r i ≡ Some a → a < length r.problem.constraints
  pub one : (i j a : ℕ) → line_at r i ≡ Some a → line_at r j ≡ Some a → i ≡ j

counted : (n k i a : ℕ) → slice_index_or (map Some (range_with_len k n)) i None ≡ Some a →
    (a ≡ k + i) × (i < n)
counted zero k i a e = absurd (let no : None ≡ Some a = e in cc)
counted (suc n) k zero a e = (omega (arith, one_some k a e), omega arith)
counted (suc n) k (suc i) a e =
    let (is, below) = counted n (k + 1) i a e in
    (omega (arith, is), omega (arith, below))

own_begun : (p : Problem) → AreOwn (begun p)
own_begun p = record {
  below = λ i a e. let (is, below) = counted (length p.constraints) 0 i a e in
      omega (arith, is, below);
  one = λ i j a e d.
      let (is, below) = counted (length p.constraints) 0 i a e in
      let (same, less) = counted (length p.constraints) 0 j a d in
      omega (arith, is, same);
}

-- one more line is the last, or one of those before
pushed : (xs : List (Option ℕ)) (y : Option ℕ) (i a : ℕ) →
    slice_index_or (xs ++ y ∷ []) i None ≡ Some a →
    (slice_index_or xs i None ≡ Some a) ⊎ ((i ≡ length xs) × (y ≡ Some a))
pushed [] y zero a e = inr (refl, e)
pushed [] y (suc i) a e = absurd (let no : None ≡ Some a = e in cc)
pushed (x ∷ xs) y zero a e = inl e
pushed (x ∷ xs) y (suc i) a e = elim (pushed xs y i a e) [
  | inl h ↦ inl h
  | inr (same, is) ↦ inr (ap suc same, is)
]

own_left_out : (r : Reached) (lines : List (Option ℕ)) → lines ≡ r.lines ++ None ∷ [] → AreOwn r →
    AreOwn (record { problem = r.problem; lines = lines })
own_left_out r lines is h = record {
  below = λ i a e. h.below i a (old i a e);
  one = λ i j a e d. h.one i j a (old i a e) (old j a d);
}
  where
    old : (i a : ℕ) → slice_index_or lines i None ≡ Some a → line_at r i ≡ Some a
    old i a e = elim (pushed r.lines None i a
        (subst (λ (ls : List (Option ℕ)). slice_index_or ls i None ≡ Some a) is e)) [
          | inl s ↦ s
          | inr (same, none) ↦ absurd (cc)
        ]

own_step : (r : Reached) (s : Step) → AreOwn r → AreOwn (reach r (shown.Step s))
own_step r s h = record { below = below; one = one }
  where
    n : ℕ
    n = length r.problem.constraints

    new : Reached
    new = reach r (shown.Step s)

    longer : length new.problem.constraints ≡ n + 1
    longer = length-append r.problem.constraints _

    cases : (i a : ℕ) → line_at new i ≡ Some a →
        (line_at r i ≡ Some a) ⊎ ((i ≡ length r.lines) × (a ≡ n))
    cases i a e = elim (pushed r.lines (Some n) i a e) [
      | inl s ↦ inl s
      | inr (same, is) ↦ inr (same, sym (one_some n a is))
    ]

    below : (i a : ℕ) → line_at new i ≡ Some a → a < length new.problem.constraints
    below i a e = elim (cases i a e) [
      | inl s ↦ omega (arith, longer, h.below i a s)
      | inr (same, is) ↦ omega (arith, longer, is)
    ]

    one : (i j a : ℕ) → line_at new i ≡ Some a → line_at new j ≡ Some a → i ≡ j
    one i j a e d = elim (cases i a e) [
      | inl s ↦ elim (cases j a d) [
        | inl t ↦ h.one i j a s t
        | inr (same, is) ↦ absurd (omega (arith, h.below i a s, is))
      ]
      | inr (same, is) ↦ elim (cases j a d) [
        | inl t ↦ absurd (omega (arith, h.below j a t, is))
        | inr (other, too) ↦ same ∙ sym other
      ]
    ]

-- ---- one step

-- the lines of the problem in the place of lines that are all different are all different
placed_new : (r : Reached) (h : AreOwn r) (n : ℕ) (taken placed : List ℕ)
    (ms ks : List Multiplier) →
    ((a : ℕ) → Contains placed a → (i : ℕ) × Contains taken i × (line_at r i ≡ Some a)) →
    AreNewBelow n taken (map (λ (m : Multiplier). m.line) ms) →
    AllZip (λ (m k : Multiplier). (line_at r m.line ≡ Some k.line) × (k.value ≡ m.value)) ms ks →
    AreNewBelow (length r.problem.constraints) placed (map (λ (m : Multiplier). m.line) ks)
placed_new r h n taken placed [] [] from new at = tt
placed_new r h n taken placed [] (k ∷ ks) from new at = absurd at
placed_new r h n taken placed (m ∷ ms) [] from new at = absurd at
placed_new r h n taken placed (m ∷ ms) (k ∷ ks) from new at = (
  h.below m.line k.line at.0.0,
  λ inside.
      let (i, among, is) = from k.line inside in
      new.1 (subst (Contains taken) (h.one i m.line k.line is at.0.0) among),
  placed_new r h n (taken ++ m.line ∷ []) (placed ++ k.line ∷ []) ms ks more new.2 at.1,
)
  where
    more : (a : ℕ) → Contains (placed ++ k.line ∷ []) a →
        (i : ℕ) × Contains (taken ++ m.line ∷ []) i × (line_at r i ≡ Some a)
    more a inside = elim (Contains-push_cases placed k.line a inside) [
      | inl before ↦ let (i, among, is) = from a before in
          (i, Contains-append_left taken (m.line ∷ []) i among, is)
      | inr same ↦ (m.line, Contains-push taken m.line, at.0.0 ∙ ap Some same)
    ]

none_in : (a : ℕ) → Contains [] a → ⊥
none_in a (k, below, is) = omega (arith, below)

readable_placed : (f : Option FunctionData) (columns n : ℕ) (r : Reached) (c placed : Combination) →
    AreOwn r → IsReadable f columns n c →
    IsPlaced r c placed → IsReadable f columns (length r.problem.constraints) placed
readable_placed f columns n r c placed own h p = record {
  factor = subst (λ x. pos 0 <ℤ numerator x) (sym p.factor) h.factor;
  function = λ asked. h.function (sym p.rule ∙ asked);
  multipliers = placed_new r own n [] [] c.multipliers placed.multipliers
      (λ a inside. absurd (none_in a inside)) h.multipliers p.multipliers;
  at_upper = subst (AreIndices columns) (sym p.at_upper) h.at_upper;
  none_turned = λ linear. p.at_upper ∙ h.none_turned (sym p.rule ∙ linear);
}

ascending_new : (j k : ℕ) (taken : List ℕ) (entries : List Entry) →
    ((a : ℕ) → Contains taken a → a < j) → AreTermsWithin j k entries →
    AreNewBelow k taken (map (λ (e : Entry). e.column) entries)
ascending_new j k taken [] low h = tt
ascending_new j k taken (e ∷ entries) low h = (
  omega (arith, terms_end (e.column + 1) k entries h.2),
  λ inside. absurd (omega (arith, low e.column inside, h.0)),
  ascending_new (e.column + 1) k (taken ++ e.column ∷ []) entries more h.2,
)
  where
    more : (a : ℕ) → Contains (taken ++ e.column ∷ []) a → a < e.column + 1
    more a inside = elim (Contains-push_cases taken e.column a inside) [
      | inl before ↦ omega (arith, low a before, h.0)
      | inr same ↦ omega (arith, same)
    ]

readable_terms : (f : Option FunctionData) (grid : Option ℕ) (p : Problem) (c : Combination)
    (claim : Claim) (q : Inequality) →
    IsReadableClaim (length p.columns) claim → IsClaimOf f grid p c claim q →
    AreReadableTerms (length p.columns) q.entries
readable_terms f grid p c Absent q h (positive, base, is, found) =
    ascending_new 0 (length p.columns) [] q.entries (λ a inside. absurd (none_in a inside)) found.0
readable_terms f grid p c (Terms entries) q h (same, is) =
    subst (AreReadableTerms (length p.columns)) (sym same) h
readable_terms f grid p c (Given claim) q h (same, follows) =
    subst (λ (r : Inequality). AreReadableTerms (length p.columns) r.entries) (sym same) h

-- ---- all steps

pub shown_readable : (f : Option FunctionData) (grid : Option ℕ) (columns n : ℕ) (r : Reached)
    (drafts : List Draft) (xs : List Shown) → AreOwn r →
    columns ≡ length r.problem.columns → AreShown f grid r drafts xs →
    AreReadableDrafts f columns n drafts →
    AreReadableDrafts f columns (length r.problem.constraints) (map as_draft (steps_of xs))
shown_readable f grid columns n r [] [] own same h readable = tt
shown_readable f grid columns n r [] (x ∷ xs) own same h readable = absurd h
shown_readable f grid columns n r (d ∷ drafts) [] own same h readable = absurd h
shown_readable f grid columns n r (d ∷ drafts) (shown.Against v ∷ xs) own same
    (next, goes, more) readable =
    shown_readable f grid columns (n + 1) (reach r (shown.Against v)) drafts xs
    (own_left_out r _ refl own) same more readable.1
shown_readable f grid columns n r (d ∷ drafts) (shown.Step s ∷ xs) own same
    ((c, placed, (is, claim)), goes, more) readable = (
      record {
        combination = subst (IsReadable f columns (length r.problem.constraints)) (sym is)
            (readable_placed f columns n r d.combination c own readable.0.combination placed);
        claim = subst (λ (m : ℕ). AreReadableTerms m s.claim.entries) (sym same)
            (readable_terms f grid r.problem c d.claim s.claim
            (subst (λ (m : ℕ). IsReadableClaim m d.claim) same readable.0.claim) claim);
      },
      subst (λ (m : ℕ). AreReadableDrafts f columns m (map as_draft (steps_of xs)))
          (length-append r.problem.constraints _)
          (shown_readable f grid columns (n + 1) (reach r (shown.Step s)) drafts xs
          (own_step r s own) same more readable.1),
    )

pub shown_count : (f : Option FunctionData) (grid : Option ℕ) (r : Reached) (drafts : List Draft)
    (xs : List Shown) → AreShown f grid r drafts xs →
    length drafts ≡ length xs
shown_count f grid r [] [] h = refl
shown_count f grid r [] (x ∷ xs) h = absurd h
shown_count f grid r (d ∷ drafts) [] h = absurd h
shown_count f grid r (d ∷ drafts) (x ∷ xs) h = ap suc (shown_count f grid (reach r x) drafts xs h.2)

pub derived_readable : (f : Option FunctionData) (grid : Option ℕ) (p : Problem) (columns n : ℕ)
    (drafts : List Draft) (xs : List Shown) →
    columns ≡ length p.columns → AreShown f grid (begun p) drafts xs →
    AreReadableDrafts f columns n drafts →
    AreReadableDrafts f columns (length p.constraints) (map as_draft (steps_of xs))
derived_readable f grid p columns n drafts xs same h readable =
    shown_readable f grid columns n (begun p) drafts xs (own_begun p) same h readable

-- ---- names

-- one name less
without : (front : List (List ℕ)) (name : List ℕ) (back : List (List ℕ)) →
    AreNames (front ++ name ∷ back) → AreNames (front ++ back)
without front name back h = record {
  are = All-append IsName front back (All-front IsName front (name ∷ back) h.are)
      (All-tail IsName name back (All-back IsName front (name ∷ back) h.are));
  different = different;
}
  where
    all : List (List ℕ)
    all = front ++ name ∷ back

    few : List (List ℕ)
    few = front ++ back

    -- the place of a name that is left
    Place : ℕ → ℕ → Type 0
    Place i j = ((i < length front) × (j ≡ i)) ⊎ ((length front ≤ i) × (j ≡ i + 1))

    place : (i : ℕ) → (j : ℕ) × Place i j
    place i = by (ltb i (length front)) refl
      where
        by : (b : Bool) → ltb i (length front) ≡ b → (j : ℕ) × Place i j
        by true is = (i, inl (ltb-true i (length front) is, refl))
        by false is = (i + 1, inr (omega (arith, ltb-false i (length front) is), refl))

    moved : (i j : ℕ) → Place i j → name_at few i ≡ name_at all j
    moved i j (inl (below, is)) =
        get_or_append_left front back [] i below
        ∙ sym (get_or_append_left front (name ∷ back) [] i below) ∙ ap (name_at all) (sym is)
    moved i j (inr (past, is)) =
        let next : suc (i - length front) ≡ i + 1 - length front = omega (arith, past) in
        get_or-append_right front back (length front) i [] refl past
        ∙ ap (λ (k : ℕ). name_at (name ∷ back) k) next
        ∙ sym (get_or-append_right front (name ∷ back) (length front) (i + 1) [] refl
        (omega (arith, past)))
        ∙ ap (name_at all) (sym is)

    within : (i j : ℕ) → Place i j → i < length few → j < length all
    within i j (inl (below, is)) less = omega (arith, is, below, length-append front (name ∷ back))
    within i j (inr (past, is)) less =
        omega (arith, is, less, length-append front back, length-append front (name ∷ back))

    apart : (i j k l : ℕ) → Place i k → Place j l → k ≡ l → i ≡ j
    apart i j k l (inl (below, is)) (inl (less, too)) e = omega (arith, is, too, e)
    apart i j k l (inl (below, is)) (inr (past, too)) e =
        absurd (omega (arith, is, too, e, below, past))
    apart i j k l (inr (past, is)) (inl (less, too)) e =
        absurd (omega (arith, is, too, e, past, less))
    apart i j k l (inr (past, is)) (inr (more, too)) e = omega (arith, is, too, e)

    different : (i j : ℕ) → i < length few → j < length few → name_at few i ≡ name_at few j → i ≡ j
    different i j less below e =
        let (k, p) = place i in
        let (l, q) = place j in
        apart i j k l p q (h.different k l (within i k p less) (within j l q below)
        (sym (moved i k p) ∙ e ∙ moved j l q))

-- those in front alone
front_names : (front back : List (List ℕ)) → AreNames (front ++ back) → AreNames front
front_names front [] h = subst AreNames (append-nil front) h
front_names front (name ∷ back) h = front_names front back (without front name back h)

pub kept_are_names : (front names : List (List ℕ)) (xs : List Shown) → AreNames (front ++ names) →
    AreNames (front ++ kept_names names xs)
kept_are_names front [] [] h = h
kept_are_names front [] (x ∷ xs) h = h
kept_are_names front (name ∷ names) [] h =
    subst AreNames (sym (append-nil front)) (front_names front (name ∷ names) h)
kept_are_names front (name ∷ names) (shown.Step s ∷ xs) h =
    subst AreNames (append_assoc front (name ∷ []) (kept_names names xs))
    (kept_are_names (front ++ name ∷ []) names xs
    (subst AreNames (sym (append_assoc front (name ∷ []) names)) h))
kept_are_names front (name ∷ names) (shown.Against v ∷ xs) h =
    kept_are_names front names xs (without front name names h)

pub kept_count : (names : List (List ℕ)) (xs : List Shown) → length names ≡ length xs →
    length (kept_names names xs) ≡ length (steps_of xs)
kept_count [] [] e = refl
kept_count [] (x ∷ xs) e = absurd (omega (arith, e))
kept_count (name ∷ names) [] e = absurd (omega (arith, e))
kept_count (name ∷ names) (shown.Step s ∷ xs) e = ap suc (kept_count names xs (omega (arith, e)))
kept_count (name ∷ names) (shown.Against v ∷ xs) e = kept_count names xs (omega (arith, e))

pub steps_few : (xs : List Shown) → length (steps_of xs) ≤ length xs
steps_few [] = omega arith
steps_few (shown.Step s ∷ xs) = omega (arith, steps_few xs)
steps_few (shown.Against v ∷ xs) = omega (arith, steps_few xs)
