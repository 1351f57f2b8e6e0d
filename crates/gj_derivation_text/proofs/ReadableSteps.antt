-- Each step that a text tells is readable.
use Rattle.std.proofs.Common.{◌≡◌, ◌⊎◌, inl, inr, ℕ, ◌+◌, ◌<◌, ◌≤◌, pos, ◌<ℤ◌, Bool, true, false, IsTrue, Option, Some, None, IsSome, IfSome, List, [], ◌∷◌, ◌++◌, All, Contains, map, length, length-append, codes, refl, sym, ap, subst, ◌∙◌, arith}
use Rattle.std.proofs.lemmas.Bool.{false≢true}
use Rattle.std.proofs.lemmas.Int.{ints}
use Rattle.std.proofs.lemmas.List.{map-append}
use Rattle.std.proofs.lemmas.List.Elements.{All-push}
use Rattle.gj_frac.specs.Fraction.{numerator}
use Rattle.gj_frac.specs.declared.Frac.{Frac}
use Rattle.gj_frac.proofs.SameValues.{same_from_is}
use Rattle.gj_lex.specs.Name.{IsName}
use Rattle.gj_forms.proofs.WholeNumbers.{whole}
use Rattle.gj_forms.specs.Parts.{ReadsInTurn}
use Rattle.gj_forms.specs.Parts.ReadsInTurn.{last, onward}
use Rattle.gj_shape.specs.FunctionData.{FunctionData}
use Rattle.gj_problem.specs.declared.problem.Entry.{Entry}
use Rattle.gj_derivation.specs.declared.draft.Claim.{Claim}
use Rattle.gj_derivation.specs.declared.draft.Draft.{Draft}
use Rattle.gj_derivation.specs.declared.step.Multiplier.{Multiplier}
use Rattle.gj_derivation.specs.declared.step.StepRule.{StepRule}
use Rattle.gj_derivation.specs.declared.step.StepRule.TheVariants.{Linear, Function}
use Rattle.gj_problem_text.specs.CutText.{AreNames}
use Rattle.gj_problem_text.specs.declared.task.Task.{Task}
use Rattle.gj_derivation_text.specs.StepLines.{StepLine, by, upper, times, claim, term, HasStepLine}
use Rattle.gj_derivation_text.specs.OpenSteps.{index_in, begun, lines_named, columns_claimed, Adds, IsFactor, claim_of, IsDraftOf, next_of_step}
use Rattle.gj_derivation_text.specs.DerivationText.{most_steps, names_of, step_part, next_step}
use Rattle.gj_derivation_text.specs.DerivationInputs.{as_draft, HasGivenClaim}
use Rattle.gj_derivation_text.specs.Readable.{AreIndices, IsReadable, AreReadableTerms, IsReadableClaim, IsReadableDraft, AreReadableDrafts}
use Rattle.gj_derivation_text.specs.declared.drafts.Drafts.{Drafts}
use Rattle.gj_derivation_text.specs.declared.names.Names.{Names}
use Rattle.gj_derivation_text.specs.declared.open.OpenStep.{OpenStep}
use Rattle.gj_derivation_text.proofs.NamesTold.{index_below, one_more_index, one_more_name}

-- ---- one step

-- what holds of a step of which some lines are told
record IsOpenReadable (c : Names) (r : StepRule) (s : OpenStep) : Type 0 where
  is_by : s.rule ≡ r
  multipliers : AreIndices (length c.lines) (lines_named s)
  at_upper : AreIndices (length c.columns) s.at_upper
  none_turned : s.rule ≡ Linear → s.at_upper ≡ []
  entries : AreIndices (length c.columns) (columns_claimed s)
  factor : IfSome s.factor (λ x. pos 0 <ℤ numerator x)
  right : c.drafts ≡ false → s.is_claimed ≡ true → (x : Frac) × (s.right ≡ Some x)

abbrev line_of : Multiplier → ℕ
line_of m = m.line

abbrev column_of : Entry → ℕ
column_of e = e.column

some_or_none : (right : Option Frac) → (right ≡ None → ⊥) → (x : Frac) × (right ≡ Some x)
some_or_none (Some x) some = (x, refl)
some_or_none None some = absurd (some refl)

begun_readable : (c : Names) (r : StepRule) → IsOpenReadable c r (begun r)
begun_readable c r = record {
  is_by = refl;
  multipliers = tt;
  at_upper = tt;
  none_turned = λ e. refl;
  entries = tt;
  factor = tt;
  right = λ e is. absurd (false≢true is);
}

adds_readable : (c : Names) (r : StepRule) (s : OpenStep) (line : StepLine) (t : OpenStep) →
    HasStepLine line → Adds c s line t →
    IsOpenReadable c r s → IsOpenReadable c r t
adds_readable c r s (by name value) t has (before, i, new, is) h =
    let m : Multiplier = record { line = i; value = value } in
    subst (IsOpenReadable c r) (sym is) (record {
      is_by = h.is_by;
      multipliers = subst (AreIndices (length c.lines))
          (sym (map-append line_of s.multipliers (m ∷ [])))
          (one_more_index (length c.lines) [] (lines_named s) i h.multipliers
          (index_below c.lines name i new.0) new.1);
      at_upper = h.at_upper;
      none_turned = h.none_turned;
      entries = h.entries;
      factor = h.factor;
      right = h.right;
    })
adds_readable c r s (upper name) t has (takes, j, new, is) h =
    subst (IsOpenReadable c r) (sym is) (record {
      is_by = h.is_by;
      multipliers = h.multipliers;
      at_upper = one_more_index (length c.columns) [] s.at_upper j h.at_upper
          (index_below c.columns name j new.0) new.1;
      none_turned = λ linear. absurd (takes.1 linear);
      entries = h.entries;
      factor = h.factor;
      right = h.right;
    })
adds_readable c r s (times factor) t has (takes, is) h =
    subst (IsOpenReadable c r) (sym is) (record {
      is_by = h.is_by;
      multipliers = h.multipliers;
      at_upper = h.at_upper;
      none_turned = h.none_turned;
      entries = h.entries;
      factor = has;
      right = h.right;
    })
adds_readable c r s (claim word) t has (before, right, spelled, is) h =
    subst (IsOpenReadable c r) (sym is) (record {
      is_by = h.is_by;
      multipliers = h.multipliers;
      at_upper = h.at_upper;
      none_turned = h.none_turned;
      entries = h.entries;
      factor = h.factor;
      right = λ off on. some_or_none right (λ none. false≢true (sym off ∙ spelled.1 none));
    })
adds_readable c r s (term name value) t has (before, j, new, is) h =
    let e : Entry = record { column = j; value = value } in
    subst (IsOpenReadable c r) (sym is) (record {
      is_by = h.is_by;
      multipliers = h.multipliers;
      at_upper = h.at_upper;
      none_turned = h.none_turned;
      entries = subst (AreIndices (length c.columns))
          (sym (map-append column_of s.entries (e ∷ [])))
          (one_more_index (length c.columns) [] (columns_claimed s) j h.entries
          (index_below c.columns name j new.0) new.1);
      factor = h.factor;
      right = h.right;
    })

-- ---- all lines of a step

same_draft : (d e : Draft) → ◌≡◌ {A = OpenStep ⊎ Draft} (inr d) (inr e) → d ≡ e
same_draft d e is = cc

same_open : (s t : OpenStep) → ◌≡◌ {A = OpenStep ⊎ Draft} (inl s) (inl t) → s ≡ t
same_open s t is = cc

not_open : (d : Draft) (t : OpenStep) → ◌≡◌ {A = OpenStep ⊎ Draft} (inr d) (inl t) → ⊥
not_open d t is = cc

-- the draft is that of a step of which all lines are told
abbrev IsTold : Names → StepRule → Draft → Type 0
IsTold c r d = (s : OpenStep) × IsOpenReadable c r s × IsDraftOf s d
    × (IsTrue c.drafts ⊎ IsTrue s.is_claimed)

told_in_turn : (c : Names) (r : StepRule) (d : Draft) (rest : List ℕ) (s : OpenStep)
    (text : List ℕ) →
    ReadsInTurn (λ t. (next_of_step c t).Reads) d rest s text → IsOpenReadable c r s → IsTold c r d
told_in_turn c r d rest s text (last _ _ (inl (here, (u, reads, (draft, is, same))))) h =
    (s, h, subst (IsDraftOf s) (sym (same_draft d draft same)) is, here.0)
told_in_turn c r d rest s text (last _ _ (inr (not, (t, one, same)))) h = absurd (not_open d t same)
told_in_turn c r d rest s text
    (onward _ _ next middle (inl (here, (u, reads, (draft, is, same)))) more) h =
    absurd (not_open draft next (sym same))
told_in_turn c r d rest s text
    (onward _ _ next middle (inr (not, (t, (start, words, line, (told, spelled, adds)), same)))
    more) h =
    told_in_turn c r d rest next middle more
    (subst (IsOpenReadable c r) (sym (same_open next t same))
    (adds_readable c r s told t spelled.1 adds h))

-- ---- its draft

one : Frac
one = whole (pos 1) (omega (arith, ints))

factor_positive : (told : Option Frac) (x : Frac) → IfSome told (λ y. pos 0 <ℤ numerator y) →
    IsFactor told x → pos 0 <ℤ numerator x
unfolding one
factor_positive None x h is =
    let same = same_from_is x one (pos 1) (pos 1) (λ z. omega arith) is refl in
    subst (λ (y : Frac). pos 0 <ℤ numerator y) (sym same) (omega (arith, ints))
factor_positive (Some y) x h is = subst (λ (z : Frac). pos 0 <ℤ numerator z) (sym is) h

readable_claim : (n : ℕ) (is_claimed : Bool) (right : Option Frac) (entries : List Entry) →
    AreReadableTerms n entries →
    IsReadableClaim n (claim_of is_claimed right entries)
readable_claim n false right entries h = tt
readable_claim n true None entries h = h
readable_claim n true (Some r) entries h = h

told_is_readable : (f : Option FunctionData) (c : Names) (r : StepRule) (d : Draft) →
    (r ≡ Function → IsSome f) → IsTold c r d →
    IsReadableDraft f (length c.columns) (length c.lines) d
told_is_readable f c r d has (s, h, (factor, is_factor, is), ended) =
    subst (IsReadableDraft f (length c.columns) (length c.lines)) (sym is) (record {
      combination = record {
        factor = factor_positive s.factor factor h.factor is_factor;
        function = λ e. has (sym h.is_by ∙ e);
        multipliers = h.multipliers;
        at_upper = h.at_upper;
        none_turned = h.none_turned;
      };
      claim = readable_claim (length c.columns) s.is_claimed s.right s.entries h.entries;
    })

-- without drafts the claim is given
given : (c : Names) (s : OpenStep) → c.drafts ≡ false → IsTrue c.drafts ⊎ IsTrue s.is_claimed →
    IsTrue s.is_claimed
given c s off (inl on) = absurd (false≢true (sym off ∙ on))
given c s off (inr is) = is

told_is_given : (c : Names) (r : StepRule) (d : Draft) → c.drafts ≡ false → IsTold c r d →
    HasGivenClaim d
told_is_given c r d off (s, h, (factor, is_factor, is), ended) =
    let claimed = given c s off ended in
    let (right, right_is) = h.right off claimed in (
      record {
        combination = record {
          «rule» = s.rule;
          multipliers = s.multipliers;
          at_upper =
              s.at_upper;
          factor = factor;
        };
        claim = record { entries = s.entries; right = right };
      },
      is ∙ (λ i. record {
        combination = record {
          «rule» = s.rule;
          multipliers = s.multipliers;
          at_upper =
              s.at_upper;
          factor = factor;
        };
        claim = claim_of (claimed i) (right_is i) s.entries;
      }),
    )

-- ---- all steps

drafts_more : (f : Option FunctionData) (columns n : ℕ) (drafts : List Draft) (d : Draft) →
    AreReadableDrafts f columns n drafts →
    IsReadableDraft f columns (n + length drafts) d →
    AreReadableDrafts f columns n (drafts ++ d ∷ [])
drafts_more f columns n [] d h is =
    let same : n + length {A = Draft} [] ≡ n = omega arith in
    (subst (λ (m : ℕ). IsReadableDraft f columns m d) same is, tt)
drafts_more f columns n (e ∷ drafts) d h is =
    let same : n + length (e ∷ drafts) ≡ (n + 1) + length drafts = omega arith in (
      h.0,
      drafts_more f columns (n + 1) drafts d h.1
          (subst (λ (m : ℕ). IsReadableDraft f columns m d) same is),
    )

-- what holds of drafts whose problem is that of the task
pub record AreSteps (f : Option FunctionData) (drafts : Bool) (task : Task) (n : ℕ) (s : Drafts) :
    Type 0 where
  pub same_task : s.task ≡ task
  pub names : AreNames s.lines
  pub count : length s.lines ≡ n + length s.steps
  pub few : length s.steps ≤ most_steps
  pub readable : AreReadableDrafts f (length task.names) n s.steps
  pub left : length s.left ≡ length s.steps
  pub given : drafts ≡ false → All HasGivenClaim s.steps

module _ (f : Option FunctionData) (drafts has_function : Bool) (task : Task) (n : ℕ)
    (has : IsTrue has_function → IsSome f) where
  step_readable : (s t : Drafts) (text rest : List ℕ) →
      (step_part drafts has_function s).Reads text t rest → AreSteps f drafts task n s →
      AreSteps f drafts task n t
  step_readable s t text rest
      (p, middle, (start, words, line, (head, spelled, begins), left), (d, lines, is)) h =
      let c = names_of drafts s in
      let rule = p.0.1.0 in
      let same = begins.3 in
      let told = told_in_turn c rule d rest (begun rule) middle lines (begun_readable c rule) in
      let is_name : IsName p.0.0 = subst (λ (k : _). IsName k.0) (sym same) spelled.1.0 in
      let none = subst (λ (k : _). index_in s.lines k.0 ≡ None) (sym same) begins.2 in
      let needs : rule ≡ Function →
      IsSome f = λ e. has (begins.0 (sym (ap (λ (k : _). k.1.0) same) ∙ e)) in
      let readable = told_is_readable f c rule d needs told in
      subst (AreSteps f drafts task n) (sym is) (record {
        same_task = h.same_task;
        names = one_more_name s.lines p.0.0 h.names is_name none;
        count = omega (
          arith,
          length-append s.lines (p.0.0 ∷ []),
          length-append s.steps
              (d ∷ []),
          h.count,
        );
        few = omega (arith, length-append s.steps (d ∷ []), begins.1);
        readable = drafts_more f (length task.names) n s.steps d h.readable
            (subst (λ (m : ℕ). IsReadableDraft f (length task.names) m d) h.count
            (subst (λ (u : Task). IsReadableDraft f (length u.names) (length s.lines) d) h.same_task
            readable));
        left = omega (
          arith,
          length-append s.left (p.1 ∷ []),
          length-append s.steps
              (d ∷ []),
          h.left,
        );
        given = λ off. All-push HasGivenClaim s.steps d (h.given off)
            (told_is_given c rule d off told);
      })

  same_end : (s t : Drafts) → ◌≡◌ {A = Drafts ⊎ Drafts} (inr t) (inr s) → t ≡ s
  same_end s t e = cc

  same_next : (s t : Drafts) → ◌≡◌ {A = Drafts ⊎ Drafts} (inl t) (inl s) → t ≡ s
  same_next s t e = cc

  apart : (s t : Drafts) → ◌≡◌ {A = Drafts ⊎ Drafts} (inl t) (inr s) → ⊥
  apart s t e = cc

  pub steps_readable : (t : Drafts) (rest : List ℕ) (s : Drafts) (text : List ℕ) →
      ReadsInTurn (λ u. (next_step drafts has_function u).Reads) t rest s text →
      AreSteps f drafts task n s → AreSteps f drafts task n t
  steps_readable t rest s text (last _ _ (inl (ends, (u, reads, same)))) h =
      subst (AreSteps f drafts task n) (sym (same_end s t same)) h
  steps_readable t rest s text (last _ _ (inr (not, (u, reads, same)))) h =
      absurd (apart t u (sym same))
  steps_readable t rest s text (onward _ _ next middle (inl (ends, (u, reads, same))) more) h =
      absurd (apart s next same)
  steps_readable t rest s text (onward _ _ next middle (inr (not, (u, one, same))) more) h =
      steps_readable t rest next middle more
      (subst (AreSteps f drafts task n) (sym (same_next u next same))
      (step_readable s u text middle one h))
