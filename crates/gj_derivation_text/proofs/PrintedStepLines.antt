-- The lines of a step as they are printed are read as the step.
use Rattle.std.proofs.Common.{◌≡◌, ◌≢◌, ◌<◌, inl, inr, ℕ, ℤ, pos, ◌*ℤ◌, ◌<ℤ◌, Bool, true, false}
use Rattle.std.proofs.Common.{IsTrue, if◌then◌else◌, ◌&&◌, Option, Some, None, List, [], ◌∷◌, ◌++◌}
use Rattle.std.proofs.Common.{map, length, get_or, codes, append-nil, append_assoc, length-append}
use Rattle.std.proofs.Common.{refl, sym, ap, subst, ◌∙◌, arith}
use Rattle.std.specs.Ordering.{int_eq}
use Rattle.std.proofs.lemmas.Bool.Decides.{Decides-int_eq}
use Rattle.std.proofs.lemmas.List.{map-append, get_or_append_left}
use Rattle.gj_lemmas.proofs.Lists.{All-front}
use Rattle.gj_frac.specs.Fraction.{IsRatio, numerator, denominator}
use Rattle.gj_frac.specs.declared.Frac.{Frac}
use Rattle.gj_lex.specs.Name.{IsName}
use Rattle.gj_lex.specs.declared.spelling.Spelling.TheVariants.{Lenient}
use Rattle.gj_lex.proofs.SpelledWords.{fraction_is_plain}
use Rattle.gj_forms.specs.LineForms.{words_of, first_of, line_of}
use Rattle.gj_forms.specs.Parts.{ReadsInTurn}
use Rattle.gj_forms.specs.Parts.ReadsInTurn.{last, onward}
use Rattle.gj_forms.specs.TextLines.{HasLine}
use Rattle.gj_forms.proofs.FieldWords.{AreGood}
use Rattle.gj_forms.proofs.PlainWords.{known, name_is_plain, are_same, apart}
use Rattle.gj_forms.proofs.SpelledLines.{has_its_line}
use Rattle.gj_forms.proofs.WhereLaws.{other_word}
use Rattle.gj_shape.specs.FunctionData.{FunctionData}
use Rattle.gj_problem.specs.declared.problem.Entry.{Entry}
use Rattle.gj_problem.specs.declared.problem.Inequality.{Inequality}
use Rattle.gj_problem_text.specs.CutText.{name_at, AreNames}
use Rattle.gj_problem_text.proofs.NumberLines.{tells_its_thing}
use Rattle.gj_problem_text.proofs.PrintedTasks.{own_place, name_at_is, bound_is_spelled}
use Rattle.gj_derivation.specs.declared.draft.Draft.{Draft}
use Rattle.gj_derivation.specs.declared.step.Multiplier.{Multiplier}
use Rattle.gj_derivation.specs.declared.step.Step.{Step}
use Rattle.gj_derivation.specs.declared.step.StepRule.TheVariants.{Linear}
use Rattle.gj_derivation_text.specs.DerivationInputs.{as_draft}
use Rattle.gj_derivation_text.specs.OpenSteps.{index_in, begun, lines_named, columns_claimed, Adds}
use Rattle.gj_derivation_text.specs.OpenSteps.{IsFactor, IsDraftOf, StepsGoOn, next_of_step}
use Rattle.gj_derivation_text.specs.OpenSteps.{lines_of_step}
use Rattle.gj_derivation_text.specs.PrintedDerivation.{by_told, upper_told, term_told, is_one}
use Rattle.gj_derivation_text.specs.PrintedDerivation.{factor_told, combination_told, claim_told}
use Rattle.gj_derivation_text.specs.PrintedDerivation.{step_told, printed_lines}
use Rattle.gj_derivation_text.specs.Readable.{AreNewBelow, AreReadableTerms, IsReadable}
use Rattle.gj_derivation_text.specs.StepLines.{StepLine, by, upper, times, claim, term, line_fields}
use Rattle.gj_derivation_text.specs.StepLines.{HasStepLine, line_form}
use Rattle.gj_derivation_text.specs.declared.names.Names.{Names}
use Rattle.gj_derivation_text.specs.declared.open.OpenStep.{OpenStep}

-- ---- one line

other_first : (l : StepLine) (w : List ℕ) → are_same (codes "by") w ≡ false →
    are_same (codes "upper") w ≡ false →
    are_same (codes "times") w ≡ false → are_same (codes "claim") w ≡ false →
    are_same (codes "term") w ≡ false →
    first_of (words_of (line_fields l)) ≡ w → ⊥
other_first (by name value) w a b c d e is = apart (codes "by") w a is
other_first (upper name) w a b c d e is = apart (codes "upper") w b is
other_first (times factor) w a b c d e is = apart (codes "times") w c is
other_first (claim right) w a b c d e is = apart (codes "claim") w d is
other_first (term name value) w a b c d e is = apart (codes "term") w e is

no_comment : (l : StepLine) → get_or (first_of (words_of (line_fields l))) 0 0 ≢ 35
no_comment (by name value) = λ is. omega arith
no_comment (upper name) = λ is. omega arith
no_comment (times factor) = λ is. omega arith
no_comment (claim right) = λ is. omega arith
no_comment (term name value) = λ is. omega arith

no_step : (l : StepLine) (text rest : List ℕ) →
    HasLine Lenient text text (words_of (line_fields l)) rest → StepsGoOn text → ⊥
no_step l text rest line (inl begins) =
    other_word Lenient text text (words_of (line_fields l)) (codes "step") rest line
    (λ more e. other_first l (codes "step") refl refl refl refl refl (ap first_of e)) begins
no_step l text rest line (inr begins) =
    other_word Lenient text text (words_of (line_fields l)) (codes "end") rest line
    (λ more e. other_first l (codes "end") refl refl refl refl refl (ap first_of e)) begins

-- the words of the line are plain, and a factor is above 0
abbrev IsPrintedLine : StepLine → Type 0
IsPrintedLine l = AreGood (line_fields l) × HasStepLine l

line_is_read : (c : Names) (s u : OpenStep) (l : StepLine) (text rest : List ℕ) → IsPrintedLine l →
    Adds c s l u → text ≡ line_of line_form l ++ rest → (next_of_step c s).Reads text (inl u) rest
line_is_read c s u l text rest (good, has) adds is =
    let words = words_of (line_fields l) in
    let found = has_its_line Lenient (line_fields l) text rest good (no_comment l) is in
    let told = tells_its_thing line_form l good has in
    inr (λ h. no_step l text rest found h.1, (u, (text, words, found, (l, told, adds)), refl))

-- ---- one line after another

-- the lines make of the step s the step t
abbrev AddsAll : Names → OpenStep → List StepLine → OpenStep → Type 0
AddsAll c s [] t = s ≡ t
AddsAll c s (l ∷ ls) t = (u : OpenStep) × IsPrintedLine l × Adds c s l u × AddsAll c u ls t

adds_behind : (c : Names) (s u t : OpenStep) (ls ms : List StepLine) → AddsAll c s ls u →
    AddsAll c u ms t → AddsAll c s (ls ++ ms) t
adds_behind c s u t [] ms same h = subst (λ (v : OpenStep). AddsAll c v ms t) (sym same) h
adds_behind c s u t (l ∷ ls) ms (v, good, one, more) h =
    (v, good, one, adds_behind c v u t ls ms more h)

lines_are_read : (c : Names) (s t : OpenStep) (ls : List StepLine) (draft : Draft)
    (text rest : List ℕ) → AddsAll c s ls t → IsDraftOf t draft →
    IsTrue t.is_claimed → StepsGoOn rest → text ≡ printed_lines ls ++ rest →
    ReadsInTurn (λ u. (next_of_step c u).Reads) draft rest s text
lines_are_read c s t [] draft text rest same made claimed on is =
    let back = sym same in
    let ends = subst (λ (v : OpenStep). IsTrue v.is_claimed) back claimed in
    last s text (inl (
      (inr ends, subst StepsGoOn (sym is) on),
      (tt, (refl, is), (draft, subst (λ (v : OpenStep). IsDraftOf v draft) back made, refl)),
    ))
lines_are_read c s t (l ∷ ls) draft text rest (u, good, adds, more) made claimed on is =
    let behind = printed_lines ls ++ rest in
    onward s text u behind
    (line_is_read c s u l text behind good adds
    (is ∙ append_assoc (line_of line_form l) (printed_lines ls) rest))
    (lines_are_read c u t ls draft behind rest more made claimed on refl)

-- ---- names

-- names that are the first of such
pub names_before : (before behind : List (List ℕ)) → AreNames (before ++ behind) → AreNames before
names_before before behind h = record {
  are = All-front IsName before behind h.are;
  different = λ i j p q e.
      h.different i j (omega (arith, p, length-append before behind))
      (omega (arith, q, length-append before behind))
      (get_or_append_left before behind [] i p ∙ e ∙ sym (get_or_append_left before behind [] j q));
}

-- one of them has its own place among them
place_before : (all before behind : List (List ℕ)) (i : ℕ) → all ≡ before ++ behind → AreNames all →
    i < length before →
    (index_in before (name_at all i) ≡ Some i) × IsName (name_at all i)
place_before all before behind i is are below =
    let first = names_before before behind (subst AreNames is are) in
    let same : name_at all i ≡ name_at before i =
    ap (λ (names : List (List ℕ)). name_at names i) is
    ∙ get_or_append_left before behind [] i below in (
      subst (λ (name : List ℕ). index_in before name ≡ Some i) (sym same)
          (own_place before i first below),
      subst IsName (sym same) (name_at_is before i first below),
    )

-- ---- what is added up

abbrev with_multipliers : OpenStep → List Multiplier → OpenStep
with_multipliers s multipliers = record s { multipliers = s.multipliers ++ multipliers }

adds_multipliers : (c : Names) (lines behind : List (List ℕ)) (s : OpenStep)
    (multipliers : List Multiplier) → lines ≡ c.lines ++ behind →
    AreNames lines → s.is_claimed ≡ false →
    AreNewBelow (length c.lines) (lines_named s)
    (map (λ (m : Multiplier). m.line) multipliers) →
    AddsAll c s (map (by_told lines) multipliers) (with_multipliers s multipliers)
adds_multipliers c lines behind s [] is are off h =
    λ i. record s { multipliers = sym (append-nil s.multipliers) i }
adds_multipliers c lines behind s (m ∷ multipliers) is are off (below, new, h) =
    let next = with_multipliers s (m ∷ []) in
    let place = place_before lines c.lines behind m.line is are below in
    let indices = map (λ (n : Multiplier). n.line) multipliers in
    let taken = map-append (λ (n : Multiplier). n.line) s.multipliers (m ∷ []) in
    let more = adds_multipliers c lines behind next multipliers is are off
    (subst (λ (named : List ℕ). AreNewBelow (length c.lines) named indices) (sym taken) h) in
    let joined = append_assoc s.multipliers (m ∷ []) multipliers in
    let same : with_multipliers next multipliers ≡ with_multipliers s (m ∷ multipliers) =
    λ i. record s { multipliers = joined i } in (
      next,
      ((known (codes "by") refl, (name_is_plain (name_at lines m.line) place.1, tt)), place.1),
      (off, m.line, (place.0, new), refl),
      subst (AddsAll c next (map (by_told lines) multipliers)) same more,
    )

abbrev with_turned : OpenStep → List ℕ → OpenStep
with_turned s turned = record s { at_upper = s.at_upper ++ turned }

adds_turned : (c : Names) (s : OpenStep) (turned : List ℕ) → AreNames c.columns →
    s.is_claimed ≡ false → (s.rule ≡ Linear → turned ≡ []) →
    AreNewBelow (length c.columns) s.at_upper turned →
    AddsAll c s (map (upper_told c.columns) turned) (with_turned s turned)
adds_turned c s [] are off none h = λ i. record s { at_upper = sym (append-nil s.at_upper) i }
adds_turned c s (j ∷ turned) are off none (below, new, h) =
    let next = with_turned s (j ∷ []) in
    let is_name = name_at_is c.columns j are below in
    let other : s.rule ≢ Linear = λ is. omega (arith, ap length (none is)) in
    let more = adds_turned c next turned are off (λ is. absurd (other is)) h in
    let joined = append_assoc s.at_upper (j ∷ []) turned in
    let same : with_turned next turned ≡ with_turned s (j ∷ turned) =
    λ i. record s { at_upper = joined i } in (
      next,
      ((known (codes "upper") refl, name_is_plain (name_at c.columns j) is_name), is_name),
      ((off, other), j, (own_place c.columns j are below, new), refl),
      subst (AddsAll c next (map (upper_told c.columns) turned)) same more,
    )

abbrev with_factor : OpenStep → Option Frac → OpenStep
with_factor s factor = record s { factor = factor }

both_true : (a b : Bool) → a && b ≡ true → (a ≡ true) × (b ≡ true)
both_true true true h = (refl, refl)
both_true true false h = absurd cc
both_true false b h = absurd cc

one_is_ratio : (x : Frac) → is_one x ≡ true → IsRatio x (pos 1) (pos 1)
one_is_ratio x h =
    let both = both_true (int_eq (numerator x) (pos 1)) (int_eq (denominator x) (pos 1)) h in
    let top : numerator x ≡ pos 1 = (Decides-int_eq (numerator x) (pos 1)).0 both.0 in
    let bottom : denominator x ≡ pos 1 = (Decides-int_eq (denominator x) (pos 1)).0 both.1 in
    ap (λ (n : ℤ). n *ℤ pos 1) top ∙ ap (λ (d : ℤ). pos 1 *ℤ d) (sym bottom)

adds_factor : (c : Names) (s : OpenStep) (x : Frac) → s.is_claimed ≡ false → s.factor ≡ None →
    pos 0 <ℤ numerator x →
    (y : Option Frac) × IsFactor y x × AddsAll c s (factor_told x) (with_factor s y)
adds_factor c s x off none above = by_test (is_one x) refl
  where
    by_test : (one : Bool) → is_one x ≡ one →
        (y : Option Frac) × IsFactor y x
        × AddsAll c s (if one then [] else times x ∷ []) (with_factor s y)
    by_test true is = (None, one_is_ratio x is, λ i. record s { factor = none i })
    by_test false is = (
      Some x,
      refl,
      (
        with_factor s (Some x),
        ((known (codes "times") refl, tt), above),
        ((off, none), refl),
        refl,
      ),
    )

-- ---- the claim

abbrev with_terms : OpenStep → List Entry → OpenStep
with_terms s entries = record s { entries = s.entries ++ entries }

adds_terms : (c : Names) (s : OpenStep) (entries : List Entry) → AreNames c.columns →
    s.is_claimed ≡ true →
    AreNewBelow (length c.columns) (columns_claimed s) (map (λ (e : Entry). e.column) entries) →
    AddsAll c s (map (term_told c.columns) entries) (with_terms s entries)
adds_terms c s [] are on h = λ i. record s { entries = sym (append-nil s.entries) i }
adds_terms c s (e ∷ entries) are on (below, new, h) =
    let next = with_terms s (e ∷ []) in
    let is_name = name_at_is c.columns e.column are below in
    let indices = map (λ (d : Entry). d.column) entries in
    let taken = map-append (λ (d : Entry). d.column) s.entries (e ∷ []) in
    let more = adds_terms c next entries are on
    (subst (λ (claimed : List ℕ). AreNewBelow (length c.columns) claimed indices) (sym taken) h) in
    let joined = append_assoc s.entries (e ∷ []) entries in
    let same : with_terms next entries ≡ with_terms s (e ∷ entries) =
    λ i. record s { entries = joined i } in (
      next,
      (
        (known (codes "term") refl, (name_is_plain (name_at c.columns e.column) is_name, tt)),
        is_name,
      ),
      (on, e.column, (own_place c.columns e.column are below, new), refl),
      subst (AddsAll c next (map (term_told c.columns) entries)) same more,
    )

abbrev claimed : OpenStep → Frac → OpenStep
claimed s right = record s { is_claimed = true; right = Some right }

given : (drafts : Bool) (right : Frac) → ◌≡◌ {A = Option Frac} (Some right) None → IsTrue drafts
given drafts right is = absurd cc

adds_claim : (c : Names) (s : OpenStep) (q : Inequality) → AreNames c.columns →
    s.is_claimed ≡ false → s.entries ≡ [] →
    AreReadableTerms (length c.columns) q.entries →
    AddsAll c s (claim_told c.columns q) (with_terms (claimed s q.right) q.entries)
adds_claim c s q are off none h = (
  claimed s q.right,
  ((known (codes "claim") refl, fraction_is_plain q.right), tt),
  (off, Some q.right, (bound_is_spelled (Some q.right), given c.drafts q.right), refl),
  adds_terms c (claimed s q.right) q.entries are refl
      (subst
      (λ (es : List Entry).
      AreNewBelow (length c.columns) (map (λ (e : Entry). e.column) es)
      (map (λ (e : Entry). e.column) q.entries)) (sym none) h),
)

-- ---- a step

module _ (f : Option FunctionData) (c : Names) (lines behind : List (List ℕ)) (x : Step)
    (is : lines ≡ c.lines ++ behind) (columns : AreNames c.columns)
    (are : AreNames lines) (h : IsReadable f (length c.columns) (length c.lines) x.combination)
    (terms : AreReadableTerms (length c.columns) x.claim.entries) where
  step_is_told : (t : OpenStep)
      × AddsAll c (begun x.combination.rule) (step_told c.columns lines x) t
      × IsDraftOf t (as_draft x) × IsTrue t.is_claimed
  step_is_told =
      let y = x.combination in
      let s = begun y.rule in
      let summed = with_multipliers s y.multipliers in
      let turned = with_turned summed y.at_upper in
      let (factor, is_factor, last_line) = adds_factor c turned y.factor refl refl h.factor in
      let made = with_factor turned factor in
      let t = with_terms (claimed made x.claim.right) x.claim.entries in
      let first = adds_multipliers c lines behind s y.multipliers is are refl h.multipliers in
      let second = adds_turned c summed y.at_upper columns refl h.none_turned h.at_upper in
      let combined = adds_behind c s summed made (map (by_told lines) y.multipliers)
      (map (upper_told c.columns) y.at_upper ++ factor_told y.factor) first
      (adds_behind c summed turned made (map (upper_told c.columns) y.at_upper)
      (factor_told y.factor) second last_line) in (
        t,
        adds_behind c s made t (combination_told c.columns lines y) (claim_told c.columns x.claim)
            combined (adds_claim c made x.claim columns refl refl terms),
        (y.factor, is_factor, refl),
        refl,
      )

  pub step_lines_are_read : (text rest : List ℕ) → StepsGoOn rest →
      text ≡ printed_lines (step_told c.columns lines x) ++ rest →
      (lines_of_step c (begun x.combination.rule)).Reads text (as_draft x) rest
  step_lines_are_read text rest on same =
      let (t, adds, made, claim_is) = step_is_told in
      lines_are_read c (begun x.combination.rule) t (step_told c.columns lines x) (as_draft x) text
      rest adds made claim_is on same
