-- A reply that ends with Done is true over each field with floors.
use Rattle.std.proofs.Common.{◌≡◌, ℕ, map, refl, sym, ap₂, subst, subst₂, Bool, true, false, inl, inr, List, [], ◌∷◌, All, Option, String}
use Rattle.std.specs.List.{AllZip}
use Rattle.std.specs.declared.alloc.Global.{Global}
use Rattle.std.proofs.lemmas.List.Elements.{All-nil, All-cons, All-weaker}
use Rattle.gj_shape.specs.FunctionData.{FunctionData, IsWithinBounds}
use Rattle.gj_frac.specs.declared.Frac.{Frac}
use Rattle.gj_row.specs.declared.tableau.Row.{Row}
use Rattle.gj_cut.specs.declared.cut.Term.{Term}
use Rattle.gj_mixed.specs.declared.cut.MixedCut.{MixedCut}
use Rattle.gj_mixed.specs.declared.cut.MixedCut.TheVariants as mixed_cut
use Rattle.gj_proof.specs.declared.cut.CutLine.{CutLine}
use Rattle.gj_proof.specs.declared.cut.CutLine.TheVariants as cuts
use Rattle.gj_proof.specs.declared.cut.CutTerm.{CutTerm}
use Rattle.gj_function_text.proofs.FunctionTexts.{function_is_within}
use Rattle.gj_function_text.proofs.LinesOfFunction.{lines_are_text}
use Rattle.gj_proof.specs.CutRules.{MakesContinuousCuts}
use Rattle.gj_proof.specs.ProofText.{IsBoundedRule}
use Rattle.gj_proof.specs.declared.cut.CutRule.{CutRule}
use Rattle.gj_proof.specs.declared.cut.CutRule.TheVariants.{Gmic, Table}
use Rattle.gj_cut_text.specs.MixedLines.{AreMixedCutsOf, IsMixedCutBy, IsMixedLineFor, IsNamedTerm, NamesMixedCut}
use Rattle.gj_cut_text.specs.declared.mixed_lines.MixedLine.{MixedLine}
use Rattle.gj_cut_text.specs.Columns.{continuous_columns}
use Rattle.gj_problem.specs.Problems.{Holds}
use Rattle.gj_problem.specs.declared.problem.Problem.{Problem as Program}
use Rattle.gj_problem_text.specs.declared.input.SafeInput.{SafeInput}
use Rattle.gj_derivation.specs.Drafts.{steps_of}
use Rattle.gj_derivation.specs.declared.step.Step.{Step}
use Rattle.gj_derivation_text.specs.declared.input.DraftInput.{DraftInput}
use Rattle.gj_words.specs.declared.requests.Command.{Command}
use Rattle.gj_words.specs.declared.requests.Command.TheVariants.{Minimal, Extreme, Cut, Show, Check, Faces, Demo, Mixed, Problem, Derive, Fill, Group, Times, Mirror, Restrict}
use Rattle.gj_top.specs.declared.reply.End.TheVariants.{Done}
use Rattle.gj_top.specs.Promise.{Spells}
use Rattle.gj_top.specs.Command.{promise_with, work_with}
use Rattle.gj_top.specs.Causes.{IsDoneRun}
use Rattle.gj_top.specs.Minimal.{IsTrueVerdict}
use Rattle.gj_top.specs.Extreme.{IsTrueExtremality}
use Rattle.gj_top.specs.LimitExtreme.{IsTrueLimitExtremality, IsTrueJumpsExtremality}
use Rattle.gj_top.specs.Report.{claims, limit_claims}
use Rattle.gj_top.specs.Problem.{AreProblemCuts}
use Rattle.gj_top.specs.Check.Checkable.{of_claim, of_limit_claim, of_steps}
use Rattle.gj_top.specs.Check.{Checkable, SpellsCheckable, IsTrueCheck}
use Rattle.gj_top.specs.Derive.{IsTrueDerivedText}
use Rattle.gj_top.specs.Told.{Told}
use Rattle.gj_top.specs.declared.cut_input.CutInput.{CutInput}
use Rattle.gj_top.specs.Cut.{SpellsCutInput, HasLinesOfRule}
use Rattle.gj_top.proofs.OneReport.{reported, told, told_by}
use Rattle.gj_top.proofs.Sound.{sound}
use Rattle.gj_top.proofs.TextLaws.{function_is_bounded, json_is_bounded, spelled_is_bounded}
use Rattle.gj_fields.specs.Fields.{OrderedField, HasFloor}
use Rattle.gj_reals.proofs.OnlyExtremeAtReals.{extreme_from_reals}
use Rattle.gj_real_cuts.specs.RealRows.{RealCutHolds}
use Rattle.gj_real_answers.specs.RealMeaning.{RealHoldsFor}
use Rattle.gj_real_problems.proofs.Cuts.{cuts_transferred}
use Rattle.gj_real_problems.proofs.Transfer.{transferred}
use Rattle.gj_real_problems.specs.RealProblems.{RealHolds}
use Rattle.gj_real_answers.proofs.Claims.{minimal_at_reals, minimal_from_reals, extreme_at_reals, claim_at_reals, extreme_function_at_reals, extreme_function_from_reals, limit_claim_at_reals}
use Rattle.gj_real_answers.proofs.MixedCuts.{cut_by_function, cut_by_gmic}
use Rattle.gj_real_answers.specs.RealAnswers.{IsRealVerdict, IsRealExtremality, IsRealLimitExtremality, IsRealJumpsExtremality, RealLineHolds, RealMixedLineHolds, IsRealCheck, IsRealDerivedText, AreRealMixedCuts, AreRealProblemCuts, real_headline, IsTrueRealRun}

-- a function of a rule that is read is within the limits
rule_is_bounded : (r : CutRule) (text rest : List ℕ) → HasLinesOfRule text r rest → IsBoundedRule r
rule_is_bounded Gmic text rest lines = tt
rule_is_bounded (Table f) text rest lines =
    function_is_within text f rest (lines_are_text text f rest lines)

-- terms with their names have the same entries and coefficients
same_terms : (columns : List (List ℕ)) (terms : List Term) (named : List CutTerm) →
    AllZip (IsNamedTerm columns) terms named →
    (map (λ t. t.entry) terms ≡ map (λ t. t.entry) named)
    × (map (λ t. t.cut) terms ≡ map (λ t. t.cut) named)
same_terms columns [] [] h = (refl, refl)
same_terms columns [] (c ∷ named) h = absurd h
same_terms columns (t ∷ terms) [] h = absurd h
same_terms columns (t ∷ terms) (c ∷ named) h =
    let rest = same_terms columns terms named h.1 in (
      ap₂ (λ (x : Frac) (xs : List Frac). x ∷ xs) (sym h.0.entry) rest.0,
      ap₂ (λ (x : Frac) (xs : List Frac). x ∷ xs) (sym h.0.cut) rest.1,
    )

module _ {R : Type 0} (K : OrderedField R) (floors : HasFloor K) where
  verdict : (f : FunctionData) (text : List ℕ) → IsWithinBounds f → IsTrueVerdict f text →
      IsRealVerdict K floors f text
  verdict f text bounds (inl h) = inl (h.0, minimal_at_reals K floors f bounds h.1)
  verdict f text bounds (inr h) =
      inr (h.0, h.1, λ real. h.3 (minimal_from_reals K floors f bounds real))

  extremality : (f : FunctionData) (text : List ℕ) → IsWithinBounds f → IsTrueExtremality f text →
      IsRealExtremality K floors f text
  extremality f text bounds (inl h) = inl (h.0, extreme_at_reals K floors f bounds h.1 h.2)
  extremality f text bounds (inr (inl h)) =
      inr (inl (
        h.0,
        h.1,
        minimal_at_reals K floors f bounds h.3,
        λ real. h.5 (extreme_from_reals K floors f bounds h.2 real.1),
      ))
  extremality f text bounds (inr (inr h)) =
      inr (inr (h.0, h.1, λ real. h.3 (minimal_from_reals K floors f bounds real)))

  -- of a function that jumps
  limit_extremality : (f : FunctionData) (text : List ℕ) → IsWithinBounds f →
      IsTrueLimitExtremality f text → IsRealLimitExtremality K floors f text
  limit_extremality f text bounds (inl h) =
      inl (h.0, extreme_function_at_reals K floors f bounds h.2)
  limit_extremality f text bounds (inr h) =
      inr (
        h.0,
        h.1,
        minimal_at_reals K floors f bounds h.3,
        λ real. h.5 (extreme_function_from_reals K floors f bounds real),
      )

  jumps_extremality : (json : Bool) (f : FunctionData) (text : List ℕ) → IsWithinBounds f →
      IsTrueJumpsExtremality json f text → IsRealJumpsExtremality K floors json f text
  jumps_extremality json f text bounds (inl h) =
      inl (told json (IsTrueExtremality f) (IsRealExtremality K floors f)
      (λ proof. extremality f proof bounds) text h)
  jumps_extremality json f text bounds (inr h) =
      inr (told_by limit_claims json (IsTrueLimitExtremality f) (IsRealLimitExtremality K floors f)
      (λ proof. limit_extremality f proof bounds) text h)

  -- the line of a cut with the names of its columns
  named_holds : (columns : List (List ℕ)) (row : Row) (cut : MixedCut) (line : CutLine)
      (weighed : List CutTerm) → RealHoldsFor K row cut →
      NamesMixedCut columns row cut line weighed →
      RealLineHolds K line weighed
  named_holds columns row (mixed_cut.Cut terms weights) (cuts.Cut name right named) weighed holds
      n =
      let whole_columns = same_terms columns terms named n.2 in
      let others = same_terms columns weights weighed n.3 in
      let at_entries = subst₂ (λ (xs zs : List Frac). RealCutHolds K xs zs row.rhs
      (map (λ t. t.cut) terms) (map (λ t. t.cut) weights)) whole_columns.0 others.0 holds in
      let at_cuts = subst₂ (λ (ys ws : List Frac). RealCutHolds K (map (λ t. t.entry) named)
      (map (λ t. t.entry) weighed) row.rhs ys ws) whole_columns.1 others.1 at_entries in
      subst (λ (x : Frac). RealCutHolds K (map (λ t. t.entry) named) (map (λ t. t.entry) weighed) x
      (map (λ t. t.cut) named) (map (λ t. t.cut) weighed)) (sym n.1) at_cuts
  named_holds columns row mixed_cut.Integral (cuts.Cut name right named) weighed holds n = absurd n
  named_holds columns row mixed_cut.OtherFraction (cuts.Cut name right named) weighed holds n =
      absurd n
  named_holds columns row cut (cuts.Skip name right reason) weighed holds n = tt

  cut_holds : (r : CutRule) (columns : List (List ℕ)) (row : Row) (cut : MixedCut) →
      IsBoundedRule r → MakesContinuousCuts r → IsMixedCutBy r columns row cut →
      RealHoldsFor K row cut
  cut_holds Gmic columns row cut bounds makes is =
      cut_by_gmic K floors (continuous_columns columns) row cut is
  cut_holds (Table f) columns row cut bounds makes (up, down, at_zero, is) =
      cut_by_function K floors f up down (continuous_columns columns) row cut bounds makes.1 makes.0
      at_zero is

  lines_hold : (r : CutRule) (columns : List (List ℕ)) (rows : List Row) (lines : List MixedLine) →
      IsBoundedRule r → MakesContinuousCuts r → AllZip (IsMixedLineFor r columns) rows lines →
      All (RealMixedLineHolds K) lines
  lines_hold r columns [] [] bounds makes h = All-nil (RealMixedLineHolds K)
  lines_hold r columns [] (m ∷ lines) bounds makes h = absurd h
  lines_hold r columns (row ∷ rows) [] bounds makes h = absurd h
  lines_hold r columns (row ∷ rows) (m ∷ lines) bounds makes h =
      All-cons (RealMixedLineHolds K) m lines
      (named_holds columns row h.0.cut m.line m.weights
      (cut_holds r columns row h.0.cut bounds makes h.0.is_cut) h.0.names)
      (lines_hold r columns rows lines bounds makes h.1)

  mixed_cuts : (input : CutInput) (source text : List ℕ) → SpellsCutInput source input →
      MakesContinuousCuts input.rule → AreMixedCutsOf input.rule input.tableau text →
      AreRealMixedCuts K input.rule input.tableau text
  mixed_cuts input source text spelled makes cuts = record {
    cuts = cuts;
    hold = lines_hold input.rule input.tableau.columns input.tableau.rows cuts.lines
        (rule_is_bounded input.rule source spelled.rest spelled.rule) makes cuts.lines_are;
  }

  pub problem_cuts : (asked : SafeInput) (text : List ℕ) → AreProblemCuts asked text →
      AreRealProblemCuts K asked text
  problem_cuts asked text cuts = record {
    cuts = cuts;
    hold = cuts_transferred K floors asked.task.problem cuts.cuts cuts.hold;
  }

  claims_transferred : (p : Program) (steps : List Step) → All (λ s. Holds p s.claim) steps →
      All (λ s. RealHolds K p s.claim) steps
  claims_transferred p steps hold =
      All-weaker (λ (s : Step). Holds p s.claim) (λ (s : Step). RealHolds K p s.claim)
      (λ s holds. transferred K floors p s.claim holds) steps hold

  checked : (thing : Checkable) (input text : List ℕ) → SpellsCheckable input thing →
      IsTrueCheck thing text → IsRealCheck K floors thing text
  checked (of_claim c) input text spelled h =
      (claim_at_reals K floors c spelled.bounded h.0, h.1)
  checked (of_limit_claim c) input text spelled h =
      (limit_claim_at_reals K floors c spelled.bounded h.0, h.1)
  checked (of_steps t) input text spelled h =
      (claims_transferred t.told.problem t.told.steps h.0, h.1)

  pub derived : (t : Told DraftInput) (text : List ℕ) → IsTrueDerivedText t text →
      IsRealDerivedText K t text
  derived t text h = record {
    derived = h;
    hold = claims_transferred t.told.drafts.task.problem (steps_of h.shown) h.hold;
  }

  real_reply : (command : Command) (json jumps : Bool)
      (thing : (promise_with command json jumps).Thing) (input text : List ℕ) →
      Spells (promise_with command json jumps).form input thing →
      (work_with command json jumps).replies thing Done text →
      (promise_with command json jumps).headline thing text →
      real_headline K floors command json jumps thing text
  real_reply Minimal true jumps f input text spelled replied h =
      reported claims (IsTrueVerdict f) (IsRealVerdict K floors f)
      (λ proof. verdict f proof (json_is_bounded input f spelled)) text h
  real_reply Minimal false jumps f input text spelled replied h =
      verdict f text (function_is_bounded input f spelled) h
  real_reply Extreme json true f input text spelled replied h =
      jumps_extremality json f text (spelled_is_bounded json input f spelled) h
  real_reply Extreme true false f input text spelled replied h =
      reported claims (IsTrueExtremality f) (IsRealExtremality K floors f)
      (λ proof. extremality f proof (json_is_bounded input f spelled)) text h
  real_reply Extreme false false f input text spelled replied h =
      extremality f text (function_is_bounded input f spelled) h
  real_reply Check json jumps thing input text spelled replied h =
      checked thing input text spelled h
  real_reply Mixed json jumps thing input text spelled replied h =
      mixed_cuts thing input text spelled replied.0 h
  real_reply Problem json jumps asked input text spelled replied h = problem_cuts asked text h
  real_reply Derive json jumps t input text spelled replied h = derived t text h
  real_reply Show true jumps thing input text spelled replied h = h
  real_reply Show false jumps thing input text spelled replied h = h
  real_reply Faces json true thing input text spelled replied h = h
  real_reply Faces json false thing input text spelled replied h = h
  real_reply Cut json jumps thing input text spelled replied h = h
  real_reply (Demo n) json jumps thing input text spelled replied h = h
  real_reply Fill json jumps thing input text spelled replied h = h
  real_reply Group json jumps thing input text spelled replied h = h
  real_reply (Times n j) json jumps thing input text spelled replied h = h
  real_reply Mirror json jumps thing input text spelled replied h = h
  real_reply (Restrict d) json jumps thing input text spelled replied h = h

  pub real_run : (words : List (String Global)) (input before : List ℕ)
      (written : Option (List ℕ)) → IsDoneRun words input before written →
      IsTrueRealRun K floors words input before written
  real_run words input before written done =
      let reply = done.reply in
      let headline = (sound done.request).work input reply.thing done.text reply.spelled
      reply.replied in
      record {
        request = done.request;
        named = done.named;
        text = done.text;
        thing = reply.thing;
        spelled = reply.spelled;
        holds = real_reply done.request.command done.request.json done.request.jumps reply.thing
            input done.text reply.spelled reply.replied headline;
        gain = done.gain;
      }
