-- The demands of a claim that a function is not extreme: when all hold, and which is the first that
-- fails.
use Rattle.std.proofs.Common.{◌≡◌, ℕ, zero, suc, ◌+◌, ◌-◌, ◌<◌, List, [], ◌∷◌, ◌++◌, All, sym, ap, subst, ◌∙◌, arith}
use Rattle.std.specs.List.{range_with_len}
use Rattle.std.proofs.lemmas.List.Elements.{All-nil, All-cons, All-append}
use Rattle.gj_lemmas.proofs.Lists.{range_at}
use Rattle.gj_shape.specs.FirstViolation.{PassesAll}
use Rattle.gj_shape.specs.FunctionData.{FunctionData}
use Rattle.gj_shape.specs.declared.extremality.LimitHalves.{LimitHalves}
use Rattle.gj_proof.specs.ProofText.{ProofLine}
use Rattle.gj_proof.specs.Rules.{Demand, pair_demands}
use Rattle.gj_proof.specs.Rules.Demand.{minimal, scale, range, average, first, second, same}
use Rattle.gj_check.specs.declared.rules.CheckRule.{CheckRule}
use Rattle.gj_check.specs.declared.rules.CheckRule.TheVariants as rules
use Rattle.gj_limit_proof.specs.declared.claim.LimitClaim.TheVariants.{NotExtreme}
use Rattle.gj_limit_proof.specs.LimitRules.{MeetsLimitScale, DemandHolds, MeetsLimitRules}
use Rattle.gj_limit_proof.specs.LimitText.{AreLimitHalvesInBounds, HasNumber}
use Rattle.gj_limit_check_halves.specs.declared.failure.HalvesFailure.{HalvesFailure}
use Rattle.gj_limit_check_halves.specs.declared.failure.HalvesFailure.TheVariants.{Range, Average, First, Second, Same}
use Rattle.gj_limit_check_halves.specs.HalvesOutcome.{MeetsLimitPair, MeetLimitPairs, MeetHalvesRules, FailsHalves}
use Rattle.gj_limit_check_halves.specs.HalvesOutcome.FailsHalves.{at_scale, at_pair, at_last}
use Rattle.gj_limit_check.specs.FirstFailure.{IsFirstLimitFailure}
use Rattle.gj_limit_check.specs.HalvesLines.{halves_rule, halves_fault_line}
use Rattle.gj_check.proofs.FirstDemand.{FirstFails, fails_here, fails_behind, fails_next, fails_in_front}
use Rattle.gj_check.proofs.HalvesDemands.{pair_demands-append}
use Rattle.gj_limit_check.proofs.FirstLimitDemand.{failure_of}
use Rattle.gj_limit_check.proofs.PlainClaims.{number_of_halves_line, number_of_pair_line}
use Rattle.gj_limit_proof.proofs.LimitLineNumbers.{number_of_claim}

-- a demand on halves holds
abbrev holds : FunctionData → LimitHalves → Demand → Type 0
holds f h = DemandHolds (NotExtreme f h)

-- ---- points

pairs_hold : (f : FunctionData) (h : LimitHalves) (a n : ℕ) →
    ((i : ℕ) → i < a + n → MeetsLimitPair f h i) →
    All (holds f h) (pair_demands (range_with_len a n))
pairs_hold f h a zero meet = All-nil (holds f h)
pairs_hold f h a (suc n) meet =
    let P = holds f h in
    let later = pair_demands (range_with_len (a + 1) n) in
    let here = meet a (omega arith) in
    All-cons P (range a) (average a ∷ later) here.range
    (All-cons P (average a) later here.average
    (pairs_hold f h (a + 1) n (λ i below. meet i (omega arith))))

-- the first of the two demands at a point that fails, behind those at the points before it
at_point : (f : FunctionData) (h : LimitHalves) (i : ℕ) (r : CheckRule) → i < h.order →
    ((j : ℕ) → j < i → MeetsLimitPair f h j) →
    ((more : List Demand) →
    FirstFails (holds f h) (range i ∷ average i ∷ more) (ProofLine.pair i) r) →
    FirstFails (holds f h) (pair_demands (range_with_len 0 h.order)) (ProofLine.pair i) r
at_point f h i r within before here =
    let front = range_with_len 0 i in
    let back = range_with_len (i + 1) (h.order - suc i) in
    let split : pair_demands (range_with_len 0 h.order) ≡ pair_demands front ++ range i ∷ average i
    ∷ pair_demands back =
    ap pair_demands (range_at i h.order within) ∙ pair_demands-append front (i ∷ back) in
    subst (λ ds. FirstFails (holds f h) ds (ProofLine.pair i) r) (sym split)
    (fails_behind (holds f h) (pair_demands front) (range i ∷ average i ∷ pair_demands back)
    (ProofLine.pair i) r
    (pairs_hold f h 0 i (λ j below. before j (omega arith))) (here (pair_demands back)))

-- ---- all demands

abbrev all_pairs : LimitHalves → List Demand
all_pairs h = pair_demands (range_with_len 0 h.order)

abbrev last_three : List Demand
last_three = first ∷ second ∷ same ∷ []

pub halves_not_minimal : (f : FunctionData) (h : LimitHalves) → (PassesAll f → ⊥) →
    IsFirstLimitFailure (NotExtreme f h) 2 rules.Minimal
halves_not_minimal f h fails =
    let c = NotExtreme f h in
    failure_of c ProofLine.claim rules.Minimal 2
    (fails_here (holds f h) minimal (scale ∷ all_pairs h ++ last_three) fails) (number_of_claim c)

-- behind the first demand
halves_fail : (f : FunctionData) (h : LimitHalves) (l : ProofLine) (r : CheckRule) (n : ℕ) →
    PassesAll f →
    FirstFails (holds f h) (scale ∷ all_pairs h ++ last_three) l r →
    HasNumber (NotExtreme f h) l n →
    IsFirstLimitFailure (NotExtreme f h) n r
halves_fail f h l r n passes fails number =
    let c = NotExtreme f h in
    failure_of c l r n
    (fails_next (holds f h) minimal (scale ∷ all_pairs h ++ last_three) l r passes fails)
    number

-- at a point
pair_fails : (f : FunctionData) (h : LimitHalves) (i : ℕ) (r : CheckRule) → PassesAll f →
    AreLimitHalvesInBounds h → MeetsLimitScale f h →
    i < h.order → FirstFails (holds f h) (all_pairs h) (ProofLine.pair i) r →
    IsFirstLimitFailure (NotExtreme f h) (f.order + 5 + (i + 1)) r
pair_fails f h i r passes b meets within fails =
    let l = ProofLine.pair i in
    halves_fail f h l r (f.order + 5 + (i + 1)) passes
    (fails_next (holds f h) scale (all_pairs h ++ last_three) l r meets
    (fails_in_front (holds f h) (all_pairs h) last_three l r fails))
    (number_of_pair_line f h i b within)

-- behind all points
last_fails : (f : FunctionData) (h : LimitHalves) (r : CheckRule) → PassesAll f →
    AreLimitHalvesInBounds h → MeetsLimitScale f h →
    MeetLimitPairs f h → FirstFails (holds f h) last_three ProofLine.halves r →
    IsFirstLimitFailure (NotExtreme f h) (f.order + 5) r
last_fails f h r passes b meets pairs fails =
    halves_fail f h ProofLine.halves r (f.order + 5) passes
    (fails_next (holds f h) scale (all_pairs h ++ last_three) ProofLine.halves r meets
    (fails_behind (holds f h) (all_pairs h) last_three ProofLine.halves r
    (pairs_hold f h 0 h.order (λ i below. pairs i (omega arith))) fails))
    (number_of_halves_line f h b)

pub halves_fault : (f : FunctionData) (h : LimitHalves) (failure : HalvesFailure) → PassesAll f →
    AreLimitHalvesInBounds h →
    FailsHalves f h failure →
    IsFirstLimitFailure (NotExtreme f h) (halves_fault_line f failure) (halves_rule failure)
halves_fault f h failure passes b (at_scale e fails) =
    let c = NotExtreme f h in
    subst (λ x. IsFirstLimitFailure c (halves_fault_line f x) (halves_rule x)) (sym e)
    (halves_fail f h ProofLine.halves rules.Scale (f.order + 5) passes
    (fails_here (holds f h) scale (all_pairs h ++ last_three) fails)
    (number_of_halves_line f h b))
halves_fault f h (Range i) passes b (at_pair meets at) =
    pair_fails f h i rules.Range passes b meets at.within
    (at_point f h i rules.Range at.within at.before
    (λ more. fails_here (holds f h) (range i) (average i ∷ more) at.here))
halves_fault f h (Average i) passes b (at_pair meets at) =
    let c = NotExtreme f h in
    pair_fails f h i rules.Average passes b meets at.within
    (at_point f h i rules.Average at.within at.before
    (λ more. fails_next (holds f h) (range i) (average i ∷ more) (ProofLine.pair i) rules.Average
    at.here.0
    (fails_here (holds f h) (average i) more at.here.1)))
halves_fault f h _ passes b (at_pair meets at) = absurd at
halves_fault f h First passes b (at_last meets pairs fails) =
    last_fails f h rules.First passes b meets pairs
    (fails_here (holds f h) first (second ∷ same ∷ []) fails)
halves_fault f h Second passes b (at_last meets pairs fails) =
    last_fails f h rules.Second passes b meets pairs
    (fails_next (holds f h) first (second ∷ same ∷ []) ProofLine.halves rules.Second fails.0
    (fails_here (holds f h) second (same ∷ []) fails.1))
halves_fault f h Same passes b (at_last meets pairs fails) =
    last_fails f h rules.Same passes b meets pairs
    (fails_next (holds f h) first (second ∷ same ∷ []) ProofLine.halves rules.Same fails.0
    (fails_next (holds f h) second (same ∷ []) ProofLine.halves rules.Same fails.1
    (fails_here (holds f h) same [] fails.2)))
halves_fault f h _ passes b (at_last meets pairs fails) = absurd fails

pub halves_meet : (f : FunctionData) (h : LimitHalves) → PassesAll f → MeetHalvesRules f h →
    MeetsLimitRules (NotExtreme f h)
halves_meet f h passes meets =
    let P = holds f h in
    let last = meets.last in
    All-cons P minimal (scale ∷ all_pairs h ++ last_three) passes
    (All-cons P scale (all_pairs h ++ last_three) meets.scale
    (All-append P (all_pairs h) last_three
    (pairs_hold f h 0 h.order (λ i below. meets.pairs i (omega arith)))
    (All-cons P first (second ∷ same ∷ []) last.first
    (All-cons P second (same ∷ []) last.second (All-cons P same [] last.same (All-nil P))))))
