-- The demands of a claim that a function is not extreme: when all hold, and which is the first that
-- fails.
use Rattle.std.proofs.Common.{◌≡◌, ℕ, zero, ◌+◌, ◌-◌, ◌<◌, List, [], ◌∷◌, ◌++◌, All, suc, refl, sym, ap, subst, ◌∙◌, arith}
use Rattle.std.specs.List.{range_with_len}
use Rattle.std.proofs.lemmas.List.Elements.{All-nil, All-cons, All-append}
use Rattle.gj_shape.specs.Perturbation.{AreHalvesInBounds}
use Rattle.gj_lemmas.proofs.Lists.{range_at}
use Rattle.gj_shape.specs.FunctionData.{FunctionData, IsContinuous}
use Rattle.gj_shape.specs.FirstViolation.{PassesAll}
use Rattle.gj_shape.specs.declared.extremality.Halves.{Halves}
use Rattle.gj_proof.specs.declared.claim.Claim.TheVariants.{NotExtreme}
use Rattle.gj_proof.specs.ProofText.{ProofLine, HasNumber}
use Rattle.gj_proof.specs.Rules.{Demand, MeetsScale, MeetsSame, IsMinimalHalf, pair_demands, DemandHolds, MeetsRules}
use Rattle.gj_proof.specs.Rules.Demand.{minimal, continuous, scale, range, average, first, second, same}
use Rattle.gj_proof.proofs.LineNumbers.{number_of_claim}
use Rattle.gj_check.specs.declared.rules.CheckRule.{CheckRule}
use Rattle.gj_check.specs.declared.rules.CheckRule.TheVariants as rules
use Rattle.gj_check.specs.declared.halves.PairFailure.{PairFailure}
use Rattle.gj_check.specs.FirstFailure.{IsFirstFailure}
use Rattle.gj_check.specs.HalvesRules.{MeetsPair, FailsPair, FailsPairs}
use Rattle.gj_check.proofs.FirstDemand.{FirstFails, fails_here, fails_behind, fails_next, fails_in_front, failure_of}
use Rattle.gj_check.proofs.ExtremeDemands.{behind_two}
use Rattle.gj_check.proofs.OwnLineNumbers.{number_of_halves, number_of_pair}

-- a demand on halves holds
abbrev holds : FunctionData → Halves → Demand → Type 0
holds f h = DemandHolds (NotExtreme f h)

-- ---- pairs of halves

pub pair_demands-append : (xs ys : List ℕ) →
    pair_demands (xs ++ ys) ≡ pair_demands xs ++ pair_demands ys
pair_demands-append [] ys = refl
pair_demands-append (i ∷ xs) ys = ap (λ ds. range i ∷ average i ∷ ds) (pair_demands-append xs ys)

pairs_hold : (f : FunctionData) (h : Halves) (a n : ℕ) → ((i : ℕ) → i < a + n → MeetsPair f h i) →
    All (holds f h) (pair_demands (range_with_len a n))
pairs_hold f h a zero meet = All-nil (holds f h)
pairs_hold f h a (suc n) meet =
    let P = holds f h in
    let later = pair_demands (range_with_len (a + 1) n) in
    let here = meet a (omega arith) in
    All-cons P (range a) (average a ∷ later) here.range
    (All-cons P (average a) later here.average
    (pairs_hold f h (a + 1) n (λ i below. meet i (omega arith))))

pair_breaks : (f : FunctionData) (h : Halves) (i : ℕ) (r : CheckRule) (more : List Demand) →
    FailsPair f h i r →
    FirstFails (holds f h) (range i ∷ average i ∷ more) (ProofLine.pair i) r
pair_breaks f h i rules.Range more fails =
    fails_here (holds f h) (range i) (average i ∷ more) fails
pair_breaks f h i rules.Average more fails =
    fails_next (holds f h) (range i) (average i ∷ more)
    (ProofLine.pair i) rules.Average fails.0
    (fails_here (holds f h) (average i) more fails.1)
pair_breaks f h i _ more fails = absurd fails

pairs_break : (f : FunctionData) (h : Halves) (failure : PairFailure) → FailsPairs f h failure →
    FirstFails (holds f h) (pair_demands (range_with_len 0 h.order))
    (ProofLine.pair failure.index) failure.rule
pairs_break f h failure fails =
    let i = failure.index in
    let front = range_with_len 0 i in
    let back = range_with_len (i + 1) (h.order - suc i) in
    let split : pair_demands (range_with_len 0 h.order) ≡ pair_demands front ++ range i ∷ average i
    ∷ pair_demands back =
    ap pair_demands (range_at i h.order fails.within) ∙ pair_demands-append front (i ∷ back) in
    subst (λ ds. FirstFails (holds f h) ds (ProofLine.pair i) failure.rule) (sym split)
    (fails_behind (holds f h) (pair_demands front) (range i ∷ average i ∷ pair_demands back)
    (ProofLine.pair i) failure.rule
    (pairs_hold f h 0 i (λ j below. fails.before j (omega arith)))
    (pair_breaks f h i failure.rule (pair_demands back) fails.here))

-- ---- a function that is not extreme

abbrev all_pairs : Halves → List Demand
all_pairs h = pair_demands (range_with_len 0 h.order)

abbrev last_three : List Demand
last_three = first ∷ second ∷ same ∷ []

-- the demands behind the first two
abbrev halves_rest : Halves → List Demand
halves_rest h = scale ∷ all_pairs h ++ last_three

pub halves_not_minimal : (f : FunctionData) (h : Halves) → (PassesAll f → ⊥) →
    IsFirstFailure (NotExtreme f h) 2 rules.Minimal
halves_not_minimal f h fails =
    let c = NotExtreme f h in
    failure_of c ProofLine.claim rules.Minimal 2
    (fails_here (holds f h) minimal (continuous ∷ halves_rest h) fails) (number_of_claim c)

pub halves_not_continuous : (f : FunctionData) (h : Halves) → PassesAll f → (IsContinuous f → ⊥) →
    IsFirstFailure (NotExtreme f h) 2 rules.Continuous
halves_not_continuous f h passes fails =
    let c = NotExtreme f h in
    failure_of c ProofLine.claim rules.Continuous 2
    (fails_next (holds f h) minimal (continuous ∷ halves_rest h) ProofLine.claim rules.Continuous
    passes
    (fails_here (holds f h) continuous (halves_rest h) fails))
    (number_of_claim c)

-- the first demand behind the first two that fails
halves_fail : (f : FunctionData) (h : Halves) (l : ProofLine) (r : CheckRule) (n : ℕ) →
    PassesAll f → IsContinuous f →
    FirstFails (holds f h) (halves_rest h) l r → HasNumber (NotExtreme f h) l n →
    IsFirstFailure (NotExtreme f h) n r
halves_fail f h l r n passes is_continuous fails number =
    failure_of (NotExtreme f h) l r n
    (behind_two (NotExtreme f h) (halves_rest h) l r passes is_continuous fails) number

pub halves_scale_fails : (f : FunctionData) (h : Halves) → PassesAll f → IsContinuous f →
    (MeetsScale f h → ⊥) →
    IsFirstFailure (NotExtreme f h) (f.order + 5) rules.Scale
halves_scale_fails f h passes is_continuous fails =
    halves_fail f h ProofLine.halves rules.Scale (f.order + 5) passes is_continuous
    (fails_here (holds f h) scale (all_pairs h ++ last_three) fails) (number_of_halves f h)

pub halves_pair_fails : (f : FunctionData) (h : Halves) (failure : PairFailure) → PassesAll f →
    IsContinuous f → AreHalvesInBounds h →
    MeetsScale f h → FailsPairs f h failure →
    IsFirstFailure (NotExtreme f h) (f.order + 5 + (failure.index + 1)) failure.rule
halves_pair_fails f h failure passes is_continuous b meets fails =
    let l = ProofLine.pair failure.index in
    halves_fail f h l failure.rule (f.order + 5 + (failure.index + 1)) passes is_continuous
    (fails_next (holds f h) scale (all_pairs h ++ last_three) l failure.rule meets
    (fails_in_front (holds f h) (all_pairs h) last_three l failure.rule
    (pairs_break f h failure fails)))
    (number_of_pair f h failure.index b fails.within)

-- the first of the last three that fails
last_fails : (f : FunctionData) (h : Halves) (r : CheckRule) → PassesAll f → IsContinuous f →
    MeetsScale f h →
    ((i : ℕ) → i < h.order → MeetsPair f h i) →
    FirstFails (holds f h) last_three ProofLine.halves r →
    IsFirstFailure (NotExtreme f h) (f.order + 5) r
last_fails f h r passes is_continuous meets pairs fails =
    halves_fail f h ProofLine.halves r (f.order + 5) passes is_continuous
    (fails_next (holds f h) scale (all_pairs h ++ last_three) ProofLine.halves r meets
    (fails_behind (holds f h) (all_pairs h) last_three ProofLine.halves r
    (pairs_hold f h 0 h.order (λ i below. pairs i (omega arith))) fails))
    (number_of_halves f h)

pub halves_first_fails : (f : FunctionData) (h : Halves) → PassesAll f → IsContinuous f →
    MeetsScale f h →
    ((i : ℕ) → i < h.order → MeetsPair f h i) → (IsMinimalHalf f h h.first → ⊥) →
    IsFirstFailure (NotExtreme f h) (f.order + 5) rules.First
halves_first_fails f h passes is_continuous meets pairs fails =
    last_fails f h rules.First passes is_continuous meets pairs
    (fails_here (holds f h) first (second ∷ same ∷ []) fails)

pub halves_second_fails : (f : FunctionData) (h : Halves) → PassesAll f → IsContinuous f →
    MeetsScale f h →
    ((i : ℕ) → i < h.order → MeetsPair f h i) → IsMinimalHalf f h h.first →
    (IsMinimalHalf f h h.second → ⊥) →
    IsFirstFailure (NotExtreme f h) (f.order + 5) rules.Second
halves_second_fails f h passes is_continuous meets pairs one fails =
    last_fails f h rules.Second passes is_continuous meets pairs
    (fails_next (holds f h) first (second ∷ same ∷ []) ProofLine.halves rules.Second one
    (fails_here (holds f h) second (same ∷ []) fails))

pub halves_same_fails : (f : FunctionData) (h : Halves) → PassesAll f → IsContinuous f →
    MeetsScale f h →
    ((i : ℕ) → i < h.order → MeetsPair f h i) → IsMinimalHalf f h h.first →
    IsMinimalHalf f h h.second → (MeetsSame h → ⊥) →
    IsFirstFailure (NotExtreme f h) (f.order + 5) rules.Same
halves_same_fails f h passes is_continuous meets pairs one two fails =
    last_fails f h rules.Same passes is_continuous meets pairs
    (fails_next (holds f h) first (second ∷ same ∷ []) ProofLine.halves rules.Same one
    (fails_next (holds f h) second (same ∷ []) ProofLine.halves rules.Same two
    (fails_here (holds f h) same [] fails)))

pub halves_meet : (f : FunctionData) (h : Halves) → PassesAll f → IsContinuous f → MeetsScale f h →
    ((i : ℕ) → i < h.order → MeetsPair f h i) → IsMinimalHalf f h h.first →
    IsMinimalHalf f h h.second → MeetsSame h →
    MeetsRules (NotExtreme f h)
halves_meet f h passes is_continuous meets pairs one two differ =
    let P = holds f h in
    All-cons P minimal (continuous ∷ halves_rest h) passes
    (All-cons P continuous (halves_rest h) is_continuous
    (All-cons P scale (all_pairs h ++ last_three) meets
    (All-append P (all_pairs h) last_three
    (pairs_hold f h 0 h.order (λ i below. pairs i (omega arith)))
    (All-cons P first (second ∷ same ∷ []) one
    (All-cons P second (same ∷ []) two
    (All-cons P same [] differ (All-nil P)))))))
