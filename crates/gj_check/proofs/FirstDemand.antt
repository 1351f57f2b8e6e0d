-- The first demand on a claim that fails.
use Rattle.std.proofs.Common.{◌≡◌, ℕ, List, [], ◌∷◌, ◌++◌, All, refl, sym, subst}
use Rattle.std.proofs.lemmas.List.Elements.{All-nil, All-cons}
use Rattle.gj_lemmas.specs.FirstThatFails.{IsFirstFailing}
use Rattle.gj_lemmas.proofs.FirstThatFails.{first_failing, first_failing_in_front, first_failing_in_back}
use Rattle.gj_proof.specs.declared.claim.Claim.{Claim}
use Rattle.gj_proof.specs.ProofText.{ProofLine, HasNumber}
use Rattle.gj_proof.specs.Rules.{Demand, demands_of, line_of_demand, DemandHolds}
use Rattle.gj_check.specs.declared.rules.CheckRule.{CheckRule}
use Rattle.gj_check.specs.FirstFailure.{rule_of, IsFirstFailure}

-- the first of some demands that fails: its line and its rule
pub record FirstFails (P : Demand → Type 0) (demands : List Demand) (l : ProofLine)
    (r : CheckRule) : Type 0 where
  pub before : List Demand
  pub demand : Demand
  pub first : IsFirstFailing (All P) demands before demand
  pub line_is : line_of_demand demand ≡ l
  pub rule_is : r ≡ rule_of demand

pub fails_here : (P : Demand → Type 0) (d : Demand) (more : List Demand) → (P d → ⊥) →
    FirstFails P (d ∷ more) (line_of_demand d) (rule_of d)
fails_here P d more fails = record {
  before = [];
  demand = d;
  first = first_failing P (d ∷ more) [] more d refl (All-nil P) fails;
  line_is = refl;
  rule_is = refl;
}

pub fails_behind : (P : Demand → Type 0) (xs ys : List Demand) (l : ProofLine) (r : CheckRule) →
    All P xs → FirstFails P ys l r → FirstFails P (xs ++ ys) l r
fails_behind P xs ys l r all h = record {
  before = xs ++ h.before;
  demand = h.demand;
  first = first_failing_in_back P xs ys h.before h.demand all h.first;
  line_is = h.line_is;
  rule_is = h.rule_is;
}

pub fails_next : (P : Demand → Type 0) (d : Demand) (ys : List Demand) (l : ProofLine)
    (r : CheckRule) → P d → FirstFails P ys l r → FirstFails P (d ∷ ys) l r
fails_next P d ys l r holds h =
    fails_behind P (d ∷ []) ys l r (All-cons P d [] holds (All-nil P)) h

pub fails_in_front : (P : Demand → Type 0) (xs ys : List Demand) (l : ProofLine) (r : CheckRule) →
    FirstFails P xs l r → FirstFails P (xs ++ ys) l r
fails_in_front P xs ys l r h = record {
  before = h.before;
  demand = h.demand;
  first = first_failing_in_front (All P) xs ys h.before h.demand h.first;
  line_is = h.line_is;
  rule_is = h.rule_is;
}

-- of all demands of a claim
pub failure_of : (c : Claim) (l : ProofLine) (r : CheckRule) (n : ℕ) →
    FirstFails (DemandHolds c) (demands_of c) l r → HasNumber c l n → IsFirstFailure c n r
failure_of c l r n h number = record {
  before = h.before;
  demand = h.demand;
  first = h.first;
  rule_is = h.rule_is;
  number = subst (λ k. HasNumber c k n) (sym h.line_is) number;
}
