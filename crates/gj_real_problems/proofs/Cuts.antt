-- Cuts of problems at real points.
use Rattle.std.proofs.Common.{ℕ, List, [], ◌∷◌, All}
use Rattle.std.proofs.lemmas.List.Elements.{All-nil, All-cons, All-head, All-tail}
use Rattle.gj_fields.specs.Fields.{OrderedField, HasFloor}
use Rattle.gj_problem.specs.declared.problem.Inequality.{Inequality}
use Rattle.gj_problem.specs.declared.problem.Problem.{Problem}
use Rattle.gj_problem.specs.declared.rounding.RoundedCut.TheVariants as rounding
use Rattle.gj_problem.specs.RoundedCuts.{IsRoundedCut}
use Rattle.gj_problem.proofs.MovedEntries.{rounded_of_holds}
use Rattle.gj_safe_cut.specs.declared.cut.SafeCut.{SafeCut}
use Rattle.gj_safe_cut.specs.declared.cut.SafeCut.TheVariants.{Cut, Integral, OtherFraction, Free, Wide}
use Rattle.gj_safe_cut.specs.SafeCuts.{SafeCutHolds}
use Rattle.gj_real_problems.specs.RealProblems.{RealHolds, RealSafeCutHolds}
use Rattle.gj_real_problems.proofs.Transfer.{transferred}
use Rattle.gj_real_problems.proofs.RationalPoints.{returned}

module _ {R : Type 0} (K : OrderedField R) (floors : HasFloor K) where
  pub cut_transferred : (p : Problem) (cut : SafeCut) → SafeCutHolds p cut →
      RealSafeCutHolds K p cut
  cut_transferred p (Cut q) h = transferred K floors p q h
  cut_transferred p Integral h = tt
  cut_transferred p OtherFraction h = tt
  cut_transferred p (Free j) h = tt
  cut_transferred p Wide h = tt

  pub cuts_transferred : (p : Problem) (cuts : List SafeCut) → All (SafeCutHolds p) cuts →
      All (RealSafeCutHolds K p) cuts
  cuts_transferred p [] h = All-nil (RealSafeCutHolds K p)
  cuts_transferred p (cut ∷ cuts) h =
      All-cons (RealSafeCutHolds K p) cut cuts
      (cut_transferred p cut (All-head (SafeCutHolds p) cut cuts h))
      (cuts_transferred p cuts (All-tail (SafeCutHolds p) cut cuts h))

  pub rounded_transferred : (p : Problem) (n : ℕ) (q rounded : Inequality) → RealHolds K p q →
      IsRoundedCut p n q rounded →
      RealHolds K p rounded
  rounded_transferred p n q rounded holds is =
      transferred K floors p rounded
      (rounded_of_holds p n q (rounding.Cut rounded) is (returned K p q holds))
