-- The demands of a claim that a function that may jump is extreme: when all hold, and which is the
-- first that fails.
use Rattle.std.proofs.Common.{◌≡◌, ◌≢◌, ℕ, ◌+◌, ◌<◌, List, [], ◌∷◌, ◌++◌, All, length, map, refl, sym, ap, ◌∙◌, arith}
use Rattle.std.specs.List.{range_with_len}
use Rattle.std.proofs.lemmas.List.Elements.{All-nil, All-cons, All-append}
use Rattle.gj_lemmas.proofs.FirstThatFails.{first_failing_in_map, first_failing_in_range}
use Rattle.gj_lemmas.proofs.Lists.{All-made}
use Rattle.gj_shape.specs.Additive.{IsTight}
use Rattle.gj_shape.specs.FunctionData.{FunctionData, IsWithinBounds}
use Rattle.gj_shape.specs.FirstViolation.{PassesAll}
use Rattle.gj_shape.specs.SlopeRows.{component_in}
use Rattle.gj_shape.specs.declared.extremality.CoverLine.{CoverLine}
use Rattle.gj_theory.proofs.LineComponents.{one_component}
use Rattle.gj_limit_system.specs.Unknowns.{columns_for}
use Rattle.gj_proof.specs.declared.numbers.Numbers.{Numbers}
use Rattle.gj_proof.specs.ProofText.{ProofLine, modulus_lines}
use Rattle.gj_proof.specs.Rules.{Demand, line_of_demand}
use Rattle.gj_proof.specs.Rules.Demand.{minimal, cover, rank}
use Rattle.gj_proof.proofs.AtPlaces.{split_there}
use Rattle.gj_check_groups.specs.declared.failure.GroupFailure.{GroupFailure}
use Rattle.gj_check_groups.proofs.ClaimGroups.{IsNumbering}
use Rattle.gj_check.specs.declared.rules.CheckRule.TheVariants as rules
use Rattle.gj_check.specs.GroupRules.{rule_on_groups}
use Rattle.gj_check.proofs.ExtremeDemands.{rule_named}
use Rattle.gj_limit_proof.specs.declared.claim.LimitClaim.{LimitClaim}
use Rattle.gj_limit_proof.specs.declared.claim.LimitClaim.TheVariants.{Extreme}
use Rattle.gj_limit_proof.specs.declared.claim.LimitPivotRow.{LimitPivotRow}
use Rattle.gj_limit_proof.specs.LimitRules.{group_demands_by, DemandHolds, MeetsLimitRules}
use Rattle.gj_limit_proof.specs.LimitText.{group_lines}
use Rattle.gj_limit_check_groups.specs.LimitGroups.{LimitGroupHolds, IsFirstLimitGroupFailure}
use Rattle.gj_limit_check.specs.declared.cover_lines.Components.{Components}
use Rattle.gj_limit_check.specs.FirstFailure.{IsFirstLimitFailure}
use Rattle.gj_limit_check.specs.LimitCoverLines.{MeetsCover, AreComponentsOf, IsFirstBroken}
use Rattle.gj_limit_check.proofs.ClaimLimitGroups.{groups_hold, groups_fail}
use Rattle.gj_check.proofs.FirstDemand.{FirstFails, fails_here, fails_behind, fails_next, fails_in_front}
use Rattle.gj_limit_check.proofs.FirstLimitDemand.{failure_of}
use Rattle.gj_limit_check.proofs.PlainClaims.{number_of_cover_line, number_of_end}
use Rattle.gj_limit_check.proofs.PlainRules.{zero_function, MeetLimitCovers, plain_rules}
use Rattle.gj_limit_proof.proofs.LimitLineNumbers.{number_of_claim}

module _ (numbers : Numbers) (f : FunctionData) (lines : List CoverLine)
    (rows : List LimitPivotRow) where
  abbrev claim : LimitClaim
  claim = Extreme numbers f lines rows

  abbrev P : Demand → Type 0
  P = DemandHolds claim

  abbrev covers : List Demand
  covers = map cover (range_with_len 0 (length lines))

  abbrev groups : List Demand
  groups = group_demands_by numbers 0 rows

  -- ---- minimality and cover lines

  pub extreme_not_minimal : (PassesAll f → ⊥) → IsFirstLimitFailure claim 2 rules.Minimal
  extreme_not_minimal fails =
      failure_of claim ProofLine.claim rules.Minimal 2
      (fails_here P minimal (covers ++ groups ++ rank ∷ []) fails) (number_of_claim claim)

  cover_breaks : (i : ℕ) → IsFirstBroken f lines i →
      FirstFails P covers (ProofLine.covered i) rules.Cover
  cover_breaks i h =
      let split = split_there lines i h.within in
      record {
        before = map cover (range_with_len 0 i);
        demand = cover i;
        first = first_failing_in_map P cover (range_with_len 0 (length lines))
            (range_with_len 0 i) i
            (first_failing_in_range (λ j. P (cover j)) i (length lines) h.within h.before
            (λ meets. h.here split.before split.item split.after split.place split.index
            (meets split.before split.item split.after split.place split.index)));
        line_is = refl;
        rule_is = refl;
      }

  pub extreme_cover_broken : (i : ℕ) → PassesAll f → IsFirstBroken f lines i →
      IsFirstLimitFailure claim (f.order + 5 + i) rules.Cover
  extreme_cover_broken i passes h =
      let l = ProofLine.covered i in
      failure_of claim l rules.Cover (f.order + 5 + i)
      (fails_next P minimal (covers ++ groups ++ rank ∷ []) l rules.Cover passes
      (fails_in_front P (covers ++ groups) (rank ∷ []) l rules.Cover
      (fails_in_front P covers groups l rules.Cover (cover_breaks i h))))
      (number_of_cover_line numbers f lines rows i h.within)

  -- ---- groups, with the numbers of components

  module _ (c : Components) (bounds : IsWithinBounds f) (passes : PassesAll f) (meet : (i : ℕ) →
      MeetsCover f lines i)
      (are : AreComponentsOf f lines c) where
    abbrev component : ℕ → ℕ
    component = component_in c.number.items

    abbrev H : Demand → Type 0
    H = LimitGroupHolds numbers f component (columns_for f.order c.count) rows

    some : 0 < f.order
    some = omega (arith, bounds.order_low)

    numbering : IsNumbering f lines component c.count
    numbering =
        let rules_of : MeetLimitCovers f lines =
        λ before l after place. meet (length before) before l after place refl in
        record {
          numbers = are.numbers;
          only = λ other others i low.
              one_component f.order (IsTight (zero_function f.order)) lines i (other i)
              (component i) (plain_rules f lines rules_of)
              (others i low) (are.numbers i low);
          count = are.count;
        }

    covers_hold : All P covers
    covers_hold = All-made P cover 0 (length lines) (λ i below. meet i)

    pub extreme_group_fails : (failure : GroupFailure) →
        IsFirstLimitGroupFailure numbers f component (columns_for f.order c.count) rows failure →
        IsFirstLimitFailure claim
        (f.order + length lines + 5 + length (modulus_lines numbers) + failure.below)
        (rule_on_groups failure.rule)
    extreme_group_fails failure h =
        let r = rule_on_groups failure.rule in
        let group = groups_fail numbers f lines component c.count rows numbering some failure h in
        let l = line_of_demand group.demand in
        let here : FirstFails P groups l r = record {
          before = group.before;
          demand = group.demand;
          first = group.first;
          line_is = refl;
          rule_is = rule_named failure.rule group.demand group.rule_is;
        } in
        failure_of claim l r
        (f.order + length lines + 5 + length (modulus_lines numbers) + failure.below)
        (fails_next P minimal (covers ++ groups ++ rank ∷ []) l r passes
        (fails_in_front P (covers ++ groups) (rank ∷ []) l r
        (fails_behind P covers groups l r covers_hold here)))
        group.number

    -- all demands before the last
    groups_met : All H groups → All P (covers ++ groups)
    groups_met h =
        All-append P covers groups covers_hold
        (groups_hold numbers f lines component c.count rows numbering some h)

    pub extreme_rank_fails : All H groups → length rows ≢ columns_for f.order c.count →
        IsFirstLimitFailure claim
        (f.order + 5 + length lines + length (modulus_lines numbers) + length
        (group_lines 0 rows)) rules.Rank
    extreme_rank_fails h other =
        failure_of claim ProofLine.last rules.Rank
        (f.order + 5 + length lines + length (modulus_lines numbers) + length (group_lines 0 rows))
        (fails_next P minimal (covers ++ groups ++ rank ∷ []) ProofLine.last rules.Rank passes
        (fails_behind P (covers ++ groups) (rank ∷ []) ProofLine.last rules.Rank (groups_met h)
        (fails_here P rank []
        (λ full. other (full ∙ ap (columns_for f.order) (sym are.count))))))
        (number_of_end numbers f lines rows)

    pub extreme_meets : All H groups → length rows ≡ columns_for f.order c.count →
        MeetsLimitRules claim
    extreme_meets h full =
        All-cons P minimal (covers ++ groups ++ rank ∷ []) passes
        (All-append P (covers ++ groups) (rank ∷ []) (groups_met h)
        (All-cons P rank [] (full ∙ ap (columns_for f.order) are.count) (All-nil P)))
