-- Claims that hold, over all numbers of a field with floors.
use Rattle.std.proofs.Common.{◌*◌}
use Rattle.gj_shape.specs.FunctionData.{FunctionData, IsContinuous, IsWithinBounds, at}
use Rattle.gj_shape.specs.Extreme.{IsExtreme}
use Rattle.gj_shape.specs.Table.{table, IsMinimal}
use Rattle.gj_shape.specs.declared.extremality.Halves.{Halves}
use Rattle.gj_shape.proofs.TableLemmas.{pieces_of}
use Rattle.gj_theory.proofs.Fillings.{halves_deny}
use Rattle.gj_theory.proofs.Violations.{violation_denies}
use Rattle.gj_proof.specs.Meaning.{ClaimHolds, ShowHalves}
use Rattle.gj_proof.specs.ProofText.{IsBounded}
use Rattle.gj_proof.specs.declared.claim.Claim.{Claim}
use Rattle.gj_proof.specs.declared.claim.Claim.TheVariants.{Minimal, NotMinimal, Cut, Extreme, ExtremeByResidues, NotExtreme}
use Rattle.gj_jumps.proofs.Decision.{extreme_by_cover, covered_by_extreme}
use Rattle.gj_jumps.proofs.WholeSolutions.{only_zero_whole, only_zero_in_field}
use Rattle.gj_limit_averages.specs.Averages.{IsExtremeFunction}
use Rattle.gj_limit_averages.proofs.FromAverages.{conditions_of_extreme}
use Rattle.gj_limit_averages.proofs.FromConditions.{extreme_from_conditions}
use Rattle.gj_limit_proof.specs.LimitMeaning.{LimitClaimHolds}
use Rattle.gj_limit_proof.specs.LimitText.{IsBounded as IsLimitBounded}
use Rattle.gj_limit_proof.specs.declared.claim.LimitClaim.{LimitClaim}
use Rattle.gj_limit_proof.specs.declared.claim.LimitClaim.TheVariants as limit
use Rattle.gj_top.proofs.LimitExtremality.{halves_deny as limit_halves_deny}
use Rattle.gj_fields.specs.Fields.{OrderedField, HasFloor}
use Rattle.gj_fields.proofs.Floors.{rules_of_minimal}
use Rattle.gj_fields.proofs.FromRules.{rules_minimal}
use Rattle.gj_reals.specs.RealFunctions.{real_function, real_place}
use Rattle.gj_reals.proofs.AtReals.{rules_at_reals}
use Rattle.gj_reals.proofs.AtFractions.{rules_give_minimal}
use Rattle.gj_reals.proofs.ExtremeAtReals.{extreme_there}
use Rattle.gj_reals.proofs.OnlyExtremeAtReals.{extreme_from_reals}
use Rattle.gj_real_answers.specs.RealMeaning.{IsRealExtreme, IsRealMinimal, RealClaimHolds, RealLimitClaimHolds}

module _ {R : Type 0} (K : OrderedField R) (floors : HasFloor K) where
  module _ (f : FunctionData) (bounds : IsWithinBounds f) where
    pub minimal_at_reals : IsMinimal f → IsRealMinimal K floors f
    minimal_at_reals h =
        rules_minimal K (real_function K floors f) (real_place K f)
        (rules_at_reals K floors f (pieces_of bounds) h)

    pub minimal_from_reals : IsRealMinimal K floors f → IsMinimal f
    minimal_from_reals h =
        rules_give_minimal K floors f (pieces_of bounds)
        (rules_of_minimal K floors (real_function K floors f) (real_place K f) h)

    pub extreme_at_reals : IsContinuous f → IsExtreme f → IsRealExtreme K floors f
    extreme_at_reals c h =
        (minimal_at_reals (λ m some. (h m some).minimal), extreme_there K floors f bounds c h)

    shown_halves_deny : (h : Halves) → ShowHalves f h → IsExtreme f → ⊥
    shown_halves_deny h (m, c, some, order, scale, halves) extreme =
        halves_deny (table f m) (f.order * m) (f.place * m) (f.scale * m) c (at h.first)
        (at h.second)
        halves (extreme m some)

  pub claim_at_reals : (c : Claim) → IsBounded c → ClaimHolds c → RealClaimHolds K floors c
  claim_at_reals (Minimal f) bounds h = minimal_at_reals f bounds h
  claim_at_reals (NotMinimal f v) bounds h =
      λ real. violation_denies f v bounds h (minimal_from_reals f bounds real)
  claim_at_reals (Cut r rows) bounds h = h
  claim_at_reals (Extreme f lines rows) bounds h = extreme_at_reals f bounds h.0 h.1
  claim_at_reals (ExtremeByResidues f lines rows) bounds h = extreme_at_reals f bounds h.0 h.1
  claim_at_reals (NotExtreme f halves) bounds h = (
    minimal_at_reals f bounds h.1,
    λ real. shown_halves_deny f bounds halves h.2 (extreme_from_reals K floors f bounds h.0 real.1),
  )

  -- ---- functions that may jump

  module _ (f : FunctionData) (bounds : IsWithinBounds f) where
    pub extreme_function_at_reals : IsExtremeFunction f → IsRealExtreme K floors f
    extreme_function_at_reals h =
        let solved = conditions_of_extreme f bounds h in (
          minimal_at_reals f bounds h.minimal,
          extreme_by_cover K floors f bounds solved.minimal solved.covered
              (only_zero_in_field K f bounds solved.only_zero),
        )

    pub extreme_function_from_reals : IsRealExtreme K floors f → IsExtremeFunction f
    extreme_function_from_reals h =
        let all = covered_by_extreme K floors f bounds h.1 in
        extreme_from_conditions f bounds
        (record { minimal = all.0; covered = all.1; only_zero = only_zero_whole K f all.2 })

  pub limit_claim_at_reals : (c : LimitClaim) → IsLimitBounded c → LimitClaimHolds c →
      RealLimitClaimHolds K floors c
  limit_claim_at_reals (limit.Extreme numbers f lines rows) bounds h =
      extreme_function_at_reals f bounds h
  limit_claim_at_reals (limit.NotExtreme f halves) bounds h = (
    minimal_at_reals f bounds h.0,
    λ real. limit_halves_deny f halves h.1 (extreme_function_from_reals f bounds real),
  )
