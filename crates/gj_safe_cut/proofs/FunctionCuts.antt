-- A cut by a function and its slopes at 0 is one by the function, and so with a number that does
-- not fit.
use Rattle.std.proofs.Common.{◌≡◌, IfOk, sym, subst, subst₂}
use Rattle.std.proofs.lemmas.Result.{IfOk-weaker}
use Rattle.std.specs.declared.alloc.AllocError.{AllocError}
use Rattle.std.specs.declared.result.Result.{Result}
use Rattle.gj_frac.specs.declared.Frac.{Frac}
use Rattle.gj_shape.specs.FunctionData.{FunctionData, IsWithinBounds}
use Rattle.gj_mixed.specs.Slopes.{AreSlopesAtZero}
use Rattle.gj_mixed.proofs.OneSlopes.{one_up_at_zero, one_down_at_zero}
use Rattle.gj_safe_cut.specs.SafeCuts.{TellsWide}
use Rattle.gj_safe_cut.specs.declared.cut.SafeCut.{SafeCut}
use Rattle.gj_safe_cut.specs.declared.cut.SafeCut.TheVariants.{Wide}

-- what is a cut by a function and two slopes
module _ (IsCut : FunctionData → Frac → Frac → SafeCut → Type 0) where
  -- the slopes are those at 0
  abbrev pub IsBySlopes : FunctionData → SafeCut → Type 0
  IsBySlopes f cut = (up : Frac) × (down : Frac) × AreSlopesAtZero f up down × IsCut f up down cut

  module _ (f g : FunctionData) (up down : Frac) (same : g ≡ f) (slopes : AreSlopesAtZero f up down)
      (result : Result SafeCut AllocError) where
    pub by_slopes : IfOk result (IsCut g up down) → IfOk result (IsBySlopes f)
    by_slopes = IfOk-weaker result (IsCut g up down) (IsBySlopes f)
        (λ (cut : SafeCut) is. (
          up,
          down,
          slopes,
          subst (λ (h : FunctionData). IsCut h up down cut) same is,
        ))

    pub tells_by_slopes : IsWithinBounds f → IfOk result (TellsWide (IsCut g up down)) →
        IfOk result (TellsWide (IsBySlopes f))
    tells_by_slopes bounds = IfOk-weaker result (TellsWide (IsCut g up down))
        (TellsWide (IsBySlopes f))
        (λ (cut : SafeCut) tells (up', down', slopes', wide).
        tells (subst (λ (h : FunctionData). IsCut h up down Wide) (sym same)
        (subst₂ (λ (u d : Frac). IsCut f u d Wide)
        (one_up_at_zero f up' up down' down bounds slopes' slopes)
        (one_down_at_zero f up' up down' down bounds slopes' slopes) wide)))
