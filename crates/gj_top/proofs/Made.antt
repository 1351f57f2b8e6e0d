-- From what came of making a function to the reply of the command that makes it.
use Rattle.std.proofs.Common.{◌≡◌, ◌≢◌, ◌↔◌, ◌*◌, ◌<◌, ℕ, List, Result, Ok, Err, IfOk, refl}
use Rattle.gj_shape.specs.Limits.{greatest_order}
use Rattle.gj_shape.specs.FunctionData.{FunctionData, IsWithinBounds, IsContinuous}
use Rattle.gj_shape.specs.Extreme.{IsExtreme}
use Rattle.gj_shape.specs.Table.{IsMinimal}
use Rattle.gj_transform.specs.declared.faults.TransformFault.{TransformFault}
use Rattle.gj_transform.specs.declared.faults.TransformFault.TheVariants as fault
use Rattle.gj_transform.specs.Transforms.{IsTimesOf, IsMirrorOf, IsRestrictionOf, HasNoRestriction}
use Rattle.gj_limit_averages.proofs.SameVerdicts.{mirrored_extreme}
use Rattle.gj_top.specs.declared.reply.End.{End}
use Rattle.gj_top.specs.declared.reply.End.TheVariants as end
use Rattle.gj_top.specs.Continuity.{IsContinuousReply}
use Rattle.gj_top.specs.Task.{EndsDone}
use Rattle.gj_top.specs.Transform.{IsMadeReply, IsTimesReply, IsMirrorText, IsRestrictionReply}

pub times_made : (n j : ℕ) (f : FunctionData) (made : Result FunctionData TransformFault) (e : End)
    (text : List ℕ) →
    IfOk made (IsTimesOf f n j) → IfOk made IsWithinBounds →
    IfOk made (λ g. IsMinimal f ↔ IsMinimal g) →
    ((made ≡ Err fault.OrderLimit) ↔ (greatest_order < f.order * n)) → made ≢ Err fault.BadOrder →
    IsMadeReply made e text → IsTimesReply n j f e text
times_made n j f (Ok g) end.Done text is within minimal limit never h =
    record { function = g; is_times = is; within = within; minimal = minimal; spelled = h }
times_made n j f (Err fault.OrderLimit) end.OrderLimit text is within minimal limit never h =
    (limit.0 refl, h)
times_made n j f (Err fault.BadOrder) e text is within minimal limit never h = absurd (never refl)
times_made n j f (Ok g) e text is within minimal limit never h = absurd h
times_made n j f (Err fault.OrderLimit) e text is within minimal limit never h = absurd h
times_made n j f (Err (fault.Memory a)) e text is within minimal limit never h = absurd h

pub mirror_made : (f g : FunctionData) (e : End) (text : List ℕ) → IsWithinBounds f →
    IsMirrorOf f g → IsWithinBounds g → (IsMinimal f ↔ IsMinimal g) → (IsExtreme f ↔ IsExtreme g) →
    IsMadeReply (Ok g) e text → EndsDone IsMirrorText f e text
mirror_made f g end.Done text bounds is within minimal extreme h = record {
  function = g;
  is_mirror = is;
  within = within;
  minimal = minimal;
  extreme = extreme;
  extreme_with_jumps = mirrored_extreme f g bounds within is;
  spelled = h;
}
mirror_made f g e text bounds is within minimal extreme h = absurd h

pub restriction_made : (d : ℕ) (f : FunctionData) (made : Result FunctionData TransformFault)
    (e : End) (text : List ℕ) → IsContinuous f →
    IfOk made (IsRestrictionOf f d) → IfOk made IsWithinBounds →
    IfOk made (λ g. IsMinimal f → IsMinimal g) →
    ((made ≡ Err fault.BadOrder) ↔ HasNoRestriction f d) → made ≢ Err fault.OrderLimit →
    IsMadeReply made e text → IsContinuousReply (IsRestrictionReply d) f e text
restriction_made d f (Ok g) end.Done text continuous is within minimal bad never h = (
  continuous,
  record {
    continuous = continuous;
    function = g;
    is_restriction = is;
    within =
        within;
    minimal = minimal;
    spelled = h;
  },
)
restriction_made d f (Err fault.BadOrder) end.BadOrder text continuous is within minimal bad never
    h = (continuous, (bad.0 refl, h))
restriction_made d f (Err fault.OrderLimit) e text continuous is within minimal bad never h =
    absurd (never refl)
restriction_made d f (Ok g) e text continuous is within minimal bad never h = absurd h
restriction_made d f (Err fault.BadOrder) e text continuous is within minimal bad never h = absurd h
restriction_made d f (Err (fault.Memory a)) e text continuous is within minimal bad never h =
    absurd h
