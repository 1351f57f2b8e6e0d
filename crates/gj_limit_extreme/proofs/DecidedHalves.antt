-- The halves that the decision gives show that the function is not extreme.
use Rattle.std.proofs.Common.{◌⊎◌, inl, inr, arith}
use Rattle.gj_shape.specs.FunctionData.{FunctionData, IsWithinBounds}
use Rattle.gj_shape.specs.Table.{IsMinimal}
use Rattle.gj_shape.specs.declared.extremality.LimitHalves.{LimitHalves}
use Rattle.gj_limit_proof.specs.LimitMeaning.{ShowLimitHalves}
use Rattle.gj_limit_extreme.specs.Decision.{AreZigzagHalves, AreKernelHalves, class_zigzag, kernel_limits}
use Rattle.gj_limit_extreme.proofs.KernelLimits.{kernel_perturbs}
use Rattle.gj_limit_extreme.proofs.ShownHalves.{show_halves}
use Rattle.gj_limit_extreme.proofs.Zigzags.{zigzag_is_perturbation, zigzag_some}

pub decided_halves : (f : FunctionData) (h : LimitHalves) → IsWithinBounds f → IsMinimal f →
    AreZigzagHalves f h ⊎ AreKernelHalves f h → ShowLimitHalves f h
decided_halves f h bounds minimal (inl zig) =
    show_halves f 4 (class_zigzag f zig.intervals) h zig.halves bounds minimal (omega arith)
    (zigzag_is_perturbation f zig.intervals zig.least zig.some bounds minimal)
    (zigzag_some f zig.intervals zig.least zig.some)
decided_halves f h bounds minimal (inr by_kernel) =
    let is = kernel_perturbs f by_kernel.cover by_kernel.component by_kernel.solution bounds
    by_kernel.covered by_kernel.solves in
    show_halves f 1 (kernel_limits f by_kernel.component by_kernel.solution) h by_kernel.halves
    bounds minimal (omega arith)
    is.perturbation is.some
