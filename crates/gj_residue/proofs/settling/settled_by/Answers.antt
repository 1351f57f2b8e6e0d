use Rattle.std.proofs.Common.{sym, subst}
use Rattle.gj_theory.specs.TriangularRows.{AreTriangular}
use Rattle.gj_residue.specs.Settled.{IsKernelOf}
use Rattle.gj_residue.proofs.SettledRows.{kernel_of_basis}
use Rattle.gj_residue.proofs.settling.settled_by.Goals as goal

pub returns-in-Some-clause-settled : goal.returns-in-Some-clause-settled
returns-in-Some-clause-settled c =
    subst (IsKernelOf c.args.basis.columns c.args.basis.kept) (sym c.of-in-Some.ensures)
    (kernel_of_basis c.args.basis.columns c.args.basis.kept c.in_ok-kernel.field-0 c.in-Some.numbers
    (subst (λ d. AreTriangular d.columns d.kept) c.basis.view_is c.basis.invariant.kept.triangular)
    c.in_ok-kernel.ensures.none.1
    c.in-Some.is c.in_ok-kernel.ensures.value c.in_ok-kernel.ensures.narrow)
