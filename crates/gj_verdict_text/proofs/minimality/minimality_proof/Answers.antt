use Rattle.std.proofs.Common.{refl, sym, subst}
use Rattle.gj_check.proofs.DemandsOfClaims.{minimal_rules, point_rules}
use Rattle.gj_proof.proofs.GridCoordinates.{meets_point}
use Rattle.gj_proof.specs.ProofText.{IsBounded}
use Rattle.gj_verdict_text.specs.MinimalityClaim.{IsMinimalityClaim}
use Rattle.gj_verdict_text.proofs.minimality.minimality_proof.Goals as goal

pub returns-in-Some : goal.returns-in-Some
returns-in-Some c =
    let found = c.in-Some.ensures in
    record {
      claim = subst (IsMinimalityClaim c.args.shape) (sym c.of-in-Some.ensures.claim) (
        refl,
        found.first,
        found.shown,
        (point_rules c.args.shape c.in-Some.violation).0
            (meets_point c.args.shape c.in-Some.violation found.points.0 found.points.2
            found.points.3 found.shown),
      );
      bounded = subst IsBounded (sym c.of-in-Some.ensures.claim) found.limits;
    }

pub returns-in-None : goal.returns-in-None
returns-in-None c =
    record {
      claim = subst (IsMinimalityClaim c.args.shape) (sym c.of.ensures.claim)
          (refl, c.in-None.ensures.minimal, (minimal_rules c.args.shape).0 c.in-None.ensures.none);
      bounded = subst IsBounded (sym c.of.ensures.claim) c.in-None.ensures.limits;
    }
