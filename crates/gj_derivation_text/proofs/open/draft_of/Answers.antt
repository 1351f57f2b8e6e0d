use Rattle.std.proofs.Common.{ap}
use Rattle.gj_derivation.specs.declared.draft.Claim.{Claim}
use Rattle.gj_derivation.specs.declared.draft.Draft.{Draft}
use Rattle.gj_derivation_text.proofs.open.draft_of.Goals as goal

pub returns : goal.returns
returns c =
    let s = c.args.step in (
      c.factor_of.result,
      c.factor_of.ensures,
      λ i. record {
        combination = record {
          «rule» = s.rule;
          multipliers = s.multipliers;
          at_upper =
              s.at_upper;
          factor = c.factor_of.result;
        };
        claim = c.claim_of.ensures i;
      },
    )
