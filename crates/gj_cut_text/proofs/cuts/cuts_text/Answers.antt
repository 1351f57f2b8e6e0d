use Rattle.std.proofs.Common.{refl}
use Rattle.gj_proof.proofs.ProofWritten.{proof_written}
use Rattle.gj_proof.specs.declared.claim.Claim.TheVariants as claim
use Rattle.gj_cut_text.proofs.CutClaims.{claim_of_lines}
use Rattle.gj_cut_text.proofs.CutLines.{lines_alone, makes_whole}
use Rattle.gj_cut_text.proofs.cuts.cuts_text.Goals as goal

pub push_row_lines-requires-clause-makes : goal.push_row_lines-requires-clause-makes
push_row_lines-requires-clause-makes c = makes_whole c.args.rule.now c.requires.tests.makes_cuts

pub returns : goal.returns
returns c =
    let rule = c.args.rule.now in
    let tableau = c.args.tableau.now in
    let (lines, lines_are, appended) = lines_alone rule tableau.columns tableau.rows _ _
    c.in_ok-push_row_lines.ensures in
    let cuts = claim.Cut rule lines in
    record {
      claim = cuts;
      is_claim = claim_of_lines rule tableau lines c.requires.tests c.requires.tableau lines_are;
      spelled = proof_written cuts cuts _ _ _ _ refl tt c.in_ok-text.ensures.items
          c.in_ok-push_rule_lines.ensures appended c.in_ok-extend_from_slice.ensures.items;
    }
