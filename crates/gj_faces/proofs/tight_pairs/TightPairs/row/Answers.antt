use Rattle.std.proofs.Common.{◌∙◌, ap, sym, arith}
use Rattle.std.proofs.lemmas.List.{get_or_default}
use Rattle.gj_loops.specs.IndexSets.{has, no_set}
use Rattle.gj_faces.proofs.PairRows.{tight_at}
use Rattle.gj_faces.proofs.tight_pairs.TightPairs.row.Goals as goal

pub returns-clause-tells : goal.returns-clause-tells
returns-clause-tells c b below =
    let pairs = c.args.self.now in
    let whole = c.args.self.now.whole in
    let same = c.index.ensures ∙ get_or_default pairs.rows.items c.args.a c.index.result.now no_set
    (omega arith) in
    let bit = ap (λ row. has row b) same in
    let both = tight_at pairs c.args.a b c.requires below in
    (λ yes. both.0 (sym bit ∙ yes), λ tight. bit ∙ both.1 tight)

pub returns-clause-within : goal.returns-clause-within
returns-clause-within c b past =
    let pairs = c.args.self.now in
    let whole = c.args.self.now.whole in
    let same = c.index.ensures ∙ get_or_default pairs.rows.items c.args.a c.index.result.now no_set
    (omega arith) in
    ap (λ row. has row b) same ∙ pairs.within c.args.a b past
