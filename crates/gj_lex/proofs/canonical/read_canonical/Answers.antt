use Rattle.gj_lex.proofs.CanonicalTexts.{canonical_only, same_pair, within_bits}
use Rattle.gj_lex.proofs.canonical.read_canonical.Goals as goal

pub returns-clause-only : goal.returns-clause-only
returns-clause-only c = λ x e.
    let read = c.in_ok-num.ensures.only x.num x.den x.lowest.num_fits x.lowest.den_fits
    x.lowest.positive e in
    let parts = same_pair _ _ read in
    canonical_only _ x _ _
    (within_bits _ _ parts.0 x.lowest.num_fits)
    (within_bits _ _ parts.1 x.lowest.den_fits)
    c.in_lowest_terms.ensures.only
    c.in_lowest_terms.ensures.found
