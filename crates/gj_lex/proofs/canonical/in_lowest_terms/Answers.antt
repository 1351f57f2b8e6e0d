use Rattle.std.proofs.Common.{◌≡◌, pos, neg_ℤ, unsigned_abs, to_z, of_z, sym, ap, subst₂, ◌∙◌, rules, arith}
use Rattle.std.proofs.lemmas.Int.{ints, to_z-of_z}
use Rattle.gj_frac.specs.Fraction.{IsRatio}
use Rattle.gj_lex.proofs.CanonicalTexts.{lowest_parts, lowest_size, same_numerator, turned_parts}
use Rattle.gj_lex.proofs.canonical.in_lowest_terms.Goals as goal
use mir.Syntax.{w128}

pub returns-then-den-clause-only : goal.returns-then-den-clause-only
returns-then-den-clause-only c = λ lowest.
    let num = to_z-of_z w128 c.args.num c.ranges.num in
    let den = to_z-of_z w128 c.args.den c.ranges.den in
    let den_low = simp den at c.in-Ok-Ok.ensures'.0 in
    let den_size = simp den at c.in-Ok-Ok.ensures'.1 in
    let den_is : pos c.in-Ok-Ok.bottom ≡ c.args.den = omega (arith, ints) in
    let size_is : pos c.in-Ok-Ok.size ≡ pos (unsigned_abs c.args.num) =
    ap pos (c.in-Ok-Ok.ensures.1 ∙ c.unsigned_abs.ensures.value ∙ ap unsigned_abs num) in
    let made = subst₂ (IsRatio c.of_small-x.result) size_is den_is c.of_small-x.ensures in
    let parts = lowest_parts c.of_small-x.result _ _ made
    (lowest_size c.args.num c.args.den lowest) in
    absurd (c.if-den.true (ap (of_z w128) (c.den.ensures ∙ parts.1)))

pub returns-then-num-lt0-clause-found : goal.returns-then-num-lt0-clause-found
returns-then-num-lt0-clause-found c =
    let num = to_z-of_z w128 c.args.num c.ranges.num in
    let den = to_z-of_z w128 c.args.den c.ranges.den in
    let den_low = simp den at c.in-Ok-Ok.ensures'.0 in
    let den_size = simp den at c.in-Ok-Ok.ensures'.1 in
    let den_is : pos c.in-Ok-Ok.bottom ≡ c.args.den = omega (arith, ints) in
    let size_is : pos c.in-Ok-Ok.size ≡ pos (unsigned_abs c.args.num) =
    ap pos (c.in-Ok-Ok.ensures.1 ∙ c.unsigned_abs.ensures.value ∙ ap unsigned_abs num) in
    let made = subst₂ (IsRatio c.of_small-x.result) size_is den_is c.of_small-x.ensures in
    let den_same : c.of_small-x.result.den ≡ c.args.den =
    sym c.den.ensures ∙ sym (to_z-of_z w128 c.den.result (search rules))
    ∙ ap (to_z w128) c.if-den.false ∙ den in
    let size = same_numerator c.of_small-x.result (pos (unsigned_abs c.args.num)) c.args.den made
    den_same in
    let parts = turned_parts c.of_small-x.result c.neg.result c.neg.ensures in
    let below = simp num at c.if-num-lt0.true in
    let sign : neg_ℤ (pos (unsigned_abs c.args.num)) ≡ c.args.num = omega (arith, ints) in
    (parts.0 ∙ ap neg_ℤ size ∙ sign, parts.1 ∙ den_same)

pub returns-clause-found : goal.returns-clause-found
returns-clause-found c =
    let num = to_z-of_z w128 c.args.num c.ranges.num in
    let den = to_z-of_z w128 c.args.den c.ranges.den in
    let den_low = simp den at c.in-Ok-Ok.ensures'.0 in
    let den_size = simp den at c.in-Ok-Ok.ensures'.1 in
    let den_is : pos c.in-Ok-Ok.bottom ≡ c.args.den = omega (arith, ints) in
    let size_is : pos c.in-Ok-Ok.size ≡ pos (unsigned_abs c.args.num) =
    ap pos (c.in-Ok-Ok.ensures.1 ∙ c.unsigned_abs.ensures.value ∙ ap unsigned_abs num) in
    let made = subst₂ (IsRatio c.of_small-x.result) size_is den_is c.of_small-x.ensures in
    let den_same : c.of_small-x.result.den ≡ c.args.den =
    sym c.den.ensures ∙ sym (to_z-of_z w128 c.den.result (search rules))
    ∙ ap (to_z w128) c.if-den.false ∙ den in
    let size = same_numerator c.of_small-x.result (pos (unsigned_abs c.args.num)) c.args.den made
    den_same in
    let above = simp num at c.if-num-lt0.false in
    let sign : pos (unsigned_abs c.args.num) ≡ c.args.num = omega (arith, ints) in
    (size ∙ sign, den_same)
