use Rattle.std.proofs.Common.{◌≡◌, ◌<◌, ℕ, length, below_more, [], refl, sym, subst, arith}
use Rattle.gj_proof.specs.Rules.{AtIndex, MeetsName}
use Rattle.gj_check.specs.declared.rules.CheckRule.TheVariants.{Limit, Name, Value}
use Rattle.gj_check.specs.CutRows.{MeetsTerm}
use Rattle.gj_check.specs.RowLimits.{IsRowDenominator}
use Rattle.gj_proof.proofs.AtPlaces.{at_place, place_has, each_item}
use Rattle.gj_check.proofs.LimitsOfRows.{limit_small}
use Rattle.gj_check.proofs.RowOutcomes.{numbers, next_number, fails_at}
use Rattle.gj_check.proofs.cut_rows.failure_in_terms.Goals as goal

pub returns-in_default : goal.returns-in_default
returns-in_default c =
    let terms = c.args.terms.now in
    let n = c.loop-index.index in
    fails_at c.args.rule.now c.args.basic.now c.args.right terms n c.lines_with_terms-below.result
    c.index-terms-index.result Limit c.lines_with_terms-below.ensures c.loop-index-test.true
    c.index-terms-index.is c.loop-index.invariant.1
    (c.in_default.ensures.beyond (numbers c.args.right n terms) c.loop-index.invariant.0)

pub returns-then-index-repeated : goal.returns-then-index-repeated
returns-then-index-repeated c =
    let terms = c.args.terms.now in
    let n = c.loop-index.index in
    let t = c.index-terms-index.result in
    let below : n < length terms = c.loop-index-test.true in
    let limit = (c.in-Some.ensures.within
    (numbers c.args.right n terms) c.loop-index.invariant.0).0 in
    let same : c.in_ok-repeated.repeated ≡ n = sym c.if-index-repeated.true in
    let repeated = c.in_ok-repeated.ensures.repeated (omega arith) in
    fails_at c.args.rule.now c.args.basic.now c.args.right terms n c.lines_with_terms-below.result t
    Name c.lines_with_terms-below.ensures below c.index-terms-index.is c.loop-index.invariant.1 (
      limit,
      place_has terms (λ before u. MeetsName c.args.basic.now before u →
          ⊥) n t below c.index-terms-index.is
          (subst (λ (m : ℕ). AtIndex terms m (λ before u. MeetsName c.args.basic.now before u → ⊥))
          same repeated),
    )

pub has_value-requires-clause-right : goal.has_value-requires-clause-right
has_value-requires-clause-right c = limit_small [] c.args.right c.requires.limit

pub has_value-requires-clause-entry : goal.has_value-requires-clause-entry
has_value-requires-clause-entry c =
    let xs = numbers c.args.right c.loop-index.index c.args.terms.now in
    limit_small xs c.index-terms-index.result.entry
    (c.in-Some.ensures.within xs c.loop-index.invariant.0).0

pub returns-then-not-has_value : goal.returns-then-not-has_value
returns-then-not-has_value c =
    let terms = c.args.terms.now in
    let n = c.loop-index.index in
    let t = c.index-terms-index.result in
    let below : n < length terms = c.loop-index-test.true in
    let early = c.loop-index.invariant.2 in
    let apart = c.if-index-repeated.false in
    let name = place_has terms (MeetsName c.args.basic.now) n t below c.index-terms-index.is
    (c.in_ok-repeated.ensures.new n (omega arith)) in
    fails_at c.args.rule.now c.args.basic.now c.args.right terms n c.lines_with_terms-below.result t
    Value c.lines_with_terms-below.ensures below c.index-terms-index.is c.loop-index.invariant.1 (
      (c.in-Some.ensures.within (numbers c.args.right n terms) c.loop-index.invariant.0).0,
      name,
      λ h. let yes = c.has_value.ensures.1 h in let no = c.if-not-has_value.true in (cc),
    )

pub loop-index-preserved : goal.loop-index-preserved
loop-index-preserved c =
    let terms = c.args.terms.now in
    let n = c.loop-index.index in
    let t = c.index-terms-index.result in
    let below : n < length terms = c.loop-index-test.true in
    let early = c.loop-index.invariant.2 in
    let apart = c.if-index-repeated.false in
    let within = c.in-Some.ensures.within (numbers c.args.right n terms) c.loop-index.invariant.0 in
    let name = place_has terms (MeetsName c.args.basic.now) n t below c.index-terms-index.is
    (c.in_ok-repeated.ensures.new n (omega arith)) in (
      subst (λ xs. IsRowDenominator xs c.in-Some.multiple)
          (sym (next_number c.args.right n terms t below c.index-terms-index.is)) within.1,
      below_more (λ i. AtIndex terms i (MeetsTerm c.args.rule.now c.args.basic.now c.args.right)) n
          c.loop-index.invariant.1
          (at_place terms (MeetsTerm c.args.rule.now c.args.basic.now c.args.right) n t below
          c.index-terms-index.is
          (record { limit = within.0; name = name; value = c.if-not-has_value.ensures.0 refl })),
      omega arith,
    )

pub returns : goal.returns
returns c =
    each_item c.args.terms.now (MeetsTerm c.args.rule.now c.args.basic.now c.args.right)
    c.loop-index.index
    (omega (arith, c.loop-index-test.false)) c.loop-index.invariant.1
