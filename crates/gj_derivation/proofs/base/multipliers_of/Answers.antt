use Rattle.std.proofs.Common.{◌≡◌, ◌<◌, rules, ℕ, List, ap, pos, length, get_or, refl, sym, subst, subst₂, ◌∙◌}
use Rattle.std.proofs.lemmas.List.{length-replicate, take_all}
use Rattle.gj_frac.specs.declared.Frac.{Frac}
use Rattle.gj_fields.specs.Rational.{rational, ◌+ℚ◌}
use Rattle.gj_problem.specs.Rows.{dot}
use Rattle.gj_problem.proofs.AddedSums.{dot_zero, sum_value, whole_ratio}
use Rattle.gj_derivation.specs.declared.step.Multiplier.{Multiplier}
use Rattle.gj_derivation.specs.Derivations.{unit, AreMultipliers}
use Rattle.gj_derivation.specs.Checks.{IsWideNamed}
use Rattle.gj_derivation.proofs.NarrowBases.{narrow_named_none, narrow_named_next}
use Rattle.gj_derivation.proofs.NamedLines.{named_more, wide_named}
use Rattle.gj_derivation.proofs.base.multipliers_of.Goals as goal

pub loop-multiplier-init : goal.loop-multiplier-init
loop-multiplier-init c =
    let items = c.in_ok-multipliers.ensures.items_if_clones_equal (λ (y : Frac) h. h) in
    record {
      are = record {
        count = ap (λ (cs : List Frac). length cs) items ∙ length-replicate _ c.ratio.result
            ∙ ap (λ cs. length cs) c.as_slice-count.ensures;
        are = λ (i : ℕ).
            ap (λ (cs : List Frac). dot cs (unit i)) items
            ∙ dot_zero _ c.ratio.result (unit i) (whole_ratio c.ratio.result (pos 0)
            c.ratio.ensures);
      };
      narrow = narrow_named_none;
    }

pub returns-in_err-sum-clause-wide : goal.returns-in_err-sum-clause-wide
returns-in_err-sum-clause-wide c = λ fault.
    let i = c.loop-multiplier.multiplier-index in
    let m = c.multiplier-item.result in
    let p = c.args.problem.now in
    let line : m.line < length p.constraints =
    subst (λ (x : Multiplier). x.line < length p.constraints) (sym c.multiplier-item.is)
    (c.requires i m c.loop-multiplier-test.true) in
    let value : c.index.result.now ≡ get_or c.loop-multiplier.multipliers.items m.line
    c.index.result.now = search rules in
    wide_named p c.args.named.now i m c.loop-multiplier.multipliers.items c.index.result.now
    c.loop-multiplier-test.true c.multiplier-item.is line
    c.loop-multiplier.invariant.are value c.in_err-sum.ensures.wide

pub loop-multiplier-preserved : goal.loop-multiplier-preserved
loop-multiplier-preserved c =
    let i = c.loop-multiplier.multiplier-index in
    let m = c.multiplier-item.result in
    let p = c.args.problem.now in
    let line : m.line < length p.constraints =
    subst (λ (x : Multiplier). x.line < length p.constraints) (sym c.multiplier-item.is)
    (c.requires i m c.loop-multiplier-test.true) in
    let value : c.index.result.now ≡ get_or c.loop-multiplier.multipliers.items m.line
    c.index.result.now = search rules in
    let sum : rational c.in_ok-sum.sum ≡ rational (get_or c.loop-multiplier.multipliers.items m.line
    c.index.result.now) +ℚ rational m.value =
    sum_value c.index.result.now m.value c.in_ok-sum.sum c.in_ok-sum.ensures.value
    ∙ ap (λ (x : Frac). rational x +ℚ rational m.value) value in
    record {
      are = named_more p c.args.named.now i m c.loop-multiplier.multipliers.items _ c.in_ok-sum.sum
          c.index.result.now c.loop-multiplier-test.true
          c.multiplier-item.is line c.loop-multiplier.invariant.are sum refl;
      narrow = narrow_named_next p c.args.named.now i m c.loop-multiplier.multipliers.items
          c.index.result.now c.loop-multiplier-test.true c.multiplier-item.is line
          c.loop-multiplier.invariant.are value c.loop-multiplier.invariant.narrow
          c.in_ok-sum.ensures.fits;
    }

pub returns-clause-are : goal.returns-clause-are
returns-clause-are c =
    subst₂ (λ (ms : List Multiplier) (xs : List Frac). AreMultipliers c.args.problem.now ms xs)
    (take_all c.loop-multiplier.multiplier-index c.args.named.now c.loop-multiplier-test.false)
    (sym (c.in_ok-multipliers-2.ensures ∙ c.as_slice.ensures.value))
    c.loop-multiplier.invariant.are

pub returns-clause-narrow : goal.returns-clause-narrow
returns-clause-narrow c =
    subst (λ (ms : List Multiplier). IsWideNamed ms → ⊥)
    (take_all c.loop-multiplier.multiplier-index c.args.named.now c.loop-multiplier-test.false)
    c.loop-multiplier.invariant.narrow
