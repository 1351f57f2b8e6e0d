use Rattle.std.proofs.Common.{◌≡◌, ◌+◌, ◌∷◌, ◌++◌, [], All, take, drop, refl, sym, ap, subst, ◌∙◌}
use Rattle.std.proofs.lemmas.List.{take_more, take_all}
use Rattle.std.proofs.lemmas.List.Elements.{All-push}
use Rattle.gj_problem.proofs.Prefixes.{split_at}
use Rattle.gj_derivation.specs.declared.step.Multiplier.{Multiplier}
use Rattle.gj_derivation.specs.Derivations.{IsSigned, AreSigned}
use Rattle.gj_safe_cut.proofs.PointCuts.{is_true}
use Rattle.gj_derivation.proofs.base.first_unsigned.Goals as goal

pub returns-then-not-is_signed : goal.returns-then-not-is_signed
returns-then-not-is_signed c = record {
  before = take c.loop-multiplier.multiplier-index c.args.multipliers.now;
  multiplier = c.multiplier-item.result;
  after = drop (c.loop-multiplier.multiplier-index + 1) c.args.multipliers.now;
  place = split_at c.args.multipliers.now c.loop-multiplier.multiplier-index
      c.multiplier-item.result c.loop-multiplier-test.true c.multiplier-item.is;
  signed_before = c.loop-multiplier.invariant;
  unsigned = λ signed. let t = c.is_signed.ensures.1 signed in absurd (cc);
  line = refl;
}

pub loop-multiplier-preserved : goal.loop-multiplier-preserved
loop-multiplier-preserved c =
    let i = c.loop-multiplier.multiplier-index in
    let ms = c.args.multipliers.now in
    let m = c.multiplier-item.result in
    let Signed = IsSigned c.args.rule c.args.problem.now in
    let more : take (i + 1) ms ≡ take i ms ++ m ∷ [] =
    take_more ms i m c.loop-multiplier-test.true ∙ ap (λ (z : Multiplier). take i ms ++ z ∷ [])
    (sym c.multiplier-item.is) in
    subst (All Signed) (sym more)
    (All-push Signed (take i ms) m c.loop-multiplier.invariant
    (c.is_signed.ensures.0 (is_true c.is_signed.result c.if-not-is_signed.false)))

pub returns : goal.returns
returns c =
    subst (AreSigned c.args.rule c.args.problem.now) (take_all c.loop-multiplier.multiplier-index
    c.args.multipliers.now c.loop-multiplier-test.false)
    c.loop-multiplier.invariant
