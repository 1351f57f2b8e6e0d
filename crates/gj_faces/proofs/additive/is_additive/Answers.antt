use Rattle.std.proofs.Common.{◌≡◌, pos, get_or, below_more, arith, ap, ◌∙◌, sym, refl}
use Rattle.gj_shape.specs.Faces.{limits_of}
use Rattle.gj_faces.proofs.Slacks.{additive_by_limits, limits_of_additive, zero_bits}
use Rattle.gj_faces.proofs.additive.is_additive.Goals as goal

pub returns-then-limit-ne0 : goal.returns-then-limit-ne0
returns-then-limit-ne0 c =
    let f = c.args.face in
    let other = c.if-limit-ne0.true in
    let limit = c.limit.ensures.value ∙ ap (λ ns. get_or ns c.loop-corner.corner (pos 0))
    (c.of-square.ensures f.kind) in (
      λ impossible. absurd (let contrary = impossible in cc),
      λ additive. absurd (other ((zero_bits c.limit.result c.limit.ensures.fits).1 (limit ∙
          limits_of_additive c.args.shape.now f.kind f.a f.b c.loop-corner.corner
          c.requires.continuous (omega arith) additive))),
    )

pub loop-corner-preserved : goal.loop-corner-preserved
loop-corner-preserved c =
    let f = c.args.face in
    let limit = c.limit.ensures.value ∙ ap (λ ns. get_or ns c.loop-corner.corner (pos 0))
    (c.of-square.ensures f.kind) in
    below_more (λ k. get_or (limits_of c.args.shape.now f.kind f.a f.b) k (pos 0) ≡ pos 0)
    c.loop-corner.corner
    c.loop-corner.invariant
    (sym limit ∙ (zero_bits c.limit.result c.limit.ensures.fits).0 c.if-limit-ne0.false)

pub returns : goal.returns
returns c =
    let f = c.args.face in (
      λ _. additive_by_limits c.args.shape.now f.kind f.a f.b c.requires.continuous
          (λ k below. c.loop-corner.invariant k (omega arith)),
      λ _. refl,
    )
