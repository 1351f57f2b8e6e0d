use Rattle.std.proofs.Common.{ap, refl, sym, ◌∙◌, inl, inr}
use Rattle.gj_cover.proofs.Onto.{one_by_second, one_by_sum, onto_one, tested, passed}
use Rattle.gj_cover.proofs.squares.has_interval.Goals as goal

pub returns-then-eq-2 : goal.returns-then-eq-2
returns-then-eq-2 c =
    let y = ap (λ p. p.y) (sym c.projections-onto.ensures)
    ∙ tested _ _ _ c.eq-2.ensures c.if-eq-2.true in (
      λ t. one_by_second c.args.q c.args.face.kind c.args.face.a c.args.face.b c.args.i
          c.requires.interval y,
      λ h. refl,
    )

pub returns : goal.returns
returns c = (
  λ t. one_by_sum c.args.q c.args.face.kind c.args.face.a c.args.face.b c.args.i c.requires.interval
      (ap (λ p. p.sum) (sym c.projections-onto.ensures) ∙ tested _ _ _ c.eq-3.ensures t),
  λ h. elim (onto_one c.args.q c.args.face.kind c.args.face.a c.args.face.b c.args.i
      c.requires.interval h) [
        | inl e ↦
            let x = passed _ _ _ c.eq.ensures (ap (λ p. p.x) c.projections-onto.ensures ∙ e) in
            cc (c.if-eq.false, x)
        | inr k ↦ elim k [
          | inl e ↦
              let y = passed _ _ _ c.eq-2.ensures (ap (λ p. p.y) c.projections-onto.ensures ∙ e) in
              cc (c.if-eq-2.false, y)
          | inr e ↦ passed _ _ _ c.eq-3.ensures (ap (λ p. p.sum) c.projections-onto.ensures ∙ e)
        ]
      ],
)
