use Rattle.std.proofs.Common.{◌≡◌, ◌+◌, ◌+ℤ◌, ◌<ℤ◌, inl, inr, subst, arith}
use Rattle.std.proofs.lemmas.Bool.{cases_lt}
use Rattle.std.proofs.lemmas.Int.{ints}
use Rattle.gj_shape.specs.FunctionData.{at}
use Rattle.gj_fill.proofs.pairs.first_behind.Goals as goal

pub loop-b-preserved : goal.loop-b-preserved
loop-b-preserved c b up low h = elim (cases_lt b c.loop-b.b) [
  | inl before ↦ c.loop-b.invariant b up before h
  | inr behind ↦
      let values = c.args.shape.now.value in
      let same : b ≡ c.loop-b.b = omega arith in
      let here : (at values c.args.a +ℤ at values c.loop-b.b) <ℤ at values (c.args.a + c.loop-b.b) =
      subst (λ k. (at values c.args.a +ℤ at values k) <ℤ at values (c.args.a + k)) same h in
      omega (arith, ints)
]
