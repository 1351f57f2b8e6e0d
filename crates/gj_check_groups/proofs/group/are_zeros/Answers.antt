use Rattle.std.proofs.Common.{rules, ◌≡◌, pos, take, get_or, refl, subst, sym}
use Rattle.std.specs.Prelude.{All}
use Rattle.std.proofs.lemmas.List.{take_all, get_or_default}
use Rattle.std.proofs.lemmas.List.Elements.{All-push}
use Rattle.gj_proof.proofs.AtPlaces.{with_place}
use Rattle.gj_theory.proofs.WideNumbers.{zero_from_bits}
use Rattle.gj_check_groups.proofs.group.are_zeros.Goals as goal

pub loop-x-preserved : goal.loop-x-preserved
loop-x-preserved c =
    let row = c.args.row.now in
    let i = c.loop-x.x-index in
    let x = get_or row i (pos 0) in
    let zero : x ≡ pos 0 = zero_from_bits x (search rules) c.if-x-ne0.false in
    let more = with_place row i x c.loop-x-test.true
    (get_or_default row i (pos 0) x c.loop-x-test.true) in
    subst (All (λ y. y ≡ pos 0)) (sym more)
    (All-push (λ y. y ≡ pos 0) (take i row) x c.loop-x.invariant zero)

pub returns : goal.returns
returns c = (
  λ t. subst (All (λ y. y ≡ pos 0)) (take_all c.loop-x.x-index c.args.row.now c.loop-x-test.false)
      c.loop-x.invariant,
  λ all. refl,
)
