use Rattle.std.proofs.Common.{◌↔◌, IsTrue, subst₂}
use mir.Syntax.{w128}
use Rattle.std.proofs.lemmas.Int.{to_z-of_z}
use Rattle.gj_shape.specs.FunctionData.{at}
use Rattle.gj_check_minimal.proofs.TestsInTurn.{one_fails}
use Rattle.gj_limit_check_halves.specs.Half.{IsBetween}
use Rattle.gj_limit_check_halves.proofs.pairs.are_between.Goals as goal

pub returns-then-not-is_between : goal.returns-then-not-is_between
returns-then-not-is_between c =
    let scale = to_z-of_z w128 c.args.scale c.ranges.scale in
    let left = subst₂ (λ xs s. IsTrue c.is_between.result ↔ IsBetween (at xs c.args.index) s)
    c.as_slice.ensures scale c.is_between.ensures in
    one_fails _ _ _ c.if-not-is_between.true left (λ m. (m.left_low, m.left_high))

pub returns-then-not-is_between-2 : goal.returns-then-not-is_between-2
returns-then-not-is_between-2 c =
    let scale = to_z-of_z w128 c.args.scale c.ranges.scale in
    let value = subst₂ (λ xs s. IsTrue c.is_between-2.result ↔ IsBetween (at xs c.args.index) s)
    c.as_slice-2.ensures scale c.is_between-2.ensures in
    one_fails _ _ _ c.if-not-is_between-2.true value (λ m. (m.value_low, m.value_high))

pub returns : goal.returns
returns c =
    let i = c.args.index in
    let scale = to_z-of_z w128 c.args.scale c.ranges.scale in
    let left = subst₂ (λ xs s. IsTrue c.is_between.result ↔ IsBetween (at xs i) s)
    c.as_slice.ensures scale c.is_between.ensures in
    let value = subst₂ (λ xs s. IsTrue c.is_between-2.result ↔ IsBetween (at xs i) s)
    c.as_slice-2.ensures scale c.is_between-2.ensures in
    let right = subst₂ (λ xs s. IsTrue c.is_between-3.result ↔ IsBetween (at xs i) s)
    c.as_slice-3.ensures scale c.is_between-3.ensures in
    let l = left.0 c.if-not-is_between.false in
    let v = value.0 c.if-not-is_between-2.false in (
      λ t.
          let r = right.0 t in record {
            left_low = l.0;
            left_high = l.1;
            value_low = v.0;
            value_high = v.1;
            right_low = r.0;
            right_high = r.1;
          },
      λ m. right.1 (m.right_low, m.right_high),
    )
