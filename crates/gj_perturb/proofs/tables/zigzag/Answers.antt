use Rattle.std.proofs.Common.{◌≡◌, ◌+◌, ◌*◌, ◌/◌, ◌++◌, ◌∷◌, [], length, get_or, map, to_z, of_z, sym, ap, ◌∙◌, arith, rules}
use Rattle.std.specs.List.{range_with_len}
use Rattle.std.proofs.Math.Nat.{zero-add}
use Rattle.std.proofs.lemmas.Int.{to_z-of_z}
use Rattle.std.proofs.lemmas.List.FromFn.{map-range_with_len_more, length-map-range_with_len}
use Rattle.gj_shape.specs.Perturbation.{zigzag}
use Rattle.gj_theory.proofs.Zigzags.{zigzag_at_multiple}
use Rattle.gj_perturb.proofs.ChosenIntervals.{is_among, zigzag_from_marks}
use Rattle.gj_perturb.proofs.Splittable.{zigzag_at_list, zigzag_list_perturbs}
use Rattle.gj_perturb.proofs.tables.zigzag.Goals as goal
use mir.Syntax.{w128}

pub index-requires : goal.index-requires
index-requires c =
    let whole : length c.in_ok-chosen.chosen.items ≡ c.args.q =
    ap length c.in_ok-chosen.ensures
    ∙ length-map-range_with_len (is_among c.args.class.now) 0 c.args.q in
    omega arith

pub loop-i-preserved : goal.loop-i-preserved
loop-i-preserved c =
    let q = c.args.q in
    let class = c.args.class.now in
    let i = c.loop-i.i in
    let t = zigzag q class in
    let mark : c.index.result.now ≡ get_or (map (is_among class) (range_with_len 0 q))
    (i / 4) c.index.result.now =
    c.index.ensures ∙ ap (λ marks. get_or marks (i / 4) c.index.result.now)
    c.in_ok-chosen.ensures in
    let value : to_z w128 (of_z w128 c.zigzag_value.result) ≡ t i =
    to_z-of_z w128 c.zigzag_value.result (search rules) ∙ c.zigzag_value.ensures
    ∙ zigzag_from_marks q class i c.index.result.now c.index.result.now c.loop-i-test.true mark in
    let more : map t (range_with_len 0 i) ++ t i ∷ [] ≡ map t (range_with_len 0 (i + 1)) =
    sym (map-range_with_len_more t 0 i i (zero-add i)) in
    rw (c.in_ok-push.ensures.items, c.loop-i.invariant, value) more

pub returns-clause-values : goal.returns-clause-values
returns-clause-values c =
    let t = zigzag c.args.q c.args.class.now in
    let all : c.loop-i.i ≡ c.args.q * 4 = omega arith in
    c.of.ensures ∙ c.loop-i.invariant ∙ ap (λ n. map t (range_with_len 0 n)) all

pub returns-clause-perturbation : goal.returns-clause-perturbation
returns-clause-perturbation c = λ f.
    zigzag_list_perturbs f c.args.q c.args.class.now c.of.result (omega arith)
    (returns-clause-values c)

pub returns-clause-zero : goal.returns-clause-zero
returns-clause-zero c = λ a.
    zigzag_at_list c.args.q c.args.class.now c.of.result (omega arith) (returns-clause-values c)
    (a * 4)
    ∙ zigzag_at_multiple c.args.q c.args.class.now a
