use Rattle.std.proofs.Common.{◌↔◌, IsTrue, subst, arith}
use mir.Syntax.{w128}
use Rattle.std.proofs.lemmas.Int.{ints, to_z-of_z}
use Rattle.gj_check_minimal.specs.Tables.{IsSymmetricList}
use Rattle.gj_check_minimal.proofs.TestsInTurn.{one_fails, in_other_words_ok}
use Rattle.gj_check_minimal.proofs.TableTests.{value_read, minimal_list, list_decides}
use Rattle.gj_check_minimal.proofs.tables.is_minimal_table.Goals as goal

pub returns-then-values-ne0 : goal.returns-then-values-ne0
returns-then-values-ne0 c =
    let t = c.requires in
    let low = t.place_below in
    let first = value_read c.args.values.now _ _ 0 t (omega arith) in
    let other = c.if-values-ne0.true in
    (λ none. absurd cc, λ m. absurd (let zero = m.zero_at_zero in other (omega (arith, ints))))

pub returns-then-not-is_symmetric_list : goal.returns-then-not-is_symmetric_list
returns-then-not-is_symmetric_list c =
    let scale = to_z-of_z w128 c.args.scale c.ranges.scale in
    let symmetric = subst (λ s. IsTrue c.is_symmetric_list.result
    ↔ IsSymmetricList c.args.values.now c.args.place s) scale
    c.is_symmetric_list.ensures in
    one_fails _ _ _ c.if-not-is_symmetric_list.true symmetric
    (λ m. ((minimal_list _ _ _ c.requires).1 m).0.1)

pub returns : goal.returns
returns c =
    let t = c.requires in
    let low = t.place_below in
    let first = value_read c.args.values.now _ _ 0 t (omega arith) in
    let zero = c.if-values-ne0.false in
    let scale = to_z-of_z w128 c.args.scale c.ranges.scale in
    let symmetric = subst (λ s. IsTrue c.is_symmetric_list.result
    ↔ IsSymmetricList c.args.values.now c.args.place s) scale
    c.is_symmetric_list.ensures in
    in_other_words_ok c.is_subadditive_list.result _ _ c.is_subadditive_list.ensures
    (list_decides _ _ _ t (omega (arith, ints)) (symmetric.0 c.if-not-is_symmetric_list.false))
