use Rattle.std.proofs.Common.{◌↔◌, ◌*◌, length, unsigned_abs, IsTrue, IfOk, subst₂, sym}
use Rattle.gj_shape.specs.FunctionData.{at}
use Rattle.gj_shape.specs.Table.{IsMinimalTable}
use Rattle.gj_check_minimal.specs.Tables.{IsTableInRange}
use Rattle.gj_check_minimal.proofs.TestsInTurn.{in_other_words_ok}
use Rattle.gj_check.proofs.HalvesTests.{halves_scale_read, half_in_range, half_by}
use Rattle.gj_check.proofs.halves.is_minimal_half.Goals as goal

pub is_minimal_table-requires : goal.is_minimal_table-requires
is_minimal_table-requires c =
    let r = c.args.refinement in
    let l = c.place.ensures.limits in
    let b = c.requires.halves in
    subst₂ (λ p s. IsTableInRange c.args.values.now (p * r.times) s) (sym c.place.ensures.value)
    (sym (halves_scale_read c.args.halves.now.scale b.scale_low b.scale_high))
    (half_in_range c.args.shape.now c.args.halves.now r c.args.values.now l b c.requires.refinement
    c.requires.length c.requires.range)

pub returns : goal.returns
returns c =
    let values = c.args.values.now in
    let r = c.args.refinement in
    let l = c.place.ensures.limits in
    let b = c.requires.halves in
    in_other_words_ok c.is_minimal_table.result _ _
    (subst₂ (λ p s. IfOk c.is_minimal_table.result
    (λ t. IsTrue t ↔ IsMinimalTable (at values) (length values) (p * r.times) (unsigned_abs s)))
    c.place.ensures.value (halves_scale_read c.args.halves.now.scale b.scale_low b.scale_high)
    c.is_minimal_table.ensures)
    (half_by c.args.shape.now c.args.halves.now r values l c.requires.refinement c.requires.length)
