use Rattle.std.proofs.Common.{◌≡◌, inr, length, sym, ap, subst₂, ◌∙◌, arith}
use Rattle.std.proofs.lemmas.List.{length-map}
use Rattle.gj_shape.specs.SlopeRows.{row_names, component_in}
use Rattle.gj_theory.specs.HandedOver.{renumbered}
use Rattle.gj_theory.proofs.Eliminations.{elimination_has}
use Rattle.gj_theory.proofs.SoundArithmetic.{whole_sound}
use Rattle.gj_theory.proofs.Triangular.{rank_at_most}
use Rattle.gj_elim.specs.KeptRows.{log_row}
use Rattle.gj_proof.specs.declared.numbers.Numbers.TheVariants.{Whole}
use Rattle.gj_extreme.specs.Decision.{AreExtremeRows, slope_elimination}
use Rattle.gj_extreme.specs.RowsToCome.{name_of, AreLoggedRows}
use Rattle.gj_extreme.proofs.ClaimTexts.{extreme_has_text}
use Rattle.gj_extreme.proofs.FaultCases.{handed_decision, memory_decision}
use Rattle.gj_extreme.proofs.DecidedHalves.{begun_columns}
use Rattle.gj_extreme.proofs.RenumberedKernel.{lines_renumbered}
use Rattle.gj_extreme.proofs.covered.extreme_or_kernel.Goals as goal

pub groups_of-requires : goal.groups_of-requires
groups_of-requires c =
    let f = c.args.shape.now in
    let rows = c.requires.inserted in
    let slope = slope_elimination f (component_in c.args.component.now)
    (length c.args.rows.now.row.items) in
    ap length (c.as_slice.ensures.value ∙ rows.names) ∙ length-map slope.kept (name_of f)
    ∙ ap length rows.kept
    ∙ length-map c.args.rows.now.basis.kept (renumbered rows.numbers)
    ∙ sym (ap length c.log.ensures ∙ length-map c.args.rows.now.basis.kept log_row)

pub returns-then-is_full : goal.returns-then-is_full
returns-then-is_full c =
    let f = c.args.shape.now in
    let comp = component_in c.args.component.now in
    let n = length c.args.rows.now.row.items in
    let rows = c.requires.inserted in
    let slope = slope_elimination f comp n in
    let full = c.is_full.ensures.0 c.if-is_full.true in
    let most = rank_at_most n slope.kept
    (elimination_has whole_sound n _ (begun_columns f comp n (row_names f))).triangular in
    let len = ap length rows.kept in
    let same = length-map c.args.rows.now.basis.kept (renumbered rows.numbers) in
    let all : length (slope_elimination f comp n).kept ≡ length c.args.rows.now.row.items =
    omega arith in
    let lines : AreLoggedRows slope.kept c.log.result.now =
    subst₂ AreLoggedRows (sym rows.kept) (sym c.log.ensures)
    (lines_renumbered rows.numbers c.args.rows.now.basis.kept) in
    let are : AreExtremeRows Whole f c.args.cover.lines c.of.result = record {
      component = comp;
      n = n;
      covered = c.requires.covered;
      needed = rows.fits;
      all = all;
      rows_are = c.of.ensures
          ∙ c.in_ok-groups.ensures (name_of f) slope.kept (c.as_slice.ensures.value ∙ rows.names) lines;
    } in (
      (c.in_ok-copy.ensures, c.requires.minimal, c.requires.continuous, are),
      extreme_has_text Whole f c.in_ok-copy.field-0 c.args.cover.lines c.of.result c.requires.limits
          c.in_ok-copy.ensures are,
    )

pub slope_halves-requires-clause-covered : goal.slope_halves-requires-clause-covered
slope_halves-requires-clause-covered c = (c.args.cover.lines, c.requires.covered)

pub returns : goal.returns
returns c = (
  (
    c.in_ok-copy-2.ensures,
    c.requires.minimal,
    c.requires.continuous,
    inr
        c.in_ok-halves.ensures.halves,
  ),
  c.in_ok-halves.ensures.limits,
)

pub returns-in_err-groups : goal.returns-in_err-groups
returns-in_err-groups c =
    memory_decision c.args.shape.now c.from_residual.result c.in_err-groups.field-0.0
    c.from_residual.ensures.0 c.from_residual.ensures.1

pub returns-in_err-copy : goal.returns-in_err-copy
returns-in_err-copy c =
    memory_decision c.args.shape.now c.from_residual-in_err-copy.result c.in_err-copy.field-0.0
    c.from_residual-in_err-copy.ensures.0
    c.from_residual-in_err-copy.ensures.1

pub returns-in_err-halves : goal.returns-in_err-halves
returns-in_err-halves c =
    handed_decision c.args.shape.now c.from_residual-in_err-halves.result c.in_err-halves.field-0.0
    c.from_residual-in_err-halves.ensures.0
    c.from_residual-in_err-halves.ensures.1 c.in_err-halves.ensures.cause
