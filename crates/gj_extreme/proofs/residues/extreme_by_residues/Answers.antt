use Rattle.std.proofs.Common.{◌≡◌, ◌<◌, length, map, get_or, sym, ap, subst, subst₂, ◌∙◌}
use Rattle.std.specs.Prelude.{All}
use Rattle.std.proofs.lemmas.List.{length-map}
use Rattle.gj_shape.specs.Elimination.{KeptRow}
use Rattle.gj_shape.specs.SlopeRows.{row_of, row_names, component_in}
use Rattle.gj_shape.specs.declared.extremality.RowName.TheVariants.{Period}
use Rattle.gj_residue.specs.Settled.{IsFullLog}
use Rattle.gj_system.specs.Components.{IsNameBelow}
use Rattle.gj_proof.specs.declared.numbers.Numbers.TheVariants.{Residues}
use Rattle.gj_extreme.specs.Decision.{elimination_over}
use Rattle.gj_extreme.specs.Faults.{of_settling}
use Rattle.gj_extreme.proofs.ClaimTexts.{extreme_has_text}
use Rattle.gj_extreme.proofs.DecidedHalves.{begun_columns}
use Rattle.gj_extreme.proofs.GroupLists.{record_of}
use Rattle.gj_extreme.proofs.FaultCases.{settling_cause, handed_decision, memory_decision}
use Rattle.gj_extreme.proofs.ResidueRows.{names_are_below, rows_by_residues, wide_by_residues, rows_are, log_of}
use Rattle.gj_extreme.proofs.residues.extreme_by_residues.Goals as goal

pub rows_of-requires-clause-names : goal.rows_of-requires-clause-names
rows_of-requires-clause-names c =
    let q = c.requires.components in
    subst (λ names. All (λ name. IsNameBelow name (length c.args.system.now.component)) names)
    (sym (c.as_slice.ensures.value ∙ c.in_ok-names.ensures.names))
    (subst (λ m. All (λ name. IsNameBelow name m) (row_names c.args.shape.now)) (sym q)
    (names_are_below c.args.shape.now))

pub log_by_residues-requires-clause-lengths : goal.log_by_residues-requires-clause-lengths
log_by_residues-requires-clause-lengths c =
    let f = c.args.shape.now in
    let comp = component_in c.args.system.now.component in
    let n = c.args.system.now.columns in
    let are = rows_are f comp n (length c.args.system.now.component) c.place.result
    c.as_slice.result.now c.in_ok-rows.rows.left
    c.in_ok-rows.ensures c.requires.components c.place.ensures.value
    (c.as_slice.ensures.value ∙ c.in_ok-names.ensures.names) in
    subst₂ (λ m rows. All (λ row. length row ≡ m) rows) (sym c.columns.ensures) (sym are)
    (begun_columns f comp n (row_names f))

pub groups_by_number-requires : goal.groups_by_number-requires
groups_by_number-requires c =
    let system = c.args.system.now in
    let count = ap length c.in_ok-rows.ensures
    ∙ length-map c.as_slice.result.now
    (row_of (component_in system.component) system.columns
    (length system.component) c.place.result)
    ∙ ap length (c.as_slice.ensures.value ∙ sym c.as_slice-2.ensures.value) in
    subst (λ lines. All (λ line. line.number < length c.as_slice-2.result.now) lines)
    (sym c.as_slice-3.ensures.value)
    (subst (λ m. All (λ line. line.number < m) c.in_ok-log.log.items) count
    c.in_ok-log.ensures.numbers)

pub returns-in_err-log : goal.returns-in_err-log
returns-in_err-log c =
    let f = c.args.shape.now in
    let comp = component_in c.args.system.now.component in
    let n = c.args.system.now.columns in
    let are = rows_are f comp n (length c.args.system.now.component) c.place.result
    c.as_slice.result.now c.in_ok-rows.rows.left
    c.in_ok-rows.ensures c.requires.components c.place.ensures.value
    (c.as_slice.ensures.value ∙ c.in_ok-names.ensures.names) in
    handed_decision f c.from_residual-in_err-log.result
    (of_settling c.in_err-log.field-0.0) c.from_residual-in_err-log.ensures.0
    c.from_residual-in_err-log.ensures.1
    (settling_cause f c.in_err-log.field-0.0 c.requires.minimal c.requires.continuous
    (λ e. wide_by_residues f c.args.cover.lines comp n c.columns.result c.in_ok-rows.rows.left
    c.requires.covered c.requires.passes are
    c.columns.ensures (c.in_err-log.ensures.wide e)))

pub returns : goal.returns
returns c =
    let f = c.args.shape.now in
    let comp = component_in c.args.system.now.component in
    let n = c.args.system.now.columns in
    let all = c.in_ok-rows.rows.left in
    let log = c.in_ok-log.log.items in
    let are = rows_are f comp n (length c.args.system.now.component) c.place.result
    c.as_slice.result.now c.in_ok-rows.rows.left
    c.in_ok-rows.ensures c.requires.components c.place.ensures.value
    (c.as_slice.ensures.value ∙ c.in_ok-names.ensures.names) in
    let full = subst (λ m. IsFullLog m all log) c.columns.ensures c.in_ok-log.ensures.log in
    let kept = (elimination_over Residues f comp n).kept in
    let rows = rows_by_residues f c.args.cover.lines comp n all log c.of.result c.requires.covered
    c.requires.passes are full
    (c.of.ensures
    ∙ c.in_ok-groups.ensures Period kept
    (c.as_slice-3.ensures.value ∙ log_of f comp n all log are full)
    ∙ ap (λ names. map (λ (k : KeptRow). record_of (get_or names k.number Period) k.reduce k.pivot)
    kept) (c.as_slice-2.ensures.value ∙ c.in_ok-names.ensures.names)) in (
      (c.in_ok-copy.ensures, c.requires.minimal, c.requires.continuous, rows),
      extreme_has_text Residues f c.in_ok-copy.field-0 c.args.cover.lines c.of.result
          c.in_ok-names.ensures.limits c.in_ok-copy.ensures rows,
    )

pub returns-in_err-names : goal.returns-in_err-names
returns-in_err-names c =
    memory_decision c.args.shape.now c.from_residual.result c.in_err-names.field-0.0
    c.from_residual.ensures.0
    c.from_residual.ensures.1

pub returns-in_err-rows : goal.returns-in_err-rows
returns-in_err-rows c =
    memory_decision c.args.shape.now c.from_residual-in_err-rows.result c.in_err-rows.field-0.0
    c.from_residual-in_err-rows.ensures.0
    c.from_residual-in_err-rows.ensures.1

pub returns-in_err-groups : goal.returns-in_err-groups
returns-in_err-groups c =
    memory_decision c.args.shape.now c.from_residual-in_err-groups.result c.in_err-groups.field-0.0
    c.from_residual-in_err-groups.ensures.0
    c.from_residual-in_err-groups.ensures.1

pub returns-in_err-copy : goal.returns-in_err-copy
returns-in_err-copy c =
    memory_decision c.args.shape.now c.from_residual-in_err-copy.result c.in_err-copy.field-0.0
    c.from_residual-in_err-copy.ensures.0
    c.from_residual-in_err-copy.ensures.1
