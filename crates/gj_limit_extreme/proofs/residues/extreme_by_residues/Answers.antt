use Rattle.std.proofs.Common.{◌≡◌, ◌<◌, ℕ, List, length, map, get_or, sym, ap, subst, subst₂, ◌∙◌}
use Rattle.std.specs.Prelude.{All}
use Rattle.std.proofs.lemmas.List.{length-map}
use Rattle.gj_residue.specs.Settled.{IsFullLog}
use Rattle.gj_shape.specs.Elimination.{KeptRow}
use Rattle.gj_shape.specs.SlopeRows.{component_in}
use Rattle.gj_limit_system.specs.LimitRows.{IsLimitRowBelow}
use Rattle.gj_limit_system.specs.declared.limit_row.LimitRow.{LimitRow}
use Rattle.gj_limit_system.specs.declared.limit_row.LimitRow.TheVariants.{F}
use Rattle.gj_limit_proof.specs.declared.claim.LimitPivotRow.{LimitPivotRow}
use Rattle.gj_proof.specs.declared.numbers.Numbers.TheVariants.{Residues}
use Rattle.gj_limit_extreme.specs.Decision.{elimination_over}
use Rattle.gj_limit_extreme.specs.Faults.{of_settling}
use Rattle.gj_limit_extreme.specs.SystemRows.{columns_in, row_in}
use Rattle.gj_limit_extreme.proofs.ClaimTexts.{names_below, extreme_has_text}
use Rattle.gj_limit_extreme.proofs.DecidedGroups.{system_columns}
use Rattle.gj_limit_extreme.proofs.FaultCases.{settling_cause, handed_decision}
use Rattle.gj_limit_extreme.proofs.ResidueRows.{rows_are, log_of, rows_by_residues, wide_by_residues}
use Rattle.gj_limit_extreme.proofs.residues.extreme_by_residues.Goals as goal

abbrev made : LimitRow → List ℕ → ℕ → LimitPivotRow
made name reduce pivot = record { name = name; reduce = reduce; pivot = pivot }

pub new-rows-requires : goal.new-rows-requires
new-rows-requires c =
    let f = c.args.shape.now in
    let names = c.in_ok-listed.ensures.items ∙ c.as_slice.ensures.value
    ∙ c.in_ok-names.ensures.names in
    subst (λ q. All (λ name. IsLimitRowBelow name q) c.in_ok-listed.listed.items)
    (sym c.requires.system.order)
    (subst (All (λ name. IsLimitRowBelow name c.args.shape.now.order)) (sym names) (names_below f))

pub log_by_residues-requires-clause-lengths : goal.log_by_residues-requires-clause-lengths
log_by_residues-requires-clause-lengths c =
    let f = c.args.shape.now in
    let s = c.args.system in
    let names = c.in_ok-listed.ensures.items ∙ c.as_slice.ensures.value
    ∙ c.in_ok-names.ensures.names in
    let left = ap (λ r. r.left) c.new-rows.ensures
    ∙ rows_are f s c.in_ok-listed.listed.items c.requires.system names in
    subst₂ (λ m rows. All (λ row. length row ≡ m) rows) (sym c.columns-columns.ensures.value)
    (sym left)
    (system_columns f (component_in c.args.system.component) (columns_in s))

pub returns-in_err-log : goal.returns-in_err-log
returns-in_err-log c =
    let f = c.args.shape.now in
    let s = c.args.system in
    let names = c.in_ok-listed.ensures.items ∙ c.as_slice.ensures.value
    ∙ c.in_ok-names.ensures.names in
    let left = ap (λ r. r.left) c.new-rows.ensures
    ∙ rows_are f s c.in_ok-listed.listed.items c.requires.system names in
    handed_decision f c.from_residual-in_err-log.result
    (of_settling c.in_err-log.field-0.0) c.from_residual-in_err-log.ensures.0
    c.from_residual-in_err-log.ensures.1
    (settling_cause f c.in_err-log.field-0.0
    (λ e. wide_by_residues f s c.args.cover c.requires.system c.requires.count c.requires.covered
    c.requires.passes c.new-rows.result.left
    c.columns-columns.result left c.columns-columns.ensures.value (c.in_err-log.ensures.wide e)))

pub groups_by_number-requires : goal.groups_by_number-requires
groups_by_number-requires c =
    let count = ap (λ r. length r.left) c.new-rows.ensures
    ∙ length-map c.in_ok-listed.listed.items (row_in c.args.system)
    ∙ ap length (c.in_ok-listed.ensures.items ∙ c.as_slice.ensures.value
    ∙ sym c.as_slice-2.ensures.value) in
    subst (λ lines. All (λ line. line.number < length c.as_slice-2.result.now) lines)
    (sym c.as_slice-3.ensures.value)
    (subst (λ m. All (λ line. line.number < m) c.in_ok-log.log.items) count
    c.in_ok-log.ensures.numbers)

pub returns : goal.returns
returns c =
    let f = c.args.shape.now in
    let s = c.args.system in
    let all = c.new-rows.result.left in
    let log = c.in_ok-log.log.items in
    let names = c.in_ok-listed.ensures.items ∙ c.as_slice.ensures.value
    ∙ c.in_ok-names.ensures.names in
    let left = ap (λ r. r.left) c.new-rows.ensures
    ∙ rows_are f s c.in_ok-listed.listed.items c.requires.system names in
    let full = subst (λ m. IsFullLog m all log) c.columns-columns.ensures.value
    c.in_ok-log.ensures.log in
    let kept = (elimination_over Residues f c.args.system.component (columns_in s)).kept in
    let rows = rows_by_residues f s c.args.cover c.requires.system c.requires.count
    c.requires.covered c.requires.passes all log c.of.result
    left full
    (c.of.ensures
    ∙ c.in_ok-groups.ensures F kept
    (c.as_slice-3.ensures.value ∙ log_of f s all log left full)
    ∙ ap (λ names. map (λ (k : KeptRow). made (get_or names k.number F) k.reduce k.pivot) kept)
    (c.as_slice-2.ensures.value ∙ c.in_ok-names.ensures.names)) in (
      (c.in_ok-copy.ensures, c.requires.minimal, rows),
      extreme_has_text Residues f c.in_ok-copy.field-0 c.args.cover.lines c.of.result
          c.in_ok-names.ensures.limits c.in_ok-copy.ensures rows,
    )
