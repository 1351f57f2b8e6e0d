use Rattle.std.proofs.Common.{◌≡◌, ◌+◌, length, take, ap, ap₂, sym, subst, ◌∙◌, arith}
use Rattle.std.specs.Prelude.{ℕ, ℤ, List, All, None}
use Rattle.gj_shape.specs.FunctionData.{FunctionData}
use Rattle.gj_shape.specs.declared.extremality.RowName.{RowName}
use Rattle.gj_check_groups.specs.GroupOutcomes.{FailsGroup, IsGroupOutcome}
use Rattle.gj_proof.specs.declared.pivot.PivotRow.{PivotRow}
use Rattle.gj_proof.proofs.LineCounts.{length-group}
use Rattle.gj_check_groups.proofs.GroupDemands.{first_group_failure, all_groups_hold}
use Rattle.gj_shape.specs.SlopeRows.{row_of, component_in}
use Rattle.gj_proof.specs.PresentRows.{arithmetic_of, begun_row, rows_before_by}
use Rattle.gj_proof.specs.ProofText.{IsRowNameBelow}
use Rattle.gj_frac.specs.Fraction.{Fits}
use Rattle.gj_proof.specs.declared.numbers.Numbers.{Numbers}
use Rattle.gj_proof.specs.declared.numbers.Numbers.TheVariants.{Whole, Residues}
use Rattle.gj_check_groups.specs.RowNumbers.{AreRowNumbers}
use Rattle.gj_check_groups.proofs.ResidueRows.{all_residues}
use Rattle.gj_check_groups.proofs.RowSizes.{row_fits}
use Rattle.gj_check_groups.specs.KeptTable.{IsKeptAt}
use Rattle.gj_check_groups.proofs.GroupsInTurn.{kept_of, checked_start, checked_more, checked_all}
use Rattle.gj_check_groups.proofs.groups.failure_in_turn.Goals as goal

-- the row with which a group begins, as the code has it
begun : (numbers : Numbers) (f : FunctionData) (component : ℕ → ℕ) (n m q k : ℕ) (name : RowName)
    (row : List ℤ) →
    row ≡ (arithmetic_of numbers).read (row_of component m q k name) → m ≡ n → q ≡ f.order →
    k ≡ f.place →
    row ≡ begun_row (arithmetic_of numbers) f component n name
begun numbers f component n m q k name row is m_is q_is k_is =
    is ∙ ap (arithmetic_of numbers).read
    (ap₂ (λ a b. row_of component a b k name) m_is q_is
    ∙ ap (λ a. row_of component n f.order a name) k_is)

-- a row that was read has such numbers
read_fits : (numbers : Numbers) (row : List ℤ) → All Fits row →
    AreRowNumbers numbers ((arithmetic_of numbers).read row)
read_fits Whole row fits = fits
read_fits Residues row fits = all_residues row

pub loop-group-init : goal.loop-group-init
loop-group-init c =
    checked_start c.args.numbers c.args.shape.now (component_in c.args.component.now)
    (length c.args.row.now) c.args.rows.now c.args.table.now c.requires.table

pub failure_in_group-requires-clause-fits : goal.failure_in_group-requires-clause-fits
failure_in_group-requires-clause-fits c =
    let q = length c.args.component.now in
    let l = c.place.ensures.limits in
    let order = c.requires.order in
    let place = c.place.ensures.value in
    let name : IsRowNameBelow q c.group-item.result.name =
    subst (λ (k : ℕ). IsRowNameBelow k c.group-item.result.name) (sym order)
    (subst (λ (one : PivotRow). IsRowNameBelow c.args.shape.now.order one.name)
    (sym c.group-item.is)
    (c.requires.rows c.loop-group.group-index c.group-item.result c.loop-group-test.true).name) in
    subst (AreRowNumbers c.args.numbers) (sym c.begin_row.ensures)
    (read_fits c.args.numbers
    (row_of (component_in c.args.component.now) (length c.loop-group.row) q c.place.result
    c.group-item.result.name)
    (row_fits (component_in c.args.component.now) (length c.loop-group.row) q c.place.result
    c.group-item.result.name
    (omega (arith, l.place_high)) name (omega (arith, l.order_high))))

pub returns-in-Some : goal.returns-in-Some
returns-in-Some c =
    let f = c.args.shape.now in
    let component = component_in c.args.component.now in
    let n = length c.args.row.now in
    let rows = c.args.rows.now in
    let g = c.loop-group.group-index in
    let same : length c.begin_row.new.row ≡ n = c.begin_row.auto.row ∙ c.loop-group.auto.row in
    first_group_failure c.args.numbers f component n rows g c.loop-group.above
    c.in_ok-line_below.field-0 c.group-item.result c.begin_row.new.row
    c.in-Some.failure c.loop-group.invariant.meet c.loop-group.invariant.above_is
    c.loop-group-test.true c.group-item.is
    (begun c.args.numbers f component n _ _ _ c.group-item.result.name c.begin_row.new.row
    c.begin_row.ensures c.loop-group.auto.row
    c.requires.order c.place.ensures.value)
    (subst (λ (m : ℕ). FailsGroup c.args.numbers f m
    (rows_before_by (arithmetic_of c.args.numbers) f component n (take g rows))
    c.begin_row.new.row c.group-item.result c.in-Some.failure) same
    (c.in-Some.ensures.outcome
    (rows_before_by (arithmetic_of c.args.numbers) f component n (take g rows))
    c.loop-group.invariant.rows_are))
    c.in_ok-line_below.ensures.number

pub returns : goal.returns
returns c =
    all_groups_hold c.args.numbers c.args.shape.now (component_in c.args.component.now)
    (length c.args.row.now) c.args.rows.now
    (checked_all c.args.numbers c.args.shape.now (component_in c.args.component.now)
    (length c.args.row.now) c.args.rows.now
    c.loop-group.group-index c.loop-group.table c.loop-group.above c.loop-group.invariant
    c.loop-group-test.false)

pub loop-group-preserved : goal.loop-group-preserved
loop-group-preserved c =
    let f = c.args.shape.now in
    let component = component_in c.args.component.now in
    let n = length c.args.row.now in
    let rows = c.args.rows.now in
    let g = c.loop-group.group-index in
    let kept = rows_before_by (arithmetic_of c.args.numbers) f component n (take g rows) in
    let same : length c.begin_row.new.row ≡ n = c.begin_row.auto.row ∙ c.loop-group.auto.row in
    checked_more c.args.numbers f component n rows g c.loop-group.table c.keep.new.table
    c.loop-group.above c.in_ok-above.above c.group-item.result
    c.begin_row.new.row c.failure_in_group.new.row c.loop-group.invariant c.loop-group-test.true
    c.group-item.is
    (begun c.args.numbers f component n _ _ _ c.group-item.result.name c.begin_row.new.row
    c.begin_row.ensures c.loop-group.auto.row
    c.requires.order c.place.ensures.value)
    (c.failure_in_group.auto.row ∙ same)
    (subst (λ (m : ℕ). IsKeptAt c.args.numbers m c.group-item.result.pivot
    (kept_of c.args.numbers c.failure_in_group.new.row c.group-item.result.pivot))
    (c.failure_in_group.auto.row ∙ same) c.in_ok-keep.ensures.kept)
    (subst (λ (m : ℕ). IsGroupOutcome c.args.numbers f m kept c.begin_row.new.row
    c.group-item.result c.failure_in_group.new.row None) same
    (c.in_default.ensures.outcome kept c.loop-group.invariant.rows_are))
    c.in_ok-keep.ensures.table
    (c.in_ok-above.ensures.number
    ∙ ap (λ m. c.loop-group.above + m) (length-group 0 c.group-item.result))
