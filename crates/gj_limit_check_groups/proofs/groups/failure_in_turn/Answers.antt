use Rattle.std.proofs.Common.{◌≡◌, ℕ, ◌+◌, ◌<◌, ℤ, List, length, map, take, get_or, set, refl, sym, ap, subst, ◌∙◌, arith}
use Rattle.std.specs.Prelude.{Option, None, Some, All}
use Rattle.std.specs.List.{range_with_len}
use Rattle.std.proofs.lemmas.List.FromFn.{length-map-range_with_len}
use Rattle.gj_shape.specs.Elimination.{KeptRow}
use Rattle.gj_shape.specs.FunctionData.{FunctionData}
use Rattle.gj_shape.specs.SlopeRows.{component_in}
use Rattle.gj_sparse_elim.specs.declared.entry.Entry.{Entry}
use Rattle.gj_sparse_elim.specs.Sparse.{dense}
use Rattle.gj_proof.specs.declared.numbers.Numbers.{Numbers}
use Rattle.gj_proof.specs.PresentRows.{arithmetic_of}
use Rattle.gj_proof.specs.Rules.{MeetsPivotBy}
use Rattle.gj_check_groups.specs.declared.failure.GroupFailure.{GroupFailure}
use Rattle.gj_check_groups.specs.KeptTable.{AreRowsAt}
use Rattle.gj_check_groups.proofs.GroupsInTurn.{kept_of}
use Rattle.gj_limit_system.specs.Unknowns.{columns_for}
use Rattle.gj_limit_proof.specs.declared.claim.LimitPivotRow.{LimitPivotRow}
use Rattle.gj_limit_proof.specs.LimitRowsKept.{begun_row, rows_before_by}
use Rattle.gj_limit_proof.specs.LimitRules.{group_demands_by}
use Rattle.gj_limit_check_groups.specs.LimitGroups.{LimitGroupHolds, IsFirstLimitGroupFailure}
use Rattle.gj_limit_check_groups.specs.LimitGroupOutcomes.{IsLimitGroupOutcome}
use Rattle.gj_limit_check_groups.specs.SparseRows.{dense_rows, IsSparseRow, IsSparseTable}
use Rattle.gj_limit_check_groups.proofs.LimitGroupsInTurn.{AreChecked, limits_checked_start, limits_checked_more, limits_checked_all}
use Rattle.gj_limit_check_groups.proofs.LimitGroupDemands.{first_limit_group_failure, all_limit_groups_hold}
use Rattle.gj_limit_check_groups.proofs.groups.failure_in_turn.Goals as goal

-- the columns of the table
columns_are : (n columns : ℕ) (table : List (Option (List Entry))) → n ≡ length table →
    table ≡ map (λ i. None) (range_with_len 0 columns) → n ≡ columns
columns_are n columns table n_is is =
    n_is ∙ ap length is ∙ length-map-range_with_len (λ i. None) 0 columns

pub loop-group-init : goal.loop-group-init
loop-group-init c =
    let n = length c.args.table.now in
    let count = columns_are n (columns_for c.args.shape.now.order c.args.system.now.count)
    c.args.table.now refl c.requires.table in
    limits_checked_start c.args.numbers c.args.shape.now (component_in c.args.system.now.component)
    n c.args.rows.now
    c.args.table.now (omega (arith, c.requires.columns))
    (c.requires.table ∙ ap (λ m. map (λ i. None) (range_with_len 0 m)) (sym count))

-- what a group comes to, as its columns are counted
outcome : (numbers : Numbers) (f : FunctionData) (m n : ℕ) (table : List (Option (List Entry)))
    (begun after : List Entry)
    (one : LimitPivotRow) (kept : List KeptRow) (o p : Option GroupFailure) → m ≡ n → o ≡ p →
    ((kept : List KeptRow) → AreRowsAt kept (dense_rows m table) →
    IsLimitGroupOutcome numbers f m kept (dense m begun) one (dense m after) o) →
    AreRowsAt kept (dense_rows n table) → IsLimitGroupOutcome numbers f n kept (dense n begun) one
    (dense n after) p
outcome numbers f m n table begun after one kept o p same is h rows =
    subst (IsLimitGroupOutcome numbers f n kept (dense n begun) one (dense n after)) is
    (subst (λ (k : ℕ). (kept : List KeptRow) → AreRowsAt kept (dense_rows k table) →
    IsLimitGroupOutcome numbers f k kept (dense k begun) one (dense k after) o) same h kept rows)

-- the row with which a group begins
begun_is : (numbers : Numbers) (f : FunctionData) (component : ℕ → ℕ) (count order m n : ℕ)
    (one : LimitPivotRow) (begun : List Entry) →
    m ≡ columns_for order count → n ≡ columns_for f.order count → order ≡ f.order →
    dense m begun ≡ begun_row (arithmetic_of numbers) f component m one.name →
    dense n begun ≡ begun_row (arithmetic_of numbers) f component n one.name
begun_is numbers f component count order m n one begun m_is n_is same h =
    subst (λ (k : ℕ). dense k begun ≡ begun_row (arithmetic_of numbers) f component k one.name)
    (m_is ∙ ap (λ q. columns_for q count) same ∙ sym n_is) h

pub failure_in_group-requires-clause-row : goal.failure_in_group-requires-clause-row
failure_in_group-requires-clause-row c =
    let count = columns_are (length c.loop-group.table)
    (columns_for c.args.shape.now.order c.args.system.now.count) c.args.table.now
    c.loop-group.auto.table c.requires.table in
    subst (λ (k : ℕ). IsSparseRow c.args.numbers k c.begin_row.new.row.entries.items)
    (ap (λ q. columns_for q c.args.system.now.count) c.requires.order ∙ sym count)
    c.in_ok-begin_row.ensures.row

-- a group that fails
fails : (numbers : Numbers) (f : FunctionData) (component : ℕ → ℕ) (m n columns : ℕ)
    (rows : List LimitPivotRow) (g above below : ℕ)
    (table : List (Option (List Entry))) (one : LimitPivotRow) (begun after : List Entry)
    (o : Option GroupFailure)
    (failure : GroupFailure) → AreChecked numbers f component n rows g table above →
    g < length rows → one ≡ get_or rows g one →
    m ≡ n → n ≡ columns → dense n begun ≡ begun_row (arithmetic_of numbers) f component n one.name →
    o ≡ Some failure →
    ((kept : List KeptRow) → AreRowsAt kept (dense_rows m table) →
    IsLimitGroupOutcome numbers f m kept (dense m begun) one (dense m after) o) →
    below ≡ above + failure.below →
    IsFirstLimitGroupFailure numbers f component columns rows
    (record { below = below; rule = failure.rule })
fails numbers f component m n columns rows g above below table one begun after o failure h inside is
    same count begun_row_is o_is out below_is =
    subst (λ (k : ℕ). IsFirstLimitGroupFailure numbers f component k rows
    (record { below = below; rule = failure.rule })) count
    (first_limit_group_failure numbers f component n rows g above below one
    (dense n begun) failure h.meet h.above_is inside is
    begun_row_is
    (outcome numbers f m n table begun after one
    (rows_before_by (arithmetic_of numbers) f component n (take g rows)) o (Some failure)
    same o_is out h.rows_are) below_is)

pub returns-in-Some : goal.returns-in-Some
returns-in-Some c =
    let l = c.loop-group in
    let f = c.args.shape.now in
    let r = c.args.system.now in
    let n = length c.args.table.now in
    let one = c.group-item.result in
    let count = columns_are n (columns_for f.order r.count) c.args.table.now refl c.requires.table
    in
    fails c.args.numbers f (component_in r.component) (length l.table) n
    (columns_for f.order r.count) c.args.rows.now l.group-index
    l.above c.in_ok-line_below.field-0 l.table one c.begin_row.new.row.entries.items
    c.failure_in_group.new.row.entries.items
    c.in_ok-failure.field-0 c.in-Some.failure l.invariant c.loop-group-test.true c.group-item.is
    l.auto.table count
    (begun_is c.args.numbers f (component_in r.component) r.count (length r.component)
    (columns_for (length r.component) r.count) n one
    c.begin_row.new.row.entries.items refl count c.requires.order
    (c.in_ok-begin_row.ensures.begun f (sym c.requires.order) (sym c.requires.place)))
    c.in-Some.is c.in_ok-failure.ensures.outcome c.in_ok-line_below.ensures.number

-- a group that can be kept
can_keep : (numbers : Numbers) (f : FunctionData) (component : ℕ → ℕ) (m n : ℕ)
    (rows : List LimitPivotRow) (g above : ℕ)
    (table : List (Option (List Entry))) (one : LimitPivotRow) (begun after read : List Entry)
    (o : Option GroupFailure) →
    AreChecked numbers f component n rows g table above → m ≡ n → o ≡ None → read ≡ after →
    ((kept : List KeptRow) → AreRowsAt kept (dense_rows m table) →
    IsLimitGroupOutcome numbers f m kept (dense m begun) one (dense m after) o) →
    (kept : List KeptRow) × MeetsPivotBy numbers m kept (dense m read) one.pivot
can_keep numbers f component m n rows g above table one begun after read o h same o_is read_is out =
    let kept = rows_before_by (arithmetic_of numbers) f component n (take g rows) in
    let (meets, left) = outcome numbers f m m table begun after one kept o None refl o_is out
    (subst (λ (k : ℕ). AreRowsAt kept (dense_rows k table)) (sym same) h.rows_are) in (
      kept,
      subst (λ (xs : List ℤ). MeetsPivotBy numbers m kept xs one.pivot)
          (sym (ap (dense m) read_is ∙ left)) meets.pivot,
    )

pub keep-requires-clause-pivot : goal.keep-requires-clause-pivot
keep-requires-clause-pivot c =
    let l = c.loop-group in
    can_keep c.args.numbers c.args.shape.now (component_in c.args.system.now.component)
    (length l.table) (length c.args.table.now)
    c.args.rows.now l.group-index l.above l.table c.group-item.result
    c.begin_row.new.row.entries.items
    c.failure_in_group.new.row.entries.items c.as_slice.result.now c.in_ok-failure.field-0
    l.invariant l.auto.table c.in_default.is
    c.as_slice.ensures.value c.in_ok-failure.ensures.outcome

-- a group that is kept
more : (numbers : Numbers) (f : FunctionData) (component : ℕ → ℕ) (m n : ℕ)
    (rows : List LimitPivotRow) (g above next : ℕ)
    (table table' : List (Option (List Entry))) (one : LimitPivotRow)
    (begun after read : List Entry) (o : Option GroupFailure) →
    AreChecked numbers f component n rows g table above → g < length rows →
    one ≡ get_or rows g one → m ≡ n →
    dense n begun ≡ begun_row (arithmetic_of numbers) f component n one.name → o ≡ None →
    ((kept : List KeptRow) → AreRowsAt kept (dense_rows m table) →
    IsLimitGroupOutcome numbers f m kept (dense m begun) one (dense m after) o) → read ≡ after →
    IsSparseTable numbers m table' →
    dense_rows m table' ≡ set (dense_rows m table) one.pivot
    (Some (kept_of numbers (dense m read) one.pivot)) →
    next ≡ above + (length one.reduce + 2) →
    AreChecked numbers f component n rows (g + 1) table' next
more numbers f component m n rows g above next table table' one begun after read o h inside is same
    begun_row_is o_is out read_is table_is rows_are next_is =
    limits_checked_more numbers f component n rows g table table' above next one (dense n begun)
    (dense n after) h inside is begun_row_is
    (outcome numbers f m n table begun after one
    (rows_before_by (arithmetic_of numbers) f component n (take g rows)) o None
    same o_is out h.rows_are) (subst (λ (k : ℕ). IsSparseTable numbers k table') same table_is)
    (subst (λ (k : ℕ). dense_rows k table' ≡ set (dense_rows k table) one.pivot
    (Some (kept_of numbers (dense k read) one.pivot))) same
    rows_are ∙ ap (λ xs. set (dense_rows n table) one.pivot
    (Some (kept_of numbers (dense n xs) one.pivot))) read_is) next_is

pub loop-group-preserved : goal.loop-group-preserved
loop-group-preserved c =
    let l = c.loop-group in
    let f = c.args.shape.now in
    let r = c.args.system.now in
    let n = length c.args.table.now in
    let one = c.group-item.result in
    let count = columns_are n (columns_for f.order r.count) c.args.table.now refl c.requires.table
    in
    more c.args.numbers f (component_in r.component) (length l.table) n c.args.rows.now
    l.group-index l.above c.in_ok-above.above
    l.table c.keep.new.table one c.begin_row.new.row.entries.items
    c.failure_in_group.new.row.entries.items c.as_slice.result.now
    c.in_ok-failure.field-0 l.invariant c.loop-group-test.true c.group-item.is l.auto.table
    (begun_is c.args.numbers f (component_in r.component) r.count (length r.component)
    (columns_for (length r.component) r.count) n one
    c.begin_row.new.row.entries.items refl count c.requires.order
    (c.in_ok-begin_row.ensures.begun f (sym c.requires.order) (sym c.requires.place)))
    c.in_default.is c.in_ok-failure.ensures.outcome c.as_slice.ensures.value
    c.in_ok-keep.ensures.table c.in_ok-keep.ensures.rows
    c.in_ok-above.ensures

pub returns : goal.returns
returns c =
    let n = length c.args.table.now in
    let f = c.args.shape.now in
    let component = component_in c.args.system.now.component in
    let rows = c.args.rows.now in
    let count = columns_are n (columns_for f.order c.args.system.now.count) c.args.table.now refl
    c.requires.table in
    subst (λ (m : ℕ). All (LimitGroupHolds c.args.numbers f component m rows)
    (group_demands_by c.args.numbers 0 rows)) count
    (all_limit_groups_hold c.args.numbers f component n rows
    (limits_checked_all c.args.numbers f component n rows c.loop-group.group-index
    c.loop-group.table c.loop-group.above
    c.loop-group.invariant (omega arith)))
