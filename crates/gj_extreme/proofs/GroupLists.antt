-- The groups of rows that are kept, from their names and the log.
use Rattle.std.proofs.Common.{◌≡◌, ℕ, ◌+◌, ◌<◌, List, [], ◌∷◌, ◌++◌, length, map, take, get_or, sym, ap, ap₂, ◌∙◌, arith}
use Rattle.std.proofs.lemmas.List.{get_or-map, get_or_default, length-map, length_push, take_more, map-append}
use Rattle.gj_shape.specs.Elimination.{KeptRow}
use Rattle.gj_shape.specs.declared.extremality.RowName.{RowName}
use Rattle.gj_elim.specs.KeptRows.{log_row}
use Rattle.gj_elim.specs.declared.log.LogRow.{LogRow}
use Rattle.gj_proof.specs.declared.pivot.PivotRow.{PivotRow}
use Rattle.gj_extreme.specs.RowsToCome.{line_parts, row_parts, AreLoggedRows}

abbrev no_row : KeptRow
no_row = record { number = 0; reduce = []; pivot = 0; entries = [] }

abbrev pub record_of : RowName → List ℕ → ℕ → PivotRow
record_of n r p = record { name = n; reduce = r; pivot = p }

-- there is a line for each kept row
pub lines_count : (kept : List KeptRow) (log : List LogRow) → AreLoggedRows kept log →
    length log ≡ length kept
lines_count kept log lines = sym (length-map log line_parts) ∙ ap length lines
    ∙ length-map kept row_parts

-- the group of one more kept row, made of its name, its steps and its pivot
pub one_group_more : {N R : Type 0} (name_of : KeptRow → N) (make : N → List ℕ → ℕ → R) (d : N)
    (kept : List KeptRow) (names : List N)
    (log : List LogRow) (groups pushed : List R) (i : ℕ) (name : N) (line : LogRow)
    (reduce : List ℕ) → i < length kept →
    names ≡ map name_of kept → AreLoggedRows kept log → name ≡ get_or names i d →
    line ≡ get_or log i line → reduce ≡ line.reduce →
    groups ≡ map (λ k. make (name_of k) k.reduce k.pivot) (take i kept) →
    pushed ≡ groups ++ make name reduce line.pivot ∷ [] →
    pushed ≡ map (λ k. make (name_of k) k.reduce k.pivot) (take (i + 1) kept)
one_group_more name_of make d kept names log groups pushed i name line reduce below names_are lines
    name_read line_read reduce_is are e =
    let k = get_or kept i no_row in
    let group = λ (x : KeptRow). make (name_of x) x.reduce x.pivot in
    let same = lines_count kept log lines in
    let within : i < length log = omega arith in
    let name_is : name ≡ name_of k =
    name_read ∙ ap (λ l. get_or l i d) names_are ∙ get_or-map name_of kept i no_row d below in
    let parts : line_parts line ≡ row_parts k =
    ap line_parts line_read ∙ sym (get_or-map line_parts log i line ([], 0) within)
    ∙ ap (λ l. get_or l i ([], 0)) lines
    ∙ get_or-map row_parts kept i no_row ([], 0) below in
    e ∙ ap₂ (λ gs r. gs ++ make name r line.pivot ∷ []) are reduce_is
    ∙ ap₂ (λ n l. map group (take i kept) ++ make n l.0 l.1 ∷ []) name_is parts
    ∙ sym (map-append group (take i kept) (k ∷ []))
    ∙ ap (map group) (sym (take_more kept i no_row below))

pub count_more : {X : Type 0} (xs pushed : List X) (x : X) → pushed ≡ xs ++ x ∷ [] →
    length pushed ≡ length xs + 1
count_more xs pushed x e = ap length e ∙ length_push xs x

-- the name of one more kept row, by its number
pub one_name_more : {N : Type 0} (rows : List N) (none : N) (kept : List KeptRow)
    (log : List LogRow) (all names pushed : List N) (i : ℕ)
    (d : N) (line : LogRow) → i < length kept → log ≡ map log_row kept → line ≡ get_or log i line →
    all ≡ rows → line.number < length all →
    names ≡ map (λ k. get_or rows k.number none) (take i kept) →
    pushed ≡ names ++ get_or all line.number d ∷ [] →
    pushed ≡ map (λ k. get_or rows k.number none) (take (i + 1) kept)
one_name_more rows none kept log all names pushed i d line below log_is line_read all_is low are e =
    let k = get_or kept i no_row in
    let name_of = λ (x : KeptRow). get_or rows x.number none in
    let line_is : line ≡ log_row k = line_read ∙ ap (λ l. get_or l i line) log_is
    ∙ get_or-map log_row kept i no_row line below in
    let name_is : get_or all line.number d ≡ name_of k =
    get_or_default all line.number d none low
    ∙ ap₂ (λ xs l. get_or xs l.number none) all_is line_is in
    e ∙ ap₂ (λ xs x. xs ++ x ∷ []) are name_is
    ∙ sym (map-append name_of (take i kept) (k ∷ []))
    ∙ ap (map name_of) (sym (take_more kept i no_row below))
