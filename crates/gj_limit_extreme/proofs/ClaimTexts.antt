-- The claims of the decision have a text: their ranges and counts are those of the form.
use Rattle.std.proofs.Common.{◌≡◌, ◌≢◌, ℕ, zero, suc, ◌+◌, ◌-◌, ◌*◌, ◌%◌, ◌<◌, ◌≤◌, ◌==◌, ◌⊎◌, inl, inr, ℤ, pos, List, [], ◌∷◌, ◌++◌, length, map, get_or, zero-add, refl, sym, ap, subst, ◌∙◌, arith}
use Rattle.std.specs.Prelude.{All}
use Rattle.std.specs.List.{range_with_len, filter, flat_map}
use Rattle.std.proofs.Math.Nat.{zero-mod}
use Rattle.std.proofs.lemmas.Bool.{cases_lt}
use Rattle.std.proofs.lemmas.Int.{ints}
use Rattle.std.proofs.lemmas.List.{get_or-map, get_or_past, length-map}
use Rattle.std.proofs.lemmas.List.Elements.{All-nil, All-cons, All-tail, All-append, All-map, All-get_or}
use Rattle.std.proofs.lemmas.List.Sums.{count_by-le-length}
use Rattle.gj_lemmas.proofs.Lists.{All-joined, All-flat_map, All-made, joined_has}
use Rattle.gj_cover.specs.declared.covered.Cover.{Cover}
use Rattle.gj_shape.specs.Elimination.{KeptRow, at_column}
use Rattle.gj_shape.specs.Faces.{corners_of, slack_from}
use Rattle.gj_shape.specs.FunctionData.{FunctionData, IsWithinBounds}
use Rattle.gj_shape.specs.Residues.{residue, residues}
use Rattle.gj_shape.specs.SlopeRows.{component_in}
use Rattle.gj_shape.specs.declared.extremality.CoverLine.{CoverLine}
use Rattle.gj_shape.specs.declared.extremality.LimitHalves.{LimitHalves}
use Rattle.gj_shape.specs.declared.extremality.SideNumbers.{SideNumbers}
use Rattle.gj_shape.specs.declared.faces.FaceKind.{FaceKind}
use Rattle.gj_shape.specs.declared.faces.FaceKind.TheVariants.{Vertex, Horizontal, Vertical, Diagonal, Lower, Upper}
use Rattle.gj_theory.specs.Modulus.{modulus}
use Rattle.gj_theory.proofs.Modulo.{residue_of_zero, at_residues}
use Rattle.gj_jumps.specs.LimitCover.{IsTightAt}
use Rattle.gj_limit_cover.specs.LimitCover.{IsNextLine, AreCoverLines}
use Rattle.gj_limit_halves.specs.LimitHalves.{AreWithinLimits}
use Rattle.gj_limit_halves.specs.Sides.{AreSidesWithin}
use Rattle.gj_limit_system.specs.LimitRows.{IsLimitRowBelow, corners, row_at, is_tight_at, tight_rows_at, tight_rows, limit_rows, row_value}
use Rattle.gj_limit_system.specs.Unknowns.{columns_for, value_from, limits_from}
use Rattle.gj_limit_system.specs.declared.limit_row.LimitRow.{LimitRow}
use Rattle.gj_limit_system.specs.declared.limit_row.LimitRow.TheVariants.{F, Tight}
use Rattle.gj_limit_system.proofs.NamedRows.{to_rows}
use Rattle.gj_proof.specs.PresentRows.{arithmetic_of}
use Rattle.gj_proof.specs.ProofText.{IsCoverLineBelow}
use Rattle.gj_proof.specs.Rules.{MeetsPivotBy}
use Rattle.gj_proof.specs.declared.numbers.Numbers.{Numbers}
use Rattle.gj_proof.specs.declared.numbers.Numbers.TheVariants.{Whole, Residues}
use Rattle.gj_limit_proof.specs.LimitRowsKept.{unit_at, named_row}
use Rattle.gj_limit_proof.specs.LimitText.{IsRowWithin, IsLimitPivotRowBelow, AreLimitExtremeLines, AreSideNumbersWithin, AreLimitHalvesInBounds}
use Rattle.gj_limit_proof.specs.declared.claim.LimitPivotRow.{LimitPivotRow}
use Rattle.gj_extreme.proofs.ClaimTexts.{each_line, first_face_below, range_between, steps_below, pivot_below}
use Rattle.gj_extreme.proofs.KeptGroups.{StepsMeet, present_over}
use Rattle.gj_limit_extreme.specs.Decision.{AreAllCovered, columns_of, elimination_over, group_of, AreExtremeRows}
use Rattle.gj_limit_extreme.proofs.CoverLines.{interval_within, from_within, line_no_vertex, lines_are_all}
use Rattle.gj_limit_extreme.proofs.DecidedGroups.{system_rows, system_columns}
use Rattle.gj_limit_extreme.proofs.DecidedRules.{rows_are_narrow}
use Rattle.gj_limit_extreme.proofs.KeptRows.{begun, MeetsKept, AllMeet, all_kept_meet}
use Rattle.gj_limit_extreme.proofs.OneCover.{has_component}

-- ---- halves

sides_in_bounds : (n : ℕ) (s : SideNumbers) → AreSidesWithin n s → AreSideNumbersWithin n s
sides_in_bounds n s h = record {
  left_length = h.left_length;
  value_length = h.value_length;
  right_length = h.right_length;
  left_fit = h.left_fit;
  value_fit = h.value_fit;
  right_fit = h.right_fit;
}

pub halves_have_text : (h : LimitHalves) → AreWithinLimits h → AreLimitHalvesInBounds h
halves_have_text h l = record {
  order_low = l.order_low;
  order_high = l.order_high;
  scale_low = l.scale_low;
  scale_high = l.scale_high;
  first = sides_in_bounds h.order h.first l.first;
  second = sides_in_bounds h.order h.second l.second;
}

-- ---- lines

line_below : (q : ℕ) (T : FaceKind → ℕ → ℕ → ℕ → Type 0) (before : List CoverLine) (l : CoverLine) →
    IsNextLine q T before l →
    IsCoverLineBelow q l
line_below q T before l next = record {
  interval = interval_within q T before l next;
  from = from_within q T before l next;
  first = (face_below next).0;
  second = (face_below next).1;
  not_vertex = line_no_vertex q T before l next;
}
  where
    face_below : IsNextLine q T before l → (l.face.a < q) × (l.face.b < q)
    face_below (inl h) = elim h.face [
      | inl additive ↦ first_face_below q _ l.face additive
      | inr any ↦ first_face_below q _ l.face any.1
    ]
    face_below (inr h) = first_face_below q _ l.face h.face

-- there is a line for each interval
pub lines_count : (f : FunctionData) (cover : Cover) (component : List ℕ) →
    AreAllCovered f cover component →
    length cover.lines ≡ f.order
lines_count f cover component h =
    lines_are_all f.order (IsTightAt f) cover.lines h.is_cover.lines
    (λ i low. (component_in component i, has_component f cover component h i low))

-- the rows have fewer than 3,000 columns
pub columns_few : (f : FunctionData) (cover : Cover) (component : List ℕ) → IsWithinBounds f →
    AreAllCovered f cover component →
    columns_of f cover < 3000
columns_few f cover component bounds h =
    let most = count_by-le-length (λ (l : CoverLine). l.from == l.interval) cover.lines in
    let lines = lines_count f cover component h in
    let count = h.is_cover.count in
    let low = bounds.order_low in
    let high = bounds.order_high in
    omega arith

-- ---- names of rows

abbrev HasCorner : LimitRow → Type 0
HasCorner F = Unit {0}
HasCorner (Tight kind corner a b) = corner < length (corners_of kind 0 0)

abbrev IsOrdered : ℕ → LimitRow → Type 0
IsOrdered q F = Unit {0}
IsOrdered q (Tight kind corner a b) = (a ≤ b) × (b < q)

names_have_corners : (f : FunctionData) → All HasCorner (limit_rows f)
names_have_corners f = to_rows f HasCorner tt (λ kind c a b low tight. low)

vertex_ordered : (f : FunctionData) (a b : ℕ) → a ≤ b → b < f.order →
    All (IsOrdered f.order) (tight_rows_at f a b)
vertex_ordered f a b low high =
    All-map (IsOrdered f.order) (row_at a b) (filter (is_tight_at f a b) corners)
    (λ k d below. (low, high))

names_ordered : (f : FunctionData) → All (IsOrdered f.order) (limit_rows f)
names_ordered f =
    All-cons (IsOrdered f.order) F (flat_map (tight_rows f) (range_with_len 0 f.order)) tt
    (All-joined (IsOrdered f.order) (tight_rows f) 0 f.order
    (λ a a_low.
    All-flat_map (IsOrdered f.order) (tight_rows_at f a) (range_with_len a (f.order - a))
    (λ k d low.
    let h = range_between a (f.order - a) k d low in
    vertex_ordered f a (get_or (range_with_len a (f.order - a)) k d) h.0 (let high = h.1 in
    omega arith))))

name_below : (q : ℕ) (name : LimitRow) → HasCorner name → IsOrdered q name → IsLimitRowBelow name q
name_below q F corner ordered = tt
name_below q (Tight kind c a b) corner (low, high) = (corner, omega arith, high)

-- the corners and the points of all names are within their ranges
pub names_below : (f : FunctionData) → All (λ name. IsLimitRowBelow name f.order) (limit_rows f)
names_below f k d low =
    name_below f.order (get_or (limit_rows f) k d) (names_have_corners f k d low)
    (names_ordered f k d low)

-- so are those of one row of vertices
pub row_names_below : (f : FunctionData) (a : ℕ) → a < f.order →
    All (λ name. IsLimitRowBelow name f.order) (tight_rows f a)
row_names_below f a low =
    let Below = λ (name : LimitRow). IsLimitRowBelow name f.order in
    joined_has Below (tight_rows f) a f.order low
    (All-tail Below F (flat_map (tight_rows f) (range_with_len 0 f.order)) (names_below f))

-- a name is one of the form, or that of a value at 0 and another point
name_within : (q : ℕ) (name : LimitRow) → HasCorner name → IsOrdered q name →
    IsRowWithin q name ⊎ ((c : ℕ) × (b : ℕ) × (name ≡ Tight Vertex c 0 b))
name_within q F corner ordered = inl tt
name_within q (Tight Vertex c zero b) corner (low, high) = inr (c, b, refl)
name_within q (Tight Vertex c (suc a) b) corner (low, high) =
    inl (record { corner_is = corner; ascending = low; below = high; some = λ e. omega arith })
name_within q (Tight Horizontal c a b) corner (low, high) =
    inl (record { corner_is = corner; ascending = low; below = high; some = λ e. absurd cc })
name_within q (Tight Vertical c a b) corner (low, high) =
    inl (record { corner_is = corner; ascending = low; below = high; some = λ e. absurd cc })
name_within q (Tight Diagonal c a b) corner (low, high) =
    inl (record { corner_is = corner; ascending = low; below = high; some = λ e. absurd cc })
name_within q (Tight Lower c a b) corner (low, high) =
    inl (record { corner_is = corner; ascending = low; below = high; some = λ e. absurd cc })
name_within q (Tight Upper c a b) corner (low, high) =
    inl (record { corner_is = corner; ascending = low; below = high; some = λ e. absurd cc })

-- ---- rows of zeros are not kept

-- that of values at 0 and another point is one
no_entries : (f : FunctionData) (component : ℕ → ℕ) (n c b : ℕ) →
    All (λ x. x ≡ pos 0) (named_row f component n (Tight Vertex c 0 b))
no_entries f component n c b =
    All-made (λ x. x ≡ pos 0)
    (λ j. row_value f.place (limits_from f.order component (unit_at j)) (Tight Vertex c 0 b)) 0
    n
    (λ j low.
    let w = limits_from f.order component (unit_at j) in
    let first : value_from f.order (unit_at j) (0 % f.order) ≡ pos 0 =
    ap (value_from f.order (unit_at j)) (zero-mod f.order) in
    nothing (w.value 0) (w.value b) (w.value (0 + b)) first (ap w.value (zero-add b)))
  where
    nothing : (x y s : ℤ) → x ≡ pos 0 → s ≡ y → slack_from x y s ≡ pos 0
    nothing x y s e g = omega (arith, ints)

pub zero_at : (xs : List ℤ) (j : ℕ) → All (λ x. x ≡ pos 0) xs → at_column xs j ≡ pos 0
zero_at xs j all = elim (cases_lt j (length xs)) [
  | inl low ↦ All-get_or (λ x. x ≡ pos 0) xs j (pos 0) low all
  | inr past ↦ get_or_past xs j (pos 0) past
]

zero_read : (numbers : Numbers) (xs : List ℤ) (j : ℕ) → All (λ x. x ≡ pos 0) xs →
    at_column ((arithmetic_of numbers).read xs) j ≡ pos 0
zero_read Whole xs j all = zero_at xs j all
zero_read Residues xs j all = at_residues modulus xs j ∙ ap (residue modulus) (zero_at xs j all)
    ∙ residue_of_zero modulus

pivot_some : (numbers : Numbers) (n : ℕ) (kept : List KeptRow) (row : List ℤ) (c : ℕ) →
    MeetsPivotBy numbers n kept row c →
    at_column row c ≢ pos 0
pivot_some Whole n kept row c h = h.not_zero
pivot_some Residues n kept row c h = h.0.not_zero

-- a row that is kept has an entry
some_entry : (numbers : Numbers) (n : ℕ) (kept : List KeptRow) (row : List ℤ) (reduce : List ℕ)
    (c : ℕ) →
    StepsMeet numbers kept row reduce →
    MeetsPivotBy numbers n kept (present_over numbers kept row reduce) c →
    ((j : ℕ) → at_column row j ≡ pos 0) → ⊥
some_entry numbers n kept row [] c steps pivot none = pivot_some numbers n kept row c pivot (none c)
some_entry numbers n kept row (x ∷ reduce) c steps pivot none = steps.0.not_zero (none x)

-- ---- groups

module _ (numbers : Numbers) (f : FunctionData) (component : ℕ → ℕ) (n : ℕ) (few : n < 3000) where
  abbrev rows : List (List ℤ)
  rows = system_rows f component n

  kept_name : (kept : List KeptRow) (k : KeptRow) → MeetsKept numbers n rows kept k →
      IsRowWithin f.order (group_of f k).name
  kept_name kept k h =
      let len = length-map (limit_rows f) (named_row f component n) in
      let low : k.number < length (limit_rows f) = (let below = h.low in omega arith) in
      let name = get_or (limit_rows f) k.number F in
      let there : get_or rows k.number [] ≡ named_row f component n name =
      get_or-map (named_row f component n) (limit_rows f) k.number F [] low in
      elim (name_within f.order name (names_have_corners f k.number F low)
      (names_ordered f k.number F low)) [
        | inl within ↦ within
        | inr (c, b, is) ↦
            absurd (some_entry numbers n kept (begun numbers rows k) k.reduce k.pivot h.steps
            h.pivot
            (λ j. zero_read numbers (get_or rows k.number []) j
            (subst (All (λ x. x ≡ pos 0)) (sym (there ∙ ap (named_row f component n) is))
            (no_entries f component n c b))))
      ]

  groups_below : (kept more : List KeptRow) → All (λ k. k.pivot < n) kept →
      AllMeet numbers n rows kept more →
      All (IsLimitPivotRowBelow f.order) (map (group_of f) more)
  groups_below kept [] low h = All-nil (IsLimitPivotRowBelow f.order)
  groups_below kept (k ∷ more) low h =
      let columns = steps_below numbers n kept _ k.reduce low h.0.steps in
      let pivot = pivot_below numbers n kept _ k.pivot h.0.pivot in
      All-cons (IsLimitPivotRowBelow f.order) (group_of f k) (map (group_of f) more)
      record {
        name = kept_name kept k h.0;
        reduce = λ i d below. (let one = columns i d below in omega arith);
        pivot = omega arith;
      }
      (groups_below (kept ++ k ∷ []) more (All-append (λ r. r.pivot < n) kept (k ∷ []) low
      (All-cons (λ r. r.pivot < n) k [] pivot (All-nil (λ r. r.pivot < n)))) h.1)

pub extreme_has_text : (numbers : Numbers) (f g : FunctionData) (lines : List CoverLine)
    (rows : List LimitPivotRow) → IsWithinBounds f →
    g ≡ f → AreExtremeRows numbers f lines rows → AreLimitExtremeLines g lines rows
extreme_has_text numbers f g lines rows bounds same h =
    let n = columns_of f h.cover in
    let comp = component_in h.component in
    let all = system_rows f comp n in
    subst (λ (x : FunctionData). AreLimitExtremeLines x lines rows) (sym same) record {
      count = ap length h.lines_are ∙ lines_count f h.cover h.component h.covered;
      lines_below = subst (All (IsCoverLineBelow f.order)) (sym h.lines_are)
          (each_line (IsCoverLineBelow f.order) h.cover.lines
          (λ before l after place.
          line_below f.order (IsTightAt f) before l
          (h.covered.is_cover.lines.in_turn before l after place)));
      rows_below = subst (All (IsLimitPivotRowBelow f.order)) (sym h.rows_are)
          (groups_below numbers f comp n (columns_few f h.cover h.component bounds h.covered) []
          (elimination_over numbers f h.component n).kept
          (All-nil (λ k. k.pivot < n))
          (all_kept_meet numbers n all (system_columns f comp n)
          (rows_are_narrow numbers f lines rows h)));
    }
