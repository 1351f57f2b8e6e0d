-- The claims of the decision have a text: their ranges and counts are those of the form.
use Rattle.std.proofs.Common.{◌≡◌, ◌≢◌, ℕ, zero, suc, ◌+◌, ◌-◌, ◌<◌, ◌≤◌, ◌==◌, ◌%◌, ◌⊎◌, inl, inr, ℤ, List, [], ◌∷◌, ◌++◌, length, map, get_or, refl, sym, ap, subst, ◌∙◌, append_assoc, arith}
use Rattle.std.specs.Prelude.{All, Any}
use Rattle.std.specs.List.{range_with_len, filter, flat_map}
use Rattle.std.proofs.lemmas.Bool.{cases_lt}
use Rattle.std.proofs.lemmas.List.{get_or_past}
use Rattle.std.proofs.lemmas.List.Elements.{All-nil, All-cons, All-head, All-append, All-map, All-get_or, All-filter}
use Rattle.std.proofs.lemmas.List.Sums.{count_by-le-length}
use Rattle.gj_lemmas.proofs.Lists.{All-back, All-joined, All-flat_map}
use Rattle.gj_cover.proofs.Parts.{any_none}
use Rattle.gj_shape.specs.Additive.{IsTight}
use Rattle.gj_shape.specs.Cover.{Joins, Covers, IsFirstFace, IsNextLine, AreCoverLines}
use Rattle.gj_shape.specs.Elimination.{KeptRow, entries_of, row_with_pivot}
use Rattle.gj_shape.specs.FunctionData.{FunctionData, IsWithinBounds}
use Rattle.gj_shape.specs.SlopeRows.{is_tight, row_names}
use Rattle.gj_shape.specs.WalkOrder.{faces_of, faces_of_square, faces_in}
use Rattle.gj_shape.specs.declared.extremality.CoverLine.{CoverLine}
use Rattle.gj_shape.specs.declared.extremality.RowName.TheVariants.{Period, F, Pair}
use Rattle.gj_shape.specs.declared.faces.Face.{Face}
use Rattle.gj_shape.specs.declared.faces.FaceKind.{FaceKind}
use Rattle.gj_shape.specs.declared.faces.FaceKind.TheVariants.{Vertex, Horizontal, Vertical, Diagonal, Lower, Upper}
use Rattle.gj_theory.proofs.CoverLines.{lines_meet_rules}
use Rattle.gj_theory.proofs.LineComponents.{line_of_component}
use Rattle.gj_theory.proofs.LineIntervals.{lines_for_all}
use Rattle.gj_proof.specs.PresentRows.{arithmetic_of}
use Rattle.gj_proof.specs.ProofText.{IsCoverLineBelow, IsRowNameBelow, IsPivotRowBelow, AreExtremeLines}
use Rattle.gj_proof.specs.Rules.{MeetsPivotBy}
use Rattle.gj_proof.specs.declared.numbers.Numbers.{Numbers}
use Rattle.gj_proof.specs.declared.numbers.Numbers.TheVariants.{Whole, Residues}
use Rattle.gj_proof.specs.declared.pivot.PivotRow.{PivotRow}
use Rattle.gj_extreme.specs.Decision.{AreAllCovered, AreExtremeRows, group_of, elimination_over}
use Rattle.gj_extreme.proofs.KeptGroups.{StepsMeet, AllMeet, all_kept_meet, rows_are_narrow}

-- ---- halves

-- ---- lines

abbrev IsSquareBelow : ℕ → Face → Type 0
IsSquareBelow q face = (face.a < q) × (face.b < q)

each_kind : (q a b : ℕ) → a < q → b < q → (kinds : List FaceKind) →
    All (IsSquareBelow q) (faces_in kinds a b)
each_kind q a b a_low b_low [] = All-nil (IsSquareBelow q)
each_kind q a b a_low b_low (kind ∷ kinds) =
    All-cons (IsSquareBelow q) (record { kind = kind; a = a; b = b }) (faces_in kinds a b)
    (a_low, b_low)
    (each_kind q a b a_low b_low kinds)

faces_below : (q : ℕ) → All (IsSquareBelow q) (faces_of q)
faces_below q =
    All-joined (IsSquareBelow q) (λ a. flat_map (faces_of_square a) (range_with_len 0 q)) 0 q
    (λ a a_low.
    All-joined (IsSquareBelow q) (faces_of_square a) 0 q (λ b b_low.
    each_kind q a b (omega arith) (omega arith)
    (Vertex ∷ Horizontal ∷ Vertical ∷ Diagonal ∷ Lower ∷ Upper ∷ [])))

pub first_face_below : (q : ℕ) (P : FaceKind → ℕ → ℕ → Type 0) (face : Face) →
    IsFirstFace q P face → (face.a < q) × (face.b < q)
first_face_below q P face h =
    let all = subst (All (IsSquareBelow q)) h.first.place (faces_below q) in
    All-head (IsSquareBelow q) face h.first.after
    (All-back (IsSquareBelow q) h.before (face ∷ h.first.after) all)

joins_by_edge : (q : ℕ) (Tight : ℕ → ℕ → Type 0) (kind : FaceKind) (a b i j : ℕ) →
    Joins q Tight kind a b i j → kind ≢ Vertex
joins_by_edge q Tight Vertex a b i j h e = any_none (λ x. x % q ≡ i % q) h.first
joins_by_edge q Tight Horizontal a b i j h e = absurd cc
joins_by_edge q Tight Vertical a b i j h e = absurd cc
joins_by_edge q Tight Diagonal a b i j h e = absurd cc
joins_by_edge q Tight Lower a b i j h e = absurd cc
joins_by_edge q Tight Upper a b i j h e = absurd cc

covers_by_triangle : (q : ℕ) (Tight : ℕ → ℕ → Type 0) (kind : FaceKind) (a b i : ℕ) →
    Covers q Tight kind a b i → kind ≢ Vertex
covers_by_triangle q Tight Vertex a b i h e = any_none (λ x. x % q ≡ i % q) h.projection
covers_by_triangle q Tight Horizontal a b i h e = absurd cc
covers_by_triangle q Tight Vertical a b i h e = absurd cc
covers_by_triangle q Tight Diagonal a b i h e = absurd cc
covers_by_triangle q Tight Lower a b i h e = absurd cc
covers_by_triangle q Tight Upper a b i h e = absurd cc

line_below : (q : ℕ) (Tight : ℕ → ℕ → Type 0) (before : List CoverLine) (l : CoverLine) →
    IsNextLine q Tight before l →
    IsCoverLineBelow q l
line_below q Tight before l (inl h) =
    let face = first_face_below q _ l.face h.face in record {
      interval = h.interval.holds.1.first_within;
      from = h.from.holds.second_within;
      first = face.0;
      second = face.1;
      not_vertex = joins_by_edge q Tight l.face.kind l.face.a l.face.b l.interval l.from
          h.face.holds;
    }
line_below q Tight before l (inr h) =
    let face = first_face_below q _ l.face h.face in record {
      interval = h.interval.holds.within;
      from = subst (λ (i : ℕ). i < q) (sym h.from) h.interval.holds.within;
      first = face.0;
      second = face.1;
      not_vertex = covers_by_triangle q Tight l.face.kind l.face.a l.face.b l.interval h.face.holds;
    }

-- what holds of each line behind those before it, holds of all
pub each_line : (P : CoverLine → Type 0) (lines : List CoverLine) →
    ((before : List CoverLine) (l : CoverLine) (after : List CoverLine) →
    lines ≡ before ++ l ∷ after → P l) → All P lines
each_line P lines h = behind [] lines refl
  where
    behind : (before after : List CoverLine) → lines ≡ before ++ after → All P after
    behind before [] place = All-nil P
    behind before (l ∷ after) place =
        All-cons P l after (h before l after place)
        (behind (before ++ l ∷ []) after (place ∙ sym (append_assoc before (l ∷ []) after)))

lines_below_order : (q : ℕ) (Tight : ℕ → ℕ → Type 0) (lines : List CoverLine) →
    AreCoverLines q Tight lines →
    All (IsCoverLineBelow q) lines
lines_below_order q Tight lines h =
    each_line (IsCoverLineBelow q) lines
    (λ before l after place. line_below q Tight before l (h.in_turn before l after place))

lines_are_all : (f : FunctionData) (lines : List CoverLine) (component : ℕ → ℕ) (n : ℕ) →
    AreAllCovered f lines component n →
    length lines ≡ f.order
lines_are_all f lines component n h =
    lines_for_all f.order (IsTight f) lines (lines_meet_rules f.order (IsTight f) lines h.are_lines)
    (each_line (λ l. l.interval < f.order) lines
    (λ before l after place.
    (line_below f.order (IsTight f) before l
    (h.are_lines.in_turn before l after place)).interval))
    (λ i low. line_of_component lines (component i) i (h.numbers i low))

-- ---- groups

pub range_between : (a n : ℕ) → All (λ i. (a ≤ i) × (i < a + n)) (range_with_len a n)
range_between a zero = All-nil (λ i. (a ≤ i) × (i < a + zero))
range_between a (suc n) =
    All-cons (λ i. (a ≤ i) × (i < a + suc n)) a (range_with_len (a + 1) n)
    (omega arith, omega arith)
    (λ k d low. let h = range_between (a + 1) n k d low in
    (let from = h.0 in omega arith, let to = h.1 in omega arith))

pairs_below : (f : FunctionData) (a : ℕ) → 1 ≤ a → a < f.order →
    All (IsRowNameBelow f.order)
    (map (Pair a) (filter (is_tight f a) (range_with_len a (f.order - a))))
pairs_below f a low high =
    All-map (IsRowNameBelow f.order) (Pair a)
    (filter (is_tight f a) (range_with_len a (f.order - a)))
    (All-filter (is_tight f a) (λ b. IsRowNameBelow f.order (Pair a b))
    (range_with_len a (f.order - a))
    (λ k d below. let h = range_between a (f.order - a) k d below in
    (low, h.0, let to = h.1 in omega arith)))

names_below : (f : FunctionData) → All (IsRowNameBelow f.order) (row_names f)
names_below f =
    let Below = IsRowNameBelow f.order in
    let pairs = λ (a : ℕ). map (Pair a) (filter (is_tight f a) (range_with_len a (f.order - a))) in
    let rows = flat_map pairs (range_with_len 1 (f.order - 1)) in
    All-cons Below Period (F ∷ rows) tt (All-cons Below F rows tt
    (All-flat_map Below pairs (range_with_len 1 (f.order - 1)) (λ k d below.
    let h = range_between 1 (f.order - 1) k d below in
    pairs_below f (get_or (range_with_len 1 (f.order - 1)) k d) h.0 (let from = h.0 in
    let to = h.1 in omega arith))))

name_below : (f : FunctionData) (i : ℕ) → IsRowNameBelow f.order (get_or (row_names f) i Period)
name_below f i = by_place (cases_lt i (length (row_names f)))
  where
    by_place : (i < length (row_names f)) ⊎ (length (row_names f) ≤ i) →
        IsRowNameBelow f.order (get_or (row_names f) i Period)
    by_place (inl low) = All-get_or (IsRowNameBelow f.order) (row_names f) i Period low
        (names_below f)
    by_place (inr past) =
        subst (IsRowNameBelow f.order) (sym (get_or_past (row_names f) i Period past)) tt

-- each step is at the pivot of an earlier row
pub steps_below : (numbers : Numbers) (n : ℕ) (kept : List KeptRow) (row : List ℤ)
    (columns : List ℕ) → All (λ k. k.pivot < n) kept →
    StepsMeet numbers kept row columns → All (λ c. c < n) columns
steps_below numbers n kept row [] low h = All-nil (λ c. c < n)
steps_below numbers n kept row (c ∷ columns) low h =
    All-cons (λ j. j < n) c columns (of_some kept low h.0.pivot)
    (steps_below numbers n kept
    ((arithmetic_of numbers).step (entries_of (row_with_pivot kept c)) row c) columns low h.2)
  where
    of_some : (rows : List KeptRow) → All (λ k. k.pivot < n) rows → Any (λ k. k.pivot ≡ c) rows →
        c < n
    of_some rows all (i, k, below, is, e) =
        subst (λ (j : ℕ). j < n) (ap (λ r. r.pivot) is ∙ e)
        (All-get_or (λ r. r.pivot < n) rows i k below all)

pub pivot_below : (numbers : Numbers) (n : ℕ) (kept : List KeptRow) (row : List ℤ) (c : ℕ) →
    MeetsPivotBy numbers n kept row c → c < n
pivot_below Whole n kept row c h = h.column
pivot_below Residues n kept row c h = h.0.column

groups_below : (numbers : Numbers) (f : FunctionData) (component : ℕ → ℕ) (n : ℕ)
    (kept more : List KeptRow) → n ≤ 1000 →
    All (λ k. k.pivot < n) kept → AllMeet numbers f component n kept more →
    All (IsPivotRowBelow f.order) (map (group_of f) more)
groups_below numbers f component n kept [] few low h = All-nil (IsPivotRowBelow f.order)
groups_below numbers f component n kept (k ∷ more) few low h =
    let columns = steps_below numbers n kept _ k.reduce low h.0.steps in
    let pivot = pivot_below numbers n kept _ k.pivot h.0.pivot in
    All-cons (IsPivotRowBelow f.order) (group_of f k) (map (group_of f) more)
    record {
      name = name_below f k.number;
      reduce = λ i d below. (let one = columns i d below in omega arith);
      pivot = omega arith;
    }
    (groups_below numbers f component n (kept ++ k ∷ []) more few
    (All-append (λ r. r.pivot < n) kept (k ∷ []) low
    (All-cons (λ r. r.pivot < n) k [] pivot (All-nil (λ r. r.pivot < n)))) h.1)

-- there are at most as many components as lines
pub components_are_few : (f : FunctionData) (lines : List CoverLine) (component : ℕ → ℕ) (n : ℕ) →
    IsWithinBounds f →
    AreAllCovered f lines component n → n ≤ 1000
components_are_few f lines component n l h =
    let len = lines_are_all f lines component n h in
    let most = count_by-le-length (λ m. m.from == m.interval) lines in
    let count = h.count in
    let top = l.order_high in
    omega arith

pub extreme_has_text : (numbers : Numbers) (f g : FunctionData) (lines : List CoverLine)
    (rows : List PivotRow) → IsWithinBounds f →
    g ≡ f → AreExtremeRows numbers f lines rows → AreExtremeLines g lines rows
extreme_has_text numbers f g lines rows l same h =
    let few = components_are_few f lines h.component h.n l h.covered in
    subst (λ (x : FunctionData). AreExtremeLines x lines rows) (sym same) (
      lines_are_all f lines h.component h.n h.covered,
      lines_below_order f.order (IsTight f) lines h.covered.are_lines,
      subst (All (IsPivotRowBelow f.order)) (sym h.rows_are)
          (groups_below numbers f h.component h.n []
          (elimination_over numbers f h.component h.n).kept few (All-nil (λ k. k.pivot < h.n))
          (all_kept_meet numbers f h.component h.n (rows_are_narrow numbers f lines rows h))),
    )
