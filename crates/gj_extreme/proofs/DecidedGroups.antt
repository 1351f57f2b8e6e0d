-- The groups that the decision gives of an extreme function meet the rules, by any numbers of the
-- components.
use Rattle.std.proofs.Common.{◌≡◌, ◌≢◌, ℕ, zero, suc, inl, inr, ◌+◌, ◌%◌, ◌<◌, ◌≤◌, Bool, true, false, cond, Some, ℤ, pos, ◌+ℤ◌, ◌-ℤ◌, List, [], ◌∷◌, ◌++◌, map, count_by, eqb, refl, sym, ap, ap₂, subst, subst₂, ◌∙◌, append_assoc, arith}
use Rattle.std.specs.Prelude.{All, Any}
use Rattle.std.specs.List.{range_with_len}
use Rattle.std.proofs.Math.Nat.{mod-lt}
use Rattle.std.proofs.lemmas.List.{append-nil, map_push}
use Rattle.std.proofs.lemmas.List.Elements.{All-nil, All-cons, All-head, All-tail}
use Rattle.gj_cover.proofs.Parts.{any_none, any_cases, any_here, any_there}
use Rattle.gj_shape.specs.Elimination.{KeptRow, entries_of, row_with_pivot, elimination_by, Passes}
use Rattle.gj_shape.specs.FunctionData.{FunctionData, IsWithinBounds}
use Rattle.gj_shape.specs.SlopeRows.{rises, row_entry, row_names}
use Rattle.gj_shape.specs.declared.extremality.RowName.{RowName}
use Rattle.gj_shape.specs.declared.extremality.RowName.TheVariants.{Period, F, Pair}
use Rattle.gj_theory.proofs.ComponentIntervals.{count_first}
use Rattle.gj_theory.proofs.ExtremeByCover.{each_row}
use Rattle.gj_proof.specs.declared.pivot.PivotRow.{PivotRow}
use Rattle.gj_proof.specs.PresentRows.{arithmetic_of, begun_row, entries_or_none, named_row, row_kept_by, rows_behind_by, rows_before_by}
use Rattle.gj_proof.specs.Rules.{MeetsRow, MeetsReduce, MeetsPivot, MeetsPivotBy}
use Rattle.gj_proof.specs.declared.numbers.Numbers.{Numbers}
use Rattle.gj_proof.specs.declared.numbers.Numbers.TheVariants.{Whole, Residues}
use Rattle.gj_extreme.specs.Decision.{group_of, elimination_over}
use Rattle.gj_extreme.proofs.KeptGroups.{SizeMeets, StepsMeet, present_over, MeetsKept, AllMeet}

-- ---- the system by other numbers of the components

pub map_same : {X Y : Type 0} (g h : X → Y) (xs : List X) → All (λ x. g x ≡ h x) xs →
    map g xs ≡ map h xs
map_same g h [] e = refl
map_same g h (x ∷ xs) e =
    ap₂ (λ y ys. y ∷ ys) (All-head (λ z. g z ≡ h z) x xs e)
    (map_same g h xs (All-tail (λ z. g z ≡ h z) x xs e))

map_equal : {X Y : Type 0} (g h : X → Y) (xs : List X) → ((x : X) → g x ≡ h x) → map g xs ≡ map h xs
map_equal g h [] e = refl
map_equal g h (x ∷ xs) e = ap₂ (λ y ys. y ∷ ys) (e x) (map_equal g h xs e)

count_same : (p r : ℕ → Bool) (a n : ℕ) → ((i : ℕ) → i < a + n → p i ≡ r i) →
    count_by p (range_with_len a n) ≡ count_by r (range_with_len a n)
count_same p r a zero e = refl
count_same p r a (suc n) e =
    let rest = range_with_len (a + 1) n in
    count_first p a rest
    ∙ ap₂ (λ b k. cond {A = ℕ} b 1 0 + k) (e a (omega arith))
    (count_same p r (a + 1) n (λ i below. e i (omega arith)))
    ∙ sym (count_first r a rest)

rises_same : (component other : ℕ → ℕ) (q i c : ℕ) → ((j : ℕ) → j < q → component j ≡ other j) →
    i ≤ q →
    rises component i c ≡ rises other i c
rises_same component other q i c same low =
    count_same (λ a. eqb (component a) c) (λ a. eqb (other a) c) 0 i
    (λ j below. ap (λ k. eqb k c) (same j (omega arith)))

named_same : (f : FunctionData) (component other : ℕ → ℕ) (n : ℕ) → IsWithinBounds f →
    ((j : ℕ) → j < f.order → component j ≡ other j) →
    All (λ name. named_row f component n name ≡ named_row f other n name) (row_names f)
named_same f component other n l same =
    each_row (λ name. named_row f component n name ≡ named_row f other n name) f
    (each Period (λ c. ap pos (at_place f.order c (omega arith))))
    (each F (λ c. ap pos (at_place f.place c (omega (arith, l.place_high)))))
    (λ a b a_low b_low tight.
    each (Pair a b) (λ c.
    ap₂ (λ x y. x -ℤ y)
    (ap₂ (λ x y. pos x +ℤ pos y) (at_place a c (omega arith)) (at_place b c (omega arith)))
    (ap pos (at_place ((a + b) % f.order) c
    (let low = mod-lt (a + b) (let some : 0 < f.order = omega (arith, l.order_low) in some) in
    omega arith)))))
  where
    at_place : (i c : ℕ) → i ≤ f.order → rises component i c ≡ rises other i c
    at_place i c low = rises_same component other f.order i c same low

    each : (name : RowName) →
        ((c : ℕ) → row_entry component f.order f.place name c
        ≡ row_entry other f.order f.place name c) →
        named_row f component n name ≡ named_row f other n name
    each name e = map_equal (row_entry component f.order f.place name)
        (row_entry other f.order f.place name) (range_with_len 0 n) e

pub elimination_same : (numbers : Numbers) (f : FunctionData) (component other : ℕ → ℕ) (n : ℕ) →
    IsWithinBounds f →
    ((j : ℕ) → j < f.order → component j ≡ other j) →
    elimination_over numbers f component n ≡ elimination_over numbers f other n
elimination_same numbers f component other n l same =
    ap (elimination_by (arithmetic_of numbers) n)
    (map_same (named_row f component n) (named_row f other n) (row_names f)
    (named_same f component other n l same))

-- ---- kept rows with other numbers

abbrev pub plain : KeptRow → KeptRow
plain k = record { number = 0; reduce = k.reduce; pivot = k.pivot; entries = k.entries }

entries_plain : (kept : List KeptRow) (c : ℕ) →
    entries_of (row_with_pivot kept c) ≡ entries_of (row_with_pivot (map plain kept) c)
unfolding entries_of
entries_plain [] c = refl
entries_plain (k ∷ kept) c = by_test (eqb k.pivot c) (entries_plain kept c)
  where
    by_test : (b : Bool) →
        entries_of (row_with_pivot kept c) ≡ entries_of (row_with_pivot (map plain kept) c) →
        entries_of (cond b (Some k) (row_with_pivot kept c))
        ≡ entries_of (cond b (Some (plain k)) (row_with_pivot (map plain kept) c))
    by_test true later = refl
    by_test false later = later

pub alike_entries : (a b : List KeptRow) (c : ℕ) → map plain a ≡ map plain b →
    entries_of (row_with_pivot a c) ≡ entries_of (row_with_pivot b c)
alike_entries a b c e = entries_plain a c ∙ ap (λ ks. entries_of (row_with_pivot ks c)) e
    ∙ sym (entries_plain b c)

pub alike_present : (numbers : Numbers) (a b : List KeptRow) (row : List ℤ) (columns : List ℕ) →
    map plain a ≡ map plain b →
    present_over numbers a row columns ≡ present_over numbers b row columns
alike_present numbers a b row [] e = refl
alike_present numbers a b row (c ∷ columns) e =
    alike_present numbers a b ((arithmetic_of numbers).step (entries_of (row_with_pivot a c)) row c)
    columns e
    ∙ ap (λ es. present_over numbers b ((arithmetic_of numbers).step es row c) columns)
    (alike_entries a b c e)

any_alike : (a b : List KeptRow) (c : ℕ) → map plain a ≡ map plain b → Any (λ k. k.pivot ≡ c) a →
    Any (λ k. k.pivot ≡ c) b
any_alike [] b c e h = absurd (any_none (λ k. k.pivot ≡ c) h)
any_alike (x ∷ a) [] c e h = absurd cc
any_alike (x ∷ a) (y ∷ b) c e h =
    let heads : plain x ≡ plain y = cc in
    let tails : map plain a ≡ map plain b = cc in
    elim (any_cases (λ k. k.pivot ≡ c) x a h) [
      | inl first ↦ any_here (λ k. k.pivot ≡ c) y b (sym (ap (λ k. k.pivot) heads) ∙ first)
      | inr later ↦ any_there (λ k. k.pivot ≡ c) y b (any_alike a b c tails later)
    ]

all_alike : (a b : List KeptRow) (c : ℕ) → map plain a ≡ map plain b → All (λ k. k.pivot ≢ c) a →
    All (λ k. k.pivot ≢ c) b
all_alike a [] c e h = All-nil (λ k. k.pivot ≢ c)
all_alike [] (y ∷ b) c e h = absurd cc
all_alike (x ∷ a) (y ∷ b) c e h =
    let heads : plain x ≡ plain y = cc in
    let tails : map plain a ≡ map plain b = cc in
    All-cons (λ k. k.pivot ≢ c) y b
    (λ is. All-head (λ k. k.pivot ≢ c) x a h (ap (λ k. k.pivot) heads ∙ is))
    (all_alike a b c tails (All-tail (λ k. k.pivot ≢ c) x a h))

pub steps_alike : (numbers : Numbers) (a b : List KeptRow) (row : List ℤ) (columns : List ℕ) →
    map plain a ≡ map plain b →
    StepsMeet numbers a row columns → StepsMeet numbers b row columns
steps_alike numbers a b row [] e h = tt
steps_alike numbers a b row (c ∷ columns) e h =
    let same = alike_entries a b c e in (
      record { pivot = any_alike a b c e h.0.pivot; not_zero = h.0.not_zero },
      subst (λ (es : List ℤ). Passes ((arithmetic_of numbers).marked es row c) → ⊥) same h.1,
      subst (λ (es : List ℤ). StepsMeet numbers b ((arithmetic_of numbers).step es row c) columns)
          same
          (steps_alike numbers a b
          ((arithmetic_of numbers).step (entries_of (row_with_pivot a c)) row c) columns e h.2),
    )

pivot_alike : (n : ℕ) (a b : List KeptRow) (row : List ℤ) (c : ℕ) → map plain a ≡ map plain b →
    MeetsPivot n a row c →
    MeetsPivot n b row c
pivot_alike n a b row c e h = record {
  column = h.column;
  new = all_alike a b c e h.new;
  zero_before = h.zero_before;
  not_zero = h.not_zero;
}

pub pivot_alike_by : (numbers : Numbers) (n : ℕ) (a b : List KeptRow) (row : List ℤ) (c : ℕ) →
    map plain a ≡ map plain b →
    MeetsPivotBy numbers n a row c → MeetsPivotBy numbers n b row c
pivot_alike_by Whole n a b row c e h = pivot_alike n a b row c e h
pivot_alike_by Residues n a b row c e h = (pivot_alike n a b row c e h.0, h.1)

alike_rows : (numbers : Numbers) (f : FunctionData) (component : ℕ → ℕ) (n : ℕ)
    (a b front : List KeptRow) →
    AllMeet numbers f component n a front → map plain a ≡ map plain b →
    map plain (a ++ front)
    ≡ map plain (rows_behind_by (arithmetic_of numbers) f component n b
    (map (group_of f) front))
alike_rows numbers f component n a b [] meets e = ap (map plain) (append-nil a) ∙ e
alike_rows numbers f component n a b (k ∷ front) meets e =
    let next = row_kept_by (arithmetic_of numbers) f component n b (group_of f k) in
    let begun = begun_row (arithmetic_of numbers) f component n (group_of f k).name in
    let entries : k.entries ≡ next.entries =
    meets.0.entries
    ∙ ap (λ r. entries_or_none ((arithmetic_of numbers).keep r k.pivot))
    (alike_present numbers a b begun k.reduce e) in
    let same : plain k ≡ plain next =
    ap (λ (es : List ℤ). plain
    (record { number = 0; reduce = k.reduce; pivot = k.pivot; entries = es })) entries in
    ap (map plain) (sym (append_assoc a (k ∷ []) front))
    ∙ alike_rows numbers f component n (a ++ k ∷ []) (b ++ next ∷ []) front meets.1
    (map_push plain a k ∙ ap₂ (λ ks r. ks ++ r ∷ []) e same ∙ sym (map_push plain b next))

-- ---- each group

-- the group behind those before it
pub record GroupIsMet (numbers : Numbers) (f : FunctionData) (component : ℕ → ℕ) (n : ℕ)
    (before : List PivotRow) (one : PivotRow) : Type 0 where
  pub row : MeetsRow f one.name
  pub steps : StepsMeet numbers (rows_before_by (arithmetic_of numbers) f component n before)
      (begun_row (arithmetic_of numbers) f component n one.name) one.reduce
  pub pivot : MeetsPivotBy numbers n (rows_before_by (arithmetic_of numbers) f component n before)
      (present_over numbers (rows_before_by (arithmetic_of numbers) f component n before)
      (begun_row (arithmetic_of numbers) f component n one.name) one.reduce)
      one.pivot

met_front : (numbers : Numbers) (f : FunctionData) (component : ℕ → ℕ) (n : ℕ)
    (kept front back : List KeptRow) →
    AllMeet numbers f component n kept (front ++ back) → AllMeet numbers f component n kept front
met_front numbers f component n kept [] back h = tt
met_front numbers f component n kept (k ∷ front) back h =
    (h.0, met_front numbers f component n (kept ++ k ∷ []) front back h.1)

met_at : (numbers : Numbers) (f : FunctionData) (component : ℕ → ℕ) (n : ℕ)
    (kept front : List KeptRow) (k : KeptRow) (back : List KeptRow) →
    AllMeet numbers f component n kept (front ++ k ∷ back) →
    MeetsKept numbers f component n (kept ++ front) k
met_at numbers f component n kept [] k back h =
    subst (λ (ks : List KeptRow). MeetsKept numbers f component n ks k) (sym (append-nil kept)) h.0
met_at numbers f component n kept (x ∷ front) k back h =
    subst (λ (ks : List KeptRow). MeetsKept numbers f component n ks k)
    (append_assoc kept (x ∷ []) front)
    (met_at numbers f component n (kept ++ x ∷ []) front k back h.1)

pub record SplitsAs {X Y : Type 0} (g : X → Y) (xs : List X) (before : List Y) (y : Y) :
    Type 0 where
  pub front : List X
  pub x : X
  pub back : List X
  pub place : xs ≡ front ++ x ∷ back
  pub before_is : map g front ≡ before
  pub item_is : g x ≡ y

pub split_made : {X Y : Type 0} (g : X → Y) (xs : List X) (before : List Y) (y : Y)
    (after : List Y) →
    map g xs ≡ before ++ y ∷ after → SplitsAs g xs before y
split_made g [] [] y after e = absurd cc
split_made g [] (b ∷ before) y after e = absurd cc
split_made g (x ∷ xs) [] y after e =
    let same : g x ≡ y = cc in
    record { front = []; x = x; back = xs; place = refl; before_is = refl; item_is = same }
split_made g (x ∷ xs) (b ∷ before) y after e =
    let heads : g x ≡ b = cc in
    let tails : map g xs ≡ before ++ y ∷ after = cc in
    let rest = split_made g xs before y after tails in
    record {
      front = x ∷ rest.front;
      x = rest.x;
      back = rest.back;
      place = ap (λ l. x ∷ l) {y = rest.front ++ rest.x ∷ rest.back} rest.place;
      before_is = ap₂ (λ z zs. z ∷ zs) heads rest.before_is;
      item_is = rest.item_is;
    }

pub group_is_met : (numbers : Numbers) (f : FunctionData) (component : ℕ → ℕ) (n : ℕ)
    (kept : List KeptRow) (rows before : List PivotRow)
    (one : PivotRow) (after : List PivotRow) → rows ≡ map (group_of f) kept →
    AllMeet numbers f component n [] kept →
    rows ≡ before ++ one ∷ after → GroupIsMet numbers f component n before one
group_is_met numbers f component n kept rows before one after are met place =
    let split = split_made (group_of f) kept before one after (sym are ∙ place) in
    let all = subst (AllMeet numbers f component n []) split.place met in
    let here : MeetsKept numbers f component n split.front split.x =
    met_at numbers f component n [] split.front split.x split.back all in
    let same : map plain split.front
    ≡ map plain (rows_before_by (arithmetic_of numbers) f component n
    (map (group_of f) split.front)) =
    alike_rows numbers f component n [] [] split.front
    (met_front numbers f component n [] split.front (split.x ∷ split.back) all) refl in
    let behind = rows_before_by (arithmetic_of numbers) f component n
    (map (group_of f) split.front) in
    let begun = begun_row (arithmetic_of numbers) f component n (group_of f split.x).name in
    let met_here : GroupIsMet numbers f component n (map (group_of f) split.front)
    (group_of f split.x) =
    record {
      row = here.row;
      steps = steps_alike numbers split.front behind begun split.x.reduce same here.steps;
      pivot = subst (λ (r : List ℤ). MeetsPivotBy numbers n behind r split.x.pivot)
          (alike_present numbers split.front behind begun split.x.reduce same)
          (pivot_alike_by numbers n split.front behind
          (present_over numbers split.front begun split.x.reduce) split.x.pivot same
          here.pivot);
    } in
    subst₂ (GroupIsMet numbers f component n) split.before_is split.item_is met_here

-- what a step says, by the columns before it
pub step_is_met : (numbers : Numbers) (kept : List KeptRow) (row : List ℤ) (columns before : List ℕ)
    (c : ℕ) (after : List ℕ) →
    columns ≡ before ++ c ∷ after → StepsMeet numbers kept row columns →
    MeetsReduce kept (present_over numbers kept row before) c
    × SizeMeets numbers kept (present_over numbers kept row before) c
step_is_met numbers kept row [] [] c after place h = absurd cc
step_is_met numbers kept row [] (b ∷ before) c after place h = absurd cc
step_is_met numbers kept row (x ∷ columns) [] c after place h =
    let same : x ≡ c = cc in
    subst (λ (k : ℕ). MeetsReduce kept row k × SizeMeets numbers kept row k) same (h.0, h.1)
step_is_met numbers kept row (x ∷ columns) (b ∷ before) c after place h =
    let heads : x ≡ b = cc in
    let tails : columns ≡ before ++ c ∷ after = cc in
    let step = λ (k : ℕ). (arithmetic_of numbers).step (entries_of (row_with_pivot kept k)) row k in
    subst (λ (k : ℕ). MeetsReduce kept (present_over numbers kept (step k) before) c
    × SizeMeets numbers kept (present_over numbers kept (step k) before) c) heads
    (step_is_met numbers kept (step x) columns before c after tails h.2)
