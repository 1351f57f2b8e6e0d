-- The groups that the decision gives of an extreme function meet the rules, by any numbers of the
-- components.
use Rattle.std.proofs.Common.{◌≡◌, ℕ, ◌+◌, ◌-◌, ◌<◌, ℤ, ◌+ℤ◌, List, [], ◌∷◌, ◌++◌, length, map, get_or, refl, sym, ap, ap₂, subst, subst₂, ◌∙◌, append_assoc, arith}
use Rattle.std.specs.Prelude.{All}
use Rattle.std.specs.List.{range_with_len}
use Rattle.std.proofs.Math.Nat.{mod-lt}
use Rattle.std.proofs.Math.Path.{fun_ext}
use Rattle.std.proofs.lemmas.List.{append-nil, get_or-map, length-map, map_push}
use Rattle.std.proofs.lemmas.List.Elements.{All-get_or, All-map}
use Rattle.std.proofs.lemmas.List.FromFn.{length-map-range_with_len}
use Rattle.gj_shape.specs.Elimination.{KeptRow}
use Rattle.gj_shape.specs.FunctionData.{FunctionData}
use Rattle.gj_limit_averages.proofs.Corners.{same_limits}
use Rattle.gj_limit_system.specs.LimitRows.{limit_rows, row_value}
use Rattle.gj_limit_system.specs.Unknowns.{right_column, slope_column, interval_before, limits_from}
use Rattle.gj_limit_system.specs.declared.limit_row.LimitRow.{LimitRow}
use Rattle.gj_limit_system.specs.declared.limit_row.LimitRow.TheVariants.{F}
use Rattle.gj_limit_system.proofs.NamedRows.{to_rows}
use Rattle.gj_proof.specs.PresentRows.{arithmetic_of, entries_or_none}
use Rattle.gj_proof.specs.Rules.{MeetsPivotBy}
use Rattle.gj_proof.specs.declared.numbers.Numbers.{Numbers}
use Rattle.gj_limit_proof.specs.LimitRowsKept.{unit_at, named_row, begun_row, row_kept_by, rows_behind_by, rows_before_by}
use Rattle.gj_limit_proof.specs.LimitRules.{MeetsLimitRow}
use Rattle.gj_limit_proof.specs.declared.claim.LimitPivotRow.{LimitPivotRow}
use Rattle.gj_extreme.proofs.DecidedGroups.{plain, alike_present, steps_alike, pivot_alike_by, split_made}
use Rattle.gj_extreme.proofs.KeptGroups.{StepsMeet, present_over}
use Rattle.gj_limit_extreme.specs.Decision.{group_of}
use Rattle.gj_limit_extreme.proofs.KeptRows.{begun, MeetsKept, AllMeet}

-- all rows of the system, by these numbers of the components
abbrev pub system_rows : FunctionData → (ℕ → ℕ) → ℕ → List (List ℤ)
system_rows f component n = map (named_row f component n) (limit_rows f)

-- ---- the system by other numbers of the components

-- the limits look at the components of the intervals below the order alone
pub limits_same : (q : ℕ) (component other : ℕ → ℕ) (x : ℕ → ℤ) → 0 < q →
    ((j : ℕ) → j < q → component j ≡ other j) →
    limits_from q component x ≡ limits_from q other x
limits_same q component other x some same =
    same_limits (limits_from q component x) (limits_from q other x)
    (λ i. ap (λ c. x (right_column q (interval_before q i)) +ℤ x (slope_column q c))
    (same (interval_before q i) (mod-lt (i + (q - 1)) some)))
    (λ i. refl) (λ i. refl)

pub rows_same : (f : FunctionData) (component other : ℕ → ℕ) (n : ℕ) → 0 < f.order →
    ((j : ℕ) → j < f.order → component j ≡ other j) →
    system_rows f component n ≡ system_rows f other n
rows_same f component other n some same =
    let named : (name : LimitRow) → named_row f component n name ≡ named_row f other n name =
    λ name. ap (λ g. map g (range_with_len 0 n))
    (fun_ext (λ c. ap (λ w. row_value f.place w name)
    (limits_same f.order component other (unit_at c) some same))) in
    ap (λ g. map g (limit_rows f)) (fun_ext named)

-- each row has n columns
pub system_columns : (f : FunctionData) (component : ℕ → ℕ) (n : ℕ) →
    All (λ row. length row ≡ n) (system_rows f component n)
system_columns f component n =
    All-map (λ row. length row ≡ n) (named_row f component n) (limit_rows f)
    (λ k d low.
    length-map-range_with_len
    (λ c. row_value f.place (limits_from f.order component (unit_at c))
    (get_or (limit_rows f) k d)) 0 n)

-- the limits that name rows are 0
names_tight : (f : FunctionData) → All (MeetsLimitRow f) (limit_rows f)
names_tight f = to_rows f (MeetsLimitRow f) tt (λ kind c a b low tight. tight)

-- ---- each group

-- the group behind those before it
pub record GroupIsMet (numbers : Numbers) (f : FunctionData) (component : ℕ → ℕ) (n : ℕ)
    (before : List LimitPivotRow)
    (one : LimitPivotRow) : Type 0 where
  pub row : MeetsLimitRow f one.name
  pub steps : StepsMeet numbers (rows_before_by (arithmetic_of numbers) f component n before)
      (begun_row (arithmetic_of numbers) f component n one.name) one.reduce
  pub pivot : MeetsPivotBy numbers n (rows_before_by (arithmetic_of numbers) f component n before)
      (present_over numbers (rows_before_by (arithmetic_of numbers) f component n before)
      (begun_row (arithmetic_of numbers) f component n one.name) one.reduce)
      one.pivot

module _ (numbers : Numbers) (f : FunctionData) (component : ℕ → ℕ) (n : ℕ) where
  abbrev rows : List (List ℤ)
  rows = system_rows f component n

  name_low : (k : KeptRow) → k.number < length rows → k.number < length (limit_rows f)
  name_low k low = let len = length-map (limit_rows f) (named_row f component n) in omega arith

  -- the row of a kept row is that of its name
  pub begun_named : (k : KeptRow) → k.number < length rows →
      begun numbers rows k ≡ begun_row (arithmetic_of numbers) f component n (group_of f k).name
  begun_named k low =
      ap (arithmetic_of numbers).read
      (get_or-map (named_row f component n) (limit_rows f) k.number F [] (name_low k low))

  alike_rows : (a b front : List KeptRow) → AllMeet numbers n rows a front →
      map plain a ≡ map plain b →
      map plain (a ++ front)
      ≡ map plain (rows_behind_by (arithmetic_of numbers) f component n b
      (map (group_of f) front))
  alike_rows a b [] meets e = ap (map plain) (append-nil a) ∙ e
  alike_rows a b (k ∷ front) meets e =
      let next = row_kept_by (arithmetic_of numbers) f component n b (group_of f k) in
      let start = begun_row (arithmetic_of numbers) f component n (group_of f k).name in
      let entries : k.entries ≡ next.entries =
      meets.0.entries
      ∙ ap (λ r. entries_or_none
      ((arithmetic_of numbers).keep (present_over numbers a r k.reduce) k.pivot))
      (begun_named k meets.0.low)
      ∙ ap (λ r. entries_or_none ((arithmetic_of numbers).keep r k.pivot))
      (alike_present numbers a b start k.reduce e) in
      let same : plain k ≡ plain next =
      ap (λ (es : List ℤ). plain
      (record { number = 0; reduce = k.reduce; pivot = k.pivot; entries = es })) entries in
      ap (map plain) (sym (append_assoc a (k ∷ []) front))
      ∙ alike_rows (a ++ k ∷ []) (b ++ next ∷ []) front meets.1
      (map_push plain a k ∙ ap₂ (λ ks r. ks ++ r ∷ []) e same ∙ sym (map_push plain b next))

  met_front : (kept front back : List KeptRow) → AllMeet numbers n rows kept (front ++ back) →
      AllMeet numbers n rows kept front
  met_front kept [] back h = tt
  met_front kept (k ∷ front) back h = (h.0, met_front (kept ++ k ∷ []) front back h.1)

  met_at : (kept front : List KeptRow) (k : KeptRow) (back : List KeptRow) →
      AllMeet numbers n rows kept (front ++ k ∷ back) →
      MeetsKept numbers n rows (kept ++ front) k
  met_at kept [] k back h = subst (λ (ks : List KeptRow). MeetsKept numbers n rows ks k)
      (sym (append-nil kept)) h.0
  met_at kept (x ∷ front) k back h =
      subst (λ (ks : List KeptRow). MeetsKept numbers n rows ks k)
      (append_assoc kept (x ∷ []) front)
      (met_at (kept ++ x ∷ []) front k back h.1)

  -- the group of one kept row behind others
  kept_group : (front : List KeptRow) (k : KeptRow) → AllMeet numbers n rows [] front →
      MeetsKept numbers n rows front k →
      GroupIsMet numbers f component n (map (group_of f) front) (group_of f k)
  kept_group front k all here =
      let behind = rows_before_by (arithmetic_of numbers) f component n (map (group_of f) front) in
      let start = begun_row (arithmetic_of numbers) f component n (group_of f k).name in
      let same : map plain front ≡ map plain behind = alike_rows [] [] front all refl in
      let named = begun_named k here.low in
      let steps = subst (λ (r : List ℤ). StepsMeet numbers front r k.reduce) named here.steps in
      let pivot = subst (λ (r : List ℤ). MeetsPivotBy numbers n front
      (present_over numbers front r k.reduce) k.pivot) named here.pivot in
      record {
        row = All-get_or (MeetsLimitRow f) (limit_rows f) k.number F (name_low k here.low)
            (names_tight f);
        steps = steps_alike numbers front behind start k.reduce same steps;
        pivot = subst (λ (r : List ℤ). MeetsPivotBy numbers n behind r k.pivot)
            (alike_present numbers front behind start k.reduce same)
            (pivot_alike_by numbers n front behind (present_over numbers front start k.reduce)
            k.pivot same pivot);
      }

  pub group_is_met : (kept : List KeptRow) (groups before : List LimitPivotRow)
      (one : LimitPivotRow) (after : List LimitPivotRow) →
      groups ≡ map (group_of f) kept → AllMeet numbers n rows [] kept →
      groups ≡ before ++ one ∷ after →
      GroupIsMet numbers f component n before one
  group_is_met kept groups before one after are met place =
      let split = split_made (group_of f) kept before one after (sym are ∙ place) in
      let all = subst (AllMeet numbers n rows []) split.place met in
      subst₂ (GroupIsMet numbers f component n) split.before_is split.item_is
      (kept_group split.front split.x (met_front [] split.front (split.x ∷ split.back) all)
      (met_at [] split.front split.x split.back all))
