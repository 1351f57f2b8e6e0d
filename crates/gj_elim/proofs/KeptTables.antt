-- The places of the kept rows, and their extents.
use Rattle.std.proofs.Common.{◌≡◌, ◌≢◌, ℕ, ◌+◌, ◌<◌, ◌≤◌, ◌⊎◌, inl, inr, Bool, true, false, not, cond, Option, None, Some, ℤ, List, [], ◌∷◌, ◌++◌, length, get_or, set, below_more, refl, sym, ap, ap₂, subst, subst₂, ◌∙◌, arith}
use Rattle.std.specs.Prelude.{nat_lt, All, Vec}
use Rattle.std.specs.Vec.{with_items}
use Rattle.std.proofs.Common.{Global}
use Rattle.std.proofs.lemmas.List.Elements.{All-get_or}
use Rattle.gj_shape.specs.Elimination.{row_with_pivot, free_column}
use Rattle.gj_theory.specs.TriangularRows.{AreTriangular}
use Rattle.gj_frac.specs.Fraction.{Fits}
use Rattle.std.specs.List.{position, position_or_len}
use Rattle.std.proofs.lemmas.Bool.{cases_lt, lt-ltb, ltb-true, eq-eqb, ne_eqb}
use Rattle.std.proofs.lemmas.List.{with_items_is, length_push, length-set, get_or_default, get_or-set_same, get_or-set_other, get_or_append_left, get_or_push}
use Rattle.std.proofs.lemmas.List.Folds.{position_or_len_push}
use Rattle.gj_lemmas.proofs.Choices.{never_true}
use Rattle.gj_elim.specs.declared.log.LogRow.{LogRow}
use Rattle.gj_elim.specs.Progress.{IsFreeColumn}
use Rattle.gj_elim.specs.Lazy.{IsExtent}
use Rattle.gj_elim.specs.Tables.{ArePlaces, AreExtents, AreKept, rows_of, no_extent}
use Rattle.gj_elim.specs.KeptRows.{kept_rows}
use Rattle.gj_elim.specs.declared.kept.KeptRows.{KeptRows}
use Rattle.gj_elim.specs.declared.extent.Extent.{Extent}
use Rattle.gj_elim.proofs.Places.{has, IsRowAt, IsPivotRow, place_found, place_none, entries_at, row_read, pivot_row}

-- ---- the first place with one more element

abbrev place_below : ℕ → ℕ → Option ℕ
place_below n len = cond (nat_lt n len) (Some n) None

some_below : (n len : ℕ) → n < len → place_below n len ≡ Some n
some_below n len h = ap (λ b. cond b (Some n) None) (lt-ltb n len h)

none_below : (n len : ℕ) → len ≤ n → place_below n len ≡ None
none_below n len h =
    ap (λ b. cond b (Some n) None)
    (never_true (nat_lt n len) (λ t. let below = ltb-true n len t in omega arith))

at_most_length : {X : Type 0} (p : X → Bool) (xs : List X) → position_or_len p xs ≤ length xs
at_most_length p [] = omega arith
at_most_length p (x ∷ xs) = by_test (p x) (at_most_length p xs)
  where
    by_test : (b : Bool) → position_or_len p xs ≤ length xs →
        cond (not b) (1 + position_or_len p xs) 0 ≤ length (x ∷ xs)
    by_test true h = omega arith
    by_test false h = omega arith

push_other : {X : Type 0} (p : X → Bool) (xs : List X) (y : X) → p y ≡ false →
    position p (xs ++ y ∷ []) ≡ position p xs
push_other p xs y e = by_place (cases_lt (position_or_len p xs) (length xs))
  where
    by_place : (position_or_len p xs < length xs) ⊎ (length xs ≤ position_or_len p xs) →
        position p (xs ++ y ∷ []) ≡ position p xs
    by_place (inl below) =
        let same : position_or_len p (xs ++ y ∷ []) ≡ position_or_len p xs =
        position_or_len_push p xs y
        ∙ ap (λ b. cond b (length xs + cond (p y) 0 1) (position_or_len p xs))
        (ne_eqb (position_or_len p xs) (length xs) (λ is. omega arith)) in
        ap₂ place_below same (length_push xs y)
        ∙ some_below (position_or_len p xs) (length xs + 1) (omega arith)
        ∙ sym (some_below (position_or_len p xs) (length xs) below)
    by_place (inr past) =
        let most = at_most_length p xs in
        let behind : position_or_len p (xs ++ y ∷ []) ≡ length xs + 1 =
        position_or_len_push p xs y
        ∙ ap (λ b. cond b (length xs + cond (p y) 0 1) (position_or_len p xs))
        (eq-eqb (position_or_len p xs) (length xs) (omega arith))
        ∙ ap (λ b. length xs + cond b 0 1) e in
        ap₂ place_below behind (length_push xs y)
        ∙ none_below (length xs + 1) (length xs + 1) (omega arith)
        ∙ sym (none_below (position_or_len p xs) (length xs) past)

push_here : {X : Type 0} (p : X → Bool) (xs : List X) (y : X) → p y ≡ true → None ≡ position p xs →
    Some (length xs) ≡ position p (xs ++ y ∷ [])
push_here p xs y e none = by_place (cases_lt (position_or_len p xs) (length xs))
  where
    plus_none : (n : ℕ) → n + 0 ≡ n
    plus_none n = omega arith

    by_place : (position_or_len p xs < length xs) ⊎ (length xs ≤ position_or_len p xs) →
        Some (length xs) ≡ position p (xs ++ y ∷ [])
    by_place (inl below) =
        let clash : None ≡ Some (position_or_len p xs) = none
        ∙ some_below (position_or_len p xs) (length xs) below in
        absurd cc
    by_place (inr past) =
        let most = at_most_length p xs in
        let here : position_or_len p (xs ++ y ∷ []) ≡ length xs =
        position_or_len_push p xs y
        ∙ ap (λ b. cond b (length xs + cond (p y) 0 1) (position_or_len p xs))
        (eq-eqb (position_or_len p xs) (length xs) (omega arith))
        ∙ ap (λ b. length xs + cond b 0 1) e ∙ plus_none (length xs) in
        sym (ap₂ place_below here (length_push xs y)
        ∙ some_below (length xs) (length xs + 1) (omega arith))

-- ---- places

pub places_more : (n : ℕ) (log log' : List LogRow) (places : List (Option ℕ)) (l : LogRow) (p : ℕ) →
    ArePlaces n log places →
    IsFreeColumn n log l.pivot → p ≡ length log → log' ≡ log ++ l ∷ [] →
    ArePlaces n log' (set places l.pivot (Some p))
places_more n log log' places l p h free p_is log_is =
    subst (λ (xs : List LogRow). ArePlaces n xs (set places l.pivot (Some p))) (sym log_is) record {
      columns_are = length-set places l.pivot (Some p) ∙ h.columns_are;
      place = λ c below. by_column c below (cases_lt c l.pivot) (cases_lt l.pivot c);
    }
  where
    other : (c : ℕ) → c < n → l.pivot ≢ c → get_or (set places l.pivot (Some p)) c None
        ≡ position (has c) (log ++ l ∷ [])
    other c below apart =
        get_or-set_other places l.pivot c (Some p) None (λ e. apart (sym e)) ∙ h.place c below
        ∙ sym (push_other (has c) log l (ne_eqb l.pivot c apart))

    by_column : (c : ℕ) → c < n → (c < l.pivot) ⊎ (l.pivot ≤ c) → (l.pivot < c) ⊎ (c ≤ l.pivot) →
        get_or (set places l.pivot (Some p)) c None ≡ position (has c) (log ++ l ∷ [])
    by_column c below (inl before) second = other c below (λ e. omega arith)
    by_column c below (inr first) (inl behind) = other c below (λ e. omega arith)
    by_column c below (inr first) (inr second) =
        let same : l.pivot ≡ c = omega arith in
        let inside : l.pivot < length places = omega (arith, h.columns_are, free.below) in
        ap (λ k. get_or (set places l.pivot (Some p)) k None) (sym same)
        ∙ get_or-set_same places l.pivot (Some p) None inside
        ∙ ap Some p_is ∙ push_here (has l.pivot) log l (eq-eqb l.pivot l.pivot refl) free.free
        ∙ ap (λ k. position (has k) (log ++ l ∷ [])) same

pub pushed : {X : Type 0} (old old' new : List X) (x : X) → new ≡ old' ++ x ∷ [] → old' ≡ old →
    new ≡ old ++ x ∷ []
pushed old old' new x e f = e ∙ ap (λ xs. xs ++ x ∷ []) f

-- what the code's `places[c]` gives
pub place_read : (n : ℕ) (log : List LogRow) (places : List (Option ℕ)) (c : ℕ) (x o : Option ℕ) →
    ArePlaces n log places → c < n →
    x ≡ get_or places c x → x ≡ o → o ≡ position (has c) log
place_read n log places c x o h below x_is is =
    let inside : c < length places = omega (arith, h.columns_are) in
    sym is ∙ x_is ∙ get_or_default places c x None inside ∙ h.place c below

-- ---- extents

pub no_extents : (rows : List (List ℤ)) (extents : List Extent) → rows ≡ [] → extents ≡ [] →
    AreExtents rows extents
no_extents rows extents none none' = record {
  rows_are = ap length none' ∙ sym (ap length none);
  extent = λ i below. let empty : length rows ≡ 0 = ap length none in absurd (omega arith);
}

-- one more row with its extent
pub extents_more : (rows rows' : List (List ℤ)) (extents extents' : List Extent) (row : List ℤ)
    (e : Extent) → AreExtents rows extents →
    rows' ≡ rows ++ row ∷ [] → extents' ≡ extents ++ e ∷ [] → IsExtent e.bound e.end row →
    AreExtents rows' extents'
extents_more rows rows' extents extents' row e h rows_is extents_is new =
    subst₂ AreExtents (sym rows_is) (sym extents_is) record {
      rows_are = length_push extents e ∙ ap (λ n. n + 1) h.rows_are ∙ sym (length_push rows row);
      extent = λ i below.
          below_more (λ k. IsExtent (get_or (extents ++ e ∷ []) k no_extent).bound
          (get_or (extents ++ e ∷ []) k no_extent).end
          (get_or (rows ++ row ∷ []) k [])) (length rows) earlier last i
          (subst (λ n. i < n) (length_push rows row) below);
    }
  where
    at : (k : ℕ) (x : Extent) (xs : List ℤ) → get_or (extents ++ e ∷ []) k no_extent ≡ x →
        get_or (rows ++ row ∷ []) k [] ≡ xs →
        IsExtent x.bound x.end xs → IsExtent (get_or (extents ++ e ∷ []) k no_extent).bound
        (get_or (extents ++ e ∷ []) k no_extent).end (get_or (rows ++ row ∷ []) k [])
    at k x xs x_is xs_is is =
        subst₂ (λ (y : Extent) (ys : List ℤ). IsExtent y.bound y.end ys) (sym x_is) (sym xs_is) is

    earlier : (k : ℕ) → k < length rows → IsExtent (get_or (extents ++ e ∷ []) k no_extent).bound
        (get_or (extents ++ e ∷ []) k no_extent).end (get_or (rows ++ row ∷ []) k [])
    earlier k below =
        at k (get_or extents k no_extent) (get_or rows k [])
        (get_or_append_left extents (e ∷ []) no_extent k
        (subst (λ n. k < n) (sym h.rows_are) below))
        (get_or_append_left rows (row ∷ []) [] k below) (h.extent k below)

    last : IsExtent (get_or (extents ++ e ∷ []) (length rows) no_extent).bound
        (get_or (extents ++ e ∷ []) (length rows) no_extent).end
        (get_or (rows ++ row ∷ []) (length rows) [])
    last = at (length rows) e row (get_or_push extents e no_extent (length rows) h.rows_are)
        (get_or_push rows row [] (length rows) refl) new

-- one more line, with the columns as they were given
pub line_pushed : (old old' new : List LogRow) (number pivot : ℕ) (columns columns' : List ℕ) →
    new ≡ old' ++ record { number = number; reduce = columns; pivot = pivot } ∷ [] → old' ≡ old →
    columns ≡ columns' →
    new ≡ old ++ record { number = number; reduce = columns'; pivot = pivot } ∷ []
line_pushed old old' new number pivot columns columns' e f g =
    e ∙ ap₂ (λ (xs : List LogRow) (cs : List ℕ). xs ++ record {
      number = number;
      reduce =
          cs;
      pivot = pivot;
    } ∷ []) f g

-- one more row, as it is given
pub row_pushed : (old old' new : List (List ℤ)) (row row' : List ℤ) → new ≡ old' ++ row ∷ [] →
    old' ≡ old → row ≡ row' →
    new ≡ old ++ row' ∷ []
row_pushed old old' new row row' e f g = e
    ∙ ap₂ (λ (xs : List (List ℤ)) (r : List ℤ). xs ++ r ∷ []) f g

-- ---- what the code reads of the kept rows at a column

-- a kept row with its pivot at the column
pub record IsRowRead (n : ℕ) (k : KeptRows) (c : ℕ) (e : List ℤ) : Type 0 where
  pub here : IsRowAt (rows_of k) c e
  pub pivot : IsPivotRow n c e
  pub within : c < length e
  pub fits : All Fits e

pub kept_there : (n : ℕ) (k : KeptRows) (c i : ℕ) (x : Option ℕ) → AreKept n k → c < n →
    x ≡ get_or k.places.items c x → x ≡ Some i →
    (i < length k.rows.items) × IsRowAt (rows_of k) c (get_or k.rows.items i [])
kept_there n k c i x h below x_is is =
    let (inside, at) = place_found k.log.items k.rows.items c i h.lines
    (place_read n k.log.items k.places.items c x (Some i) h.places below x_is is) in
    (subst (λ m. i < m) h.lines inside, at)

pub kept_row_read : (n : ℕ) (k : KeptRows) (c i : ℕ) (x : Option ℕ) (y e : List ℤ) → AreKept n k →
    c < n → x ≡ get_or k.places.items c x → x ≡ Some i → y ≡ get_or k.rows.items i y → e ≡ y →
    IsRowRead n k c e
kept_row_read n k c i x y e h below x_is is y_is e_is =
    let (inside, at) = kept_there n k c i x h below x_is is in
    let read = row_read k.rows.items i y e inside y_is e_is in
    let here = entries_at (rows_of k) c (get_or k.rows.items i []) e read at in
    let pivot = pivot_row n (rows_of k) c e h.triangular here in record {
      here = here;
      pivot = pivot;
      within = subst (λ m. c < m) (sym pivot.columns) below;
      fits = subst (All Fits) (sym read) (All-get_or (All Fits) k.rows.items i [] inside h.fits);
    }

-- the same of slices
pub place_in : (n : ℕ) (k : KeptRows) (c : ℕ) (places : List (Option ℕ)) → AreKept n k → c < n →
    places ≡ k.places.items → get_or places c None ≡ get_or k.places.items c (get_or places c None)
place_in n k c places h below same =
    let inside : c < length k.places.items = omega (arith, h.places.columns_are) in
    ap (λ (ps : List (Option ℕ)). get_or ps c None) same
    ∙ get_or_default k.places.items c None (get_or places c None) inside

pub extent_in : (n : ℕ) (k : KeptRows) (c i : ℕ) (x : Option ℕ) (y e : List ℤ)
    (extents : List Extent) → AreKept n k → c < n → x ≡ get_or k.places.items c x → x ≡ Some i →
    y ≡ get_or k.rows.items i y → e ≡ y → extents ≡ k.extents.items →
    IsExtent (get_or extents i no_extent).bound (get_or extents i no_extent).end e
extent_in n k c i x y e extents h below x_is is y_is e_is same =
    let (inside, at) = kept_there n k c i x h below x_is is in
    subst₂ (λ (zs : List Extent) (xs : List ℤ).
    IsExtent (get_or zs i no_extent).bound (get_or zs i no_extent).end xs) (sym same)
    (sym (row_read k.rows.items i y e inside y_is e_is)) (h.extents.extent i inside)

pub none_there : (n : ℕ) (k : KeptRows) (c : ℕ) (x : Option ℕ) → AreKept n k → c < n →
    x ≡ get_or k.places.items c x → x ≡ None → row_with_pivot (rows_of k) c ≡ None
none_there n k c x h below x_is is =
    place_none k.log.items k.rows.items c h.lines
    (place_read n k.log.items k.places.items c x None h.places below x_is is)

pub free_there : (n : ℕ) (k : KeptRows) (c : ℕ) (x : Option ℕ) → AreKept n k → c < n →
    x ≡ get_or k.places.items c x → x ≡ None → IsFreeColumn n k.log.items c
free_there n k c x h below x_is is = record {
  below = below;
  free = place_read n k.log.items k.places.items c x None h.places below x_is is;
}

-- the free column, if there is one, by the places as the code reads them
pub free_read : (n : ℕ) (log : List LogRow) (rows : List (List ℤ)) (read places : List (Option ℕ))
    (o : Option ℕ) →
    ((ls : List LogRow) (rs : List (List ℤ)) → length ls ≡ length rs →
    ArePlaces (length read) ls read → o ≡ free_column (length read) (kept_rows ls rs)) →
    read ≡ places → ArePlaces n log places → length log ≡ length rows →
    o ≡ free_column n (kept_rows log rows)
free_read n log rows read places o is same are lines =
    let n_is : length read ≡ n = ap length same ∙ are.columns_are in
    is log rows lines (subst (λ (ps : List (Option ℕ)). ArePlaces (length read) log ps) (sym same)
    (subst (λ (m : ℕ). ArePlaces m log places) (sym n_is) are))
    ∙ ap (λ m. free_column m (kept_rows log rows)) n_is

-- ---- the kept rows as they were

pub still_kept : (n : ℕ) (k k' : KeptRows) → k'.log.items ≡ k.log.items →
    k'.rows.items ≡ k.rows.items → k'.extents.items ≡ k.extents.items →
    k'.places.items ≡ k.places.items → AreKept n k → AreKept n k'
still_kept n k k' log rows extents places h = record {
  lines = ap length log ∙ h.lines ∙ sym (ap length rows);
  triangular = subst (AreTriangular n) (sym (ap₂ kept_rows log rows)) h.triangular;
  fits = subst (All (All Fits)) (sym rows) h.fits;
  places = subst₂ (ArePlaces n) (sym log) (sym places) h.places;
  extents = subst₂ AreExtents (sym rows) (sym extents) h.extents;
  narrow = h.narrow;
}

-- ---- what is held behind writes to the slice of a vector

pub record IsHeld {X : Type 0} (n : ℕ) (v : Vec X Global) (ws : List X) : Type 0 where
  pub is : (with_items v ws).items ≡ ws
  pub columns : length (with_items v ws).items ≡ n

pub held : {X : Type 0} (n : ℕ) (v : Vec X Global) (r ws : List X) → v.len ≡ length v.items →
    length v.items ≡ n → r ≡ v.items →
    length ws ≡ length r → IsHeld n v ws
held n v r ws ok columns r_is len =
    let is = with_items_is v ws (len ∙ ap length r_is ∙ sym ok) in record {
      is = is;
      columns = ap length is ∙ len ∙ ap length r_is ∙ columns;
    }
