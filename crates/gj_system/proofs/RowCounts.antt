-- The counts of the intervals before each grid point, and the rows that are made from them.
use Rattle.std.proofs.Common.{◌≡◌, ℕ, suc, ◌+◌, ◌-◌, ◌*◌, ◌%◌, ◌<◌, ◌≤◌, ◌^◌, ◌⊎◌, ◌↔◌, inl, inr, ℤ, pos, ◌+ℤ◌, ◌-ℤ◌, List, [], ◌∷◌, ◌++◌, length, map, take, drop, get_or, set, replicate, unsigned_abs, refl, sym, ap, ap₂, subst, ◌∙◌, zero-add, arith}
use Rattle.std.specs.Prelude.{All}
use Rattle.std.specs.List.{flat_map, range_with_len}
use Rattle.std.proofs.Math.ListN.{length-set, length-replicate}
use Rattle.std.proofs.Math.Seq.{drop-append_seam, take-append_seam}
use Rattle.std.proofs.lemmas.Bool.{cases_eq}
use Rattle.std.proofs.lemmas.Int.{ints}
use Rattle.std.proofs.lemmas.List.{get_or-set_same, get_or-set_other, get_or-replicate, append-nil, length-append}
use Rattle.std.proofs.lemmas.List.Concat.{flat_map-append}
use Rattle.std.proofs.lemmas.List.FromFn.{length-range_with_len, length-map-range_with_len, get_or-map-range_with_len, fill_by_all}
use Rattle.gj_shape.specs.SlopeRows.{rises, row_entry, row_of}
use Rattle.gj_shape.specs.declared.extremality.RowName.{RowName}
use Rattle.gj_shape.specs.declared.extremality.RowName.TheVariants.{Period, F, Pair}
use Rattle.gj_system.specs.Components.{rises_at, IsNameBelow}
use Rattle.gj_lemmas.proofs.Lists.{All-made, joined_at, range_split}
use Rattle.gj_theory.proofs.RiseCounts.{rises_here, rises_elsewhere, rises_at_most}

-- ---- counts

pub length-rises_at : (f : ℕ → ℕ) (n i : ℕ) → length (rises_at f n i) ≡ n
length-rises_at f n i = length-map-range_with_len (rises f i) 0 n

pub count_at : (f : ℕ → ℕ) (n i c : ℕ) → c < n → get_or (rises_at f n i) c 0 ≡ rises f i c
count_at f n i c below = get_or-map-range_with_len (rises f i) 0 n c c 0 below (zero-add c)

-- before 0 there are none
pub no_counts : (f : ℕ → ℕ) (n : ℕ) → replicate n 0 ≡ rises_at f n 0
no_counts f n =
    fill_by_all (rises f 0) (replicate n 0) n 0 (length-replicate {A = ℕ} n 0)
    (λ c below. get_or-replicate n c 0 0 below)

-- one more interval
pub one_count_more : (f : ℕ → ℕ) (n i x : ℕ) (counts : List ℕ) → counts ≡ rises_at f n i → f i < n →
    x ≡ get_or counts (f i) 0 + 1 → set counts (f i) x ≡ rises_at f n (i + 1)
one_count_more f n i x counts are inside is =
    fill_by_all (rises f (i + 1)) (set counts (f i) x) n 0 (length-set counts (f i) x ∙ len)
    (λ c below. by_column c below (cases_eq (f i) c))
  where
    len : length counts ≡ n
    len = ap length are ∙ length-rises_at f n i

    by_column : (c : ℕ) → c < n → (f i ≡ c) ⊎ (f i ≡ c → ⊥) →
        get_or (set counts (f i) x) c 0 ≡ rises f (i + 1) c
    by_column c below (inl e) =
        let here : get_or (set counts (f i) x) (f i) 0 ≡ x =
        get_or-set_same counts (f i) x 0 (omega (arith, len)) in
        let before : get_or counts (f i) 0 ≡ rises f i (f i) = ap (λ l. get_or l (f i) 0) are
        ∙ count_at f n i (f i) inside in
        let more = rises_here f i (f i) refl in
        let all : get_or (set counts (f i) x) (f i) 0 ≡ rises f (i + 1) (f i) = omega arith in
        subst (λ (k : ℕ). get_or (set counts (f i) x) k 0 ≡ rises f (i + 1) k) e all
    by_column c below (inr e) =
        get_or-set_other counts (f i) c x 0 (λ same. e (sym same)) ∙ ap (λ l. get_or l c 0) are
        ∙ count_at f n i c below
        ∙ sym (rises_elsewhere f i c e)

-- a count is at most that of all intervals before
pub count_at_most : (f : ℕ → ℕ) (n i c : ℕ) (counts : List ℕ) → counts ≡ rises_at f n i → c < n →
    get_or counts c 0 ≤ i
count_at_most f n i c counts are below =
    let is : get_or counts c 0 ≡ rises f i c = ap (λ l. get_or l c 0) are
    ∙ count_at f n i c below in
    let most = rises_at_most f i c in
    omega arith

-- the counts of the first grid point, and those of one more behind those before
pub first_point : (f : ℕ → ℕ) (n : ℕ) (counts : List ℕ) → counts ≡ rises_at f n 0 →
    counts ≡ flat_map (rises_at f n) (range_with_len 0 1)
first_point f n counts are = are ∙ sym (append-nil (rises_at f n 0))

pub one_point_more : (f : ℕ → ℕ) (n i : ℕ) (counts more last : List ℕ) →
    counts ≡ flat_map (rises_at f n) (range_with_len 0 (i + 1)) → last ≡ rises_at f n (i + 1) →
    more ≡ counts ++ last →
    more ≡ flat_map (rises_at f n) (range_with_len 0 (i + 1 + 1))
one_point_more f n i counts more last are is e =
    let before = range_with_len 0 (i + 1) in
    e ∙ ap₂ (λ xs ys. xs ++ ys) are (is ∙ sym (append-nil (rises_at f n (i + 1))))
    ∙ sym (flat_map-append (rises_at f n) before ((i + 1) ∷ []))
    ∙ ap (flat_map (rises_at f n))
    (sym (range_split 0 (i + 1) 1 ∙ ap (λ k. before ++ k ∷ []) (zero-add (i + 1))))

length-points : (f : ℕ → ℕ) (n : ℕ) (points : List ℕ) → length (flat_map (rises_at f n) points)
    ≡ length points * n
length-points f n [] = omega arith
length-points f n (i ∷ points) =
    let len = length-append (rises_at f n i) (flat_map (rises_at f n) points) in
    let first = length-rises_at f n i in
    let rest = length-points f n points in
    omega (arith, len)

length-before : (f : ℕ → ℕ) (n i : ℕ) → length (flat_map (rises_at f n) (range_with_len 0 i))
    ≡ i * n
length-before f n i = length-points f n (range_with_len 0 i)
    ∙ ap (λ k. k * n) (length-range_with_len 0 i)

-- those of a grid point in the whole list
pub point_within : (f : ℕ → ℕ) (n q i : ℕ) (counts : List ℕ) →
    counts ≡ flat_map (rises_at f n) (range_with_len 0 (q + 1)) → i ≤ q →
    i * n + n ≤ length counts
point_within f n q i counts are within =
    let before = flat_map (rises_at f n) (range_with_len 0 i) in
    let rest = flat_map (rises_at f n) (range_with_len (i + 1) (q + 1 - suc i)) in
    let split = ap length (are ∙ joined_at (rises_at f n) i (q + 1) (omega arith)) in
    let whole = length-append before (rises_at f n i ++ rest) in
    let behind = length-append (rises_at f n i) rest in
    let front = length-before f n i in
    let here = length-rises_at f n i in
    omega (arith, split, whole, behind)

pub point_in_list : (f : ℕ → ℕ) (n q i m : ℕ) (counts : List ℕ) →
    counts ≡ flat_map (rises_at f n) (range_with_len 0 (q + 1)) →
    i ≤ q → m ≡ n → take m (drop (i * n) counts) ≡ rises_at f n i
point_in_list f n q i m counts are within whole =
    let before = flat_map (rises_at f n) (range_with_len 0 i) in
    let rest = flat_map (rises_at f n) (range_with_len (i + 1) (q + 1 - suc i)) in
    ap₂ (λ k xs. take m (drop k xs)) (sym (length-before f n i))
    (are ∙ joined_at (rises_at f n) i (q + 1) (omega arith))
    ∙ ap (take m) (drop-append_seam before (rises_at f n i ++ rest))
    ∙ ap (λ k. take k (rises_at f n i ++ rest)) (whole ∙ sym (length-rises_at f n i))
    ∙ take-append_seam (rises_at f n i) rest

-- ---- rows

-- each entry is that of the row
pub row_of_rises : (f : ℕ → ℕ) (n i : ℕ) (counts : List ℕ) (row : List ℤ) →
    counts ≡ rises_at f n i →
    length row ≡ n → ((c : ℕ) → c < n → get_or row c (pos 0) ≡ pos (get_or counts c 0)) →
    row ≡ map (λ c. pos (rises f i c)) (range_with_len 0 n)
row_of_rises f n i counts row are len h =
    fill_by_all (λ c. pos (rises f i c)) row n (pos 0) len
    (λ c below. h c below ∙ ap (λ l. pos (get_or l c 0)) are ∙ ap pos (count_at f n i c below))

pub row_of_slacks : (f : ℕ → ℕ) (n a b s : ℕ) (first second third : List ℕ) (row : List ℤ) →
    first ≡ rises_at f n a →
    second ≡ rises_at f n b → third ≡ rises_at f n s → length row ≡ n →
    ((c : ℕ) → c < n → get_or row c (pos 0) ≡ pos (get_or first c 0) +ℤ pos (get_or second c 0)
    -ℤ pos (get_or third c 0)) →
    row ≡ map (λ c. pos (rises f a c) +ℤ pos (rises f b c) -ℤ pos (rises f s c))
    (range_with_len 0 n)
row_of_slacks f n a b s first second third row first_is second_is third_is len h =
    fill_by_all (λ c. pos (rises f a c) +ℤ pos (rises f b c) -ℤ pos (rises f s c)) row n (pos 0) len
    (λ c below.
    let x : get_or first c 0 ≡ rises f a c = ap (λ l. get_or l c 0) first_is
    ∙ count_at f n a c below in
    let y : get_or second c 0 ≡ rises f b c = ap (λ l. get_or l c 0) second_is
    ∙ count_at f n b c below in
    let z : get_or third c 0 ≡ rises f s c = ap (λ l. get_or l c 0) third_is
    ∙ count_at f n s c below in
    h c below ∙ ap₂ (λ u v. pos u +ℤ pos v -ℤ pos (get_or third c 0)) x y
    ∙ ap (λ w. pos (rises f a c) +ℤ pos (rises f b c) -ℤ pos w) z)

slack_small : (x y z q : ℕ) → x ≤ q → y ≤ q → z ≤ q → q < 2 ^ 64 →
    (unsigned_abs (pos x +ℤ pos y -ℤ pos z) < 2 ^ 127)
slack_small x y z q first second third small = omega (arith, ints)

count_small : (x q : ℕ) → x ≤ q → q < 2 ^ 64 → (unsigned_abs (pos x) < 2 ^ 127)
count_small x q most small = omega (arith, ints)

-- so all entries are small
pub entries_small : (f : ℕ → ℕ) (n q k : ℕ) (name : RowName) → q < 2 ^ 64 → k < q →
    IsNameBelow name q →
    All (λ x. unsigned_abs x < 2 ^ 127) (row_of f n q k name)
entries_small f n q k Period small place within =
    All-made (λ x. unsigned_abs x < 2 ^ 127) (λ c. pos (rises f q c)) 0 n
    (λ c below. count_small (rises f q c) q (rises_at_most f q c) small)
entries_small f n q k F small place within =
    All-made (λ x. unsigned_abs x < 2 ^ 127) (λ c. pos (rises f k c)) 0 n
    (λ c below. let most = rises_at_most f k c in count_small (rises f k c) q (omega arith) small)
entries_small f n q k (Pair a b) small place within =
    All-made (λ x. unsigned_abs x < 2 ^ 127)
    (λ c. pos (rises f a c) +ℤ pos (rises f b c) -ℤ pos (rises f ((a + b) % q) c)) 0 n
    (λ c below.
    let x = rises_at_most f a c in
    let y = rises_at_most f b c in
    let z = rises_at_most f ((a + b) % q) c in
    let first = within.0 in
    let second = within.1 in
    slack_small (rises f a c) (rises f b c) (rises f ((a + b) % q) c) q (omega arith) (omega arith)
    (omega arith) small)

-- two pairs have the same row if the counts of their points differ by the same
pub record AreCounts (f : ℕ → ℕ) (n a b s : ℕ) (first second third : List ℕ) : Type 0 where
  pub first_is : first ≡ rises_at f n a
  pub second_is : second ≡ rises_at f n b
  pub third_is : third ≡ rises_at f n s

abbrev pub slack_at : List ℕ → List ℕ → List ℕ → ℕ → ℤ
slack_at first second third c = pos (get_or first c 0) +ℤ pos (get_or second c 0) -ℤ pos
    (get_or third c 0)

slack_is : (f : ℕ → ℕ) (n q k a b c : ℕ) (first second third : List ℕ) →
    AreCounts f n a b ((a + b) % q) first second third → c < n →
    slack_at first second third c ≡ get_or (row_of f n q k (Pair a b)) c (pos 0)
slack_is f n q k a b c first second third h below =
    let s = (a + b) % q in
    let x : get_or first c 0 ≡ rises f a c = ap (λ l. get_or l c 0) h.first_is
    ∙ count_at f n a c below in
    let y : get_or second c 0 ≡ rises f b c = ap (λ l. get_or l c 0) h.second_is
    ∙ count_at f n b c below in
    let z : get_or third c 0 ≡ rises f s c = ap (λ l. get_or l c 0) h.third_is
    ∙ count_at f n s c below in
    ap₂ (λ u v. pos u +ℤ pos v -ℤ pos (get_or third c 0)) x y
    ∙ ap (λ w. pos (rises f a c) +ℤ pos (rises f b c) -ℤ pos w) z
    ∙ sym (get_or-map-range_with_len (row_entry f q k (Pair a b)) 0 n c c (pos 0) below
    (zero-add c))

pub same_rows : (f : ℕ → ℕ) (n q k a b d e : ℕ) (first second third fourth fifth sixth : List ℕ) →
    AreCounts f n a b ((a + b) % q) first second third →
    AreCounts f n d e ((d + e) % q) fourth fifth sixth →
    ((c : ℕ) → c < n → slack_at first second third c ≡ slack_at fourth fifth sixth c)
    ↔ (row_of f n q k (Pair a b) ≡ row_of f n q k (Pair d e))
same_rows f n q k a b d e first second third fourth fifth sixth h g = (
  λ all.
      fill_by_all (row_entry f q k (Pair d e)) (row_of f n q k (Pair a b)) n (pos 0)
      (length-map-range_with_len (row_entry f q k (Pair a b)) 0 n)
      (λ c below.
      sym (slack_is f n q k a b c first second third h below) ∙ all c below
      ∙ slack_is f n q k d e c fourth fifth sixth g below
      ∙ get_or-map-range_with_len (row_entry f q k (Pair d e)) 0 n c c (pos 0) below (zero-add c)),
  λ same c below.
      slack_is f n q k a b c first second third h below ∙ ap (λ r. get_or r c (pos 0)) same
      ∙ sym (slack_is f n q k d e c fourth fifth sixth g below),
)
