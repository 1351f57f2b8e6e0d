-- Lists from their ends, and elements at a place.
use Rattle.std.proofs.Common.{◌≡◌, ℕ, ◌+◌, ◌-◌, ◌≤◌, zero, suc, List, [], ◌∷◌, ◌++◌, take, drop, length, reverse, map, Some, slice_get, sym, ap, ◌∙◌, arith}
use Rattle.std.proofs.Math.Seq.{take-append_seam}
use Rattle.std.proofs.lemmas.List.{reverse-append, reverse-reverse, length-reverse, length-take, length-drop, take_all, take-append-drop}
use Rattle.csv.specs.Records.{field_at}

-- all but so many at the end
pub take_from_end : {A : Type 0} (xs : List A) (k : ℕ) →
    take (length xs - k) xs ≡ reverse (drop k (reverse xs))
take_from_end xs k =
    let ys = reverse xs in
    let front = reverse (drop k ys) in
    let split : xs ≡ front ++ reverse (take k ys) =
    sym (reverse-reverse xs) ∙ ap reverse (sym (take-append-drop k ys))
    ∙ reverse-append (take k ys) (drop k ys) in
    let count : length xs - k ≡ length front =
    ap (λ n. n - k) (sym (length-reverse xs)) ∙ sym (length-drop k ys)
    ∙ sym (length-reverse (drop k ys)) in
    ap (λ n. take n xs) count ∙ ap (take (length front)) split
    ∙ take-append_seam front (reverse (take k ys))

-- the field at a place, as an element
pub field_in : {A : Type 0} (f : List ℕ → A) (fields : List (List ℕ)) (i : ℕ) (field : List ℕ) →
    field_at fields i ≡ Some field →
    slice_get (map f fields) i ≡ Some (f field)
unfolding field_at
field_in f [] i field e = cc e
field_in f (x ∷ fields) zero field e = cc e
field_in f (x ∷ fields) (suc i) field e = field_in f fields i field e

-- the element at a place parts the list
pub parted_at : {A : Type 0} (xs : List A) (i : ℕ) (x : A) → slice_get xs i ≡ Some x →
    xs ≡ take i xs ++ x ∷ drop (i + 1) xs
parted_at [] i x e = cc e
parted_at (y ∷ xs) zero x e = let same : y ≡ x = cc e in ap (λ z. z ∷ xs) same
parted_at (y ∷ xs) (suc i) x e =
    let step : suc i + 1 ≡ suc (i + 1) = omega arith in
    rw step (ap (λ l. y ∷ l) (parted_at xs i x e))

-- and is the next after those before it
pub taken_with : {A : Type 0} (xs : List A) (i : ℕ) (x : A) → slice_get xs i ≡ Some x →
    take (i + 1) xs ≡ take i xs ++ x ∷ []
taken_with [] i x e = cc e
taken_with (y ∷ xs) zero x e = let same : y ≡ x = cc e in ap (λ z. z ∷ []) same
taken_with (y ∷ xs) (suc i) x e =
    let step : suc i + 1 ≡ suc (i + 1) = omega arith in
    rw step (ap (λ l. y ∷ l) (taken_with xs i x e))

-- without the first elements
pub get_behind : {A : Type 0} (d : ℕ) (xs : List A) (i : ℕ) (x : A) → slice_get xs i ≡ Some x →
    d ≤ i →
    slice_get (drop d xs) (i - d) ≡ Some x
get_behind zero xs i x e behind = let none : i - zero ≡ i = omega arith in rw none e
get_behind (suc d) [] i x e behind = cc e
get_behind (suc d) (y ∷ xs) zero x e behind = absurd (omega arith)
get_behind (suc d) (y ∷ xs) (suc i) x e behind =
    let back : suc i - suc d ≡ i - d = omega arith in
    rw back (get_behind d xs i x e (omega arith))

pub parted_behind : {A : Type 0} (d : ℕ) (xs : List A) (i : ℕ) (x : A) → slice_get xs i ≡ Some x →
    d ≤ i →
    drop d xs ≡ take (i - d) (drop d xs) ++ x ∷ drop (i - d + 1) (drop d xs)
parted_behind d xs i x e behind = parted_at (drop d xs) (i - d) x (get_behind d xs i x e behind)

pub taken_behind : {A : Type 0} (d : ℕ) (xs : List A) (i : ℕ) (x : A) → slice_get xs i ≡ Some x →
    d ≤ i →
    take (i + 1 - d) (drop d xs) ≡ take (i - d) (drop d xs) ++ x ∷ []
taken_behind d xs i x e behind =
    let step : i + 1 - d ≡ i - d + 1 = omega arith in
    ap (λ n. take n (drop d xs)) step
    ∙ taken_with (drop d xs) (i - d) x (get_behind d xs i x e behind)

pub long_behind : {A : Type 0} (d : ℕ) (xs : List A) (i : ℕ) → i ≤ length xs →
    length (take (i - d) (drop d xs)) ≡ i - d
long_behind d xs i within = simp (length-take, length-drop) (omega arith)

pub all_behind : {A : Type 0} (d : ℕ) (xs : List A) (i : ℕ) → length xs ≤ i →
    take (i - d) (drop d xs) ≡ drop d xs
all_behind d xs i past = take_all (i - d) (drop d xs) (simp length-drop (omega arith))
