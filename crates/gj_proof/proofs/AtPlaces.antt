-- Items of lists at indices.
use Rattle.std.proofs.Common.{◌≡◌, ℕ, zero, suc, ◌+◌, ◌<◌, ◌≤◌, List, [], ◌∷◌, ◌++◌, length, take, drop, get_or, refl, sym, ap, subst, subst₂, ◌∙◌, arith}
use Rattle.std.proofs.Math.Seq.{split_at}
use Rattle.std.proofs.lemmas.List.{length-append, length-take-le, take_more}
use Rattle.gj_proof.specs.Rules.{AtIndex}

-- a list is split at an index in one way
one_split : {A : Type 0} (b c : List A) (x y : A) (xs ys : List A) → b ++ x ∷ xs ≡ c ++ y ∷ ys →
    length b ≡ length c →
    (b ≡ c) × (x ≡ y)
one_split [] [] x y xs ys e l = (refl, cc)
one_split [] (z ∷ c) x y xs ys e l = absurd (omega arith)
one_split (z ∷ b) [] x y xs ys e l = absurd (omega arith)
one_split (z ∷ b) (w ∷ c) x y xs ys e l =
    let heads : w ≡ z = cc in
    let tails : b ++ x ∷ xs ≡ c ++ y ∷ ys = cc in
    let rest = one_split b c x y xs ys tails (omega arith) in
    let same : b ≡ c = rest.0 in
    let whole : z ∷ b ≡ w ∷ c = cc in
    (whole, rest.1)

-- what the item behind the first ones has, the item at their number has
pub at_index : {A : Type 0} (items : List A) (P : List A → A → Type 0) (before : List A) (x : A)
    (after : List A) →
    items ≡ before ++ x ∷ after → P before x → AtIndex items (length before) P
at_index items P before x after place h b y ys other same =
    let one = one_split before b x y after ys (sym place ∙ other) (sym same) in
    subst₂ P one.0 one.1 h

-- an item by its index
pub at_place : {A : Type 0} (items : List A) (P : List A → A → Type 0) (j : ℕ) (x : A) →
    j < length items →
    x ≡ get_or items j x → P (take j items) x → AtIndex items j P
at_place items P j x below is h =
    subst (λ (i : ℕ). AtIndex items i P) (length-take-le j items (omega arith))
    (at_index items P (take j items) x (drop (suc j) items)
    (split_at items j x below ∙ ap (λ y. take j items ++ y ∷ drop (suc j) items) (sym is)) h)

-- the way back
pub place_has : {A : Type 0} (items : List A) (P : List A → A → Type 0) (j : ℕ) (x : A) →
    j < length items →
    x ≡ get_or items j x → AtIndex items j P → P (take j items) x
place_has items P j x below is h =
    h (take j items) x (drop (suc j) items)
    (split_at items j x below ∙ ap (λ y. take j items ++ y ∷ drop (suc j) items) (sym is))
    (length-take-le j items (omega arith))

-- one more item
pub with_place : {A : Type 0} (items : List A) (j : ℕ) (x : A) → j < length items →
    x ≡ get_or items j x →
    take (j + 1) items ≡ take j items ++ x ∷ []
with_place items j x below is = take_more items j x below
    ∙ ap (λ y. take j items ++ y ∷ []) (sym is)

-- a list is split at each of its indices
pub record IsSplitAt {A : Type 0} (items : List A) (j : ℕ) : Type 0 where
  pub before : List A
  pub item : A
  pub after : List A
  pub place : items ≡ before ++ item ∷ after
  pub index : length before ≡ j

pub split_there : {A : Type 0} (items : List A) (j : ℕ) → j < length items → IsSplitAt items j
split_there [] j below = absurd (omega arith)
split_there (x ∷ items) zero below =
    record { before = []; item = x; after = items; place = refl; index = refl }
split_there (x ∷ items) (suc j) below =
    let rest = split_there items j (omega arith) in
    record {
      before = x ∷ rest.before;
      item = rest.item;
      after = rest.after;
      place = ap (λ l. x ∷ l) rest.place;
      index = ap suc rest.index;
    }

-- what each item below the length has, each has
pub each_item : {A : Type 0} (items : List A) (P : List A → A → Type 0) (n : ℕ) → length items ≤ n →
    ((i : ℕ) → i < n → AtIndex items i P) → (j : ℕ) → AtIndex items j P
each_item items P n high h j before x after place index =
    let long = ap length place ∙ length-append before (x ∷ after) in
    h j (omega arith) before x after place index
