-- Lists at one of whose items something fails, behind those before it.
use Rattle.std.proofs.Common.{◌≡◌, ◌⊎◌, ⊎_elim, inl, inr, ℕ, ◌+◌, ◌<◌, List, [], ◌∷◌, ◌++◌, length, get_or, take, All, refl, sym, ap, ap₂, subst, subst₂, ◌∙◌, arith}
use Rattle.std.proofs.lemmas.List.{length-append, take_more}
use Rattle.std.proofs.lemmas.List.Elements.{All-head}
use Rattle.gj_lemmas.proofs.Lists.{All-back}

-- at this item it fails
pub record Fails {A : Type 0} (P : List A → A → Type 0) (xs : List A) : Type 0 where
  pub before : List A
  pub next : A
  pub after : List A
  pub place : xs ≡ before ++ next ∷ after
  pub fails : P before next

-- the second item stands before the first, or is it, or stands behind it
abbrev pub IsElsewhere : {A : Type 0} → List A → A → List A → A → Type 0
IsElsewhere {A} front x before y =
    ((rest : List A) × (front ≡ before ++ y ∷ rest))
    ⊎ (((before ≡ front) × (y ≡ x)) ⊎ ((rest : List A) × (before ≡ front ++ x ∷ rest)))

pub elsewhere : {A : Type 0} (front before back after : List A) (x y : A) →
    front ++ x ∷ back ≡ before ++ y ∷ after →
    IsElsewhere front x before y
elsewhere [] [] back after x y e = inr (inl (refl, cc))
elsewhere {A} [] (b ∷ before) back after x y e =
    let same : b ≡ x = cc in inr (inr (before, ap (λ (z : A). z ∷ before) same))
elsewhere {A} (a ∷ front) [] back after x y e = let same : a ≡ y = cc in
    inl (front, ap (λ (z : A). z ∷ front) same)
elsewhere {A} (a ∷ front) (b ∷ before) back after x y e =
    let same : a ≡ b = cc in
    let rest : front ++ x ∷ back ≡ before ++ y ∷ after = cc in
    let joined : (us vs : List A) → us ≡ vs →
    a ∷ us ≡ b ∷ vs = λ us vs h. ap₂ (λ (z : A) (zs : List A). z ∷ zs) same h in
    ⊎_elim
    (λ (k : (r : List A) × (front ≡ before ++ y ∷ r)). inl
    (k.0, joined front (before ++ y ∷ k.0) k.1))
    (⊎_elim
    (λ (k : (before ≡ front) × (y ≡ x)). inr (inl (sym (joined front before (sym k.0)), k.1)))
    (λ (k : (r : List A) × (before ≡ front ++ x ∷ r)). inr
    (inr (k.0, sym (joined (front ++ x ∷ k.0) before (sym k.1))))))
    (elsewhere front before back after x y rest)

-- it fails nowhere, if not before an item, not at it and not behind it
pub none_around : {A : Type 0} (P : List A → A → Type 0) (xs front back : List A) (x : A) →
    xs ≡ front ++ x ∷ back → (Fails P front → ⊥) →
    (P front x → ⊥) → ((before rest after : List A) (y : A) → before ≡ front ++ x ∷ rest →
    xs ≡ before ++ y ∷ after → P before y → ⊥) → Fails P xs → ⊥
none_around {A} P xs front back x place none here later f =
    ⊎_elim
    (λ (k : (r : List A) × (front ≡ f.before ++ f.next ∷ r)).
    none (record { before = f.before; next = f.next; after = k.0; place = k.1; fails = f.fails }))
    (⊎_elim
    (λ (k : (f.before ≡ front) × (f.next ≡ x)). here (subst₂ P k.0 k.1 f.fails))
    (λ (k : (r : List A) × (f.before ≡ front ++ x ∷ r)). later f.before k.0 f.after f.next k.1
    f.place f.fails))
    (elsewhere front f.before back f.after x f.next (sym place ∙ f.place))

not_longer : {A : Type 0} (front before rest after : List A) (x y : A) →
    before ≡ front ++ x ∷ rest → front ++ x ∷ [] ≡ before ++ y ∷ after → ⊥
not_longer front before rest after x y is e =
    let one = length-append front (x ∷ []) in
    let both = ap length e ∙ length-append before (y ∷ after) in
    let more = ap length is ∙ length-append front (x ∷ rest) in
    omega arith

pub none_at_first : {A : Type 0} (P : List A → A → Type 0) → Fails P [] → ⊥
none_at_first {A} P f = empty f.before f.next f.after f.place
  where
    empty : {A : Type 0} (before : List A) (y : A) (after : List A) → [] ≡ before ++ y ∷ after → ⊥
    empty [] y after e = cc
    empty (b ∷ before) y after e = cc

-- one more item at which it does not fail
pub none_with : {A : Type 0} (P : List A → A → Type 0) (front : List A) (x : A) →
    (Fails P front → ⊥) → (P front x → ⊥) → Fails P (front ++ x ∷ []) → ⊥
none_with P front x none here =
    none_around P (front ++ x ∷ []) front [] x refl none here
    (λ before rest after y is e h. not_longer front before rest after x y is e)

pub none_next : {A : Type 0} (P : List A → A → Type 0) (xs : List A) (i : ℕ) (x : A) →
    i < length xs → x ≡ get_or xs i x →
    (Fails P (take i xs) → ⊥) → (P (take i xs) x → ⊥) → Fails P (take (i + 1) xs) → ⊥
none_next {A} P xs i x below here none at f =
    none_with P (take i xs) x none at
    (subst (λ (ys : List A). Fails P ys)
    (take_more xs i x below ∙ ap (λ z. take i xs ++ z ∷ []) (sym here)) f)

-- ---- the first item of its kind

-- what is true of all items is true of this one
pub true_at : {A : Type 0} (Q : A → Type 0) (xs before after : List A) (y : A) →
    xs ≡ before ++ y ∷ after → All Q xs → Q y
true_at Q xs before after y place all =
    All-head Q y after (All-back Q before (y ∷ after) (subst (All Q) place all))

pub same_first : {A : Type 0} (P : A → Type 0) (front before back after : List A) (x y : A) →
    front ++ x ∷ back ≡ before ++ y ∷ after →
    All (λ z. P z → ⊥) front → All (λ z. P z → ⊥) before → P x → P y → x ≡ y
same_first {A} P front before back after x y e none other here there =
    ⊎_elim
    (λ (k : (r : List A) × (front ≡ before ++ y ∷ r)). absurd
    (true_at (λ (z : A). P z → ⊥) front before k.0 y k.1 none there))
    (⊎_elim
    (λ (k : (before ≡ front) × (y ≡ x)). sym k.1)
    (λ (k : (r : List A) × (before ≡ front ++ x ∷ r)). absurd
    (true_at (λ (z : A). P z → ⊥) before front k.0 x k.1 other here)))
    (elsewhere front before back after x y e)

-- ---- two lists in one

-- the item stands in the first list, or in the second
pub in_joined : {A : Type 0} (xs ys before after : List A) (y : A) →
    xs ++ ys ≡ before ++ y ∷ after →
    ((rest : List A) × (xs ≡ before ++ y ∷ rest))
    ⊎ ((front : List A) × (before ≡ xs ++ front) × (ys ≡ front ++ y ∷ after))
in_joined [] ys before after y e = inr (before, refl, e)
in_joined {A} (x ∷ xs) ys [] after y e = let same : x ≡ y = cc in
    inl (xs, ap (λ (z : A). z ∷ xs) same)
in_joined {A} (x ∷ xs) ys (b ∷ before) after y e =
    let same : x ≡ b = cc in
    let tails : xs ++ ys ≡ before ++ y ∷ after = cc in
    ⊎_elim
    (λ (k : (rest : List A) × (xs ≡ before ++ y ∷ rest)). inl
    (k.0, ap₂ (λ (z : A) (zs : List A). z ∷ zs) same k.1))
    (λ (k : (front : List A) × (before ≡ xs ++ front) × (ys ≡ front ++ y ∷ after)).
    inr (k.0, ap₂ (λ (z : A) (zs : List A). z ∷ zs) (sym same) k.1, k.2))
    (in_joined xs ys before after y tails)
