-- The last element of a list, and what holds of each element behind those before it.
use Rattle.std.proofs.Common.{◌≡◌, ◌+◌, ◌-◌, ◌<◌, List, [], ◌∷◌, ◌++◌, length, get_or, take, refl, sym, ap, subst, ◌∙◌, append_assoc, arith}
use Rattle.std.proofs.Math.Seq.{get_or-append_seam}
use Rattle.std.proofs.lemmas.List.{length_push, length-append, take_more, take_all}

-- ---- the last element

-- the element at the last index stands behind all others
pub behind_others : {A : Type 0} (xs : List A) (y : A) → 0 < length xs →
    y ≡ get_or xs (length xs - 1) y →
    xs ≡ take (length xs - 1) xs ++ y ∷ []
behind_others xs y some e =
    let n = length xs - 1 in
    let all : n + 1 ≡ length xs = omega arith in
    sym (take_all (n + 1) xs (omega arith)) ∙ take_more xs n y (omega arith)
    ∙ ap (λ z. take n xs ++ z ∷ []) (sym e)

-- what stands behind all others is the element at the last index
pub at_last_index : {A : Type 0} (xs front : List A) (y z : A) → y ≡ get_or xs (length xs - 1) y →
    xs ≡ front ++ z ∷ [] → y ≡ z
at_last_index xs front y z e split =
    let long = ap length split ∙ length_push front z in
    let index : length xs - 1 ≡ length front = omega arith in
    e ∙ ap (λ n. get_or xs n y) index ∙ ap (λ l. get_or l (length front) y) split
    ∙ get_or-append_seam front z [] y

-- ---- each element and those before it

-- it holds of each element behind those before it
abbrev pub EachBehind : {A : Type 0} → (List A → A → Type 0) → List A → Type 0
EachBehind {A} P xs = (front : List A) (x : A) (back : List A) → xs ≡ front ++ x ∷ back → P front x

pub each_behind_none : {A : Type 0} (P : List A → A → Type 0) → EachBehind P []
each_behind_none P front x back e =
    let long = ap length e ∙ length-append front (x ∷ back) in
    absurd (omega arith)

-- one more element
pub each_behind_more : {A : Type 0} (P : List A → A → Type 0) (xs : List A) (y : A) →
    EachBehind P xs → P xs y →
    EachBehind P (xs ++ y ∷ [])
each_behind_more P [] y each last [] x back e = let same : y ≡ x = cc in subst (P []) same last
each_behind_more P [] y each last (z ∷ front) x back e =
    let rest : [] ≡ front ++ x ∷ back = cc in
    absurd (each_behind_none (λ us v. ⊥) front x back rest)
each_behind_more P (w ∷ xs) y each last [] x back e =
    let same : w ≡ x = cc in
    subst (P []) same (each [] w xs refl)
each_behind_more P (w ∷ xs) y each last (z ∷ front) x back e =
    let same : w ≡ z = cc in
    let rest : xs ++ y ∷ [] ≡ front ++ x ∷ back = cc in
    subst (λ v. P (v ∷ front) x) same
    (each_behind_more (λ us v. P (w ∷ us) v) xs y
    (λ us v vs split. each (w ∷ us) v vs (ap (λ l. w ∷ l) split)) last front x back rest)

-- what holds of the first element, and of each further one if it holds of the one before, holds of
-- each
pub along_behind : {A : Type 0} (P : A → Type 0) (xs : List A) →
    ((x : A) (back : List A) → xs ≡ x ∷ back → P x) →
    ((front : List A) (y x : A) (back : List A) → xs ≡ front ++ y ∷ x ∷ back → P y → P x) →
    EachBehind (λ front x. P x) xs
along_behind {A = A} P xs first next [] x back e = first x back e
along_behind {A = A} P xs first next (z ∷ front) x back e =
    along [] z front x back (first z (front ++ x ∷ back) e) e
  where
    along : (before : List A) (y : A) (front : List A) (x : A) (back : List A) → P y →
        xs ≡ before ++ y ∷ (front ++ x ∷ back) → P x
    along before y [] x back h e = next before y x back e h
    along before y (w ∷ front) x back h e =
        along (before ++ y ∷ []) w front x back (next before y w (front ++ x ∷ back) e h)
        (e ∙ sym (append_assoc before (y ∷ []) (w ∷ (front ++ x ∷ back))))
