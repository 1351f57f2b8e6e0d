-- The fractions of three lists of one length, index by index.
use Rattle.std.proofs.Common.{◌≡◌, ℕ, ◌+◌, ◌*◌, ◌<◌, ◌≤◌, List, [], ◌∷◌, ◌++◌, length, take, drop, get_or, All, refl, sym, ap, ◌∙◌, arith}
use Rattle.std.proofs.lemmas.List.{length-take-le, drop_more, take_more, take-append-drop, take_all}
use Rattle.std.proofs.lemmas.List.Elements.{All-nil, All-cons, All-head, All-tail}
use Rattle.gj_frac.specs.declared.Frac.{Frac}
use Rattle.gj_shape.specs.Given.{in_order}

-- induction over three lists of one length
pub by_threes : (P : List Frac → List Frac → List Frac → Type 0) → P [] [] [] →
    ((l v r : Frac) (ls vs rs : List Frac) → P ls vs rs → P (l ∷ ls) (v ∷ vs) (r ∷ rs)) →
    (ls vs rs : List Frac) → length vs ≡ length ls → length rs ≡ length ls → P ls vs rs
by_threes P base step [] [] [] e f = base
by_threes P base step [] [] (r ∷ rs) e f = absurd (omega arith)
by_threes P base step [] (v ∷ vs) rs e f = absurd (omega arith)
by_threes P base step (l ∷ ls) [] rs e f = absurd (omega arith)
by_threes P base step (l ∷ ls) (v ∷ vs) [] e f = absurd (omega arith)
by_threes P base step (l ∷ ls) (v ∷ vs) (r ∷ rs) e f =
    step l v r ls vs rs (by_threes P base step ls vs rs (omega arith) (omega arith))

pub length-in_order : (ls vs rs : List Frac) → length vs ≡ length ls → length rs ≡ length ls →
    length (in_order ls vs rs) ≡ 3 * length ls
length-in_order =
    by_threes (λ ls vs rs. length (in_order ls vs rs) ≡ 3 * length ls) refl
    (λ l v r ls vs rs h. omega arith)

-- what holds of all entries of the three lists holds of all in order
pub all_in_order : (P : Frac → Type 0) (ls vs rs : List Frac) → length vs ≡ length ls →
    length rs ≡ length ls → All P ls → All P vs → All P rs → All P (in_order ls vs rs)
all_in_order P =
    by_threes (λ ls vs rs. All P ls → All P vs → All P rs → All P (in_order ls vs rs))
    (λ a b c. All-nil P)
    (λ l v r ls vs rs h a b c.
    All-cons P l (v ∷ r ∷ in_order ls vs rs) (All-head P l ls a)
    (All-cons P v (r ∷ in_order ls vs rs) (All-head P v vs b)
    (All-cons P r (in_order ls vs rs) (All-head P r rs c)
    (h (All-tail P l ls a) (All-tail P v vs b) (All-tail P r rs c)))))

-- and the other way round
pub all_from_in_order : (P : Frac → Type 0) (ls vs rs : List Frac) → length vs ≡ length ls →
    length rs ≡ length ls → All P (in_order ls vs rs) → All P ls × All P vs × All P rs
all_from_in_order P =
    by_threes (λ ls vs rs. All P (in_order ls vs rs) → All P ls × All P vs × All P rs)
    (λ a. (All-nil P, All-nil P, All-nil P))
    (λ l v r ls vs rs h a.
    let end = in_order ls vs rs in
    let b : All P (v ∷ r ∷ end) = All-tail P l (v ∷ r ∷ end) a in
    let c : All P (r ∷ end) = All-tail P v (r ∷ end) b in
    let rest = h (All-tail P r end c) in (
      All-cons P l ls (All-head P l (v ∷ r ∷ end) a) rest.0,
      All-cons P v vs (All-head P v (r ∷ end) b) rest.1,
      All-cons P r rs (All-head P r end c) rest.2,
    ))

-- the fractions in order of two parts
pub in_order-append : (ps ws ts : List Frac) → length ws ≡ length ps → length ts ≡ length ps →
    (ls vs rs : List Frac) →
    in_order (ps ++ ls) (ws ++ vs) (ts ++ rs) ≡ in_order ps ws ts ++ in_order ls vs rs
in_order-append =
    by_threes (λ ps ws ts. (ls vs rs : List Frac) → in_order (ps ++ ls) (ws ++ vs) (ts ++ rs)
    ≡ in_order ps ws ts ++ in_order ls vs rs)
    (λ ls vs rs. refl) (λ p w t ps ws ts h ls vs rs. ap (λ xs. p ∷ w ∷ t ∷ xs) (h ls vs rs))

-- the fractions before the index i
abbrev pub before : List Frac → List Frac → List Frac → ℕ → List Frac
before ls vs rs i = in_order (take i ls) (take i vs) (take i rs)

-- there are three for each index
pub length-before : (ls vs rs : List Frac) (i : ℕ) → length vs ≡ length ls → length rs ≡ length ls →
    i ≤ length ls → length (before ls vs rs i) ≡ 3 * i
length-before ls vs rs i e f h =
    let a : length (take i ls) ≡ i = length-take-le i ls h in
    let b : length (take i vs) ≡ i = length-take-le i vs (omega arith) in
    let c : length (take i rs) ≡ i = length-take-le i rs (omega arith) in
    length-in_order (take i ls) (take i vs) (take i rs) (b ∙ sym a) (c ∙ sym a) ∙ ap (λ n. 3 * n) a

in_order_along : (ls vs rs ps ws ts : List Frac) → ls ≡ ps → vs ≡ ws → rs ≡ ts →
    in_order ls vs rs ≡ in_order ps ws ts
in_order_along ls vs rs ps ws ts e f g =
    ap (λ x. in_order x vs rs) e ∙ ap (λ x. in_order ps x rs) f ∙ ap (λ x. in_order ps ws x) g

-- at the end they are all
pub before_all : (ls vs rs : List Frac) (i : ℕ) → length vs ≡ length ls → length rs ≡ length ls →
    length ls ≤ i → before ls vs rs i ≡ in_order ls vs rs
before_all ls vs rs i e f h =
    in_order_along _ _ _ _ _ _ (take_all i ls h) (take_all i vs (omega arith))
    (take_all i rs (omega arith))

-- the three fractions at the index i of three lists of one length
pub record StandAt (ls vs rs : List Frac) (i : ℕ) (l v r : Frac) : Type 0 where
  pub value_length : length vs ≡ length ls
  pub right_length : length rs ≡ length ls
  pub within : i < length ls
  pub left_is : l ≡ get_or ls i l
  pub value_is : v ≡ get_or vs i v
  pub right_is : r ≡ get_or rs i r

take_next : (xs : List Frac) (i : ℕ) (x : Frac) → i < length xs → x ≡ get_or xs i x →
    take (i + 1) xs ≡ take i xs ++ x ∷ []
take_next xs i x h e = take_more xs i x h ∙ ap (λ y. take i xs ++ y ∷ []) (sym e)

drop_next : (xs : List Frac) (i : ℕ) (x : Frac) → i < length xs → x ≡ get_or xs i x →
    drop i xs ≡ x ∷ drop (i + 1) xs
drop_next xs i x h e = drop_more xs i x h ∙ ap (λ y. y ∷ drop (i + 1) xs) (sym e)

-- two parts, of which the first is of the first i of each list
in_order_parts : (ls vs rs ps ws ts : List Frac) (i : ℕ) → length vs ≡ length ls →
    length rs ≡ length ls → i ≤ length ls →
    in_order (take i ls ++ ps) (take i vs ++ ws) (take i rs ++ ts)
    ≡ before ls vs rs i ++ in_order ps ws ts
in_order_parts ls vs rs ps ws ts i e f h =
    let a : length (take i ls) ≡ i = length-take-le i ls h in
    let b : length (take i vs) ≡ i = length-take-le i vs (omega arith) in
    let c : length (take i rs) ≡ i = length-take-le i rs (omega arith) in
    in_order-append (take i ls) (take i vs) (take i rs) (b ∙ sym a) (c ∙ sym a) ps ws ts

-- the fractions before the next index
pub before_next : (ls vs rs : List Frac) (i : ℕ) (l v r : Frac) → StandAt ls vs rs i l v r →
    before ls vs rs (i + 1) ≡ before ls vs rs i ++ l ∷ v ∷ r ∷ []
before_next ls vs rs i l v r h =
    let in_value : i < length vs = omega (arith, h.value_length, h.within) in
    let in_right : i < length rs = omega (arith, h.right_length, h.within) in
    let low : i ≤ length ls = omega (arith, h.within) in
    in_order_along _ _ _ _ _ _ (take_next ls i l h.within h.left_is)
    (take_next vs i v in_value h.value_is) (take_next rs i r in_right h.right_is)
    ∙ in_order_parts ls vs rs (l ∷ []) (v ∷ []) (r ∷ []) i h.value_length h.right_length low

-- all fractions: those before the index, the three at the index, and those behind
pub place_of_index : (ls vs rs : List Frac) (i : ℕ) (l v r : Frac) → StandAt ls vs rs i l v r →
    in_order ls vs rs ≡ before ls vs rs i ++ l ∷ v ∷ r ∷ in_order (drop (i + 1) ls)
    (drop (i + 1) vs) (drop (i + 1) rs)
place_of_index ls vs rs i l v r h =
    let in_value : i < length vs = omega (arith, h.value_length, h.within) in
    let in_right : i < length rs = omega (arith, h.right_length, h.within) in
    let low : i ≤ length ls = omega (arith, h.within) in
    let rest = in_order_along _ _ _ _ _ _ (drop_next ls i l h.within h.left_is)
    (drop_next vs i v in_value h.value_is)
    (drop_next rs i r in_right h.right_is) in
    in_order_along _ _ _ _ _ _ (sym (take-append-drop i ls)) (sym (take-append-drop i vs))
    (sym (take-append-drop i rs))
    ∙ in_order_parts ls vs rs (drop i ls) (drop i vs) (drop i rs) i h.value_length h.right_length
    low
    ∙ ap (λ xs. before ls vs rs i ++ xs) rest
