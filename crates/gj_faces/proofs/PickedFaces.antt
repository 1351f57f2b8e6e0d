-- Lists of the elements with a property, and the faces of the complex.
use Rattle.std.proofs.Common.{◌≡◌, ℕ, zero, suc, ◌+◌, ◌<◌, List, [], ◌∷◌, ◌++◌, refl, sym, ap, subst, ◌∙◌, lit<, arith}
use Rattle.std.specs.List.{range_with_len, flat_map, All, Contains}
use Rattle.std.proofs.lemmas.List.{append-nil}
use Rattle.std.proofs.lemmas.List.Elements.{All-nil, All-cons, Contains-append_left, Contains-append_right}
use Rattle.std.proofs.lemmas.List.FromFn.{length-range_with_len, get_or-range_with_len}
use Rattle.std.proofs.lemmas.Grind.{flat_map-append}
use Rattle.gj_shape.specs.WalkOrder.{faces_of, faces_of_square}
use Rattle.gj_shape.specs.declared.faces.FaceKind.{FaceKind}
use Rattle.gj_shape.specs.declared.faces.FaceKind.TheVariants.{Vertex, Horizontal, Vertical, Diagonal, Lower, Upper}
use Rattle.gj_faces.specs.Picked.{ArePicked, none, kept, dropped}

-- ---- picked elements

-- those of two lists, one behind the other
pub picked_joined : {X : Type 0} (P : X → Type 0) {xs ys : List X} (us vs : List X) →
    ArePicked P xs ys → ArePicked P us vs →
    ArePicked P (xs ++ us) (ys ++ vs)
picked_joined P us vs none k = k
picked_joined P us vs (kept p h) k = kept p (picked_joined P us vs h k)
picked_joined P us vs (dropped p h) k = dropped p (picked_joined P us vs h k)

-- an element with the property is picked
pub picked_has : {X : Type 0} (P : X → Type 0) {xs ys : List X} (x : X) → ArePicked P xs ys →
    Contains xs x → P x → Contains ys x
picked_has P x none found p = absurd (omega (arith, found.1))
picked_has P x (kept {x = y} {xs = xs} {ys = ys} q h) (zero, below, same) p = (0, omega arith, same)
picked_has P x (kept {x = y} {xs = xs} {ys = ys} q h) (suc k, below, same) p =
    let rest = picked_has P x h (k, omega arith, same) p in
    (suc rest.0, omega (arith, rest.1), rest.2)
picked_has P x (dropped {x = y} {xs = xs} {ys = ys} q h) (zero, below, same) p =
    absurd (q (subst P (sym same) p))
picked_has P x (dropped {x = y} {xs = xs} {ys = ys} q h) (suc k, below, same) p =
    picked_has P x h (k, omega arith, same) p

-- each picked element has the property
pub picked_all : {X : Type 0} (P : X → Type 0) {xs ys : List X} → ArePicked P xs ys → All P ys
picked_all P none = All-nil P
picked_all P (kept {x = x} {xs = xs} {ys = ys} p h) = All-cons P x ys p (picked_all P h)
picked_all P (dropped p h) = picked_all P h

-- ---- the faces of the complex

in_range : (q a : ℕ) → a < q → Contains (range_with_len 0 q) a
in_range q a below =
    (a, omega (arith, length-range_with_len 0 q), get_or-range_with_len 0 q a a below ∙ omega arith)

in_flat_map : {X Y : Type 0} (f : X → List Y) (xs : List X) (x : X) (y : Y) → Contains xs x →
    Contains (f x) y →
    Contains (flat_map f xs) y
in_flat_map f [] x y found h = absurd (omega (arith, found.1))
in_flat_map f (z ∷ xs) x y (zero, below, same) h =
    Contains-append_left (f z) (flat_map f xs) y (subst (λ v. Contains (f v) y) (sym same) h)
in_flat_map f (z ∷ xs) x y (suc k, below, same) h =
    Contains-append_right (f z) (flat_map f xs) y (in_flat_map f xs x y (k, omega arith, same) h)

in_square : (kind : FaceKind) (a b : ℕ) →
    Contains (faces_of_square a b) (record { kind = kind; a = a; b = b })
in_square Vertex a b = (0, lit< tt, refl)
in_square Horizontal a b = (1, lit< tt, refl)
in_square Vertical a b = (2, lit< tt, refl)
in_square Diagonal a b = (3, lit< tt, refl)
in_square Lower a b = (4, lit< tt, refl)
in_square Upper a b = (5, lit< tt, refl)

pub in_walk : (q : ℕ) (kind : FaceKind) (a b : ℕ) → a < q → b < q →
    Contains (faces_of q) (record { kind = kind; a = a; b = b })
in_walk q kind a b first second =
    in_flat_map (λ a. flat_map (faces_of_square a) (range_with_len 0 q)) (range_with_len 0 q) a _
    (in_range q a first)
    (in_flat_map (faces_of_square a) (range_with_len 0 q) b _ (in_range q b second)
    (in_square kind a b))

-- one row or one square more
range_more : (a n j : ℕ) → a + n ≡ j → range_with_len a (suc n) ≡ range_with_len a n ++ j ∷ []
range_more a zero j e = let same : a ≡ j = omega arith in ap (λ k. k ∷ []) same
range_more a (suc n) j e = ap (λ xs. a ∷ xs) (range_more (a + 1) n j (omega arith))

pub joined_more : {X : Type 0} (f : ℕ → List X) (n : ℕ) →
    flat_map f (range_with_len 0 (n + 1)) ≡ flat_map f (range_with_len 0 n) ++ f n
joined_more f n =
    let next : n + 1 ≡ suc n = omega arith in
    ap (λ k. flat_map f (range_with_len 0 k)) next
    ∙ ap (flat_map f) (range_more 0 n n (omega arith))
    ∙ flat_map-append f (range_with_len 0 n) (n ∷ [])
    ∙ ap (λ xs. flat_map f (range_with_len 0 n) ++ xs) (append-nil (f n))
