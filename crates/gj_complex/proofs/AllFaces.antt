-- How many faces there are, and where they lie.
use Rattle.std.proofs.Common.{◌≡◌, ℕ, zero, suc, ◌+◌, ◌*◌, ◌<◌, List, [], ◌∷◌, length, length-append}
use Rattle.std.proofs.Common.{refl, ap₂, sym, ◌∙◌, arith}
use Rattle.std.specs.List.{range_with_len, flat_map, All}
use Rattle.std.proofs.Math.Nat.{suc-mul, mul_comm, mul_assoc}
use Rattle.std.proofs.lemmas.List.Elements.{All-nil, All-cons, All-append}
use Rattle.gj_shape.specs.declared.faces.Face.{Face}
use Rattle.gj_shape.specs.declared.faces.FaceKind.{FaceKind}
use Rattle.gj_shape.specs.declared.faces.FaceKind.TheVariants.{Vertex, Horizontal, Vertical, Diagonal, Lower, Upper}
use Rattle.gj_complex.specs.Walk.{faces_of, faces_of_square, faces_in, IsFaceOf}

-- what holds of the faces of each index below a + n holds of all of them
all_joined : (P : Face → Type 0) (f : ℕ → List Face) (a n : ℕ) →
    ((i : ℕ) → i < a + n → All P (f i)) →
    All P (flat_map f (range_with_len a n))
all_joined P f a zero h = All-nil P
all_joined P f a (suc n) h =
    All-append P (f a) (flat_map f (range_with_len (a + 1) n)) (h a (omega arith))
    (all_joined P f (a + 1) n (λ i below. h i (omega arith)))

square_within : (q a b : ℕ) → a < q → b < q → (kinds : List FaceKind) →
    All (IsFaceOf q) (faces_in kinds a b)
square_within q a b first second [] = All-nil (IsFaceOf q)
square_within q a b first second (kind ∷ kinds) =
    All-cons (IsFaceOf q) (record { kind = kind; a = a; b = b }) (faces_in kinds a b)
    (record { first = first; second = second }) (square_within q a b first second kinds)

-- each face lies in a square (a, b) with a and b below q
pub all_within : (q : ℕ) → All (IsFaceOf q) (faces_of q)
all_within q =
    all_joined (IsFaceOf q) (λ a. flat_map (faces_of_square a) (range_with_len 0 q)) 0 q (λ a first.
    all_joined (IsFaceOf q) (faces_of_square a) 0 q (λ b second.
    square_within q a b (omega arith) (omega arith)
    (Vertex ∷ Horizontal ∷ Vertical ∷ Diagonal ∷ Lower ∷ Upper ∷ [])))

-- n lists of k faces
joined_length : (f : ℕ → List Face) (a n k : ℕ) → ((i : ℕ) → length (f i) ≡ k) →
    length (flat_map f (range_with_len a n)) ≡ n * k
joined_length f a zero k h = omega arith
joined_length f a (suc n) k h =
    length-append (f a) (flat_map f (range_with_len (a + 1) n))
    ∙ ap₂ (λ x y. x + y) (h a) (joined_length f (a + 1) n k h)
    ∙ omega (arith, suc-mul n k)

-- there are 6 q q faces
pub all_count : (q : ℕ) → length (faces_of q) ≡ 6 * (q * q)
all_count q =
    joined_length (λ a. flat_map (faces_of_square a) (range_with_len 0 q)) 0 q (q * 6)
    (λ a. joined_length (faces_of_square a) 0 q 6 (λ b. refl))
    ∙ sym (mul_assoc q q 6) ∙ mul_comm (q * q) 6
