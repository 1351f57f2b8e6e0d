-- The walk over the faces, square by square and row by row.
use Rattle.std.proofs.Common.{◌≡◌, ℕ, ◌+◌, ◌-◌, ◌<◌, ◌≤◌, List, [], ◌++◌, Some, ap, sym, ◌∙◌, arith}
use Rattle.std.specs.List.{range_with_len, flat_map}
use Rattle.gj_lemmas.proofs.Lists.{range_step, range_end}
use Rattle.gj_shape.specs.declared.faces.Face.{Face}
use Rattle.gj_shape.specs.declared.faces.FaceKind.TheVariants.{Vertex}
use Rattle.gj_complex.specs.Walk.{faces_of, faces_of_square, faces_in, row_from, face_rows_from}
use Rattle.gj_complex.specs.Walk.{faces_after, faces_from, kinds_after}

-- the first square of what is left of a row
pub row_step : (q a b : ℕ) → b < q → row_from q a b ≡ faces_of_square a b ++ row_from q a (b + 1)
row_step q a b h = ap (flat_map (faces_of_square a)) (range_step b q h)

pub row_end : (q a b : ℕ) → q ≤ b → row_from q a b ≡ []
row_end q a b h = ap (flat_map (faces_of_square a)) (range_end b q h)

-- the first row of what is left
pub rows_step : (q a : ℕ) → a < q → face_rows_from q a ≡ row_from q a 0 ++ face_rows_from q (a + 1)
rows_step q a h = ap (flat_map (λ (a : ℕ). row_from q a 0)) (range_step a q h)

-- from the first face of a square on
pub from_square : (q a b : ℕ) → b < q →
    faces_from q (Some (record { kind = Vertex; a = a; b = b }))
    ≡ row_from q a b ++ face_rows_from q (a + 1)
from_square q a b h =
    sym (ap (λ (xs : List Face). xs ++ face_rows_from q (a + 1)) (row_step q a b h))

-- from the first face of a row on
pub from_row : (q a : ℕ) → a < q → faces_from q (Some (record { kind = Vertex; a = a; b = 0 }))
    ≡ face_rows_from q a
from_row q a h = from_square q a 0 (omega arith) ∙ sym (rows_step q a h)

-- after the last face of a square
pub after_square : (q : ℕ) (face : Face) → kinds_after face.kind ≡ [] →
    faces_after q face ≡ row_from q face.a (face.b + 1) ++ face_rows_from q (face.a + 1)
after_square q face e =
    ap (λ kinds. faces_in kinds face.a face.b ++ row_from q face.a (face.b + 1) ++ face_rows_from q
    (face.a + 1)) e

-- after the last face of a row
pub after_row : (q : ℕ) (face : Face) → kinds_after face.kind ≡ [] → q ≤ face.b + 1 →
    faces_after q face ≡ face_rows_from q (face.a + 1)
after_row q face e h =
    after_square q face e ∙ ap (λ (xs : List Face). xs ++ face_rows_from q (face.a + 1))
    (row_end q face.a (face.b + 1) h)

-- from the first face on
pub from_first : (q : ℕ) → 0 < q → faces_from q (Some (record { kind = Vertex; a = 0; b = 0 }))
    ≡ faces_of q
from_first q h =
    let e : q - 0 ≡ q = omega arith in
    from_row q 0 h
    ∙ ap (λ n. flat_map (λ a. flat_map (faces_of_square a) (range_with_len 0 n))
    (range_with_len 0 n)) e
