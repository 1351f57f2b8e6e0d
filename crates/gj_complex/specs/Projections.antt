-- The intervals onto which a face projects (Equivariant Perturbation I).
use Rattle.std.specs.Prelude.{ℕ, ◌+◌, ◌%◌, Some, None}
use Rattle.gj_shape.specs.declared.faces.FaceKind.{FaceKind}
use Rattle.gj_shape.specs.declared.faces.FaceKind.TheVariants.{Vertex, Horizontal, Vertical, Diagonal, Lower, Upper}
use Rattle.gj_complex.specs.declared.intervals.Projections.{Projections}

-- the intervals, numbered 0 to q - 1, onto which a face of the square (a, b) projects by x, by y
-- and by x + y modulo 1; None if the projection is a point
abbrev pub projections_of : ℕ → FaceKind → ℕ → ℕ → Projections
projections_of q Vertex a b = record { x = None; y = None; sum = None }
projections_of q Horizontal a b = record { x = Some (a % q); y = None; sum = Some ((a + b) % q) }
projections_of q Vertical a b = record { x = None; y = Some (b % q); sum = Some ((a + b) % q) }
projections_of q Diagonal a b = record { x = Some (a % q); y = Some (b % q); sum = None }
projections_of q Lower a b = record { x = Some (a % q); y = Some (b % q); sum = Some ((a + b) % q) }
projections_of q Upper a b =
    record { x = Some (a % q); y = Some (b % q); sum = Some ((a + b + 1) % q) }
