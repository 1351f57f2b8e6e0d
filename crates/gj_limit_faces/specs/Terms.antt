-- What makes up a limit of the slack at a corner of a face (own).
use Rattle.std.specs.Prelude.{ℕ, ℤ, zero, suc, pos, ◌≡◌, ◌+◌, List, get_or}
use Rattle.gj_shape.specs.Faces.{limits_of, slack_from}
use Rattle.gj_shape.specs.FunctionData.{FunctionData, at}
use Rattle.gj_shape.specs.declared.faces.FaceKind.{FaceKind}
use Rattle.gj_shape.specs.declared.faces.FaceKind.TheVariants.{Vertex, Horizontal, Vertical, Diagonal, Lower, Upper}
use Rattle.gj_limit_faces.specs.declared.terms.Side.{Side}
use Rattle.gj_limit_faces.specs.declared.terms.Side.TheVariants.{Left, Value, Right}
use Rattle.gj_limit_faces.specs.declared.terms.Terms.{Terms}

-- of three the one for this side
abbrev pub by_side : {X : Type 0} → Side → X → X → X → X
by_side Left l v r = l
by_side Value l v r = v
by_side Right l v r = r

-- the limits from this side, or the values
abbrev pub numbers_on : FunctionData → Side → List ℤ
numbers_on f side = by_side side f.left f.value f.right

-- the limit of the slack that these terms make in the square (a, b)
abbrev pub limit_by : FunctionData → Terms → ℕ → ℕ → ℤ
limit_by f t a b =
    slack_from (at (numbers_on f t.x) (a + t.right)) (at (numbers_on f t.y) (b + t.above))
    (at (numbers_on f t.sum) (a + t.right + (b + t.above)))

-- the terms are those of the limit at this corner, in all squares
abbrev pub AreTermsOf : FaceKind → ℕ → Terms → Type 0
AreTermsOf kind corner t =
    (f : FunctionData) (a b : ℕ) → get_or (limits_of f kind a b) corner (pos 1) ≡ limit_by f t a b

-- the terms with these sides, of a corner that stands here in its square
abbrev pub terms_with : Side → Side → Side → ℕ → ℕ → Terms
terms_with x y sum right above = record { x = x; y = y; sum = sum; right = right; above = above }

-- the terms of the limit from inside the faces of this kind at a corner
abbrev pub terms_at : FaceKind → ℕ → Terms
terms_at Vertex corner = terms_with Value Value Value 0 0
terms_at Horizontal zero = terms_with Right Value Right 0 0
terms_at Horizontal (suc corner) = terms_with Left Value Left 1 0
terms_at Vertical zero = terms_with Value Right Right 0 0
terms_at Vertical (suc corner) = terms_with Value Left Left 0 1
terms_at Diagonal zero = terms_with Left Right Value 1 0
terms_at Diagonal (suc corner) = terms_with Right Left Value 0 1
terms_at Lower zero = terms_with Right Right Right 0 0
terms_at Lower (suc zero) = terms_with Left Right Left 1 0
terms_at Lower (suc (suc corner)) = terms_with Right Left Left 0 1
terms_at Upper zero = terms_with Left Right Right 1 0
terms_at Upper (suc zero) = terms_with Right Left Right 0 1
terms_at Upper (suc (suc corner)) = terms_with Left Left Left 1 1
