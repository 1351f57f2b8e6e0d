-- Where a function does not jump, and rows of limits that are made of its values (own).
use Rattle.std.specs.Prelude.{ℕ, ℤ, pos, ◌≡◌, ◌⊎◌, ◌↔◌, ◌+◌, ◌%◌, ◌<◌, ◌≤◌, List, length, get_or, IsTrue, IfSome}
use Rattle.gj_loops.specs.IndexSets.{has}
use Rattle.gj_loops.specs.declared.index_set.IndexSet.{IndexSet}
use Rattle.gj_shape.specs.Faces.{slack_from}
use Rattle.gj_shape.specs.FunctionData.{FunctionData, at}
use Rattle.gj_limit_faces.specs.Terms.{limit_by}
use Rattle.gj_limit_faces.specs.declared.square_row.SquareRow.{SquareRow}
use Rattle.gj_limit_faces.specs.declared.terms.Terms.{Terms}

-- the limits at i/order are the value there
abbrev pub IsContinuousAt : FunctionData → ℕ → Type 0
IsContinuousAt f i = (at f.left i ≡ at f.value i) × (at f.right i ≡ at f.value i)

-- all points at which the function jumps are among these
pub record AreJumps (f : FunctionData) (jumps : List ℕ) : Type 0 where
  pub below : (m : ℕ) → m < length jumps → get_or jumps m 0 < f.order
  pub each : (i : ℕ) → i < f.order →
      IsContinuousAt f i ⊎ ((m : ℕ) × (m < length jumps) × (get_or jumps m 0 ≡ i))

-- the slack of the values at the vertex (a, b)
abbrev pub value_slack : FunctionData → ℕ → ℕ → ℤ
value_slack f a b = slack_from (at f.value a) (at f.value b) (at f.value (a + b))

-- the function does not jump at a, and the set has the indices b below the order, and no others, of
-- the vertices (a, b) at which the slack of the values is 0
pub record IsValueRow (f : FunctionData) (a : ℕ) (set : IndexSet) : Type 0 where
  pub continuous : IsContinuousAt f a
  pub each : (b : ℕ) → IsTrue (has set b) ↔ ((b < f.order) × (value_slack f a b ≡ pos 0))

-- if there are such sets, they are those of a and of a + 1
pub record AreValueRows (f : FunctionData) (a : ℕ) (rows : SquareRow) : Type 0 where
  pub start : IfSome rows.start (IsValueRow f a)
  pub end : IfSome rows.end (IsValueRow f (a + 1))

-- the corner of the square (a, b), or its sum, is this point
abbrev pub IsTouched : FunctionData → Terms → ℕ → ℕ → ℕ → Type 0
IsTouched f t a jump b = (b < f.order)
    × (((b + t.above) % f.order ≡ jump) ⊎ ((a + t.right + (b + t.above)) % f.order ≡ jump))

-- the set says where the limit is 0, but perhaps not where one of the points from the n-th on is a
-- corner or its sum
pub record IsMended (f : FunctionData) (t : Terms) (a : ℕ) (jumps : List ℕ) (n : ℕ)
    (set : IndexSet) :
    Type 0 where
  pub each : (b : ℕ) →
      ((m : ℕ) → n ≤ m → m < length jumps → IsTouched f t a (get_or jumps m 0) b → ⊥) →
      IsTrue (has set b) ↔ ((b < f.order) × (limit_by f t a b ≡ pos 0))
