use Rattle.std.proofs.Common.{rules, ◌≡◌, ◌↔◌, ℕ, ◌+◌, ℤ, pos, ◌+ℤ◌, ◌-ℤ◌, Bool, IsTrue, subst, arith}
use Rattle.std.proofs.lemmas.Int.{ints, to_z-of_z}
use mir.Syntax.{w64}
use Rattle.gj_shape.specs.FunctionData.{FunctionData}
use Rattle.gj_shape.specs.declared.faces.FaceKind.{FaceKind}
use Rattle.gj_limit_faces.specs.declared.terms.Terms.{Terms}
use Rattle.gj_limit_faces.specs.Terms.{terms_at}
use Rattle.gj_limit_system.specs.LimitSlacks.{limits_in, number_on, slack_at}
use Rattle.gj_limit_check_groups.proofs.limit.is_zero.Goals as goal

pub overflow_add-a : goal.overflow_add-a
overflow_add-a c = let high = c.number_at-first.ensures.limits.order_high in omega arith

-- two of the numbers of a limit add up to the third exactly if it is 0
adds_up : (b : Bool) (x y s p q r : ℤ) → p ≡ x → q ≡ y → r ≡ s →
    IsTrue b ↔ (p +ℤ q ≡ r) → IsTrue b ↔ (x +ℤ y -ℤ s ≡ pos 0)
adds_up b x y s p q r p_is q_is r_is h = (
  λ t. let both = h.0 t in omega (arith, ints),
  λ none. h.1 (omega (arith, ints)),
)

zero_at : (f : FunctionData) (kind : FaceKind) (corner i j : ℕ) (t : Terms) (b : Bool) (p q r : ℤ) →
    t ≡ terms_at kind corner → p ≡ number_on (limits_in f) t.x i →
    q ≡ number_on (limits_in f) t.y j →
    r ≡ number_on (limits_in f) t.sum (i + j) → IsTrue b ↔ (p +ℤ q ≡ r) →
    IsTrue b ↔ (slack_at (limits_in f) kind corner i j ≡ pos 0)
zero_at f kind corner i j t b p q r is p_is q_is r_is h =
    let P : Terms → Type 0 =
    λ u. IsTrue b ↔ (number_on (limits_in f) u.x i +ℤ number_on (limits_in f) u.y j
    -ℤ number_on (limits_in f) u.sum (i + j) ≡ pos 0) in
    subst P is
    (adds_up b (number_on (limits_in f) t.x i) (number_on (limits_in f) t.y j)
    (number_on (limits_in f) t.sum (i + j)) p q r p_is q_is r_is h)

pub returns : goal.returns
returns c =
    let x = to_z-of_z w64 c.number_at-first.result (search rules) in
    let y = to_z-of_z w64 c.number_at-second.result (search rules) in
    let s = to_z-of_z w64 c.number_at.result (search rules) in
    zero_at c.args.shape.now c.args.kind c.args.corner c.args.a c.args.b c.terms_of-terms.result
    c.add_up.result
    c.number_at-first.result c.number_at-second.result c.number_at.result
    c.terms_of-terms.ensures.table
    c.number_at-first.ensures.value c.number_at-second.ensures.value c.number_at.ensures.value
    (simp (x, y, s) at c.add_up.ensures)
