-- Functions with equal parts, and tests of one part after the other.
use Rattle.std.proofs.Common.{◌≡◌, ℕ, Bool, true, false, T, eqb, eqb→eq, eq-eqb, sym, ap, subst, ◌∙◌}
use Rattle.std.specs.Bool.{Decides}
use Rattle.gj_shape.specs.FunctionData.{FunctionData}

pub true_false : true ≡ false → ⊥
true_false e = cc

-- a test of two numbers
pub number_Decides : (a b : ℕ) → Decides (eqb a b) (a ≡ b)
number_Decides a b = (λ e. eqb→eq a b (subst T (sym e) tt), λ e. eq-eqb a b e)

-- a second test, made if the first holds
pub and_then : (v w t : Bool) (P Q : Type 0) → Decides v P → Decides t Q → v ≡ true → w ≡ t →
    Decides w (P × Q)
and_then v w t P Q first second holds is =
    (λ e. (first.0 holds, second.0 (sym is ∙ e)), λ h. is ∙ second.1 h.1)

-- a second test, not made if the first fails
pub and_else : (v w : Bool) (P Q : Type 0) → Decides v P → v ≡ false → w ≡ v → Decides w (P × Q)
and_else v w P Q first fails is =
    (λ e. absurd (true_false (sym e ∙ is ∙ fails)), λ h. is ∙ first.1 h.0)

-- the parts of two functions are equal
abbrev pub HaveSameParts : FunctionData → FunctionData → Type 0
HaveSameParts f g =
    (((((f.order ≡ g.order) × (f.place ≡ g.place)) × (f.scale ≡ g.scale)) × (f.left ≡ g.left))
    × (f.value ≡ g.value)) × (f.right ≡ g.right)

-- a test of the parts is a test of the functions
pub same_Decides : (b : Bool) (f g : FunctionData) → Decides b (HaveSameParts f g) →
    Decides b (f ≡ g)
same_Decides b f g test = (
  λ e.
      let parts = test.0 e in
      λ i. record {
        order = parts.0.0.0.0.0 i;
        place = parts.0.0.0.0.1 i;
        scale = parts.0.0.0.1 i;
        left = parts.0.0.1 i;
        value = parts.0.1 i;
        right = parts.1 i;
      },
  λ e. test.1 (
    (
      (
        (
          (ap (λ (h : FunctionData). h.order) e, ap (λ (h : FunctionData). h.place) e),
          ap (λ (h : FunctionData). h.scale) e,
        ),
        ap (λ (h : FunctionData). h.left) e,
      ),
      ap (λ (h : FunctionData). h.value) e,
    ),
    ap (λ (h : FunctionData). h.right) e,
  ),
)
