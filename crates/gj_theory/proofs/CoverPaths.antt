-- Lists of intervals, each joined to the next.
use Rattle.std.proofs.Common.{◌≡◌, ℕ, ◌%◌, ◌<◌, List, All, Contains, get_or, refl, sym, subst, ◌∙◌}
use Rattle.gj_shape.specs.Additive.{IsTight}
use Rattle.gj_shape.specs.Cover.{IsOneOf, AreJoined, IsCovered, IsInClassOf, LeadsTo}
use Rattle.gj_shape.specs.Cover.LeadsTo.{here, onward}
use Rattle.gj_shape.specs.FunctionData.{FunctionData}
use Rattle.gj_theory.specs.Uncovered.{AreUncoveredClasses}

pub all_contained : (P : ℕ → Type 0) (class : List ℕ) (a : ℕ) → All P class → Contains class a → P a
all_contained P class a h (k, below, there) = subst P there (h k a below)

-- joined intervals by their remainders
pub joined_remainders : (q : ℕ) (Tight : ℕ → ℕ → Type 0) (i j i' j' : ℕ) → i % q ≡ i' % q →
    j % q ≡ j' % q →
    AreJoined q Tight i j → AreJoined q Tight i' j'
joined_remainders q Tight i j i' j' e g (kind, a, b, h) = (
  kind,
  a,
  b,
  record {
    additive = h.additive;
    first = moved _ i i' e h.first;
    second =
        moved _ j j' g h.second;
  },
)
  where
    moved : (xs : List ℕ) (i i' : ℕ) → i % q ≡ i' % q → IsOneOf q xs i → IsOneOf q xs i'
    moved xs i i' e (k, x, below, there, same) = (k, x, below, there, same ∙ e)

pub joined_turned : (q : ℕ) (Tight : ℕ → ℕ → Type 0) (i j : ℕ) → AreJoined q Tight i j →
    AreJoined q Tight j i
joined_turned q Tight i j (kind, a, b, h) =
    (kind, a, b, record { additive = h.additive; first = h.second; second = h.first })

-- one interval more at the end
pub leads_onward : (q : ℕ) (Tight : ℕ → ℕ → Type 0) (j i d : ℕ) → AreJoined q Tight j i →
    LeadsTo q Tight j d →
    LeadsTo q Tight i d
leads_onward q Tight j i _ both (here d e) =
    onward d i (joined_remainders q Tight j i d i (sym e) refl both) (here i refl)
leads_onward q Tight j i _ both (onward d next first rest) =
    onward d next first (leads_onward q Tight j i next both rest)

-- the list from its end
pub leads_turned : (q : ℕ) (Tight : ℕ → ℕ → Type 0) (j i : ℕ) → LeadsTo q Tight j i →
    LeadsTo q Tight i j
leads_turned q Tight j _ (here i e) = here j (sym e)
leads_turned q Tight j _ (onward i next both rest) =
    leads_onward q Tight next i j (joined_turned q Tight i next both)
    (leads_turned q Tight j next rest)

-- from an interval that is another modulo q
leads_from : (q : ℕ) (Tight : ℕ → ℕ → Type 0) (k j i : ℕ) → i % q ≡ j % q → LeadsTo q Tight k j →
    LeadsTo q Tight k i
leads_from q Tight k _ i e (here j g) = here i (e ∙ g)
leads_from q Tight k _ i e (onward j next both rest) =
    onward i next (joined_remainders q Tight j next i next (sym e) refl both) rest

-- one list behind another
pub leads_through : (q : ℕ) (Tight : ℕ → ℕ → Type 0) (k j i : ℕ) → LeadsTo q Tight k j →
    LeadsTo q Tight j i →
    LeadsTo q Tight k i
leads_through q Tight k j _ last (here i e) = leads_from q Tight k j i e last
leads_through q Tight k j _ last (onward i next both rest) =
    onward i next both (leads_through q Tight k j next last rest)

-- what is joined to a covered interval is covered
pub covered_onward : (q : ℕ) (Tight : ℕ → ℕ → Type 0) (j i : ℕ) → AreJoined q Tight j i →
    IsCovered q Tight j →
    IsCovered q Tight i
covered_onward q Tight j i both (d, direct, leads) =
    (d, direct, leads_onward q Tight j i d both leads)

-- the class of an uncovered interval
pub class_uncovered : (f : FunctionData) (class : List ℕ) (i : ℕ) →
    (IsCovered f.order (IsTight f) i → ⊥) →
    All (λ a. a < f.order) class → All (IsInClassOf f.order (IsTight f) i) class →
    ((a : ℕ) → a < f.order → IsInClassOf f.order (IsTight f) i a → Contains class a) →
    AreUncoveredClasses f.order (IsTight f) class
class_uncovered f class i out within in_class complete = record {
  within = within;
  uncovered = λ k d below. from_member (get_or class k d) (in_class k d below);
  closed = λ a b one b_low both.
      complete b b_low
      (leads_onward f.order (IsTight f) a b i both
      (all_contained (IsInClassOf f.order (IsTight f) i) class a in_class one));
}
  where
    from_member : (a : ℕ) → IsInClassOf f.order (IsTight f) i a → IsCovered f.order (IsTight f) a →
        ⊥
    from_member a leads (d, direct, start) =
        out (
          d,
          direct,
          leads_through f.order (IsTight f) i a d
              (leads_turned f.order (IsTight f) a i leads) start,
        )
