-- The first constraints and the first columns, one more at a time.
use Rattle.std.proofs.Common.{◌≡◌, ⊎_elim, ℕ, zero, suc, ◌+◌, ◌<◌, ◌≤◌, add-one, Bool, List, [], ◌∷◌, ◌++◌, length, get_or, take, drop, append_assoc, pos, refl, sym, ap, ap₂, subst, ◌∙◌, arith}
use Rattle.std.proofs.lemmas.List.{take_more, take_all, take-append-drop}
use Rattle.gj_frac.specs.declared.Frac.{Frac}
use Rattle.gj_fields.specs.Rational.{Rational, whole, rational, ◌+ℚ◌, ◌*ℚ◌, ◌-ℚ◌}
use Rattle.gj_fields.proofs.RationalLaws.{add_assoc_q, add_comm_q}
use Rattle.gj_problem.specs.declared.problem.Column.{Column}
use Rattle.gj_problem.specs.Problems.{sum_at}
use Rattle.gj_problem.specs.declared.bounds.Held.{Held}
use Rattle.gj_problem.specs.Aggregates.{AreMadeOf, Weighted, aggregate_at, held}
use Rattle.gj_problem.specs.Steps.{IsMadeNext}
use Rattle.gj_problem.proofs.MadePieces.{made_passed, made_more}

-- ---- one more item

pub made_next : {A B : Type 0} (P : A → Type 0) (M : A → B → Type 0) (xs ys : List A) (x : A)
    (old new : List B) →
    ys ≡ xs ++ x ∷ [] → AreMadeOf P M xs old → IsMadeNext (P x) (M x) old new → AreMadeOf P M ys new
made_next {A} {B} P M xs ys x old new ys_is h next =
    subst (λ zs. AreMadeOf P M zs new) (sym ys_is)
    (⊎_elim
    (λ (k : P x × (new ≡ old)). subst (AreMadeOf P M (xs ++ x ∷ [])) (sym k.1)
    (made_passed P M xs old x h k.0))
    (λ (k : (P x → ⊥) × (s : B) × M x s × (new ≡ old ++ s ∷ [])).
    subst (AreMadeOf P M (xs ++ x ∷ [])) (sym k.3) (made_more P M xs old x k.1 h k.0 k.2))
    next)

-- the items before, at and behind an index
pub split_at : {A : Type 0} (xs : List A) (i : ℕ) (x : A) → i < length xs → x ≡ get_or xs i x →
    xs ≡ take i xs ++ x ∷ drop (i + 1) xs
split_at xs i x below here =
    sym (take-append-drop (i + 1) xs)
    ∙ ap (λ ys. ys ++ drop (i + 1) xs)
    (take_more xs i x below ∙ ap (λ y. take i xs ++ y ∷ []) (sym here))
    ∙ append_assoc (take i xs) (x ∷ []) (drop (i + 1) xs)

-- ---- indices

none_below : {A : Type 0} (i : ℕ) → i < 0 → A
none_below i h = absurd (omega arith)

next_below : (i n : ℕ) → suc i < suc n → i < n
next_below i n h = omega arith

add_zero_n : (i : ℕ) → i ≡ i + 0
add_zero_n i = omega arith

from_zero : (i : ℕ) → 0 + i ≡ i
from_zero i = omega arith

next_index : (j i : ℕ) → j + 1 + i ≡ j + suc i
next_index j i = omega arith

-- ---- constraints

aggregate_more : (point : List Rational) (ws : List Weighted) (w : Weighted) →
    aggregate_at point (ws ++ w ∷ [])
    ≡ aggregate_at point ws +ℚ rational w.multiplier
    *ℚ (sum_at point w.constraint.entries -ℚ rational w.constraint.right)
aggregate_more point [] w =
    add_comm_q (rational w.multiplier
    *ℚ (sum_at point w.constraint.entries -ℚ rational w.constraint.right)) (whole (pos 0))
aggregate_more point (v ∷ ws) w =
    let x = rational v.multiplier
    *ℚ (sum_at point v.constraint.entries -ℚ rational v.constraint.right) in
    let y = rational w.multiplier
    *ℚ (sum_at point w.constraint.entries -ℚ rational w.constraint.right) in
    ap (λ z. x +ℚ z) (aggregate_more point ws w) ∙ sym (add_assoc_q x (aggregate_at point ws) y)

pub aggregate_next : (point : List Rational) (ws vs : List Weighted) (w : Weighted)
    (old new : Rational) → vs ≡ ws ++ w ∷ [] →
    old ≡ aggregate_at point ws →
    new ≡ old +ℚ rational w.multiplier
    *ℚ (sum_at point w.constraint.entries -ℚ rational w.constraint.right) →
    new ≡ aggregate_at point vs
aggregate_next point ws vs w old new vs_is old_is new_is =
    new_is
    ∙ ap (λ z. z +ℚ rational w.multiplier
    *ℚ (sum_at point w.constraint.entries -ℚ rational w.constraint.right)) old_is
    ∙ sym (aggregate_more point ws w) ∙ ap (aggregate_at point) (sym vs_is)

-- ---- columns

held_more : (j : ℕ) (ds : List Column) (cs : List Frac) (ups : List Bool) (i : ℕ) (d : Column)
    (c : Frac) (up : Bool) →
    i < length ds → i < length cs → i < length ups → d ≡ get_or ds i d → c ≡ get_or cs i c →
    up ≡ get_or ups i up →
    take (suc i) (held j ds cs ups) ≡ take i (held j ds cs ups) ++ record
    { index = j + i; column = d; coefficient = c; at_upper = up } ∷ []
held_more j [] cs ups i d c up d_below c_below up_below d_is c_is up_is = none_below i d_below
held_more j (e ∷ ds) [] ups i d c up d_below c_below up_below d_is c_is up_is = none_below i c_below
held_more j (e ∷ ds) (b ∷ cs) [] i d c up d_below c_below up_below d_is c_is up_is =
    none_below i up_below
held_more j (e ∷ ds) (b ∷ cs) (p ∷ ups) zero d c up d_below c_below up_below d_is c_is up_is =
    ap (λ (k : ℕ). let h : Held = record { index = k; column = e; coefficient = b; at_upper = p } in
    h ∷ []) (add_zero_n j)
    ∙ ap (λ (f : Column). let h : Held =
    record { index = j + 0; column = f; coefficient = b; at_upper = p } in h ∷ []) (sym d_is)
    ∙ ap₂ (λ (a : Frac) (u : Bool). let h : Held =
    record { index = j + 0; column = d; coefficient = a; at_upper = u } in h ∷ []) (sym c_is)
    (sym up_is)
held_more j (e ∷ ds) (b ∷ cs) (p ∷ ups) (suc i) d c up d_below c_below up_below d_is c_is up_is =
    ap (λ (hs : List Held). record { index = j; column = e; coefficient = b; at_upper = p } ∷ hs)
    (held_more (j + 1) ds cs ups i d c up (next_below i (length ds) d_below)
    (next_below i (length cs) c_below)
    (next_below i (length ups) up_below) d_is c_is up_is
    ∙ ap (λ (k : ℕ). take i (held (j + 1) ds cs ups) ++ record
    { index = k; column = d; coefficient = c; at_upper = up } ∷ []) (next_index j i))

pub held_next : (ds : List Column) (cs : List Frac) (ups : List Bool) (i : ℕ) (d : Column)
    (c : Frac) (up : Bool) →
    i < length ds → i < length cs → i < length ups → d ≡ get_or ds i d → c ≡ get_or cs i c →
    up ≡ get_or ups i up →
    take (i + 1) (held 0 ds cs ups) ≡ take i (held 0 ds cs ups) ++ record
    { index = i; column = d; coefficient = c; at_upper = up } ∷ []
held_next ds cs ups i d c up d_below c_below up_below d_is c_is up_is =
    ap (λ (k : ℕ). take k (held 0 ds cs ups)) (add-one i)
    ∙ held_more 0 ds cs ups i d c up d_below c_below up_below d_is c_is up_is
    ∙ ap (λ (k : ℕ). take i (held 0 ds cs ups) ++ record {
      index = k;
      column = d;
      coefficient =
          c;
      at_upper = up;
    } ∷ []) (from_zero i)

held_length : (j : ℕ) (ds : List Column) (cs : List Frac) (ups : List Bool) →
    length (held j ds cs ups) ≤ length ds
held_length j [] cs ups = omega arith
held_length j (d ∷ ds) [] ups = omega arith
held_length j (d ∷ ds) (c ∷ cs) [] = omega arith
held_length j (d ∷ ds) (c ∷ cs) (up ∷ ups) = let rest = held_length (j + 1) ds cs ups in omega arith

pub held_all_taken : (ds : List Column) (cs : List Frac) (ups : List Bool) (i : ℕ) → length ds ≤ i →
    take i (held 0 ds cs ups) ≡ held 0 ds cs ups
held_all_taken ds cs ups i h = let few = held_length 0 ds cs ups in
    take_all i (held 0 ds cs ups) (omega arith)

-- the columns before, at and behind an index
pub held_split : (ds : List Column) (cs : List Frac) (ups : List Bool) (i : ℕ) (d : Column)
    (c : Frac) (up : Bool) →
    i < length ds → i < length cs → i < length ups → d ≡ get_or ds i d → c ≡ get_or cs i c →
    up ≡ get_or ups i up →
    held 0 ds cs ups
    ≡ take i (held 0 ds cs ups) ++ record { index = i; column = d; coefficient = c; at_upper = up }
    ∷ drop (i + 1) (held 0 ds cs ups)
held_split ds cs ups i d c up d_below c_below up_below d_is c_is up_is =
    let hs = held 0 ds cs ups in
    let h : Held = record { index = i; column = d; coefficient = c; at_upper = up } in
    sym (take-append-drop (i + 1) hs)
    ∙ ap (λ (xs : List Held). xs ++ drop (i + 1) hs)
    (held_next ds cs ups i d c up d_below c_below up_below d_is c_is up_is)
    ∙ append_assoc (take i hs) (h ∷ []) (drop (i + 1) hs)

-- below the length the default says nothing
pub default_unused : {A : Type 0} (us : List A) (i : ℕ) (a b : A) → i < length us →
    get_or us i a ≡ get_or us i b
default_unused [] i a b below = absurd (omega arith)
default_unused (u ∷ us) zero a b below = refl
default_unused (u ∷ us) (suc i) a b below = default_unused us i a b (omega arith)
