-- A text has one first reason.
use Rattle.std.proofs.Common.{◌≡◌, inl, inr, ℕ, List, length, refl, sym, subst, ◌∙◌}
use Rattle.gj_frac.specs.declared.Frac.{Frac}
use Rattle.gj_lemmas.proofs.FirstThatFails.{one_first_failing}
use Rattle.gj_function_lines.specs.PlaceFraction.{IsPlaceFraction}
use Rattle.gj_shape.specs.Given.{AreWithinBounds, IsSmall, IsOrder, IsTooLarge, IsTooFine, in_order}
use Rattle.gj_shape.proofs.LeastDenominator.{within_bounds_closed}
use Rattle.serde_json.specs.Data.{Data}
use Rattle.gj_json.specs.JsonFunction.{HasFractions}
use Rattle.gj_json.specs.FirstReason.{RefusesFractions, HasRefusedFractions, IsOfForm, RefusesValue, HasFirstReason}
use Rattle.gj_json.specs.declared.faults.JsonReason.{JsonReason}
use Rattle.gj_json.specs.declared.faults.JsonReason.TheVariants.{Syntax, Form, Number, Order, Place, Large, Fine}
use Rattle.gj_json.proofs.OneFunction.{one_list, along, one_value}

-- ---- the fractions

-- the tests of the fractions, one after the other
data Stage (order place large fine : Type 0) (e : JsonReason) : Type 0 where
  at_order : e ≡ Order → (order → ⊥) → Stage order place large fine e
  at_place : e ≡ Place → order → (place → ⊥) → Stage order place large fine e
  at_large : e ≡ Large → order → place → large → Stage order place large fine e
  at_fine : e ≡ Fine → order → place → fine → Stage order place large fine e

one_stage : (order place large fine : Type 0) → (large → fine → ⊥) → (e d : JsonReason) →
    Stage order place large fine e →
    Stage order place large fine d → e ≡ d
one_stage order place large fine not_both e d (at_order a n) (at_order b m) = a ∙ sym b
one_stage order place large fine not_both e d (at_order a n) (at_place b o m) = absurd (n o)
one_stage order place large fine not_both e d (at_order a n) (at_large b o p l) = absurd (n o)
one_stage order place large fine not_both e d (at_order a n) (at_fine b o p l) = absurd (n o)
one_stage order place large fine not_both e d (at_place a o n) (at_order b m) = absurd (m o)
one_stage order place large fine not_both e d (at_place a o n) (at_place b q m) = a ∙ sym b
one_stage order place large fine not_both e d (at_place a o n) (at_large b q p l) = absurd (n p)
one_stage order place large fine not_both e d (at_place a o n) (at_fine b q p l) = absurd (n p)
one_stage order place large fine not_both e d (at_large a o p l) (at_order b m) = absurd (m o)
one_stage order place large fine not_both e d (at_large a o p l) (at_place b q m) = absurd (m p)
one_stage order place large fine not_both e d (at_large a o p l) (at_large b q r m) = a ∙ sym b
one_stage order place large fine not_both e d (at_large a o p l) (at_fine b q r f) =
    absurd (not_both l f)
one_stage order place large fine not_both e d (at_fine a o p f) (at_order b m) = absurd (m o)
one_stage order place large fine not_both e d (at_fine a o p f) (at_place b q m) = absurd (m p)
one_stage order place large fine not_both e d (at_fine a o p f) (at_large b q r l) =
    absurd (not_both l f)
one_stage order place large fine not_both e d (at_fine a o p f) (at_fine b q r g) = a ∙ sym b

abbrev StageOf : Frac → List Frac → List Frac → List Frac → JsonReason → Type 0
StageOf p ls vs rs =
    Stage (IsOrder (length vs)) (IsPlaceFraction (length vs) p) ((i : ℕ) × IsTooLarge ls vs rs i)
    ((i : ℕ) × IsTooFine ls vs rs i)

stage_of : (p : Frac) (ls vs rs : List Frac) (e : JsonReason) → RefusesFractions p ls vs rs e →
    StageOf p ls vs rs e
stage_of p ls vs rs Syntax r = absurd r
stage_of p ls vs rs Form r = absurd r
stage_of p ls vs rs Number r = absurd r
stage_of p ls vs rs Order r = at_order refl r
stage_of p ls vs rs Place r = at_place refl r.0 r.1
stage_of p ls vs rs Large r = at_large refl r.0 r.1 r.2
stage_of p ls vs rs Fine r = at_fine refl r.0 r.1 r.2

not_large_and_fine : (ls vs rs : List Frac) → (i : ℕ) × IsTooLarge ls vs rs i →
    (i : ℕ) × IsTooFine ls vs rs i → ⊥
not_large_and_fine ls vs rs (i, (b, x, first, large)) (j, (c, y, second, small)) =
    let one = one_first_failing AreWithinBounds within_bounds_closed
    (in_order ls vs rs) b c x y first.first second.first in
    large (subst IsSmall (sym one.1) small)

one_refusal : (p : Frac) (ls vs rs : List Frac) (e d : JsonReason) → RefusesFractions p ls vs rs e →
    RefusesFractions p ls vs rs d → e ≡ d
one_refusal p ls vs rs e d h j =
    one_stage (IsOrder (length vs)) (IsPlaceFraction (length vs) p)
    ((i : ℕ) × IsTooLarge ls vs rs i)
    ((i : ℕ) × IsTooFine ls vs rs i) (not_large_and_fine ls vs rs) e d (stage_of p ls vs rs e h)
    (stage_of p ls vs rs d j)

one_refused : (v : Data) (e d : JsonReason) → HasRefusedFractions v e → HasRefusedFractions v d →
    e ≡ d
one_refused v e d (p, ls, vs, rs, has, r) (q, ms, ws, ts, have, s) =
    one_refusal p ls vs rs e d r
    (along (λ x ks us zs. RefusesFractions x ks us zs d) p q ls ms vs ws rs ts
    (one_list v p q ls ms vs ws rs ts has have) s)

-- ---- the value

data ValueStage (v : Data) (e : JsonReason) : Type 0 where
  at_form : e ≡ Form → (IsOfForm v → ⊥) → ValueStage v e
  at_number : e ≡ Number → IsOfForm v →
      ((p : Frac) (ls vs rs : List Frac) → HasFractions v p ls vs rs → ⊥) → ValueStage v e
  at_fractions : HasRefusedFractions v e → ValueStage v e

value_stage : (v : Data) (e : JsonReason) → RefusesValue v e → ValueStage v e
value_stage v Syntax r = absurd r
value_stage v Form r = at_form refl r
value_stage v Number r = at_number refl r.0 r.1
value_stage v Order r = at_fractions r
value_stage v Place r = at_fractions r
value_stage v Large r = at_fractions r
value_stage v Fine r = at_fractions r

of_form : (v : Data) (e : JsonReason) → HasRefusedFractions v e → IsOfForm v
of_form v e (p, ls, vs, rs, has, r) = (has.p, has.ls, has.vs, has.rs, has.form)

no_fractions : (v : Data) (e : JsonReason) →
    ((p : Frac) (ls vs rs : List Frac) → HasFractions v p ls vs rs → ⊥) →
    HasRefusedFractions v e → ⊥
no_fractions v e none (p, ls, vs, rs, has, r) = none p ls vs rs has

one_value_stage : (v : Data) (e d : JsonReason) → ValueStage v e → ValueStage v d → e ≡ d
one_value_stage v e d (at_form a n) (at_form b m) = a ∙ sym b
one_value_stage v e d (at_form a n) (at_number b f m) = absurd (n f)
one_value_stage v e d (at_form a n) (at_fractions h) = absurd (n (of_form v d h))
one_value_stage v e d (at_number a f n) (at_form b m) = absurd (m f)
one_value_stage v e d (at_number a f n) (at_number b g m) = a ∙ sym b
one_value_stage v e d (at_number a f n) (at_fractions h) = absurd (no_fractions v d n h)
one_value_stage v e d (at_fractions h) (at_form b m) = absurd (m (of_form v e h))
one_value_stage v e d (at_fractions h) (at_number b g m) = absurd (no_fractions v e m h)
one_value_stage v e d (at_fractions h) (at_fractions j) = one_refused v e d h j

-- ---- the text

pub one_reason : (text : List ℕ) (e d : JsonReason) → HasFirstReason text e →
    HasFirstReason text d → e ≡ d
one_reason text e d (inl (a, n)) (inl (b, m)) = a ∙ sym b
one_reason text e d (inl (a, n)) (inr (v, h, r)) = absurd (n v h)
one_reason text e d (inr (v, h, r)) (inl (b, m)) = absurd (m v h)
one_reason text e d (inr (v, h, r)) (inr (w, j, s)) =
    one_value_stage v e d (value_stage v e r)
    (value_stage v d (subst (λ x. RefusesValue x d) (one_value text w v j h) s))
