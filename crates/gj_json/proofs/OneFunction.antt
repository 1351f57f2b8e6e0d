-- A text spells one function at most, and one that is refused spells none.
use Rattle.std.proofs.Common.{◌≡◌, ◌≢◌, inl, inr, ℕ, pos, List, [], ◌∷◌, length, Result, Ok, Err, IfOk, IfErr, MatchResult, refl, sym, ap₂, subst, ◌∙◌, arith}
use Rattle.std.proofs.lemmas.Option.{none-some}
use Rattle.std.specs.List.{AllZip}
use Rattle.gj_frac.specs.declared.Frac.{Frac}
use Rattle.gj_frac.specs.Fraction.{IsRatio}
use Rattle.gj_frac.proofs.SameValues.{same_from_is}
use Rattle.gj_lex.specs.SpelledNumbers.{IsFractionWord}
use Rattle.gj_lex.specs.declared.spelling.Spelling.TheVariants.{Lenient}
use Rattle.gj_lex.proofs.SpelledWords.{one_fraction}
use Rattle.gj_frac.proofs.SameValues.{one_place}
use Rattle.gj_lemmas.proofs.FirstThatFails.{first_failing_denies}
use Rattle.gj_lemmas.proofs.Choices.{same_some}
use Rattle.gj_shape.specs.FunctionData.{FunctionData}
use Rattle.gj_shape.specs.Given.{AreWithinBounds, IsGivenBy}
use Rattle.gj_shape.proofs.GivenLists.{within_given}
use Rattle.gj_shape.proofs.LeastDenominator.{within_bounds_closed}
use Rattle.gj_shape.proofs.OneFunction.{same_from_given}
use Rattle.serde_json.specs.Data.{Data}
use Rattle.gj_json.specs.JsonFunction.{SpellsNumber, HasFractions, GivesFunction, SaysFunction, HasValue, IsJsonFunction}
use Rattle.gj_json.specs.FirstReason.{RefusesFractions, HasRefusedFractions, RefusesValue, HasFirstReason, IsMemoryFault, NamesJsonReason}
use Rattle.gj_json.specs.declared.faults.JsonReason.{JsonReason}
use Rattle.gj_json.specs.declared.faults.JsonReason.TheVariants.{Syntax, Form, Number, Order, Place, Large, Fine}
use Rattle.gj_json.specs.declared.faults.JsonFault.{JsonFault}
use Rattle.gj_json.specs.declared.faults.JsonFault.TheVariants.{Refused, Memory}
use Rattle.gj_json.proofs.Refusals.{string_or_integer, with_form}

-- ---- the fractions

one_spelled : (d : Data) (x y : Frac) → SpellsNumber d x → SpellsNumber d y → x ≡ y
one_spelled d x y (inl (v, e, h)) (inl (w, g, k)) =
    one_fraction Lenient w x y
    (subst (λ u. IsFractionWord Lenient u x) (same_some v w (sym e ∙ g)) h) k
one_spelled d x y (inl (v, e, h)) (inr (z, g, k)) =
    absurd (none-some z (sym (string_or_integer d v e) ∙ g))
one_spelled d x y (inr (z, e, h)) (inl (w, g, k)) =
    absurd (none-some z (sym (string_or_integer d w g) ∙ e))
one_spelled d x y (inr (z, e, h)) (inr (t, g, k)) =
    let some : 1 ≢ 0 = omega arith in
    same_from_is x y t (pos 1) some (subst (λ u. IsRatio x u (pos 1)) (same_some z t (sym e ∙ g)) h)
    k

all_spelled : (ds : List Data) (xs ys : List Frac) → AllZip SpellsNumber ds xs →
    AllZip SpellsNumber ds ys → xs ≡ ys
all_spelled [] [] [] h k = refl
all_spelled [] [] (y ∷ ys) h k = absurd k
all_spelled [] (x ∷ xs) ys h k = absurd h
all_spelled (d ∷ ds) [] ys h k = absurd h
all_spelled (d ∷ ds) (x ∷ xs) [] h k = absurd k
all_spelled (d ∷ ds) (x ∷ xs) (y ∷ ys) h k =
    ap₂ (λ z zs. z ∷ zs) (one_spelled d x y h.0 k.0) (all_spelled ds xs ys h.1 k.1)

pub record SameFractions (p q : Frac) (ls ms vs ws rs ts : List Frac) : Type 0 where
  place : p ≡ q
  left : ls ≡ ms
  value : vs ≡ ws
  right : rs ≡ ts

pub one_list : (d : Data) (p q : Frac) (ls ms vs ws rs ts : List Frac) → HasFractions d p ls vs rs →
    HasFractions d q ms ws ts →
    SameFractions p q ls ms vs ws rs ts
one_list d p q ls ms vs ws rs ts h j =
    let s = h.spelled in
    let t = with_form d h.p j.p h.ls j.ls h.vs j.vs h.rs j.rs q ms ws ts h.form j.form j.spelled in
    record {
      place = one_spelled h.p p q s.place_spelled t.place_spelled;
      left = all_spelled h.ls ls ms s.left_spelled t.left_spelled;
      value = all_spelled h.vs vs ws s.value_spelled t.value_spelled;
      right = all_spelled h.rs rs ts s.right_spelled t.right_spelled;
    }

-- what is made of fractions is made of the same
pub along : (P : Frac → List Frac → List Frac → List Frac → Type 0) (p q : Frac)
    (ls ms vs ws rs ts : List Frac) →
    SameFractions p q ls ms vs ws rs ts → P q ms ws ts → P p ls vs rs
along P p q ls ms vs ws rs ts same h =
    let first = subst (λ x. P x ms ws ts) (sym same.place) h in
    let next = subst (λ x. P p x ws ts) (sym same.left) first in
    let more = subst (λ x. P p ls x ts) (sym same.value) next in
    subst (λ x. P p ls vs x) (sym same.right) more

-- ---- the function

one_given : (p : Frac) (ls vs rs : List Frac) (f g : FunctionData) → GivesFunction p ls vs rs f →
    GivesFunction p ls vs rs g → f ≡ g
one_given p ls vs rs f g h j =
    let k = one_place p (length vs) j.k h.k j.place_is h.place_is in
    same_from_given (length vs) h.k ls vs rs f g h.given
    (subst (λ i. IsGivenBy (length vs) i ls vs rs g) k j.given)

one_said : (d : Data) (f g : FunctionData) → SaysFunction d f → SaysFunction d g → f ≡ g
one_said d f g h j =
    let same = one_list d h.place j.place h.left j.left h.value j.value h.right j.right h.fractions
    j.fractions in
    one_given h.place h.left h.value h.right f g h.gives
    (along (λ p ls vs rs. GivesFunction p ls vs rs g) h.place j.place h.left j.left h.value j.value
    h.right j.right same j.gives)

pub one_value : (text : List ℕ) (d e : Data) → HasValue text d → HasValue text e → d ≡ e
one_value text d e h j = same_some d e (sym h.1 ∙ j.1)

pub one_function : (text : List ℕ) (f g : FunctionData) → IsJsonFunction text f →
    IsJsonFunction text g → f ≡ g
one_function text f g (d, h, s) (e, j, t) =
    one_said d f g s (subst (λ x. SaysFunction x g) (one_value text e d j h) t)

-- ---- no refusal

no_refusal_given : (d : Data) (p : Frac) (ls vs rs : List Frac) (f : FunctionData)
    (e : JsonReason) → HasFractions d p ls vs rs →
    GivesFunction p ls vs rs f → RefusesFractions p ls vs rs e → ⊥
no_refusal_given d p ls vs rs f Syntax h g r = r
no_refusal_given d p ls vs rs f Form h g r = r
no_refusal_given d p ls vs rs f Number h g r = r
no_refusal_given d p ls vs rs f Order h g r = r g.order_fits
no_refusal_given d p ls vs rs f Place h g r = r.1 (g.k, g.place_fits, g.place_is)
no_refusal_given d p ls vs rs f Large h g (order, place, (i, (before, x, first, large))) =
    first_failing_denies AreWithinBounds within_bounds_closed _ before x first.first
    (within_given (length vs) g.k ls vs rs f g.given)
no_refusal_given d p ls vs rs f Fine h g (order, place, (i, (before, x, first, small))) =
    first_failing_denies AreWithinBounds within_bounds_closed _ before x first.first
    (within_given (length vs) g.k ls vs rs f g.given)

no_fractions_refused : (d : Data) (f : FunctionData) (e : JsonReason) → SaysFunction d f →
    HasRefusedFractions d e → ⊥
no_fractions_refused d f e h (q, ms, ws, ts, has, r) =
    let same = one_list d h.place q h.left ms h.value ws h.right ts h.fractions has in
    no_refusal_given d h.place h.left h.value h.right f e h.fractions h.gives
    (along (λ p ls vs rs. RefusesFractions p ls vs rs e) h.place q h.left ms h.value ws h.right ts
    same r)

no_refusal_said : (d : Data) (f : FunctionData) (e : JsonReason) → SaysFunction d f →
    RefusesValue d e → ⊥
no_refusal_said d f Syntax h r = r
no_refusal_said d f Form h r =
    r (h.fractions.p, h.fractions.ls, h.fractions.vs, h.fractions.rs, h.fractions.form)
no_refusal_said d f Number h r = r.1 h.place h.left h.value h.right h.fractions
no_refusal_said d f Order h r = no_fractions_refused d f Order h r
no_refusal_said d f Place h r = no_fractions_refused d f Place h r
no_refusal_said d f Large h r = no_fractions_refused d f Large h r
no_refusal_said d f Fine h r = no_fractions_refused d f Fine h r

pub no_reason : (text : List ℕ) (f : FunctionData) (e : JsonReason) → IsJsonFunction text f →
    HasFirstReason text e → ⊥
no_reason text f e (d, h, s) (inl (is, none)) = none d h
no_reason text f e (d, h, s) (inr (x, j, r)) =
    no_refusal_said d f e s (subst (λ y. RefusesValue y e) (one_value text x d j h) r)

-- a fault that names a reason is want of memory if the text spells a function
pub only_memory : (text : List ℕ) (f : FunctionData) (e : JsonFault) → IsJsonFunction text f →
    NamesJsonReason (HasFirstReason text) e →
    IsMemoryFault e
only_memory text f (Refused e) h r = absurd (no_reason text f e h r)
only_memory text f (Memory a) h r = tt

-- of a text that spells a function nothing else is read
pub only_function : (text : List ℕ) (result : Result FunctionData JsonFault) →
    IfOk result (IsJsonFunction text) →
    IfErr result (NamesJsonReason (HasFirstReason text)) →
    (f : FunctionData) → IsJsonFunction text f → MatchResult result (λ g. g ≡ f) IsMemoryFault
only_function text (Ok g) found refused f h = one_function text g f found h
only_function text (Err e) found refused f h = only_memory text f e h refused
