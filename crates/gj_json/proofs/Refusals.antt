-- How what a step refuses refuses the whole, and what it reads makes the whole.
use Rattle.std.proofs.Common.{◌≡◌, inl, inr, ℕ, List, length, Some, None, option_map, option_and_then, refl, sym, ap, subst, ◌∙◌, codes}
use Rattle.std.proofs.lemmas.Option.{none-some}
use Rattle.std.specs.List.{AllZip}
use Rattle.std.proofs.lemmas.Slice.Zip.{AllZip-long}
use Rattle.gj_frac.specs.declared.Frac.{Frac}
use Rattle.gj_lemmas.proofs.Choices.{same_some}
use Rattle.gj_lex.specs.SpelledNumbers.{IsFractionWord}
use Rattle.gj_lex.specs.declared.spelling.Spelling.TheVariants.{Lenient}
use Rattle.gj_shape.specs.FunctionData.{FunctionData}
use Rattle.serde_json.specs.Data.{Data, null, boolean, number, string, array, object}
use Rattle.serde_json.specs.Find.{get, as_str, as_array}
use Rattle.gj_json.specs.JsonFunction.{integer, list_of, list_at, HasSideLimits, HasForm, SpellsNumber, SpellsForm, HasFractions, GivesFunction, SaysFunction}
use Rattle.gj_json.specs.FirstReason.{RefusesFractions, RefusesValue, NamesJsonReason}
use Rattle.gj_json.specs.Reading.{SpellsNone, SpellsNoForm}
use Rattle.gj_json.specs.declared.faults.JsonReason.{JsonReason}
use Rattle.gj_json.specs.declared.faults.JsonReason.TheVariants.{Syntax, Form, Number, Order, Place, Large, Fine}
use Rattle.gj_json.specs.declared.faults.JsonFault.{JsonFault}
use Rattle.gj_json.specs.declared.faults.JsonFault.TheVariants.{Refused, Memory}

-- ---- one value

pub names_weaker : (P Q : JsonReason → Type 0) (fault : JsonFault) →
    ((e : JsonReason) → P e → Q e) → NamesJsonReason P fault →
    NamesJsonReason Q fault
names_weaker P Q (Refused e) f p = f e p
names_weaker P Q (Memory a) f p = tt

-- a string is no whole number
pub string_or_integer : (d : Data) (w : List ℕ) → as_str d ≡ Some w → integer d ≡ None
string_or_integer null w e = refl
string_or_integer (boolean b) w e = refl
string_or_integer (number n) w e = absurd (none-some w e)
string_or_integer (string s) w e = refl
string_or_integer (array ds) w e = refl
string_or_integer (object ms) w e = refl

pub no_word : (d : Data) (w : List ℕ) → as_str d ≡ Some w →
    ((x : Frac) → IsFractionWord Lenient w x → ⊥) →
    (x : Frac) → SpellsNumber d x → ⊥
no_word d w is none x (inl (v, e, h)) =
    none x (subst (λ u. IsFractionWord Lenient u x) (same_some v w (sym e ∙ is)) h)
no_word d w is none x (inr (z, e, h)) = none-some z (sym (string_or_integer d w is) ∙ e)

-- ---- the form

pub no_limits : (d : Data) (values : List Data) → Some values ≡ list_at (codes "value") d →
    ((ls rs : List Data) → HasSideLimits d ls values rs → ⊥) → (p : Data) (ls vs rs : List Data) →
    HasForm d p ls vs rs → ⊥
no_limits d values is none p ls vs rs h =
    none ls rs (subst (λ v. HasSideLimits d ls v rs) (same_some vs values (sym h.value_is ∙ sym is))
    h.limits)

-- ---- the fractions

pub place_none : (p : Data) (ls vs rs : List Data) → ((x : Frac) → SpellsNumber p x → ⊥) →
    (place : Frac) (left value right : List Frac) → SpellsForm p ls vs rs place left value right → ⊥
place_none p ls vs rs none place left value right h = none place h.place_spelled

pub left_none : (p : Data) (ls vs rs : List Data) (e : JsonReason) → SpellsNone ls e →
    SpellsNoForm p ls vs rs e
left_none p ls vs rs e h = (h.0, λ place left value right s. h.1 left s.left_spelled)

pub value_none : (p : Data) (ls vs rs : List Data) (e : JsonReason) → SpellsNone vs e →
    SpellsNoForm p ls vs rs e
value_none p ls vs rs e h = (h.0, λ place left value right s. h.1 value s.value_spelled)

pub right_none : (p : Data) (ls vs rs : List Data) (e : JsonReason) → SpellsNone rs e →
    SpellsNoForm p ls vs rs e
right_none p ls vs rs e h = (h.0, λ place left value right s. h.1 right s.right_spelled)

-- ---- one form

-- the parts of a form are the same
pub record SameForm (p q : Data) (ls ms vs ws rs ts : List Data) : Type 0 where
  pub place : p ≡ q
  pub left : ls ≡ ms
  pub value : vs ≡ ws
  pub right : rs ≡ ts

-- if nothing stands at a key, no list does
no_list : (key : List ℕ) (d : Data) → get key d ≡ None → list_at key d ≡ None
no_list key d e = ap (λ o. option_map list_of (option_and_then as_array o)) e

same_limits : (d : Data) (ls ms vs rs ts : List Data) → HasSideLimits d ls vs rs →
    HasSideLimits d ms vs ts → (ls ≡ ms) × (rs ≡ ts)
same_limits d ls ms vs rs ts (inl (a, b)) (inl (f, g)) =
    (same_some ls ms (sym a ∙ f), same_some rs ts (sym b ∙ g))
same_limits d ls ms vs rs ts (inl (a, b)) (inr (f, g, i, j)) =
    absurd (none-some ls (sym (no_list (codes "left") d f) ∙ a))
same_limits d ls ms vs rs ts (inr (f, g, i, j)) (inl (a, b)) =
    absurd (none-some ms (sym (no_list (codes "left") d f) ∙ a))
same_limits d ls ms vs rs ts (inr (a, b, i, j)) (inr (f, g, k, l)) = (i ∙ sym k, j ∙ sym l)

pub one_form : (d p q : Data) (ls ms vs ws rs ts : List Data) → HasForm d p ls vs rs →
    HasForm d q ms ws ts →
    SameForm p q ls ms vs ws rs ts
one_form d p q ls ms vs ws rs ts h j =
    let value = same_some vs ws (sym h.value_is ∙ j.value_is) in
    let limits = same_limits d ls ms ws rs ts (subst (λ v. HasSideLimits d ls v rs) value h.limits)
    j.limits in
    record {
      place = same_some p q (sym h.place_is ∙ j.place_is);
      left = limits.0;
      value = value;
      right = limits.1;
    }

-- other parts of a form are these
pub with_form : (d p q : Data) (ls ms vs ws rs ts : List Data) (place : Frac)
    (left value right : List Frac) →
    HasForm d p ls vs rs → HasForm d q ms ws ts → SpellsForm q ms ws ts place left value right →
    SpellsForm p ls vs rs place left value right
with_form d p q ls ms vs ws rs ts place left value right h j s =
    let same = one_form d p q ls ms vs ws rs ts h j in
    record {
      place_spelled = subst (λ x. SpellsNumber x place) (sym same.place) s.place_spelled;
      left_spelled = subst (λ xs. AllZip SpellsNumber xs left) (sym same.left) s.left_spelled;
      value_spelled = subst (λ xs. AllZip SpellsNumber xs value) (sym same.value) s.value_spelled;
      right_spelled = subst (λ xs. AllZip SpellsNumber xs right) (sym same.right) s.right_spelled;
    }

-- ---- the value

pub number_refused : (d p : Data) (ls vs rs : List Data) → HasForm d p ls vs rs → (e : JsonReason) →
    SpellsNoForm p ls vs rs e → RefusesValue d e
number_refused d p ls vs rs form e h =
    subst (RefusesValue d) (sym h.0) (
      (p, ls, vs, rs, form),
      λ place left value right s. h.1 place left value right
          (with_form d p s.p ls s.ls vs s.vs rs s.rs place left value right form s.form s.spelled),
    )

pub fractions_read : (d p : Data) (ls vs rs : List Data) (place : Frac)
    (left l value v right r : List Frac) →
    HasForm d p ls vs rs → SpellsForm p ls vs rs place left value right → l ≡ left → v ≡ value →
    r ≡ right →
    HasFractions d place l v r
fractions_read d p ls vs rs place left l value v right r form s a b c =
    let first = subst (λ x. SpellsForm p ls vs rs place x value right) (sym a) s in
    let next = subst (λ x. SpellsForm p ls vs rs place l x right) (sym b) first in
    record {
      p = p;
      ls = ls;
      vs = vs;
      rs = rs;
      form = form;
      spelled =
          subst (λ x. SpellsForm p ls vs rs place l v x) (sym c) next;
    }

pub left_long : (d : Data) (place : Frac) (left value right : List Frac) →
    HasFractions d place left value right →
    length left ≡ length value
left_long d place left value right h =
    AllZip-long SpellsNumber h.ls left h.spelled.left_spelled ∙ h.form.left_entries.0
    ∙ sym (AllZip-long SpellsNumber h.vs value h.spelled.value_spelled)

pub right_long : (d : Data) (place : Frac) (left value right : List Frac) →
    HasFractions d place left value right →
    length right ≡ length value
right_long d place left value right h =
    AllZip-long SpellsNumber h.rs right h.spelled.right_spelled ∙ h.form.right_entries.0
    ∙ sym (AllZip-long SpellsNumber h.vs value h.spelled.value_spelled)

pub function_said : (d : Data) (place : Frac) (left value right : List Frac) →
    HasFractions d place left value right →
    (f : FunctionData) → GivesFunction place left value right f → SaysFunction d f
function_said d place left value right h f gives =
    record {
      place = place;
      left = left;
      value = value;
      right = right;
      fractions = h;
      gives =
          gives;
    }

pub fractions_refused : (d : Data) (place : Frac) (left value right : List Frac) →
    HasFractions d place left value right →
    (e : JsonReason) → RefusesFractions place left value right e → RefusesValue d e
fractions_refused d place left value right h Syntax r = absurd r
fractions_refused d place left value right h Form r = absurd r
fractions_refused d place left value right h Number r = absurd r
fractions_refused d place left value right h Order r = (place, left, value, right, h, r)
fractions_refused d place left value right h Place r = (place, left, value, right, h, r)
fractions_refused d place left value right h Large r = (place, left, value, right, h, r)
fractions_refused d place left value right h Fine r = (place, left, value, right, h, r)
