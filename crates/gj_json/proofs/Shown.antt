-- The value that is printed for a function.
use Rattle.std.proofs.Common.{◌≡◌, ℕ, ◌+◌, ◌<◌, ◌≤◌, ℤ, pos, List, [], ◌∷◌, ◌++◌, length, map, take, get_or, false, refl, sym, ap, subst, ◌∙◌, arith}
use Rattle.std.specs.Str.{IsUtf8}
use Rattle.std.proofs.lemmas.Str.Ascii.{IsAscii-from_all}
use Rattle.std.proofs.lemmas.Str.{IsUtf8-from_ascii}
use Rattle.std.proofs.lemmas.List.{map-append, take_more, take_all}
use Rattle.std.proofs.lemmas.Slice.Zip.{all_zipped_more}
use Rattle.gj_frac.specs.declared.Frac.{Frac}
use Rattle.gj_frac.specs.Fraction.{IsRatio}
use Rattle.gj_lex.specs.NumberText.{fraction_text, IsNumberByte}
use Rattle.gj_lex.proofs.WordBytes.{fraction_bytes}
use Rattle.serde_json.specs.Data.{Data, string, Items, no_items, item, depth, items_depth}
use Rattle.serde_json.specs.Read.{max_depth}
use Rattle.serde_json.specs.View.{view, items_of, items_view}
use Rattle.serde_json.specs.Written.{has_float, items_have_float}
use Rattle.serde_json.specs.declared.value.Value.{Value}
use Rattle.gj_shape.specs.FunctionData.{FunctionData}
use Rattle.gj_json.specs.JsonText.{strings, fraction_strings, AreRatios, function_value, IsJsonOf}

-- ---- the text of a fraction is text

number_byte_small : (b : ℕ) → IsNumberByte b → b < 128
number_byte_small b h = grind arith

pub fraction_is_utf8 : (x : Frac) → IsUtf8 (fraction_text x)
fraction_is_utf8 x =
    IsUtf8-from_ascii (fraction_text x)
    (IsAscii-from_all (fraction_text x)
    (λ k d within. number_byte_small _ (fraction_bytes x k d within)))

-- ---- the strings so far

pub record StringsSoFar (scale : ℕ) (ns : List ℤ) (n : ℕ) (vs : List Value) : Type 0 where
  pub fractions : List Frac
  pub ratios : AreRatios scale fractions (take n ns)
  pub are : items_view vs ≡ fraction_strings fractions

abbrev first_of_items : Data → Items → Data
first_of_items c no_items = c
first_of_items c (item b bs) = b

abbrev rest_of_items : Items → Items
rest_of_items no_items = no_items
rest_of_items (item b bs) = bs

pub strings_more : (texts : List (List ℕ)) (text : List ℕ) (ds : List Data) (d : Data) →
    items_of ds ≡ strings texts → d ≡ string text →
    items_of (ds ++ d ∷ []) ≡ strings (texts ++ text ∷ [])
strings_more [] text [] d e is = ap (λ y. item y no_items) is
strings_more [] text (c ∷ ds) d e is = absurd (cc)
strings_more (t ∷ texts) text [] d e is = absurd (cc)
strings_more (t ∷ texts) text (c ∷ ds) d e is =
    ap (λ i. item (first_of_items c i) (items_of (ds ++ d ∷ []))) e
    ∙ ap (item (string t)) (strings_more texts text ds d (ap rest_of_items e) is)

pub one_more : (scale : ℕ) (ns : List ℤ) (n : ℕ) (z : ℤ) (vs ws : List Value) (v : Value)
    (x : Frac) → n < length ns →
    z ≡ get_or ns n z → StringsSoFar scale ns n vs → IsRatio x z (pos scale) →
    view v ≡ string (fraction_text x) →
    ws ≡ vs ++ v ∷ [] → StringsSoFar scale ns (n + 1) ws
one_more scale ns n z vs ws v x some at so_far is text more =
    let next : take (n + 1) ns ≡ take n ns ++ z ∷ [] = take_more ns n z some
    ∙ ap (λ y. take n ns ++ y ∷ []) (sym at) in
    record {
      fractions = so_far.fractions ++ x ∷ [];
      ratios = subst (AreRatios scale (so_far.fractions ++ x ∷ [])) (sym next)
          (all_zipped_more (λ y m. IsRatio y m (pos scale)) so_far.fractions
          (take n ns) x z so_far.ratios is);
      are = ap items_view more ∙ ap items_of (map-append view vs (v ∷ []))
          ∙ strings_more (map fraction_text so_far.fractions) (fraction_text x) (map view vs)
          (view v) so_far.are text
          ∙ ap strings (sym (map-append fraction_text so_far.fractions (x ∷ [])));
    }

pub all_so_far : (scale : ℕ) (ns : List ℤ) (n : ℕ) (vs : List Value) → length ns ≤ n →
    StringsSoFar scale ns n vs →
    (xs : List Frac) × AreRatios scale xs ns × (items_view vs ≡ fraction_strings xs)
all_so_far scale ns n vs most h =
    (h.fractions, subst (AreRatios scale h.fractions) (take_all n ns most) h.ratios, h.are)

-- ---- the value has no float, and is shallow

pub strings_have_no_float : (texts : List (List ℕ)) → items_have_float (strings texts) ≡ false
strings_have_no_float [] = refl
strings_have_no_float (t ∷ texts) = strings_have_no_float texts

no_float : (order : ℕ) (p : Frac) (l v r : List Frac) → has_float (function_value order p l v r)
    ≡ false
no_float order p l v r =
    rw (
      strings_have_no_float (map fraction_text l),
      strings_have_no_float
          (map fraction_text v),
      strings_have_no_float (map fraction_text r),
    ) refl

strings_are_shallow : (texts : List (List ℕ)) → items_depth (strings texts) ≡ 0
strings_are_shallow [] = refl
strings_are_shallow (t ∷ texts) = rw (strings_are_shallow texts) refl

shallow : (order : ℕ) (p : Frac) (l v r : List Frac) → depth (function_value order p l v r) ≡ 2
shallow order p l v r =
    rw (
      strings_are_shallow (map fraction_text l),
      strings_are_shallow
          (map fraction_text v),
      strings_are_shallow (map fraction_text r),
    ) refl

pub value_has_no_float : (f : FunctionData) (d : Data) → IsJsonOf f d → has_float d ≡ false
value_has_no_float f d h = ap has_float h.is ∙ no_float f.order h.place h.left h.value h.right

pub value_is_shallow : (f : FunctionData) (d : Data) → IsJsonOf f d → depth d ≤ max_depth
value_is_shallow f d h =
    omega (arith, ap depth h.is ∙ shallow f.order h.place h.left h.value h.right)
