-- What is printed for a function says it.
use Rattle.std.proofs.Common.{◌≡◌, inl, inr, ℕ, pos, ℤ, List, [], ◌∷◌, length, map, Some, codes, refl, sym, ap, subst, subst₂, ◌∙◌}
use Rattle.std.specs.List.{AllZip, All}
use Rattle.std.proofs.lemmas.List.Elements.{All-cons, All-nil}
use Rattle.std.proofs.lemmas.List.{length-map}
use Rattle.std.proofs.lemmas.Slice.Zip.{AllZip-long}
use Rattle.gj_frac.specs.declared.Frac.{Frac}
use Rattle.gj_frac.specs.Fraction.{IsRatio}
use Rattle.gj_lex.specs.NumberText.{fraction_text}
use Rattle.gj_lex.specs.declared.spelling.Spelling.TheVariants.{Lenient}
use Rattle.gj_lex.proofs.SpelledWords.{canonical_fraction}
use Rattle.gj_shape.specs.FunctionData.{FunctionData, IsWithinBounds}
use Rattle.gj_shape.specs.Given.{IsOrder, IsPlace, IsGivenBy}
use Rattle.gj_shape.specs.KeptPoints.{points_of}
use Rattle.gj_shape.specs.Points.{lefts, values, rights, ArePointsOf}
use Rattle.gj_shape.proofs.GivenFractions.{given_as}
use Rattle.gj_shape.proofs.GivenPoints.{given_by_points}
use Rattle.gj_shape.proofs.PointLists.{have_lists}
use Rattle.serde_json.specs.Data.{Data, string, array, object, number, unsigned, member, no_members}
use Rattle.gj_json.specs.JsonFunction.{list_of, IsKey, IsEntry, AreEntries, HasForm, SpellsNumber, HasFractions, SaysFunction}
use Rattle.gj_json.specs.JsonText.{fraction_strings, AreRatios, function_value, IsJsonOf}

-- ---- the strings

abbrev shown : List Frac → List Data
shown xs = map (λ x. string (fraction_text x)) xs

list_of_strings : (xs : List Frac) → list_of (fraction_strings xs) ≡ shown xs
list_of_strings [] = refl
list_of_strings (x ∷ xs) = ap (λ ds. string (fraction_text x) ∷ ds) (list_of_strings xs)

shown_spell : (xs : List Frac) → AllZip SpellsNumber (shown xs) xs
shown_spell [] = tt
shown_spell (x ∷ xs) = (inl (fraction_text x, refl, canonical_fraction Lenient x), shown_spell xs)

shown_entries : (xs : List Frac) → All IsEntry (shown xs)
shown_entries [] = All-nil IsEntry
shown_entries (x ∷ xs) = All-cons IsEntry (string (fraction_text x)) (shown xs) (inl refl)
    (shown_entries xs)

shown_are_entries : (n : ℕ) (xs : List Frac) → length xs ≡ n → AreEntries n (shown xs)
shown_are_entries n xs long =
    (length-map xs (λ x. string (fraction_text x)) ∙ long, shown_entries xs)

-- ---- the form

keys_are_keys : All IsKey
    (codes "f" ∷ codes "left" ∷ codes "order" ∷ codes "right" ∷ codes "value" ∷ [])
keys_are_keys =
    let value = All-cons IsKey (codes "value") [] (inr (inr (inr (inr refl)))) (All-nil IsKey) in
    let right = All-cons IsKey (codes "right") (codes "value" ∷ [])
    (inr (inr (inr (inl refl)))) value in
    let order = All-cons IsKey (codes "order") (codes "right" ∷ codes "value" ∷ [])
    (inr (inr (inl refl))) right in
    let left = All-cons IsKey (codes "left") (codes "order" ∷ codes "right" ∷ codes "value" ∷ [])
    (inr (inl refl)) order in
    All-cons IsKey (codes "f") (codes "left" ∷ codes "order" ∷ codes "right" ∷ codes "value" ∷ [])
    (inl refl) left

shown_form : (q : ℕ) (p : Frac) (l v r : List Frac) → length l ≡ q → length v ≡ q → length r ≡ q →
    HasForm (function_value q p l v r) (string (fraction_text p)) (shown l) (shown v) (shown r)
shown_form q p l v r a b c =
    let long : length (shown v) ≡ q = length-map v (λ x. string (fraction_text x)) ∙ b in
    record {
      keys = (_, refl, keys_are_keys);
      order_is = ap (λ n. Some (pos n)) (sym long);
      place_is = refl;
      value_is = ap Some (list_of_strings v);
      limits = inl (ap Some (list_of_strings l), ap Some (list_of_strings r));
      place_entry = inl refl;
      left_entries = shown_are_entries (length (shown v)) l (a ∙ sym long);
      value_entries = shown_are_entries (length (shown v)) v (b ∙ sym long);
      right_entries = shown_are_entries (length (shown v)) r (c ∙ sym long);
    }

shown_fractions : (q : ℕ) (p : Frac) (l v r : List Frac) → length l ≡ q → length v ≡ q →
    length r ≡ q →
    HasFractions (function_value q p l v r) p l v r
shown_fractions q p l v r a b c = record {
  p = string (fraction_text p);
  ls = shown l;
  vs = shown v;
  rs = shown r;
  form = shown_form q p l v r a b c;
  spelled = record {
    place_spelled = inl (fraction_text p, refl, canonical_fraction Lenient p);
    left_spelled = shown_spell l;
    value_spelled = shown_spell v;
    right_spelled = shown_spell r;
  };
}

-- ---- the function

given_by_ratios : (f : FunctionData) (l v r : List Frac) → IsWithinBounds f → length l ≡ f.order →
    length v ≡ f.order →
    length r ≡ f.order → AreRatios f.scale l f.left → AreRatios f.scale v f.value →
    AreRatios f.scale r f.right →
    IsGivenBy (length v) f.place l v r f
given_by_ratios f l v r within a b c left value right =
    let points = points_of l v r in
    let lists = have_lists l v r (b ∙ sym a) (c ∙ sym a) in
    let are : ArePointsOf f points = record {
      left_are = subst (λ xs. AreRatios f.scale xs f.left) (sym lists.left_are) left;
      value_are = subst (λ xs. AreRatios f.scale xs f.value) (sym lists.value_are) value;
      right_are = subst (λ xs. AreRatios f.scale xs f.right) (sym lists.right_are) right;
    } in
    given_as f.order (length v) f.place f.place (lefts points) l (values points) v
    (rights points) r f (sym b) refl
    lists.left_are lists.value_are lists.right_are (given_by_points points f within are)

pub value_says : (f : FunctionData) (d : Data) → IsWithinBounds f → IsJsonOf f d → SaysFunction d f
value_says f d within h =
    let long = λ (xs : List Frac) (ns : List ℤ) (are : AreRatios f.scale xs ns). sym
    (AllZip-long (λ x n. IsRatio x n (pos f.scale)) xs ns are) in
    let a : length h.left ≡ f.order = long h.left f.left h.left_are ∙ within.left_length in
    let b : length h.value ≡ f.order = long h.value f.value h.value_are ∙ within.value_length in
    let c : length h.right ≡ f.order = long h.right f.right h.right_are ∙ within.right_length in
    let order : IsOrder f.order = (within.order_low, within.order_high) in
    let place : IsPlace f.order f.place = (within.place_low, within.place_high) in
    subst (λ x. SaysFunction x f) (sym h.is) (record {
      place = h.place;
      left = h.left;
      value = h.value;
      right = h.right;
      fractions = shown_fractions f.order h.place h.left h.value h.right a b c;
      gives = record {
        k = f.place;
        order_fits = subst IsOrder (sym b) order;
        place_fits = subst (λ q. IsPlace q f.place) (sym b) place;
        place_is = subst (λ q. IsRatio h.place (pos f.place) (pos q)) (sym b) h.place_is;
        given = given_by_ratios f h.left h.value h.right within a b c h.left_are h.value_are
            h.right_are;
      };
    })

-- ---- the value from its parts

-- the strings of a list over the scale
abbrev pub AreShown : ℕ → List ℤ → Data → Type 0
AreShown scale ns d = (xs : List Frac) × AreRatios scale xs ns × (d ≡ array (fraction_strings xs))

pub value_from_parts : (f : FunctionData) (q s : ℕ) (ls vs rs : List ℤ) (p : Frac)
    (place l v r d : Data) → q ≡ f.order → s ≡ f.scale →
    ls ≡ f.left → vs ≡ f.value → rs ≡ f.right → IsRatio p (pos f.place) (pos f.order) →
    place ≡ string (fraction_text p) →
    AreShown s ls l → AreShown s vs v → AreShown s rs r →
    d ≡ object (member (codes "f") place
    (member (codes "left") l (member (codes "order") (number (unsigned q))
    (member (codes "right") r (member (codes "value") v no_members))))) → IsJsonOf f d
value_from_parts f q s ls vs rs p place l v r d q_is s_is ls_is vs_is rs_is p_is place_is
    (xs, are_l, l_is) (ys, are_v, v_is) (zs, are_r, r_is) is =
    record {
      place = p;
      left = xs;
      value = ys;
      right = zs;
      place_is = p_is;
      left_are = subst₂ (λ n ns. AreRatios n xs ns) s_is ls_is are_l;
      value_are = subst₂ (λ n ns. AreRatios n ys ns) s_is vs_is are_v;
      right_are = subst₂ (λ n ns. AreRatios n zs ns) s_is rs_is are_r;
      is = rw (is, q_is, place_is, l_is, v_is, r_is) refl;
    }
