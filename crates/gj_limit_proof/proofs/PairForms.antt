-- The form of the lines of pairs is clear, and no pair has words that are barred.
use Rattle.std.proofs.Common.{◌≡◌, ℕ, ℤ, Bool, true, false, ◌&&◌, List, [], ◌∷◌, ◌++◌, codes, refl, sym, ap, subst, ◌∙◌}
use Rattle.std.specs.Fmt.{signed_decimal}
use Rattle.std.specs.Ordering.{int_eq}
use Rattle.std.proofs.lemmas.Bool.{and_parts, false≢true}
use Rattle.std.proofs.lemmas.Bool.Decides.{Decides-int_eq}
use Rattle.gj_frac.specs.Fraction.{Fits}
use Rattle.gj_lex.specs.declared.spelling.Spelling.TheVariants.{Strict}
use Rattle.gj_forms.specs.LineForms.{words_of, rule_of}
use Rattle.gj_forms.specs.ListParts.{IsPrinted}
use Rattle.gj_forms.specs.Parts.{IsExactPart}
use Rattle.gj_forms.proofs.FieldWords.{AreGood}
use Rattle.gj_forms.proofs.LineLaws.{IsClear, rule_is_exact, line_is_read, only_line}
use Rattle.gj_forms.proofs.PartLaws.{line_part_is_exact}
use Rattle.gj_forms.proofs.PlainWords.{known}
use Rattle.gj_forms.proofs.SpelledLines.{barred_rule_is_exact}
use Rattle.gj_forms.proofs.WholeNumbers.{same_from_whole}
use Rattle.gj_limit_proof.specs.LimitGrammar.{AllFit, pair_form, AreTwiceThree, pair_rule, pair_part}
use Rattle.gj_limit_proof.specs.LimitText.{is_one, values_fields, triples_fields, pair_fields, pair_line}
use Rattle.gj_limit_proof.specs.declared.triple.Triple.{Triple}

-- ---- the two kinds of lines

abbrev pub Pair : Type 0
Pair = Triple × Triple

-- neither half jumps
abbrev pub is_smooth : Pair → Bool
is_smooth p = is_one p.0 && is_one p.1

abbrev pub HavePairFit : Pair → Type 0
HavePairFit p = AllFit p.0 × AllFit p.1

-- one number three times
abbrev pub thrice : ℤ → Triple
thrice x = record { left = x; value = x; right = x }

pub thrice_is_one : (x : ℤ) → is_one (thrice x) ≡ true
thrice_is_one x = let same = (Decides-int_eq x x).1 refl in rw same refl

-- three numbers that are one
one_is_thrice : (t : Triple) → is_one t ≡ true → t ≡ thrice t.value
one_is_thrice t h =
    let parts = and_parts (int_eq t.left t.value) (int_eq t.right t.value) h in
    let left = (Decides-int_eq t.left t.value).0 parts.0 in
    let right = (Decides-int_eq t.right t.value).0 parts.1 in
    λ i. record { left = left i; value = t.value; right = right i }

-- three that are the same are one
same_is_one : (t : Triple) → t.left ≡ t.value → t.right ≡ t.value → is_one t ≡ true
same_is_one t left right =
    rw ((Decides-int_eq t.left t.value).1 left, (Decides-int_eq t.right t.value).1 right) refl

pub smooth_is_thrice : (p : Pair) → is_smooth p ≡ true →
    ◌≡◌ {A = Pair} p (thrice p.0.value, thrice p.1.value)
smooth_is_thrice p h =
    let parts = and_parts (is_one p.0) (is_one p.1) h in
    let first = one_is_thrice p.0 parts.0 in
    let second = one_is_thrice p.1 parts.1 in
    λ i. (first i, second i)

pub smooth_fields : (p : Pair) → is_smooth p ≡ true →
    pair_fields p ≡ values_fields p.0.value p.1.value
smooth_fields p h = rw h refl

pub jump_fields : (p : Pair) → is_smooth p ≡ false → pair_fields p ≡ triples_fields p.0 p.1
jump_fields p h = rw h refl

-- by whether neither jumps
pub by_jump : (P : Type 0) (p : Pair) → (is_smooth p ≡ true → P) → (is_smooth p ≡ false → P) → P
by_jump P p smooth jump =
    elim (is_smooth p) as (λ b. is_smooth p ≡ b → P) [ true ↦ smooth | false ↦ jump ] refl

-- ---- the form is clear

values_are_good : (x y : ℤ) → Fits x → Fits y → AreGood (values_fields x y)
values_are_good x y h i = (known (codes "pair") refl, (h, i))

triples_are_good : (s t : Triple) → AllFit s → AllFit t → AreGood (triples_fields s t)
triples_are_good s t h i = (known (codes "pair") refl, (h.0, (h.1, (h.2, (i.0, (i.1, i.2))))))

good_pair : (p : Pair) → HavePairFit p → AreGood (pair_fields p)
good_pair p h =
    by_jump (AreGood (pair_fields p)) p
    (λ b. subst AreGood (sym (smooth_fields p b)) (values_are_good p.0.value p.1.value h.0.1 h.1.1))
    (λ b. subst AreGood (sym (jump_fields p b)) (triples_are_good p.0 p.1 h.0 h.1))

one_of_values : (x y z w : ℤ) → Fits x → Fits y → Fits z → Fits w →
    words_of (values_fields x y) ≡ words_of (values_fields z w) →
    (x ≡ z) × (y ≡ w)
one_of_values x y z w hx hy hz hw e =
    let first : signed_decimal x ≡ signed_decimal z = cc in
    let second : signed_decimal y ≡ signed_decimal w = cc in
    (same_from_whole x z hx hz first, same_from_whole y w hy hw second)

one_triple : (s t : Triple) → AllFit s → AllFit t → signed_decimal s.left ≡ signed_decimal t.left →
    signed_decimal s.value ≡ signed_decimal t.value →
    signed_decimal s.right ≡ signed_decimal t.right → s ≡ t
one_triple s t h i e f g =
    let left = same_from_whole s.left t.left h.0 i.0 e in
    let value = same_from_whole s.value t.value h.1 i.1 f in
    let right = same_from_whole s.right t.right h.2 i.2 g in
    λ j. record { left = left j; value = value j; right = right j }

one_of_triples : (p r : Pair) → HavePairFit p → HavePairFit r →
    words_of (triples_fields p.0 p.1) ≡ words_of (triples_fields r.0 r.1) → p ≡ r
one_of_triples p r h i e =
    let first = one_triple p.0 r.0 h.0 i.0 (cc) (cc) (cc) in
    let second = one_triple p.1 r.1 h.1 i.1 (cc) (cc) (cc) in
    λ j. (first j, second j)

one_pair : (p r : Pair) → HavePairFit p → HavePairFit r →
    words_of (pair_fields p) ≡ words_of (pair_fields r) → p ≡ r
one_pair p r h i e =
    by_jump (p ≡ r) p
    (λ b. by_jump (p ≡ r) r
    (λ d.
    let same = one_of_values p.0.value p.1.value r.0.value r.1.value h.0.1 h.1.1 i.0.1 i.1.1
    (sym (ap words_of (smooth_fields p b)) ∙ e ∙ ap words_of (smooth_fields r d)) in
    smooth_is_thrice p b ∙ (λ j. (thrice (same.0 j), thrice (same.1 j)))
    ∙ sym (smooth_is_thrice r d))
    (λ d.
    let none : words_of (values_fields p.0.value p.1.value) ≡ words_of (triples_fields r.0 r.1) =
    sym (ap words_of (smooth_fields p b)) ∙ e ∙ ap words_of (jump_fields r d) in
    absurd cc))
    (λ b. by_jump (p ≡ r) r
    (λ d.
    let none : words_of (triples_fields p.0 p.1) ≡ words_of (values_fields r.0.value r.1.value) =
    sym (ap words_of (jump_fields p b)) ∙ e ∙ ap words_of (smooth_fields r d) in
    absurd cc)
    (λ d. one_of_triples p r h i (sym (ap words_of (jump_fields p b)) ∙ e
    ∙ ap words_of (jump_fields r d))))

pub pair_is_clear : IsClear pair_form
pair_is_clear = record { of_form = λ a h. tt; good = good_pair; one = one_pair }

-- ---- barred words

three_same : (t : Triple) (v : List ℕ) → AllFit t → signed_decimal t.left ≡ v →
    signed_decimal t.value ≡ v → signed_decimal t.right ≡ v →
    is_one t ≡ true
three_same t v h e f g =
    same_is_one t (same_from_whole t.left t.value h.0 h.1 (e ∙ sym f))
    (same_from_whole t.right t.value h.2 h.1 (g ∙ sym f))

-- a pair that has six words has no such six
pub not_barred : (p : Pair) → HavePairFit p → AreTwiceThree (words_of (pair_fields p)) → ⊥
not_barred p h (v, w, e) =
    by_jump ⊥ p
    (λ b.
    let none : words_of (values_fields p.0.value p.1.value) ≡ codes "pair" ∷ v ∷ v ∷ v ∷ w ∷ w ∷ w
    ∷ [] =
    sym (ap words_of (smooth_fields p b)) ∙ e in
    cc)
    (λ b.
    let six : words_of (triples_fields p.0 p.1) ≡ codes "pair" ∷ v ∷ v ∷ v ∷ w ∷ w ∷ w ∷ [] =
    sym (ap words_of (jump_fields p b)) ∙ e in
    let first = three_same p.0 v h.0 (cc) (cc) (cc) in
    let second = three_same p.1 w h.1 (cc) (cc) (cc) in
    let both : is_smooth p ≡ true = rw (first, second) refl in
    false≢true (sym b ∙ both))

-- ---- lines of pairs are exact, and read as they are printed

pub pair_part_is_exact : IsExactPart pair_part.Reads pair_part.Faults
pair_part_is_exact =
    line_part_is_exact Strict pair_rule
    (barred_rule_is_exact AreTwiceThree (rule_of pair_form)
    (rule_is_exact pair_form pair_is_clear))

pub pair_is_read : (p : Pair) (rest : List ℕ) → HavePairFit p →
    pair_part.Reads (pair_line p ++ rest) p rest
pair_is_read p rest h =
    let (start, words, line, spelled) = line_is_read pair_form pair_is_clear p rest h in (
      start,
      words,
      line,
      (
        subst (λ (ws : List (List ℕ)). AreTwiceThree ws → ⊥) (sym spelled.0)
            (not_barred p h),
        spelled,
      ),
    )

pub only_pair : (text rest : List ℕ) (p : Pair) → pair_part.Reads text p rest →
    (text ≡ pair_line p ++ rest) × HavePairFit p
only_pair text rest p (start, words, line, (open_words, spelled)) =
    only_line pair_form pair_is_clear text rest p (start, words, line, spelled)

pub pair_is_printed : IsPrinted pair_part (λ rest. Unit {0}) pair_line HavePairFit
pair_is_printed = record { reads = λ p rest h t. pair_is_read p rest h; found = only_pair }
