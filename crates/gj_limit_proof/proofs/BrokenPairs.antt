-- The words of a line of both halves' numbers: what they spell, and why they spell nothing.
use Rattle.std.proofs.Common.{◌≡◌, inl, inr, ℕ, ℤ, pos, true, List, [], ◌∷◌, ◌++◌, codes, refl, sym, ap, ◌∙◌}
use Rattle.std.specs.Fmt.{signed_decimal}
use Rattle.std.proofs.lemmas.List.{append_assoc}
use Rattle.gj_frac.specs.Fraction.{Fits}
use Rattle.gj_lex.specs.declared.reason.Reason.TheVariants.{Form, Number}
use Rattle.gj_forms.specs.LineForms.{words_of, with_numbers, bytes_of, AreOfForm}
use Rattle.gj_forms.proofs.LineLaws.{no_such_numbers}
use Rattle.gj_limit_proof.specs.LimitGrammar.{AreTwiceThree, pair_form, pair_rule}
use Rattle.gj_limit_proof.specs.LimitText.{values_fields, triples_fields, pair_fields, pair_line}
use Rattle.gj_limit_proof.specs.PairWords.{texts_of_values, texts_of_six, texts_of_triples, AreTripleWords}
use Rattle.gj_limit_proof.specs.declared.three_words.ThreeWords.{ThreeWords}
use Rattle.gj_limit_proof.specs.declared.triple.Triple.{Triple}
use Rattle.gj_limit_proof.proofs.PairForms.{Pair, is_smooth, HavePairFit, thrice, thrice_is_one, smooth_is_thrice, smooth_fields, jump_fields, by_jump}

-- ---- two numbers

thrice_fields : (x y : ℤ) → pair_fields (thrice x, thrice y) ≡ values_fields x y
thrice_fields x y = smooth_fields (thrice x, thrice y) (rw (thrice_is_one x, thrice_is_one y) refl)

-- the line of two numbers, as it is printed
pub values_printed : (text a b c d rest : List ℕ) (x y : ℤ) (s t : Triple) →
    text ≡ codes "pair " ++ a → a ≡ signed_decimal x ++ b →
    b ≡ 32 ∷ c → c ≡ signed_decimal y ++ d → d ≡ 10 ∷ rest → s ≡ thrice x → t ≡ thrice y →
    text ≡ pair_line (s, t) ++ rest
values_printed text a b c d rest x y s t text_is a_is b_is c_is d_is s_is t_is =
    text_is ∙ ap (λ u. codes "pair " ++ u) (a_is ∙ ap (λ u. signed_decimal x ++ u)
    (b_is ∙ ap (λ u. 32 ∷ u) (c_is ∙ ap (λ u. signed_decimal y ++ u) d_is)))
    ∙ regroup (codes "pair ") (signed_decimal x) (32 ∷ []) (signed_decimal y) (10 ∷ []) rest
    ∙ ap (λ fs. bytes_of fs ++ rest) (sym (thrice_fields x y))
    ∙ (λ i. pair_line (sym s_is i, sym t_is i) ++ rest)
  where
    regroup : (a b c d e f : List ℕ) →
        a ++ (b ++ (c ++ (d ++ (e ++ f)))) ≡ (a ++ (b ++ (c ++ (d ++ e)))) ++ f
    regroup a b c d e f = simp append_assoc

two_not_barred : (v w : List ℕ) → AreTwiceThree (texts_of_values v w) → ⊥
two_not_barred v w (x, y, e) = cc

-- two words that are no such numbers
pub no_values : (v w : List ℕ) →
    ((x y : ℤ) → v ≡ signed_decimal x → w ≡ signed_decimal y → Fits x → Fits y → ⊥) →
    pair_rule.Breaks (texts_of_values v w) Number
no_values v w none =
    inr (
      two_not_barred v w,
      no_such_numbers pair_form (texts_of_values v w) (texts_of_values v w)
          (thrice (pos 0), thrice (pos 0)) Number refl refl tt refl others,
    )
  where
    others : (p : Pair) → texts_of_values v w ≡ words_of (pair_fields p) → HavePairFit p → ⊥
    others p e h =
        by_jump ⊥ p
        (λ b.
        let two : texts_of_values v w ≡ words_of (values_fields p.0.value p.1.value) = e
        ∙ ap words_of (smooth_fields p b) in
        none p.0.value p.1.value (cc) (cc) h.0.1 h.1.1)
        (λ b.
        let two : texts_of_values v w ≡ words_of (triples_fields p.0 p.1) = e
        ∙ ap words_of (jump_fields p b) in
        cc)

-- ---- six numbers

-- numbers of which none jumps have the same words
smooth_is_barred : (v w : ThreeWords) (s t : Triple) → AreTripleWords v s → AreTripleWords w t →
    is_smooth (s, t) ≡ true →
    AreTwiceThree (texts_of_triples v w)
smooth_is_barred v w s t h k smooth =
    let same = smooth_is_thrice (s, t) smooth in
    let s_is : s ≡ thrice s.value = ap (λ (p : Pair). p.0) same in
    let t_is : t ≡ thrice t.value = ap (λ (p : Pair). p.1) same in
    let a = h.left ∙ ap (λ (u : Triple). signed_decimal u.left) s_is ∙ sym h.value in
    let b = h.right ∙ ap (λ (u : Triple). signed_decimal u.right) s_is ∙ sym h.value in
    let c = k.left ∙ ap (λ (u : Triple). signed_decimal u.left) t_is ∙ sym k.value in
    let d = k.right ∙ ap (λ (u : Triple). signed_decimal u.right) t_is ∙ sym k.value in (
      v.second.now,
      w.second.now,
      λ i. texts_of_six (a i) v.second.now (b i) (c i) w.second.now
          (d i),
    )

pub triples_spelled : (v w : ThreeWords) (s t : Triple) →
    (AreTwiceThree (texts_of_triples v w) → ⊥) → AreTripleWords v s →
    AreTripleWords w t → pair_rule.Spells (texts_of_triples v w) (s, t)
triples_spelled v w s t other h k =
    let fit : HavePairFit (s, t) = (h.fit, k.fit) in
    let spelled : texts_of_triples v w ≡ words_of (pair_fields (s, t)) =
    by_jump (texts_of_triples v w ≡ words_of (pair_fields (s, t))) (s, t)
    (λ b. absurd (other (smooth_is_barred v w s t h k b)))
    (λ b. (λ i. texts_of_six (h.left i) (h.value i) (h.right i) (k.left i) (k.value i) (k.right i))
    ∙ ap words_of (sym (jump_fields (s, t) b))) in
    (other, (spelled, fit))

-- one jump
abbrev jump : Triple
jump = record { left = pos 1; value = pos 0; right = pos 0 }

-- six words that are no such numbers
pub no_triples : (v w : ThreeWords) → (AreTwiceThree (texts_of_triples v w) → ⊥) →
    ((s t : Triple) → AreTripleWords v s → AreTripleWords w t → ⊥) →
    pair_rule.Breaks (texts_of_triples v w) Number
no_triples v w other none =
    inr (
      other,
      no_such_numbers pair_form (texts_of_triples v w) (texts_of_triples v w)
          (jump, jump) Number refl refl tt refl others,
    )
  where
    others : (p : Pair) → texts_of_triples v w ≡ words_of (pair_fields p) → HavePairFit p → ⊥
    others p e h =
        by_jump ⊥ p
        (λ b.
        let six : texts_of_triples v w ≡ words_of (values_fields p.0.value p.1.value) = e
        ∙ ap words_of (smooth_fields p b) in
        cc)
        (λ b.
        let six : texts_of_triples v w ≡ words_of (triples_fields p.0 p.1) = e
        ∙ ap words_of (jump_fields p b) in
        none p.0 p.1 (record { left = (cc); value = (cc); right = (cc); fit = h.0 })
        (record { left = (cc); value = (cc); right = (cc); fit = h.1 }))

-- ---- other words

pub no_pair_words : (words : List (List ℕ)) → ((v w : List ℕ) → words ≡ texts_of_values v w → ⊥) →
    ((a b c d e f : List ℕ) → words ≡ texts_of_six a b c d e f → ⊥) → pair_rule.Breaks words Form
no_pair_words words no_two no_six = inr (λ (v, w, e). no_six v v v w w w e, inl (refl, others))
  where
    others : AreOfForm pair_form words → ⊥
    others (p, is, t) =
        by_jump ⊥ p
        (λ b. no_two _ _ (is ∙ ap (λ fs. with_numbers fs words) (smooth_fields p b)))
        (λ b. no_six _ _ _ _ _ _ (is ∙ ap (λ fs. with_numbers fs words) (jump_fields p b)))
