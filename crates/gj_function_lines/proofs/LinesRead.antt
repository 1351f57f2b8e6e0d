-- What the words of a line spell, or which rule they break, by what the readers of its parts find.
use Rattle.std.proofs.Common.{◌≡◌, inl, inr, ℕ, pos, Bool, true, List, [], ◌∷◌, codes, nat_eq, IsTrue, ◌↔◌, refl, sym, ap, subst, ◌∙◌, arith}
use Rattle.std.specs.Cmp.Lexicographic.{pointwise, bytes_decides}
use Rattle.std.proofs.lemmas.Int.{ints}
use Rattle.gj_frac.specs.declared.Frac.{Frac}
use Rattle.gj_lex.specs.SpelledNumbers.{IsCountWord, IsFractionWord}
use Rattle.gj_lex.specs.declared.spelling.Spelling.{Spelling}
use Rattle.gj_lex.specs.declared.spelling.Spelling.TheVariants.{Lenient, Strict}
use Rattle.gj_lex.specs.declared.reason.Reason.TheVariants as reason
use Rattle.gj_forms.specs.LineForms.{with_numbers, others_of, AreOfForm}
use Rattle.gj_forms.specs.SpelledForms.{rule_in}
use Rattle.gj_forms.proofs.WholeNumbers.{whole}
use Rattle.gj_shape.specs.Breaks.{point_at, even}
use Rattle.gj_shape.specs.Given.{IsOrder}
use Rattle.gj_shape.specs.declared.breaks.Break.{Break}
use Rattle.gj_shape.specs.declared.points.Point.{Point}
use Rattle.gj_function_lines.specs.BreakLines.{break_form, break_at, spelled_break_rule}
use Rattle.gj_function_lines.specs.FunctionGrammar.{order_rule, point_of, AreThreeSame, spelled_point_rule}
use Rattle.gj_function_lines.specs.FunctionLines.{place_form, PointNumbers, number_fields, point_form}
use Rattle.gj_function_lines.specs.FunctionLines.PointNumbers.{one, three}
use Rattle.gj_function_lines.specs.Reading.{words_of_point, IsOneOrThree, numbers_rule}
use Rattle.gj_function_lines.specs.declared.points.PointWords.{PointWords}
use Rattle.gj_function_lines.specs.declared.points.PointWords.TheVariants.{One, Three}

-- a number for a word that spells none
zero : Frac
zero = whole (pos 0) (omega (arith, ints))

-- ---- `order Q`

module _ (s : Spelling) (words : List (List ℕ)) where
  pub no_order_words : ((w : List ℕ) → words ≡ codes "order" ∷ w ∷ [] → ⊥) →
      (order_rule s).Breaks words reason.Form
  no_order_words none = inl (inl (refl, λ h. none _ h.1))

  pub no_order_count : (w : List ℕ) → words ≡ codes "order" ∷ w ∷ [] →
      ((n : ℕ) → IsCountWord s w n → ⊥) →
      (order_rule s).Breaks words reason.Number
  no_order_count w is none =
      subst (λ ws. (order_rule s).Breaks ws reason.Number) (sym is)
      (inl (inr (refl, (0, refl, tt), λ n h. none n h.0.1.0)))

  pub no_order : (w : List ℕ) (n : ℕ) → words ≡ codes "order" ∷ w ∷ [] → IsCountWord s w n →
      (IsOrder n → ⊥) →
      (order_rule s).Breaks words reason.Order
  no_order w n is count none =
      subst (λ ws. (order_rule s).Breaks ws reason.Order) (sym is)
      (inr (n, ((refl, (count, tt)), tt), (refl, none)))

  pub order_spelled : (w : List ℕ) (n : ℕ) → words ≡ codes "order" ∷ w ∷ [] → IsCountWord s w n →
      IsOrder n →
      (order_rule s).Spells words n
  order_spelled w n is count order =
      subst (λ ws. (order_rule s).Spells ws n) (sym is)
      (n, ((refl, (count, tt)), tt), (refl, order))

  -- ---- `f F`

  pub no_place_words : ((w : List ℕ) → words ≡ codes "f" ∷ w ∷ [] → ⊥) →
      (rule_in s place_form).Breaks words reason.Form
  no_place_words none = inl (refl, λ h. none _ h.1)

  pub no_place_number : (w : List ℕ) → words ≡ codes "f" ∷ w ∷ [] →
      ((x : Frac) → IsFractionWord s w x → ⊥) →
      (rule_in s place_form).Breaks words reason.Number
  no_place_number w is none =
      subst (λ ws. (rule_in s place_form).Breaks ws reason.Number) (sym is)
      (inr (refl, (zero, refl, tt), λ x h. none x h.0.1.0))

  pub place_spelled : (w : List ℕ) (x : Frac) → words ≡ codes "f" ∷ w ∷ [] → IsFractionWord s w x →
      (rule_in s place_form).Spells words x
  place_spelled w x is h = subst (λ ws. (rule_in s place_form).Spells ws x) (sym is)
      ((refl, (h, tt)), tt)

-- ---- the words of a point

module _ (s : Spelling) where
  pub one_spelled : (w : List ℕ) (x : Frac) → IsFractionWord s w x →
      (numbers_rule s).Spells (w ∷ []) (even x)
  one_spelled w x h = (one x, ((h, tt), tt), refl)

  pub three_spelled : (a b c : List ℕ) (p : Point) → IsFractionWord s a p.left →
      IsFractionWord s b p.value → IsFractionWord s c p.right →
      (numbers_rule s).Spells (a ∷ b ∷ c ∷ []) p
  three_spelled a b c p left value right = (three p, ((left, (value, (right, tt))), tt), refl)

  -- and each word spells its number
  pub one_spells : (w : List ℕ) (p : Point) → (numbers_rule s).Spells (w ∷ []) p →
      IsFractionWord s w p.value
  one_spells w p (one x, ((h, t), u), p_is) =
      subst (λ (q : Point). IsFractionWord s w q.value) (sym p_is) h
  one_spells w p (three q, (h, u), p_is) = absurd h.1

  pub three_spell : (a b c : List ℕ) (p : Point) → (numbers_rule s).Spells (a ∷ b ∷ c ∷ []) p →
      IsFractionWord s a p.left × IsFractionWord s b p.value × IsFractionWord s c p.right
  three_spell a b c p (one x, (h, u), p_is) = absurd h.1
  three_spell a b c p (three q, ((left, (value, (right, t))), u), p_is) =
      subst (λ (r : Point). IsFractionWord s a r.left × IsFractionWord s b r.value
      × IsFractionWord s c r.right) (sym p_is) (left, value, right)

-- ---- `point V` or `point L V R`

as_many : (n : PointNumbers) (words : List (List ℕ)) →
    IsOneOrThree (with_numbers (number_fields n) words)
as_many (one x) words = inl refl
as_many (three p) words = inr refl

-- numbers for words that spell none
some_numbers : (p : PointWords) →
    (n : PointNumbers) × (words_of_point p ≡ with_numbers (number_fields n) (words_of_point p))
some_numbers (One w) = (one zero, refl)
some_numbers (Three a b c) = (three (even zero), refl)

-- whether three words are all the same, by two tests
pub three_same_by_tests : (s : Spelling) (a b c : List ℕ) (last : Bool) → s ≡ Strict →
    pointwise nat_eq a b ≡ true →
    last ≡ pointwise nat_eq b c → IsTrue last ↔ AreThreeSame s (codes "point" ∷ a ∷ b ∷ c ∷ [])
three_same_by_tests s a b c last strict first last_is = (
  λ h. let p : a ≡ b = (bytes_decides a b).0 first in
      let q : b ≡ c = (bytes_decides b c).0 (sym last_is ∙ h) in
      (strict, b, λ i. codes "point" ∷ p i ∷ b ∷ sym q i ∷ []),
  λ same. let (_, w, e) = same in
      let p : b ≡ w = cc in
      let q : c ≡ w = cc in
      last_is ∙ (bytes_decides b c).1 (p ∙ sym q),
)

module _ (s : Spelling) (words : List (List ℕ)) where
  pub no_point_words : ((ws : List (List ℕ)) → words ≡ codes "point" ∷ ws → IsOneOrThree ws → ⊥) →
      (spelled_point_rule s).Breaks words reason.Form
  no_point_words none =
      inl (inr (
        (λ same. none _ same.2 (inr refl)),
        inl
            (refl, λ h. none _ h.1 (as_many h.0 (others_of words))),
      ))

  pub three_words_same : (ws : List (List ℕ)) → words ≡ codes "point" ∷ ws →
      AreThreeSame s (codes "point" ∷ ws) →
      (spelled_point_rule s).Breaks words reason.Form
  three_words_same ws is same = inl (inl (refl, subst (AreThreeSame s) (sym is) same))

  pub no_point_numbers : (p : PointWords) → words ≡ codes "point" ∷ words_of_point p →
      (AreThreeSame s (codes "point" ∷ words_of_point p) → ⊥) →
      ((q : Point) → (numbers_rule s).Spells (words_of_point p) q → ⊥) →
      (spelled_point_rule s).Breaks words reason.Number
  no_point_numbers p is not none =
      let ws = words_of_point p in
      let (n, some) = some_numbers p in
      let of_form : AreOfForm point_form (codes "point" ∷ ws) =
      (n, ap (λ vs. codes "point" ∷ vs) some, tt) in
      subst (λ vs. (spelled_point_rule s).Breaks vs reason.Number) (sym is)
      (inl (inr (not, inr (refl, of_form, λ m h. none (point_of m) (m, (h.0.1, tt), refl)))))

  pub point_spelled : (ws : List (List ℕ)) (p : Point) → words ≡ codes "point" ∷ ws →
      (AreThreeSame s (codes "point" ∷ ws) → ⊥) →
      (numbers_rule s).Spells ws p → (spelled_point_rule s).Spells words p
  point_spelled ws p is not (n, (h, t), p_is) =
      subst (λ vs. (spelled_point_rule s).Spells vs p) (sym is)
      (n, (not, ((refl, h), tt)), p_is)

-- ---- `point X V` or `point X L V R`

module _ (words : List (List ℕ)) where
  pub no_break_words : ((w : List ℕ) (ws : List (List ℕ)) → words ≡ codes "point" ∷ w ∷ ws →
      IsOneOrThree ws → ⊥) →
      spelled_break_rule.Breaks words reason.Form
  no_break_words none =
      inl (inl (refl, λ h. none _ _ h.1 (as_many h.0.1 (others_of (others_of words)))))

  pub no_break_numbers : (w : List ℕ) (p : PointWords) →
      words ≡ codes "point" ∷ w ∷ words_of_point p →
      ((b : Break) → IsFractionWord Lenient w b.x →
      (numbers_rule Lenient).Spells (words_of_point p) (point_at b) → ⊥) →
      spelled_break_rule.Breaks words reason.Number
  no_break_numbers w p is none =
      let ws = words_of_point p in
      let (n, some) = some_numbers p in
      let of_form : AreOfForm break_form (codes "point" ∷ w ∷ ws) =
      ((zero, n), ap (λ vs. codes "point" ∷ w ∷ vs) some, tt) in
      subst (λ vs. spelled_break_rule.Breaks vs reason.Number) (sym is)
      (inl (inr (
        refl,
        of_form,
        λ b h. none (break_at b.0 (point_of b.1)) h.0.1.0
            (b.1, (h.0.1.1, tt), refl),
      )))

  pub break_spelled : (w : List ℕ) (ws : List (List ℕ)) (b : Break) →
      words ≡ codes "point" ∷ w ∷ ws → IsFractionWord Lenient w b.x →
      (numbers_rule Lenient).Spells ws (point_at b) → spelled_break_rule.Spells words b
  break_spelled w ws b is x (n, (h, t), b_is) =
      subst (λ vs. spelled_break_rule.Spells vs b) (sym is)
      ((b.x, n), ((refl, (x, h)), tt), ap (break_at b.x) b_is)
