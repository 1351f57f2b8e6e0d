-- What words tell, or why they tell nothing.
use Rattle.std.proofs.Common.{◌≡◌, inl, inr, ℕ, zero, suc, ◌+◌, pos, ◌<◌, ◌^◌, List, [], ◌∷◌, ◌++◌, map, replicate, codes, refl, sym, ap, subst, subst₂, ◌∙◌, arith}
use Rattle.std.proofs.lemmas.Fmt.{decimal_digit}
use Rattle.std.proofs.lemmas.Grind.{replicate_next}
use Rattle.std.proofs.lemmas.Int.{ints}
use Rattle.std.proofs.lemmas.List.{append_assoc, append-nil}
use Rattle.gj_frac.specs.declared.Frac.{Frac}
use Rattle.gj_lex.specs.SpelledNumbers.{IsCountWord, IsFractionWord}
use Rattle.gj_lex.specs.declared.spelling.Spelling.TheVariants.{Lenient}
use Rattle.gj_lex.specs.declared.reason.Reason.TheVariants as reason
use Rattle.gj_lex.proofs.SpelledWords.{one_count, canonical_fraction}
use Rattle.gj_forms.specs.LineForms.{with_numbers}
use Rattle.gj_forms.specs.LineForms.Field.{fraction}
use Rattle.gj_forms.proofs.PlainWords.{apart}
use Rattle.gj_forms.proofs.WholeNumbers.{whole, text_over_one}
use Rattle.gj_problem.specs.Sparse.{no_fraction}
use Rattle.gj_problem.specs.declared.problem.Sense.{Sense}
use Rattle.gj_problem_text.specs.NumberLines.{TellFields, Tell}
use Rattle.gj_problem_text.specs.NumberWords.{IsNumberWord}
use Rattle.gj_problem_text.specs.ProblemLines.{ProblemLine, column, constraint, entry, upper, sum, grid, round, sense_word, problem_form, told_rule}

-- a number for a word that spells none
any_number : Frac
any_number = whole (pos 0) (omega (arith, ints))

-- no entry, constraint, grid or sum with such words has a value
pub no_entry_value : (name w : List ℕ) → ((x : Frac) → IsNumberWord w x → ⊥) →
    told_rule.Breaks (codes "entry" ∷ name ∷ w ∷ []) reason.Number
no_entry_value name w none = inr (refl, (entry name any_number, refl, tt), other)
  where
    other : (a : ProblemLine) → Tell problem_form (codes "entry" ∷ name ∷ w ∷ []) a → ⊥
    other (entry v x) h = none x h.0.1.1.0
    other (column v k l u) h = apart (codes "entry") (codes "column") refl h.0.0
    other (constraint v s x) h = apart (codes "entry") (codes "constraint") refl h.0.0
    other (upper v) h = apart (codes "entry") (codes "upper") refl h.0.0
    other (sum xs) h = apart (codes "entry") (codes "sum") refl h.0.0
    other (grid n) h = apart (codes "entry") (codes "grid") refl h.0.0
    other (round n) h = apart (codes "entry") (codes "round") refl h.0.0

pub no_right_side : (name w : List ℕ) (sense : Sense) → ((x : Frac) → IsNumberWord w x → ⊥) →
    told_rule.Breaks (codes "constraint" ∷ name ∷ sense_word sense ∷ w ∷ []) reason.Number
no_right_side name w sense none = inr (refl, (constraint name sense any_number, refl, tt), other)
  where
    other : (a : ProblemLine) →
        Tell problem_form (codes "constraint" ∷ name ∷ sense_word sense ∷ w ∷ []) a → ⊥
    other (constraint v s x) h = none x h.0.1.1.1.0
    other (column v k l u) h = apart (codes "constraint") (codes "column") refl h.0.0
    other (entry v x) h = apart (codes "constraint") (codes "entry") refl h.0.0
    other (upper v) h = apart (codes "constraint") (codes "upper") refl h.0.0
    other (sum xs) h = apart (codes "constraint") (codes "sum") refl h.0.0
    other (grid n) h = apart (codes "constraint") (codes "grid") refl h.0.0
    other (round n) h = apart (codes "constraint") (codes "round") refl h.0.0

pub no_grid : (w : List ℕ) → ((n : ℕ) → 0 < n → n < 2 ^ 32 → IsCountWord Lenient w n → ⊥) →
    told_rule.Breaks (codes "grid" ∷ w ∷ []) reason.Number
no_grid w none = inr (refl, (grid 0, refl, tt), other)
  where
    other : (a : ProblemLine) → Tell problem_form (codes "grid" ∷ w ∷ []) a → ⊥
    other (grid n) h = none n h.1.0 h.1.1 h.0.1.0
    other (column v k l u) h = apart (codes "grid") (codes "column") refl h.0.0
    other (constraint v s x) h = apart (codes "grid") (codes "constraint") refl h.0.0
    other (entry v x) h = apart (codes "grid") (codes "entry") refl h.0.0
    other (upper v) h = apart (codes "grid") (codes "upper") refl h.0.0
    other (sum xs) h = apart (codes "grid") (codes "sum") refl h.0.0
    other (round n) h = apart (codes "grid") (codes "round") refl h.0.0

-- a word that spells 0 is of no grid
pub zero_is_no_grid : (w : List ℕ) (n : ℕ) → IsCountWord Lenient w n → n ≡ 0 →
    told_rule.Breaks (codes "grid" ∷ w ∷ []) reason.Number
zero_is_no_grid w n counted is =
    no_grid w (λ m some below h. let same = one_count Lenient w m n h counted in omega arith)

pub no_round : (w : List ℕ) → ((n : ℕ) → 0 < n → n < 2 ^ 32 → IsCountWord Lenient w n → ⊥) →
    told_rule.Breaks (codes "round" ∷ w ∷ []) reason.Number
no_round w none = inr (refl, (round 0, refl, tt), other)
  where
    other : (a : ProblemLine) → Tell problem_form (codes "round" ∷ w ∷ []) a → ⊥
    other (round n) h = none n h.1.0 h.1.1 h.0.1.0
    other (column v k l u) h = apart (codes "round") (codes "column") refl h.0.0
    other (constraint v s x) h = apart (codes "round") (codes "constraint") refl h.0.0
    other (entry v x) h = apart (codes "round") (codes "entry") refl h.0.0
    other (upper v) h = apart (codes "round") (codes "upper") refl h.0.0
    other (sum xs) h = apart (codes "round") (codes "sum") refl h.0.0
    other (grid n) h = apart (codes "round") (codes "grid") refl h.0.0

pub zero_is_no_round : (w : List ℕ) (n : ℕ) → IsCountWord Lenient w n → n ≡ 0 →
    told_rule.Breaks (codes "round" ∷ w ∷ []) reason.Number
zero_is_no_round w n counted is =
    no_round w (λ m some below h. let same = one_count Lenient w m n h counted in omega arith)

-- ---- sums

-- words spell numbers
abbrev pub SpellNumbers : List Frac → List (List ℕ) → Type 0
SpellNumbers xs words = TellFields (map fraction xs) words

abbrev zeros : List (List ℕ) → List Frac
zeros [] = []
zeros (w ∷ words) = any_number ∷ zeros words

any_numbers : (words : List (List ℕ)) → words ≡ with_numbers (map fraction (zeros words)) words
any_numbers [] = refl
any_numbers (w ∷ words) = ap (λ ws. w ∷ ws) (any_numbers words)

no_sum : (words : List (List ℕ)) → ((xs : List Frac) → SpellNumbers xs words → ⊥) →
    told_rule.Breaks (codes "sum" ∷ words) reason.Number
no_sum words none = inr
    (refl, (sum (zeros words), ap (λ ws. codes "sum" ∷ ws) (any_numbers words), tt), other)
  where
    other : (a : ProblemLine) → Tell problem_form (codes "sum" ∷ words) a → ⊥
    other (sum xs) h = none xs h.0.1
    other (column v k l u) h = apart (codes "sum") (codes "column") refl h.0.0
    other (constraint v s x) h = apart (codes "sum") (codes "constraint") refl h.0.0
    other (entry v x) h = apart (codes "sum") (codes "entry") refl h.0.0
    other (upper v) h = apart (codes "sum") (codes "upper") refl h.0.0
    other (grid n) h = apart (codes "sum") (codes "grid") refl h.0.0
    other (round n) h = apart (codes "sum") (codes "round") refl h.0.0

-- of all words these numbers are read, and the others are left
pub record AreRead (words : List (List ℕ)) (numbers : List Frac) (left : List (List ℕ)) :
    Type 0 where
  pub spelled : (xs : List Frac) → SpellNumbers xs left → SpellNumbers (numbers ++ xs) words
  pub broken : ((xs : List Frac) → SpellNumbers xs left → ⊥) → (xs : List Frac) →
      SpellNumbers xs words → ⊥

pub one_more_read : (words left behind : List (List ℕ)) (numbers : List Frac) (w : List ℕ)
    (x : Frac) → AreRead words numbers left →
    left ≡ w ∷ behind → IsNumberWord w x → AreRead words (numbers ++ x ∷ []) behind
one_more_read words left behind numbers w x h e is = record {
  spelled = λ xs k. subst (λ ys. SpellNumbers ys words) (sym (append_assoc numbers (x ∷ []) xs))
      (h.spelled (x ∷ xs) (subst (SpellNumbers (x ∷ xs)) (sym e) (is, k)));
  broken = λ none. h.broken (λ xs k. behind_none none xs (subst (SpellNumbers xs) e k));
}
  where
    behind_none : ((xs : List Frac) → SpellNumbers xs behind → ⊥) → (xs : List Frac) →
        SpellNumbers xs (w ∷ behind) → ⊥
    behind_none none [] k = k
    behind_none none (y ∷ ys) k = none ys k.1

pub all_read : (words left : List (List ℕ)) (numbers : List Frac) → AreRead words numbers left →
    left ≡ [] →
    told_rule.Spells (codes "sum" ∷ words) (sum numbers)
all_read words left numbers h e = (
  (
    refl,
    subst (λ ys. SpellNumbers ys words) (append-nil numbers)
        (h.spelled [] (subst (SpellNumbers []) (sym e) tt)),
  ),
  tt,
)

pub not_read : (words left behind : List (List ℕ)) (numbers : List Frac) (w : List ℕ) →
    AreRead words numbers left → left ≡ w ∷ behind →
    ((x : Frac) → IsNumberWord w x → ⊥) → told_rule.Breaks (codes "sum" ∷ words) reason.Number
not_read words left behind numbers w h e none =
    no_sum words (h.broken (λ xs k. no_first xs (subst (SpellNumbers xs) e k)))
  where
    no_first : (xs : List Frac) → SpellNumbers xs (w ∷ behind) → ⊥
    no_first [] k = k
    no_first (y ∷ ys) k = none y k.0

-- ---- words `0`

zero_spelled : IsNumberWord (codes "0") no_fraction
zero_spelled =
    inl (subst (λ (word : List ℕ). IsFractionWord Lenient word no_fraction)
    (text_over_one no_fraction refl ∙ decimal_digit 0 (omega arith))
    (canonical_fraction Lenient no_fraction))

pub zeros_read : (n : ℕ) (words left behind : List (List ℕ)) (numbers : List Frac) →
    AreRead words numbers left → left ≡ replicate n (codes "0") ++ behind →
    AreRead words (numbers ++ replicate n no_fraction) behind
zeros_read zero words left behind numbers h e =
    subst₂ (λ (xs : List Frac) (ws : List (List ℕ)). AreRead words xs ws)
    (sym (append-nil numbers)) e h
zeros_read (suc n) words left behind numbers h e =
    subst (λ (xs : List Frac). AreRead words xs behind)
    (append_assoc numbers (no_fraction ∷ []) (replicate n no_fraction))
    (zeros_read n words (replicate n (codes "0") ++ behind) behind (numbers ++ no_fraction ∷ [])
    (one_more_read words left (replicate n (codes "0") ++ behind) numbers (codes "0") no_fraction h
    e zero_spelled) refl)

-- one more behind those that are counted
pub counted_more : {A : Type 0} (n : ℕ) (y : A) (xs left behind : List A) →
    xs ≡ replicate n y ++ left → left ≡ y ∷ behind → xs ≡ replicate (n + 1) y ++ behind
counted_more n y xs left behind all next =
    all ∙ ap (λ ys. replicate n y ++ ys) next ∙ sym (append_assoc (replicate n y) (y ∷ []) behind)
    ∙ ap (λ ys. ys ++ behind) (sym (replicate_next n y))

pub appended_more : {A : Type 0} (n : ℕ) (y : A) (start xs more : List A) →
    xs ≡ start ++ replicate n y → more ≡ xs ++ y ∷ [] → more ≡ start ++ replicate (n + 1) y
appended_more n y start xs more all next =
    next ∙ ap (λ ys. ys ++ y ∷ []) all ∙ append_assoc start (replicate n y) (y ∷ [])
    ∙ ap (λ ys. start ++ ys) (sym (replicate_next n y))

pub none_read : (words : List (List ℕ)) → AreRead words [] words
none_read words = record { spelled = λ xs k. k; broken = λ none. none }

pub with_zeros_read : (n : ℕ) (words left behind : List (List ℕ)) (old new : List Frac) →
    AreRead words old left → left ≡ replicate n (codes "0") ++ behind →
    new ≡ old ++ replicate n no_fraction → AreRead words new behind
with_zeros_read n words left behind old new h e more =
    subst (λ (xs : List Frac). AreRead words xs behind) (sym more)
    (zeros_read n words left behind old h e)
