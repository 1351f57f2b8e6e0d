-- A text has one first fault.
use Rattle.std.proofs.Common.{◌≡◌, ℕ, ◌+◌, ◌<◌, ◌≤◌, List, [], ◌∷◌, ◌++◌, length, refl, sym, ap, ap₂, subst, ◌∙◌, arith}
use Rattle.std.proofs.lemmas.List.Elements.{All-head}
use Rattle.gj_lemmas.proofs.Lists.{All-back}
use Rattle.gj_frac.specs.declared.Frac.{Frac}
use Rattle.gj_shape.specs.Limits.{IsSmallNumber}
use Rattle.gj_shape.specs.Given.{HasCommonDenominator}
use Rattle.gj_row.specs.TableauLimits.{most_columns, AreWithinLimits, AreNames, names_of, entry_count}
use Rattle.gj_row.specs.TableauText.{SpellNumbers, SpellsTableau, header_of}
use Rattle.gj_row.specs.FirstFault.{BreaksName, IsNewName, BreaksNumber, HasNameFault, HasNumberFault, HasHeaderFault, HasRowFault, HasFirstFault, header, columns, name, fields, rows, number, in_header, in_row}
use Rattle.gj_row.specs.declared.tableau.Tableau.{Tableau}
use Rattle.gj_row.specs.declared.faults.RowReason.{RowReason}
use Rattle.gj_row.specs.declared.faults.RowReason.TheVariants.{Name, Twice, Number, Large, Fine, Entries}
use Rattle.gj_row.proofs.OneTableau.{one_next, one_list, one_tableau, name_denied, number_denied, no_first_fault}

-- ---- two places in one list

-- they are one place, or the first is before the second, or behind it
data AreParted {X : Type 0} (a b : List X) (x y : X) : Type 0 where
  same : a ≡ b → x ≡ y → AreParted a b x y
  before : (m : List X) → b ≡ a ++ x ∷ m → AreParted a b x y
  behind : (m : List X) → a ≡ b ++ y ∷ m → AreParted a b x y

parted_more : {X : Type 0} (z w : X) (a b : List X) (x y : X) → z ≡ w → AreParted a b x y →
    AreParted (z ∷ a) (w ∷ b) x y
parted_more z w a b x y e (same g k) = same (ap₂ (λ u us. u ∷ us) e g) k
parted_more z w a b x y e (before m g) = before m (ap₂ (λ u us. u ∷ us) (sym e) g)
parted_more z w a b x y e (behind m g) = behind m (ap₂ (λ u us. u ∷ us) e g)

parted_places : {X : Type 0} (a b : List X) (x y : X) (c d : List X) → a ++ x ∷ c ≡ b ++ y ∷ d →
    AreParted a b x y
parted_places [] [] x y c d e = same refl (cc)
parted_places [] (w ∷ b) x y c d e =
    before b (let first : x ≡ w = cc in ap (λ z. z ∷ b) (sym first))
parted_places (z ∷ a) [] x y c d e = behind a (let first : z ≡ y = cc in ap (λ w. w ∷ a) first)
parted_places (z ∷ a) (w ∷ b) x y c d e =
    parted_more z w a b x y (let first : z ≡ w = cc in first)
    (parted_places a b x y c d (let rest : a ++ x ∷ c ≡ b ++ y ∷ d = cc in rest))

-- ---- names

one_name : (names : List (List ℕ)) (w : List ℕ) (e d : RowReason) → BreaksName names w e →
    BreaksName names w d → e ≡ d
one_name names w Name Name h k = refl
one_name names w Name Twice h k = absurd (h k.0)
one_name names w Twice Name h k = absurd (k h.0)
one_name names w Twice Twice h k = refl
one_name names w Name d h k = absurd k
one_name names w Twice d h k = absurd k
one_name names w e d h k = absurd h

new_name : (names : List (List ℕ)) (w : List ℕ) (e : RowReason) → IsNewName names w →
    BreaksName names w e → ⊥
new_name names w Name new h = h new.valid
new_name names w Twice new h = new.differs h.1
new_name names w e new h = absurd h

one_name_fault : (ws : List (List ℕ)) (e d : RowReason) → HasNameFault ws e → HasNameFault ws d →
    e ≡ d
one_name_fault ws e d h k =
    by_places (parted_places h.front k.front h.word k.word h.back k.back (sym h.place ∙ k.place))
  where
    by_places : AreParted h.front k.front h.word k.word → e ≡ d
    by_places (same fronts words) =
        one_name k.front k.word e d
        (subst (λ w. BreaksName k.front w e) words
        (subst (λ f. BreaksName f h.word e) fronts h.breaks)) k.breaks
    by_places (before m is) =
        absurd (name_denied h.front m h.word e (subst AreNames is k.good) h.breaks)
    by_places (behind m is) =
        absurd (name_denied k.front m k.word d (subst AreNames is h.good) k.breaks)

-- ---- numbers

new_small : (xs : List Frac) (x : Frac) → AreWithinLimits (xs ++ x ∷ []) → IsSmallNumber x
new_small xs x h = All-head IsSmallNumber x [] (All-back IsSmallNumber xs (x ∷ []) h.small)

one_number : (used : ℕ) (xs : List Frac) (w : List ℕ) (e d : RowReason) → BreaksNumber used xs w e →
    BreaksNumber used xs w d → e ≡ d
one_number used xs w Number Number h k = refl
one_number used xs w Number Large h k = absurd (h k.0 k.1)
one_number used xs w Number Fine h k = absurd (h k.0 k.1)
one_number used xs w Number Entries h k = absurd (h k.0 k.1)
one_number used xs w Large Number h k = absurd (k h.0 h.1)
one_number used xs w Large Large h k = refl
one_number used xs w Large Fine h k =
    absurd (h.2 (subst IsSmallNumber (one_next xs w k.0 h.0 k.1 h.1) k.2))
one_number used xs w Large Entries h k =
    absurd (h.2 (subst IsSmallNumber (one_next xs w k.0 h.0 k.1 h.1) (new_small xs k.0 k.2)))
one_number used xs w Fine Number h k = absurd (k h.0 h.1)
one_number used xs w Fine Large h k =
    absurd (k.2 (subst IsSmallNumber (one_next xs w h.0 k.0 h.1 k.1) h.2))
one_number used xs w Fine Fine h k = refl
one_number used xs w Fine Entries h k =
    absurd (h.3 (subst (λ x. HasCommonDenominator (xs ++ x ∷ []))
    (one_next xs w k.0 h.0 k.1 h.1) k.2.common))
one_number used xs w Entries Number h k = absurd (k h.0 h.1)
one_number used xs w Entries Large h k =
    absurd (k.2 (subst IsSmallNumber (one_next xs w h.0 k.0 h.1 k.1) (new_small xs h.0 h.2)))
one_number used xs w Entries Fine h k =
    absurd (k.3 (subst (λ x. HasCommonDenominator (xs ++ x ∷ []))
    (one_next xs w h.0 k.0 h.1 k.1) h.2.common))
one_number used xs w Entries Entries h k = refl
one_number used xs w Number d h k = absurd k
one_number used xs w Large d h k = absurd k
one_number used xs w Fine d h k = absurd k
one_number used xs w Entries d h k = absurd k
one_number used xs w e d h k = absurd h

one_number_fault : (used : ℕ) (ws : List (List ℕ)) (e d : RowReason) → HasNumberFault used ws e →
    HasNumberFault used ws d → e ≡ d
one_number_fault used ws e d h k =
    by_places (parted_places h.front k.front h.word k.word h.back k.back (sym h.place ∙ k.place))
  where
    cut : (d : RowReason) (h : HasNumberFault used ws d) (front m : List (List ℕ)) →
        front ≡ h.front ++ h.word ∷ m → HasNumberFault used front d
    cut d h front m is =
        record {
          front = h.front;
          word = h.word;
          back = m;
          place = is;
          xs = h.xs;
          good =
              h.good;
          breaks = h.breaks;
        }

    by_places : AreParted h.front k.front h.word k.word → e ≡ d
    by_places (same fronts words) =
        let numbers : h.xs ≡ k.xs =
        one_list k.front h.xs k.xs (subst (λ f. SpellNumbers f h.xs) fronts h.good.spelled)
        k.good.spelled in
        one_number used k.xs k.word e d
        (subst (λ w. BreaksNumber used k.xs w e) words
        (subst (λ xs. BreaksNumber used xs h.word e) numbers h.breaks)) k.breaks
    by_places (before m is) =
        absurd (number_denied used k.front k.xs e k.good.spelled k.good.within k.good.few
        (cut e h k.front m is))
    by_places (behind m is) =
        absurd (number_denied used h.front h.xs d h.good.spelled h.good.within h.good.few
        (cut d k h.front m is))

-- ---- records

too_many : (n m : ℕ) → m < n → n ≤ m → ⊥
too_many n m a b = omega arith

same_columns : (a b : List (List ℕ)) (r q : List (List (List ℕ))) →
    header_of a ∷ r ≡ header_of b ∷ q → a ≡ b
same_columns a b r q e = cc

one_header_fault : (ws : List (List (List ℕ))) (e d : RowReason) → HasHeaderFault ws e →
    HasHeaderFault ws d → e ≡ d
one_header_fault ws e d (header none is) (header none' is') = is ∙ sym is'
one_header_fault ws e d (header none is) (columns cols rs at many is') = absurd (none cols rs at)
one_header_fault ws e d (header none is) (name cols rs at few fault) = absurd (none cols rs at)
one_header_fault ws e d (columns cols rs at many is) (header none is') = absurd (none cols rs at)
one_header_fault ws e d (columns cols rs at many is) (columns cols' rs' at' many' is') = is
    ∙ sym is'
one_header_fault ws e d (columns cols rs at many is) (name cols' rs' at' few fault) =
    absurd (too_many _ _ many
    (subst (λ cs. length cs ≤ most_columns) (same_columns cols' cols rs' rs (sym at' ∙ at))
    few))
one_header_fault ws e d (name cols rs at few fault) (header none is') = absurd (none cols rs at)
one_header_fault ws e d (name cols rs at few fault) (columns cols' rs' at' many is') =
    absurd (too_many _ _ many
    (subst (λ cs. length cs ≤ most_columns) (same_columns cols cols' rs rs' (sym at ∙ at'))
    few))
one_header_fault ws e d (name cols rs at few fault) (name cols' rs' at' few' fault') =
    one_name_fault cols' e d
    (subst (λ cs. HasNameFault cs e) (same_columns cols cols' rs rs' (sym at ∙ at')) fault)
    fault'

one_row_fault : (t : Tableau) (ws : List (List ℕ)) (e d : RowReason) → HasRowFault t ws e →
    HasRowFault t ws d → e ≡ d
one_row_fault t ws e d (fields wide is) (fields wide' is') = is ∙ sym is'
one_row_fault t ws e d (fields wide is) (rows count full is') = absurd (wide count)
one_row_fault t ws e d (fields wide is) (name follows w more at breaks) =
    absurd (wide follows.count)
one_row_fault t ws e d (fields wide is) (number follows w more at new fault) =
    absurd (wide follows.count)
one_row_fault t ws e d (rows count full is) (fields wide is') = absurd (wide count)
one_row_fault t ws e d (rows count full is) (rows count' full' is') = is ∙ sym is'
one_row_fault t ws e d (rows count full is) (name follows w more at breaks) =
    absurd (too_many _ _ follows.room full)
one_row_fault t ws e d (rows count full is) (number follows w more at new fault) =
    absurd (too_many _ _ follows.room full)
one_row_fault t ws e d (name follows w more at breaks) (fields wide is) =
    absurd (wide follows.count)
one_row_fault t ws e d (name follows w more at breaks) (rows count full is) =
    absurd (too_many _ _ follows.room full)
one_row_fault t ws e d (name follows w more at breaks) (name follows' w' more' at' breaks') =
    let words = sym at ∙ at' in
    let first : w ≡ w' = cc words in
    one_name (names_of t) w' e d (subst (λ v. BreaksName (names_of t) v e) first breaks) breaks'
one_row_fault t ws e d (name follows w more at breaks) (number follows' w' more' at' new fault) =
    let words = sym at ∙ at' in
    let first : w ≡ w' = cc words in
    absurd (new_name (names_of t) w' e new (subst (λ v. BreaksName (names_of t) v e) first breaks))
one_row_fault t ws e d (number follows w more at new fault) (fields wide is) =
    absurd (wide follows.count)
one_row_fault t ws e d (number follows w more at new fault) (rows count full is) =
    absurd (too_many _ _ follows.room full)
one_row_fault t ws e d (number follows w more at new fault) (name follows' w' more' at' breaks) =
    let words = sym at' ∙ at in
    let first : w' ≡ w = cc words in
    absurd (new_name (names_of t) w d new (subst (λ v. BreaksName (names_of t) v d) first breaks))
one_row_fault t ws e d (number follows w more at new fault)
    (number follows' w' more' at' new' fault') =
    let words = sym at ∙ at' in
    let rest : more ≡ more' = cc words in
    one_number_fault (entry_count t) more' e d
    (subst (λ v. HasNumberFault (entry_count t) v e) rest fault) fault'

-- ---- texts

-- if records spell a tableau and others follow, record 1 has no fault
front_header : (front rest : List (List (List ℕ))) (t : Tableau) (ws : List (List (List ℕ)))
    (e : RowReason) → SpellsTableau front t →
    ws ≡ front ++ rest → HasHeaderFault ws e → ⊥
front_header front rest t ws e spelled is fault =
    no_first_fault front t 1 e spelled (in_header refl (at_front fault))
  where
    whole : ws ≡ header_of t.columns ∷ (spelled.row_words ++ rest)
    whole = is ∙ ap (λ f. f ++ rest) spelled.words_are

    same_as_front : (cols : List (List ℕ)) (rs : List (List (List ℕ))) → ws ≡ header_of cols ∷ rs →
        front ≡ header_of cols ∷ spelled.row_words
    same_as_front cols rs at =
        spelled.words_are ∙ ap (λ cs. header_of cs ∷ spelled.row_words)
        (same_columns t.columns cols _ rs (sym whole ∙ at))

    at_front : HasHeaderFault ws e → HasHeaderFault front e
    at_front (header none why) = absurd (none t.columns (spelled.row_words ++ rest) whole)
    at_front (columns cols rs at many why) =
        columns cols spelled.row_words (same_as_front cols rs at) many why
    at_front (name cols rs at few named) =
        name cols spelled.row_words (same_as_front cols rs at) few named

pub one_first_fault : (ws : List (List (List ℕ))) (n m : ℕ) (e d : RowReason) →
    HasFirstFault ws n e → HasFirstFault ws m d → (n ≡ m) × (e ≡ d)
one_first_fault ws n m e d (in_header is fault) (in_header is' fault') =
    (is ∙ sym is', one_header_fault ws e d fault fault')
one_first_fault ws n m e d (in_header is fault) (in_row front w after t at spelled is' fault') =
    absurd (front_header front (w ∷ after) t ws e spelled at fault)
one_first_fault ws n m e d (in_row front w after t at spelled is fault) (in_header is' fault') =
    absurd (front_header front (w ∷ after) t ws d spelled at fault')
one_first_fault ws n m e d (in_row front w after t at spelled is fault)
    (in_row front' w' after' t' at' spelled' is' fault') =
    by_places (parted_places front front' w w' after after' (sym at ∙ at'))
  where
    by_places : AreParted front front' w w' → (n ≡ m) × (e ≡ d)
    by_places (same fronts words) =
        let tables : t ≡ t' =
        one_tableau front' t t' (subst (λ f. SpellsTableau f t) fronts spelled) spelled' in
        let here = subst (λ v. HasRowFault t' v e) words
        (subst (λ s. HasRowFault s w e) tables fault) in
        (is ∙ ap (λ f. length f + 1) fronts ∙ sym is', one_row_fault t' w' e d here fault')
    by_places (before more among) =
        absurd (no_first_fault front' t' n e spelled'
        (in_row front w more t among spelled is fault))
    by_places (behind more among) =
        absurd (no_first_fault front t m d spelled
        (in_row front' w' more t' among spelled' is' fault'))
