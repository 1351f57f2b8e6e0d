-- Forms that are all at least 0 at a point of the greater field are so at a point of the lesser
-- one: variables are eliminated one by one (Fourier 1826).
use Rattle.std.proofs.Common.{◌≡◌, ◌≢◌, ℕ, zero, suc, ◌⊎◌, true, false, inl, inr, ⊎_elim, List, [], ◌∷◌, ◌++◌, refl, sym, subst, ap, ◌∙◌}
use Rattle.gj_fields.specs.Fields.{OrderedField, AtMost}
use Rattle.gj_fields.proofs.Ring.{ring}
use Rattle.gj_fields.proofs.Ring.Term.{var, nil, unit, neg, ◌⊕◌, ◌⊗◌}
use Rattle.gj_fields.proofs.Order.{either, le_refl, le_of_eq, le_of_not, by_one, by_two}
use Rattle.gj_fields.proofs.Wholes.{not_one_le_zero}
use Rattle.gj_reals.proofs.AtReals.{inverse_low}
use Rattle.gj_real_problems.proofs.Forms.{Embeds, itself, negative_is, Form, Point, scaled, difference, value, value_scaled, value_difference}

-- ---- lists

abbrev pub Each : {X : Type 0} → (X → Type 0) → List X → Type 0
Each P [] = Unit {0}
Each P (x ∷ xs) = P x × Each P xs

pub each_map : {X : Type 0} (P Q : X → Type 0) → ((x : X) → P x → Q x) → (xs : List X) → Each P xs →
    Each Q xs
each_map P Q k [] h = tt
each_map P Q k (x ∷ xs) h = (k x h.0, each_map P Q k xs h.1)

pub each_join : {X : Type 0} (P : X → Type 0) (xs ys : List X) → Each P xs → Each P ys →
    Each P (xs ++ ys)
each_join P [] ys h k = k
each_join P (x ∷ xs) ys h k = (h.0, each_join P xs ys h.1 k)

pub each_front : {X : Type 0} (P : X → Type 0) (xs ys : List X) → Each P (xs ++ ys) → Each P xs
each_front P [] ys h = tt
each_front P (x ∷ xs) ys h = (h.0, each_front P xs ys h.1)

pub each_back : {X : Type 0} (P : X → Type 0) (xs ys : List X) → Each P (xs ++ ys) → Each P ys
each_back P [] ys h = h
each_back P (x ∷ xs) ys h = each_back P xs ys h.1

-- ---- one variable in one form: c x + t, where c d is -1

module _ {R : Type 0} (K : OrderedField R) where
  open K use {plus, times, zero as o, one as e, negative, inverse}

  -- x less d t is -d times the form
  under : (c d x t : R) → times c d ≡ negative e →
      plus x (negative (times d t)) ≡ times (negative d) (plus (times c x) t)
  under c d x t is =
      ring K (x ∷ d ∷ t ∷ []) (var 0 ⊕ neg (var 1 ⊗ var 2))
      (neg (neg unit) ⊗ var 0 ⊕ neg (var 1 ⊗ var 2)) refl
      ∙ ap (λ z. plus (times (negative z) x) (negative (times d t))) (sym is)
      ∙ ring K (c ∷ d ∷ x ∷ t ∷ []) (neg (var 0 ⊗ var 1) ⊗ var 2 ⊕ neg (var 1 ⊗ var 3))
      (neg (var 1) ⊗ (var 0 ⊗ var 2 ⊕ var 3)) refl

  -- the form is c times x less d t
  form_is : (c d x t : R) → times c d ≡ negative e →
      plus (times c x) t ≡ times c (plus x (negative (times d t)))
  form_is c d x t is =
      ring K (times c x ∷ t ∷ []) (var 0 ⊕ var 1) (var 0 ⊕ neg (neg unit ⊗ var 1)) refl
      ∙ ap (λ z. plus (times c x) (negative (times z t))) (sym is)
      ∙ ring K (c ∷ d ∷ x ∷ t ∷ []) (var 0 ⊗ var 2 ⊕ neg (var 0 ⊗ var 1 ⊗ var 3))
      (var 0 ⊗ (var 2 ⊕ neg (var 1 ⊗ var 3))) refl

  pub low_there : (c d x t : R) → times c d ≡ negative e → AtMost K d o →
      AtMost K o (plus (times c x) t) →
      AtMost K (times d t) x
  low_there c d x t is low h =
      by_one K (times d t ∷ x ∷ []) (var 0) (var 1) nil (var 1 ⊕ neg (var 0))
      (subst (AtMost K o) (sym (under c d x t is))
      (K.times_keeps (negative d) (plus (times c x) t)
      (by_one K (d ∷ []) nil (neg (var 0)) (var 0) nil low refl) h)) refl

  pub high_there : (c d x t : R) → times c d ≡ negative e → AtMost K o d →
      AtMost K o (plus (times c x) t) →
      AtMost K x (times d t)
  high_there c d x t is high h =
      let form = plus (times c x) t in
      by_one K (x ∷ times d t ∷ []) (var 0) (var 1) nil (var 1 ⊕ neg (var 0))
      (subst (AtMost K o)
      (ring K (d ∷ form ∷ []) (var 0 ⊗ var 1) (neg (neg (var 0) ⊗ var 1)) refl
      ∙ ap negative (sym (under c d x t is))
      ∙ ring K (x ∷ times d t ∷ []) (neg (var 0 ⊕ neg (var 1))) (var 1 ⊕ neg (var 0)) refl)
      (K.times_keeps d form high h)) refl

  pub low_back : (c d x t : R) → times c d ≡ negative e → AtMost K o c → AtMost K (times d t) x →
      AtMost K o (plus (times c x) t)
  low_back c d x t is low h =
      subst (AtMost K o) (sym (form_is c d x t is))
      (K.times_keeps c (plus x (negative (times d t))) low
      (by_one K (times d t ∷ x ∷ []) nil (var 1 ⊕ neg (var 0)) (var 0) (var 1) h refl))

  pub high_back : (c d x t : R) → times c d ≡ negative e → AtMost K c o → AtMost K x (times d t) →
      AtMost K o (plus (times c x) t)
  high_back c d x t is high h =
      subst (AtMost K o)
      (ring K (c ∷ x ∷ times d t ∷ []) (neg (var 0) ⊗ (var 2 ⊕ neg (var 1)))
      (var 0 ⊗ (var 1 ⊕ neg (var 2))) refl
      ∙ sym (form_is c d x t is))
      (K.times_keeps (negative c) (plus (times d t) (negative x))
      (by_one K (c ∷ []) nil (neg (var 0)) (var 0) nil high refl)
      (by_one K (times d t ∷ x ∷ []) nil (var 0 ⊕ neg (var 1)) (var 1) (var 0) h refl))

  pub zero_there : (c x t : R) → c ≡ o → plus (times c x) t ≡ t
  zero_there c x t is =
      ap (λ z. plus (times z x) t) is ∙ ring K (x ∷ t ∷ []) (nil ⊗ var 0 ⊕ var 1) (var 1) refl

  pub minus_inverse : (c : R) → c ≢ o → times c (negative (inverse c)) ≡ negative e
  minus_inverse c some =
      ring K (c ∷ inverse c ∷ []) (var 0 ⊗ neg (var 1)) (neg (var 0 ⊗ var 1)) refl
      ∙ ap negative (K.times_inverse c some)

  pub inverse_high : (c : R) → AtMost K c o → c ≢ o → AtMost K o (negative (inverse c))
  inverse_high c high some =
      ⊎_elim (λ low. absurd (not_one_le_zero K
      (by_two K (c ∷ inverse c ∷ []) unit nil unit (var 0 ⊗ var 1) nil (neg (var 0) ⊗ var 1)
      (le_of_eq K e (times c (inverse c)) (sym (K.times_inverse c some)))
      (K.times_keeps (negative c) (inverse c)
      (by_one K (c ∷ []) nil (neg (var 0)) (var 0) nil high refl) low) refl)))
      (λ low. by_one K (inverse c ∷ []) nil (neg (var 0)) (var 0) nil low refl)
      (K.total o (inverse c))

-- ---- all variables

module _ {A B : Type 0} (F : OrderedField A) (K : OrderedField B) (image : A → B)
    (h : Embeds F K image) where
  abbrev there : (n : ℕ) → Form A n → Point B n → B
  there n f y = value K image n f y

  abbrev here : (n : ℕ) → Form A n → Point A n → A
  here n f x = value F (λ a. a) n f x

  -- the forms that are at least 0, those below the first variable and those above it
  record Split (n : ℕ) (fs : List (Form A (suc n))) (x : B) (y : Point B n) : Type 0 where
    lows : List (Form A n)
    highs : List (Form A n)
    flats : List (Form A n)
    lows_hold : Each (λ f. AtMost K (there n f y) x) lows
    highs_hold : Each (λ f. AtMost K x (there n f y)) highs
    flats_hold : Each (λ f. AtMost K K.zero (there n f y)) flats
    back : (a : A) (b : Point A n) → Each (λ f. AtMost F (here n f b) a) lows →
        Each (λ f. AtMost F a (here n f b)) highs → Each (λ f. AtMost F F.zero (here n f b)) flats →
        Each (λ f. AtMost F F.zero (F.plus (F.times f.head a) (here n f.tail b))) fs

  split_more : (n : ℕ) (f : Form A (suc n)) (fs : List (Form A (suc n))) (x : B) (y : Point B n) →
      AtMost K K.zero (K.plus (K.times (image f.head) x) (there n f.tail y)) → Split n fs x y →
      ((F.at_most F.zero f.head ≡ true) ⊎ (F.at_most F.zero f.head ≡ false)) →
      ((F.at_most f.head F.zero ≡ true) ⊎ (F.at_most f.head F.zero ≡ false)) → Split n (f ∷ fs) x y
  split_more n f fs x y holds s (inl low) (inl high) =
      let none : f.head ≡ F.zero = F.antisymmetric f.head F.zero high low in
      record {
        lows = s.lows;
        highs = s.highs;
        flats = f.tail ∷ s.flats;
        lows_hold = s.lows_hold;
        highs_hold = s.highs_hold;
        flats_hold = (
          subst (AtMost K K.zero)
              (zero_there K (image f.head) x (there n f.tail y) (ap image none ∙ h.zero_is)) holds,
          s.flats_hold,
        );
        back = λ a b ls us ts. (
          subst (AtMost F F.zero) (sym (zero_there F f.head a (here n f.tail b) none)) ts.0,
          s.back a b ls us ts.1,
        );
      }
  split_more n f fs x y holds s (inl low) (inr other) =
      let c = f.head in
      let some : c ≢ F.zero = λ none. let same : true ≡ false = sym (le_of_eq F c F.zero none)
      ∙ other in cc in
      let d = F.negative (F.inverse c) in
      let is : F.times c d ≡ F.negative F.one = minus_inverse F c some in
      let there_is : K.times (image c) (image d) ≡ K.negative K.one =
      sym (h.times_is c d) ∙ ap image is ∙ negative_is F K image h F.one ∙ ap K.negative h.one_is in
      let d_high : AtMost F d F.zero =
      by_one F (F.inverse c ∷ []) (neg (var 0)) nil nil (var 0) (inverse_low F c low some) refl in
      record {
        lows = scaled F n d f.tail ∷ s.lows;
        highs = s.highs;
        flats = s.flats;
        lows_hold = (
          subst (λ z. AtMost K z x) (sym (value_scaled F K image h n d f.tail y))
              (low_there K (image c) (image d) x (there n f.tail y) there_is
              (subst (AtMost K (image d)) h.zero_is (h.keeps d F.zero d_high)) holds),
          s.lows_hold,
        );
        highs_hold = s.highs_hold;
        flats_hold = s.flats_hold;
        back = λ a b ls us ts. (
          low_back F c d a (here n f.tail b) is low
              (subst (λ z. AtMost F z a) (value_scaled F F (λ a. a) (itself F) n d f.tail b) ls.0),
          s.back a b ls.1 us ts,
        );
      }
  split_more n f fs x y holds s (inr other) (inl high) =
      let c = f.head in
      let some : c ≢ F.zero = λ none. let same : true ≡ false = sym (le_of_eq F F.zero c (sym none))
      ∙ other in cc in
      let d = F.negative (F.inverse c) in
      let is : F.times c d ≡ F.negative F.one = minus_inverse F c some in
      let there_is : K.times (image c) (image d) ≡ K.negative K.one =
      sym (h.times_is c d) ∙ ap image is ∙ negative_is F K image h F.one ∙ ap K.negative h.one_is in
      record {
        lows = s.lows;
        highs = scaled F n d f.tail ∷ s.highs;
        flats = s.flats;
        lows_hold = s.lows_hold;
        highs_hold = (
          subst (AtMost K x) (sym (value_scaled F K image h n d f.tail y))
              (high_there K (image c) (image d) x (there n f.tail y) there_is
              (subst (λ z. AtMost K z (image d)) h.zero_is
              (h.keeps F.zero d (inverse_high F c high some))) holds),
          s.highs_hold,
        );
        flats_hold = s.flats_hold;
        back = λ a b ls us ts. (
          high_back F c d a (here n f.tail b) is high
              (subst (AtMost F a) (value_scaled F F (λ a. a) (itself F) n d f.tail b) us.0),
          s.back a b ls us.1 ts,
        );
      }
  split_more n f fs x y holds s (inr other) (inr against) =
      let low : AtMost F f.head F.zero = le_of_not F F.zero f.head other in
      absurd (let same : true ≡ false = sym low ∙ against in cc)

  split : (n : ℕ) (fs : List (Form A (suc n))) (x : B) (y : Point B n) →
      Each (λ f. AtMost K K.zero (K.plus (K.times (image f.head) x) (there n f.tail y))) fs →
      Split n fs x y
  split n [] x y holds = record {
    lows = [];
    highs = [];
    flats = [];
    lows_hold = tt;
    highs_hold = tt;
    flats_hold = tt;
    back = λ a b ls us ts. tt;
  }
  split n (f ∷ fs) x y holds =
      split_more n f fs x y holds.0 (split n fs x y holds.1) (either (F.at_most F.zero f.head))
      (either (F.at_most f.head F.zero))

  -- each form of us less l
  abbrev above : (n : ℕ) → Form A n → List (Form A n) → List (Form A n) → List (Form A n)
  above n l [] rest = rest
  above n l (u ∷ us) rest = difference F n u l ∷ above n l us rest

  abbrev crossed : (n : ℕ) → List (Form A n) → List (Form A n) → List (Form A n) → List (Form A n)
  crossed n [] us rest = rest
  crossed n (l ∷ ls) us rest = above n l us (crossed n ls us rest)

  above_hold : (n : ℕ) (x : B) (y : Point B n) (l : Form A n) (us rest : List (Form A n)) →
      AtMost K (there n l y) x → Each (λ f. AtMost K x (there n f y)) us →
      Each (λ f. AtMost K K.zero (there n f y)) rest →
      Each (λ f. AtMost K K.zero (there n f y)) (above n l us rest)
  above_hold n x y l [] rest low highs others = others
  above_hold n x y l (u ∷ us) rest low highs others = (
    subst (AtMost K K.zero) (sym (value_difference F K image h n u l y))
        (by_two K (x ∷ there n l y ∷ there n u y ∷ []) nil (var 2 ⊕ neg (var 1)) (var 1) (var 0)
        (var 0) (var 2) low highs.0 refl),
    above_hold n x y l us rest low highs.1 others,
  )

  crossed_hold : (n : ℕ) (x : B) (y : Point B n) (ls us rest : List (Form A n)) →
      Each (λ f. AtMost K (there n f y) x) ls → Each (λ f. AtMost K x (there n f y)) us →
      Each (λ f. AtMost K K.zero (there n f y)) rest →
      Each (λ f. AtMost K K.zero (there n f y)) (crossed n ls us rest)
  crossed_hold n x y [] us rest lows highs others = others
  crossed_hold n x y (l ∷ ls) us rest lows highs others =
      above_hold n x y l us (crossed n ls us rest) lows.0 highs
      (crossed_hold n x y ls us rest lows.1 highs others)

  above_tell : (n : ℕ) (b : Point A n) (l : Form A n) (us rest : List (Form A n)) →
      Each (λ f. AtMost F F.zero (here n f b)) (above n l us rest) →
      Each (λ u. AtMost F (here n l b) (here n u b)) us
      × Each (λ f. AtMost F F.zero (here n f b)) rest
  above_tell n b l [] rest holds = (tt, holds)
  above_tell n b l (u ∷ us) rest holds =
      let (others, after) = above_tell n b l us rest holds.1 in
      let first : AtMost F F.zero (F.plus (here n u b) (F.negative (here n l b))) =
      subst (AtMost F F.zero) (value_difference F F (λ a. a) (itself F) n u l b) holds.0 in (
        (
          by_one F (here n l b ∷ here n u b ∷ []) (var 0) (var 1) nil
              (var 1 ⊕ neg (var 0)) first refl,
          others,
        ),
        after,
      )

  crossed_tell : (n : ℕ) (b : Point A n) (ls us rest : List (Form A n)) →
      Each (λ f. AtMost F F.zero (here n f b)) (crossed n ls us rest) →
      Each (λ l. Each (λ u. AtMost F (here n l b) (here n u b)) us) ls
      × Each (λ f. AtMost F F.zero (here n f b)) rest
  crossed_tell n b [] us rest holds = (tt, holds)
  crossed_tell n b (l ∷ ls) us rest holds =
      let (first, more) = above_tell n b l us (crossed n ls us rest) holds in
      let (others, after) = crossed_tell n b ls us rest more in
      ((first, others), after)

  -- a number between, if each lower one is at most each upper one
  between : {X : Type 0} (v : X → A) (ls us : List X) →
      Each (λ l. Each (λ u. AtMost F (v l) (v u)) us) ls →
      (a : A) × Each (λ l. AtMost F (v l) a) ls × Each (λ u. AtMost F a (v u)) us
  between v [] [] holds = (F.zero, tt, tt)
  between v [] (u ∷ us) holds =
      let (a, lows, highs) = between v [] us tt in
      ⊎_elim (λ yes. (a, tt, (yes, highs)))
      (λ no. (
        v u,
        tt,
        (
          le_refl F (v u),
          each_map (λ w. AtMost F a (v w)) (λ w. AtMost F (v u) (v w))
              (λ w most. F.transitive (v u) a (v w) (le_of_not F a (v u) no) most) us highs,
        ),
      ))
      (either (F.at_most a (v u)))
  between v (l ∷ ls) us holds =
      let (a, lows, highs) = between v ls us holds.1 in
      ⊎_elim (λ yes. (a, (yes, lows), highs))
      (λ no. (
        v l,
        (
          le_refl F (v l),
          each_map (λ w. AtMost F (v w) a) (λ w. AtMost F (v w) (v l))
              (λ w most. F.transitive (v w) a (v l) most (le_of_not F (v l) a no)) ls lows,
        ),
        holds.0,
      ))
      (either (F.at_most (v l) a))

  -- forms that are at least 0 at y are so at a point of the lesser field
  pub solved : (n : ℕ) (y : Point B n) (fs : List (Form A n)) →
      Each (λ f. AtMost K K.zero (there n f y)) fs →
      (x : Point A n) × Each (λ f. AtMost F F.zero (here n f x)) fs
  solved zero y fs holds = (
    tt,
    each_map (λ f. AtMost K K.zero (image f)) (λ f. AtMost F F.zero f)
        (λ f most. h.reflects F.zero f (subst (λ z. AtMost K z (image f)) (sym h.zero_is) most)) fs
        holds,
  )
  solved (suc n) y fs holds =
      let s = split n fs y.head y.tail holds in
      let (b, tell) = solved n y.tail (crossed n s.lows s.highs s.flats)
      (crossed_hold n y.head y.tail s.lows s.highs s.flats s.lows_hold s.highs_hold s.flats_hold) in
      let (order, flats) = crossed_tell n b s.lows s.highs s.flats tell in
      let (a, lows, highs) = between (λ f. here n f b) s.lows s.highs order in
      (record { head = a; tail = b }, s.back a b lows highs flats)
