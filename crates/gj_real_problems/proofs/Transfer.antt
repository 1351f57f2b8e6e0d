-- What holds at all feasible points of fractions holds at all feasible points of real numbers: an
-- inequality that fails at a real point fails at a fraction point with the same whole numbers.
use Rattle.std.proofs.Common.{◌≡◌, ◌≢◌, ℕ, zero, suc, ℤ, pos, ◌+ℤ◌, Bool, true, false, Option, Some, None, ⊎_elim, List, [], ◌∷◌, ◌++◌, All, IfSome, IsTrue, refl, sym, subst, subst₂, ap, ap₂, ◌∙◌}
use Rattle.std.specs.List.{AllZip}
use Rattle.std.proofs.lemmas.List.Elements.{All-nil, All-cons, All-head, All-tail}
use Rattle.gj_frac.specs.declared.Frac.{Frac}
use Rattle.gj_fields.specs.Fields.{OrderedField, HasFloor, AtMost, whole}
use Rattle.gj_fields.proofs.Ring.{ring, times_zero}
use Rattle.gj_fields.proofs.Ring.Term.{var, nil, unit, neg, ◌⊕◌, ◌⊗◌}
use Rattle.gj_fields.proofs.Order.{either, le_of_eq, le_of_not, times_le, by_one}
use Rattle.gj_fields.proofs.Wholes.{whole_plus}
use Rattle.gj_reals.proofs.AtReals.{inverse_low}
use Rattle.gj_real_cuts.specs.RealRows.{number_of}
use Rattle.gj_fields.specs.Rational as q
use Rattle.gj_fields.specs.Rational.{Rational, rational, ◌≤ℚ◌, IsWholeNumber}
use Rattle.gj_problem.specs.declared.problem.Column.{Column}
use Rattle.gj_problem.specs.declared.problem.Constraint.{Constraint}
use Rattle.gj_problem.specs.declared.problem.Entry.{Entry}
use Rattle.gj_problem.specs.declared.problem.Inequality.{Inequality}
use Rattle.gj_problem.specs.declared.problem.Problem.{Problem}
use Rattle.gj_problem.specs.declared.problem.Sense.{Sense}
use Rattle.gj_problem.specs.declared.problem.Sense.TheVariants as sense
use Rattle.gj_problem.specs.Problems.{IsFeasible, MeetsColumn, Meets, MeetsConstraint, Holds, value_at, sum_at}
use Rattle.gj_real_problems.specs.RealProblems.{real_value_at, real_sum_at, MeetsOver, MeetsRealConstraint, MeetsRealColumn, IsRealFeasible, RealHolds}
use Rattle.gj_real_problems.proofs.Forms.{itself, negative_is, Form, Point, numbers, constant, variable, scaled, sum, difference, value, value_ahead, value_constant, value_variable, value_scaled, value_sum, value_difference}
use Rattle.gj_real_problems.proofs.Elimination.{Each, each_join, each_front, each_back, solved}
use Rattle.gj_fields.proofs.Rationals.{rationals, most_from, most_is}
use Rattle.gj_real_problems.proofs.Images.{image, whole_image, embeds}

-- the sum of the entries as a form
abbrev entries_form : (n : ℕ) → List Entry → Form Rational n
entries_form n [] = constant rationals n (q.whole (pos 0))
entries_form n (e ∷ entries) =
    sum rationals n (scaled rationals n (rational e.value) (variable rationals n e.column))
    (entries_form n entries)

-- the value of a form at a point of rational numbers
abbrev here : (n : ℕ) → Form Rational n → Point Rational n → Rational
here n f x = value rationals (λ a. a) n f x

constant_here : (n : ℕ) (r : Rational) (x : Point Rational n) →
    here n (constant rationals n r) x ≡ r
constant_here n r x = value_constant rationals rationals (λ a. a) (itself rationals) n r x

variable_here : (n j : ℕ) (x : Point Rational n) →
    here n (variable rationals n j) x ≡ value_at (numbers n x) j
variable_here n j x = value_variable rationals rationals (λ a. a) (itself rationals) n j x

sum_here : (n : ℕ) (es : List Entry) (x : Point Rational n) →
    here n (entries_form n es) x ≡ sum_at (numbers n x) es
sum_here n [] x = constant_here n (q.whole (pos 0)) x
sum_here n (e ∷ es) x =
    value_sum rationals rationals (λ a. a) (itself rationals) n _ (entries_form n es) x
    ∙ ap₂ rationals.plus
    (value_scaled rationals rationals (λ a. a) (itself rationals) n (rational e.value)
    (variable rationals n e.column) x
    ∙ ap (rationals.times (rational e.value)) (variable_here n e.column x))
    (sum_here n es x)

module _ {R : Type 0} (K : OrderedField R) (floors : HasFloor K) where
  open K use {plus, times, zero as o, one as e, negative, inverse}

  abbrev there : (n : ℕ) → Form Rational n → Point R n → R
  there n f y = value K (image K) n f y

  constant_there : (n : ℕ) (r : Rational) (y : Point R n) →
      there n (constant rationals n r) y ≡ image K r
  constant_there n r y = value_constant rationals K (image K) (embeds K) n r y

  variable_there : (n j : ℕ) (y : Point R n) →
      there n (variable rationals n j) y ≡ real_value_at K (numbers n y) j
  variable_there n j y = value_variable rationals K (image K) (embeds K) n j y

  sum_there : (n : ℕ) (es : List Entry) (y : Point R n) →
      there n (entries_form n es) y ≡ real_sum_at K (numbers n y) es
  sum_there n [] y = constant_there n (q.whole (pos 0)) y ∙ (embeds K).zero_is
  sum_there n (e ∷ es) y =
      value_sum rationals K (image K) (embeds K) n _ (entries_form n es) y
      ∙ ap₂ plus
      (value_scaled rationals K (image K) (embeds K) n (rational e.value)
      (variable rationals n e.column) y
      ∙ ap (times (image K (rational e.value))) (variable_there n e.column y))
      (sum_there n es y)

  -- ---- conditions that forms tell

  -- forms that are at least 0 at y, and P holds where they are at least 0
  record System (n : ℕ) (y : Point R n) (P : Point Rational n → Type 0) : Type 0 where
    forms : List (Form Rational n)
    hold : Each (λ f. AtMost K o (there n f y)) forms
    tell : (x : Point Rational n) → Each (λ f. AtMost rationals rationals.zero (here n f x)) forms →
        P x

  none : (n : ℕ) (y : Point R n) (P : Point Rational n → Type 0) → ((x : Point Rational n) → P x) →
      System n y P
  none n y P h = record { forms = []; hold = tt; tell = λ x _. h x }

  follows : (n : ℕ) (y : Point R n) (P Q : Point Rational n → Type 0) → System n y P →
      ((x : Point Rational n) → P x → Q x) → System n y Q
  follows n y P Q s h =
      record { forms = s.forms; hold = s.hold; tell = λ x are. h x (s.tell x are) }

  both : (n : ℕ) (y : Point R n) (P Q : Point Rational n → Type 0) → System n y P → System n y Q →
      System n y (λ x. P x × Q x)
  both n y P Q s t = record {
    forms = s.forms ++ t.forms;
    hold = each_join (λ f. AtMost K o (there n f y)) s.forms t.forms s.hold t.hold;
    tell = λ x are. (
      s.tell x (each_front (λ f. AtMost rationals rationals.zero (here n f x)) s.forms t.forms are),
      t.tell x (each_back (λ f. AtMost rationals rationals.zero (here n f x)) s.forms t.forms are),
    );
  }

  -- one form is at most another, whose values are known
  compared : (n : ℕ) (y : Point R n) (f g : Form Rational n) (a b : R) (s t : Point Rational n →
      Rational) →
      there n f y ≡ a → there n g y ≡ b → ((x : Point Rational n) → here n f x ≡ s x) →
      ((x : Point Rational n) → here n g x ≡ t x) → AtMost K a b → System n y (λ x. s x ≤ℚ t x)
  compared n y f g a b s t f_there g_there f_here g_here h = record {
    forms = difference rationals n g f ∷ [];
    hold = (
      subst (AtMost K o)
          (sym (value_difference rationals K (image K) (embeds K) n g f y
          ∙ ap₂ (λ v w. plus v (negative w)) g_there f_there))
          (by_one K (a ∷ b ∷ []) nil (var 1 ⊕ neg (var 0)) (var 0) (var 1) h refl),
      tt,
    );
    tell = λ x are. most_from (s x) (t x)
        (by_one rationals (s x ∷ t x ∷ []) (var 0) (var 1) nil (var 1 ⊕ neg (var 0))
        (subst (AtMost rationals rationals.zero)
        (value_difference rationals rationals (λ a. a) (itself rationals) n g f x
        ∙ ap₂ (λ v w. rationals.plus v (rationals.negative w)) (g_here x) (f_here x)) are.0) refl);
  }

  -- of the variables behind the first
  abbrev lifted : (n : ℕ) → List (Form Rational n) → List (Form Rational (suc n))
  lifted n [] = []
  lifted n (f ∷ fs) = record { head = rationals.zero; tail = f } ∷ lifted n fs

  lifted_hold : (n : ℕ) (y : Point R (suc n)) (fs : List (Form Rational n)) →
      Each (λ f. AtMost K o (there n f y.tail)) fs →
      Each (λ f. AtMost K o (there (suc n) f y)) (lifted n fs)
  lifted_hold n y [] h = tt
  lifted_hold n y (f ∷ fs) h = (
    subst (AtMost K o) (sym (value_ahead rationals K (image K) (embeds K) n f y.head y.tail)) h.0,
    lifted_hold n y fs h.1,
  )

  lifted_tell : (n : ℕ) (x : Point Rational (suc n)) (fs : List (Form Rational n)) →
      Each (λ f. AtMost rationals rationals.zero (here (suc n) f x)) (lifted n fs) →
      Each (λ f. AtMost rationals rationals.zero (here n f x.tail)) fs
  lifted_tell n x [] h = tt
  lifted_tell n x (f ∷ fs) h = (
    subst (AtMost rationals rationals.zero)
        (value_ahead rationals rationals (λ a. a) (itself rationals) n f x.head x.tail) h.0,
    lifted_tell n x fs h.1,
  )

  behind : (n : ℕ) (y : Point R (suc n)) (P : Point Rational n → Type 0) → System n y.tail P →
      System (suc n) y (λ x. P x.tail)
  behind n y P s = record {
    forms = lifted n s.forms;
    hold = lifted_hold n y s.forms s.hold;
    tell = λ x are. s.tell x.tail (lifted_tell n x s.forms are);
  }

  -- ---- columns

  from_below : (n : ℕ) (y : Point R (suc n)) (r : Rational) → AtMost K (image K r) y.head →
      System (suc n) y (λ x. r ≤ℚ x.head)
  from_below n y r =
      compared (suc n) y (constant rationals (suc n) r) (variable rationals (suc n) 0)
      (image K r) y.head
      (λ x. r) (λ x. x.head) (constant_there (suc n) r y) (variable_there (suc n) 0 y)
      (constant_here (suc n) r) (variable_here (suc n) 0)

  from_above : (n : ℕ) (y : Point R (suc n)) (r : Rational) → AtMost K y.head (image K r) →
      System (suc n) y (λ x. x.head ≤ℚ r)
  from_above n y r =
      compared (suc n) y (variable rationals (suc n) 0) (constant rationals (suc n) r) y.head
      (image K r)
      (λ x. x.head) (λ x. r) (variable_there (suc n) 0 y) (constant_there (suc n) r y)
      (variable_here (suc n) 0) (constant_here (suc n) r)

  lower_bound : (n : ℕ) (y : Point R (suc n)) (l : Option Frac) →
      IfSome l (λ l. AtMost K (number_of K l) y.head) →
      System (suc n) y (λ x. IfSome l (λ l. rational l ≤ℚ x.head))
  lower_bound n y None h = none (suc n) y _ (λ x. tt)
  lower_bound n y (Some l) h = from_below n y (rational l) h

  upper_bound : (n : ℕ) (y : Point R (suc n)) (u : Option Frac) →
      IfSome u (λ u. AtMost K y.head (number_of K u)) →
      System (suc n) y (λ x. IfSome u (λ u. x.head ≤ℚ rational u))
  upper_bound n y None h = none (suc n) y _ (λ x. tt)
  upper_bound n y (Some u) h = from_above n y (rational u) h

  whole_number : (n : ℕ) (y : Point R (suc n)) (b : Bool) →
      (IsTrue b → (z : ℤ) × (y.head ≡ whole K z)) →
      System (suc n) y (λ x. IsTrue b → IsWholeNumber x.head)
  whole_number n y true h =
      let (z, is) = h refl in
      let there_is : y.head ≡ image K (q.whole z) = is ∙ sym (whole_image K z) in
      follows (suc n) y _ _
      (both (suc n) y _ _
      (from_below n y (q.whole z) (le_of_eq K _ _ (sym there_is)))
      (from_above n y (q.whole z) (le_of_eq K _ _ there_is)))
      (λ x (low, high) _. (
        z,
        rationals.antisymmetric x.head (q.whole z) (most_is _ _ high)
            (most_is _ _ low),
      ))
  whole_number n y false h =
      none (suc n) y _ (λ x flag. absurd (let same : false ≡ true = flag in cc))

  column : (n : ℕ) (y : Point R (suc n)) (c : Column) → MeetsRealColumn K c y.head →
      System (suc n) y (λ x. MeetsColumn c x.head)
  column n y c h =
      follows (suc n) y _ _
      (both (suc n) y _ _ (whole_number n y c.is_whole h.is_whole)
      (both (suc n) y _ _ (lower_bound n y c.lower h.lower) (upper_bound n y c.upper h.upper)))
      (λ x are. record { is_whole = are.0; lower = are.1.0; upper = are.1.1 })

  columns : (n : ℕ) (y : Point R n) (cs : List Column) →
      AllZip (MeetsRealColumn K) cs (numbers n y) →
      System n y (λ x. AllZip MeetsColumn cs (numbers n x))
  columns zero y [] h = none zero y _ (λ x. tt)
  columns zero y (c ∷ cs) h = absurd h
  columns (suc n) y [] h = absurd h
  columns (suc n) y (c ∷ cs) h =
      both (suc n) y _ _ (column n y c h.0)
      (behind n y (λ x. AllZip MeetsColumn cs (numbers n x)) (columns n y.tail cs h.1))

  -- ---- constraints

  sum_below : (n : ℕ) (y : Point R n) (es : List Entry) (r : Rational) →
      AtMost K (real_sum_at K (numbers n y) es) (image K r) →
      System n y (λ x. sum_at (numbers n x) es ≤ℚ r)
  sum_below n y es r =
      compared n y (entries_form n es) (constant rationals n r) (real_sum_at K (numbers n y) es)
      (image K r)
      (λ x. sum_at (numbers n x) es) (λ x. r) (sum_there n es y) (constant_there n r y)
      (sum_here n es) (constant_here n r)

  sum_above : (n : ℕ) (y : Point R n) (es : List Entry) (r : Rational) →
      AtMost K (image K r) (real_sum_at K (numbers n y) es) →
      System n y (λ x. r ≤ℚ sum_at (numbers n x) es)
  sum_above n y es r =
      compared n y (constant rationals n r) (entries_form n es) (image K r)
      (real_sum_at K (numbers n y) es)
      (λ x. r) (λ x. sum_at (numbers n x) es) (constant_there n r y) (sum_there n es y)
      (constant_here n r) (sum_here n es)

  constraint : (n : ℕ) (y : Point R n) (s : Sense) (es : List Entry) (right : Frac) →
      MeetsOver K s (real_sum_at K (numbers n y) es) (number_of K right) →
      System n y (λ x. Meets s (sum_at (numbers n x) es) (rational right))
  constraint n y sense.AtMost es right h = sum_below n y es (rational right) h
  constraint n y sense.AtLeast es right h = sum_above n y es (rational right) h
  constraint n y sense.Equal es right h =
      follows n y _ _
      (both n y _ _ (sum_below n y es (rational right) (le_of_eq K _ _ h))
      (sum_above n y es (rational right) (le_of_eq K _ _ (sym h))))
      (λ x (high, low). rationals.antisymmetric _ _ (most_is _ _ high) (most_is _ _ low))

  constraints : (n : ℕ) (y : Point R n) (cs : List Constraint) →
      All (MeetsRealConstraint K (numbers n y)) cs →
      System n y (λ x. All (MeetsConstraint (numbers n x)) cs)
  constraints n y [] h = none n y _ (λ x. All-nil (MeetsConstraint (numbers n x)))
  constraints n y (c ∷ cs) h =
      follows n y _ _
      (both n y _ _
      (constraint n y c.sense c.entries c.right
      (All-head (MeetsRealConstraint K (numbers n y)) c cs h))
      (constraints n y cs (All-tail (MeetsRealConstraint K (numbers n y)) c cs h)))
      (λ x are. All-cons (MeetsConstraint (numbers n x)) c cs are.0 are.1)

  -- ---- points

  -- a feasible point where the sum is at most r
  record Found (p : Problem) (es : List Entry) (r : Rational) : Type 0 where
    point : List Rational
    feasible : IsFeasible p point
    most : sum_at point es ≤ℚ r

  found : (n : ℕ) (y : Point R n) (p : Problem) (es : List Entry) (r : Rational) →
      IsRealFeasible K p (numbers n y) →
      AtMost K (real_sum_at K (numbers n y) es) (image K r) → Found p es r
  found n y p es r h below =
      let s = both n y _ _ (columns n y p.columns h.columns)
      (both n y _ _ (constraints n y p.constraints h.constraints) (sum_below n y es r below)) in
      let (x, are) = solved rationals K (image K) (embeds K) n y s.forms s.hold in
      let told = s.tell x are in
      record {
        point = numbers n x;
        feasible = record { columns = told.0; constraints = told.1.0 };
        most = told.1.1;
      }

  record Numbered (point : List R) : Type 0 where
    count : ℕ
    same : Point R count
    is : numbers count same ≡ point

  numbered : (point : List R) → Numbered point
  numbered [] = record { count = 0; same = tt; is = refl }
  numbered (x ∷ xs) =
      let rest = numbered xs in
      record {
        count = suc rest.count;
        same = record { head = x; tail = rest.same };
        is =
            ap (λ l. x ∷ l) rest.is;
      }

  -- ---- a rational number between

  record Between (s : R) (r : Rational) : Type 0 where
    middle : Rational
    most : AtMost K s (image K middle)
    less : AtMost rationals r middle → ⊥

  between : (s : R) (r : Rational) → K.at_most (image K r) s ≡ false → Between s r
  between s r other =
      let d = plus (image K r) (negative s) in
      let d_low : AtMost K o d =
      by_one K (s ∷ image K r ∷ []) nil (var 1 ⊕ neg (var 0)) (var 0) (var 1)
      (le_of_not K (image K r) s other) refl in
      let d_some : d ≢ o = λ same.
      let most : AtMost K (image K r) s =
      by_one K (s ∷ image K r ∷ []) (var 1) (var 0) (var 1 ⊕ neg (var 0)) nil
      (le_of_eq K d o same) refl in
      let no : true ≡ false = sym most ∙ other in cc in
      let i = inverse d in
      let i_low : AtMost K o i = inverse_low K d d_low d_some in
      let z = floors.floor i in
      let w = q.whole (z +ℤ pos 1) in
      let w_is : image K w ≡ plus (whole K z) e =
      whole_image K (z +ℤ pos 1) ∙ whole_plus K z (pos 1)
      ∙ ap (plus (whole K z)) (ring K [] (nil ⊕ unit) unit refl) in
      let i_most : AtMost K i (image K w) =
      subst (AtMost K i) (sym w_is)
      (⊎_elim (λ yes. absurd (floors.high i yes))
      (λ under. le_of_not K (plus (whole K z) e) i under)
      (either (K.at_most (plus (whole K z) e) i))) in
      let w_low : AtMost rationals rationals.zero w =
      (embeds K).reflects rationals.zero w
      (subst (λ x. AtMost K x (image K w)) (sym (embeds K).zero_is)
      (K.transitive o i (image K w) i_low i_most)) in
      let w_some : w ≢ rationals.zero = λ same.
      let high : AtMost K i o =
      subst (AtMost K i) (ap (image K) same ∙ (embeds K).zero_is) i_most in
      let none : i ≡ o = K.antisymmetric i o high i_low in
      K.different (sym (K.times_inverse d d_some) ∙ ap (times d) none ∙ times_zero K d) in
      let j = rationals.inverse w in
      let j_low : AtMost rationals rationals.zero j = inverse_low rationals w w_low w_some in
      let j_there : AtMost K o (image K j) =
      subst (λ x. AtMost K x (image K j)) (embeds K).zero_is
      ((embeds K).keeps rationals.zero j j_low) in
      let one : times (image K w) (image K j) ≡ e =
      sym ((embeds K).times_is w j) ∙ ap (image K) (rationals.times_inverse w w_some)
      ∙ (embeds K).one_is in
      let j_most : AtMost K (image K j) d =
      subst₂ (AtMost K)
      (ap (λ x. times x (image K j)) (K.times_commutes i d ∙ K.times_inverse d d_some)
      ∙ ring K (image K j ∷ []) (unit ⊗ var 0) (var 0) refl)
      (ring K (image K w ∷ d ∷ image K j ∷ []) (var 0 ⊗ var 1 ⊗ var 2)
      (var 1 ⊗ (var 0 ⊗ var 2)) refl
      ∙ ap (times d) one ∙ K.times_one d)
      (times_le K (times i d) (times (image K w) d) (image K j) j_there
      (times_le K i (image K w) d d_low i_most)) in
      record {
        middle = rationals.plus r (rationals.negative j);
        most = subst (AtMost K s)
            (sym ((embeds K).plus_is r (rationals.negative j)
            ∙ ap (plus (image K r)) (negative_is rationals K (image K) (embeds K) j)))
            (by_one K (s ∷ image K r ∷ image K j ∷ []) (var 0) (var 1 ⊕ neg (var 2)) (var 2)
            (var 1 ⊕ neg (var 0)) j_most refl);
        less = λ most.
            let high : AtMost rationals j rationals.zero =
            by_one rationals (r ∷ j ∷ []) (var 1) nil (var 0) (var 0 ⊕ neg (var 1)) most refl in
            let none : j ≡ rationals.zero = rationals.antisymmetric j rationals.zero high j_low in
            rationals.different
            (sym (rationals.times_inverse w w_some) ∙ ap (rationals.times w) none
            ∙ times_zero rationals w);
      }

  pub transferred : (p : Problem) (q : Inequality) → Holds p q → RealHolds K p q
  transferred p q holds point feasible =
      let l = numbered point in
      ⊎_elim (λ yes. yes)
      (λ other.
      let m = between (real_sum_at K point q.entries) (rational q.right) other in
      let f = found l.count l.same p q.entries m.middle
      (subst (IsRealFeasible K p) (sym l.is) feasible)
      (subst (λ (x : List R). AtMost K (real_sum_at K x q.entries) (image K m.middle))
      (sym l.is) m.most) in
      absurd (m.less (rationals.transitive (rational q.right) (sum_at f.point q.entries) m.middle
      (most_is _ _ (holds f.point f.feasible)) (most_is _ _ f.most))))
      (either (K.at_most (number_of K q.right) (real_sum_at K point q.entries)))
