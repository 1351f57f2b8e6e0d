-- Sums to which the inequalities of pieces are added.
use Rattle.std.proofs.Common.{◌≡◌, ℕ, ◌+◌, ◌<◌, ◌≤◌, List, [], ◌∷◌, ◌++◌, length, get_or, take, pos, append_assoc, refl, sym, ap, ap₂, subst, ◌∙◌}
use Rattle.std.specs.List.{AllZip}
use Rattle.std.proofs.lemmas.List.{take_more, take_all}
use Rattle.gj_frac.specs.declared.Frac.{Frac}
use Rattle.gj_cut.proofs.RowTerms.{zip_longer}
use Rattle.gj_fields.specs.Rational.{Rational, whole, rational, ◌+ℚ◌, ◌*ℚ◌, ◌-ℚ◌}
use Rattle.gj_fields.proofs.RationalLaws.{zero_add_q, add_assoc_q}
use Rattle.gj_fields.proofs.RationalRing.{by_ring_q, ring_q}
use Rattle.gj_problem.specs.declared.pieces.Piece.{Piece}
use Rattle.gj_problem.specs.Problems.{surplus_at}
use Rattle.gj_problem.specs.Aggregates.{combined_at}
use Rattle.gj_problem.proofs.AddedSums.{add_zero_q}
use Rattle.gj_problem.proofs.MadePieces.{zip_joined}
use Rattle.gj_problem.specs.Rows.{dot}
use Rattle.gj_safe_cut.specs.SafeCuts.{IsCoefficient, IsWideSumOfTerms}
use Rattle.gj_safe_cut.specs.AddedTerms.{surplus_of, AreAdded, IsWideAdding}

-- ---- two lists of pieces

pub combined_joined : (R : Piece → Frac → Type 0) (point : List Rational) (ps qs : List Piece)
    (ks ls : List Frac) → AllZip R ps ks →
    combined_at point (ks ++ ls) (ps ++ qs) ≡ combined_at point ks ps +ℚ combined_at point ls qs
combined_joined R point [] qs [] ls h = sym (zero_add_q (combined_at point ls qs))
combined_joined R point [] qs (k ∷ ks) ls h = absurd h
combined_joined R point (s ∷ ps) qs [] ls h = absurd h
combined_joined R point (s ∷ ps) qs (k ∷ ks) ls h =
    let x = rational k *ℚ surplus_at point s.inequality in
    ap (λ w. x +ℚ w) (combined_joined R point ps qs ks ls h.1)
    ∙ sym (add_assoc_q x (combined_at point ks ps) (combined_at point ls qs))

-- ---- one more piece

pub none_added : (R : Piece → Frac → Type 0) (old : List Rational → Rational) →
    AreAdded R [] old old
none_added R old = record {
  coefficients = [];
  given = tt;
  adds =
      λ (point : List Rational). add_zero_q (old point);
}

last_term : (x a y : Rational) → (x +ℚ a) +ℚ y ≡ x +ℚ (a +ℚ (y +ℚ whole (pos 0)))
last_term x a y = by_ring_q (x ∷ a ∷ y ∷ []) (search ring_q depth 40) refl

pub one_added : (R : Piece → Frac → Type 0) (ps : List Piece) (i : ℕ) (s : Piece) (k : Frac)
    (old now next : List Rational → Rational) → i < length ps →
    s ≡ get_or ps i s → AreAdded R (take i ps) old now → R s k →
    ((point : List Rational) →
    next point ≡ now point +ℚ rational k *ℚ surplus_at point s.inequality) →
    AreAdded R (take (i + 1) ps) old next
one_added R ps i s k old now next below here h given adds =
    let more : take (i + 1) ps ≡ take i ps ++ s ∷ [] = take_more ps i s below
    ∙ ap (λ (z : Piece). take i ps ++ z ∷ []) (sym here) in
    record {
      coefficients = h.coefficients ++ k ∷ [];
      given = subst (λ (qs : List Piece). AllZip R qs (h.coefficients ++ k ∷ [])) (sym more)
          (zip_longer R (take i ps) h.coefficients s k h.given given);
      adds = λ (point : List Rational).
          let y = rational k *ℚ surplus_at point s.inequality in
          adds point ∙ ap (λ w. w +ℚ y) (h.adds point)
          ∙ last_term (old point) (combined_at point h.coefficients (take i ps)) y
          ∙ ap (λ w. old point +ℚ w)
          (sym (ap (λ (qs : List Piece). combined_at point (h.coefficients ++ k ∷ []) qs) more
          ∙ combined_joined R point (take i ps) (s ∷ []) h.coefficients (k ∷ []) h.given));
    }

pub all_added : (R : Piece → Frac → Type 0) (ps : List Piece) (i : ℕ) (old new : List Rational →
    Rational) → length ps ≤ i → AreAdded R (take i ps) old new →
    AreAdded R ps old new
all_added R ps i old new end h =
    subst (λ (qs : List Piece). AreAdded R qs old new) (take_all i ps end) h

-- ---- against 1

pub against_one : (a b start x y q : Rational) → start ≡ whole (pos 0) -ℚ whole (pos 1) →
    x ≡ start +ℚ a → y ≡ x +ℚ b → q ≡ y →
    q ≡ (a +ℚ b) -ℚ whole (pos 1)
against_one a b start x y q start_is x_is y_is q_is =
    q_is ∙ y_is ∙ ap (λ w. w +ℚ b) (x_is ∙ ap (λ v. v +ℚ a) start_is) ∙ grouped a b
  where
    grouped : (a b : Rational) → ((whole (pos 0) -ℚ whole (pos 1)) +ℚ a) +ℚ b
        ≡ (a +ℚ b) -ℚ whole (pos 1)
    grouped a b = by_ring_q (a ∷ b ∷ []) (search ring_q depth 40) refl

pub against_first : (a x start : Rational) → start ≡ whole (pos 0) -ℚ whole (pos 1) →
    x ≡ start +ℚ a → x ≡ a -ℚ whole (pos 1)
against_first a x start start_is x_is = x_is ∙ ap (λ v. v +ℚ a) start_is ∙ grouped a
  where
    grouped : (a : Rational) → (whole (pos 0) -ℚ whole (pos 1)) +ℚ a ≡ a -ℚ whole (pos 1)
    grouped a = by_ring_q (a ∷ []) (search ring_q depth 40) refl

-- ---- where a number does not fit

-- nothing in n columns, against 1
pub record IsBegun (n m : ℕ) (start : List Rational → Rational) : Type 0 where
  pub count : m ≡ n
  pub starts : (point : List Rational) → start point ≡ whole (pos 0) -ℚ whole (pos 1)

pub begun : (n : ℕ) (cs : List Frac) (r : Frac) → length cs ≡ n →
    ((point : List Rational) → dot cs point ≡ whole (pos 0)) →
    rational r ≡ whole (pos 1) → IsBegun n (length cs) (surplus_of cs r)
begun n cs r count none right_is = record {
  count = count;
  starts = λ (point : List Rational). ap₂ (λ v x. v -ℚ x) (none point) right_is;
}

pub wide_in_first : (IsValue : Frac → Frac → Type 0) (IsOut : Frac → Type 0) (up down : Frac)
    (n m : ℕ) (ps qs : List Piece)
    (start : List Rational → Rational) → IsBegun n m start →
    IsWideAdding IsValue IsOut up down ps m start →
    IsWideSumOfTerms IsValue IsOut up down n (ps ++ qs)
wide_in_first IsValue IsOut up down n m ps qs start begun w = record {
  before = w.before;
  next = w.next;
  after = w.after ++ qs;
  place = ap (λ (xs : List Piece). xs ++ qs) w.place ∙ append_assoc w.before (w.next ∷ w.after) qs;
  coefficients = w.coefficients;
  given = w.given;
  sum = w.sum;
  right = w.right;
  count = w.count ∙ begun.count;
  adds = λ (point : List Rational).
      against_first (combined_at point w.coefficients w.before)
      (dot w.sum point -ℚ rational w.right) (start point) (begun.starts point)
      (w.adds point);
  wide = w.wide;
}

pub wide_in_second : (IsValue : Frac → Frac → Type 0) (IsOut : Frac → Type 0) (up down : Frac)
    (n m : ℕ) (ps qs : List Piece)
    (start middle : List Rational → Rational) → IsBegun n m start →
    AreAdded (IsCoefficient IsValue up down) ps start middle →
    IsWideAdding IsValue IsOut up down qs m middle →
    IsWideSumOfTerms IsValue IsOut up down n (ps ++ qs)
wide_in_second IsValue IsOut up down n m ps qs start middle begun first w =
    let R : Piece → Frac → Type 0 = IsCoefficient IsValue up down in
    record {
      before = ps ++ w.before;
      next = w.next;
      after = w.after;
      place = ap (λ (xs : List Piece). ps ++ xs) w.place
          ∙ sym (append_assoc ps w.before (w.next ∷ w.after));
      coefficients = first.coefficients ++ w.coefficients;
      given = zip_joined R ps w.before first.coefficients w.coefficients first.given w.given;
      sum = w.sum;
      right = w.right;
      count = w.count ∙ begun.count;
      adds = λ (point : List Rational).
          let a = combined_at point first.coefficients ps in
          let b = combined_at point w.coefficients w.before in
          let reached = dot w.sum point -ℚ rational w.right in
          against_one a b (start point) (middle point) reached reached (begun.starts point)
          (first.adds point) (w.adds point) refl
          ∙ ap (λ z. z -ℚ whole (pos 1))
          (sym (combined_joined R point ps w.before first.coefficients w.coefficients
          first.given));
      wide = w.wide;
    }
