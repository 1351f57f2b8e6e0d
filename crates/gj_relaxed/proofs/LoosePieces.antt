-- What becomes of whole pieces with small entries adds the same at each point, holds, and is one
-- thing.
use Rattle.std.proofs.Common.{◌≡◌, ⊎_elim, ℕ, zero, suc, ◌<◌, false, pos, ◌*ℤ◌, All, List, [], ◌∷◌, length, get_or, refl, sym, ap, ap₂, subst, ◌∙◌, arith}
use Rattle.std.specs.List.{AllZip}
use Rattle.std.proofs.lemmas.Int.{ints}
use Rattle.std.proofs.lemmas.List.Elements.{All-cons, All-head, All-tail}
use Rattle.gj_frac.specs.declared.Frac.{Frac}
use Rattle.gj_frac.specs.Fits.{FitsProduct}
use Rattle.gj_frac.specs.Fraction.{IsRatio}
use Rattle.gj_fields.specs.Rational.{Rational, whole, rational, ◌+ℚ◌, ◌*ℚ◌}
use Rattle.gj_problem.proofs.Numerators.{ratio_whole}
use Rattle.gj_fields.proofs.RationalLaws.{equal_q, product_is, mul_comm_q, one_mul_q, zero_mul_q, whole_injective}
use Rattle.gj_fields.proofs.RationalOrder.{IsNonnegativeQ, nonnegative_whole, nonnegative_mul, nonnegative_cancel, difference_nonnegative}
use Rattle.gj_fields.proofs.RationalRing.{by_ring_q, ring_q}
use Rattle.gj_problem.specs.declared.problem.Entry.{Entry}
use Rattle.gj_problem.specs.declared.problem.Inequality.{Inequality}
use Rattle.gj_problem.specs.declared.problem.Problem.{Problem}
use Rattle.gj_problem.specs.declared.pieces.Piece.{Piece}
use Rattle.gj_problem.specs.Problems.{sum_at, surplus_at}
use Rattle.gj_problem.specs.Rows.{IsMultiple}
use Rattle.gj_problem.specs.Aggregates.{pieces_at, IsSound, AddsUpAt}
use Rattle.gj_problem.proofs.HeldInequalities.{from_surplus}
use Rattle.gj_problem.proofs.MadePieces.{zip_one}
use Rattle.gj_problem.proofs.OneColumn.{IsTimes, multiple_surplus}
use Rattle.gj_problem.proofs.OneRow.{same_entry, same_piece}
use Rattle.gj_problem.proofs.OneRounding.{same_inequality}
use Rattle.gj_relaxed.specs.LoosePieces.{IsLoose, IsLoosened}

-- ---- it adds the same

regrouped : (n e k v : Rational) → (n *ℚ e) *ℚ (k *ℚ v) ≡ (n *ℚ k) *ℚ (e *ℚ v)
regrouped n e k v = by_ring_q (n ∷ e ∷ k ∷ v ∷ []) (search ring_q depth 40) refl

loose_term : (n : ℕ) (point : List Rational) (s t : Piece) → IsLoose n s t →
    rational t.entry *ℚ surplus_at point t.inequality
    ≡ rational s.entry *ℚ surplus_at point s.inequality
loose_term n point s t h =
    let e = rational s.entry in
    let v = surplus_at point s.inequality in
    ap₂ (λ x y. x *ℚ y) h.entry
    (multiple_surplus point h.part s.inequality.entries s.inequality.right t.inequality
    h.inequality)
    ∙ regrouped (whole (pos n)) e h.part v ∙ ap (λ w. w *ℚ (e *ℚ v)) h.part_is ∙ one_mul_q (e *ℚ v)

loosened_term : (n : ℕ) (point : List Rational) (s t : Piece) → IsLoosened n s t →
    rational t.entry *ℚ surplus_at point t.inequality
    ≡ rational s.entry *ℚ surplus_at point s.inequality
loosened_term n point s t h =
    ⊎_elim (λ (loose : IsLoose n s t). loose_term n point s t loose)
    (λ (kept : ((u : Piece) → IsLoose n s u → ⊥) × (t ≡ s)).
    ap (λ (u : Piece). rational u.entry *ℚ surplus_at point u.inequality) kept.1)
    h

pub loosened_at : (n : ℕ) (point : List Rational) (ps ls : List Piece) →
    AllZip (IsLoosened n) ps ls → pieces_at point ls ≡ pieces_at point ps
loosened_at n point [] [] h = refl
loosened_at n point [] (l ∷ ls) h = absurd h
loosened_at n point (s ∷ ps) [] h = absurd h
loosened_at n point (s ∷ ps) (l ∷ ls) h = ap₂ (λ x y. x +ℚ y) (loosened_term n point s l h.0)
    (loosened_at n point ps ls h.1)

pub loosened_adds_up : (n : ℕ) (point : List Rational) (ps ls : List Piece) (right : Frac) →
    AllZip (IsLoosened n) ps ls →
    AddsUpAt point ps right → AddsUpAt point ls right
loosened_adds_up n point ps ls right h (z, adds) =
    (z, ap (λ x. x +ℚ whole z) (loosened_at n point ps ls h) ∙ adds)

-- ---- it holds

-- 1/n is at least 0
part_low : (n : ℕ) (k : Rational) → whole (pos n) *ℚ k ≡ whole (pos 1) → IsNonnegativeQ k
part_low zero k is = let no : pos 0 ≡ pos 1 =
    whole_injective (pos 0) (pos 1) (sym (zero_mul_q k) ∙ is) in absurd (cc)
part_low (suc n) k is =
    nonnegative_cancel (suc n) k (omega arith)
    (subst IsNonnegativeQ (sym is) (nonnegative_whole (pos 1) (omega (arith, ints))))

loose_sound : (n : ℕ) (p : Problem) (s t : Piece) → IsLoose n s t → IsSound p s → IsSound p t
loose_sound n p s t h sound = record {
  holds = from_surplus p t.inequality
      (λ point feasible.
      subst IsNonnegativeQ
      (sym (multiple_surplus point h.part s.inequality.entries s.inequality.right t.inequality
      h.inequality))
      (nonnegative_mul h.part (surplus_at point s.inequality) (part_low n h.part h.part_is)
      (difference_nonnegative (rational s.inequality.right) (sum_at point s.inequality.entries)
      (sound.holds point feasible))));
  is_whole = λ flag. let none : t.is_whole ≡ false = h.is_whole in absurd (cc);
}

loosened_sound_piece : (n : ℕ) (p : Problem) (s t : Piece) → IsLoosened n s t → IsSound p s →
    IsSound p t
loosened_sound_piece n p s t h sound =
    ⊎_elim (λ (loose : IsLoose n s t). loose_sound n p s t loose sound)
    (λ (kept : ((u : Piece) → IsLoose n s u → ⊥) × (t ≡ s)). subst (IsSound p) (sym kept.1) sound)
    h

pub loosened_sound : (n : ℕ) (p : Problem) (ps ls : List Piece) → AllZip (IsLoosened n) ps ls →
    All (IsSound p) ps → All (IsSound p) ls
loosened_sound n p [] [] h sound = sound
loosened_sound n p [] (l ∷ ls) h sound = absurd h
loosened_sound n p (s ∷ ps) [] h sound = absurd h
loosened_sound n p (s ∷ ps) (l ∷ ls) h sound =
    All-cons (IsSound p) l ls (loosened_sound_piece n p s l h.0 (All-head (IsSound p) s ps sound))
    (loosened_sound n p ps ls h.1 (All-tail (IsSound p) s ps sound))

-- ---- it is one

swapped : (n k l : Rational) → (n *ℚ l) *ℚ k ≡ (n *ℚ k) *ℚ l
swapped n k l = by_ring_q (n ∷ k ∷ l ∷ []) (search ring_q depth 40) refl

pub one_part : (n k l : Rational) → n *ℚ k ≡ whole (pos 1) → n *ℚ l ≡ whole (pos 1) → k ≡ l
one_part n k l k_is l_is =
    sym (one_mul_q k) ∙ ap (λ w. w *ℚ k) (sym l_is) ∙ swapped n k l ∙ ap (λ w. w *ℚ l) k_is
    ∙ one_mul_q l

pub same_multiple : (x : Rational) (es : List Entry) (right : Frac) (q r : Inequality) →
    IsMultiple x es right q → IsMultiple x es right r → q ≡ r
same_multiple x es right q r h k =
    same_inequality q r
    (zip_one (IsTimes x)
    (λ e f g f_is g_is. same_entry f g (f_is.0 ∙ sym g_is.0) (f_is.1 ∙ sym g_is.1)) es q.entries
    r.entries
    h.entries_are k.entries_are)
    (h.right_is ∙ sym k.right_is)

one_loose : (n : ℕ) (s t u : Piece) → IsLoose n s t → IsLoose n s u → t ≡ u
one_loose n s t u h k =
    let parts : k.part ≡ h.part = one_part (whole (pos n)) k.part h.part k.part_is h.part_is in
    let same : t.inequality ≡ u.inequality =
    same_multiple h.part s.inequality.entries s.inequality.right t.inequality u.inequality
    h.inequality
    (subst (λ (x : Rational). IsMultiple x s.inequality.entries s.inequality.right u.inequality)
    parts k.inequality) in
    same_piece t u (h.is_whole ∙ sym k.is_whole) (h.entry ∙ sym k.entry)
    (ap (λ (q : Inequality). q.entries) same)
    (ap (λ (q : Inequality). rational q.right) same)

one_loosened : (n : ℕ) (s t u : Piece) → IsLoosened n s t → IsLoosened n s u → t ≡ u
one_loosened n s t u h k =
    ⊎_elim
    (λ (x : IsLoose n s t).
    ⊎_elim (λ (y : IsLoose n s u). one_loose n s t u x y)
    (λ (y : ((v : Piece) → IsLoose n s v → ⊥) × (u ≡ s)). absurd (y.0 t x)) k)
    (λ (x : ((v : Piece) → IsLoose n s v → ⊥) × (t ≡ s)).
    ⊎_elim (λ (y : IsLoose n s u). absurd (x.0 u y))
    (λ (y : ((v : Piece) → IsLoose n s v → ⊥) × (u ≡ s)). x.1 ∙ sym y.1) k)
    h

pub one_loosened_list : (n : ℕ) (ps ls ms : List Piece) → AllZip (IsLoosened n) ps ls →
    AllZip (IsLoosened n) ps ms → ls ≡ ms
one_loosened_list n = zip_one (IsLoosened n) (one_loosened n)

-- ---- what is computed

-- n times 1/n is 1
pub part_times : (x : Frac) (n : ℕ) → IsRatio x (pos 1) (pos n) →
    whole (pos n) *ℚ rational x ≡ whole (pos 1)
unfolding whole
part_times x n h =
    let p = rational x *ℚ whole (pos n) in
    mul_comm_q (whole (pos n)) (rational x)
    ∙ equal_q p (whole (pos 1))
    (ratio_whole p.top p.bottom x.num x.den (pos n) (pos 1) x.lowest.positive
    (product_is (rational x) (whole (pos n))) h)

-- a product that is there fits
pub product_fits : (x y z : Frac) → rational z ≡ rational x *ℚ rational y → FitsProduct x y
product_fits x y z is = (
  z,
  subst (λ (q : Rational). q.top *ℤ (x.den *ℤ y.den) ≡ (x.num *ℤ y.num) *ℤ q.bottom) (sym is)
      (product_is (rational x) (rational y)),
)

zip_at : {A B : Type 0} (R : A → B → Type 0) (xs : List A) (ys : List B) (i : ℕ) (d : A) →
    i < length xs → AllZip R xs ys → (y : B) × R (get_or xs i d) y
zip_at R [] ys i d below h = absurd (omega arith)
zip_at R (x ∷ xs) [] i d below h = absurd h
zip_at R (x ∷ xs) (y ∷ ys) zero d below h = (y, h.0)
zip_at R (x ∷ xs) (y ∷ ys) (suc i) d below h = zip_at R xs ys i d (omega arith) h.1

pub entry_fits : (x : Frac) (es fs : List Entry) (i : ℕ) (e : Entry) → i < length es →
    e ≡ get_or es i e → AllZip (IsTimes (rational x)) es fs →
    FitsProduct x e.value
entry_fits x es fs i e below here h =
    let (f, is) = zip_at (IsTimes (rational x)) es fs i e below h in
    subst (λ (d : Entry). FitsProduct x d.value) (sym here)
    (product_fits x (get_or es i e).value f.value is.1)
