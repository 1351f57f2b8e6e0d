-- A problem and its multipliers make one row: its slacks and its turned columns.
use Rattle.std.proofs.Common.{◌≡◌, ◌↔◌, ◌<◌, ℕ, List, [], ◌∷◌, ◌++◌, map, Bool, true, false, IsTrue, pos, neg_ℤ, refl, sym, ap, ap₂, subst, ◌∙◌, arith}
use Rattle.std.proofs.lemmas.Nat.Gcd.{dvd_antisymm}
use Rattle.std.specs.List.{AllZip}
use Rattle.std.proofs.lemmas.Int.{ints}
use Rattle.gj_frac.specs.declared.Frac.{Frac}
use Rattle.gj_shape.proofs.LeastDenominator.{least_common_some}
use Rattle.gj_fields.specs.Rational.{Rational, whole, rational, ◌*ℚ◌, neg_ℚ, ◌≤ℚ◌}
use Rattle.gj_fields.proofs.RationalLaws.{whole_neg, neg_mul_q}
use Rattle.gj_fields.proofs.RationalOrder.{at_most_both, at_most_cancel}
use Rattle.gj_fields.proofs.RationalRing.{by_ring_q, ring_q}
use Rattle.gj_problem.specs.declared.problem.Entry.{Entry}
use Rattle.gj_problem.specs.declared.problem.Problem.{Problem}
use Rattle.gj_problem.specs.declared.problem.Sense.{Sense}
use Rattle.gj_problem.specs.declared.problem.Sense.TheVariants.{AtMost, AtLeast, Equal}
use Rattle.gj_problem.specs.declared.pieces.Piece.{Piece}
use Rattle.gj_problem.specs.Aggregates.{Weighted, weighted, HasNoSlack, IsScale, IsSlack, IsRow, signed}
use Rattle.gj_problem.proofs.MadePieces.{made_one, zip_one}
use Rattle.gj_problem.proofs.OneColumn.{IsTimes}
use Rattle.gj_problem.proofs.OneRow.{same_entry, same_piece, one_bounds}

-- ---- one scale

pub one_test : (a b : Bool) (P : Type 0) → (IsTrue a ↔ P) → (IsTrue b ↔ P) → a ≡ b
one_test true true P h k = refl
one_test true false P h k = sym (k.1 (h.0 refl))
one_test false true P h k = h.1 (k.0 refl)
one_test false false P h k = refl

pub one_scale : (right : Frac) (es : List Entry) (b : Bool) (m n : ℕ) → IsScale right es b m →
    IsScale right es b n → m ≡ n
one_scale right es true m n h k = dvd_antisymm (h.least n k.common) (k.least m h.common)
one_scale right es false m n h k = h ∙ sym k

scale_some : (right : Frac) (es : List Entry) (b : Bool) (n : ℕ) → IsScale right es b n → 0 < n
scale_some right es true n h = least_common_some (right ∷ map (λ (e : Entry). e.value) es) n h
scale_some right es false n h = omega arith

-- ---- one entry

pub same_most : (x y : Rational) → x ≡ y → x ≤ℚ y
same_most x y e = subst (λ z. x ≤ℚ z) e (record { crosswise = omega (arith, ints) })

-- what is equal times a whole number above 0 is equal
cancel : (n : ℕ) (x y : Rational) → 0 < n → whole (pos n) *ℚ x ≡ whole (pos n) *ℚ y → x ≡ y
cancel n x y some e =
    at_most_both x y (at_most_cancel n x y some (same_most _ _ e))
    (at_most_cancel n y x some (same_most _ _ (sym e)))

turned_back : (x y : Rational) → neg_ℚ x ≡ neg_ℚ y → x ≡ y
turned_back x y e = twice x ∙ ap neg_ℚ e ∙ sym (twice y)
  where
    twice : (x : Rational) → x ≡ neg_ℚ (neg_ℚ x)
    twice x = by_ring_q (x ∷ []) (search ring_q depth 40) refl

turned_product : (n : ℕ) (x : Rational) → whole (neg_ℤ (pos n)) *ℚ x ≡ neg_ℚ (whole (pos n) *ℚ x)
turned_product n x = ap (λ w. w *ℚ x) (whole_neg (pos n)) ∙ neg_mul_q (whole (pos n)) x

cancel_signed : (sense : Sense) (n : ℕ) (x y : Rational) → 0 < n →
    whole (signed sense n) *ℚ x ≡ whole (signed sense n) *ℚ y → x ≡ y
cancel_signed AtMost n x y some e =
    cancel n x y some
    (turned_back (whole (pos n) *ℚ x) (whole (pos n) *ℚ y) (sym (turned_product n x) ∙ e
    ∙ turned_product n y))
cancel_signed AtLeast n x y some e = cancel n x y some e
cancel_signed Equal n x y some e = cancel n x y some e

-- ---- one slack

one_times : (x : Rational) (e f g : Entry) → IsTimes x e f → IsTimes x e g → f ≡ g
one_times x e f g h k = same_entry f g (h.0 ∙ sym k.0) (h.1 ∙ sym k.1)

pub one_slack : (p : Problem) (w : Weighted) (s t : Piece) → IsSlack p w s → IsSlack p w t → s ≡ t
one_slack p w s t h k =
    let c = w.constraint in
    let kind : s.is_whole ≡ t.is_whole = one_test s.is_whole t.is_whole _ h.is_whole k.is_whole in
    let scale : h.scale ≡ k.scale =
    one_scale c.right c.entries t.is_whole h.scale k.scale
    (subst (λ (b : Bool). IsScale c.right c.entries b h.scale) kind h.scale_is) k.scale_is in
    let factor : whole (signed c.sense h.scale) ≡ whole (signed c.sense k.scale) =
    ap (λ (n : ℕ). whole (signed c.sense n)) scale in
    same_piece s t kind
    (cancel_signed c.sense k.scale (rational s.entry) (rational t.entry)
    (scale_some c.right c.entries t.is_whole k.scale k.scale_is)
    (ap (λ f. f *ℚ rational s.entry) (sym factor) ∙ h.entry_is ∙ sym k.entry_is))
    (zip_one (IsTimes (whole (signed c.sense k.scale))) (one_times (whole (signed c.sense k.scale)))
    c.entries s.inequality.entries
    t.inequality.entries
    (subst (λ f. AllZip (IsTimes f) c.entries s.inequality.entries) factor
    h.slack_is.entries_are) k.slack_is.entries_are)
    (h.slack_is.right_is ∙ ap (λ f. f *ℚ rational c.right) factor ∙ sym k.slack_is.right_is)

-- ---- one row

pub one_pieces : (p : Problem) (ms : List Frac) (ups : List Bool) (ps qs : List Piece)
    (r s : Frac) → IsRow p ms ups ps r → IsRow p ms ups qs s →
    ps ≡ qs
one_pieces p ms ups ps qs r s row other =
    row.pieces_are
    ∙ ap₂ (λ (us vs : List Piece). us ++ vs)
    (made_one HasNoSlack (IsSlack p) (one_slack p)
    (weighted ms p.constraints) row.slacks other.slacks row.slacks_are other.slacks_are)
    (one_bounds p ms ups ps qs r s row other)
    ∙ sym other.pieces_are
