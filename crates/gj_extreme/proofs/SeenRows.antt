-- Pairs that are seen.
use Rattle.std.proofs.Common.{◌≡◌, ◌≢◌, ℕ, ◌+◌, ◌-◌, ◌%◌, ◌*◌, ◌<◌, ◌≤◌, ℤ, pos, ◌+ℤ◌, ◌-ℤ◌, List, [], length, map, get_or, set, refl, sym, ap, ap₂, subst, ◌∙◌, inl, inr, cond, eqb, arith}
use Rattle.std.specs.Prelude.{All}
use Rattle.std.specs.List.{range_with_len}
use Rattle.std.proofs.Math.ListN.{length-set}
use Rattle.std.proofs.Math.Nat.{mod-eq_of_lt, mod-eq-sub-mod}
use Rattle.std.proofs.lemmas.Bool.{cases_lt}
use Rattle.std.proofs.lemmas.Int.{ints}
use Rattle.std.proofs.Math.Path.{fun_ext}
use Rattle.std.proofs.lemmas.List.Elements.{All-nil, All-set}
use Rattle.gj_lemmas.proofs.Lists.{All-made}
use Rattle.gj_theory.proofs.RiseCounts.{rises_more}
use Rattle.gj_shape.specs.Elimination.{elimination_from, Passes}
use Rattle.gj_shape.specs.FunctionData.{FunctionData}
use Rattle.gj_shape.specs.SlopeRows.{row_entry, row_names, row_of, rises}
use Rattle.gj_shape.specs.declared.extremality.RowName.{RowName}
use Rattle.gj_shape.specs.declared.extremality.RowName.TheVariants.{Pair}
use Rattle.gj_extreme.specs.RowsToCome.{AreToCome, IsTaken, name_of}
use Rattle.gj_extreme.specs.SeenPairs.{IsPairBelow, AreSeenBelow, IsSeenRow}
use Rattle.gj_extreme.specs.declared.inserted_rows.Rows.{Rows}
use Rattle.gj_extreme.specs.declared.seen.SeenPair.{SeenPair}
use Rattle.gj_extreme.specs.declared.seen.SeenPairs.{SeenPairs}
use Rattle.gj_theory.specs.HandedOver.{renumbered}

-- the pair of zeros has a row of zeros
zeros_at : (q : ℕ) → 0 < q → (0 + 0) % q ≡ 0
zeros_at q some = mod-eq_of_lt some

pub zero_pair : (f : FunctionData) (component : ℕ → ℕ) (n : ℕ) (before : List (List ℤ))
    (p : SeenPair) → 0 < f.order →
    p ≡ record { a = 0; b = 0 } → IsSeenRow f component n before p
zero_pair f component n before p some is =
    subst (IsSeenRow f component n before) (sym is)
    (inl (All-made (λ x. x ≡ pos 0) (row_entry component f.order f.place (Pair 0 0)) 0 n
    (λ c below. ap (λ i. pos 0 +ℤ pos 0 -ℤ pos (rises component i c)) (zeros_at f.order some))))

-- so are those of places that are new
pub places_are_made : (f : FunctionData) (component : ℕ → ℕ) (n : ℕ) (rows : Rows)
    (seen : SeenPairs) (rest : List RowName) →
    0 < f.order → All (λ p. p ≡ record { a = 0; b = 0 }) seen.pairs.items →
    AreToCome f component n rows rest →
    AreToCome f component n
    (record { basis = rows.basis; names = rows.names; row = rows.row; seen = seen }) rest
places_are_made f component n rows seen rest some zeros h =
    let g = h.handed_over in
    record {
      columns = h.columns;
      width = h.width;
      handed_over = record {
        handed = g.handed;
        before = g.before;
        number = g.number;
        few = g.few;
        next = g.next;
        onward = g.onward;
        inserted = g.inserted;
        kept = g.kept;
        marked = g.marked;
        names = g.names;
        seen = λ i d low. zero_pair f component n g.before (get_or seen.pairs.items i d) some
            (zeros i d low);
        known = g.known;
      };
    }

-- a pair below the order is remembered
pub pair_is_below : (q : ℕ) (old seen : SeenPairs) (place : ℕ) (p : SeenPair) → IsPairBelow q p →
    seen.codes ≡ old.codes →
    seen.pairs.items ≡ set old.pairs.items place p → AreSeenBelow q old → AreSeenBelow q seen
pair_is_below q old seen place p below codes pairs h = record {
  some = subst (λ (m : ℕ). 0 < m) (sym (ap length pairs ∙ length-set old.pairs.items place p))
      h.some;
  few = subst (λ (m : ℕ). m ≤ 1024) (sym (ap length pairs ∙ length-set old.pairs.items place p))
      h.few;
  points = subst (All (IsPairBelow q)) (sym pairs)
      (All-set (IsPairBelow q) old.pairs.items place p below h.points);
  codes = ap (λ c. length c.items) codes ∙ h.codes;
}

-- a pair whose row was handed over is remembered
pub pair_is_set : (f : FunctionData) (component : ℕ → ℕ) (n : ℕ) (rows : Rows) (seen : SeenPairs)
    (place : ℕ) (p : SeenPair)
    (rest : List RowName) → seen.pairs.items ≡ set rows.seen.pairs.items place p →
    IsTaken f component n (Pair p.a p.b) rows rest →
    AreToCome f component n
    (record { basis = rows.basis; names = rows.names; row = rows.row; seen = seen }) rest
pair_is_set f component n rows seen place p rest pairs (h, has) =
    let g = h.handed_over in
    record {
      columns = h.columns;
      width = h.width;
      handed_over = record {
        handed = g.handed;
        before = g.before;
        number = g.number;
        few = g.few;
        next = g.next;
        onward = g.onward;
        inserted = g.inserted;
        kept = g.kept;
        marked = g.marked;
        names = g.names;
        seen = subst (All (IsSeenRow f component n g.before)) (sym pairs)
            (All-set (IsSeenRow f component n g.before) rows.seen.pairs.items place p
            (inr has) g.seen);
        known = g.known;
      };
    }

-- ---- the pair before

-- the row of a pair from the counts of one interval less
one_interval_less : (x y z u v c : ℕ) → y ≡ u + c → z ≡ v + c →
    pos x +ℤ pos u -ℤ pos v ≡ pos x +ℤ pos y -ℤ pos z
one_interval_less x y z u v c first second = omega (arith, ints)

next_sum : (x q : ℕ) → x + 1 ≢ q → x + 1 < 2 * q → x % q + 1 ≡ (x + 1) % q
next_sum x q other small = elim (cases_lt (x + 1) q) [
  | inl next ↦
      let here : x % q ≡ x = mod-eq_of_lt (omega arith) in
      let there : (x + 1) % q ≡ x + 1 = mod-eq_of_lt next in
      omega arith
  | inr high ↦ elim (cases_lt x q) [
    | inl less ↦ absurd (other (omega arith))
    | inr more ↦
        let here : x % q ≡ x - q = mod-eq-sub-mod more ∙ mod-eq_of_lt (omega arith) in
        let there : (x + 1) % q ≡ x + 1 - q = mod-eq-sub-mod (omega arith)
        ∙ mod-eq_of_lt (omega arith) in
        omega arith
  ]
]

-- if the intervals before b and before the sum are in one component, the pair has the row of the
-- one before
pub same_row_as_before : (component : ℕ → ℕ) (n q k a b s : ℕ) → 0 < b → a < q → b < q → a + b ≢ q →
    s ≡ (a + (b - 1)) % q → component (b - 1) ≡ component s →
    row_of component n q k (Pair a (b - 1)) ≡ row_of component n q k (Pair a b)
same_row_as_before component n q k a b s positive a_below b_below other before same =
    ap (λ g. map g (range_with_len 0 n)) (fun_ext (λ c. here c))
  where
    again : b - 1 + 1 ≡ b
    again = omega arith

    whole : a + (b - 1) + 1 ≡ a + b
    whole = omega arith

    sum : s + 1 ≡ (a + b) % q
    sum =
        ap (λ i. i + 1) before ∙ next_sum (a + (b - 1)) q (λ e. other (sym whole ∙ e)) (omega arith)
        ∙ ap (λ i. i % q) whole

    here : (c : ℕ) → row_entry component q k (Pair a (b - 1)) c
        ≡ row_entry component q k (Pair a b) c
    here c =
        ap (λ i. pos (rises component a c) +ℤ pos (rises component (b - 1) c) -ℤ pos
        (rises component i c)) (sym before)
        ∙ one_interval_less (rises component a c) (rises component (b - 1 + 1) c)
        (rises component (s + 1) c)
        (rises component (b - 1) c) (rises component s c) (cond (eqb (component s) c) 1 0)
        (rises_more component (b - 1) c
        ∙ ap (λ i. rises component (b - 1) c + cond (eqb i c) 1 0) same)
        (rises_more component s c)
        ∙ ap₂ (λ i j. pos (rises component a c) +ℤ pos (rises component i c) -ℤ pos
        (rises component j c)) again sum

-- ---- pairs beside

-- the row of a pair with some intervals less in the first, and as many more in the second
intervals_over : (low high first second over sum : ℕ) → high ≡ low + over → second ≡ first + over →
    pos low +ℤ pos second -ℤ pos sum ≡ pos high +ℤ pos first -ℤ pos sum
intervals_over low high first second over sum more moved = omega (arith, ints)

-- if the intervals before a and behind b are in one component, the pair has the row of the one with
-- these moved
pub same_row_as_beside : (component : ℕ → ℕ) (n q k a b : ℕ) → 0 < a →
    component (a - 1) ≡ component b →
    row_of component n q k (Pair (a - 1) (b + 1)) ≡ row_of component n q k (Pair a b)
same_row_as_beside component n q k a b some same =
    ap (λ g. map g (range_with_len 0 n)) (fun_ext (λ c. here c))
  where
    again : a - 1 + 1 ≡ a
    again = omega arith

    sum : a - 1 + (b + 1) ≡ a + b
    sum = omega arith

    here : (c : ℕ) → row_entry component q k (Pair (a - 1) (b + 1)) c
        ≡ row_entry component q k (Pair a b) c
    here c =
        ap (λ i. pos (rises component (a - 1) c) +ℤ pos (rises component (b + 1) c) -ℤ pos
        (rises component (i % q) c)) sum
        ∙ intervals_over (rises component (a - 1) c) (rises component a c) (rises component b c)
        (rises component (b + 1) c)
        (cond (eqb (component b) c) 1 0) (rises component ((a + b) % q) c)
        (ap (λ i. rises component i c) (sym again) ∙ rises_more component (a - 1) c
        ∙ ap (λ i. rises component (a - 1) c + cond (eqb i c) 1 0) same)
        (rises_more component b c)

-- so it is with two intervals before a, and two behind b
pub same_row_as_two_beside : (component : ℕ → ℕ) (n q k a b : ℕ) → 1 < a →
    component (a - 2) ≡ component b →
    component (a - 1) ≡ component (b + 1) →
    row_of component n q k (Pair (a - 2) (b + 1 + 1)) ≡ row_of component n q k (Pair a b)
same_row_as_two_beside component n q k a b some other last =
    ap (λ g. map g (range_with_len 0 n)) (fun_ext (λ c. here c))
  where
    again : a - 1 + 1 ≡ a
    again = omega arith

    before : a - 2 + 1 ≡ a - 1
    before = omega arith

    sum : a - 2 + (b + 1 + 1) ≡ a + b
    sum = omega arith

    here : (c : ℕ) → row_entry component q k (Pair (a - 2) (b + 1 + 1)) c
        ≡ row_entry component q k (Pair a b) c
    here c =
        let one = cond (eqb (component b) c) 1 0 in
        let two = cond (eqb (component (b + 1)) c) 1 0 in
        let low : rises component (a - 1) c ≡ rises component (a - 2) c + one =
        ap (λ i. rises component i c) (sym before) ∙ rises_more component (a - 2) c
        ∙ ap (λ i. rises component (a - 2) c + cond (eqb i c) 1 0) other in
        let high : rises component a c ≡ rises component (a - 1) c + two =
        ap (λ i. rises component i c) (sym again) ∙ rises_more component (a - 1) c
        ∙ ap (λ i. rises component (a - 1) c + cond (eqb i c) 1 0) last in
        let first : rises component (b + 1) c ≡ rises component b c + one =
        rises_more component b c in
        let second : rises component (b + 1 + 1) c ≡ rises component (b + 1) c + two =
        rises_more component (b + 1) c in
        ap (λ i. pos (rises component (a - 2) c) +ℤ pos (rises component (b + 1 + 1) c) -ℤ pos
        (rises component (i % q) c)) sum
        ∙ intervals_over (rises component (a - 2) c) (rises component a c) (rises component b c)
        (rises component (b + 1 + 1) c)
        (one + two) (rises component ((a + b) % q) c) (omega arith) (omega arith)

-- no rows, of which all are to come
pub none_yet : (f : FunctionData) (component : ℕ → ℕ) (n : ℕ) (rows : Rows) →
    rows.basis.columns ≡ n → rows.basis.inserted ≡ 0 →
    rows.basis.kept ≡ [] → rows.names.items ≡ [] → length rows.row.items ≡ n →
    rows.seen.pairs.items ≡ [] →
    AreToCome f component n rows (row_names f)
none_yet f component n rows columns inserted kept names width seen =
    let start = λ (more : List (List ℤ)). ap₂ (λ ks i. elimination_from n ks i more) (sym kept)
    (sym inserted) in
    record {
      columns = columns;
      width = width;
      handed_over = record {
        handed = [];
        before = [];
        number = 0;
        few = omega arith;
        next = ([], refl, refl);
        onward = λ more given. given;
        inserted = λ short. inserted;
        kept = λ more. ap (λ e. e.kept) (start more);
        marked = λ more. (
          subst (λ e. Passes e.marked) (start more),
          subst (λ e. Passes e.marked)
              (sym (start more)),
        );
        names = λ more.
            names ∙ ap (map (λ k. name_of f (renumbered more k))) (sym kept);
        seen = subst (All (IsSeenRow f component n [])) (sym seen)
            (All-nil (IsSeenRow f component n []));
        known = λ name given. inr given;
      };
    }
