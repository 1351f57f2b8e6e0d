-- The tight pairs of one row, of which only those that are left are looked at.
use Rattle.std.proofs.Common.{◌≡◌, ℕ, zero, suc, ◌+◌, ◌-◌, ◌<◌, ◌≤◌, ◌⊎◌, ◌++◌, ◌∷◌, inl, inr, Bool, true, false, ◌+ℤ◌, refl, ap, subst, sym, arith}
use Rattle.std.specs.Prelude.{Contains}
use Rattle.std.proofs.lemmas.Bool.{cases_lt}
use Rattle.std.proofs.lemmas.Bool.Decides.{Decides-int_eq}
use Rattle.gj_loops.specs.IndexSets.{has, IsFirst}
use Rattle.gj_loops.specs.declared.index_set.IndexSet.{IndexSet}
use Rattle.gj_shape.specs.Additive.{IsTight}
use Rattle.gj_shape.specs.FunctionData.{FunctionData, at}
use Rattle.gj_shape.specs.SlopeRows.{is_tight, row_of}
use Rattle.gj_shape.specs.declared.extremality.RowName.TheVariants.{Pair}
use Rattle.gj_faces.specs.TightPairs.{IsTightIn, AreTightPairsOf}
use Rattle.gj_faces.specs.declared.tight_pairs.TightPairs.{TightPairs}
use Rattle.gj_proof.specs.PresentRows.{named_row}
use Rattle.gj_extreme.specs.PairsLeft.{HasPairBefore, ArePairsLeft}
use Rattle.gj_extreme.specs.RowsToCome.{AreToCome, pairs_from, row_names_from}
use Rattle.gj_extreme.specs.SeenPairs.{IsSeenName}
use Rattle.gj_extreme.specs.declared.inserted_rows.Rows.{Rows}
use Rattle.gj_extreme.proofs.KnownPairs.{is_name, pair_to_come}
use Rattle.gj_extreme.proofs.RowOrder.{no_pairs, next_pair, loose_pair}
use Rattle.gj_extreme.proofs.TakenRows.{row_is_seen}

-- the rows of these pairs are to come, those of a from b on first
abbrev pub ArePairsToCome : FunctionData → (ℕ → ℕ) → ℕ → ℕ → ℕ → Rows → Type 0
ArePairsToCome f component n a b rows =
    AreToCome f component n rows (pairs_from f a b ++ row_names_from f (a + 1))

-- the same, with the pair (a, b) first
abbrev pub IsPairToCome : FunctionData → (ℕ → ℕ) → ℕ → ℕ → ℕ → Rows → Type 0
IsPairToCome f component n a b rows =
    AreToCome f component n rows (Pair a b ∷ (pairs_from f a (b + 1) ++ row_names_from f (a + 1)))

-- ---- pairs with the row of one before

pair_first : (f : FunctionData) (component : ℕ → ℕ) (n a b : ℕ) (rows : Rows) → b < f.order →
    IsTight f a b →
    ArePairsToCome f component n a b rows → IsPairToCome f component n a b rows
pair_first f component n a b rows below tight h =
    subst (AreToCome f component n rows) (next_pair f a b (row_names_from f (a + 1)) below tight) h

-- a pair with the row of a tight pair before it was seen
pub pair_is_known : (f : FunctionData) (component : ℕ → ℕ) (n a b c d : ℕ) (rows : Rows) →
    b < f.order → IsTight f a b →
    0 < c → c ≤ d → d < f.order → IsTight f c d → (c < a) ⊎ ((c ≡ a) × (d < b)) →
    named_row f component n (Pair c d) ≡ named_row f component n (Pair a b) →
    IsPairToCome f component n a b rows → ArePairsToCome f component n a (b + 1) rows
pair_is_known f component n a b c d rows below tight some low high other before same h =
    by_place (h.handed_over.known (Pair c d) (is_name f c d some low high other))
  where
    by_order : (a < c) ⊎ ((a ≡ c) × (b ≤ d)) → (c < a) ⊎ ((c ≡ a) × (d < b)) → ⊥
    by_order (inl more) (inl less) = omega arith
    by_order (inl more) (inr (is, less)) = omega arith
    by_order (inr (is, more)) (inl less) = omega arith
    by_order (inr (is, more)) (inr (again, less)) = omega arith

    by_place : IsSeenName f component n h.handed_over.before (Pair c d)
        ⊎ Contains (Pair a b ∷ (pairs_from f a (b + 1) ++ row_names_from f (a + 1))) (Pair c d) →
        ArePairsToCome f component n a (b + 1) rows
    by_place (inl seen) =
        row_is_seen f component n rows a b (pairs_from f a (b + 1) ++ row_names_from f (a + 1))
        (record { a = c; b = d }) h seen same
    by_place (inr to_come) =
        let whole = sym (next_pair f a b (row_names_from f (a + 1)) below tight) in
        absurd (by_order (pair_to_come f a b c d (subst (λ l. Contains l (Pair c d)) whole to_come))
        before)

beside_is_known : (f : FunctionData) (component : ℕ → ℕ) (n : ℕ) (pairs : TightPairs) (a b : ℕ)
    (rows : Rows) →
    AreTightPairsOf f pairs → a ≤ b → b < f.order → IsTight f a b →
    HasPairBefore pairs component a b →
    IsPairToCome f component n a b rows → ArePairsToCome f component n a (b + 1) rows
beside_is_known f component n pairs a b rows p low below tight h to_come =
    let less = h.before in
    let behind = h.behind in
    pair_is_known f component n a b h.first h.second rows below tight h.some (omega arith)
    (subst (λ q. h.second < q) p.order h.within)
    ((p.tell h.first h.second).0 h.tight) (inl less)
    (subst (λ q. row_of component n q f.place (Pair h.first h.second)
    ≡ row_of component n q f.place (Pair a b)) p.order (h.same n f.place))
    to_come

pub next_is_known : (f : FunctionData) (component : ℕ → ℕ) (n : ℕ) (pairs : TightPairs) (a b : ℕ)
    (rows : Rows) →
    AreTightPairsOf f pairs → 0 < a → a < b → b < f.order → IsTight f a b →
    IsTightIn pairs a (b - 1) →
    named_row f component n (Pair a (b - 1)) ≡ named_row f component n (Pair a b) →
    IsPairToCome f component n a b rows → ArePairsToCome f component n a (b + 1) rows
next_is_known f component n pairs a b rows p some low below tight before same h =
    pair_is_known f component n a b a (b - 1) rows below tight some (omega arith) (omega arith)
    ((p.tell a (b - 1)).0 before)
    (inr (refl, omega arith)) same h

-- ---- those that are not left

not_left : (f : FunctionData) (component : ℕ → ℕ) (n : ℕ) (pairs : TightPairs) (a b : ℕ)
    (left : IndexSet) (rows : Rows) (t : Bool) →
    AreTightPairsOf f pairs → ArePairsLeft pairs component a left → a ≤ b → b < f.order →
    has left b ≡ false → is_tight f a b ≡ t →
    ArePairsToCome f component n a b rows → ArePairsToCome f component n a (b + 1) rows
not_left f component n pairs a b left rows false p l low below not e h =
    subst (AreToCome f component n rows)
    (ap (λ names. names ++ row_names_from f (a + 1)) (loose_pair f a b below e)) h
not_left f component n pairs a b left rows true p l low below not e h =
    let tight : IsTight f a b =
    (Decides-int_eq (at f.value a +ℤ at f.value b) (at f.value (a + b))).0 e in
    let before = l.others b (subst (λ q. b < q) (sym p.order) below) ((p.tell a b).1 tight) not in
    beside_is_known f component n pairs a b rows p low below tight before
    (pair_first f component n a b rows below tight h)

some_not_left : (f : FunctionData) (component : ℕ → ℕ) (n : ℕ) (pairs : TightPairs) (a from k : ℕ)
    (left : IndexSet) (rows : Rows) →
    AreTightPairsOf f pairs → ArePairsLeft pairs component a left → a ≤ from → from + k ≤ f.order →
    ((i : ℕ) → from ≤ i → i < from + k → has left i ≡ false) →
    ArePairsToCome f component n a from rows →
    ArePairsToCome f component n a (from + k) rows
some_not_left f component n pairs a from zero left rows p l low high not h =
    let same : from ≡ from + 0 = omega arith in
    subst (λ i. ArePairsToCome f component n a i rows) same h
some_not_left f component n pairs a from (suc k) left rows p l low high not h =
    let next : from + k + 1 ≡ from + suc k = omega arith in
    subst (λ i. ArePairsToCome f component n a i rows) next
    (not_left f component n pairs a (from + k) left rows (is_tight f a (from + k)) p l (omega arith)
    (omega arith)
    (not (from + k) (omega arith) (omega arith)) refl
    (some_not_left f component n pairs a from k left rows p l low (omega arith)
    (λ i behind before. not i behind (omega arith)) h))

none_left_before : (f : FunctionData) (component : ℕ → ℕ) (n : ℕ) (pairs : TightPairs)
    (a from b : ℕ) (left : IndexSet) (rows : Rows) →
    AreTightPairsOf f pairs → ArePairsLeft pairs component a left → a ≤ from → from ≤ b →
    b ≤ f.order →
    ((i : ℕ) → from ≤ i → i < b → has left i ≡ false) → ArePairsToCome f component n a from rows →
    ArePairsToCome f component n a b rows
none_left_before f component n pairs a from b left rows p l low behind high not h =
    let whole : from + (b - from) ≡ b = omega arith in
    subst (λ i. ArePairsToCome f component n a i rows) whole
    (some_not_left f component n pairs a from (b - from) left rows p l low (omega arith)
    (λ i lower upper. not i lower (omega arith)) h)

-- ---- as the code finds them

pub found_below : (f : FunctionData) (component : ℕ → ℕ) (pairs : TightPairs) (a from b : ℕ)
    (left : IndexSet) →
    AreTightPairsOf f pairs → ArePairsLeft pairs component a left → IsFirst left from b →
    b < f.order
found_below f component pairs a from b left p l first = elim (cases_lt b f.order) [
  | inl below ↦ below
  | inr past ↦
      let none = l.within b (subst (λ q. q ≤ b) (sym p.order) past) in
      let found = first.found in absurd (cc (none, found))
]

pub found_tight : (f : FunctionData) (component : ℕ → ℕ) (pairs : TightPairs) (a from b : ℕ)
    (left : IndexSet) →
    AreTightPairsOf f pairs → ArePairsLeft pairs component a left → IsFirst left from b →
    IsTight f a b
found_tight f component pairs a from b left p l first =
    let below = found_below f component pairs a from b left p l first in
    (p.tell a b).0 (l.tight b (subst (λ q. b < q) (sym p.order) below) first.found)

pub found_next : (f : FunctionData) (component : ℕ → ℕ) (n : ℕ) (pairs : TightPairs) (a from b : ℕ)
    (left : IndexSet) (rows : Rows) →
    AreTightPairsOf f pairs → ArePairsLeft pairs component a left → a ≤ from → IsFirst left from b →
    ArePairsToCome f component n a from rows → IsPairToCome f component n a b rows
found_next f component n pairs a from b left rows p l low first h =
    let below = found_below f component pairs a from b left p l first in
    pair_first f component n a b rows below (found_tight f component pairs a from b left p l first)
    (none_left_before f component n pairs a from b left rows p l low first.behind
    (omega arith) first.before h)

pub found_none : (f : FunctionData) (component : ℕ → ℕ) (n : ℕ) (pairs : TightPairs) (a from : ℕ)
    (left : IndexSet) (rows : Rows) →
    AreTightPairsOf f pairs → ArePairsLeft pairs component a left → a ≤ from → from ≤ f.order →
    ((k : ℕ) → from ≤ k → has left k ≡ false) → ArePairsToCome f component n a from rows →
    AreToCome f component n rows (row_names_from f (a + 1))
found_none f component n pairs a from left rows p l low high none h =
    subst (AreToCome f component n rows)
    (ap (λ names. names ++ row_names_from f (a + 1)) (no_pairs f a f.order (omega arith)))
    (none_left_before f component n pairs a from f.order left rows p l low high (omega arith)
    (λ i behind below. none i behind) h)
