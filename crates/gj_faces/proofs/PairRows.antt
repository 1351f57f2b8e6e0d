-- Rows of tight pairs.
use Rattle.std.proofs.Common.{◌≡◌, ◌↔◌, inl, inr, ℕ, ◌+◌, ◌-◌, ◌%◌, ◌<◌, List, [], ◌∷◌, ◌++◌, Bool, true, IsTrue, get_or, refl, sym, ap, subst, ◌∙◌, arith}
use Rattle.std.proofs.Math.Nat.{mod-eq_of_lt, mod-mod, mod-lt, add-mod_right}
use Rattle.std.proofs.lemmas.Bool.{cases_eq, cases_lt, false_from_ne_true, eq-eqb, ne_eqb}
use Rattle.std.proofs.lemmas.List.{get_or_append_left, get_or_push, length_push, get_or_past}
use Rattle.std.specs.Prelude.{◌==◌, if◌then◌else◌}
use Rattle.gj_loops.specs.IndexSets.{has, no_set}
use Rattle.gj_loops.specs.declared.index_set.IndexSet.{IndexSet}
use Rattle.gj_loops.proofs.Bits.{none_in_no_set}
use Rattle.gj_shape.specs.Additive.{IsTight}
use Rattle.gj_shape.specs.FunctionData.{FunctionData, IsWithinBounds}
use Rattle.gj_faces.specs.Rows.{AreSetsWithin, TellsRow, AreRows}
use Rattle.gj_faces.specs.TightPairs.{IsTightIn, AreTightPairsOf}
use Rattle.gj_faces.specs.declared.tight_pairs.TightPairs.{TightPairs}
use Rattle.gj_faces.proofs.Periods.{tight_is_periodic}

-- ---- rows that are made one after another

pub row_more : (f : FunctionData) (rows : List IndexSet) (n : ℕ) (row : IndexSet) →
    AreRows f n rows → TellsRow f n row →
    AreRows f (n + 1) (rows ++ row ∷ [])
row_more f rows n row h here =
    let count = h.count in record {
      count = length_push rows row ∙ ap (λ k. k + 1) h.count;
      tell = λ a below. elim (cases_lt a n) [
        | inl before ↦ subst (TellsRow f a)
            (sym (get_or_append_left rows (row ∷ []) no_set a (omega arith))) (h.tell a before)
        | inr last ↦
            let e : a ≡ n = omega arith in
            subst (TellsRow f a) (sym (get_or_push rows row no_set a (omega arith)))
            (subst (λ k. TellsRow f k row) (sym e) here)
      ];
    }

pub rows_within : (f : FunctionData) (rows : List IndexSet) (n : ℕ) → AreRows f n rows →
    AreSetsWithin rows f.order
rows_within f rows n h a b past =
    elim (cases_lt a n) [
      | inl inside ↦ false_from_ne_true (has (get_or rows a no_set) b)
          (λ yes. let both = (h.tell a inside b).0 yes in
          let below = both.0 in omega arith)
      | inr beyond ↦
          let count = h.count in
          ap (λ row. has row b) (get_or_past rows a no_set (omega arith)) ∙ none_in_no_set b
    ]

pub all_rows_tell : (f : FunctionData) (pairs : TightPairs) → IsWithinBounds f →
    AreRows f f.order pairs.rows.items →
    pairs.order ≡ f.order → AreTightPairsOf f pairs
unfolding IsTightIn
all_rows_tell f pairs limits h order = record {
  order = order;
  tell = λ i j.
      let some : 0 < pairs.order = omega (arith, limits.order_low) in
      let row = h.tell (i % pairs.order) (omega (arith, mod-lt i some)) (j % pairs.order) in
      let first = ap (λ q. i % pairs.order % q) (sym order) ∙ mod-mod i pairs.order
      ∙ ap (λ q. i % q) order in
      let second = ap (λ q. j % pairs.order % q) (sym order) ∙ mod-mod j pairs.order
      ∙ ap (λ q. j % q) order in (
        λ yes. tight_is_periodic f limits (i % pairs.order) (j % pairs.order) i j first second
            (row.0 yes).1,
        λ tight. row.1 (
          omega (arith, mod-lt j some),
          tight_is_periodic f limits i j
              (i % pairs.order) (j % pairs.order) (sym first) (sym second) tight,
        ),
      );
}

-- ---- a row of pairs, at an index

-- a pair of indices below the order
pub tight_at : (pairs : TightPairs) (a b : ℕ) → a < pairs.order → b < pairs.order →
    IsTrue (has (get_or pairs.rows.items a no_set) b) ↔ IsTightIn pairs a b
unfolding IsTightIn
tight_at pairs a b first second =
    let row = sym (mod-eq_of_lt first) in
    let place = sym (mod-eq_of_lt second) in (
      λ yes. subst (λ k. IsTrue (has (get_or pairs.rows.items (a % pairs.order) no_set) k)) place
          (subst (λ k. IsTrue (has (get_or pairs.rows.items k no_set) b)) row yes),
      λ yes. subst (λ k. IsTrue (has (get_or pairs.rows.items k no_set) b)) (sym row)
          (subst (λ k. IsTrue (has (get_or pairs.rows.items (a % pairs.order) no_set) k))
          (sym place) yes),
    )

-- ---- neighbours in a row

-- the row of an index, at each index below the order
abbrev pub TellsBelow : FunctionData → ℕ → IndexSet → Type 0
TellsBelow f i row = (b : ℕ) → b < f.order → IsTrue (has row b) ↔ IsTight f i b

-- that of its remainder
pub row_of_index : (f : FunctionData) (pairs : TightPairs) (i a : ℕ) (row : IndexSet) →
    IsWithinBounds f → AreTightPairsOf f pairs →
    a ≡ i % f.order → ((b : ℕ) → b < pairs.order → IsTrue (has row b) ↔ IsTightIn pairs a b) →
    TellsBelow f i row
row_of_index f pairs i a row limits h e tells b below =
    let order = h.order in
    let both = tells b (omega arith) in
    let same : a % f.order ≡ i % f.order = ap (λ k. k % f.order) e ∙ mod-mod i f.order in (
      λ yes. tight_is_periodic f limits a b i b same refl ((h.tell a b).0 (both.0 yes)),
      λ tight. both.1 ((h.tell a b).1 (tight_is_periodic f limits i b a b (sym same) refl tight)),
    )

-- the next index in the row
pub next_in_row : (f : FunctionData) (i b : ℕ) (row : IndexSet) (x : Bool) → IsWithinBounds f →
    b < f.order → TellsBelow f i row →
    x ≡ has row (if b + 1 == f.order then 0 else b + 1) → (x ≡ true) ↔ IsTight f i (b + 1)
next_in_row f i b row x limits below tells e =
    elim (cases_eq (b + 1) f.order) [
      | inl last ↦
          let test = ap (λ t. has row (if t then 0 else b + 1)) (eq-eqb (b + 1) f.order last) in
          let some = limits.order_low in
          let last' : 0 + f.order ≡ b + 1 = omega arith in
          let both = tells 0 (omega arith) in
          let same : 0 % f.order ≡ (b + 1) % f.order = sym (add-mod_right 0 f.order)
          ∙ ap (λ k. k % f.order) last' in (
            λ yes. tight_is_periodic f limits i 0 i (b + 1) refl same
                (both.0 (sym (e ∙ test) ∙ yes)),
            λ tight. e ∙ test ∙ both.1
                (tight_is_periodic f limits i (b + 1) i 0 refl (sym same) tight),
          )
      | inr inside ↦
          let test = ap (λ t. has row (if t then 0 else b + 1)) (ne_eqb (b + 1) f.order inside) in
          let both = tells (b + 1) (omega arith) in
          (λ yes. both.0 (sym (e ∙ test) ∙ yes), λ tight. e ∙ test ∙ both.1 tight)
    ]

-- the index before it
pub previous_in_row : (f : FunctionData) (i b : ℕ) (row : IndexSet) (x : Bool) → IsWithinBounds f →
    b < f.order → TellsBelow f i row →
    x ≡ has row (if b == 0 then f.order - 1 else b - 1) →
    (x ≡ true) ↔ IsTight f i (b + (f.order - 1))
previous_in_row f i b row x limits below tells e =
    let some = limits.order_low in
    elim (cases_eq b 0) [
      | inl first ↦
          let test = ap (λ t. has row (if t then f.order - 1 else b - 1)) (eq-eqb b 0 first) in
          let both = tells (f.order - 1) (omega arith) in
          let same : f.order - 1 ≡ b + (f.order - 1) = omega arith in (
            λ yes. subst (IsTight f i) same (both.0 (sym (e ∙ test) ∙ yes)),
            λ tight. e ∙ test ∙ both.1 (subst (IsTight f i) (sym same) tight),
          )
      | inr later ↦
          let test = ap (λ t. has row (if t then f.order - 1 else b - 1)) (ne_eqb b 0 later) in
          let both = tells (b - 1) (omega arith) in
          let around : b - 1 + f.order ≡ b + (f.order - 1) = omega arith in
          let same : (b - 1) % f.order ≡ (b + (f.order - 1)) % f.order =
          sym (add-mod_right (b - 1) f.order) ∙ ap (λ k. k % f.order) around in (
            λ yes. tight_is_periodic f limits i (b - 1) i (b + (f.order - 1)) refl same
                (both.0 (sym (e ∙ test) ∙ yes)),
            λ tight. e ∙ test ∙ both.1
                (tight_is_periodic f limits i (b + (f.order - 1)) i (b - 1) refl (sym same) tight),
          )
    ]
