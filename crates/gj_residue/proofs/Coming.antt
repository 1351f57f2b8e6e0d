-- Rows that are inserted one after another from those to come.
use Rattle.std.proofs.Common.{◌≡◌, ℕ, ◌+◌, ◌<◌, ◌≤◌, ◌^◌, ◌↔◌, inl, inr, Option, None, Some, ℤ, List, [], ◌∷◌, ◌++◌, length, sym, ap, ap₂, subst, ◌∙◌, arith}
use Rattle.std.specs.Prelude.{All, Vec, Ok}
use Rattle.std.proofs.lemmas.Bool.{lt-leb, le-leb}
use Rattle.std.proofs.lemmas.List.Elements.{All-head, All-tail}
use Rattle.std.specs.declared.alloc.AllocError.{AllocError}
use Rattle.std.specs.declared.alloc.Global.{Global}
use Rattle.gj_shape.specs.Elimination.{Elimination, Arithmetic, inserted_by, elimination_by, elimination_from_by, behind_insertion, Passes}
use Rattle.gj_theory.proofs.Eliminations.{elimination_full, elimination_more, elimination_none}
use Rattle.gj_theory.proofs.Passing.{none_passes, front_passes, back_passes, either_passes}
use Rattle.gj_elim.specs.Data.{BasisData, behind_by}
use Rattle.gj_residue.specs.Source.{Gives}

-- the elimination of the rows to come behind a basis
abbrev onward : Arithmetic → BasisData → List (List ℤ) → Elimination
onward by b left = elimination_from_by by b.columns b.kept b.inserted left

-- the elimination of all rows has come this far: none of its numbers passed, and these rows are to
-- come
pub record AreToCome (by : Arithmetic) (n : ℕ) (all : List (List ℤ)) (b : BasisData)
    (left : List (List ℤ)) : Type 0 where
  pub columns : b.columns ≡ n
  pub kept : (elimination_by by n all).kept ≡ (onward by b left).kept
  pub marked : Passes (elimination_by by n all).marked ↔ Passes (onward by b left).marked
  pub lengths : All (λ row. length row ≡ n) left
  pub count : b.inserted + length left < 2 ^ 63

pub come_start : (by : Arithmetic) (n : ℕ) (all left : List (List ℤ)) (b : BasisData) →
    b.columns ≡ n → b.inserted ≡ 0 → b.kept ≡ [] →
    left ≡ all → All (λ row. length row ≡ n) all → length all < 2 ^ 63 → AreToCome by n all b left
come_start by n all left b columns none empty same lengths count =
    let start : elimination_by by n all ≡ onward by b left =
    ap₂ (λ m ks. elimination_from_by by m ks 0 all) (sym columns) (sym empty)
    ∙ ap₂ (λ i rows. elimination_from_by by b.columns b.kept i rows) (sym none) (sym same) in
    let len : length left ≡ length all = ap length same in record {
      columns = columns;
      kept = ap (λ e. e.kept) start;
      marked = (
        subst (λ (e : Elimination). Passes e.marked) start,
        subst
            (λ (e : Elimination). Passes e.marked) (sym start),
      );
      lengths = subst (All (λ row. length row ≡ n)) (sym same) lengths;
      count = omega arith;
    }

-- a row is inserted
pub come_on : (by : Arithmetic) (n : ℕ) (all : List (List ℤ)) (b d : BasisData)
    (before left : List (List ℤ)) (row : List ℤ) →
    AreToCome by n all b before → before ≡ row ∷ left → length b.kept < n →
    (Passes (inserted_by by b.columns b.kept row).marked → ⊥) →
    d ≡ behind_by by b row → AreToCome by n all d left
come_on by n all b d before left row h given short narrow d_is =
    let same : onward by b before
    ≡ behind_insertion (inserted_by by b.columns b.kept row).marked
    (onward by (behind_by by b row) left) =
    ap (onward by b) given
    ∙ elimination_more by b.columns b.kept b.inserted row left
    (lt-leb b.columns (length b.kept) (let c = h.columns in omega arith)) in
    let whole = subst (All (λ r. length r ≡ n)) given h.lengths in
    let len : length before ≡ length (row ∷ left) = ap length given in
    let first = (inserted_by by b.columns b.kept row).marked in
    subst (λ (x : BasisData). AreToCome by n all x left) (sym d_is) record {
      columns = h.columns;
      kept = h.kept ∙ ap (λ e. e.kept) same;
      marked = (
        λ p. later first (onward by (behind_by by b row) left).marked narrow
            (subst (λ (e : Elimination). Passes e.marked) same (h.marked.0 p)),
        λ p. h.marked.1
            (subst (λ (e : Elimination). Passes e.marked) (sym same)
            (back_passes first (onward by (behind_by by b row) left).marked p)),
      );
      lengths = All-tail (λ r. length r ≡ n) row left whole;
      count = let c = h.count in omega arith;
    }
  where
    later : (first rest : List ℤ) → (Passes first → ⊥) → Passes (first ++ rest) → Passes rest
    later first rest narrow p =
        elim (either_passes first rest p) [ inl q ↦ absurd (narrow q) | inr q ↦ q ]

-- a number passes
pub come_wide : (by : Arithmetic) (n : ℕ) (all : List (List ℤ)) (b : BasisData)
    (before left : List (List ℤ)) (row : List ℤ) →
    AreToCome by n all b before → before ≡ row ∷ left → length b.kept < n →
    Passes (inserted_by by b.columns b.kept row).marked →
    Passes (elimination_by by n all).marked
come_wide by n all b before left row h given short p =
    let same : onward by b before
    ≡ behind_insertion (inserted_by by b.columns b.kept row).marked
    (onward by (behind_by by b row) left) =
    ap (onward by b) given
    ∙ elimination_more by b.columns b.kept b.inserted row left
    (lt-leb b.columns (length b.kept) (let c = h.columns in omega arith)) in
    h.marked.1
    (subst (λ (e : Elimination). Passes e.marked) (sym same)
    (front_passes (inserted_by by b.columns b.kept row).marked
    (onward by (behind_by by b row) left).marked p))

-- what is inserted at the end
pub record AreInserted (by : Arithmetic) (n : ℕ) (all : List (List ℤ)) (b : BasisData) :
    Type 0 where
  pub kept : b.kept ≡ (elimination_by by n all).kept
  pub narrow : Passes (elimination_by by n all).marked → ⊥

ended : (by : Arithmetic) (n : ℕ) (all left : List (List ℤ)) (b : BasisData) →
    AreToCome by n all b left →
    onward by b left ≡ record { kept = b.kept; marked = [] } → AreInserted by n all b
ended by n all left b h same = record {
  kept = sym (h.kept ∙ ap (λ e. e.kept) same);
  narrow = λ p. none_passes (subst (λ (e : Elimination). Passes e.marked) same (h.marked.0 p));
}

pub come_full : (by : Arithmetic) (n : ℕ) (all left : List (List ℤ)) (b : BasisData) →
    AreToCome by n all b left →
    n ≤ length b.kept → AreInserted by n all b
come_full by n all left b h full =
    ended by n all left b h
    (elimination_full by b.columns b.kept b.inserted left
    (le-leb b.columns (length b.kept) (let c = h.columns in omega arith)))

pub come_end : (by : Arithmetic) (n : ℕ) (all left : List (List ℤ)) (b : BasisData) →
    AreToCome by n all b left → left ≡ [] →
    AreInserted by n all b
come_end by n all left b h none =
    ended by n all left b h
    (ap (onward by b) none ∙ elimination_none by b.columns b.kept b.inserted)

-- the next row
pub next_length : (by : Arithmetic) (n : ℕ) (all : List (List ℤ)) (b : BasisData)
    (before left : List (List ℤ)) (row : List ℤ) →
    AreToCome by n all b before → before ≡ row ∷ left → (length row ≡ n) × (b.inserted + 1 < 2 ^ 64)
next_length by n all b before left row h given =
    let len : length before ≡ length (row ∷ left) = ap length given in
    let count = h.count in (
      All-head (λ r. length r ≡ n) row left (subst (All (λ r. length r ≡ n)) given h.lengths),
      omega
          arith,
    )

-- ---- what a source gave

pub gives_none : (before after : List (List ℤ)) (o : Option (Vec ℤ Global)) → o ≡ None →
    Gives {E = AllocError} before after (Ok o) → before ≡ []
gives_none before after None e h = h.0
gives_none before after (Some row) e h = absurd cc

pub gives_some : (before after : List (List ℤ)) (o : Option (Vec ℤ Global)) (row : Vec ℤ Global) →
    o ≡ Some row →
    Gives {E = AllocError} before after (Ok o) → before ≡ row.items ∷ after
gives_some before after None row e h = absurd cc
gives_some before after (Some given) row e h =
    let same : given ≡ row = cc in h ∙ ap (λ r. r.items ∷ after) same
