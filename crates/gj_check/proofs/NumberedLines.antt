-- Cover lines in turn: which intervals have a line so far, and the numbers of their components.
use Rattle.std.proofs.Common.{◌≡◌, ◌≢◌, ℕ, suc, inl, inr, ◌+◌, ◌<◌, ◌≤◌, ◌==◌, Bool, true, false, IsTrue, List, [], ◌∷◌, ◌++◌, All, Any, length, take, drop, get_or, set, count_by, refl, sym, ap, subst, ◌∙◌, below_more, get_or-set_same, get_or-set_other, eq-eqb, arith}
use Rattle.std.proofs.Math.ListN.{get_or-append, length-set}
use Rattle.std.proofs.Math.Seq.{split_at, get_or-append_seam}
use Rattle.std.proofs.lemmas.Bool.{cases_eq, ne_eqb}
use Rattle.std.proofs.lemmas.List.{length-append, get_or_default, take_all}
use Rattle.std.proofs.lemmas.List.Sums.{count_by_more_yes, count_by_more_no}
use Rattle.gj_shape.specs.Additive.{IsTight}
use Rattle.gj_shape.specs.Cover.{HasCoverLine, HasComponent}
use Rattle.gj_shape.specs.Cover.HasComponent.{opened, joined}
use Rattle.gj_shape.specs.FunctionData.{FunctionData}
use Rattle.gj_shape.specs.declared.extremality.CoverLine.{CoverLine}
use Rattle.gj_shape.specs.declared.faces.FaceKind.TheVariants.{Vertex}
use Rattle.gj_theory.specs.CoverRules.{MeetsCoverRule, MeetsCoverRules}
use Rattle.gj_proof.specs.ProofText.{IsCoverLineBelow}
use Rattle.gj_check.specs.CoverLines.{HaveLines, MeetsCover, IsFirstBroken, IsCoverOutcome}
use Rattle.gj_check.specs.declared.cover_lines.Components.{Components}
use Rattle.gj_check.specs.declared.cover_lines.Covered.TheVariants.{Whole}
use Rattle.gj_proof.proofs.AtPlaces.{at_place, with_place, each_item}
use Rattle.gj_theory.proofs.LineIntervals.{line_for_each}

-- ---- one item more

any_before : {A : Type 0} (P : A → Type 0) (xs : List A) (y : A) → Any P xs → Any P (xs ++ y ∷ [])
any_before P xs y (k, x, below, there, h) =
    let long = length-append xs (y ∷ []) in
    (k, x, omega arith, get_or-append xs (y ∷ []) x k below ∙ there, h)

any_last : {A : Type 0} (P : A → Type 0) (xs : List A) (y : A) → P y → Any P (xs ++ y ∷ [])
any_last P xs y h =
    let long = length-append xs (y ∷ []) in
    (length xs, y, omega arith, get_or-append_seam xs y [] y, h)

any_other : {A : Type 0} (P : A → Type 0) (xs : List A) (y : A) → (P y → ⊥) → Any P (xs ++ y ∷ []) →
    Any P xs
any_other P xs y other (k, x, below, there, h) =
    let long = length-append xs (y ∷ []) in
    elim (cases_eq k (length xs)) [
      | inl e ↦
          let last : get_or (xs ++ y ∷ []) k x ≡ y = ap (λ (n : ℕ). get_or (xs ++ y ∷ []) n x) e
          ∙ get_or-append_seam xs y [] x in
          absurd (other (subst P (sym there ∙ last) h))
      | inr ne ↦
          let low : k < length xs = omega arith in
          (k, x, low, sym (get_or-append xs (y ∷ []) x k low) ∙ there, h)
    ]

-- the first k lines meet the rule, and these are the intervals that have one of them, and the
-- numbers of these
pub record AreNumbered (f : FunctionData) (lines : List CoverLine) (k : ℕ) (has_line : List Bool)
    (number : List ℕ) (count : ℕ) : Type 0 where
  pub has_length : length has_line ≡ f.order
  pub number_length : length number ≡ f.order
  pub meet : (j : ℕ) → j < k → MeetsCover f lines j
  pub have : HaveLines (take k lines) has_line
  pub shown : (i : ℕ) → i < f.order → IsTrue (get_or has_line i false) →
      HasComponent lines (get_or number i 0) i
  pub few : (i : ℕ) → i < f.order → IsTrue (get_or has_line i false) → get_or number i 0 < count
  pub counted : count ≡ count_by (λ l. l.from == l.interval) (take k lines)
  pub small : count ≤ k

-- one more line, whose interval has this number
numbered_more : (f : FunctionData) (lines : List CoverLine) (k : ℕ) (has_line : List Bool)
    (number : List ℕ) (count n more : ℕ) (l : CoverLine) →
    AreNumbered f lines k has_line number count → k < length lines → l ≡ get_or lines k l →
    l.interval < f.order →
    MeetsCoverRule f.order (IsTight f) (take k lines) l → HasComponent lines n l.interval →
    n < more → count ≤ more → more ≤ k + 1 →
    more ≡ count_by (λ l. l.from == l.interval) (take (k + 1) lines) →
    AreNumbered f lines (k + 1) (set has_line l.interval true) (set number l.interval n) more
numbered_more f lines k has_line number count n more l h below is within meets component few grown
    small counted =
    let has_length = h.has_length in
    let number_length = h.number_length in
    let i = l.interval in
    let has_within : i < length has_line = omega arith in
    let number_within : i < length number = omega arith in
    let longer : take (k + 1) lines ≡ take k lines ++ l ∷ [] = with_place lines k l below is in
    let P : (j : ℕ) → CoverLine → Type 0 = λ j m. m.interval ≡ j in
    record {
      has_length = length-set has_line i true ∙ has_length;
      number_length = length-set number i n ∙ number_length;
      meet = below_more (MeetsCover f lines) k h.meet
          (at_place lines (MeetsCoverRule f.order (IsTight f)) k l below is meets);
      have = λ j low. elim (cases_eq j i) [
        | inl e ↦ (
          λ _. subst (λ ls. HasCoverLine ls j) (sym longer)
              (any_last (P j) (take k lines) l (sym e)),
          λ _. ap (λ (m : ℕ). get_or (set has_line i true) m false) e
              ∙ get_or-set_same has_line i true false has_within,
        )
        | inr ne ↦
            let other : get_or (set has_line i true) j false ≡ get_or has_line j false =
            get_or-set_other has_line i j true false ne in
            let old = h.have j (let len = length-set has_line i true in omega arith) in (
              λ t. subst (λ ls. HasCoverLine ls j) (sym longer)
                  (any_before (P j) (take k lines) l (old.0 (sym other ∙ t))),
              λ line. other ∙ old.1
                  (any_other (P j) (take k lines) l (λ e. ne (sym e))
                  (subst (λ ls. HasCoverLine ls j) longer line)),
            )
      ];
      shown = λ j low t. elim (cases_eq j i) [
        | inl e ↦
            let new : get_or (set number i n) j 0 ≡ n =
            ap (λ (m : ℕ). get_or (set number i n) m 0) e
            ∙ get_or-set_same number i n 0 number_within in
            subst (λ (m : ℕ). HasComponent lines m j) (sym new)
            (subst (HasComponent lines n) (sym e) component)
        | inr ne ↦
            let same : get_or (set number i n) j 0 ≡ get_or number j 0 =
            get_or-set_other number i j n 0 ne in
            let other : get_or (set has_line i true) j false ≡ get_or has_line j false =
            get_or-set_other has_line i j true false ne in
            subst (λ (m : ℕ). HasComponent lines m j) (sym same) (h.shown j low (sym other ∙ t))
      ];
      few = λ j low t. elim (cases_eq j i) [
        | inl e ↦
            let new : get_or (set number i n) j 0 ≡ n =
            ap (λ (m : ℕ). get_or (set number i n) m 0) e
            ∙ get_or-set_same number i n 0 number_within in
            omega arith
        | inr ne ↦
            let same : get_or (set number i n) j 0 ≡ get_or number j 0 =
            get_or-set_other number i j n 0 ne in
            let other : get_or (set has_line i true) j false ≡ get_or has_line j false =
            get_or-set_other has_line i j true false ne in
            let old = h.few j low (sym other ∙ t) in
            omega arith
      ];
      counted = counted;
      small = small;
    }

split_here : (lines : List CoverLine) (k : ℕ) (l : CoverLine) → k < length lines →
    l ≡ get_or lines k l →
    lines ≡ take k lines ++ l ∷ drop (suc k) lines
split_here lines k l below is = split_at lines k l below
    ∙ ap (λ m. take k lines ++ m ∷ drop (suc k) lines) (sym is)

-- a line that opens a component
pub numbered_opening : (f : FunctionData) (lines : List CoverLine) (k : ℕ) (has_line : List Bool)
    (number : List ℕ) (count : ℕ) (l : CoverLine) →
    AreNumbered f lines k has_line number count → k < length lines → l ≡ get_or lines k l →
    l.interval < f.order →
    MeetsCoverRule f.order (IsTight f) (take k lines) l → l.from ≡ l.interval →
    AreNumbered f lines (k + 1) (set has_line l.interval true) (set number l.interval count)
    (count + 1)
numbered_opening f lines k has_line number count l h below is within meets same =
    let counted = h.counted in
    let small = h.small in
    numbered_more f lines k has_line number count count (count + 1) l h below is within meets
    (opened (take k lines) l (drop (suc k) lines) (split_here lines k l below is) same counted)
    (omega arith) (omega arith) (omega arith)
    (ap (λ n. n + 1) counted
    ∙ sym (count_by_more_yes (λ m. m.from == m.interval) lines k l below
    (subst (λ m. (m.from == m.interval) ≡ true) is (eq-eqb l.from l.interval same))))

-- one that joins its interval to another
pub numbered_joining : (f : FunctionData) (lines : List CoverLine) (k : ℕ) (has_line : List Bool)
    (number : List ℕ) (count : ℕ) (l : CoverLine) →
    AreNumbered f lines k has_line number count → k < length lines → l ≡ get_or lines k l →
    l.interval < f.order → l.from < f.order →
    MeetsCoverRule f.order (IsTight f) (take k lines) l → l.from ≢ l.interval →
    AreNumbered f lines (k + 1) (set has_line l.interval true)
    (set number l.interval (get_or number l.from 0)) count
numbered_joining f lines k has_line number count l h below is within from_within meets other =
    let counted = h.counted in
    let small = h.small in
    let has_length = h.has_length in
    let has : IsTrue (get_or has_line l.from false) =
    (h.have l.from (omega arith)).1 (meets.earlier other) in
    numbered_more f lines k has_line number count (get_or number l.from 0) count l h below is within
    meets
    (joined (take k lines) l (drop (suc k) lines) (split_here lines k l below is) other
    (h.shown l.from from_within has))
    (h.few l.from from_within has) (omega arith) (omega arith)
    (counted
    ∙ sym (count_by_more_no (λ m. m.from == m.interval) lines k l below
    (subst (λ m. (m.from == m.interval) ≡ false) is (ne_eqb l.from l.interval other))))

-- ---- the outcome

abbrev pub zero_line : CoverLine
zero_line = record { interval = 0; from = 0; face = record { kind = Vertex; a = 0; b = 0 } }

-- the first line that breaks the rule
pub first_broken : (f : FunctionData) (lines : List CoverLine) (k : ℕ) → k < length lines →
    ((j : ℕ) → j < k → MeetsCover f lines j) →
    (MeetsCoverRule f.order (IsTight f) (take k lines) (get_or lines k zero_line) → ⊥) →
    IsFirstBroken f lines k
first_broken f lines k below meet breaks =
    let l = get_or lines k zero_line in
    let is : l ≡ get_or lines k l = sym (get_or_default lines k l zero_line below) in
    record {
      within = below;
      before = meet;
      here = at_place lines (λ before m. MeetsCoverRule f.order (IsTight f) before m →
          ⊥) k l below is breaks;
    }

-- all lines
pub all_numbered : (f : FunctionData) (lines : List CoverLine) (k : ℕ) → k ≡ length lines →
    (has_line : List Bool) (c : Components) →
    length lines ≡ f.order → All (IsCoverLineBelow f.order) lines →
    AreNumbered f lines k has_line c.number.items c.count →
    IsCoverOutcome f lines (Whole c)
all_numbered f lines k all has_line c count below h =
    let whole : take k lines ≡ lines = take_all k lines (omega arith) in
    let has_length = h.has_length in
    let number_length = h.number_length in
    let meet = each_item lines (MeetsCoverRule f.order (IsTight f)) k (omega arith) h.meet in
    let rules : MeetsCoverRules f.order (IsTight f) lines =
    λ before l after place. meet (length before) before l after place refl in
    let has = λ (i : ℕ) (low : i < f.order).
    let line = line_for_each f.order (IsTight f) lines rules
    (λ j d j_low. (below j d j_low).interval) count i low in
    (h.have i (omega arith)).1 (subst (λ ls. HasCoverLine ls i) (sym whole) line) in (
      meet,
      record {
        length = number_length;
        below = λ i d low.
            let within : i < f.order = omega arith in
            subst (λ (n : ℕ). n < c.count) (get_or_default c.number.items i 0 d low)
            (h.few i within (has i within));
        numbers = λ i low. h.shown i low (has i low);
        count = h.counted ∙ ap (count_by (λ l. l.from == l.interval)) whole;
      },
    )
