-- The squares that are looked at for a first face, and that it is first of all.
use Rattle.std.proofs.Common.{◌≡◌, ◌≢◌, ℕ, ◌+◌, ◌%◌, ◌<◌, ◌↔◌, false, IsTrue, Option, Some, None, IfSome, IfNone, refl, sym, ap, ◌∙◌, subst, inl, inr, arith}
use Rattle.std.proofs.Math.Nat.{mod-mod, mod-lt, mod-eq_of_lt}
use Rattle.std.proofs.lemmas.Bool.{cases_order, cases_eq}
use Rattle.gj_loops.specs.IndexSets.{has, IsFirst}
use Rattle.gj_loops.specs.declared.index_set.IndexSet.{IndexSet}
use Rattle.gj_shape.specs.Additive.{IsAdditive}
use Rattle.gj_shape.specs.Cover.{Joins, AreJoined, Covers, IsDirectlyCovered, IsFirstFace}
use Rattle.gj_shape.specs.declared.faces.Face.{Face}
use Rattle.gj_shape.specs.declared.faces.FaceKind.{FaceKind}
use Rattle.gj_shape.specs.declared.faces.FaceKind.TheVariants.{Vertex, Horizontal, Vertical, Diagonal, Lower, Upper}
use Rattle.gj_cover.specs.FirstFound.{FindsFirst, IsThis, IsFaceReached, IsInRowBefore, AddsFirst}
use Rattle.gj_cover.specs.Links.{LeadsBy, Leads, IsPairInRow, IsAcross}
use Rattle.gj_cover.proofs.Adding.{EitherOf, ranked_behind}
use Rattle.gj_cover.proofs.Edges.{one_step, joins_by, joins_led}
use Rattle.gj_cover.proofs.Joining.{joins_within, covers_within}
use Rattle.gj_cover.proofs.Merging.{Either}
use Rattle.gj_faces.proofs.Periods.{same_sum}
use Rattle.gj_cover.proofs.Parts.{HasPeriod, Intervals, IsTriangle, covered_one}
use Rattle.gj_cover.proofs.WalkPlaces.{first_face}

-- ---- squares one by one

abbrev pub Square : ℕ → ℕ → ℕ → ℕ → Type 0
Square a b c d = (c ≡ a) × (d ≡ b)

-- by which steps an interval j is reached from another modulo q: by step, and by one and then by
-- short
pub record AreSteps (q i step short j : ℕ) : Type 0 where
  pub start : i < q
  pub end : j < q
  pub step_below : step < q
  pub short_below : short < q
  pub step_leads : (i + step) % q ≡ j
  pub short_leads : (1 + short) % q ≡ step

pub steps_at : (q n i step short j : ℕ) → n ≡ q → i < q → j < q → step < n → short < n →
    (i + step) % n ≡ j → (1 + short) % n ≡ step →
    AreSteps q i step short j
steps_at q n i step short j is start end step_below short_below step_leads short_leads = record {
  start = start;
  end = end;
  step_below = subst (λ m. step < m) is step_below;
  short_below = subst (λ m. short < m) is short_below;
  step_leads = subst (λ m. (i + step) % m ≡ j) is step_leads;
  short_leads = subst (λ m. (1 + short) % m ≡ step) is short_leads;
}

pub next_leads : (q i step short j : ℕ) → AreSteps q i step short j → (i + short + 1) % q ≡ j
next_leads q i step short j s =
    let order : i + short + 1 ≡ i + (1 + short) = omega arith in
    ap (λ n. n % q) order
    ∙ same_sum q i (1 + short) i step refl (s.short_leads ∙ sym (mod-eq_of_lt s.step_below))
    ∙ s.step_leads

-- the sums in another order
pub turned : (q a b j : ℕ) → (a + b) % q ≡ j → (b + a) % q ≡ j
turned q a b j e = let order : b + a ≡ a + b = omega arith in ap (λ n. n % q) order ∙ e

pub turned_next : (q a b j : ℕ) → (a + b + 1) % q ≡ j → (b + a + 1) % q ≡ j
turned_next q a b j e = let order : b + a + 1 ≡ a + b + 1 = omega arith in ap (λ n. n % q) order ∙ e

-- a number below q by which j is reached is the step, or the short one
pub is_step : (q i step short j b : ℕ) → AreSteps q i step short j → b < q → (i + b) % q ≡ j →
    b ≡ step
is_step q i step short j b s b_below e = one_step q i b step j b_below s.step_below e s.step_leads

pub is_short : (q i step short j b : ℕ) → AreSteps q i step short j → b < q → (i + b + 1) % q ≡ j →
    b ≡ short
is_short q i step short j b s b_below e =
    let first : i + 1 + b ≡ i + b + 1 = omega arith in
    let second : i + 1 + short ≡ i + short + 1 = omega arith in
    one_step q (i + 1) b short j b_below s.short_below (ap (λ n. n % q) first ∙ e)
    (ap (λ n. n % q) second ∙ next_leads q i step short j s)

-- ---- the faces by which i leads to j

-- five of them
abbrev pub Five : ℕ → ℕ → ℕ → ℕ → FaceKind → ℕ → ℕ → Type 0
Five i step short j =
    EitherOf (EitherOf (EitherOf (EitherOf (IsThis Upper i short) (IsThis Horizontal i step))
    (IsThis Diagonal i j)) (IsThis Upper short i))
    (IsThis Vertical step i)

-- what holds of one face, of the same face in other words
here : (P : FaceKind → ℕ → ℕ → Type 0) (kind other : FaceKind) (a b c d : ℕ) → P kind a b →
    IsThis kind a b other c d → P other c d
here P kind other a b c d h (e, x, y) =
    subst (λ k. P k c d) (sym e)
    (subst (λ n. P kind n d) (sym x) (subst (λ n. P kind a n) (sym y) h))

pub five_on : (q i step short j : ℕ) → AreSteps q i step short j → (kind : FaceKind) (a b : ℕ) →
    Five i step short j kind a b →
    LeadsBy q i j kind a b
five_on q i step short j s kind a b (inl (inl (inl (inl h)))) =
    here (LeadsBy q i j) Upper kind i short a b
    (s.start, s.short_below, inl refl, next_leads q i step short j s) h
five_on q i step short j s kind a b (inl (inl (inl (inr h)))) =
    here (LeadsBy q i j) Horizontal kind i step a b (refl, s.step_below, s.step_leads) h
five_on q i step short j s kind a b (inl (inl (inr h))) =
    here (LeadsBy q i j) Diagonal kind i j a b (refl, refl) h
five_on q i step short j s kind a b (inl (inr h)) =
    here (LeadsBy q i j) Upper kind short i a b
    (s.short_below, s.start, inr refl, turned_next q i short j (next_leads q i step short j s)) h
five_on q i step short j s kind a b (inr h) =
    here (LeadsBy q i j) Vertical kind step i a b
    (s.step_below, refl, turned q i step j s.step_leads) h

pub five_back : (q i step short j : ℕ) → AreSteps q i step short j → (kind : FaceKind) (a b : ℕ) →
    LeadsBy q i j kind a b →
    Five i step short j kind a b
five_back q i step short j s Vertex a b h = absurd h
five_back q i step short j s Horizontal a b (x, below, e) =
    inl (inl (inl (inr (
      refl,
      x,
      is_step q i step short j b s below (ap (λ n. (n + b) % q) (sym x)
          ∙ e),
    ))))
five_back q i step short j s Vertical a b (below, x, e) =
    inr (
      refl,
      is_step q i step short j a s below (ap (λ n. (n + a) % q) (sym x)
          ∙ turned q a b j e),
      x,
    )
five_back q i step short j s Diagonal a b (x, y) = inl (inl (inr (refl, x, y)))
five_back q i step short j s Lower a b h = absurd h
five_back q i step short j s Upper a b (a_below, b_below, inl x, e) =
    inl (inl (inl (inl (
      refl,
      x,
      is_short q i step short j b s b_below
          (ap (λ n. (n + b + 1) % q) (sym x) ∙ e),
    ))))
five_back q i step short j s Upper a b (a_below, b_below, inr x, e) =
    inl (inr (
      refl,
      is_short q i step short j a s a_below (ap (λ n. (n + a + 1) % q) (sym x)
          ∙ turned_next q a b j e),
      x,
    ))

-- all of them are behind a face in a row before
pub all_behind : (found : Option Face) (i step short j : ℕ) → IsInRowBefore found i step short →
    (kind : FaceKind) (a b : ℕ) →
    Five i step short j kind a b → IsFaceReached found kind a b
all_behind None i step short j h kind a b five = absurd h
all_behind (Some f) i step short j (x, y, z) kind a b (inl (inl (inl (inl (_, s, _))))) =
    inl (let lt : f.a < a = omega (arith, x, s) in lt)
all_behind (Some f) i step short j (x, y, z) kind a b (inl (inl (inl (inr (_, s, _))))) =
    inl (let lt : f.a < a = omega (arith, x, s) in lt)
all_behind (Some f) i step short j (x, y, z) kind a b (inl (inl (inr (_, s, _)))) =
    inl (let lt : f.a < a = omega (arith, x, s) in lt)
all_behind (Some f) i step short j (x, y, z) kind a b (inl (inr (_, s, _))) =
    inl (let lt : f.a < a = omega (arith, z, s) in lt)
all_behind (Some f) i step short j (x, y, z) kind a b (inr (_, s, _)) =
    inl (let lt : f.a < a = omega (arith, y, s) in lt)

-- ---- first of all faces

leads_within : (q i j : ℕ) → i < q → j < q → (kind : FaceKind) (a b : ℕ) → LeadsBy q i j kind a b →
    (a < q) × (b < q)
leads_within q i j i_below j_below Vertex a b h = absurd h
leads_within q i j i_below j_below Horizontal a b (x, y, z) =
    (subst (λ n. n < q) (sym x) i_below, y)
leads_within q i j i_below j_below Vertical a b (x, y, z) = (x, subst (λ n. n < q) (sym y) i_below)
leads_within q i j i_below j_below Diagonal a b (x, y) =
    (subst (λ n. n < q) (sym x) i_below, subst (λ n. n < q) (sym y) j_below)
leads_within q i j i_below j_below Lower a b h = absurd h
leads_within q i j i_below j_below Upper a b (x, y, z, w) = (x, y)

pub leads_turned : (q i j : ℕ) (kind : FaceKind) (a b : ℕ) → Leads q i j kind a b →
    Leads q j i kind a b
leads_turned q i j kind a b (inl x) = inr x
leads_turned q i j kind a b (inr x) = inl x

pub joining_found : (q : ℕ) (T : ℕ → ℕ → Type 0) (i j : ℕ) → i < q → j < q → i ≢ j →
    (result : Option Face) →
    AddsFirst (Leads q i j) (IsAdditive T) None result →
    IfSome result (IsFirstFace q (λ kind a b. Joins q T kind a b i j))
joining_found q T i j i_below j_below other None h = tt
joining_found q T i j i_below j_below other (Some f) h = elim h.from [
  | inl e ↦ absurd (cc (e))
  | inr (leads, additive) ↦
      let within : (f.a < q) × (f.b < q) = elim leads [
        | inl x ↦ leads_within q i j i_below j_below f.kind f.a f.b x
        | inr x ↦ leads_within q j i j_below i_below f.kind f.a f.b x
      ] in
      let joins : Joins q T f.kind f.a f.b i j = elim leads [
        | inl x ↦ joins_by q T i j j_below f.kind f.a f.b x additive
        | inr x ↦
            let back = joins_by q T j i i_below f.kind f.a f.b x additive in
            record { additive = additive; first = back.second; second = back.first }
      ] in
      first_face q (λ kind a b. Joins q T kind a b i j) f within.0 within.1 joins
      (λ kind a b a_below b_below p.
      let led = joins_led q T kind a b i j i_below j_below other a_below b_below p in
      ranked_behind f led.by kind a b led.low (h.first led.by a b led.leads led.additive))
]

pub joining_none : (q : ℕ) (T : ℕ → ℕ → Type 0) → HasPeriod q T → (i j : ℕ) → i < q → j < q →
    i ≢ j →
    (result : Option Face) → AddsFirst (Leads q i j) (IsAdditive T) None result →
    IfNone result (AreJoined q T i j → ⊥)
joining_none q T p i j i_below j_below other (Some f) h = tt
joining_none q T p i j i_below j_below other None h = λ (kind, a, b, k).
    let some : 0 < q = omega arith in
    let in' = joins_within q T p kind a b (a % q) (b % q) i j (sym (mod-mod a q))
    (sym (mod-mod b q)) k in
    let led = joins_led q T kind (a % q) (b % q) i j i_below j_below other (mod-lt a some)
    (mod-lt b some) in' in
    h.first led.by (a % q) (b % q) led.leads led.additive

-- all squares of the complex
abbrev pub IsSquare : ℕ → ℕ → ℕ → Type 0
IsSquare q a b = (a < q) × (b < q)

pub covering_found : (q : ℕ) (T : ℕ → ℕ → Type 0) (i : ℕ) (result : Option Face) →
    FindsFirst (IsSquare q) (λ kind a b. Covers q T kind a b i) result →
    IfSome result (IsFirstFace q (λ kind a b. Covers q T kind a b i))
covering_found q T i None h = tt
covering_found q T i (Some f) h =
    first_face q (λ kind a b. Covers q T kind a b i) f h.square.0 h.square.1 h.holds
    (λ kind a b a_below b_below p. h.first kind a b (a_below, b_below) p)

pub covering_none : (q : ℕ) (T : ℕ → ℕ → Type 0) → HasPeriod q T → (i : ℕ) → i < q →
    (result : Option Face) →
    FindsFirst (IsSquare q) (λ kind a b. Covers q T kind a b i) result →
    IfNone result (IsDirectlyCovered q T i → ⊥)
covering_none q T p i i_below (Some f) h = tt
covering_none q T p i i_below None h = λ (kind, a, b, k).
    let some : 0 < q = omega arith in
    let in' = covers_within q T p kind a b (a % q) (b % q) i (sym (mod-mod a q))
    (sym (mod-mod b q)) k in
    h kind (a % q) (b % q) (mod-lt a some, mod-lt b some) in'

-- ---- the squares of row i, and of the other rows

pub in_row_none : (q : ℕ) (T : ℕ → ℕ → Type 0) (i : ℕ) (set : IndexSet) →
    ((b : ℕ) → has set b ≡ false) →
    ((b : ℕ) → b < q → IsTrue (has set b) ↔ ((kind : FaceKind) × Covers q T kind i b i)) →
    FindsFirst (IsPairInRow q i) (λ kind a b. Covers q T kind a b i) None
in_row_none q T i set none told kind a b (same, below) p =
    let yes' = (told b below).1 (kind, subst (λ n. Covers q T kind n b i) same p) in
    let not = none b in cc (yes', not)

pub in_row_found : (q : ℕ) (T : ℕ → ℕ → Type 0) (i k : ℕ) (set : IndexSet) (found : Option Face) →
    IsFirst set 0 k →
    ((b : ℕ) → IsTrue (has set b) → b < q) →
    ((b : ℕ) → b < q → IsTrue (has set b) ↔ ((kind : FaceKind) × Covers q T kind i b i)) →
    FindsFirst (Square i k) (λ kind a b. Covers q T kind a b i) found →
    FindsFirst (IsPairInRow q i) (λ kind a b. Covers q T kind a b i) found
in_row_found q T i k set None first within told h =
    let at = (told k (within k first.found)).0 first.found in absurd (h at.0 i k (refl, refl) at.1)
in_row_found q T i k set (Some f) first within told h = record {
  square = (h.square.0, subst (λ n. n < q) (sym h.square.1) (within k first.found));
  holds = h.holds;
  first = λ kind a b (same, below) p. elim (cases_order b k) [
    | inl at ↦ h.first kind a b (same, at) p
    | inr d ↦ elim d [
      | inl before ↦
          let yes' = (told b below).1 (kind, subst (λ n. Covers q T kind n b i) same p) in
          let not = first.before b (omega arith) before in absurd (cc (yes', not))
      | inr behind ↦ inr (
        h.square.0
            ∙ sym same,
        inl (let lt : f.b < b = omega (arith, h.square.1) in lt),
      )
    ]
  ];
}

pub across_none : (q : ℕ) (T : ℕ → ℕ → Type 0) (i : ℕ) (set : IndexSet) →
    ((a : ℕ) → has set a ≡ false) →
    ((a : ℕ) → a < q → a ≢ i →
    IsTrue (has set a) ↔ ((kind : FaceKind) × (b : ℕ) × (b < q) × Covers q T kind a b i)) →
    FindsFirst (IsAcross q i) (λ kind a b. Covers q T kind a b i) None
across_none q T i set none told kind a b (a_below, other, b_below) p =
    let yes' = (told a a_below other).1 (kind, b, b_below, p) in
    let not = none a in cc (yes', not)

-- three squares of row k
abbrev pub Three : ℕ → ℕ → ℕ → ℕ → ℕ → ℕ → Type 0
Three k i step short = Either (Either (Square k i) (Square k step)) (Square k short)

three_below : (q k i step short a b : ℕ) → AreSteps q k step short i → Three k i step short a b →
    (a ≡ k) × (b < q)
three_below q k i step short a b s (inl (inl (x, y))) = (x, subst (λ n. n < q) (sym y) s.end)
three_below q k i step short a b s (inl (inr (x, y))) = (x, subst (λ n. n < q) (sym y) s.step_below)
three_below q k i step short a b s (inr (x, y)) = (x, subst (λ n. n < q) (sym y) s.short_below)

three_by : (q k i step short b : ℕ) (kind : FaceKind) → AreSteps q k step short i → k ≢ i → b < q →
    IsTriangle kind →
    Intervals q kind k b i → Three k i step short k b
three_by q k i step short b Vertex s other below t h = absurd t
three_by q k i step short b Horizontal s other below t h = absurd t
three_by q k i step short b Vertical s other below t h = absurd t
three_by q k i step short b Diagonal s other below t h = absurd t
three_by q k i step short b Lower s other below t (inl x) =
    absurd (other (sym (mod-eq_of_lt s.start) ∙ x ∙ mod-eq_of_lt s.end))
three_by q k i step short b Lower s other below t (inr (inl x)) =
    inl (inl (refl, sym (mod-eq_of_lt below) ∙ x ∙ mod-eq_of_lt s.end))
three_by q k i step short b Lower s other below t (inr (inr x)) =
    inl (inr (refl, is_step q k step short i b s below (x ∙ mod-eq_of_lt s.end)))
three_by q k i step short b Upper s other below t (inl x) =
    absurd (other (sym (mod-eq_of_lt s.start) ∙ x ∙ mod-eq_of_lt s.end))
three_by q k i step short b Upper s other below t (inr (inl x)) =
    inl (inl (refl, sym (mod-eq_of_lt below) ∙ x ∙ mod-eq_of_lt s.end))
three_by q k i step short b Upper s other below t (inr (inr x)) =
    inr (refl, is_short q k step short i b s below (x ∙ mod-eq_of_lt s.end))

three_of : (q : ℕ) (T : ℕ → ℕ → Type 0) (k i step short b : ℕ) (kind : FaceKind) →
    AreSteps q k step short i → k ≢ i → b < q →
    Covers q T kind k b i → Three k i step short k b
three_of q T k i step short b kind s other below h =
    let at = covered_one q kind k b i h.projection in
    three_by q k i step short b kind s other below at.0 at.1

pub across_found : (q : ℕ) (T : ℕ → ℕ → Type 0) (i k step short : ℕ) (set : IndexSet)
    (found : Option Face) →
    AreSteps q k step short i → k ≢ i → IsFirst set 0 k →
    ((a : ℕ) → a < q → a ≢ i →
    IsTrue (has set a) ↔ ((kind : FaceKind) × (b : ℕ) × (b < q) × Covers q T kind a b i)) →
    FindsFirst (Three k i step short) (λ kind a b. Covers q T kind a b i) found →
    FindsFirst (IsAcross q i) (λ kind a b. Covers q T kind a b i) found
across_found q T i k step short set None s other first told h =
    let at = (told k s.start other).0 first.found in
    absurd (h at.0 k at.1 (three_of q T k i step short at.1 at.0 s other at.2 at.3) at.3)
across_found q T i k step short set (Some f) s other first told h =
    let at = three_below q k i step short f.a f.b s h.square in
    record {
      square = (subst (λ n. n < q) (sym at.0) s.start, (λ e. other (sym at.0 ∙ e)), at.1);
      holds = h.holds;
      first = λ kind a b (a_below, not_it, b_below) p. elim (cases_order a k) [
        | inl same ↦
            let p' = subst (λ n. Covers q T kind n b i) same p in
            h.first kind a b (subst (λ n. Three k i step short n b) (sym same)
            (three_of q T k i step short b kind s other b_below p')) p
        | inr d ↦ elim d [
          | inl before ↦
              let yes' = (told a a_below not_it).1 (kind, b, b_below, p) in
              let not = first.before a (omega arith) before in absurd (cc (yes', not))
          | inr behind ↦ inl (let lt : f.a < a = omega (arith, at.0) in lt)
        ]
      ];
    }

-- both
pub all_on : (q i a b : ℕ) → i < q → Either (IsPairInRow q i) (IsAcross q i) a b → IsSquare q a b
all_on q i a b below (inl (x, y)) = (subst (λ n. n < q) (sym x) below, y)
all_on q i a b below (inr (x, y, z)) = (x, z)

pub all_back : (q i a b : ℕ) → IsSquare q a b → Either (IsPairInRow q i) (IsAcross q i) a b
all_back q i a b (x, y) =
    elim (cases_eq a i) [ inl same ↦ inl (same, y) | inr other ↦ inr (x, other, y) ]
