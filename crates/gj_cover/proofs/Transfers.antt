-- A cover by one relation is one by any relation with the same pairs.
use Rattle.std.proofs.Common.{ℕ, ◌<◌, ◌↔◌, List, inl, inr}
use Rattle.std.proofs.lemmas.List.Elements.{All-weaker}
use Rattle.gj_shape.specs.Additive.{IsAdditive}
use Rattle.gj_shape.specs.Cover.{Joins, AreJoined, Covers, IsDirectlyCovered, LeadsTo, here, onward, IsCovered, IsFirstFace, JoinsLines, IsOpen, IsNextLine}
use Rattle.gj_shape.specs.Faces.{corners_of}
use Rattle.gj_shape.specs.FirstViolation.{IsLeastFrom}
use Rattle.gj_shape.specs.declared.extremality.CoverLine.{CoverLine}
use Rattle.gj_shape.specs.declared.faces.Face.{Face}
use Rattle.gj_shape.specs.declared.faces.FaceKind.{FaceKind}
use Rattle.gj_cover.specs.CoverOf.{IsCoverOf}
use Rattle.gj_cover.specs.declared.covered.Cover.{Cover}

-- each pair of the one is one of the other
abbrev pub IsWithin : (ℕ → ℕ → Type 0) → (ℕ → ℕ → Type 0) → Type 0
IsWithin T U = (i j : ℕ) → T i j → U i j

additive_on : (T U : ℕ → ℕ → Type 0) → IsWithin T U → (kind : FaceKind) (a b : ℕ) →
    IsAdditive T kind a b → IsAdditive U kind a b
additive_on T U on kind a b h = All-weaker (λ c. T c.0 c.1) (λ c. U c.0 c.1) (λ c. on c.0 c.1)
    (corners_of kind a b) h

joins_on : (q : ℕ) (T U : ℕ → ℕ → Type 0) → IsWithin T U → (kind : FaceKind) (a b i j : ℕ) →
    Joins q T kind a b i j → Joins q U kind a b i j
joins_on q T U on kind a b i j h =
    record { additive = additive_on T U on kind a b h.additive; first = h.first; second = h.second }

joined_on : (q : ℕ) (T U : ℕ → ℕ → Type 0) → IsWithin T U → (i j : ℕ) → AreJoined q T i j →
    AreJoined q U i j
joined_on q T U on i j (kind, a, b, h) = (kind, a, b, joins_on q T U on kind a b i j h)

covers_on : (q : ℕ) (T U : ℕ → ℕ → Type 0) → IsWithin T U → (kind : FaceKind) (a b i : ℕ) →
    Covers q T kind a b i → Covers q U kind a b i
covers_on q T U on kind a b i h =
    record { additive = additive_on T U on kind a b h.additive; projection = h.projection }

directly_on : (q : ℕ) (T U : ℕ → ℕ → Type 0) → IsWithin T U → (i : ℕ) → IsDirectlyCovered q T i →
    IsDirectlyCovered q U i
directly_on q T U on i (kind, a, b, h) = (kind, a, b, covers_on q T U on kind a b i h)

leads_on : (q : ℕ) (T U : ℕ → ℕ → Type 0) → IsWithin T U → (j i : ℕ) → LeadsTo q T j i →
    LeadsTo q U j i
leads_on q T U on j i (here _ e) = here i e
leads_on q T U on j i (onward _ next h rest) =
    onward i next (joined_on q T U on i next h) (leads_on q T U on j next rest)

covered_on : (q : ℕ) (T U : ℕ → ℕ → Type 0) → IsWithin T U → (i : ℕ) → IsCovered q T i →
    IsCovered q U i
covered_on q T U on i (j, direct, list) =
    (j, directly_on q T U on j direct, leads_on q T U on i j list)

-- ---- first and least

first_face_on : (q : ℕ) (P Q : FaceKind → ℕ → ℕ → Type 0) →
    ((kind : FaceKind) (a b : ℕ) → P kind a b → Q kind a b) →
    ((kind : FaceKind) (a b : ℕ) → Q kind a b → P kind a b) → (face : Face) → IsFirstFace q P face →
    IsFirstFace q Q face
first_face_on q P Q on back face h =
    let A : Face → Type 0 = λ g. P g.kind g.a g.b → ⊥ in
    let B : Face → Type 0 = λ g. Q g.kind g.a g.b → ⊥ in
    record {
      before = h.before;
      first = record {
        after = h.first.after;
        place = h.first.place;
        good = All-weaker A B (λ g not k. not (back g.kind g.a g.b k)) h.before h.first.good;
        bad = λ all. h.first.bad (All-weaker B A (λ g not k. not (on g.kind g.a g.b k)) _ all);
      };
      holds = on face.kind face.a face.b h.holds;
    }

least_on : (P Q : ℕ → Type 0) → ((n : ℕ) → P n → Q n) → ((n : ℕ) → Q n → P n) → (n : ℕ) →
    IsLeastFrom 0 P n → IsLeastFrom 0 Q n
least_on P Q on back n h =
    record {
      from = h.from;
      holds = on n h.holds;
      least =
          λ k from below q. h.least k from below (back k q);
    }

-- ---- lines

joins_lines_on : (q : ℕ) (T U : ℕ → ℕ → Type 0) → IsWithin T U →
    (lines : List CoverLine) (i j : ℕ) → JoinsLines q T lines i j → JoinsLines q U lines i j
joins_lines_on q T U on lines i j h = record {
  first_within = h.first_within;
  second_within = h.second_within;
  no_line = h.no_line;
  line = h.line;
  joined = joined_on q T U on i j h.joined;
}

open_on : (q : ℕ) (T U : ℕ → ℕ → Type 0) → IsWithin T U → (lines : List CoverLine) (i : ℕ) →
    IsOpen q T lines i → IsOpen q U lines i
open_on q T U on lines i h =
    record { within = h.within; no_line = h.no_line; covered = directly_on q T U on i h.covered }

next_on : (q : ℕ) (T U : ℕ → ℕ → Type 0) → IsWithin T U → IsWithin U T →
    (lines : List CoverLine) (l : CoverLine) → IsNextLine q T lines l → IsNextLine q U lines l
next_on q T U on back lines l (inl h) = inl (record {
  interval = least_on (λ i. (j : ℕ) × JoinsLines q T lines i j)
      (λ i. (j : ℕ) × JoinsLines q U lines i j)
      (λ i (j, k). (j, joins_lines_on q T U on lines i j k))
      (λ i (j, k). (j, joins_lines_on q U T back lines i j k)) l.interval h.interval;
  from = least_on (JoinsLines q T lines l.interval) (JoinsLines q U lines l.interval)
      (joins_lines_on q T U on lines l.interval) (joins_lines_on q U T back lines l.interval) l.from
      h.from;
  face = first_face_on q (λ kind a b. Joins q T kind a b l.interval l.from)
      (λ kind a b. Joins q U kind a b l.interval l.from)
      (λ kind a b. joins_on q T U on kind a b l.interval l.from)
      (λ kind a b. joins_on q U T back kind a b l.interval l.from) l.face h.face;
})
next_on q T U on back lines l (inr h) = inr (record {
  none_joins = λ i j k. h.none_joins i j (joins_lines_on q U T back lines i j k);
  interval = least_on (IsOpen q T lines) (IsOpen q U lines) (open_on q T U on lines)
      (open_on q U T back lines) l.interval h.interval;
  from = h.from;
  face = first_face_on q (λ kind a b. Covers q T kind a b l.interval)
      (λ kind a b. Covers q U kind a b l.interval)
      (λ kind a b. covers_on q T U on kind a b l.interval)
      (λ kind a b. covers_on q U T back kind a b l.interval) l.face h.face;
})

-- ---- the cover

both : {A B C : Type 0} → A ↔ B → (B → C) → (C → B) → A ↔ C
both h on back = (λ a. on (h.0 a), λ c. h.1 (back c))

pub cover_on : (q : ℕ) (T U : ℕ → ℕ → Type 0) (cover : Cover) → IsWithin T U → IsWithin U T →
    IsCoverOf q T cover → IsCoverOf q U cover
cover_on q T U cover on back h = record {
  lines = record {
    in_turn = λ before l after e. next_on q T U on back before l (h.lines.in_turn before l after e);
    complete = λ l next. h.lines.complete l (next_on q U T back on cover.lines l next);
  };
  count = h.count;
  component = record {
    length = h.component.length;
    numbers = h.component.numbers;
    uncovered = λ i below. both (h.component.uncovered i below)
        (λ not covered. not (covered_on q U T back i covered))
        (λ not covered. not (covered_on q T U on i covered));
    same = λ i j i_below j_below. both (h.component.same i j i_below j_below)
        (λ (x, y, z). (covered_on q T U on i x, covered_on q T U on j y, leads_on q T U on j i z))
        (λ (x, y, z). (
          covered_on q U T back i x,
          covered_on q U T back j y,
          leads_on q U T back j i
              z,
        ));
    below = h.component.below;
  };
  «class» = record {
    ascending = h.class.ascending;
    members = λ least first i. both
        (h.class.members least
        (least_on (λ n. (n < q) × (IsCovered q U n → ⊥)) (λ n. (n < q) × (IsCovered q T n → ⊥))
        (λ n (below, not). (below, λ covered. not (covered_on q T U on n covered)))
        (λ n (below, not). (below, λ covered. not (covered_on q U T back n covered))) least first)
        i)
        (λ (below, list). (below, leads_on q T U on i least list))
        (λ (below, list). (below, leads_on q U T back i least list));
    none = both h.class.none (λ all i below. covered_on q T U on i (all i below))
        (λ all i below. covered_on q U T back i (all i below));
  };
}
