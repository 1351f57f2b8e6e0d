-- Runs, row by row.
use Rattle.std.proofs.Common.{◌≡◌, ◌⊎◌, inl, inr, ◌↔◌, ℕ, zero, suc, ◌+◌, ◌-◌, ◌%◌, ◌<◌, ◌≤◌, Bool, true, false, ◌&&◌, not, nat_le, List, [], ◌∷◌, ◌++◌, length, get_or, refl, sym, ap, subst, ◌∙◌, arith}
use Rattle.std.proofs.Math.Nat.{mod-eq_of_lt, mod-mod, mod-lt}
use Rattle.std.proofs.lemmas.Bool.{cases_eq, cases_lt, and_parts, and_right, not-true, not-false, le-leb}
use Rattle.std.proofs.lemmas.List.{get_or_append_left, get_or_push, length_push}
use Rattle.std.proofs.lemmas.List.Elements.{All-push, All-weaker}
use Rattle.gj_loops.proofs.Bits.{and_all}
use Rattle.gj_faces.specs.declared.run.Run.{Run}
use Rattle.gj_faces.specs.Runs.{InRuns, IsRunOf, EndsBefore, IsWholeRun, AreRunsOf}
use Rattle.gj_faces.specs.RunsBefore.{ComesBefore, IsTightRun, AreRunsBefore}
use Rattle.gj_faces.proofs.RunLists.{AreAscending, ascending_by_index, in_order_by_index}

-- indices with equal remainders serve alike
abbrev pub IsPeriodic : ℕ → (ℕ → ℕ → Type 0) → Type 0
IsPeriodic q Tight = (i j k l : ℕ) → i % q ≡ k % q → j % q ≡ l % q → Tight i j → Tight k l

-- pairs that are not tight add no run
pub skipped : (q : ℕ) (Tight : ℕ → ℕ → Type 0) (a b c : ℕ) (runs : List Run) →
    AreRunsBefore q Tight a b runs → b ≤ c →
    ((j : ℕ) → b ≤ j → j < c → Tight a j → ⊥) → AreRunsBefore q Tight a c runs
skipped q Tight a b c runs h order none = record {
  in_order = h.in_order;
  whole = h.whole;
  tight = h.tight;
  behind = All-weaker (λ r. ComesBefore r.a r.to a b) (λ r. ComesBefore r.a r.to a c)
      (λ r before. later r before) runs
      h.behind;
  complete = λ i j first second before tight. found i j first second before tight;
}
  where
    later : (r : Run) → ComesBefore r.a r.to a b → ComesBefore r.a r.to a c
    later r (inl row) = inl row
    later r (inr place) = inr (place.0, omega (arith, place.1))

    found : (i j : ℕ) → i < q → j < q → ComesBefore i j a c → Tight i j → InRuns q runs i j
    found i j first second (inl row) tight = h.complete i j first second (inl row) tight
    found i j first second (inr place) tight =
        elim (cases_lt j b) [
          | inl early ↦ h.complete i j first second (inr (place.0, early)) tight
          | inr late ↦ absurd (none j late place.1 (subst (λ k. Tight k j) place.0 tight))
        ]

-- one more run
pub pushed : (q : ℕ) (Tight : ℕ → ℕ → Type 0) (a b c : ℕ) (runs : List Run) →
    AreRunsBefore q Tight a b runs → a < q →
    b < c → c ≤ q → ((j : ℕ) → b ≤ j → j < c → Tight a j) → (0 < b → Tight a (b - 1) → ⊥) →
    (c < q → Tight a c → ⊥) →
    AreRunsBefore q Tight a c (runs ++ record { a = a; from = b; to = c - 1 } ∷ [])
pushed q Tight a b c runs h row some within tight start stop =
    let run : Run = record { a = a; from = b; to = c - 1 } in
    record {
      in_order = in_order_by_index q (runs ++ run ∷ [])
          (All-push (IsRunOf q) runs run h.in_order.each
          (record { row = row; some = omega arith; within = omega arith }))
          (ascending run refl refl (ascending_by_index q runs h.in_order));
      whole = All-push (IsWholeRun q Tight) runs run h.whole (record {
        start = start;
        stop = λ below next. stop (omega arith)
            (subst (Tight a) (let e : c - 1 + 1 ≡ c = omega arith in e) next);
      });
      tight = All-push (IsTightRun Tight) runs run h.tight
          (λ j low high. tight j low (omega arith));
      behind = All-push (λ r. ComesBefore r.a r.to a c) runs run
          (All-weaker (λ r. ComesBefore r.a r.to a b) (λ r. ComesBefore r.a r.to a c) later runs
          h.behind)
          (inr (refl, omega arith));
      complete = found;
    }
  where
    later : (r : Run) → ComesBefore r.a r.to a b → ComesBefore r.a r.to a c
    later r (inl row) = inl row
    later r (inr place) = inr (place.0, omega (arith, place.1))

    ends : (run : Run) → run.a ≡ a → run.from ≡ b → (r : Run) → ComesBefore r.a r.to a b →
        EndsBefore r run
    ends run row from r (inl h) = inl (omega arith)
    ends run row from r (inr h) = inr (h.0 ∙ sym row, omega (arith, h.1))

    ascending : (run : Run) → run.a ≡ a → run.from ≡ b → AreAscending runs →
        AreAscending (runs ++ run ∷ [])
    ascending run row from old k d below =
        let more = length_push runs run in
        let first = get_or_append_left runs (run ∷ []) d k (omega arith) in
        elim (cases_lt (k + 1) (length runs)) [
          | inl inside ↦ let second = get_or_append_left runs (run ∷ []) d (k + 1) inside in
              rw (first, second) (old k d inside)
          | inr beyond ↦ let second = get_or_push runs run d (k + 1) (omega arith) in
              rw (first, second) (ends run row from (get_or runs k d) (h.behind k d (omega arith)))
        ]

    wider : (run : Run) {i j : ℕ} → InRuns q runs i j → InRuns q (runs ++ run ∷ []) i j
    wider run held =
        let below = held.2 in (
          held.0,
          held.1,
          omega (arith, length_push runs run),
          get_or_append_left runs
              (run ∷ []) held.1 held.0 below ∙ held.3,
          held.4,
        )

    found : (i j : ℕ) → i < q → j < q → ComesBefore i j a c → Tight i j →
        InRuns q (runs ++ record { a = a; from = b; to = c - 1 } ∷ []) i j
    found i j first second (inl earlier) tight =
        wider (record { a = a; from = b; to = c - 1 })
        (h.complete i j first second (inl earlier) tight)
    found i j first second (inr place) tight =
        let run : Run = record { a = a; from = b; to = c - 1 } in
        let row_rest = mod-eq_of_lt first in
        let place_rest = mod-eq_of_lt second in
        elim (cases_lt j b) [
          | inl early ↦ wider run (h.complete i j first second (inr (place.0, early)) tight)
          | inr late ↦ (
            length runs,
            run,
            omega (arith, length_push runs run),
            get_or_push runs run run (length runs) refl,
            record {
              row = omega (arith, place.0);
              start = omega arith;
              stop =
                  omega (arith, place.1);
            },
          )
        ]

-- all rows
pub all_rows : (q : ℕ) (Tight : ℕ → ℕ → Type 0) (runs : List Run) → 0 < q → IsPeriodic q Tight →
    AreRunsBefore q Tight q 0 runs → AreRunsOf q Tight runs
all_rows q Tight runs some periodic h = record {
  in_order = h.in_order;
  tell = λ i j. (
    λ tight. reduced (h.complete (i % q) (j % q) (mod-lt i some) (mod-lt j some)
        (inl (mod-lt i some))
        (periodic i j (i % q) (j % q) (sym (mod-mod i q)) (sym (mod-mod j q)) tight)),
    λ held. holds held,
  );
  whole = h.whole;
}
  where
    reduced : {i j : ℕ} → InRuns q runs (i % q) (j % q) → InRuns q runs i j
    reduced {i} {j} held = (
      held.0,
      held.1,
      held.2,
      held.3,
      record {
        row = held.4.row ∙ mod-mod i q;
        start = omega (arith, held.4.start, mod-mod j q);
        stop = omega (arith, held.4.stop, mod-mod j q);
      },
    )

    holds : {i j : ℕ} → InRuns q runs i j → Tight i j
    holds {i} {j} held =
        let run = held.1 in
        let tight = subst (IsTightRun Tight) held.3 (h.tight held.0 run held.2)
        (j % q) held.4.start held.4.stop in
        periodic run.a (j % q) i j (ap (λ k. k % q) held.4.row ∙ mod-mod i q) (mod-mod j q) tight

-- a row up to its end
all_of_row : (q : ℕ) (Tight : ℕ → ℕ → Type 0) (a : ℕ) (runs : List Run) →
    AreRunsBefore q Tight a q runs → AreRunsBefore q Tight (a + 1) 0 runs
all_of_row q Tight a runs h = record {
  in_order = h.in_order;
  whole = h.whole;
  tight = h.tight;
  behind = All-weaker (λ r. ComesBefore r.a r.to a q) (λ r. ComesBefore r.a r.to (a + 1) 0)
      (λ r before. later r before) runs h.behind;
  complete = λ i j first second before tight. h.complete i j first second
      (earlier i j second before) tight;
}
  where
    later : (r : Run) → ComesBefore r.a r.to a q → ComesBefore r.a r.to (a + 1) 0
    later r (inl row) = inl (omega arith)
    later r (inr place) = inl (omega (arith, place.0))

    earlier : (i j : ℕ) → j < q → ComesBefore i j (a + 1) 0 → ComesBefore i j a q
    earlier i j second (inl row) =
        elim (cases_eq i a) [ inl e ↦ inr (e, second) | inr differ ↦ inl (omega arith) ]
    earlier i j second (inr place) = absurd (omega (arith, place.1))

-- ---- read off a row

-- the row has the indices below q with the property, and no others
abbrev Tells : (ℕ → Type 0) → (ℕ → Bool) → ℕ → Type 0
Tells P row q = (b : ℕ) → (row b ≡ true) ↔ ((b < q) × P b)

-- an index of the row whose one before is not in it, and one whose next is not
abbrev pub AreStarts : (ℕ → Bool) → (ℕ → Bool) → Type 0
AreStarts row starts = (i : ℕ) → i < 1024 → starts i ≡ (row i && not (nat_le 1 i && row (i - 1)))

abbrev pub AreEnds : (ℕ → Bool) → (ℕ → Bool) → Type 0
AreEnds row ends = (i : ℕ) → ends i ≡ (row i && not (row (i + 1)))

-- if no run ends the row goes on
goes_on : (row ends : ℕ → Bool) (from n : ℕ) → AreEnds row ends → row from ≡ true →
    ((j : ℕ) → from ≤ j → j < from + n → ends j ≡ false) → row (from + n) ≡ true
goes_on row ends from zero are h none = let e : from ≡ from + zero = omega arith in
    ap row (sym e) ∙ h
goes_on row ends from (suc n) are h none =
    let here = goes_on row ends from n are h (λ j low high. none j low (omega arith)) in
    let e : from + n + 1 ≡ from + suc n = omega arith in
    let silent : (row (from + n) && not (row (from + n + 1))) ≡ false = sym (are (from + n))
    ∙ none (from + n) (omega arith) (omega arith) in
    ap row (sym e) ∙ not-false (row (from + n + 1))
    (sym (ap (λ b. b && not (row (from + n + 1))) here) ∙ silent)

-- if none starts it has nothing
stays_out : (row starts : ℕ → Bool) (c j : ℕ) → AreStarts row starts → (c ≡ 0) ⊎ (row c ≡ false) →
    c ≤ j → j < 1024 →
    ((k : ℕ) → c ≤ k → k ≤ j → starts k ≡ false) → row j ≡ false
stays_out row starts c zero are (inr out) order below none = let e : c ≡ 0 = omega arith in
    ap row (sym e) ∙ out
stays_out row starts c zero are (inl first) order below none =
    let silent = sym (are 0 below) ∙ none 0 order (omega arith) in
    and_all (row 0) (not (nat_le 1 0 && row (0 - 1))) refl ∙ silent
stays_out row starts c (suc j) are edge order below none =
    elim (cases_lt c (suc j)) [
      | inl earlier ↦
          let before = stays_out row starts c j are edge (omega arith) (omega arith)
          (λ k low high. none k low (omega arith)) in
          let silent = sym (are (suc j) below) ∙ none (suc j) order (omega arith) in
          let e : suc j - 1 ≡ j = omega arith in
          let free = ap not (and_right (nat_le 1 (suc j)) (row (suc j - 1)) (ap row e ∙ before)) in
          and_all (row (suc j)) (not (nat_le 1 (suc j) && row (suc j - 1))) free ∙ silent
      | inr same ↦
          let e : c ≡ suc j = omega arith in
          elim edge [ inl first ↦ absurd (omega arith) | inr out ↦ ap row (sym e) ∙ out ]
    ]

-- the next run: from the first start on to the first end, of those not before the place c
pub next_run : (q : ℕ) (Tight : ℕ → ℕ → Type 0) (a c from to : ℕ) (row starts ends : ℕ → Bool)
    (runs : List Run) →
    AreRunsBefore q Tight a c runs → a < q → q ≤ 1000 → Tells (Tight a) row q →
    AreStarts row starts → AreEnds row ends →
    (c ≡ 0) ⊎ (row c ≡ false) → c ≤ from → starts from ≡ true →
    ((j : ℕ) → c ≤ j → j < from → starts j ≡ false) →
    from ≤ to → ends to ≡ true → ((j : ℕ) → from ≤ j → j < to → ends j ≡ false) →
    AreRunsBefore q Tight a (to + 1) (runs ++ record { a = a; from = from; to = to } ∷ [])
    × (row (to + 1) ≡ false) × (to < q)
next_run q Tight a c from to row starts ends runs h below few tells are_starts are_ends edge order
    starts_here none length ends_here not_yet =
    let last = and_parts (row to) (not (row (to + 1))) (sym (are_ends to) ∙ ends_here) in
    let inside : to < q = (((tells to).0 last.0).0) in
    let start = and_parts (row from) (not (nat_le 1 from && row (from - 1)))
    (sym (are_starts from (omega arith)) ∙ starts_here) in
    let free = not-true (nat_le 1 from && row (from - 1)) start.1 in
    let off = not-true (row (to + 1)) last.1 in
    let e : to + 1 - 1 ≡ to = omega arith in
    let all : (j : ℕ) → from ≤ j → j < to + 1 → Tight a j = λ j low high.
    let same : from + (j - from) ≡ j = omega arith in
    ((tells j).0 (ap row (sym same) ∙ goes_on row ends from (j - from) are_ends start.0
    (λ k from_low k_high. not_yet k from_low (omega arith)))).1 in
    let before = skipped q Tight a c from runs h order (λ j low high tight.
    clash (row j) ((tells j).1 (omega arith, tight))
    (stays_out row starts c j are_starts edge low (omega arith)
    (λ k k_low k_high. none k k_low (omega arith)))) in (
      subst (λ k. AreRunsBefore q Tight a (to + 1)
          (runs ++ record { a = a; from = from; to = k } ∷ [])) e
          (pushed q Tight a from (to + 1) runs before below (omega arith) (omega arith) all
          (λ positive tight.
          let le : nat_le 1 from ≡ true = le-leb 1 from positive in
          clash (row (from - 1)) ((tells (from - 1)).1 (omega arith, tight))
          (sym (ap (λ b. b && row (from - 1)) le) ∙ free))
          (λ beyond tight. clash (row (to + 1)) ((tells (to + 1)).1 (beyond, tight)) off)),
      off,
      inside,
    )
  where
    clash : (t : Bool) → t ≡ true → t ≡ false → ⊥
    clash t h k = cc

-- a run that starts ends
pub run_ends : (q : ℕ) (P : ℕ → Type 0) (from : ℕ) (row starts ends : ℕ → Bool) → q ≤ 1000 →
    Tells P row q → AreStarts row starts →
    AreEnds row ends → from < 1024 → starts from ≡ true → ((j : ℕ) → from ≤ j → ends j ≡ false) → ⊥
run_ends q P from row starts ends few tells are_starts are_ends below starts_here none =
    let start = and_parts (row from) (not (nat_le 1 from && row (from - 1)))
    (sym (are_starts from below) ∙ starts_here) in
    let beyond = goes_on row ends from q are_ends start.0 (λ j low high. none j low) in
    let inside = ((tells (from + q)).0 beyond).0 in
    omega arith

-- the row is done if no run starts any more
pub row_done : (q : ℕ) (Tight : ℕ → ℕ → Type 0) (a c : ℕ) (row starts : ℕ → Bool)
    (runs : List Run) → AreRunsBefore q Tight a c runs →
    q ≤ 1000 → Tells (Tight a) row q → AreStarts row starts → (c ≡ 0) ⊎ (row c ≡ false) → c ≤ q →
    ((j : ℕ) → c ≤ j → starts j ≡ false) → AreRunsBefore q Tight (a + 1) 0 runs
row_done q Tight a c row starts runs h few tells are edge within none =
    all_of_row q Tight a runs (skipped q Tight a c q runs h within (λ j low high tight.
    clash (row j) ((tells j).1 (high, tight))
    (stays_out row starts c j are edge low (omega arith) (λ k k_low k_high. none k k_low))))
  where
    clash : (t : Bool) → t ≡ true → t ≡ false → ⊥
    clash t h k = cc
