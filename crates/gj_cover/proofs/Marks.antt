-- The pairs of runs in rows of sets.
use Rattle.std.proofs.Common.{◌≡◌, ℕ, ◌⊎◌, ◌+◌, ◌%◌, ◌<◌, ◌≤◌, ◌↔◌, ◌||◌, ◌&&◌, leb, ltb, List, length, get_or, false, IsTrue, sym, ap, ◌∙◌, subst, inl, inr, arith}
use Rattle.std.proofs.Math.ListN.{set}
use Rattle.std.proofs.Math.Nat.{mod-mod, mod-lt, mod-eq_of_lt}
use Rattle.std.proofs.lemmas.Bool.{or_cases, or_left, or_right, and_parts, and_from, leb-true, ltb-true, le-leb, lt-ltb}
use Rattle.std.proofs.lemmas.Bool.Decides.{eqb_tells}
use Rattle.std.proofs.lemmas.List.{get_or_default}
use Rattle.gj_loops.specs.IndexSets.{has}
use Rattle.gj_loops.specs.declared.index_set.IndexSet.{IndexSet}
use Rattle.gj_faces.specs.Runs.{RunHolds, InRuns}
use Rattle.gj_faces.specs.declared.run.Run.{Run}
use Rattle.gj_cover.specs.SetRows.{in_row}
use Rattle.gj_cover.specs.Table.{is_tight_in, IsTightInTable, TellsTight}
use Rattle.gj_cover.specs.declared.table.Table.{Table}
use Rattle.gj_cover.proofs.SetRows.{row_has, row_written, row_stays}

-- the pair is marked
abbrev pub IsMarked : List IndexSet → ℕ → ℕ → Type 0
IsMarked rows i j = IsTrue (in_row rows i j)

-- the pairs of a run are marked in its row
pub marked_run : (q : ℕ) (run : Run) (old : List IndexSet) (row places new : IndexSet) →
    length old ≡ q → run.a < q →
    row ≡ get_or old run.a row → ((j : ℕ) → has places j ≡ (leb run.from j && ltb j (run.to + 1))) →
    ((j : ℕ) → has new j ≡ (has row j || has places j)) → (i j : ℕ) → i < q → j < q →
    IsMarked (set old run.a new) i j ↔ (IsMarked old i j ⊎ RunHolds q i j run)
marked_run q run old row places new len a_below row_is places_are new_is i j i_below j_below =
    let within : run.a < length old = omega arith in
    let j_is = mod-eq_of_lt j_below in
    let i_is = mod-eq_of_lt i_below in
    elim (eqb_tells i run.a) [
      | inl (_, same) ↦
          let read : in_row old i j ≡ has row j = ap (λ k. in_row old k j) same
          ∙ row_has old run.a j row within row_is in
          let written : in_row (set old run.a new) i j ≡ (has row j || has places j) =
          ap (λ k. in_row (set old run.a new) k j) same ∙ row_written old run.a j new within
          ∙ new_is j in (
            λ m. elim (or_cases (has row j) (has places j) (sym written ∙ m)) [
              | inl x ↦ inl (read ∙ x)
              | inr x ↦
                  let both = and_parts (leb run.from j) (ltb j (run.to + 1))
                  (sym (places_are j) ∙ x) in
                  let low = leb-true run.from j both.0 in
                  let high = ltb-true j (run.to + 1) both.1 in
                  inr (record {
                    row = sym same ∙ sym i_is;
                    start = (let from : run.from ≤ j % q = omega (arith, j_is) in from);
                    stop = (let to : j % q ≤ run.to = omega (arith, j_is) in to);
                  })
            ],
            λ m. written ∙ (elim m [
              | inl x ↦ or_left (has row j) (has places j) (sym read ∙ x)
              | inr r ↦ or_right (has row j) (has places j)
                  (places_are j ∙ and_from (leb run.from j) (ltb j (run.to + 1))
                  (le-leb run.from j (omega (arith, j_is, r.start)))
                  (lt-ltb j (run.to + 1) (omega (arith, j_is, r.stop))))
            ]),
          )
      | inr (_, other) ↦
          let stays = row_stays old run.a i j new (let in' : i < length old = omega arith in
          in') other in (
            λ m. inl (sym stays ∙ m),
            λ m. elim m [
              | inl x ↦ stays ∙ x
              | inr r ↦ absurd (other (sym i_is ∙ sym r.row))
            ],
          )
    ]

-- the marked pairs are those in the first n runs
abbrev pub InFirst : ℕ → List Run → ℕ → ℕ → ℕ → Type 0
InFirst q runs n i j = (k : ℕ) × (x : Run) × (k < n) × (get_or runs k x ≡ x) × RunHolds q i j x

abbrev pub HoldRuns : ℕ → List Run → ℕ → List IndexSet → Type 0
HoldRuns q runs n rows = (i j : ℕ) → i < q → j < q → IsMarked rows i j ↔ InFirst q runs n i j

pub no_runs : (q : ℕ) (runs : List Run) (rows : List IndexSet) →
    ((i j : ℕ) → in_row rows i j ≡ false) → HoldRuns q runs 0 rows
no_runs q runs rows none i j i_below j_below = (
  λ m. let free = none i j in absurd (cc (m, free)),
  λ (k, x, below, is, h). absurd (omega arith),
)

pub one_run_more : (q n : ℕ) (runs : List Run) (run : Run) (old new : List IndexSet) →
    n < length runs → get_or runs n run ≡ run →
    HoldRuns q runs n old →
    ((i j : ℕ) → i < q → j < q → IsMarked new i j ↔ (IsMarked old i j ⊎ RunHolds q i j run)) →
    HoldRuns q runs (n + 1) new
one_run_more q n runs run old new within is h next i j i_below j_below = (
  λ m. elim ((next i j i_below j_below).0 m) [
    | inl x ↦ let at = (h i j i_below j_below).0 x in
        (at.0, at.1, (let low : at.0 < n + 1 = omega (arith, at.2) in low), at.3, at.4)
    | inr r ↦ (n, run, (let low : n < n + 1 = omega arith in low), is, r)
  ],
  λ (k, x, below, e, r). (next i j i_below j_below).1 (elim (eqb_tells k n) [
    | inl (_, same) ↦
        let one : x ≡ run =
        sym e ∙ ap (λ p. get_or runs p x) same ∙ get_or_default runs n x run within ∙ is in
        inr (subst (RunHolds q i j) one r)
    | inr (_, other) ↦ inl
        ((h i j i_below j_below).1 (k, x, (let low : k < n = omega arith in low), e, r))
  ]),
)

holds_rests : (q i j : ℕ) (r : Run) → RunHolds q (i % q) (j % q) r → RunHolds q i j r
holds_rests q i j r h = record {
  row = h.row ∙ mod-mod i q;
  start = subst (λ n. r.from ≤ n) (mod-mod j q) h.start;
  stop = subst (λ n. n ≤ r.to) (mod-mod j q) h.stop;
}

rests_hold : (q i j : ℕ) (r : Run) → RunHolds q i j r → RunHolds q (i % q) (j % q) r
rests_hold q i j r h = record {
  row = h.row ∙ sym (mod-mod i q);
  start = subst (λ n. r.from ≤ n) (sym (mod-mod j q)) h.start;
  stop = subst (λ n. n ≤ r.to) (sym (mod-mod j q)) h.stop;
}

-- the table of all runs
pub tells_runs : (q : ℕ) (runs : List Run) (n : ℕ) (t : Table) → 0 < q → t.order ≡ q →
    n ≡ length runs →
    HoldRuns q runs n t.rows.items → TellsTight t (InRuns q runs)
unfolding IsTightInTable is_tight_in
tells_runs q runs n t some order all h i j =
    let at = h (i % q) (j % q) (mod-lt i some) (mod-lt j some) in
    let read : in_row t.rows.items (i % t.order) (j % t.order)
    ≡ in_row t.rows.items (i % q) (j % q) =
    ap (λ n. in_row t.rows.items (i % n) (j % n)) order in (
      λ m.
          let found = at.0 (sym read ∙ m) in (
            found.0,
            found.1,
            subst (λ n. found.0 < n) all found.2,
            found.3,
            holds_rests q i j
                found.1 found.4,
          ),
      λ (k, x, below, is, r). read
          ∙ at.1 (k, x, subst (λ n. k < n) (sym all) below, is, rests_hold q i j x r),
    )
