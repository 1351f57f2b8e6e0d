-- The lines of an extreme function and those of halves: their names differ, and each has one line
-- feed, at its end.
use Rattle.std.proofs.Common.{◌≡◌, ◌≢◌, ℕ, ℤ, ◌+◌, ◌<◌, ◌≤◌, List, [], ◌∷◌, ◌++◌, All, flat_map, zip, refl, sym, ap, subst, ◌∙◌, arith}
use Rattle.std.proofs.lemmas.List.{append_assoc, append-nil, map-append}
use Rattle.std.proofs.lemmas.List.Elements.{All-nil, All-cons, All-head, All-tail, All-append, All-weaker}
use Rattle.gj_frac.specs.Fraction.{Fits}
use Rattle.gj_shape.specs.Perturbation.{AreHalvesInBounds}
use Rattle.gj_shape.specs.declared.extremality.CoverLine.{CoverLine}
use Rattle.gj_shape.specs.declared.extremality.Halves.{Halves}
use Rattle.gj_function_lines.specs.FaceLines.{cover_line}
use Rattle.gj_forms.proofs.LineFeeds.{one_feed}
use Rattle.gj_proof.specs.ProofText.{ProofLine, OwnLine, group_line, reduction_line, pivot_line, covered_lines, reduction_lines, group_lines, modulus_line, modulus_lines, extreme_lines, halves_line, pair_line, pair_lines, IsCoverLineBelow, IsPivotRowBelow, group_text, halves_text, modulus_text, extreme_text}
use Rattle.gj_proof.specs.ProofGrammar.{cover_form, row_name_form, modulus_form, halves_form, pair_form}
use Rattle.gj_proof.specs.declared.numbers.Numbers.{Numbers}
use Rattle.gj_proof.specs.declared.numbers.Numbers.TheVariants.{Whole, Residues}
use Rattle.gj_proof.specs.declared.pivot.PivotRow.{PivotRow}
use Rattle.gj_proof.proofs.ClearLines.{cover_is_clear, row_name_is_clear, modulus_is_clear, halves_is_clear, pair_is_clear}
use Rattle.gj_proof.proofs.ExtremeTexts.{reduce_form, reduce_is_clear, pivot_form, pivot_is_clear, head_of}
use Rattle.gj_proof.proofs.LineLists.{names, bytes, bytes_append, Differ, differ_append, HasOneFeed}

-- ---- their bytes

pub covered_bytes : (i : ℕ) (lines : List CoverLine) →
    bytes (covered_lines i lines) ≡ flat_map cover_line lines
covered_bytes i [] = refl
covered_bytes i (l ∷ lines) = ap (λ t. cover_line l ++ t) (covered_bytes (i + 1) lines)

pub reduction_bytes : (g r : ℕ) (columns : List ℕ) →
    bytes (reduction_lines g r columns) ≡ flat_map reduction_line columns
reduction_bytes g r [] = refl
reduction_bytes g r (c ∷ columns) =
    ap (λ t. reduction_line c ++ t) (reduction_bytes g (r + 1) columns)

pub group_bytes : (g : ℕ) (rows : List PivotRow) →
    bytes (group_lines g rows) ≡ flat_map group_text rows
group_bytes g [] = refl
group_bytes g (row ∷ rows) =
    let last : OwnLine = record { name = ProofLine.group_pivot g; bytes = pivot_line row.pivot } in
    ap (λ t. group_line row.name ++ t)
    (bytes_append (reduction_lines g 0 row.reduce) (last ∷ group_lines (g + 1) rows)
    ∙ ap (λ t. t ++ (pivot_line row.pivot ++ bytes (group_lines (g + 1) rows)))
    (reduction_bytes g 0 row.reduce)
    ∙ ap (λ t. flat_map reduction_line row.reduce ++ (pivot_line row.pivot ++ t))
    (group_bytes (g + 1) rows))
    ∙ regroup (group_line row.name) (flat_map reduction_line row.reduce) (pivot_line row.pivot)
    (flat_map group_text rows)
  where
    regroup : (a b c d : List ℕ) → a ++ (b ++ (c ++ d)) ≡ (a ++ b ++ c) ++ d
    regroup a b c d = simp append_assoc

pub modulus_bytes : (n : Numbers) → bytes (modulus_lines n) ≡ modulus_text n
modulus_bytes Whole = refl
modulus_bytes Residues = append-nil modulus_line

pub extreme_bytes : (n : Numbers) (lines : List CoverLine) (rows : List PivotRow) →
    bytes (extreme_lines n lines rows) ≡ extreme_text n lines rows
extreme_bytes n lines rows =
    let more = modulus_lines n ++ group_lines 0 rows in
    bytes_append (covered_lines 0 lines) more ∙ ap (λ t. t ++ bytes more) (covered_bytes 0 lines)
    ∙ ap (λ t. flat_map cover_line lines ++ t)
    (bytes_append (modulus_lines n) (group_lines 0 rows)
    ∙ (λ i. modulus_bytes n i ++ group_bytes 0 rows i))

pub pair_bytes : (i : ℕ) (pairs : List (ℤ × ℤ)) →
    bytes (pair_lines i pairs) ≡ flat_map pair_line pairs
pair_bytes i [] = refl
pair_bytes i (p ∷ pairs) = ap (λ t. pair_line p ++ t) (pair_bytes (i + 1) pairs)

pub halves_bytes : (h : Halves) →
    bytes (record { name = ProofLine.halves; bytes = halves_line h } ∷ pair_lines 0
    (zip h.first h.second)) ≡ halves_text h
halves_bytes h = ap (λ t. halves_line h ++ t) (pair_bytes 0 (zip h.first h.second))

-- ---- their names differ

-- the line is that of a covered interval, from the i-th on
abbrev pub IsCoveredFrom : ℕ → ProofLine → Type 0
IsCoveredFrom i (ProofLine.covered k) = i ≤ k
IsCoveredFrom i l = ⊥

-- the line is a step of the g-th group, from the r-th on
abbrev IsReductionFrom : ℕ → ℕ → ProofLine → Type 0
IsReductionFrom g r (ProofLine.reduction k m) = (k ≡ g) × (r ≤ m)
IsReductionFrom g r l = ⊥

-- the line is of a group, from the g-th on
abbrev pub IsGroupFrom : ℕ → ProofLine → Type 0
IsGroupFrom g (ProofLine.group k) = g ≤ k
IsGroupFrom g (ProofLine.reduction k m) = g ≤ k
IsGroupFrom g (ProofLine.group_pivot k) = g ≤ k
IsGroupFrom g l = ⊥

-- the line is that of a pair of values, from the i-th on
abbrev pub IsPairFrom : ℕ → ProofLine → Type 0
IsPairFrom i (ProofLine.pair k) = i ≤ k
IsPairFrom i l = ⊥

later_covered : (i : ℕ) (l : ProofLine) → IsCoveredFrom (i + 1) l → IsCoveredFrom i l
later_covered i (ProofLine.covered k) h = omega (arith, h)
later_covered i l h = absurd h

later_reduction : (g r : ℕ) (l : ProofLine) → IsReductionFrom g (r + 1) l → IsReductionFrom g r l
later_reduction g r (ProofLine.reduction k m) h = (h.0, omega (arith, h.1))
later_reduction g r l h = absurd h

later_group : (g : ℕ) (l : ProofLine) → IsGroupFrom (g + 1) l → IsGroupFrom g l
later_group g (ProofLine.group k) h = omega (arith, h)
later_group g (ProofLine.reduction k m) h = omega (arith, h)
later_group g (ProofLine.group_pivot k) h = omega (arith, h)
later_group g l h = absurd h

reduction_is_of_group : (g : ℕ) (l : ProofLine) → IsReductionFrom g 0 l → IsGroupFrom g l
reduction_is_of_group g (ProofLine.reduction k m) h = omega (arith, h.0)
reduction_is_of_group g l h = absurd h

later_pair : (i : ℕ) (l : ProofLine) → IsPairFrom (i + 1) l → IsPairFrom i l
later_pair i (ProofLine.pair k) h = omega (arith, h)
later_pair i l h = absurd h

pub covered_are : (i : ℕ) (lines : List CoverLine) →
    All (IsCoveredFrom i) (names (covered_lines i lines))
covered_are i [] = All-nil (IsCoveredFrom i)
covered_are i (l ∷ lines) =
    All-cons (IsCoveredFrom i) (ProofLine.covered i) (names (covered_lines (i + 1) lines))
    (omega arith)
    (All-weaker (IsCoveredFrom (i + 1)) (IsCoveredFrom i) (later_covered i)
    (names (covered_lines (i + 1) lines)) (covered_are (i + 1) lines))

reductions_are : (g r : ℕ) (columns : List ℕ) →
    All (IsReductionFrom g r) (names (reduction_lines g r columns))
reductions_are g r [] = All-nil (IsReductionFrom g r)
reductions_are g r (c ∷ columns) =
    All-cons (IsReductionFrom g r) (ProofLine.reduction g r)
    (names (reduction_lines g (r + 1) columns)) (refl, omega arith)
    (All-weaker (IsReductionFrom g (r + 1)) (IsReductionFrom g r) (later_reduction g r)
    (names (reduction_lines g (r + 1) columns))
    (reductions_are g (r + 1) columns))

-- the names of the lines of a group behind its first, and of those of later groups
abbrev names_behind : ℕ → PivotRow → List PivotRow → List ProofLine
names_behind g row rows = names (reduction_lines g 0 row.reduce) ++ ProofLine.group_pivot g ∷ names
    (group_lines (g + 1) rows)

joined : (g : ℕ) (row : PivotRow) (rows : List PivotRow) →
    names (group_lines g (row ∷ rows)) ≡ ProofLine.group g ∷ names_behind g row rows
joined g row rows =
    let last : OwnLine = record { name = ProofLine.group_pivot g; bytes = pivot_line row.pivot } in
    ap (λ ns. ProofLine.group g ∷ ns)
    (map-append (λ (o : OwnLine). o.name) (reduction_lines g 0 row.reduce)
    (last ∷ group_lines (g + 1) rows))

pub groups_are : (g : ℕ) (rows : List PivotRow) → All (IsGroupFrom g) (names (group_lines g rows))
groups_are g [] = All-nil (IsGroupFrom g)
groups_are g (row ∷ rows) =
    let steps = names (reduction_lines g 0 row.reduce) in
    let more = names (group_lines (g + 1) rows) in
    subst (All (IsGroupFrom g)) (sym (joined g row rows))
    (All-cons (IsGroupFrom g) (ProofLine.group g) (names_behind g row rows) (omega arith)
    (All-append (IsGroupFrom g) steps (ProofLine.group_pivot g ∷ more)
    (All-weaker (IsReductionFrom g 0) (IsGroupFrom g) (reduction_is_of_group g) steps
    (reductions_are g 0 row.reduce))
    (All-cons (IsGroupFrom g) (ProofLine.group_pivot g) more (omega arith)
    (All-weaker (IsGroupFrom (g + 1)) (IsGroupFrom g) (later_group g) more
    (groups_are (g + 1) rows)))))

pub pairs_are : (i : ℕ) (pairs : List (ℤ × ℤ)) → All (IsPairFrom i) (names (pair_lines i pairs))
pairs_are i [] = All-nil (IsPairFrom i)
pairs_are i (p ∷ pairs) =
    All-cons (IsPairFrom i) (ProofLine.pair i) (names (pair_lines (i + 1) pairs)) (omega arith)
    (All-weaker (IsPairFrom (i + 1)) (IsPairFrom i) (later_pair i)
    (names (pair_lines (i + 1) pairs)) (pairs_are (i + 1) pairs))

not_this_covered : (i : ℕ) (l : ProofLine) → IsCoveredFrom (i + 1) l → l ≢ ProofLine.covered i
not_this_covered i l h e = let k : i + 1 ≤ i = subst (IsCoveredFrom (i + 1)) e h in omega (arith, k)

not_this_reduction : (g r : ℕ) (l : ProofLine) → IsReductionFrom g (r + 1) l →
    l ≢ ProofLine.reduction g r
not_this_reduction g r l h e = let k = subst (IsReductionFrom g (r + 1)) e h in omega (arith, k.1)

not_this_pair : (i : ℕ) (l : ProofLine) → IsPairFrom (i + 1) l → l ≢ ProofLine.pair i
not_this_pair i l h e = let k : i + 1 ≤ i = subst (IsPairFrom (i + 1)) e h in omega (arith, k)

no_later_group : (g : ℕ) (l : ProofLine) → IsGroupFrom (g + 1) l → l ≢ ProofLine.group g
no_later_group g l h e = let k : g + 1 ≤ g = subst (IsGroupFrom (g + 1)) e h in omega (arith, k)

no_later_pivot : (g : ℕ) (l : ProofLine) → IsGroupFrom (g + 1) l → l ≢ ProofLine.group_pivot g
no_later_pivot g l h e = let k : g + 1 ≤ g = subst (IsGroupFrom (g + 1)) e h in omega (arith, k)

no_first_line : (g : ℕ) (l : ProofLine) → IsReductionFrom g 0 l → l ≢ ProofLine.group g
no_first_line g l h e = subst (IsReductionFrom g 0) e h

-- a step of the g-th group is no line of a later one, and not its pivot
step_apart : (g : ℕ) (l m : ProofLine) → IsReductionFrom g 0 l → IsGroupFrom (g + 1) m → m ≢ l
step_apart g l m h k e = both l h (subst (IsGroupFrom (g + 1)) e k)
  where
    both : (l : ProofLine) → IsReductionFrom g 0 l → IsGroupFrom (g + 1) l → ⊥
    both (ProofLine.reduction k m) h r = omega (arith, h.0, r)
    both l h r = absurd h

no_pivot : (g : ℕ) (l : ProofLine) → IsReductionFrom g 0 l → ProofLine.group_pivot g ≢ l
no_pivot g l h e = subst (IsReductionFrom g 0) (sym e) h

covered_differ : (i : ℕ) (lines : List CoverLine) → Differ (names (covered_lines i lines))
covered_differ i [] = tt
covered_differ i (l ∷ lines) = (
  All-weaker (IsCoveredFrom (i + 1)) (λ k. k ≢ ProofLine.covered i) (not_this_covered i)
      (names (covered_lines (i + 1) lines))
      (covered_are (i + 1) lines),
  covered_differ (i + 1) lines,
)

reductions_differ : (g r : ℕ) (columns : List ℕ) → Differ (names (reduction_lines g r columns))
reductions_differ g r [] = tt
reductions_differ g r (c ∷ columns) = (
  All-weaker (IsReductionFrom g (r + 1)) (λ k. k ≢ ProofLine.reduction g r) (not_this_reduction g r)
      (names (reduction_lines g (r + 1) columns)) (reductions_are g (r + 1) columns),
  reductions_differ g (r + 1) columns,
)

groups_differ : (g : ℕ) (rows : List PivotRow) → Differ (names (group_lines g rows))
groups_differ g [] = tt
groups_differ g (row ∷ rows) =
    let steps = names (reduction_lines g 0 row.reduce) in
    let more = names (group_lines (g + 1) rows) in
    let behind = ProofLine.group_pivot g ∷ more in
    let steps_here = reductions_are g 0 row.reduce in
    let more_here = groups_are (g + 1) rows in
    let pivot_first : All (λ k. k ≢ ProofLine.group_pivot g) more =
    All-weaker (IsGroupFrom (g + 1)) (λ k. k ≢ ProofLine.group_pivot g)
    (no_later_pivot g) more more_here in
    let first : All (λ k. k ≢ ProofLine.group g) (steps ++ behind) =
    All-append (λ k. k ≢ ProofLine.group g) steps behind
    (All-weaker (IsReductionFrom g 0) (λ k. k ≢ ProofLine.group g)
    (no_first_line g) steps steps_here)
    (All-cons (λ k. k ≢ ProofLine.group g) (ProofLine.group_pivot g) more (λ e. cc)
    (All-weaker (IsGroupFrom (g + 1)) (λ k. k ≢ ProofLine.group g)
    (no_later_group g) more more_here)) in
    let apart : All (λ l. All (λ k. k ≢ l) behind) steps =
    All-weaker (IsReductionFrom g 0) (λ l. All (λ k. k ≢ l) behind)
    (λ l h.
    All-cons (λ k. k ≢ l) (ProofLine.group_pivot g) more (no_pivot g l h)
    (All-weaker (IsGroupFrom (g + 1)) (λ k. k ≢ l) (λ m k. step_apart g l m h k) more more_here))
    steps steps_here in
    let others : Differ (steps ++ behind) =
    differ_append steps behind (reductions_differ g 0 row.reduce)
    (pivot_first, groups_differ (g + 1) rows) apart in
    subst Differ (sym (joined g row rows)) (first, others)

-- the line is that of the modulus, or of a group
abbrev pub IsBehindCover : ProofLine → Type 0
IsBehindCover ProofLine.modulus_named = Unit {0}
IsBehindCover (ProofLine.group k) = Unit {0}
IsBehindCover (ProofLine.reduction k m) = Unit {0}
IsBehindCover (ProofLine.group_pivot k) = Unit {0}
IsBehindCover l = ⊥

group_is_behind : (l : ProofLine) → IsGroupFrom 0 l → IsBehindCover l
group_is_behind (ProofLine.group k) h = tt
group_is_behind (ProofLine.reduction k m) h = tt
group_is_behind (ProofLine.group_pivot k) h = tt
group_is_behind l h = absurd h

groups_are_behind : (rows : List PivotRow) → All IsBehindCover (names (group_lines 0 rows))
groups_are_behind rows = All-weaker (IsGroupFrom 0) IsBehindCover group_is_behind
    (names (group_lines 0 rows)) (groups_are 0 rows)

-- the lines behind those of covered intervals
abbrev pub behind_cover : Numbers → List PivotRow → List OwnLine
behind_cover n rows = modulus_lines n ++ group_lines 0 rows

pub behind_are : (n : Numbers) (rows : List PivotRow) →
    All IsBehindCover (names (behind_cover n rows))
behind_are Whole rows = groups_are_behind rows
behind_are Residues rows =
    All-cons IsBehindCover ProofLine.modulus_named (names (group_lines 0 rows)) tt
    (groups_are_behind rows)

not_modulus : (l : ProofLine) → IsGroupFrom 0 l → l ≢ ProofLine.modulus_named
not_modulus l h e = subst (IsGroupFrom 0) e h

behind_differ : (n : Numbers) (rows : List PivotRow) → Differ (names (behind_cover n rows))
behind_differ Whole rows = groups_differ 0 rows
behind_differ Residues rows = (
  All-weaker (IsGroupFrom 0) (λ k. k ≢ ProofLine.modulus_named) not_modulus
      (names (group_lines 0 rows)) (groups_are 0 rows),
  groups_differ 0 rows,
)

-- a line of a covered interval is none of these
cover_apart : (l m : ProofLine) → IsCoveredFrom 0 l → IsBehindCover m → m ≢ l
cover_apart l m h k e = both l h (subst IsBehindCover e k)
  where
    both : (l : ProofLine) → IsCoveredFrom 0 l → IsBehindCover l → ⊥
    both (ProofLine.covered k) h r = r
    both l h r = absurd h

pub extreme_lines_differ : (n : Numbers) (lines : List CoverLine) (rows : List PivotRow) →
    Differ (names (extreme_lines n lines rows))
extreme_lines_differ n lines rows =
    let first = names (covered_lines 0 lines) in
    let more = names (behind_cover n rows) in
    subst Differ (sym (map-append (λ (o : OwnLine). o.name) (covered_lines 0 lines)
    (behind_cover n rows)))
    (differ_append first more (covered_differ 0 lines) (behind_differ n rows)
    (All-weaker (IsCoveredFrom 0) (λ l. All (λ k. k ≢ l) more)
    (λ l h. All-weaker IsBehindCover (λ k. k ≢ l) (λ m k. cover_apart l m h k) more
    (behind_are n rows)) first (covered_are 0 lines)))

pairs_differ : (i : ℕ) (pairs : List (ℤ × ℤ)) → Differ (names (pair_lines i pairs))
pairs_differ i [] = tt
pairs_differ i (p ∷ pairs) = (
  All-weaker (IsPairFrom (i + 1)) (λ k. k ≢ ProofLine.pair i) (not_this_pair i)
      (names (pair_lines (i + 1) pairs)) (pairs_are (i + 1) pairs),
  pairs_differ (i + 1) pairs,
)

no_halves : (l : ProofLine) → IsPairFrom 0 l → l ≢ ProofLine.halves
no_halves l h e = subst (IsPairFrom 0) e h

pub halves_lines_differ : (h : Halves) →
    Differ (ProofLine.halves ∷ names (pair_lines 0 (zip h.first h.second)))
halves_lines_differ h =
    let pairs = zip h.first h.second in (
      All-weaker (IsPairFrom 0) (λ k. k ≢ ProofLine.halves) no_halves (names (pair_lines 0 pairs))
          (pairs_are 0 pairs),
      pairs_differ 0 pairs,
    )

-- ---- line feeds

covered_have_one_feed : (i q : ℕ) (lines : List CoverLine) → q ≤ 1000 →
    All (IsCoverLineBelow q) lines →
    All HasOneFeed (covered_lines i lines)
covered_have_one_feed i q [] small h = All-nil HasOneFeed
covered_have_one_feed i q (l ∷ lines) small h =
    All-cons HasOneFeed (record { name = ProofLine.covered i; bytes = cover_line l })
    (covered_lines (i + 1) lines)
    (one_feed (cover_form q) (cover_is_clear q small) l (All-head (IsCoverLineBelow q) l lines h))
    (covered_have_one_feed (i + 1) q lines small (All-tail (IsCoverLineBelow q) l lines h))

reductions_have_one_feed : (g r : ℕ) (columns : List ℕ) → All (λ c. c < 1000) columns →
    All HasOneFeed (reduction_lines g r columns)
reductions_have_one_feed g r [] h = All-nil HasOneFeed
reductions_have_one_feed g r (c ∷ columns) h =
    let P : ℕ → Type 0 = λ c. c < 1000 in
    All-cons HasOneFeed (record { name = ProofLine.reduction g r; bytes = reduction_line c })
    (reduction_lines g (r + 1) columns)
    (one_feed (reduce_form 1000) (reduce_is_clear 1000 (omega arith)) c (All-head P c columns h))
    (reductions_have_one_feed g (r + 1) columns (All-tail P c columns h))

groups_have_one_feed : (g q : ℕ) (rows : List PivotRow) → q ≤ 1000 → All (IsPivotRowBelow q) rows →
    All HasOneFeed (group_lines g rows)
groups_have_one_feed g q [] small h = All-nil HasOneFeed
groups_have_one_feed g q (row ∷ rows) small h =
    let here = All-head (IsPivotRowBelow q) row rows h in
    let first : OwnLine = record { name = ProofLine.group g; bytes = group_line row.name } in
    let last : OwnLine = record { name = ProofLine.group_pivot g; bytes = pivot_line row.pivot } in
    let more = group_lines (g + 1) rows in
    All-cons HasOneFeed first (reduction_lines g 0 row.reduce ++ last ∷ more)
    (one_feed (row_name_form q) (row_name_is_clear q small) row.name here.name)
    (All-append HasOneFeed (reduction_lines g 0 row.reduce) (last ∷ more)
    (reductions_have_one_feed g 0 row.reduce here.reduce)
    (All-cons HasOneFeed last more (one_feed pivot_form pivot_is_clear row.pivot here.pivot)
    (groups_have_one_feed (g + 1) q rows small (All-tail (IsPivotRowBelow q) row rows h))))

modulus_has_one_feed : (n : Numbers) → All HasOneFeed (modulus_lines n)
modulus_has_one_feed Whole = All-nil HasOneFeed
modulus_has_one_feed Residues =
    All-cons HasOneFeed (record { name = ProofLine.modulus_named; bytes = modulus_line }) []
    (one_feed modulus_form modulus_is_clear tt tt) (All-nil HasOneFeed)

pub extreme_have_one_feed : (n : Numbers) (q : ℕ) (lines : List CoverLine) (rows : List PivotRow) →
    q ≤ 1000 →
    All (IsCoverLineBelow q) lines → All (IsPivotRowBelow q) rows →
    All HasOneFeed (extreme_lines n lines rows)
extreme_have_one_feed n q lines rows small lines_below rows_below =
    All-append HasOneFeed (covered_lines 0 lines) (behind_cover n rows)
    (covered_have_one_feed 0 q lines small lines_below)
    (All-append HasOneFeed (modulus_lines n) (group_lines 0 rows) (modulus_has_one_feed n)
    (groups_have_one_feed 0 q rows small rows_below))

pairs_have_one_feed : (i : ℕ) (first second : List ℤ) → All Fits first → All Fits second →
    All HasOneFeed (pair_lines i (zip first second))
pairs_have_one_feed i [] second h k = All-nil HasOneFeed
pairs_have_one_feed i (x ∷ first) [] h k = All-nil HasOneFeed
pairs_have_one_feed i (x ∷ first) (y ∷ second) h k =
    All-cons HasOneFeed (record { name = ProofLine.pair i; bytes = pair_line (x, y) })
    (pair_lines (i + 1) (zip first second))
    (one_feed pair_form pair_is_clear (x, y) (All-head Fits x first h, All-head Fits y second k))
    (pairs_have_one_feed (i + 1) first second (All-tail Fits x first h) (All-tail Fits y second k))

pub halves_have_one_feed : (h : Halves) → AreHalvesInBounds h →
    All HasOneFeed (record { name = ProofLine.halves; bytes = halves_line h } ∷ pair_lines 0
    (zip h.first h.second))
halves_have_one_feed h b =
    All-cons HasOneFeed (record { name = ProofLine.halves; bytes = halves_line h })
    (pair_lines 0 (zip h.first h.second))
    (one_feed halves_form halves_is_clear (head_of h)
    (record {
      order_low = b.order_low;
      order_high = b.order_high;
      scale_low =
          b.scale_low;
      scale_high = b.scale_high;
    }))
    (pairs_have_one_feed 0 h.first h.second b.first_fit b.second_fit)
