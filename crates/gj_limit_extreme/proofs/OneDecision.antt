-- The decision is decided by the function.
use Rattle.std.proofs.Common.{◌≡◌, ◌≢◌, ℕ, zero, suc, ◌⊎◌, inl, inr, ◌*◌, ◌%◌, ◌<◌, ◌≤◌, ◌==◌, true, Some, ℤ, pos, neg_ℤ, ◌*ℤ◌, ◌<ℤ◌, ◌≤ℤ◌, List, [], map, unsigned_abs, mul-zero, sym, ap, ap₂, subst, ◌∙◌, arith}
use Rattle.std.specs.Prelude.{All, Contains}
use Rattle.std.specs.List.{list_any}
use Rattle.std.proofs.Math.Path.{fun_ext}
use Rattle.std.proofs.lemmas.Int.{ints}
use Rattle.gj_lemmas.proofs.Choices.{same_some, same_tests}
use Rattle.gj_cover.specs.declared.covered.Cover.{Cover}
use Rattle.gj_shape.specs.Elimination.{Elimination, Solution, Passes, kernel}
use Rattle.gj_shape.specs.Faces.{limits_of}
use Rattle.gj_shape.specs.FunctionData.{FunctionData, IsWithinBounds}
use Rattle.gj_shape.specs.SlopeRows.{component_in}
use Rattle.gj_shape.specs.Table.{IsMinimal}
use Rattle.gj_shape.specs.declared.extremality.CoverLine.{CoverLine}
use Rattle.gj_shape.specs.declared.extremality.LimitHalves.{LimitHalves}
use Rattle.gj_shape.specs.declared.extremality.SideNumbers.{SideNumbers}
use Rattle.gj_theory.specs.CornerSlacks.{IsBelowCorners}
use Rattle.gj_jumps.specs.LimitCover.{IsTightAt}
use Rattle.gj_jumps.specs.LimitSystem.{Limits}
use Rattle.gj_limit_cover.specs.CoverOf.{IsLeastClass}
use Rattle.gj_limit_grids.specs.Grids.{zigzag_limits}
use Rattle.gj_limit_halves.specs.LeastLimit.{IsFromCorners, IsLeastLimit}
use Rattle.gj_limit_halves.specs.LimitHalves.{moved_sides, AreLimitHalvesOf}
use Rattle.gj_limit_halves.specs.Sides.{IsGreatestOf}
use Rattle.gj_limit_system.specs.Unknowns.{columns_for}
use Rattle.gj_proof.specs.declared.numbers.Numbers.{Numbers}
use Rattle.gj_proof.specs.declared.numbers.Numbers.TheVariants.{Whole, Residues}
use Rattle.gj_limit_proof.specs.declared.claim.LimitClaim.{LimitClaim}
use Rattle.gj_limit_proof.specs.declared.claim.LimitClaim.TheVariants.{Extreme, NotExtreme}
use Rattle.gj_limit_proof.specs.declared.claim.LimitPivotRow.{LimitPivotRow}
use Rattle.gj_extreme.proofs.DecidedHalves.{contains_stable}
use Rattle.gj_extreme.proofs.OneDecision.{contains_from_test, test_from_contains}
use Rattle.gj_limit_extreme.specs.Decision.{AreAllCovered, columns_of, elimination_over, limit_elimination, group_of, kernel_limits, class_zigzag, AreExtremeRows, AreZigzagHalves, AreKernelHalves, IsLimitDecided}
use Rattle.gj_limit_extreme.proofs.CoverLines.{component_covered}
use Rattle.gj_limit_extreme.proofs.DecidedHalves.{decided_halves}
use Rattle.gj_limit_extreme.proofs.DecidedHolds.{extreme_holds}
use Rattle.gj_limit_extreme.proofs.OneCover.{has_component, AreOneCover, one_all_covered}
use Rattle.gj_limit_extreme.proofs.Zigzags.{some_least}

-- ---- one system

pub one_elimination : (numbers : Numbers) (f : FunctionData) (cover other : Cover)
    (component numbered : List ℕ) →
    AreAllCovered f cover component → AreAllCovered f other numbered →
    elimination_over numbers f component (columns_of f cover) ≡ elimination_over numbers f numbered
    (columns_of f other)
one_elimination numbers f cover other component numbered h k =
    let one = one_all_covered f cover other component numbered h k in
    ap₂ (elimination_over numbers f) one.component_same (ap (columns_for f.order) one.count_same)

-- two solutions by two covers of all intervals are one
pub one_solution : (f : FunctionData) (cover other : Cover) (component numbered : List ℕ)
    (s t : Solution) →
    AreAllCovered f cover component → AreAllCovered f other numbered →
    kernel (columns_of f cover) (limit_elimination f component (columns_of f cover)).kept ≡ Some s →
    kernel (columns_of f other) (limit_elimination f numbered (columns_of f other)).kept ≡ Some t →
    s ≡ t
one_solution f cover other component numbered s t h k e g =
    let one = one_all_covered f cover other component numbered h k in
    same_some s t
    (sym e
    ∙ ap₂ (λ i x. kernel i x.kept) (ap (columns_for f.order) one.count_same)
    (one_elimination Whole f cover other component numbered h k)
    ∙ g)

-- a zigzag has uncovered intervals
pub zigzag_not_covered : (f : FunctionData) (h : LimitHalves) (cover : Cover) (component : List ℕ) →
    AreZigzagHalves f h →
    AreAllCovered f cover component → ⊥
zigzag_not_covered f h cover component zig covered =
    zig.some
    (zig.least.none.1
    (λ i low.
    component_covered f.order (IsTightAt f) cover.lines covered.is_cover.lines
    (component_in component i) i
    (has_component f cover component covered i low)))

-- ---- one pair of halves of a perturbation

times_pos : (m x : ℕ) → pos m *ℤ pos x ≡ pos (m * x)
times_pos m x = omega (arith, ints)

at_most : (u v : ℕ) → pos v ≤ℤ pos u → v ≤ u
at_most u v h = omega (arith, ints)

some_factor : (m u x : ℕ) → u ≡ m * x → 0 < u → 0 < x
some_factor m u zero e some = absurd (let none : u ≡ 0 = e ∙ mul-zero m in omega arith)
some_factor m u (suc x) e some = omega arith

-- what is below all limits at corners is below one of them
below_reached : (m u v : ℕ) (slacks : List ℤ) → IsFromCorners m u slacks →
    IsBelowCorners m v slacks → v ≤ u
below_reached m u v slacks h below = by_kind h.from
  where
    holds_of : (P : ℤ → Type 0) (x : ℤ) → All P slacks → Contains slacks x → P x
    holds_of P x all (k, low, there) = subst P there (all k x low)

    by_kind : (Contains slacks (pos 0) × Contains slacks (pos u))
        ⊎ ((x : ℕ) × Contains slacks (pos x) × (u ≡ m * x)) → v ≤ u
    by_kind (inl (zero', one)) =
        let some = h.some in
        at_most u v (holds_of (λ x. pos 0 <ℤ x → pos v ≤ℤ x) (pos u) (below.beside_zero zero') one
        (omega (arith, ints)))
    by_kind (inr (x, one, is)) =
        let some = h.some in
        let x_some : 0 < x = some_factor m u x is some in
        let least = holds_of (λ y. pos 0 <ℤ y → pos v ≤ℤ (pos m *ℤ y)) (pos x) below.each one
        (omega (arith, ints)) in
        at_most u v (subst (λ (y : ℤ). pos v ≤ℤ y) (times_pos m x ∙ ap pos (sym is)) least)

one_limit : (f : FunctionData) (m u v : ℕ) → IsLeastLimit f m u → IsLeastLimit f m v → u ≡ v
one_limit f m u v h k =
    let low = below_reached m u v (limits_of f h.kind h.a h.b) h.reached
    (k.least h.kind h.a h.b h.first_within h.second_within) in
    let high = below_reached m v u (limits_of f k.kind k.a k.b) k.reached
    (h.least k.kind k.a k.b k.first_within k.second_within) in
    omega arith

size_below : (w : Limits ℤ) (x y : ℕ) → IsGreatestOf w x → IsGreatestOf w y → x ≤ y
size_below w x y h k = by_side h.reached
  where
    by_side : (unsigned_abs (w.left h.i) ≡ x) ⊎ (unsigned_abs (w.value h.i) ≡ x)
        ⊎ (unsigned_abs (w.right h.i) ≡ x) → x ≤ y
    by_side (inl is) = let low = k.bound.left h.i in omega arith
    by_side (inr (inl is)) = let low = k.bound.value h.i in omega arith
    by_side (inr (inr is)) = let low = k.bound.right h.i in omega arith

pub one_size : (w : Limits ℤ) (x y : ℕ) → IsGreatestOf w x → IsGreatestOf w y → x ≡ y
one_size w x y h k = let low = size_below w x y h k in let high = size_below w y x k h in
    omega arith

same_fields : (g h : LimitHalves) → g.order ≡ h.order → g.scale ≡ h.scale → g.first ≡ h.first →
    g.second ≡ h.second → g ≡ h
same_fields g h order scale first second =
    let made : ℕ → ℤ → SideNumbers → SideNumbers →
    LimitHalves = λ q s xs ys. record { order = q; scale = s; first = xs; second = ys } in
    ap₂ (λ q s. made q s g.first g.second) order scale
    ∙ ap₂ (λ xs ys. made h.order h.scale xs ys) first second

one_pair : (f : FunctionData) (m : ℕ) (w : Limits ℤ) (g h : LimitHalves) →
    AreLimitHalvesOf f m w g → AreLimitHalvesOf f m w h → g ≡ h
one_pair f m w g h a b =
    let u = one_limit f m a.u b.u a.least_limit b.least_limit in
    let size = one_size w a.p b.p a.greatest b.greatest in
    same_fields g h (a.order ∙ sym b.order) (a.scale ∙ ap (λ x. pos (3 * x * (f.scale * m))) size
    ∙ sym b.scale)
    (a.first ∙ ap₂ (λ x y. moved_sides f m x (pos y) w) size u ∙ sym b.first)
    (a.second ∙ ap₂ (λ x y. moved_sides f m x (neg_ℤ (pos y)) w) size u ∙ sym b.second)

-- ---- one zigzag

-- two lists of the class of the least uncovered interval have the same intervals
same_class : (f : FunctionData) (a b : List ℕ) (x : ℕ) → IsLeastClass f.order (IsTightAt f) a →
    a ≢ [] →
    IsLeastClass f.order (IsTightAt f) b → list_any (λ i. i == x) a ≡ true →
    list_any (λ i. i == x) b ≡ true
same_class f a b x h some k e =
    test_from_contains b x
    (contains_stable b x
    (λ no. some_least f a h some
    (λ least is. no ((k.members least is x).1
    ((h.members least is x).0 (contains_from_test a x e))))))

one_zigzag : (f : FunctionData) (a b : List ℕ) → IsLeastClass f.order (IsTightAt f) a → a ≢ [] →
    IsLeastClass f.order (IsTightAt f) b → b ≢ [] → class_zigzag f a ≡ class_zigzag f b
one_zigzag f a b h a_some k b_some =
    ap zigzag_limits
    (fun_ext (λ i.
    same_tests (list_any (λ c. c == i % f.order) a) (list_any (λ c. c == i % f.order) b)
    (same_class f a b (i % f.order) h a_some k) (same_class f b a (i % f.order) k b_some h)))

one_of_zigzags : (f : FunctionData) (g h : LimitHalves) → AreZigzagHalves f g →
    AreZigzagHalves f h → g ≡ h
one_of_zigzags f g h a b =
    let same = one_zigzag f a.intervals b.intervals a.least a.some b.least b.some in
    one_pair f 4 (class_zigzag f a.intervals) g h a.halves
    (subst (λ (w : Limits ℤ). AreLimitHalvesOf f 4 w h) (sym same) b.halves)

-- ---- one kernel

one_of_kernels : (f : FunctionData) (g h : LimitHalves) → AreKernelHalves f g →
    AreKernelHalves f h → g ≡ h
one_of_kernels f g h a b =
    let one = one_all_covered f a.cover b.cover a.component b.component a.covered b.covered in
    let solution = one_solution f a.cover b.cover a.component b.component a.solution b.solution
    a.covered b.covered a.solves b.solves in
    let same = ap₂ (kernel_limits f) one.component_same solution in
    one_pair f 1 (kernel_limits f a.component a.solution) g h a.halves
    (subst (λ (w : Limits ℤ). AreLimitHalvesOf f 1 w h) (sym same) b.halves)

-- ---- one claim

one_rows : (numbers : Numbers) (f : FunctionData) (lines others : List CoverLine)
    (rows more : List LimitPivotRow) →
    AreExtremeRows numbers f lines rows → AreExtremeRows numbers f others more →
    (lines ≡ others) × (rows ≡ more)
one_rows numbers f lines others rows more h k =
    let one = one_all_covered f h.cover k.cover h.component k.component h.covered k.covered in (
      h.lines_are ∙ one.lines_same ∙ sym k.lines_are,
      h.rows_are
          ∙ ap (λ e. map (group_of f) e.kept)
          (one_elimination numbers f h.cover k.cover h.component k.component h.covered k.covered)
          ∙ sym k.rows_are,
    )

-- rows over residues come only if those of whole numbers do not
not_both : (f : FunctionData) (lines others : List CoverLine) (rows more : List LimitPivotRow) →
    AreExtremeRows Whole f lines rows →
    AreExtremeRows Residues f others more → ⊥
not_both f lines others rows more h k =
    let same = one_elimination Whole f k.cover h.cover k.component h.component k.covered
    h.covered in
    h.needed (subst (λ (e : Elimination). Passes e.marked) same k.needed)

one_extreme : (m n : Numbers) (f : FunctionData) (lines others : List CoverLine)
    (rows more : List LimitPivotRow) →
    AreExtremeRows m f lines rows → AreExtremeRows n f others more →
    Extreme m f lines rows ≡ Extreme n f others more
one_extreme Whole Whole f lines others rows more h k =
    let one = one_rows Whole f lines others rows more h k in
    ap₂ (λ x y. Extreme Whole f x y) one.0 one.1
one_extreme Whole Residues f lines others rows more h k =
    absurd (not_both f lines others rows more h k)
one_extreme Residues Whole f lines others rows more h k =
    absurd (not_both f others lines more rows k h)
one_extreme Residues Residues f lines others rows more h k =
    let one = one_rows Residues f lines others rows more h k in
    ap₂ (λ x y. Extreme Residues f x y) one.0 one.1

one_halves : (f : FunctionData) (g h : LimitHalves) → AreZigzagHalves f g ⊎ AreKernelHalves f g →
    AreZigzagHalves f h ⊎ AreKernelHalves f h → g ≡ h
one_halves f g h (inl a) (inl b) = one_of_zigzags f g h a b
one_halves f g h (inl a) (inr b) = absurd (zigzag_not_covered f g b.cover b.component a b.covered)
one_halves f g h (inr a) (inl b) = absurd (zigzag_not_covered f h a.cover a.component b a.covered)
one_halves f g h (inr a) (inr b) = one_of_kernels f g h a b

-- no halves of an extreme function
extreme_no_halves : (numbers : Numbers) (f : FunctionData) (lines : List CoverLine)
    (rows : List LimitPivotRow) (h : LimitHalves) →
    IsWithinBounds f → IsMinimal f → AreExtremeRows numbers f lines rows →
    AreZigzagHalves f h ⊎ AreKernelHalves f h → ⊥
extreme_no_halves numbers f lines rows h bounds minimal is halves =
    let shown = decided_halves f h bounds minimal halves in
    (extreme_holds numbers f lines rows bounds minimal is).no_average shown.0 shown.1 _ _ shown.3

pub one_decision : (f : FunctionData) (c d : LimitClaim) → IsWithinBounds f → IsLimitDecided f c →
    IsLimitDecided f d → c ≡ d
one_decision f (Extreme m g lines rows) (Extreme n g' others more) bounds h k =
    ap (λ x. Extreme m x lines rows) h.0 ∙ one_extreme m n f lines others rows more h.2 k.2
    ∙ ap (λ x. Extreme n x others more) (sym k.0)
one_decision f (Extreme m g lines rows) (NotExtreme g' halves) bounds h k =
    absurd (extreme_no_halves m f lines rows halves bounds h.1 h.2 k.2)
one_decision f (NotExtreme g halves) (Extreme n g' lines rows) bounds h k =
    absurd (extreme_no_halves n f lines rows halves bounds k.1 k.2 h.2)
one_decision f (NotExtreme g halves) (NotExtreme g' others) bounds h k =
    ap₂ (λ x y. NotExtreme x y) (h.0 ∙ sym k.0) (one_halves f halves others h.2 k.2)
