-- The decision is decided by the function.
use Rattle.std.proofs.Common.{◌≡◌, ◌≢◌, ℕ, ◌⊎◌, inl, inr, ◌*◌, ◌/◌, ◌%◌, ◌<◌, true, Some, if◌then◌else◌, ℤ, pos, ◌+ℤ◌, ◌-ℤ◌, ◌*ℤ◌, List, [], map, eqb, refl, sym, ap, ap₂, subst, ◌∙◌, arith}
use Rattle.std.specs.Prelude.{Any, Contains}
use Rattle.std.specs.List.{range_with_len, list_any}
use Rattle.std.proofs.Math.Nat.{mod-lt}
use Rattle.std.proofs.Math.Path.{fun_ext}
use Rattle.std.proofs.lemmas.Bool.Decides.{Decides-eqb}
use Rattle.std.proofs.lemmas.Bool.{eq-eqb}
use Rattle.std.proofs.lemmas.Int.{ints}
use Rattle.std.proofs.lemmas.List.Folds.{Any-from_list_any, list_any-from_Any}
use Rattle.gj_lemmas.proofs.Choices.{same_some, same_tests}
use Rattle.gj_lemmas.proofs.Integers.{same_or_apart_z}
use Rattle.gj_lemmas.proofs.Lists.{All-range}
use Rattle.gj_shape.specs.Additive.{IsTight}
use Rattle.gj_shape.specs.Cover.{IsCovered, HasComponent, components_in}
use Rattle.gj_shape.specs.Cover.HasComponent.{opened, joined}
use Rattle.gj_shape.specs.Elimination.{Elimination, Solution, Passes, at_column, kernel}
use Rattle.gj_shape.specs.FunctionData.{FunctionData, IsWithinBounds, IsContinuous}
use Rattle.gj_shape.specs.Perturbation.{zigzag, IsLeastSlack, IsGreatestSize, AreHalvesOf}
use Rattle.gj_shape.specs.SlopeRows.{total}
use Rattle.gj_shape.specs.Table.{table, IsMinimal}
use Rattle.gj_shape.specs.declared.extremality.CoverLine.{CoverLine}
use Rattle.gj_shape.specs.declared.extremality.Halves.{Halves}
use Rattle.gj_theory.specs.CoverRules.{MeetsCoverRules}
use Rattle.gj_theory.proofs.CoverLines.{lines_meet_rules}
use Rattle.gj_theory.proofs.Fillings.{halves_deny}
use Rattle.gj_theory.proofs.FirstFailed.{first_denies}
use Rattle.gj_theory.proofs.LineComponents.{one_component}
use Rattle.gj_theory.proofs.TestsFromMinimal.{tests_from_minimal}
use Rattle.gj_cover.specs.CoverOf.{IsLeastClass}
use Rattle.gj_cover.proofs.Joining.{covered_on, covered_directly}
use Rattle.gj_proof.specs.declared.claim.Claim.{Claim}
use Rattle.gj_proof.specs.declared.claim.Claim.TheVariants.{Minimal, NotMinimal, Cut, Extreme, ExtremeByResidues, NotExtreme}
use Rattle.gj_proof.specs.declared.numbers.Numbers.{Numbers}
use Rattle.gj_proof.specs.declared.numbers.Numbers.TheVariants.{Whole, Residues}
use Rattle.gj_proof.specs.declared.pivot.PivotRow.{PivotRow}
use Rattle.gj_extreme.specs.Decision.{AreAllCovered, elimination_over, slope_elimination, group_of, slope_perturbation, AreExtremeRows, AreZigzagHalves, AreSlopeHalves, IsDecided}
use Rattle.gj_extreme.proofs.DecidedGroups.{elimination_same, map_same}
use Rattle.gj_extreme.proofs.DecidedHalves.{IsLeastUncovered, some_least, zigzag_halves, slope_halves}
use Rattle.gj_extreme.proofs.DecidedHolds.{extreme_holds}
use Rattle.gj_extreme.proofs.OneCover.{one_cover}
use Rattle.gj_extreme.proofs.OneViolation.{one_violation}

-- ---- one cover, with one number for each interval

-- what is the same by two covers of all intervals
pub record AreOneCover (f : FunctionData) (lines others : List CoverLine) (component other : ℕ → ℕ)
    (n m : ℕ) : Type 0 where
  pub lines_same : lines ≡ others
  pub count_same : n ≡ m
  pub numbers_same : (i : ℕ) → i < f.order → component i ≡ other i

pub one_all_covered : (f : FunctionData) (lines others : List CoverLine) (component other : ℕ → ℕ)
    (n m : ℕ) →
    AreAllCovered f lines component n → AreAllCovered f others other m →
    AreOneCover f lines others component other n m
one_all_covered f lines others component other n m h k =
    let same = one_cover f.order (IsTight f) lines others h.are_lines k.are_lines in
    record {
      lines_same = same;
      count_same = h.count ∙ ap components_in same ∙ sym k.count;
      numbers_same = λ i low.
          one_component f.order (IsTight f) lines i (component i) (other i)
          (lines_meet_rules f.order (IsTight f) lines h.are_lines)
          (h.numbers i low) (subst (λ (ls : List CoverLine). HasComponent ls (other i) i) (sym same)
          (k.numbers i low));
    }

pub one_elimination : (numbers : Numbers) (f : FunctionData) (lines others : List CoverLine)
    (component other : ℕ → ℕ) (n m : ℕ) →
    IsWithinBounds f → AreAllCovered f lines component n → AreAllCovered f others other m →
    elimination_over numbers f component n ≡ elimination_over numbers f other m
one_elimination numbers f lines others component other n m l h k =
    let one = one_all_covered f lines others component other n m h k in
    elimination_same numbers f component other n l one.numbers_same
    ∙ ap (elimination_over numbers f other) one.count_same

-- an interval with a component is covered
component_covered : (q : ℕ) (Tight : ℕ → ℕ → Type 0) (lines : List CoverLine) →
    MeetsCoverRules q Tight lines → (number i : ℕ) →
    HasComponent lines number i → IsCovered q Tight i
component_covered q Tight lines rules number _ (opened before l after place same counted) =
    covered_directly q Tight l.interval
    (l.face.kind, l.face.a, l.face.b, (rules before l after place).opening same)
component_covered q Tight lines rules number _ (joined before l after place other rest) =
    covered_on q Tight l.interval l.from
    (l.face.kind, l.face.a, l.face.b, (rules before l after place).joining other)
    (component_covered q Tight lines rules number l.from rest)

pub all_are_covered : (f : FunctionData) (lines : List CoverLine) (component : ℕ → ℕ) (n : ℕ) →
    AreAllCovered f lines component n →
    (i : ℕ) → i < f.order → IsCovered f.order (IsTight f) i
all_are_covered f lines component n h i low =
    component_covered f.order (IsTight f) lines
    (lines_meet_rules f.order (IsTight f) lines h.are_lines) (component i) i (h.numbers i low)

-- a zigzag has uncovered intervals
pub zigzag_not_covered : (f : FunctionData) (h : Halves) (lines : List CoverLine) (component : ℕ →
    ℕ) (n : ℕ) → AreZigzagHalves f h →
    AreAllCovered f lines component n → ⊥
zigzag_not_covered f h lines component n zig covered =
    zig.some (zig.least.none.1 (all_are_covered f lines component n covered))

-- ---- one pair of halves of a perturbation

one_slack : (f : FunctionData) (m u v : ℕ) → IsLeastSlack f m u → IsLeastSlack f m v → u ≡ v
one_slack f m u v h k =
    let reached = h.reached in
    let arrived = k.reached in
    let some = h.positive in
    let above = k.positive in
    let low = h.least k.i k.j (omega (arith, ints)) in
    let high = k.least h.i h.j (omega (arith, ints)) in
    omega (arith, ints)

one_size : (p : ℕ → ℤ) (x y : ℕ) → IsGreatestSize p x → IsGreatestSize p y → x ≡ y
one_size p x y h k =
    let reached = h.reached in
    let arrived = k.reached in
    let low = k.greatest h.i in
    let high = h.greatest k.i in
    omega arith

same_fields : (g h : Halves) → g.order ≡ h.order → g.scale ≡ h.scale → g.first ≡ h.first →
    g.second ≡ h.second → g ≡ h
same_fields g h order scale first second =
    let made : ℕ → ℤ → List ℤ → List ℤ →
    Halves = λ q s xs ys. record { order = q; scale = s; first = xs; second = ys } in
    ap₂ (λ q s. made q s g.first g.second) order scale
    ∙ ap₂ (λ xs ys. made h.order h.scale xs ys) first second

pub one_pair : (f : FunctionData) (m : ℕ) (p : ℕ → ℤ) (g h : Halves) → AreHalvesOf f m p g →
    AreHalvesOf f m p h → g ≡ h
one_pair f m p g h a b =
    let u = one_slack f m a.u b.u a.least_slack b.least_slack in
    let size = one_size p a.p b.p a.greatest_size b.greatest_size in
    same_fields g h (a.order ∙ sym b.order) (a.scale ∙ ap (λ x. pos (3 * x * (f.scale * m))) size
    ∙ sym b.scale)
    (a.first
    ∙ ap₂ (λ x y. map (λ i. pos (3 * x) *ℤ table f m i +ℤ pos y *ℤ p i)
    (range_with_len 0 (f.order * m))) size u
    ∙ sym b.first)
    (a.second
    ∙ ap₂ (λ x y. map (λ i. pos (3 * x) *ℤ table f m i -ℤ pos y *ℤ p i)
    (range_with_len 0 (f.order * m))) size u
    ∙ sym b.second)

-- ---- one zigzag

pub contains_from_test : (xs : List ℕ) (x : ℕ) → list_any (λ a. eqb a x) xs ≡ true → Contains xs x
contains_from_test xs x e = of_any (Any-from_list_any (λ a. eqb a x) xs e)
  where
    of_any : Any (λ a. eqb a x ≡ true) xs → Contains xs x
    of_any (k, a, low, there, is) = subst (Contains xs) ((Decides-eqb a x).0 is) (k, low, there)

pub test_from_contains : (xs : List ℕ) (x : ℕ) → Contains xs x → list_any (λ a. eqb a x) xs ≡ true
test_from_contains xs x (k, low, there) =
    list_any-from_Any (λ a. eqb a x) xs (k, x, low, there, eq-eqb x x refl)

-- two lists of the class of the least uncovered interval have the same intervals
same_class : (q : ℕ) (Tight : ℕ → ℕ → Type 0) (a b : List ℕ) (least x : ℕ) →
    IsLeastClass q Tight a → IsLeastClass q Tight b →
    IsLeastUncovered q Tight least → list_any (λ i. eqb i x) a ≡ list_any (λ i. eqb i x) b
same_class q Tight a b least x h k is =
    same_tests (list_any (λ i. eqb i x) a) (list_any (λ i. eqb i x) b)
    (λ e. test_from_contains b x
    ((k.members least is x).1 ((h.members least is x).0 (contains_from_test a x e))))
    (λ e. test_from_contains a x
    ((h.members least is x).1 ((k.members least is x).0 (contains_from_test b x e))))

one_zigzag : (q : ℕ) (Tight : ℕ → ℕ → Type 0) (a b : List ℕ) → IsLeastClass q Tight a → a ≢ [] →
    IsLeastClass q Tight b →
    (i : ℕ) → zigzag q a i ≡ zigzag q b i
one_zigzag q Tight a b h some k i = elim (same_or_apart_z (zigzag q a i) (zigzag q b i)) [
  | inl same ↦ same
  | inr apart ↦
      absurd (some_least q Tight a h some
      (λ least is. apart
      (ap (λ t. if t then (if eqb (i % 4) 1 then pos 1 else if eqb (i % 4) 3 then pos 0
      -ℤ pos 1 else pos 0) else pos 0)
      (same_class q Tight a b least ((i / 4) % q) h k is))))
]

one_of_zigzags : (f : FunctionData) (g h : Halves) → AreZigzagHalves f g → AreZigzagHalves f h →
    g ≡ h
one_of_zigzags f g h a b =
    let same = one_zigzag f.order (IsTight f) a.intervals b.intervals a.least a.some b.least in
    one_pair f 4 (zigzag f.order a.intervals) g h a.halves
    (subst (λ (p : ℕ → ℤ). AreHalvesOf f 4 p h) (sym (fun_ext same)) b.halves)

-- ---- one solution

-- the perturbation looks at the components of the intervals below the order alone
pub perturbation_same : (f : FunctionData) (component other : ℕ → ℕ) (numbers : List ℤ) →
    IsWithinBounds f →
    ((c : ℕ) → c < f.order → component c ≡ other c) → (i : ℕ) →
    slope_perturbation f component numbers i ≡ slope_perturbation f other numbers i
perturbation_same f component other numbers l same i =
    let below = mod-lt i (let some : 0 < f.order = omega (arith, l.order_low) in some) in
    ap total
    (map_same (λ c. at_column numbers (component c)) (λ c. at_column numbers (other c))
    (range_with_len 0 (i % f.order))
    (All-range (λ c. at_column numbers (component c) ≡ at_column numbers (other c)) 0 (i % f.order)
    (λ c low. ap (at_column numbers) (same c (omega arith)))))

-- two solutions by two covers of all intervals are one
pub one_solution : (f : FunctionData) (lines others : List CoverLine) (component other : ℕ → ℕ)
    (n m : ℕ) (s t : Solution) →
    IsWithinBounds f → AreAllCovered f lines component n → AreAllCovered f others other m →
    kernel n (slope_elimination f component n).kept ≡ Some s →
    kernel m (slope_elimination f other m).kept ≡ Some t → s ≡ t
one_solution f lines others component other n m s t l h k e g =
    let one = one_all_covered f lines others component other n m h k in
    same_some s t
    (sym e ∙ ap₂ (λ i x. kernel i x.kept) one.count_same
    (one_elimination Whole f lines others component other n m l h k) ∙ g)

one_of_slopes : (f : FunctionData) (g h : Halves) → IsWithinBounds f → AreSlopeHalves f g →
    AreSlopeHalves f h → g ≡ h
one_of_slopes f g h l a b =
    let one = one_all_covered f a.lines b.lines a.component b.component a.n b.n a.covered
    b.covered in
    let solution =
    one_solution f a.lines b.lines a.component b.component a.n b.n a.solution b.solution l a.covered
    b.covered a.solves b.solves in
    let p = slope_perturbation f a.component a.solution.numbers in
    let r = slope_perturbation f b.component b.solution.numbers in
    let same : (i : ℕ) → p i ≡ r i =
    λ i. perturbation_same f a.component b.component a.solution.numbers l one.numbers_same i
    ∙ ap (λ s. slope_perturbation f b.component s.numbers i) solution in
    one_pair f 1 p g h a.halves
    (subst (λ (x : ℕ → ℤ). AreHalvesOf f 1 x h) (sym (fun_ext same)) b.halves)

-- ---- one proof

one_rows : (numbers : Numbers) (f : FunctionData) (lines others : List CoverLine)
    (rows more : List PivotRow) → IsWithinBounds f →
    AreExtremeRows numbers f lines rows → AreExtremeRows numbers f others more →
    (lines ≡ others) × (rows ≡ more)
one_rows numbers f lines others rows more l h k = (
  one_cover f.order (IsTight f) lines others h.covered.are_lines k.covered.are_lines,
  h.rows_are
      ∙ ap (λ e. map (group_of f) e.kept)
      (one_elimination numbers f lines others h.component k.component h.n k.n l h.covered
      k.covered)
      ∙ sym k.rows_are,
)

-- rows over residues come only if those of whole numbers do not
not_both : (f : FunctionData) (lines others : List CoverLine) (rows more : List PivotRow) →
    IsWithinBounds f →
    AreExtremeRows Whole f lines rows → AreExtremeRows Residues f others more → ⊥
not_both f lines others rows more l h k =
    let same = one_elimination Whole f others lines k.component h.component k.n h.n l k.covered
    h.covered in
    h.needed (subst (λ (e : Elimination). Passes e.marked) same k.needed)

one_halves : (f : FunctionData) (g h : Halves) → IsWithinBounds f →
    AreZigzagHalves f g ⊎ AreSlopeHalves f g →
    AreZigzagHalves f h ⊎ AreSlopeHalves f h → g ≡ h
one_halves f g h l (inl a) (inl b) = one_of_zigzags f g h a b
one_halves f g h l (inl a) (inr b) =
    absurd (zigzag_not_covered f g b.lines b.component b.n a b.covered)
one_halves f g h l (inr a) (inl b) =
    absurd (zigzag_not_covered f h a.lines a.component a.n b a.covered)
one_halves f g h l (inr a) (inr b) = one_of_slopes f g h l a b

-- no halves of an extreme function
extreme_no_halves : (numbers : Numbers) (f : FunctionData) (lines : List CoverLine)
    (rows : List PivotRow) (h : Halves) → IsWithinBounds f → IsMinimal f →
    IsContinuous f → AreExtremeRows numbers f lines rows →
    AreZigzagHalves f h ⊎ AreSlopeHalves f h → ⊥
extreme_no_halves numbers f lines rows h l minimal continuous is (inl zig) =
    halves_deny (table f 4) (f.order * 4) (f.place * 4) (f.scale * 4) (3 * zig.halves.p) _ _
    (zigzag_halves f h l continuous minimal zig)
    (extreme_holds numbers f lines rows l minimal continuous is 4 (omega arith))
extreme_no_halves numbers f lines rows h l minimal continuous is (inr slope) =
    halves_deny (table f 1) (f.order * 1) (f.place * 1) (f.scale * 1) (3 * slope.halves.p) _ _
    (slope_halves f h l minimal slope)
    (extreme_holds numbers f lines rows l minimal continuous is 1 (omega arith))

pub one_decision : (f : FunctionData) (c d : Claim) → IsWithinBounds f → IsDecided f c →
    IsDecided f d → c ≡ d
one_decision f (Minimal g) d l h k = absurd h
one_decision f (Cut rule rows) d l h k = absurd h
one_decision f (NotMinimal g v) (Minimal g') l h k = absurd k
one_decision f (NotMinimal g v) (Cut rule rows) l h k = absurd k
one_decision f (NotMinimal g v) (NotMinimal g' w) l h k =
    ap₂ (λ x y. NotMinimal x y) (h.0 ∙ sym k.0) (one_violation f v w l h.1 k.1)
one_decision f (NotMinimal g v) (Extreme g' lines rows) l h k =
    absurd (first_denies f v h.1 (tests_from_minimal f k.1))
one_decision f (NotMinimal g v) (ExtremeByResidues g' lines rows) l h k =
    absurd (first_denies f v h.1 (tests_from_minimal f k.1))
one_decision f (NotMinimal g v) (NotExtreme g' halves) l h k =
    absurd (first_denies f v h.1 (tests_from_minimal f k.1))
one_decision f (Extreme g lines rows) (Minimal g') l h k = absurd k
one_decision f (Extreme g lines rows) (Cut rule cuts) l h k = absurd k
one_decision f (Extreme g lines rows) (NotMinimal g' v) l h k =
    absurd (first_denies f v k.1 (tests_from_minimal f h.1))
one_decision f (Extreme g lines rows) (Extreme g' others more) l h k =
    let one = one_rows Whole f lines others rows more l h.3 k.3 in
    ap (λ x. Extreme x lines rows) (h.0 ∙ sym k.0) ∙ ap₂ (λ x y. Extreme g' x y) one.0 one.1
one_decision f (Extreme g lines rows) (ExtremeByResidues g' others more) l h k =
    absurd (not_both f lines others rows more l h.3 k.3)
one_decision f (Extreme g lines rows) (NotExtreme g' halves) l h k =
    absurd (extreme_no_halves Whole f lines rows halves l h.1 h.2 h.3 k.3)
one_decision f (ExtremeByResidues g lines rows) (Minimal g') l h k = absurd k
one_decision f (ExtremeByResidues g lines rows) (Cut rule cuts) l h k = absurd k
one_decision f (ExtremeByResidues g lines rows) (NotMinimal g' v) l h k =
    absurd (first_denies f v k.1 (tests_from_minimal f h.1))
one_decision f (ExtremeByResidues g lines rows) (Extreme g' others more) l h k =
    absurd (not_both f others lines more rows l k.3 h.3)
one_decision f (ExtremeByResidues g lines rows) (ExtremeByResidues g' others more) l h k =
    let one = one_rows Residues f lines others rows more l h.3 k.3 in
    ap (λ x. ExtremeByResidues x lines rows) (h.0 ∙ sym k.0)
    ∙ ap₂ (λ x y. ExtremeByResidues g' x y) one.0 one.1
one_decision f (ExtremeByResidues g lines rows) (NotExtreme g' halves) l h k =
    absurd (extreme_no_halves Residues f lines rows halves l h.1 h.2 h.3 k.3)
one_decision f (NotExtreme g halves) (Minimal g') l h k = absurd k
one_decision f (NotExtreme g halves) (Cut rule rows) l h k = absurd k
one_decision f (NotExtreme g halves) (NotMinimal g' v) l h k =
    absurd (first_denies f v k.1 (tests_from_minimal f h.1))
one_decision f (NotExtreme g halves) (Extreme g' lines rows) l h k =
    absurd (extreme_no_halves Whole f lines rows halves l k.1 k.2 k.3 h.3)
one_decision f (NotExtreme g halves) (ExtremeByResidues g' lines rows) l h k =
    absurd (extreme_no_halves Residues f lines rows halves l k.1 k.2 k.3 h.3)
one_decision f (NotExtreme g halves) (NotExtreme g' others) l h k =
    ap₂ (λ x y. NotExtreme x y) (h.0 ∙ sym k.0) (one_halves f halves others l h.3 k.3)
