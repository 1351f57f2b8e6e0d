-- Breakpoints one after another, and the functions that they tell: there is one at most.
use Rattle.std.proofs.Common.{◌≡◌, ◌≢◌, ℕ, ◌+◌, ◌<◌, pos, ◌*ℤ◌, ◌<ℤ◌, List, [], ◌∷◌, ◌++◌, length, map, get_or, unsigned_abs, refl, sym, ap, ap₂, subst, ◌∙◌, arith}
use Rattle.std.proofs.lemmas.Int.{ints}
use Rattle.std.proofs.lemmas.List.{map-append, same_lists}
use Rattle.std.proofs.lemmas.Nat.Gcd.{dvd_antisymm}
use Rattle.gj_frac.specs.declared.Frac.{Frac}
use Rattle.gj_frac.proofs.SameValues.{same_from_is, one_place}
use Rattle.gj_lemmas.proofs.FirstThatFails.{first_failing_denies}
use Rattle.gj_lemmas.proofs.Integers.{mul_positive_z, positive_some_z}
use Rattle.gj_shape.specs.FunctionData.{FunctionData}
use Rattle.gj_shape.specs.Given.{in_order, AreWithinBounds, IsGivenBy, IsTooFine}
use Rattle.gj_shape.specs.Points.{lefts, values, rights, all_fractions}
use Rattle.gj_shape.specs.Breaks.{point_at, points_at, on_line, even, IsPiece, AreLaid, last, onward, AreGridPoints, IsGivenByBreaks, AreTooFine, BreakList, HasOrderWith, Follows, IsBreakFault, IsOfBreaks}
use Rattle.gj_shape.specs.declared.points.Point.{Point}
use Rattle.gj_shape.specs.declared.points.PointFault.TheVariants.{Large, Fine}
use Rattle.gj_shape.specs.declared.breaks.Break.{Break}
use Rattle.gj_shape.specs.declared.breaks.BreakFault.{BreakFault}
use Rattle.gj_shape.specs.declared.breaks.BreakFault.TheVariants as fault
use Rattle.gj_shape.proofs.GivenLists.{within_given}
use Rattle.gj_shape.proofs.GivenPoints.{no_fault_follows, not_large_and_fine}
use Rattle.gj_shape.proofs.LeastDenominator.{within_bounds_closed}
use Rattle.gj_shape.proofs.OneFunction.{same_from_given}

-- ---- one more breakpoint

-- a breakpoint behind others gives one list
pub one_following : (s : BreakList) (b : Break) (t u : BreakList) → Follows s b t → Follows s b u →
    t ≡ u
one_following s b t u h k =
    let place : t.place ≡ u.place = h.place_is ∙ sym k.place_is in
    let order : t.order ≡ u.order =
    dvd_antisymm (h.order_is.2 u.order k.order_is.0 k.order_is.1)
    (k.order_is.2 t.order h.order_is.0 h.order_is.1) in
    let breaks : t.breaks ≡ u.breaks = h.breaks_are ∙ sym k.breaks_are in
    λ i. record { place = place i; order = order i; breaks = breaks i }

-- the fault is not want of memory
abbrev pub IsNoMemory : BreakFault → Type 0
IsNoMemory fault.Break = Unit {0}
IsNoMemory fault.Pieces = Unit {0}
IsNoMemory fault.Large = Unit {0}
IsNoMemory fault.Fine = Unit {0}
IsNoMemory (fault.Memory e) = ⊥

-- a breakpoint has one fault at most
pub one_break_fault : (s : BreakList) (b : Break) (e d : BreakFault) → IsNoMemory e → IsNoMemory d →
    IsBreakFault s b e →
    IsBreakFault s b d → e ≡ d
one_break_fault s b fault.Break fault.Break m n h k = refl
one_break_fault s b fault.Break fault.Pieces m n h k = absurd (h k.0)
one_break_fault s b fault.Break fault.Large m n h k = absurd (h k.0)
one_break_fault s b fault.Break fault.Fine m n h k = absurd (h k.0)
one_break_fault s b fault.Break (fault.Memory e) m n h k = absurd n
one_break_fault s b fault.Pieces fault.Break m n h k = absurd (k h.0)
one_break_fault s b fault.Pieces fault.Pieces m n h k = refl
one_break_fault s b fault.Pieces fault.Large m n h k = absurd (h.1 k.1)
one_break_fault s b fault.Pieces fault.Fine m n h k = absurd (h.1 k.1)
one_break_fault s b fault.Pieces (fault.Memory e) m n h k = absurd n
one_break_fault s b fault.Large fault.Break m n h k = absurd (k h.0)
one_break_fault s b fault.Large fault.Pieces m n h k = absurd (k.1 h.1)
one_break_fault s b fault.Large fault.Large m n h k = refl
one_break_fault s b fault.Large fault.Fine m n h k =
    absurd (not_large_and_fine (points_at s.breaks) (point_at b) h.2 k.2)
one_break_fault s b fault.Large (fault.Memory e) m n h k = absurd n
one_break_fault s b fault.Fine fault.Break m n h k = absurd (k h.0)
one_break_fault s b fault.Fine fault.Pieces m n h k = absurd (k.1 h.1)
one_break_fault s b fault.Fine fault.Large m n h k =
    absurd (not_large_and_fine (points_at s.breaks) (point_at b) k.2 h.2)
one_break_fault s b fault.Fine fault.Fine m n h k = refl
one_break_fault s b fault.Fine (fault.Memory e) m n h k = absurd n
one_break_fault s b (fault.Memory e) d m n h k = absurd m

-- the order of a list behind which a breakpoint follows
order_with : (s : BreakList) (b : Break) (t : BreakList) → Follows s b t → HasOrderWith s b.x
order_with s b t h = (t.order, h.few, h.order_is)

-- the points of a list behind which a breakpoint follows are within bounds with its point
within_with : (s : BreakList) (b : Break) (t : BreakList) → Follows s b t →
    AreWithinBounds (all_fractions (points_at s.breaks ++ point_at b ∷ []))
within_with s b t h =
    let points : points_at t.breaks ≡ points_at s.breaks ++ point_at b ∷ [] =
    ap points_at h.breaks_are ∙ map-append point_at s.breaks (b ∷ []) in
    subst (λ ps. AreWithinBounds (all_fractions ps)) points h.within

-- a breakpoint that follows has no fault
pub follows_or_fault : (s : BreakList) (b : Break) (t : BreakList) (e : BreakFault) → IsNoMemory e →
    Follows s b t →
    IsBreakFault s b e → ⊥
follows_or_fault s b t fault.Break n h k = k h.next
follows_or_fault s b t fault.Pieces n h k = k.1 (order_with s b t h)
follows_or_fault s b t fault.Large n h k =
    no_fault_follows (points_at s.breaks) (point_at b) [] Large (within_with s b t h) k.2
follows_or_fault s b t fault.Fine n h k =
    no_fault_follows (points_at s.breaks) (point_at b) [] Fine (within_with s b t h) k.2
follows_or_fault s b t (fault.Memory m) n h k = n

-- ---- the points of the grid

-- the bottom of a value on a line is not 0
line_bottom : (u w : Frac) (n r : ℕ) → 0 < n → unsigned_abs (on_line u w n r).bottom ≢ 0
line_bottom u w n r some =
    let n_some : pos 0 <ℤ pos n = omega (arith, ints, some) in
    let both : pos 0 <ℤ (u.den *ℤ w.den) =
    mul_positive_z u.den w.den u.lowest.positive w.lowest.positive in
    positive_some_z (u.den *ℤ w.den *ℤ pos n) (mul_positive_z (u.den *ℤ w.den) (pos n) both n_some)

-- the points from a breakpoint up to the next
pub one_piece : (b : Break) (w : Frac) (n : ℕ) (ps rs : List Point) → IsPiece b w n ps →
    IsPiece b w n rs → ps ≡ rs
one_piece b w n ps rs h k =
    let count : length h.between ≡ length k.between = omega (arith, h.line.count, k.line.count) in
    let some : 0 < n = omega (arith, h.line.count) in
    let entries : (i : ℕ) (x : Frac) → i < length h.between →
    get_or h.between i x ≡ get_or k.between i x = λ i x l.
    let line = on_line b.right w n (i + 1) in
    same_from_is (get_or h.between i x) (get_or k.between i x) line.top line.bottom
    (line_bottom b.right w n (i + 1) some)
    (h.line.on i x l) (k.line.on i x (omega (arith, count, l))) in
    let same : h.between ≡ k.between = same_lists h.between k.between count entries in
    h.points_are ∙ ap (λ xs. point_at b ∷ map even xs) same ∙ sym k.points_are

-- the points from the first breakpoint on
one_laid : (q : ℕ) (w : Frac) (breaks : List Break) (ps rs : List Point) → AreLaid q w breaks ps →
    AreLaid q w breaks rs → ps ≡ rs
one_laid q w [] ps rs h k = elim h [ ]
one_laid q w (b ∷ []) ps rs (last _ p n _ at end h) (last _ r m _ at' end' k) =
    let same : p ≡ r = one_place b.x q p r at at' in
    let steps : m ≡ n = omega (arith, same, end, end') in
    one_piece b w n ps rs h (subst (λ l. IsPiece b w l rs) steps k)
one_laid q w (b ∷ c ∷ more) _ _ (onward _ _ _ p n ps us at next h laid)
    (onward _ _ _ r m rs vs at' next' k laid') =
    let same : p ≡ r = one_place b.x q p r at at' in
    let end : p + n ≡ r + m = one_place c.x q (p + n) (r + m) next next' in
    let steps : m ≡ n = omega (arith, same, end) in
    let first : ps ≡ rs =
    one_piece b c.left n ps rs h (subst (λ l. IsPiece b c.left l rs) steps k) in
    ap₂ (λ xs ys. xs ++ ys) first (one_laid q w (c ∷ more) us vs laid laid')

-- breakpoints have one list of points
pub one_grid : (q : ℕ) (breaks : List Break) (ps rs : List Point) → AreGridPoints q breaks ps →
    AreGridPoints q breaks rs → ps ≡ rs
one_grid q breaks ps rs h k =
    let lists : k.first ∷ k.more ≡ h.first ∷ h.more = sym k.breaks_are ∙ h.breaks_are in
    let same : k.first ≡ h.first = cc in
    one_laid q h.first.left breaks ps rs h.laid
    (subst (λ b. AreLaid q b.left breaks rs) same k.laid)

-- ---- the function

-- an order, a place and breakpoints give one function
pub one_function : (q k : ℕ) (breaks : List Break) (f g : FunctionData) →
    IsGivenByBreaks q k breaks f →
    IsGivenByBreaks q k breaks g → f ≡ g
one_function q k breaks f g (ps, grid, given) (rs, grid', given') =
    let same : rs ≡ ps = one_grid q breaks rs ps grid' grid in
    same_from_given q k (lefts ps) (values ps) (rights ps) f g given
    (subst (λ us. IsGivenBy q k (lefts us) (values us) (rights us) g) same given')

-- a list of breakpoints tells one function
pub one_function_of_list : (s : BreakList) (f g : FunctionData) → IsOfBreaks s f → IsOfBreaks s g →
    f ≡ g
one_function_of_list s f g (k, place, given) (m, place', given') =
    let same : m ≡ k = one_place s.place s.order m k place' place in
    one_function s.order k s.breaks f g given
    (subst (λ n. IsGivenByBreaks s.order n s.breaks g) same given')

-- breakpoints that give a function are not too fine
pub given_or_too_fine : (q k : ℕ) (breaks : List Break) (f : FunctionData) →
    IsGivenByBreaks q k breaks f →
    AreTooFine q breaks → ⊥
given_or_too_fine q k breaks f (ps, grid, given) (rs, i, grid', fine) =
    let same : rs ≡ ps = one_grid q breaks rs ps grid' grid in
    let (before, x, first, small) =
    subst (λ us. IsTooFine (lefts us) (values us) (rights us) i) same fine in
    first_failing_denies AreWithinBounds within_bounds_closed
    (in_order (lefts ps) (values ps) (rights ps)) before x first.first
    (within_given q k (lefts ps) (values ps) (rights ps) f given)
