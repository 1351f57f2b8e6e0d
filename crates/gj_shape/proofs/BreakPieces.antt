-- The points of the grid, laid breakpoint by breakpoint.
use Rattle.std.proofs.Common.{◌≡◌, ℕ, zero, suc, ◌+◌, ◌-◌, ◌<◌, ◌≤◌, ℤ, pos, ◌*ℤ◌, ◌<ℤ◌, List, [], ◌∷◌, ◌++◌, length, map, take, drop, get_or, All, refl, sym, ap, subst, ◌∙◌, append_assoc, below_more, arith}
use Rattle.std.proofs.Math.Seq.{get_or-append_seam}
use Rattle.std.proofs.lemmas.Int.{ints}
use Rattle.std.proofs.lemmas.List.{append-nil, length_push, length-append, length-map, map-append, get_or_append_left, take_more, drop_more, take-append-drop, drop_all, get_or_default, get_or-map}
use Rattle.std.proofs.lemmas.List.Elements.{All-nil, All-cons, All-head, All-tail, All-append, All-map, All-get_or}
use Rattle.gj_frac.specs.declared.Frac.{Frac}
use Rattle.gj_frac.specs.Fraction.{SameValue, LessValue, IsRatio, fraction_of, numerator, denominator}
use Rattle.gj_lemmas.proofs.Integers.{mul_comm_z}
use Rattle.gj_lemmas.proofs.Lists.{All-two}
use Rattle.gj_lemmas.proofs.Ratios.{ratio_less}
use Rattle.gj_frac.proofs.SameValues.{one_place}
use Rattle.gj_shape.specs.Breaks.{point_at, points_at, even, on_line, IsStraightLine, IsPiece, AreLaid, AreGridPoints, AreAscending, AreOnGrid, AreListsOfBreaks}
use Rattle.gj_shape.specs.Breaks.AreLaid.{last, onward}
use Rattle.gj_shape.specs.Given.{IsSmall, AreWithinBounds, IsOrder, IsPlace, HaveLength, HasFault, IsTooFineOf}
use Rattle.gj_shape.specs.Points.{lefts, values, rights, all_fractions}
use Rattle.gj_shape.specs.declared.points.Point.{Point}
use Rattle.gj_shape.specs.declared.breaks.Break.{Break}
use Rattle.gj_shape.specs.declared.faults.ShapeFault.{ShapeFault}
use Rattle.gj_shape.proofs.BreakLines.{IsPlaceOn, on_line_small, less_pos, less_places}
use Rattle.gj_shape.proofs.GivenFractions.{too_fine_of}
use Rattle.gj_shape.proofs.LeastDenominator.{Divides}

-- ---- one piece

-- behind the points `front` come those on the line from u to w up to, not including, i
pub record IsLineSoFar (front : List Point) (u w : Frac) (n i : ℕ) (items : List Point) :
    Type 0 where
  pub between : List Frac
  pub count : length between + 1 ≡ i
  pub on : (j : ℕ) (x : Frac) → j < length between →
      SameValue (fraction_of (get_or between j x)) (on_line u w n (j + 1))
  pub items_are : items ≡ front ++ map even between

-- none of it at first
pub no_line_yet : (front : List Point) (u w : Frac) (n : ℕ) → IsLineSoFar front u w n 1 front
no_line_yet front u w n =
    record {
      between = [];
      count = refl;
      on = λ j x below. absurd (omega arith);
      items_are =
          sym (append-nil front);
    }

-- one more point of the line
pub line_more : (front : List Point) (u w : Frac) (n i : ℕ) (items : List Point) (x : Frac) →
    IsLineSoFar front u w n i items → SameValue (fraction_of x) (on_line u w n i) →
    IsLineSoFar front u w n (i + 1) (items ++ even x ∷ [])
line_more front u w n i items x h is =
    let xs = h.between in
    let k = length xs in
    let more = length_push xs x in
    let P : ℕ → Type 0 = λ j. (y : Frac) →
    SameValue (fraction_of (get_or (xs ++ x ∷ []) j y)) (on_line u w n (j + 1)) in
    let before : (j : ℕ) → j < k → P j = λ j below y.
    subst (λ z. SameValue (fraction_of z) (on_line u w n (j + 1)))
    (sym (get_or_append_left xs (x ∷ []) y j below)) (h.on j y below) in
    let here : P k = λ y.
    subst (λ z. SameValue (fraction_of z) (on_line u w n (k + 1)))
    (sym (get_or-append_seam xs x [] y))
    (subst (λ j. SameValue (fraction_of x) (on_line u w n j)) (sym h.count) is) in
    record {
      between = xs ++ x ∷ [];
      count = ap (λ m. m + 1) (more ∙ h.count);
      on = λ j y below. below_more P k before here j (omega arith) y;
      items_are = ap (λ ps. ps ++ even x ∷ []) h.items_are
          ∙ append_assoc front (map even xs) (even x ∷ [])
          ∙ ap (λ ps. front ++ ps) (sym (map-append even xs (x ∷ [])));
    }

-- the point of a breakpoint and the line behind it make a piece
pub piece_pushed : (b : Break) (w : Frac) (n : ℕ) (front pushed items : List Point) →
    (between : List Frac) × IsStraightLine b.right w n between
    × (items ≡ pushed ++ map even between) → pushed ≡ front ++ point_at b ∷ [] →
    (more : List Point) × IsPiece b w n more × (items ≡ front ++ more)
piece_pushed b w n front pushed items (between, line, items_are) pushed_is = (
  point_at b ∷ map even between,
  record { between = between; line = line; points_are = refl },
  items_are ∙ ap (λ ps. ps ++ map even between) pushed_is
      ∙ append_assoc front (point_at b ∷ []) (map even between),
)

-- a piece has as many points as steps
pub piece_length : (b : Break) (w : Frac) (n : ℕ) (points : List Point) → IsPiece b w n points →
    length points ≡ n
piece_length b w n points h =
    let mapped = length-map h.between even in
    let count = h.line.count in
    let long : length (point_at b ∷ map even h.between) ≡ n = omega arith in
    ap length h.points_are ∙ long

-- ---- small points

-- what holds of all three fractions of a point
pub record HoldsAt (P : Frac → Type 0) (p : Point) : Type 0 where
  pub left : P p.left
  pub value : P p.value
  pub right : P p.right

abbrev IsSmallPoint : Point → Type 0
IsSmallPoint = HoldsAt IsSmall

-- what holds of all fractions of points
all_at_points : (P : Frac → Type 0) (points : List Point) → All P (all_fractions points) →
    All (HoldsAt P) points
all_at_points P [] h = All-nil (HoldsAt P)
all_at_points P (p ∷ points) h =
    let rest = all_fractions points in
    let a = All-tail P p.left (p.value ∷ p.right ∷ rest) h in
    let b = All-tail P p.value (p.right ∷ rest) a in
    All-cons (HoldsAt P) p points (record {
      left = All-head P p.left (p.value ∷ p.right ∷ rest) h;
      value = All-head P p.value (p.right ∷ rest) a;
      right = All-head P p.right rest b;
    })
    (all_at_points P points (All-tail P p.right rest b))

piece_small : (b : Break) (w : Frac) (n : ℕ) (points : List Point) → IsSmallPoint (point_at b) →
    IsSmall w → IsPiece b w n points →
    All IsSmallPoint points
piece_small b w n points small w_small h =
    let count = h.line.count in
    let one : All (λ x. IsSmallPoint (even x)) h.between = λ j x below.
    let s = on_line_small b.right w (get_or h.between j x) n (j + 1) small.right w_small
    (omega arith) (h.line.on j x below) in
    record { left = s; value = s; right = s } in
    subst (All IsSmallPoint) (sym h.points_are)
    (All-cons IsSmallPoint (point_at b) (map even h.between) small
    (All-map IsSmallPoint even h.between one))

laid_small : (q : ℕ) (w : Frac) (breaks : List Break) (points : List Point) →
    All IsSmallPoint (points_at breaks) → IsSmall w →
    AreLaid q w breaks points → All IsSmallPoint points
laid_small q w _ _ small w_small (last b p n points r e piece) =
    piece_small b w n points (All-head IsSmallPoint (point_at b) [] small) w_small piece
laid_small q w _ _ small w_small (onward b c more p n points rest r s piece laid) =
    let tail = All-tail IsSmallPoint (point_at b) (points_at (c ∷ more)) small in
    let next = All-head IsSmallPoint (point_at c) (points_at more) tail in
    All-append IsSmallPoint points rest
    (piece_small b c.left n points (All-head IsSmallPoint (point_at b) (points_at (c ∷ more)) small)
    next.left piece)
    (laid_small q w (c ∷ more) rest tail w_small laid)

-- ---- as many points as the order

-- the first of the breakpoints is at p/q
abbrev StartsAt : ℕ → ℕ → List Break → Type 0
StartsAt q p [] = ⊥
StartsAt q p (b ∷ more) = IsRatio b.x (pos p) (pos q)

laid_length : (q : ℕ) (w : Frac) (breaks : List Break) (points : List Point) (p : ℕ) →
    StartsAt q p breaks →
    AreLaid q w breaks points → length points + p ≡ q
laid_length q w _ _ p at (last b m n points r e piece) =
    let same : p ≡ m = one_place b.x q p m at r in
    let long = piece_length b w n points piece in
    omega arith
laid_length q w _ _ p at (onward b c more m n points rest r s piece laid) =
    let same : p ≡ m = one_place b.x q p m at r in
    let long = piece_length b c.left n points piece in
    let tail = laid_length q w (c ∷ more) rest (m + n) s laid in
    let both = length-append points rest in
    omega arith

-- ---- a breakpoint of the list

pub record IsBreakAt (breaks : List Break) (i : ℕ) (b : Break) : Type 0 where
  pub within : i < length breaks
  pub is : b ≡ get_or breaks i b

drop_at : (breaks : List Break) (i : ℕ) (b : Break) → IsBreakAt breaks i b →
    drop i breaks ≡ b ∷ drop (i + 1) breaks
drop_at breaks i b h = drop_more breaks i b h.within ∙ ap (λ y. y ∷ drop (i + 1) breaks) (sym h.is)

take_at : (breaks : List Break) (i : ℕ) (b : Break) → IsBreakAt breaks i b →
    take (i + 1) breaks ≡ take i breaks ++ b ∷ []
take_at breaks i b h = take_more breaks i b h.within ∙ ap (λ y. take i breaks ++ y ∷ []) (sym h.is)

parts_at : (breaks : List Break) (i : ℕ) (b : Break) → IsBreakAt breaks i b →
    breaks ≡ take i breaks ++ b ∷ drop (i + 1) breaks
parts_at breaks i b h = sym (take-append-drop i breaks)
    ∙ ap (λ bs. take i breaks ++ bs) (drop_at breaks i b h)

-- what holds of all fractions of the breakpoints holds of those of each
holds_at : (P : Frac → Type 0) (breaks : List Break) (i : ℕ) (b : Break) →
    All P (all_fractions (points_at breaks)) →
    IsBreakAt breaks i b → HoldsAt P (point_at b)
holds_at P breaks i b h at =
    let within = at.within in
    let long = length-map breaks point_at in
    let there = All-get_or (HoldsAt P) (points_at breaks) i (point_at b) (omega arith)
    (all_at_points P (points_at breaks) h) in
    subst (HoldsAt P) (get_or-map point_at breaks i b (point_at b) within ∙ ap point_at (sym at.is))
    there

-- the ends of a line are within bounds
pub ends_within : (breaks : List Break) (i j : ℕ) (b c : Break) →
    AreWithinBounds (all_fractions (points_at breaks)) →
    IsBreakAt breaks i b → IsBreakAt breaks j c → AreWithinBounds (b.right ∷ c.left ∷ [])
ends_within breaks i j b c within at next =
    let (d, low, high, all) = within.common in
    record {
      small = All-two IsSmall b.right c.left (holds_at IsSmall breaks i b within.small at).right
          (holds_at IsSmall breaks j c within.small next).left;
      common = (
        d,
        low,
        high,
        All-two (Divides d) b.right c.left (holds_at (Divides d) breaks i b all at).right
            (holds_at (Divides d) breaks j c all next).left,
      );
    }

-- the next is greater
next_greater : (breaks : List Break) (i : ℕ) (b c : Break) → AreAscending breaks →
    IsBreakAt breaks i b →
    IsBreakAt breaks (i + 1) c →
    LessValue (fraction_of b.x) (fraction_of c.x)
    × LessValue (fraction_of c.x) (record { top = pos 1; bottom = pos 1 })
next_greater breaks i b c ascending at next =
    (ascending (take (i + 1) breaks) c (drop (i + 1 + 1) breaks)
    (parts_at breaks (i + 1) c next)).further (take i breaks) b
    (take_at breaks i b at)

zero_times : (z : ℤ) → pos 0 *ℤ z ≡ pos 0
zero_times z = omega (arith, ints)

-- the first is at 0
first_zero : (breaks : List Break) (b : Break) → AreAscending breaks → IsBreakAt breaks 0 b →
    numerator b.x ≡ pos 0
first_zero breaks b ascending at =
    (ascending [] b (drop 1 breaks) (parts_at breaks 0 b at)).first refl

first_place : (q : ℕ) (breaks : List Break) (b : Break) → AreAscending breaks →
    IsBreakAt breaks 0 b →
    IsRatio b.x (pos 0) (pos q)
first_place q breaks b ascending at =
    ap (λ z. z *ℤ pos q) (first_zero breaks b ascending at) ∙ zero_times (pos q)
    ∙ sym (zero_times (denominator b.x))

below_one : (q : ℕ) (x : Frac) (p : ℕ) → 0 < q →
    LessValue (fraction_of x) (record { top = pos 1; bottom = pos 1 }) →
    IsRatio x (pos p) (pos q) → p < q
below_one q x p some less is =
    let positive : pos 0 <ℤ pos q = omega (arith, ints) in
    let one : pos 0 <ℤ pos 1 = omega (arith, ints) in
    let turned : pos 1 *ℤ pos q ≡ pos q *ℤ pos 1 = mul_comm_z (pos 1) (pos q) in
    less_pos p q ((ratio_less (numerator x) (denominator x) (pos 1) (pos 1) (pos p) (pos q)
    (pos q) x.lowest.positive one positive is turned).0 less)

-- each is at a multiple of 1/q below 1
pub place_on : (q : ℕ) (breaks : List Break) (i : ℕ) (b : Break) → 0 < q → AreAscending breaks →
    AreOnGrid q breaks →
    IsBreakAt breaks i b → IsPlaceOn q b.x
place_on q breaks zero b some ascending on at = (0, some, first_place q breaks b ascending at)
place_on q breaks (suc j) b some ascending on at =
    let (p, is) = on (take (suc j) breaks) b (drop (suc j + 1) breaks)
    (parts_at breaks (suc j) b at) in
    let before = get_or breaks j b in
    let within = at.within in
    let h : IsBreakAt breaks j before =
    record { within = omega arith; is = get_or_default breaks j b before (omega arith) } in
    let e : suc j ≡ j + 1 = omega arith in
    let less = (next_greater breaks j before b ascending h
    (subst (λ i. IsBreakAt breaks i b) e at)).1 in
    (p, below_one q b.x p some less is, is)

pub place_below : (q : ℕ) (breaks : List Break) (i : ℕ) (b : Break) (m : ℕ) → 0 < q →
    AreAscending breaks → AreOnGrid q breaks →
    IsBreakAt breaks i b → IsRatio b.x (pos m) (pos q) → m < q
place_below q breaks i b m some ascending on at r =
    let (p, below, is) = place_on q breaks i b some ascending on at in
    let e : m ≡ p = one_place b.x q m p r is in
    omega arith

-- and the places ascend
pub places_ascend : (q : ℕ) (breaks : List Break) (i : ℕ) (b c : Break) (m n : ℕ) → 0 < q →
    AreAscending breaks →
    IsBreakAt breaks i b → IsBreakAt breaks (i + 1) c → IsRatio b.x (pos m) (pos q) →
    IsRatio c.x (pos n) (pos q) → m < n
places_ascend q breaks i b c m n some ascending at next r s =
    less_places q b.x c.x m n some (next_greater breaks i b c ascending at next).0 r s

-- ---- the pieces

-- what is laid from the breakpoint i on is behind these points laid from the start
abbrev pub AreLaidFrom : ℕ → Frac → List Break → ℕ → List Point → Type 0
AreLaidFrom q w breaks i points = (rest : List Point) → AreLaid q w (drop i breaks) rest →
    AreLaid q w breaks (points ++ rest)

-- one more piece
pub laid_more : (q : ℕ) (w : Frac) (breaks : List Break) (i p n : ℕ) (b c : Break)
    (points more : List Point) →
    IsBreakAt breaks i b → IsBreakAt breaks (i + 1) c → IsRatio b.x (pos p) (pos q) →
    IsRatio c.x (pos (p + n)) (pos q) →
    IsPiece b c.left n more → AreLaidFrom q w breaks i points →
    AreLaidFrom q w breaks (i + 1) (points ++ more)
laid_more q w breaks i p n b c points more at next r s piece h rest laid =
    let there : AreLaid q w (c ∷ drop (i + 1 + 1) breaks) rest =
    subst (λ bs. AreLaid q w bs rest) (drop_at breaks (i + 1) c next) laid in
    let here = onward b c (drop (i + 1 + 1) breaks) p n more rest r s piece there in
    let whole : drop i breaks ≡ b ∷ c ∷ drop (i + 1 + 1) breaks =
    drop_at breaks i b at ∙ ap (λ bs. b ∷ bs) (drop_at breaks (i + 1) c next) in
    subst (AreLaid q w breaks) (sym (append_assoc points more rest))
    (h (more ++ rest) (subst (λ bs. AreLaid q w bs (more ++ rest)) (sym whole) here))

-- the last piece
laid_last : (q : ℕ) (w : Frac) (breaks : List Break) (i p n : ℕ) (b : Break)
    (points more : List Point) →
    IsBreakAt breaks i b → i + 1 ≡ length breaks → IsRatio b.x (pos p) (pos q) → p + n ≡ q →
    IsPiece b w n more →
    AreLaidFrom q w breaks i points → AreLaid q w breaks (points ++ more)
laid_last q w breaks i p n b points more at end r e piece h =
    let none : drop (i + 1) breaks ≡ [] = drop_all (i + 1) breaks (omega arith) in
    let whole : drop i breaks ≡ b ∷ [] = drop_at breaks i b at ∙ ap (λ bs. b ∷ bs) none in
    h more (subst (λ bs. AreLaid q w bs more) (sym whole) (last b p n more r e piece))

-- ---- the whole grid

-- the last piece completes it
pub grid_done : (q : ℕ) (breaks : List Break) (i j m : ℕ) (first b : Break)
    (points more grid : List Point) →
    IsBreakAt breaks 0 first → IsBreakAt breaks i b → i + 1 ≡ length breaks → j ≡ i → m ≤ q →
    IsRatio b.x (pos m) (pos q) →
    IsPiece b first.left (q - m) more → AreLaidFrom q first.left breaks j points →
    grid ≡ points ++ more → AreGridPoints q breaks grid
grid_done q breaks i j m first b points more grid front at end same below r piece laid e =
    let here = subst (λ k. AreLaidFrom q first.left breaks k points) same laid in
    let whole = laid_last q first.left breaks i m (q - m) b points more at end r
    (omega arith) piece here in
    record {
      first = first;
      more = drop 1 breaks;
      breaks_are = drop_at breaks 0 first front;
      laid = subst (AreLaid q first.left breaks) (sym e) whole;
    }

grid_starts : (q : ℕ) (breaks : List Break) (b : Break) (more : List Break) → breaks ≡ b ∷ more →
    AreAscending breaks → StartsAt q 0 breaks
grid_starts q breaks b more e ascending =
    let zero_first : numerator b.x ≡ pos 0 = (ascending [] b more e).first refl in
    let at : IsRatio b.x (pos 0) (pos q) = ap (λ z. z *ℤ pos q) zero_first ∙ zero_times (pos q)
    ∙ sym (zero_times (denominator b.x)) in
    subst (StartsAt q 0) (sym e) at

-- the only faults of the points of the grid are that they are too fine, and want of memory
pub grid_fault : (q k : ℕ) (breaks : List Break) (points : List Point) (e : ShapeFault) →
    IsOrder q → IsPlace q k →
    AreAscending breaks → AreWithinBounds (all_fractions (points_at breaks)) →
    AreGridPoints q breaks points →
    HasFault q k (lefts points) (values points) (rights points) e →
    IsTooFineOf (AreListsOfBreaks q breaks) e
grid_fault q k breaks points e order place ascending within grid h =
    let breaks_small : All IsSmallPoint (points_at breaks) =
    all_at_points IsSmall (points_at breaks) within.small in
    let first_small = All-head IsSmallPoint (point_at grid.first) (points_at grid.more)
    (subst (λ bs. All IsSmallPoint (points_at bs)) grid.breaks_are breaks_small) in
    let small : All IsSmallPoint points =
    laid_small q grid.first.left breaks points breaks_small first_small.left grid.laid in
    let long = laid_length q grid.first.left breaks points 0
    (grid_starts q breaks grid.first grid.more grid.breaks_are ascending) grid.laid in
    let count : length points ≡ q = omega arith in
    let lengths : HaveLength (lefts points) (values points) (rights points) q = (
      length-map points (λ p. p.left) ∙ count,
      length-map points (λ p. p.value) ∙ count,
      length-map points (λ p. p.right) ∙ count,
    ) in
    too_fine_of (AreListsOfBreaks q breaks) q k (lefts points) (values points)
    (rights points) e order place lengths
    (All-map IsSmall (λ p. p.left) points (λ j p below. (small j p below).left))
    (All-map IsSmall (λ p. p.value) points (λ j p below. (small j p below).value))
    (All-map IsSmall (λ p. p.right) points (λ j p below. (small j p below).right))
    (points, grid, refl, refl, refl) h
