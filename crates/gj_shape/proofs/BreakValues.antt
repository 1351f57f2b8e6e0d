-- The function that the points of a grid give has the breakpoints from which they come.
use Rattle.std.proofs.Common.{◌≡◌, ℕ, zero, suc, ◌+◌, ◌<◌, ◌⊎◌, ⊎_elim, ℤ, pos, List, [], ◌∷◌, ◌++◌, length, map, drop, get_or, refl, sym, ap, subst, subst₂, ◌∙◌, append_assoc, length-append, get_or-append-add, arith}
use Rattle.std.specs.List.{AllZip}
use Rattle.std.proofs.lemmas.List.{length-map, get_or-map, get_or_append_left}
use Rattle.gj_frac.specs.declared.Frac.{Frac}
use Rattle.gj_frac.specs.Fraction.{SameValue, fraction_of, IsRatio}
use Rattle.gj_frac.proofs.SameValues.{one_place}
use Rattle.gj_shape.specs.FunctionData.{FunctionData, IsWithinBounds, at}
use Rattle.gj_shape.specs.Given.{IsGivenBy, numerator_over}
use Rattle.gj_shape.specs.Points.{lefts, values, rights, ArePointsOf, IsPointAt}
use Rattle.gj_shape.specs.Breaks.{point_at, on_line, IsAffineBetween, HasBreaks, even, IsPiece, AreLaid, last, onward, AreGridPoints}
use Rattle.gj_shape.specs.declared.points.Point.{Point}
use Rattle.gj_shape.specs.declared.breaks.Break.{Break}
use Rattle.gj_shape.proofs.AtLemmas.{at_below}
use Rattle.gj_shape.proofs.BreakPieces.{piece_length}
use Rattle.gj_shape.proofs.GivenPoints.{points_given}
use Rattle.gj_shape.proofs.TableLemmas.{at_plus_order}
use Rattle.gj_shape.proofs.Segments.{IsOnLine, on_line_over, line_first, line_last, IsSegment, affine_on_segment}

-- ---- the points of the function

-- what holds along two lists holds at an index
zip_at : (R : Frac → ℤ → Type 0) (xs : List Frac) (ns : List ℤ) (j : ℕ) (d : Frac) (z : ℤ) →
    AllZip R xs ns → j < length xs →
    R (get_or xs j d) (get_or ns j z)
zip_at R [] ns j d z h below = absurd (omega arith)
zip_at R (x ∷ xs) [] j d z h below = absurd h
zip_at R (x ∷ xs) (n ∷ ns) zero d z h below = h.0
zip_at R (x ∷ xs) (n ∷ ns) (suc j) d z h below = zip_at R xs ns j d z h.1 (omega arith)

entry_is : (scale : ℕ) (g : Point → Frac) (points : List Point) (ns : List ℤ) (j : ℕ) (d : Point) →
    AllZip (λ x n. IsRatio x n (pos scale)) (map g points) ns → j < length points → j < length ns →
    IsRatio (g (get_or points j d)) (at ns j) (pos scale)
entry_is scale g points ns j d h in_points in_numbers =
    let as_many = length-map points g in
    let below : j < length (map g points) = omega arith in
    subst₂ (λ x n. IsRatio x n (pos scale)) (get_or-map g points j d (g d) in_points)
    (sym (at_below ns j in_numbers))
    (zip_at (λ x n. IsRatio x n (pos scale)) (map g points) ns j (g d) (pos 0) h below)

-- there are as many points as the order says, and each stands at its index
record StandInOrder (f : FunctionData) (points : List Point) : Type 0 where
  long : length points ≡ f.order
  stand : (j : ℕ) (d : Point) → j < f.order → IsPointAt f j (get_or points j d)

stand_in_order : (q k : ℕ) (points : List Point) (f : FunctionData) →
    IsGivenBy q k (lefts points) (values points) (rights points) f → StandInOrder f points
stand_in_order q k points f given = record { long = count; stand = stands }
  where
    are : ArePointsOf f points
    are = points_given q k points f given

    count : length points ≡ f.order
    count =
        sym (length-map points (λ p. p.left))
        ∙ sym (length-map (lefts points) (numerator_over f.scale))
        ∙ sym (ap length given.left_is) ∙ given.within.left_length

    stands : (j : ℕ) (d : Point) → j < f.order → IsPointAt f j (get_or points j d)
    stands j d below =
        let inside : j < length points = omega (arith, count) in
        record {
          left_is = entry_is f.scale (λ p. p.left) points f.left j d are.left_are inside
              (omega (arith, given.within.left_length));
          value_is = entry_is f.scale (λ p. p.value) points f.value j d are.value_are inside
              (omega (arith, given.within.value_length));
          right_is = entry_is f.scale (λ p. p.right) points f.right j d are.right_are inside
              (omega (arith, given.within.right_length));
        }

-- ---- the points that are laid

-- the points from a breakpoint on
record HasTail (q : ℕ) (w : Frac) (breaks : List Break) (points : List Point) : Type 0 where
  before : List Point
  rest : List Point
  split : points ≡ before ++ rest
  laid : AreLaid q w breaks rest

tail_laid : (q : ℕ) (w : Frac) {breaks : List Break} {points : List Point} (front : List Break)
    (b : Break) (back : List Break) →
    AreLaid q w breaks points → breaks ≡ front ++ b ∷ back → HasTail q w (b ∷ back) points
tail_laid q w {points = points} [] b back laid e = record {
  before = [];
  rest = points;
  split = refl;
  laid = subst (λ breaks. AreLaid q w breaks points) e laid;
}
tail_laid q w (x ∷ front) b back (last c p n points is sum piece) e =
    let long = ap length e in
    let parts = length-append front (b ∷ back) in
    absurd (omega arith)
tail_laid q w (x ∷ front) b back (onward c d more p n points rest is next piece laid) e =
    let tail = tail_laid q w front b back laid (ap (drop 1) e) in
    record {
      before = points ++ tail.before;
      rest = tail.rest;
      split = ap (λ ps. points ++ ps) tail.split ∙ sym (append_assoc points tail.before tail.rest);
      laid = tail.laid;
    }

-- the first of them is that of the first breakpoint
record HasHead (q : ℕ) (b : Break) (points : List Point) : Type 0 where
  place : ℕ
  place_is : IsRatio b.x (pos place) (pos q)
  others : List Point
  points_are : points ≡ point_at b ∷ others
  count : length points + place ≡ q

laid_head : (q : ℕ) (w : Frac) (b : Break) (back : List Break) (points : List Point) →
    AreLaid q w (b ∷ back) points →
    HasHead q b points
laid_head q w b back points (last c p n ps is sum piece) =
    let long = piece_length b w n ps piece in
    record {
      place = p;
      place_is = is;
      others = map even piece.between;
      points_are =
          piece.points_are;
      count = omega arith;
    }
laid_head q w b back points (onward c d more p n ps rest is next piece laid) =
    let head = laid_head q w d more rest laid in
    let long = piece_length b d.left n ps piece in
    let same = one_place d.x q head.place (p + n) head.place_is next in
    let rest_count = head.count in
    let joined = length-append ps rest in
    record {
      place = p;
      place_is = is;
      others = map even piece.between ++ rest;
      points_are = ap (λ xs. xs ++ rest) piece.points_are;
      count = omega arith;
    }

-- what stands at p and behind it
stand_from : (f : FunctionData) (points before rest : List Point) (p i : ℕ) (d : Point) →
    StandInOrder f points →
    points ≡ before ++ rest → length before ≡ p → i < length rest →
    IsPointAt f (p + i) (get_or rest i d)
stand_from f points before rest p i d order split count below =
    let long = order.long in
    let whole = ap length split in
    let parts = length-append before rest in
    let same : get_or points (p + i) d ≡ get_or rest i d =
    ap (λ xs. get_or xs (p + i) d) split ∙ ap (λ k. get_or (before ++ rest) (k + i) d) (sym count)
    ∙ get_or-append-add before rest i d in
    subst (IsPointAt f (p + i)) same (order.stand (p + i) d (omega arith))

-- the points before the place p of a breakpoint are p in number
before_count : (f : FunctionData) (points before rest : List Point) (b : Break) (p : ℕ) →
    StandInOrder f points →
    points ≡ before ++ rest → HasHead f.order b rest → IsRatio b.x (pos p) (pos f.order) →
    length before ≡ p
before_count f points before rest b p order split head is =
    let long = order.long in
    let whole = ap length split in
    let parts = length-append before rest in
    let same = one_place b.x f.order head.place p head.place_is is in
    let count = head.count in
    omega arith

-- the point of a breakpoint stands at its place
head_stands : (f : FunctionData) (points before rest : List Point) (b : Break) (p : ℕ) →
    StandInOrder f points →
    points ≡ before ++ rest → HasHead f.order b rest → length before ≡ p →
    IsPointAt f p (point_at b)
head_stands f points before rest b p order split head count =
    let long : 0 < length rest = omega (arith, ap length head.points_are) in
    let here : p + 0 ≡ p = omega arith in
    let first : get_or rest 0 (point_at b) ≡ point_at b =
    ap (λ xs. get_or xs 0 (point_at b)) head.points_are in
    subst (IsPointAt f p) first
    (subst (λ k. IsPointAt f k (get_or rest 0 (point_at b))) here
    (stand_from f points before rest p 0 (point_at b) order split count long))

-- ---- a piece is a segment

-- a point of a piece behind the first
record IsEvenOnLine (b : Break) (w : Frac) (n j : ℕ) (p : Point) : Type 0 where
  x : Frac
  point_is : p ≡ even x
  on : SameValue (fraction_of x) (on_line b.right w n j)

piece_even : (b : Break) (w : Frac) (n : ℕ) (points : List Point) (j : ℕ) (d : Point) →
    IsPiece b w n points → suc j < n →
    IsEvenOnLine b w n (suc j) (get_or points (suc j) d)
piece_even b w n points j d piece below =
    let xs = piece.between in
    let count = piece.line.count in
    let inside : j < length xs = omega arith in
    let x = get_or xs j b.right in
    let next : j + 1 ≡ suc j = omega arith in
    record {
      x = x;
      point_is = ap (λ ps. get_or ps (suc j) d) piece.points_are
          ∙ get_or-map even xs j b.right d inside;
      on = subst (λ k. SameValue (fraction_of x) (on_line b.right w n k)) next
          (piece.line.on j b.right inside);
    }

-- what stands at an even point is on the line
record AreOnLine (f : FunctionData) (p n j : ℕ) (u w : Frac) : Type 0 where
  left_on : IsOnLine f.scale u w n j (at f.left (p + j))
  value_on : IsOnLine f.scale u w n j (at f.value (p + j))
  right_on : IsOnLine f.scale u w n j (at f.right (p + j))

even_on_line : (f : FunctionData) (p n j : ℕ) (b : Break) (w : Frac) (point : Point) →
    IsEvenOnLine b w n j point →
    IsPointAt f (p + j) point → AreOnLine f p n j b.right w
even_on_line f p n j b w point is stands =
    let here = subst (IsPointAt f (p + j)) is.point_is stands in
    record {
      left_on = on_line_over f.scale b.right w n j is.x (at f.left (p + j)) is.on here.left_is;
      value_on = on_line_over f.scale b.right w n j is.x (at f.value (p + j)) is.on here.value_is;
      right_on = on_line_over f.scale b.right w n j is.x (at f.right (p + j)) is.on here.right_is;
    }

next_or_end : (j n : ℕ) → j < n → (suc j < n) ⊎ (suc j ≡ n)
next_or_end j n h = grind arith

segment_of_piece : (f : FunctionData) (p n : ℕ) (b : Break) (w : Frac) (points : List Point) →
    IsPiece b w n points →
    ((j : ℕ) → j < n → IsPointAt f (p + j) (get_or points j (point_at b))) →
    IsRatio w (at f.left (p + n)) (pos f.scale) →
    IsSegment f p n b.right w
segment_of_piece f p n b w points piece stands end =
    record { right_on = rights_on; left_on = lefts_on; value_on = values_on }
  where
    inner : (j : ℕ) → suc j < n → AreOnLine f p n (suc j) b.right w
    inner j below =
        even_on_line f p n (suc j) b w (get_or points (suc j) (point_at b))
        (piece_even b w n points j (point_at b) piece below)
        (stands (suc j) below)

    rights_on : (j : ℕ) → j < n → IsOnLine f.scale b.right w n j (at f.right (p + j))
    rights_on zero below =
        let first : get_or points 0 (point_at b) ≡ point_at b =
        ap (λ ps. get_or ps 0 (point_at b)) piece.points_are in
        let here = subst (IsPointAt f (p + 0)) first (stands 0 below) in
        on_line_over f.scale b.right w n 0 b.right (at f.right (p + 0))
        (line_first b.right w n) here.right_is
    rights_on (suc j) below = (inner j below).right_on

    values_on : (j : ℕ) → 0 < j → j < n → IsOnLine f.scale b.right w n j (at f.value (p + j))
    values_on zero some below = absurd (omega arith)
    values_on (suc j) some below = (inner j below).value_on

    at_end : (j : ℕ) → suc j ≡ n → IsOnLine f.scale b.right w n (suc j) (at f.left (p + suc j))
    at_end j e =
        subst (λ k. IsOnLine f.scale b.right w n k (at f.left (p + k))) (sym e)
        (on_line_over f.scale b.right w n n w (at f.left (p + n)) (line_last b.right w n) end)

    lefts_on : (j : ℕ) → j < n → IsOnLine f.scale b.right w n (j + 1) (at f.left (p + j + 1))
    lefts_on j below =
        let next : suc j ≡ j + 1 = omega arith in
        let place : p + suc j ≡ p + j + 1 = omega arith in
        subst₂ (λ k i. IsOnLine f.scale b.right w n k (at f.left i)) next place
        (⊎_elim (λ more. (inner j more).left_on) (at_end j) (next_or_end j n below))

-- ---- the pieces of the function

-- the points from a breakpoint on that has another behind it
record HasPiece (q : ℕ) (w : Frac) (b c : Break) (back : List Break) (points : List Point) :
    Type 0 where
  place : ℕ
  steps : ℕ
  own : List Point
  rest : List Point
  place_is : IsRatio b.x (pos place) (pos q)
  next_is : IsRatio c.x (pos (place + steps)) (pos q)
  piece : IsPiece b c.left steps own
  laid : AreLaid q w (c ∷ back) rest
  points_are : points ≡ own ++ rest

first_piece : (q : ℕ) (w : Frac) (b c : Break) (back : List Break) (points : List Point) →
    AreLaid q w (b ∷ c ∷ back) points →
    HasPiece q w b c back points
first_piece q w b c back points (onward d e more p n ps rest is next piece laid) = record {
  place = p;
  steps = n;
  own = ps;
  rest = rest;
  place_is = is;
  next_is = next;
  piece = piece;
  laid = laid;
  points_are = refl;
}

-- the points from the last breakpoint on
record HasLastPiece (q : ℕ) (w : Frac) (b : Break) (points : List Point) : Type 0 where
  place : ℕ
  steps : ℕ
  place_is : IsRatio b.x (pos place) (pos q)
  sum : place + steps ≡ q
  piece : IsPiece b w steps points

last_piece : (q : ℕ) (w : Frac) (b : Break) (points : List Point) → AreLaid q w (b ∷ []) points →
    HasLastPiece q w b points
last_piece q w b points (last c p n ps is sum piece) =
    record { place = p; steps = n; place_is = is; sum = sum; piece = piece }

-- between neighbouring breakpoints
segment_between_breaks : (f : FunctionData) (points : List Point) (w : Frac) (b c : Break)
    (back : List Break) (p n : ℕ) →
    StandInOrder f points → HasTail f.order w (b ∷ c ∷ back) points →
    IsRatio b.x (pos p) (pos f.order) →
    IsRatio c.x (pos (p + n)) (pos f.order) → IsSegment f p n b.right c.left
segment_between_breaks f points w b c back p n order tail b_is c_is =
    segment_of_piece f p n b c.left two.own piece stands end
  where
    two : HasPiece f.order w b c back tail.rest
    two = first_piece f.order w b c back tail.rest tail.laid

    count : length tail.before ≡ p
    count = before_count f points tail.before tail.rest b p order tail.split
        (laid_head f.order w b (c ∷ back) tail.rest tail.laid) b_is

    steps_are : two.steps ≡ n
    steps_are =
        let a = one_place b.x f.order two.place p two.place_is b_is in
        let e = one_place c.x f.order (two.place + two.steps) (p + n) two.next_is c_is in
        omega arith

    piece : IsPiece b c.left n two.own
    piece = subst (λ k. IsPiece b c.left k two.own) steps_are two.piece

    stands : (j : ℕ) → j < n → IsPointAt f (p + j) (get_or two.own j (point_at b))
    stands j below =
        let own_count = piece_length b c.left n two.own piece in
        let whole = ap length two.points_are in
        let parts = length-append two.own two.rest in
        let inside : j < length two.own = omega arith in
        let same : get_or tail.rest j (point_at b) ≡ get_or two.own j (point_at b) =
        ap (λ ps. get_or ps j (point_at b)) two.points_are
        ∙ get_or_append_left two.own two.rest (point_at b) j inside in
        subst (IsPointAt f (p + j)) same
        (stand_from f points tail.before tail.rest p j (point_at b) order tail.split count
        (omega arith))

    end : IsRatio c.left (at f.left (p + n)) (pos f.scale)
    end =
        let own_count = piece_length b c.left n two.own piece in
        let parts = length-append tail.before two.own in
        let split : points ≡ (tail.before ++ two.own) ++ two.rest =
        tail.split ∙ ap (λ ps. tail.before ++ ps) two.points_are
        ∙ sym (append_assoc tail.before two.own two.rest) in
        (head_stands f points (tail.before ++ two.own) two.rest c (p + n) order split
        (laid_head f.order w c back two.rest two.laid) (omega (arith, count))).left_is

-- behind the last breakpoint
segment_behind_last : (f : FunctionData) (points : List Point) (first : Break) (more : List Break)
    (b : Break) (p n : ℕ) →
    IsWithinBounds f → StandInOrder f points → AreLaid f.order first.left (first ∷ more) points →
    HasTail f.order first.left (b ∷ []) points → IsRatio b.x (pos p) (pos f.order) →
    p + n ≡ f.order →
    IsSegment f p n b.right first.left
segment_behind_last f points first more b p n within order laid tail is sum =
    segment_of_piece f p n b first.left tail.rest piece stands end
  where
    own : HasLastPiece f.order first.left b tail.rest
    own = last_piece f.order first.left b tail.rest tail.laid

    count : length tail.before ≡ p
    count = before_count f points tail.before tail.rest b p order tail.split
        (laid_head f.order first.left b [] tail.rest tail.laid) is

    piece : IsPiece b first.left n tail.rest
    piece =
        let a = one_place b.x f.order own.place p own.place_is is in
        let e = own.sum in
        subst (λ k. IsPiece b first.left k tail.rest) (let g : own.steps ≡ n = omega arith in
        g) own.piece

    stands : (j : ℕ) → j < n → IsPointAt f (p + j) (get_or tail.rest j (point_at b))
    stands j below =
        let long = piece_length b first.left n tail.rest piece in
        stand_from f points tail.before tail.rest p j (point_at b) order tail.split count
        (omega arith)

    end : IsRatio first.left (at f.left (p + n)) (pos f.scale)
    end =
        let start = head_stands f points [] points first 0 order refl
        (laid_head f.order first.left first more points laid) refl in
        let round : at f.left 0 ≡ at f.left (p + n) =
        sym (at_plus_order f.left 0 f.order within.left_length)
        ∙ ap (at f.left) (let g : 0 + f.order ≡ p + n = omega arith in g) in
        subst (λ z. IsRatio first.left z (pos f.scale)) round start.left_is

-- ---- the theorem

at_one_break : (f : FunctionData) (points : List Point) (w : Frac) (b : Break) (back : List Break) →
    StandInOrder f points →
    HasTail f.order w (b ∷ back) points →
    (p : ℕ) × (p < f.order) × IsRatio b.x (pos p) (pos f.order) × IsPointAt f p (point_at b)
at_one_break f points w b back order tail =
    let head = laid_head f.order w b back tail.rest tail.laid in
    let count = before_count f points tail.before tail.rest b head.place order tail.split head
    head.place_is in
    let some = ap length head.points_are in
    let all = head.count in (
      head.place,
      omega arith,
      head.place_is,
      head_stands f points tail.before tail.rest b head.place
          order tail.split head count,
    )

-- the function that the points of the grid give has the breakpoints
pub has_breaks : (q k : ℕ) (breaks : List Break) (points : List Point) (f : FunctionData) →
    AreGridPoints q breaks points →
    IsGivenBy q k (lefts points) (values points) (rights points) f → HasBreaks f breaks
has_breaks q k breaks points f grid given =
    record { at_breaks = at_breaks; between = between_breaks; last = behind_last }
  where
    order : StandInOrder f points
    order = stand_in_order q k points f given

    laid : AreLaid f.order grid.first.left breaks points
    laid = subst (λ n. AreLaid n grid.first.left breaks points) (sym given.order) grid.laid

    at_breaks : (front : List Break) (b : Break) (back : List Break) → breaks ≡ front ++ b ∷ back →
        (p : ℕ) × (p < f.order) × IsRatio b.x (pos p) (pos f.order) × IsPointAt f p (point_at b)
    at_breaks front b back e =
        at_one_break f points grid.first.left b back order
        (tail_laid f.order grid.first.left front b back laid e)

    between_breaks : (front : List Break) (b c : Break) (back : List Break) (p n : ℕ) →
        breaks ≡ front ++ b ∷ c ∷ back →
        IsRatio b.x (pos p) (pos f.order) → IsRatio c.x (pos (p + n)) (pos f.order) →
        IsAffineBetween f p n b.right c.left
    between_breaks front b c back p n e b_is c_is =
        affine_on_segment f p n b.right c.left
        (segment_between_breaks f points grid.first.left b c back p n order
        (tail_laid f.order grid.first.left front b (c ∷ back) laid e) b_is c_is)

    behind_last : (front : List Break) (b c : Break) (back : List Break) (p n : ℕ) →
        breaks ≡ front ++ b ∷ [] →
        breaks ≡ c ∷ back → IsRatio b.x (pos p) (pos f.order) → p + n ≡ f.order →
        IsAffineBetween f p n b.right c.left
    behind_last front b c back p n e start is sum =
        let tail = tail_laid f.order grid.first.left front b [] laid e in
        let from_first = subst (λ bs. AreLaid f.order grid.first.left bs points) grid.breaks_are
        laid in
        let same : grid.first ≡ c = ap (λ bs. get_or bs 0 c) (sym grid.breaks_are ∙ start) in
        subst (λ d. IsAffineBetween f p n b.right d.left) same
        (affine_on_segment f p n b.right grid.first.left
        (segment_behind_last f points grid.first grid.more b p n given.within order from_first tail
        is sum))
