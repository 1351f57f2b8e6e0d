-- Point lines, printed one after another.
use Rattle.std.proofs.Common.{◌≡◌, ℕ, ◌+◌, ◌<◌, ◌≤◌, ℤ, pos, List, [], ◌∷◌, ◌++◌, length, take, flat_map, codes, true, false, Result, Ok, Err, OnOk, refl, sym, ap, subst, ◌∙◌, arith}
use Rattle.std.specs.List.{AllZip}
use Rattle.std.proofs.lemmas.List.{append_assoc, append-nil, flat_map_more, map-append, take_more, take_all}
use Rattle.std.proofs.lemmas.Slice.Zip.{all_zipped_more}
use Rattle.gj_frac.specs.declared.Frac.{Frac}
use Rattle.gj_frac.specs.Fraction.{IsRatio}
use Rattle.gj_lex.specs.NumberText.{fraction_text}
use Rattle.gj_shape.specs.FunctionData.{FunctionData, IsWithinBounds, at}
use Rattle.gj_shape.proofs.AtLemmas.{at_below}
use Rattle.gj_shape.specs.Points.{lefts, values, rights, ArePointsOf, IsPointAt}
use Rattle.gj_forms.specs.LineForms.{bytes_of, line_of}
use Rattle.gj_forms.specs.LineForms.Field.{word, fraction}
use Rattle.gj_shape.specs.Breaks.{point_at}
use Rattle.gj_shape.specs.declared.breaks.Break.{Break}
use Rattle.gj_function_lines.specs.BreakLines.{break_form, break_line}
use Rattle.gj_function_lines.specs.FunctionLines.{order_line, place_line, number_fields, has_no_jump, numbers_of, point_line, lines_of, AreFunctionLines}
use Rattle.gj_function_lines.proofs.ClearLines.{bytes_before, no_jump_where_same, number_of_even, numbers_of_jump}
use Rattle.gj_shape.specs.declared.points.Point.{Point}
use Rattle.gj_shape.proofs.OverScale.{IsOver}

-- ---- the lines of the points

-- fractions that are the first n of these whole numbers over the scale, with the next
abbrev AreFirst : ℕ → List ℤ → ℕ → List Frac → Type 0
AreFirst scale ns n xs = AllZip (IsOver scale) xs (take n ns)

first_next : (scale : ℕ) (ns : List ℤ) (n : ℕ) (x : Frac) (xs : List Frac) → n < length ns →
    AreFirst scale ns n xs →
    IsOver scale x (at ns n) → AreFirst scale ns (n + 1) (xs ++ x ∷ [])
first_next scale ns n x xs some are is =
    let next : take (n + 1) ns ≡ take n ns ++ at ns n ∷ [] =
    take_more ns n (pos 0) some ∙ ap (λ z. take n ns ++ z ∷ []) (sym (at_below ns n some)) in
    subst (AllZip (IsOver scale) (xs ++ x ∷ [])) (sym next)
    (all_zipped_more (IsOver scale) xs (take n ns) x (at ns n) are is)

first_all : (scale : ℕ) (ns : List ℤ) (n : ℕ) (xs : List Frac) → length ns ≤ n →
    AreFirst scale ns n xs →
    AllZip (IsOver scale) xs ns
first_all scale ns n xs most are = subst (AllZip (IsOver scale) xs) (take_all n ns most) are

-- the numbers of a point, and the line feed that is still to come
abbrev pub AreNumbersPushed : Point → List ℕ → List ℕ → Type 0
AreNumbersPushed p before now = now ++ 10 ∷ [] ≡ before ++ bytes_of (number_fields (numbers_of p))

-- one fraction is pushed for a point without a jump
pub even_is_pushed : {E : Type 0} (p : Point) (r : Result (Unit {0}) E) (before now : List ℕ) →
    has_no_jump p ≡ true →
    OnOk r (now ≡ before ++ fraction_text p.value) → OnOk r (AreNumbersPushed p before now)
even_is_pushed p (Err e) before now even h = tt
even_is_pushed p (Ok u) before now even h =
    ap (λ t. t ++ 10 ∷ []) h ∙ append_assoc before (fraction_text p.value) (10 ∷ [])
    ∙ ap (λ n. before ++ bytes_of (number_fields n)) (sym (number_of_even p even))

-- and three for one with a jump
pub jump_is_pushed : {E : Type 0} (p : Point) (r : Result (Unit {0}) E) (before now : List ℕ) →
    has_no_jump p ≡ false →
    OnOk r (now ≡ before
    ++ (fraction_text p.left ++ codes " " ++ fraction_text p.value ++ codes " "
    ++ fraction_text p.right)) →
    OnOk r (AreNumbersPushed p before now)
jump_is_pushed p (Err e) before now jump h = tt
jump_is_pushed p (Ok u) before now jump h =
    ap (λ t. t ++ 10 ∷ []) h ∙ joined (fraction_text p.left) (fraction_text p.value)
    (fraction_text p.right)
    ∙ ap (λ n. before ++ bytes_of (number_fields n)) (sym (numbers_of_jump p jump))
  where
    joined : (l v r : List ℕ) → (before ++ (l ++ codes " " ++ v ++ codes " " ++ r)) ++ 10 ∷ []
        ≡ before ++ (l ++ 32 ∷ (v ++ 32 ∷ (r ++ 10 ∷ [])))
    joined l v r = simp append_assoc

-- a point whose limits are the value
pub even_pushed : {E : Type 0} (f : FunctionData) (i : ℕ) (x : Frac) (r : Result (Unit {0}) E)
    (before now : List ℕ) →
    (at f.left i ≡ at f.value i) × (at f.right i ≡ at f.value i) → IsOver f.scale x (at f.value i) →
    OnOk r (now ≡ before ++ fraction_text x) →
    OnOk r ((p : Point) × IsPointAt f i p × AreNumbersPushed p before now)
even_pushed f i x (Err e) before now same is h = tt
even_pushed {E} f i x (Ok u) before now (left, right) is h =
    let p : Point = record { left = x; value = x; right = x } in (
      p,
      record {
        left_is = subst (IsOver f.scale x) (sym left) is;
        value_is = is;
        right_is = subst (IsOver f.scale x) (sym right) is;
      },
      even_is_pushed {E = E} p (Ok u) before now (no_jump_where_same p refl refl) h,
    )

-- the numbers of the point at i/order
pub point_pushed : {E : Type 0} (f : FunctionData) (i : ℕ) (p : Point) (r : Result (Unit {0}) E)
    (before now : List ℕ) → IsPointAt f i p →
    OnOk r (AreNumbersPushed p before now) →
    OnOk r ((q : Point) × IsPointAt f i q × AreNumbersPushed q before now)
point_pushed f i p (Err e) before now is h = tt
point_pushed f i p (Ok u) before now is h = (p, is, h)

-- a point line is pushed in three parts
pub line_pushed : (f : FunctionData) (i : ℕ) (before first second third : List ℕ) →
    first ≡ before ++ codes "point " →
    (p : Point) × IsPointAt f i p × AreNumbersPushed p first second → third ≡ second ++ 10 ∷ [] →
    (p : Point) × IsPointAt f i p × (third ≡ before ++ point_line p)
line_pushed f i before first second third first_is (p, is, second_is) third_is =
    let numbers = bytes_of (number_fields (numbers_of p)) in (
      p,
      is,
      third_is ∙ second_is ∙ ap (λ t. t ++ numbers) first_is
          ∙ append_assoc before (codes "point ") numbers
          ∙ ap (λ t. before ++ t) (sym (bytes_before (word (codes "point")) (numbers_of p))),
    )

-- so is the line of a breakpoint
pub break_pushed : (b : Break) (before first second third : List ℕ) →
    first ≡ before ++ codes "point " →
    second ≡ first ++ fraction_text b.x ++ codes " " → AreNumbersPushed (point_at b) second third →
    third ++ 10 ∷ [] ≡ before ++ break_line b
break_pushed b before first second third first_is second_is h =
    let n = numbers_of (point_at b) in
    let numbers = bytes_of (number_fields n) in
    let x = fraction_text b.x in
    h ∙ ap (λ t. t ++ numbers) (second_is ∙ ap (λ t. t ++ x ++ codes " ") first_is)
    ∙ joined x numbers
    ∙ ap (λ t. before ++ (codes "point " ++ t)) (sym (bytes_before (fraction b.x) n))
  where
    joined : (x numbers : List ℕ) → (before ++ codes "point " ++ x ++ codes " ") ++ numbers
        ≡ before ++ (codes "point " ++ (x ++ 32 ∷ numbers))
    joined x numbers = simp append_assoc

-- and that of one without a jump in two
pub even_break_pushed : {E : Type 0} (b : Break) (r : Result (Unit {0}) E)
    (before first now : List ℕ) → has_no_jump (point_at b) ≡ true →
    first ≡ before ++ codes "point" →
    OnOk r (now ≡ first ++ 32 ∷ fraction_text b.x ++ 32 ∷ fraction_text b.value ++ 10 ∷ []) →
    OnOk r (now ≡ before ++ break_line b)
even_break_pushed b (Err e) before first now even first_is h = tt
even_break_pushed b (Ok u) before first now even first_is h =
    let x = fraction_text b.x in
    let v = fraction_text b.value in
    h ∙ ap (λ t. t ++ 32 ∷ x ++ 32 ∷ v ++ 10 ∷ []) first_is ∙ joined x v
    ∙ ap (λ n. before ++ line_of break_form (b.x, n)) (sym (number_of_even (point_at b) even))
  where
    joined : (x v : List ℕ) → (before ++ codes "point") ++ 32 ∷ x ++ 32 ∷ v ++ 10 ∷ []
        ≡ before ++ (codes "point" ++ 32 ∷ (x ++ 32 ∷ (v ++ 10 ∷ [])))
    joined x v = simp append_assoc

-- the text before has gained the lines of the first n points of the function
pub record ArePushed (f : FunctionData) (n : ℕ) (before now : List ℕ) : Type 0 where
  points : List Point
  left_are : AllZip (IsOver f.scale) (lefts points) (take n f.left)
  value_are : AllZip (IsOver f.scale) (values points) (take n f.value)
  right_are : AllZip (IsOver f.scale) (rights points) (take n f.right)
  spelled : now ≡ before ++ flat_map point_line points

pub none_pushed : (f : FunctionData) (before : List ℕ) → ArePushed f 0 before before
none_pushed f before = record {
  points = [];
  left_are = tt;
  value_are = tt;
  right_are = tt;
  spelled = sym (append-nil before);
}

pub one_pushed : (f : FunctionData) (n : ℕ) (p : Point) (before now next : List ℕ) →
    IsWithinBounds f → n < f.order →
    ArePushed f n before now → IsPointAt f n p → next ≡ now ++ point_line p →
    ArePushed f (n + 1) before next
one_pushed f n p before now next within some h is next_is = record {
  points = h.points ++ p ∷ [];
  left_are = subst (AreFirst f.scale f.left (n + 1))
      (sym (map-append (λ q. q.left) h.points (p ∷ [])))
      (first_next f.scale f.left n p.left (lefts h.points)
      (omega (arith, within.left_length)) h.left_are is.left_is);
  value_are = subst (AreFirst f.scale f.value (n + 1))
      (sym (map-append (λ q. q.value) h.points (p ∷ [])))
      (first_next f.scale f.value n p.value (values h.points)
      (omega (arith, within.value_length)) h.value_are is.value_is);
  right_are = subst (AreFirst f.scale f.right (n + 1))
      (sym (map-append (λ q. q.right) h.points (p ∷ [])))
      (first_next f.scale f.right n p.right (rights h.points)
      (omega (arith, within.right_length)) h.right_are is.right_is);
  spelled = next_is ∙ ap (λ t. t ++ point_line p) h.spelled
      ∙ flat_map_more point_line before h.points p;
}

pub all_pushed : (f : FunctionData) (n : ℕ) (before now : List ℕ) → IsWithinBounds f → f.order ≤ n →
    ArePushed f n before now → (points : List Point) × ArePointsOf f points
    × (now ≡ before ++ flat_map point_line points)
all_pushed f n before now within most h = (
  h.points,
  record {
    left_are = first_all f.scale f.left n (lefts h.points)
        (omega (arith, within.left_length)) h.left_are;
    value_are = first_all f.scale f.value n (values h.points)
        (omega (arith, within.value_length)) h.value_are;
    right_are = first_all f.scale f.right n (rights h.points)
        (omega (arith, within.right_length)) h.right_are;
  },
  h.spelled,
)

-- the lines of a function: the head is pushed, and then the point lines
pub lines_pushed : {E : Type 0} (f : FunctionData) (order : ℕ) (place : Frac)
    (r : Result (Unit {0}) E)
    (before head now : List ℕ) →
    order ≡ f.order → IsRatio place (pos f.place) (pos f.order) →
    head ≡ before ++ (order_line order ++ place_line place) →
    OnOk r ((points : List Point) × ArePointsOf f points
    × (now ≡ head ++ flat_map point_line points)) →
    OnOk r ((lines : List ℕ) × AreFunctionLines f lines × (now ≡ before ++ lines))
lines_pushed f order place (Err e) before head now order_is place_is head_is h = tt
lines_pushed f order place (Ok u) before head now order_is place_is head_is (points, are, now_is) = (
  lines_of f.order place points,
  record { place = place; points = points; place_is = place_is; points_are = are; spelled = refl },
  now_is ∙ ap (λ t. t ++ flat_map point_line points)
      (head_is ∙ ap (λ q. before ++ (order_line q ++ place_line place)) order_is)
      ∙ append_assoc before (order_line f.order ++ place_line place) (flat_map point_line points),
)
