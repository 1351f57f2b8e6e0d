-- The commands `faces`, `fill` and `demo` have one answer.
use Rattle.std.proofs.Common.{◌≡◌, ◌≢◌, inl, inr, ℕ, ◌+◌, ◌*◌, ◌<◌, Bool, true, false, cond, ◌&&◌, ℤ, pos, neg_ℤ, int_lt, ◌+ℤ◌, ◌*ℤ◌, unsigned_abs, List, [], ◌∷◌, ◌++◌, All, length, codes, map, refl, sym, ap, ap₂, subst, ◌∙◌, arith}
use Rattle.std.specs.List.{AllZip}
use Rattle.std.proofs.lemmas.Int.{ints}
use Rattle.std.proofs.lemmas.List.Elements.{All-head, All-tail}
use Rattle.gj_lemmas.proofs.Integers.{one_mul_z, mul_some_z}
use Rattle.gj_lemmas.proofs.Lists.{All-one, All-two, All-joined}
use Rattle.gj_lemmas.proofs.Ring.{by_ring, ring}
use Rattle.gj_frac.specs.declared.Frac.{Frac}
use Rattle.gj_frac.specs.Fraction.{IsRatio}
use Rattle.gj_frac.proofs.SameValues.{same_from_is}
use Rattle.gj_lex.specs.NumberText.{fraction_text}
use Rattle.gj_function_lines.specs.FunctionLines.{line}
use Rattle.gj_shape.specs.Additive.{IsTight}
use Rattle.gj_shape.specs.Cover.{components_in}
use Rattle.gj_shape.specs.FirstViolation.{IsLeastFrom}
use Rattle.gj_shape.specs.FunctionData.{FunctionData, IsWithinBounds, at}
use Rattle.gj_shape.specs.declared.extremality.Halves.{Halves}
use Rattle.gj_shape.specs.TwoSlopes.{rise}
use Rattle.gj_shape.proofs.AlikeFunctions.{alike_are_same, continuous_alike}
use Rattle.gj_function_text.specs.FunctionText.{canonical_breaks_text, even_break}
use Rattle.gj_cover.proofs.Classes.{one_least}
use Rattle.gj_extreme.specs.Decision.{IsDecided}
use Rattle.gj_extreme.proofs.OneCover.{one_cover}
use Rattle.gj_extreme.proofs.OneDecision.{one_decision}
use Rattle.gj_proof.specs.declared.claim.Claim.TheVariants.{NotExtreme}
use Rattle.gj_fill.specs.FillIn.{AreGreatestSteps, filled}
use Rattle.gj_fill.specs.FillPoints.{GraphPoint, value_point, crossing_point, points_from, fill_points, IsPairOf, AreFillPoints}
use Rattle.gj_fill.specs.FirstPair.{IsSuperadditivePair}
use Rattle.gj_fill.proofs.FillIns.{at_place}
use Rattle.gj_demo.specs.Demo.{IsDemo, demo_number}
use Rattle.gj_demo.specs.Summary.{IsSummary, HasSummary, lines_with}
use Rattle.gj_top.specs.declared.reply.End.TheVariants as end
use Rattle.gj_top.specs.Demo.{demo}
use Rattle.gj_verdict_text.specs.FacesText.{IsFacesText}
use Rattle.gj_limit_faces_text.proofs.OneFacesText.{one_limit_faces_text, one_picked, listing}
use Rattle.gj_top.specs.Faces.{IsJumpsFacesText}
use Rattle.gj_top.specs.Fill.{IsFillText, NamesFirstPair, IsFillReply}
use Rattle.gj_top.proofs.Determined.{AnswersOne, IsDetermined, one_done}
use Rattle.gj_transform.proofs.OneTransform.{over_both}

-- ---- faces

pub one_faces_text : (f : FunctionData) (x y : List ℕ) → IsFacesText f x → IsFacesText f y → x ≡ y
one_faces_text f x y h k =
    let listed = one_picked _ h.maximal k.maximal in
    let lines = one_cover f.order (IsTight f) h.lines k.lines h.cover k.cover in
    let intervals = one_picked _ h.uncovered k.uncovered in
    h.spelled ∙ (λ i. listing f.order (listed i) (lines i) (intervals i)) ∙ sym k.spelled

pub one_jumps_faces : (f : FunctionData) (x y : List ℕ) → IsJumpsFacesText f x →
    IsJumpsFacesText f y → x ≡ y
one_jumps_faces f x y (inl h) (inl k) = one_faces_text f x y h.1 k.1
one_jumps_faces f x y (inl h) (inr k) = absurd (k.0 h.0)
one_jumps_faces f x y (inr h) (inl k) = absurd (h.0 k.0)
one_jumps_faces f x y (inr h) (inr k) = one_limit_faces_text f x y h.1 k.1

-- ---- fill-ins

one_rise : (v : ℕ → ℤ) (s t u w : ℤ) → AreGreatestSteps v s t → AreGreatestSteps v u w → s ≡ u
one_rise v s t u w h k =
    let first = k.rises h.rise.0 in
    let second = h.rises k.rise.0 in
    let a = h.rise.1 in
    let b = k.rise.1 in
    omega (arith, ints)

one_fall : (v : ℕ → ℤ) (s t u w : ℤ) → AreGreatestSteps v s t → AreGreatestSteps v u w → t ≡ w
one_fall v s t u w h k =
    let first = k.falls h.fall.0 in
    let second = h.falls k.fall.0 in
    let a = h.fall.1 in
    let b = k.fall.1 in
    omega (arith, ints)

-- a point with bottoms that are not 0 is one pair of fractions
record IsDefined (p : GraphPoint) : Type 0 where
  across : unsigned_abs p.x.bottom ≢ 0
  up : unsigned_abs p.y.bottom ≢ 0

one_pair_of : (p : GraphPoint) (b c : Frac × Frac) → IsDefined p → IsPairOf p b → IsPairOf p c →
    b ≡ c
one_pair_of p b c some h k =
    let x : b.0 ≡ c.0 = same_from_is b.0 c.0 p.x.top p.x.bottom some.across h.x k.x in
    let value : b.1 ≡ c.1 = same_from_is b.1 c.1 p.y.top p.y.bottom some.up h.value k.value in
    λ i. (x i, value i)

one_list_of_pairs : (ps : List GraphPoint) (bs cs : List (Frac × Frac)) → All IsDefined ps →
    AllZip IsPairOf ps bs → AllZip IsPairOf ps cs →
    bs ≡ cs
one_list_of_pairs [] [] [] some h k = refl
one_list_of_pairs [] [] (c ∷ cs) some h k = absurd k
one_list_of_pairs [] (b ∷ bs) cs some h k = absurd h
one_list_of_pairs (p ∷ ps) [] cs some h k = absurd h
one_list_of_pairs (p ∷ ps) (b ∷ bs) [] some h k = absurd k
one_list_of_pairs (p ∷ ps) (b ∷ bs) (c ∷ cs) some h k =
    ap₂ (λ z zs. z ∷ zs) (one_pair_of p b c (All-head IsDefined p ps some) h.0 k.0)
    (one_list_of_pairs ps bs cs (All-tail IsDefined p ps some) h.1 k.1)

value_defined : (f : FunctionData) (a : ℕ) → IsWithinBounds f → IsDefined (value_point f a)
value_defined f a l =
    let low = l.order_low in
    let scale = l.scale_low in
    record { across = omega (arith, ints); up = omega (arith, ints) }

crossing_defined : (f : FunctionData) (s t : ℤ) (a : ℕ) → IsWithinBounds f →
    unsigned_abs (s +ℤ t) ≢ 0 → IsDefined (crossing_point f s t a)
crossing_defined f s t a l some =
    let d = value_defined f a l in
    record {
      across = mul_some_z (pos f.order) (s +ℤ t) d.across some;
      up =
          mul_some_z (pos f.scale) (s +ℤ t) d.up some;
    }

points_here : (f : FunctionData) (s t : ℤ) (a : ℕ) → IsWithinBounds f →
    All IsDefined (points_from f s t a)
points_here f s t a l = by_tests (int_lt (neg_ℤ t) (rise f a)) (int_lt (rise f a) s) refl refl
  where
    by_tests : (x y : Bool) → int_lt (neg_ℤ t) (rise f a) ≡ x → int_lt (rise f a) s ≡ y →
        All IsDefined (cond (x && y) (value_point f a ∷ crossing_point f s t a ∷ [])
        (value_point f a ∷ []))
    by_tests true true e g =
        All-two IsDefined (value_point f a) (crossing_point f s t a) (value_defined f a l)
        (crossing_defined f s t a l (let some : unsigned_abs (s +ℤ t) ≢ 0 = omega (arith, ints) in
        some))
    by_tests true false e g = All-one IsDefined (value_point f a) (value_defined f a l)
    by_tests false y e g = All-one IsDefined (value_point f a) (value_defined f a l)

points_defined : (f : FunctionData) (s t : ℤ) → IsWithinBounds f → All IsDefined (fill_points f s t)
points_defined f s t l =
    All-joined IsDefined (points_from f s t) 0 f.order (λ a below. points_here f s t a l)

one_list_of_fill_points : (f : FunctionData) (bs cs : List (Frac × Frac)) → IsWithinBounds f →
    AreFillPoints f bs → AreFillPoints f cs → bs ≡ cs
one_list_of_fill_points f bs cs l h k =
    let s : k.rise ≡ h.rise =
    one_rise (at f.value) k.rise k.fall h.rise h.fall k.greatest h.greatest in
    let t : k.fall ≡ h.fall =
    one_fall (at f.value) k.rise k.fall h.rise h.fall k.greatest h.greatest in
    let points : fill_points f k.rise k.fall ≡ fill_points f h.rise h.fall =
    ap₂ (fill_points f) s t in
    one_list_of_pairs (fill_points f h.rise h.fall) bs cs
    (points_defined f h.rise h.fall l) h.are_points
    (subst (λ (ps : List GraphPoint). AllZip IsPairOf ps cs) points k.are_points)

one_fill_text : (f : FunctionData) (x y : List ℕ) → IsWithinBounds f → IsFillText f x →
    IsFillText f y → x ≡ y
one_fill_text f x y l h k =
    let low = l.order_low in
    let place : h.place ≡ k.place = same_from_is h.place k.place (pos f.place) (pos f.order)
    (omega (arith, ints)) h.place_is k.place_is in
    h.spelled ∙ ap₂ (λ x pairs. canonical_breaks_text x (map even_break pairs)) place
    (one_list_of_fill_points f h.points k.points l h.points_are k.points_are) ∙ sym k.spelled

one_pair_text : (f : FunctionData) (x y : List ℕ) → IsWithinBounds f → NamesFirstPair f x →
    NamesFirstPair f y → x ≡ y
one_pair_text f x y l h k =
    let low = l.order_low in
    let a : k.a ≡ h.a = one_least _ k.a h.a k.first.first h.first.first in
    let b : k.b ≡ h.b = one_least (IsSuperadditivePair f h.a) k.b h.b
    (subst (λ (n : ℕ). IsLeastFrom 0 (IsSuperadditivePair f n) k.b) a k.first.second)
    h.first.second in
    let first : h.x ≡ k.x =
    same_from_is h.x k.x (pos h.a) (pos f.order) (omega (arith, ints)) h.x_is
    (subst (λ (n : ℕ). IsRatio k.x (pos n) (pos f.order)) a k.x_is) in
    let second : h.y ≡ k.y =
    same_from_is h.y k.y (pos h.b) (pos f.order) (omega (arith, ints)) h.y_is
    (subst (λ (n : ℕ). IsRatio k.y (pos n) (pos f.order)) b k.y_is) in
    h.spelled ∙ ap₂ (λ u w. line
    (codes "not subadditive " ++ fraction_text u ++ codes " " ++ fraction_text w)) first second
    ∙ sym k.spelled

-- a function with a fill-in is subadditive at the multiples of 1/order
at_one : (v : ℕ → ℤ) (s t : ℤ) (a : ℕ) → AreGreatestSteps v s t → filled v s t 1 a ≡ v a
at_one v s t a h =
    let e : a * 1 ≡ a = omega arith in
    subst (λ (n : ℕ). filled v s t 1 n ≡ v a) e (at_place v s t 1 a h (omega arith)
    ∙ one_mul_z (v a))

filled_has_no_pair : (f : FunctionData) (x y : List ℕ) → IsFillText f x → NamesFirstPair f y → ⊥
filled_has_no_pair f x y h k =
    let greatest = h.points_are.greatest in
    let s = h.points_are.rise in
    let t = h.points_are.fall in
    let above = k.first.second.holds in
    let below = h.fill_in.subadditive 1 (omega arith) k.a k.b in
    let whole = at_one (at f.value) s t (k.a + k.b) greatest in
    let first = at_one (at f.value) s t k.a greatest in
    let second = at_one (at f.value) s t k.b greatest in
    absurd (omega (arith, ints))

pub one_fill_reply : AnswersOne IsFillReply
one_fill_reply f l end.Done end.Done x y h k = (refl, one_fill_text f x y l h k)
one_fill_reply f l end.Done end.NotSubadditive x y h k = absurd (filled_has_no_pair f x y h k)
one_fill_reply f l end.NotSubadditive end.Done x y h k = absurd (filled_has_no_pair f y x k h)
one_fill_reply f l end.NotSubadditive end.NotSubadditive x y h k = (refl, one_pair_text f x y l h k)
one_fill_reply f l end.Done d x y h k = absurd k
one_fill_reply f l end.NotSubadditive d x y h k = absurd k
one_fill_reply f l e d x y h k = absurd h

-- ---- the demonstration

turned : (s n : ℕ) → pos (s * n) ≡ pos n *ℤ pos s
turned s n = by_ring (pos s ∷ pos n ∷ []) (search ring depth 20) refl

one_demo : (n : ℕ) (f g : FunctionData) → IsWithinBounds f → IsWithinBounds g → IsDemo n f →
    IsDemo n g → f ≡ g
one_demo n f g in_f in_g h k =
    let order : f.order ≡ g.order = h.order ∙ sym k.order in
    alike_are_same f g in_f in_g
    (continuous_alike f g order (h.place ∙ sym k.place) (h.left, h.right) (k.left, k.right)
    (λ i below.
    let number = demo_number (2 * n + 1) i in
    let other : i < g.order = omega (arith, order) in
    over_both (at f.value i) (at g.value i) (pos number) (2 * (2 * n + 1)) f.scale g.scale
    (omega arith)
    (h.value_is i below ∙ turned f.scale number) (k.value_is i other ∙ turned g.scale number)))

one_summary : (n : ℕ) (f : FunctionData) (a b : Halves) (x y : List ℕ) → a ≡ b → IsSummary n f a x →
    IsSummary n f b y → x ≡ y
one_summary n f a b x y same h k =
    let triangles = ap length (one_picked _ h.are_triangles k.are_triangles) in
    let intervals = ap length (one_picked _ h.are_intervals k.are_intervals) in
    let first = h.others in
    let second = k.others in
    let uncovered : h.uncovered ≡ k.uncovered = omega arith in
    let components = ap components_in
    (one_cover f.order (IsTight f) h.lines k.lines h.are_lines k.are_lines) in
    h.spelled ∙ (λ i. lines_with n f.order (triangles i) (intervals i) (uncovered i) (components i)
    (same i)) ∙ sym k.spelled

same_halves : (f : FunctionData) (a b : Halves) → NotExtreme f a ≡ NotExtreme f b → a ≡ b
same_halves f a b e = cc

one_demo_text : (n : ℕ) (x y : List ℕ) → HasSummary n x → HasSummary n y → x ≡ y
one_demo_text n x y h k =
    let f = h.function in
    let same : k.function ≡ f =
    one_demo n k.function f k.within h.within k.summary.demo h.summary.demo in
    let verdict = subst (λ (g : FunctionData). IsDecided g (NotExtreme g k.halves)) same
    k.verdict in
    let halves = same_halves f h.halves k.halves
    (one_decision f (NotExtreme f h.halves) (NotExtreme f k.halves) h.within h.verdict
    verdict) in
    one_summary n f h.halves k.halves x y halves h.summary
    (subst (λ (g : FunctionData). IsSummary n g k.halves y) same k.summary)

pub demo_is_determined : (n : ℕ) → IsDetermined (demo n)
demo_is_determined n = record {
  spells = λ input a b h k. h ∙ sym k;
  refuses = λ input x y h k. absurd h;
  replies = λ input m spelled. one_done HasSummary m (one_demo_text m);
}
