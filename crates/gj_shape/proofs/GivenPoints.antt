-- The points of a function: they give it, it gives them, and a point among them has no fault.
use Rattle.std.proofs.Common.{◌≡◌, ℕ, ◌<◌, List, [], ◌∷◌, ◌++◌, length, ℤ, pos, refl, sym, subst, ◌∙◌, append_assoc, arith}
use Rattle.std.specs.List.{AllZip}
use Rattle.std.proofs.lemmas.List.{length-map}
use Rattle.std.proofs.lemmas.List.Concat.{flat_map-append}
use Rattle.std.proofs.lemmas.Slice.Zip.{AllZip-long}
use Rattle.gj_frac.specs.declared.Frac.{Frac}
use Rattle.gj_frac.proofs.SameValues.{same_from_is}
use Rattle.gj_lemmas.proofs.FirstThatFails.{IsPrefixClosed, first_failing_denies, one_first_failing}
use Rattle.gj_shape.specs.FunctionData.{FunctionData, IsWithinBounds}
use Rattle.gj_shape.specs.Given.{IsSmall, AreWithinBounds, IsGivenBy}
use Rattle.gj_shape.specs.Denominators.{IsFractionRefusal}
use Rattle.gj_shape.specs.Points.{lefts, values, rights, fractions_of, all_fractions, ArePointsOf, IsPointFault}
use Rattle.gj_shape.specs.declared.faults.FractionFault.{FractionFault}
use Rattle.gj_shape.specs.declared.faults.FractionFault.TheVariants as refusal
use Rattle.gj_shape.specs.declared.points.Point.{Point}
use Rattle.gj_shape.specs.declared.points.PointFault.{PointFault}
use Rattle.gj_shape.specs.declared.points.PointFault.TheVariants.{Large, Fine, Memory}
use Rattle.gj_shape.proofs.GivenLists.{within_given}
use Rattle.gj_shape.proofs.InOrder.{all_in_order, all_from_in_order}
use Rattle.gj_shape.proofs.LeastDenominator.{Divides, within_bounds_closed}
use Rattle.gj_shape.proofs.OverScale.{IsOver, all_over, all_divide, all_numerators}
use Rattle.gj_shape.proofs.PointLists.{fractions_in_order}

-- ---- the points give the function, and the function the points

as_many_values : (points : List Point) → length (values points) ≡ length (lefts points)
as_many_values points = length-map points (λ p. p.value) ∙ sym (length-map points (λ p. p.left))

as_many_rights : (points : List Point) → length (rights points) ≡ length (lefts points)
as_many_rights points = length-map points (λ p. p.right) ∙ sym (length-map points (λ p. p.left))

-- a function is given by its points
pub given_by_points : (points : List Point) (f : FunctionData) → IsWithinBounds f →
    ArePointsOf f points →
    IsGivenBy f.order f.place (lefts points) (values points) (rights points) f
given_by_points points f within are = record {
  order = refl;
  place = refl;
  common = all_in_order (Divides f.scale) (lefts points) (values points) (rights points)
      (as_many_values points)
      (as_many_rights points) (all_divide f.scale (lefts points) f.left are.left_are)
      (all_divide f.scale (values points) f.value are.value_are)
      (all_divide f.scale (rights points) f.right are.right_are);
  left_is = all_numerators f.scale (lefts points) f.left are.left_are;
  value_is = all_numerators f.scale (values points) f.value are.value_are;
  right_is = all_numerators f.scale (rights points) f.right are.right_are;
  within = within;
}

-- points that give a function are its points
pub points_given : (q k : ℕ) (points : List Point) (f : FunctionData) →
    IsGivenBy q k (lefts points) (values points) (rights points) f → ArePointsOf f points
points_given q k points f given =
    let d = all_from_in_order (Divides f.scale) (lefts points) (values points) (rights points)
    (as_many_values points)
    (as_many_rights points) given.common in
    record {
      left_are = subst (AllZip (IsOver f.scale) (lefts points)) (sym given.left_is)
          (all_over f.scale (lefts points) d.0);
      value_are = subst (AllZip (IsOver f.scale) (values points)) (sym given.value_is)
          (all_over f.scale (values points) d.1);
      right_are = subst (AllZip (IsOver f.scale) (rights points)) (sym given.right_is)
          (all_over f.scale (rights points) d.2);
    }

-- the points of a function are within bounds
pub good_points : (points : List Point) (f : FunctionData) → IsWithinBounds f →
    ArePointsOf f points →
    AreWithinBounds (all_fractions points)
good_points points f within are =
    subst AreWithinBounds (fractions_in_order points)
    (within_given f.order f.place (lefts points) (values points) (rights points) f
    (given_by_points points f within are))

-- there are as many as the order
pub count_of_points : (points : List Point) (f : FunctionData) → IsWithinBounds f →
    ArePointsOf f points →
    length points ≡ f.order
count_of_points points f within are =
    sym (length-map points (λ p. p.left))
    ∙ sym (AllZip-long (IsOver f.scale) (lefts points) f.left are.left_are)
    ∙ within.left_length

-- ---- one list of points for a function, and one function for them

-- points with the same fractions are one
pub same_points : (p q : Point) → p.left ≡ q.left → p.value ≡ q.value → p.right ≡ q.right → p ≡ q
same_points p q e f g = λ i. record { left = e i; value = f i; right = g i }

same_along : (scale : ℕ) (ps qs : List Point) (ls vs rs : List ℤ) → 0 < scale →
    AllZip (IsOver scale) (lefts ps) ls →
    AllZip (IsOver scale) (values ps) vs → AllZip (IsOver scale) (rights ps) rs →
    AllZip (IsOver scale) (lefts qs) ls →
    AllZip (IsOver scale) (values qs) vs → AllZip (IsOver scale) (rights qs) rs → ps ≡ qs
same_along scale [] [] ls vs rs some a b c d e f = refl
same_along scale [] (q ∷ qs) [] vs rs some a b c d e f = absurd d
same_along scale [] (q ∷ qs) (l ∷ ls) vs rs some a b c d e f = absurd a
same_along scale (p ∷ ps) [] [] vs rs some a b c d e f = absurd a
same_along scale (p ∷ ps) [] (l ∷ ls) vs rs some a b c d e f = absurd d
same_along scale (p ∷ ps) (q ∷ qs) [] vs rs some a b c d e f = absurd a
same_along scale (p ∷ ps) (q ∷ qs) (l ∷ ls) [] rs some a b c d e f = absurd b
same_along scale (p ∷ ps) (q ∷ qs) (l ∷ ls) (v ∷ vs) [] some a b c d e f = absurd c
same_along scale (p ∷ ps) (q ∷ qs) (l ∷ ls) (v ∷ vs) (r ∷ rs) some a b c d e f =
    let first = same_points p q
    (same_from_is p.left q.left l (pos scale) (λ z. omega arith) a.0 d.0)
    (same_from_is p.value q.value v (pos scale) (λ z. omega arith) b.0 e.0)
    (same_from_is p.right q.right r (pos scale) (λ z. omega arith) c.0 f.0) in
    let others = same_along scale ps qs ls vs rs some a.1 b.1 c.1 d.1 e.1 f.1 in
    λ i. first i ∷ others i

-- a function has one list of points
pub one_list_of_points : (f : FunctionData) (ps qs : List Point) → IsWithinBounds f →
    ArePointsOf f ps →
    ArePointsOf f qs → ps ≡ qs
one_list_of_points f ps qs within p q =
    same_along f.scale ps qs f.left f.value f.right within.scale_low p.left_are p.value_are
    p.right_are q.left_are
    q.value_are q.right_are

-- ---- the faults of a point

-- the fault is want of memory
abbrev pub IsMemory : PointFault → Type 0
IsMemory Large = ⊥
IsMemory Fine = ⊥
IsMemory (Memory e) = Unit {0}

closed_behind : (xs : List Frac) → IsPrefixClosed (λ ys. AreWithinBounds (xs ++ ys))
closed_behind xs ys zs h =
    within_bounds_closed (xs ++ ys) zs (subst AreWithinBounds (sym (append_assoc xs ys zs)) h)

-- fractions that are within bounds behind others are not refused
not_refused : (xs ys : List Frac) (e : FractionFault) → AreWithinBounds (xs ++ ys) →
    IsFractionRefusal xs ys e → ⊥
not_refused xs ys refusal.Large within (passed, x, first, large) =
    first_failing_denies (λ zs. AreWithinBounds (xs ++ zs))
    (closed_behind xs) ys passed x first within
not_refused xs ys refusal.Fine within (passed, x, first, small) =
    first_failing_denies (λ zs. AreWithinBounds (xs ++ zs))
    (closed_behind xs) ys passed x first within

-- a point among points that are within bounds has no fault
pub no_fault_follows : (points : List Point) (p : Point) (more : List Point) (e : PointFault) →
    AreWithinBounds (all_fractions (points ++ p ∷ more)) → IsPointFault points p e → IsMemory e
no_fault_follows points p more e within fault = by_fault e fault
  where
    split : all_fractions (points ++ p ∷ more) ≡ all_fractions points ++ fractions_of p
        ++ all_fractions more
    split =
        flat_map-append fractions_of points (p ∷ more)
        ∙ sym (append_assoc (all_fractions points) (fractions_of p) (all_fractions more))

    up_to : AreWithinBounds (all_fractions points ++ fractions_of p)
    up_to =
        within_bounds_closed (all_fractions points ++ fractions_of p) (all_fractions more)
        (subst AreWithinBounds split within)

    by_fault : (d : PointFault) → IsPointFault points p d → IsMemory d
    by_fault Large refused =
        not_refused (all_fractions points) (fractions_of p) refusal.Large up_to refused
    by_fault Fine refused =
        not_refused (all_fractions points) (fractions_of p) refusal.Fine up_to refused
    by_fault (Memory m) refused = tt

-- a fraction that is too large and one that leaves no common denominator are not both the first
-- that fails
pub not_large_and_fine : (points : List Point) (p : Point) → IsPointFault points p Large →
    IsPointFault points p Fine → ⊥
not_large_and_fine points p (a, x, at_x, large) (b, y, at_y, small) =
    let xs = all_fractions points in
    let one = one_first_failing (λ zs. AreWithinBounds (xs ++ zs)) (closed_behind xs)
    (fractions_of p) a b x y at_x at_y in
    large (subst IsSmall (sym one.1) small)
