-- Points that are kept as three lists of fractions.
use Rattle.std.proofs.Common.{◌≡◌, ℕ, List, [], ◌∷◌, ◌++◌, length, refl, sym, ap, subst, ◌∙◌, arith}
use Rattle.std.proofs.lemmas.List.{length_push}
use Rattle.gj_frac.specs.declared.Frac.{Frac}
use Rattle.gj_shape.specs.Given.{in_order, HaveLength}
use Rattle.gj_shape.specs.Denominators.{AreWithinBoundsOver, ExtendsBy, IsRefusedBehind}
use Rattle.gj_shape.specs.Points.{lefts, values, rights, fractions_of, all_fractions, IsPointFault, point_fault}
use Rattle.gj_shape.specs.KeptPoints.{points_of, AreKept}
use Rattle.gj_shape.specs.declared.points.Point.{Point}
use Rattle.gj_shape.specs.declared.faults.FractionFault.{FractionFault}
use Rattle.gj_shape.specs.declared.faults.FractionFault.TheVariants.{Large, Fine}
use Rattle.gj_shape.proofs.InOrder.{by_threes, in_order-append}
use Rattle.gj_shape.proofs.LeastDenominator.{least_of_none}

-- the fractions of the points are those of three lists in their order
pub fractions_in_order : (points : List Point) →
    in_order (lefts points) (values points) (rights points) ≡ all_fractions points
fractions_in_order [] = refl
fractions_in_order (p ∷ points) =
    ap (λ xs. p.left ∷ p.value ∷ p.right ∷ xs) (fractions_in_order points)

-- the lists of the points of three lists
pub record HaveLists (points : List Point) (ls vs rs : List Frac) : Type 0 where
  pub left_are : lefts points ≡ ls
  pub value_are : values points ≡ vs
  pub right_are : rights points ≡ rs

pub have_lists : (ls vs rs : List Frac) → length vs ≡ length ls → length rs ≡ length ls →
    HaveLists (points_of ls vs rs) ls vs rs
have_lists =
    by_threes (λ ls vs rs. HaveLists (points_of ls vs rs) ls vs rs)
    (record { left_are = refl; value_are = refl; right_are = refl }) (λ l v r ls vs rs h.
    record {
      left_are = ap (λ xs. l ∷ xs) h.left_are;
      value_are = ap (λ xs. v ∷ xs) h.value_are;
      right_are = ap (λ xs. r ∷ xs) h.right_are;
    })

pub kept_lists : (ls vs rs : List Frac) (scale : ℕ) → AreKept ls vs rs scale →
    HaveLists (points_of ls vs rs) ls vs rs
kept_lists ls vs rs scale kept = have_lists ls vs rs kept.value_length kept.right_length

-- all their fractions
pub kept_fractions : (ls vs rs : List Frac) (scale : ℕ) → AreKept ls vs rs scale →
    AreWithinBoundsOver (all_fractions (points_of ls vs rs)) scale
kept_fractions ls vs rs scale kept =
    let points = points_of ls vs rs in
    let have = kept_lists ls vs rs scale kept in
    let same : in_order ls vs rs ≡ all_fractions points =
    ap (λ xs. in_order xs vs rs) (sym have.left_are)
    ∙ ap (λ xs. in_order (lefts points) xs rs) (sym have.value_are)
    ∙ ap (λ xs. in_order (lefts points) (values points) xs) (sym have.right_are)
    ∙ fractions_in_order points in
    subst (λ xs. AreWithinBoundsOver xs scale) same kept.least

-- so many points are lists of that length
pub kept_length : (ls vs rs : List Frac) (scale q : ℕ) → AreKept ls vs rs scale →
    length (points_of ls vs rs) ≡ q →
    HaveLength ls vs rs q
kept_length ls vs rs scale q kept count =
    let long : length (points_of ls vs rs) ≡ length ls =
    by_threes (λ ls vs rs. length (points_of ls vs rs) ≡ length ls) refl
    (λ l v r ls vs rs h. omega (arith, h)) ls vs rs
    kept.value_length kept.right_length in
    (sym long ∙ count, kept.value_length ∙ sym long ∙ count, kept.right_length ∙ sym long ∙ count)

-- ---- one more point

pub points_more : (ls vs rs : List Frac) (p : Point) → length vs ≡ length ls →
    length rs ≡ length ls →
    points_of (ls ++ p.left ∷ []) (vs ++ p.value ∷ []) (rs ++ p.right ∷ [])
    ≡ points_of ls vs rs ++ p ∷ []
points_more ls vs rs p =
    by_threes (λ ls vs rs.
    points_of (ls ++ p.left ∷ []) (vs ++ p.value ∷ []) (rs ++ p.right ∷ [])
    ≡ points_of ls vs rs ++ p ∷ []) refl
    (λ l v r ls vs rs h. ap (λ ps. record { left = l; value = v; right = r } ∷ ps) h) ls vs rs

pub kept_more : (ls vs rs : List Frac) (p : Point) (scale m : ℕ) → AreKept ls vs rs scale →
    ExtendsBy scale (fractions_of p) m →
    AreKept (ls ++ p.left ∷ []) (vs ++ p.value ∷ []) (rs ++ p.right ∷ []) m
kept_more ls vs rs p scale m kept more =
    let l = length_push ls p.left in
    let v = length_push vs p.value in
    let r = length_push rs p.right in
    let e = kept.value_length in
    let f = kept.right_length in
    record {
      value_length = omega arith;
      right_length = omega arith;
      least = subst (λ xs. AreWithinBoundsOver xs m)
          (sym (in_order-append ls vs rs e f (p.left ∷ []) (p.value ∷ []) (p.right ∷ [])))
          (more (in_order ls vs rs) kept.least);
    }

pub kept_none : AreKept [] [] [] 1
kept_none = record { value_length = refl; right_length = refl; least = least_of_none }

-- a point with a fraction that is refused cannot follow
pub point_refused : (ls vs rs : List Frac) (p : Point) (scale : ℕ) (e : FractionFault) →
    AreKept ls vs rs scale →
    IsRefusedBehind scale (fractions_of p) e → IsPointFault (points_of ls vs rs) p (point_fault e)
point_refused ls vs rs p scale Large kept refused =
    refused (all_fractions (points_of ls vs rs)) (kept_fractions ls vs rs scale kept)
point_refused ls vs rs p scale Fine kept refused =
    refused (all_fractions (points_of ls vs rs)) (kept_fractions ls vs rs scale kept)
