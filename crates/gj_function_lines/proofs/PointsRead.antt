-- Point lines, read one after another.
use Rattle.std.proofs.Common.{◌≡◌, inl, inr, ℕ, zero, suc, ◌+◌, ◌-◌, ◌<◌, List, [], ◌∷◌, ◌++◌, All, length, refl, sym, ap, subst, arith}
use Rattle.std.proofs.lemmas.List.{length_push}
use Rattle.gj_lex.specs.declared.spelling.Spelling.{Spelling}
use Rattle.gj_forms.specs.declared.fault.PartFault.{PartFault}
use Rattle.gj_forms.specs.Parts.{line_part, IsFaultOf}
use Rattle.gj_forms.proofs.PartLaws.{line_refused, fault_in_first, fault_in_next}
use Rattle.gj_shape.specs.Given.{IsSmall, HasCommonDenominator, AreWithinBounds}
use Rattle.gj_shape.specs.Points.{all_fractions, IsPointFault}
use Rattle.gj_shape.specs.declared.points.Point.{Point}
use Rattle.gj_shape.specs.declared.points.PointFault.{PointFault}
use Rattle.gj_shape.specs.declared.points.PointFault.TheVariants.{Large, Fine, Memory}
use Rattle.gj_function_lines.specs.FunctionGrammar.{point_rule, points_part}
use Rattle.gj_function_lines.specs.Reading.{IsPointLine, refusal_of}

-- ---- one point

pub point_read : (s : Spelling) (text start rest : List ℕ) (points new : List Point) (p : Point) →
    IsPointLine s text start rest p →
    new ≡ points ++ p ∷ [] → All IsSmall (all_fractions new) →
    HasCommonDenominator (all_fractions new) →
    (q : Point) × (new ≡ points ++ q ∷ []) × (line_part s (point_rule s points)).Reads text q rest
point_read s text start rest points new p (words, line, spelled) new_is small common =
    let within : AreWithinBounds (all_fractions new) = record { small = small; common = common } in (
      p,
      new_is,
      (
        start,
        words,
        line,
        (p, spelled, (refl, subst (λ ps. AreWithinBounds (all_fractions ps)) new_is within)),
      ),
    )

-- a point that cannot follow
pub point_refused : (s : Spelling) (text start rest : List ℕ) (points : List Point) (p : Point)
    (e : PointFault) →
    IsPointLine s text start rest p → IsPointFault points p e →
    IsFaultOf (line_part s (point_rule s points)) text (refusal_of e (length start))
point_refused s text start rest points p Large (words, line, spelled) fault =
    line_refused s (point_rule s points) text start words rest _ _ line
    (inr (p, spelled, inl (refl, fault))) refl
point_refused s text start rest points p Fine (words, line, spelled) fault =
    line_refused s (point_rule s points) text start words rest _ _ line
    (inr (p, spelled, inr (refl, fault))) refl
point_refused s text start rest points p (Memory e) line fault = tt

-- ---- one after another

-- what so many points behind these are in the rest of a text, all points are in the text
pub record GoesOn (s : Spelling) (text : List ℕ) (count left : ℕ) (points : List Point)
    (rest : List ℕ) : Type 0 where
  pub reads : (all : List Point) (end : List ℕ) → (points_part s left points).Reads rest all end →
      (points_part s count []).Reads text all end
  pub faults : (e : PartFault) → IsFaultOf (points_part s left points) rest e →
      IsFaultOf (points_part s count []) text e

pub goes_on_at_first : (s : Spelling) (text : List ℕ) (count left : ℕ) → left ≡ count →
    GoesOn s text count left [] text
goes_on_at_first s text count left all =
    subst (λ n. GoesOn s text count n [] text) (sym all)
    (record { reads = λ points end h. h; faults = λ e h. h })

one_less : (s : Spelling) (text : List ℕ) (count i : ℕ) (points : List Point) (rest : List ℕ) →
    i < count →
    GoesOn s text count (count - i) points rest →
    GoesOn s text count (suc (count - (i + 1))) points rest
one_less s text count i points rest some h =
    let less : count - i ≡ suc (count - (i + 1)) = omega arith in
    subst (λ n. GoesOn s text count n points rest) less h

-- behind one more point
pub goes_on : (s : Spelling) (text : List ℕ) (count i : ℕ) (points new : List Point)
    (rest next : List ℕ) → i < count →
    GoesOn s text count (count - i) points rest →
    (p : Point) × (new ≡ points ++ p ∷ []) × (line_part s (point_rule s points)).Reads rest p next →
    GoesOn s text count (count - (i + 1)) new next
goes_on s text count i points new rest next some h (p, new_is, line) =
    let before = one_less s text count i points rest some h in
    let after : GoesOn s text count (count - (i + 1)) (points ++ p ∷ []) next = record {
      reads = λ all end k. before.reads all end (p, next, line, k);
      faults = λ e k.
          before.faults e
          (fault_in_next (line_part s (point_rule s points))
          (λ q. points_part s (count - (i + 1)) (points ++ q ∷ [])) rest p
          next e line k);
    } in
    subst (λ ps. GoesOn s text count (count - (i + 1)) ps next) (sym new_is) after

-- if the next point is at fault
pub faults_on : (s : Spelling) (text : List ℕ) (count i : ℕ) (points : List Point) (rest : List ℕ)
    (e : PartFault) →
    i < count → GoesOn s text count (count - i) points rest →
    IsFaultOf (line_part s (point_rule s points)) rest e →
    IsFaultOf (points_part s count []) text e
faults_on s text count i points rest e some h fault =
    (one_less s text count i points rest some h).faults e
    (fault_in_first (line_part s (point_rule s points))
    (λ q. points_part s (count - (i + 1)) (points ++ q ∷ [])) rest e
    fault)

-- at the end
pub ends_here : (s : Spelling) (text : List ℕ) (count left : ℕ) (points : List Point)
    (rest : List ℕ) → left ≡ 0 →
    GoesOn s text count left points rest → (points_part s count []).Reads text points rest
ends_here s text count left points rest none h =
    (subst (λ n. GoesOn s text count n points rest) none h).reads points rest (refl, refl)

-- there are as many points as asked for
pub points_count : (s : Spelling) (n : ℕ) (points all : List Point) (text rest : List ℕ) →
    (points_part s n points).Reads text all rest → length all ≡ n + length points
points_count s zero points all text rest (is, ends) = let e = ap length is in omega arith
points_count s (suc n) points all text rest (p, next, line, more) =
    let h = points_count s n (points ++ p ∷ []) all next rest more in
    omega (arith, length_push points p)
