-- The text of the summary, printed line by line.
use Rattle.std.proofs.Common.{◌≡◌, ℕ, ◌-◌, List, ◌++◌, count_by, is_some, length, sym, ap, subst, ◌∙◌, arith}
use Rattle.std.proofs.lemmas.List.Sums.{count_by-le-length}
use Rattle.gj_shape.specs.Additive.{IsTight}
use Rattle.gj_shape.specs.FunctionData.{FunctionData, IsWithinBounds}
use Rattle.gj_shape.specs.declared.extremality.Halves.{Halves}
use Rattle.gj_shape.specs.declared.faces.Face.{Face}
use Rattle.gj_faces.specs.Triangles.{AreAdditiveTriangles}
use Rattle.gj_cover.specs.CoverOf.{IsCoverOf}
use Rattle.gj_cover.specs.declared.covered.Cover.{Cover}
use Rattle.gj_proof.specs.declared.claim.Claim.{Claim}
use Rattle.gj_proof.specs.declared.claim.Claim.TheVariants.{NotExtreme}
use Rattle.gj_extreme.specs.Decision.{IsDecided}
use Rattle.gj_demo.specs.Demo.{IsDemo}
use Rattle.gj_demo.specs.Summary.{HasSummary, lines_with}
use Rattle.gj_demo.proofs.Counts.{counted_intervals}

-- what is pushed line by line stands there in turn
pub nine_in_turn : (a b c d e f g h i : List ℕ)
    (first second third fourth fifth sixth seventh eighth whole : List ℕ) →
    first ≡ a → second ≡ first ++ b → third ≡ second ++ c → fourth ≡ third ++ d →
    fifth ≡ fourth ++ e → sixth ≡ fifth ++ f →
    seventh ≡ sixth ++ g → eighth ≡ seventh ++ h → whole ≡ eighth ++ i →
    whole ≡ a ++ b ++ c ++ d ++ e ++ f ++ g ++ h ++ i
nine_in_turn a b c d e f g h i first second third fourth fifth sixth seventh eighth whole p q r s t
    u v w x =
    x ∙ ap (λ z. z ++ i)
    (w ∙ ap (λ z. z ++ h) (v ∙ ap (λ z. z ++ g) (u ∙ ap (λ z. z ++ f) (t ∙ ap (λ z. z ++ e)
    (s ∙ ap (λ z. z ++ d) (r ∙ ap (λ z. z ++ c) (q ∙ ap (λ z. z ++ b) p)))))))

pub summary_of : (n : ℕ) (f : FunctionData) (claim : Claim) (h : Halves) (listed : List Face)
    (cover : Cover)
    (order triangles covered uncovered : ℕ) (text : List ℕ) → IsDemo n f → IsWithinBounds f →
    IsDecided f claim → claim ≡ NotExtreme f h →
    AreAdditiveTriangles f listed → IsCoverOf f.order (IsTight f) cover → order ≡ f.order →
    triangles ≡ length listed → covered ≡ count_by is_some cover.component →
    uncovered ≡ order - covered →
    text ≡ lines_with n order triangles covered uncovered cover.count h → HasSummary n text
summary_of n f claim h listed cover order triangles covered uncovered text demo bounds decided is
    are_triangles cover_is order_is
    triangles_are covered_are uncovered_are spelled =
    let (intervals, are_intervals, some) =
    counted_intervals f cover.lines cover.component cover_is.component in
    record {
      function = f;
      halves = h;
      within = bounds;
      verdict = subst (IsDecided f) is decided;
      summary = record {
        demo = demo;
        triangles = listed;
        are_triangles = are_triangles;
        intervals = intervals;
        are_intervals = are_intervals;
        uncovered = uncovered;
        others = let few = count_by-le-length is_some cover.component in
            let long = cover_is.component.length in omega arith;
        lines = cover.lines;
        are_lines = cover_is.lines;
        spelled = spelled
            ∙ ap (λ m. lines_with n m triangles covered uncovered cover.count h) order_is
            ∙ ap (λ m. lines_with n f.order m covered uncovered cover.count h) triangles_are
            ∙ ap (λ m. lines_with n f.order (length listed) m uncovered cover.count h)
            (covered_are ∙ sym some)
            ∙ ap (λ m. lines_with n f.order (length listed) (length intervals) uncovered m h)
            cover_is.count;
      };
    }
