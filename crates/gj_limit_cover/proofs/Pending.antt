-- The next interval that opens a component.
use Rattle.std.proofs.Common.{◌≡◌, ℕ, ◌<◌, ◌↔◌, ◌&&◌, List, true, false, IsTrue, Option, refl, sym, ◌∙◌, arith}
use Rattle.gj_shape.specs.declared.faces.FaceKind.{FaceKind}
use Rattle.std.proofs.lemmas.Bool.{and_parts, and_from}
use Rattle.gj_loops.specs.IndexSets.{has, IsFirst}
use Rattle.gj_loops.specs.declared.index_set.IndexSet.{IndexSet}
use Rattle.gj_shape.specs.Cover.{IsFirstFace}
use Rattle.gj_limit_cover.specs.LimitCover.{JoinsLines, IsOpen, IsOpeningLine, Covers, IsDirectlyCovered}
use Rattle.gj_shape.specs.declared.extremality.CoverLine.{CoverLine}
use Rattle.gj_shape.specs.declared.faces.Face.{Face}
use Rattle.gj_cover.specs.Progress.{AreNumbered, AreFree}
use Rattle.gj_cover.proofs.LineLists.{no_number, no_line}

open_in : (q : ℕ) (T : FaceKind → ℕ → ℕ → ℕ → Type 0) (lines : List CoverLine) (c : List (Option ℕ))
    (free direct : IndexSet) (i : ℕ) →
    AreNumbered lines c → AreFree q c free →
    ((i : ℕ) → IsTrue (has direct i) ↔ ((i < q) × IsDirectlyCovered q T i)) → IsOpen q T lines i →
    (has free i && has direct i) ≡ true
open_in q T lines c free direct i h f told open' =
    and_from (has free i) (has direct i) ((f.each i).1 (
      open'.within,
      no_number lines c i h
          open'.no_line,
    ))
    ((told i).1 (open'.within, open'.covered))

-- the least interval that is free and directly covered
pub next_opening : (q : ℕ) (T : FaceKind → ℕ → ℕ → ℕ →
    Type 0) (lines : List CoverLine) (c : List (Option ℕ)) (free direct set : IndexSet) (x : ℕ)
    (face : Face) →
    AreNumbered lines c → AreFree q c free → ((i j : ℕ) → JoinsLines q T lines i j → ⊥) →
    ((i : ℕ) → IsTrue (has direct i) ↔ ((i < q) × IsDirectlyCovered q T i)) →
    ((i : ℕ) → has set i ≡ (has free i && has direct i)) → IsFirst set 0 x →
    IsFirstFace q (λ kind a b. Covers q T kind a b x) face →
    IsOpeningLine q T lines (record { interval = x; from = x; face = face })
next_opening q T lines c free direct set x face h f none told is first face_first =
    let both = and_parts (has free x) (has direct x) (sym (is x) ∙ first.found) in
    let at = (f.each x).0 both.0 in
    record {
      none_joins = none;
      interval = record {
        from = omega arith;
        holds = record {
          within = at.0;
          no_line = no_line lines c x h at.1;
          covered = ((told x).0 both.1).1;
        };
        least = λ i low below open'.
            let not = first.before i (omega arith) below in
            let yes' = is i ∙ open_in q T lines c free direct i h f told open' in
            cc (not, yes');
      };
      from = refl;
      face = face_first;
    }

pub none_open : (q : ℕ) (T : FaceKind → ℕ → ℕ → ℕ →
    Type 0) (lines : List CoverLine) (c : List (Option ℕ)) (free direct set : IndexSet) →
    AreNumbered lines c → AreFree q c free →
    ((i : ℕ) → IsTrue (has direct i) ↔ ((i < q) × IsDirectlyCovered q T i)) →
    ((i : ℕ) → has set i ≡ (has free i && has direct i)) → ((i : ℕ) → has set i ≡ false) →
    (i : ℕ) → IsOpen q T lines i → ⊥
none_open q T lines c free direct set h f told is empty i open' =
    let not = empty i in
    let yes' = is i ∙ open_in q T lines c free direct i h f told open' in
    cc (not, yes')
