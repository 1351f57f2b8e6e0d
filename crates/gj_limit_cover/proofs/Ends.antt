-- Where no line comes next, the numbers are those of the components.
use Rattle.std.proofs.Common.{ℕ, ◌%◌, ◌<◌, subst, inl, inr}
use Rattle.gj_shape.specs.declared.faces.FaceKind.{FaceKind}
use Rattle.gj_cover.proofs.Ends.{HasEnded, none_uncovered, same_component}
use Rattle.gj_cover.proofs.Linked.{joined_rests as rests}
use Rattle.gj_cover.proofs.LineLists.{no_line, component_number}
use Rattle.gj_limit_cover.specs.CoverOf.{AreComponents}
use Rattle.gj_limit_cover.specs.LimitCover.{AreJoined, IsNextLine, AreCoverLines}
use Rattle.gj_limit_cover.specs.Linking.{limit_linking}
use Rattle.gj_limit_cover.specs.Progress.{IsProgress, IsComplete, progress_data}
use Rattle.gj_limit_cover.specs.declared.progress.Progress.{Progress}
use Rattle.gj_limit_cover.proofs.Linked.{limit_linked}
use Rattle.gj_limit_cover.proofs.NextLines.{joins_same}

-- both intervals as indices below q
pub joined_rests : (q : ℕ) (T : FaceKind → ℕ → ℕ → ℕ → Type 0) (i j : ℕ) → AreJoined q T i j →
    AreJoined q T (i % q) (j % q)
joined_rests q T = rests (limit_linking q T) (limit_linked q T)

pub ended : (q : ℕ) (T : FaceKind → ℕ → ℕ → ℕ → Type 0) (p : Progress) → IsProgress q T p →
    IsComplete q T p.lines.items → HasEnded (limit_linking q T) p.component.items
ended q T p h end = record {
  none_joins = λ i j at. end.none_joins i j
      ((joins_same q T p.lines.items p.component.items h.numbers i j).1 at);
  none_direct = λ i below none direct. end.none_open i (record {
    within = below;
    no_line = no_line p.lines.items p.component.items i h.numbers none;
    covered = direct;
  });
}

pub components : (q : ℕ) (T : FaceKind → ℕ → ℕ → ℕ → Type 0) (p : Progress) → IsProgress q T p →
    IsComplete q T p.lines.items →
    AreComponents q T p.lines.items p.component.items
components q T p h end =
    let J = limit_linking q T in
    record {
      length = h.component_length;
      numbers = λ i n below. (
        h.numbers.shown i n,
        component_number p.lines.items p.component.items n i h.numbers,
      );
      uncovered = none_uncovered J (limit_linked q T) (IsNextLine q T) (progress_data p) h
          (ended q T p h end);
      same = same_component J (limit_linked q T) (IsNextLine q T) (progress_data p) h
          (ended q T p h end);
      below = λ i n e. subst (λ m. n < m) h.count (h.classes.below i n e);
    }

pub cover_lines : (q : ℕ) (T : FaceKind → ℕ → ℕ → ℕ → Type 0) (p : Progress) → IsProgress q T p →
    IsComplete q T p.lines.items →
    AreCoverLines q T p.lines.items
cover_lines q T p h end = record {
  in_turn = h.lines.each;
  complete = λ l next. elim next [
    | inl k ↦ end.none_joins l.interval k.interval.holds.0 k.interval.holds.1
    | inr k ↦ end.none_open l.interval k.interval.holds
  ];
}
