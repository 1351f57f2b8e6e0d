-- The cover lines of the decision meet the rules for cover lines.
use Rattle.std.proofs.Common.{◌≡◌, ℕ, List, inl, inr, subst}
use Rattle.gj_shape.specs.Cover.{AreCoverLines, IsNextLine, HasCoverLine}
use Rattle.gj_shape.specs.declared.extremality.CoverLine.{CoverLine}
use Rattle.gj_theory.specs.CoverRules.{MeetsCoverRule, MeetsCoverRules}

-- the next line behind others
next_meets_rule : (q : ℕ) (Tight : ℕ → ℕ → Type 0) (before : List CoverLine) (l : CoverLine) →
    IsNextLine q Tight before l → MeetsCoverRule q Tight before l
next_meets_rule q Tight before l (inl joining) =
    let first = joining.interval.holds.1 in
    let lines = joining.from.holds in
    let other = λ (e : l.from ≡ l.interval). first.no_line
    (subst (HasCoverLine before) e lines.line) in
    record {
      additive = joining.face.holds.additive;
      new = first.no_line;
      opening = λ e. absurd (other e);
      earlier = λ ne. lines.line;
      joining = λ ne. joining.face.holds;
    }
next_meets_rule q Tight before l (inr opening) = record {
  additive = opening.face.holds.additive;
  new = opening.interval.holds.no_line;
  opening = λ e. opening.face.holds;
  earlier = λ ne. absurd (ne opening.from);
  joining = λ ne. absurd (ne opening.from);
}

pub lines_meet_rules : (q : ℕ) (Tight : ℕ → ℕ → Type 0) (lines : List CoverLine) →
    AreCoverLines q Tight lines →
    MeetsCoverRules q Tight lines
lines_meet_rules q Tight lines h before l after place =
    next_meets_rule q Tight before l (h.in_turn before l after place)
