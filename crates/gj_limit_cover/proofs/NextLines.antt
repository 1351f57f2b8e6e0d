-- The next cover line by the numbers of components.
use Rattle.std.proofs.Common.{◌↔◌, ◌≡◌, ◌≢◌, ℕ, ◌<◌, List, Option, Some, None, sym, ap, ◌∙◌, subst, inl, inr, arith}
use Rattle.std.specs.Option.{unwrap_or}
use Rattle.gj_shape.specs.declared.faces.FaceKind.{FaceKind}
use Rattle.gj_shape.specs.declared.extremality.CoverLine.{CoverLine}
use Rattle.gj_cover.specs.CoverOf.{number_at}
use Rattle.gj_cover.specs.Progress.{AreNumbered, JoinsNumbers}
use Rattle.gj_cover.proofs.LineLists.{line_number, number_line, no_number, no_line}
use Rattle.gj_cover.proofs.NextLines.{IsNextTo}
use Rattle.gj_limit_cover.specs.LimitCover.{JoinsLines, IsNextLine}
use Rattle.gj_limit_cover.specs.Linking.{limit_linking}

-- what joins by lines does so by numbers
pub joins_same : (q : ℕ) (T : FaceKind → ℕ → ℕ → ℕ → Type 0) (lines : List CoverLine)
    (c : List (Option ℕ)) → AreNumbered lines c → (i j : ℕ) →
    JoinsLines q T lines i j ↔ JoinsNumbers (limit_linking q T) c i j
joins_same q T lines c h i j = (
  λ k. record {
    first_within = k.first_within;
    second_within = k.second_within;
    free = no_number lines c i h k.no_line;
    number = line_number lines c j h k.line;
    joined = k.joined;
  },
  λ k. record {
    first_within = k.first_within;
    second_within = k.second_within;
    no_line = no_line lines c i h k.free;
    line = number_line lines c j k.number.0 h k.number.1;
    joined = k.joined;
  },
)

pub next_to : (q : ℕ) (T : FaceKind → ℕ → ℕ → ℕ →
    Type 0) (lines : List CoverLine) (c : List (Option ℕ)) (count : ℕ) (l : CoverLine) (m : ℕ) →
    AreNumbered lines c → m ≡ unwrap_or (number_at c l.from) count → IsNextLine q T lines l →
    IsNextTo (limit_linking q T) c count l m
next_to q T lines c count l m h e (inl k) =
    let at = (joins_same q T lines c h l.interval l.from).0 k.from.holds in
    let number = at.number.1 in
    let is : m ≡ at.number.0 = e ∙ ap (λ o. unwrap_or o count) number in
    let other : l.from ≢ l.interval = λ same.
    let free : number_at c l.from ≡ None = ap (number_at c) same
    ∙ at.free in absurd (cc (number, free)) in
    record {
      within = at.first_within;
      from_within = at.second_within;
      free = at.free;
      kind = inl (record { other = other; number = number ∙ ap Some (sym is); joined = at.joined });
    }
next_to q T lines c count l m h e (inr k) =
    let free = no_number lines c l.interval h k.interval.holds.no_line in
    record {
      within = k.interval.holds.within;
      from_within = subst (λ n. n < q) (sym k.from) k.interval.holds.within;
      free = free;
      kind = inr (record {
        same = k.from;
        number = e ∙ ap (λ o. unwrap_or o count) (ap (number_at c) k.from ∙ free);
        none = λ i j at. k.none_joins i j ((joins_same q T lines c h i j).1 at);
        direct = k.interval.holds.covered;
        least = λ i below none direct. k.interval.least i (omega arith) below (record {
          within = let in' : i < q = omega (arith, k.interval.holds.within) in in';
          no_line = no_line lines c i h none;
          covered = direct;
        });
      });
    }
