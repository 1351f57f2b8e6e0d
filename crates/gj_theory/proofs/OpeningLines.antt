-- No list of joined intervals leads from the interval of one opening line to that of another, so
-- joined intervals have one number.
use Rattle.std.proofs.Common.{◌≡◌, ℕ, ◌⊎◌, ◌%◌, ◌<◌, inl, inr, List, [], ◌∷◌, ◌++◌, refl, sym, ap, subst, ◌∙◌, append_assoc, arith}
use Rattle.std.proofs.Math.Nat.{mod-lt, mod-mod, mod-eq_of_lt}
use Rattle.gj_theory.proofs.LineComponents.{line_at}
use Rattle.gj_shape.specs.Cover.{AreCoverLines, HasComponent, HasCoverLine, IsNextLine, JoinsLines, LeadsTo, components_in}
use Rattle.gj_shape.specs.Cover.HasComponent.{opened, joined}
use Rattle.gj_shape.specs.Cover.LeadsTo.{here, onward}
use Rattle.gj_shape.specs.declared.extremality.CoverLine.{CoverLine}
use Rattle.gj_theory.specs.CoverRules.{MeetsCoverRules}
use Rattle.gj_theory.proofs.CoverLines.{lines_meet_rules}
use Rattle.gj_theory.proofs.CoverPaths.{joined_remainders, joined_turned, leads_onward, leads_through, leads_turned}
use Rattle.gj_theory.proofs.ComponentIntervals.{next_within}

-- if no interval without a line is joined to one with a line, lists of joined intervals lead from
-- intervals with a line to such alone
line_along : (q : ℕ) (Tight : ℕ → ℕ → Type 0) (lines : List CoverLine) → 0 < q →
    ((i j : ℕ) → JoinsLines q Tight lines i j → ⊥) → (j i : ℕ) → LeadsTo q Tight j i →
    HasCoverLine lines (i % q) →
    (HasCoverLine lines (j % q) → ⊥) → ⊥
line_along q Tight lines some none j _ (here i e) line out = out (subst (HasCoverLine lines) e line)
line_along q Tight lines some none j _ (onward i next both rest) line out =
    none (next % q) (i % q) (record {
      first_within = mod-lt next some;
      second_within = mod-lt i some;
      no_line = λ found. line_along q Tight lines some none j next rest found out;
      line = line;
      joined = joined_remainders q Tight next i (next % q) (i % q) (sym (mod-mod next q))
          (sym (mod-mod i q))
          (joined_turned q Tight i next both);
    })

opens_apart : (q : ℕ) (Tight : ℕ → ℕ → Type 0) (front : List CoverLine) (i : ℕ) (l : CoverLine) →
    l.from ≡ l.interval →
    i < q → HasCoverLine front i → IsNextLine q Tight front l → LeadsTo q Tight l.interval i → ⊥
opens_apart q Tight front i l same below line (inl joining) leads =
    joining.interval.holds.1.no_line (subst (HasCoverLine front) same joining.from.holds.line)
opens_apart q Tight front i l same below line (inr opening) leads =
    let open_line = opening.interval.holds in
    line_along q Tight front (omega arith) opening.none_joins l.interval i leads
    (subst (HasCoverLine front) (sym (mod-eq_of_lt below)) line)
    (λ found. open_line.no_line (subst (HasCoverLine front) (mod-eq_of_lt open_line.within) found))

pub openings_apart : (q : ℕ) (Tight : ℕ → ℕ → Type 0) (lines before : List CoverLine)
    (l : CoverLine)
    (middle : List CoverLine) (m : CoverLine) (after : List CoverLine) →
    AreCoverLines q Tight lines →
    lines ≡ before ++ l ∷ (middle ++ m ∷ after) → m.from ≡ m.interval →
    LeadsTo q Tight m.interval l.interval → ⊥
openings_apart q Tight lines before l middle m after h place same leads =
    let front = before ++ l ∷ middle in
    let later : lines ≡ front ++ m ∷ after = place
    ∙ sym (append_assoc before (l ∷ middle) (m ∷ after)) in
    opens_apart q Tight front l.interval m same
    (next_within q Tight before l (h.in_turn before l (middle ++ m ∷ after) place))
    (line_at (before ++ l ∷ middle) before l middle refl) (h.in_turn front m after later) leads

-- both are below the order
pub line_within : (q : ℕ) (Tight : ℕ → ℕ → Type 0) (lines before : List CoverLine) (l : CoverLine)
    (after : List CoverLine) →
    AreCoverLines q Tight lines → lines ≡ before ++ l ∷ after → l.interval < q
line_within q Tight lines before l after h place =
    next_within q Tight before l (h.in_turn before l after place)

-- ---- one number

-- two places in a list are one, or one of the two is behind the other
pub two_places : {X : Type 0} (xs before : List X) (x : X) (after before' : List X) (x' : X)
    (after' : List X) →
    xs ≡ before ++ x ∷ after → xs ≡ before' ++ x' ∷ after' →
    (before ≡ before') ⊎ (((middle : List X) × (after ≡ middle ++ x' ∷ after'))
    ⊎ ((middle : List X) × (after' ≡ middle ++ x ∷ after)))
two_places xs [] x after [] x' after' e g = inl refl
two_places xs [] x after (y ∷ before') x' after' e g = let tails : after ≡ before' ++ x' ∷ after' =
    cc in inr (inl (before', tails))
two_places xs (y ∷ before) x after [] x' after' e g = let tails : after' ≡ before ++ x ∷ after =
    cc in inr (inr (before, tails))
two_places xs (y ∷ before) x after (y' ∷ before') x' after' e g =
    let tails : before ++ x ∷ after ≡ before' ++ x' ∷ after' = cc in
    let heads : y ≡ y' = cc in
    elim (two_places (before ++ x ∷ after) before x after before' x' after' refl tails) [
      | inl same ↦ inl (ap (λ ys. y ∷ ys) same ∙ ap (λ z. z ∷ before') heads)
      | inr apart ↦ inr apart
    ]

-- the opening line of a component, from whose interval a list of joined intervals leads to this one
record IsOpenedBy (q : ℕ) (Tight : ℕ → ℕ → Type 0) (lines : List CoverLine) (number i : ℕ) :
    Type 0 where
  pub before : List CoverLine
  pub line : CoverLine
  pub after : List CoverLine
  pub place : lines ≡ before ++ line ∷ after
  pub opens : line.from ≡ line.interval
  pub counted : number ≡ components_in before
  pub leads : LeadsTo q Tight i line.interval

opened_by : (q : ℕ) (Tight : ℕ → ℕ → Type 0) (lines : List CoverLine) (number i : ℕ) →
    MeetsCoverRules q Tight lines →
    HasComponent lines number i → IsOpenedBy q Tight lines number i
opened_by q Tight lines number i rules (opened before l after place same counted) = record {
  before = before;
  line = l;
  after = after;
  place = place;
  opens = same;
  counted = counted;
  leads = here l.interval refl;
}
opened_by q Tight lines number i rules (joined before l after place other rest) =
    let first = opened_by q Tight lines number l.from rules rest in
    let face = (rules before l after place).joining other in record {
      before = first.before;
      line = first.line;
      after = first.after;
      place = first.place;
      opens = first.opens;
      counted = first.counted;
      leads = leads_onward q Tight l.from l.interval first.line.interval
          (joined_turned q Tight l.interval l.from (l.face.kind, l.face.a, l.face.b, face))
          first.leads;
    }

-- intervals from one of which a list of joined intervals leads to the other have one number
pub one_number : (q : ℕ) (Tight : ℕ → ℕ → Type 0) (lines : List CoverLine) (a b i j : ℕ) →
    AreCoverLines q Tight lines →
    HasComponent lines a i → HasComponent lines b j → LeadsTo q Tight j i → a ≡ b
one_number q Tight lines a b i j h first second leads =
    let rules = lines_meet_rules q Tight lines h in
    let x = opened_by q Tight lines a i rules first in
    let y = opened_by q Tight lines b j rules second in
    let between : LeadsTo q Tight y.line.interval x.line.interval =
    leads_through q Tight y.line.interval j x.line.interval
    (leads_turned q Tight j y.line.interval y.leads)
    (leads_through q Tight j i x.line.interval leads x.leads) in
    elim (two_places lines x.before x.line x.after y.before y.line y.after x.place y.place) [
      | inl same ↦ x.counted ∙ ap components_in same ∙ sym y.counted
      | inr apart ↦ absurd (elim apart [
        | inl (middle, rest) ↦
            openings_apart q Tight lines x.before x.line middle y.line y.after h
            (x.place ∙ ap (λ ls. x.before ++ x.line ∷ ls) rest) y.opens between
        | inr (middle, rest) ↦
            openings_apart q Tight lines y.before y.line middle x.line x.after h
            (y.place ∙ ap (λ ls. y.before ++ y.line ∷ ls) rest) x.opens
            (leads_turned q Tight y.line.interval x.line.interval between)
      ])
    ]
