-- By lines that meet the rules for cover lines, each interval with a line is in one component.
use Rattle.std.proofs.Common.{◌≡◌, ◌≢◌, ℕ, zero, suc, ◌+◌, ◌<◌, ◌==◌, inl, inr, List, ◌∷◌, ◌++◌, All, Any, length, get_or, take, drop, count_by, refl, ap, sym, subst, ◌∙◌, append_assoc, arith}
use Rattle.std.proofs.Math.Seq.{drop-cons, get_or-append_seam}
use Rattle.std.proofs.lemmas.Bool.{cases_eq}
use Rattle.std.proofs.lemmas.List.{get_or_default, length-append, take-append-drop}
use Rattle.gj_lemmas.proofs.FirstThatFails.{first_failing, one_first_failing}
use Rattle.gj_lemmas.proofs.Lists.{All-front}
use Rattle.gj_shape.specs.Cover.{HasCoverLine, HasComponent}
use Rattle.gj_shape.specs.Cover.HasComponent.{opened, joined}
use Rattle.gj_shape.specs.declared.extremality.CoverLine.{CoverLine}
use Rattle.gj_theory.specs.CoverRules.{MeetsCoverRules}

-- ---- some component

-- an element that has a property, and what stands before and after it
pub split_at_any : {A : Type 0} (P : A → Type 0) (xs : List A) → Any P xs →
    (before : List A) × (x : A) × (after : List A) × (xs ≡ before ++ x ∷ after) × P x
split_at_any P xs some =
    let k = some.0 in
    let x = some.1 in
    let rest = drop-cons xs k x some.2 ∙ ap (λ y. y ∷ drop (suc k) xs) some.3 in (
      take k xs,
      x,
      drop (suc k) xs,
      sym (take-append-drop k xs)
          ∙ ap (λ ys. take k xs ++ ys) rest,
      some.4,
    )

front_shorter : {A : Type 0} (xs before : List A) (x : A) (after : List A) →
    xs ≡ before ++ x ∷ after → length before < length xs
front_shorter xs before x after place =
    let long = ap length place in
    let parts = length-append before (x ∷ after) in
    omega arith

-- the line behind fewer lines than the bound
component_within : (q : ℕ) (Tight : ℕ → ℕ → Type 0) (lines : List CoverLine) →
    MeetsCoverRules q Tight lines →
    (bound : ℕ) (before : List CoverLine) (l : CoverLine) (after : List CoverLine) →
    length before < bound →
    lines ≡ before ++ l ∷ after → (number : ℕ) × HasComponent lines number l.interval
component_within q Tight lines rules zero before l after short place = absurd (omega arith)
component_within q Tight lines rules (suc bound) before l after short place =
    elim (cases_eq l.from l.interval) [
      | inl same ↦ (
        count_by (λ m. m.from == m.interval) before,
        opened before l after place same
            refl,
      )
      | inr other ↦
          let split = split_at_any (λ m. m.interval ≡ l.from) before
          ((rules before l after place).earlier other) in
          let front = split.0 in
          let earlier = split.1 in
          let back = split.2 in
          let shorter = front_shorter before front earlier back split.3 in
          let whole : lines ≡ front ++ earlier ∷ (back ++ l ∷ after) =
          place ∙ ap (λ ls. ls ++ l ∷ after) split.3
          ∙ append_assoc front (earlier ∷ back) (l ∷ after) in
          let found = component_within q Tight lines rules bound front earlier (back ++ l ∷ after)
          (omega arith) whole in (
            found.0,
            joined before l after place other
                (subst (HasComponent lines found.0) split.4 found.1),
          )
    ]

pub component_of_line : (q : ℕ) (Tight : ℕ → ℕ → Type 0) (lines : List CoverLine) (i : ℕ) →
    MeetsCoverRules q Tight lines →
    HasCoverLine lines i → (number : ℕ) × HasComponent lines number i
component_of_line q Tight lines i rules line =
    let split = split_at_any (λ m. m.interval ≡ i) lines line in
    let found = component_within q Tight lines rules (length split.0 + 1) split.0 split.1 split.2
    (omega arith) split.3 in
    (found.0, subst (HasComponent lines found.0) split.4 found.1)

-- ---- one component

-- an interval has one line
one_line : (q : ℕ) (Tight : ℕ → ℕ → Type 0) (lines : List CoverLine) →
    MeetsCoverRules q Tight lines →
    (before : List CoverLine) (l : CoverLine) (after : List CoverLine) →
    lines ≡ before ++ l ∷ after →
    (before' : List CoverLine) (l' : CoverLine) (after' : List CoverLine) →
    lines ≡ before' ++ l' ∷ after' →
    l.interval ≡ l'.interval → (before ≡ before') × (l ≡ l')
one_line q Tight lines rules before l after place before' l' after' place' same =
    let Other : CoverLine → Type 0 = λ m. m.interval ≢ l.interval in
    let passed : All Other before = λ k d low e.
    (rules before l after place).new
    (k, get_or before k d, low, get_or_default before k (get_or before k d) d low, e) in
    let passed' : All Other before' = λ k d low e.
    (rules before' l' after' place').new (
      k,
      get_or before' k d,
      low,
      get_or_default before' k (get_or before' k d) d low,
      e
          ∙ same,
    ) in
    one_first_failing (All Other) (All-front Other) lines before before' l l'
    (first_failing Other lines before after l place passed (λ ne. ne refl))
    (first_failing Other lines before' after' l' place' passed' (λ ne. ne (sym same)))

same_component : (q : ℕ) (Tight : ℕ → ℕ → Type 0) (lines : List CoverLine) (a b i j : ℕ) →
    MeetsCoverRules q Tight lines →
    HasComponent lines a i → HasComponent lines b j → i ≡ j → a ≡ b
same_component q Tight lines a b i j rules (opened before l after place same counted)
    (opened before' l' after' place' same' counted') e =
    let one = one_line q Tight lines rules before l after place before' l' after' place' e in
    counted ∙ ap (count_by (λ m. m.from == m.interval)) one.0 ∙ sym counted'
same_component q Tight lines a b i j rules (opened before l after place same counted)
    (joined before' l' after' place' other' rest') e =
    let one = one_line q Tight lines rules before l after place before' l' after' place' e in
    absurd (other' (sym (ap (λ m. m.from) one.1) ∙ same ∙ e))
same_component q Tight lines a b i j rules (joined before l after place other rest)
    (opened before' l' after' place' same' counted') e =
    let one = one_line q Tight lines rules before l after place before' l' after' place' e in
    absurd (other (ap (λ m. m.from) one.1 ∙ same' ∙ sym e))
same_component q Tight lines a b i j rules (joined before l after place other rest)
    (joined before' l' after' place' other' rest') e =
    let one = one_line q Tight lines rules before l after place before' l' after' place' e in
    same_component q Tight lines a b l.from l'.from rules rest rest' (ap (λ m. m.from) one.1)

pub one_component : (q : ℕ) (Tight : ℕ → ℕ → Type 0) (lines : List CoverLine) (i a b : ℕ) →
    MeetsCoverRules q Tight lines →
    HasComponent lines a i → HasComponent lines b i → a ≡ b
one_component q Tight lines i a b rules first second =
    same_component q Tight lines a b i i rules first second refl

-- ---- only intervals with a line

pub line_at : (lines before : List CoverLine) (l : CoverLine) (after : List CoverLine) →
    lines ≡ before ++ l ∷ after → HasCoverLine lines l.interval
line_at lines before l after place = (
  length before,
  l,
  front_shorter lines before l after place,
  ap (λ ls. get_or ls (length before) l) place ∙ get_or-append_seam before l after l,
  refl,
)

pub line_of_component : (lines : List CoverLine) (number i : ℕ) → HasComponent lines number i →
    HasCoverLine lines i
line_of_component lines number i (opened before l after place same counted) =
    line_at lines before l after place
line_of_component lines number i (joined before l after place other rest) =
    line_at lines before l after place
