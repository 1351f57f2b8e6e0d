-- Lines that meet the rules for cover lines have different intervals: as many as intervals are
-- lines for all.
use Rattle.std.proofs.Common.{◌≡◌, ℕ, zero, suc, ◌<◌, Bool, true, false, ◌||◌, List, [], ◌∷◌, ◌++◌, length, map, eqb, refl, sym, ap, subst, ◌∙◌, append_assoc, arith}
use Rattle.std.specs.Prelude.{All}
use Rattle.std.specs.Cmp.{IsEquivalence}
use Rattle.std.specs.List.{list_any, IsDistinct}
use Rattle.std.proofs.Math.Nat.{le_antisymm}
use Rattle.std.proofs.lemmas.Bool.{eq-eqb}
use Rattle.std.proofs.lemmas.Bool.Decides.{Decides-eqb}
use Rattle.std.proofs.lemmas.List.{append-nil, length-map, length_push, map_push}
use Rattle.std.proofs.lemmas.List.Elements.{All-push, All-map}
use Rattle.std.proofs.lemmas.Map.Keys.{IsDistinct-push}
use Rattle.std.proofs.lemmas.Map.Steps.{length-le_from_distinct_below, le-length_from_below}
use Rattle.gj_lemmas.proofs.Choices.{never_true}
use Rattle.gj_shape.specs.Cover.{HasCoverLine}
use Rattle.gj_shape.specs.declared.extremality.CoverLine.{CoverLine}
use Rattle.gj_theory.specs.CoverRules.{MeetsCoverRules}
use Rattle.gj_theory.proofs.Triangular.{below_from_any}

equal_turned : (x y : ℕ) → eqb x y ≡ eqb y x
equal_turned x y = by_test (eqb x y) refl
  where
    by_test : (b : Bool) → eqb x y ≡ b → eqb x y ≡ eqb y x
    by_test true t = t ∙ sym (eq-eqb y x (sym ((Decides-eqb x y).0 t)))
    by_test false t =
        t ∙ sym (never_true (eqb y x) (λ u. let v = eq-eqb x y (sym ((Decides-eqb y x).0 u)) in
        absurd cc))

equal_laws : IsEquivalence eqb
equal_laws = record {
  refl = λ x. eq-eqb x x refl;
  symm = equal_turned;
  congr = λ x y z e. ap (λ k. eqb k z) ((Decides-eqb x y).0 e);
}

abbrev pub intervals_of : List CoverLine → List ℕ
intervals_of lines = map (λ l. l.interval) lines

line_listed : (lines : List CoverLine) (i : ℕ) → list_any (eqb i) (intervals_of lines) ≡ true →
    HasCoverLine lines i
line_listed [] i e = absurd cc
line_listed (l ∷ lines) i e = by_test (eqb i l.interval) refl e (line_listed lines i)
  where
    by_test : (b : Bool) → eqb i l.interval ≡ b → (b || list_any (eqb i) (intervals_of lines))
        ≡ true →
        (list_any (eqb i) (intervals_of lines) ≡ true → HasCoverLine lines i) →
        HasCoverLine (l ∷ lines) i
    by_test true t e later = (0, l, omega arith, refl, sym ((Decides-eqb i l.interval).0 t))
    by_test false t e later = one_further (later e)
      where
        one_further : HasCoverLine lines i → HasCoverLine (l ∷ lines) i
        one_further (k, m, low, there, is) = (suc k, m, omega arith, there, is)

none_distinct : IsDistinct eqb []
unfolding IsDistinct
none_distinct = tt

-- no two lines have one interval
intervals_distinct : (q : ℕ) (Tight : ℕ → ℕ → Type 0) (lines : List CoverLine) →
    MeetsCoverRules q Tight lines →
    (front rest : List CoverLine) → lines ≡ front ++ rest → IsDistinct eqb (intervals_of front) →
    IsDistinct eqb (intervals_of lines)
intervals_distinct q Tight lines rules front [] place h =
    subst (λ (ls : List CoverLine). IsDistinct eqb (intervals_of ls))
    (sym (place ∙ append-nil front)) h
intervals_distinct q Tight lines rules front (l ∷ rest) place h =
    intervals_distinct q Tight lines rules (front ++ l ∷ []) rest
    (place ∙ sym (append_assoc front (l ∷ []) rest))
    (subst (IsDistinct eqb) (sym (map_push (λ m. m.interval) front l))
    (IsDistinct-push equal_laws (intervals_of front) l.interval h
    (never_true (list_any (eqb l.interval) (intervals_of front))
    (λ t. (rules front l rest place).new (line_listed front l.interval t)))))

pub line_for_each : (q : ℕ) (Tight : ℕ → ℕ → Type 0) (lines : List CoverLine) →
    MeetsCoverRules q Tight lines →
    All (λ l. l.interval < q) lines → length lines ≡ q → (i : ℕ) → i < q → HasCoverLine lines i
line_for_each q Tight lines rules below long i low =
    by_test (list_any (eqb i) (intervals_of lines)) refl
  where
    by_test : (b : Bool) → list_any (eqb i) (intervals_of lines) ≡ b → HasCoverLine lines i
    by_test true t = line_listed lines i t
    by_test false t =
        let xs : List ℕ = intervals_of lines in
        let distinct =
        IsDistinct-push equal_laws xs i
        (intervals_distinct q Tight lines rules [] lines refl none_distinct) t in
        let within =
        All-push (λ x. x < q) xs i (All-map (λ x. x < q) (λ l. l.interval) lines below) low in
        let count =
        length-le_from_distinct_below (xs ++ i ∷ []) q distinct
        (λ p has. below_from_any q (xs ++ i ∷ []) p within has) in
        let more = length_push xs i in
        let len = length-map lines (λ l. l.interval) in
        absurd (omega arith)

listed_line : (lines : List CoverLine) (i : ℕ) → HasCoverLine lines i →
    list_any (eqb i) (intervals_of lines) ≡ true
listed_line lines i line = by_test (list_any (eqb i) (intervals_of lines)) refl
  where
    none : (ls : List CoverLine) → list_any (eqb i) (intervals_of ls) ≡ false → HasCoverLine ls i →
        ⊥
    none [] e (k, m, low, there, is) = absurd (omega arith)
    none (l ∷ ls) e (zero, m, low, there, is) =
        let same : eqb i l.interval ≡ true =
        eq-eqb i l.interval (sym is ∙ sym (ap (λ x. x.interval) there)) in absurd cc
    none (l ∷ ls) e (suc k, m, low, there, is) =
        further (eqb i l.interval) e (λ f. none ls f (k, m, omega arith, there, is))
      where
        further : (b : Bool) → (b || list_any (eqb i) (intervals_of ls)) ≡ false →
            (list_any (eqb i) (intervals_of ls) ≡ false → ⊥) → ⊥
        further true e later = absurd cc
        further false e later = later e

    by_test : (b : Bool) → list_any (eqb i) (intervals_of lines) ≡ b →
        list_any (eqb i) (intervals_of lines) ≡ true
    by_test true t = t
    by_test false t = absurd (none lines t line)

-- if each interval has a line, there are as many lines as intervals
pub lines_for_all : (q : ℕ) (Tight : ℕ → ℕ → Type 0) (lines : List CoverLine) →
    MeetsCoverRules q Tight lines →
    All (λ l. l.interval < q) lines → ((i : ℕ) → i < q → HasCoverLine lines i) → length lines ≡ q
lines_for_all q Tight lines rules below each =
    let xs : List ℕ = intervals_of lines in
    let within : All (λ x. x < q) xs = All-map (λ x. x < q) (λ l. l.interval) lines below in
    let few =
    length-le_from_distinct_below xs q
    (intervals_distinct q Tight lines rules [] lines refl none_distinct)
    (λ p has. below_from_any q xs p within has) in
    let many = le-length_from_below xs q (λ i low. listed_line lines i (each i low)) in
    let len = length-map lines (λ l. l.interval) in
    le_antisymm (omega arith) (omega arith)
