-- A function that may jump has one cover.
use Rattle.std.proofs.Common.{◌≡◌, ℕ, ◌<◌, inl, inr, true, false, List, [], ◌∷◌, ◌++◌, refl, sym, ap, ap₂, subst, subst₂, ◌∙◌, append_assoc, arith}
use Rattle.std.proofs.lemmas.List.{append-nil, ext_get_or}
use Rattle.gj_cover.specs.declared.covered.Cover.{Cover}
use Rattle.gj_extreme.proofs.OneCover.{one_first_face, same_line}
use Rattle.gj_lemmas.proofs.Choices.{same_some}
use Rattle.gj_shape.specs.Cover.{HasComponent, IsFirstFace, components_in}
use Rattle.gj_shape.specs.FirstViolation.{IsLeastFrom}
use Rattle.gj_shape.specs.FunctionData.{FunctionData}
use Rattle.gj_shape.specs.SlopeRows.{component_in}
use Rattle.gj_shape.specs.declared.extremality.CoverLine.{CoverLine}
use Rattle.gj_shape.specs.declared.faces.Face.{Face}
use Rattle.gj_shape.specs.declared.faces.FaceKind.{FaceKind}
use Rattle.gj_jumps.specs.LimitCover.{IsTightAt}
use Rattle.gj_limit_cover.specs.LimitCover.{JoinsAs, Covers, JoinsLines, IsJoiningFace, IsOpen, IsNextLine, AreCoverLines}
use Rattle.gj_cover.proofs.Classes.{one_least}
use Rattle.gj_limit_system.proofs.Components.{length_is, number_is}
use Rattle.gj_limit_extreme.specs.Decision.{AreAllCovered}

one_joining_face : (q : ℕ) (T : FaceKind → ℕ → ℕ → ℕ → Type 0) (i j : ℕ) (f g : Face) →
    IsJoiningFace q T i j f →
    IsJoiningFace q T i j g → f ≡ g
one_joining_face q T i j f g (inl h) (inl k) = one_first_face q (JoinsAs q T true i j) f g h k
one_joining_face q T i j f g (inl h) (inr k) = absurd (k.0 f.kind f.a f.b h.holds)
one_joining_face q T i j f g (inr h) (inl k) = absurd (h.0 g.kind g.a g.b k.holds)
one_joining_face q T i j f g (inr h) (inr k) = one_first_face q (JoinsAs q T false i j) f g h.1 k.1

-- behind the same lines there is one next
one_next : (q : ℕ) (T : FaceKind → ℕ → ℕ → ℕ → Type 0) (lines : List CoverLine) (l m : CoverLine) →
    IsNextLine q T lines l →
    IsNextLine q T lines m → l ≡ m
one_next q T lines l m (inl h) (inl k) =
    let interval = one_least (λ i. (j : ℕ) × JoinsLines q T lines i j) l.interval m.interval
    h.interval k.interval in
    let from = one_least (λ j. JoinsLines q T lines l.interval j) l.from m.from h.from
    (subst (λ (i : ℕ). IsLeastFrom 0 (λ j. JoinsLines q T lines i j) m.from)
    (sym interval) k.from) in
    same_line l m interval from
    (one_joining_face q T l.interval l.from l.face m.face h.face
    (subst₂ (λ (i j : ℕ). IsJoiningFace q T i j m.face) (sym interval) (sym from) k.face))
one_next q T lines l m (inl h) (inr k) = absurd (k.none_joins l.interval l.from h.from.holds)
one_next q T lines l m (inr h) (inl k) = absurd (h.none_joins m.interval m.from k.from.holds)
one_next q T lines l m (inr h) (inr k) =
    let interval = one_least (IsOpen q T lines) l.interval m.interval h.interval k.interval in
    same_line l m interval (h.from ∙ interval ∙ sym k.from)
    (one_first_face q (λ kind a b. Covers q T kind a b l.interval) l.face m.face h.face
    (subst (λ (i : ℕ). IsFirstFace q (λ kind a b. Covers q T kind a b i) m.face)
    (sym interval) k.face))

one_lines_behind : (q : ℕ) (T : FaceKind → ℕ → ℕ → ℕ → Type 0) (a b front xs ys : List CoverLine) →
    AreCoverLines q T a →
    AreCoverLines q T b → a ≡ front ++ xs → b ≡ front ++ ys → xs ≡ ys
one_lines_behind q T a b front [] [] h k e g = refl
one_lines_behind q T a b front [] (m ∷ ys) h k e g =
    absurd (h.complete m
    (subst (λ (ls : List CoverLine). IsNextLine q T ls m) (sym (e ∙ append-nil front))
    (k.in_turn front m ys g)))
one_lines_behind q T a b front (l ∷ xs) [] h k e g =
    absurd (k.complete l
    (subst (λ (ls : List CoverLine). IsNextLine q T ls l) (sym (g ∙ append-nil front))
    (h.in_turn front l xs e)))
one_lines_behind q T a b front (l ∷ xs) (m ∷ ys) h k e g =
    let same = one_next q T front l m (h.in_turn front l xs e) (k.in_turn front m ys g) in
    ap₂ (λ x zs. x ∷ zs) same
    (one_lines_behind q T a b (front ++ l ∷ []) xs ys h k (e ∙ sym (append_assoc front (l ∷ []) xs))
    (g ∙ ap (λ x. front ++ x ∷ ys) (sym same) ∙ sym (append_assoc front (l ∷ []) ys)))

-- ---- the components of all intervals

-- each interval has its component
pub has_component : (f : FunctionData) (cover : Cover) (component : List ℕ) →
    AreAllCovered f cover component → (i : ℕ) → i < f.order →
    HasComponent cover.lines (component_in component i) i
has_component f cover component h i low =
    (h.is_cover.component.numbers i (component_in component i) low).0
    (number_is f.order (IsTightAt f) cover component h.is_cover h.numbers i low)

-- and no other
pub one_component : (f : FunctionData) (cover : Cover) (component : List ℕ) →
    AreAllCovered f cover component → (i m : ℕ) → i < f.order →
    HasComponent cover.lines m i → component_in component i ≡ m
one_component f cover component h i m low has =
    same_some (component_in component i) m
    (sym (number_is f.order (IsTightAt f) cover component h.is_cover h.numbers i low)
    ∙ (h.is_cover.component.numbers i m low).1 has)

-- ---- one cover

-- what is the same by two covers of all intervals
pub record AreOneCover (cover other : Cover) (component numbers : List ℕ) : Type 0 where
  pub lines_same : cover.lines ≡ other.lines
  pub count_same : cover.count ≡ other.count
  pub component_same : component ≡ numbers

pub one_all_covered : (f : FunctionData) (cover other : Cover) (component numbers : List ℕ) →
    AreAllCovered f cover component →
    AreAllCovered f other numbers → AreOneCover cover other component numbers
one_all_covered f cover other component numbers h k =
    let same = one_lines_behind f.order (IsTightAt f) cover.lines other.lines
    [] cover.lines other.lines h.is_cover.lines k.is_cover.lines
    refl refl in
    let first = length_is f.order (IsTightAt f) cover component h.is_cover h.numbers in
    let second = length_is f.order (IsTightAt f) other numbers k.is_cover k.numbers in
    record {
      lines_same = same;
      count_same = h.is_cover.count ∙ ap components_in same ∙ sym k.is_cover.count;
      component_same = ext_get_or 0 component numbers (first ∙ sym second)
          (λ i below.
          let low : i < f.order = subst (λ (n : ℕ). i < n) first below in
          one_component f cover component h i (component_in numbers i) low
          (subst (λ (ls : List CoverLine). HasComponent ls (component_in numbers i) i) (sym same)
          (has_component f other numbers k i low)));
    }
