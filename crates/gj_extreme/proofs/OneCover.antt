-- A function has one list of cover lines.
use Rattle.std.proofs.Common.{◌≡◌, ℕ, inl, inr, List, [], ◌∷◌, ◌++◌, refl, sym, ap, ap₂, subst, subst₂, ◌∙◌, append_assoc}
use Rattle.std.specs.Prelude.{All}
use Rattle.std.proofs.lemmas.List.{append-nil}
use Rattle.gj_cover.proofs.Classes.{one_least}
use Rattle.gj_lemmas.proofs.FirstThatFails.{one_first_failing}
use Rattle.gj_lemmas.proofs.Lists.{All-front}
use Rattle.gj_shape.specs.Cover.{Joins, Covers, JoinsLines, IsOpen, IsFirstFace, IsNextLine, AreCoverLines}
use Rattle.gj_shape.specs.FirstViolation.{IsLeastFrom}
use Rattle.gj_shape.specs.WalkOrder.{faces_of}
use Rattle.gj_shape.specs.declared.extremality.CoverLine.{CoverLine}
use Rattle.gj_shape.specs.declared.faces.Face.{Face}
use Rattle.gj_shape.specs.declared.faces.FaceKind.{FaceKind}

pub one_first_face : (q : ℕ) (P : FaceKind → ℕ → ℕ → Type 0) (f g : Face) → IsFirstFace q P f →
    IsFirstFace q P g → f ≡ g
one_first_face q P f g h k =
    let Other : Face → Type 0 = λ x. P x.kind x.a x.b → ⊥ in
    (one_first_failing (All Other) (All-front Other) (faces_of q) h.before k.before f g h.first
    k.first).1

pub same_line : (l m : CoverLine) → l.interval ≡ m.interval → l.from ≡ m.from → l.face ≡ m.face →
    l ≡ m
same_line l m interval from face =
    let line : ℕ → ℕ → Face → CoverLine = λ i j f. record { interval = i; from = j; face = f } in
    ap (λ i. line i l.from l.face) interval ∙ ap (λ j. line m.interval j l.face) from
    ∙ ap (λ f. line m.interval m.from f) face

-- behind the same lines there is one next
one_next : (q : ℕ) (Tight : ℕ → ℕ → Type 0) (lines : List CoverLine) (l m : CoverLine) →
    IsNextLine q Tight lines l →
    IsNextLine q Tight lines m → l ≡ m
one_next q Tight lines l m (inl h) (inl k) =
    let interval = one_least (λ i. (j : ℕ) × JoinsLines q Tight lines i j) l.interval m.interval
    h.interval k.interval in
    let from = one_least (λ j. JoinsLines q Tight lines l.interval j) l.from m.from h.from
    (subst (λ (i : ℕ). IsLeastFrom 0 (λ j. JoinsLines q Tight lines i j) m.from)
    (sym interval) k.from) in
    same_line l m interval from
    (one_first_face q (λ kind a b. Joins q Tight kind a b l.interval l.from) l.face m.face h.face
    (subst₂ (λ (i j : ℕ). IsFirstFace q (λ kind a b. Joins q Tight kind a b i j) m.face)
    (sym interval) (sym from) k.face))
one_next q Tight lines l m (inl h) (inr k) = absurd (k.none_joins l.interval l.from h.from.holds)
one_next q Tight lines l m (inr h) (inl k) = absurd (h.none_joins m.interval m.from k.from.holds)
one_next q Tight lines l m (inr h) (inr k) =
    let interval = one_least (IsOpen q Tight lines) l.interval m.interval h.interval k.interval in
    same_line l m interval (h.from ∙ interval ∙ sym k.from)
    (one_first_face q (λ kind a b. Covers q Tight kind a b l.interval) l.face m.face h.face
    (subst (λ (i : ℕ). IsFirstFace q (λ kind a b. Covers q Tight kind a b i) m.face)
    (sym interval) k.face))

one_cover_behind : (q : ℕ) (Tight : ℕ → ℕ → Type 0) (a b front xs ys : List CoverLine) →
    AreCoverLines q Tight a →
    AreCoverLines q Tight b → a ≡ front ++ xs → b ≡ front ++ ys → xs ≡ ys
one_cover_behind q Tight a b front [] [] h k e g = refl
one_cover_behind q Tight a b front [] (m ∷ ys) h k e g =
    absurd (h.complete m
    (subst (λ (ls : List CoverLine). IsNextLine q Tight ls m) (sym (e ∙ append-nil front))
    (k.in_turn front m ys g)))
one_cover_behind q Tight a b front (l ∷ xs) [] h k e g =
    absurd (k.complete l
    (subst (λ (ls : List CoverLine). IsNextLine q Tight ls l) (sym (g ∙ append-nil front))
    (h.in_turn front l xs e)))
one_cover_behind q Tight a b front (l ∷ xs) (m ∷ ys) h k e g =
    let same = one_next q Tight front l m (h.in_turn front l xs e) (k.in_turn front m ys g) in
    ap₂ (λ x zs. x ∷ zs) same
    (one_cover_behind q Tight a b (front ++ l ∷ []) xs ys h k
    (e ∙ sym (append_assoc front (l ∷ []) xs))
    (g ∙ ap (λ x. front ++ x ∷ ys) (sym same) ∙ sym (append_assoc front (l ∷ []) ys)))

-- two lists of cover lines of the same tight pairs are one
pub one_cover : (q : ℕ) (Tight : ℕ → ℕ → Type 0) (a b : List CoverLine) → AreCoverLines q Tight a →
    AreCoverLines q Tight b → a ≡ b
one_cover q Tight a b h k = one_cover_behind q Tight a b [] a b h k refl refl
