-- What items make, and sums of pieces.
use Rattle.std.proofs.Common.{◌≡◌, ⊎_elim, inl, inr, List, [], ◌∷◌, ◌++◌, All, refl, sym, ap, ap₂, subst, ◌∙◌}
use Rattle.std.specs.List.{AllZip}
use Rattle.std.proofs.lemmas.List.Elements.{All-nil, All-cons, All-head, All-tail}
use Rattle.gj_fields.specs.Rational.{Rational, rational, ◌+ℚ◌, ◌*ℚ◌}
use Rattle.gj_fields.proofs.RationalLaws.{zero_add_q, add_assoc_q}
use Rattle.gj_problem.specs.declared.pieces.Piece.{Piece}
use Rattle.gj_problem.specs.Problems.{surplus_at}
use Rattle.gj_problem.specs.Aggregates.{pieces_at, AreMadeOf}

-- ---- one more item

-- what an item that is not passed over makes
abbrev pub Made : {A B : Type 0} → (A → Type 0) → (A → B → Type 0) → A → List A → List B → Type 0
Made {A} {B} Passed Makes x xs made =
    (Passed x → ⊥) × (s : B) × (rest : List B) × (made ≡ s ∷ rest) × Makes x s
    × AreMadeOf Passed Makes xs rest

pub made_passed : {A B : Type 0} (P : A → Type 0) (M : A → B → Type 0) (xs : List A) (ps : List B)
    (x : A) →
    AreMadeOf P M xs ps → P x → AreMadeOf P M (xs ++ x ∷ []) ps
made_passed P M [] ps x h passed = inl (passed, h)
made_passed P M (y ∷ xs) ps x h passed =
    ⊎_elim
    (λ (k : P y × AreMadeOf P M xs ps). inl (k.0, made_passed P M xs ps x k.1 passed))
    (λ (k : Made P M y xs ps). inr (k.0, k.1, k.2, k.3, k.4, made_passed P M xs k.2 x k.5 passed))
    h

pub made_more : {A B : Type 0} (P : A → Type 0) (M : A → B → Type 0) (xs : List A) (ps : List B)
    (x : A) (s : B) →
    AreMadeOf P M xs ps → (P x → ⊥) → M x s → AreMadeOf P M (xs ++ x ∷ []) (ps ++ s ∷ [])
made_more {A} {B} P M [] ps x s h kept makes =
    inr (kept, s, [], ap (λ (qs : List B). qs ++ s ∷ []) h, makes, refl)
made_more {A} {B} P M (y ∷ xs) ps x s h kept makes =
    ⊎_elim
    (λ (k : P y × AreMadeOf P M xs ps). inl (k.0, made_more P M xs ps x s k.1 kept makes))
    (λ (k : Made P M y xs ps).
    inr (
      k.0,
      k.1,
      k.2 ++ s ∷ [],
      ap (λ (qs : List B). qs ++ s ∷ []) k.3,
      k.4,
      made_more P M xs k.2
          x s k.5 kept makes,
    ))
    h

-- what is true of each item is true of what it makes
pub made_all : {A B : Type 0} (P : A → Type 0) (M : A → B → Type 0) (Q : A → Type 0) (R : B →
    Type 0) (xs : List A) (ps : List B) →
    AreMadeOf P M xs ps → All Q xs → ((x : A) (s : B) → Q x → M x s → R s) → All R ps
made_all P M Q R [] ps h all step = subst (All R) (sym h) (All-nil R)
made_all P M Q R (y ∷ xs) ps h all step =
    ⊎_elim
    (λ (k : P y × AreMadeOf P M xs ps). made_all P M Q R xs ps k.1 (All-tail Q y xs all) step)
    (λ (k : Made P M y xs ps).
    subst (All R) (sym k.3)
    (All-cons R k.1 k.2 (step y k.1 (All-head Q y xs all) k.4)
    (made_all P M Q R xs k.2 k.5 (All-tail Q y xs all) step)))
    h

-- what is true of an item that is passed over, and of one that makes something, is true of each
pub none_from_made : {A B : Type 0} (P : A → Type 0) (M : A → B → Type 0) (Q : A → Type 0)
    (xs : List A) (ps : List B) →
    AreMadeOf P M xs ps → ((x : A) → P x → Q x) → ((x : A) (s : B) → M x s → Q x) → All Q xs
none_from_made P M Q [] ps h pass step = All-nil Q
none_from_made P M Q (y ∷ xs) ps h pass step =
    ⊎_elim
    (λ (k : P y × AreMadeOf P M xs ps). All-cons Q y xs (pass y k.0)
    (none_from_made P M Q xs ps k.1 pass step))
    (λ (k : Made P M y xs ps). All-cons Q y xs (step y k.1 k.4)
    (none_from_made P M Q xs k.2 k.5 pass step))
    h

-- what each item makes is one thing, so it is one list
pub made_one : {A B : Type 0} (P : A → Type 0) (M : A → B → Type 0) →
    ((x : A) (s t : B) → M x s → M x t → s ≡ t) → (xs : List A) (ps qs : List B) →
    AreMadeOf P M xs ps → AreMadeOf P M xs qs → ps ≡ qs
made_one P M one [] ps qs h k = h ∙ sym k
made_one {A} {B} P M one (x ∷ xs) ps qs h k =
    ⊎_elim
    (λ (a : P x × AreMadeOf P M xs ps).
    ⊎_elim
    (λ (b : P x × AreMadeOf P M xs qs). made_one P M one xs ps qs a.1 b.1)
    (λ (b : Made P M x xs qs). absurd (b.0 a.0)) k)
    (λ (a : Made P M x xs ps).
    ⊎_elim
    (λ (b : P x × AreMadeOf P M xs qs). absurd (a.0 b.0))
    (λ (b : Made P M x xs qs).
    a.3 ∙ ap₂ (λ (s : B) (rest : List B). s ∷ rest) (one x a.1 b.1 a.4 b.4)
    (made_one P M one xs a.2 b.2 a.5 b.5) ∙ sym b.3) k)
    h

-- ---- two lists

pub zip_joined : {A B : Type 0} (R : A → B → Type 0) (xs xs' : List A) (ys ys' : List B) →
    AllZip R xs ys → AllZip R xs' ys' →
    AllZip R (xs ++ xs') (ys ++ ys')
zip_joined R [] xs' [] ys' h k = k
zip_joined R [] xs' (y ∷ ys) ys' h k = absurd h
zip_joined R (x ∷ xs) xs' [] ys' h k = absurd h
zip_joined R (x ∷ xs) xs' (y ∷ ys) ys' h k = (h.0, zip_joined R xs xs' ys ys' h.1 k)

pub zip_split : {A B : Type 0} (R : A → B → Type 0) (xs xs' : List A) (zs : List B) →
    AllZip R (xs ++ xs') zs →
    (us : List B) × (vs : List B) × (zs ≡ us ++ vs) × AllZip R xs us × AllZip R xs' vs
zip_split R [] xs' zs h = ([], zs, refl, tt, h)
zip_split R (x ∷ xs) xs' [] h = absurd h
zip_split {A} {B} R (x ∷ xs) xs' (z ∷ zs) h =
    let (us, vs, are, first, second) = zip_split R xs xs' zs h.1 in
    (z ∷ us, vs, ap (λ (ws : List B). z ∷ ws) are, (h.0, first), second)

-- what the items of the first list have is one thing, so it is one list
pub zip_one : {A B : Type 0} (R : A → B → Type 0) → ((x : A) (y z : B) → R x y → R x z → y ≡ z) →
    (xs : List A) (ys zs : List B) →
    AllZip R xs ys → AllZip R xs zs → ys ≡ zs
zip_one R one [] [] [] h k = refl
zip_one R one [] [] (z ∷ zs) h k = absurd k
zip_one R one [] (y ∷ ys) zs h k = absurd h
zip_one R one (x ∷ xs) [] zs h k = absurd h
zip_one R one (x ∷ xs) (y ∷ ys) [] h k = absurd k
zip_one {A} {B} R one (x ∷ xs) (y ∷ ys) (z ∷ zs) h k =
    ap₂ (λ (w : B) (ws : List B). w ∷ ws) (one x y z h.0 k.0) (zip_one R one xs ys zs h.1 k.1)

-- ---- sums

pub pieces_joined : (point : List Rational) (ps qs : List Piece) →
    pieces_at point (ps ++ qs) ≡ pieces_at point ps +ℚ pieces_at point qs
pieces_joined point [] qs = sym (zero_add_q (pieces_at point qs))
pieces_joined point (s ∷ ps) qs =
    let x = rational s.entry *ℚ surplus_at point s.inequality in
    ap (λ w. x +ℚ w) (pieces_joined point ps qs)
    ∙ sym (add_assoc_q x (pieces_at point ps) (pieces_at point qs))
