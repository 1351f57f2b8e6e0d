-- The names that were seen in a row.
use Rattle.std.proofs.Common.{◌≡◌, ◌≢◌, ℕ, List, [], ◌∷◌, ◌++◌, All, Bool, true, false, ◌||◌, nat_eq, refl, sym, ap, ◌∙◌}
use Rattle.std.specs.List.{list_any}
use Rattle.std.specs.Cmp.Lexicographic.{pointwise, bytes_decides}
use Rattle.indexmap.specs.IndexSet.{insert_key}
use Rattle.std.proofs.lemmas.List.Folds.{list_any-append}
use Rattle.std.proofs.lemmas.List.Elements.{All-nil, All-cons, All-head, All-tail}
use denote.Ref.{Bor}
use Rattle.gj_proof.specs.declared.cut.CutTerm.{CutTerm}
use Rattle.gj_proof.specs.Rules.{MeetsName}

-- two names behind references have the same bytes
abbrev pub same_bytes : Bor (List ℕ) → Bor (List ℕ) → Bool
same_bytes x y = pointwise nat_eq x.now y.now

-- whether a name is the basic variable's or that of a term
abbrev pub is_among : List ℕ → List ℕ → List CutTerm → Bool
is_among q basic terms = pointwise nat_eq q basic || list_any (λ t. pointwise nat_eq q t.name) terms

-- these are the names, and no others
abbrev pub HasNames : List (Bor (List ℕ)) → List ℕ → List CutTerm → Type 0
HasNames keys basic terms = (q : List ℕ) → list_any (λ k. pointwise nat_eq q k.now) keys
    ≡ is_among q basic terms

-- ---- one more name

or_last : (b x y : Bool) → ((b || x) || (y || false)) ≡ (b || (x || (y || false)))
or_last true x y = refl
or_last false x y = refl

pub basic_seen : (keys : List (Bor (List ℕ))) (k : Bor (List ℕ)) → keys ≡ [] →
    HasNames (insert_key same_bytes keys k) k.now []
basic_seen keys k none q =
    ap (λ ks. list_any (λ y. pointwise nat_eq q y.now) (insert_key same_bytes ks k)) none

pub name_seen : (keys : List (Bor (List ℕ))) (k : Bor (List ℕ)) (basic : List ℕ)
    (terms : List CutTerm) (t : CutTerm) →
    HasNames keys basic terms → k.now ≡ t.name → list_any (same_bytes k) keys ≡ false →
    HasNames (insert_key same_bytes keys k) basic (terms ++ t ∷ [])
name_seen keys k basic terms t h is new q =
    rw new
    (list_any-append (λ y. pointwise nat_eq q y.now) keys (k ∷ [])
    ∙ ap (λ b. b || (pointwise nat_eq q k.now || false)) (h q)
    ∙ or_last (pointwise nat_eq q basic) (list_any (λ v. pointwise nat_eq q v.name) terms)
    (pointwise nat_eq q k.now)
    ∙ ap (λ x. pointwise nat_eq q basic
    || (list_any (λ v. pointwise nat_eq q v.name) terms || (pointwise nat_eq q x || false))) is
    ∙ ap (λ b. pointwise nat_eq q basic || b)
    (sym (list_any-append (λ v. pointwise nat_eq q v.name) terms (t ∷ []))))

-- ---- a new name

or_first : (x y : Bool) → (x || y) ≡ false → (x ≡ false) × (y ≡ false)
or_first true y e = absurd (cc)
or_first false true e = absurd (cc)
or_first false false e = (refl, refl)

others : (q : List ℕ) (terms : List CutTerm) → list_any (λ t. pointwise nat_eq q t.name) terms
    ≡ false → All (λ u. u.name ≢ q) terms
others q [] e = All-nil (λ u. u.name ≢ q)
others q (t ∷ terms) e =
    let both = or_first (pointwise nat_eq q t.name)
    (list_any (λ u. pointwise nat_eq q u.name) terms) e in
    All-cons (λ u. u.name ≢ q) t terms
    (λ same. let h = (bytes_decides q t.name).1 (sym same) in let k = both.0 in cc)
    (others q terms both.1)

pub is_new : (basic : List ℕ) (before : List CutTerm) (t : CutTerm) →
    is_among t.name basic before ≡ false → MeetsName basic before t
is_new basic before t e =
    let both = or_first (pointwise nat_eq t.name basic)
    (list_any (λ u. pointwise nat_eq t.name u.name) before) e in record {
      not_basic = λ same. let h = (bytes_decides t.name basic).1 same in let k = both.0 in cc;
      new = others t.name before both.1;
    }

one_of : (q : List ℕ) (terms : List CutTerm) → list_any (λ t. pointwise nat_eq q t.name) terms
    ≡ true → All (λ u. u.name ≢ q) terms → ⊥
one_of q [] e all = (cc)
one_of q (t ∷ terms) e all =
    by (pointwise nat_eq q t.name) refl (one_of q terms) (All-tail (λ u. u.name ≢ q) t terms all)
  where
    by : (b : Bool) → pointwise nat_eq q t.name ≡ b →
        (list_any (λ t. pointwise nat_eq q t.name) terms ≡ true → All (λ u. u.name ≢ q) terms → ⊥) →
        All (λ u. u.name ≢ q) terms → ⊥
    by true is more rest =
        All-head (λ u. u.name ≢ q) t terms all (sym ((bytes_decides q t.name).0 is))
    by false is more rest =
        more (ap (λ b. b || list_any (λ u. pointwise nat_eq q u.name) terms) (sym is) ∙ e) rest

pub is_repeated : (basic : List ℕ) (before : List CutTerm) (t : CutTerm) →
    is_among t.name basic before ≡ true → MeetsName basic before t → ⊥
is_repeated basic before t e meets = by (pointwise nat_eq t.name basic) refl
  where
    by : (b : Bool) → pointwise nat_eq t.name basic ≡ b → ⊥
    by true is = meets.not_basic ((bytes_decides t.name basic).0 is)
    by false is =
        one_of t.name before
        (ap (λ b. b || list_any (λ u. pointwise nat_eq t.name u.name) before) (sym is)
        ∙ e) meets.new
