-- Rows of terms with the same names.
use Rattle.std.proofs.Common.{◌≡◌, ◌≢◌, ℕ, ◌+◌, ◌<◌, List, [], ◌∷◌, ◌++◌, All, length, take, get_or, map, sym, ap, subst, ◌∙◌, arith}
use Rattle.std.proofs.lemmas.List.{map-append, length-append, length-map}
use Rattle.std.proofs.lemmas.List.Elements.{All-nil, All-cons, All-head, All-tail, All-map}
use Rattle.gj_lemmas.proofs.Lists.{All-back}
use Rattle.gj_proof.specs.declared.cut.CutTerm.{CutTerm}
use Rattle.gj_proof.specs.declared.cut.CutRule.{CutRule}
use Rattle.gj_proof.specs.declared.cut.CutLine.{CutLine}
use Rattle.gj_proof.specs.declared.cut.CutLine.TheVariants as cuts
use Rattle.gj_proof.specs.Rules.{AtIndex, IfCut, MeetsName}
use Rattle.gj_proof.proofs.AtPlaces.{at_index, with_place, split_there}
use Rattle.gj_check.specs.CutRows.{HaveDifferentNames, MeetsCutRow}

-- their names
abbrev pub names_of : List CutTerm → List (List ℕ)
names_of terms = map (λ t. t.name) terms

-- one more term of each
pub one_name_more : (known terms : List CutTerm) (n : ℕ) (k t : CutTerm) → n < length known →
    n < length terms →
    k ≡ get_or known n k → t ≡ get_or terms n t →
    names_of (take n terms) ≡ names_of (take n known) → t.name ≡ k.name →
    names_of (take (n + 1) terms) ≡ names_of (take (n + 1) known)
one_name_more known terms n k t in_known in_terms k_is t_is same here =
    ap names_of (with_place terms n t in_terms t_is)
    ∙ map-append (λ u. u.name) (take n terms) (t ∷ [])
    ∙ ap (λ xs. xs ++ t.name ∷ []) same ∙ ap (λ q. names_of (take n known) ++ q ∷ []) here
    ∙ sym (ap names_of (with_place known n k in_known k_is)
    ∙ map-append (λ u. u.name) (take n known) (k ∷ []))

-- what all names have, the terms have
of_names : (P : List ℕ → Type 0) (terms : List CutTerm) → All P (names_of terms) →
    All (λ t. P t.name) terms
of_names P [] h = All-nil (λ t. P t.name)
of_names P (t ∷ terms) h =
    All-cons (λ u. P u.name) t terms (All-head P t.name (names_of terms) h)
    (of_names P terms (All-tail P t.name (names_of terms) h))

-- the names before a term differ from its own, if those at the same place of the known ones do
new_before : (known front back terms before after : List CutTerm) (k t : CutTerm) →
    known ≡ front ++ k ∷ back →
    terms ≡ before ++ t ∷ after → length front ≡ length before → names_of terms ≡ names_of known →
    All (λ u. u.name ≢ k.name) front → All (λ u. u.name ≢ t.name) before
new_before known front back terms before after k t known_is terms_is long same h =
    of_names (λ p. p ≢ t.name) before
    (at_index (names_of known) (λ b q. All (λ p. p ≢ q) b) (names_of front) k.name (names_of back)
    (ap names_of known_is ∙ map-append (λ u. u.name) front (k ∷ back))
    (All-map (λ p. p ≢ k.name) (λ u. u.name) front h)
    (names_of before) t.name (names_of after) (sym same ∙ ap names_of terms_is
    ∙ map-append (λ u. u.name) before (t ∷ after))
    (length-map before (λ u. u.name) ∙ sym long ∙ sym (length-map front (λ u. u.name))))

-- each name is new, if they are names that differ, and none is the basic variable's
pub same_names_new : (basic : List ℕ) (known terms : List CutTerm) → HaveDifferentNames known →
    names_of terms ≡ names_of known →
    All (λ t. t.name ≢ basic) terms → (i : ℕ) → AtIndex terms i (MeetsName basic)
same_names_new basic known terms differ same others i before t after place index =
    let long = ap length place ∙ length-append before (t ∷ after) in
    let counted = sym (length-map terms (λ u. u.name)) ∙ ap length same
    ∙ length-map known (λ u. u.name) in
    let s = split_there known i (omega arith) in
    record {
      not_basic = All-head (λ u. u.name ≢ basic) t after
          (All-back (λ u. u.name ≢ basic) before (t ∷ after)
          (subst (All (λ u. u.name ≢ basic)) place others));
      new = new_before known s.before s.after terms before after s.item t s.place place
          (s.index ∙ sym index) same
          (differ i s.before s.item s.after s.place s.index);
    }

-- of a row that meets its rules, the names differ
pub row_names_differ : (rule : CutRule) (l : CutLine) → MeetsCutRow rule l →
    IfCut l (λ basic right terms. HaveDifferentNames terms)
row_names_differ rule (cuts.Cut basic right terms) h =
    λ j before t after place index. (h.cut.1 j before t after place index).name.new
row_names_differ rule (cuts.Skip name right reason) h = tt
