-- What is known of intervals that are joined by limits, and of the lists that lead along them.
use Rattle.std.proofs.Common.{◌≡◌, ℕ, ◌%◌, List}
use Rattle.gj_shape.specs.declared.faces.FaceKind.{FaceKind}
use Rattle.gj_cover.proofs.Classes.{IsLeastList}
use Rattle.gj_cover.proofs.Linked.{AreLinked}
use Rattle.gj_limit_cover.specs.CoverOf.{IsLeastClass}
use Rattle.gj_limit_cover.specs.LimitCover.{AreJoined, LeadsTo, here, onward}
use Rattle.gj_limit_cover.specs.Linking.{limit_linking}
use Rattle.gj_limit_cover.proofs.Joining.{joined_same, joined_turned, directly_same, leads_on, leads_turned}

steps : (q : ℕ) (T : FaceKind → ℕ → ℕ → ℕ → Type 0) (P : ℕ → Type 0) (j : ℕ) →
    ((i : ℕ) → i % q ≡ j % q → P i) → ((i next : ℕ) → AreJoined q T i next → P next → P i) →
    (i : ℕ) → LeadsTo q T j i → P i
steps q T P j first more i (here _ e) = first i e
steps q T P j first more i (onward _ next a rest) =
    more i next a (steps q T P j first more next rest)

pub limit_linked : (q : ℕ) (T : FaceKind → ℕ → ℕ → ℕ → Type 0) → AreLinked (limit_linking q T)
limit_linked q T = record {
  turned = joined_turned q T;
  same = joined_same q T;
  direct = directly_same q T;
  first = λ i j e. here i e;
  next = λ i next j a rest. onward i next a rest;
  back = λ i j list. leads_turned q T j i list;
  through = leads_on q T;
  along = steps q T;
}

pub limit_class : (q : ℕ) (T : FaceKind → ℕ → ℕ → ℕ → Type 0) (class : List ℕ) →
    IsLeastList (limit_linking q T) class → IsLeastClass q T class
limit_class q T class h =
    record { ascending = h.ascending; members = h.members; none = h.none }
