-- What is known of joined intervals and of the lists that lead along them.
use Rattle.std.proofs.Common.{◌≡◌, ℕ, ◌%◌, refl, sym}
use Rattle.std.proofs.Math.Nat.{mod-mod}
use Rattle.gj_shape.specs.Cover.{AreJoined, LeadsTo, here, onward}
use Rattle.gj_cover.specs.Linking.{Linking, Covered, tight_linking}
use Rattle.gj_cover.proofs.Joining.{joined_same, directly_same}
use Rattle.gj_theory.proofs.CoverPaths.{joined_turned, leads_turned, leads_through}

pub record AreLinked (l : Linking) : Type 1 where
  pub turned : (i j : ℕ) → l.Joined i j → l.Joined j i
  pub same : (i j k : ℕ) → i % l.order ≡ k % l.order → l.Joined i j → l.Joined k j
  pub direct : (i k : ℕ) → i % l.order ≡ k % l.order → l.Direct i → l.Direct k
  pub first : (i j : ℕ) → i % l.order ≡ j % l.order → l.Leads j i
  pub next : (i next j : ℕ) → l.Joined i next → l.Leads j next → l.Leads j i
  pub back : (i j : ℕ) → l.Leads j i → l.Leads i j
  pub through : (k j i : ℕ) → l.Leads j i → l.Leads k j → l.Leads k i
  pub along : (P : ℕ → Type 0) (j : ℕ) → ((i : ℕ) → i % l.order ≡ j % l.order → P i) →
      ((i next : ℕ) → l.Joined i next → P next → P i) → (i : ℕ) → l.Leads j i → P i

module _ (l : Linking) (laws : AreLinked l) where
  -- both intervals as indices below the order
  pub joined_rests : (i j : ℕ) → l.Joined i j → l.Joined (i % l.order) (j % l.order)
  joined_rests i j h =
      laws.turned (j % l.order) (i % l.order)
      (laws.same j (i % l.order) (j % l.order) (sym (mod-mod j l.order))
      (laws.turned (i % l.order) j (laws.same i j (i % l.order) (sym (mod-mod i l.order)) h)))

  -- an interval that is joined to a covered one is covered
  pub covered_next : (i j : ℕ) → l.Joined i j → Covered l j → Covered l i
  covered_next i j h (k, direct, list) = (
    k,
    direct,
    laws.through i j k list (laws.next j i i (laws.turned i j h) (laws.first i i refl)),
  )

  pub covered_first : (i : ℕ) → l.Direct i → Covered l i
  covered_first i h = (i, h, laws.first i i refl)

-- ---- by tight pairs

steps : (q : ℕ) (T : ℕ → ℕ → Type 0) (P : ℕ → Type 0) (j : ℕ) → ((i : ℕ) → i % q ≡ j % q → P i) →
    ((i next : ℕ) → AreJoined q T i next → P next → P i) → (i : ℕ) → LeadsTo q T j i → P i
steps q T P j first more i (here _ e) = first i e
steps q T P j first more i (onward _ next a rest) =
    more i next a (steps q T P j first more next rest)

pub tight_linked : (q : ℕ) (T : ℕ → ℕ → Type 0) → AreLinked (tight_linking q T)
tight_linked q T = record {
  turned = joined_turned q T;
  same = joined_same q T;
  direct = directly_same q T;
  first = λ i j e. here i e;
  next = λ i next j a rest. onward i next a rest;
  back = λ i j list. leads_turned q T j i list;
  through = λ k j i list last. leads_through q T k j i last list;
  along = steps q T;
}
