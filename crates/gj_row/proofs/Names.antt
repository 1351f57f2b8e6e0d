-- The names so far, as the keys of a set.
use Rattle.std.proofs.Common.{◌≡◌, ℕ, Bool, true, false, ◌||◌, List, [], ◌∷◌, ◌++◌, nat_eq, Contains, refl, sym, ap, ◌∙◌}
use Rattle.std.specs.List.{list_any}
use Rattle.std.specs.Cmp.Lexicographic.{pointwise, bytes_decides, nat_list_eq_equiv}
use Rattle.std.proofs.lemmas.Bool.{true≢false}
use Rattle.std.proofs.lemmas.List.{map-append}
use Rattle.std.proofs.lemmas.Map.Views.{list_any-from_Contains}
use Rattle.indexmap.specs.IndexSet.{insert_key}
use Rattle.indexmap.proofs.CallerLemmas.{Contains-list_any}
use Rattle.smallvec.specs.SmallVec.{SmallVec}
use Rattle.gj_row.specs.Reading.{bytes_of}

-- two names have the same bytes
abbrev pub same_bytes : SmallVec ℕ → SmallVec ℕ → Bool
same_bytes x y = pointwise nat_eq x.items y.items

found_among : (keys : List (SmallVec ℕ)) (k : SmallVec ℕ) →
    list_any (same_bytes k) keys ≡ list_any (pointwise nat_eq k.items) (bytes_of keys)
found_among [] k = refl
found_among (x ∷ keys) k = ap (λ b. pointwise nat_eq k.items x.items || b) (found_among keys k)

pub stands_already : (keys : List (SmallVec ℕ)) (k : SmallVec ℕ) →
    list_any (same_bytes k) keys ≡ true → Contains (bytes_of keys) k.items
stands_already keys k h =
    Contains-list_any (pointwise nat_eq) (λ x y e. (bytes_decides x y).0 e) (bytes_of keys) k.items
    (sym (found_among keys k) ∙ h)

pub stands_not : (keys : List (SmallVec ℕ)) (k : SmallVec ℕ) →
    list_any (same_bytes k) keys ≡ false → Contains (bytes_of keys) k.items → ⊥
stands_not keys k h at =
    true≢false (sym (list_any-from_Contains nat_list_eq_equiv k.items (bytes_of keys) at)
    ∙ sym (found_among keys k) ∙ h)

pub name_kept : (keys : List (SmallVec ℕ)) (k : SmallVec ℕ) → list_any (same_bytes k) keys ≡ false →
    bytes_of (insert_key same_bytes keys k) ≡ bytes_of keys ++ k.items ∷ []
name_kept keys k h = rw h (map-append (λ x. x.items) keys (k ∷ []))
