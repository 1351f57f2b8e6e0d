-- Lists and keys of values that the reader looks at.
use Rattle.std.proofs.Common.{◌≡◌, ◌↔◌, ℕ, ◌<◌, List, [], ◌∷◌, map, length, Bool, IsTrue, Some, refl, sym, ap, subst, ◌∙◌, string_bytes, String, Global}
use Rattle.std.specs.List.{All}
use Rattle.std.specs.Map as map
use Rattle.std.proofs.lemmas.List.{get_or-map, length-map}
use Rattle.std.proofs.lemmas.List.Elements.{All-map}
use Rattle.gj_lemmas.proofs.Choices.{same_some}
use Rattle.serde_json.specs.Find.{as_object}
use Rattle.serde_json.specs.Data.{Data}
use Rattle.serde_json.specs.View.{view, items_of, members_view}
use Rattle.serde_json.specs.declared.value.Value.{Value}
use Rattle.gj_json.specs.JsonFunction.{list_of, keys_of, IsKey, IsEntry, HasOnlyKeys, AreEntries}

pub list_of_items : (ds : List Data) → list_of (items_of ds) ≡ ds
list_of_items [] = refl
list_of_items (d ∷ ds) = ap (λ xs. d ∷ xs) (list_of_items ds)

-- the same keys, as the map has them
pub keys_of_map : (es : List (String Global × Value)) →
    keys_of (members_view es) ≡ map string_bytes (map.keys_of es)
keys_of_map [] = refl
keys_of_map (e ∷ es) = ap (λ xs. string_bytes e.0 ∷ xs) (keys_of_map es)

-- what holds of each mapped element
pub all_from_map : {A B : Type 0} (f : A → B) (P : B → Type 0) (xs : List A) → All P (map f xs) →
    All (λ x. P (f x)) xs
all_from_map f P xs h k d within =
    subst P (get_or-map f xs k d (f d) within)
    (h k (f d) (subst (λ n. k < n) (sym (length-map xs f)) within))

abbrev KeyIs : String Global → Type 0
KeyIs key = IsKey (string_bytes key)

-- an object has only the keys of a function if its map has
pub only_keys : (d : Data) (es : List (String Global × Value)) (b : Bool) →
    Some (members_view es) ≡ as_object d →
    IsTrue b ↔ All KeyIs (map.keys_of es) → IsTrue b ↔ HasOnlyKeys d
only_keys d es b is test = (
  λ t. (
    members_view es,
    sym is,
    subst (All IsKey) (sym (keys_of_map es))
        (All-map IsKey string_bytes (map.keys_of es) (test.0 t)),
  ),
  λ h. test.1 (all_from_map string_bytes IsKey (map.keys_of es)
      (subst (All IsKey) (ap keys_of (same_some h.0 (members_view es) (sym h.1 ∙ sym is))
      ∙ keys_of_map es) h.2)),
)

-- values are entries if each is
pub entries_along : (vs : List Value) (n : ℕ) (b : Bool) → length vs ≡ n →
    IsTrue b ↔ All (λ v. IsEntry (view v)) vs →
    IsTrue b ↔ AreEntries n (map view vs)
entries_along vs n b long test = (
  λ t. (length-map vs view ∙ long, All-map IsEntry view vs (test.0 t)),
  λ h. test.1 (all_from_map view IsEntry vs h.1),
)
