-- The words of record 1, and names one after the other.
use Rattle.std.proofs.Common.{◌≡◌, ◌≢◌, ℕ, ◌+◌, ◌<◌, ◌≤◌, List, [], ◌∷◌, ◌++◌, Some, slice_get, length, drop, refl, sym, ap, ◌∙◌, arith}
use Rattle.std.proofs.lemmas.List.Elements.{All-push}
use Rattle.std.proofs.lemmas.List.Quantifiers.{all_pairs_push}
use Rattle.std.proofs.lemmas.List.{get_or_default}
use Rattle.gj_lex.specs.Name.{IsName}
use Rattle.gj_row.specs.TableauLimits.{AreNames}
use Rattle.gj_row.specs.TableauText.{header_of}
use Rattle.gj_row.specs.FirstFault.{BreaksName, IsNewName, HasHeaderFault, columns, name}
use Rattle.gj_row.specs.declared.faults.RowReason.{RowReason}
use Rattle.gj_row.specs.declared.faults.RowReason.TheVariants.{Columns}

-- a record begins with two words
pub first_two : (a b : List ℕ) (words : List (List ℕ)) → slice_get words 0 ≡ Some a →
    slice_get words 1 ≡ Some b →
    (rest : List (List ℕ)) × (words ≡ a ∷ b ∷ rest)
first_two a b [] h k = cc h
first_two a b (x ∷ []) h k = cc k
first_two a b (x ∷ y ∷ words) h k = let one : x ≡ a = cc h in let two : y ≡ b = cc k in (words, cc)

-- a new name at the end
pub names_with : (names : List (List ℕ)) (word : List ℕ) → AreNames names → IsNewName names word →
    AreNames (names ++ word ∷ [])
names_with names word h new = record {
  valid = All-push IsName names word h.valid new.valid;
  differ = all_pairs_push (λ a b. a ≢ b) names word h.differ
      (λ k d within e. new.differs (k, within, get_or_default names k word d within ∙ e));
}

pub too_many_columns : (words : List (List ℕ)) (rows : List (List (List ℕ))) →
    (cols : List (List ℕ)) × (words ≡ header_of cols) →
    10002 < length words → HasHeaderFault (words ∷ rows) Columns
too_many_columns words rows begins many =
    let count : length words ≡ length begins.0 + 2 = ap length begins.1 ∙ omega arith in
    columns begins.0 rows (ap (λ w. w ∷ rows) begins.1) (omega arith) refl

pub column_fault : (words : List (List ℕ)) (rows : List (List (List ℕ))) (e : RowReason)
    (front back : List (List ℕ)) (word : List ℕ) →
    (cols : List (List ℕ)) × (words ≡ header_of cols) → length words ≤ 10002 →
    drop 2 words ≡ front ++ word ∷ back → AreNames front →
    BreaksName front word e → HasHeaderFault (words ∷ rows) e
column_fault words rows e front back word begins few place good breaks =
    let count : length words ≡ length begins.0 + 2 = ap length begins.1 ∙ omega arith in
    name begins.0 rows (ap (λ w. w ∷ rows) begins.1) (omega arith) record {
      front = front;
      word = word;
      back = back;
      place = sym (ap (drop 2) begins.1) ∙ place;
      good = good;
      breaks = breaks;
    }

pub behind_header : (words : List (List ℕ)) → (cols : List (List ℕ)) × (words ≡ header_of cols) →
    words ≡ header_of (drop 2 words)
behind_header words begins = begins.1 ∙ ap header_of (sym (ap (drop 2) begins.1))
