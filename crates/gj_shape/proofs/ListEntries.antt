-- Lists by their entries.
use Rattle.std.proofs.Common.{◌≡◌, ℕ, ◌+◌, ◌*◌, ◌%◌, ◌<◌, ◌≤◌, ◌^◌, ℤ, pos, List, [], ◌∷◌, ◌++◌, length, get_or, All, unsigned_abs, refl, sym, ap, subst, ◌∙◌, below_more, arith}
use Rattle.std.proofs.lemmas.List.{get_or_default, get_or_append_left, get_or_push, length_push, same_lists}
use Rattle.std.proofs.Math.Nat.{mod-lt}
use Rattle.gj_shape.specs.FunctionData.{IsSmallOver, at}
use Rattle.gj_shape.proofs.AtLemmas.{at_below, at_wrapped}
use Rattle.gj_shape.specs.Entries.{HasEntries}

-- one more entry
pub entries_push : (t : ℕ → ℤ) (n : ℕ) (xs : List ℤ) (x : ℤ) → HasEntries t n xs → x ≡ t n →
    HasEntries t (n + 1) (xs ++ x ∷ [])
entries_push t n xs x h e =
    let more = length_push xs x in
    let len = h.length_is in
    let P : ℕ → Type 0 = λ i. at (xs ++ x ∷ []) i ≡ t i in
    let before : (i : ℕ) → i < n → P i = λ i l.
    let small : i < length xs = omega arith in
    at_below (xs ++ x ∷ []) i (omega arith) ∙ get_or_append_left xs (x ∷ []) (pos 0) i small
    ∙ sym (at_below xs i small) ∙ h.entry_is i l in
    let here : P n = at_below (xs ++ x ∷ []) n (omega arith) ∙ get_or_push xs x (pos 0) n len ∙ e in
    record {
      length_is = more ∙ ap (λ k. k + 1) len;
      entry_is = λ i l. below_more P n before here i l;
    }

-- they are small if the numbers are
pub entries_small : (t : ℕ → ℤ) (n d : ℕ) (xs : List ℤ) → HasEntries t n xs →
    ((i : ℕ) → i < n → unsigned_abs (t i) ≤ 2 ^ 20 * d) →
    All (IsSmallOver d) xs
entries_small t n d xs h small k e l =
    let len = h.length_is in
    let is : get_or xs k e ≡ t k = get_or_default xs k e (pos 0) l ∙ sym (at_below xs k l)
    ∙ h.entry_is k (omega arith) in
    subst (IsSmallOver d) (sym is) (small k (omega arith))

-- lists with equal entries are equal
pub same_entries : (xs ys : List ℤ) → length xs ≡ length ys → ((i : ℕ) → at xs i ≡ at ys i) →
    xs ≡ ys
same_entries xs ys e same =
    same_lists xs ys e (λ k d h.
    let in_ys : k < length ys = omega arith in
    get_or_default xs k d (pos 0) h ∙ sym (at_below xs k h) ∙ same k ∙ at_below ys k in_ys
    ∙ get_or_default ys k (pos 0) d in_ys)

-- the same for a list that was made so
pub entries_pushed : (t : ℕ → ℤ) (n : ℕ) (xs ys : List ℤ) (x : ℤ) → HasEntries t n xs →
    ys ≡ xs ++ x ∷ [] → x ≡ t n →
    HasEntries t (n + 1) ys
entries_pushed t n xs ys x h made e =
    subst (HasEntries t (n + 1)) (sym made) (entries_push t n xs x h e)

-- the entries at every index, if the numbers go by the remainder of the index
pub entries_everywhere : (t : ℕ → ℤ) (n : ℕ) (xs : List ℤ) → HasEntries t n xs → 0 < n →
    ((i : ℕ) → t (i % n) ≡ t i) →
    (i : ℕ) → at xs i ≡ t i
entries_everywhere t n xs h some same i =
    sym (at_wrapped xs i (i % n) n h.length_is refl) ∙ h.entry_is (i % n) (mod-lt i some) ∙ same i
