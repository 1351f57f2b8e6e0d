-- The number of a line, and where it begins.
use Rattle.std.proofs.Common.{◌≡◌, ℕ, ◌+◌, ◌-◌, ◌≤◌, List, ◌++◌, length, take, drop, refl, ap, subst, ◌∙◌, arith, length-append, take-append-drop}
use Rattle.std.proofs.lemmas.List.{drop_at}
use Rattle.std.proofs.lemmas.List.Sums.{sum_by-append}
use Rattle.gj_lex.specs.declared.reason.Reason.{Reason}
use Rattle.gj_forms.specs.declared.fault.PartFault.TheVariants.{Refused}
use Rattle.gj_forms.specs.TextLines.{line_feeds, IsLineNumber}
use Rattle.gj_forms.specs.Parts.{Part, IsExactPart, IsFaultOf, IsFirstFaultIn}

-- the LF of two parts
pub line_feeds_append : (front start : List ℕ) →
    line_feeds (front ++ start) ≡ line_feeds front + line_feeds start
line_feeds_append front start = sum_by-append _ front start

-- a text is what stands before its last bytes, and those
pub number_of_cut : (text : List ℕ) (k n : ℕ) → n ≡ line_feeds (take k text) + 1 →
    IsLineNumber text (drop k text) n
number_of_cut text k n e =
    omega (
      arith,
      line_feeds_append (take k text) (drop k text),
      ap line_feeds
          (take-append-drop k text),
    )

-- what ends a text is its last bytes
pub end_at_length : (text start : List ℕ) (left : ℕ) → left ≡ length start →
    (front : List ℕ) × (text ≡ front ++ start) →
    drop (length text - left) text ≡ start
end_at_length text start left left_is (front, is) =
    let long : length front ≡ length text - left =
    omega (arith, ap length is, length-append front start) in
    ap (drop (length text - left)) is ∙ drop_at front start (length text - left) long

-- and is not longer
pub end_not_longer : (text start : List ℕ) (left : ℕ) → left ≡ length start →
    (front : List ℕ) × (text ≡ front ++ start) →
    left ≤ length text
end_not_longer text start left left_is (front, is) =
    omega (arith, ap length is, length-append front start)

module _ {A : Type 0} (p : Part A) (exact : IsExactPart p.Reads p.Faults) where
  -- the fault of a text, told by the number of its line
  pub first_fault_of : (text : List ℕ) (left n : ℕ) (e : Reason) →
      IsFaultOf p text (Refused left e) →
      IsLineNumber text (drop (length text - left) text) n → IsFirstFaultIn p text n e
  first_fault_of text left n e (start, left_is, fault) number = (
    start,
    fault,
    subst (λ s. IsLineNumber text s n)
        (end_at_length text start left left_is (exact.fault_ends text start e fault)) number,
  )

  -- what is read before a rest ends where that begins
  pub rest_at_length : (text : List ℕ) (a : A) (rest : List ℕ) → p.Reads text a rest →
      drop (length text - length rest) text ≡ rest
  rest_at_length text a rest h =
      end_at_length text rest (length rest) refl (exact.rest_ends text a rest h)

  -- and a rest is not longer than the text
  pub rest_not_longer : (text : List ℕ) (a : A) (rest : List ℕ) → p.Reads text a rest →
      length rest ≤ length text
  rest_not_longer text a rest h =
      end_not_longer text rest (length rest) refl (exact.rest_ends text a rest h)

  -- a text that reads has no fault
  pub no_fault_of : (text : List ℕ) (a : A) (rest : List ℕ) (left : ℕ) (e : Reason) →
      p.Reads text a rest →
      IsFaultOf p text (Refused left e) → ⊥
  no_fault_of text a rest left e reads (start, left_is, fault) =
      exact.not_both text a rest start e reads fault

  -- a text has one first fault
  pub one_first_fault : (text : List ℕ) (n m : ℕ) (e d : Reason) → IsFirstFaultIn p text n e →
      IsFirstFaultIn p text m d →
      (n ≡ m) × (e ≡ d)
  one_first_fault text n m e d (start, fault, number) (start', fault', number') =
      let same = exact.one_fault text start start' e d fault fault' in
      let feeds = ap line_feeds same.0 in
      (omega arith, same.1)

  -- and none if it reads
  pub no_first_fault : (text : List ℕ) (a : A) (rest : List ℕ) (n : ℕ) (e : Reason) →
      p.Reads text a rest →
      IsFirstFaultIn p text n e → ⊥
  no_first_fault text a rest n e reads (start, fault, number) =
      exact.not_both text a rest start e reads fault
