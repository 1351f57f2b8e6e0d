-- Parts that are told apart by how the text begins are exact if both are.
use Rattle.std.proofs.Common.{◌≡◌, ◌↔◌, inl, inr, ℕ, ◌<◌, List, [], ◌∷◌, ◌++◌, length, Bool, IsTrue, Result, Ok, Err, IfErr, refl, sym, ap, subst, ◌∙◌, arith, length-append}
use Rattle.std.specs.Result.{is_ok}
use Rattle.std.specs.Borrow.{Bor}
use Rattle.std.specs.List.{join_with_byte}
use Rattle.std.proofs.lemmas.Bool.{false≢true}
use Rattle.gj_lex.specs.declared.reason.Reason.{Reason}
use Rattle.gj_forms.specs.declared.fault.PartFault.{PartFault}
use Rattle.gj_forms.specs.declared.fault.PartFault.TheVariants.{Refused, Memory}
use Rattle.gj_lex.specs.declared.spelling.Spelling.{Spelling}
use Rattle.gj_lex.specs.declared.spelling.Spelling.TheVariants.{Lenient, Strict}
use Rattle.gj_forms.specs.TextLines.{IsFirstLine, ended, unended, HasNextLine, here, further, HasLine}
use Rattle.gj_forms.specs.Parts.{LineRule, words_rule, line_part, Part, BeginsWithLine, BeginsWithWord, where_part, IsExactPart, IsFaultOf, IsReading, IsPassing, IsRefusal, IsNoLine}
use Rattle.gj_forms.proofs.PartLaws.{one_line, line_or_none}

module _ {A : Type 0} (Begins : List ℕ → Type 0) (p q : Part A)
    (exact : IsExactPart p.Reads p.Faults)
    (exact' : IsExactPart q.Reads q.Faults) where
  thing : (text : List ℕ) (a b : A) (r t : List ℕ) → (where_part Begins p q).Reads text a r →
      (where_part Begins p q).Reads text b t →
      (a ≡ b) × (r ≡ t)
  thing text a b r t (inl (is, h)) (inl (is', k)) = exact.one_thing text a b r t h k
  thing text a b r t (inl (is, h)) (inr (not, k)) = absurd (not is)
  thing text a b r t (inr (not, h)) (inl (is, k)) = absurd (not is)
  thing text a b r t (inr (not, h)) (inr (not', k)) = exact'.one_thing text a b r t h k

  fault : (text r t : List ℕ) (e d : Reason) → (where_part Begins p q).Faults text r e →
      (where_part Begins p q).Faults text t d →
      (r ≡ t) × (e ≡ d)
  fault text r t e d (inl (is, h)) (inl (is', k)) = exact.one_fault text r t e d h k
  fault text r t e d (inl (is, h)) (inr (not, k)) = absurd (not is)
  fault text r t e d (inr (not, h)) (inl (is, k)) = absurd (not is)
  fault text r t e d (inr (not, h)) (inr (not', k)) = exact'.one_fault text r t e d h k

  neither : (text : List ℕ) (a : A) (r t : List ℕ) (e : Reason) →
      (where_part Begins p q).Reads text a r →
      (where_part Begins p q).Faults text t e → ⊥
  neither text a r t e (inl (is, h)) (inl (is', k)) = exact.not_both text a r t e h k
  neither text a r t e (inl (is, h)) (inr (not, k)) = not is
  neither text a r t e (inr (not, h)) (inl (is, k)) = not is
  neither text a r t e (inr (not, h)) (inr (not', k)) = exact'.not_both text a r t e h k

  ends : (text : List ℕ) (a : A) (r : List ℕ) → (where_part Begins p q).Reads text a r →
      (front : List ℕ) × (text ≡ front ++ r)
  ends text a r (inl (is, h)) = exact.rest_ends text a r h
  ends text a r (inr (not, h)) = exact'.rest_ends text a r h

  faults_end : (text t : List ℕ) (e : Reason) → (where_part Begins p q).Faults text t e →
      (front : List ℕ) × (text ≡ front ++ t)
  faults_end text t e (inl (is, h)) = exact.fault_ends text t e h
  faults_end text t e (inr (not, h)) = exact'.fault_ends text t e h

  pub where_part_is_exact : IsExactPart (where_part Begins p q).Reads (where_part Begins p q).Faults
  where_part_is_exact = record {
    one_thing = thing;
    one_fault = fault;
    not_both = neither;
    rest_ends = ends;
    fault_ends = faults_end;
  }

-- ---- what readers answer

pub fault_where : {A : Type 0} (Begins : List ℕ → Type 0) (p q : Part A) (text : List ℕ)
    (e : PartFault) → Begins text →
    IsFaultOf p text e → IsFaultOf (where_part Begins p q) text e
fault_where Begins p q text (Refused left e) is (start, left_is, h) = (start, left_is, inl (is, h))
fault_where Begins p q text (Memory a) is h = tt

pub fault_else : {A : Type 0} (Begins : List ℕ → Type 0) (p q : Part A) (text : List ℕ)
    (e : PartFault) → (Begins text → ⊥) →
    IsFaultOf q text e → IsFaultOf (where_part Begins p q) text e
fault_else Begins p q text (Refused left e) not (start, left_is, h) = (start, left_is, inr (not, h))
fault_else Begins p q text (Memory a) not h = tt

-- what came of reading the part that the text begins with came of reading either
pub reading_where : {A : Type 0} (Begins : List ℕ → Type 0) (p q : Part A) (text : List ℕ)
    (result : Result (A × Bor (List ℕ)) PartFault) → Begins text →
    IsReading p text result → IsReading (where_part Begins p q) text result
reading_where Begins p q text (Ok r) is h = inl (is, h)
reading_where Begins p q text (Err e) is h = fault_where Begins p q text e is h

pub reading_else : {A : Type 0} (Begins : List ℕ → Type 0) (p q : Part A) (text : List ℕ)
    (result : Result (A × Bor (List ℕ)) PartFault) → (Begins text → ⊥) →
    IsReading q text result → IsReading (where_part Begins p q) text result
reading_else Begins p q text (Ok r) not h = inr (not, h)
reading_else Begins p q text (Err e) not h = fault_else Begins p q text e not h

-- ---- how a text begins

-- a text whose next line has some words begins with no other
pub other_line : (s : Spelling) (text start : List ℕ) (words wanted : List (List ℕ))
    (rest : List ℕ) → HasLine s text start words rest →
    (words ≡ wanted → ⊥) → BeginsWithLine s wanted text → ⊥
other_line s text start words wanted rest line other (start', r, is) =
    other (one_line s text start start' words wanted rest r line is).1

-- a text begins with the first word of its next line
pub begun : (s : Spelling) (text start : List ℕ) (words : List (List ℕ)) (word rest : List ℕ) →
    HasLine s text start words rest →
    BeginsWithWord s word text → (more : List (List ℕ)) × (words ≡ word ∷ more)
begun s text start words word rest line (more, (start', r, is)) =
    (more, (one_line s text start start' words (word ∷ more) rest r line is).1)

pub other_word : (s : Spelling) (text start : List ℕ) (words : List (List ℕ)) (word rest : List ℕ) →
    HasLine s text start words rest →
    ((more : List (List ℕ)) → words ≡ word ∷ more → ⊥) → BeginsWithWord s word text → ⊥
other_word s text start words word rest line other is = let more =
    begun s text start words word rest line is in other more.0 more.1

-- the words of a line begin with a word
pub begins_with : (s : Spelling) (text start : List ℕ) (words more : List (List ℕ))
    (word rest : List ℕ) → HasLine s text start words rest →
    words ≡ word ∷ more → BeginsWithWord s word text
begins_with s text start words more word rest line is =
    (more, (start, rest, subst (λ ws. HasLine s text start ws rest) is line))

-- or with none, if there is no line
pub begins_nothing : (s : Spelling) (text word : List ℕ) (e : PartFault) → IsNoLine s text e →
    BeginsWithWord s word text → ⊥
begins_nothing s text word (Refused left e) (start, left_is, none, form) (more, (start', r, is)) =
    line_or_none s text start' start (word ∷ more) r is none
begins_nothing s text word (Memory a) none is = none

-- the words of a line are read
pub begins_so : (s : Spelling) (text rest : List ℕ) (wanted : List (List ℕ)) →
    (line_part s (words_rule wanted)).Reads text tt rest →
    BeginsWithLine s wanted text
begins_so s text rest wanted (start, words, line, is) =
    (start, rest, subst (λ ws. HasLine s text start ws rest) is line)

-- or refused, and never for want of memory
pub begins_otherwise : (s : Spelling) (text : List ℕ) (wanted : List (List ℕ)) (e : PartFault) →
    IsFaultOf (line_part s (words_rule wanted)) text e → IsRefusal e →
    BeginsWithLine s wanted text → ⊥
begins_otherwise s text wanted (Refused left e)
    (start, left_is, inl (words, rest, line, (form, other))) sure is =
    other_line s text start words wanted rest line other is
begins_otherwise s text wanted (Refused left e) (start, left_is, inr (none, form)) sure
    (start', r, line) =
    line_or_none s text start' start wanted r line none
begins_otherwise s text wanted (Memory a) h sure is = sure

-- so the test for these words tells it
pub line_is_told : (s : Spelling) (text : List ℕ) (wanted : List (List ℕ))
    (r : Result (Bor (List ℕ)) PartFault) (told : Bool) →
    told ≡ is_ok r → IsPassing (line_part s (words_rule wanted)) text r → IfErr r IsRefusal →
    IsTrue told ↔ BeginsWithLine s wanted text
line_is_told s text wanted (Ok rest) told is found sure =
    (λ h. begins_so s text rest.now wanted found, λ h. is)
line_is_told s text wanted (Err e) told is fault sure = (
  λ h. absurd (false≢true (sym is ∙ h)),
  λ h. absurd
      (begins_otherwise s text wanted e fault sure h),
)

-- ---- what is left

-- behind a first line less is left
first_is_shorter : (text line rest : List ℕ) → IsFirstLine text line rest →
    length rest < length text
first_is_shorter text line rest (ended all is) =
    omega (arith, ap length is, length-append line (10 ∷ rest))
first_is_shorter text [] rest (unended all is some none) = absurd (some refl)
first_is_shorter text (b ∷ line) rest (unended all is some none) =
    omega (arith, ap length is, ap length none)

next_is_shorter : (start : List ℕ) (words : List (List ℕ)) (rest text : List ℕ) →
    HasNextLine start words rest text → length rest < length text
next_is_shorter start words rest text (here _ at first not) =
    first_is_shorter text first.line rest first.is_first
next_is_shorter start words rest text (further _ skipped next first is more) =
    omega (
      arith,
      first_is_shorter text first.line next first.is_first,
      next_is_shorter start words
          rest next more,
    )

-- behind a line less is left
pub line_is_shorter : (s : Spelling) (text start : List ℕ) (words : List (List ℕ)) (rest : List ℕ) →
    HasLine s text start words rest →
    length rest < length text
line_is_shorter Lenient text start words rest line = next_is_shorter start words rest text line
line_is_shorter Strict text start words rest (at, line) =
    omega (arith, ap length line.spelled, length-append (join_with_byte 32 words) (10 ∷ rest))

pub shorter_behind_line : {A : Type 0} (s : Spelling) (rule : LineRule A) (text rest : List ℕ)
    (a : A) →
    (line_part s rule).Reads text a rest → length rest < length text
shorter_behind_line s rule text rest a (start, words, line, spells) =
    line_is_shorter s text start words rest line
