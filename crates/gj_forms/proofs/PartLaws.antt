-- Laws of parts: each is exact that is made of exact ones.
use Rattle.std.proofs.Common.{◌≡◌, inl, inr, ℕ, List, [], ◌++◌, length, Result, Ok, Err, IfErr, refl, sym, ap, subst, ◌∙◌, append-nil, append_assoc}
use Rattle.std.specs.Borrow.{Bor}
use Rattle.gj_lex.specs.declared.spelling.Spelling.{Spelling}
use Rattle.gj_lex.specs.declared.spelling.Spelling.TheVariants.{Lenient, Strict}
use Rattle.gj_lex.specs.declared.reason.Reason.{Reason}
use Rattle.gj_forms.specs.declared.fault.PartFault.{PartFault}
use Rattle.gj_forms.specs.declared.fault.PartFault.TheVariants.{Refused, Memory}
use Rattle.gj_forms.specs.declared.line_fault.LineFault.{LineFault}
use Rattle.gj_forms.specs.declared.line_fault.LineFault.TheVariants.{Broken}
use Rattle.gj_forms.specs.declared.line_fault.LineFault.TheVariants as of_line
use Rattle.gj_forms.specs.LineFaults.{IsRefusedFor}
use Rattle.gj_forms.specs.TextLines.{HasLine, HasNoLine, HasNothing, HasSomething}
use Rattle.gj_forms.specs.Parts.{LineRule, words_rule, Part, line_part, empty_part, then_part, made_part, framed_part, end_part, IsExactRule, IsExactPart, IsFaultOf, IsReading, IsNoLine, IsTail}
use Rattle.gj_forms.proofs.LenientLines.{one_next_line, next_not_skipped, next_suffix}
use Rattle.gj_forms.proofs.StrictLines.{one_strict_line, strict_suffix}

-- ---- lines

-- a text has one next line
pub one_line : (sp : Spelling) (text s t : List ℕ) (ws vs : List (List ℕ)) (r q : List ℕ) →
    HasLine sp text s ws r →
    HasLine sp text t vs q → (s ≡ t) × (ws ≡ vs) × (r ≡ q)
one_line Lenient text s t ws vs r q h k = one_next_line s t ws vs r q text h k
one_line Strict text s t ws vs r q (at, h) (at', k) =
    let same = one_strict_line text ws vs r q h k in (at ∙ sym at', same.0, same.1)

-- or none
pub line_or_none : (sp : Spelling) (text s t : List ℕ) (ws : List (List ℕ)) (r : List ℕ) →
    HasLine sp text s ws r →
    HasNoLine sp text t → ⊥
line_or_none Lenient text s t ws r h (at, none) = next_not_skipped s ws r text h none
line_or_none Strict text s t ws r (at, h) (at', none) = none ws r h

-- which shows at one place
pub one_place : (sp : Spelling) (text s t : List ℕ) → HasNoLine sp text s → HasNoLine sp text t →
    s ≡ t
one_place Lenient text s t h k = h.0 ∙ sym k.0
one_place Strict text s t h k = h.0 ∙ sym k.0

-- at the end of the text
pub no_line_ends : (sp : Spelling) (text s : List ℕ) → HasNoLine sp text s →
    (front : List ℕ) × (text ≡ front ++ s)
no_line_ends Lenient text s h = (text, sym (ap (λ t. text ++ t) h.0 ∙ append-nil text))
no_line_ends Strict text s h = ([], sym h.0)

-- a line begins within the text
pub line_ends : (sp : Spelling) (text s : List ℕ) (ws : List (List ℕ)) (r : List ℕ) →
    HasLine sp text s ws r →
    (front : List ℕ) × (text ≡ front ++ s)
line_ends Lenient text s ws r h = let part = next_suffix s ws r text h in (part.0, part.2)
line_ends Strict text s ws r h = ([], sym h.0)

-- and the rest behind it ends the text
pub rest_ends : (sp : Spelling) (text s : List ℕ) (ws : List (List ℕ)) (r : List ℕ) →
    HasLine sp text s ws r →
    (front : List ℕ) × (text ≡ front ++ r)
rest_ends Lenient text s ws r h =
    let part = next_suffix s ws r text h in
    (part.0 ++ part.1, part.2 ∙ ap (λ t. part.0 ++ t) part.3 ∙ sym (append_assoc part.0 part.1 r))
rest_ends Strict text s ws r h = strict_suffix text ws r h.1

-- what ends the end of a text ends the text
pub ends_in_turn : (text middle end : List ℕ) → (front : List ℕ) × (text ≡ front ++ middle) →
    (front : List ℕ) × (middle ≡ front ++ end) → (front : List ℕ) × (text ≡ front ++ end)
ends_in_turn text middle end (front, is) (more, is') =
    (front ++ more, is ∙ ap (λ t. front ++ t) is' ∙ sym (append_assoc front more end))

-- ---- rules

pub words_rule_is_exact : (wanted : List (List ℕ)) →
    IsExactRule (words_rule wanted).Spells (words_rule wanted).Breaks
words_rule_is_exact wanted = record {
  one_thing = λ words a b h k. refl;
  one_reason = λ words e d h k. h.0 ∙ sym k.0;
  not_both = λ words a e h k. k.1 h;
}

-- ---- parts

module _ {A : Type 0} (sp : Spelling) (rule : LineRule A)
    (exact : IsExactRule rule.Spells rule.Breaks) where
  line_thing : (text : List ℕ) (a b : A) (r t : List ℕ) → (line_part sp rule).Reads text a r →
      (line_part sp rule).Reads text b t →
      (a ≡ b) × (r ≡ t)
  line_thing text a b r t (s, ws, line, is) (s', vs, line', is') =
      let same = one_line sp text s s' ws vs r t line line' in
      (exact.one_thing vs a b (subst (λ words. rule.Spells words a) same.1 is) is', same.2)

  line_fault : (text s t : List ℕ) (e d : Reason) → (line_part sp rule).Faults text s e →
      (line_part sp rule).Faults text t d →
      (s ≡ t) × (e ≡ d)
  line_fault text s t e d (inl (ws, r, line, broken)) (inl (vs, q, line', broken')) =
      let same = one_line sp text s t ws vs r q line line' in
      (same.0, exact.one_reason vs e d (subst (λ words. rule.Breaks words e) same.1 broken) broken')
  line_fault text s t e d (inl (ws, r, line, broken)) (inr (none, is)) =
      absurd (line_or_none sp text s t ws r line none)
  line_fault text s t e d (inr (none, is)) (inl (ws, r, line, broken)) =
      absurd (line_or_none sp text t s ws r line none)
  line_fault text s t e d (inr (none, is)) (inr (none', is')) =
      (one_place sp text s t none none', is ∙ sym is')

  line_not_both : (text : List ℕ) (a : A) (r t : List ℕ) (e : Reason) →
      (line_part sp rule).Reads text a r →
      (line_part sp rule).Faults text t e → ⊥
  line_not_both text a r t e (s, ws, line, is) (inl (vs, q, line', broken)) =
      let same = one_line sp text s t ws vs r q line line' in
      exact.not_both vs a e (subst (λ words. rule.Spells words a) same.1 is) broken
  line_not_both text a r t e (s, ws, line, is) (inr (none, form)) =
      line_or_none sp text s t ws r line none

  line_fault_ends : (text t : List ℕ) (e : Reason) → (line_part sp rule).Faults text t e →
      (front : List ℕ) × (text ≡ front ++ t)
  line_fault_ends text t e (inl (ws, r, line, broken)) = line_ends sp text t ws r line
  line_fault_ends text t e (inr (none, form)) = no_line_ends sp text t none

  pub line_part_is_exact : IsExactPart (line_part sp rule).Reads (line_part sp rule).Faults
  line_part_is_exact = record {
    one_thing = line_thing;
    one_fault = line_fault;
    not_both = line_not_both;
    rest_ends = λ text a r h. rest_ends sp text h.0 h.1 r h.2;
    fault_ends = line_fault_ends;
  }

pub empty_part_is_exact : {A : Type 0} (a : A) →
    IsExactPart (empty_part a).Reads (empty_part a).Faults
empty_part_is_exact a = record {
  one_thing = λ text b c r t h k. (h.0 ∙ sym k.0, sym h.1 ∙ k.1);
  one_fault = λ text r t e d h k. absurd h;
  not_both = λ text b r t e h k. k;
  rest_ends = λ text b r h. ([], h.1);
  fault_ends = λ text t e h. absurd h;
}

-- a part and one behind it are exact if the second is exact for each thing that the first reads
module _ {A B : Type 0} (p : Part A) (next : A → Part B) (exact : IsExactPart p.Reads p.Faults)
    (exact_next : (text : List ℕ) (a : A) (m : List ℕ) → p.Reads text a m →
    IsExactPart (next a).Reads (next a).Faults) where
  -- behind the first part both go on in the same way
  next_reads : (text : List ℕ) (a a' : A) (m m' : List ℕ) (b : B) (r : List ℕ) → p.Reads text a m →
      p.Reads text a' m' →
      (next a).Reads m b r → (next a').Reads m' b r
  next_reads text a a' m m' b r h k n =
      let same = exact.one_thing text a a' m m' h k in
      subst (λ t. (next a').Reads t b r) same.1 (subst (λ (x : A). (next x).Reads m b r) same.0 n)

  next_faults : (text : List ℕ) (a a' : A) (m m' s : List ℕ) (e : Reason) → p.Reads text a m →
      p.Reads text a' m' →
      (next a).Faults m s e → (next a').Faults m' s e
  next_faults text a a' m m' s e h k n =
      let same = exact.one_thing text a a' m m' h k in
      subst (λ t. (next a').Faults t s e) same.1 (subst (λ (x : A). (next x).Faults m s e) same.0 n)

  then_thing : (text : List ℕ) (b c : B) (r t : List ℕ) → (then_part p next).Reads text b r →
      (then_part p next).Reads text c t →
      (b ≡ c) × (r ≡ t)
  then_thing text b c r t (a, m, h, n) (a', m', h', n') =
      (exact_next text a' m' h').one_thing m' b c r t (next_reads text a a' m m' b r h h' n) n'

  then_fault : (text s t : List ℕ) (e d : Reason) → (then_part p next).Faults text s e →
      (then_part p next).Faults text t d →
      (s ≡ t) × (e ≡ d)
  then_fault text s t e d (inl f) (inl g) = exact.one_fault text s t e d f g
  then_fault text s t e d (inl f) (inr (a, m, h, g)) = absurd (exact.not_both text a m s e h f)
  then_fault text s t e d (inr (a, m, h, f)) (inl g) = absurd (exact.not_both text a m t d h g)
  then_fault text s t e d (inr (a, m, h, f)) (inr (a', m', h', g)) =
      (exact_next text a' m' h').one_fault m' s t e d (next_faults text a a' m m' s e h h' f) g

  then_not_both : (text : List ℕ) (b : B) (r t : List ℕ) (e : Reason) →
      (then_part p next).Reads text b r →
      (then_part p next).Faults text t e → ⊥
  then_not_both text b r t e (a, m, h, n) (inl f) = exact.not_both text a m t e h f
  then_not_both text b r t e (a, m, h, n) (inr (a', m', h', f)) =
      (exact_next text a' m' h').not_both m' b r t e (next_reads text a a' m m' b r h h' n) f

  then_fault_ends : (text t : List ℕ) (e : Reason) → (then_part p next).Faults text t e →
      (front : List ℕ) × (text ≡ front ++ t)
  then_fault_ends text t e (inl f) = exact.fault_ends text t e f
  then_fault_ends text t e (inr (a, m, h, f)) =
      ends_in_turn text m t (exact.rest_ends text a m h)
      ((exact_next text a m h).fault_ends m t e f)

  pub then_read_is_exact : IsExactPart (then_part p next).Reads (then_part p next).Faults
  then_read_is_exact = record {
    one_thing = then_thing;
    one_fault = then_fault;
    not_both = then_not_both;
    rest_ends = λ text b r h.
        ends_in_turn text h.1 r (exact.rest_ends text h.0 h.1 h.2)
        ((exact_next text h.0 h.1 h.2).rest_ends h.1 b r h.3);
    fault_ends = then_fault_ends;
  }

-- or for each thing at all
pub then_part_is_exact : {A B : Type 0} (p : Part A) (next : A → Part B) →
    IsExactPart p.Reads p.Faults →
    ((a : A) → IsExactPart (next a).Reads (next a).Faults) →
    IsExactPart (then_part p next).Reads (then_part p next).Faults
then_part_is_exact p next exact exact_next =
    then_read_is_exact p next exact (λ text a m h. exact_next a)

module _ {A B : Type 0} (Makes : A → B → Type 0) (one : (a : A) (b c : B) → Makes a b → Makes a c →
    b ≡ c) (p : Part A)
    (exact : IsExactPart p.Reads p.Faults) where
  pub made_part_is_exact : IsExactPart (made_part Makes p).Reads (made_part Makes p).Faults
  made_part_is_exact = record {
    one_thing = λ text b c r t h k.
        let same = exact.one_thing text h.0 k.0 r t h.1 k.1 in
        (one k.0 b c (subst (λ (x : A). Makes x b) same.0 h.2) k.2, same.1);
    one_fault = exact.one_fault;
    not_both = λ text b r t e h k. exact.not_both text h.0 r t e h.1 k;
    rest_ends = λ text b r h. exact.rest_ends text h.0 r h.1;
    fault_ends = exact.fault_ends;
  }

pub framed_part_is_exact : {A : Type 0} (s : Spelling) (title : List (List ℕ)) (p : Part A)
    (end : List (List ℕ)) →
    IsExactPart p.Reads p.Faults →
    IsExactPart (framed_part s title p end).Reads (framed_part s title p end).Faults
framed_part_is_exact s title p end exact =
    let end_line = line_part s (words_rule end) in
    then_part_is_exact (line_part s (words_rule title))
    (λ t. then_part p (λ a. then_part end_line (λ t. empty_part a)))
    (line_part_is_exact s (words_rule title) (words_rule_is_exact title))
    (λ t. then_part_is_exact p (λ a. then_part end_line (λ t. empty_part a)) exact
    (λ a. then_part_is_exact end_line (λ t. empty_part a)
    (line_part_is_exact s (words_rule end) (words_rule_is_exact end))
    (λ t. empty_part_is_exact a)))

-- ---- the end of a text

-- nothing follows, or something
pub nothing_or_something : (sp : Spelling) (text s : List ℕ) → HasNothing sp text →
    HasSomething sp text s → ⊥
nothing_or_something Lenient text s h (ws, r, line) = next_not_skipped s ws r text line h
nothing_or_something Strict text s h (at, some) = some h

-- which shows at one place
pub one_something : (sp : Spelling) (text s t : List ℕ) → HasSomething sp text s →
    HasSomething sp text t → s ≡ t
one_something Lenient text s t (ws, r, line) (vs, q, line') =
    (one_next_line s t ws vs r q text line line').0
one_something Strict text s t h k = h.0 ∙ sym k.0

-- within the text
pub something_ends : (sp : Spelling) (text s : List ℕ) → HasSomething sp text s →
    (front : List ℕ) × (text ≡ front ++ s)
something_ends Lenient text s (ws, r, line) = let part = next_suffix s ws r text line in
    (part.0, part.2)
something_ends Strict text s h = ([], sym h.0)

pub end_part_is_exact : {A : Type 0} (sp : Spelling) (a : A) →
    IsExactPart (end_part sp a).Reads (end_part sp a).Faults
end_part_is_exact sp a = record {
  one_thing = λ text b c r t h k. (h.0 ∙ sym k.0, sym h.1 ∙ k.1);
  one_fault = λ text r t e d h k. (one_something sp text r t h.0 k.0, h.1 ∙ sym k.1);
  not_both = λ text b r t e h k. nothing_or_something sp text t h.2 k.0;
  rest_ends = λ text b r h. ([], h.1);
  fault_ends = λ text t e h. something_ends sp text t h.0;
}

-- ---- what readers answer

-- an error that is passed on has what the callee's has
pub passed_on : {T E : Type 0} (Q : E → Type 0) (e y : E) (r : Result T E) → r ≡ Err y → y ≡ e →
    Q e → IfErr r Q
passed_on Q e y r is same h = rw (is, same) h

-- a refusal for one reason is one for another that follows from it
pub refused_for : (P Q : Reason → Type 0) (e : LineFault) → ((d : Reason) → P d → Q d) →
    IsRefusedFor P e → IsRefusedFor Q e
refused_for P Q (Broken d) step h = step d h
refused_for P Q (of_line.Memory a) step h = tt

module _ {A : Type 0} (sp : Spelling) (rule : LineRule A) where
  -- a line breaks the rule
  pub line_refused : (text start : List ℕ) (words : List (List ℕ)) (rest : List ℕ) (e : Reason)
      (fault : PartFault) →
      HasLine sp text start words rest → rule.Breaks words e → fault ≡ Refused (length start) e →
      IsFaultOf (line_part sp rule) text fault
  line_refused text start words rest e fault line broken is =
      subst (IsFaultOf (line_part sp rule) text) (sym is)
      (start, refl, inl (words, rest, line, broken))

  -- there is no line
  pub no_line_refused : (text : List ℕ) (fault : PartFault) → IsNoLine sp text fault →
      IsFaultOf (line_part sp rule) text fault
  no_line_refused text (Refused left e) (start, left_is, none, form) =
      (start, left_is, inr (none, form))
  no_line_refused text (Memory a) h = absurd h

-- the first part has a fault
pub fault_in_first : {A B : Type 0} (p : Part A) (next : A → Part B) (text : List ℕ)
    (fault : PartFault) → IsFaultOf p text fault →
    IsFaultOf (then_part p next) text fault
fault_in_first p next text (Refused left e) (start, left_is, f) = (start, left_is, inl f)
fault_in_first p next text (Memory a) h = tt

-- or the one behind it
pub fault_in_next : {A B : Type 0} (p : Part A) (next : A → Part B) (text : List ℕ) (a : A)
    (middle : List ℕ) (fault : PartFault) →
    p.Reads text a middle → IsFaultOf (next a) middle fault →
    IsFaultOf (then_part p next) text fault
fault_in_next p next text a middle (Refused left e) h (start, left_is, f) =
    (start, left_is, inr (a, middle, h, f))
fault_in_next p next text a middle (Memory m) h k = tt

-- what came of reading the part behind the first came of reading both
pub reading_behind : {A B : Type 0} (p : Part A) (next : A → Part B) (text : List ℕ) (a : A)
    (middle : List ℕ) (result : Result (B × Bor (List ℕ)) PartFault) →
    p.Reads text a middle → IsReading (next a) middle result →
    IsReading (then_part p next) text result
reading_behind p next text a middle (Ok r) h k = (a, middle, h, k)
reading_behind p next text a middle (Err e) h k = fault_in_next p next text a middle e h k

-- the part that a thing is made of has a fault
pub fault_in_made : {A B : Type 0} (Makes : A → B → Type 0) (p : Part A) (text : List ℕ)
    (fault : PartFault) → IsFaultOf p text fault →
    IsFaultOf (made_part Makes p) text fault
fault_in_made Makes p text (Refused left e) h = h
fault_in_made Makes p text (Memory a) h = tt

-- something follows the end
pub tail_refused : {A : Type 0} (sp : Spelling) (a : A) (text : List ℕ) (fault : PartFault) →
    IsTail sp text fault →
    IsFaultOf (end_part sp a) text fault
tail_refused sp a text (Refused left e) (start, left_is, some, tail) =
    (start, left_is, (some, tail))
tail_refused sp a text (Memory m) h = absurd h
