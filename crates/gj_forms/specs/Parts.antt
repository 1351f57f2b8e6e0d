-- Parts of texts: what each spells, and where a text that does not spell it is at fault first
-- (own). A form of text is a part made of lines, one after the other.
use Rattle.std.specs.Prelude.{ℕ, ◌≡◌, ◌≢◌, ◌⊎◌, List, ◌∷◌, ◌++◌, length}
use Rattle.std.specs.Prelude.{Result, Ok, Err, Vec}
use Rattle.std.specs.Borrow.{Bor}
use Rattle.std.specs.declared.alloc.Global.{Global}
use Rattle.std.proofs.Common.{inl, inr}
use Rattle.gj_lex.specs.declared.spelling.Spelling.{Spelling}
use Rattle.gj_lex.specs.declared.reason.Reason.{Reason}
use Rattle.gj_lex.specs.declared.reason.Reason.TheVariants.{Form, Tail}
use Rattle.gj_forms.specs.declared.fault.PartFault.{PartFault}
use Rattle.gj_forms.specs.declared.fault.PartFault.TheVariants.{Refused, Memory}
use Rattle.gj_forms.specs.TextLines.{HasLine, HasNoLine, HasNothing, HasSomething, IsLineNumber}

-- a rule for one line: which words spell what, and which rule other words break first
pub record LineRule (A : Type 0) : Type 1 where
  pub Spells : List (List ℕ) → A → Type 0
  pub Breaks : List (List ℕ) → Reason → Type 0

-- these words and no others
abbrev pub words_rule : List (List ℕ) → LineRule (Unit {0})
words_rule wanted = record {
  Spells = λ words a. words ≡ wanted;
  Breaks = λ words e. (e ≡ Form)
      × (words ≢ wanted);
}

-- a part of a text: the text begins with it, spells this, and the rest follows; or it does not, and
-- the line from `start` on is the first at fault, for this reason
pub record Part (A : Type 0) : Type 1 where
  pub Reads : List ℕ → A → List ℕ → Type 0
  pub Faults : List ℕ → List ℕ → Reason → Type 0

-- ---- how parts are made

-- one line: at fault if its words break the rule, and as `form` if there is none
abbrev pub line_part : {A : Type 0} → Spelling → LineRule A → Part A
line_part s rule = record {
  Reads = λ text a rest. (start : List ℕ) × (words : List (List ℕ))
      × HasLine s text start words rest × rule.Spells words a;
  Faults = λ text start e.
      ((words : List (List ℕ)) × (rest : List ℕ) × HasLine s text start words rest
      × rule.Breaks words e)
      ⊎ (HasNoLine s text start × (e ≡ Form));
}

-- no line at all
abbrev pub empty_part : {A : Type 0} → A → Part A
empty_part a = record { Reads = λ text b rest. (b ≡ a) × (text ≡ rest); Faults = λ text start e. ⊥ }

-- a part, and behind it one that may depend on what the first spells
abbrev pub then_part : {A B : Type 0} → Part A → (A → Part B) → Part B
then_part {A} p next = record {
  Reads = λ text b rest. (a : A) × (middle : List ℕ) × p.Reads text a middle
      × (next a).Reads middle b rest;
  Faults = λ text start e.
      p.Faults text start e
      ⊎ ((a : A) × (middle : List ℕ) × p.Reads text a middle × (next a).Faults middle start e);
}

-- a part that spells something of which another thing is made
abbrev pub made_part : {A B : Type 0} → (A → B → Type 0) → Part A → Part B
made_part {A} Makes p =
    record { Reads = λ text b rest. (a : A) × p.Reads text a rest × Makes a b; Faults = p.Faults }

-- a line of the title's words, a part, and a line of the end's words
abbrev pub framed_part : {A : Type 0} → Spelling → List (List ℕ) → Part A → List (List ℕ) → Part A
framed_part s title p end =
    then_part (line_part s (words_rule title))
    (λ t. then_part p (λ a. then_part (line_part s (words_rule end)) (λ t. empty_part a)))

-- the next line of the text has these words
abbrev pub BeginsWithLine : Spelling → List (List ℕ) → List ℕ → Type 0
BeginsWithLine s words text = (start : List ℕ) × (rest : List ℕ) × HasLine s text start words rest

-- the next line of the text begins with this word
abbrev pub BeginsWithWord : Spelling → List ℕ → List ℕ → Type 0
BeginsWithWord s word text = (words : List (List ℕ)) × BeginsWithLine s (word ∷ words) text

-- the one part if the text begins so, and the other if it does not
abbrev pub where_part : {A : Type 0} → (List ℕ → Type 0) → Part A → Part A → Part A
where_part Begins p q = record {
  Reads = λ text a rest. (Begins text × p.Reads text a rest)
      ⊎ ((Begins text → ⊥) × q.Reads text a rest);
  Faults = λ text start e. (Begins text × p.Faults text start e)
      ⊎ ((Begins text → ⊥) × q.Faults text start e);
}

-- the part of each state is read in turn: it leads to a next state, or ends with what the whole
-- spells
pub data ReadsInTurn {S A : Type 0} (Reads : S → List ℕ → S ⊎ A → List ℕ → Type 0) (a : A)
    (rest : List ℕ) : S → List ℕ → Type 0 where
  last : (s : S) (text : List ℕ) → Reads s text (inr a) rest → ReadsInTurn Reads a rest s text
  onward : (s : S) (text : List ℕ) (next : S) (middle : List ℕ) → Reads s text (inl next) middle →
      ReadsInTurn Reads a rest next middle → ReadsInTurn Reads a rest s text

-- and the first that has a fault is at fault
pub data FaultsInTurn {S A : Type 0} (Reads : S → List ℕ → S ⊎ A → List ℕ → Type 0) (Faults : S →
    List ℕ → List ℕ → Reason → Type 0)
    (start : List ℕ) (e : Reason) : S → List ℕ → Type 0 where
  here : (s : S) (text : List ℕ) → Faults s text start e → FaultsInTurn Reads Faults start e s text
  later : (s : S) (text : List ℕ) (next : S) (middle : List ℕ) → Reads s text (inl next) middle →
      FaultsInTurn Reads Faults start e next middle → FaultsInTurn Reads Faults start e s text

abbrev pub loop_part : {S A : Type 0} → (S → Part (S ⊎ A)) → S → Part A
loop_part part s = record {
  Reads = λ text a rest. ReadsInTurn (λ t. (part t).Reads) a rest s text;
  Faults = λ text start e. FaultsInTurn (λ t. (part t).Reads) (λ t. (part t).Faults) start e s text;
}

-- nothing follows
abbrev pub end_part : {A : Type 0} → Spelling → A → Part A
end_part s a = record {
  Reads = λ text b rest. (b ≡ a) × (text ≡ rest) × HasNothing s text;
  Faults = λ text start e. HasSomething s text start × (e ≡ Tail);
}

-- ---- what is asked of a rule and of a part, and holds of all that are made of such

-- words spell one thing or break one rule first, and not both
pub record IsExactRule {A : Type 0} (Spells : List (List ℕ) → A → Type 0) (Breaks : List (List ℕ) →
    Reason → Type 0) : Type 0 where
  pub one_thing : (words : List (List ℕ)) (a b : A) → Spells words a → Spells words b → a ≡ b
  pub one_reason : (words : List (List ℕ)) (e d : Reason) → Breaks words e → Breaks words d → e ≡ d
  pub not_both : (words : List (List ℕ)) (a : A) (e : Reason) → Spells words a → Breaks words e → ⊥

-- a text spells one thing and goes on at one place, or is at fault first in one line for one
-- reason, and not both; what follows, and the line at fault with what follows it, end the text
pub record IsExactPart {A : Type 0} (Reads : List ℕ → A → List ℕ → Type 0) (Faults : List ℕ →
    List ℕ → Reason → Type 0) : Type 0 where
  pub one_thing : (text : List ℕ) (a b : A) (r t : List ℕ) → Reads text a r → Reads text b t →
      (a ≡ b) × (r ≡ t)
  pub one_fault : (text r t : List ℕ) (e d : Reason) → Faults text r e → Faults text t d →
      (r ≡ t) × (e ≡ d)
  pub not_both : (text : List ℕ) (a : A) (r t : List ℕ) (e : Reason) → Reads text a r →
      Faults text t e → ⊥
  pub rest_ends : (text : List ℕ) (a : A) (r : List ℕ) → Reads text a r →
      (front : List ℕ) × (text ≡ front ++ r)
  pub fault_ends : (text t : List ℕ) (e : Reason) → Faults text t e →
      (front : List ℕ) × (text ≡ front ++ t)

-- ---- what readers answer

-- the fault is that of the part's first line at fault, told by what is left from it on, or want of
-- memory
abbrev pub IsFaultOf : {A : Type 0} → Part A → List ℕ → PartFault → Type 0
IsFaultOf p text (Refused left e) = (start : List ℕ) × (left ≡ length start) × p.Faults text start e
IsFaultOf p text (Memory a) = Unit {0}

-- what came of reading a part at the front of a text: what it spells, with what follows, or its
-- fault
abbrev pub IsReading : {A : Type 0} → Part A → List ℕ → Result (A × Bor (List ℕ)) PartFault → Type 0
IsReading p text (Ok r) = p.Reads text r.0 r.1.now
IsReading p text (Err e) = IsFaultOf p text e

-- the same of a part that spells a list
abbrev pub IsListReading : {A : Type 0} → Part (List A) → List ℕ →
    Result (Vec A Global × Bor (List ℕ)) PartFault → Type 0
IsListReading p text (Ok r) = p.Reads text r.0.items r.1.now
IsListReading p text (Err e) = IsFaultOf p text e

-- the same of a part that spells nothing
abbrev pub IsPassing : Part (Unit {0}) → List ℕ → Result (Bor (List ℕ)) PartFault → Type 0
IsPassing p text (Ok rest) = p.Reads text tt rest.now
IsPassing p text (Err e) = IsFaultOf p text e

-- the fault is no want of memory
abbrev pub IsRefusal : PartFault → Type 0
IsRefusal (Refused left e) = Unit {0}
IsRefusal (Memory a) = ⊥

-- the fault is that the text has no next line
abbrev pub IsNoLine : Spelling → List ℕ → PartFault → Type 0
IsNoLine s text (Refused left e) = (start : List ℕ) × (left ≡ length start) × HasNoLine s text start
    × (e ≡ Form)
IsNoLine s text (Memory a) = ⊥

-- the fault is that something follows
abbrev pub IsTail : Spelling → List ℕ → PartFault → Type 0
IsTail s text (Refused left e) = (start : List ℕ) × (left ≡ length start)
    × HasSomething s text start × (e ≡ Tail)
IsTail s text (Memory a) = ⊥

-- the n-th line of the text is the first at fault, for this reason
abbrev pub IsFirstFaultIn : {A : Type 0} → Part A → List ℕ → ℕ → Reason → Type 0
IsFirstFaultIn p text n e = (start : List ℕ) × p.Faults text start e × IsLineNumber text start n
