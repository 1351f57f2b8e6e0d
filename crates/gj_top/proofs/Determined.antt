-- A task that is determined gives one answer to an input.
use Rattle.std.proofs.Common.{◌≡◌, ℕ, ◌<◌, ◌≤◌, List, [], ◌∷◌, refl, sym, ap, ap₂, subst, ◌∙◌, arith}
use Rattle.std.specs.List.{AllZip}
use Rattle.gj_lex.specs.declared.reason.Reason.{Reason}
use Rattle.gj_shape.specs.FunctionData.{FunctionData, IsWithinBounds}
use Rattle.gj_top.specs.declared.reply.End.{End}
use Rattle.gj_top.specs.declared.reply.End.TheVariants as end
use Rattle.gj_top.specs.declared.status.Status.{Status}
use Rattle.gj_top.specs.declared.status.Status.TheVariants.{Done}
use Rattle.gj_top.specs.Answer.{IsAnswerTo}
use Rattle.gj_top.specs.Answer.IsAnswerTo.{too_long, refused, replied}
use Rattle.gj_top.specs.Lines.{refused_line}
use Rattle.gj_top.specs.Forms.{NamesFault}
use Rattle.gj_top.specs.Promise.{Form, Spells}
use Rattle.gj_top.specs.Reply.{status_of}
use Rattle.gj_top.specs.Task.{Task, IsReply, EndsDone}
use Rattle.gj_top.proofs.Sound.{IsSound}

-- an input spells one thing at most
abbrev pub SpellsOne : {Thing : Type 0} → Form Thing → Type 0
SpellsOne {Thing} form = (input : List ℕ) (a b : Thing) → Spells form input a →
    Spells form input b → a ≡ b

-- an input is refused with one line at most
abbrev pub RefusesOne : (List ℕ → List ℕ → Type 0) → Type 0
RefusesOne refuses = (input x y : List ℕ) → refuses input x → refuses input y → x ≡ y

-- a thing that is spelled has one end and one text
abbrev pub RepliesOne : {Thing : Type 0} → Form Thing → (Thing → End → List ℕ → Type 0) → Type 0
RepliesOne {Thing} form replies = (input : List ℕ) (thing : Thing) → Spells form input thing →
    (e d : End) (x y : List ℕ) →
    replies thing e x → replies thing d y → (e ≡ d) × (x ≡ y)

pub record IsDetermined (task : Task) : Type 0 where
  pub spells : SpellsOne task.promise.form
  pub refuses : RefusesOne task.work.refuses
  pub replies : RepliesOne task.promise.form task.work.replies

-- a function within the limits has one reply
abbrev pub AnswersOne : (FunctionData → End → List ℕ → Type 0) → Type 0
AnswersOne replies = (f : FunctionData) → IsWithinBounds f → (e d : End) (x y : List ℕ) →
    replies f e x → replies f d y → (e ≡ d) × (x ≡ y)

one_reply : (task : Task) (input : List ℕ) (e d : End) (x y : List ℕ) → IsDetermined task →
    IsReply task input e x →
    IsReply task input d y → (e ≡ d) × (x ≡ y)
one_reply task input e d x y h r q =
    let same : q.thing ≡ r.thing = h.spells input q.thing r.thing q.spelled r.spelled in
    h.replies input r.thing r.spelled e d x y r.replied
    (subst (λ (t : task.promise.Thing). task.work.replies t d y) same q.replied)

not_long : (n m : ℕ) → n < m → m ≤ n → ⊥
not_long n m a b = omega arith

-- to an input there is one status, and one text
module _ (task : Task) (input : List ℕ) (s t : Status) (x y : List ℕ) (sound : IsSound task)
    (h : IsDetermined task) where
  pub one_answer_of : IsAnswerTo task input s x → IsAnswerTo task input t y → (s ≡ t) × (x ≡ y)
  one_answer_of (too_long a) (too_long b) =
      (a.status_is ∙ sym b.status_is, a.spelled ∙ sym b.spelled)
  one_answer_of (too_long a) (refused b) = absurd (not_long _ _ a.long (b.within a.read))
  one_answer_of (too_long a) (replied b) = absurd (not_long _ _ a.long (b.within a.read))
  one_answer_of (refused a) (too_long b) = absurd (not_long _ _ b.long (a.within b.read))
  one_answer_of (refused a) (refused b) =
      (a.status_is ∙ sym b.status_is, h.refuses input x y a.refused b.refused)
  one_answer_of (refused a) (replied b) =
      absurd (sound.form input x b.reply.thing b.reply.spelled a.refused)
  one_answer_of (replied a) (too_long b) = absurd (not_long _ _ b.long (a.within b.read))
  one_answer_of (replied a) (refused b) =
      absurd (sound.form input y a.reply.thing a.reply.spelled b.refused)
  one_answer_of (replied a) (replied b) =
      let same = one_reply task input a.end b.end x y h a.reply b.reply in
      (a.status_is ∙ ap status_of same.0 ∙ sym b.status_is, same.1)

-- ---- what replies share

-- one that ends with Done is one if its text is
pub one_done : {Thing : Type 0} (P : Thing → List ℕ → Type 0) (thing : Thing) →
    ((x y : List ℕ) → P thing x → P thing y → x ≡ y) →
    (e d : End) (x y : List ℕ) → EndsDone P thing e x → EndsDone P thing d y → (e ≡ d) × (x ≡ y)
one_done P thing one end.Done end.Done x y h k = (refl, one x y h k)
one_done P thing one end.Done d x y h k = absurd k
one_done P thing one e d x y h k = absurd h

-- ---- what the forms share

-- one first fault, one line
pub one_named_fault : (IsFirst : ℕ → Reason → Type 0) →
    ((n m : ℕ) (e d : Reason) → IsFirst n e → IsFirst m d → (n ≡ m) × (e ≡ d)) → (x y : List ℕ) →
    NamesFault IsFirst x → NamesFault IsFirst y → x ≡ y
one_named_fault IsFirst one x y h k =
    let same = one h.at_line k.at_line h.reason k.reason h.first k.first in
    h.spelled ∙ ap₂ refused_line same.0 same.1 ∙ sym k.spelled

-- if each element has one partner to its left, lists of partners are one
pub each_one : {A B : Type 0} (R : A → B → Type 0) → ((b : B) (x y : A) → R x b → R y b → x ≡ y) →
    (us : List B) (xs ys : List A) →
    AllZip R xs us → AllZip R ys us → xs ≡ ys
each_one R one [] [] [] h k = refl
each_one R one [] [] (y ∷ ys) h k = absurd k
each_one R one [] (x ∷ xs) ys h k = absurd h
each_one R one (u ∷ us) [] ys h k = absurd h
each_one R one (u ∷ us) (x ∷ xs) [] h k = absurd k
each_one R one (u ∷ us) (x ∷ xs) (y ∷ ys) h k =
    ap₂ (λ z zs. z ∷ zs) (one u x y h.0 k.0) (each_one R one us xs ys h.1 k.1)
