-- What a command does: what it promises, how it refuses an input that spells nothing, and how it
-- answers a thing (own).
use Rattle.std.specs.Prelude.{ℕ, ◌≡◌, List, Result, Ok, Err}
use Rattle.gj_top.specs.declared.reply.End.{End}
use Rattle.gj_top.specs.declared.reply.End.TheVariants.{Done}
use Rattle.gj_top.specs.declared.reply.Reply.{Reply}
use Rattle.gj_top.specs.declared.reply.Unanswered.{Unanswered}
use Rattle.gj_top.specs.declared.reply.Unanswered.TheVariants.{Refused, Memory}
use Rattle.gj_top.specs.Promise.{Promise, Spells}

-- with which line an input is refused, and with which end and which text a thing is answered
pub record Work (promise : Promise) : Type 1 where
  pub refuses : List ℕ → List ℕ → Type 0
  pub replies : promise.Thing → End → List ℕ → Type 0

-- a promise, and the work that keeps it
pub record Task : Type 1 where
  pub promise : Promise
  pub work : Work promise

-- the input spells a thing of the task
abbrev pub IsInForm : Task → List ℕ → Type 0
IsInForm task input = (thing : task.promise.Thing) × Spells task.promise.form input thing

-- the text is the reply to the thing that the input spells, and this is its end
pub record IsReply (task : Task) (input : List ℕ) (end : End) (text : List ℕ) : Type 0 where
  pub thing : task.promise.Thing
  pub spelled : Spells task.promise.form input thing
  pub replied : task.work.replies thing end text

-- some thing is answered with this end
abbrev pub HasEnd : Task → End → Type 0
HasEnd task end = (thing : task.promise.Thing) × (text : List ℕ) × task.work.replies thing end text

-- why an input spells nothing, unless there was no memory
abbrev pub IsTaskRefusal : (List ℕ → List ℕ → Type 0) → List ℕ → Unanswered → Type 0
IsTaskRefusal refuses input (Refused text) = refuses input text.items
IsTaskRefusal refuses input (Memory e) = Unit {0}

-- this line refuses an input, unless there was no memory
abbrev pub IsRefusedWith : List ℕ → Unanswered → Type 0
IsRefusedWith line (Refused text) = text.items ≡ line
IsRefusedWith line (Memory e) = Unit {0}

-- what came of reading an input that spells a thing or is refused
abbrev pub IsReadingOf : {Thing : Type 0} → (List ℕ → Thing → Type 0) → (List ℕ → List ℕ → Type 0) →
    List ℕ →
    Result Thing Unanswered → Type 0
IsReadingOf spells refuses input (Ok thing) = spells input thing
IsReadingOf spells refuses input (Err e) = IsTaskRefusal refuses input e

-- a thing is replied to with a text that has this property, and the end Done
abbrev pub EndsDone : {Thing : Type 0} → (Thing → List ℕ → Type 0) → Thing → End → List ℕ → Type 0
EndsDone P thing Done text = P thing text
EndsDone P thing end text = ⊥

-- what came of answering an input
abbrev pub IsAnswering : Task → List ℕ → Result Reply Unanswered → Type 0
IsAnswering task input (Ok reply) = IsReply task input reply.end reply.text.items
IsAnswering task input (Err e) = IsTaskRefusal task.work.refuses input e
