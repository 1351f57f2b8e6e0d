-- An input that is refused for the first line at fault.
use Rattle.std.proofs.Common.{ℕ, List}
use Rattle.gj_lex.specs.declared.reason.Reason.{Reason}
use Rattle.gj_top.specs.Lines.{refused_line}
use Rattle.gj_top.specs.declared.reply.Unanswered.{Unanswered}
use Rattle.gj_top.specs.declared.reply.Unanswered.TheVariants.{Refused, Memory}
use Rattle.gj_top.specs.Forms.{NamesFault}
use Rattle.gj_top.specs.Task.{IsTaskRefusal, IsRefusedWith}

pub refused_at : (IsFirst : ℕ → Reason → Type 0) (refuses : List ℕ → List ℕ → Type 0)
    (input : List ℕ) (n : ℕ) (e : Reason) (u : Unanswered) →
    IsFirst n e → ((text : List ℕ) → NamesFault IsFirst text → refuses input text) →
    IsRefusedWith (refused_line n e) u →
    IsTaskRefusal refuses input u
refused_at IsFirst refuses input n e (Refused text) first leads is =
    leads text.items (record { at_line = n; reason = e; first = first; spelled = is })
refused_at IsFirst refuses input n e (Memory a) first leads is = tt
