-- Words name at most one request, and each but `demo` reads an input.
use Rattle.std.proofs.Common.{◌≡◌, ℕ, Bool, true, false, List, map, String, string_bytes, refl}
use Rattle.std.specs.declared.alloc.Global.{Global}
use Rattle.gj_words.specs.declared.requests.Command.{Command}
use Rattle.gj_words.specs.declared.requests.Command.TheVariants.{Demo, Extreme, Faces}
use Rattle.gj_words.specs.declared.requests.Request.{Request}
use Rattle.gj_words.proofs.Spelling.{one}
use Rattle.gj_top.specs.Promise.{reads}
use Rattle.gj_top.specs.Command.{IsNamed, promise_with}

pub one_named : (words : List (String Global)) (a b : Request) → IsNamed words a → IsNamed words b →
    a ≡ b
one_named words a b m n = one (map string_bytes words) a b m n

-- each command but `demo` reads an input
pub others_read : (c : Command) (json jumps : Bool) → ((n : ℕ) → c ≡ Demo n → ⊥) →
    reads (promise_with c json jumps).form ≡ true
others_read (Demo n) json jumps other = absurd (other n refl)
others_read Extreme json false other = refl
others_read Extreme json true other = refl
others_read Faces json false other = refl
others_read Faces json true other = refl
others_read c json jumps other = refl
