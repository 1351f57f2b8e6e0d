-- From a run, and what was handed over of its answer, to what a call says.
use Rattle.std.proofs.Common.{◌≡◌, ◌≢◌, ◌⊎◌, inl, inr, ℕ, ◌-◌, ◌^◌, ◌<◌, ◌≤◌, Bool, true, false, List, [], ◌∷◌, ◌++◌, length, take}
use Rattle.std.proofs.Common.{Option, Some, String, Result, Ok, Err, IfOk, IfErr, refl, sym, ap, subst, ◌∙◌, arith}
use Rattle.std.specs.Str.{IsUtf8}
use Rattle.std.specs.declared.alloc.AllocError.{AllocError}
use Rattle.std.specs.declared.alloc.Global.{Global}
use Rattle.gj_port.specs.Faults.{HasFailed}
use Rattle.gj_port.specs.MemorySource.{MemorySource, never_fails}
use Rattle.gj_port.specs.Runs.{IsSourceFault}
use Rattle.gj_words.specs.Grammar.{HasFlag, HasFlags, command_words, json_word, jumps_word}
use Rattle.gj_words.specs.declared.requests.Command.{Command}
use Rattle.gj_words.specs.declared.requests.Command.TheVariants.{Minimal, Extreme, Cut, Check, Show, Faces, Demo, Mixed, Problem, Derive, Fill, Group, Times, Mirror, Restrict}
use Rattle.gj_words.specs.declared.requests.Request.{Request}
use Rattle.gj_top.specs.declared.status.Status.{Status}
use Rattle.gj_top.specs.declared.status.Status.TheVariants.{WriteFault, Memory}
use Rattle.gj_top.specs.Answer.{IsAnswer}
use Rattle.gj_top.specs.Answer.IsAnswer.{no_request, read_fault, of_request}
use Rattle.gj_top.specs.Causes.{IsTrueRun}
use Rattle.gj_top.specs.Code.{code_of}
use Rattle.gj_top.specs.Command.{IsNamed, NameNone}
use Rattle.gj_top.specs.IsRun.{IsRun}
use Rattle.gj_top.specs.Outcome.IsOutcome.{silent, told, cut_off}
use Rattle.gj_top.specs.Run.{Run}
use Rattle.gj_top.proofs.Clauses.{no_write_fault, no_memory, headline_clause}
use Rattle.gj_top.proofs.EveryRun as every
use Rattle.gj_library.specs.Call.{AreWordsOf, OfWords, IsAnswered, IsCall, IsTooSmall, run_over}
use Rattle.gj_library.specs.Handing.{IsHandedOver}
use Rattle.gj_library.specs.Handing.IsHandedOver.{whole, part}
use Rattle.gj_library.specs.declared.answer.Answer.{Answer}
use Rattle.gj_library.proofs.Codes.{status_is}

-- ---- words

unflagged : (c : Command) → [] ≡ command_words c → ⊥
unflagged Minimal e = cc
unflagged Extreme e = cc
unflagged Cut e = cc
unflagged Check e = cc
unflagged Show e = cc
unflagged Faces e = cc
unflagged (Demo n) e = cc
unflagged Mixed e = cc
unflagged Problem e = cc
unflagged Derive e = cc
unflagged Fill e = cc
unflagged Group e = cc
unflagged (Times n j) e = cc
unflagged Mirror e = cc
unflagged (Restrict d) e = cc

flagged : (flag : List ℕ) (front back : List (List ℕ)) → [] ≡ front ++ flag ∷ back → ⊥
flagged flag [] back e = cc
flagged flag (x ∷ front) back e = cc

-- no words have a flag, and without it they are none
bare : (flag : List ℕ) (given : Bool) (some : List (List ℕ)) → HasFlag flag given some [] →
    [] ≡ some
bare flag true some h = absurd (flagged flag h.0 h.1 h.3)
bare flag false some h = h

no_words : (r : Request) → HasFlags r [] → ⊥
no_words r (some, json, jumps) =
    let none : [] ≡ some = bare jumps_word r.jumps some jumps in
    unflagged r.command
    (bare json_word r.json (command_words r.command)
    (subst (HasFlag json_word r.json (command_words r.command)) (sym none) json))

-- no words name no request
none_named : (words : List (String Global)) → words ≡ [] → NameNone words
none_named words e = λ r named.
    let empty : IsNamed [] r = subst (λ (w : List (String Global)). IsNamed w r) e named in
    no_words r empty.placed

-- ---- the answer of a run

-- a source that never failed did not fail, and one that did not fail may be one that never fails
pub steadied : (words : List (String Global)) (Fault Other : Type 0) (left after : Option (List ℕ))
    (s : Status) (text : List ℕ) → (Fault → ⊥) →
    IsAnswer words Fault left after s text → IsAnswer words Other left after s text
steadied words Fault Other left after s text steady (no_request a) = no_request a
steadied words Fault Other left after s text steady (read_fault a) = absurd (steady a.failed)
steadied words Fault Other left after s text steady (of_request a) = of_request a

-- a sink that has not failed was not answered so
sound_sink : (s : Status) (before after : ℕ) → before ≡ 0 → after ≡ 0 →
    (s ≡ WriteFault → HasFailed before after) → s ≡ WriteFault → ⊥
sound_sink s before after b a fault e = elim (fault e) [
  | inl more ↦ omega arith
  | inr last ↦ let zero : 0 ≡ 2 ^ 64 - 1 = sym a ∙ last in omega arith
]

-- a run over a source in memory, and what it did
abbrev pub kept_run : List (String Global) → MemorySource → Option (List ℕ) → ℕ → ℕ → List ℕ →
    List ℕ → ℕ → ℕ → Status → Run
kept_run words given ended h sure before written f g s = record {
  words = words;
  steady = never_fails given.fail;
  left = Some given.left;
  left_after = ended;
  read_faults = given.faults;
  read_faults_after = h;
  sure = sure;
  written = Some before;
  written_after = Some written;
  write_faults = f;
  write_faults_after = g;
  status = s;
}

-- the text that was written is the answer
told_answer : (bytes input : List ℕ) (words : List (String Global)) (Fault : Type 0)
    (left : Option (List ℕ)) (written text : List ℕ) (s : Status) →
    AreWordsOf bytes words → (Fault → ⊥) → Some written ≡ Some text →
    IsAnswer words Fault (Some input) left s text → IsAnswered bytes input s written
told_answer bytes input words Fault left written text s are steady gain a =
    let same : text ≡ written = cc in
    record {
      words = words;
      are_words = are;
      left = left;
      answer = subst (λ (t : List ℕ). IsAnswer words ⊥ (Some input) left s t) same
          (steadied words Fault ⊥ (Some input) left s text steady a);
    }

pub answered_run : (bytes input : List ℕ) (words : List (String Global)) (given : MemorySource)
    (ended : Option (List ℕ)) (h sure : ℕ)
    (before written : List ℕ) (f g : ℕ) (s : Status) → AreWordsOf bytes words →
    given ≡ record { left = input; step = 2 ^ 64 - 1; fail = []; calls = 0; faults = 0 } →
    before ≡ [] → f ≡ 0 → g ≡ 0 → (s ≡ Memory → ⊥) →
    IsRun (kept_run words given ended h sure before written f g s) →
    IsAnswered bytes input s written
answered_run bytes input words given ended h sure before written f g s are given_is before_is f_is
    g_is m run = elim run.outcome [
      | silent o ↦ absurd (m o.status_is)
      | cut_off o ↦ absurd (sound_sink s f g f_is g_is run.write_fault o.status_is)
      | told o ↦
          let answer : IsAnswer words (IsSourceFault true 0 h) (Some input) ended s o.text =
          subst (λ (source : MemorySource). IsAnswer words
          (IsSourceFault (never_fails source.fail) source.faults h)
          (Some source.left) ended s o.text)
          given_is o.answer in
          let gain : Some written ≡ Some ([] ++ o.text) =
          subst (λ (b : List ℕ). Some written ≡ Some (b ++ o.text)) before_is o.gain in
          told_answer bytes input words (IsSourceFault true 0 h) ended written o.text s are
          (λ fault. fault.1 refl) gain answer
    ]

-- ---- the call

module _ (bytes input : List ℕ) (s : Status) (text : List ℕ)
    (a : IsAnswered bytes input s text) where
  no_fault : s ≡ WriteFault → ⊥
  no_fault e = no_write_fault a.words ⊥ (Some input) a.left s text a.answer e

  in_memory : IsAnswer a.words (IsSourceFault true 0 0) (Some input) a.left s text
  in_memory = steadied a.words ⊥ (IsSourceFault true 0 0) (Some input) a.left s text
      (λ none. none) a.answer

  -- what was handed over is a run
  called : (room : ℕ) (front : List ℕ) (code : ℕ) → IsHandedOver s text room front code →
      IsCall bytes input room front code
  called room front code (whole fits is own) = record {
    words = a.words;
    are_words = a.are_words;
    left = a.left;
    status = s;
    code_is = own;
    is_run = every.is_run (run_over a.words input a.left room front s)
        (told (record { text = text; answer = in_memory; gain = ap Some is }))
        (λ e. absurd (no_fault e)) (omega arith) (omega arith);
  }
  called room front code (part small is five) = record {
    words = a.words;
    are_words = a.are_words;
    left = a.left;
    status = WriteFault;
    code_is = five;
    is_run = every.is_run (run_over a.words input a.left room front WriteFault)
        (cut_off (record {
          status_is = refl;
          status = s;
          text = text;
          answer = in_memory;
          unsure =
              small;
          gain = (room, small, ap Some is);
        }))
        (λ e. inl (omega arith)) (omega arith) (omega arith);
  }

  no_memory_code : code_of s ≢ 6
  no_memory_code e = no_memory a.words ⊥ (Some input) a.left s text a.answer (status_is s 6 e)

  no_room_code : code_of s ≢ 5
  no_room_code e = no_fault (status_is s 5 e)

-- ---- the answer, or none, and what was handed over of it

pub within_of : (room : ℕ) (front : List ℕ) (written code : ℕ) (r : Result Answer AllocError) →
    IfOk r (λ a. IsHandedOver a.status a.text.items room front code) →
    IfOk r (λ a. written ≡ length a.text.items) →
    IfErr r (λ e. (code ≡ 6) × (written ≡ 0)) → code ≢ 5 → written ≤ room
within_of room front written code (Ok a) (whole fits is own) all none other = omega arith
within_of room front written code (Ok a) (part small is five) all none other = absurd (other five)
within_of room front written code (Err e) put all none other = let zero = none.1 in omega arith

module _ (bytes input : List ℕ) (room : ℕ) (front : List ℕ) (written code : ℕ) where
  -- there was no memory, or the call is what was handed over
  pub call_of : (r : Result Answer AllocError) →
      IfOk r (λ a. IsAnswered bytes input a.status a.text.items) →
      IfOk r (λ a. IsHandedOver a.status a.text.items room front code) →
      IfErr r (λ e. (code ≡ 6) × (written ≡ 0)) →
      (code ≡ 6) ⊎ IsCall bytes input room front code
  call_of (Ok a) answered put none =
      inr (called bytes input a.status a.text.items answered room front code put)
  call_of (Err e) answered put none = inl none.0

  pub memory_of : (r : Result Answer AllocError) →
      IfOk r (λ a. IsAnswered bytes input a.status a.text.items) →
      IfOk r (λ a. IsHandedOver a.status a.text.items room front code) →
      IfErr r (λ e. (code ≡ 6) × (written ≡ 0)) → code ≡ 6 → written ≡ 0
  memory_of (Ok a) answered (whole fits is own) none six =
      absurd (no_memory_code bytes input a.status a.text.items answered (sym own ∙ six))
  memory_of (Ok a) answered (part small is five) none six =
      absurd (let both : 5 ≡ 6 = sym five ∙ six in cc)
  memory_of (Err e) answered put none six = none.1

  -- without room the output is the front of an answer
  pub room_of : (output : List ℕ) (r : Result Answer AllocError) →
      IfOk r (λ a. IsAnswered bytes input a.status a.text.items) →
      IfOk r (λ a. IsHandedOver a.status a.text.items room front code) →
      IfOk r (λ a. written ≡ length a.text.items) →
      IfOk r (λ a. room < length a.text.items → output ≡ take room a.text.items) →
      IfErr r (λ e. (code ≡ 6) × (written ≡ 0)) → code ≡ 5 →
      IsTooSmall bytes input room output written
  room_of output (Ok a) answered (whole fits is own) all full none five =
      absurd (no_room_code bytes input a.status a.text.items answered (sym own ∙ five))
  room_of output (Ok a) answered (part small is e) all full none five = record {
    status = a.status;
    text = a.text.items;
    answered = answered;
    whole_is = all;
    longer = omega arith;
    front_is = full small;
  }
  room_of output (Err e) answered put all full none five =
      absurd (let both : 5 ≡ 6 = sym five ∙ none.0 in cc)

-- ---- of a call that may have had no memory

module _ {bytes input : List ℕ} {room : ℕ} {text : List ℕ} {code : ℕ} {P : Type 0}
    (call : (code ≡ 6) ⊎ IsCall bytes input room text code) where
  pub unless : (IsCall bytes input room text code → P) → code ≢ 6 → P
  unless says memory = elim call [
    | inl six ↦ absurd (memory six)
    | inr c ↦ says c
  ]

  -- by another code
  pub by : (n : ℕ) → n ≢ 6 → (IsCall bytes input room text code → code ≡ n → P) → code ≡ n → P
  by n other says e = unless (λ c. says c e) (λ six. other (sym e ∙ six))

-- ---- its clauses

module _ (bytes input : List ℕ) (room : ℕ) (text : List ℕ) (code : ℕ)
    (c : IsCall bytes input room text code) where
  pub headline_of : code ≡ 0 → OfWords bytes (λ given. IsTrueRun given input [] (Some text))
  headline_of e = (
    c.words,
    c.are_words,
    headline_clause (run_over c.words input c.left room text c.status) c.is_run.outcome
        (status_is c.status 0 (sym c.code_is ∙ e)) input
        (λ r named reads. refl),
  )

  pub no_read_fault_of : code ≢ 4
  no_read_fault_of e = c.is_run.steady refl (status_is c.status 4 (sym c.code_is ∙ e))

  -- bytes that are not UTF-8 are refused as words
  refused : (IsUtf8 bytes → ⊥) → AreWordsOf bytes c.words → c.words ≡ []
  refused other (inl are) = absurd (other are.0)
  refused other (inr none) = none.1

  pub no_text_of : (IsUtf8 bytes → ⊥) → (code ≡ 2) ⊎ (code ≡ 5) ⊎ (code ≡ 6)
  no_text_of other = elim (c.is_run.command (none_named c.words (refused other c.are_words))) [
    | inl words ↦ inl (c.code_is ∙ ap code_of words)
    | inr (inl fault) ↦ inr (inl (c.code_is ∙ ap code_of fault))
    | inr (inr memory) ↦ inr (inr (c.code_is ∙ ap code_of memory))
  ]
