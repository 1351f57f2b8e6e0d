-- The answer to an input that was read whole, and to one that is too long.
use Rattle.std.proofs.Common.{◌≡◌, ℕ, ◌+◌, ◌<◌, ◌≤◌, Bool, true, List, length, replicate, IfSome, Option, None, Some, Ok, Err}
use Rattle.std.proofs.Common.{IfOk, Result, String, Vec, vec_len, refl, sym, ap, subst, ◌∙◌, arith}
use Rattle.std.proofs.lemmas.List.{drop_all, length-replicate}
use Rattle.std.proofs.lemmas.Result.{IfOk-weaker}
use Rattle.std.specs.declared.alloc.Global.{Global}
use Rattle.std.specs.declared.alloc.AllocError.{AllocError}
use Rattle.gj_port.specs.Whole.{TakesAll}
use Rattle.gj_port.specs.declared.fault.ReadError.TheVariants.{TooLong}
use Rattle.gj_top.specs.declared.answer.Answer.{Answer}
use Rattle.gj_words.specs.declared.requests.Request.{Request}
use Rattle.gj_top.specs.declared.status.Status.TheVariants.{Input}
use Rattle.gj_top.specs.Command.{IsNamed, promise_for, task_for}
use Rattle.gj_top.specs.Promise.{reads}
use Rattle.gj_top.specs.InputRead.{input_limit, IsReadWhole}
use Rattle.gj_top.specs.Lines.{long_line}
use Rattle.gj_top.specs.Answer.{IsAnswerTo, IsAnswer, answer_status, answer_text}
use Rattle.gj_top.specs.Answer.IsAnswerTo.{too_long}
use Rattle.gj_top.specs.Answer.IsAnswer.{of_request}

-- what was read is all that the source told
pub read_whole : (left after : Option (List ℕ)) (bytes : Vec ℕ Global) →
    vec_len bytes ≤ input_limit →
    IfSome left (λ l. TakesAll input_limit l after (Ok bytes)) →
    IsReadWhole true bytes.items left after
read_whole None after bytes within t = tt
read_whole (Some all) after bytes within t = (
  sym t.0,
  t.1 ∙ ap Some
      (sym (drop_all (input_limit + 1) bytes.items (omega (arith, bytes.ok)))),
)

-- so it is the input that the source told
pub told_input : (input own : List ℕ) (left after : Option (List ℕ)) → left ≡ Some input →
    IsReadWhole true own left after → own ≡ input
told_input input own left after is whole =
    let read : IsReadWhole true own (Some input) after =
    subst (λ (l : Option (List ℕ)). IsReadWhole true own l after) is whole in
    sym read.0

-- some input is longer
longer : (n : ℕ) → (input : List ℕ) × (n < length input)
longer n = (replicate (n + 1) 0, omega (arith, length-replicate {A = ℕ}))

pub read_longer : (left after : Option (List ℕ)) →
    IfSome left (λ l. TakesAll input_limit l after (Err TooLong)) →
    (input : List ℕ) × (input_limit < length input) × IsReadWhole true input left after
read_longer None after t = ((longer input_limit).0, (longer input_limit).1, tt)
read_longer (Some all) after t = (all, (let more = t.0 in omega arith), (refl, t.1))

-- ---- the answer

module _ (words : List (String Global)) (Fault : Type 0) (c : Request) (named : IsNamed words c)
    (read : reads (promise_for c).form ≡ true) where
  pub answer_of_read : (left after : Option (List ℕ)) (bytes : Vec ℕ Global)
      (result : Result Answer AllocError) → vec_len bytes ≤ input_limit →
      IfSome left (λ l. TakesAll input_limit l after (Ok bytes)) →
      IfOk result (λ a. IsAnswerTo (task_for c) bytes.items (answer_status a) (answer_text a)) →
      IfOk result (λ a. IsAnswer words Fault left after (answer_status a) (answer_text a))
  answer_of_read left after bytes result within t answers =
      IfOk-weaker result _ _ (λ a answer. of_request (record {
        request = c;
        named = named;
        input = bytes.items;
        whole = subst (λ (b : Bool). IsReadWhole b bytes.items left after) (sym read)
            (read_whole left after bytes within t);
        answer = answer;
      })) answers

  long_answer : (input : List ℕ) (left after : Option (List ℕ)) → input_limit < length input →
      IsReadWhole true input left after →
      IsAnswer words Fault left after Input long_line
  long_answer input left after long whole = of_request (record {
    request = c;
    named = named;
    input = input;
    whole = subst (λ (b : Bool). IsReadWhole b input left after) (sym read) whole;
    answer = too_long (record { read = read; long = long; status_is = refl; spelled = refl });
  })

  pub answer_of_long : (left after : Option (List ℕ)) →
      IfSome left (λ l. TakesAll input_limit l after (Err TooLong)) →
      IsAnswer words Fault left after Input long_line
  answer_of_long left after t = let (input, long, whole) = read_longer left after t in
      long_answer input left after long whole
