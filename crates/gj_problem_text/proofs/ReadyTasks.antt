-- What each task has that a text tells.
use Rattle.std.proofs.Common.{◌≡◌, ◌⊎◌, inl, inr, ℕ, All, List, [], ◌∷◌, ◌++◌, sym, subst}
use Rattle.std.proofs.lemmas.List.Elements.{All-nil, All-cons, All-append}
use Rattle.gj_forms.specs.Parts.{ReadsInTurn}
use Rattle.gj_forms.specs.Parts.ReadsInTurn.{last, onward}
use Rattle.gj_problem_text.specs.ProblemLines.{ProblemLine, HasProblemLine, column, constraint, entry, upper, sum, grid, round}
use Rattle.gj_problem_text.specs.ProblemText.{no_task, next_line, IsProblemText}
use Rattle.gj_problem_text.specs.Ready.{HasMultipliers, IsReady}
use Rattle.gj_problem_text.specs.Tasks.{Adds}
use Rattle.gj_problem_text.specs.declared.task.Request.{Request}
use Rattle.gj_problem_text.specs.declared.task.Request.TheVariants.{Upper, Sum}
use Rattle.gj_problem_text.specs.declared.task.Task.{Task}

no_requests : (n : ℕ) (requests : List Request) → requests ≡ [] → All (HasMultipliers n) requests
no_requests n requests none = subst (All (HasMultipliers n)) (sym none) (All-nil (HasMultipliers n))

one_more : (n : ℕ) (requests : List Request) (asked : Request) → All (HasMultipliers n) requests →
    HasMultipliers n asked →
    All (HasMultipliers n) (requests ++ asked ∷ [])
one_more n requests asked h k = All-append (HasMultipliers n) requests (asked ∷ []) h
    (All-cons (HasMultipliers n) asked [] k (All-nil (HasMultipliers n)))

ready_next : (s : Task) (line : ProblemLine) (t : Task) → HasProblemLine line → Adds s line t →
    IsReady s → IsReady t
ready_next s (column name is_whole low high) t has h r =
    subst IsReady (sym h.added)
    (record { multipliers = r.multipliers; grid = r.grid; round = r.round })
ready_next s (constraint name sense right) t has h r =
    subst IsReady (sym h.added)
    (record { multipliers = no_requests _ s.requests h.before; grid = r.grid; round = r.round })
ready_next s (entry name value) t has h r =
    subst IsReady (sym h.added)
    (record {
      multipliers = no_requests _ s.requests h.takes.0;
      grid = r.grid;
      round =
          r.round;
    })
ready_next s (upper name) t has h r =
    subst IsReady (sym h.added)
    (record {
      multipliers = one_more _ s.requests (Upper h.index) r.multipliers tt;
      grid =
          r.grid;
      round = r.round;
    })
ready_next s (sum multipliers) t has h r =
    subst IsReady (sym h.added)
    (record {
      multipliers =
          one_more _ s.requests (Sum multipliers) r.multipliers h.count;
      grid = r.grid;
      round =
          r.round;
    })
ready_next s (grid n) t has h r =
    subst IsReady (sym h.added)
    (record { multipliers = r.multipliers; grid = has.0; round = r.round })
ready_next s (round n) t has h r =
    subst IsReady (sym h.added)
    (record { multipliers = r.multipliers; grid = r.grid; round = has.0 })

same_end : (s t : Task) → ◌≡◌ {A = Task ⊎ Task} (inr t) (inr s) → t ≡ s
same_end s t e = cc

same_next : (s t : Task) → ◌≡◌ {A = Task ⊎ Task} (inl t) (inl s) → t ≡ s
same_next s t e = cc

apart : (s t : Task) → ◌≡◌ {A = Task ⊎ Task} (inl t) (inr s) → ⊥
apart s t e = cc

ready_in_turn : (t : Task) (rest : List ℕ) (s : Task) (text : List ℕ) →
    ReadsInTurn (λ u. (next_line u).Reads) t rest s text →
    IsReady s → IsReady t
ready_in_turn t rest s text (last _ _ (inl (ends, (u, reads, same)))) r =
    subst IsReady (sym (same_end s t same)) r
ready_in_turn t rest s text (last _ _ (inr (not, (u, reads, same)))) r =
    absurd (apart t u (sym same))
ready_in_turn t rest s text (onward _ _ next middle (inl (ends, (u, reads, same))) more) r =
    absurd (apart s next same)
ready_in_turn t rest s text
    (onward _ _ next middle (inr (not, (u, (start, words, line, (told, spelled, adds)), same)))
    more) r =
    ready_in_turn t rest next middle more
    (subst IsReady (sym (same_next u next same)) (ready_next s told u spelled.1 adds r))

pub ready_lines : (t : Task) (rest text : List ℕ) →
    ReadsInTurn (λ u. (next_line u).Reads) t rest no_task text → IsReady t
ready_lines t rest text h =
    ready_in_turn t rest no_task text h
    (record { multipliers = All-nil (HasMultipliers 0); grid = tt; round = tt })

pub ready_text : (text : List ℕ) (t : Task) → IsProblemText text t → IsReady t
ready_text text t (
  rest,
  (u, behind, title, (v, lines, rule_line, (task, end, read, (same, at, nothing)))),
) =
    subst IsReady (sym same) (ready_lines task end lines read)
