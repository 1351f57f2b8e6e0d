-- The task of each request (own).
use Rattle.std.specs.Prelude.{Bool, true, false, List, map, String, string_bytes, IfSome, IfNone, Option}
use Rattle.std.specs.declared.alloc.Global.{Global}
use Rattle.gj_words.specs.Grammar.{SpellRequest}
use Rattle.gj_words.specs.declared.requests.Command.{Command}
use Rattle.gj_words.specs.declared.requests.Command.TheVariants.{Minimal, Extreme, Cut, Show, Check, Faces, Demo, Mixed, Problem, Derive, Fill, Group, Times, Mirror, Restrict}
use Rattle.gj_words.specs.declared.requests.Request.{Request}
use Rattle.gj_top.specs.Promise.{Promise}
use Rattle.gj_top.specs.Task.{Work, Task}
use Rattle.gj_top.specs.Minimal.{minimal, minimal_promise}
use Rattle.gj_top.specs.Extreme.{extreme, extreme_promise}
use Rattle.gj_top.specs.LimitExtreme.{extreme_with_jumps, extreme_with_jumps_promise}
use Rattle.gj_top.specs.Show.{show, show_promise}
use Rattle.gj_top.specs.Check.{check, check_promise}
use Rattle.gj_top.specs.Faces.{faces, faces_promise, faces_with_jumps, faces_with_jumps_promise}
use Rattle.gj_top.specs.Cut.{cut, cut_promise}
use Rattle.gj_top.specs.Demo.{demo, demo_promise}
use Rattle.gj_top.specs.Mixed.{mixed, mixed_promise}
use Rattle.gj_top.specs.Problem.{problem, problem_promise}
use Rattle.gj_top.specs.Derive.{derive, derive_promise}
use Rattle.gj_top.specs.Fill.{fill, fill_promise}
use Rattle.gj_top.specs.Group.{group, group_promise}
use Rattle.gj_top.specs.Transform.{times, times_promise, mirror, mirror_promise, restriction, restriction_promise}

-- what a command promises, with each of the flags `--json` and `--jumps` or without it
abbrev pub promise_with : Command → Bool → Bool → Promise
promise_with Minimal json jumps = minimal_promise json
promise_with Extreme json false = extreme_promise json
promise_with Extreme json true = extreme_with_jumps_promise json
promise_with Show json jumps = show_promise json
promise_with Check json jumps = check_promise
promise_with Faces json false = faces_promise
promise_with Faces json true = faces_with_jumps_promise
promise_with Cut json jumps = cut_promise
promise_with (Demo n) json jumps = demo_promise n
promise_with Mixed json jumps = mixed_promise
promise_with Problem json jumps = problem_promise
promise_with Derive json jumps = derive_promise
promise_with Fill json jumps = fill_promise
promise_with Group json jumps = group_promise
promise_with (Times n j) json jumps = times_promise n j
promise_with Mirror json jumps = mirror_promise
promise_with (Restrict d) json jumps = restriction_promise d

abbrev pub promise_for : Request → Promise
promise_for request = promise_with request.command request.json request.jumps

-- and how it answers
abbrev pub work_with : (command : Command) (json jumps : Bool) →
    Work (promise_with command json jumps)
work_with Minimal json jumps = (minimal json).work
work_with Extreme json false = (extreme json).work
work_with Extreme json true = (extreme_with_jumps json).work
work_with Show json jumps = (show json).work
work_with Check json jumps = check.work
work_with Faces json false = faces.work
work_with Faces json true = faces_with_jumps.work
work_with Cut json jumps = cut.work
work_with (Demo n) json jumps = (demo n).work
work_with Mixed json jumps = mixed.work
work_with Problem json jumps = problem.work
work_with Derive json jumps = derive.work
work_with Fill json jumps = fill.work
work_with Group json jumps = group.work
work_with (Times n j) json jumps = (times n j).work
work_with Mirror json jumps = mirror.work
work_with (Restrict d) json jumps = (restriction d).work

-- both together
abbrev pub task_with : Command → Bool → Bool → Task
task_with command json jumps =
    record { promise = promise_with command json jumps; work = work_with command json jumps }

abbrev pub task_for : Request → Task
task_for request = task_with request.command request.json request.jumps

-- the words name the request
abbrev pub IsNamed : List (String Global) → Request → Type 0
IsNamed words request = SpellRequest (map string_bytes words) request

-- the words name no request
abbrev pub NameNone : List (String Global) → Type 0
NameNone words = (request : Request) → IsNamed words request → ⊥

-- the request that the words name, if they name one
abbrev pub IsFoundIn : List (String Global) → Option Request → Type 0
IsFoundIn words found = IfSome found (IsNamed words) × IfNone found (NameNone words)
