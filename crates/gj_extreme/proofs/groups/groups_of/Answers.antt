use Rattle.std.proofs.Common.{◌≡◌, ◌∷◌, ◌++◌, [], length, length-append, take, map, sym, ap, ◌∙◌, arith, rules}
use Rattle.std.proofs.Math.Seq.{take-length}
use Rattle.std.proofs.lemmas.Slice.Zip.{zip_turn, zip_end}
use Rattle.gj_shape.specs.Elimination.{KeptRow}
use Rattle.gj_extreme.proofs.GroupLists.{one_group_more, lines_count}
use Rattle.gj_extreme.proofs.groups.groups_of.Goals as goal

pub loop-name-preserved : goal.loop-name-preserved
loop-name-preserved g c = λ name_of kept names lines.
    let i = length c.loop-name.yielded in
    let turn = zip_turn c.args.names.now c.args.log.now c.loop-name.yielded
    c.into_iter-name-iterator.result c.loop-name.name-iterator
    c.next.new.self c.next.result (search rules) (search rules) c.loop-name.yielded_by
    (c.in-Some.name, c.in-Some.line) c.in-Some.is
    c.next.ensures.steps in
    let inside = turn.1 in
    let whole = lines_count kept c.args.log.now lines in
    let name = c.in-Some.name.now in
    one_group_more name_of g.M.GroupMaker.made name kept c.args.names.now c.args.log.now
    c.loop-name.groups.items c.push.new.self.items i name
    c.in-Some.line.now c.of.result (omega arith) names lines (turn.2 name)
    (turn.3 c.in-Some.line.now)
    (c.of.ensures ∙ c.in_ok-reduce.ensures.items ∙ c.as_slice.ensures)
    (c.loop-name.invariant name_of kept names lines)
    (c.in_ok-push.ensures.items ∙ ap (λ r. c.loop-name.groups.items ++ r ∷ []) c.group.ensures)
    ∙ ap (λ n. map (λ (k : KeptRow). g.M.GroupMaker.made (name_of k) k.reduce k.pivot) (take n kept))
    (sym (length-append c.loop-name.yielded ((c.in-Some.name, c.in-Some.line) ∷ [])))

pub returns : goal.returns
returns g c = λ name_of kept names lines.
    let end = zip_end c.args.names.now c.args.log.now c.loop-name.yielded
    c.into_iter-name-iterator.result c.loop-name.name-iterator
    c.next.new.self c.next.result (search rules) (search rules) c.loop-name.yielded_by c.in-None.is
    c.next.ensures.steps in
    let whole = lines_count kept c.args.log.now lines in
    let all : length c.loop-name.yielded ≡ length kept = omega arith in
    let group = λ (k : KeptRow). g.M.GroupMaker.made (name_of k) k.reduce k.pivot in
    c.loop-name.invariant name_of kept names lines ∙ ap (λ n. map group (take n kept)) all
    ∙ ap (map group) (take-length kept)
