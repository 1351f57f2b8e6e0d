use Rattle.std.proofs.Common.{◌≡◌, ◌+◌, ◌<◌, List, [], ◌∷◌, ◌++◌, length, map, take, get_or, refl, sym, ap, subst, ◌∙◌, arith}
use Rattle.std.proofs.Math.Seq.{take-length}
use Rattle.std.proofs.lemmas.List.{length-map}
use Rattle.std.proofs.lemmas.List.Elements.{All-get_or}
use Rattle.gj_frac.proofs.Refusals.{on_ok_along}
use Rattle.gj_shape.specs.Elimination.{KeptRow}
use Rattle.gj_elim.specs.KeptRows.{log_row}
use Rattle.gj_elim.specs.declared.log.LogRow.{LogRow}
use Rattle.gj_extreme.specs.RowsToCome.{AreLoggedRows}
use Rattle.gj_extreme.proofs.GroupLists.{count_more, one_name_more}
use Rattle.gj_extreme.proofs.RenumberedKernel.{lines_of_log}
use Rattle.gj_extreme.proofs.groups.groups_by_number.Goals as goal

pub loop-line-init : goal.loop-line-init
loop-line-init g c = (
  ap length c.in_ok-kept.ensures.items,
  λ none kept log. c.in_ok-kept.ensures.items,
)

pub loop-line-preserved : goal.loop-line-preserved
loop-line-preserved g c =
    let more = count_more c.loop-line.kept.items c.push.new.self.items _
    c.in_ok-push.ensures.items in
    let line = c.line-item.result in
    let low = subst (λ (l : LogRow). l.number < length c.args.names.now) (sym c.line-item.is)
    (All-get_or (λ l. l.number < length c.args.names.now) c.args.log.now c.loop-line.line-index line
    (omega arith) c.requires) in (
      more ∙ ap (λ n. n + 1) c.loop-line.invariant.0,
      λ none kept log.
          let whole = ap length log ∙ length-map kept log_row in
          one_name_more c.args.names.now none kept c.args.log.now c.args.names.now
          c.loop-line.kept.items c.push.new.self.items c.loop-line.line-index
          c.index-names-line.result
          line (omega arith) log c.line-item.is refl low (c.loop-line.invariant.1 none kept log)
          (c.in_ok-push.ensures.items
          ∙ ap (λ x. c.loop-line.kept.items ++ x ∷ []) c.index-names-line.is),
    )

pub groups_of-requires : goal.groups_of-requires
groups_of-requires g c =
    let before = c.loop-line.invariant.0 in
    ap length c.as_slice.ensures.value
    ∙ (let all : length c.loop-line.kept.items ≡ length c.args.log.now = omega arith in all)

pub returns : goal.returns
returns g c =
    on_ok_along c.groups_of.result
    (λ v. (name_of : KeptRow → _) (kept : List KeptRow) →
    c.as_slice.result.now ≡ map name_of kept → AreLoggedRows kept c.args.log.now →
    v.items ≡ map (λ k. g.M.GroupMaker.made (name_of k) k.reduce k.pivot) kept)
    (λ v. (none : _) (kept : List KeptRow) → c.args.log.now ≡ map log_row kept →
    v.items
    ≡ map (λ k. g.M.GroupMaker.made (get_or c.args.names.now k.number none) k.reduce k.pivot) kept)
    (λ v given none kept log.
    let whole = ap length log ∙ length-map kept log_row in
    let all : c.loop-line.line-index ≡ length kept = omega arith in
    let name_of = λ (k : KeptRow). get_or c.args.names.now k.number none in
    given name_of kept
    (c.as_slice.ensures.value ∙ c.loop-line.invariant.1 none kept log
    ∙ ap (λ i. map name_of (take i kept)) all
    ∙ ap (map name_of) (take-length kept))
    (subst (AreLoggedRows kept) (sym log) (lines_of_log kept)))
    c.groups_of.ensures
