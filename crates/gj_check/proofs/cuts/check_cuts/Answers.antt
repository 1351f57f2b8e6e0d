use Rattle.std.proofs.Common.{suc, All, take, drop, [], ◌∷◌, ◌++◌, refl, sym, ap, subst, ◌∙◌, arith}
use Rattle.std.proofs.Math.Seq.{split_at}
use Rattle.std.proofs.lemmas.List.{take_all}
use Rattle.std.proofs.lemmas.List.Elements.{All-push}
use Rattle.gj_check.specs.CutRows.{MeetsCutRow, IsRowOutcome}
use Rattle.gj_proof.proofs.AtPlaces.{with_place}
use Rattle.gj_proof.proofs.LineCounts.{length-row}
use Rattle.gj_check.proofs.CutLines.{count_of, count_of-append}
use Rattle.gj_check.proofs.SameNames.{row_names_differ}
use Rattle.gj_check.proofs.CutDemands.{rule_fails, cut_fails, cuts_meet}
use Rattle.gj_check.proofs.cuts.check_cuts.Goals as goal

pub returns-then-not-is_minimal_rule-clause-fault :
    goal.returns-then-not-is_minimal_rule-clause-fault
returns-then-not-is_minimal_rule-clause-fault c =
    rule_fails c.args.rule.now c.args.rows.now
    (λ h. let yes = c.is_minimal_rule.ensures.1 h in let no = c.if-not-is_minimal_rule.true in (cc))

pub returns-in-Some-clause-fault : goal.returns-in-Some-clause-fault
returns-in-Some-clause-fault c =
    let rows = c.args.rows.now in
    let i = c.loop-row.row-index in
    let l = c.row-item.result in
    let split = split_at rows i l c.loop-row-test.true
    ∙ ap (λ m. take i rows ++ m ∷ drop (suc i) rows) (sym c.row-item.is) in
    let counted = c.loop-row.invariant.0 in
    let line = c.in_ok-line.ensures in
    cut_fails c.args.rule.now rows (take i rows) (drop (suc i) rows) l c.in-Some.failure
    c.in_ok-line.line
    (c.if-not-is_minimal_rule.ensures.0 refl) split c.loop-row.invariant.1
    (subst (IsRowOutcome c.args.rule.now l) c.in-Some.is c.in_ok-failure.ensures) (omega arith)

pub known_behind-known-requires-clause-row : goal.known_behind-known-requires-clause-row
known_behind-known-requires-clause-row c =
    row_names_differ c.args.rule.now c.row-item.result
    (subst (IsRowOutcome c.args.rule.now c.row-item.result) c.in_default.is
    c.in_ok-failure.ensures)

pub loop-row-preserved : goal.loop-row-preserved
loop-row-preserved c =
    let rows = c.args.rows.now in
    let i = c.loop-row.row-index in
    let l = c.row-item.result in
    let more = with_place rows i l c.loop-row-test.true c.row-item.is in
    let counted = c.loop-row.invariant.0 in
    let line = c.in_ok-line-2.ensures in
    let one = length-row 0 l in
    let longer = ap count_of more ∙ count_of-append (take i rows) (l ∷ []) in (
      omega arith,
      subst (All (MeetsCutRow c.args.rule.now)) (sym more)
          (All-push (MeetsCutRow c.args.rule.now) (take i rows) l c.loop-row.invariant.1
          (subst (IsRowOutcome c.args.rule.now l) c.in_default.is c.in_ok-failure.ensures)),
      c.known_behind-known.ensures,
    )

pub returns-clause-ok : goal.returns-clause-ok
returns-clause-ok c =
    cuts_meet c.args.rule.now c.args.rows.now (c.if-not-is_minimal_rule.ensures.0 refl)
    (subst (All (MeetsCutRow c.args.rule.now))
    (take_all c.loop-row.row-index c.args.rows.now c.loop-row-test.false)
    c.loop-row.invariant.1)
