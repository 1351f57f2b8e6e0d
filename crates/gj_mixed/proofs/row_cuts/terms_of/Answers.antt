use Rattle.std.proofs.Common.{◌≡◌, ◌<◌, List, length, ap, not, sym, subst, ◌∙◌, arith}
use Rattle.std.specs.List.{AllZip}
use Rattle.std.proofs.lemmas.List.{take_all}
use Rattle.std.specs.Vec.{vec_len, vec_capacity}
use Rattle.gj_shape.specs.Limits.{IsRowNumber}
use Rattle.gj_row.specs.declared.tableau.Entry.{Entry}
use Rattle.gj_cut.specs.RowCuts.{IsTermOf}
use Rattle.gj_mixed.specs.MixedCuts.{IsWeightTermOf, is_continuous, whole_entries, continuous_entries}
use Rattle.gj_mixed.proofs.MixedTerms.{zip_kept, zip_dropped}
use Rattle.gj_mixed.proofs.row_cuts.terms_of.Goals as goal
use Rattle.gj_mixed.proofs.row_cuts.terms_of.Goals.{then-flag+in_ok-push, else-flag}

pub loop-entry-preserved : goal.loop-entry-preserved
loop-entry-preserved g c =
    let entries = c.args.entries.now in
    let continuous = c.args.continuous.now in
    let i = c.loop-entry.entry-index in
    let x = c.entry-item.result in
    let terms = IsTermOf g.E.Evaluator.answers c.args.rule.now in
    let weights = IsWeightTermOf g.G.Evaluator.answers c.args.slopes.now in
    let here = is_continuous continuous in
    let below = c.loop-entry-test.true in
    let kept = c.loop-entry.invariant in
    elim c.if-flag.branch [
      | then-flag+in_ok-push w ↦
          let same : vec_len c.if-flag.terms ≡ vec_len c.loop-entry.terms =
          ap (λ v. vec_len v) w.terms-is in
          record {
            few = omega arith;
            room = ap (λ v. vec_capacity v) w.terms-is ∙ kept.room;
            terms = zip_dropped terms (λ e. not (here e)) entries i x c.loop-entry.terms.items
                c.if-flag.terms.items below
                c.entry-item.is (ap not w.if-flag.true) (ap (λ v. v.items) w.terms-is) kept.terms;
            weights = zip_kept weights here entries i x c.loop-entry.weights.items
                w.push.new.self.items c.if-flag.weights.items
                c.mixed_term-made.result below c.entry-item.is w.if-flag.true
                (ap (λ v. v.items) w.weights-is) w.in_ok-push.ensures.items
                kept.weights (c.mixed_term-made.ensures.continuous w.if-flag.true);
          }
      | else-flag w ↦
          let same : vec_len c.if-flag.terms ≡ vec_len w.push_reserved.new.self =
          ap (λ v. vec_len v) w.terms-is in
          let more = w.push_reserved.ensures.len in
          record {
            few = omega arith;
            room = ap (λ v. vec_capacity v) w.terms-is ∙ w.push_reserved.ensures.capacity
                ∙ kept.room;
            terms = zip_kept terms (λ e. not (here e)) entries i x c.loop-entry.terms.items
                w.push_reserved.new.self.items
                c.if-flag.terms.items c.mixed_term-made.result below c.entry-item.is
                (ap not w.if-flag.false)
                (ap (λ v. v.items) w.terms-is) w.push_reserved.ensures.items kept.terms
                (c.mixed_term-made.ensures.whole w.if-flag.false);
            weights = zip_dropped weights here entries i x c.loop-entry.weights.items
                c.if-flag.weights.items below
                c.entry-item.is w.if-flag.false (ap (λ v. v.items) w.weights-is) kept.weights;
          }
    ]

pub bounds-continuous-entry : goal.bounds-continuous-entry
bounds-continuous-entry g c =
    subst (λ (entry : Entry). entry.column < length c.args.continuous.now) (sym c.entry-item.is)
    (c.requires.columns c.loop-entry.entry-index c.entry-item.result c.loop-entry-test.true)

pub mixed_term-made-requires : goal.mixed_term-made-requires
mixed_term-made-requires g c =
    subst (λ (entry : Entry). IsRowNumber entry.value) (sym c.entry-item.is)
    (c.requires.range c.loop-entry.entry-index c.entry-item.result c.loop-entry-test.true)

pub returns-clause-terms : goal.returns-clause-terms
returns-clause-terms g c =
    subst (λ (entries : List Entry). AllZip (IsTermOf g.E.Evaluator.answers c.args.rule.now)
    (whole_entries c.args.continuous.now entries) c.loop-entry.terms.items)
    (take_all c.loop-entry.entry-index c.args.entries.now c.loop-entry-test.false)
    c.loop-entry.invariant.terms

pub returns-clause-weights : goal.returns-clause-weights
returns-clause-weights g c =
    subst (λ (entries : List Entry). AllZip (IsWeightTermOf g.G.Evaluator.answers c.args.slopes.now)
    (continuous_entries c.args.continuous.now entries) c.loop-entry.weights.items)
    (take_all c.loop-entry.entry-index c.args.entries.now c.loop-entry-test.false)
    c.loop-entry.invariant.weights
