use Rattle.std.proofs.Common.{rules, ◌≡◌, ℕ, ◌+◌, ◌<◌, ℤ, pos, List, length, get_or, map, drop, unsigned_abs, sym, ap, ◌∙◌, arith}
use Rattle.std.specs.Int.{IsGcd}
use Rattle.std.proofs.lemmas.Int.{to_z-of_z}
use Rattle.std.proofs.lemmas.List.{length-map, get_or-map}
use Rattle.std.proofs.lemmas.Nat.Gcd.{IsGcd-swap}
use mir.Syntax.{w128}
use Rattle.gj_lemmas.specs.Divisors.{gcd_of}
use Rattle.gj_shape.specs.Elimination.{gcd_of_row}
use Rattle.gj_theory.proofs.RowGcds.{gcd_zero_of, gcd_one_of, gcd_next, gcd_last}
use Rattle.gj_sparse_elim.specs.declared.entry.Entry.{Entry}
use Rattle.gj_sparse_elim.proofs.SparseRows.{no_entry}
use Rattle.gj_limit_check_groups.proofs.divide.divisor_of.Goals as goal

abbrev factors : List Entry → List ℤ
factors row = map (λ e. e.factor) row

pub loop-entry-init : goal.loop-entry-init
loop-entry-init c = sym (gcd_zero_of (gcd_of_row (factors c.args.row.now)))

pub returns-then-divisor-eq1 : goal.returns-then-divisor-eq1
returns-then-divisor-eq1 c =
    let rest = gcd_of_row (drop c.loop-entry.entry-index (factors c.args.row.now)) in
    sym (c.loop-entry.invariant ∙ ap (λ d. gcd_of d rest) c.if-divisor-eq1.true ∙ gcd_one_of rest)

-- with one more entry
next : (row : List Entry) (i d a g : ℕ) → i < length row →
    a ≡ unsigned_abs (get_or row i no_entry).factor →
    gcd_of_row (factors row) ≡ gcd_of d (gcd_of_row (drop i (factors row))) → IsGcd a d g →
    gcd_of_row (factors row) ≡ gcd_of g (gcd_of_row (drop (i + 1) (factors row)))
next row i d a g inside a_is h is =
    gcd_next (factors row) i d a g (omega (arith, length-map row (λ e. e.factor)))
    (a_is ∙ ap unsigned_abs
    (sym (get_or-map (λ (e : Entry). e.factor) row i no_entry (pos 0) inside))) h
    (IsGcd-swap a d g is)

pub loop-entry-preserved : goal.loop-entry-preserved
loop-entry-preserved c =
    next c.args.row.now c.loop-entry.entry-index c.loop-entry.divisor c.unsigned_abs.result
    c.gcd-divisor.result
    c.loop-entry-test.true
    (c.unsigned_abs.ensures.value
    ∙ ap unsigned_abs (to_z-of_z w128
    (get_or c.args.row.now c.loop-entry.entry-index no_entry).factor (search rules)))
    c.loop-entry.invariant c.gcd-divisor.ensures

pub returns : goal.returns
returns c =
    gcd_last (factors c.args.row.now) c.loop-entry.entry-index c.loop-entry.divisor
    (let long = length-map c.args.row.now (λ e. e.factor) in omega arith) c.loop-entry.invariant
