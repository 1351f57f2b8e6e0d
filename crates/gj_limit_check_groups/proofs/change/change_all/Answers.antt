use Rattle.std.proofs.Common.{rules, ◌≡◌, ℕ, ◌+◌, ◌-◌, ◌<◌, ℤ, List, ◌++◌, length, get_or, set, map, take, drop, sym, ap, ap₂, subst, ◌∙◌, arith}
use Rattle.std.specs.Prelude.{All}
use Rattle.std.proofs.lemmas.Int.{to_z-of_z}
use Rattle.std.proofs.lemmas.List.{take_all, append-nil, length-map, length-take-le, get_or-append_right, get_or-drop, get_or_default}
use Rattle.std.proofs.lemmas.List.Edits.{map_over_more}
use Rattle.std.proofs.lemmas.List.Elements.{All-get_or}
use Rattle.std.proofs.Math.ListN.{drop_of_length-le}
use mir.Syntax.{w128}
use Rattle.gj_sparse_elim.specs.declared.entry.Entry.{Entry}
use Rattle.gj_sparse_elim.proofs.SparseRows.{no_entry}
use Rattle.gj_limit_check_groups.specs.declared.change.Change.{Change}
use Rattle.gj_limit_check_groups.specs.Changes.{CanChange, changed, changed_entry}
use Rattle.gj_limit_check_groups.proofs.change.change_all.Goals as goal

-- the entries before the i-th are changed
abbrev IsSoFar : Change → List Entry → List Entry → ℕ → Type 0
IsSoFar change old row i = row ≡ map (changed_entry change) (take i old) ++ drop i old

-- the entry at the index is as it was
same_entry : (change : Change) (old row : List Entry) (i : ℕ) → IsSoFar change old row i →
    i < length row →
    length row ≡ length old → get_or row i no_entry ≡ get_or old i no_entry
same_entry change old row i h inside len =
    let front : length (map (changed_entry change) (take i old)) ≡ i =
    length-map (take i old) (changed_entry change) ∙ length-take-le i old (omega arith) in
    ap (λ xs. get_or xs i no_entry) h
    ∙ get_or-append_right (map (changed_entry change) (take i old)) (drop i old) i i no_entry front
    (omega arith)
    ∙ get_or-drop i old (i - i) no_entry ∙ ap (λ k. get_or old k no_entry) (omega arith)

can_change : (change : Change) (old row : List Entry) (i : ℕ) (x : ℤ) → IsSoFar change old row i →
    i < length row →
    length row ≡ length old → x ≡ (get_or row i no_entry).factor →
    All (λ e. CanChange change e.factor) old →
    CanChange change x
can_change change old row i x h inside len x_is all =
    subst (CanChange change)
    (sym (x_is ∙ ap (λ e. e.factor) (same_entry change old row i h inside len)))
    (All-get_or (λ e. CanChange change e.factor) old i no_entry (omega arith) all)

more : (change : Change) (old row : List Entry) (i : ℕ) (z x : ℤ) → IsSoFar change old row i →
    i < length row →
    length row ≡ length old → x ≡ (get_or row i no_entry).factor → z ≡ changed change x →
    IsSoFar change old (set row i (record { column = (get_or row i no_entry).column; factor = z }))
    (i + 1)
more change old row i z x h inside len x_is z_is =
    let e = get_or row i no_entry in
    ap (λ y. set row i (let one : Entry = record { column = e.column; factor = y } in one))
    (z_is ∙ ap (changed change) x_is)
    ∙ map_over_more (changed_entry change) old row i e (omega arith) h
    (get_or_default row i no_entry e inside)

pub factor_after-requires : goal.factor_after-requires
factor_after-requires c =
    can_change c.args.change c.args.row.now c.loop-i.row c.loop-i.i _ c.loop-i.invariant
    (omega arith) c.loop-i.auto.row
    (to_z-of_z w128 (get_or c.loop-i.row c.loop-i.i no_entry).factor (search rules)) c.requires

pub loop-i-preserved : goal.loop-i-preserved
loop-i-preserved c =
    more c.args.change c.args.row.now c.loop-i.row c.loop-i.i _ _ c.loop-i.invariant
    (omega arith) c.loop-i.auto.row
    (to_z-of_z w128 (get_or c.loop-i.row c.loop-i.i no_entry).factor (search rules))
    (to_z-of_z w128 c.factor_after.result (search rules) ∙ c.factor_after.ensures)

pub returns : goal.returns
returns c =
    let old = c.args.row.now in
    let i = c.loop-i.i in
    c.loop-i.invariant
    ∙ ap₂ (λ xs ys. map (changed_entry c.args.change) xs ++ ys) (take_all i old c.loop-i-test.false)
    (drop_of_length-le old (omega arith)) ∙ append-nil (map (changed_entry c.args.change) old)
