use Rattle.std.proofs.Common.{◌≡◌, ℕ, Option, Some, List, [], ◌∷◌, ◌++◌, length, map, zero-add, sym, ap, ◌∙◌, arith}
use Rattle.std.specs.List.{range_with_len}
use Rattle.std.proofs.lemmas.List.{map-append}
use Rattle.gj_lemmas.proofs.Lists.{range_split}
use Rattle.gj_derivation.proofs.derive.begun_at.Goals as goal

pub loop-i-preserved : goal.loop-i-preserved
loop-i-preserved c =
    let i = c.loop-i.i in
    let some = λ (k : ℕ). let o : Option ℕ = Some k in o in
    c.in_ok-push.ensures.items ∙ ap (λ (ls : List (Option ℕ)). ls ++ some i ∷ []) c.loop-i.invariant
    ∙ sym (ap (map some) (range_split 0 i 1 ∙ ap (λ (k : ℕ). range_with_len 0 i ++ range_with_len k
    1) (zero-add i))
    ∙ map-append some (range_with_len 0 i) (i ∷ []))

pub returns : goal.returns
returns c =
    let end : c.loop-i.i ≡ length c.args.problem.constraints =
    let columns = ap (λ xs. length xs) c.as_slice-i-end.ensures in
    let high = c.loop-i.auto.i-end in
    let low = c.loop-i-test.false in
    omega arith in
    let lines = c.of.ensures ∙ c.loop-i.invariant ∙ ap (λ (n : ℕ). map
    (λ (k : ℕ). let o : Option ℕ = Some k in o) (range_with_len 0 n)) end in
    λ k. record { problem = c.args.problem; lines = lines k }
