use Rattle.std.proofs.Common.{rules, ◌≡◌, ◌≤◌, ◌+◌, ℕ, List, length, take, drop, ap, sym, ◌∙◌, cond, arith, take-append-drop, length-append, length-drop}
use Rattle.std.specs.List.{count_by}
use Rattle.std.proofs.lemmas.List.Sums.{count_by-le-length, sum_by-append}
use Rattle.gj_row.specs.Reading.{is_comma}
use Rattle.gj_row.proofs.fields.commas.Goals as goal

-- what the commas of a front and those of a back are together, and that they are no more than the
-- bytes
counted : (bs front back : List ℕ) (few : ℕ) → front ≡ take 240 bs → back ≡ drop 240 bs →
    few ≡ count_by is_comma front →
    (few + count_by is_comma back ≡ count_by is_comma bs) × (few + length back ≤ length bs)
counted bs front back few f b is =
    let whole = take-append-drop 240 bs in
    let all : count_by is_comma bs ≡ count_by is_comma (take 240 bs) + count_by is_comma
    (drop 240 bs) =
    ap (count_by is_comma) (sym whole) ∙ sum_by-append (λ c. cond (is_comma c) 1 0) (take 240 bs)
    (drop 240 bs) in
    let long : length bs ≡ length (take 240 bs) + length (drop 240 bs) =
    ap length (sym whole) ∙ length-append (take 240 bs) (drop 240 bs) in
    let first : count_by is_comma front ≡ count_by is_comma (take 240 bs) =
    ap (count_by is_comma) f in
    let second : count_by is_comma back ≡ count_by is_comma (drop 240 bs) =
    ap (count_by is_comma) b in
    let end : length back ≡ length (drop 240 bs) = ap length b in
    let most = count_by-le-length is_comma (take 240 bs) in
    (omega (arith, all, first, second, is), omega (arith, long, first, end, is, most))

pub overflow_add-count : goal.overflow_add-count
overflow_add-count c =
    let held = c.loop-left.invariant in
    let s = counted c.loop-left.left.now c.split_at.result.0.now c.split_at.result.1.now
    c.commas_in_part-few.result
    c.split_at.ensures.front c.split_at.ensures.back c.commas_in_part-few.ensures in
    let within : c.loop-left.count + c.commas_in_part-few.result ≤ length c.args.line.now =
    omega (arith, s.1, held.within) in
    search rules

pub loop-left-smaller : goal.loop-left-smaller
loop-left-smaller c =
    let back = ap length c.split_at.ensures.back in
    omega (arith, back, length-drop 240 c.loop-left.left.now)

pub loop-left-preserved : goal.loop-left-preserved
loop-left-preserved c =
    let held = c.loop-left.invariant in
    let s = counted c.loop-left.left.now c.split_at.result.0.now c.split_at.result.1.now
    c.commas_in_part-few.result
    c.split_at.ensures.front c.split_at.ensures.back c.commas_in_part-few.ensures in
    record {
      count = omega (arith, s.0, held.count);
      within = omega (arith, s.1, held.within);
    }

pub overflow_add-result : goal.overflow_add-result
overflow_add-result c =
    let held = c.loop-left.invariant in
    let most = count_by-le-length is_comma c.loop-left.left.now in
    let within : c.loop-left.count + c.commas_in_part-last.result ≤ length c.args.line.now =
    omega (arith, most, held.within, c.commas_in_part-last.ensures) in
    search rules

pub returns-clause-count : goal.returns-clause-count
returns-clause-count c =
    let held = c.loop-left.invariant in
    omega (arith, held.count, c.commas_in_part-last.ensures)

pub returns-clause-few : goal.returns-clause-few
returns-clause-few c =
    let held = c.loop-left.invariant in
    let most = count_by-le-length is_comma c.loop-left.left.now in
    let within : c.loop-left.count + c.commas_in_part-last.result ≤ length c.args.line.now =
    omega (arith, most, held.within, c.commas_in_part-last.ensures) in
    search rules
