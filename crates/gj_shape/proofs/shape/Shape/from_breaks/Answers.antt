use Rattle.std.proofs.Common.{◌≡◌, ◌+◌, ◌-◌, pos, length, sym, subst, ◌∙◌, arith}
use Rattle.std.proofs.lemmas.List.{nil_from_length}
use Rattle.std.proofs.lemmas.Result.{IfOk-weaker, IfErr-weaker}
use Rattle.gj_frac.specs.Fraction.{IsRatio}
use Rattle.gj_shape.proofs.BreakPieces.{IsBreakAt, AreLaidFrom, piece_pushed, ends_within, place_on, place_below, places_ascend, laid_more, grid_done, grid_fault}
use Rattle.gj_shape.proofs.BreakValues.{has_breaks}
use Rattle.gj_shape.proofs.shape.Shape.from_breaks.Goals as goal

-- ---- between two breakpoints

pub place_of-requires-clause-place : goal.place_of-requires-clause-place
place_of-requires-clause-place c =
    let h = c.requires in
    let next : IsBreakAt c.args.points.now (c.loop-i.i + 1) c.index-points-i-in-loop-i.result =
    record { within = omega arith; is = c.index-points-i-in-loop-i.is } in
    place_on c.args.q c.args.points.now (c.loop-i.i + 1) _
    (omega (arith, h.order.0)) h.ascending h.on_grid next

pub place_of-requires-in-loop-i-clause-place : goal.place_of-requires-in-loop-i-clause-place
place_of-requires-in-loop-i-clause-place c =
    let h = c.requires in
    let at : IsBreakAt c.args.points.now c.loop-i.i c.index-points-i.result =
    record { within = omega arith; is = c.index-points-i.is } in
    place_on c.args.q c.args.points.now c.loop-i.i _
    (omega (arith, h.order.0)) h.ascending h.on_grid at

pub overflow_sub-steps : goal.overflow_sub-steps
overflow_sub-steps c =
    let h = c.requires in
    let at : IsBreakAt c.args.points.now c.loop-i.i c.index-points-i.result =
    record { within = omega arith; is = c.index-points-i.is } in
    let next : IsBreakAt c.args.points.now (c.loop-i.i + 1) c.index-points-i-in-loop-i.result =
    record { within = omega arith; is = c.index-points-i-in-loop-i.is } in
    let greater = places_ascend c.args.q c.args.points.now c.loop-i.i c.index-points-i.result
    c.index-points-i-in-loop-i.result
    c.place_of-in-loop-i.result c.place_of.result (omega (arith, h.order.0)) h.ascending at next
    c.place_of-in-loop-i.ensures c.place_of.ensures in
    omega arith

pub push_line-requires-clause-some : goal.push_line-requires-clause-some
push_line-requires-clause-some c =
    let h = c.requires in
    let at : IsBreakAt c.args.points.now c.loop-i.i c.index-points-i.result =
    record { within = omega arith; is = c.index-points-i.is } in
    let next : IsBreakAt c.args.points.now (c.loop-i.i + 1) c.index-points-i-in-loop-i.result =
    record { within = omega arith; is = c.index-points-i-in-loop-i.is } in
    let greater = places_ascend c.args.q c.args.points.now c.loop-i.i c.index-points-i.result
    c.index-points-i-in-loop-i.result
    c.place_of-in-loop-i.result c.place_of.result (omega (arith, h.order.0)) h.ascending at next
    c.place_of-in-loop-i.ensures c.place_of.ensures in
    omega arith

pub push_line-requires-clause-few : goal.push_line-requires-clause-few
push_line-requires-clause-few c =
    let h = c.requires in
    let next : IsBreakAt c.args.points.now (c.loop-i.i + 1) c.index-points-i-in-loop-i.result =
    record { within = omega arith; is = c.index-points-i-in-loop-i.is } in
    let below = place_below c.args.q c.args.points.now
    (c.loop-i.i + 1) c.index-points-i-in-loop-i.result c.place_of.result
    (omega (arith, h.order.0)) h.ascending h.on_grid next c.place_of.ensures in
    omega (arith, h.order.1)

pub push_line-requires-clause-within : goal.push_line-requires-clause-within
push_line-requires-clause-within c =
    let at : IsBreakAt c.args.points.now c.loop-i.i c.index-points-i.result =
    record { within = omega arith; is = c.index-points-i.is } in
    let next : IsBreakAt c.args.points.now (c.loop-i.i + 1) c.index-points-i-in-loop-i.result =
    record { within = omega arith; is = c.index-points-i-in-loop-i.is } in
    ends_within c.args.points.now c.loop-i.i (c.loop-i.i + 1) _ _ c.requires.within at next

pub loop-i-preserved : goal.loop-i-preserved
loop-i-preserved c =
    let h = c.requires in
    let q = c.args.q in
    let i = c.loop-i.i in
    let breaks = c.args.points.now in
    let w = c.index-points-0.result.left in
    let b = c.index-points-i.result in
    let d = c.index-points-i-in-loop-i.result in
    let m = c.place_of-in-loop-i.result in
    let n = c.place_of.result in
    let at : IsBreakAt breaks i b = record { within = omega arith; is = c.index-points-i.is } in
    let next : IsBreakAt breaks (i + 1) d =
    record { within = omega arith; is = c.index-points-i-in-loop-i.is } in
    let greater = places_ascend q breaks i b d m n (omega (arith, h.order.0)) h.ascending at next
    c.place_of-in-loop-i.ensures c.place_of.ensures in
    let on : n ≡ m + (n - m) = omega arith in
    let (more, piece, items) =
    piece_pushed b d.left (n - m) _ _ _ c.in_ok-push_line.ensures c.in_ok-push.ensures.items in
    subst (AreLaidFrom q w breaks (i + 1)) (sym items)
    (laid_more q w breaks i m (n - m) b d _ more at next c.place_of-in-loop-i.ensures
    (subst (λ p. IsRatio d.x (pos p) (pos q)) on c.place_of.ensures) piece c.loop-i.invariant)

-- ---- behind the last breakpoint

pub place_of-requires-2-clause-place : goal.place_of-requires-2-clause-place
place_of-requires-2-clause-place c =
    let h = c.requires in
    let breaks = c.args.points.now in
    let some : length breaks ≡ 0 → ⊥ = λ e. h.some (nil_from_length breaks e) in
    let at : IsBreakAt breaks (length breaks - 1) c.index-points-last.result =
    record { within = omega (arith, some); is = c.index-points-last.is } in
    place_on c.args.q breaks (length breaks - 1) _ (omega (arith, h.order.0)) h.ascending h.on_grid
    at

pub overflow_sub-steps-2 : goal.overflow_sub-steps-2
overflow_sub-steps-2 c =
    let h = c.requires in
    let breaks = c.args.points.now in
    let some : length breaks ≡ 0 → ⊥ = λ e. h.some (nil_from_length breaks e) in
    let at : IsBreakAt breaks (length breaks - 1) c.index-points-last.result =
    record { within = omega (arith, some); is = c.index-points-last.is } in
    let below = place_below c.args.q breaks (length breaks - 1) c.index-points-last.result
    c.place_of-2.result (omega (arith, h.order.0))
    h.ascending h.on_grid at c.place_of-2.ensures in
    omega arith

pub push_line-requires-2-clause-some : goal.push_line-requires-2-clause-some
push_line-requires-2-clause-some c =
    let h = c.requires in
    let breaks = c.args.points.now in
    let some : length breaks ≡ 0 → ⊥ = λ e. h.some (nil_from_length breaks e) in
    let at : IsBreakAt breaks (length breaks - 1) c.index-points-last.result =
    record { within = omega (arith, some); is = c.index-points-last.is } in
    let below = place_below c.args.q breaks (length breaks - 1) c.index-points-last.result
    c.place_of-2.result (omega (arith, h.order.0))
    h.ascending h.on_grid at c.place_of-2.ensures in
    omega arith

pub push_line-requires-2-clause-within : goal.push_line-requires-2-clause-within
push_line-requires-2-clause-within c =
    let h = c.requires in
    let breaks = c.args.points.now in
    let some : length breaks ≡ 0 → ⊥ = λ e. h.some (nil_from_length breaks e) in
    let at : IsBreakAt breaks (length breaks - 1) c.index-points-last.result =
    record { within = omega (arith, some); is = c.index-points-last.is } in
    let first : IsBreakAt breaks 0 c.index-points-0.result =
    record { within = omega (arith, some); is = c.index-points-0.is } in
    ends_within breaks (length breaks - 1) 0 _ _ h.within at first

pub returns-clause-given : goal.returns-clause-given
returns-clause-given c =
    let h = c.requires in
    let q = c.args.q in
    let breaks = c.args.points.now in
    let some : length breaks ≡ 0 → ⊥ = λ e. h.some (nil_from_length breaks e) in
    let b = c.index-points-last.result in
    let first : IsBreakAt breaks 0 c.index-points-0.result =
    record { within = omega (arith, some); is = c.index-points-0.is } in
    let at : IsBreakAt breaks (length breaks - 1) b =
    record { within = omega (arith, some); is = c.index-points-last.is } in
    let below = place_below q breaks (length breaks - 1) b c.place_of-2.result
    (omega (arith, h.order.0)) h.ascending h.on_grid at
    c.place_of-2.ensures in
    let (more, piece, items) =
    piece_pushed b c.index-points-0.result.left
    (q - c.place_of-2.result) _ _ _ c.in_ok-push_line-2.ensures c.in_ok-push-2.ensures.items in
    let grid = grid_done q breaks (length breaks - 1) c.loop-i.i c.place_of-2.result _ b _ more
    c.as_slice.result.now first at
    (omega (arith, some)) (omega arith) (omega arith) c.place_of-2.ensures piece c.loop-i.invariant
    (c.as_slice.ensures.value ∙ items) in
    IfOk-weaker c.with_points.result _ _ (λ f given. (c.as_slice.result.now, grid, given))
    c.with_points.ensures.given

pub returns-clause-value : goal.returns-clause-value
returns-clause-value c =
    let h = c.requires in
    let q = c.args.q in
    let breaks = c.args.points.now in
    let some : length breaks ≡ 0 → ⊥ = λ e. h.some (nil_from_length breaks e) in
    let b = c.index-points-last.result in
    let first : IsBreakAt breaks 0 c.index-points-0.result =
    record { within = omega (arith, some); is = c.index-points-0.is } in
    let at : IsBreakAt breaks (length breaks - 1) b =
    record { within = omega (arith, some); is = c.index-points-last.is } in
    let below = place_below q breaks (length breaks - 1) b c.place_of-2.result
    (omega (arith, h.order.0)) h.ascending h.on_grid at
    c.place_of-2.ensures in
    let (more, piece, items) =
    piece_pushed b c.index-points-0.result.left
    (q - c.place_of-2.result) _ _ _ c.in_ok-push_line-2.ensures c.in_ok-push-2.ensures.items in
    let grid = grid_done q breaks (length breaks - 1) c.loop-i.i c.place_of-2.result _ b _ more
    c.as_slice.result.now first at
    (omega (arith, some)) (omega arith) (omega arith) c.place_of-2.ensures piece c.loop-i.invariant
    (c.as_slice.ensures.value ∙ items) in
    IfOk-weaker c.with_points.result _ _
    (λ f given. has_breaks q c.args.k breaks c.as_slice.result.now f grid given)
    c.with_points.ensures.given

pub returns-clause-fault : goal.returns-clause-fault
returns-clause-fault c =
    let h = c.requires in
    let q = c.args.q in
    let breaks = c.args.points.now in
    let some : length breaks ≡ 0 → ⊥ = λ e. h.some (nil_from_length breaks e) in
    let b = c.index-points-last.result in
    let first : IsBreakAt breaks 0 c.index-points-0.result =
    record { within = omega (arith, some); is = c.index-points-0.is } in
    let at : IsBreakAt breaks (length breaks - 1) b =
    record { within = omega (arith, some); is = c.index-points-last.is } in
    let below = place_below q breaks (length breaks - 1) b c.place_of-2.result
    (omega (arith, h.order.0)) h.ascending h.on_grid at
    c.place_of-2.ensures in
    let (more, piece, items) =
    piece_pushed b c.index-points-0.result.left
    (q - c.place_of-2.result) _ _ _ c.in_ok-push_line-2.ensures c.in_ok-push-2.ensures.items in
    let grid = grid_done q breaks (length breaks - 1) c.loop-i.i c.place_of-2.result _ b _ more
    c.as_slice.result.now first at
    (omega (arith, some)) (omega arith) (omega arith) c.place_of-2.ensures piece c.loop-i.invariant
    (c.as_slice.ensures.value ∙ items) in
    IfErr-weaker c.with_points.result _ _
    (λ e fault. grid_fault q c.args.k breaks c.as_slice.result.now e h.order h.place h.ascending
    h.within grid fault)
    c.with_points.ensures.fault
