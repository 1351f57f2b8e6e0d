use Rattle.std.proofs.Common.{◌≡◌, ◌*◌, pos, neg_ℤ, length, map, List, ℕ, ℤ, sym, ap, ap₂, subst, subst₂, refl, ◌∙◌, arith, rules}
use Rattle.std.specs.List.{range_with_len}
use Rattle.std.proofs.lemmas.Int.{to_z-of_z, to_z_pos, fits_signed_from_abs}
use Rattle.std.proofs.lemmas.List.FromFn.{length-map-range_with_len}
use Rattle.gj_lemmas.proofs.Integers.{abs_neg_z}
use Rattle.gj_shape.specs.FunctionData.{at}
use Rattle.gj_shape.specs.Perturbation.{IsGreatestSize}
use Rattle.gj_shape.specs.Table.{table as table_of}
use Rattle.gj_shape.specs.declared.extremality.Halves.{Halves}
use Rattle.gj_perturb.specs.Moves.{moved_at, IsSmallMove}
use Rattle.gj_perturb.proofs.MovedEntries.{wide}
use Rattle.gj_perturb.proofs.SplitParts.{AreMade, step_read, parts_of, size_fits, factor_read, turned_read, count_is, small_move, are_halves, are_different, fit_proof_text, not_wide}
use Rattle.gj_perturb.proofs.halves.split.Goals as goal
use mir.Syntax.{w128}

-- the list has the entries of one period
table_length : (t : ℕ → ℤ) (xs : List ℤ) (n : ℕ) → xs ≡ map t (range_with_len 0 n) → length xs ≡ n
table_length t xs n e = ap length e ∙ length-map-range_with_len t 0 n

pub overflow_cast-factor : goal.overflow_cast-factor
overflow_cast-factor c =
    let limits = c.order.ensures.limits in
    let small = size_fits c.greatest_size-size.result c.args.shape.now.scale c.args.p.now.times
    limits.scale_low
    c.requires.perturbation.times_low c.in-Some.ensures.1 in
    fits_signed_from_abs w128 (pos c.greatest_size-size.result) (omega arith)

pub overflow_mul-factor : goal.overflow_mul-factor
overflow_mul-factor c =
    let limits = c.order.ensures.limits in
    let small = size_fits c.greatest_size-size.result c.args.shape.now.scale c.args.p.now.times
    limits.scale_low
    c.requires.perturbation.times_low c.in-Some.ensures.1 in
    rw (to_z_pos w128 c.greatest_size-size.result (omega arith))
    (fits_signed_from_abs w128 (pos (3 * c.greatest_size-size.result)) (omega arith))

pub moved-requires-clause-length : goal.moved-requires-clause-length
moved-requires-clause-length c =
    let f = c.args.shape.now in
    let p = c.args.p.now in
    let size = c.greatest_size-size.result in
    let u = c.in_ok-least.least in
    let x = pos u in
    let values = c.as_slice-values.result.now in
    let xs = c.as_slice-table.result.now in
    let parts = parts_of f p size u values xs c.order.ensures.limits c.requires.minimal
    c.requires.perturbation
    c.as_slice-values.ensures c.greatest_size-size.ensures c.in-Some.ensures.1
    (c.as_slice-table.ensures.value ∙ c.in_ok-entries.ensures) c.in_ok-least.ensures in
    let count : length c.as_slice-values.result.now ≡ c.args.shape.now.order * c.args.p.now.times =
    count_is f p size x values xs parts in
    let whole : length c.as_slice-table.result.now ≡ c.args.shape.now.order * c.args.p.now.times =
    table_length (table_of f p.times) xs (f.order * p.times) parts.table_is in
    omega arith

pub moved-requires-2-clause-length : goal.moved-requires-2-clause-length
moved-requires-2-clause-length c =
    let f = c.args.shape.now in
    let p = c.args.p.now in
    let size = c.greatest_size-size.result in
    let u = c.in_ok-least.least in
    let x = pos u in
    let values = c.as_slice-values.result.now in
    let xs = c.as_slice-table.result.now in
    let parts = parts_of f p size u values xs c.order.ensures.limits c.requires.minimal
    c.requires.perturbation
    c.as_slice-values.ensures c.greatest_size-size.ensures c.in-Some.ensures.1
    (c.as_slice-table.ensures.value ∙ c.in_ok-entries.ensures) c.in_ok-least.ensures in
    let count : length c.as_slice-values.result.now ≡ c.args.shape.now.order * c.args.p.now.times =
    count_is f p size x values xs parts in
    let whole : length c.as_slice-table.result.now ≡ c.args.shape.now.order * c.args.p.now.times =
    table_length (table_of f p.times) xs (f.order * p.times) parts.table_is in
    omega arith

pub moved-requires-clause-small : goal.moved-requires-clause-small
moved-requires-clause-small c =
    let f = c.args.shape.now in
    let p = c.args.p.now in
    let size = c.greatest_size-size.result in
    let u = c.in_ok-least.least in
    let x = pos u in
    let values = c.as_slice-values.result.now in
    let xs = c.as_slice-table.result.now in
    let parts = parts_of f p size u values xs c.order.ensures.limits c.requires.minimal
    c.requires.perturbation
    c.as_slice-values.ensures c.greatest_size-size.ensures c.in-Some.ensures.1
    (c.as_slice-table.ensures.value ∙ c.in_ok-entries.ensures) c.in_ok-least.ensures in
    let factor_is = factor_read size
    (size_fits size f.scale p.times c.order.ensures.limits.scale_low
    c.requires.perturbation.times_low c.in-Some.ensures.1) in
    let step_is : wide c.from-step.result ≡ pos c.in_ok-least.least =
    ap wide c.from-step.ensures ∙ step_read c.in_ok-least.least (search rules) in
    λ i below. subst₂ (λ a b. IsSmallMove xs a values b i) (sym factor_is) (sym step_is)
    (small_move f p size x values xs parts x refl i below)

pub moved-requires-2-clause-small : goal.moved-requires-2-clause-small
moved-requires-2-clause-small c =
    let f = c.args.shape.now in
    let p = c.args.p.now in
    let size = c.greatest_size-size.result in
    let u = c.in_ok-least.least in
    let x = pos u in
    let values = c.as_slice-values.result.now in
    let xs = c.as_slice-table.result.now in
    let parts = parts_of f p size u values xs c.order.ensures.limits c.requires.minimal
    c.requires.perturbation
    c.as_slice-values.ensures c.greatest_size-size.ensures c.in-Some.ensures.1
    (c.as_slice-table.ensures.value ∙ c.in_ok-entries.ensures) c.in_ok-least.ensures in
    let factor_is = factor_read size
    (size_fits size f.scale p.times c.order.ensures.limits.scale_low
    c.requires.perturbation.times_low c.in-Some.ensures.1) in
    let step_is : wide c.from-step.result ≡ pos c.in_ok-least.least =
    ap wide c.from-step.ensures ∙ step_read c.in_ok-least.least (search rules) in
    let turned_is = turned_read (wide c.from-step.result) u step_is (search rules) in
    λ i below. subst₂ (λ a b. IsSmallMove xs a values b i) (sym factor_is) (sym turned_is)
    (small_move f p size x values xs parts (neg_ℤ x) (abs_neg_z x) i below)

pub returns : goal.returns
returns c =
    let f = c.args.shape.now in
    let p = c.args.p.now in
    let size = c.greatest_size-size.result in
    let u = c.in_ok-least.least in
    let x = pos u in
    let values = c.as_slice-values.result.now in
    let xs = c.as_slice-table.result.now in
    let parts = parts_of f p size u values xs c.order.ensures.limits c.requires.minimal
    c.requires.perturbation
    c.as_slice-values.ensures c.greatest_size-size.ensures c.in-Some.ensures.1
    (c.as_slice-table.ensures.value ∙ c.in_ok-entries.ensures) c.in_ok-least.ensures in
    let factor_is = factor_read size
    (size_fits size f.scale p.times c.order.ensures.limits.scale_low
    c.requires.perturbation.times_low c.in-Some.ensures.1) in
    let step_is : wide c.from-step.result ≡ pos c.in_ok-least.least =
    ap wide c.from-step.ensures ∙ step_read c.in_ok-least.least (search rules) in
    let turned_is = turned_read (wide c.from-step.result) u step_is (search rules) in
    let scale_is : wide c.in-Some.scale
    ≡ pos (3 * c.greatest_size-size.result * (c.args.shape.now.scale * c.args.p.now.times)) =
    to_z-of_z w128 c.in-Some.scale (search rules) ∙ c.in-Some.ensures.0 in
    let halves : Halves =
    record {
      order = c.order.result * p.times;
      scale = wide c.in-Some.scale;
      first = c.of.result;
      second = c.of-2.result;
    } in
    let made : AreMade f p size x values xs halves =
    record {
      order = ap (λ k. k * p.times) c.order.ensures.value;
      scale = scale_is;
      first = c.of.ensures ∙ c.in_ok-first.ensures
          ∙ ap₂ (λ a b. map (moved_at xs a values b) (range_with_len 0 (length values))) factor_is
          step_is;
      second = c.of-2.ensures ∙ c.in_ok-second.ensures
          ∙ ap₂ (λ a b. map (moved_at xs a values b) (range_with_len 0 (length values))) factor_is
          turned_is;
    } in
    record {
      halves = are_halves f p size x values xs halves parts made;
      different = are_different f p size x values xs halves parts made;
      limits = fit_proof_text f p size x values xs halves parts made;
      narrow = not_wide f p size
          (subst (λ ys. IsGreatestSize (at ys) size) parts.values_is parts.greatest) parts.narrow;
      wide = λ e. search rules;
    }
