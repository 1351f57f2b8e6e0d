use Rattle.std.proofs.Common.{subst₂, sym}
use Rattle.gj_check.specs.HalvesRules.{IsBetween}
use Rattle.gj_check.proofs.HalvesTests.{half_read, halves_scale_read}
use Rattle.gj_check.proofs.halves.meets_range.Goals as goal

pub returns-then-not-is_between : goal.returns-then-not-is_between
returns-then-not-is_between c =
    let h = c.args.halves.now in
    let b = c.requires.halves in
    let first = half_read h h.first _ c.args.index c.as_slice.ensures b.first_length b.first_fit
    c.requires.within in
    let scale = halves_scale_read h.scale b.scale_low b.scale_high in (
      λ none. absurd cc,
      λ m. absurd (
          let yes = c.is_between.ensures.1
          (subst₂ IsBetween (sym first) (sym scale) (m.first_low, m.first_high)) in
          let no = c.if-not-is_between.true in
          cc
          ),
    )

pub returns : goal.returns
returns c =
    let h = c.args.halves.now in
    let b = c.requires.halves in
    let first = half_read h h.first _ c.args.index c.as_slice.ensures b.first_length b.first_fit
    c.requires.within in
    let second = half_read h h.second _ c.args.index c.as_slice-2.ensures b.second_length
    b.second_fit c.requires.within in
    let scale = halves_scale_read h.scale b.scale_low b.scale_high in
    let one = subst₂ IsBetween first scale (c.is_between.ensures.0 c.if-not-is_between.false) in (
      λ t.
          let two = subst₂ IsBetween second scale (c.is_between-2.ensures.0 t) in
          record { first_low = one.0; first_high = one.1; second_low = two.0; second_high = two.1 },
      λ m. c.is_between-2.ensures.1
          (subst₂ IsBetween (sym second) (sym scale) (m.second_low, m.second_high)),
    )
