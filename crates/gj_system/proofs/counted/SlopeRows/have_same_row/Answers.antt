use Rattle.std.proofs.Common.{◌≡◌, false, ℕ, ◌+◌, ◌<◌, List, length, sym, ◌∙◌, subst, arith}
use Rattle.std.specs.Bool.{◌==◌}
use Rattle.std.proofs.lemmas.Bool.{eqb-true, eq-eqb}
use Rattle.gj_shape.specs.SlopeRows.{component_in}
use Rattle.gj_system.specs.Components.{ComponentData}
use Rattle.gj_system.specs.Counted.{data_of, IsCounted}
use Rattle.gj_system.specs.declared.counted.SlopeRows.TheInside.{Inside}
use Rattle.gj_system.proofs.RowCodes.{AreCodes, length-codes, sum_fits, same_codes}
use Rattle.gj_system.proofs.counted.SlopeRows.have_same_row.Goals as goal

some_codes : (codes : List ℕ) → false ≡ (length codes == 0) → 0 < length codes
some_codes codes none = grind arith

-- the codes that there are
codes_here : (s : Inside) (v : ComponentData) (codes : List ℕ) → IsCounted s → data_of s ≡ v →
    codes ≡ s.codes.items →
    false ≡ (length codes == 0) →
    AreCodes (component_in v.component) v.columns (length v.component) codes
codes_here s v codes counted view_is codes_is none =
    let some_inside : 0 < length s.codes.items =
    subst (λ l. 0 < length l) codes_is (some_codes codes none) in
    subst (λ u. AreCodes (component_in u.component) u.columns (length u.component) codes) view_is
    (record {
      packable = counted.packable some_inside;
      codes_are = codes_is ∙ counted.codes some_inside;
    })

pub sum_of_codes-one-requires : goal.sum_of_codes-one-requires
sum_of_codes-one-requires c =
    let h = codes_here c.self.inside c.args.self.now c.as_slice-codes.result.now c.self.invariant
    c.self.view_is
    c.as_slice-codes.ensures.value c.if-is_empty.ensures in
    let len : length c.as_slice-codes.result.now ≡ length c.args.self.now.component
    + length c.args.self.now.component =
    length-codes _ _ _ _ h in
    record {
      first = omega (arith, len, c.requires.first.0);
      second = omega (arith, len, c.requires.first.1);
      third = omega (arith, len, c.requires.second.0, c.requires.second.1);
      small = sum_fits _ _ _ c.args.a c.args.b c.args.c c.args.d c.as_slice-codes.result.now h
          c.requires.first.0 c.requires.first.1
          c.requires.second.0 c.requires.second.1;
    }

pub sum_of_codes-other-requires : goal.sum_of_codes-other-requires
sum_of_codes-other-requires c =
    let h = codes_here c.self.inside c.args.self.now c.as_slice-codes.result.now c.self.invariant
    c.self.view_is
    c.as_slice-codes.ensures.value c.if-is_empty.ensures in
    let len : length c.as_slice-codes.result.now ≡ length c.args.self.now.component
    + length c.args.self.now.component =
    length-codes _ _ _ _ h in
    record {
      first = omega (arith, len, c.requires.second.0);
      second = omega (arith, len, c.requires.second.1);
      third = omega (arith, len, c.requires.first.0, c.requires.first.1);
      small = sum_fits _ _ _ c.args.c c.args.d c.args.a c.args.b c.as_slice-codes.result.now h
          c.requires.second.0 c.requires.second.1
          c.requires.first.0 c.requires.first.1;
    }

pub returns : goal.returns
returns c = λ place.
    let h = codes_here c.self.inside c.args.self.now c.as_slice-codes.result.now c.self.invariant
    c.self.view_is
    c.as_slice-codes.ensures.value c.if-is_empty.ensures in
    let same = same_codes _ _ _ place c.args.a c.args.b c.args.c c.args.d
    c.as_slice-codes.result.now h c.requires.first.0
    c.requires.first.1 c.requires.second.0 c.requires.second.1 in (
      λ yes. same.0 (sym c.sum_of_codes-one.ensures ∙ eqb-true _ _ yes
          ∙ c.sum_of_codes-other.ensures),
      λ are. eq-eqb _ _ (c.sum_of_codes-one.ensures ∙ same.1 are
          ∙ sym c.sum_of_codes-other.ensures),
    )
