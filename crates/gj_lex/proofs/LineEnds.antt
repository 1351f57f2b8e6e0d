-- Where lines end.
use Rattle.std.proofs.Common.{◌≡◌, ◌≢◌, ℕ, ◌+◌, ◌-◌, ◌≤◌, min, false, List, length, get_or, take, drop, refl, sym, ◌∙◌, ap, subst, arith, length-drop, get_or-drop}
use Rattle.std.specs.List.{position_or_len, before_first, after_first, slice_range}
use Rattle.std.proofs.lemmas.Bool.{ne_eqb}
use Rattle.std.proofs.lemmas.Bool.Decides.{nat_tests}
use Rattle.std.proofs.lemmas.List.{drop_min, drop-drop}
use Rattle.std.proofs.lemmas.List.Sums.{position_or_len_is}
use Rattle.gj_lex.specs.declared.cursor.LineSpan.{LineSpan}
use Rattle.gj_lex.specs.Lines.{CursorState, IsLine, GivesLine, rest_of}
use Rattle.gj_lex.specs.Lines.{is_line_feed}
use Rattle.gj_lex.proofs.Places.{fails_until, passes_there, place_within}

-- the first LF from a place on, or the end of the source, ends the line that begins there
line_at_feed : (source : List ℕ) (start : ℕ) → start ≤ length source →
    IsLine source start (start + position_or_len is_line_feed (drop start source))
line_at_feed source start h = record {
  ordered = omega arith;
  within = place_within is_line_feed source start h;
  unbroken = λ k low high e. let fails = fails_until is_line_feed source start k low high in
      grind (arith, nat_tests);
  ended = λ high. let passes = passes_there is_line_feed source start high in
      grind (arith, nat_tests);
}

pub line_at : (source : List ℕ) (start end : ℕ) → start ≤ length source →
    end ≡ start + position_or_len is_line_feed (drop start source) →
    IsLine source start end
line_at source start end h e = subst (IsLine source start) (sym e) (line_at_feed source start h)

-- what a cursor gives that stands at a byte of its source
pub gives_line : (old : CursorState) (source : List ℕ) (position lines end next : ℕ) →
    record { source = source; position = position; lines = lines } ≡ old →
    (position ≡ length source → ⊥) → position ≤ length source → IsLine source position end →
    next ≡ min (end + 1) (length source) →
    GivesLine old (record { source = source; position = next; lines = lines + 1 })
    (record { number = lines + 1; start = position; end = end })
gives_line old source position lines end next is left within line goes =
    let new : CursorState = record { source = source; position = next; lines = lines + 1 } in
    let span : LineSpan = record { number = lines + 1; start = position; end = end } in
    subst (λ (o : CursorState). GivesLine o new span) is
    (record {
      more = omega arith;
      number = refl;
      start = refl;
      line = line;
      source = refl;
      position = goes;
      lines = refl;
    })

no_feed : (b : ℕ) → b ≢ 10 → (c : ℕ) → c ≡ b → is_line_feed c ≡ false
no_feed b h c e = ne_eqb c 10 (λ t. h (sym e ∙ t))

feed_at : (source : List ℕ) (start end : ℕ) → IsLine source start end →
    position_or_len is_line_feed (drop start source) ≡ end - start
feed_at source start end line =
    position_or_len_is is_line_feed (drop start source) (end - start) 0
    (omega (arith, length-drop start source, line.ordered, line.within))
    (λ k low. no_feed (get_or source (start + k) 0)
    (line.unbroken (start + k) (omega arith) (omega (arith, line.ordered)))
    (get_or (drop start source) k 0) (get_or-drop start source k 0))
    (λ high.
    let same : start + (end - start) ≡ end = omega (arith, line.ordered) in
    let last : get_or (drop start source) (end - start) 0 ≡ 10 =
    get_or-drop start source (end - start) 0 ∙ ap (λ k. get_or source k 0) same
    ∙ line.ended (omega (arith, length-drop start source)) in
    rw last refl)

-- the bytes of a line are those before the first LF of what was left, and what stands behind that
-- is left
pub line_parts : (old new : CursorState) (span : LineSpan) → GivesLine old new span →
    (slice_range old.source span.start span.end ≡ before_first is_line_feed (rest_of old))
    × (rest_of new ≡ after_first is_line_feed (rest_of old))
line_parts old new span given =
    let start = given.start in
    let line : IsLine old.source old.position span.end =
    subst (λ k. IsLine old.source k span.end) start given.line in
    let at : position_or_len is_line_feed (rest_of old) ≡ span.end - old.position =
    feed_at old.source old.position span.end line in
    let next : old.position + (span.end - old.position + 1) ≡ span.end + 1 =
    omega (arith, line.ordered) in (
      ap (λ k. slice_range old.source k span.end) start ∙ ap (λ n. take n (rest_of old)) (sym at),
      (λ i. drop (given.position i) (given.source i))
          ∙ drop_min (span.end + 1) old.source
          ∙ ap (λ k. drop k old.source) (sym next)
          ∙ sym (drop-drop (span.end - old.position + 1) old.position old.source)
          ∙ ap (λ n. drop (n + 1) (rest_of old)) (sym at),
    )
