-- Texts written over a part of a text (own).
use Rattle.std.proofs.Common.{◌≡◌, ℕ, ◌+◌, ◌<◌, ◌≤◌, List, ◌++◌, length, take, decimal, ap, subst, ◌∙◌, sym, arith}
use Rattle.std.proofs.lemmas.List.{take-append-le, length-take-le, length-append, take_at, take-take}
use Rattle.std.proofs.lemmas.Fmt.{length-decimal-le}
use Rattle.std.proofs.Math.Seq.{take-append-add}
use Rattle.gj_shape.specs.Limits.{greatest_order}
use borrow.Rule.Slice.PartMut.{put_mid, post_of}

-- a number below the greatest order has at most three digits
pub has_few_digits : (n : ℕ) → n < greatest_order → length (decimal n) ≤ 3
has_few_digits n few = length-decimal-le 3 n (omega arith) (omega arith) (omega arith)

-- the front of a text, of which k elements from the a-th on were written over, up to n of these
pub front_written : (a k n : ℕ) (text new : List ℕ) → a ≤ length text → n ≤ length new →
    take (a + n) (put_mid a k text new) ≡ take a text ++ take n new
front_written a k n text new within some =
    let front = take a text in
    let rest = new ++ post_of a k text in
    let e : length front ≡ a = length-take-le a text within in
    subst (λ m. take (m + n) (front ++ rest) ≡ front ++ take n new) e
    (take-append-add front rest n
    ∙ ap (λ xs. front ++ xs) (take-append-le n new (post_of a k text) some))

-- what stands in a text that was made longer, written over behind the old one, and cut off again
pub lines_behind : (before end len k : ℕ) (old zeros whole text rest final lines : List ℕ) →
    before ≡ length old → whole ≡ old ++ zeros →
    end ≤ length text → before + length text ≤ len →
    final ≡ take (before + end) (take len (put_mid before k whole text ++ rest)) →
    take end text ≡ lines → final ≡ old ++ lines
lines_behind before end len k old zeros whole text rest final lines at is some room cut written =
    let put = put_mid before k whole text in
    let within : before ≤ length whole = omega (arith, at, ap length is, length-append old zeros) in
    let front : length (take before whole) ≡ before = length-take-le before whole within in
    let fits : before + end ≤ length put =
    omega (
      arith,
      front,
      some,
      length-append (take before whole)
          (text ++ post_of before k whole),
      length-append text (post_of before k whole),
    ) in
    cut ∙ take-take (before + end) len (put ++ rest) (omega (arith, some, room))
    ∙ take-append-le (before + end) put rest fits
    ∙ front_written before k end whole text within some
    ∙ ap (λ xs. take before xs ++ take end text) is
    ∙ ap (λ xs. xs ++ take end text) (take_at old zeros before (sym at))
    ∙ ap (λ xs. old ++ xs) written
