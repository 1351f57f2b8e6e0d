-- The numbers of a function, as they lie in lanes and are read from there.
use Rattle.std.proofs.Common.{◌≡◌, ℕ, ◌*◌, ◌<◌, ◌≤◌, ℤ, pos, unsigned_abs, List, length, get_or, ap, sym, subst, ◌∙◌, arith}
use Rattle.std.proofs.lemmas.Int.{ints}
use Rattle.gj_shape.specs.FunctionData.{at}
use Rattle.gj_loops.specs.Lanes.{AreInRange, ArePeriods}

-- the numbers from 0 on, as naturals
abbrev pub natural_at : List ℤ → ℕ → ℕ
natural_at numbers i = unsigned_abs (at numbers i)

pub natural_is : (bound : ℕ) (numbers : List ℤ) (i : ℕ) → AreInRange (pos 0) bound numbers →
    pos (natural_at numbers i) ≡ at numbers i
natural_is bound numbers i h = let low = (h i).0 in omega (arith, ints)

-- the range of lanes that begin at 0
pub in_range_from_0 : {least : ℤ} {bound : ℕ} (numbers : List ℤ) → least ≡ pos 0 →
    AreInRange least bound numbers →
    AreInRange (pos 0) bound numbers
in_range_from_0 {bound = bound} numbers zero h = subst (λ z. AreInRange z bound numbers) zero h

-- a lane that is read is one of them
pub record IsReadAt {L : Type 0} (natural : L → ℕ) (bound : ℕ) (numbers : List ℤ) (i : ℕ) (x : L) :
    Type 0 where
  pub is : natural x ≡ natural_at numbers i
  pub small : natural x < bound

pub read_at : {L : Type 0} {least : ℤ} {bound : ℕ} {lanes : List L} {numbers : List ℤ} {x : L}
    (number : L → ℤ) (natural : L → ℕ) (i : ℕ) →
    least ≡ pos 0 → ((x : L) → number x ≡ pos (natural x)) →
    ArePeriods number least bound lanes numbers → i ≤ 2 * length numbers →
    x ≡ get_or lanes i x → IsReadAt natural bound numbers i x
read_at {x = x} number natural i zero natural_of h most is =
    let whole : pos (natural x) ≡ at _ i = sym (natural_of x) ∙ ap number is ∙ h.same i x most in
    let range = h.range i in
    let low = range.0 in
    let high = range.1 in
    record { is = ap unsigned_abs whole; small = omega (arith, ints) }
