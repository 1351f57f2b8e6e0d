use Rattle.std.proofs.lemmas.Nat.Gcd.{dvd_antisymm}
use Rattle.gj_lemmas.proofs.laws.one_least_common_multiple.Goals as goal

pub returns : goal.returns
returns c = λ a b m n h k. dvd_antisymm (h.2 n k.0 k.1) (k.2 m h.0 h.1)
