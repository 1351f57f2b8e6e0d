-- The modulus of elimination and of proofs by residues (own).
use Rattle.std.specs.Prelude.{ℕ}

-- 2^61 - 1
abbrev pub modulus : ℕ
modulus = 2305843009213693951
