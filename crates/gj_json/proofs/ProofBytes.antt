-- The bytes of a proof text, by a test.
use Rattle.std.proofs.Common.{◌≡◌, ℕ, List, [], ◌∷◌, Bool, true, ◌==◌, ◌||◌, ◌&&◌, nat_le, arith}
use Rattle.std.specs.List.{All}
use Rattle.std.proofs.lemmas.Bool.{and_parts}
use Rattle.std.proofs.lemmas.List.Elements.{All-cons, All-nil}
use Rattle.gj_json.specs.JsonText.{IsProofByte}

abbrev is_proof_byte : ℕ → Bool
is_proof_byte b = (b == 10) || (nat_le 32 b && nat_le b 126)

abbrev pub are_proof_bytes : List ℕ → Bool
are_proof_bytes [] = true
are_proof_bytes (b ∷ bs) = is_proof_byte b && are_proof_bytes bs

by_test : (b : ℕ) → is_proof_byte b ≡ true → IsProofByte b
by_test b e = grind arith

pub proof_bytes : (bs : List ℕ) → are_proof_bytes bs ≡ true → All IsProofByte bs
proof_bytes [] e = All-nil IsProofByte
proof_bytes (b ∷ bs) e =
    let p = and_parts (is_proof_byte b) (are_proof_bytes bs) e in
    All-cons IsProofByte b bs (by_test b p.0) (proof_bytes bs p.1)
