-- Answers of tests, one after the other.
use Rattle.std.proofs.Common.{◌≡◌, ◌↔◌, Bool, true, false, IsTrue, Result, Ok, Err, IfOk, sym, ◌∙◌}

-- the first test failed
pub first_fails : (a : Bool) (P Q R : Type 0) → a ≡ false → IsTrue a ↔ P → (P × Q) ↔ R →
    IsTrue a ↔ R
first_fails a P Q R e p both =
    (λ h. absurd (let k : false ≡ true = sym e ∙ h in cc), λ r. p.1 (both.1 r).0)

-- the first test passed
pub first_passes : (a b : Bool) (P Q R : Type 0) → a ≡ true → IsTrue a ↔ P → IsTrue b ↔ Q →
    (P × Q) ↔ R → IsTrue b ↔ R
first_passes a b P Q R e p q both = (λ h. both.0 (p.0 e, q.0 h), λ r. q.1 (both.1 r).1)

-- a test answers what it says in other words
pub in_other_words : (a : Bool) (P Q : Type 0) → IsTrue a ↔ P → P ↔ Q → IsTrue a ↔ Q
in_other_words a P Q p same = (λ h. same.0 (p.0 h), λ q. p.1 (same.1 q))

-- one that may give none
pub in_other_words_ok : {E : Type 0} (r : Result Bool E) (P Q : Type 0) →
    IfOk r (λ a. IsTrue a ↔ P) → P ↔ Q → IfOk r (λ a. IsTrue a ↔ Q)
in_other_words_ok (Ok a) P Q p same = in_other_words a P Q p same
in_other_words_ok (Err e) P Q p same = tt

-- one test of many failed
pub one_fails : (a : Bool) (P R : Type 0) → a ≡ false → IsTrue a ↔ P → (R → P) → IsTrue false ↔ R
one_fails a P R e p has = (λ h. absurd (let k : false ≡ true = h in cc), λ r. sym e ∙ p.1 (has r))

-- a test that failed
pub denied : (a : Bool) (P : Type 0) → a ≡ false → IsTrue a ↔ P → P → ⊥
denied a P e p h = let k : false ≡ true = sym e ∙ p.1 h in cc
