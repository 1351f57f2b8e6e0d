-- What words spell as numbers, and what stops a row.
use Rattle.std.proofs.Common.{pos, ◌<◌, ◌≡◌, ℕ, ◌==◌, true, false, List, [], ◌∷◌, refl, length, Option, Some, None, Result, Ok, Err, IfSome, IfNone, IfErr, ap, sym, ◌∙◌, subst, inl, inr, arith}
use Rattle.gj_frac.specs.declared.Frac.{Frac}
use Rattle.std.proofs.Math.Nat.{one-dvd}
use Rattle.std.proofs.lemmas.Int.{ints}
use Rattle.std.proofs.lemmas.Nat.Gcd.{dvd_refl, IsGcd-from_zero, IsGcd-swap}
use Rattle.gj_lemmas.proofs.Choices.{same_some}
use Rattle.gj_lex.proofs.CanonicalTexts.{empty_word}
use Rattle.gj_shape.specs.Denominators.{Extends}
use Rattle.gj_shape.specs.Limits.{denominator_bound, greatest_number}
use Rattle.gj_lex.specs.SpelledNumbers.{IsFractionWord}
use Rattle.gj_lex.specs.declared.spelling.Spelling.TheVariants.{Lenient}
use Rattle.gj_row.specs.TableauText.{SpellsEntry, is_zero, entry_at}
use Rattle.gj_row.specs.Reading.{StopsAt, StopsEntry, StopsNumber}
use Rattle.gj_row.specs.declared.faults.RowReason.{RowReason}
use Rattle.gj_row.specs.declared.faults.RowReason.TheVariants.{Header, Fields, Columns, Rows, Name, Twice, Number, Large, Fine, Entries}

-- a word that is not empty and spells no fraction spells no entry
pub no_entry : (word : List ℕ) (o : Option Frac) → false ≡ (length word == 0) →
    IfNone o ((x : Frac) → IsFractionWord Lenient word x → ⊥) →
    IfNone o ((x : Frac) → SpellsEntry word x → ⊥)
no_entry word (Some x) some none = tt
no_entry word None some none = none_spelled
  where
    none_spelled : (x : Frac) → SpellsEntry word x → ⊥
    none_spelled x (inl h) = let e : length word ≡ 0 = ap length h.0 in absurd (grind arith)
    none_spelled x (inr h) = none x h

pub found_here : (P : Frac → Type 0) (o : Option Frac) (x : Frac) → o ≡ Some x → IfSome o P → P x
found_here P None x e found = cc e
found_here P (Some y) x e found = subst P (same_some y x e) found

-- what stops the row at what was read stops it at the word
stops_by : (P : Frac → Type 0) (scale : ℕ) (o : Option Frac) (e : RowReason) → IfSome o P →
    IfNone o ((x : Frac) → P x → ⊥) →
    StopsAt scale o e → StopsNumber P scale e
stops_by P scale o Number found none h = missing o none h
  where
    missing : (o : Option Frac) → IfNone o ((x : Frac) → P x → ⊥) → o ≡ None → (x : Frac) → P x → ⊥
    missing None none e = none
    missing (Some x) none e = cc e
stops_by P scale o Large found none h = (h.0, found_here P o h.0 h.1 found, h.2)
stops_by P scale o Fine found none h = (h.0, found_here P o h.0 h.1 found, h.2, h.3)
stops_by P scale o Header found none h = h
stops_by P scale o Fields found none h = h
stops_by P scale o Columns found none h = h
stops_by P scale o Rows found none h = h
stops_by P scale o Name found none h = h
stops_by P scale o Twice found none h = h
stops_by P scale o Entries found none h = h

pub stops_number : (P : Frac → Type 0) (scale : ℕ) (o : Option Frac)
    (r : Result (Frac × ℕ) RowReason) → IfSome o P →
    IfNone o ((x : Frac) → P x → ⊥) → IfErr r (StopsAt scale o) → IfErr r (StopsNumber P scale)
stops_number P scale o (Ok x) found none h = tt
stops_number P scale o (Err e) found none h = stops_by P scale o e found none h

-- what stops a row at what was read, as an entry
pub stops_at : (scale count : ℕ) (o : Option Frac) (e : RowReason) → StopsAt scale o e →
    StopsEntry (λ x. o ≡ Some x) scale count e
stops_at scale count o Number h = λ x is. cc (sym h ∙ is)
stops_at scale count o Large h = h
stops_at scale count o Fine h = h
stops_at scale count o Header h = h
stops_at scale count o Fields h = h
stops_at scale count o Columns h = h
stops_at scale count o Rows h = h
stops_at scale count o Name h = h
stops_at scale count o Twice h = h
stops_at scale count o Entries h = absurd h

-- and at the word that spells it
pub stops_at_word : (P : Frac → Type 0) (scale count : ℕ) (o : Option Frac) (e : RowReason) →
    IfSome o P → IfNone o ((x : Frac) → P x → ⊥) →
    StopsEntry (λ x. o ≡ Some x) scale count e → StopsEntry P scale count e
stops_at_word P scale count o Number found none h = missing o none h
  where
    missing : (o : Option Frac) → IfNone o ((x : Frac) → P x → ⊥) → ((x : Frac) → o ≡ Some x → ⊥) →
        (x : Frac) → P x → ⊥
    missing None none h = none
    missing (Some x) none h = absurd (h x refl)
stops_at_word P scale count o Large found none h = (h.0, found_here P o h.0 h.1 found, h.2)
stops_at_word P scale count o Fine found none h = (h.0, found_here P o h.0 h.1 found, h.2, h.3)
stops_at_word P scale count o Entries found none h =
    (h.0, h.1, found_here P o h.0 h.2 found, h.3, h.4, h.5)
stops_at_word P scale count o Header found none h = h
stops_at_word P scale count o Fields found none h = h
stops_at_word P scale count o Columns found none h = h
stops_at_word P scale count o Rows found none h = h
stops_at_word P scale count o Name found none h = h
stops_at_word P scale count o Twice found none h = h

-- ---- entries that are not 0

pub entry_none : (column : ℕ) (x : Frac) → is_zero x ≡ true → entry_at column x ≡ []
entry_none column x e = rw e refl

pub entry_one : (column : ℕ) (x : Frac) → is_zero x ≡ false →
    entry_at column x ≡ record { column = column; value = x } ∷ []
entry_one column x e = rw e refl

zero : Frac
zero = record {
  num = pos 0;
  den = pos 1;
  lowest = record {
    positive = omega (arith, ints);
    num_fits = omega arith;
    den_fits = omega arith;
    coprime = IsGcd-swap 1 0 1 (IsGcd-from_zero 1 0 refl);
  };
}

-- nothing spells 0, which leaves the common denominator as it is
pub nothing_spells_zero : (word : List ℕ) (scale : ℕ) → true ≡ (length word == 0) →
    scale < denominator_bound →
    (x : Frac) × SpellsEntry word x × Extends greatest_number scale x scale × (is_zero x ≡ true)
unfolding zero
nothing_spells_zero word scale empty high = (
  zero,
  inl (empty_word word empty, refl),
  record {
    small = omega arith;
    least = (dvd_refl scale, one-dvd scale, λ c d e. d);
    high = high;
  },
  refl,
)
