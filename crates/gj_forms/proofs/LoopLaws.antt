-- Parts that are read in turn are exact if each is.
use Rattle.std.proofs.Common.{◌≡◌, ◌⊎◌, inl, inr, ℕ, List, ◌++◌, sym, subst}
use Rattle.gj_lex.specs.declared.reason.Reason.{Reason}
use Rattle.gj_forms.specs.declared.fault.PartFault.{PartFault}
use Rattle.gj_forms.specs.declared.fault.PartFault.TheVariants.{Refused, Memory}
use Rattle.gj_forms.specs.Parts.{Part, loop_part, ReadsInTurn, FaultsInTurn, IsExactPart, IsFaultOf}
use Rattle.gj_forms.specs.Parts.ReadsInTurn.{last, onward}
use Rattle.gj_forms.specs.Parts.FaultsInTurn.{here, later}
use Rattle.gj_forms.proofs.PartLaws.{ends_in_turn}

-- what was read leads to one next state, or ends with one thing
same_next : {S A : Type 0} (s t : S) → ◌≡◌ {A = S ⊎ A} (inl s) (inl t) → s ≡ t
same_next s t e = cc

same_last : {S A : Type 0} (a b : A) → ◌≡◌ {A = S ⊎ A} (inr a) (inr b) → a ≡ b
same_last a b e = cc

not_both_ways : {S A : Type 0} (s : S) (a : A) → ◌≡◌ {A = S ⊎ A} (inl s) (inr a) → ⊥
not_both_ways s a e = cc

module _ {S A : Type 0} (part : S → Part (S ⊎ A)) (exact : (s : S) →
    IsExactPart (part s).Reads (part s).Faults) where
  abbrev Reads : S → List ℕ → S ⊎ A → List ℕ → Type 0
  Reads s = (part s).Reads

  abbrev Faults : S → List ℕ → List ℕ → Reason → Type 0
  Faults s = (part s).Faults

  -- two ways onward are one
  onward_same : (s n m : S) (text r t : List ℕ) → Reads s text (inl n) r → Reads s text (inl m) t →
      (n ≡ m) × (r ≡ t)
  onward_same s n m text r t h k =
      let same = (exact s).one_thing text (inl n) (inl m) r t h k in (same_next n m same.0, same.1)

  onward_or_last : (s n : S) (a : A) (text r t : List ℕ) → Reads s text (inl n) r →
      Reads s text (inr a) t → ⊥
  onward_or_last s n a text r t h k =
      not_both_ways n a ((exact s).one_thing text (inl n) (inr a) r t h k).0

  reads_from : (n m : S) (a : A) (r middle other : List ℕ) → n ≡ m → middle ≡ other →
      ReadsInTurn Reads a r n middle →
      ReadsInTurn Reads a r m other
  reads_from n m a r middle other e d h =
      subst (λ t. ReadsInTurn Reads a r m t) d
      (subst (λ (s : S). ReadsInTurn Reads a r s middle) e h)

  faults_from : (n m : S) (start middle other : List ℕ) (e : Reason) → n ≡ m → middle ≡ other →
      FaultsInTurn Reads Faults start e n middle → FaultsInTurn Reads Faults start e m other
  faults_from n m start middle other e p d h =
      subst (λ t. FaultsInTurn Reads Faults start e m t) d
      (subst (λ (s : S). FaultsInTurn Reads Faults start e s middle) p h)

  one_end : (a b : A) (r t : List ℕ) (s : S) (text : List ℕ) → ReadsInTurn Reads a r s text →
      ReadsInTurn Reads b t s text →
      (a ≡ b) × (r ≡ t)
  one_end a b r t s text (last _ _ h) (last _ _ k) =
      let same = (exact s).one_thing text (inr a) (inr b) r t h k in (same_last a b same.0, same.1)
  one_end a b r t s text (last _ _ h) (onward _ _ n m k more) =
      absurd (onward_or_last s n a text m r k h)
  one_end a b r t s text (onward _ _ n m h more) (last _ _ k) =
      absurd (onward_or_last s n b text m t h k)
  one_end a b r t s text (onward _ _ n m h more) (onward _ _ n' m' k more') =
      let same = onward_same s n n' text m m' h k in
      one_end a b r t n m more (reads_from n' n b t m' m (sym same.0) (sym same.1) more')

  one_fault_in_turn : (r t : List ℕ) (e d : Reason) (s : S) (text : List ℕ) →
      FaultsInTurn Reads Faults r e s text →
      FaultsInTurn Reads Faults t d s text → (r ≡ t) × (e ≡ d)
  one_fault_in_turn r t e d s text (here _ _ h) (here _ _ k) = (exact s).one_fault text r t e d h k
  one_fault_in_turn r t e d s text (here _ _ h) (later _ _ n m k more) =
      absurd ((exact s).not_both text (inl n) m r e k h)
  one_fault_in_turn r t e d s text (later _ _ n m h more) (here _ _ k) =
      absurd ((exact s).not_both text (inl n) m t d h k)
  one_fault_in_turn r t e d s text (later _ _ n m h more) (later _ _ n' m' k more') =
      let same = onward_same s n n' text m m' h k in
      one_fault_in_turn r t e d n m more (faults_from n' n t m' m d (sym same.0) (sym same.1) more')

  end_or_fault : (a : A) (r t : List ℕ) (e : Reason) (s : S) (text : List ℕ) →
      ReadsInTurn Reads a r s text →
      FaultsInTurn Reads Faults t e s text → ⊥
  end_or_fault a r t e s text (last _ _ h) (here _ _ k) = (exact s).not_both text (inr a) r t e h k
  end_or_fault a r t e s text (last _ _ h) (later _ _ n m k more) =
      onward_or_last s n a text m r k h
  end_or_fault a r t e s text (onward _ _ n m h more) (here _ _ k) =
      (exact s).not_both text (inl n) m t e h k
  end_or_fault a r t e s text (onward _ _ n m h more) (later _ _ n' m' k more') =
      let same = onward_same s n n' text m m' h k in
      end_or_fault a r t e n m more (faults_from n' n t m' m e (sym same.0) (sym same.1) more')

  end_ends : (a : A) (r : List ℕ) (s : S) (text : List ℕ) → ReadsInTurn Reads a r s text →
      (front : List ℕ) × (text ≡ front ++ r)
  end_ends a r s text (last _ _ h) = (exact s).rest_ends text (inr a) r h
  end_ends a r s text (onward _ _ n m h more) =
      ends_in_turn text m r ((exact s).rest_ends text (inl n) m h) (end_ends a r n m more)

  fault_in_turn_ends : (t : List ℕ) (e : Reason) (s : S) (text : List ℕ) →
      FaultsInTurn Reads Faults t e s text →
      (front : List ℕ) × (text ≡ front ++ t)
  fault_in_turn_ends t e s text (here _ _ h) = (exact s).fault_ends text t e h
  fault_in_turn_ends t e s text (later _ _ n m h more) =
      ends_in_turn text m t ((exact s).rest_ends text (inl n) m h) (fault_in_turn_ends t e n m more)

  pub loop_part_is_exact : (s : S) → IsExactPart (loop_part part s).Reads (loop_part part s).Faults
  loop_part_is_exact s = record {
    one_thing = λ text a b r t h k. one_end a b r t s text h k;
    one_fault = λ text r t e d h k. one_fault_in_turn r t e d s text h k;
    not_both = λ text a r t e h k. end_or_fault a r t e s text h k;
    rest_ends = λ text a r h. end_ends a r s text h;
    fault_ends = λ text t e h. fault_in_turn_ends t e s text h;
  }

-- the part of a state has a fault
pub fault_in_state : {S A : Type 0} (part : S → Part (S ⊎ A)) (s : S) (text : List ℕ)
    (fault : PartFault) → IsFaultOf (part s) text fault →
    IsFaultOf (loop_part part s) text fault
fault_in_state part s text (Refused left e) (start, left_is, f) = (start, left_is, here s text f)
fault_in_state part s text (Memory a) h = tt

-- or what follows has one
pub fault_onward : {S A : Type 0} (part : S → Part (S ⊎ A)) (s : S) (text : List ℕ) (next : S)
    (middle : List ℕ) (fault : PartFault) →
    (part s).Reads text (inl next) middle → IsFaultOf (loop_part part next) middle fault →
    IsFaultOf (loop_part part s) text fault
fault_onward part s text next middle (Refused left e) h (start, left_is, f) =
    (start, left_is, later s text next middle h f)
fault_onward part s text next middle (Memory a) h k = tt
