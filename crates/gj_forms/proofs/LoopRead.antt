-- Parts that are read in turn, one after another.
use Rattle.std.proofs.Common.{◌⊎◌, inl, inr, ℕ, List}
use Rattle.gj_forms.specs.declared.fault.PartFault.{PartFault}
use Rattle.gj_forms.specs.Parts.{Part, loop_part, IsFaultOf}
use Rattle.gj_forms.specs.Parts.ReadsInTurn.{last, onward}
use Rattle.gj_forms.proofs.LoopLaws.{fault_in_state, fault_onward}

-- what the state t reads of the rest, the state s reads of the text, and so its faults
pub record LeadsOn {S A : Type 0} (part : S → Part (S ⊎ A)) (s : S) (text : List ℕ) (t : S)
    (rest : List ℕ) : Type 0 where
  pub reads : (a : A) (end : List ℕ) → (loop_part part t).Reads rest a end →
      (loop_part part s).Reads text a end
  pub faults : (e : PartFault) → IsFaultOf (loop_part part t) rest e →
      IsFaultOf (loop_part part s) text e

module _ {S A : Type 0} (part : S → Part (S ⊎ A)) (s : S) (text : List ℕ) where
  pub leads_at_first : LeadsOn part s text s text
  leads_at_first = record { reads = λ a end h. h; faults = λ e h. h }

  -- behind one more
  pub leads_on : (t next : S) (rest behind : List ℕ) → LeadsOn part s text t rest →
      (part t).Reads rest (inl next) behind →
      LeadsOn part s text next behind
  leads_on t next rest behind h one = record {
    reads = λ a end k. h.reads a end (onward t rest next behind one k);
    faults = λ e k. h.faults e (fault_onward part t rest next behind e one k);
  }

  -- at the end
  pub leads_to_end : (t : S) (rest : List ℕ) (a : A) (end : List ℕ) → LeadsOn part s text t rest →
      (part t).Reads rest (inr a) end →
      (loop_part part s).Reads text a end
  leads_to_end t rest a end h one = h.reads a end (last t rest one)

  -- at a fault
  pub leads_to_fault : (t : S) (rest : List ℕ) (e : PartFault) → LeadsOn part s text t rest →
      IsFaultOf (part t) rest e →
      IsFaultOf (loop_part part s) text e
  leads_to_fault t rest e h fault = h.faults e (fault_in_state part t rest e fault)
