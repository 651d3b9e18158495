-- What is left of a store that was opened, where there is no memory for its words.
use Rattle.std.proofs.Common.{◌≡◌, ℕ, List, Option, inl, sym, ap, ◌∙◌, arith}
use Rattle.disk_model.specs.declared.area.Area.{Area}
use Rattle.disk_model.specs.Areas.{Bytes}
use Rattle.logged_journal.specs.View.{LoggedView}
use Rattle.store_opening.specs.declared.open_refusal.OpenRefusal.TheVariants.{Memory}
use Rattle.journal_opening.specs.Openings.{OpensAs, RefusesToOpen, HasFault}
use Rattle.object_map.specs.Clients.{object_slots}

module _ {D : Type 0} (content : D → Area → Option (List ℕ)) (may_leave : D → Area → List ℕ → Type 0) (moment : D → ℕ) (left_since : D → ℕ → Bytes → Type 0) (faults : D → ℕ) (disk : D) (v : LoggedView D) (opened : OpensAs content faults object_slots disk (record { trace = 1048576; log = 1071644672 }) v) where
  -- what opens is refused for want of memory
  pub refuses_memory : (now : D) → RefusesToOpen content may_leave moment left_since object_slots disk Memory now
  refuses_memory now = record {
    refused = λ image reads. tt;
    for_good = λ of_store. absurd of_store;
    unwritten = inl tt;
    only_looks = λ image reads shut. absurd (shut v.journal.opening (opened.opens image reads));
  }

  pub memory_fault : (now : D) → now ≡ v.disk → HasFault (faults disk) (faults now) Memory
  memory_fault now is = record {
    later = (let e : faults now ≡ faults v.disk = ap faults is in let a = opened.counted.0 in let b = opened.counted.1 in omega arith);
    failed = λ e. absurd (cc);
    kept = λ _. ap faults is ∙ sym opened.counted.0 ∙ opened.unfailed;
  }
