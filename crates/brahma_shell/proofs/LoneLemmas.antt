-- What becomes a store of one pass, and what is left where there is no memory for it.
use Rattle.std.proofs.Common.{◌≡◌, ℕ, List, Option, None, inl, sym, ap, ◌∙◌, arith}
use Rattle.std.specs.Option.{option_map_or, option_and_then}
use Rattle.disk_model.specs.declared.area.Area.{Area}
use Rattle.disk_model.specs.Areas.{Bytes}
use Rattle.plain_model.specs.declared.calls.Call.TheVariants.{Commit}
use Rattle.plain_model.specs.declared.calls.Reply.TheVariants.{DiskFault}
use Rattle.plain_model.specs.declared.calls.Entry.TheVariants.{Call}
use Rattle.plain_model.specs.History.{with_entry}
use Rattle.core_store.specs.declared.limits.Limits.{Limits}
use Rattle.logged_journal.specs.declared.failed.FailedCall.{FailedCall}
use Rattle.logged_journal.specs.View.{LoggedView, history_of}
use Rattle.store_opening.specs.declared.open_refusal.OpenRefusal.TheVariants.{Memory}
use Rattle.journal_opening.specs.Openings.{OpensAs, RefusesToOpen, HasFault}
use Rattle.script_lines.specs.Numbers.{object_slots}

-- where the disk failed no call, the history is the journal's
pub running-history : {D : Type 0} (v : LoggedView D) → v.failed ≡ None → history_of v ≡ v.journal.history
running-history v e = ap (λ (f : Option FailedCall). option_map_or (λ client. with_entry v.journal.history (Call client Commit DiskFault)) (option_and_then (λ x. x.commit) f) v.journal.history) e

module _ {D : Type 0} (content : D → Area → Option (List ℕ)) (may_leave : D → Area → List ℕ → Type 0) (moment : D → ℕ) (left_since : D → ℕ → Bytes → Type 0) (faults : D → ℕ) (disk : D) (limits : Limits) (v : LoggedView D) (opened : OpensAs content faults object_slots disk limits v) where
  -- what opens is refused for want of memory
  pub refuses-memory : (now : D) → RefusesToOpen content may_leave moment left_since object_slots disk Memory now
  refuses-memory now = record {
    refused = λ image reads. tt;
    for_good = λ of_store. absurd of_store;
    unwritten = inl tt;
    only_looks = λ image reads shut. absurd (shut v.journal.opening (opened.opens image reads));
  }

  pub memory-fault : (now : D) → now ≡ v.disk → HasFault (faults disk) (faults now) Memory
  memory-fault now is = record {
    later = (let e : faults now ≡ faults v.disk = ap faults is in let a = opened.counted.0 in let b = opened.counted.1 in omega arith);
    failed = λ e. absurd (cc);
    kept = λ _. ap faults is ∙ sym opened.counted.0 ∙ opened.unfailed;
  }
