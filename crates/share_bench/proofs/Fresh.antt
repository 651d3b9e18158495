-- What a new store keeps of the journal that it was, and what its first pass has given.
use Rattle.std.proofs.Common.{◌≡◌, List, [], None, sym, ap, subst, ◌∙◌}
use Rattle.core_store.specs.declared.frame.Frame.{Frame}
use Rattle.logged_journal.specs.View.{LoggedView}
use Rattle.framed_journal.specs.Holding.{AreFramesOf}
use Rattle.latch_table.specs.Holds.{TableView}
use Rattle.latch_table.specs.declared.view.Station.{Station}
use Rattle.latch_table.specs.Views.{first_station, is_listed}
use Rattle.shared_store.specs.Passes.{PassView}
use Rattle.script_lines.specs.Numbers.{object_slots}
use Rattle.share_bench.specs.Clients.{HasGiven}

pub running-same : {D : Type 0} (w v : LoggedView D) → w ≡ v → v.failed ≡ None → w.failed ≡ None
running-same {D} w v same running = ap (λ (x : LoggedView D). x.failed) same ∙ running

pub unnoted-same : {D : Type 0} (w v : LoggedView D) → w ≡ v → v.journal.notes ≡ [] → w.journal.notes ≡ []
unnoted-same {D} w v same unnoted = ap (λ (x : LoggedView D). x.journal.notes) same ∙ unnoted

pub frames-same : {D : Type 0} (w v : LoggedView D) (frames : List (Frame object_slots)) → w ≡ v → AreFramesOf v.journal frames → AreFramesOf w.journal frames
frames-same {D} w v frames same are = subst (λ (x : LoggedView D). AreFramesOf x.journal frames) (sym same) are

pub none-given : {J : Type 0} (store : TableView J) (pass : PassView object_slots) → pass.table ≡ store.table → pass.view.station ≡ first_station → HasGiven store pass 1
none-given store pass same first = record {
  of_store = same;
  first = (ap (λ (s : Station). s.main) first, ap (λ (s : Station). s.name) first);
  made = ap (λ (s : Station). s.last) first;
  fresh = λ client _. ap (λ (s : Station). is_listed s.names client) first;
}
