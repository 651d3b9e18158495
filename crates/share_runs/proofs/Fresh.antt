-- What a journal that was handed out keeps of the one that it was.
use Rattle.std.proofs.Common.{◌≡◌, List, [], None, sym, ap, subst, ◌∙◌}
use Rattle.core_store.specs.declared.frame.Frame.{Frame}
use Rattle.logged_journal.specs.View.{LoggedView}
use Rattle.framed_journal.specs.Holding.{AreFramesOf}
use Rattle.script_lines.specs.Numbers.{object_slots}

pub running-same : {D : Type 0} (w v : LoggedView D) → w ≡ v → v.failed ≡ None → w.failed ≡ None
running-same {D} w v same running = ap (λ (x : LoggedView D). x.failed) same ∙ running

pub unnoted-same : {D : Type 0} (w v : LoggedView D) → w ≡ v → v.journal.notes ≡ [] → w.journal.notes ≡ []
unnoted-same {D} w v same unnoted = ap (λ (x : LoggedView D). x.journal.notes) same ∙ unnoted

pub frames-same : {D : Type 0} (w v : LoggedView D) (frames : List (Frame object_slots)) → w ≡ v → AreFramesOf v.journal frames → AreFramesOf w.journal frames
frames-same {D} w v frames same are = subst (λ (x : LoggedView D). AreFramesOf x.journal frames) (sym same) are
