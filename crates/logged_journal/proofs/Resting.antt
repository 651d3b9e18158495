-- What a journal with its log keeps where no event is made.
use Rattle.std.proofs.Common.{◌≡◌, ◌⊎◌, ⊎_elim, ℕ, ◌≤◌, max, Bool, true, false, List, [], Option, Some, None, refl, sym, ◌∙◌, ap, subst, arith}
use Rattle.std.specs.Prelude.{if◌then◌else◌, IfSome}
use Rattle.disk_model.specs.declared.area.Area.{Area}
use Rattle.disk_model.specs.Areas.{Bytes}
use Rattle.plain_model.specs.declared.calls.Call.TheVariants.{Commit}
use Rattle.plain_model.specs.Machine.{refusal_of}
use Rattle.plain_model.specs.History.{end_of}
use Rattle.core_store.specs.declared.collect.Collect.{Collect}
use Rattle.core_store.specs.declared.note.Note.{Note}
use Rattle.core_store.specs.declared.marks.Marks.{Marks}
use Rattle.core_store.specs.JournalView.{JournalView}
use Rattle.core_store.specs.Limited.{is_past_limit}
use Rattle.core_store.specs.RoundView.{RoundView, Closed}
use Rattle.logged_journal.specs.View.{LoggedView, bytes_counted, failed_commit}
use Rattle.logged_journal.specs.Records.{HasRecords, MayBeLeft, durable, failed}
use Rattle.logged_journal.specs.Kept.{CanCommit, IsKept, IsStanding}
use Rattle.logged_journal.specs.Calls.{DoesCollect, GoesOn, stayed}
use Rattle.logged_journal.proofs.Kept.{on-same}
use Rattle.logged_journal.proofs.NoteBytes.{appends-none}

-- the journal with another cursor and other marks, and other room in the log
abbrev pub rested : {D : Type 0} → LoggedView D → RoundView → Marks → ℕ → LoggedView D
rested v round marks room = record v { journal = record v.journal { round = round; marks = marks }; log = record v.log { room = room } }

records-rested : (j : JournalView) (round : RoundView) (marks : Marks) (notes : List Note) (image : Bytes) → HasRecords j notes image → HasRecords (record j { round = round; marks = marks }) notes image
records-rested j round marks notes image is = record { batches = is.batches; log = is.log; hold = is.hold }

left-rested : {D : Type 0} (v : LoggedView D) (round : RoundView) (marks : Marks) (room : ℕ) (image : Bytes) → MayBeLeft v image → MayBeLeft (rested v round marks room) image
left-rested v round marks room image (durable is) = durable (records-rested v.journal round marks _ image is)
left-rested v round marks room image (failed f is more) = failed f is (records-rested v.journal round marks _ image more)

-- a commit that isn't refused at a history's end isn't at the end of another journal of this history
pub granted-rested : (o : Option ℕ) (j k : JournalView) → k.history ≡ j.history → IfSome o (CanCommit j) → IfSome o (CanCommit k)
granted-rested None j k same can = tt
granted-rested (Some pass) j k same can = record { client = can.client; granted = ap (λ h. refusal_of (end_of h).state pass Commit) same ∙ can.granted }

-- room that was taken isn't less than before
pub room-more : (done : Bool) (room more : ℕ) → room ≤ (if done then max room more else room)
room-more true room more = omega (arith)
room-more false room more = omega (arith)

module _ {D : Type 0} (may_leave : D → Area → List ℕ → Type 0) where
  pub kept-rested : (v : LoggedView D) (round : RoundView) (marks : Marks) (room : ℕ) → v.log.room ≤ room → IsKept may_leave v → IsKept may_leave (rested v round marks room)
  kept-rested v round marks room more kept =
      record {
        standing = λ is.
            let s : IsStanding may_leave v = kept.standing is in
            record {
              stage = s.stage;
              batches = s.batches;
              on = on-same may_leave v.log (record v.log { room = room }) v.disk v.disk s.batches refl refl refl s.on;
              pages = s.pages;
              ids = s.ids;
              records = s.records;
              long = s.long;
              room = (let enough = s.room in omega (arith, enough, more));
              bounded = s.bounded;
              peak = s.peak;
            };
        inside = kept.inside;
        many = kept.many;
        lasting = record { rest = kept.lasting.rest; split = kept.lasting.split; core = kept.lasting.core; safe = kept.lasting.safe; unpromised = kept.lasting.unpromised };
        images = λ image may. left-rested v round marks room image (kept.images image may);
        granted = granted-rested (failed_commit v) v.journal (record v.journal { round = round; marks = marks }) refl kept.granted;
        typed = kept.typed;
        full = kept.full;
      }

  -- the journal is the same but for its cursor and its marks
  pub kept-same : (v : LoggedView D) (j : JournalView) (round : RoundView) (marks : Marks) (room : ℕ) → j ≡ record v.journal { round = round; marks = marks } → v.log.room ≤ room → IsKept may_leave v → IsKept may_leave (record v { journal = j; log = record v.log { room = room } })
  kept-same v j round marks room same more kept =
      subst (λ (k : JournalView). IsKept may_leave (record v { journal = k; log = record v.log { room = room } })) (sym same) (kept-rested v round marks room more kept)

  pub goes-on-same : (v : LoggedView D) (j : JournalView) (round : RoundView) (marks : Marks) (room : ℕ) → j ≡ record v.journal { round = round; marks = marks } → v.failed ≡ None → IsKept may_leave v → GoesOn v (record v { journal = j; log = record v.log { room = room } })
  goes-on-same v j round marks room same running kept =
      let below : bytes_counted v ≤ v.peak = (kept.standing running).peak in
      let counted : bytes_counted (record v { journal = j }) ≡ bytes_counted v = ap (λ (k : JournalView). bytes_counted (record v { journal = k })) same in
      record { running = running; log_full = refl; peak = omega (arith, below, counted); opened = refl; marks = stayed (ap (λ (k : JournalView). k.notes) same) refl; log = appends-none v (record v { journal = j; log = record v.log { room = room } }) (ap (λ (k : JournalView). k.notes) same) (record { disk = refl; durable = refl }) refl }

-- a step that makes no event leaves the journal but for its marks
pub at-rest : (slots : ℕ) (old new : JournalView) (result : Collect) → DoesCollect slots old new result → (is_past_limit old 1 ≡ true) ⊎ ((old.queue ≡ []) × (old.round ≡ Closed))
    → (marks : Marks) × (new ≡ record old { marks = marks })
at-rest slots old new result does none = ⊎_elim full (λ idle. by (is_past_limit old 1) refl idle) none
  where
    full : is_past_limit old 1 ≡ true → (marks : Marks) × (new ≡ record old { marks = marks })
    full past = (record old.marks { trace = true }, does.marked (does.full.1 past))

    by : (b : Bool) → is_past_limit old 1 ≡ b → (old.queue ≡ []) × (old.round ≡ Closed) → (marks : Marks) × (new ≡ record old { marks = marks })
    by true past idle = full past
    by false past idle = (old.marks, does.unchanged (does.idle.1 (past, idle.0, idle.1)))

-- and it is as much as was asked for, where it was taken
pub room-enough : (done : Bool) (room more : ℕ) → done ≡ true → more ≤ (if done then max room more else room)
room-enough true room more is = omega (arith)
room-enough false room more is = absurd (cc (is))
