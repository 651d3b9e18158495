-- Calls that are granted or not, and what a call has done that asked nothing of the disk.
use Rattle.std.proofs.Common.{◌≡◌, ◌≢◌, ◌⊎◌, inl, inr, ⊎_elim, ℕ, Bool, true, false, Option, Some, None, sym, ◌∙◌, ap, subst, refl, ◌≤◌, List, [], arith}
use Rattle.std.specs.Prelude.{not, ◌&&◌, is_none, IfSome}
use Rattle.disk_model.specs.declared.area.Area.{Area}
use Rattle.disk_model.specs.Areas.{Bytes}
use Rattle.disk_model.specs.Told.{IsImage}
use Rattle.disk_model.specs.Time.{LeavesOnlyImages}
use Rattle.disk_model.proofs.Moments.{no_call, weaken}
use Rattle.plain_model.specs.declared.calls.Call.{Call as TransactionCall}
use Rattle.plain_model.specs.declared.calls.Call.TheVariants as call
use Rattle.plain_model.specs.declared.calls.Reply.{Reply}
use Rattle.plain_model.specs.declared.calls.Reply.TheVariants as reply
use Rattle.plain_model.specs.Machine.{refusal_of, transaction_of}
use Rattle.plain_model.specs.declared.calls.Entry.TheVariants.{Call}
use Rattle.plain_model.specs.History.{with_entry, end_of}
use Rattle.log_record.specs.Spelling.{IsPass}
use Rattle.cell_page.specs.Format.{IsSlotCount}
use Rattle.core_store.specs.JournalView.{JournalView}
use Rattle.core_store.specs.Limited.{is_past_limit}
use Rattle.core_store.specs.Owed.{entries_needed, bytes_needed}
use Rattle.core_store.specs.Steppings.{IsEntered, bytes_at, bytes_to_collect}
use Rattle.core_store.specs.RoundView.{RoundView, Closed, asked}
use Rattle.core_store.specs.declared.round_at.RoundAt.{RoundAt}
use Rattle.core_store.specs.declared.round_at.RoundAt.TheVariants as at
use Rattle.logged_journal.specs.View.{image_need, LoggedView, IsPast, history_of}
use Rattle.logged_journal.specs.Records.{HasRecords, MayBeLeft, MayHave, with_commit}
use Rattle.logged_journal.specs.Calls.{IsGranted, IsOfJournal, DoesCall}
use Rattle.logged_journal.specs.Opens.{OpensAfter, OpensDuring, as_before, as_failed}
use Rattle.logged_journal.specs.Kept.{CanCommit, IsKept}
use Rattle.logged_journal.proofs.CalledJournals.{commit-refused, refused-so}

-- the disk was asked for nothing
pub still : {D : Type 0} (may_leave : D → Area → List ℕ → Type 0) (moment : D → ℕ) (left_since : D → ℕ → Bytes → Type 0)
    → ((disk : D) (image : Bytes) → left_since disk (moment disk) image → IsImage may_leave disk image)
    → (v : LoggedView D) (pass : ℕ) (now : D) → now ≡ v.disk → IsKept may_leave v → LeavesOnlyImages moment left_since v.disk now (MayHave v pass)
still {D} may_leave moment left_since only_now v pass now same kept =
    subst (λ (d : D). LeavesOnlyImages moment left_since v.disk d (MayHave v pass)) (sym same)
    (no_call may_leave (MayHave v pass) only_now (λ image may. inl (kept.images image may)))

-- then an image opens to what a crash before may leave
pub opens-still : {D : Type 0} (may_leave : D → Area → List ℕ → Type 0) (moment : D → ℕ) (left_since : D → ℕ → Bytes → Type 0)
    → ((disk : D) (image : Bytes) → left_since disk (moment disk) image → IsImage may_leave disk image)
    → (slots pass : ℕ) (c : TransactionCall) (v w : LoggedView D) (now : D) → v ≡ w → IsKept may_leave v → now ≡ w.disk → ((image : Bytes) → MayBeLeft w image → OpensAfter slots (history_of w) image)
    → LeavesOnlyImages moment left_since w.disk now (OpensDuring slots w pass c)
opens-still {D} may_leave moment left_since only_now slots pass c v w now same kept is opens =
    subst (λ (d : D). LeavesOnlyImages moment left_since w.disk d (OpensDuring slots w pass c)) (sym is)
    (no_call may_leave (OpensDuring slots w pass c) only_now
    (λ image may. as_before (opens image (subst (λ (x : LoggedView D). MayBeLeft x image) same (kept.images image (subst (λ (x : LoggedView D). IsImage may_leave x.disk image) (sym same) may))))))

-- and while a commit is made, or to what a crash may leave after the disk failed it
pub opens-commit : {D : Type 0} (moment : D → ℕ) (left_since : D → ℕ → Bytes → Type 0) (slots pass : ℕ) (c : TransactionCall) (w : LoggedView D) (before now : D)
    → c ≡ call.Commit → w.failed ≡ None → IsPass pass → IsGranted w.journal pass call.Commit
    → ((image : Bytes) → MayBeLeft w image → OpensAfter slots (history_of w) image)
    → ((pass : ℕ) (image : Bytes) → CanCommit w.journal pass → HasRecords w.journal (with_commit w.journal.notes pass) image → OpensAfter slots (with_entry w.journal.history (Call pass call.Commit reply.DiskFault)) image)
    → LeavesOnlyImages moment left_since before now (MayHave w pass) → LeavesOnlyImages moment left_since before now (OpensDuring slots w pass c)
opens-commit moment left_since slots pass c w before now is running client granted left failing run =
    weaken (OpensDuring slots w pass c)
    (λ image has. ⊎_elim (λ may. as_before (left image may)) (λ all. as_failed is running granted (failing pass image (record { client = client; granted = granted.granted }) all)) has) run

-- what the test of a call tells
pub not-granted : (j : JournalView) (pass : ℕ) (c : TransactionCall) (b : Bool) → b ≡ (not (is_past_limit j (entries_needed c)) && is_none (refusal_of (end_of j.history).state pass c)) → b ≡ false → IsGranted j pass c → ⊥
not-granted j pass c b is isnt granted =
    let true-is : b ≡ true = is ∙ ap (λ (r : Bool). not r && is_none (refusal_of (end_of j.history).state pass c)) granted.room ∙ ap (λ (o : Option Reply). is_none o) granted.granted in
    let bad = sym isnt ∙ true-is in
    cc (bad)

pub is-granted : (j : JournalView) (pass : ℕ) (c : TransactionCall) (b : Bool) → b ≡ (not (is_past_limit j (entries_needed c)) && is_none (refusal_of (end_of j.history).state pass c)) → b ≡ true → IsGranted j pass c
is-granted j pass c b is true-is = by (is_past_limit j (entries_needed c)) refl (refusal_of (end_of j.history).state pass c) refl (sym is ∙ true-is)
  where
    by : (r : Bool) → is_past_limit j (entries_needed c) ≡ r → (o : Option Reply) → refusal_of (end_of j.history).state pass c ≡ o → (not r && is_none o) ≡ true → IsGranted j pass c
    by false room None granted e = record { room = room; granted = granted }
    by false room (Some r) granted e = absurd (cc (e))
    by true room o granted e = absurd (cc (e))

-- a call that can't be made at once, for which the history has room, and that isn't past the log's limit, is a commit
pub commit-left : {D : Type 0} (v : LoggedView D) (c : TransactionCall) (full b : Bool) (n : ℕ) → (c ≡ call.Commit) ⊎ (full ≡ true) ⊎ IsPast v (bytes_needed c) → full ≡ false → (IsPast v n → b ≡ true) → b ≡ false → n ≡ bytes_needed c → c ≡ call.Commit
commit-left v c full b n either room past isnt value =
    ⊎_elim
    (λ is. is)
    (λ rest.
    ⊎_elim
    (λ is. absurd (let e : true ≡ false = sym is ∙ room in cc (e)))
    (λ over. absurd (let e = sym isnt ∙ past (subst (λ (k : ℕ). IsPast v k) (sym value) over) in cc (e)))
    rest)
    either

-- a commit that isn't granted isn't done
pub never-done : (slots : ℕ) (j k : JournalView) (pass : ℕ) (r : Reply) → (IsGranted j pass call.Commit → ⊥) → DoesCall slots j k pass call.Commit r → r ≡ reply.Done → ⊥
never-done slots j k pass r refused does done =
    let entered : IsEntered r = ((λ m. let e = sym done ∙ m in cc (e)), (λ m. let e = sym done ∙ m in cc (e))) in
    commit-refused (end_of j.history).state pass (transaction_of (end_of j.history).state pass) refl
    (refused-so slots j k pass call.Commit r refused does entered ∙ ap (λ (q : Reply). Some q) done)

-- nor is want of memory told, where it isn't granted since the history is full
pub never-memory : (slots : ℕ) (j k : JournalView) (pass : ℕ) (r : Reply) → (IsGranted j pass call.Commit → ⊥) → DoesCall slots j k pass call.Commit r → refusal_of (end_of j.history).state pass call.Commit ≡ None → r ≡ reply.Memory → ⊥
never-memory slots j k pass r refused does granted memory = by (is_past_limit j (entries_needed call.Commit)) refl
  where
    by : (b : Bool) → is_past_limit j (entries_needed call.Commit) ≡ b → ⊥
    by true is = let e = sym memory ∙ does.full.1 is in cc (e)
    by false is = refused (record { room = is; granted = granted })

-- a reply that isn't the journal's or is that it was done is none of these
pub no-other : (r s : Reply) → (IsOfJournal r → r ≡ reply.Done) → r ≡ s → s ≢ reply.Done → IsOfJournal s → ⊥
no-other r s done is other of = other (sym is ∙ done (subst IsOfJournal (sym is) of))

-- nothing is asked of what isn't there
pub if-none : {X : Type 0} (o : Option X) (P : X → Type 0) → o ≡ None → IfSome o P
if-none None P is = tt
if-none (Some x) P is = absurd (cc (is))

-- a step of the collector asks for few bytes
pub few-to-collect : (r : RoundView) → bytes_to_collect r ≤ 47
few-to-collect r = by (asked r)
  where
    by : (a : RoundAt) → bytes_at a ≤ 47
    by at.Queue = omega (arith)
    by (at.Look id slot) = omega (arith)
    by (at.Copy id) = omega (arith)
    by at.Judge = omega (arith)
    by (at.Cut id slot) = omega (arith)
    by (at.Free id) = omega (arith)
    by (at.Seed id) = omega (arith)
    by (at.Test id slot) = omega (arith)
    by (at.Flip id) = omega (arith)
    by (at.Into «from» slot to) = omega (arith)
    by (at.Out «from» slot) = omega (arith)
    by (at.Strengthen «from» slot to) = omega (arith)
    by at.End = omega (arith)

-- an image is longer
pub few-needed : (slots needed : ℕ) → IsSlotCount slots → needed ≤ 47 → needed ≤ image_need slots
few-needed slots needed size few = ⊎_elim (λ six. subst (λ (s : ℕ). needed ≤ image_need s) (sym six) (omega (arith, few))) (λ fourteen. subst (λ (s : ℕ). needed ≤ image_need s) (sym fourteen) (omega (arith, few))) size

-- where the collector has a next event, the history has room and there is something to do
pub next-room : (j : JournalView) (next : Option RoundAt) (at : RoundAt) → (((is_past_limit j 1 ≡ true) ⊎ ((j.queue ≡ []) × (j.round ≡ Closed))) → next ≡ None) → next ≡ Some at → is_past_limit j 1 ≡ false
next-room j next at none made = by (is_past_limit j 1) refl
  where
    by : (r : Bool) → is_past_limit j 1 ≡ r → is_past_limit j 1 ≡ false
    by false is = is
    by true is = absurd (let e = sym made ∙ none (inl is) in cc (e))

pub next-some : (j : JournalView) (next : Option RoundAt) (at : RoundAt) → (((is_past_limit j 1 ≡ true) ⊎ ((j.queue ≡ []) × (j.round ≡ Closed))) → next ≡ None) → next ≡ Some at → (j.queue ≡ []) × (j.round ≡ Closed) → ⊥
next-some j next at none made idle = let e = sym made ∙ none (inr idle) in cc (e)
