-- Worked texts of small histories.
use Rattle.std.proofs.Common.{◌≡◌, List, [], ◌∷◌, None, refl}
use Rattle.std.specs.Prelude.{codes}
use Rattle.std.specs.Fmt.{digits}
use Rattle.plain_model.specs.declared.calls.Call.TheVariants.{Begin, Read, Make, Store, GetPay, SetPay, Release, Commit, Abort}
use Rattle.plain_model.specs.declared.calls.Reply.TheVariants.{Done, Id, Pay, NoTxn, HasTxn, Aborting, EmptyRegister, NotShared, Busy, Full, DiskFault}
use Rattle.plain_model.specs.declared.calls.Entry.{Entry}
use Rattle.plain_model.specs.declared.calls.Entry.TheVariants.{Call, Delete, Hidden, Undo, TurnBusy, Crash}
use Rattle.plain_model.specs.Graphs.{blank}
use Rattle.plain_model.specs.Text.{text_of, stored_line}

entries : List Entry
entries = Call 1 Begin Done ∷ Call 1 (Make 1) (Id 2) ∷ Hidden ∷ Undo 1 ∷ Call 1 Abort Done ∷ Delete 2 ∷ TurnBusy 3 ∷ Crash (blank 6 1 ∷ blank 6 12 ∷ []) ∷ []

entries-text : text_of entries ≡ codes "1 begin: ok\n1 make: 2\n1 abort: ok\ndelete 2\nturn: busy 3\ncrash: stored 1 12\n"
unfolding entries digits
entries-text = refl

stored-text : stored_line (1 ∷ 2 ∷ []) ≡ codes "stored 1 2\n"
unfolding digits
stored-text = refl

-- each verb, and each other reply
refusals : List Entry
refusals =
    Call 64 (Read 0 0 1) NoTxn ∷ Call 7 Begin HasTxn ∷ Call 7 (Store 0 5 None) (EmptyRegister 0) ∷ Call 7 (GetPay 0) (Pay 10) ∷ Call 7 (SetPay 0 9) (Busy 12) ∷ Call 7 (Make 1) Full ∷ Call 8 Commit Aborting ∷ Call 7 Commit DiskFault ∷ Call 9 (Release 3) NotShared ∷ []

refusals-text : text_of refusals ≡ codes "64 read: notxn\n7 begin: hastxn\n7 store: empty 0\n7 get: 10\n7 set: busy 12\n7 make: full\n8 commit: aborting\n7 commit: fault\n9 release: notshared\n"
unfolding refusals digits
refusals-text = refl
