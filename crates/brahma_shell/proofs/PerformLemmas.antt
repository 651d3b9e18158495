-- What a client's line gives.
use Rattle.std.proofs.Common.{◌≡◌, ◌≢◌, ℕ, zero, suc, ◌<◌, true, false, List, [], ◌∷◌, ◌++◌, Option, Some, None, replicate, refl, ap, ◌∙◌, arith}
use Rattle.std.specs.Prelude.{is_some, nat_lt, Result, Ok, Err, IfOk}
use Rattle.std.proofs.lemmas.List.{append-nil}
use Rattle.std.proofs.lemmas.Bool.Decides.{nat_tests}
use Rattle.plain_model.specs.declared.calls.Call.{Call as TransactionCall}
use Rattle.plain_model.specs.declared.calls.Call.TheVariants as call
use Rattle.plain_model.specs.declared.calls.Reply.TheVariants.{Done, DiskFault}
use Rattle.plain_model.specs.declared.calls.Entry.{Entry}
use Rattle.plain_model.specs.declared.calls.Entry.TheVariants as entry
use Rattle.plain_model.specs.ActiveTransaction.{ActiveTransaction}
use Rattle.plain_model.specs.Machine.{transaction_of}
use Rattle.plain_model.specs.History.{Moment, end_of, left_to_undo}
use Rattle.plain_model.specs.Text.{text_of, line_of}
use Rattle.core_store.specs.JournalView.{JournalView}
use Rattle.script_lines.specs.declared.grammar.Line.TheVariants.{Ask, Abort, Undo}
use Rattle.brahma_shell.specs.declared.perform.Answer.{Answer}
use Rattle.brahma_shell.specs.declared.replay.Stop.{Stop}
use Rattle.brahma_shell.specs.Points.{point_of, entries_in}
use Rattle.brahma_shell.specs.Growth.{GrowsBy}
use Rattle.brahma_shell.specs.Replay.{Performs}
use Rattle.brahma_shell.proofs.AbortLemmas.{left_to_undo-none}
use Rattle.brahma_shell.proofs.PointLemmas.{moment_of_point}

done-told : Done ≢ DiskFault
done-told e = cc (e)

-- the answer is to this call
abbrev pub IsTo : Answer → ℕ → TransactionCall → Type 0
IsTo a client c = (a.client ≡ client) × (a.call ≡ c)

-- the answer prints its line
text_of-answer : (a : Answer) (client : ℕ) (c : TransactionCall) → a.client ≡ client → a.call ≡ c → text_of (entry.Call client c a.reply ∷ []) ≡ line_of (entry.Call a.client a.call a.reply)
text_of-answer a client c e f = rw (e, f) (append-nil (line_of (entry.Call client c a.reply)))

-- undos print nothing
text_of-undos : (n client : ℕ) (es : List Entry) → text_of (replicate n (entry.Undo client) ++ es) ≡ text_of es
text_of-undos zero client es = refl
text_of-undos (suc n) client es = text_of-undos n client es

-- a call
pub performs-call : (old new : JournalView) (client : ℕ) (c : TransactionCall) (a : Answer) → a.reply ≢ DiskFault → a.client ≡ client → a.call ≡ c → GrowsBy old new (entry.Call client c a.reply ∷ []) → Performs old new (Ask client c) (line_of (entry.Call a.client a.call a.reply))
performs-call old new client c a told e f g = record {
  notes = g.more;
  grows = g.grows;
  unmarked = g.unmarked;
  gives = (a.reply, g.entries, told);
  printed = ap text_of g.entries ∙ text_of-answer a client c e f;
}

none_of : (o : Option ActiveTransaction) → false ≡ is_some o → o ≡ None
none_of None e = refl
none_of (Some t) e = cc

-- where the client has no transaction nothing is left to undo
none_left : (old : JournalView) (client : ℕ) → entries_in old.notes ≡ old.history.entries → false ≡ is_some (transaction_of (end_of old.history).state client) → left_to_undo (point_of old).moment client ≡ 0
none_left old client same n = ap (λ (m : Moment). left_to_undo m client) (moment_of_point old same) ∙ left_to_undo-none (end_of old.history) client (none_of (transaction_of (end_of old.history).state client) n)

-- an abort that is asked where the client has no transaction
pub performs-no_abort : (old new : JournalView) (client : ℕ) (a : Answer) → a.reply ≢ DiskFault → entries_in old.notes ≡ old.history.entries → false ≡ is_some (transaction_of (end_of old.history).state client) → a.client ≡ client → a.call ≡ call.Abort → GrowsBy old new (entry.Call client call.Abort a.reply ∷ []) → Performs old new (Abort client) (line_of (entry.Call a.client a.call a.reply))
performs-no_abort old new client a told same n e f g =
    let left = none_left old client same n in
    record { notes = g.more; grows = g.grows; unmarked = g.unmarked; gives = (a.reply, rw left g.entries, told); printed = ap text_of g.entries ∙ text_of-answer a client call.Abort e f }

-- and an undo
pub performs-no_undo : (old new : JournalView) (client : ℕ) (a : Answer) → a.reply ≢ DiskFault → entries_in old.notes ≡ old.history.entries → false ≡ is_some (transaction_of (end_of old.history).state client) → a.client ≡ client → a.call ≡ call.Abort → GrowsBy old new (entry.Call client call.Abort a.reply ∷ []) → Performs old new (Undo client) (line_of (entry.Call a.client a.call a.reply))
performs-no_undo old new client a told same n e f g =
    let left = none_left old client same n in
    record { notes = g.more; grows = g.grows; unmarked = g.unmarked; gives = rw left (a.reply, g.entries, told); printed = ap text_of g.entries ∙ text_of-answer a client call.Abort e f }

-- an abort that undoes each write and ends the transaction
pub performs-abort : (old new : JournalView) (client : ℕ) (a : Answer) → entries_in old.notes ≡ old.history.entries → GrowsBy old new (replicate (left_to_undo (end_of old.history) client) (entry.Undo client) ++ entry.Call client call.Abort Done ∷ []) → (a.client ≡ client) × (a.call ≡ call.Abort) × (a.reply ≡ Done) → Performs old new (Abort client) (line_of (entry.Call a.client a.call a.reply))
performs-abort old new client a same g h = record {
  notes = g.more;
  grows = g.grows;
  unmarked = g.unmarked;
  gives = (Done, rw (moment_of_point old same) g.entries, done-told);
  printed = ap text_of g.entries ∙ text_of-undos (left_to_undo (end_of old.history) client) client (entry.Call client call.Abort Done ∷ []) ∙ rw (h.0, h.1, h.2) (append-nil (line_of (entry.Call client call.Abort Done)));
}

-- one write is undone
pub performs-undo : (old new : JournalView) (client : ℕ) → entries_in old.notes ≡ old.history.entries → 0 < left_to_undo (end_of old.history) client → GrowsBy old new (entry.Undo client ∷ []) → Performs old new (Undo client) []
performs-undo old new client same some g =
    let test : nat_lt 0 (left_to_undo (end_of old.history) client) ≡ true = grind (arith, nat_tests, some) in
    record { notes = g.more; grows = g.grows; unmarked = g.unmarked; gives = rw (moment_of_point old same, test) g.entries; printed = ap text_of g.entries }

-- none is left, and the transaction ends
pub performs-ended : (old new : JournalView) (client : ℕ) (a : Answer) → entries_in old.notes ≡ old.history.entries → left_to_undo (end_of old.history) client ≡ 0 → GrowsBy old new (entry.Call client call.Abort Done ∷ []) → (a.client ≡ client) × (a.call ≡ call.Abort) × (a.reply ≡ Done) → Performs old new (Undo client) (line_of (entry.Call a.client a.call a.reply))
performs-ended old new client a same none g h = record {
  notes = g.more;
  grows = g.grows;
  unmarked = g.unmarked;
  gives = rw (moment_of_point old same, none) (Done, g.entries, done-told);
  printed = ap text_of g.entries ∙ rw (h.0, h.1, h.2) (append-nil (line_of (entry.Call client call.Abort Done)));
}

-- a call was done, and this is its answer
abbrev pub Answers : Result Answer Stop → JournalView → JournalView → ℕ → TransactionCall → Type 0
Answers r old new client c = IfOk r (λ a. (a.client ≡ client) × (a.call ≡ c) × GrowsBy old new (entry.Call client c a.reply ∷ []))

pub asks-abort : (r : Result Answer Stop) (old new : JournalView) (client : ℕ) → IfOk r (λ a. a.reply ≢ DiskFault) → entries_in old.notes ≡ old.history.entries → false ≡ is_some (transaction_of (end_of old.history).state client) → Answers r old new client call.Abort → IfOk r (λ a. Performs old new (Abort client) (line_of (entry.Call a.client a.call a.reply)))
asks-abort (Ok a) old new client told same n h = performs-no_abort old new client a told same n h.0 h.1 h.2
asks-abort (Err s) old new client told same n h = tt
