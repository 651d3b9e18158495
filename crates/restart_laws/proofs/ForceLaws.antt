-- While a commit is forced, its record may be durable and the commit not yet answered: then it counts as one that the disk
-- failed.
use Rattle.std.proofs.Common.{◌≡◌, ℕ, List, [], ◌∷◌, ◌++◌, false, refl, sym, ap, ◌∙◌, subst, append-nil, Option, Some, None, inr}
use Rattle.std.specs.Prelude.{cond}
use Rattle.std.specs.Option.{option_map_or}
use Rattle.plain_model.specs.declared.calls.Call.TheVariants.{Commit as CommitCall}
use Rattle.plain_model.specs.declared.calls.Reply.TheVariants.{DiskFault, Aborting}
use Rattle.plain_model.specs.declared.calls.Entry.{Entry}
use Rattle.plain_model.specs.declared.calls.Entry.TheVariants.{Call}
use Rattle.plain_model.specs.ActiveTransaction.{ActiveTransaction}
use Rattle.plain_model.specs.Machine.{transaction_of, refusal_of, refusal_in, refusal_out}
use Rattle.plain_model.specs.History.{is_stopped, next, moment_after, IsAllowed, IsCrashConsistent}
use Rattle.cell_model.specs.Records.{Record, Commit}
use Rattle.store_model.specs.Core.{Core}
use Rattle.store_model.specs.Steps.{references_left}
use Rattle.store_model.proofs.CallLaws.{call-granted}
use Rattle.store_model.proofs.CallSound.{commit-call}
use Rattle.store_model.proofs.ReferenceLaws.{references_left-fit}
use Rattle.cell_model.specs.Graph.{graph_of}
use Rattle.restart_laws.specs.Graph.{zeros_of}
use Rattle.restart_laws.specs.Restored.{opened}
use Rattle.restart_laws.specs.Logged.{LogsCall, Logs}
use Rattle.restart_laws.specs.Restartable.{IsRestartable}
use Rattle.restart_laws.proofs.ForgottenLaws.{forgotten, forgotten-sound, zeros-left}
use Rattle.restart_laws.proofs.RestartableLaws.{events, crashes}

pub forced : (start c : Core) (entries : List Entry) (records : List (Option Record)) → IsRestartable start entries records c → is_stopped c.moment ≡ false → (pass : ℕ) (t : ActiveTransaction) → transaction_of c.moment.state pass ≡ Some t → t.aborting ≡ false
    → IsCrashConsistent (moment_after start.moment (entries ++ Call pass CommitCall DiskFault ∷ [])) (graph_of (opened start.moment.state.slots start.cells (records ++ Some (Commit pass) ∷ [])))
forced start c entries records h runs pass t a q =
    let e = Call pass CommitCall DiskFault in
    let granted : refusal_in c.moment.state pass t CommitCall ≡ None = ap (λ b. cond b (Some Aborting) None) q in
    let refusal : refusal_of c.moment.state pass CommitCall ≡ None = ap (λ o. option_map_or (λ t. refusal_in c.moment.state pass t CommitCall) o (refusal_out CommitCall)) a ∙ granted in
    let left = references_left c.refs pass in
    let d : Core = record { cells = c.cells; moment = next c.moment e; refs = left; queue = zeros_of c.cells; round = None } in
    let sound = commit-call (forgotten c) (forgotten-sound c h.sound) pass t a left (zeros_of c.cells) (references_left-fit c.refs pass) (zeros-left (forgotten c) refl left) granted DiskFault in
    let allowed : IsAllowed c.moment e = (runs, record { machine = inr (refl, refl, ap (λ x. x.0) (call-granted c.moment.state pass t CommitCall a granted)); undone = λ f. absurd (cc) }) in
    let logs : Logs c e (Some (Commit pass)) =
    subst (λ o. LogsCall c.moment.state c.cells pass CommitCall o (transaction_of c.moment.state pass) (Some (Commit pass))) (sym refusal)
    (subst (λ p. LogsCall c.moment.state c.cells pass CommitCall None p (Some (Commit pass))) (sym a) refl) in
    let k = events start c d entries records h e (Some (Commit pass)) allowed logs tt sound refl refl in
    subst (λ es. IsCrashConsistent (moment_after start.moment es) (graph_of (opened start.moment.state.slots start.cells (records ++ Some (Commit pass) ∷ [])))) (append-nil (entries ++ e ∷ []))
    (crashes start d (entries ++ e ∷ []) (records ++ Some (Commit pass) ∷ []) k [] tt).1
