-- A call that is refused.
use Rattle.std.proofs.Common.{◌≡◌, ℕ, List, [], Bool, true, false, refl, sym, ap, ◌∙◌, subst, Option, Some, None}
use Rattle.std.specs.Prelude.{if◌then◌else◌}
use Rattle.std.specs.Option.{option_map_or}
use Rattle.std.specs.List.{list_any}
use Rattle.std.specs.Ordering.{nat_cmp}
use Rattle.std.specs.BTreeMap.{is_at}
use Rattle.plain_model.specs.declared.calls.Call.{Call as TransactionCall}
use Rattle.plain_model.specs.declared.calls.Call.TheVariants.{Release}
use Rattle.plain_model.specs.declared.calls.Entry.TheVariants.{Call}
use Rattle.plain_model.specs.declared.calls.Reply.{Reply}
use Rattle.plain_model.specs.declared.calls.Reply.TheVariants.{Done, NoTxn, Aborting, EmptyRegister, NotShared}
use Rattle.plain_model.specs.ActiveTransaction.{ActiveTransaction}
use Rattle.plain_model.specs.Machine.{State, transaction_of, refusal_in, refusal_of, or_else, register, register_id, only_shares}
use Rattle.plain_model.specs.History.{Moment, next}
use Rattle.strict_locks.specs.Locks.{holders_of, is_owner, is_sharer}
use Rattle.store_model.specs.Core.{Ref, Round, Core}
use Rattle.store_model.specs.Sound.{IsSound}
use Rattle.store_model.proofs.CallLaws.{call-refused}
use Rattle.store_model.proofs.CallSound.{refusal-call}
use Rattle.store_model.proofs.GrantLaws.{refused-undone}
use Rattle.core_store.specs.declared.three.HeldFrame.{HeldFrame}
use Rattle.core_store.specs.Owed.{entries_owed}
use Rattle.core_store.specs.Plans.{IsRefused}
use Rattle.core_store.specs.References.{references_by}
use Rattle.core_store.specs.Tables.{TablesView}
use Rattle.core_store.specs.Transactions.{running_at}
use Rattle.core_store.specs.Stands.{Matches, owns_in, shares_in, is_free, Stands, DoesCall}
use Rattle.core_store.proofs.PlanRecords.{refused-logs}
use Rattle.core_store.specs.Touched.{round_after}
use Rattle.core_store.proofs.RestLaws.{round-same}

-- the owed entries are a matter of the state and of the counts of undone writes
pub owed-moment : (m n : Moment) → n.state ≡ m.state → n.undone ≡ m.undone → entries_owed n ≡ entries_owed m
owed-moment m n state undone =
    ap (λ (f : ℕ → ℕ). entries_owed (record n { undone = f })) undone
    ∙ ap (λ (s : State). entries_owed (record n { state = s; undone = m.undone })) state

-- the tables stand for each moment with the same state and the same counts of undone writes
pub Stands-moment : (slots : ℕ) (v : TablesView) (c : Core) (n : Moment) → Stands slots v c → n.state ≡ c.moment.state → n.undone ≡ c.moment.undone → IsSound (record c { moment = n }) → Stands slots v (record c { moment = n })
Stands-moment slots v c n h state undone sound = record {
  ids = ap (λ (s : State). s.ids) state ∙ h.ids;
  few = h.few;
  slots_are = ap (λ (s : State). s.slots) state ∙ h.slots_are;
  counted = h.counted;
  sound = sound;
  running = subst (λ (f : ℕ → ℕ). (q : ℕ) → Matches slots n.state.committed (running_at v.transactions q) (transaction_of n.state q) (f q)) (sym undone)
      (subst (λ (s : State). (q : ℕ) → Matches slots s.committed (running_at v.transactions q) (transaction_of s q) (c.moment.undone q)) (sym state) h.running);
  restorable = h.restorable;
  owners = subst (λ (s : State). (id pass : ℕ) → is_owner (holders_of v.locks id) pass ≡ owns_in (transaction_of s pass) id) (sym state) h.owners;
  sharers = subst (λ (s : State). (id pass : ℕ) → is_sharer (holders_of v.locks id) pass ≡ shares_in (transaction_of s pass) id) (sym state) h.sharers;
  free = subst (λ (s : State). (id : ℕ) → list_any (is_at (nat_cmp id)) v.free ≡ is_free s id) (sym state) h.free;
  zeros = h.zeros;
  references = h.references;
  queue = h.queue;
  round = h.round;
  in_step = h.in_step;
  emptied = h.emptied;
  tested = h.tested;
  owed = h.owed ∙ sym (owed-moment c.moment n state undone);
}

-- a `Release` that is refused isn't answered `Done`
release-not_done : (s : State) (pass r : ℕ) → refusal_of s pass (Release r) ≡ Some Done → ⊥
release-not_done s pass r e = by (transaction_of s pass) e
  where
    among : (a : Bool) (o : Option ℕ) (b : Bool) → or_else (if a then Some Aborting else None) (or_else (option_map_or (λ _. None) o (Some (EmptyRegister r))) (if b then None else Some NotShared)) ≡ Some Done → ⊥
    among true o b f = cc
    among false None b f = cc
    among false (Some id) true f = cc
    among false (Some id) false f = cc

    by : (o : Option ActiveTransaction) → option_map_or (λ t. refusal_in s pass t (Release r)) o (Some NoTxn) ≡ Some Done → ⊥
    by None f = cc
    by (Some t) f = among t.aborting (register t r) (only_shares (register_id t r) t) f

-- so a refused call leaves what clients name
refused-references : (s : State) (refs : List Ref) (pass : ℕ) (call : TransactionCall) (reply : Reply) → refusal_of s pass call ≡ Some reply → references_by s refs (Call pass call reply) None ≡ refs
refused-references s refs pass (Release r) Done e = absurd (release-not_done s pass r e)
refused-references s refs pass _ _ e = refl

pub performs-refused : (slots : ℕ) (v : TablesView) (held : List (HeldFrame slots)) (pass : ℕ) (call : TransactionCall) (reply : Reply) → IsRefused slots v pass call reply → DoesCall slots v v held held pass call reply None
performs-refused slots v held pass call reply refused c h agree =
    let r = refused c h in
    let n = next c.moment (Call pass call reply) in
    let step_is = call-refused c.moment.state pass call reply r in
    let stands = Stands-moment slots v c n h (ap (λ (x : Reply × State). x.1) step_is) (refused-undone c.moment.state c.moment.undone pass call reply r) (refusal-call c h.sound pass call reply r) in
    record {
      machine = sym (ap (λ (x : Reply × State). x.0) step_is);
      record_is = sym (refused-logs c.moment.state c.cells pass call reply r);
      moves = record { fits = tt; lays = tt; agree = agree; elsewhere = λ p e. refl };
      stands = subst (λ (rs : List Ref). Stands slots v (record c { moment = n; refs = rs; round = round_after c.round [] })) (sym (refused-references c.moment.state c.refs pass call reply r))
          (subst (λ (x : Option Round). Stands slots v (record c { moment = n; round = x })) (sym (round-same c.round)) stands);
      round = refl;
    }
