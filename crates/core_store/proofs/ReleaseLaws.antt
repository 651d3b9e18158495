-- A transaction gives a shared lock back.
use Rattle.std.proofs.Common.{◌≡◌, ◌≢◌, ℕ, List, [], ◌∷◌, ◌++◌, map, cond, true, refl, sym, ap, ◌∙◌, subst, Option, None, ⊎_elim, eq-eqb, ne_eqb}
use Rattle.std.specs.Prelude.{◌==◌, if◌then◌else◌}
use Rattle.std.specs.Option.{option_map_or}
use Rattle.std.proofs.lemmas.List.{append-nil}
use Rattle.plain_model.specs.declared.calls.Call.TheVariants.{Release}
use Rattle.plain_model.specs.declared.calls.Entry.TheVariants.{Call}
use Rattle.plain_model.specs.declared.calls.Reply.{Reply}
use Rattle.plain_model.specs.declared.calls.Reply.TheVariants.{Done}
use Rattle.plain_model.specs.ActiveTransaction.{ActiveTransaction}
use Rattle.plain_model.specs.Machine.{State, register_id, without_shared}
use Rattle.plain_model.specs.History.{next}
use Rattle.strict_locks.specs.Locks.{Table, holders_of, GivesBack, only_shares}
use Rattle.store_model.specs.Core.{Held, Ref, Core}
use Rattle.store_model.specs.Sound.{IsSound}
use Rattle.store_model.specs.Steps.{held_ids, release_references, AreReleaseReferences}
use Rattle.store_model.proofs.CallLaws.{call-granted}
use Rattle.store_model.proofs.CallSound.{release-call}
use Rattle.store_model.proofs.ReferenceLaws.{release_references-fit}
use Rattle.plain_laws.proofs.Entries.{same_or_apart}
use Rattle.core_store.specs.declared.three.HeldFrame.{HeldFrame}
use Rattle.core_store.specs.Events.{after_event}
use Rattle.core_store.specs.Frames.{Agree}
use Rattle.core_store.specs.References.{named_by, registers_of}
use Rattle.core_store.specs.Transactions.{Running}
use Rattle.core_store.specs.Tables.{TablesView}
use Rattle.core_store.specs.Stands.{IsRunning, Stands, Answers}
use Rattle.core_store.proofs.EndQueue.{named_by-own, named_by-other}
use Rattle.core_store.proofs.NameLaws.{named_by-append}
use Rattle.core_store.proofs.LockChanges.{Locked-release}
use Rattle.core_store.proofs.StepLaws.{Serves, logged-granted, after-granted, Stands-with}
use Rattle.core_store.proofs.OwedSteps.{owed-with}
use Rattle.core_store.proofs.RestLaws.{HasRest-with, links-same, round-same, sound-untouched}

abbrev held_by : ℕ → List ℕ → List Ref
held_by pass ids = map (λ id. record { pass = pass; target = id; kind = Held }) ids

-- the client names just these
held-own : (pass : ℕ) (ids : List ℕ) → named_by (held_by pass ids) pass ≡ ids
held-own pass [] = refl
held-own pass (x ∷ xs) = named_by-own (record { pass = pass; target = x; kind = Held }) (held_by pass xs) pass refl ∙ ap (λ ys. x ∷ ys) (held-own pass xs)

-- and no other does
held-other : (pass q : ℕ) (ids : List ℕ) → pass ≢ q → named_by (held_by pass ids) q ≡ []
held-other pass q [] n = refl
held-other pass q (x ∷ xs) n = named_by-other (record { pass = pass; target = x; kind = Held }) (held_by pass xs) q n ∙ held-other pass q xs n

pub named-released : (before after : ℕ → List ℕ) (refs : List Ref) (pass : ℕ) (registers : List (Option ℕ)) (p : ℕ) → before p ≡ named_by refs p → after p ≡ (if p == pass then before p ++ held_ids registers else before p) → after p ≡ named_by (refs ++ release_references pass registers) p
named-released before after refs pass registers p a b =
    ⊎_elim
    (λ (e : p ≡ pass). b ∙ (ap (λ t. cond t (before p ++ held_ids registers) (before p)) (eq-eqb p pass e) ∙ (ap (λ xs. xs ++ held_ids registers) a ∙ (ap (λ xs. named_by refs p ++ xs) (sym (subst (λ q. named_by (release_references pass registers) q ≡ held_ids registers) (sym e) (held-own pass (held_ids registers)))) ∙ sym (named_by-append refs (release_references pass registers) p)))))
    (λ (n : p ≢ pass). b ∙ (ap (λ t. cond t (before p ++ held_ids registers) (before p)) (ne_eqb p pass n) ∙ (a ∙ (sym (append-nil (named_by refs p)) ∙ (ap (λ xs. named_by refs p ++ xs) (sym (held-other pass p (held_ids registers) (λ q. n (sym q)))) ∙ sym (named_by-append refs (release_references pass registers) p))))))
    (same_or_apart p pass)

module _ (slots : ℕ) (v : TablesView) (c : Core) (held : List (HeldFrame slots)) (h : Stands slots v c) (agree : Agree c.cells held) (locks : Table) (references : ℕ → List ℕ) (pass r : ℕ) (kept : Running) (t : ActiveTransaction)
    (gives : GivesBack v.locks locks pass (register_id t r)) (only : only_shares (holders_of v.locks (register_id t r)) pass ≡ true)
    (named : (p : ℕ) → references p ≡ (if p == pass then v.references p ++ held_ids kept.registers else v.references p)) where
  pub answers-release : Serves slots v c.moment pass (Release r) kept t → Answers slots v (record v { locks = locks; references = references }) c held held pass (Release r) Done None
  answers-release s =
      let u = without_shared (register_id t r) t in
      let w : TablesView = record v { locks = locks; references = references } in
      let d = after_event slots c (Call pass (Release r) Done) None in
      let more = release_references pass (registers_of c.moment.state pass) in
      let same : registers_of c.moment.state pass ≡ t.registers = ap (λ (o : Option ActiveTransaction). option_map_or (λ (z : ActiveTransaction). z.registers) o []) s.found in
      let fit : AreReleaseReferences pass t more = subst (λ rs. AreReleaseReferences pass t (release_references pass rs)) (sym same) (release_references-fit pass t) in
      let runs : IsRunning slots c.moment.state.committed kept u (c.moment.undone pass) = record { registers = s.runs.registers; aborting = s.runs.aborting; left = s.runs.left; replaced = s.runs.replaced } in
      let state = after-granted c.moment pass (Release r) Done t s.found s.granted in
      let sound : IsSound d = sound-untouched (record c { moment = next c.moment (Call pass (Release r) Done); refs = c.refs ++ more }) (release-call c h.sound pass t s.found r more s.granted fit Done) in
      let names : (p : ℕ) → references p ≡ named_by (c.refs ++ more) p = λ p.
      subst (λ rs. references p ≡ named_by (c.refs ++ release_references pass rs) p) (s.runs.registers ∙ sym same) (named-released v.references references c.refs pass kept.registers p (h.references p) (named p)) in
      record {
        machine = sym (ap (λ (x : Reply × State). x.0) (call-granted c.moment.state pass t (Release r) s.found s.granted));
        record_is = sym (logged-granted c.moment.state c.cells pass (Release r) t s.found s.granted);
        moves = record { fits = tt; lays = tt; agree = agree; elsewhere = λ p e. refl };
        stands = Stands-with slots v w c d pass kept u h refl refl h.zeros
            (record { here = s.here; others = λ q n. refl })
            (Locked-release slots v c h pass t u s.found locks (register_id t r) gives only refl refl)
            runs
            state
            (λ q. refl)
            sound
            (λ x e. e) (h.restorable pass kept s.here)
            (HasRest-with slots v w c d h refl refl refl refl (round-same c.round) (owed-with slots c d pass kept kept t u h.sound sound state refl s.found s.runs runs v.owed v.owed h.owed refl) names (links-same c.cells d.cells refl));
        round = refl;
      }
