-- The first object of the queue is passed over, or a round opens with it.
use Rattle.std.proofs.Common.{◌≡◌, ◌≢◌, ℕ, ◌<◌, ◌≤◌, arith, length, get_or, List, ◌∷◌, Bool, true, false, not, None, Some, refl, sym, ap, ◌∙◌, subst, inl, inr, ◌⊎◌}
use Rattle.std.specs.Prelude.{◌==◌, ◌&&◌, Contains}
use Rattle.std.proofs.lemmas.Bool.{eqb-false}
use Rattle.cell_model.specs.Cells.{cell_at, is_live}
use Rattle.store_model.specs.Core.{Core, is_named}
use Rattle.store_model.specs.Steps.{opened_round, after_look}
use Rattle.cell_model.proofs.EditLaws.{live-there, live-within}
use Rattle.store_model.proofs.Lists.{Contains-here}
use Rattle.store_model.proofs.CollectSound.{skip-sound, start-sound}
use Rattle.red_walk.specs.Walk.{opened}
use Rattle.core_store.specs.declared.three.HeldFrame.{HeldFrame}
use Rattle.core_store.specs.declared.act.Act.TheVariants as act
use Rattle.core_store.specs.Frames.{Agree}
use Rattle.core_store.specs.RoundView.{RoundView, Closed, Walking, round_of, IsInStep, Proceeds, skip, start}
use Rattle.core_store.specs.Tables.{TablesView}
use Rattle.core_store.specs.Stands.{Stands}
use Rattle.core_store.specs.Steps.{AreNames}
use Rattle.core_store.specs.Collects.{is_loose}
use Rattle.core_store.specs.Collecting.{Collected}
use Rattle.core_store.proofs.CollectedLaws.{marks-long, mark-of_live, Stands-collected, Moves-none}
use Rattle.core_store.proofs.EndQueue.{are-names}

-- what isn't loose has a strong pointer or a name
not-loose : (strong : ℕ) (named : Bool) → ((strong == 0) && not named) ≡ false → (strong ≢ 0) ⊎ (named ≡ true)
not-loose strong true e = inr refl
not-loose strong false e = inl (eqb-false strong 0 (whole (strong == 0) e))
  where
    whole : (b : Bool) → (b && true) ≡ false → b ≡ false
    whole true e = absurd (cc)
    whole false e = refl

-- the first object of the queue is live, and has its place among the marks
module _ (slots : ℕ) (v : TablesView) (c : Core) (id : ℕ) (rest : List ℕ) (h : Stands slots v c) (queue : v.queue ≡ id ∷ rest) where
  first-live : is_live c.cells id ≡ true
  first-live = (h.sound.queued id (subst (λ (ids : List ℕ). Contains ids id) (sym queue ∙ h.queue) (Contains-here id rest))).0

  pub first-within : (1 ≤ id) × (id ≤ v.ids)
  first-within =
      let some = live-there c.cells id h.sound.consistent.exact.none first-live in
      let within = live-within c.cells id first-live in
      let long = h.sound.consistent.sized in
      let ids = h.ids in
      (omega (arith, some), omega (arith, within, long, ids))

  pub first-marked : id < length v.zeros
  first-marked = subst (λ (n : ℕ). id < n) (sym (marks-long slots v c h)) (live-within c.cells id first-live)

  -- whether it is loose is what the tables tell
  pub first-loose : (b : Bool) → ((named : ℕ → Bool) → AreNames v.references named → b ≡ (get_or v.zeros id false && not (named id))) → is_loose c id ≡ b
  first-loose b f = ap (λ (zero : Bool). zero && not (is_named c.refs id)) (sym (mark-of_live slots v c h id first-live)) ∙ sym (f (is_named c.refs) (are-names c.refs v.references h.references))

module _ (slots : ℕ) (v : TablesView) (c : Core) (held : List (HeldFrame slots)) (id : ℕ) (rest : List ℕ) (h : Stands slots v c) (agree : Agree c.cells held) (closed : v.round ≡ Closed) (queue : v.queue ≡ id ∷ rest) where
  none : c.round ≡ None
  none = sym h.round ∙ ap round_of closed

  first : c.queue ≡ id ∷ rest
  first = sym h.queue ∙ queue

  pub skip-collected : is_loose c id ≡ false → Collected slots v (record v { queue = rest }) c held held (act.Skip id) None
  skip-collected kept = record {
    proceeds = subst (λ (r : RoundView). Proceeds slots v.ids r (act.Skip id) None r) (sym closed) (skip id);
    begins = λ e. absurd (cc);
    moves = Moves-none slots c.cells held agree;
    core = after_look c rest c.round;
    after = refl;
    collects = record { none = none; «first» = first; kept = kept; still = none };
    stands = Stands-collected slots v c c.cells rest c.round v.zeros v.round h (skip-sound c h.sound id rest first (not-loose (cell_at c.cells id).strong (is_named c.refs id) kept)) (λ x. refl) h.zeros h.round h.in_step h.emptied h.tested;
  }

  pub start-collected : (limit : ℕ) → limit ≡ v.ids → IsInStep slots limit (Walking (opened limit id)) → is_loose c id ≡ true → Collected slots v (record v { queue = rest; round = Walking (opened limit id) }) c held held (act.Start id) None
  start-collected limit same step loose =
      subst (λ (n : ℕ). IsInStep slots n (Walking (opened n id)) → Collected slots v (record v { queue = rest; round = Walking (opened n id) }) c held held (act.Start id) None) (sym same)
      (λ within. record {
        proceeds = subst (λ (r : RoundView). Proceeds slots v.ids r (act.Start id) None (Walking (opened v.ids id))) (sym closed) (start id);
        begins = λ e. absurd (cc);
        moves = Moves-none slots c.cells held agree;
        core = after_look c rest (Some (opened_round id));
        after = refl;
        collects = record { none = none; «first» = first; loose = loose; opened = refl };
        stands = Stands-collected slots v c c.cells rest (Some (opened_round id)) v.zeros (Walking (opened v.ids id)) h (start-sound c h.sound id rest first none) (λ x. refl) h.zeros refl within tt tt;
      })
      step
