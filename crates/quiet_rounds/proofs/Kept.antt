-- What each event of the green walk keeps of a quiet round.
use Rattle.std.proofs.Common.{◌≡◌, ◌≢◌, ℕ, zero, suc, ◌<◌, Bool, true, false, not, if◌then◌else◌, List, [], ◌∷◌, ◌++◌, length, Option, Some, refl, sym, ap, ◌∙◌, subst, arith, ◌⊎◌, inl, inr, ⊎_elim, true≢false}
use Rattle.std.specs.Prelude.{Contains}
use Rattle.std.specs.Option.{option_map_or}
use Rattle.std.proofs.lemmas.Bool.{and_cases, and_left, and_from, not-false, not_from_false}
use Rattle.std.proofs.lemmas.List.Elements.{Contains-append_left}
use Rattle.cell_model.specs.Cells.{Cell, cell_at, pointer_at, is_live}
use Rattle.store_model.specs.Core.{Core, Round}
use Rattle.store_model.specs.Sound.{in_round, IsSound}
use Rattle.cell_model.proofs.RecordLaws.{slot-within}
use Rattle.ref_tables.specs.Queue.{has}
use Rattle.red_walk.specs.Walk.{Walk}
use Rattle.red_walk.proofs.Members.{Contains-has, has-Contains, absent}
use Rattle.green_walk.specs.declared.copied_slots.CopiedSlot.{CopiedSlot}
use Rattle.green_walk.specs.declared.green_at.Test.{Test}
use Rattle.green_walk.specs.declared.sweep.SweepAt.TheVariants as sweep
use Rattle.green_walk.specs.Sweeping.{SweepState as Sweep, next as next_of_sweep}
use Rattle.green_walk.specs.Greening.{Greening, GreenStage, waits, first_with, behind_first}
use Rattle.green_walk.proofs.GreenSteps.{waits-parts, id-within}
use Rattle.green_walk.proofs.GreenAsked.{green-done}
use Rattle.green_walk.proofs.GreenHeads.{passed-over, found-first, passed-behind}
use Rattle.log_record.specs.declared.cell_record.CellRecord.{CellRecord}
use Rattle.core_store.specs.declared.act.Act.{Act}
use Rattle.core_store.specs.declared.act.Act.TheVariants as act
use Rattle.core_store.specs.RoundView.{RoundView, Sweeping, IsGreeningOf}
use Rattle.quiet_rounds.specs.Quiet.{HasOther, IsLedTo, from_seed, from_green, over, AreCopied, IsQuietSweep}
use Rattle.quiet_rounds.specs.Laws.{IsQuietEvent, NoneJoins}
use Rattle.core_store.proofs.GreenAt.{all-freed}
use Rattle.core_store.proofs.Strengths.{AreSameGraph}

-- ---- what waits

-- an object that doesn't wait does so neither when one more is green
pub waits-more : (g : Greening) (id : ℕ) (stage : GreenStage) (test : Option Test) (u : ℕ) → waits g u ≡ false → waits (record g { green = g.green ++ id ∷ []; stage = stage; test = test }) u ≡ false
waits-more g id stage test u e =
    ⊎_elim
    (λ n. and_left (has g.live u) (not (has (g.green ++ id ∷ []) u)) n)
    (λ n. green-done (record g { green = g.green ++ id ∷ []; stage = stage; test = test }) u (Contains-append_left g.green (id ∷ []) u (Contains-has g.green u (not-false (has g.green u) n))))
    (and_cases (has g.live u) (not (has g.green u)) e)

-- one that doesn't live doesn't wait
pub waits-none : (g : Greening) (u : ℕ) → (Contains g.live u → ⊥) → waits g u ≡ false
waits-none g u n = and_left (has g.live u) (not (has g.green u)) (absent g.live u n)

pub waits-yes : (g : Greening) (u : ℕ) → Contains g.live u → (Contains g.green u → ⊥) → waits g u ≡ true
waits-yes g u m n = and_from (has g.live u) (not (has g.green u)) (has-Contains g.live u m) (not_from_false (has g.green u) (absent g.green u n))

-- what waits isn't green
pub waits-not_green : (g : Greening) (u : ℕ) → waits g u ≡ true → Contains g.green u → ⊥
waits-not_green g u e m = true≢false (sym (has-Contains g.green u m) ∙ (waits-parts g u e).1)

-- what waits isn't what doesn't
pub waits-apart : (g : Greening) (u id : ℕ) → waits g u ≡ false → waits g id ≡ true → u ≢ id
waits-apart g u id n e z = true≢false (sym e ∙ ap (waits g) (sym z) ∙ n)

-- ---- slots that are passed over

-- a slot with the property is the first one with it, or after that
pub behind-first : (P : CopiedSlot → Bool) (rest : List CopiedSlot) (first s : CopiedSlot) → first_with P rest ≡ Some first → Contains rest s → P s ≡ true → (first ≡ s) ⊎ Contains (behind_first P rest) s
behind-first P [] first s e m p = absurd (cc)
behind-first P (t ∷ rest) first s e m p = by (P t) refl (λ f q. behind-first P rest first s f q p)
  where
    split : Contains (t ∷ rest) s → (t ≡ s) ⊎ Contains rest s
    split (zero, l, q) = inl q
    split (suc k, l, q) = inr (k, omega (arith, l), q)

    by : (b : Bool) → P t ≡ b → (first_with P rest ≡ Some first → Contains rest s → (first ≡ s) ⊎ Contains (behind_first P rest) s) → (first ≡ s) ⊎ Contains (behind_first P (t ∷ rest)) s
    by true f later =
        let same : Some t ≡ Some first = sym (found-first P t rest f) ∙ e in
        let is : t ≡ first = cc in
        ⊎_elim (λ q. inl (sym is ∙ q)) (λ q. inr (subst (λ xs. Contains xs s) (sym (ap (λ b. if b then rest else behind_first P rest) f)) q)) (split m)
    by false f later =
        ⊎_elim
        (λ q. absurd (true≢false (sym p ∙ ap P (sym q) ∙ f)))
        (λ q. subst (λ xs. (first ≡ s) ⊎ Contains xs s) (sym (passed-behind P t rest f)) (later (sym (passed-over P t rest f) ∙ e) q))
        (split m)

-- ---- what is the same in the same graph

module _ {cells new : List Cell} (same : AreSameGraph cells new) where
  pub other-kept : (list : List ℕ) (id : ℕ) → HasOther cells list id → HasOther new list id
  other-kept list id o = (o.0, o.1, same.live o.0 ∙ o.2, o.3, same.target o.0 o.1 ∙ o.4)

  module _ (g : Greening) (green : List ℕ) (stage : GreenStage) (test : Option Test) where
    pub copied-kept : (slots : ℕ) → AreCopied slots cells g → AreCopied slots new (record g { green = green; stage = stage; test = test })
    copied-kept slots a = record { tell = λ s m l. same.target s.id s.slot ∙ a.tell s m l; all = a.all }

    pub led-kept : ((x : ℕ) → Contains g.green x → Contains green x) → {id : ℕ} → IsLedTo cells g id → IsLedTo new (record g { green = green; stage = stage; test = test }) id
    led-kept more (from_seed id m) = from_seed id m
    led-kept more (from_green id m) = from_green id (more id m)
    led-kept more (over id slot l m) =
        subst (λ y. IsLedTo new (record g { green = green; stage = stage; test = test }) y) (same.target id slot)
        (over id slot (led-kept more l) (subst (λ y. Contains g.live y) (sym (same.target id slot)) m))

-- ---- a quiet round after its sweep

pub record IsQuietGreen (slots : ℕ) (c : Core) (w : Walk) (s : Sweep) (g : Greening) : Type 0 where
  pub sound : IsSound c
  pub slots_are : c.moment.state.slots ≡ slots
  pub in_round : in_round c ≡ w.left
  pub listed : (id : ℕ) → Contains w.left id → Contains w.list id
  pub greens : IsGreeningOf slots c.moment.state.ids w s g
  pub over : next_of_sweep s ≡ sweep.End
  pub quiet : IsQuietSweep c.cells slots w s g

pub quiet-green : {slots : ℕ} {c d : Core} {w : Walk} {s : Sweep} {slot : ℕ} {g : Greening} {v : RoundView} {event : Act} {logged : Option CellRecord} → IsQuietEvent slots c d (Sweeping w s slot g) v event logged → IsQuietSweep c.cells slots w s g
    → next_of_sweep s ≡ sweep.End → IsQuietGreen slots c w s g
quiet-green e q n = record {
  sound = e.sound;
  slots_are = e.slots_are;
  in_round = ap (λ (o : Option Round). option_map_or (λ (r : Round). r.list) o []) (sym e.before);
  listed = e.in_step.walk.left_listed;
  greens = e.in_step.greens;
  over = n;
  quiet = q;
}

-- no object joins the queue where it stays
pub queue-stays : {queue behind : List ℕ} → behind ≡ queue → NoneJoins act.Change queue behind
queue-stays e = record { fewer = λ id m. subst (λ ids. Contains ids id) e m; shorter = let n = ap length e in omega (arith, n) }

module _ {slots : ℕ} {c : Core} {w : Walk} {s : Sweep} {g : Greening} (h : IsQuietGreen slots c w s g) where
  pub left-stored : (id : ℕ) → Contains w.left id → is_live c.cells id ≡ true
  left-stored id m = (h.sound.round_live id (subst (λ ids. Contains ids id) (sym h.in_round) m)).0

  -- all objects that are left live
  pub left-lives : (id : ℕ) → Contains w.left id → Contains g.live id
  left-lives id m = ⊎_elim (λ n. let none = subst (λ ids. Contains ids id) (all-freed s h.over) n in let l = none.1 in absurd (omega (arith, l))) (λ n. n) (h.quiet.parted id m)

  pub stored-live : (id : ℕ) → Contains g.live id → is_live c.cells id ≡ true
  stored-live id m = left-stored id (h.greens.left id m)

  -- a slot that isn't null is one of its object's
  pub some-within : (id slot : ℕ) → is_live c.cells id ≡ true → (pointer_at c.cells id slot).target ≢ 0 → slot < slots
  some-within id slot l n = let within = slot-within (cell_at c.cells id) slot n in let all = h.sound.consistent.slotted id l in let same = h.slots_are in omega (arith, within, all, same)

  -- 0 is no object
  pub null-waits : (stage : GreenStage) (green : List ℕ) (test : Option Test) → waits (record g { green = green; stage = stage; test = test }) 0 ≡ false
  null-waits stage green test = waits-none (record g { green = green; stage = stage; test = test }) 0 (λ m. let one = (id-within g.live g.limit 0 h.greens.greening.live_ids m).0 in omega (arith, one))

  -- what waits has no strong pointer to it
  pub waits-zero : (id : ℕ) → waits g id ≡ true → (cell_at c.cells id).strong ≡ 0
  waits-zero id e = h.quiet.zero id (h.greens.left id (Contains-has g.live id (waits-parts g id e).0)) (waits-not_green g id e)
