-- A condemned object of the round is freed.
use Rattle.std.proofs.Common.{◌≡◌, ◌≢◌, ℕ, ◌+◌, ◌<◌, ◌≤◌, List, [], ◌∷◌, Bool, true, false, refl, sym, ap, ◌∙◌, subst, arith, ⊎_elim, length, drop, Some, eq-eqb, ne_eqb, cond, lt-ltb, le-leb, true≢false}
use Rattle.std.specs.Prelude.{Contains, slice_index, not, ◌&&◌, ◌||◌, ◌==◌, nat_lt, nat_le}
use Rattle.std.specs.List.{list_any}
use Rattle.std.specs.Ordering.{nat_cmp}
use Rattle.std.specs.BTreeMap.{is_at}
use Rattle.std.proofs.lemmas.Bool.{cases_eq, cases_lt}
use Rattle.std.proofs.lemmas.List.{get_or-drop, get_or_default, length-drop}
use Rattle.plain_model.specs.declared.write.Place.{Place}
use Rattle.plain_model.specs.declared.write.Place.TheVariants.{Slot, Payload, Whole}
use Rattle.plain_model.specs.declared.calls.Entry.TheVariants.{Delete}
use Rattle.plain_model.specs.Graphs.{without as without_object}
use Rattle.plain_model.specs.ActiveTransaction.{ActiveTransaction}
use Rattle.plain_model.specs.Machine.{transaction_of, is_stored}
use Rattle.plain_model.specs.History.{holds, next, after_delete}
use Rattle.plain_laws.proofs.Locks.{stored-remove}
use Rattle.cell_model.specs.Cells.{Cell, blank_cell, cell_at, pointer_in, pointer_at, is_live, edit, pointers_to, own_strong}
use Rattle.cell_model.specs.Records.{Free, Fits, HasNoPointer}
use Rattle.store_model.specs.Core.{Round, Core, names}
use Rattle.store_model.specs.Sound.{condemned_of, IsOnce, IsSound}
use Rattle.store_model.specs.Steps.{after_free}
use Rattle.store_model.proofs.DeletionLaws.{unnamed}
use Rattle.cell_model.proofs.EditLaws.{live-there, live-within, edit-here, edit-other}
use Rattle.store_model.proofs.EndLaws.{transaction-active}
use Rattle.store_model.proofs.FreeSound.{free-sound}
use Rattle.store_model.proofs.MomentSound.{delete-earlier}
use Rattle.cell_model.proofs.RecordLaws.{pointers_to-none, blank-target}
use Rattle.store_model.proofs.CollectSound.{list-is, condemned-is}
use Rattle.red_walk.specs.Walk.{Walk, removed}
use Rattle.red_walk.specs.Rounds.{round_of as walked}
use Rattle.red_walk.proofs.RoundLaws.{removed-law}
use Rattle.green_walk.specs.declared.sweep.SweepAt.{SweepAt}
use Rattle.green_walk.specs.declared.sweep.SweepAt.TheVariants as sweep
use Rattle.green_walk.specs.declared.sweep.Found.TheVariants.{Made}
use Rattle.green_walk.specs.Sweeping.{SweepState as Sweep, next as next_of_sweep, found, found_at, unfreed, unemptied}
use Rattle.green_walk.specs.Greening.{Greening}
use Rattle.green_walk.proofs.GreenAsked.{Contains-drop}
use Rattle.green_walk.proofs.SweepLaws.{free-first, drop-some, free-law}
use Rattle.log_record.specs.declared.cell_record.CellRecord.TheVariants as logs
use Rattle.cell_page.specs.Format.{page_of_id}
use Rattle.core_store.specs.declared.three.HeldFrame.{HeldFrame}
use Rattle.core_store.specs.declared.act.Act.TheVariants as act
use Rattle.core_store.specs.Frames.{Agree, is_held}
use Rattle.core_store.specs.FreeIds.{Frees}
use Rattle.core_store.specs.RoundView.{RoundView, Sweeping, round_of, IsSweeping, IsInStep, Proceeds, free}
use Rattle.core_store.specs.Replaced.{replaced}
use Rattle.core_store.specs.Transactions.{Running, running_at}
use Rattle.core_store.specs.Tables.{TablesView}
use Rattle.core_store.specs.Stands.{CanLay, IsEmptied, IsTested, is_free, Stands}
use Rattle.core_store.specs.Collecting.{Collected}
use Rattle.core_store.proofs.CollectedLaws.{tested-none, free-end, rests-at_free}
use Rattle.core_store.proofs.SavedLaws.{saved-swept}
use Rattle.core_store.proofs.EndLaws.{matches-same}
use Rattle.core_store.proofs.PageLaws.{elsewhere-edit}
use Rattle.core_store.proofs.PlanActive.{active-of}
use Rattle.core_store.proofs.ReplacedLaws.{replaced-same}
use Rattle.core_store.proofs.ReplacedNames.{replaced-held, replaced-named}
use Rattle.core_store.proofs.SlotLaws.{edit-marks_same}
use Rattle.core_store.proofs.WrittenCells.{writes-held}

-- ---- what is condemned

-- one of the rest has its place after the first n
drop-place : (n : ℕ) (xs : List ℕ) (x : ℕ) → Contains (drop n xs) x → (place : ℕ) × (n ≤ place) × (place < length xs) × (slice_index xs place ≡ x)
drop-place n xs x m =
    let l = m.1 in
    let len = length-drop n xs in
    (n + m.0, omega arith, omega (arith, l, len), sym (get_or-drop n xs m.0 0) ∙ (get_or_default (drop n xs) m.0 0 x l ∙ m.2))

none-dropped : (n : ℕ) (xs : List ℕ) → drop n xs ≡ [] → length xs ≤ n
none-dropped n xs e = let len = length-drop n xs in let none = ap (λ (ys : List ℕ). length ys) e in omega (arith, len, none)

-- the sweep frees an object where all condemned ones are emptied
pub emptied-all : (cells : List Cell) (w : Walk) (s : Sweep) (slot : ℕ) (g : Greening) (id : ℕ) → next_of_sweep s ≡ sweep.Free id → IsEmptied cells (Sweeping w s slot g) → (x : ℕ) → Contains (unfreed s) x → HasNoPointer (cell_at cells x)
emptied-all cells w s slot g id at e x m k =
    let none : length s.list ≤ s.emptied = none-dropped s.emptied s.list (free-first (unemptied s) (unfreed s) id at).0 in
    let p = drop-place s.freed s.list x m in
    let within = p.2 in
    subst (λ y. (pointer_at cells y k).target ≡ 0) p.3 (e.0 p.0 k p.1 (omega (arith, within, none)) within)

-- it is the first of them
pub freed-first : (s : Sweep) (id : ℕ) → next_of_sweep s ≡ sweep.Free id → unfreed s ≡ id ∷ unfreed (found s (Made id))
freed-first s id at =
    let f = free-first (unemptied s) (unfreed s) id at in
    let d = drop-some s.freed s.list id f.1 f.2 in
    f.2 ∙ ap (λ (xs : List ℕ). id ∷ xs) (sym (ap (λ (n : SweepAt). unfreed (found_at s n (Made id))) at ∙ d.2))

-- slots that were null are null where a cell is freed
null-freed : (cells : List Cell) (id slots : ℕ) → id ≢ 0 → id < length cells → (x k : ℕ) → (pointer_at cells x k).target ≡ 0 → (pointer_at (edit cells id (λ _. blank_cell false slots)) x k).target ≡ 0
null-freed cells id slots some within x k e =
    let f : Cell → Cell = λ _. blank_cell false slots in
    ⊎_elim
    (λ (a : x ≡ id). subst (λ y. (pointer_at (edit cells id f) y k).target ≡ 0) (sym a) (ap (λ (c : Cell). (pointer_in c k).target) (edit-here cells id f some within) ∙ blank-target false slots k))
    (λ (n : x ≢ id). ap (λ (c : Cell). (pointer_in c k).target) (edit-other cells id x f n) ∙ e)
    (cases_eq x id)

-- what is emptied stays so, and the freed object counts no more
emptied-freed : (cells later : List Cell) (w u : Walk) (s : Sweep) (slot : ℕ) (g : Greening) (id : ℕ) → next_of_sweep s ≡ sweep.Free id → ((x k : ℕ) → (pointer_at cells x k).target ≡ 0 → (pointer_at later x k).target ≡ 0) → IsEmptied cells (Sweeping w s slot g)
    → IsEmptied later (Sweeping u (found s (Made id)) slot g)
emptied-freed cells later w u s slot g id at keeps e =
    let after : found s (Made id) ≡ record s { freed = s.freed + 1 } = ap (λ (n : SweepAt). found_at s n (Made id)) at in
    subst (λ (z : Sweep). IsEmptied later (Sweeping u z slot g)) (sym after) (λ place k a b l. keeps _ k (e.0 place k (omega (arith, a)) b l), λ k a b. keeps _ k (e.1 k a b))

-- ---- the free ids

-- an id that joins the free ones is stored no more
free-joined : (k id n : ℕ) (old stored : Bool) → 0 < id → id ≤ n → old ≡ ((nat_lt 0 k && nat_le k n) && not stored) → ((k == id) || old) ≡ ((nat_lt 0 k && nat_le k n) && not (not (k == id) && stored))
free-joined k id n old stored above most was =
    ⊎_elim
    (λ (e : k ≡ id). rw (eq-eqb k id e, lt-ltb 0 k (subst (λ x. 0 < x) (sym e) above), le-leb k n (subst (λ x. x ≤ n) (sym e) most)) refl)
    (λ (d : k ≢ id). rw (ne_eqb k id d) was)
    (cases_eq k id)

-- ---- the round

-- the round of a walk after its verdict
abbrev pub swept : Walk → List ℕ → Round
swept w condemned = record (walked w) { judged = true; condemned = condemned }

nonzero-above : (n : ℕ) → n ≢ 0 → 0 < n
nonzero-above n some = ⊎_elim (λ l. l) (λ l. absurd (some (omega (arith, l)))) (cases_lt 0 n)

module _ (slots : ℕ) (v : TablesView) (c : Core) (h : Stands slots v c) (w : Walk) (s : Sweep) (slot : ℕ) (g : Greening) (id : ℕ) (is : v.round ≡ Sweeping w s slot g) (at : next_of_sweep s ≡ sweep.Free id) where
  there : c.round ≡ Some (swept w (unfreed s))
  there = sym h.round ∙ ap round_of is

  sweeping : IsSweeping slots v.ids w s slot g
  sweeping = subst (λ (r : RoundView). IsInStep slots v.ids r) is h.in_step

  chosen : Contains (unfreed s) id
  chosen = (free-law s id sweeping.sweep at).0

  pub freed-condemned : Contains (condemned_of c) id
  freed-condemned = subst (λ (xs : List ℕ). Contains xs id) (sym (condemned-is c h.sound (swept w (unfreed s)) there)) chosen

  among : (x : ℕ) → Contains (condemned_of c) x → Contains (unfreed s) x
  among x m = subst (λ (xs : List ℕ). Contains xs x) (condemned-is c h.sound (swept w (unfreed s)) there) m

  pub freed-live : is_live c.cells id ≡ true
  freed-live = h.sound.condemned.live id freed-condemned

  some : id ≢ 0
  some = live-there c.cells id h.sound.consistent.exact.none freed-live

  within : id < length c.cells
  within = live-within c.cells id freed-live

  pub all-emptied : (x : ℕ) → Contains (unfreed s) x → HasNoPointer (cell_at c.cells x)
  all-emptied = emptied-all c.cells w s slot g id at (subst (λ (r : RoundView). IsEmptied c.cells r) is h.emptied)

  -- nothing points to it: all that does is condemned, and so has null slots
  unpointed : (u k : ℕ) → is_live c.cells u ≡ true → (pointer_at c.cells u k).target ≢ id
  unpointed u k live e =
      let m = h.sound.condemned.within u k live (subst (λ y. Contains (condemned_of c) y) (sym e) freed-condemned) in
      some (sym e ∙ all-emptied u (among u m) k)

  none-to : (bit : Bool) → pointers_to c.cells id bit ≡ 0
  none-to bit = pointers_to-none c.cells id bit unpointed

  strong-none : (cell_at c.cells id).strong ≡ 0
  strong-none =
      let counts = (h.sound.consistent.exact.counts id freed-live).strong in
      let none = none-to (cell_at c.cells id).bit in
      let own : own_strong id ≡ 0 = ap (λ b. cond b 1 0) (ne_eqb id 1 (h.sound.condemned.not_root id freed-condemned)) in
      omega (arith, counts, none, own)

  pub freed-fits : Fits c.cells (Free id)
  freed-fits = (freed-live, h.sound.condemned.not_root id freed-condemned, all-emptied id chosen, strong-none, (h.sound.consistent.exact.counts id freed-live).weak ∙ none-to (not (cell_at c.cells id).bit))

  -- ---- what transactions replaced

  not-held : (pass : ℕ) (t : ActiveTransaction) → transaction_of c.moment.state pass ≡ Some t → (x : ℕ) → holds x t ≡ true → x ≢ id
  not-held pass t found x held e =
      let free = h.sound.condemned.not_locked id freed-condemned (pass, t) (transaction-active c.moment.state h.sound.state pass t found) in
      true≢false (sym held ∙ (ap (λ y. holds y t) e ∙ free))

  live-else : (x : ℕ) → x ≢ id → is_live c.cells x ≡ true → is_live (edit c.cells id (λ _. blank_cell false slots)) x ≡ true
  live-else x n l = ap (λ (c : Cell). c.live) (edit-other c.cells id x (λ _. blank_cell false slots) n) ∙ l

  can-lay : (pass : ℕ) (kept : Running) → running_at v.transactions pass ≡ Some kept → (x : ℕ) (place : Place) (value : ℕ) → Contains kept.replaced (record { id = x; place = place; value = value })
      → CanLay slots c.cells (record { id = x; place = place; value = value }) → CanLay slots (edit c.cells id (λ _. blank_cell false slots)) (record { id = x; place = place; value = value })
  can-lay pass kept found x place value m can =
      let a = active-of h pass kept found in
      let apart : x ≢ id = not-held pass a.transaction a.found x (replaced-held slots c h.sound pass kept a.transaction a.found a.runs (record { id = x; place = place; value = value }) m) in
      by place m can apart
    where
      by : (place : Place) → Contains kept.replaced (record { id = x; place = place; value = value }) → CanLay slots c.cells (record { id = x; place = place; value = value }) → x ≢ id
          → CanLay slots (edit c.cells id (λ _. blank_cell false slots)) (record { id = x; place = place; value = value })
      by (Slot k) m can apart =
          let a = active-of h pass kept found in
          (live-else x apart can.0, (can.1.0, λ n. live-else value (λ e. unnamed c (Contains (condemned_of c)) h.sound.condemned pass id freed-condemned (subst (λ y. names c.refs pass y ≡ true) e (replaced-named slots c h.sound pass kept a.transaction a.found a.runs x k value m n))) (can.1.1 n)))
      by Payload m can apart = (live-else x apart can.0, tt)
      by Whole m can apart = absurd can.1

  -- without the object, each transaction replaced the same
  replaced-without : (pass : ℕ) (t : ActiveTransaction) → transaction_of c.moment.state pass ≡ Some t → replaced slots (without_object c.moment.state.committed id) t.writes ≡ replaced slots c.moment.state.committed t.writes
  replaced-without pass t found = replaced-same slots c.moment.state.committed (without_object c.moment.state.committed id) t.writes
      (λ x m earlier. delete-earlier slots c.moment.state.committed id x.id (not-held pass t found x.id (writes-held c h.sound pass t found x m)) earlier)

  -- ---- the tables after it

  module _ (ids : List ℕ) (joined : Frees v.free ids id) (step : IsInStep slots v.ids (Sweeping (removed w id) (found s (Made id)) slot g)) where
    round-listed : IsOnce w.left
    round-listed = subst IsOnce (list-is c h.sound (swept w (unfreed s)) there) h.sound.round_once

    sound-freed : IsSound (after_free c id (Some (swept (removed w id) (unfreed (found s (Made id))))))
    sound-freed =
        let r = removed-law w id round-listed in
        free-sound c h.sound (swept w (unfreed s)) there id chosen freed-fits (removed w id).left (unfreed (found s (Made id))) refl r.once r.without (free-law s id sweeping.sweep at).2

    -- the journal afterwards
    abbrev later : ℕ → Core
    later n = record { cells = edit c.cells id (λ _. blank_cell false n); moment = next c.moment (Delete id); refs = c.refs; queue = c.queue; round = Some (swept (removed w id) (unfreed (found s (Made id)))) }

    free-is : (k : ℕ) → list_any (is_at (nat_cmp k)) ids ≡ is_free (after_delete c.moment.state id) k
    free-is k =
        let size = h.sound.consistent.sized in
        joined k
        ∙ (free-joined k id c.moment.state.ids (list_any (is_at (nat_cmp k)) v.free) (is_stored c.moment.state.stored k) (nonzero-above id some) (omega (arith, size, within)) (h.free k)
        ∙ ap (λ b. (nat_lt 0 k && nat_le k c.moment.state.ids) && not b) (sym (stored-remove c.moment.state.stored id k h.sound.state.ascend)))

    pub Stands-freed : Stands slots (record v { free = ids; round = Sweeping (removed w id) (found s (Made id)) slot g }) (later slots)
    Stands-freed = record {
      ids = h.ids;
      few = h.few;
      slots_are = h.slots_are;
      counted = h.counted;
      sound = subst (λ (n : ℕ). IsSound (later n)) h.slots_are sound-freed;
      running = λ pass. matches-same slots c.moment.state.committed (without_object c.moment.state.committed id) (running_at v.transactions pass) (transaction_of c.moment.state pass) (c.moment.undone pass) (λ t found. replaced-without pass t found) (h.running pass);
      restorable = λ pass kept found x m. can-lay pass kept found x.id x.place x.value m (h.restorable pass kept found x m);
      owners = h.owners;
      sharers = h.sharers;
      free = free-is;
      zeros = h.zeros ∙ sym (edit-marks_same c.cells id (λ _. blank_cell false slots) (sym (eq-eqb (cell_at c.cells id).strong 0 strong-none)));
      references = h.references;
      queue = h.queue;
      round = refl;
      in_step = step;
      emptied = emptied-freed c.cells (edit c.cells id (λ _. blank_cell false slots)) w (removed w id) s slot g id at (null-freed c.cells id slots some within) (subst (λ (r : RoundView). IsEmptied c.cells r) is h.emptied);
      tested = tested-none (edit c.cells id (λ _. blank_cell false slots)) (removed w id) (found s (Made id)) slot g (rests-at_free slots v.ids w s g id sweeping.greens at)
          (saved-swept c.cells (edit c.cells id (λ _. blank_cell false slots)) s (found s (Made id)) g (free-end s id at)
          (λ x k l. ap (λ (c : Cell). (pointer_in c k).target) (edit-other c.cells id x (λ _. blank_cell false slots) (λ e. sweeping.greens.spared x l (subst (Contains s.list) (sym e) (Contains-drop s.freed s.list id chosen)))))
          (subst (IsTested c.cells) is h.tested).1);
      owed = h.owed;
    }

    pub free-collected : (held new : List (HeldFrame slots)) → is_held held (page_of_id id) ≡ true → Agree (edit c.cells id (λ _. blank_cell false slots)) new
        → Collected slots v (record v { free = ids; round = Sweeping (removed w id) (found s (Made id)) slot g }) c held new act.Change (Some (logs.Free id))
    free-collected held new page agree = record {
      proceeds = subst (λ (r : RoundView). Proceeds slots v.ids r act.Change (Some (logs.Free id)) (Sweeping (removed w id) (found s (Made id)) slot g)) (sym is) (free w s slot id g at);
      begins = λ e. absurd (cc);
      moves = record { fits = freed-fits; lays = tt; agree = agree; elsewhere = elsewhere-edit c.cells held id (λ _. blank_cell false slots) page };
      core = later slots;
      after = refl;
      collects = record { of = swept w (unfreed s); there = there; behind = refl; left = unfreed (found s (Made id)); «first» = freed-first s id at; emptied = all-emptied; queue_is = refl; round_is = refl };
      stands = Stands-freed;
    }
