-- The end of a round: its objects that are loose join the queue.
use Rattle.std.proofs.Common.{◌≡◌, ℕ, ◌+◌, ◌<◌, ◌≤◌, List, [], ◌∷◌, Bool, true, false, not, cond, refl, sym, ap, ◌∙◌, subst, Option, Some, None, length, get_or, filter, ⊎_elim}
use Rattle.std.specs.Prelude.{◌==◌, ◌&&◌, Contains, take}
use Rattle.std.proofs.lemmas.Bool.{cases_Bool}
use Rattle.ref_tables.specs.Queue.{has, joined}
use Rattle.red_walk.specs.Walk.{Walk}
use Rattle.red_walk.specs.Rounds.{round_of as walked}
use Rattle.red_walk.proofs.Members.{Contains-has, absent}
use Rattle.red_walk.proofs.Filters.{filter-same, filter-both, among-filter, once-filter, filter-among}
use Rattle.green_walk.specs.declared.sweep.SweepAt.TheVariants as sweep
use Rattle.green_walk.specs.Sweeping.{SweepState as Sweep, next, unfreed}
use Rattle.green_walk.specs.Greening.{Greening}
use Rattle.cell_model.specs.Cells.{cell_at}
use Rattle.store_model.specs.Core.{Core, Round, is_named}
use Rattle.store_model.specs.Sound.{in_round, IsSound}
use Rattle.store_model.specs.Steps.{after_look}
use Rattle.store_model.proofs.CollectSound.{end-sound, once_listed}
use Rattle.core_store.specs.declared.act.Act.TheVariants as act
use Rattle.core_store.specs.declared.round_at.RoundAt.TheVariants as at
use Rattle.core_store.specs.declared.three.HeldFrame.{HeldFrame}
use Rattle.core_store.specs.Frames.{Agree}
use Rattle.core_store.specs.Queued.{all_joined}
use Rattle.core_store.specs.RoundView.{RoundView, Closed, Walking, Sweeping, round_of, asked, Proceeds, end}
use Rattle.core_store.specs.Collects.{is_loose}
use Rattle.core_store.specs.Collecting.{Collected}
use Rattle.core_store.specs.Tables.{TablesView}
use Rattle.core_store.specs.Steps.{AreNames, is_left_loose, JoinsIfLoose}
use Rattle.core_store.specs.Stands.{Stands}
use Rattle.core_store.proofs.QueueLaws.{passed-joins, failed-stays, all_joined-behind}
use Rattle.core_store.proofs.EndQueue.{are-names, mark-at}
use Rattle.core_store.proofs.CollectedLaws.{Stands-looked}

-- ---- the objects of the list, one place after another

-- the first ids joined the queue where they are left and loose, and nothing else changed
pub record HaveRequeued (v w : TablesView) (ids : List ℕ) (place : ℕ) : Type 0 where
  pub same : w ≡ record v { queue = w.queue }
  pub queue : (named : ℕ → Bool) → AreNames v.references named → w.queue ≡ all_joined v.queue (filter (is_left_loose v named) (take place ids))

pub have_requeued-none : (v : TablesView) (ids : List ℕ) → HaveRequeued v v ids 0
have_requeued-none v ids = record { same = refl; queue = λ named are. refl }

pub have_requeued-more : (v w x : TablesView) (ids : List ℕ) (place id : ℕ) → place < length ids → id ≡ get_or ids place 0 → HaveRequeued v w ids place → JoinsIfLoose w x id → HaveRequeued v x ids (place + 1)
have_requeued-more v w x ids place id l is h j = record {
  same = j.same ∙ ap (λ (y : TablesView). record y { queue = x.queue }) h.same;
  queue = λ named are.
      (let test = is_left_loose v named in
      let q = j.queue named (subst (λ (y : TablesView). AreNames y.references named) (sym h.same) are) in
      let tests : is_left_loose w named id ≡ test id = ap (λ (y : TablesView). is_left_loose y named id) h.same in
      ⊎_elim
      (λ (passes : test id ≡ true). q ∙ ap (λ b. cond b (joined w.queue id) w.queue) (tests ∙ passes) ∙ passed-joins test v.queue w.queue ids place id l is passes (h.queue named are))
      (λ (fails : test id ≡ false). q ∙ ap (λ b. cond b (joined w.queue id) w.queue) (tests ∙ fails) ∙ failed-stays test v.queue w.queue ids place id l is fails (h.queue named are))
      (cases_Bool (test id)));
}

-- the objects that joined the round's walk
abbrev pub walk_list : RoundView → List ℕ
walk_list Closed = []
walk_list (Walking w) = w.list
walk_list (Sweeping w s slot g) = w.list

-- ---- the end

nothing-left : (unemptied left : List ℕ) → Rattle.green_walk.specs.Sweeping.first_of unemptied left ≡ sweep.End → left ≡ []
nothing-left (x ∷ xs) ys e = absurd (cc)
nothing-left [] (y ∷ ys) e = absurd (cc)
nothing-left [] [] e = refl

-- by the marks: no strong pointer leads to the object, and no client names it
abbrev marked_loose : TablesView → Core → ℕ → Bool
marked_loose v c x = get_or v.zeros x false && not (is_named c.refs x)

module _ (slots : ℕ) (v : TablesView) (c : Core) (w : Walk) (s : Sweep) (slot : ℕ) (g : Greening) (h : Stands slots v c) (sweeps : v.round ≡ Sweeping w s slot g) (over : next s ≡ sweep.End) where
  there : c.round ≡ Some (record (walked w) { judged = true; condemned = unfreed s })
  there = sym h.round ∙ ap round_of sweeps

  listed : (x : ℕ) → Contains w.left x → Contains (in_round c) x
  listed x m = subst (λ (o : Option Round). Contains (Rattle.std.specs.Option.option_map_or (λ (r : Round). r.list) o []) x) (sym there) m

  -- what joined the queue is what is loose by the cells and the references
  pub requeued : (x : TablesView) (place : ℕ) → length w.list ≤ place → filter (has w.left) w.list ≡ w.left → HaveRequeued v x w.list place → x.queue ≡ all_joined c.queue (filter (is_loose c) w.left)
  requeued x place past left r =
      let named = is_named c.refs in
      let loose = marked_loose v c in
      let q = r.queue named (are-names c.refs v.references h.references) in
      let all : filter (is_left_loose v named) (take place w.list) ≡ filter (is_left_loose v named) w.list = ap (filter (is_left_loose v named)) (Rattle.std.proofs.lemmas.List.take_all place w.list past) in
      let round : filter (is_left_loose v named) w.list ≡ filter (λ id. has w.left id && loose id) w.list = ap (λ (r : RoundView). filter (λ id. has (Rattle.core_store.specs.RoundView.ids_in r) id && loose id) w.list) sweeps in
      let parts : filter (λ id. has w.left id && loose id) w.list ≡ filter loose w.left = sym (filter-both (has w.left) loose w.list) ∙ ap (filter loose) left in
      let same : filter loose w.left ≡ filter (is_loose c) w.left = filter-same loose (is_loose c) w.left (λ id m. ap (λ b. b && not (named id)) (mark-at slots v c h id (h.sound.round_live id (listed id (Contains-has w.left id m))).0)) in
      q ∙ (ap (λ xs. all_joined xs (filter (is_left_loose v named) (take place w.list))) h.queue ∙ ap (all_joined c.queue) (all ∙ (round ∙ (parts ∙ same))))

  -- the journal with it is sound
  sound : IsSound (after_look c (all_joined c.queue (filter (is_loose c) w.left)) None)
  sound =
      let joins = filter (is_loose c) w.left in
      let once : Rattle.store_model.specs.Sound.IsOnce joins = once-filter (is_loose c) w.left (once_listed c h.sound (record (walked w) { judged = true; condemned = unfreed s }) there) in
      subst (λ xs. IsSound (after_look c xs None)) (sym (all_joined-behind joins c.queue once))
      (end-sound c h.sound (record (walked w) { judged = true; condemned = unfreed s }) there (filter (λ id. not (has c.queue id)) joins)
      (once-filter (λ id. not (has c.queue id)) joins once)
      (λ x m. filter-among (is_loose c) w.left x (filter-among (λ id. not (has c.queue id)) joins x m))
      (λ x m z n. among-filter (λ id. not (has c.queue id)) joins x (among-filter (is_loose c) w.left x m (is-loose x z n))
      (ap not (absent c.queue x (λ k. (h.sound.queued x k).2 (listed x m))))))
    where
      is-loose : (x : ℕ) → (cell_at c.cells x).strong ≡ 0 → is_named c.refs x ≡ false → is_loose c x ≡ true
      is-loose x z n = ap (λ k. (k == 0) && not (is_named c.refs x)) z ∙ ap not n

  pub end-collected : {held : List (HeldFrame slots)} (queue : List ℕ) → Agree c.cells held → asked (Sweeping w s slot g) ≡ at.End → queue ≡ all_joined c.queue (filter (is_loose c) w.left) → Collected slots v (record v { queue = queue; round = Closed }) c held held act.End None
  end-collected queue agree asks is = record {
    proceeds = subst (λ (r : RoundView). Proceeds slots v.ids r act.End None Closed) (sym sweeps) (end w s slot g asks);
    begins = λ e. absurd (cc);
    moves = record { fits = tt; lays = tt; agree = agree; elsewhere = λ p e. refl };
    core = after_look c queue None;
    after = refl;
    collects = record { of = record (walked w) { judged = true; condemned = unfreed s }; there = there; behind = refl; none_left = nothing-left (Rattle.green_walk.specs.Sweeping.unemptied s) (unfreed s) over; queue_is = is; round_is = refl };
    stands = Stands-looked slots v c queue Closed h tt tt tt (subst (λ xs. IsSound (after_look c xs None)) (sym is) sound);
  }
