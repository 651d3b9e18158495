-- The sweep and the end of a quiet round: what is condemned goes, nothing joins the queue, and at the end no object is loose.
use Rattle.std.proofs.Common.{◌≡◌, ◌≢◌, ℕ, ◌+◌, ◌<◌, ◌==◌, ◌&&◌, if◌then◌else◌, not, cond, List, [], length, Bool, true, false, Option, Some, refl, sym, ap, ◌∙◌, subst, arith, inl, inr, ⊎_elim, eq-eqb, ne_eqb, true≢false}
use Rattle.std.specs.Prelude.{Contains}
use Rattle.std.specs.Option.{option_map_or}
use Rattle.std.proofs.lemmas.Bool.{false_from_ne_true}
use Rattle.cell_model.specs.Cells.{Pointer, Cell, null, blank_cell, cell_at, pointer_in, pointer_at, is_live, is_strong, same, edit, hits, counted, relinked}
use Rattle.cell_model.specs.Records.{HasPointer, HasNoPointer}
use Rattle.store_model.specs.Core.{Core, Round}
use Rattle.store_model.specs.Sound.{in_round}
use Rattle.cell_model.proofs.CountLaws.{relinked-live, relinked-bit, relinked-other, relinked-which, relinked-counted}
use Rattle.cell_model.proofs.EditLaws.{live-there, live-within, edit-other}
use Rattle.cell_model.proofs.RecordLaws.{unpointed}
use Rattle.store_model.proofs.StoreSound.{same-self}
use Rattle.red_walk.specs.Walk.{Walk, removed}
use Rattle.red_walk.proofs.Filters.{filter-among, filter-passes}
use Rattle.red_walk.specs.Rounds.{round_of as of_walk}
use Rattle.green_walk.specs.declared.sweep.SweepAt.{SweepAt}
use Rattle.green_walk.specs.declared.sweep.SweepAt.TheVariants as sweep
use Rattle.green_walk.specs.declared.sweep.Found.TheVariants.{Nothing, Made}
use Rattle.green_walk.specs.Sweeping.{SweepState as Sweep, next as next_of_sweep, found, found_at, unfreed}
use Rattle.green_walk.specs.Greening.{Greening, GreenStage, AtSeed, IsGreening}
use Rattle.green_walk.proofs.GreenAsked.{Contains-drop}
use Rattle.green_walk.proofs.SweepLaws.{free-law}
use Rattle.log_record.specs.declared.cell_record.CellRecord.{CellRecord}
use Rattle.log_record.specs.declared.cell_record.CellRecord.TheVariants as logs
use Rattle.core_store.specs.declared.act.Act.{Act}
use Rattle.core_store.specs.declared.act.Act.TheVariants as act
use Rattle.core_store.specs.Changes.{is_counted_strong}
use Rattle.core_store.specs.RoundView.{RoundView, Sweeping, next_slot, IsSweeping}
use Rattle.core_store.specs.Collects.{Cuts, Frees}
use Rattle.core_store.specs.Collecting.{is_pop}
use Rattle.quiet_rounds.specs.Quiet.{IsQuietRound, IsQuietSweep, IsLedTo, from_seed, from_green, over, IsToWeaken}
use Rattle.quiet_rounds.specs.Laws.{IsQuietEvent, NoneJoins}

-- ---- the queue

-- a queue that stays
pub none-joins : (event : Act) (queue behind : List ℕ) → behind ≡ queue → is_pop event ≡ false → NoneJoins event queue behind
none-joins event queue behind e p = record {
  fewer = λ id m. subst (λ (xs : List ℕ). Contains xs id) e m;
  shorter = (let n : length behind ≡ length queue = ap length e in let z : (if is_pop event then 1 else 0) ≡ 0 = ap {B = ℕ} (λ b. if b then 1 else 0) p in omega (arith, n, z));
}

-- an empty list has nothing
nothing-in : (xs : List ℕ) (x : ℕ) → xs ≡ [] → Contains xs x → ⊥
nothing-in xs x e m = let l = m.1 in let n : length xs ≡ 0 = ap length e in omega (arith, l, n)

-- ---- before the green walk, one condemned object changes

-- nothing but this object changes, which is condemned; what is left of the round loses no more than that
record IsCalm (cells later : List Cell) (w u : Walk) (s t : Sweep) (g : Greening) (id : ℕ) : Type 0 where
  listed : Contains w.list id
  dead : Contains g.live id → ⊥
  others : (x k : ℕ) → x ≢ id → pointer_at later x k ≡ pointer_at cells x k
  lives : (x : ℕ) → x ≢ id → is_live later x ≡ is_live cells x
  zeros : (x : ℕ) → Contains u.left x → (cell_at cells x).strong ≡ 0 → (cell_at later x).strong ≡ 0
  fewer : (x k : ℕ) → Contains u.left x → is_counted_strong later (pointer_at later x k) ≡ true → is_counted_strong cells (pointer_at cells x k) ≡ true
  list_same : u.list ≡ w.list
  left_fewer : (x : ℕ) → Contains u.left x → Contains w.left x
  condemned : (x : ℕ) → Contains u.left x → Contains (unfreed s) x → Contains (unfreed t) x

-- what is led to lives
pub led-live : (cells : List Cell) (g : Greening) → IsGreening g → (x : ℕ) → IsLedTo cells g x → Contains g.live x
led-live cells g k x (from_seed id m) = k.seeds_live id m
led-live cells g k x (from_green id m) = k.green_live id m
led-live cells g k x (over id slot l m) = m

-- what is led to over objects that stay is led to after the change
led-kept : (cells later : List Cell) (g : Greening) → IsGreening g → ((x k : ℕ) → Contains g.live x → pointer_at later x k ≡ pointer_at cells x k) → (x : ℕ) → IsLedTo cells g x → IsLedTo later g x
led-kept cells later g k others x (from_seed id m) = from_seed id m
led-kept cells later g k others x (from_green id m) = from_green id m
led-kept cells later g k others x (over id slot l m) =
    let e = others id slot (led-live cells g k id l) in
    subst (λ (p : Pointer). IsLedTo later g p.target) e (over id slot (led-kept cells later g k others id l) (subst (λ (p : Pointer). Contains g.live p.target) (sym e) m))

module _ (slots : ℕ) (cells later : List Cell) (w u : Walk) (s t : Sweep) (g : Greening) (id : ℕ) (calm : IsCalm cells later w u s t g id) (greening : IsGreening g) (at : g.stage ≡ AtSeed) (none : g.green ≡ []) where
  stays : (x k : ℕ) → Contains g.live x → pointer_at later x k ≡ pointer_at cells x k
  stays x k m = calm.others x k (λ e. calm.dead (subst (λ y. Contains g.live y) e m))

  calm-sweep : IsQuietSweep cells slots w s g → IsQuietSweep later slots u t g
  calm-sweep q = record {
    zero = λ x m n. calm.zeros x m (q.zero x (calm.left_fewer x m) n);
    none_out = λ x k m n h. absurd (subst (λ (st : GreenStage). IsToWeaken st x k (pointer_at cells x k).target) at (q.none_out x k (calm.left_fewer x m) n (calm.fewer x k m h)));
    green = λ x m. absurd (nothing-in g.green x none m);
    seeds = λ x m.
        (let o = q.seeds x m in
        let apart : o.0 ≢ id = λ e. o.3 (subst (λ y. Contains w.list y) (sym e) calm.listed) in
        (o.0, o.1, calm.lives o.0 apart ∙ o.2, λ h. o.3 (subst (λ (xs : List ℕ). Contains xs o.0) calm.list_same h), ap (λ (p : Pointer). p.target) (calm.others o.0 o.1 apart) ∙ o.4));
    copied = record { tell = λ c m l. ap (λ (p : Pointer). p.target) (stays c.id c.slot l) ∙ q.copied.tell c m l; all = q.copied.all };
    current = q.current;
    walked = λ place k h l. absurd (let n : length g.green ≡ 0 = ap length none in omega (arith, l, n));
    at_seed = q.at_seed;
    in_hand = q.in_hand;
    led = λ x m. led-kept cells later g greening stays x (q.led x m);
    parted = λ x m. ⊎_elim (λ h. inl (calm.condemned x m h)) (λ h. inr h) (q.parted x (calm.left_fewer x m));
    sweeping = λ n. (at, none);
  }

-- ---- the round of a sweep

module _ (slots : ℕ) (c d : Core) (w : Walk) (s : Sweep) (slot : ℕ) (g : Greening) (v : RoundView) (event : Act) (logged : Option CellRecord) (e : IsQuietEvent slots c d (Sweeping w s slot g) v event logged) where
  there : c.round ≡ Some (record (of_walk w) { judged = true; condemned = unfreed s })
  there = sym e.before

  step : IsSweeping slots c.moment.state.ids w s slot g
  step = e.in_step

  pub left-in : (x : ℕ) → Contains w.left x → Contains (in_round c) x
  left-in x m = subst (λ (o : Option Round). Contains (option_map_or (λ (r : Round). r.list) o []) x) (sym there) m

  pub left-live : (x : ℕ) → Contains w.left x → is_live c.cells x ≡ true
  left-live x m = (e.sound.round_live x (left-in x m)).0

  pub condemned-left : (x : ℕ) → Contains (unfreed s) x → Contains w.left x
  condemned-left x m =
      let h = e.sound.condemned_listed x (subst (λ (o : Option Round). Contains (option_map_or (λ (r : Round). r.condemned) o []) x) (sym there) m) in
      subst (λ (o : Option Round). Contains (option_map_or (λ (r : Round). r.list) o []) x) there h

  pub condemned-dead : (x : ℕ) → Contains (unfreed s) x → Contains g.live x → ⊥
  condemned-dead x m l = step.greens.spared x l (Contains-drop s.freed s.list x m)

-- ---- a pointer out of a condemned object is removed

-- another target has as many strong pointers as before, or fewer
strong-cut : (cells : List Cell) (id slot x : ℕ) → x ≢ 0 → x < length cells → (cell_at cells x).strong ≡ 0 → (cell_at (relinked cells id slot null) x).strong ≡ 0
strong-cut cells id slot x n l z =
    let bit = (cell_at cells x).bit in
    let later = relinked cells id slot null in
    let c = relinked-counted cells id slot null x bit n l in
    let nothing : hits x bit null ≡ 0 = ap {B = ℕ} (λ (t : Bool). cond (t && same false bit) 1 0) (ne_eqb 0 x (λ e. n (sym e))) in
    let before : counted bit (cell_at cells x) ≡ (cell_at cells x).strong = ap (λ (t : Bool). cond t (cell_at cells x).strong (cell_at cells x).weak) (same-self bit) in
    let after : counted bit (cell_at later x) ≡ (cell_at later x).strong =
    ap (λ (o : Bool). cond (same o bit) (cell_at later x).strong (cell_at later x).weak) (relinked-bit cells id slot null x) ∙ ap (λ (t : Bool). cond t (cell_at later x).strong (cell_at later x).weak) (same-self bit) in
    omega (arith, c, nothing, before, after, z)

-- a strong pointer after the change was there
strong-was : (cells : List Cell) (id slot x k : ℕ) → id ≢ 0 → id < length cells → slot < length (cell_at cells id).pointers
    → is_counted_strong (relinked cells id slot null) (pointer_at (relinked cells id slot null) x k) ≡ true → is_counted_strong cells (pointer_at cells x k) ≡ true
strong-was cells id slot x k n l within h =
    let later = relinked cells id slot null in
    ⊎_elim
    (λ (f : (x ≡ id) × (k ≡ slot) × (pointer_at later x k ≡ null)). let no : is_counted_strong later null ≡ true = subst (λ (p : Pointer). is_counted_strong later p ≡ true) f.2 h in absurd (cc))
    (λ (f : pointer_at later x k ≡ pointer_at cells x k).
    let p = pointer_at cells x k in
    let was : is_counted_strong later p ≡ true = subst (λ (q : Pointer). is_counted_strong later q ≡ true) f h in
    sym (ap (λ (b : Bool). not (p.target == 0) && same b p.bit) (relinked-bit cells id slot null p.target)) ∙ was)
    (relinked-which cells id slot null x k n l within)

-- the sweep goes on after a slot, or after an object: nothing is freed
pub calm-next : (slots : ℕ) (cells : List Cell) (w : Walk) (s : Sweep) (slot id : ℕ) (g : Greening) → next_of_sweep s ≡ sweep.Slots id
    → ((t : Sweep) → unfreed t ≡ unfreed s → IsQuietSweep cells slots w t g) → IsQuietRound slots cells (next_slot slots w s slot g)
calm-next slots cells w s slot id g at q =
    let same_left : unfreed (found s Nothing) ≡ unfreed s = ap (λ (n : SweepAt). unfreed (found_at s n Nothing)) at in
    by (slot + 1 == slots) (q (found s Nothing) same_left) (q s refl)
  where
    by : (b : Bool) → IsQuietSweep cells slots w (found s Nothing) g → IsQuietSweep cells slots w s g → IsQuietRound slots cells (if b then Sweeping w (found s Nothing) 0 g else Sweeping w s (slot + 1) g)
    by true behind here = behind
    by false behind here = here

-- a weak pointer lets nothing go
not-joined : (strong other : Bool) (queue longer behind : List ℕ) → strong ≡ false → behind ≡ (if strong && other then longer else queue) → behind ≡ queue
not-joined true other queue longer behind weak e = absurd (true≢false weak)
not-joined false other queue longer behind weak e = e

module _ (slots : ℕ) (c d : Core) (w : Walk) (s : Sweep) (slot id target : ℕ) (strong : Bool) (g : Greening) (at : next_of_sweep s ≡ sweep.Slots id)
    (e : IsQuietEvent slots c d (Sweeping w s slot g) (next_slot slots w s slot g) act.Change (Some (logs.CutDead id slot target strong))) (q : IsQuietSweep c.cells slots w s g) where
  cut-chosen : Contains (unfreed s) id
  cut-chosen =
      let k : Cuts slots c id slot target strong d.queue d.round = e.collects in
      let round : Some k.of ≡ Some (record (of_walk w) { judged = true; condemned = unfreed s }) = sym k.there ∙ sym e.before in
      subst (λ (o : Option Round). Contains (option_map_or (λ (r : Round). r.condemned) o []) id) round k.condemned

  cut-step : IsSweeping slots c.moment.state.ids w s slot g
  cut-step = e.in_step

  cut-has : HasPointer c.cells id slot target strong × (target ≢ 0)
  cut-has = e.fits

  cut-stage : (g.stage ≡ AtSeed) × (g.green ≡ [])
  cut-stage = q.sweeping (λ over. let no : sweep.Slots id ≡ sweep.End = sym at ∙ over in cc)

  -- no strong pointer leads out of what is condemned
  pub cut-weak : strong ≡ false
  cut-weak = false_from_ne_true strong (λ yes_strong.
      let p = pointer_at c.cells id slot in
      let h = cut-has in
      let counts : is_counted_strong c.cells p ≡ true = ap (λ b. not b && is_strong c.cells p) (ne_eqb p.target 0 (λ z. h.1 (sym h.0.target ∙ z))) ∙ (h.0.strength h.1 ∙ yes_strong) in
      let none = q.none_out id slot (condemned-left slots c d w s slot g _ _ _ e id cut-chosen) (nothing-in g.green id cut-stage.1) counts in
      absurd (subst (λ (st : GreenStage). IsToWeaken st id slot p.target) cut-stage.0 none))

  cut-calm : (t : Sweep) → unfreed t ≡ unfreed s → IsCalm c.cells (relinked c.cells id slot null) w w s t g id
  cut-calm t kept =
      let exact = e.sound.consistent.exact in
      let live = cut-has.0.live in record {
        listed = cut-step.walk.left_listed id (condemned-left slots c d w s slot g _ _ _ e id cut-chosen);
        dead = condemned-dead slots c d w s slot g _ _ _ e id cut-chosen;
        others = λ x k n. relinked-other c.cells id slot null x k n;
        lives = λ x n. relinked-live c.cells id slot null x;
        zeros = λ x m z. let l = left-live slots c d w s slot g _ _ _ e x m in strong-cut c.cells id slot x (live-there c.cells x exact.none l) (live-within c.cells x l) z;
        fewer = λ x k m h. strong-was c.cells id slot x k (live-there c.cells id exact.none live) (live-within c.cells id live) cut-has.0.within h;
        list_same = refl;
        left_fewer = λ x m. m;
        condemned = λ x m h. subst (λ (xs : List ℕ). Contains xs x) (sym kept) h;
      }

  cut-cells : d.cells ≡ relinked c.cells id slot null
  cut-cells = ap (λ (x : Core). x.cells) e.after

  pub quiet-cut : IsQuietRound slots d.cells (next_slot slots w s slot g) × NoneJoins act.Change c.queue d.queue
  quiet-cut =
      let k : Cuts slots c id slot target strong d.queue d.round = e.collects in
      let later = relinked c.cells id slot null in (
        subst (λ (cs : List Cell). IsQuietRound slots cs (next_slot slots w s slot g)) (sym cut-cells)
            (calm-next slots later w s slot id g at (λ t kept. calm-sweep slots c.cells later w w s t g id (cut-calm t kept) cut-step.greens.greening cut-stage.0 cut-stage.1 q)),
        none-joins act.Change c.queue d.queue (not-joined strong _ c.queue _ d.queue cut-weak k.queue_is) refl,
      )

-- ---- a condemned object is freed

module _ (slots : ℕ) (c d : Core) (w : Walk) (s : Sweep) (slot id : ℕ) (g : Greening) (at : next_of_sweep s ≡ sweep.Free id)
    (e : IsQuietEvent slots c d (Sweeping w s slot g) (Sweeping (removed w id) (found s (Made id)) slot g) act.Change (Some (logs.Free id))) (q : IsQuietSweep c.cells slots w s g) where
  free-step : IsSweeping slots c.moment.state.ids w s slot g
  free-step = e.in_step

  freed-fits : (is_live c.cells id ≡ true) × (id ≢ 1) × HasNoPointer (cell_at c.cells id) × ((cell_at c.cells id).strong ≡ 0) × ((cell_at c.cells id).weak ≡ 0)
  freed-fits = e.fits

  freed-chosen : Contains (unfreed s) id
  freed-chosen = (free-law s id free-step.sweep at).0

  free-stage : (g.stage ≡ AtSeed) × (g.green ≡ [])
  free-stage = q.sweeping (λ over. let no : sweep.Free id ≡ sweep.End = sym at ∙ over in cc)

  freed-cells : List Cell
  freed-cells = edit c.cells id (λ _. blank_cell false slots)

  kept-apart : (x : ℕ) → Contains (removed w id).left x → x ≢ id
  kept-apart x m same = let passes = filter-passes (λ y. not (y == id)) w.left x m in true≢false (sym passes ∙ ap not (eq-eqb x id same))

  kept-left : (x : ℕ) → Contains (removed w id).left x → Contains w.left x
  kept-left x m = filter-among (λ y. not (y == id)) w.left x m

  free-calm : IsCalm c.cells freed-cells w (removed w id) s (found s (Made id)) g id
  unfolding freed-cells
  free-calm =
      let exact = e.sound.consistent.exact in
      let f : Cell → Cell = λ _. blank_cell false slots in
      let fits = freed-fits in
      let some = live-there c.cells id exact.none fits.0 in record {
        listed = free-step.walk.left_listed id (condemned-left slots c d w s slot g _ _ _ e id freed-chosen);
        dead = condemned-dead slots c d w s slot g _ _ _ e id freed-chosen;
        others = λ x k n. ap (λ (y : Cell). pointer_in y k) (edit-other c.cells id x f n);
        lives = λ x n. ap (λ (y : Cell). y.live) (edit-other c.cells id x f n);
        zeros = λ x m z. ap (λ (y : Cell). y.strong) (edit-other c.cells id x f (kept-apart x m)) ∙ z;
        fewer = λ x k m h.
            (let p = pointer_at c.cells x k in
            let there : pointer_at freed-cells x k ≡ p = ap (λ (y : Cell). pointer_in y k) (edit-other c.cells id x f (kept-apart x m)) in
            let was : is_counted_strong freed-cells p ≡ true = subst (λ (r : Pointer). is_counted_strong freed-cells r ≡ true) there h in
            let apart : p.target ≢ id = unpointed c.cells exact id some fits.3 fits.4 x k (left-live slots c d w s slot g _ _ _ e x (kept-left x m)) in
            sym (ap (λ (y : Cell). not (p.target == 0) && same y.bit p.bit) (edit-other c.cells id p.target f apart)) ∙ was);
        list_same = refl;
        left_fewer = kept-left;
        condemned = λ x m h. (free-law s id free-step.sweep at).2.rest x h (kept-apart x m);
      }

  free-cells : d.cells ≡ freed-cells
  unfolding freed-cells
  free-cells = ap (λ (x : Core). x.cells) e.after

  pub quiet-free : IsQuietRound slots d.cells (Sweeping (removed w id) (found s (Made id)) slot g) × NoneJoins act.Change c.queue d.queue
  quiet-free =
      let k : Frees c id d.queue d.round = e.collects in (
        subst (λ (cs : List Cell). IsQuietSweep cs slots (removed w id) (found s (Made id)) g) (sym free-cells)
            (calm-sweep slots c.cells freed-cells w (removed w id) s (found s (Made id)) g id free-calm free-step.greens.greening free-stage.0 free-stage.1 q),
        none-joins act.Change c.queue d.queue k.queue_is refl,
      )
