-- All active transactions are undone, one client after another: the journal stays sound.
use Rattle.std.proofs.Common.{◌≡◌, ◌≢◌, ℕ, ◌-◌, ◌<◌, List, [], ◌∷◌, ◌++◌, refl, sym, ap, ap₂, ◌∙◌, subst, arith, take, map, Option, Some}
use Rattle.std.specs.Prelude.{count_by, reverse}
use Rattle.std.specs.List.{AllByRecursion}
use Rattle.std.specs.Option.{option_map_or}
use Rattle.std.proofs.lemmas.List.{map-append}
use Rattle.std.proofs.lemmas.List.Sums.{fold-append}
use Rattle.plain_model.specs.ActiveTransaction.{ActiveTransaction}
use Rattle.plain_model.specs.History.{Moment, can_be_undone}
use Rattle.plain_laws.specs.Sound.{PassesAscend}
use Rattle.cell_model.specs.Cells.{Cell}
use Rattle.cell_model.specs.Records.{Record, after_record, cells_after, AllFit}
use Rattle.store_model.specs.Core.{Core}
use Rattle.store_model.specs.Sound.{IsSound}
use Rattle.restart_laws.specs.Unended.{Change, Unended}
use Rattle.restart_laws.specs.Restored.{undo_records, after_records, restart_records, restored, CanRestart}
use Rattle.restart_laws.specs.Told.{changes_of, undos_left, told_of, HasPlace, HavePlaces}
use Rattle.restart_laws.proofs.UndoneLaws.{AllUndone, all-undone}

-- ---- records, one list after another

pub after_records-append : (slots : ℕ) (cells : List Cell) (rs qs : List Record) → after_records slots cells (rs ++ qs) ≡ after_records slots (after_records slots cells rs) qs
after_records-append slots cells rs qs = ap (cells_after slots cells) (map-append Some rs qs) ∙ fold-append (λ (cs : List Cell) (r : Option Record). option_map_or (after_record slots cs) r cs) cells (map Some rs) (map Some qs)

pub all_fit-append : (slots : ℕ) (cells : List Cell) (rs qs : List Record) → AllFit slots cells (map Some rs) → AllFit slots (after_records slots cells rs) (map Some qs) → AllFit slots cells (map Some (rs ++ qs))
all_fit-append slots cells [] qs f g = g
all_fit-append slots cells (r ∷ rs) qs f g = (f.0, all_fit-append slots (after_record slots cells r) rs qs f.1 g)

-- ---- all clients

-- the transactions can be undone, and then a sound journal has these cells and no active client
pub record AllRestored (slots : ℕ) (c d : Core) (us : List (ℕ × Unended)) : Type 0 where
  pub sound : IsSound d
  pub can : CanRestart slots c.cells us
  pub fit : AllFit slots c.cells (map Some (restart_records slots c.cells us))
  pub cells : d.cells ≡ restored slots c.cells us
  pub quiet : d.moment.state.active ≡ []
  pub same_slots : d.moment.state.slots ≡ c.moment.state.slots
  pub same_ids : d.moment.state.ids ≡ c.moment.state.ids
  pub committed : d.moment.state.committed ≡ c.moment.state.committed

undone-rest : (m n o : ℕ → ℕ) (pass : ℕ) (es : List (ℕ × ActiveTransaction)) → AllByRecursion (λ e. pass < e.0) es → ((q : ℕ) → q ≢ pass → o q ≡ n q) → AllByRecursion (λ e. n e.0 ≡ m e.0) es → AllByRecursion (λ e. o e.0 ≡ m e.0) es
undone-rest m n o pass [] l f h = tt
undone-rest m n o pass (e ∷ es) l f h = (f e.0 (λ q. (let k = l.0 in absurd (omega (arith, k, q)))) ∙ h.0, undone-rest m n o pass es l.1 f h.1)

-- in the words of the moment that the undoing began with
first-undone : (m : Moment) (c : Core) → IsSound c → (pass : ℕ) (t : ActiveTransaction) (rest : List (ℕ × ActiveTransaction)) → c.moment.state.active ≡ (pass, t) ∷ rest
    → c.moment.state.slots ≡ m.state.slots → c.moment.state.committed ≡ m.state.committed → c.moment.undone pass ≡ m.undone pass
    → AllByRecursion (λ (x : Change). HasPlace m.state.slots x.place) (told_of m (pass, t)).changes
    → (d : Core) × AllUndone c d m.state.slots pass rest (reverse (told_of m (pass, t)).changes)
first-undone m c s pass t rest e qs qg qu few =
    let n = undos_left m (pass, t) in
    let is : changes_of c.moment.state.slots c.moment.state.committed t.writes ≡ changes_of m.state.slots m.state.committed t.writes = ap₂ (λ k g. changes_of k g t.writes) qs qg in
    let few2 = subst (λ k. AllByRecursion (λ (x : Change). HasPlace k x.place) (take n (changes_of c.moment.state.slots c.moment.state.committed t.writes))) (sym qs)
    (subst (λ l. AllByRecursion (λ (x : Change). HasPlace m.state.slots x.place) (take n l)) (sym is) few) in
    let r = all-undone n c s pass t rest e (ap (λ u. count_by can_be_undone t.writes - u) qu) few2 in
    (r.0, subst (λ k. AllUndone c r.0 k pass rest (reverse (told_of m (pass, t)).changes)) qs (subst (λ l. AllUndone c r.0 c.moment.state.slots pass rest (reverse (take n l))) is r.1))

pub all-restored : (m : Moment) (active : List (ℕ × ActiveTransaction)) (c : Core) → IsSound c → c.moment.state.active ≡ active
    → c.moment.state.slots ≡ m.state.slots → c.moment.state.committed ≡ m.state.committed → AllByRecursion (λ e. c.moment.undone e.0 ≡ m.undone e.0) active
    → HavePlaces m.state.slots (map (λ e. (e.0, told_of m e)) active)
    → (d : Core) × AllRestored m.state.slots c d (map (λ e. (e.0, told_of m e)) active)
all-restored m [] c s e qs qg qu few = (c, record { sound = s; can = tt; fit = tt; cells = refl; quiet = e; same_slots = refl; same_ids = refl; committed = refl })
all-restored m (a ∷ later) c s e qs qg qu few =
    let r = first-undone m c s a.0 a.1 later e qs qg qu.0 few.0 in
    let k = r.1 in
    let above = (subst PassesAscend e s.state.passes).0 in
    let o = all-restored m later r.0 k.sound k.active (k.same_slots ∙ qs) (k.committed ∙ qg) (undone-rest m.undone c.moment.undone r.0.moment.undone a.0 later above k.undone qu.1) few.1 in
    assembled m.state.slots c r.0 o.0 a.0 later (told_of m a) (map (λ e. (e.0, told_of m e)) later) k o.1
  where
    assembled : (slots : ℕ) (c d f : Core) (pass : ℕ) (rest : List (ℕ × ActiveTransaction)) (u : Unended) (us : List (ℕ × Unended)) → AllUndone c d slots pass rest (reverse u.changes) → AllRestored slots d f us → (f : Core) × AllRestored slots c f ((pass, u) ∷ us)
    assembled slots c d f pass rest u us k l =
        let rs = undo_records slots c.cells pass (reverse u.changes) in
        let next = after_records slots c.cells rs in (
          f,
          record {
            sound = l.sound;
            can = (k.can, subst (λ cells. CanRestart slots cells us) k.cells l.can);
            fit = all_fit-append slots c.cells rs (restart_records slots next us) k.fit (subst (λ cells. AllFit slots cells (map Some (restart_records slots cells us))) k.cells l.fit);
            cells = l.cells ∙ (ap (λ cells. restored slots cells us) k.cells ∙ sym (after_records-append slots c.cells rs (restart_records slots next us)));
            quiet = l.quiet;
            same_slots = l.same_slots ∙ k.same_slots;
            same_ids = l.same_ids ∙ k.same_ids;
            committed = l.committed ∙ k.committed;
          },
        )
