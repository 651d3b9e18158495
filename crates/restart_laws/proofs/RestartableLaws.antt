-- A journal is restartable, event by event, and what it opens to after a crash.
use Rattle.std.proofs.Common.{◌≡◌, ℕ, ◌≤◌, List, [], ◌∷◌, ◌++◌, true, false, refl, sym, ap, ◌∙◌, subst, arith, length, Option, Some, None}
use Rattle.std.specs.Prelude.{All, IfSome}
use Rattle.std.specs.Option.{option_map_or}
use Rattle.std.proofs.lemmas.List.{drop_all}
use Rattle.std.proofs.lemmas.List.Sums.{fold-append}
use Rattle.std.proofs.lemmas.List.Elements.{All-from_recursion}
use Rattle.plain_model.specs.declared.calls.Entry.{Entry}
use Rattle.plain_model.specs.Graphs.{has_object}
use Rattle.plain_model.specs.History.{opening_moment, Moment, CommitPoint, next, moment_after, IsAllowed, SameReachable, graph_after, IsCrashConsistent, IsId}
use Rattle.plain_laws.proofs.Serial.{next-slots}
use Rattle.cell_model.specs.Cells.{Cell}
use Rattle.cell_model.specs.Records.{Record, after_record, cells_after, Fits, AllFit}
use Rattle.store_model.specs.Core.{Core}
use Rattle.store_model.specs.Sound.{IsSound}
use Rattle.cell_model.specs.Consistent.{AreConsistent}
use Rattle.store_model.proofs.Lists.{each}
use Rattle.cell_model.specs.Graph.{graph_of}
use Rattle.restart_laws.specs.Unended.{Unended, unended_after, unended_after_all, FitsUnended, AllFitUnended}
use Rattle.restart_laws.specs.Restored.{restored, opened}
use Rattle.restart_laws.specs.Told.{told, HavePlaces}
use Rattle.restart_laws.specs.Settled.{IsSettled, IsUnpromised}
use Rattle.restart_laws.specs.Logged.{Logs}
use Rattle.restart_laws.specs.Restartable.{Opens, IsRestartable}
use Rattle.restart_laws.proofs.GraphLaws.{graph-graph}
use Rattle.restart_laws.proofs.QuietLaws.{quiet-same, graph-ids, same-same, same-self}
use Rattle.restart_laws.proofs.RestartSteps.{all-restored}
use Rattle.restart_laws.proofs.SettledLaws.{settled-next, later-crash}
use Rattle.restart_laws.proofs.ToldLaws.{event-told}
use Rattle.restart_laws.proofs.PlaceLaws.{places-kept}
use Rattle.restart_laws.proofs.ReopenLaws.{unended-append, cells-append, fit-append}

-- ---- what a sound journal opens to

pub restarts : (c : Core) → IsSound c → IsSettled c.moment → HavePlaces c.moment.state.slots (told c.moment) → Opens c.moment c.cells (told c.moment)
restarts c s settled places =
    let m = c.moment in
    let r = all-restored m m.state.active c s refl refl refl (each (λ e. m.undone e.0 ≡ m.undone e.0) m.state.active (λ e k. refl)) places in
    let d = r.0 in
    let k = r.1 in
    let P : CommitPoint → Type 0 = λ c. c.acknowledged ≡ false in
    let whole : length m.commits ≤ length m.commits = omega arith in
    let g = restored m.state.slots c.cells (told m) in
    record {
      before = s.consistent;
      can = k.can;
      fit = k.fit;
      after = subst (λ x. AreConsistent m.state.slots m.state.ids x) k.cells (subst (λ x. AreConsistent x m.state.ids d.cells) k.same_slots (subst (λ x. AreConsistent d.moment.state.slots x d.cells) k.same_ids k.sound.consistent));
      graph = record {
        graph = graph-graph g;
        ids = λ id h. subst (λ x. IsId x id) k.same_ids (graph-ids d k.sound id (subst (λ x. has_object (graph_of x) id ≡ true) (sym k.cells) h));
        prefix = length m.commits;
        within = whole;
        has_acknowledged = subst (All P) (sym (drop_all (length m.commits) m.commits whole)) (All-from_recursion P [] tt);
        reachable = same-same (graph_of g) m.state.committed (graph_after m (length m.commits)) (subst (λ x. SameReachable (graph_of x) m.state.committed) k.cells (subst (λ x. SameReachable (graph_of d.cells) x) k.committed (quiet-same d k.sound k.quiet))) settled;
      };
    }

-- ---- restartable

pub starts : (start c : Core) → IsSound c → c.moment ≡ start.moment → c.cells ≡ start.cells → start.moment ≡ opening_moment start.moment.state.ids start.moment.state.slots start.moment.state.committed → IsRestartable start [] [] c
starts start c s m q e =
    let none : told c.moment ≡ [] = ap told (m ∙ e) in
    record {
      sound = s;
      settled = subst IsSettled (sym (m ∙ e)) (same-self start.moment.state.committed);
      moment = m;
      cells = q;
      fit = tt;
      fit_unended = tt;
      tells = sym none;
      places = subst (HavePlaces start.moment.state.slots) (sym none) tt;
    }

fit-push : (slots : ℕ) (cells : List Cell) (rs : List (Option Record)) (r : Option Record) → AllFit slots cells rs → IfSome r (Fits (cells_after slots cells rs)) → AllFit slots cells (rs ++ r ∷ [])
fit-push slots cells [] (Some r) f g = (g, tt)
fit-push slots cells [] None f g = tt
fit-push slots cells (Some q ∷ rs) r f g = (f.0, fit-push slots (after_record slots cells q) rs r f.1 g)
fit-push slots cells (None ∷ rs) r f g = fit-push slots cells rs r f g

fit_one : (us : List (ℕ × Unended)) (r : Option Record) → IfSome r (FitsUnended us) → AllFitUnended us (r ∷ [])
fit_one us (Some r) f = (f, tt)
fit_one us None f = tt

places_one : (slots ids : ℕ) (cells : List Cell) (us : List (ℕ × Unended)) (r : Option Record) → AreConsistent slots ids cells → IfSome r (Fits cells) → HavePlaces slots us → HavePlaces slots (option_map_or (unended_after us) r us)
places_one slots ids cells us (Some r) k f h = places-kept slots ids cells us r k f h
places_one slots ids cells us None k f h = h

slots-after : (m : Moment) (es : List Entry) → (moment_after m es).state.slots ≡ m.state.slots
slots-after m [] = refl
slots-after m (e ∷ es) = slots-after (next m e) es ∙ next-slots m e

-- objects have as many slots as at the start
same-slots : (start c : Core) (entries : List Entry) (records : List (Option Record)) → IsRestartable start entries records c → start.moment.state.slots ≡ c.moment.state.slots
same-slots start c entries records h = sym (ap (λ (m : Moment). m.state.slots) h.moment ∙ slots-after start.moment entries)

pub events : (start c d : Core) (entries : List Entry) (records : List (Option Record)) → IsRestartable start entries records c → (e : Entry) (logged : Option Record)
    → IsAllowed c.moment e → Logs c e logged → IfSome logged (Fits c.cells)
    → IsSound d → d.moment ≡ next c.moment e → d.cells ≡ option_map_or (after_record start.moment.state.slots c.cells) logged c.cells
    → IsRestartable start (entries ++ e ∷ []) (records ++ logged ∷ []) d
events start c d entries records h e logged a l f s m q =
    let z = same-slots start c entries records h in
    let slots = start.moment.state.slots in
    let t = event-told c h.sound e logged a l in
    let now : told d.moment ≡ option_map_or (unended_after (told c.moment)) logged (told c.moment) = ap told m ∙ t.tells in
    let k : AreConsistent slots c.moment.state.ids c.cells = subst (λ x. AreConsistent x c.moment.state.ids c.cells) (sym z) h.sound.consistent in
    record {
      sound = s;
      settled = subst IsSettled (sym m) (settled-next c.moment e h.sound.state a h.settled);
      moment = m ∙ (ap (λ x. next x e) h.moment ∙ sym (fold-append next start.moment entries (e ∷ [])));
      cells = q ∙ (ap (λ cs. option_map_or (after_record slots cs) logged cs) h.cells ∙ sym (cells-append slots start.cells records (logged ∷ [])));
      fit = fit-push slots start.cells records logged h.fit (subst (λ cs. IfSome logged (Fits cs)) h.cells f);
      fit_unended = fit-append [] records (logged ∷ []) h.fit_unended (subst (λ us. AllFitUnended us (logged ∷ [])) (sym h.tells) (fit_one (told c.moment) logged t.fits));
      tells = unended-append [] records (logged ∷ []) ∙ (ap (λ us. option_map_or (unended_after us) logged us) h.tells ∙ sym now);
      places = subst (HavePlaces slots) (sym now) (places_one slots c.moment.state.ids c.cells (told c.moment) logged k f h.places);
    }

pub crashes : (start c : Core) (entries : List Entry) (records : List (Option Record)) → IsRestartable start entries records c → (later : List Entry) → IsUnpromised later
    → Opens c.moment (cells_after start.moment.state.slots start.cells records) (unended_after_all [] records)
    × IsCrashConsistent (moment_after start.moment (entries ++ later)) (graph_of (opened start.moment.state.slots start.cells records))
crashes start c entries records h later u =
    let z = same-slots start c entries records h in
    let slots = start.moment.state.slots in
    let o = restarts c h.sound h.settled (subst (λ x. HavePlaces x (told c.moment)) z h.places) in
    let p : Opens c.moment (cells_after slots start.cells records) (unended_after_all [] records) = subst (λ us. Opens c.moment (cells_after slots start.cells records) us) (sym h.tells) (subst (λ cs. Opens c.moment cs (told c.moment)) h.cells o) in
    let g : IsCrashConsistent c.moment (graph_of (opened slots start.cells records)) = subst (λ x. IsCrashConsistent c.moment (graph_of (restored x (cells_after slots start.cells records) (unended_after_all [] records)))) (sym z) p.graph in
    let at : moment_after c.moment later ≡ moment_after start.moment (entries ++ later) = ap (λ m. moment_after m later) h.moment ∙ sym (fold-append next start.moment entries later) in
    (p, subst (λ m. IsCrashConsistent m (graph_of (opened slots start.cells records))) at (later-crash c.moment later (graph_of (opened slots start.cells records)) u g))
