use Rattle.std.proofs.Common.{◌≡◌, ◌∙◌, ℕ, ◌+◌, ◌≤◌, List, [], ◌∷◌, ◌++◌, map, ⊎_elim, sym, ap, subst, arith, rules, Ok, Err, Option}
use Rattle.std.specs.Prelude.{OnOk, IsOk, IfSome, Result, option_map, vec_capacity, vec_len}
use Rattle.disk_model.specs.declared.area.Area.TheVariants.{Super, Pages}
use Rattle.disk_model.specs.Changes.{written, Torn}
use Rattle.disk_model.specs.Causes.{Rose}
use Rattle.disk_model.specs.Told.{Keeps, Follows, EachImage}
use Rattle.disk_model.specs.Time.{LeavesOnlyImages}
use Rattle.disk_model.proofs.Moments.{at_exit}
use Rattle.log_record.specs.Spelling.{record_bytes}
use Rattle.log_record.specs.declared.record.Record.TheVariants.{Turn}
use Rattle.gate_log.specs.State.{turned, failed, naming_byte, other_log}
use Rattle.disk_model.specs.declared.area.Area.{Area}
use Rattle.gate_log.specs.OnDisk.{IsOn}
use Rattle.core_store.specs.declared.note.Note.{Note}
use Rattle.core_store.specs.JournalView.{cells_of}
use Rattle.cell_page.specs.Format.{IsSlotCount, page_size}
use Rattle.gate_log.specs.OnDisk.{HasLog}
use Rattle.logged_journal.specs.declared.failed.FailedCall.{FailedCall}
use Rattle.logged_journal.specs.View.{LoggedView, image_bytes}
use Rattle.logged_journal.specs.Inside.{view_of}
use Rattle.logged_journal.specs.Records.{MayHaveAll}
use Rattle.logged_journal.specs.Upkeep.{IsTurned}
use Rattle.logged_journal.proofs.ImagesOpen.{TellsItself}
use Rattle.logged_journal.proofs.CommitDone.{was-ok, on-ok, on-err}
use Rattle.logged_journal.proofs.Upkeeps.{kept-stopped}
use Rattle.logged_journal.proofs.CheckpointBegins.{IsReady, some-id, ready, first-bytes, batch, turn-moments, kept-anew, anew-turned}
use Rattle.logged_journal.proofs.logged.LoggedJournal.begin_anew.Goals as goal

on-written : {T E : Type 0} {P : Type 0} (r : Result T E) → IsOk r → OnOk r P → P
on-written (Ok x) is h = h
on-written (Err e) is h = absurd (cc (is))

room : (slots len capacity before : ℕ) → IsSlotCount slots → len ≡ 0 → before ≤ capacity → image_bytes slots ≤ before → len + 4 ≤ capacity
room slots len capacity before size none more enough =
    let some : 1 ≤ page_size slots = ⊎_elim (λ (six : slots ≡ 6). subst (λ (n : ℕ). 1 ≤ page_size n) (sym six) (omega arith)) (λ (fourteen : slots ≡ 14). subst (λ (n : ℕ). 1 ≤ page_size n) (sym fourteen) (omega arith)) size in
    omega (arith, some, none, more, enough)

pub invariant_of-self : goal.invariant_of-self
invariant_of-self g c =
    let h = c.history.ensures in
    let v = view_of c.self.inside in
    let tells : TellsItself g.row.SLOTS c.self.inside.journal = record {
      size = c.self.invariant.size;
      consistent = h.consistent;
      entries = ap (λ (l : List Note). map (λ n. n.entry) l) (sym h.notes) ∙ h.entries;
      running = h.running;
      spelled = h.spelled;
      of_ids = h.of_ids;
      safe = h.safe;
      typed = c.self.invariant.kept.typed;
    } in
    let few = c.len.ensures.few in
    let len = c.len.ensures.len in
    let r : IsReady g.D.Disk.may_leave g.row.SLOTS v = ready g.D.Disk.may_leave g.row.SLOTS c.args.pages v c.args.self.now c.self.view_is c.self.invariant.kept tells c.self.invariant.own (omega (arith, few, len))
    c.requires.running c.requires.pages c.requires.idle c.requires.all c.requires.empty c.requires.stand in
    let empty = c.clear.ensures.items in
    let none = c.clear.ensures.len in
    let capacity = c.clear.ensures.capacity in
    let spelling = c.self.invariant.spelling in
    let written = on-written c.write.result (c.write.ensures.succeeds (room g.row.SLOTS (vec_len c.clear.new.self) (vec_capacity c.clear.new.self) (vec_capacity c.self.inside.spelling) c.self.invariant.size none (omega (arith, capacity)) spelling)) c.write.ensures.ok
    ∙ ap (λ (l : List ℕ). l ++ record_bytes {slots = g.row.SLOTS} (Turn c.known_version.result c.args.pages)) empty in
    let ids = ap (λ (w : LoggedView g.row.D.Denot). w.journal.history.ids) c.self.view_is in
    let known = c.requires.pages in
    let count = r.stands.ids in
    let bytes : c.deref.result.now ≡ batch g.D.Disk.may_leave g.row.SLOTS v r = first-bytes g.row.SLOTS c.self.inside.journal.history.slots c.args.pages r.stands.pages c.known_version.result c.deref.result.now c.self.invariant.own (omega (arith, ids, known, count)) c.known_version.ensures
    (c.deref.ensures.value ∙ written) in
    let moments = turn-moments g.D.Disk.may_leave g.row.SLOTS v r g.D.Disk.moment g.D.Disk.left_since c.as_mut.result.now c.turn.new.disk c.deref.result.now c.as_mut.ensures.value bytes c.turn.ensures.moments c.turn.ensures.in_place in
    record {
      size = c.self.invariant.size;
      own = c.self.invariant.own;
      spelling = (let more = c.write.ensures.capacity in omega (arith, spelling, capacity, more));
      counted = (
        let before = c.self.invariant.counted.0 in
            let value = ap g.D.Disk.faults c.as_mut.ensures.value in
            let cause = c.turn.ensures.cause.later in
            omega (arith, before, value, cause),
        let before = c.self.invariant.counted.0 in
            let value = ap g.D.Disk.faults c.as_mut.ensures.value in
            let rose = on-err c.turn.result _ (sym c.is_err.ensures.value ∙ c.if-is_err.true) c.turn.ensures.cause.failed in
            let told = c.faults.ensures ∙ ap g.D.Disk.faults c.deref-then-is_err.ensures in
            (omega (arith, before, value, rose, told), omega (arith, told)),
        λ none. absurd (cc (none)),
      );
      kept = kept-stopped g.D.Disk.may_leave v c.turn.new.self c.turn.new.disk c.faults.result c.self.invariant.kept r.running (at_exit g.D.Disk.may_leave g.D.Disk.counts_now moments);
    }

pub returns-then-is_err-clause-moments : goal.returns-then-is_err-clause-moments
returns-then-is_err-clause-moments g c =
    let h = c.history.ensures in
    let v = view_of c.self.inside in
    let tells : TellsItself g.row.SLOTS c.self.inside.journal = record {
      size = c.self.invariant.size;
      consistent = h.consistent;
      entries = ap (λ (l : List Note). map (λ n. n.entry) l) (sym h.notes) ∙ h.entries;
      running = h.running;
      spelled = h.spelled;
      of_ids = h.of_ids;
      safe = h.safe;
      typed = c.self.invariant.kept.typed;
    } in
    let few = c.len.ensures.few in
    let len = c.len.ensures.len in
    let r : IsReady g.D.Disk.may_leave g.row.SLOTS v = ready g.D.Disk.may_leave g.row.SLOTS c.args.pages v c.args.self.now c.self.view_is c.self.invariant.kept tells c.self.invariant.own (omega (arith, few, len))
    c.requires.running c.requires.pages c.requires.idle c.requires.all c.requires.empty c.requires.stand in
    let empty = c.clear.ensures.items in
    let none = c.clear.ensures.len in
    let capacity = c.clear.ensures.capacity in
    let spelling = c.self.invariant.spelling in
    let written = on-written c.write.result (c.write.ensures.succeeds (room g.row.SLOTS (vec_len c.clear.new.self) (vec_capacity c.clear.new.self) (vec_capacity c.self.inside.spelling) c.self.invariant.size none (omega (arith, capacity)) spelling)) c.write.ensures.ok
    ∙ ap (λ (l : List ℕ). l ++ record_bytes {slots = g.row.SLOTS} (Turn c.known_version.result c.args.pages)) empty in
    let ids = ap (λ (w : LoggedView g.row.D.Denot). w.journal.history.ids) c.self.view_is in
    let known = c.requires.pages in
    let count = r.stands.ids in
    let bytes : c.deref.result.now ≡ batch g.D.Disk.may_leave g.row.SLOTS v r = first-bytes g.row.SLOTS c.self.inside.journal.history.slots c.args.pages r.stands.pages c.known_version.result c.deref.result.now c.self.invariant.own (omega (arith, ids, known, count)) c.known_version.ensures
    (c.deref.ensures.value ∙ written) in
    let moments = turn-moments g.D.Disk.may_leave g.row.SLOTS v r g.D.Disk.moment g.D.Disk.left_since c.as_mut.result.now c.turn.new.disk c.deref.result.now c.as_mut.ensures.value bytes c.turn.ensures.moments c.turn.ensures.in_place in
    subst (λ (w : LoggedView g.row.D.Denot). LeavesOnlyImages g.D.Disk.moment g.D.Disk.left_since w.disk c.turn.new.disk (MayHaveAll w)) c.self.view_is moments

pub invariant_of-self-2 : goal.invariant_of-self-2
invariant_of-self-2 g c =
    let h = c.history.ensures in
    let v = view_of c.self.inside in
    let tells : TellsItself g.row.SLOTS c.self.inside.journal = record {
      size = c.self.invariant.size;
      consistent = h.consistent;
      entries = ap (λ (l : List Note). map (λ n. n.entry) l) (sym h.notes) ∙ h.entries;
      running = h.running;
      spelled = h.spelled;
      of_ids = h.of_ids;
      safe = h.safe;
      typed = c.self.invariant.kept.typed;
    } in
    let few = c.len.ensures.few in
    let len = c.len.ensures.len in
    let r : IsReady g.D.Disk.may_leave g.row.SLOTS v = ready g.D.Disk.may_leave g.row.SLOTS c.args.pages v c.args.self.now c.self.view_is c.self.invariant.kept tells c.self.invariant.own (omega (arith, few, len))
    c.requires.running c.requires.pages c.requires.idle c.requires.all c.requires.empty c.requires.stand in
    let empty = c.clear.ensures.items in
    let none = c.clear.ensures.len in
    let capacity = c.clear.ensures.capacity in
    let spelling = c.self.invariant.spelling in
    let written = on-written c.write.result (c.write.ensures.succeeds (room g.row.SLOTS (vec_len c.clear.new.self) (vec_capacity c.clear.new.self) (vec_capacity c.self.inside.spelling) c.self.invariant.size none (omega (arith, capacity)) spelling)) c.write.ensures.ok
    ∙ ap (λ (l : List ℕ). l ++ record_bytes {slots = g.row.SLOTS} (Turn c.known_version.result c.args.pages)) empty in
    let ids = ap (λ (w : LoggedView g.row.D.Denot). w.journal.history.ids) c.self.view_is in
    let known = c.requires.pages in
    let count = r.stands.ids in
    let bytes : c.deref.result.now ≡ batch g.D.Disk.may_leave g.row.SLOTS v r = first-bytes g.row.SLOTS c.self.inside.journal.history.slots c.args.pages r.stands.pages c.known_version.result c.deref.result.now c.self.invariant.own (omega (arith, ids, known, count)) c.known_version.ensures
    (c.deref.ensures.value ∙ written) in
    let done = sym c.is_err.ensures.value ∙ c.if-is_err.false in
    let log = c.turn.ensures.log ∙ was-ok c.turn.result (turned c.self.inside.log c.deref.result.now) (failed c.self.inside.log) done ∙ ap (λ (b : List ℕ). turned c.self.inside.log b) bytes in
    let on : IsOn g.D.Disk.may_leave c.turn.new.self c.turn.new.disk (batch g.D.Disk.may_leave g.row.SLOTS v r ∷ []) = subst (λ (b : List ℕ). IsOn g.D.Disk.may_leave c.turn.new.self c.turn.new.disk (b ∷ [])) bytes (on-ok c.turn.result _ done c.turn.ensures.on) in
    let keeps : (area : List ℕ) → g.D.Disk.may_leave c.turn.new.disk Pages area → g.D.Disk.may_leave c.self.inside.disk.value Pages area = λ area may. subst (λ (d : g.row.D.Denot). g.D.Disk.may_leave d Pages area) c.as_mut.ensures.value (c.turn.ensures.pages.no_more area may) in
    let images : EachImage g.D.Disk.may_leave c.turn.new.disk (HasLog (batch g.D.Disk.may_leave g.row.SLOTS v r ∷ [])) = subst (λ (b : List ℕ). EachImage g.D.Disk.may_leave c.turn.new.disk (HasLog (b ∷ []))) bytes (on-ok c.turn.result _ done c.turn.ensures.images) in
    let owed = c.bytes_owed.ensures.value in
    let used = c.used.ensures in
    let most = c.max-self-inside.ensures in
    record {
      size = c.self.invariant.size;
      own = c.self.invariant.own;
      spelling = (let more = c.write.ensures.capacity in omega (arith, spelling, capacity, more));
      counted = (
        let before = c.self.invariant.counted.0 in
            let value = ap g.D.Disk.faults c.as_mut.ensures.value in
            let cause = c.turn.ensures.cause.later in
            omega (arith, before, value, cause),
        subst (λ (o : Option FailedCall). IfSome o (λ f. Rose c.self.inside.opened f.faults × (f.faults ≤ g.D.Disk.faults c.turn.new.disk))) (sym r.running) tt,
        λ none.
            let before = c.self.invariant.counted.2 (r.running) in
            let value = ap g.D.Disk.faults c.as_mut.ensures.value in
            let kept = on-ok c.turn.result _ (done) c.turn.ensures.cause.kept in
            omega (arith, before, value, kept),
      );
      kept = kept-anew g.D.Disk.may_leave g.row.SLOTS v r.stands r.tells r.own r.few r.idle r.stand c.turn.new.self c.turn.new.disk _ _ c.self.invariant.kept r.all r.empty log on images keeps c.clear-2.ensures (omega (arith, owed, used, most)) (omega (arith, owed, used, most));
    }

pub returns-clause-turned : goal.returns-clause-turned
returns-clause-turned g c =
    let h = c.history.ensures in
    let v = view_of c.self.inside in
    let tells : TellsItself g.row.SLOTS c.self.inside.journal = record {
      size = c.self.invariant.size;
      consistent = h.consistent;
      entries = ap (λ (l : List Note). map (λ n. n.entry) l) (sym h.notes) ∙ h.entries;
      running = h.running;
      spelled = h.spelled;
      of_ids = h.of_ids;
      safe = h.safe;
      typed = c.self.invariant.kept.typed;
    } in
    let few = c.len.ensures.few in
    let len = c.len.ensures.len in
    let r : IsReady g.D.Disk.may_leave g.row.SLOTS v = ready g.D.Disk.may_leave g.row.SLOTS c.args.pages v c.args.self.now c.self.view_is c.self.invariant.kept tells c.self.invariant.own (omega (arith, few, len))
    c.requires.running c.requires.pages c.requires.idle c.requires.all c.requires.empty c.requires.stand in
    let empty = c.clear.ensures.items in
    let none = c.clear.ensures.len in
    let capacity = c.clear.ensures.capacity in
    let spelling = c.self.invariant.spelling in
    let written = on-written c.write.result (c.write.ensures.succeeds (room g.row.SLOTS (vec_len c.clear.new.self) (vec_capacity c.clear.new.self) (vec_capacity c.self.inside.spelling) c.self.invariant.size none (omega (arith, capacity)) spelling)) c.write.ensures.ok
    ∙ ap (λ (l : List ℕ). l ++ record_bytes {slots = g.row.SLOTS} (Turn c.known_version.result c.args.pages)) empty in
    let ids = ap (λ (w : LoggedView g.row.D.Denot). w.journal.history.ids) c.self.view_is in
    let known = c.requires.pages in
    let count = r.stands.ids in
    let bytes : c.deref.result.now ≡ batch g.D.Disk.may_leave g.row.SLOTS v r = first-bytes g.row.SLOTS c.self.inside.journal.history.slots c.args.pages r.stands.pages c.known_version.result c.deref.result.now c.self.invariant.own (omega (arith, ids, known, count)) c.known_version.ensures
    (c.deref.ensures.value ∙ written) in
    let done = sym c.is_err.ensures.value ∙ c.if-is_err.false in
    let log = c.turn.ensures.log ∙ was-ok c.turn.result (turned c.self.inside.log c.deref.result.now) (failed c.self.inside.log) done ∙ ap (λ (b : List ℕ). turned c.self.inside.log b) bytes in
    let on : IsOn g.D.Disk.may_leave c.turn.new.self c.turn.new.disk (batch g.D.Disk.may_leave g.row.SLOTS v r ∷ []) = subst (λ (b : List ℕ). IsOn g.D.Disk.may_leave c.turn.new.self c.turn.new.disk (b ∷ [])) bytes (on-ok c.turn.result _ done c.turn.ensures.on) in
    let keeps : (area : List ℕ) → g.D.Disk.may_leave c.turn.new.disk Pages area → g.D.Disk.may_leave c.self.inside.disk.value Pages area = λ area may. subst (λ (d : g.row.D.Denot). g.D.Disk.may_leave d Pages area) c.as_mut.ensures.value (c.turn.ensures.pages.no_more area may) in
    let area = ap (λ l. l.area) log in
    subst (λ (w : LoggedView g.row.D.Denot). EachImage g.D.Disk.may_leave c.turn.new.disk (IsTurned g.row.SLOTS (cells_of w.journal) (other_log w.log.area))) c.self.view_is
    (subst (λ (a : Area). EachImage g.D.Disk.may_leave c.turn.new.disk (IsTurned g.row.SLOTS (cells_of c.self.inside.journal) a)) area
    (anew-turned g.D.Disk.may_leave g.row.SLOTS v r.stands r.tells r.own r.few r.idle r.stand c.turn.new.self c.turn.new.disk log on keeps))

pub returns-clause-moments : goal.returns-clause-moments
returns-clause-moments g c =
    let h = c.history.ensures in
    let v = view_of c.self.inside in
    let tells : TellsItself g.row.SLOTS c.self.inside.journal = record {
      size = c.self.invariant.size;
      consistent = h.consistent;
      entries = ap (λ (l : List Note). map (λ n. n.entry) l) (sym h.notes) ∙ h.entries;
      running = h.running;
      spelled = h.spelled;
      of_ids = h.of_ids;
      safe = h.safe;
      typed = c.self.invariant.kept.typed;
    } in
    let few = c.len.ensures.few in
    let len = c.len.ensures.len in
    let r : IsReady g.D.Disk.may_leave g.row.SLOTS v = ready g.D.Disk.may_leave g.row.SLOTS c.args.pages v c.args.self.now c.self.view_is c.self.invariant.kept tells c.self.invariant.own (omega (arith, few, len))
    c.requires.running c.requires.pages c.requires.idle c.requires.all c.requires.empty c.requires.stand in
    let empty = c.clear.ensures.items in
    let none = c.clear.ensures.len in
    let capacity = c.clear.ensures.capacity in
    let spelling = c.self.invariant.spelling in
    let written = on-written c.write.result (c.write.ensures.succeeds (room g.row.SLOTS (vec_len c.clear.new.self) (vec_capacity c.clear.new.self) (vec_capacity c.self.inside.spelling) c.self.invariant.size none (omega (arith, capacity)) spelling)) c.write.ensures.ok
    ∙ ap (λ (l : List ℕ). l ++ record_bytes {slots = g.row.SLOTS} (Turn c.known_version.result c.args.pages)) empty in
    let ids = ap (λ (w : LoggedView g.row.D.Denot). w.journal.history.ids) c.self.view_is in
    let known = c.requires.pages in
    let count = r.stands.ids in
    let bytes : c.deref.result.now ≡ batch g.D.Disk.may_leave g.row.SLOTS v r = first-bytes g.row.SLOTS c.self.inside.journal.history.slots c.args.pages r.stands.pages c.known_version.result c.deref.result.now c.self.invariant.own (omega (arith, ids, known, count)) c.known_version.ensures
    (c.deref.ensures.value ∙ written) in
    let moments = turn-moments g.D.Disk.may_leave g.row.SLOTS v r g.D.Disk.moment g.D.Disk.left_since c.as_mut.result.now c.turn.new.disk c.deref.result.now c.as_mut.ensures.value bytes c.turn.ensures.moments c.turn.ensures.in_place in
    subst (λ (w : LoggedView g.row.D.Denot). LeavesOnlyImages g.D.Disk.moment g.D.Disk.left_since w.disk c.turn.new.disk (MayHaveAll w)) c.self.view_is moments

pub returns-clause-old : goal.returns-clause-old
returns-clause-old g c =
    subst (λ (w : LoggedView g.row.D.Denot). Keeps g.D.Disk.content g.D.Disk.may_leave w.disk c.turn.new.disk w.log.area) c.self.view_is
    (subst (λ (d : g.row.D.Denot). Keeps g.D.Disk.content g.D.Disk.may_leave d c.turn.new.disk c.self.inside.log.area) c.as_mut.ensures.value c.turn.ensures.old)

pub returns-then-is_err-clause-others : goal.returns-then-is_err-clause-others
returns-then-is_err-clause-others g c =
    subst (λ (w : LoggedView g.row.D.Denot). Follows g.D.Disk.content g.D.Disk.may_leave (Torn 0 1) w.disk c.turn.new.disk Super) c.self.view_is
    (subst (λ (d : g.row.D.Denot). Follows g.D.Disk.content g.D.Disk.may_leave (Torn 0 1) d c.turn.new.disk Super) c.as_mut.ensures.value c.turn.ensures.other_names)

pub returns-clause-others : goal.returns-clause-others
returns-clause-others g c =
    subst (λ (w : LoggedView g.row.D.Denot). Follows g.D.Disk.content g.D.Disk.may_leave (Torn 0 1) w.disk c.turn.new.disk Super) c.self.view_is
    (subst (λ (d : g.row.D.Denot). Follows g.D.Disk.content g.D.Disk.may_leave (Torn 0 1) d c.turn.new.disk Super) c.as_mut.ensures.value c.turn.ensures.other_names)

pub returns-clause-named : goal.returns-clause-named
returns-clause-named g c =
    let named = on-ok c.turn.result _ (sym c.is_err.ensures.value ∙ c.if-is_err.false) c.turn.ensures.name in
    let here = subst (λ (d : g.row.D.Denot). g.D.Disk.content c.turn.new.disk Super ≡ option_map (written 0 (naming_byte (other_log c.self.inside.log.area) ∷ [])) (g.D.Disk.content d Super)) c.as_mut.ensures.value named in
    subst (λ (w : LoggedView g.row.D.Denot). g.D.Disk.content c.turn.new.disk Super ≡ option_map (written 0 (naming_byte (other_log w.log.area) ∷ [])) (g.D.Disk.content w.disk Super)) c.self.view_is here

pub write-requires : goal.write-requires
write-requires g c =
    let some = some-id c.self.inside.journal c.history.ensures.safe in
    let ids = ap (λ (w : LoggedView g.row.D.Denot). w.journal.history.ids) c.self.view_is in
    let known = c.requires.pages in
    (search rules, (c.self.invariant.size, (c.known_version.ensures, omega (arith, some, ids, known), search rules)))
