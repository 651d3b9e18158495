-- A transaction makes an object.
use Rattle.std.proofs.Common.{◌≡◌, ◌≢◌, ℕ, ◌+◌, ◌<◌, List, [], ◌∷◌, ◌++◌, Bool, true, false, cond, refl, sym, ap, ◌∙◌, subst, Option, Some, arith, ⊎_elim, length, map}
use Rattle.std.specs.Prelude.{◌==◌, ◌&&◌, ◌||◌, not, nat_lt, nat_le, count_by, slice_set, unwrap_or}
use Rattle.plain_model.specs.declared.write.Place.TheVariants.{Whole}
use Rattle.plain_model.specs.declared.write.Write.{Write}
use Rattle.plain_model.specs.declared.calls.Call.TheVariants.{Make}
use Rattle.plain_model.specs.declared.calls.Entry.TheVariants.{Call}
use Rattle.plain_model.specs.declared.calls.Reply.{Reply}
use Rattle.plain_model.specs.declared.calls.Reply.TheVariants.{Id}
use Rattle.plain_model.specs.ActiveTransaction.{ActiveTransaction}
use Rattle.plain_model.specs.Machine.{State, with_register, with_owned, with_write, made, free_id, is_stored}
use Rattle.plain_model.specs.History.{next, can_be_undone}
use Rattle.plain_laws.proofs.Entries.{same_or_apart}
use Rattle.cell_model.proofs.EditLaws.{there, edit-here, edit-none, edit-other}
use Rattle.core_store.proofs.LayLaws.{CanLay-later}
use Rattle.plain_laws.proofs.Locks.{transaction_of-with_same, transaction_of-with_other, stored-insert}
use Rattle.strict_locks.specs.Locks.{Table, holders_of, StandsInWayOfOwn, Nobody, AddsOwner}
use Rattle.log_record.specs.declared.cell_record.CellRecord.TheVariants as logs
use Rattle.cell_model.specs.Cells.{Cell, cell_at, edit, blank_cell, is_live, pointer_in}
use Rattle.store_model.specs.Core.{Core, Made}
use Rattle.store_model.specs.Sound.{IsSound}
use Rattle.store_model.proofs.CallLaws.{call-granted}
use Rattle.store_model.proofs.CallSound.{make-call}
use Rattle.core_store.specs.declared.three.HeldFrame.{HeldFrame}
use Rattle.core_store.specs.Changes.{has_no_strong}
use Rattle.core_store.specs.FreeIds.{Takes}
use Rattle.core_store.specs.Events.{after_event}
use Rattle.core_store.specs.Frames.{Agree, IsSameElsewhere}
use Rattle.core_store.specs.References.{named_by}
use Rattle.core_store.specs.Replaced.{replaced}
use Rattle.core_store.specs.Transactions.{Running, loaded}
use Rattle.core_store.specs.Tables.{TablesView, changed_at}
use Rattle.core_store.specs.Stands.{IsRunning, Stands, Answers}
use Rattle.core_store.proofs.ChangeLaws.{Stands-change}
use Rattle.core_store.proofs.LockChanges.{Locked-own}
use Rattle.core_store.proofs.StepLaws.{Serves, logged-granted, after-granted}
use Rattle.core_store.proofs.MapLaws.{puts-changed}
use Rattle.core_store.proofs.NameLaws.{named_more, named_more-same, named_by-noted}
use Rattle.core_store.proofs.OwedSteps.{owed-changed}
use Rattle.core_store.proofs.RestLaws.{HasRest-with, HasSameLinks, round-same, sound-untouched}
use Rattle.core_store.proofs.ReplacedLaws.{replaced-push, replaced_by-whole, count-push}

shift : (a p q r : Bool) → (not a && ((p && q) && not r)) ≡ ((p && q) && not (a || r))
shift true true true r = refl
shift true true false r = refl
shift true false true r = refl
shift true false false r = refl
shift false p q r = refl

-- a transaction with one write more that can't be undone
runs-making : (slots : ℕ) (g : List Rattle.plain_model.specs.declared.object.Object.Object) (kept next : Running) (t u : ActiveTransaction) (undone : ℕ) (w : Write) → IsRunning slots g kept t undone → can_be_undone w ≡ false
    → next.replaced ≡ kept.replaced → next.registers ≡ u.registers → next.aborting ≡ u.aborting → u.writes ≡ t.writes ++ w ∷ [] → IsRunning slots g next u undone
runs-making slots g kept next t u undone w runs whole same registers aborting writes =
    let more = ap (count_by can_be_undone) writes ∙ (count-push t.writes w ∙ ap (λ b. count_by can_be_undone t.writes + cond b 1 0) whole) in
    let left = runs.left in
    let all : replaced slots g u.writes ≡ replaced slots g t.writes =
    ap (replaced slots g) writes ∙ (replaced-push slots g t.writes w ∙ (ap (λ ys. replaced slots g t.writes ++ ys) (replaced_by-whole _ w whole) ∙ Rattle.std.proofs.Common.append-nil (replaced slots g t.writes))) in
    let len = ap (λ (xs : List Write). length xs) same in
    record {
      registers = registers;
      aborting = aborting;
      left = omega (arith, more, left, len);
      replaced = same ∙ (runs.replaced ∙ (ap (λ n. Rattle.std.specs.Prelude.take n (replaced slots g t.writes)) (sym len) ∙ ap (λ xs. Rattle.std.specs.Prelude.take (length next.replaced) xs) (sym all)));
    }

-- a cell that is made is live, and the others stay
alive-made : (cells : List Cell) (id slots x : ℕ) → is_live cells x ≡ true → is_live (edit cells id (λ _. blank_cell true slots)) x ≡ true
alive-made cells id slots x e =
    ⊎_elim
    (λ (a : x ≡ id). ⊎_elim
    (λ (b : (id ≢ 0) × (id < length cells)). subst (λ y. is_live (edit cells id (λ _. blank_cell true slots)) y ≡ true) (sym a) (ap (λ (c : Cell). c.live) (edit-here cells id (λ _. blank_cell true slots) b.0 b.1)))
    (λ b. subst (λ (cs : List Cell). is_live cs x ≡ true) (sym (edit-none cells id (λ _. blank_cell true slots) b)) e)
    (there cells id))
    (λ (d : x ≢ id). ap (λ (c : Cell). c.live) (edit-other cells id x (λ _. blank_cell true slots) d) ∙ e)
    (same_or_apart x id)

-- a cell that is made was free and blank: it becomes live, and all else stays
pub links-made : (cells : List Cell) (id slots : ℕ) → id ≢ 0 → id < length cells → cell_at cells id ≡ blank_cell false slots → HasSameLinks cells (edit cells id (λ _. blank_cell true slots))
links-made cells id slots some within free = record {
  pointers = λ x k. kept (λ (c : Cell). pointer_in c k) refl x;
  bits = kept (λ (c : Cell). c.bit) refl;
  strong = kept (λ (c : Cell). c.strong) refl;
}
  where
    kept : {X : Type 0} (f : Cell → X) → f (blank_cell true slots) ≡ f (blank_cell false slots) → (x : ℕ) → f (cell_at (edit cells id (λ _. blank_cell true slots)) x) ≡ f (cell_at cells x)
    kept f alike x =
        ⊎_elim
        (λ (e : x ≡ id). subst (λ y. f (cell_at (edit cells id (λ _. blank_cell true slots)) y) ≡ f (cell_at cells y)) (sym e) (ap f (edit-here cells id (λ _. blank_cell true slots) some within) ∙ (alike ∙ ap f (sym free))))
        (λ (d : x ≢ id). ap f (edit-other cells id x (λ _. blank_cell true slots) d))
        (same_or_apart x id)

pub answers-make : (slots : ℕ) (v : TablesView) (c : Core) (held new : List (HeldFrame slots)) (h : Stands slots v c) (locks : Table) (free : List ℕ) (references : ℕ → List ℕ) (pass into id : ℕ) (kept : Running) (t : ActiveTransaction)
    → AddsOwner v.locks locks pass id → Nobody (StandsInWayOfOwn (holders_of v.locks id) pass) → Serves slots v c.moment pass (Make into) kept t → unwrap_or (free_id c.moment.state) 0 ≡ id → id ≢ 0
    → Takes v.free free id → ((p : ℕ) → references p ≡ named_more v.references pass id p)
    → Agree (edit c.cells id (λ _. blank_cell true slots)) new → IsSameElsewhere c.cells (edit c.cells id (λ _. blank_cell true slots)) held → v.zeros ≡ map has_no_strong (edit c.cells id (λ _. blank_cell true slots))
    → Answers slots v (record v { free = free; locks = locks; transactions = changed_at pass (loaded into (Some id)) v.transactions; references = references }) c held new pass (Make into) (Id id) (Some (logs.Make pass id))
answers-make slots v c held new h locks free references pass into id kept t adds nobody s is some removed noted agree elsewhere marked =
    let w : TablesView = record v { free = free; locks = locks; transactions = changed_at pass (loaded into (Some id)) v.transactions; references = references } in
    let u = with_register into (Some id) (with_write id Whole 0 (with_owned id t)) in
    let x : Write = record { id = id; place = Whole; value = 0 } in
    let m = c.moment in
    let d = after_event slots c (Call pass (Make into) (Id id)) (Some (logs.Make pass id)) in
    let put = puts-changed pass (loaded into (Some id)) kept v.transactions s.here in
    let locked = Locked-own slots v c h pass t u s.found locks id adds nobody refl refl in
    let sound = make-call c h.sound pass t s.found into s.granted (Id id) in
    let fits = subst (λ (k : ℕ). Rattle.cell_model.specs.Records.Fits c.cells (Rattle.cell_model.specs.Records.Make pass k)) is sound.0 in
    let later = edit c.cells id (λ _. blank_cell true slots) in
    let state : (next m (Call pass (Make into) (Id id))).state ≡ made m.state pass t into id =
    after-granted m pass (Make into) (Id id) t s.found s.granted ∙ ap (λ (k : ℕ). made m.state pass t into k) is in
    let core : ℕ → ℕ → Core = λ n k. record { cells = edit c.cells k (λ _. blank_cell true n); moment = next m (Call pass (Make into) (Id id)); refs = c.refs ++ record { pass = pass; target = k; kind = Made } ∷ []; queue = c.queue; round = c.round } in
    let all_sound : IsSound d = sound-untouched (core slots id) (subst (λ (n : ℕ). IsSound (core n id)) h.slots_are (subst (λ (k : ℕ). IsSound (core m.state.slots k)) is sound.1)) in
    let here = transaction_of-with_same m.state pass u in
    let others = λ (q : ℕ) (n : q ≢ pass). transaction_of-with_other m.state pass q u n in
    let runs = runs-making slots m.state.committed kept (loaded into (Some id) kept) t u (m.undone pass) x s.runs refl refl (ap (λ (rs : List (Option ℕ)). slice_set rs into (Some id)) s.runs.registers) s.runs.aborting refl in
    record {
      machine = sym (ap (λ (y : Reply × State). y.0) (call-granted m.state pass t (Make into) s.found s.granted) ∙ ap Id is);
      record_is = ap (λ (k : ℕ). Some (logs.Make pass k)) (sym is) ∙ sym (logged-granted m.state c.cells pass (Make into) t s.found s.granted);
      moves = record {
        fits = fits;
        lays = tt;
        agree = agree;
        elsewhere = elsewhere;
      };
      stands = Stands-change slots v w c d (made m.state pass t into id) pass (loaded into (Some id) kept) u h (record {
        same_ids = refl;
        state_ids = refl;
        state_slots = refl;
        here = put.here;
        others = put.others;
        state_here = here;
        state_others = others;
        undone_others = λ q n. refl;
        runs = runs;
        owner = locked.owner;
        other_owners = locked.other_owners;
        sharer = locked.sharer;
        other_sharers = locked.other_sharers;
        graph = refl;
        free = λ i. removed i ∙ (ap (λ b. not (i == id) && b) (h.free i) ∙ (shift (i == id) (nat_lt 0 i) (nat_le i m.state.ids) (is_stored m.state.stored i) ∙ ap (λ b. (nat_lt 0 i && nat_le i m.state.ids) && not b) (sym (stored-insert m.state.stored id i))));
      }) state marked
          all_sound
          (alive-made c.cells id slots) (λ y k. CanLay-later slots c.cells later (alive-made c.cells id slots) y (h.restorable pass kept s.here y k))
          (HasRest-with slots v w c d h refl refl refl refl (round-same c.round)
          (owed-changed slots c d (made m.state pass t into id) pass (loaded into (Some id) kept) u h.sound all_sound state refl here others (λ q n. refl) runs kept t s.found s.runs v.owed v.owed h.owed refl)
          (λ p. noted p ∙ (named_more-same v.references (named_by c.refs) pass id p (h.references p) ∙ sym (named_by-noted c.refs (record { pass = pass; target = id; kind = Made }) p some)))
          (links-made c.cells id slots some fits.1 (subst (λ (n : ℕ). cell_at c.cells id ≡ blank_cell false n) h.slots_are (h.sound.consistent.empty id fits.1 fits.2))));
      round = refl;
    }
