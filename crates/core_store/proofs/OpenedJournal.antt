-- A journal that has just opened is sound.
use Rattle.std.proofs.Common.{◌≡◌, ◌≢◌, ℕ, suc, ◌<◌, ◌≤◌, List, [], Bool, true, false, refl, sym, ap, ◌∙◌, subst, Some, None, arith, map, not, ⊎_elim}
use Rattle.std.specs.Prelude.{◌&&◌, nat_lt, nat_le}
use Rattle.std.proofs.lemmas.Bool.{cases_lt}
use Rattle.std.proofs.lemmas.List.{get_or_past}
use Rattle.std.proofs.lemmas.List.Elements.{All-nil}
use Rattle.plain_model.specs.History.{IsId}
use Rattle.strict_locks.specs.Locks.{holders_of, is_owner, is_sharer}
use Rattle.cell_page.specs.Format.{IsSlotCount}
use Rattle.cell_page.specs.declared.cell.Cell.{Cell as PageCell}
use Rattle.cell_model.specs.Cells.{Cell, blank_cell, is_live}
use Rattle.cell_model.specs.Consistent.{AreConsistent}
use Rattle.cell_model.specs.Graph.{graph_of}
use Rattle.restart_laws.specs.Graph.{zeros_of, opened_core}
use Rattle.restart_laws.proofs.GraphLaws.{graph-has}
use Rattle.restart_laws.proofs.OpenedLaws.{graph-sound, opened-sound}
use Rattle.restart_laws.proofs.RestartableLaws.{starts}
use Rattle.core_store.specs.declared.limits.Limits.{Limits}
use Rattle.core_store.specs.declared.marks.Marks.{Marks}
use Rattle.core_store.specs.declared.note.Note.{Note}
use Rattle.core_store.specs.declared.trace.Trace.{Trace}
use Rattle.core_store.specs.Opening.{store_of, opened_history}
use Rattle.core_store.specs.JournalView.{JournalView, core_of, opening_of}
use Rattle.core_store.specs.Journal.{Keeps}
use Rattle.core_store.specs.Tables.{TablesView}
use Rattle.core_store.specs.RedWalks.{no_walk}
use Rattle.core_store.specs.RedCursor.{IsRedWalk}
use Rattle.core_store.specs.Limited.{AreLimits}
use Rattle.core_store.specs.RoundView.{RoundView, Closed, round_of, IsInStep}
use Rattle.core_store.specs.Transactions.{Running, running_at}
use Rattle.core_store.specs.Stands.{Matches, IsEmptied, IsTested, Stands}
use Rattle.core_store.specs.Steps.{IsOpenedTo}

-- no call was told anything
abbrev pub no_marks : Marks
no_marks = record { disk = false; trace = false; log = false }

-- nothing has happened since the opening
abbrev pub opened_view : ℕ → ℕ → List Cell → Limits → JournalView
opened_view slots ids cells limits = record { history = opened_history slots ids cells; opening = cells; notes = []; limits = limits; marks = no_marks; queue = zeros_of cells; round = Closed; reserved = false }

no_running : {X : Type 0} (ts : List (ℕ × Running)) (pass : ℕ) (kept : Running) → ts ≡ [] → running_at ts pass ≡ Some kept → X
no_running ts pass kept none e = absurd (let f : None ≡ Some kept = sym (ap (λ ts. running_at ts pass) none) ∙ e in cc)

module _ (slots ids : ℕ) (cells : List Cell) (consistent : AreConsistent slots ids cells) where
  -- a live cell is that of an id
  live-id : (id : ℕ) → is_live cells id ≡ true → IsId ids id
  live-id id live =
      let sized = consistent.sized in
      let some : id ≢ 0 = λ e. (let none : true ≡ false = sym live ∙ (ap (is_live cells) e ∙ consistent.exact.none) in cc) in
      ⊎_elim
      (λ (l : id < suc ids). (omega (arith, some), omega (arith, l)))
      (λ (past : suc ids ≤ id).
      absurd (let none : true ≡ false = sym live ∙ ap (λ (c : Cell). c.live) (get_or_past cells id (blank_cell false 0) (omega (arith, past, sized))) in cc))
      (cases_lt id (suc ids))

  opened-stands : (v : TablesView) → IsSlotCount slots → ids ≤ 8192 → IsOpenedTo v ids cells → Stands slots v (opened_core ids slots cells)
  opened-stands v count few f = record {
    ids = sym f.same_ids;
    few = rw f.same_ids few;
    slots_are = refl;
    counted = count;
    sound = opened-sound ids slots cells consistent;
    running = λ pass. subst (λ ts. Matches slots (graph_of cells) (running_at ts pass) None 0) (sym f.transactions) tt;
    restorable = λ pass kept e. no_running v.transactions pass kept f.transactions e;
    owners = λ id pass. ap (λ t. is_owner (holders_of t id) pass) f.locks;
    sharers = λ id pass. ap (λ t. is_sharer (holders_of t id) pass) f.locks;
    free = λ id. f.free id ∙ ap (λ (b : Bool). nat_lt 0 id && nat_le id ids && not b) (sym ((opened-sound ids slots cells consistent).stored id));
    zeros = f.zeros;
    references = f.references;
    queue = f.queue;
    round = ap round_of f.round;
    in_step = subst (λ r. IsInStep slots v.ids r) (sym f.round) tt;
    emptied = subst (λ r. IsEmptied cells r) (sym f.round) tt;
    tested = subst (λ r. IsTested cells r) (sym f.round) tt;
    owed = f.owed;
  }

  pub opened-keeps : (limits : Limits) (v : TablesView) → IsSlotCount slots → ids ≤ 8192 → AreLimits limits → IsOpenedTo v ids cells → Keeps (opened_view slots ids cells limits) v
  opened-keeps limits v count few limited f = record {
    legal = tt;
    running = refl;
    opened = graph-sound ids slots cells consistent;
    bounded = λ id e. live-id id (sym (graph-has cells id) ∙ e);
    entries = refl;
    consistent = consistent;
    laid = tt;
    stands = opened-stands v count few f;
    led = refl;
    safe = starts (opening_of (opened_view slots ids cells limits)) (core_of (opened_view slots ids cells limits)) (opened-sound ids slots cells consistent) refl refl refl;
    numbered = λ pass active. absurd (cc);
    spelled = All-nil _;
    of_ids = All-nil _;
    red = subst (λ (r : RoundView). IsRedWalk cells no_walk r) (sym f.round) refl;
    walked = tt;
    left = omega arith;
    limits = limited;
    counted = omega arith;
    full = λ e. absurd (cc);
    unmarked = (refl, refl);
  }

-- what a journal keeps that has these ids, cells, notes, queue and round
abbrev pub seen_of : ℕ → ℕ → List Cell → List Note → Limits → List ℕ → RoundView → JournalView
seen_of slots ids cells notes limits queue round =
    record { history = record { ids = ids; slots = slots; opening = graph_of cells; entries = map (λ n. n.entry) notes }; opening = cells; notes = notes; limits = limits; marks = no_marks; queue = queue; round = round; reserved = false }

-- a trace with these limits, no marks and nothing reserved is seen so
trace-new : {slots : ℕ} (ids : ℕ) (cells : List (PageCell slots)) (t : Trace) (limits : Limits) (queue : List ℕ) (round : RoundView) → t.limits ≡ limits → t.marks ≡ no_marks → t.reserved ≡ false
    → (let j : JournalView = record { history = record { ids = ids; slots = slots; opening = graph_of (store_of cells); entries = map (λ n. n.entry) t.notes.list }; opening = store_of cells; notes = t.notes.list; limits = t.limits; marks = t.marks; queue = queue; round = round; reserved = t.reserved } in j)
    ≡ seen_of slots ids (store_of cells) t.notes.list limits queue round
trace-new ids cells t limits queue round l m k = cc

-- and with no note, and tables of an opening, as one that has just opened
pub opened-seen : {slots : ℕ} (ids : ℕ) (cells opening : List (PageCell slots)) (t : Trace) (limits : Limits) (seen : ℕ) (queue : List ℕ) (round : RoundView) → t.limits ≡ limits → t.marks ≡ no_marks → t.reserved ≡ false → t.notes.list ≡ [] → opening ≡ cells → seen ≡ ids → queue ≡ zeros_of (store_of cells) → round ≡ Closed
    → (let j : JournalView = record { history = record { ids = seen; slots = slots; opening = graph_of (store_of opening); entries = map (λ n. n.entry) t.notes.list }; opening = store_of opening; notes = t.notes.list; limits = t.limits; marks = t.marks; queue = queue; round = round; reserved = t.reserved } in j)
    ≡ opened_view slots ids (store_of cells) limits
opened-seen {slots} ids cells opening t limits seen queue round l m k n o i q r =
    trace-new seen opening t limits queue round l m k
    ∙ (ap (λ (cs : List (PageCell slots)). seen_of slots seen (store_of cs) t.notes.list limits queue round) o
    ∙ (ap (λ (ns : List Note). seen_of slots seen (store_of cells) ns limits queue round) n
    ∙ (ap (λ (k : List ℕ). seen_of slots seen (store_of cells) [] limits k round) q
    ∙ (ap (λ (k : RoundView). seen_of slots seen (store_of cells) [] limits (zeros_of (store_of cells)) k) r
    ∙ ap (λ (k : ℕ). seen_of slots k (store_of cells) [] limits (zeros_of (store_of cells)) Closed) i))))
