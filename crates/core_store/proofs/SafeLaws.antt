-- What of a journal is durable, and what it opens to after a crash.
use Rattle.std.proofs.Common.{◌≡◌, List, [], ◌∷◌, ◌++◌, false, sym, ap, ◌∙◌, subst, map, append_assoc, append-nil, Option, None}
use Rattle.std.specs.Prelude.{◌||◌}
use Rattle.std.proofs.lemmas.List.{map-append}
use Rattle.plain_model.specs.declared.calls.Entry.{Entry}
use Rattle.plain_model.specs.History.{start_of, moment_after, IsCrashConsistent}
use Rattle.plain_laws.specs.Sound.{is_crash}
use Rattle.store_model.specs.Core.{Core}
use Rattle.cell_model.specs.Cells.{Cell}
use Rattle.cell_model.specs.Records.{Record}
use Rattle.store_model.proofs.Lists.{each-append}
use Rattle.cell_model.specs.Graph.{graph_of}
use Rattle.restart_laws.specs.Graph.{zeros_of}
use Rattle.restart_laws.specs.Restored.{opened}
use Rattle.restart_laws.specs.Restartable.{IsRestartable}
use Rattle.restart_laws.specs.Settled.{acknowledges, IsUnpromised}
use Rattle.restart_laws.proofs.RestartableLaws.{crashes}
use Rattle.core_store.specs.declared.note.Note.{Note}
use Rattle.core_store.specs.JournalView.{JournalView, logged_in, core_of, opening_of}
use Rattle.core_store.specs.Safe.{DurableAllLaw, DurableKeptLaw, JournalCrashLaw}

pub durable-all : DurableAllLaw
durable-all j entries h = record {
  rest = [];
  split = sym (append-nil j.notes);
  core = core_of j;
  safe = subst (λ es. IsRestartable (opening_of j) es (logged_in j.notes) (core_of j)) (sym entries) h;
  unpromised = tt;
}

-- an opening that is the same
opened-as : (j k : JournalView) (es : List Entry) (rs : List (Option Record)) (c : Core) → k.opening ≡ j.opening → start_of k.history ≡ start_of j.history → IsRestartable (opening_of j) es rs c → IsRestartable (opening_of k) es rs c
opened-as j k es rs c o m h = subst (λ (cells : List Cell). IsRestartable (record { cells = cells; moment = start_of k.history; refs = []; queue = zeros_of cells; round = None }) es rs c) (sym o)
    (subst (λ m. IsRestartable (record { cells = j.opening; moment = m; refs = []; queue = zeros_of j.opening; round = None }) es rs c) (sym m) h)

pub durable-kept : DurableKeptLaw
durable-kept j k x «first» d n u = record {
  rest = d.rest ++ x ∷ [];
  split = n.noted ∙ (ap (λ ns. ns ++ x ∷ []) d.split ∙ append_assoc «first» d.rest (x ∷ []));
  core = d.core;
  safe = opened-as j k (map (λ n. n.entry) «first») (logged_in «first») d.core n.opening (ap start_of n.entry) d.safe;
  unpromised = subst IsUnpromised (sym (map-append (λ (n : Note). n.entry) d.rest (x ∷ []))) (each-append (λ e. (acknowledges e || is_crash e) ≡ false) (map (λ n. n.entry) d.rest) (x.entry ∷ []) d.unpromised (u, tt));
}

pub journal-crash : JournalCrashLaw
journal-crash j «first» entries d =
    let entry : Note → Entry = λ n. n.entry in
    let all : map entry «first» ++ map entry d.rest ≡ j.history.entries = sym (map-append entry «first» d.rest) ∙ (ap (map entry) (sym d.split) ∙ entries) in
    let safe = crashes (opening_of j) d.core (map entry «first») (logged_in «first») d.safe (map entry d.rest) d.unpromised in
    (safe.0, subst (λ es. IsCrashConsistent (moment_after (start_of j.history) es) (graph_of (opened j.history.slots j.opening (logged_in «first»)))) all safe.1)
