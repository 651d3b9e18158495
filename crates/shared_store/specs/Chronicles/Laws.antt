-- The laws of a chronicle that speak of clients: none has a transaction before the first note, and no note but one of a client's
-- own begins or ends its.
use Rattle.std.proofs.Common.{◌≡◌, ◌≢◌, ℕ, List, [], ◌∷◌, ◌++◌, map, Bool, false, Some, refl, ap, ◌∙◌}
use Rattle.std.specs.Prelude.{if◌then◌else◌, fold, unwrap_or}
use Rattle.std.proofs.lemmas.Bool.{ne_eqb}
use Rattle.std.proofs.lemmas.List.{map-append}
use Rattle.std.proofs.lemmas.List.Sums.{fold-append}
use Rattle.plain_model.specs.declared.calls.Entry.{Entry}
use Rattle.plain_model.specs.declared.calls.Entry.TheVariants as entry
use Rattle.core_store.specs.declared.note.Note.{Note}
use Rattle.shared_store.specs.Chronicles.Clients.{speaker_of, begins_or_ends, has_after}
use Rattle.shared_store.specs.Chronicles.View.{has_transaction}

pub none-begun : (client : ℕ) → has_transaction [] client ≡ false
none-begun client = refl

unchanged : (client : ℕ) (had : Bool) (e : Entry) → speaker_of e ≢ Some client → has_after client had e ≡ had
unchanged client had (entry.Call c call reply) other = ap (λ (b : Bool). if b then unwrap_or (begins_or_ends call reply) had else had) (ne_eqb c client (λ e. other (ap Some e)))
unchanged client had (entry.Delete id) other = refl
unchanged client had entry.Hidden other = refl
unchanged client had (entry.Undo c) other = refl
unchanged client had (entry.TurnBusy c) other = refl
unchanged client had (entry.Crash cells) other = refl

pub others-kept : (notes : List Note) (n : Note) (client : ℕ) → speaker_of n.entry ≢ Some client → has_transaction (notes ++ n ∷ []) client ≡ has_transaction notes client
others-kept notes n client other =
    ap (fold (has_after client) false) (map-append (λ (x : Note). x.entry) notes (n ∷ []))
    ∙ (fold-append (has_after client) false (map (λ (x : Note). x.entry) notes) (n.entry ∷ [])
    ∙ unchanged client (has_transaction notes client) n.entry other)
