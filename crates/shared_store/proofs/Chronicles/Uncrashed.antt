-- No note of a journal is of a crash.
use Rattle.std.proofs.Common.{◌≡◌, ℕ, List, [], ◌∷◌, map, false, Option, Some, None, refl, ap, ◌∙◌}
use Rattle.std.specs.List.{AllByRecursion}
use Rattle.plain_model.specs.declared.calls.Entry.{Entry}
use Rattle.plain_model.specs.declared.calls.Entry.TheVariants as entry
use Rattle.plain_laws.specs.Sound.{is_crash}
use Rattle.store_model.specs.Core.{Core, Round}
use Rattle.log_record.specs.declared.cell_record.CellRecord.{CellRecord}
use Rattle.log_record.specs.declared.cell_record.CellRecord.TheVariants as logs
use Rattle.core_store.specs.declared.act.Act.{Act}
use Rattle.core_store.specs.declared.act.Act.TheVariants as act
use Rattle.core_store.specs.declared.note.Note.{Note}
use Rattle.core_store.specs.Collects.{entry_of}
use Rattle.core_store.specs.Leads.{Turns, AreLed}

of-collector : (logged : Option CellRecord) → is_crash (entry_of logged) ≡ false
of-collector None = refl
of-collector (Some (logs.Free id)) = refl
of-collector (Some other) = refl

of-others : (slots : ℕ) (c : Core) (e : Entry) (logged : Option CellRecord) (left : ℕ) (queue : List ℕ) (round : Option Round) → Turns slots c (record { entry = e; logged = logged; left = left; act = act.Other }) queue round → is_crash e ≡ false
of-others slots c (entry.Crash cells) logged left queue round t = absurd t.0
of-others slots c other logged left queue round t = refl

of-note : (slots : ℕ) (c : Core) (e : Entry) (logged : Option CellRecord) (left : ℕ) (a : Act) (queue : List ℕ) (round : Option Round) → Turns slots c (record { entry = e; logged = logged; left = left; act = a }) queue round → is_crash e ≡ false
of-note slots c e logged left act.Other queue round t = of-others slots c e logged left queue round t
of-note slots c e logged left (act.Skip id) queue round t = ap is_crash t.0 ∙ of-collector logged
of-note slots c e logged left (act.Start id) queue round t = ap is_crash t.0 ∙ of-collector logged
of-note slots c e logged left (act.Scan id) queue round t = ap is_crash t.0 ∙ of-collector logged
of-note slots c e logged left act.Judge queue round t = ap is_crash t.0 ∙ of-collector logged
of-note slots c e logged left act.End queue round t = ap is_crash t.0 ∙ of-collector logged
of-note slots c e logged left act.Change queue round t = ap is_crash t.0 ∙ of-collector logged

pub none-crashed : (slots : ℕ) (c d : Core) (notes : List Note) → AreLed slots c notes d → AllByRecursion (λ e. is_crash e ≡ false) (map (λ n. n.entry) notes)
none-crashed slots c d [] led = tt
none-crashed slots c d (n ∷ ns) led = (let l = led.1 in of-note slots c n.entry n.logged n.left n.act led.0.queue led.0.round l.turns, none-crashed slots led.0 d ns led.2)
