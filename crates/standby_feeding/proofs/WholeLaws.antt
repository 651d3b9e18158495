-- A stream whose store can be made is refused for nothing, also where not all of it was read.
use Rattle.std.proofs.Common.{◌≡◌, ◌≢◌, ◌⊎◌, ⊎_elim, inl, inr, ℕ, ◌≤◌, List, [], ◌∷◌, ◌++◌, length, reverse, Option, Some, None, sym, ap, subst, ◌∙◌, arith, append_assoc, length-append}
use Rattle.std.proofs.lemmas.List.{append-nil}
use Rattle.std.specs.Io.KnownBytes.{Consumes}
use Rattle.cell_model.specs.Cells.{Cell}
use Rattle.cell_model.specs.Records.{after_record}
use Rattle.cell_page.specs.declared.cell.Cell.{Cell as PageCell}
use Rattle.cell_page.specs.Format.{IsSlotCount}
use Rattle.log_record.specs.declared.record.Record.{Record}
use Rattle.log_replay.specs.Replays.{Replaying}
use Rattle.restart_laws.specs.Unended.{Change, Unended}
use Rattle.restart_laws.specs.Restored.{undo_of, undo_records, after_records, CanAllBeUndone, CanRestart}
use Rattle.opened_images.specs.Opened.{IsStuckAt, RestartsStuckAt}
use Rattle.ship_stream.specs.Reading.{Reading, Nothing, InBase, InLog, bytes_of, HasAllPages}
use Rattle.ship_stream.specs.Faults.{BreaksLog, no_batch, no_body, no_record, no_end}
use Rattle.ship_stream.specs.Feeding.{IsWaiting}
use Rattle.ship_stream.specs.Laws.{IsRead, OneReadingLaw}
use Rattle.standby.specs.Following.{base_after}
use Rattle.standby.specs.Damage.{IsDamagedAt}
use Rattle.standby.specs.Promoted.{LeadsTo, PromotesTo, BreaksAt, IsUnsoundAt, LacksBase}
use Rattle.standby.proofs.FeedingLaws.{stays_damaged}
use Rattle.standby.proofs.Undamaged.{undamaged}
use Rattle.standby_feeding.specs.Streams.{IsEnded, HasEnd, IsReadThrough}
use Rattle.standby_feeding.specs.StoodBy.{HasStream}
use Rattle.standby_feeding.proofs.WaitingLaws.{cons_head}

-- ---- what comes after the end changes nothing

not_open : (commit_byte : ℕ) (tail more ys rest : List ℕ) → rest ≡ commit_byte ∷ tail → commit_byte ≢ 1 → rest ++ more ≡ 1 ∷ ys → ⊥
not_open commit_byte tail more ys rest is shut open_now = shut (cons_head commit_byte 1 (tail ++ more) ys (sym (ap (λ (l : List ℕ). l ++ more) is) ∙ open_now))

unbroken : {slots : ℕ} (pages : ℕ) (batches : List (List (Record slots))) (rest more tail : List ℕ) (commit_byte at : ℕ) → rest ≡ commit_byte ∷ tail → commit_byte ≢ 1 → 1 ≤ length batches
    → BreaksLog pages batches (rest ++ more) at → ⊥
unbroken pages batches rest more tail commit_byte at is shut some (no_batch other behind none are closed place) = omega (arith, some, ap length none)
unbroken pages batches rest more tail commit_byte at is shut some (no_body size behind are typed wrong within place) = not_open commit_byte tail more _ rest is shut are
unbroken pages batches rest more tail commit_byte at is shut some (no_record rs left other behind are size within stops place) = not_open commit_byte tail more _ rest is shut are
unbroken pages batches rest more tail commit_byte at is shut some (no_end behind are full over place) = not_open commit_byte tail more _ rest is shut are

waits_shut : {slots : ℕ} (pages : List (List (PageCell slots))) (batches : List (List (Record slots))) (rest more : List ℕ) → IsEnded (InLog pages batches) rest → IsWaiting (InLog pages batches) (rest ++ more)
waits_shut pages [] rest more e = absurd (omega (arith, e.4))
waits_shut pages (batch ∷ batches) rest more e =
    record {
      behind = omega (arith, length-append rest more, ap length e.2);
      no_part = λ c. not_open e.0 e.1 more _ rest e.2 e.3 c.3;
      no_fault = λ at f. unbroken (length pages) (batch ∷ batches) rest more e.1 e.0 f.0 e.2 e.3 e.4 f.1;
    }

end_stays : {slots : ℕ} (bytes more : List ℕ) (r : Reading slots) (rest : List ℕ) → IsRead bytes r rest → IsEnded r rest → IsRead (bytes ++ more) r (rest ++ more)
end_stays bytes more Nothing rest read e = absurd e
end_stays bytes more (InBase count pages) rest read e = absurd e
end_stays bytes more (InLog pages batches) rest read e =
    record {
      reading = read.reading;
      split = ap (λ (l : List ℕ). l ++ more) read.split ∙ append_assoc (bytes_of (InLog pages batches)) rest more;
      waits = waits_shut pages batches rest more e;
    }

ended_pages : {slots : ℕ} (r : Reading slots) (rest : List ℕ) → IsEnded r rest → HasAllPages r
ended_pages Nothing rest e = absurd e
ended_pages (InBase count pages) rest e = absurd e
ended_pages (InLog pages batches) rest e = tt

-- ---- the first bytes of a stream, which were read to its end or are all of it

abbrev pub AreEnough : ℕ → (bytes more : List ℕ) → Type 0
AreEnough slots bytes more = HasEnd slots bytes ⊎ (more ≡ [])

-- the base after the batches that came whole
abbrev made_of : {slots : ℕ} → Reading slots → Replaying
made_of (InLog pages log) = base_after pages log
made_of _ = record { cells = []; unended = []; skips = [] }

all_read : (slots : ℕ) (bytes more rest : List ℕ) (r : Reading slots) → more ≡ [] → IsRead (bytes ++ more) r rest → IsRead bytes r rest
all_read slots bytes more rest r none read = subst (λ (l : List ℕ). IsRead l r rest) (ap (λ (l : List ℕ). bytes ++ l) none ∙ append-nil bytes) read

-- they make the same store
one_store : OneReadingLaw → (slots batches other : ℕ) (bytes more : List ℕ) (v w : Replaying) → IsSlotCount slots → LeadsTo slots (bytes ++ more) batches v → LeadsTo slots bytes other w → AreEnough slots bytes more → w ≡ v
one_store one_reading slots batches other bytes more v w known whole part enough =
    ⊎_elim
    (λ (e : HasEnd slots bytes).
    let first = one_reading slots bytes part.rest e.1 (InLog part.pages part.log) e.0 known part.read e.2 in
    let second = one_reading slots (bytes ++ more) (e.1 ++ more) whole.rest e.0 (InLog whole.pages whole.log) known (end_stays bytes more e.0 e.1 e.2 e.3) whole.read in
    part.are ∙ ap (λ (r : Reading slots). made_of r) (first.0 ∙ second.0) ∙ sym whole.are)
    (λ (none : more ≡ []).
    let one = one_reading slots bytes part.rest whole.rest (InLog part.pages part.log) (InLog whole.pages whole.log) known part.read (all_read slots bytes more whole.rest (InLog whole.pages whole.log) none whole.read) in
    part.are ∙ ap (λ (r : Reading slots). made_of r) one.0 ∙ sym whole.are) enough

-- their pages are there
lacks_none : OneReadingLaw → (slots batches len : ℕ) (bytes more : List ℕ) (v : Replaying) → IsSlotCount slots → LeadsTo slots (bytes ++ more) batches v → AreEnough slots bytes more → LacksBase slots bytes len → ⊥
lacks_none one_reading slots batches len bytes more v known whole enough lacks =
    ⊎_elim
    (λ (e : HasEnd slots bytes).
    let one = one_reading slots bytes e.1 lacks.1 e.0 lacks.0 known e.2 lacks.2 in
    lacks.3 (subst (λ (r : Reading slots). HasAllPages r) one.0 (ended_pages e.0 e.1 e.3)))
    (λ (none : more ≡ []).
    let one = one_reading slots bytes whole.rest lacks.1 (InLog whole.pages whole.log) lacks.0 known (all_read slots bytes more whole.rest (InLog whole.pages whole.log) none whole.read) lacks.2 in
    lacks.3 (subst (λ (r : Reading slots). HasAllPages r) one.0 tt)) enough

-- ---- what can be undone isn't stuck

not_stuck : (slots : ℕ) (cells : List Cell) (pass : ℕ) (cs : List Change) (id : ℕ) → IsStuckAt slots cells pass cs id → CanAllBeUndone slots cells pass cs → ⊥
not_stuck slots cells pass [] id a can = a
not_stuck slots cells pass (c ∷ cs) id (inl a) can = a.0 can.0
not_stuck slots cells pass (c ∷ cs) id (inr a) can = not_stuck slots (after_record slots cells (undo_of cells pass c)) pass cs id a.1 can.1

goes_on : (slots : ℕ) (cells : List Cell) (us : List (ℕ × Unended)) (id : ℕ) → RestartsStuckAt slots cells us id → CanRestart slots cells us → ⊥
goes_on slots cells [] id a can = a
goes_on slots cells (e ∷ es) id (inl a) can = not_stuck slots cells e.0 (reverse e.1.changes) id a can.0
goes_on slots cells (e ∷ es) id (inr a) can = goes_on slots (after_records slots cells (undo_records slots cells e.0 (reverse e.1.changes))) es id a.1 can.1

-- ---- a stream whose store can be made

never_damaged : (slots at batches : ℕ) (bytes more : List ℕ) (cells : List Cell) → IsSlotCount slots → PromotesTo slots (bytes ++ more) batches cells → IsDamagedAt slots bytes at → ⊥
never_damaged slots at batches bytes more cells known p damaged =
    undamaged slots at (bytes ++ more) p.1.rest (InLog p.1.pages p.1.log) known p.1.read p.1.fit (stays_damaged slots bytes more at damaged)

never_unsound : OneReadingLaw → (slots id rule batches : ℕ) (bytes more : List ℕ) (cells : List Cell) → IsSlotCount slots → PromotesTo slots (bytes ++ more) batches cells → AreEnough slots bytes more → IsUnsoundAt slots bytes id rule → ⊥
never_unsound one_reading slots id rule batches bytes more cells known p enough u =
    let same = one_store one_reading slots batches u.0 bytes more p.0 u.1 known p.1 u.2 enough in
    let breaks : BreaksAt slots p.0 id rule = subst (λ (v : Replaying). BreaksAt slots v id rule) same u.3 in
    ⊎_elim (λ first. p.2.rules rule id first.breaks) (λ stuck. goes_on slots p.0.cells p.0.unended id stuck.1 p.2.restarts) breaks

-- ---- a source that tells such a stream

enough_of : (slots : ℕ) (bytes more : List ℕ) → IsReadThrough slots (Some more) bytes → AreEnough slots bytes more
enough_of slots bytes more through = through

pub no_damage : (slots at : ℕ) (left now : Option (List ℕ)) (bytes : List ℕ) → IsSlotCount slots → HasStream slots left → Consumes left now bytes → IsDamagedAt slots bytes at → ⊥
no_damage slots at None now bytes known has consumed damaged = has
no_damage slots at (Some whole) None bytes known has consumed damaged = consumed
no_damage slots at (Some whole) (Some more) bytes known has consumed damaged =
    never_damaged slots at has.0 bytes more has.1 known (subst (λ (l : List ℕ). PromotesTo slots l has.0 has.1) consumed has.2) damaged

pub no_lack : OneReadingLaw → (slots len : ℕ) (left now : Option (List ℕ)) (bytes : List ℕ) → IsSlotCount slots → HasStream slots left → Consumes left now bytes → IsReadThrough slots now bytes → LacksBase slots bytes len → ⊥
no_lack one_reading slots len None now bytes known has consumed through lacks = has
no_lack one_reading slots len (Some whole) None bytes known has consumed through lacks = consumed
no_lack one_reading slots len (Some whole) (Some more) bytes known has consumed through lacks =
    let p : PromotesTo slots (bytes ++ more) has.0 has.1 = subst (λ (l : List ℕ). PromotesTo slots l has.0 has.1) consumed has.2 in
    lacks_none one_reading slots has.0 len bytes more p.0 known p.1 (enough_of slots bytes more through) lacks

pub no_fault : OneReadingLaw → (slots id rule : ℕ) (left now : Option (List ℕ)) (bytes : List ℕ) → IsSlotCount slots → HasStream slots left → Consumes left now bytes → IsReadThrough slots now bytes → IsUnsoundAt slots bytes id rule → ⊥
no_fault one_reading slots id rule None now bytes known has consumed through unsound = has
no_fault one_reading slots id rule (Some whole) None bytes known has consumed through unsound = consumed
no_fault one_reading slots id rule (Some whole) (Some more) bytes known has consumed through unsound =
    never_unsound one_reading slots id rule has.0 bytes more has.1 known (subst (λ (l : List ℕ). PromotesTo slots l has.0 has.1) consumed has.2) (enough_of slots bytes more through) unsound
