use Rattle.std.proofs.Common.{◌≤◌, rules}
use Rattle.core_store.specs.JournalView.{cells_of}
use Rattle.ship_stream.specs.Reading.{base_bytes}
use Rattle.stream_writing.specs.Base.{pages_in}
use Rattle.stream_writing.proofs.BackupLaws.{are_pages, is_base, few_slots}
use Rattle.stream_writing.proofs.backup.back_up.Goals as goal

pub know_pages-requires : goal.know_pages-requires
know_pages-requires g c =
    let known = c.frames-frames.ensures.size.1 in
    let few : g.row.SLOTS ≤ 14 = few_slots g.row.SLOTS known in
    (search rules, (c.frames-frames.ensures.few, are_pages (cells_of c.turn.new.self.journal) c.frames-frames.result.now c.frames-frames.ensures.agree))

pub write_base-requires : goal.write_base-requires
write_base-requires g c =
    let known = c.frames-frames.ensures.size.1 in
    let few : g.row.SLOTS ≤ 14 = few_slots g.row.SLOTS known in
    (search rules, (known, (c.frames-frames.ensures.few, are_pages (cells_of c.turn.new.self.journal) c.frames-frames.result.now c.frames-frames.ensures.agree)))

pub returns-in-Ok-clause-base : goal.returns-in-Ok-clause-base
returns-in-Ok-clause-base g c =
    (base_bytes _ (pages_in c.frames-frames.result.now), is_base c.turn.new.self.journal c.frames-frames.result.now c.frames-frames.ensures c.know_pages.ensures, c.in-Ok.ensures.ok)

pub returns-in-Ok-clause-turned : goal.returns-in-Ok-clause-turned
returns-in-Ok-clause-turned g c = record { turns = c.turn.ensures.done c.in-Done.is; images = c.turn.ensures.turned c.in-Done.is }

pub returns-in-Err-clause-write : goal.returns-in-Err-clause-write
returns-in-Err-clause-write g c e =
    (base_bytes _ (pages_in c.frames-frames.result.now), is_base c.turn.new.self.journal c.frames-frames.result.now c.frames-frames.ensures c.know_pages.ensures, c.in-Err.ensures.front)

pub returns-in-Err-clause-turned_too : goal.returns-in-Err-clause-turned_too
returns-in-Err-clause-turned_too g c e = record { turns = c.turn.ensures.done c.in-Done.is; images = c.turn.ensures.turned c.in-Done.is }
