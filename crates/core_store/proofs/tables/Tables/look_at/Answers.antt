use Rattle.std.proofs.Common.{sym, ap, ◌∙◌}
use Rattle.core_store.specs.RoundView.{is_event}
use Rattle.core_store.specs.Views.{view_of}
use Rattle.core_store.proofs.LookOnLaws.{no-look, one-more}
use Rattle.core_store.proofs.PassLaws.{passed-none}
use Rattle.core_store.proofs.tables.Tables.look_at.Goals as goal

pub returns-in-Seed-clause-passed : goal.returns-in-Seed-clause-passed
returns-in-Seed-clause-passed g c = (one-more (view_of {slots = g.row.SLOTS} c.args.self.now) (view_of {slots = g.row.SLOTS} c.args.self.now) (view_of {slots = g.row.SLOTS} c.see_seed.new.self) c.args.held.now c.requires.standing (passed-none g.row.SLOTS (view_of {slots = g.row.SLOTS} c.args.self.now) c.args.held.now) (λ d h agree. ap (is_event d.cells) (sym c.requires.at ∙ c.in-Seed.is)) (λ d h agree. c.see_seed.ensures.seen d h)).passed

pub returns-in-Seed-clause-lower : goal.returns-in-Seed-clause-lower
returns-in-Seed-clause-lower g c e = (one-more (view_of {slots = g.row.SLOTS} c.args.self.now) (view_of {slots = g.row.SLOTS} c.args.self.now) (view_of {slots = g.row.SLOTS} c.see_seed.new.self) c.args.held.now c.requires.standing (passed-none g.row.SLOTS (view_of {slots = g.row.SLOTS} c.args.self.now) c.args.held.now) (λ d h agree. ap (is_event d.cells) (sym c.requires.at ∙ c.in-Seed.is)) (λ d h agree. c.see_seed.ensures.seen d h)).lower

pub returns-in-Queue-clause-passed : goal.returns-in-Queue-clause-passed
returns-in-Queue-clause-passed g c = passed-none g.row.SLOTS (view_of {slots = g.row.SLOTS} c.args.self.now) c.args.held.now

pub returns-in-Queue-clause-event : goal.returns-in-Queue-clause-event
returns-in-Queue-clause-event g c = record { next = c.requires.at; event = λ d h agree. no-look d.cells c.args.at c.in-Queue.is }
