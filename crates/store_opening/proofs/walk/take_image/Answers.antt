use Rattle.std.proofs.Common.{◌≡◌, ℕ, ◌-◌, ◌<◌, ◌≤◌, true, List, length, Err, ap, sym, subst, ◌∙◌, rules}
use Rattle.std.specs.Prelude.{slice_index}
use Rattle.std.proofs.lemmas.List.{length-set}
use Rattle.log_record.specs.declared.record.Record.{Record}
use Rattle.log_record.specs.declared.record.Record.TheVariants.{Image}
use Rattle.log_record.specs.Spelling.{BeginsWith}
use Rattle.log_replay.specs.Replays.{Replaying, FitsReplay}
use Rattle.log_replay.specs.declared.refusals.TakeRefusal.TheVariants.{Unfit}
use Rattle.store_opening.proofs.TakeLaws.{none_taken, refused, turn_refused, unawaited, first_within}
use Rattle.store_opening.proofs.walk.take_image.Goals as goal

pub returns-in_default-clause-unfit : goal.returns-in_default-clause-unfit
returns-in_default-clause-unfit g c is r len begins can = c.in_default.ensures.bad r len begins

pub returns-in-Ok-take-clause-within : goal.returns-in-Ok-take-clause-within
returns-in-Ok-take-clause-within g c = first_within c.args.bytes.now c.in-Ok.rec c.in-Ok.len c.in-Ok.ensures.ok

pub returns-in-Err-clause-unfit : goal.returns-in-Err-clause-unfit
returns-in-Err-clause-unfit g c is =
    none_taken c.requires.count c.args.bytes.now c.in-Ok.rec c.in-Ok.len c.args.walk.now.replay c.in-Ok.ensures.ok
    (refused c.args.walk.now.replay c.in-Ok.rec (λ fits. let same : c.in-Err.refusal ≡ Unfit = cc is in
    c.in-Err.ensures.unfit.1 (subst (λ r. FitsReplay c.args.walk.now.replay r) c.in-Image.is fits) (ap Err same)))

pub returns-then-not-is_awaited-clause-unfit : goal.returns-then-not-is_awaited-clause-unfit
returns-then-not-is_awaited-clause-unfit g c is =
    none_taken c.requires.count c.args.bytes.now c.in-Ok.rec c.in-Ok.len c.args.walk.now.replay c.in-Ok.ensures.ok
    (unawaited c.args.walk.now.replay c.in-Ok.rec c.in-Image.page c.in-Image.cells c.in-Image.is
    (λ both.
    let there : c.is_awaited.result ≡ true =
    c.is_awaited.ensures.1 (subst (λ (l : List ℕ). (c.in-Image.page < length l) × (1 ≤ slice_index l c.in-Image.page)) (sym (c.deref.ensures.value ∙ c.requires.same)) both) in
    absurd (cc there)))

pub returns-in-OfCells-clause-unfit : goal.returns-in-OfCells-clause-unfit
returns-in-OfCells-clause-unfit g c is =
    absurd (c.requires.none c.in-OfCells.field-0 c.in-Ok.len (subst (λ (r : Record g.row.SLOTS). BeginsWith c.args.bytes.now r c.in-Ok.len) c.in-OfCells.is c.in-Ok.ensures.ok))

pub returns-in-Turn-clause-unfit : goal.returns-in-Turn-clause-unfit
returns-in-Turn-clause-unfit g c is =
    none_taken c.requires.count c.args.bytes.now c.in-Ok.rec c.in-Ok.len c.args.walk.now.replay c.in-Ok.ensures.ok
    (turn_refused c.args.walk.now.replay c.in-Ok.rec c.in-Turn.version c.in-Turn.pages c.in-Turn.is)

pub returns-in-Ok-take-clause-took : goal.returns-in-Ok-take-clause-took
returns-in-Ok-take-clause-took g c =
    record {
      r = Image c.in-Image.page c.in-Image.cells;
      begins = subst (λ (r : Record g.row.SLOTS). BeginsWith c.args.bytes.now r c.in-Ok.len) c.in-Image.is c.in-Ok.ensures.ok;
      fits = (c.in-Ok-take.ensures.unfit.0 (λ e. cc e), search rules);
      are = c.in-Ok-take.ensures.ok;
      marked = c.image.ensures g.row.SLOTS c.in-Image.cells;
    }

pub returns-in-Ok-take-clause-as_many : goal.returns-in-Ok-take-clause-as_many
returns-in-Ok-take-clause-as_many g c =
    let skips = c.args.walk.now.replay.skips in
    let page = c.in-Image.page in
    (c.image.ensures g.row.SLOTS c.in-Image.cells).as_many ∙ c.requires.as_many ∙ sym (length-set skips page (slice_index skips page - 1)) ∙ ap (λ (v : Replaying). length v.skips) (sym c.in-Ok-take.ensures.ok)
