use Rattle.std.proofs.Common.{◌≡◌, ◌+◌, ◌-◌, ◌^◌, ◌<◌, ◌≤◌, [], take, drop, length-take, sym, ◌∙◌, arith, rules}
use Rattle.std.specs.Prelude.{slice_index}
use Rattle.std.specs.Int.{w32, to_be_bytes}
use Rattle.store_opening.proofs.WalkLaws.{some_more, some_both}
use Rattle.log_printing.specs.Walks.{PrintsTo, PrintsAll, IsNoPlace}
use Rattle.log_printing.proofs.WindowLaws.{told_then}
use Rattle.log_printing.proofs.WalkLaws.{at_end, into_batch, no_room, no_body}
use Rattle.log_printing.proofs.walking.enter.Goals as goal

pub returns-then-byte-ne-OPEN-clause-found : goal.returns-then-byte-ne-OPEN-clause-found
returns-then-byte-ne-OPEN-clause-found g c slots =
    some_more (g.D.Disk.content c.args.disk.now c.args.log.area) (λ a. c.in-Ok.byte ≡ slice_index (take c.args.log.len a) c.args.at)
    (λ a. PrintsAll slots (take c.args.log.len a) (record { at = c.args.at; end = c.args.at }) [])
    (λ a is. at_end slots (take c.args.log.len a) c.args.at (λ one. c.if-byte-ne-OPEN.true (is ∙ one))) c.in-Ok.ensures.byte

pub returns-then-log-at-le-FRONT-clause-changed : goal.returns-then-log-at-le-FRONT-clause-changed
returns-then-log-at-le-FRONT-clause-changed g c slots place refused =
    let short : c.args.log.len - c.args.at ≤ 5 = search rules in
    some_more (g.D.Disk.content c.args.disk.now c.args.log.area) (λ a. c.in-Ok.byte ≡ slice_index (take c.args.log.len a) c.args.at)
    (λ a. IsNoPlace slots (take c.args.log.len a) (record { at = c.args.at; end = c.args.at }))
    (λ a is. no_room slots (take c.args.log.len a) c.args.at c.args.log.len (omega (arith, length-take c.args.log.len a)) (sym is ∙ c.if-byte-ne-OPEN.false) (omega (arith, short))) c.in-Ok.ensures.byte

pub returns-then-log-at-clause-changed : goal.returns-then-log-at-clause-changed
returns-then-log-at-clause-changed g c slots place refused =
    let size = c.in-Ok-size_at.size in
    let short : c.args.log.len - c.args.at - 5 ≤ size = search rules in
    let typed : size < 2 ^ 32 = search rules in
    let now = g.D.Disk.content c.args.disk.now c.args.log.area in
    some_both now (λ a. c.in-Ok.byte ≡ slice_index (take c.args.log.len a) c.args.at) (λ a. to_be_bytes w32 size ≡ take 4 (drop (c.args.at + 1) (take c.args.log.len a)))
    (λ a. IsNoPlace slots (take c.args.log.len a) (record { at = c.args.at; end = c.args.at }))
    (λ a is spelled. no_body slots (take c.args.log.len a) c.args.at size c.args.log.len (omega (arith, length-take c.args.log.len a)) (sym is ∙ c.if-byte-ne-OPEN.false) typed spelled (omega (arith, short)))
    c.in-Ok.ensures.byte
    (told_then now (g.D.Disk.content c.byte_at.new.disk c.args.log.area) (λ a. to_be_bytes w32 size ≡ take 4 (drop (c.args.at + 1) (take c.args.log.len a))) (c.byte_at.ensures.looks.keeps c.args.log.area).same c.in-Ok-size_at.ensures.size)

pub returns-clause-found : goal.returns-clause-found
returns-clause-found g c slots =
    let size = c.in-Ok-size_at.size in
    let typed : size < 2 ^ 32 = search rules in
    let now = g.D.Disk.content c.args.disk.now c.args.log.area in
    some_both now (λ a. c.in-Ok.byte ≡ slice_index (take c.args.log.len a) c.args.at) (λ a. to_be_bytes w32 size ≡ take 4 (drop (c.args.at + 1) (take c.args.log.len a)))
    (λ a. PrintsTo slots (take c.args.log.len a) (record { at = c.args.at; end = c.args.at }) (record { at = c.args.at + 5; end = c.args.at + 5 + size }) [])
    (λ a is spelled. into_batch slots (take c.args.log.len a) c.args.at size (sym is ∙ c.if-byte-ne-OPEN.false) typed spelled) c.in-Ok.ensures.byte
    (told_then now (g.D.Disk.content c.byte_at.new.disk c.args.log.area) (λ a. to_be_bytes w32 size ≡ take 4 (drop (c.args.at + 1) (take c.args.log.len a))) (c.byte_at.ensures.looks.keeps c.args.log.area).same c.in-Ok-size_at.ensures.size)
