use Rattle.std.proofs.Common.{◌≡◌, ℕ, ◌+◌, ◌<◌, ◌≤◌, ◌^◌, List, take, drop, Option, subst, sym, ◌∙◌, arith, rules}
use Rattle.std.specs.Prelude.{IfSome}
use Rattle.gate_log.specs.Batches.{most_bytes}
use Rattle.gate_log.specs.CommitBytes.{IsBatchAt, IsDamaged}
use Rattle.store_opening.proofs.WalkLaws.{some_more, some_both}
use Rattle.gate_log.proofs.CommitBytes.{HasRead, gather, no_batch_here, batch_at}
use Rattle.current_log.proofs.batch.read_batch.Goals as goal

pub returns-then-size-eq0-clause-damaged : goal.returns-then-size-eq0-clause-damaged
returns-then-size-eq0-clause-damaged g c place is =
    let has = gather (g.D.Disk.content c.args.disk.now c.args.area) (g.D.Disk.content c.len.new.self c.args.area) (g.D.Disk.content c.read_byte.new.disk c.args.area)
    c.args.at c.in_ok-len.len c.in_ok-read_byte.field-0 c.in_ok-size.size (c.len.ensures.keeps c.args.area).same (c.read_byte.ensures.looks.keeps c.args.area).same
    c.in_ok-len.ensures.len c.in_ok-read_byte.ensures.byte c.in_ok-size.ensures.size in
    let is_open : c.in_ok-read_byte.field-0 ≡ 1 = search rules in
    let inside : c.args.at < c.in_ok-len.len = search rules in
    let short : c.in_ok-len.len ≤ most_bytes = search rules in
    let fits : c.in_ok-size.size < 2 ^ 32 = search rules in
    let cut : 1 ≤ c.in_ok-size.size → c.in_ok-len.len < c.args.at + 5 + c.in_ok-size.size = λ some. let zero : c.in_ok-size.size ≡ 0 = search rules in absurd (omega (arith, some, zero)) in
    let at_place : c.args.at ≡ place = cc is in
    some_more (g.D.Disk.content c.args.disk.now c.args.area) (HasRead c.args.at c.in_ok-len.len c.in_ok-read_byte.field-0 c.in_ok-size.size) (IsDamaged c.args.at place)
    (λ area has_read. subst (λ (p : ℕ). IsDamaged c.args.at p area) at_place (no_batch_here c.args.at c.in_ok-len.len c.in_ok-read_byte.field-0 c.in_ok-size.size area has_read is_open inside short fits cut))
    has

pub returns-then-len-at-3-clause-damaged : goal.returns-then-len-at-3-clause-damaged
returns-then-len-at-3-clause-damaged g c place is =
    let has = gather (g.D.Disk.content c.args.disk.now c.args.area) (g.D.Disk.content c.len.new.self c.args.area) (g.D.Disk.content c.read_byte.new.disk c.args.area)
    c.args.at c.in_ok-len.len c.in_ok-read_byte.field-0 c.in_ok-size.size (c.len.ensures.keeps c.args.area).same (c.read_byte.ensures.looks.keeps c.args.area).same
    c.in_ok-len.ensures.len c.in_ok-read_byte.ensures.byte c.in_ok-size.ensures.size in
    let is_open : c.in_ok-read_byte.field-0 ≡ 1 = search rules in
    let inside : c.args.at < c.in_ok-len.len = search rules in
    let short : c.in_ok-len.len ≤ most_bytes = search rules in
    let fits : c.in_ok-size.size < 2 ^ 32 = search rules in
    let cut : 1 ≤ c.in_ok-size.size → c.in_ok-len.len < c.args.at + 5 + c.in_ok-size.size = λ some. search rules in
    let at_place : c.args.at ≡ place = cc is in
    some_more (g.D.Disk.content c.args.disk.now c.args.area) (HasRead c.args.at c.in_ok-len.len c.in_ok-read_byte.field-0 c.in_ok-size.size) (IsDamaged c.args.at place)
    (λ area has_read. subst (λ (p : ℕ). IsDamaged c.args.at p area) at_place (no_batch_here c.args.at c.in_ok-len.len c.in_ok-read_byte.field-0 c.in_ok-size.size area has_read is_open inside short fits cut))
    has

pub returns-clause-batch : goal.returns-clause-batch
returns-clause-batch g c =
    let has = gather (g.D.Disk.content c.args.disk.now c.args.area) (g.D.Disk.content c.len.new.self c.args.area) (g.D.Disk.content c.read_byte.new.disk c.args.area)
    c.args.at c.in_ok-len.len c.in_ok-read_byte.field-0 c.in_ok-size.size (c.len.ensures.keeps c.args.area).same (c.read_byte.ensures.looks.keeps c.args.area).same
    c.in_ok-len.ensures.len c.in_ok-read_byte.ensures.byte c.in_ok-size.ensures.size in
    let is_open : c.in_ok-read_byte.field-0 ≡ 1 = search rules in
    let inside : c.args.at < c.in_ok-len.len = search rules in
    let short : c.in_ok-len.len ≤ most_bytes = search rules in
    let fits : c.in_ok-size.size < 2 ^ 32 = search rules in
    let some : 1 ≤ c.in_ok-size.size = search rules in
    let body = subst (λ (o : Option (List ℕ)). IfSome o (λ area. c.in_ok-body.body.items ≡ take c.in_ok-size.size (drop (c.args.at + 5) area)))
    ((c.read_size.ensures.looks.keeps c.args.area).same ∙ (c.read_byte.ensures.looks.keeps c.args.area).same ∙ (c.len.ensures.keeps c.args.area).same)
    c.in_ok-body.ensures.body.1 in
    some_both (g.D.Disk.content c.args.disk.now c.args.area) (HasRead c.args.at c.in_ok-len.len c.in_ok-read_byte.field-0 c.in_ok-size.size)
    (λ area. c.in_ok-body.body.items ≡ take c.in_ok-size.size (drop (c.args.at + 5) area)) (IsBatchAt c.args.at c.in_ok-body.body.items)
    (λ area has_read is_body.
    batch_at c.args.at c.in_ok-size.size c.in_ok-body.body.items area (omega (arith, inside, has_read.len_is)) (sym has_read.byte_is ∙ is_open) has_read.size_is is_body
    c.in_ok-body.ensures.body.0 some fits)
    has body
