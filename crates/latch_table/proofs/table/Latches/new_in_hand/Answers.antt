use Rattle.std.proofs.Common.{◌≡◌, ℕ, ◌+◌, length, replicate, set, ap, ◌∙◌, arith}
use Rattle.std.proofs.lemmas.List.{length-replicate}
use Rattle.atomic_table.specs.Seated.{TableId}
use Rattle.latch_table.specs.declared.content.Content.{Content}
use Rattle.latch_table.specs.declared.content.Content.TheVariants.{Away}
use Rattle.latch_table.proofs.FromFirst.{opens_held_from}
use Rattle.latch_table.proofs.Opens.{held_settled}
use Rattle.latch_table.proofs.table.Latches.new_in_hand.Goals as goal

pub new-requires : goal.new-requires
new-requires g c =
    let one : ℕ = 1 in
    let pages : c.len-pages.result ≡ length c.args.frames.now.items = omega (arith, c.len-pages.ensures) in
    opens_held_from g.J.Chronicle.account g.J.Chronicle.goes_on _ c.args.chronicle.now _ c.args.frames.now.items _ _
    c.of.ensures (ap (λ v. v.items) c.of-2.ensures) (c.as_slice.ensures.value ∙ c.in_ok-words.ensures ∙ ap (λ (n : ℕ). set (replicate (n + 2) one) (n + 1) 0) pages) (c.in_ok-slots.ensures ∙ ap (λ (n : ℕ). replicate (n + 1) Away) pages) g.met.J.Chronicle.begins_false c.requires.empty c.requires.agree

pub invariant_of-hold : goal.invariant_of-hold
invariant_of-hold g c =
    let nothing : Content g.row.J.Denot g.row.F.Denot = Away in
    let pages : c.len-pages.result ≡ length c.args.frames.now.items = omega (arith, c.len-pages.ensures) in
    let made = c.in-Ok.ensures.ok in
    let laid : length c.in_ok-slots.slots.items ≡ c.len-pages.result + 1 = ap (length {A = Content g.row.J.Denot g.row.F.Denot}) c.in_ok-slots.ensures ∙ length-replicate (c.len-pages.result + 1) nothing in
    held_settled g.J.Chronicle.account c.of.result.value c.args.chronicle.now c.of-2.result.value.items c.args.frames.now.items c.in-Ok.seat.table_id c.in-Ok.seat.me made.4
    c.of.ensures (ap (λ v. v.items) c.of-2.ensures) (ap (λ (t : TableId). t.slots) made.2 ∙ made.1 ∙ laid ∙ ap (λ (n : ℕ). n + 1) pages)
