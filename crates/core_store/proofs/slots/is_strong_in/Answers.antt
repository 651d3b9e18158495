use Rattle.std.proofs.Common.{rules, true, ◌≡◌, ◌≢◌, ℕ, ◌<◌, ◌≤◌, sym, ◌∙◌, subst, arith, ⊎_elim}
use Rattle.cell_page.specs.Format.{page_of_id}
use Rattle.core_store.specs.Frames.{is_held}
use Rattle.core_store.proofs.SlotReady.{first-of}
use Rattle.core_store.proofs.SlotStart.{old-of}
use Rattle.core_store.proofs.LookLaws.{beq-same, strong-look, null-look}
use Rattle.core_store.proofs.slots.is_strong_in.Goals as goal

pub cell-requires : goal.cell-requires
cell-requires g c =
    let r = c.requires.pages in
    let small : g.row.SLOTS ≤ 14 = ⊎_elim (λ six. omega arith) (λ fourteen. omega arith) c.requires.size in
    let old = old-of c.args.cell.now r.0 c.args.cell.now.id c.args.slot (c.requires.stored r.0 r.1) in
    let some = c.if-target-ne0.true in
    let page = subst (λ (n : ℕ). is_held c.args.held.now (page_of_id n) ≡ true) old (first-of (λ i. is_held c.args.held.now (page_of_id i) ≡ true) _ 0 r.3.1 (subst (λ (n : ℕ). n ≢ 0) (sym old) some)) in
    (search rules, (search rules, ((omega arith, subst (λ (n : ℕ). n < 65536) old (r.2 c.args.cell.now.id c.args.slot)), (page, (r.0, r.1)))))

pub pointer_bit-requires : goal.pointer_bit-requires
pointer_bit-requires g c =
    let small : g.row.SLOTS ≤ 14 = ⊎_elim (λ six. omega arith) (λ fourteen. omega arith) c.requires.size in
    (search rules, (c.requires.size, c.requires.work.change.0))

pub returns-then-target-ne0 : goal.returns-then-target-ne0
returns-then-target-ne0 g c cells agree =
    beq-same c.cell.result.now.bit c.pointer_bit.result
    ∙ strong-look cells c.args.cell.now.id c.args.slot _ c.args.cell.now c.cell.result.now c.pointer_bit.result (old-of c.args.cell.now cells c.args.cell.now.id c.args.slot (c.requires.stored cells agree)) c.if-target-ne0.true
    (c.cell.ensures.stored cells agree) (c.requires.stored cells agree) c.pointer_bit.ensures.model

pub returns-else-target-ne0 : goal.returns-else-target-ne0
returns-else-target-ne0 g c cells agree = null-look cells c.args.cell.now.id c.args.slot _ (old-of c.args.cell.now cells c.args.cell.now.id c.args.slot (c.requires.stored cells agree)) c.if-target-ne0.false
