use Rattle.std.proofs.Common.{◌≡◌, ℕ, ◌-◌, ◌*◌, List, length, refl, sym, ap, ◌∙◌, subst, arith, Some}
use Rattle.cell_model.specs.Cells.{Cell as StoredCell}
use Rattle.restart_laws.specs.Restored.{CanBeUndone}
use Rattle.log_replay.specs.Replays.{Replaying}
use Rattle.log_replay.specs.Placed.{IsStoreChange}
use Rattle.log_replay.specs.Steps.{change_by}
use Rattle.log_replay.specs.Finishes.{change_to_undo}
use Rattle.log_replay.proofs.FinishLaws.{change-is}
use Rattle.log_replay.proofs.PlacedLaws.{first_last, first_client, first_placed}
use Rattle.log_replay.proofs.replay.Replay.finish.Goals as goal

pub returns-in_default-clause-done : goal.returns-in_default-clause-done
returns-in_default-clause-done g c = (sym (ap (λ (u : Replaying). u.unended) c.self.view_is) ∙ c.in_default.ensures.none, refl)

pub can_undo-requires : goal.can_undo-requires
can_undo-requires g c =
    let i = c.self.invariant in
    let m = i.most in
    let s = i.sized in
    let placed = first_placed g.row.SLOTS (8 * length c.self.inside.skip.items) c.self.inside.unended.entries c.in-Some.pass c.in-Some.last c.in-Some-last.write c.in-Some.ensures.some c.in-Some-last.is i.placed in
    let e : 8 * length c.self.inside.skip.items ≡ length c.self.inside.pages - 1 = omega (arith, s) in
    (omega arith, (i.slot_count, (omega (arith, m, s), subst (λ (n : ℕ). IsStoreChange g.row.SLOTS n (change_by c.in-Some-last.write)) e placed)))

pub returns-then-not-can_undo-clause-refused : goal.returns-then-not-can_undo-clause-refused
returns-then-not-can_undo-clause-refused g c =
    let f = c.in-Some.ensures.some in
    let w = c.in-Some-last.write in
    let us = ap (λ (u : Replaying). u.unended) c.self.view_is in
    let cells = ap (λ (u : Replaying). u.cells) c.self.view_is in
    let last = first_last c.self.inside.unended.entries c.in-Some.pass c.in-Some.last w f c.in-Some-last.is in (
      change_by w,
      ap change_to_undo (sym us) ∙ change-is c.self.inside.unended.entries f.rest f.entry (Some (change_by w)) f.split last,
      refl,
      λ (h : CanBeUndone c.args.self.now.cells (change_by w)).
          let t = c.can_undo.ensures.1 (subst (λ (cs : List StoredCell). CanBeUndone cs (change_by w)) (sym cells) h) in
          let n = c.if-not-can_undo.true in
          absurd (cc),
    )

pub undo_record-r-requires : goal.undo_record-r-requires
undo_record-r-requires g c =
    let i = c.self.invariant in
    let m = i.most in
    let s = i.sized in
    let f = c.in-Some.ensures.some in
    let w = c.in-Some-last.write in
    let ids = 8 * length c.self.inside.skip.items in
    let client = first_client g.row.SLOTS ids c.self.inside.unended.entries c.in-Some.pass c.in-Some.last f i.placed in
    let placed = first_placed g.row.SLOTS ids c.self.inside.unended.entries c.in-Some.pass c.in-Some.last w f c.in-Some-last.is i.placed in
    let e : ids ≡ length c.self.inside.pages - 1 = omega (arith, s) in
    (omega arith, (i.slot_count, (omega (arith, m, s), (client, (subst (λ (n : ℕ). IsStoreChange g.row.SLOTS n (change_by w)) e placed, c.can_undo.ensures.0 c.if-not-can_undo.false)))))
