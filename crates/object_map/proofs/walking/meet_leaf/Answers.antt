use Rattle.std.proofs.Common.{◌≡◌, refl, sym, ap, ◌∙◌, subst, arith, Bool, true, false}
use Rattle.std.specs.Prelude.{not}
use Rattle.plain_model.specs.Machine.{is_stored}
use Rattle.object_map.specs.Clients.{seen}
use Rattle.object_map.specs.Maps.{IsLeaf, payload_of}
use Rattle.object_map.specs.Broken.{IsFirst, IsMet}
use Rattle.object_map.specs.Broken.BreaksLeaf.{leaf_points, leaf_shares}
use Rattle.object_map.specs.Seen.{at}
use Rattle.object_map.specs.Walking.Refuses.{denies, starves, falls}
use Rattle.object_map.proofs.AskLaws.{asks_then, out}
use Rattle.object_map.proofs.LookLaws.{still_held, leaf_is, cell_is, here_slot}
use Rattle.object_map.proofs.GrowLaws.{no_leaf, no_cell, no_fresh}
use Rattle.object_map.proofs.WalkLaws.{looks_then, falls_looked}
use Rattle.object_map.proofs.WayLaws.{held_some}
use Rattle.object_map.proofs.BrokenLaws.{leaf_first, value_first}
use Rattle.object_map.proofs.FirstLaws.{leaf_keeps}
use Rattle.object_map.proofs.BlameLaws.{same_name, memory_names, falls_names}
use Rattle.object_map.proofs.walking.meet_leaf.Goals as goal

pub know_held-requires-clause-full : goal.know_held-requires-clause-full
know_held-requires-clause-full g c κs within = held_some (seen c.args.client.now) 2 c.args.cell c.requires.cell

pub has_only-requires-clause-full : goal.has_only-requires-clause-full
has_only-requires-clause-full g c κs within = held_some (seen c.args.client.now) 1 c.args.id c.requires.leaf

-- another slot of the leaf isn't null
pub returns-then-not-branch-clause-refused : goal.returns-then-not-branch-clause-refused
returns-then-not-branch-clause-refused g c = λ below.
    let t = c.in_ok-has_only.ensures.other c.if-not-branch.true in
    denies c.args.id refl (no_leaf (at (seen c.args.client.now)) c.args.id below t.0 c.args.cells.now.keys (λ z. c.requires.named (sym c.requires.names ∙ z)) t.1.0 (λ z. t.1.2 (here_slot (seen c.args.client.now) (seen c.args.client.now) 1 c.args.id t.0 refl c.requires.leaf ∙ z))) c.in_ok-has_only.ensures.scans.look

-- the cell was met before
was_met : (a b : Bool) → a ≡ not b → b ≡ false → a ≡ true
was_met a b e f = e ∙ ap (λ x. not x) f

pub returns-then-not-branch-2-clause-refused : goal.returns-then-not-branch-2-clause-refused
returns-then-not-branch-2-clause-refused g c = λ below. denies c.args.id refl (no_fresh (at (seen c.args.client.now)) c.args.id c.args.cell below c.args.cells.now.keys c.requires.names c.requires.named (was_met (is_stored c.args.cells.now.keys c.args.cell) c.in_ok-meet.field-0 c.in_ok-meet.ensures.fresh c.if-not-branch-2.true)) c.in_ok-has_only.ensures.scans.look

pub has_only-requires-2-clause-full : goal.has_only-requires-2-clause-full
has_only-requires-2-clause-full g c κs within = still_held (seen c.args.client.now) (seen c.has_only.new.client) 2 (c.in_ok-has_only.ensures.scans.others 2 (λ z. absurd (omega (arith, z)))) (held_some (seen c.args.client.now) 2 c.args.cell c.requires.cell)

-- a slot of the cell isn't null
pub returns-then-not-branch-3-clause-refused : goal.returns-then-not-branch-3-clause-refused
returns-then-not-branch-3-clause-refused g c = λ below.
    let s = c.in_ok-has_only.ensures.scans in
    let t = c.in_ok-has_only-2.ensures.other c.if-not-branch-3.true in
    denies c.args.cell refl (no_cell (at (seen c.args.client.now)) c.args.id c.args.cell below t.0 c.args.cells.now.keys c.requires.names c.requires.named (λ z. t.1.2 (here_slot (seen c.args.client.now) (seen c.has_only.new.client) 2 c.args.cell t.0 s.look.graph (s.others 2 (λ y. absurd (omega (arith, y))) ∙ c.requires.cell) ∙ z))) (looks_then s.look c.in_ok-has_only-2.ensures.scans.look)

pub returns-clause-is_leaf : goal.returns-clause-is_leaf
returns-clause-is_leaf g c = leaf_is (seen c.args.client.now) c.args.id c.args.cell c.requires.leaf c.requires.names c.requires.named (c.in_ok-has_only.ensures.null c.if-not-branch.false)

pub returns-clause-is_cell : goal.returns-clause-is_cell
returns-clause-is_cell g c =
    let s = c.in_ok-has_only.ensures.scans in
    cell_is (seen c.args.client.now) (seen c.has_only.new.client) c.args.cell c.requires.cell (s.others 2 (λ y. absurd (omega (arith, y)))) s.look.graph c.know_held.ensures (c.in_ok-has_only-2.ensures.null c.if-not-branch-3.false)

pub returns-clause-fresh : goal.returns-clause-fresh
returns-clause-fresh g c = c.in_ok-meet.ensures.fresh ∙ ap (λ x. not x) c.if-not-branch-2.false

pub returns-clause-looks : goal.returns-clause-looks
returns-clause-looks g c = looks_then c.in_ok-has_only.ensures.scans.look c.in_ok-has_only-2.ensures.scans.look

pub returns-in_err-has_only-clause-refused : goal.returns-in_err-has_only-clause-refused
returns-in_err-has_only-clause-refused g c = out c.from_residual.result _ c.from_residual.ensures.1 (λ below. falls c.in_err-has_only.ensures.refused)

pub returns-in_err-meet-clause-refused : goal.returns-in_err-meet-clause-refused
returns-in_err-meet-clause-refused g c = out c.from_residual-in_err-meet.result _ c.from_residual-in_err-meet.ensures.1 (λ below. starves c.in_err-meet.ensures.starved c.in_ok-has_only.ensures.scans.look)

pub returns-in_err-has_only-2-clause-refused : goal.returns-in_err-has_only-2-clause-refused
returns-in_err-has_only-2-clause-refused g c = out c.from_residual-in_err-has_only-2.result _ c.from_residual-in_err-has_only-2.ensures.1 (λ below. falls (falls_looked c.in_ok-has_only.ensures.scans.look c.in_err-has_only-2.ensures.refused))

-- ---- the first object that breaks its sentence

-- another slot of the leaf isn't null
pub returns-then-not-branch-clause-first : goal.returns-then-not-branch-clause-first
returns-then-not-branch-clause-first g c = λ below d e.
    let t = c.in_ok-has_only.ensures.other c.if-not-branch.true in
    subst (IsFirst (at (seen c.args.client.now)) (IsMet c.args.cells.now.keys) below c.args.id) (same_name c.args.id d e)
    (leaf_first (at (seen c.args.client.now)) (IsMet c.args.cells.now.keys) below c.args.id c.requires.there (λ z. c.requires.named (sym c.requires.names ∙ z))
    (leaf_points t.0 t.1.0 (λ z. t.1.2 (here_slot (seen c.args.client.now) (seen c.args.client.now) 1 c.args.id t.0 refl c.requires.leaf ∙ z))))

pub returns-then-not-branch-2-clause-first : goal.returns-then-not-branch-2-clause-first
returns-then-not-branch-2-clause-first g c = λ below d e.
    let met : IsMet c.args.cells.now.keys c.args.cell = was_met (is_stored c.args.cells.now.keys c.args.cell) c.in_ok-meet.field-0 c.in_ok-meet.ensures.fresh c.if-not-branch-2.true in
    subst (IsFirst (at (seen c.args.client.now)) (IsMet c.args.cells.now.keys) below c.args.id) (same_name c.args.id d e)
    (leaf_first (at (seen c.args.client.now)) (IsMet c.args.cells.now.keys) below c.args.id c.requires.there (λ z. c.requires.named (sym c.requires.names ∙ z)) (leaf_shares (subst (IsMet c.args.cells.now.keys) (sym c.requires.names) met)))

pub returns-then-not-branch-3-clause-first : goal.returns-then-not-branch-3-clause-first
returns-then-not-branch-3-clause-first g c = λ below d e.
    let s = c.in_ok-has_only.ensures.scans in
    let t = c.in_ok-has_only-2.ensures.other c.if-not-branch-3.true in
    let l : IsLeaf (at (seen c.args.client.now) c.args.id) (payload_of (at (seen c.args.client.now) c.args.id)) c.args.cell = leaf_is (seen c.args.client.now) c.args.id c.args.cell c.requires.leaf c.requires.names c.requires.named (c.in_ok-has_only.ensures.null c.if-not-branch.false) in
    let free : is_stored c.args.cells.now.keys c.args.cell ≡ false = c.in_ok-meet.ensures.fresh ∙ ap (λ x. not x) c.if-not-branch-2.false in
    subst (IsFirst (at (seen c.args.client.now)) (IsMet c.args.cells.now.keys) below c.args.id) (same_name c.args.cell d e)
    (value_first (at (seen c.args.client.now)) (IsMet c.args.cells.now.keys) below c.args.id c.args.cell t.0 c.requires.there c.requires.names c.requires.named (leaf_keeps (at (seen c.args.client.now)) c.args.id (payload_of (at (seen c.args.client.now) c.args.id)) c.args.cell c.args.cells.now.keys l free)
    (λ z. t.1.2 (here_slot (seen c.args.client.now) (seen c.has_only.new.client) 2 c.args.cell t.0 s.look.graph (s.others 2 (λ y. absurd (omega (arith, y))) ∙ c.requires.cell) ∙ z)))

pub returns-in_err-has_only-clause-first : goal.returns-in_err-has_only-clause-first
returns-in_err-has_only-clause-first g c = out c.from_residual.result _ c.from_residual.ensures.1 (λ below d e. absurd (falls_names c.in_err-has_only.ensures.refused d e))

pub returns-in_err-meet-clause-first : goal.returns-in_err-meet-clause-first
returns-in_err-meet-clause-first g c = out c.from_residual-in_err-meet.result _ c.from_residual-in_err-meet.ensures.1 (λ below d e. absurd (memory_names d (sym c.in_err-meet.ensures.starved ∙ e)))

pub returns-in_err-has_only-2-clause-first : goal.returns-in_err-has_only-2-clause-first
returns-in_err-has_only-2-clause-first g c = out c.from_residual-in_err-has_only-2.result _ c.from_residual-in_err-has_only-2.ensures.1 (λ below d e. absurd (falls_names c.in_err-has_only-2.ensures.refused d e))

pub returns-clause-asks : goal.returns-clause-asks
returns-clause-asks g c = asks_then c.in_ok-has_only.ensures.asks c.in_ok-has_only-2.ensures.asks
