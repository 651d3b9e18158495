use Rattle.std.proofs.Common.{◌≡◌, sym, ap, ◌∙◌, not}
use Rattle.object_map.specs.Clients.{seen}
use Rattle.object_map.specs.Maps.{slot_of}
use Rattle.object_map.specs.Seen.{at}
use Rattle.object_map.specs.Telling.{AreTold, Tells}
use Rattle.object_map.specs.Walking.{Looks}
use Rattle.object_map.specs.Walking.Refuses.{starves, falls}
use Rattle.object_map.proofs.AskLaws.{out}
use Rattle.object_map.proofs.GrowLaws.{moved, moved_on}
use Rattle.object_map.proofs.GuideLaws.{clear_high}
use Rattle.object_map.proofs.WalkLaws.{looks_none, looks_then, looks_once, looks_payload, falls_looked, refuses_after}
use Rattle.object_map.proofs.TellLaws.{null_tells, leaf_joins, climb_tells, met_tells, told_below, inner_joins, FoundAt, found_at, side_found, found_later, low_reached, high_reached}
use Rattle.object_map.proofs.telling.+tell.Goals as goal

pub returns-then-id-eq0-clause-tells : goal.returns-then-id-eq0-clause-tells
returns-then-id-eq0-clause-tells g t c = null_tells (at (seen c.args.client.now)) c.args.below c.args.id c.args.told.now.keys c.args.span c.requires.told c.if-id-eq0.true

pub returns-then-id-eq0-clause-looks : goal.returns-then-id-eq0-clause-looks
returns-then-id-eq0-clause-looks g t c = looks_none c.args.client.now

pub reach-requires-clause-way : goal.reach-requires-clause-way
reach-requires-clause-way g t c κs within = (c.args.below, c.requires.way c.if-id-eq0.false)

-- ---- a leaf, or an inner object that is passed over

pub returns-then-cell-ne0-clause-tells : goal.returns-then-cell-ne0-clause-tells
returns-then-cell-ne0-clause-tells g t c =
    let f : FoundAt (seen c.args.client.now) (seen c.read.new.self) c.args.id c.in_ok-payload.payload c.in_ok-cell.cell = found_at (seen c.args.client.now) (seen c.reach.new.client) (seen c.get_pay.new.self) (seen c.read.new.self) c.args.id c.in_ok-payload.payload c.in_ok-cell.cell c.in_ok-reach.ensures.looks.graph c.in_ok-reach.ensures.here c.in_ok-payload.ensures.same c.in_ok-payload.ensures.ok c.in_ok-cell.ensures.ok c.in_ok-cell.ensures.loads in
    leaf_joins (at (seen c.args.client.now)) c.args.below c.args.id c.in_ok-payload.payload c.args.told.now.keys c.args.span c.widen.result c.requires.told c.if-id-eq0.false (λ z. c.if-cell-ne0.true (f.names ∙ z)) f.number c.widen.ensures.here c.widen.ensures.kept c.widen.ensures.ends

pub returns-then-cell-ne0-clause-looks : goal.returns-then-cell-ne0-clause-looks
returns-then-cell-ne0-clause-looks g t c =
    let l2 : Looks c.args.client.now c.get_pay.new.self = looks_then c.in_ok-reach.ensures.looks (looks_payload c.in_ok-payload.ensures.asks c.in_ok-payload.ensures.same) in
    let l3 : Looks c.args.client.now c.read.new.self = looks_then l2 (looks_once c.in_ok-cell.ensures.asks c.in_ok-cell.ensures.loads.graph) in
    l3

pub returns-then-payload-below-clause-tells : goal.returns-then-payload-below-clause-tells
returns-then-payload-below-clause-tells g t c =
    let f : FoundAt (seen c.args.client.now) (seen c.read.new.self) c.args.id c.in_ok-payload.payload c.in_ok-cell.cell = found_at (seen c.args.client.now) (seen c.reach.new.client) (seen c.get_pay.new.self) (seen c.read.new.self) c.args.id c.in_ok-payload.payload c.in_ok-cell.cell c.in_ok-reach.ensures.looks.graph c.in_ok-reach.ensures.here c.in_ok-payload.ensures.same c.in_ok-payload.ensures.ok c.in_ok-cell.ensures.ok c.in_ok-cell.ensures.loads in
    let z : slot_of (at (seen c.args.client.now) c.args.id) 2 ≡ 0 = sym f.names ∙ c.if-cell-ne0.false in
    climb_tells (at (seen c.args.client.now)) c.args.below c.args.id c.in_ok-payload.payload c.args.told.now.keys c.args.span c.requires.told z f.number c.if-payload-below.true

pub returns-then-payload-below-clause-looks : goal.returns-then-payload-below-clause-looks
returns-then-payload-below-clause-looks g t c =
    let l2 : Looks c.args.client.now c.get_pay.new.self = looks_then c.in_ok-reach.ensures.looks (looks_payload c.in_ok-payload.ensures.asks c.in_ok-payload.ensures.same) in
    let l3 : Looks c.args.client.now c.read.new.self = looks_then l2 (looks_once c.in_ok-cell.ensures.asks c.in_ok-cell.ensures.loads.graph) in
    l3

pub returns-then-not-branch-clause-tells : goal.returns-then-not-branch-clause-tells
returns-then-not-branch-clause-tells g t c =
    let f : FoundAt (seen c.args.client.now) (seen c.read.new.self) c.args.id c.in_ok-payload.payload c.in_ok-cell.cell = found_at (seen c.args.client.now) (seen c.reach.new.client) (seen c.get_pay.new.self) (seen c.read.new.self) c.args.id c.in_ok-payload.payload c.in_ok-cell.cell c.in_ok-reach.ensures.looks.graph c.in_ok-reach.ensures.here c.in_ok-payload.ensures.same c.in_ok-payload.ensures.ok c.in_ok-cell.ensures.ok c.in_ok-cell.ensures.loads in
    let z : slot_of (at (seen c.args.client.now) c.args.id) 2 ≡ 0 = sym f.names ∙ c.if-cell-ne0.false in
    met_tells (at (seen c.args.client.now)) c.args.below c.args.id c.in_ok-payload.payload c.args.told.now.keys c.meet.new.cells.keys c.args.span c.requires.told z f.number c.if-payload-below.false (c.in_ok-meet.ensures.fresh ∙ ap (λ b. not b) c.if-not-branch.true) c.in_ok-meet.ensures.met

pub returns-then-not-branch-clause-looks : goal.returns-then-not-branch-clause-looks
returns-then-not-branch-clause-looks g t c =
    let l2 : Looks c.args.client.now c.get_pay.new.self = looks_then c.in_ok-reach.ensures.looks (looks_payload c.in_ok-payload.ensures.asks c.in_ok-payload.ensures.same) in
    let l3 : Looks c.args.client.now c.read.new.self = looks_then l2 (looks_once c.in_ok-cell.ensures.asks c.in_ok-cell.ensures.loads.graph) in
    l3

-- ---- what is under its slots

pub tell-requires-clause-way : goal.tell-requires-clause-way
tell-requires-clause-way g t c κs within =
    let f : FoundAt (seen c.args.client.now) (seen c.read.new.self) c.args.id c.in_ok-payload.payload c.in_ok-cell.cell = found_at (seen c.args.client.now) (seen c.reach.new.client) (seen c.get_pay.new.self) (seen c.read.new.self) c.args.id c.in_ok-payload.payload c.in_ok-cell.cell c.in_ok-reach.ensures.looks.graph c.in_ok-reach.ensures.here c.in_ok-payload.ensures.same c.in_ok-payload.ensures.ok c.in_ok-cell.ensures.ok c.in_ok-cell.ensures.loads in
    let low : c.in_ok-low.low ≡ slot_of (at (seen c.args.client.now) c.args.id) 0 = side_found (seen c.args.client.now) (seen c.read.new.self) c.args.id c.in_ok-payload.payload c.in_ok-cell.cell 0 c.in_ok-low.low f c.in_ok-low.ensures.ok in
    let f2 : FoundAt (seen c.args.client.now) (seen c.read-2.new.self) c.args.id c.in_ok-payload.payload c.in_ok-cell.cell = found_later (seen c.args.client.now) (seen c.read.new.self) (seen c.read-2.new.self) c.args.id c.in_ok-payload.payload c.in_ok-cell.cell c.in_ok-low.low f c.in_ok-low.ensures.loads in
    let high : c.in_ok-high.high ≡ slot_of (at (seen c.args.client.now) c.args.id) 1 = side_found (seen c.args.client.now) (seen c.read-2.new.self) c.args.id c.in_ok-payload.payload c.in_ok-cell.cell 1 c.in_ok-high.high f2 c.in_ok-high.ensures.ok in
    let l2 : Looks c.args.client.now c.get_pay.new.self = looks_then c.in_ok-reach.ensures.looks (looks_payload c.in_ok-payload.ensures.asks c.in_ok-payload.ensures.same) in
    let l3 : Looks c.args.client.now c.read.new.self = looks_then l2 (looks_once c.in_ok-cell.ensures.asks c.in_ok-cell.ensures.loads.graph) in
    let l4 : Looks c.args.client.now c.read-2.new.self = looks_then l3 (looks_once c.in_ok-low.ensures.asks c.in_ok-low.ensures.loads.graph) in
    let l5 : Looks c.args.client.now c.read-3.new.self = looks_then l4 (looks_once c.in_ok-high.ensures.asks c.in_ok-high.ensures.loads.graph) in
    low_reached (seen c.args.client.now) (seen c.read-3.new.self) c.args.guide c.args.below c.in_ok-payload.payload c.args.id c.in_ok-low.low l5.graph (c.requires.way c.if-id-eq0.false) c.if-payload-below.false f.number low (c.requires.clear c.in_ok-payload.payload c.if-payload-below.false)

pub tell-requires-clause-told : goal.tell-requires-clause-told
tell-requires-clause-told g t c κs within =
    let f : FoundAt (seen c.args.client.now) (seen c.read.new.self) c.args.id c.in_ok-payload.payload c.in_ok-cell.cell = found_at (seen c.args.client.now) (seen c.reach.new.client) (seen c.get_pay.new.self) (seen c.read.new.self) c.args.id c.in_ok-payload.payload c.in_ok-cell.cell c.in_ok-reach.ensures.looks.graph c.in_ok-reach.ensures.here c.in_ok-payload.ensures.same c.in_ok-payload.ensures.ok c.in_ok-cell.ensures.ok c.in_ok-cell.ensures.loads in
    let l2 : Looks c.args.client.now c.get_pay.new.self = looks_then c.in_ok-reach.ensures.looks (looks_payload c.in_ok-payload.ensures.asks c.in_ok-payload.ensures.same) in
    let l3 : Looks c.args.client.now c.read.new.self = looks_then l2 (looks_once c.in_ok-cell.ensures.asks c.in_ok-cell.ensures.loads.graph) in
    let l4 : Looks c.args.client.now c.read-2.new.self = looks_then l3 (looks_once c.in_ok-low.ensures.asks c.in_ok-low.ensures.loads.graph) in
    let l5 : Looks c.args.client.now c.read-3.new.self = looks_then l4 (looks_once c.in_ok-high.ensures.asks c.in_ok-high.ensures.loads.graph) in
    moved_on (seen c.args.client.now) (seen c.read-3.new.self) (λ h. AreTold h c.in_ok-payload.payload c.meet.new.cells.keys c.args.span) l5.graph
    (told_below (at (seen c.args.client.now)) c.args.below c.args.id c.in_ok-payload.payload c.args.told.now.keys c.meet.new.cells.keys c.args.span c.requires.told f.number c.if-payload-below.false c.in_ok-meet.ensures.met)

pub tell-requires-2-clause-clear : goal.tell-requires-2-clause-clear
tell-requires-2-clause-clear g t c κs within = clear_high c.args.guide c.args.below c.in_ok-payload.payload c.if-payload-below.false c.requires.few c.requires.clear

pub tell-requires-2-clause-way : goal.tell-requires-2-clause-way
tell-requires-2-clause-way g t c κs within =
    let f : FoundAt (seen c.args.client.now) (seen c.read.new.self) c.args.id c.in_ok-payload.payload c.in_ok-cell.cell = found_at (seen c.args.client.now) (seen c.reach.new.client) (seen c.get_pay.new.self) (seen c.read.new.self) c.args.id c.in_ok-payload.payload c.in_ok-cell.cell c.in_ok-reach.ensures.looks.graph c.in_ok-reach.ensures.here c.in_ok-payload.ensures.same c.in_ok-payload.ensures.ok c.in_ok-cell.ensures.ok c.in_ok-cell.ensures.loads in
    let low : c.in_ok-low.low ≡ slot_of (at (seen c.args.client.now) c.args.id) 0 = side_found (seen c.args.client.now) (seen c.read.new.self) c.args.id c.in_ok-payload.payload c.in_ok-cell.cell 0 c.in_ok-low.low f c.in_ok-low.ensures.ok in
    let f2 : FoundAt (seen c.args.client.now) (seen c.read-2.new.self) c.args.id c.in_ok-payload.payload c.in_ok-cell.cell = found_later (seen c.args.client.now) (seen c.read.new.self) (seen c.read-2.new.self) c.args.id c.in_ok-payload.payload c.in_ok-cell.cell c.in_ok-low.low f c.in_ok-low.ensures.loads in
    let high : c.in_ok-high.high ≡ slot_of (at (seen c.args.client.now) c.args.id) 1 = side_found (seen c.args.client.now) (seen c.read-2.new.self) c.args.id c.in_ok-payload.payload c.in_ok-cell.cell 1 c.in_ok-high.high f2 c.in_ok-high.ensures.ok in
    let l2 : Looks c.args.client.now c.get_pay.new.self = looks_then c.in_ok-reach.ensures.looks (looks_payload c.in_ok-payload.ensures.asks c.in_ok-payload.ensures.same) in
    let l3 : Looks c.args.client.now c.read.new.self = looks_then l2 (looks_once c.in_ok-cell.ensures.asks c.in_ok-cell.ensures.loads.graph) in
    let l4 : Looks c.args.client.now c.read-2.new.self = looks_then l3 (looks_once c.in_ok-low.ensures.asks c.in_ok-low.ensures.loads.graph) in
    let l5 : Looks c.args.client.now c.read-3.new.self = looks_then l4 (looks_once c.in_ok-high.ensures.asks c.in_ok-high.ensures.loads.graph) in
    let l6 : Looks c.args.client.now c.tell.new.client = looks_then l5 c.in_ok-wider.ensures.looks in
    high_reached (seen c.args.client.now) (seen c.tell.new.client) c.args.guide c.args.below c.in_ok-payload.payload c.args.id c.in_ok-high.high l6.graph (c.requires.way c.if-id-eq0.false) c.if-payload-below.false c.requires.few f.number high

pub tell-requires-2-clause-told : goal.tell-requires-2-clause-told
tell-requires-2-clause-told g t c κs within =
    moved_on (seen c.read-3.new.self) (seen c.tell.new.client) (λ h. AreTold h c.in_ok-payload.payload c.tell.new.told.keys c.in_ok-wider.wider) c.in_ok-wider.ensures.looks.graph c.in_ok-wider.ensures.tells.told

pub returns-clause-tells : goal.returns-clause-tells
returns-clause-tells g t c =
    let f : FoundAt (seen c.args.client.now) (seen c.read.new.self) c.args.id c.in_ok-payload.payload c.in_ok-cell.cell = found_at (seen c.args.client.now) (seen c.reach.new.client) (seen c.get_pay.new.self) (seen c.read.new.self) c.args.id c.in_ok-payload.payload c.in_ok-cell.cell c.in_ok-reach.ensures.looks.graph c.in_ok-reach.ensures.here c.in_ok-payload.ensures.same c.in_ok-payload.ensures.ok c.in_ok-cell.ensures.ok c.in_ok-cell.ensures.loads in
    let z : slot_of (at (seen c.args.client.now) c.args.id) 2 ≡ 0 = sym f.names ∙ c.if-cell-ne0.false in
    let low : c.in_ok-low.low ≡ slot_of (at (seen c.args.client.now) c.args.id) 0 = side_found (seen c.args.client.now) (seen c.read.new.self) c.args.id c.in_ok-payload.payload c.in_ok-cell.cell 0 c.in_ok-low.low f c.in_ok-low.ensures.ok in
    let f2 : FoundAt (seen c.args.client.now) (seen c.read-2.new.self) c.args.id c.in_ok-payload.payload c.in_ok-cell.cell = found_later (seen c.args.client.now) (seen c.read.new.self) (seen c.read-2.new.self) c.args.id c.in_ok-payload.payload c.in_ok-cell.cell c.in_ok-low.low f c.in_ok-low.ensures.loads in
    let high : c.in_ok-high.high ≡ slot_of (at (seen c.args.client.now) c.args.id) 1 = side_found (seen c.args.client.now) (seen c.read-2.new.self) c.args.id c.in_ok-payload.payload c.in_ok-cell.cell 1 c.in_ok-high.high f2 c.in_ok-high.ensures.ok in
    let l2 : Looks c.args.client.now c.get_pay.new.self = looks_then c.in_ok-reach.ensures.looks (looks_payload c.in_ok-payload.ensures.asks c.in_ok-payload.ensures.same) in
    let l3 : Looks c.args.client.now c.read.new.self = looks_then l2 (looks_once c.in_ok-cell.ensures.asks c.in_ok-cell.ensures.loads.graph) in
    let l4 : Looks c.args.client.now c.read-2.new.self = looks_then l3 (looks_once c.in_ok-low.ensures.asks c.in_ok-low.ensures.loads.graph) in
    let l5 : Looks c.args.client.now c.read-3.new.self = looks_then l4 (looks_once c.in_ok-high.ensures.asks c.in_ok-high.ensures.loads.graph) in
    let l6 : Looks c.args.client.now c.tell.new.client = looks_then l5 c.in_ok-wider.ensures.looks in
    let a : Tells (at (seen c.args.client.now)) c.in_ok-payload.payload c.in_ok-low.low c.meet.new.cells.keys c.tell.new.told.keys c.args.span c.in_ok-wider.wider = moved (seen c.args.client.now) (seen c.read-3.new.self) (λ h. Tells h c.in_ok-payload.payload c.in_ok-low.low c.meet.new.cells.keys c.tell.new.told.keys c.args.span c.in_ok-wider.wider) l5.graph c.in_ok-wider.ensures.tells in
    let b : Tells (at (seen c.args.client.now)) c.in_ok-payload.payload c.in_ok-high.high c.tell.new.told.keys c.tell-2.new.told.keys c.in_ok-wider.wider c.in_ok-widest.widest = moved (seen c.args.client.now) (seen c.tell.new.client) (λ h. Tells h c.in_ok-payload.payload c.in_ok-high.high c.tell.new.told.keys c.tell-2.new.told.keys c.in_ok-wider.wider c.in_ok-widest.widest) l6.graph c.in_ok-widest.ensures.tells in
    inner_joins (at (seen c.args.client.now)) c.args.below c.args.id c.in_ok-payload.payload c.in_ok-low.low c.in_ok-high.high c.args.told.now.keys c.meet.new.cells.keys c.tell.new.told.keys c.tell-2.new.told.keys c.args.span c.in_ok-wider.wider c.in_ok-widest.widest c.if-id-eq0.false z f.number c.if-payload-below.false c.in_ok-meet.ensures.met c.requires.told low high a b

pub returns-clause-looks : goal.returns-clause-looks
returns-clause-looks g t c =
    let l2 : Looks c.args.client.now c.get_pay.new.self = looks_then c.in_ok-reach.ensures.looks (looks_payload c.in_ok-payload.ensures.asks c.in_ok-payload.ensures.same) in
    let l3 : Looks c.args.client.now c.read.new.self = looks_then l2 (looks_once c.in_ok-cell.ensures.asks c.in_ok-cell.ensures.loads.graph) in
    let l4 : Looks c.args.client.now c.read-2.new.self = looks_then l3 (looks_once c.in_ok-low.ensures.asks c.in_ok-low.ensures.loads.graph) in
    let l5 : Looks c.args.client.now c.read-3.new.self = looks_then l4 (looks_once c.in_ok-high.ensures.asks c.in_ok-high.ensures.loads.graph) in
    let l6 : Looks c.args.client.now c.tell.new.client = looks_then l5 c.in_ok-wider.ensures.looks in
    looks_then l6 c.in_ok-widest.ensures.looks

-- ---- refusals

pub returns-in_err-reach-clause-refused : goal.returns-in_err-reach-clause-refused
returns-in_err-reach-clause-refused g t c =
    out c.from_residual.result _ c.from_residual.ensures.1 (falls c.in_err-reach.ensures.refused)

pub returns-in_err-payload-clause-refused : goal.returns-in_err-payload-clause-refused
returns-in_err-payload-clause-refused g t c =
    out c.from_residual-in_err-payload.result _ c.from_residual-in_err-payload.ensures.1 (falls (falls_looked c.in_ok-reach.ensures.looks c.in_err-payload.ensures.refused))

pub returns-in_err-cell-clause-refused : goal.returns-in_err-cell-clause-refused
returns-in_err-cell-clause-refused g t c =
    let l2 : Looks c.args.client.now c.get_pay.new.self = looks_then c.in_ok-reach.ensures.looks (looks_payload c.in_ok-payload.ensures.asks c.in_ok-payload.ensures.same) in
    out c.from_residual-in_err-cell.result _ c.from_residual-in_err-cell.ensures.1 (falls (falls_looked l2 c.in_err-cell.ensures.refused))

pub returns-in_err-meet-clause-refused : goal.returns-in_err-meet-clause-refused
returns-in_err-meet-clause-refused g t c =
    let l2 : Looks c.args.client.now c.get_pay.new.self = looks_then c.in_ok-reach.ensures.looks (looks_payload c.in_ok-payload.ensures.asks c.in_ok-payload.ensures.same) in
    let l3 : Looks c.args.client.now c.read.new.self = looks_then l2 (looks_once c.in_ok-cell.ensures.asks c.in_ok-cell.ensures.loads.graph) in
    out c.from_residual-in_err-meet.result _ c.from_residual-in_err-meet.ensures.1 (starves c.in_err-meet.ensures.starved l3)

pub returns-in_err-low-clause-refused : goal.returns-in_err-low-clause-refused
returns-in_err-low-clause-refused g t c =
    let l2 : Looks c.args.client.now c.get_pay.new.self = looks_then c.in_ok-reach.ensures.looks (looks_payload c.in_ok-payload.ensures.asks c.in_ok-payload.ensures.same) in
    let l3 : Looks c.args.client.now c.read.new.self = looks_then l2 (looks_once c.in_ok-cell.ensures.asks c.in_ok-cell.ensures.loads.graph) in
    out c.from_residual-in_err-low.result _ c.from_residual-in_err-low.ensures.1 (falls (falls_looked l3 c.in_err-low.ensures.refused))

pub returns-in_err-high-clause-refused : goal.returns-in_err-high-clause-refused
returns-in_err-high-clause-refused g t c =
    let l2 : Looks c.args.client.now c.get_pay.new.self = looks_then c.in_ok-reach.ensures.looks (looks_payload c.in_ok-payload.ensures.asks c.in_ok-payload.ensures.same) in
    let l3 : Looks c.args.client.now c.read.new.self = looks_then l2 (looks_once c.in_ok-cell.ensures.asks c.in_ok-cell.ensures.loads.graph) in
    let l4 : Looks c.args.client.now c.read-2.new.self = looks_then l3 (looks_once c.in_ok-low.ensures.asks c.in_ok-low.ensures.loads.graph) in
    out c.from_residual-in_err-high.result _ c.from_residual-in_err-high.ensures.1 (falls (falls_looked l4 c.in_err-high.ensures.refused))

pub returns-in_err-wider-clause-refused : goal.returns-in_err-wider-clause-refused
returns-in_err-wider-clause-refused g t c =
    let l2 : Looks c.args.client.now c.get_pay.new.self = looks_then c.in_ok-reach.ensures.looks (looks_payload c.in_ok-payload.ensures.asks c.in_ok-payload.ensures.same) in
    let l3 : Looks c.args.client.now c.read.new.self = looks_then l2 (looks_once c.in_ok-cell.ensures.asks c.in_ok-cell.ensures.loads.graph) in
    let l4 : Looks c.args.client.now c.read-2.new.self = looks_then l3 (looks_once c.in_ok-low.ensures.asks c.in_ok-low.ensures.loads.graph) in
    let l5 : Looks c.args.client.now c.read-3.new.self = looks_then l4 (looks_once c.in_ok-high.ensures.asks c.in_ok-high.ensures.loads.graph) in
    out c.from_residual-in_err-wider.result _ c.from_residual-in_err-wider.ensures.1 (refuses_after l5 (λ (n : ⊥). n) c.in_err-wider.ensures.refused)

pub returns-in_err-widest-clause-refused : goal.returns-in_err-widest-clause-refused
returns-in_err-widest-clause-refused g t c =
    let l2 : Looks c.args.client.now c.get_pay.new.self = looks_then c.in_ok-reach.ensures.looks (looks_payload c.in_ok-payload.ensures.asks c.in_ok-payload.ensures.same) in
    let l3 : Looks c.args.client.now c.read.new.self = looks_then l2 (looks_once c.in_ok-cell.ensures.asks c.in_ok-cell.ensures.loads.graph) in
    let l4 : Looks c.args.client.now c.read-2.new.self = looks_then l3 (looks_once c.in_ok-low.ensures.asks c.in_ok-low.ensures.loads.graph) in
    let l5 : Looks c.args.client.now c.read-3.new.self = looks_then l4 (looks_once c.in_ok-high.ensures.asks c.in_ok-high.ensures.loads.graph) in
    let l6 : Looks c.args.client.now c.tell.new.client = looks_then l5 c.in_ok-wider.ensures.looks in
    out c.from_residual-in_err-widest.result _ c.from_residual-in_err-widest.ensures.1 (refuses_after l6 (λ (n : ⊥). n) c.in_err-widest.ensures.refused)
