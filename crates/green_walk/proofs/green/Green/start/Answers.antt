use Rattle.std.proofs.Common.{◌≡◌, ◌*◌, rules, lit<, sym, ap, ◌∙◌, arith}
use Rattle.red_walk.specs.Ids.{Ids}
use Rattle.green_walk.specs.Greening.{Greening}
use Rattle.green_walk.specs.Linked.{SlotList}
use Rattle.green_walk.proofs.GreenStart.{all-copied, start-in-step}
use Rattle.green_walk.proofs.green.Green.start.Goals as goal

pub start-requires : goal.start-requires
start-requires g c =
    let here : c.self.inside.limit ≡ c.args.self.now.limit = ap (λ (v : Greening). v.limit) c.self.view_is in
    let same : c.self.inside.limit ≡ c.args.red.now.limit = here ∙ sym c.requires.limit in
    (search rules, (lit< tt, (c.self.invariant.copied_limit ∙ same, all-copied g.row.SLOTS c.args.red.now c.is_touched.ensures.sound c.requires.at)))

pub invariant_of-self : goal.invariant_of-self
invariant_of-self g c =
    let here : c.self.inside.limit ≡ c.args.self.now.limit = ap (λ (v : Greening). v.limit) c.self.view_is in
    let room : c.args.red.now.limit * g.row.SLOTS ≡ c.self.inside.limit * g.row.SLOTS = ap (λ n. n * g.row.SLOTS) (c.requires.limit ∙ sym here) in
    let k = c.self.invariant in
    start-in-step g.row.SLOTS c.self.inside.limit c.args.verdict.now c.take_over.new.list c.take_over-2.new.list c.clear.new.self c.start.new.self _
    (ap (λ (i : Ids). i.limit) c.take_over.ensures ∙ k.seeds_limit)
    (ap (λ (i : Ids). i.limit) c.take_over-2.ensures ∙ k.live_limit)
    (ap (λ (i : Ids). i.limit) c.clear.ensures.empty ∙ k.green_limit)
    (ap (λ (s : SlotList). s.limit) c.start.ensures.slots ∙ k.copied_limit)
    k.few
    (ap (λ (i : Ids). i.ids) c.take_over.ensures ∙ c.seeds.ensures.ids)
    (ap (λ (i : Ids). i.ids) c.take_over-2.ensures ∙ c.live.ensures.ids)
    (ap (λ (i : Ids). i.ids) c.clear.ensures.empty)
    k.sound.slot_count
    c.live.ensures.sound
    c.seeds.ensures.sound
    (c.requires.judged ∙ sym here)
    c.requires.seeds
    (let few = c.start.ensures.few in omega (arith, few, room))
    c.start.ensures.within

pub returns-clause-sound : goal.returns-clause-sound
returns-clause-sound g c = (invariant_of-self g c).sound
