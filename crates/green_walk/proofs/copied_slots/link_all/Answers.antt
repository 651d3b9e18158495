use Rattle.std.proofs.Common.{rules, ◌≡◌, ◌+◌, ◌-◌, ◌*◌, ◌≤◌, length, arith, refl, ap, ◌∙◌, subst}
use Rattle.green_walk.specs.Linked.{AreLinked, bare}
use Rattle.green_walk.proofs.LinkLaws.{linked-end}
use Rattle.green_walk.proofs.RowLaws.{length-bare}
use Rattle.green_walk.proofs.copied_slots.link_all.Goals as goal

pub loop-done-init : goal.loop-done-init
loop-done-init g c = record {
  linked = λ limit sized.
      let size = length-bare g.row.SLOTS c.args.rows.now c.requires.long in
      let all : length c.args.rows.now - 0 ≡ length c.args.rows.now = omega arith in
      let same : g.row.SLOTS * (length c.args.rows.now - 0) ≡ g.row.SLOTS * length c.args.rows.now = ap (λ n. g.row.SLOTS * n) all in
      linked-end (bare c.args.rows.now) (g.row.SLOTS * (length c.args.rows.now - 0)) limit c.args.first.now.items c.args.next.now.items (omega (arith, size, same));
  firsts = refl;
  nexts = refl;
  room = omega arith;
}

pub link_object-requires : goal.link_object-requires
link_object-requires g c =
    let limit = c.requires.some.0 in
    let sized = c.requires.some.1 in
    let below = c.loop-done-test.true in
    let room = c.requires.room in
    let same : length c.args.rows.now - c.loop-done.done ≡ length c.args.rows.now - 1 - c.loop-done.done + 1 = omega (arith, below) in (
      search rules,
      (
        c.requires.size,
        (
          c.requires.long,
          (
            omega (arith, below),
            (
              c.requires.few,
              (
                omega (arith, room, c.loop-done.invariant.nexts),
                (limit, c.loop-done.invariant.firsts ∙ sized, subst (λ n. AreLinked (bare c.args.rows.now) (g.row.SLOTS * n) limit c.loop-done.first.items c.loop-done.next.items) same (c.loop-done.invariant.linked limit sized)),
              ),
            ),
          ),
        ),
      ),
    )

pub loop-done-preserved : goal.loop-done-preserved
loop-done-preserved g c = record {
  linked = λ limit sized.
      let below = c.loop-done-test.true in
      let before : length c.args.rows.now - c.loop-done.done ≡ length c.args.rows.now - 1 - c.loop-done.done + 1 = omega (arith, below) in
      let after : length c.args.rows.now - 1 - c.loop-done.done ≡ length c.args.rows.now - (c.loop-done.done + 1) = omega (arith, below) in
      subst (λ n. AreLinked (bare c.args.rows.now) (g.row.SLOTS * n) limit c.link_object.new.first.items c.link_object.new.next.items) after
      (c.link_object.ensures.linked limit (c.loop-done.invariant.firsts ∙ sized)
      (subst (λ n. AreLinked (bare c.args.rows.now) (g.row.SLOTS * n) limit c.loop-done.first.items c.loop-done.next.items) before (c.loop-done.invariant.linked limit sized)));
  firsts = c.link_object.ensures.firsts ∙ c.loop-done.invariant.firsts;
  nexts = c.link_object.ensures.nexts ∙ c.loop-done.invariant.nexts;
  room = (let one = c.link_object.ensures.room in let before = c.loop-done.invariant.room in omega (arith, one, before));
}

pub returns-clause-linked : goal.returns-clause-linked
returns-clause-linked g c limit sized =
    let past = c.loop-done-test.false in
    let none : length c.args.rows.now - c.loop-done.done ≡ 0 = omega (arith, past) in
    let end : g.row.SLOTS * (length c.args.rows.now - c.loop-done.done) ≡ 0 = (let zeroed : g.row.SLOTS * 0 ≡ 0 = omega arith in ap (λ n. g.row.SLOTS * n) none ∙ zeroed) in
    subst (λ at. AreLinked (bare c.args.rows.now) at limit c.loop-done.first.items c.loop-done.next.items) end (c.loop-done.invariant.linked limit sized)
