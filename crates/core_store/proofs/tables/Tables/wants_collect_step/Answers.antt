use Rattle.std.proofs.Common.{rules, ◌≡◌, ◌≤◌, ◌<◌, ℕ, IfSome, ap, sym, subst, ◌∙◌, ⊎_elim, arith}
use Rattle.std.specs.Prelude.{Option}
use Rattle.core_store.specs.declared.want.Work.{Work}
use Rattle.core_store.specs.declared.round_at.RoundAt.{RoundAt}
use Rattle.core_store.specs.declared.want.Want.TheVariants.{Ready}
use Rattle.core_store.specs.Frames.{pages_held, IsNext}
use Rattle.core_store.specs.Logged.{want_of}
use Rattle.core_store.specs.Slots.{HoldsPagesOf}
use Rattle.core_store.specs.Work.{IsWork, pages_of_work}
use Rattle.core_store.specs.RoundView.{RoundView, asked, left_of, is_event}
use Rattle.core_store.specs.Collecting.{work_at, objects_at}
use Rattle.core_store.specs.Tables.{TablesView}
use Rattle.core_store.specs.Views.{view_of}
use Rattle.core_store.proofs.LeftLaws.{left-passed, left-passes}
use Rattle.core_store.proofs.NextLaws.{next-of}
use Rattle.core_store.proofs.PlanWork.{small-targets}
use Rattle.core_store.proofs.ReadyRound.{asked-work, asked-few, ready-pages}
use Rattle.core_store.proofs.PassLaws.{passed-none, passed-more}
use Rattle.core_store.proofs.NullLaws.{passed-behind}
use Rattle.core_store.proofs.tables.Tables.wants_collect_step.Goals as goal
use Rattle.core_store.proofs.tables.Tables.wants_collect_step.Goals.{then-ne-via-then-ne, then-ne-via-else-ne+then-is_event}

pub looks-init : goal.looks-init
looks-init g c = passed-none g.row.SLOTS (view_of c.args.self.now) c.args.held.now

pub wanted-want-requires : goal.wanted-want-requires
wanted-want-requires g c =
    let r = c.requires.standing in
    let small : g.row.SLOTS ≤ 14 = ⊎_elim (λ six. omega arith) (λ fourteen. omega arith) r.stands.counted in
    let h = c.next_look-at.ensures.stands r.core (c.looks.invariant.stands r.core r.stands r.agree) r.agree in
    let work = subst (λ (a : RoundAt). IfSome (work_at a) (IsWork g.row.SLOTS)) (sym c.next_look-at.ensures.at) (asked-work h) in
    (search rules, (subst (λ (o : Option Work). IfSome o (IsWork g.row.SLOTS)) (sym c.work_at.ensures) work, (r.core.cells, r.agree, small-targets h)))

pub is_event-requires : goal.is_event-requires
is_event-requires g c =
    let r = c.requires.standing in
    let held = c.args.held.now in
    let small : g.row.SLOTS ≤ 14 = ⊎_elim (λ six. omega arith) (λ fourteen. omega arith) r.stands.counted in
    let h = c.next_look-at.ensures.stands r.core (c.looks.invariant.stands r.core r.stands r.agree) r.agree in
    let view = c.next_look-at.new.self.round.view in
    let ready : c.wanted-want.result ≡ Ready = search rules in
    let work = subst (λ (a : RoundAt). IfSome (work_at a) (IsWork g.row.SLOTS)) (sym c.next_look-at.ensures.at) (asked-work h) in
    let wants = ap (λ (o : Option Work). want_of (pages_of_work r.core.cells o) (pages_held held)) (sym (c.work_at.ensures ∙ ap work_at c.next_look-at.ensures.at)) ∙ (sym (c.wanted-want.ensures.exact r.core.cells r.agree) ∙ ready) in
    let pages = subst (λ (a : RoundAt). HoldsPagesOf held (objects_at r.core.cells a)) (sym c.next_look-at.ensures.at) (ready-pages r.core.cells view held wants) in
    (search rules, (r.stands.counted, (work, λ look. (r.core.cells, r.agree, small-targets h, pages))))

pub look_past-requires : goal.look_past-requires
look_past-requires g c =
    let r = c.requires.standing in
    let small : g.row.SLOTS ≤ 14 = ⊎_elim (λ six. omega arith) (λ fourteen. omega arith) r.stands.counted in
    let held = c.args.held.now in
    let h = c.next_look-at.ensures.stands r.core (c.looks.invariant.stands r.core r.stands r.agree) r.agree in
    let view = c.next_look-at.new.self.round.view in
    let ready : c.wanted-want.result ≡ Ready = search rules in
    let wants = ap (λ (o : Option Work). want_of (pages_of_work r.core.cells o) (pages_held held)) (sym (c.work_at.ensures ∙ ap work_at c.next_look-at.ensures.at)) ∙ (sym (c.wanted-want.ensures.exact r.core.cells r.agree) ∙ ready) in
    let nothing = ap (is_event r.core.cells) (sym c.next_look-at.ensures.at) ∙ (sym (c.is_event.ensures r.core.cells r.agree) ∙ c.if-is_event.false) in
    (search rules, (search rules, (c.next_look-at.ensures.at, record { core = r.core; stands = h; agree = r.agree; pages = ready-pages r.core.cells view held wants; none = nothing })))

pub next_look-at-requires : goal.next_look-at-requires
next_look-at-requires g c =
    let r = c.requires.standing in
    let small : g.row.SLOTS ≤ 14 = ⊎_elim (λ six. omega arith) (λ fourteen. omega arith) r.stands.counted in
    (search rules, (search rules, record { core = r.core; stands = c.looks.invariant.stands r.core r.stands r.agree; agree = r.agree }))

pub looks-smaller : goal.looks-smaller
looks-smaller g c =
    let r = c.requires.standing in
    let before = c.looks.invariant.stands r.core r.stands r.agree in
    let h = c.next_look-at.ensures.stands r.core before r.agree in
    let view = c.next_look-at.new.self.round.view in
    let nothing = ap (is_event r.core.cells) (sym c.next_look-at.ensures.at) ∙ (sym (c.is_event.ensures r.core.cells r.agree) ∙ c.if-is_event.false) in
    let less : left_of g.row.SLOTS c.look_past.new.self.round.view < left_of g.row.SLOTS view =
    subst (λ (x : RoundView). left_of g.row.SLOTS x < left_of g.row.SLOTS view) (sym (c.look_past.ensures.passes r.core h r.agree)) (left-passed g.row.SLOTS c.next_look-at.new.self.ids r.core.cells view h.in_step nothing) in
    ⊎_elim
    (λ (same : view ≡ c.looks.self.round.view). subst (λ (x : RoundView). left_of g.row.SLOTS c.look_past.new.self.round.view < left_of g.row.SLOTS x) same less)
    (λ (l : left_of g.row.SLOTS view < left_of g.row.SLOTS c.looks.self.round.view). omega (arith, less, l))
    (left-passes g.row.SLOTS c.looks.self.ids r.core.cells c.looks.self.round.view view before.in_step (c.next_look-at.ensures.passes r.core before r.agree))

pub looks-preserved : goal.looks-preserved
looks-preserved g c =
    passed-more g.row.SLOTS (view_of c.args.self.now) (view_of {slots = g.row.SLOTS} c.next_look-at.new.self) (view_of {slots = g.row.SLOTS} c.look_past.new.self) c.args.held.now (passed-behind g.row.SLOTS (view_of c.args.self.now) (view_of {slots = g.row.SLOTS} c.looks.self) (view_of {slots = g.row.SLOTS} c.next_look-at.new.self) c.args.held.now c.looks.invariant
    (record { same = c.next_look-at.ensures.same; passes = c.next_look-at.ensures.passes; stands = c.next_look-at.ensures.stands }))
    (record {
      same = c.look_past.ensures.same;
      nothing = λ d h agree. ap (is_event d.cells) (sym c.next_look-at.ensures.at) ∙ (sym (c.is_event.ensures d.cells agree) ∙ c.if-is_event.false);
      passes = c.look_past.ensures.passes;
      stands = c.look_past.ensures.stands;
    })

pub returns-then-ne-clause-next : goal.returns-then-ne-clause-next
returns-then-ne-clause-next g c page e =
    let r = c.requires.standing in
    let held = c.args.held.now in
    let h = c.next_look-at.ensures.stands r.core (c.looks.invariant.stands r.core r.stands r.agree) r.agree in
    let view = c.next_look-at.new.self.round.view in
    let wants = ap (λ (o : Option Work). want_of (pages_of_work r.core.cells o) (pages_held held)) (sym (c.work_at.ensures ∙ ap work_at c.next_look-at.ensures.at)) ∙ (sym (c.wanted-want.ensures.exact r.core.cells r.agree) ∙ e) in
    subst (λ (ids : ℕ). IsNext ids held page) (ap (λ (v : TablesView). v.ids) (passed-behind g.row.SLOTS (view_of c.args.self.now) (view_of {slots = g.row.SLOTS} c.looks.self) (view_of {slots = g.row.SLOTS} c.next_look-at.new.self) c.args.held.now c.looks.invariant
    (record { same = c.next_look-at.ensures.same; passes = c.next_look-at.ensures.passes; stands = c.next_look-at.ensures.stands })).same)
    (next-of c.next_look-at.new.self.ids held (objects_at r.core.cells (asked view)) page c.wanted-want.ensures.once (asked-few h) wants)

pub returns-then-ne-clause-exact : goal.returns-then-ne-clause-exact
returns-then-ne-clause-exact g c d h agree =
    c.wanted-want.ensures.exact d.cells agree ∙ ap (λ (o : Option Work). want_of (pages_of_work d.cells o) (pages_held c.args.held.now)) (c.work_at.ensures ∙ ap work_at c.next_look-at.ensures.at)

pub returns-then-ne-clause-event : goal.returns-then-ne-clause-event
returns-then-ne-clause-event g c d h agree ready =
    elim c.then-ne.branch [
      | then-ne-via-then-ne w ↦ absurd (let e = rw ready at w.if-ne.ensures in cc)
      | then-ne-via-else-ne+then-is_event w ↦ ap (is_event d.cells) (sym c.next_look-at.ensures.at) ∙ (sym (w.is_event.ensures d.cells agree) ∙ w.if-is_event.true)
    ]

pub returns-then-ne-clause-passes : goal.returns-then-ne-clause-passes
returns-then-ne-clause-passes g c = (passed-behind g.row.SLOTS (view_of c.args.self.now) (view_of {slots = g.row.SLOTS} c.looks.self) (view_of {slots = g.row.SLOTS} c.next_look-at.new.self) c.args.held.now c.looks.invariant
    (record { same = c.next_look-at.ensures.same; passes = c.next_look-at.ensures.passes; stands = c.next_look-at.ensures.stands })).passes
