use Rattle.std.proofs.Common.{◌≡◌, ℕ, ◌+◌, None, Option, Some, arith, sym, ap, subst, ◌∙◌}
use Rattle.latch_table.specs.declared.content.Content.TheVariants.{Log}
use Rattle.latch_table.specs.Steps.{GoesOnFrom}
use Rattle.latch_table.proofs.Parts.{last_taken, read_there, then_holds, met_as}
use Rattle.latch_table.proofs.Rows.{log_is}
use Rattle.latch_table.proofs.FromFirst.{claim_log_from, leaves_log_from}
use Rattle.latch_table.proofs.table.Latches.claim_log_from.Goals as goal

pub compare_exchange-found-requires : goal.compare_exchange-found-requires
compare_exchange-found-requires g c =
    let s = c.self.invariant in
    let h = c.hold.invariant in
    let free : c.hold.inside.seat.me.0.hands.log ≡ None = ap (λ z. z.view.hands.log) c.hold.view_is ∙ c.requires.free in
    let words = s.0 in
    let word = c.from-word.ensures in
    (ap (λ z. z.table) c.hold.view_is ∙ c.requires.of ∙ sym (ap (λ z. z.table) c.self.view_is), omega arith, rw (c.from-mine.ensures ∙ h.number_is, word) (claim_log_from _ _ _ _ _ _ _ _ (c.requires.told ∙ ap Some (sym (ap (λ z. z.began) c.self.view_is))) s.1 h.alive h.settled.1 free h.settled.0))

pub exchange-content-requires : goal.exchange-content-requires
exchange-content-requires g c =
    let got = c.compare_exchange-found.ensures.2.0 c.if-found-ne0.false in
    (c.compare_exchange-found.ensures.0 ∙ ap (λ z. z.table) c.hold.view_is ∙ c.requires.of ∙ sym (ap (λ z. z.table) c.self.view_is), last_taken _ _ _ _ got.2)

pub load-requires : goal.load-requires
load-requires g c =
    let s = c.self.invariant in
    let h = c.hold.invariant in
    let words = s.0 in
    let word = c.from-word.ensures in
    let got = c.compare_exchange-found.ensures.2.0 c.if-found-ne0.false in
    let e = c.exchange-content.ensures in
    let has = then_holds _ _ _ _ _ _ _ got.1 got.2 h.settled.0 e.3 in
    (e.0 ∙ c.compare_exchange-found.ensures.0 ∙ ap (λ z. z.table) c.hold.view_is ∙ c.requires.of ∙ sym (ap (λ z. z.table) c.self.view_is), omega arith, leaves_log_from _ _ _ _ _ _ _ c.hold.inside.seat.me.0 _ _ _ (s.1 ∙ ap (λ (n : ℕ). n + 1) (sym word)) h.alive has)

pub returns-clause-on : goal.returns-clause-on
returns-clause-on g c =
    let got = c.compare_exchange-found.ensures.2.0 c.if-found-ne0.false in
    let there : c.exchange-content.result ≡ Log got.0 = read_there _ _ _ _ _ _ got.2 c.exchange-content.ensures.2 in
    subst (g.J.Chronicle.goes_on c.args.self.now.began) (log_is _ _ _ there c.in-Log.is)
    (subst (λ (o : Option g.row.J.Denot). GoesOnFrom g.J.Chronicle.goes_on o got.0) c.requires.told got.4)

pub returns-then-found-ne0-clause-held : goal.returns-then-found-ne0-clause-held
returns-then-found-ne0-clause-held g c =
    let m = c.compare_exchange-found.ensures.2.1 c.if-found-ne0.true in
    let pages = ap (λ z. z.pages) c.self.view_is in
    let told = met_as c.hold.inside.seat.me.0 c.args.hold.now.view c.compare_exchange-found.new.seat.me.0 c.from-word.result c.args.self.now.pages c.compare_exchange-found.result (ap (λ z. z.view) c.hold.view_is) (c.from-word.ensures ∙ pages) (m.0, m.2, m.3) m.4 in
    (c.from.ensures ∙ pages, told.0, told.1)
