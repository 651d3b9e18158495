use Rattle.std.proofs.Common.{◌≡◌, sym, subst, Ok, Err, IfOk, IfErr, ⊎_elim}
use Rattle.object_store.specs.declared.error.StoreError.TheVariants.{Full}
use Rattle.object_store.specs.Calls.{IsMakeShort, Makes}
use Rattle.object_store.proofs.AskLaws.{MakeFull, MakeDone, make_done, make_short, live_same}
use Rattle.object_store.proofs.asking.make.Goals as goal

pub returns-in-Ok : goal.returns-in-Ok
returns-in-Ok g c =
    let v = c.args.below.now in
    let w = c.ask.new.below in
    ⊎_elim
    (λ (n : MakeFull c.args.into v w c.in-Ok.reply).
    let is : c.id_in.result ≡ Err Full = c.id_in.ensures.full n.told in
    record {
      live = n.live;
      makes = subst (λ q. IfOk q (λ id. Makes c.args.into id v w)) (sym is) tt;
      short = subst (λ q. IfErr q (λ why. IsMakeShort c.args.into why v w)) (sym is) n.full;
    })
    (λ (m : MakeDone c.args.into v w c.in-Ok.reply).
    let is : c.id_in.result ≡ Ok m.id = c.id_in.ensures.id m.id m.told in
    record {
      live = m.live;
      makes = subst (λ q. IfOk q (λ id. Makes c.args.into id v w)) (sym is) m.makes_it;
      short = subst (λ q. IfErr q (λ why. IsMakeShort c.args.into why v w)) (sym is) tt;
    })
    (make_done c.args.into v w c.in-Ok.reply c.requires.live c.requires.target c.logged.ensures.slots c.in-Ok.ensures.does)

pub returns-in-Err : goal.returns-in-Err
returns-in-Err g c = record {
  live = live_same c.args.below.now c.ask.new.below c.requires.live c.ask.ensures.running c.in-Err.ensures.short.same;
  makes = tt;
  short = make_short c.args.into c.in-Err.why c.args.below.now c.ask.new.below c.in-Err.ensures.short;
}
