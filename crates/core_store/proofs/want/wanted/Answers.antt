use Rattle.std.proofs.Common.{◌≡◌, true, false, sym, subst, ◌∙◌}
use Rattle.std.specs.Prelude.{Option}
use Rattle.cell_page.specs.Format.{page_of_id}
use Rattle.core_store.specs.declared.want.Want.TheVariants.{LetGo}
use Rattle.core_store.specs.declared.want.Work.{Work}
use Rattle.core_store.specs.Frames.{pages_held, is_held}
use Rattle.core_store.specs.Logged.{want_of}
use Rattle.core_store.specs.Work.{pages_of_work}
use Rattle.core_store.proofs.WantPages.{want-late, want-unneeded, want-next}
use Rattle.core_store.proofs.want.wanted.Goals as goal

pub returns-then-not-holds-clause-exact : goal.returns-then-not-holds-clause-exact
returns-then-not-holds-clause-exact g c = λ cells agree.
    let w = c.in-Some.work in
    let held = c.args.held.now in
    let other : is_held held (page_of_id w.id) ≡ false = rw (← c.page_of-first.ensures.page) (sym c.holds.ensures ∙ c.if-not-holds.true) in
    subst (λ (x : Option Work). LetGo ≡ want_of (pages_of_work cells x) (pages_held held)) (sym c.in-Some.is)
    (sym (want-late cells w.id w.change held (sym c.is_empty-2.ensures.exact ∙ c.if-is_empty-2.false) other))

pub returns-then-not-holds_only-clause-exact : goal.returns-then-not-holds_only-clause-exact
returns-then-not-holds_only-clause-exact g c = λ cells agree.
    let w = c.in-Some.work in
    let held = c.args.held.now in
    let there : is_held held (page_of_id w.id) ≡ true = rw (← c.page_of-first.ensures.page) (sym c.holds.ensures ∙ c.if-not-holds.false) in
    subst (λ (x : Option Work). LetGo ≡ want_of (pages_of_work cells x) (pages_held held)) (sym c.in-Some.is)
    (sym (want-unneeded cells w.id w.change held c.pages_of-needed.result there (c.pages_of-needed.ensures cells agree) (sym c.holds_only.ensures ∙ c.if-not-holds_only.true)))

pub returns-clause-exact : goal.returns-clause-exact
returns-clause-exact g c = λ cells agree.
    let w = c.in-Some.work in
    let held = c.args.held.now in
    let there : is_held held (page_of_id w.id) ≡ true = rw (← c.page_of-first.ensures.page) (sym c.holds.ensures ∙ c.if-not-holds.false) in
    subst (λ (x : Option Work). c.next_page.result ≡ want_of (pages_of_work cells x) (pages_held held)) (sym c.in-Some.is)
    (c.next_page.ensures ∙ sym (want-next cells w.id w.change held c.pages_of-needed.result there (c.pages_of-needed.ensures cells agree) (sym c.holds_only.ensures ∙ c.if-not-holds_only.false)))
