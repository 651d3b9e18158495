use Rattle.std.proofs.Common.{◌<◌, length, subst, ◌∙◌}
use Rattle.restart_store.specs.Fresh.{AreNew, pages_of}
use Rattle.restart_store.proofs.PageBytes.{fresh_at, given_at}
use Rattle.restart_store.proofs.pages.page_at.Goals as goal

pub returns-in-Fresh-clause-page : goal.returns-in-Fresh-clause-page
returns-in-Fresh-clause-page g c = c.fresh.ensures.exact ∙ fresh_at c.args.pages c.in-Fresh.field-0 c.args.page c.in-Fresh.is c.requires.within

pub returns-in-Given-clause-rules : goal.returns-in-Given-clause-rules
returns-in-Given-clause-rules g c =
    (given_at c.in-Given.given.now c.args.page c.index-given-page.result _ (subst (λ p. AreNew p) c.in-Given.is c.requires.new)
    (subst (λ p. c.args.page < length (pages_of p)) c.in-Given.is c.requires.within) c.index-given-page.is).0

pub returns-in-Given-clause-typed : goal.returns-in-Given-clause-typed
returns-in-Given-clause-typed g c =
    (given_at c.in-Given.given.now c.args.page c.index-given-page.result _ (subst (λ p. AreNew p) c.in-Given.is c.requires.new)
    (subst (λ p. c.args.page < length (pages_of p)) c.in-Given.is c.requires.within) c.index-given-page.is).1
