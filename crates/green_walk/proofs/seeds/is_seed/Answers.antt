use Rattle.std.proofs.Common.{ℕ, List, get_or, refl, sym, ◌∙◌, subst, arith}
use Rattle.std.proofs.lemmas.Bool.{ltb-true, ltb-false}
use Rattle.ref_tables.specs.Refs.{entries_of, Names}
use Rattle.red_walk.proofs.Members.{Contains-has}
use Rattle.green_walk.specs.Judged.{was_touched, is_locked, has_name}
use Rattle.green_walk.proofs.SeedLaws.{seed-other, seed-none}
use Rattle.green_walk.proofs.seeds.is_seed.Goals as goal

pub returns-then-touched-clause-yes : goal.returns-then-touched-clause-yes
returns-then-touched-clause-yes g c = λ yes. was_touched (Contains-has _ _ (sym c.touched.ensures ∙ c.if-touched.true))

pub returns-then-get-clause-yes : goal.returns-then-get-clause-yes
returns-then-get-clause-yes g c = λ yes. is_locked c.args.place c.requires.place refl (sym c.get.ensures ∙ c.if-get.true)

pub returns-then-names-clause-yes : goal.returns-then-names-clause-yes
returns-then-names-clause-yes g c = λ yes.
    let named = c.names.ensures.yes c.if-names.true in
    has_name named.0 (subst (λ xs. Names (entries_of c.args.refs.now named.0) (get_or xs c.args.place 0)) c.list.ensures.ids named.1)

pub returns-clause-yes : goal.returns-clause-yes
returns-clause-yes g c = λ more. seed-other _ _ _ _ _ _ c.list.ensures.sound c.requires.copied c.requires.place c.requires.others (ltb-true _ _ more)

pub returns-clause-no : goal.returns-clause-no
returns-clause-no g c = λ none s.
    seed-none _ _ _ _ _ _ c.list.ensures.sound c.requires.copied c.requires.place c.requires.others (sym c.touched.ensures ∙ c.if-touched.false) (sym c.get.ensures ∙ c.if-get.false)
    (subst (λ (xs : List ℕ). (pass : ℕ) → ¬ Names (entries_of c.args.refs.now pass) (get_or xs c.args.place 0)) c.list.ensures.ids (c.names.ensures.no c.if-names.false)) (let no_other = ltb-false _ _ none in omega (arith, no_other)) s
