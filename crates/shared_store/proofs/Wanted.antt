-- A page that is wanted is one of those that are needed.
use Rattle.std.proofs.Common.{◌≡◌, ℕ, suc, List, [], ◌∷◌, inl, inr, refl, arith}
use Rattle.std.specs.Prelude.{◌||◌, not}
use Rattle.std.specs.List.{Contains}
use Rattle.std.proofs.lemmas.Bool.{cases_Bool}
use Rattle.plain_model.specs.declared.calls.Reply.{Reply}
use Rattle.plain_model.specs.declared.calls.Reply.TheVariants as reply
use Rattle.core_store.specs.declared.want.Want.TheVariants.{Page}
use Rattle.core_store.specs.Frames.{is_page_among, are_all_among}
use Rattle.core_store.specs.Logged.{begins_late, next_page, want_of}

next-needed : (needed held : List ℕ) (p : ℕ) → next_page needed held ≡ Page p → Contains needed p
next-needed [] held p e = absurd cc
next-needed (n ∷ needed) held p e =
    elim (cases_Bool (is_page_among n held)) [
      | inl there ↦ (let rest = next-needed needed held p (rw there at e) in (suc rest.0, omega (arith, rest.1), rest.2))
      | inr other ↦
          let next : next_page (n ∷ needed) held ≡ Page n = rw other refl in
          let same : n ≡ p = cc in
          (0, omega arith, same)
    ]

pub want-needed : (needed held : List ℕ) (p : ℕ) → want_of needed held ≡ Page p → Contains needed p
want-needed needed held p e =
    elim (cases_Bool (begins_late needed held || not (are_all_among held needed))) [
      | inl late ↦ absurd (let none = rw late at e in cc)
      | inr due ↦ next-needed needed held p (rw due at e)
    ]

-- an answer names one word
pub same-word : (r : Reply) (word seat w s : ℕ) → r ≡ reply.Again w s → r ≡ reply.Again word seat → word ≡ w
same-word r word seat w s e f = cc

pub stopped-again : (n word seat : ℕ) → reply.Stopped n ≡ reply.Again word seat → ⊥
stopped-again n word seat e = absurd (cc)
