-- A hold between two calls, after a page was dropped and after an append.
use Rattle.std.proofs.Common.{◌≡◌, ◌⊎◌, ℕ, ◌+◌, ◌<◌, Bool, [], Option, Some, None, inl, inr, ⊎_elim, refl, sym, ap, ◌∙◌, subst}
use Rattle.atomic_table.specs.Seated.{TableId}
use Rattle.latch_table.specs.declared.view.View.{View}
use Rattle.latch_table.specs.Account.{Account}
use Rattle.latch_table.specs.Views.{frame_of, reframed, moving, page_dropped}
use Rattle.latch_table.specs.Steps.{Mine, At, appends}
use Rattle.latch_table.specs.Holds.{IsSettled}
use Rattle.latch_table.proofs.Frames.{frame_gone, frame_stays, none_told, none_some}

maybe : {A : Type 0} (o : Option A) → (o ≡ None) ⊎ ((x : A) × (o ≡ Some x))
maybe None = inl refl
maybe (Some x) = inr (x, refl)

module _ {E X F : Type 0} where
  -- a drop after its place was reached
  pub dropped_after : (v w : View E X F) (k p q : ℕ) → w ≡ moving v k → q ≡ p → page_dropped w q ≡ page_dropped v p
  dropped_after v w k p q e is = ap (λ (z : View E X F). page_dropped z q) e ∙ ap (page_dropped v) is

module _ {E X F J : Type 0} where
  pub settled_dropped : (table table' : TableId) (me me' : Mine E X F J) (number : ℕ) (main : Bool) (made p : ℕ) → IsSettled table me number main made → table' ≡ table → me'.0 ≡ page_dropped me.0 p → me'.1 ≡ [] → IsSettled table' me' number main made
  settled_dropped table table' me me' number main made p h same e none = record {
    settled = (none, ap (λ (v : View E X F). v.hands.moving) e);
    alive = ap (λ (v : View E X F). v.station.alive) e ∙ h.alive;
    low = h.low;
    number_is = h.number_is ∙ sym (ap (λ (v : View E X F). v.station.number) e);
    main_is = h.main_is ∙ sym (ap (λ (v : View E X F). v.station.main) e);
    made_is = h.made_is ∙ sym (ap (λ (v : View E X F). v.station.last) e);
    below = λ q f has. let had = sym (ap (λ (v : View E X F). frame_of v.hands.pages q) e) ∙ has in
        let ne : q ≡ p → ⊥ = λ is. none_some f (sym (frame_gone me.0.hands.pages p) ∙ ap (frame_of (page_dropped me.0 p).hands.pages) (sym is) ∙ had) in
        subst (λ (z : TableId). q + 1 < z.slots) (sym same) (h.below q f (sym (frame_stays me.0.hands.pages p q (λ is. ne (sym is))) ∙ had));
  }

  pub settled_appended : (a : Account E X F J) (table table' : TableId) (me me' : Mine E X F J) (number : ℕ) (main : Bool) (made : ℕ) (o : Option J) (j : J) (st : At F J) (found : ℕ) → IsSettled table me number main made → table' ≡ table → o ≡ Some j → appends a o st me found me' → IsSettled table' me' number main made
  settled_appended a table table' me me' number main made o j st found h same is did =
      let t : appends a (Some j) st me found me' = subst (λ (z : Option J). appends a z st me found me') is did in
      let e = t.1.2 in
      record {
        settled = (t.0 ∙ h.settled.0, ap (λ (v : View E X F). v.hands.moving) e ∙ h.settled.1);
        alive = ap (λ (v : View E X F). v.station.alive) e ∙ h.alive;
        low = h.low;
        number_is = h.number_is ∙ sym (ap (λ (v : View E X F). v.station.number) e);
        main_is = h.main_is ∙ sym (ap (λ (v : View E X F). v.station.main) e);
        made_is = h.made_is ∙ sym (ap (λ (v : View E X F). v.station.last) e);
        below = λ q f has.
            let had : frame_of (reframed (a.frame (a.fixed j) (a.entries j)) me.0.hands.pages) q ≡ Some f = sym (ap (λ (v : View E X F). frame_of v.hands.pages q) e) ∙ has in
            ⊎_elim
            (λ (none : frame_of me.0.hands.pages q ≡ None). none_some f (sym (none_told (a.frame (a.fixed j) (a.entries j)) me.0.hands.pages q none) ∙ had))
            (λ (some : (x : F) × (frame_of me.0.hands.pages q ≡ Some x)). subst (λ (z : TableId). q + 1 < z.slots) (sym same) (h.below q some.0 some.1))
            (maybe (frame_of me.0.hands.pages q));
      }
