-- What a hold found is a beginning of the log, after each step.
use Rattle.std.proofs.Common.{◌≡◌, List, [], ◌∷◌, ◌++◌, refl, sym, ap, ◌∙◌}
use Rattle.std.proofs.lemmas.List.{append_assoc}
use Rattle.latch_table.specs.declared.view.Story.{Story}
use Rattle.latch_table.specs.Account.{Marks}
use Rattle.latch_table.specs.Views.{KeepMarks}
use Rattle.latch_table.specs.Rule.{AreStories}

within : (l m n : Marks) → KeepMarks l m → KeepMarks m n → KeepMarks l n
within l m n p q = ((λ k e. q.0 k (p.0 k e)), (λ e. q.1 (p.1 e)), (λ e. q.2 (p.2 e)))

module _ {E : Type 0} where
  -- with more marks
  pub stories_on : (log : List E) (old new : Marks) (sts : List (Story E)) → KeepMarks old new → AreStories log old sts → AreStories log new sts
  stories_on log old new [] on h = tt
  stories_on log old new (st ∷ sts) on h = (h.0, within st.marks old new h.1 on, stories_on log old new sts on h.2)

  -- with more entries
  pub stories_longer : (log more : List E) (marks : Marks) (sts : List (Story E)) → AreStories log marks sts → AreStories (log ++ more) marks sts
  stories_longer log more marks [] h = tt
  stories_longer log more marks (st ∷ sts) h = ((h.0.0 ++ more, ap (λ (es : List E). es ++ more) h.0.1 ∙ append_assoc st.entries h.0.0 more), h.1, stories_longer log more marks sts h.2)

  pub stories_both : (log : List E) (marks : Marks) (xs ys : List (Story E)) → AreStories log marks xs → AreStories log marks ys → AreStories log marks (xs ++ ys)
  stories_both log marks [] ys h k = k
  stories_both log marks (x ∷ xs) ys h k = (h.0, h.1, stories_both log marks xs ys h.2 k)

  pub one_story : (log : List E) (marks : Marks) (xs : List (Story E)) (st : Story E) → AreStories log marks xs → (rest : List E) × (log ≡ st.entries ++ rest) → KeepMarks st.marks marks → AreStories log marks (xs ++ st ∷ [])
  one_story log marks xs st h is on = stories_both log marks xs (st ∷ []) h (is, on, tt)
