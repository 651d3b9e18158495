-- What is done while a pass has the log word.
use Rattle.std.specs.Prelude.{◌≡◌, ℕ, Bool, true, false, List, Option, Some, None, IfSome}
use Rattle.plain_model.specs.declared.calls.Entry.{Entry}
use Rattle.core_store.specs.declared.frame.Frame.{Frame}
use Rattle.core_store.specs.declared.three.HeldFrame.{HeldFrame}
use Rattle.core_store.specs.Frames.{AreOnce, is_held, pages_held}
use Rattle.framed_journal.specs.Holding.{AreHeldOf}
use Rattle.logged_journal.specs.View.{LoggedView}
use Rattle.latch_table.specs.Views.{with_claims}
use Rattle.latch_table.specs.Holds.{IsAnother}
use Rattle.latch_table.specs.Rule.{HasMet, IsInHand}
use Rattle.latch_table.specs.Steps.{IsNext}
use Rattle.shared_store.specs.Chronicles.Steps.{Flags, GoesOnWith}
use Rattle.shared_store.specs.Chronicles.View.{account}
use Rattle.shared_store.specs.Passes.{Known}
use Rattle.shared_store.specs.Holding.{pairs_of, with_pages}

-- a claim found this number in this word, if one did
abbrev pub HasMetIf : {slots : ℕ} → Known slots → Known slots → Option (ℕ × ℕ) → Type 0
HasMetIf old new None = new ≡ old
HasMetIf old new (Some f) = HasMet old new f.0 f.1

-- the hold made claims besides, has these pages in hand, and found this number in a word, if one
abbrev pub Takes : {slots : ℕ} → Known slots → Known slots → List (ℕ × Frame slots) → Option (ℕ × ℕ) → Type 0
Takes old new pages found = (claims : List (Option ℕ × ℕ)) × HasMetIf (with_pages (with_claims old claims) pages) new found

-- Of a hold with the log word: it claimed pages, of which these frames are held now, and the journal went on from the first to
-- the second with this entry and mark, if any. Or it found this number in a word.
pub record Acts {D : Type 0} (slots : ℕ) (old new : Known slots) (before after : LoggedView D) (held : List (HeldFrame slots)) (entered : Option Entry) (marked : Flags) (found : Option (ℕ × ℕ)) : Type 0 where
  -- the frames as they were claimed
  pub first : List (HeldFrame slots)
  pub view : Takes old new (pairs_of first) found
  pub another : IfSome found (λ f. IsAnother old f.1)
  pub pages : pages_held held ≡ pages_held first
  pub once : AreOnce held
  pub frames : AreHeldOf after.journal held
  pub goes_on : GoesOnWith slots (is_held first) before after entered marked
  pub rest : entered ≡ None → held ≡ first

-- What a hold has before it gives all back: the frames are those of the journal, which has an entry more, if one was entered
pub record IsToDrop {D : Type 0} (slots pages : ℕ) (v : Known slots) (j : LoggedView D) (held : List (HeldFrame slots)) (entered : Bool) : Type 0 where
  pub first : List (HeldFrame slots)
  pub hands : v.hands.pages ≡ pairs_of first
  pub idle : v.hands.moving ≡ None
  pub same : pages_held held ≡ pages_held first
  pub once : AreOnce held
  pub frames : AreHeldOf j.journal held
  pub next : entered ≡ true → IsNext (account D slots) pages v j
  pub rest : entered ≡ false → IsInHand (account D slots) v j × (held ≡ first)
