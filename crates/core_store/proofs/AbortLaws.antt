-- A journal after a step of an abort.
use Rattle.std.proofs.Common.{◌≡◌, ℕ, ◌+◌, ◌<◌, List, refl, sym, ap, ◌∙◌, subst, Some, arith}
use Rattle.std.specs.Prelude.{option_map}
use Rattle.plain_model.specs.declared.calls.Call.TheVariants.{Abort}
use Rattle.plain_model.specs.declared.calls.Reply.TheVariants.{Done}
use Rattle.plain_model.specs.declared.calls.Entry.TheVariants.{Call, Undo}
use Rattle.plain_model.specs.History.{end_of, left_to_undo}
use Rattle.log_record.specs.declared.cell_record.CellRecord.{CellRecord}
use Rattle.log_record.specs.declared.cell_record.CellRecord.TheVariants.{AbortEnd}
use Rattle.core_store.specs.declared.journal.Journal.TheInside.{Inside}
use Rattle.core_store.specs.declared.three.HeldFrame.{HeldFrame}
use Rattle.core_store.specs.Events.{after_event}
use Rattle.core_store.specs.Frames.{Agree}
use Rattle.core_store.specs.JournalView.{JournalView, cells_of, core_of}
use Rattle.core_store.specs.Journal.{view_of, IsJournalInside}
use Rattle.core_store.specs.Logged.{logged_by_undo}
use Rattle.core_store.specs.Replaced.{next_to_restore}
use Rattle.core_store.specs.RoundView.{touched_by_record}
use Rattle.core_store.specs.Stands.{Moves, Undoes, UndoesOne, Ended, EndsAbort}
use Rattle.core_store.specs.Views.{view_of as tables_of}
use Rattle.core_store.proofs.HappensLaws.{client_note, happens-undo, happens-ended, counted-owed}
use Rattle.core_store.proofs.JournalLaws.{Happens}
use Rattle.core_store.proofs.JournalSteps.{Grows, HasGrown, has-grown}

module _ {slots : ℕ} (a b : Inside slots) (now : JournalView) (held new : List (HeldFrame slots)) (pass left : ℕ) (s : IsJournalInside a) (is : view_of a ≡ now) (agree : Agree (cells_of now) held) (less : b.tables.owed + 1 ≡ a.tables.owed) where
  agree_a : Agree (cells_of (view_of a)) held
  agree_a = subst (λ (j : JournalView). Agree (cells_of j) held) (sym is) agree

  -- ---- one write is undone

  module _ (logged : CellRecord) (g : Grows a b (client_note (Undo pass) (Some logged) left)) (undoes : UndoesOne slots (tables_of a.tables) (tables_of b.tables) held new pass logged) where
    it : Undoes slots (tables_of a.tables) (tables_of b.tables) (core_of (view_of a)) held new pass logged
    it = undoes (core_of (view_of a)) s.keeps.stands agree_a

    happens : Happens (view_of a) (tables_of b.tables) (client_note (Undo pass) (Some logged) left) (after_event slots (core_of (view_of a)) (Undo pass) (Some logged))
    happens = happens-undo (view_of a) (tables_of a.tables) (tables_of b.tables) held new pass logged left s.keeps it (counted-owed (view_of a) (tables_of a.tables) (tables_of b.tables) s.keeps less)

    pub has-undone : HasGrown b now held new (client_note (Undo pass) (Some logged) left) (after_event slots (core_of now) (Undo pass) (Some logged))
    has-undone =
        subst (λ (j : JournalView). HasGrown b now held new (client_note (Undo pass) (Some logged) left) (after_event slots (core_of j) (Undo pass) (Some logged))) is
        (has-grown a b (client_note (Undo pass) (Some logged) left) (after_event slots (core_of (view_of a)) (Undo pass) (Some logged)) s g happens now held new is it.moves)

    pub undone-left : 0 < left_to_undo (end_of now.history) pass
    undone-left = subst (λ (j : JournalView). 0 < left_to_undo (end_of j.history) pass) is it.some_left

    pub undone-record : Some logged ≡ option_map (logged_by_undo (cells_of now) pass) (next_to_restore (end_of now.history) pass)
    undone-record = subst (λ (j : JournalView). Some logged ≡ option_map (logged_by_undo (cells_of j) pass) (next_to_restore (end_of j.history) pass)) is it.record_is

    -- the objects that the record concerns are touched, and the cursor stays
    pub undone-round : b.tables.round.view ≡ touched_by_record now.round (option_map (logged_by_undo (cells_of now) pass) (next_to_restore (end_of now.history) pass))
    undone-round = it.round ∙ (ap (λ (j : JournalView). touched_by_record j.round (Some logged)) is ∙ ap (touched_by_record now.round) undone-record)

  -- ---- the transaction ends

  module _ (g : Grows a b (client_note (Call pass Abort Done) (Some (AbortEnd pass)) left)) (ends : EndsAbort slots (tables_of a.tables) (tables_of b.tables) pass) (same : new ≡ held) where
    done : Ended slots (tables_of a.tables) (tables_of b.tables) (core_of (view_of a)) pass
    done = ends (core_of (view_of a)) s.keeps.stands

    moves : Moves slots (cells_of (view_of a)) held new (Some (AbortEnd pass))
    moves = record { fits = tt; lays = tt; agree = subst (λ (hs : List (HeldFrame slots)). Agree (cells_of (view_of a)) hs) (sym same) agree_a; elsewhere = λ p e. refl }

    ended : Happens (view_of a) (tables_of b.tables) (client_note (Call pass Abort Done) (Some (AbortEnd pass)) left) (after_event slots (core_of (view_of a)) (Call pass Abort Done) (Some (AbortEnd pass)))
    ended = happens-ended (view_of a) (tables_of a.tables) (tables_of b.tables) pass left s.keeps done (counted-owed (view_of a) (tables_of a.tables) (tables_of b.tables) s.keeps less)

    pub has-ended : HasGrown b now held new (client_note (Call pass Abort Done) (Some (AbortEnd pass)) left) (after_event slots (core_of now) (Call pass Abort Done) (Some (AbortEnd pass)))
    has-ended =
        subst (λ (j : JournalView). HasGrown b now held new (client_note (Call pass Abort Done) (Some (AbortEnd pass)) left) (after_event slots (core_of j) (Call pass Abort Done) (Some (AbortEnd pass)))) is
        (has-grown a b (client_note (Call pass Abort Done) (Some (AbortEnd pass)) left) (after_event slots (core_of (view_of a)) (Call pass Abort Done) (Some (AbortEnd pass))) s g ended now held new is moves)

    pub ended-left : left_to_undo (end_of now.history) pass ≡ 0
    ended-left = subst (λ (j : JournalView). left_to_undo (end_of j.history) pass ≡ 0) is (let l = done.all_undone in omega (arith, l))

    pub ended-round : b.tables.round.view ≡ now.round
    ended-round = done.round ∙ ap (λ (j : JournalView). j.round) is
