-- What a turn leaves of the log area that was in use.
use Rattle.std.proofs.Common.{◌≡◌, ◌↔◌, ◌∙◌, ℕ, ◌*◌, Bool, true, false, List, length, Option, Some, None, option_map, refl, sym, ap, subst}
use Rattle.disk_model.specs.declared.area.Area.{Area}
use Rattle.disk_model.specs.declared.area.Area.TheVariants.{Pages}
use Rattle.disk_model.specs.Told.{Keeps, KeepsOthers}
use Rattle.gate_log.specs.State.{LogState, IsLogArea, forced_area}
use Rattle.core_store.specs.declared.frame.Frame.{Frame}
use Rattle.page_marks.specs.declared.marks.PageMark.{PageMark}
use Rattle.logged_journal.specs.declared.upkeep.Upkeep.{Upkeep}
use Rattle.logged_journal.specs.declared.upkeep.Upkeep.TheVariants.{Done, Busy, Stopped, TraceFull, LogFull, Memory, DiskFault}
use Rattle.logged_journal.specs.View.{LoggedView, image_bytes}
use Rattle.logged_journal.specs.Checkpoints.{LogsImages, ForcesImages, wanted_below}
use Rattle.logged_journal.proofs.Commits.{pages-apart}

-- the tail was forced with the images, the pages were written in place, and the log began anew in the other area
pub old-log : {D : Type 0} {slots : ℕ} (content : D → Area → Option (List ℕ)) (may_leave : D → Area → List ℕ → Type 0) (frames : List (Frame slots)) (v im all placed anew now : LoggedView D)
    → LogsImages frames (length v.marks) v im → IsLogArea im.log.area
    → content all.disk im.log.area ≡ option_map (forced_area im.log.durable im.log.tail) (content im.disk im.log.area)
    → KeepsOthers content may_leave all.disk placed.disk Pages → placed.log.area ≡ v.log.area → Keeps content may_leave placed.disk anew.disk placed.log.area → now.disk ≡ anew.disk
    → ForcesImages content frames v now
old-log {D} content may_leave frames v im all placed anew now logs area forced others there keeps same =
    let apart = pages-apart v.log.area (subst IsLogArea (ap (λ (l : LogState). l.area) logs.log) area) in
    let disk = ap (λ (w : LoggedView D). w.disk) logs.same in
    ap (λ (d : D). content d v.log.area) same
    ∙ subst (λ (a : Area). content anew.disk a ≡ content placed.disk a) there keeps.same
    ∙ (others v.log.area (λ e. apart (sym e))).same
    ∙ subst (λ (l : LogState). content all.disk l.area ≡ option_map (forced_area l.durable l.tail) (content v.disk l.area)) logs.log
    (subst (λ (d : D). content all.disk im.log.area ≡ option_map (forced_area im.log.durable im.log.tail) (content d im.log.area)) disk forced)

-- the bytes of the images that a turn needs, by the numbers that it is told
pub need-is : (slots images bytes : ℕ) (marks : List PageMark) → images ≡ length (wanted_below marks (length marks)) → bytes ≡ image_bytes slots → image_bytes slots * length (wanted_below marks (length marks)) ≡ images * bytes
need-is slots images bytes marks many size =
    ap (λ (n : ℕ). image_bytes slots * n) (sym many) ∙ ap (λ (n : ℕ). n * images) (sym size) ∙ Rattle.std.proofs.Math.Nat.mul_comm bytes images

-- ---- what a turn is refused

-- no other answer is left
pub only-memory : (u : Upkeep) → (u ≡ Done → ⊥) → (u ≡ LogFull → ⊥) → (u ≡ DiskFault → ⊥) → (u ≡ TraceFull → ⊥) → ((faults : ℕ) → u ≡ Stopped faults → ⊥) → ((pass : ℕ) → u ≡ Busy pass → ⊥) → u ≡ Memory
only-memory Done a b c d e f = absurd (a refl)
only-memory (Busy pass) a b c d e f = absurd (f pass refl)
only-memory (Stopped faults) a b c d e f = absurd (e faults refl)
only-memory TraceFull a b c d e f = absurd (d refl)
only-memory LogFull a b c d e f = absurd (b refl)
only-memory Memory a b c d e f = refl
only-memory DiskFault a b c d e f = absurd (c refl)

-- where none was given the history had room
pub has-room : (o : Option Upkeep) (running : Type 0) (past : Bool) → (o ≡ Some TraceFull) ↔ running × (past ≡ true) → o ≡ None → running → past ≡ false
has-room o running true full empty runs = absurd (let clash = sym empty ∙ full.1 (runs, refl) in cc (clash))
has-room o running false full empty runs = refl
