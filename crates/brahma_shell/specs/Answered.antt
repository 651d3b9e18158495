-- What the program answers.
use Rattle.std.specs.Prelude.{◌≡◌, ◌⊎◌, ◌*◌, ℕ, List, [], Option, Some, None, codes, ⊤}
use Rattle.disk_model.specs.declared.area.Area.{Area}
use Rattle.disk_model.specs.Areas.{Bytes}
use Rattle.disk_model.specs.Causes.{Rose}
use Rattle.opened_store.specs.Unopened.{DoesNotOpen}
use Rattle.store_opening.specs.Looks.{IsLookedAt}
use Rattle.store_opening.specs.Store.{Reads}
use Rattle.logged_journal.specs.View.{LoggedView}
use Rattle.brahma_shell.specs.declared.commands.Command.{Command}
use Rattle.brahma_shell.specs.declared.commands.Command.TheVariants.{Init, Replay, Run, Gen, Audit, ParAudit, Migrate, Backup, Ship, Log, Standby, Check, Map}
use Rattle.brahma_shell.specs.declared.ended.Ended.{Ended}
use Rattle.brahma_shell.specs.declared.ended.Ended.TheVariants.{Shut, Kept}
use Rattle.call_generator.specs.declared.options.Asked.{Asked}
use Rattle.brahma_shell.specs.Commands.{AskOptions, command_of}
use Rattle.brahma_shell.specs.Ended.{disk_in}
use Rattle.brahma_shell.specs.Top.{Tell, IsStatus, GoesLater, IsDoneOrFull, HasOnlyLines, Outside, Ends, Unopened, Replayed, Audited, Made, Generated, AlwaysOpens}
use Rattle.brahma_shell.specs.ClientLines.{HasOnlyClients}
use Rattle.brahma_shell.specs.Ran.{Ran}
use Rattle.brahma_shell.specs.Migrated.{AlwaysOpensAtEither, Migrated, Unmigrated}
use Rattle.brahma_shell.specs.ParAudited.{ParAudited}
use Rattle.brahma_shell.specs.BackedUp.{BackedUp}
use Rattle.brahma_shell.specs.Shipped.{Shipped}
use Rattle.brahma_shell.specs.Logged.{Logged}
use Rattle.brahma_shell.specs.StoodBy.{StoodBy}
use Rattle.brahma_shell.specs.Checked.{Checked}
use Rattle.brahma_shell.specs.MapRan.{AlwaysKeepsMap, OpensToNoMap, HasOnlyMapLines, Unmapped, MapRan}
use Rattle.standby_feeding.specs.StoodBy.{HasStream}
use Rattle.script_lines.specs.Numbers.{object_slots}

-- words that open the store
abbrev pub AskStore : List (List ℕ) → Type 0
AskStore words = (command_of words ≡ Some Replay) ⊎ ((command_of words ≡ Some Run) ⊎ ((command_of words ≡ Some Audit) ⊎ (((pieces : ℕ) × (command_of words ≡ Some (ParAudit pieces))) ⊎ (((asked : Asked) × (command_of words ≡ Some (Gen asked))) ⊎ ((command_of words ≡ Some Backup) ⊎ (command_of words ≡ Some Map))))))

-- words that make a store anew
abbrev pub MakeStore : List (List ℕ) → Type 0
MakeStore words = ((pages : ℕ) × (command_of words ≡ Some (Init pages))) ⊎ (command_of words ≡ Some Standby)

-- words that read a stream
abbrev pub AskStream : List (List ℕ) → Type 0
AskStream words = (command_of words ≡ Some Standby) ⊎ (command_of words ≡ Some Check)

-- the image opens to no store for what the words ask: not at fourteen slots, nor, where they ask for a migration, at six
abbrev pub DoesNotOpenFor : List (List ℕ) → Bytes → Type 0
DoesNotOpenFor words image = DoesNotOpen object_slots image × (command_of words ≡ Some Migrate → DoesNotOpen 6 image)

-- a command can be done with what it finds: it makes a store; or it finds one that opens, whatever a power loss leaves, and a
-- replay's lines are in the grammar, within the limits, and name no page but one of that store, or those of a run are a script of
-- clients; for a migration the store may open at six slots; of a standby and a check the source tells a stream whose store can
-- be made; for the lines of a map the store keeps one, and they are in their grammar and within the limits
abbrev pub CanBeDone : {D : Type 0} → (D → Area → List ℕ → Type 0) → D → Option (List ℕ) → Command → Type 0
CanBeDone may_leave disk left (Init pages) = ⊤
CanBeDone may_leave disk left Replay = (ids : ℕ) × AlwaysOpens may_leave ids disk × HasOnlyLines ids left
CanBeDone may_leave disk left Run = (ids : ℕ) × AlwaysOpens may_leave ids disk × HasOnlyClients ids left
CanBeDone may_leave disk left (Gen asked) = (ids : ℕ) × AlwaysOpens may_leave ids disk
CanBeDone may_leave disk left Audit = (ids : ℕ) × AlwaysOpens may_leave ids disk
CanBeDone may_leave disk left (ParAudit pieces) = (ids : ℕ) × AlwaysOpens may_leave ids disk
CanBeDone may_leave disk left Migrate = (ids : ℕ) × AlwaysOpensAtEither may_leave ids disk
CanBeDone may_leave disk left Backup = (ids : ℕ) × AlwaysOpens may_leave ids disk
CanBeDone may_leave disk left Ship = (ids : ℕ) × AlwaysOpens may_leave ids disk
CanBeDone may_leave disk left Log = (ids : ℕ) × AlwaysOpens may_leave ids disk
CanBeDone may_leave disk left Standby = HasStream object_slots left
CanBeDone may_leave disk left Check = HasStream object_slots left
CanBeDone may_leave disk left Map = (ids : ℕ) × AlwaysKeepsMap may_leave ids disk × HasOnlyMapLines left

-- there was no memory to read the options of `gen`: nothing is read, and the disk is asked for nothing
pub record Starves {S D : Type 0} (words : List (List ℕ)) (script later : S) (disk : D) (before after : Outside) (status : ℕ) (ended : Ended D) : Type 0 where
  pub options : AskOptions words
  pub told : status ≡ 8
  pub unread : (later ≡ script) × (ended ≡ Shut disk)
  pub printed : Ends before after [] (codes "refused: memory\n")

-- the program was asked by these words, and ended with this status: by what each command says
pub record Answered {S D : Type 0} (content : D → Area → Option (List ℕ)) (may_leave : D → Area → List ℕ → Type 0) (moment : D → ℕ) (left_since : D → ℕ → Bytes → Type 0)
    (words : List (List ℕ)) (script later : S) (disk : D) (before after : Outside) (status : ℕ) (ended : Ended D) : Type 0 where
  pub usage : status ≡ 2 → command_of words ≡ None
  -- words that have no reading are refused as such, or there was no memory to tell
  pub no_reading : command_of words ≡ None → (status ≡ 2) ⊎ Starves words script later disk before after status ended
  pub statuses : IsStatus status
  pub goes_later : GoesLater before after
  -- where the disk holds no store that opens, and none is made, the disk is only looked at: each image, at each moment and at the
  -- exit, is one from before
  pub only_looks : (MakeStore words → ⊥) → (image : Bytes) → Reads content disk image → DoesNotOpenFor words image
      → IsLookedAt content may_leave moment left_since disk (disk_in ended)
  -- words without a reading: nothing is read, and the disk is asked for nothing
  pub unread : status ≡ 2 → (later ≡ script) × (ended ≡ Shut disk) × Ends before after [] (codes "usage\n")
  pub made : (pages : ℕ) → command_of words ≡ Some (Init pages) → (later ≡ script) × Made may_leave moment left_since disk pages before after status ended
  pub replayed : command_of words ≡ Some Replay → (later ≡ script) × Unopened content may_leave moment left_since disk before after status ended
      ⊎ Replayed content may_leave script later disk before after status ended
  pub ran : command_of words ≡ Some Run → (later ≡ script) × Unopened content may_leave moment left_since disk before after status ended
      ⊎ ((v : LoggedView D) × (ended ≡ Kept v) × Ran content may_leave disk before after status v)
  pub audited : command_of words ≡ Some Audit → (later ≡ script) × (Unopened content may_leave moment left_since disk before after status ended
      ⊎ Audited content may_leave disk before after status ended)
  pub par_audited : (pieces : ℕ) → command_of words ≡ Some (ParAudit pieces) → (later ≡ script) × (Unopened content may_leave moment left_since disk before after status ended
      ⊎ ParAudited content may_leave disk before after status ended)
  pub generated : (asked : Asked) → command_of words ≡ Some (Gen asked) → (later ≡ script) × (Unopened content may_leave moment left_since disk before after status ended
      ⊎ ((v : LoggedView D) × (ended ≡ Kept v) × Generated content may_leave asked disk before after status v))
  pub migrated : command_of words ≡ Some Migrate → (later ≡ script) × (Unmigrated content may_leave moment left_since disk before after status ended
      ⊎ Migrated content may_leave moment left_since disk before after status ended)
  pub backed_up : command_of words ≡ Some Backup → (later ≡ script) × (Unopened content may_leave moment left_since disk before after status ended
      ⊎ BackedUp content may_leave disk before after status ended)
  pub shipped : command_of words ≡ Some Ship → (later ≡ script) × Shipped content may_leave moment left_since disk before after status ended
  pub logged : command_of words ≡ Some Log → (later ≡ script) × Logged content may_leave moment left_since disk before after status ended
  pub stood_by : command_of words ≡ Some Standby → StoodBy may_leave moment left_since disk before after status ended
  -- a check hands the disk back as it was
  pub checked : command_of words ≡ Some Check → (ended ≡ Shut disk) × Checked before after status
  pub mapped : command_of words ≡ Some Map → (later ≡ script) × Unmapped content may_leave moment left_since disk before after status ended
      ⊎ MapRan content may_leave disk before after status ended
  -- a store that was made opens, whatever a power loss leaves
  pub makes_open : (pages : ℕ) → command_of words ≡ Some (Init pages) → (status ≡ 6 → ⊥) → AlwaysOpens may_leave (8 * pages) (disk_in ended)
  -- and on a disk that tells what it reads it goes on to open so, with as many ids, after each command that makes none, at every
  -- status
  pub stays_open : Tell content → (ids : ℕ) → AlwaysOpens may_leave ids disk → (MakeStore words → ⊥) → AlwaysOpens may_leave ids (disk_in ended)
  -- one that opens at six slots or at fourteen goes on to open at either so
  pub stays_either : Tell content → (ids : ℕ) → AlwaysOpensAtEither may_leave ids disk → (MakeStore words → ⊥) → AlwaysOpensAtEither may_leave ids (disk_in ended)
  -- and once a migration did all but tell it, at fourteen
  pub migrates : Tell content → (ids : ℕ) → AlwaysOpensAtEither may_leave ids disk → command_of words ≡ Some Migrate → (status ≡ 0) ⊎ (status ≡ 5) → AlwaysOpens may_leave ids (disk_in ended)
  -- what can be done is done where no call of a stream or of the disk failed, unless memory is out, or the history or the log is
  -- full
  pub complete : Tell content → (command : Command) → command_of words ≡ Some command → CanBeDone may_leave disk before.left command
      → ¬ Rose before.read_faults after.read_faults → ¬ Rose before.write_faults after.write_faults → ¬ Rose before.disk_faults after.disk_faults → IsDoneOrFull status
  -- where what the disk reads doesn't open, the store isn't opened
  pub refuses : (image : Bytes) → Reads content disk image → DoesNotOpen object_slots image → AskStore words → Unopened content may_leave moment left_since disk before after status ended
  -- nor is it migrated where it opens at neither number of slots
  pub refuses_to_migrate : (image : Bytes) → Reads content disk image → DoesNotOpenFor words image → command_of words ≡ Some Migrate → Unmigrated content may_leave moment left_since disk before after status ended
  -- and only there it is refused, where the disk tells what it reads, or where lines over its map are asked and it keeps none; where a
  -- stream is read, it is refused for that alone
  pub only_refused : (AskStream words → ⊥) → Tell content → status ≡ 7 → (image : Bytes) → Reads content disk image → DoesNotOpenFor words image ⊎ ((command_of words ≡ Some Map) × OpensToNoMap image)
