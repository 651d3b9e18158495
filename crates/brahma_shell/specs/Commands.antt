-- What the words after the program's name ask.
use Rattle.std.specs.Prelude.{◌≡◌, ℕ, if◌then◌else◌, List, [], ◌∷◌, Option, Some, None, bytes_eq, codes, option_map}
use Rattle.script_lines.specs.Numbers.{pages_of}
use Rattle.call_generator.specs.Options.{asked_of}
use Rattle.brahma_shell.specs.declared.commands.Command.{Command}
use Rattle.brahma_shell.specs.declared.commands.Command.TheVariants.{Init, Replay, Run, Gen, Audit, ParAudit, Migrate, Backup, Ship, Log, Standby, Check, Map}

-- the command that one word names
abbrev pub command_of_word : List ℕ → Option Command
command_of_word word =
    if bytes_eq word (codes "replay") then Some Replay
    else if bytes_eq word (codes "run") then Some Run
    else if bytes_eq word (codes "audit") then Some Audit
    else if bytes_eq word (codes "migrate") then Some Migrate
    else if bytes_eq word (codes "backup") then Some Backup
    else if bytes_eq word (codes "ship") then Some Ship
    else if bytes_eq word (codes "log") then Some Log
    else if bytes_eq word (codes "standby") then Some Standby
    else if bytes_eq word (codes "check") then Some Check
    else if bytes_eq word (codes "map") then Some Map
    else None

-- the command that one word names with a number after it
abbrev pub command_of_two : List ℕ → List ℕ → Option Command
command_of_two word number =
    if bytes_eq word (codes "init") then option_map Init (pages_of number)
    else if bytes_eq word (codes "paudit") then option_map ParAudit (pages_of number)
    else None

-- the command that one word names with more than one after it
abbrev pub command_of_more : List ℕ → List (List ℕ) → Option Command
command_of_more word words = if bytes_eq word (codes "gen") then option_map Gen (asked_of words) else None

-- what the words ask, where they have a reading
abbrev pub command_of : List (List ℕ) → Option Command
command_of [] = None
command_of (word ∷ []) = command_of_word word
command_of (word ∷ number ∷ []) = command_of_two word number
command_of (word ∷ number ∷ other ∷ words) = command_of_more word (number ∷ other ∷ words)

-- the words are `gen` with options after it, whose reading takes memory
abbrev pub AskOptions : List (List ℕ) → Type 0
AskOptions [] = ⊥
AskOptions (word ∷ []) = ⊥
AskOptions (word ∷ number ∷ []) = ⊥
AskOptions (word ∷ number ∷ other ∷ words) = word ≡ codes "gen"
