-- What is written.
use Rattle.std.specs.Prelude.{◌≡◌, ◌≢◌, ◌⊎◌, ℕ, List, [], ◌∷◌, ◌++◌, Option, codes, decimal}
use Rattle.std.specs.Io.KnownBytes.{Appends}
use Rattle.plain_model.specs.Text.{newline, numbers}
use Rattle.store_opening.specs.declared.open_refusal.OpenRefusal.{OpenRefusal}
use Rattle.store_opening.specs.declared.open_refusal.OpenRefusal.TheVariants.{Disk, Damaged, NoStore, UnknownVersion, Unsound, Memory, LogFull}
use Rattle.store_opening.specs.declared.open_refusal.Place.{Place}
use Rattle.store_opening.specs.declared.open_refusal.Place.TheVariants.{LogA, LogB, Page}
use Rattle.disk_model.specs.Causes.{Rose}

-- known bytes grow by a front of the piece, and this rest of it is left
abbrev pub AppendsUpTo : Option (List ℕ) → Option (List ℕ) → List ℕ → List ℕ → Type 0
AppendsUpTo old new piece rest = («front» : List ℕ) × (piece ≡ «front» ++ rest) × Appends old new «front»

-- known bytes grow by a front of the piece, but not by all of it
abbrev pub AppendsFront : Option (List ℕ) → Option (List ℕ) → List ℕ → Type 0
AppendsFront old new piece = (rest : List ℕ) × AppendsUpTo old new piece rest × (rest ≢ [])

-- the last line where the line of this number is refused
abbrev pub refused_line : ℕ → List ℕ
refused_line number = codes "refused: line " ++ decimal number ++ newline ∷ []

-- the line of a store that was made
abbrev pub pages_line : ℕ → List ℕ
pages_line pages = codes "pages " ++ decimal pages ++ newline ∷ []

-- the line of an audit
abbrev pub audit_line : (pages live zeros differences : ℕ) → List ℕ
audit_line pages live zeros differences =
    codes "audit: pages " ++ decimal pages ++ codes " live " ++ decimal live ++ codes " zero " ++ decimal zeros
    ++ codes " differences " ++ decimal differences ++ newline ∷ []

-- the line of a parallel audit
abbrev pub par_audit_line : (pages live zeros differences garbage : ℕ) → List ℕ
par_audit_line pages live zeros differences garbage =
    codes "paudit: pages " ++ decimal pages ++ codes " live " ++ decimal live ++ codes " zero " ++ decimal zeros
    ++ codes " differences " ++ decimal differences ++ codes " garbage " ++ decimal garbage ++ newline ∷ []

-- the line of generated calls: commits and aborts that were done, replies `busy`, deletions, and stored objects
abbrev pub generated_line : (commits aborts busy deleted stored : ℕ) → List ℕ
generated_line commits aborts busy deleted stored =
    codes "gen: commits " ++ decimal commits ++ codes " aborts " ++ decimal aborts ++ codes " busy " ++ decimal busy
    ++ codes " deleted " ++ decimal deleted ++ codes " stored " ++ decimal stored ++ newline ∷ []

-- the line of a crash, after which these ids are stored
abbrev pub crash_line : List ℕ → List ℕ
crash_line ids = codes "crash: stored" ++ numbers ids ++ newline ∷ []

-- what is damaged, and where
abbrev pub damage_text : Place → ℕ → List ℕ
damage_text LogA at = codes "log A at " ++ decimal at
damage_text LogB at = codes "log B at " ++ decimal at
damage_text (Page page) at = codes "page " ++ decimal page ++ codes " at " ++ decimal at

-- why a store isn't opened
abbrev pub open_refusal_text : OpenRefusal → List ℕ
open_refusal_text Disk = codes "disk"
open_refusal_text (Damaged place at) = damage_text place at
open_refusal_text NoStore = codes "no store"
open_refusal_text (UnknownVersion byte) = codes "version " ++ decimal byte
open_refusal_text (Unsound id rule) = codes "object " ++ decimal id ++ codes " rule " ++ decimal rule
open_refusal_text Memory = codes "memory"
open_refusal_text LogFull = codes "log"

-- the last line where a store isn't opened
abbrev pub open_refusal_line : OpenRefusal → List ℕ
open_refusal_line refusal = codes "refused: " ++ open_refusal_text refusal ++ newline ∷ []

-- the text was written and then the last line, or a front of the last line where the sink failed
abbrev pub EndsWith : Option (List ℕ) → Option (List ℕ) → ℕ → ℕ → List ℕ → List ℕ → Type 0
EndsWith old new before now text last =
    Appends old new (text ++ last)
    ⊎ ((«front» rest : List ℕ) × (last ≡ «front» ++ rest) × Appends old new (text ++ «front») × Rose before now)
