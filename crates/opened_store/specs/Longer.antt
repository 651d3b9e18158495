-- Bytes after the end of the pages area.
use Rattle.std.specs.Prelude.{ℕ, List, ◌++◌, ⊤}
use Rattle.disk_model.specs.Areas.{Bytes}
use Rattle.opened_images.specs.Opened.{Outcome, OpensTo, Opened}

-- there are cells that the store goes on with
abbrev pub IsOpen : Outcome → Type 0
IsOpen (OpensTo cells) = ⊤
IsOpen _ = ⊥

-- where an image opens to cells, it opens to the same cells with any bytes after its pages area
abbrev pub LongerPagesLaw : Type 0
LongerPagesLaw = (slots : ℕ) (image : Bytes) (rest : List ℕ) (o : Outcome) → IsOpen o → Opened slots image o → Opened slots (record image { pages = image.pages ++ rest }) o
