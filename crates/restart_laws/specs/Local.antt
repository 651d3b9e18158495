-- What a record does to one cell, and when it fits it, by the record and that cell alone; and what a log with images of pages
-- makes of a cell.
use Rattle.std.specs.Prelude.{◌≡◌, ◌≢◌, ℕ, ◌+◌, ◌-◌, ◌*◌, ◌^◌, ◌<◌, ◌≤◌, ◌==◌, ◌&&◌, ◌||◌, nat_le, Bool, true, false, cond, List, [], ◌∷◌, length, fold, Option, Some, slice_index_or}
use Rattle.cell_model.specs.Cells.{Cell, null, blank_cell, cell_at, pointer_in, relink, other_strength, pays, flipped, self_pointers}
use Rattle.cell_model.specs.Records.{Record, Make, Store, Pay, Undo, UndoPay, Weaken, Strengthen, Flip, CutDead, Free, HasNoPointer, after_record}

-- the cell of the first id, where f is applied if the record concerns it as the second one
abbrev pub concerning : ℕ → ℕ → (Cell → Cell) → Cell → Cell
concerning x id f c = cond (x == id) (f c) c

-- the cell that counts one pointer of this strength more
abbrev pub counts_more : Bool → Cell → Cell
counts_more strong c = cond strong (record c { strong = c.strong + 1 }) (record c { weak = c.weak + 1 })

-- the cell that counts one pointer of this strength less
abbrev pub counts_less : Bool → Cell → Cell
counts_less strong c = cond strong (record c { strong = c.strong - 1 }) (record c { weak = c.weak - 1 })

-- the cell whose slot's pointer has the other bit
abbrev pub turns : ℕ → Cell → Cell
turns slot c = relink slot (other_strength (pointer_in c slot)) c

-- the cell of the id after the record, which may concern it as its own cell, then as its old target, then as its new one
abbrev pub effect : ℕ → Record → ℕ → Cell → Cell
effect slots (Make pass id) x c = concerning x id (λ _. blank_cell true slots) c
effect slots (Store pass id slot old_target old_strong new_target new_bit new_strong) x c =
    concerning x new_target (counts_more new_strong) (concerning x old_target (counts_less old_strong) (concerning x id (relink slot (record { target = new_target; bit = new_bit })) c))
effect slots (Pay pass id old_value new_value) x c = concerning x id (pays new_value) c
effect slots (Undo pass id slot «from» from_strong to to_bit) x c =
    concerning x to (counts_more false) (concerning x «from» (counts_less from_strong) (concerning x id (relink slot (record { target = to; bit = to_bit })) c))
effect slots (UndoPay pass id «from» to) x c = concerning x id (pays to) c
effect slots (Weaken id slot target) x c = concerning x target (counts_more false) (concerning x target (counts_less true) (concerning x id (turns slot) c))
effect slots (Strengthen id slot target) x c = concerning x target (counts_more true) (concerning x target (counts_less false) (concerning x id (turns slot) c))
effect slots (Flip id) x c = concerning x id (flipped id) c
effect slots (CutDead id slot target was_strong) x c = concerning x target (counts_less was_strong) (concerning x id (relink slot null) c)
effect slots (Free id) x c = concerning x id (λ _. blank_cell false slots) c
effect slots _ x c = c

-- ---- when it fits one cell

-- the cell's count of the pointers of this strength
abbrev pub count_of : Bool → Cell → ℕ
count_of strong c = cond strong c.strong c.weak

-- a slot of a live cell holds this target
abbrev pub Holds : ℕ → ℕ → Cell → Type 0
Holds slot target c = (c.live ≡ true) × (slot < length c.pointers) × ((pointer_in c slot).target ≡ target)

-- a live cell can lose a pointer of this strength
abbrev pub CanLose : Bool → Cell → Type 0
CanLose strong c = (c.live ≡ true) × (0 < count_of strong c)

-- a live cell can get one more
abbrev pub CanGain : Bool → Cell → Type 0
CanGain strong c = (c.live ≡ true) × (count_of strong c + 1 < 2 ^ 32)

-- the record fits the cell of the id, as its own cell, then as its old target, then as its new one
abbrev pub FitsAt : Record → ℕ → Cell → Type 0
FitsAt (Make pass id) x c = x ≡ id → c.live ≡ false
FitsAt (Store pass id slot old_target old_strong new_target new_bit new_strong) x c =
    let own = concerning x id (relink slot (record { target = new_target; bit = new_bit })) c in
    (x ≡ id → Holds slot old_target c) × (x ≡ old_target → CanLose old_strong own) × (x ≡ new_target → CanGain new_strong (concerning x old_target (counts_less old_strong) own))
FitsAt (Pay pass id old_value new_value) x c = x ≡ id → (c.live ≡ true) × (c.payload ≡ old_value)
FitsAt (Undo pass id slot «from» from_strong to to_bit) x c =
    let own = concerning x id (relink slot (record { target = to; bit = to_bit })) c in
    (x ≡ id → Holds slot «from» c) × (x ≡ «from» → CanLose from_strong own) × (x ≡ to → CanGain false (concerning x «from» (counts_less from_strong) own))
FitsAt (UndoPay pass id «from» to) x c = x ≡ id → (c.live ≡ true) × (c.payload ≡ «from»)
FitsAt (Weaken id slot target) x c = (x ≡ id → Holds slot target c) × (x ≡ target → CanLose true (concerning x id (turns slot) c) × CanGain false (concerning x id (turns slot) c))
FitsAt (Strengthen id slot target) x c = (x ≡ id → Holds slot target c) × (x ≡ target → CanLose false (concerning x id (turns slot) c) × CanGain true (concerning x id (turns slot) c))
FitsAt (Flip id) x c = x ≡ id → (c.live ≡ true) × (c.strong ≡ 0) × (self_pointers id c ≤ c.weak)
FitsAt (CutDead id slot target was_strong) x c = (x ≡ id → Holds slot target c) × (x ≡ target → CanLose was_strong (concerning x id (relink slot null) c))
FitsAt (Free id) x c = x ≡ id → (c.live ≡ true) × (id ≢ 1) × HasNoPointer c × (c.strong ≡ 0) × (c.weak ≡ 0)
FitsAt _ x c = Unit {0}

-- ---- logs with images

-- what a log holds: a record of single cells, or a page as it stands
pub data Item : Type 0 where
  OfCells : (r : Record) → Item
  Image : (page : ℕ) (cells : List Cell) → Item

-- the id's cell is in the page: eight cells, from id 1 on
abbrev pub is_in_page : ℕ → ℕ → Bool
is_in_page page x = nat_le (8 * page + 1) x && nat_le x (8 * page + 8)

-- the id's cell in a page that it is in
abbrev pub cell_in : ℕ → List Cell → ℕ → Cell
cell_in page cells x = slice_index_or cells (x - (8 * page + 1)) (blank_cell false 0)

-- the cell of the id after one of them
abbrev pub after_item : ℕ → ℕ → Cell → Item → Cell
after_item slots x c (OfCells r) = effect slots r x c
after_item slots x c (Image page cells) = cond (is_in_page page x) (cell_in page cells x) c

-- the cell of the id after all of them: it starts from its page's last image, if there is one
abbrev pub replayed : ℕ → ℕ → Cell → List Item → Cell
replayed slots x c items = fold (after_item slots x) c items

-- whether one of them is an image of the id's page
abbrev pub has_image : ℕ → List Item → Bool
has_image x [] = false
has_image x (OfCells r ∷ is) = has_image x is
has_image x (Image page cells ∷ is) = is_in_page page x || has_image x is

-- the records of single cells among them
abbrev pub records_in : List Item → List (Option Record)
records_in [] = []
records_in (OfCells r ∷ is) = Some r ∷ records_in is
records_in (Image page cells ∷ is) = records_in is

-- each image is that page of the cells as they are there
abbrev pub AreImages : ℕ → List Cell → List Item → Type 0
AreImages slots cells [] = Unit {0}
AreImages slots cells (OfCells r ∷ is) = AreImages slots (after_record slots cells r) is
AreImages slots cells (Image page held ∷ is) = ((x : ℕ) → is_in_page page x ≡ true → cell_in page held x ≡ cell_at cells x) × AreImages slots cells is
