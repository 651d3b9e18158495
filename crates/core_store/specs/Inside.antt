-- The held frames as they stand in a program.
use Rattle.std.specs.Prelude.{◌≡◌, ◌⊎◌, ℕ, ◌+◌, ◌≤◌, List, [], ◌++◌, take, length, Option}
use Rattle.std.specs.Option.{option_map_or}
use Rattle.std.specs.Global.{Vec}
use Rattle.core_store.specs.declared.frame.Frame.{Frame}
use Rattle.core_store.specs.declared.three.HeldFrame.{HeldFrame}
use Rattle.core_store.specs.Frames.{AreOnce, numbered}

-- the frames of all pages, if they are held
abbrev pub frames_of_all : {slots : ℕ} → Option (Vec (Frame slots)) → List (Frame slots)
frames_of_all all = option_map_or (λ frames. frames.items) all []

-- those of all pages, and the first so many of three after them
abbrev pub held_in : {slots : ℕ} → Option (Vec (Frame slots)) → List (HeldFrame slots) → ℕ → List (HeldFrame slots)
held_in all frames count = numbered 0 (frames_of_all all) ++ take count frames

-- so many of three are held, and either none of them or three frames in all at most
pub record AreThreeInside {slots : ℕ} (all : Option (Vec (Frame slots))) (frames : List (HeldFrame slots)) (count : ℕ) : Type 0 where
  pub three : length frames ≡ 3
  pub most : count ≤ 3
  pub few : (count ≡ 0) ⊎ (length (frames_of_all all) + count ≤ 3)
  pub small : length (frames_of_all all) ≤ 65536
  pub once : AreOnce (held_in all frames count)
