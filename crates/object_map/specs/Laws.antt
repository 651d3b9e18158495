-- Laws of the map. Each is the contract of a function of this crate.
use Rattle.std.specs.Prelude.{◌≡◌, ℕ, List}
use Rattle.plain_model.specs.declared.object.Object.{Object}
use Rattle.plain_map.specs.Pairs.{AscendByKey}
use Rattle.object_map.specs.Maps.{IsMap}

-- a graph keeps one map at most
abbrev pub map-one : Type 0
map-one = (slot : ℕ) (g : List Object) (ps qs : List (ℕ × ℕ)) → IsMap slot g ps → IsMap slot g qs → ps ≡ qs

-- its keys ascend
abbrev pub map-ascends : Type 0
map-ascends = (slot : ℕ) (g : List Object) (ps : List (ℕ × ℕ)) → IsMap slot g ps → AscendByKey ps
