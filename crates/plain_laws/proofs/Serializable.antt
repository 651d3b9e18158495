-- A legal history is serializable.
use Rattle.std.proofs.Common.{◌≡◌, ℕ, sym, subst, [], ◌∷◌}
use Rattle.plain_model.specs.Graphs.{blank, root}
use Rattle.plain_model.specs.History.{History, IsLegal}
use Rattle.plain_laws.specs.Sound.{IsSoundGraph}
use Rattle.plain_laws.specs.Serializable.{IsSerializable}
use Rattle.plain_laws.proofs.Legal.{sound-root_proof}
use Rattle.plain_laws.proofs.Serial.{legal-serial_proof}

pub IsSerializable-legal : (h : History) → IsSoundGraph h.opening → IsLegal h → IsSerializable h
IsSerializable-legal h sound legal = legal-serial_proof h sound legal

-- the graph of the root alone is sound
pub IsSoundGraph-root : (slots : ℕ) → IsSoundGraph (blank slots root ∷ [])
IsSoundGraph-root slots = sound-root_proof slots

-- so a legal history that opens with the root alone is serializable
pub IsSerializable-root : (h : History) (slots : ℕ) → h.opening ≡ blank slots root ∷ [] → IsLegal h → IsSerializable h
IsSerializable-root h slots opening legal = IsSerializable-legal h (subst IsSoundGraph (sym opening) (IsSoundGraph-root slots)) legal
