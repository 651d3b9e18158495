-- Serializable histories.
use Rattle.plain_model.specs.History.{History, end_of}
use Rattle.plain_model.specs.Serial.{IsSerial, acknowledged_transactions}

-- the acknowledged transactions since the last crash that gave no shared lock back, run alone by the same reference machine in the order
-- of all commits, each on the graph that the earlier ones left, get the replies that the history shows; one that gave a shared lock back
-- leaves there the writes that it has in the history
abbrev pub IsSerializable : History → Type 0
IsSerializable h = IsSerial h.ids h.slots (end_of h).opened (acknowledged_transactions h)
