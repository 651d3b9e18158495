-- A sound journal stays sound where the collector's work is forgotten: no round is open, and the queue has all objects that no
-- strong pointer leads to.
use Rattle.std.proofs.Common.{◌≡◌, ℕ, List, None, refl, inl}
use Rattle.plain_model.specs.ActiveTransaction.{ActiveTransaction}
use Rattle.store_model.specs.Core.{Ref, Core}
use Rattle.store_model.specs.Sound.{IsKnown, root_itself, pointed, named_id, IsSound}
use Rattle.store_model.specs.Steps.{IsQueueLeft}
use Rattle.store_model.proofs.OnceLaws.{nothing-in, once-none}
use Rattle.restart_laws.specs.Graph.{zeros_of}
use Rattle.restart_laws.proofs.ZeroLaws.{zeros-once, zeros-all, zeros-only}

abbrev pub forgotten : Core → Core
forgotten c = record c { queue = zeros_of c.cells; round = None }

known : (c d : Core) → d.cells ≡ c.cells → d.refs ≡ c.refs → (e : ℕ × ActiveTransaction) (id : ℕ) → IsKnown c e id → IsKnown (forgotten c) e id
known c d q f e id (root_itself h) = root_itself h
known c d q f e id (pointed u slot h l t) = pointed u slot h l t
known c d q f e id (named_id h) = named_id h

pub forgotten-sound : (c : Core) → IsSound c → IsSound (forgotten c)
forgotten-sound c s = record {
  consistent = s.consistent;
  zero = λ id l n z. inl (zeros-all c.cells id l n z);
  queue_once = zeros-once c.cells;
  round_once = once-none;
  queued = λ id h. (let z = zeros-only c.cells id h in (z.0, z.1, λ k. nothing-in id k));
  round_live = λ id h. nothing-in id h;
  state = s.state;
  kept = λ id k. (let now = s.kept id k in record { live = now.live; contents = now.contents });
  stored = s.stored;
  none_undone = s.none_undone;
  made_first = s.made_first;
  made_alone = s.made_alone;
  new_named = s.new_named;
  old_named = s.old_named;
  made_named = s.made_named;
  refs_active = s.refs_active;
  registers = λ e m id h. known c c refl refl e id (s.registers e m id h);
  copies = tt;
  copied_listed = tt;
  condemned = record {
    live = λ id h. nothing-in id h;
    not_root = λ id h. nothing-in id h;
    not_locked = λ id h e m. nothing-in id h;
    not_named = λ id h. nothing-in id h;
    within = λ u slot l h. nothing-in _ h;
  };
  condemned_listed = λ id h. nothing-in id h;
}

-- the queue of all such objects is one that the laws of the ends ask for, where no round is open
pub zeros-left : (c : Core) → c.round ≡ None → (left : List Ref) → IsQueueLeft (record c { round = None }) left (zeros_of c.cells)
zeros-left c q left = record {
  zero = λ id l n z. inl (zeros-all c.cells id l n z);
  once = zeros-once c.cells;
  queued = λ id h. (let z = zeros-only c.cells id h in (z.0, z.1, λ k. nothing-in id k));
}
