use Rattle.std.proofs.Common.{◌≡◌, ℕ, List, ap, sym, subst, ◌∙◌}
use Rattle.std.specs.Prelude.{slice_index}
use Rattle.log_replay.specs.Replays.{Replaying}
use Rattle.log_replay.proofs.replay.Replay.has_all_images.Goals as goal

pub returns-clause-unless : goal.returns-clause-unless
returns-clause-unless g c = λ e h. c.are_zero.ensures.unless e (subst (λ (ks : List ℕ). (p : ℕ) → slice_index ks p ≡ 0) (sym (c.deref.ensures.value ∙ ap (λ (u : Replaying). u.skips) c.self.view_is)) h)
