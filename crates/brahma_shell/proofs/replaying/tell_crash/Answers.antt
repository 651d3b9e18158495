use Rattle.std.proofs.Common.{refl}
use Rattle.brahma_shell.proofs.replaying.tell_crash.Goals as goal

pub returns-in-Ok-write_all-clause-ok : goal.returns-in-Ok-write_all-clause-ok
returns-in-Ok-write_all-clause-ok g c = (refl, rw (c.as_bytes.ensures.value, c.in-Ok.ensures) at c.in-Ok-write_all.ensures.ok)
