use Rattle.std.proofs.Common.{◌≤◌, inl, inr, None, refl, ⊎_elim, arith}
use Rattle.brahma_shell.proofs.generating.generate_calls.Goals as goal

pub returns-in-Ok-clause-generated : goal.returns-in-Ok-clause-generated
returns-in-Ok-clause-generated g c =
    let opened = c.in-Ok.ensures.opened in
    let later : g.D.Disk.faults c.args.disk ≤ g.D.Disk.faults c.in-Ok.store.disk = omega (arith, opened.counted.0, opened.counted.1) in
    rw c.into_logged.ensures
    (λ left reads. inr (c.generate_in-status.new.store, refl, c.generate_in-status.ensures.generated c.args.disk left reads (g.D.Disk.faults c.args.disk) later opened.opens))

pub returns-in-Ok-clause-statuses : goal.returns-in-Ok-clause-statuses
returns-in-Ok-clause-statuses g c =
    let opened = c.in-Ok.ensures.opened in
    let later : g.D.Disk.faults c.args.disk ≤ g.D.Disk.faults c.in-Ok.store.disk = omega (arith, opened.counted.0, opened.counted.1) in
    let h = c.generate_in-status.ensures.generated c.args.disk None 0 (g.D.Disk.faults c.args.disk) later opened.opens in
    ⊎_elim (λ e. inl e) (λ h. inr (⊎_elim (λ e. inl e) (λ h. inr (⊎_elim (λ e. inl e) (λ h. inr (inr h)) h)) h)) h.statuses
