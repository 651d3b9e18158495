-- What the program answers, by the command that its words name.
use Rattle.std.proofs.Common.{◌≡◌, ◌⊎◌, ⊎_elim, inl, inr, ◌≤◌, ◌*◌, ℕ, Bool, true, false, List, [], ◌∷◌, Option, Some, None, refl, sym, ap, subst, ◌∙◌, arith}
use Rattle.std.specs.Prelude.{IfSome, is_some, codes, bytes_eq, nat_le, nat_lt, ◌&&◌, if◌then◌else◌, option_and_then, option_map}
use Rattle.std.proofs.lemmas.Bool.{leb-true, ltb-true}
use Rattle.disk_model.specs.declared.area.Area.{Area}
use Rattle.disk_model.specs.Areas.{Bytes}
use Rattle.disk_model.specs.Told.{IsImage}
use Rattle.disk_model.specs.Time.{LeavesOnlyImages}
use Rattle.opened_images.specs.Opened.{Opened, OpensTo}
use Rattle.store_opening.specs.declared.open_refusal.OpenRefusal.TheVariants.{Memory}
use Rattle.disk_model.proofs.Moments.{no_call}
use Rattle.store_opening.specs.Looks.{IsLookedAt}
use Rattle.script_lines.specs.Numbers.{object_slots, number_of, pages_of}
use Rattle.brahma_shell.specs.declared.commands.Command.{Command}
use Rattle.brahma_shell.specs.declared.commands.Command.TheVariants.{Init, Replay, Run, Gen, Audit, ParAudit, Migrate, Backup, Ship, Log, Standby, Check, Map}
use Rattle.call_generator.specs.declared.options.Asked.{Asked}
use Rattle.brahma_shell.specs.declared.ended.Ended.{Ended}
use Rattle.brahma_shell.specs.declared.ended.Ended.TheVariants.{Shut, Kept}
use Rattle.logged_journal.specs.View.{LoggedView}
use Rattle.call_generator.specs.Options.{asked_of}
use Rattle.brahma_shell.specs.Commands.{AskOptions, command_of}
use Rattle.brahma_shell.specs.Ended.{disk_in, shut_in}
use Rattle.brahma_shell.specs.Top.{IsStatusOfReplay, GoesLater, Outside, Ends, AlwaysOpens, Unopened, Replayed, Audited, Generated, Made}
use Rattle.brahma_shell.specs.Ran.{Ran}
use Rattle.brahma_shell.specs.ParAudited.{ParAudited}
use Rattle.brahma_shell.specs.BackedUp.{BackedUp}
use Rattle.brahma_shell.specs.Shipped.{Shipped}
use Rattle.brahma_shell.specs.Logged.{Logged}
use Rattle.brahma_shell.specs.StoodBy.{StoodBy}
use Rattle.brahma_shell.proofs.StoodByLemmas.{stood-complete}
use Rattle.brahma_shell.proofs.LoggedLemmas.{logged-images, logged-closed, logged-done}
use Rattle.brahma_shell.proofs.ShippedLemmas.{shipped-images, shipped-closed, shipped-done, backed_up-open, backed_up-done, backed_up-opened}
use Rattle.brahma_shell.specs.Answered.{CanBeDone, Answered}
use Rattle.brahma_shell.specs.Migrated.{AlwaysOpensAtEither, Migrated, Unmigrated}
use Rattle.brahma_shell.proofs.CompleteLemmas.{at-either, made-open, unopened-open, unopened-either, unopened-closed, unopened-memory, replayed-open, replayed-done, audited-open, audited-done, par_audited-open, par_audited-done, generated-open, generated-done, ran-open, ran-done}
use Rattle.brahma_shell.proofs.MigratedLemmas.{closed-unmigrated, unmigrated-closed, goes-on-open, goes-on-either, migrated-open, migration-done}

pub none-some : (o : Option Command) (c : Command) → o ≡ None → o ≡ Some c → ⊥
none-some None c e f = cc (f)
none-some (Some d) c e f = cc (e)

same-pages : (o : Option Command) (p q : ℕ) → o ≡ Some (Init p) → o ≡ Some (Init q) → p ≡ q
same-pages o p q e f = let h : Some (Init p) ≡ Some (Init q) = sym e ∙ f in cc (h)

-- a word that asks one thing asks no other
init-replay : (o : Option Command) (p : ℕ) → o ≡ Some (Init p) → o ≡ Some Replay → ⊥
init-replay o p e f = let h : Some (Init p) ≡ Some Replay = sym e ∙ f in absurd (cc (h))

init-audit : (o : Option Command) (p : ℕ) → o ≡ Some (Init p) → o ≡ Some Audit → ⊥
init-audit o p e f = let h : Some (Init p) ≡ Some Audit = sym e ∙ f in absurd (cc (h))

replay-audit : (o : Option Command) → o ≡ Some Replay → o ≡ Some Audit → ⊥
replay-audit o e f = let h : Some Replay ≡ Some Audit = sym e ∙ f in absurd (cc (h))

-- a command is asked that is none of these
init-gen : (o : Option Command) (p : ℕ) (a : Asked) → o ≡ Some (Init p) → o ≡ Some (Gen a) → ⊥
init-gen o p a e f = let h : Some (Init p) ≡ Some (Gen a) = sym e ∙ f in absurd (cc (h))

replay-gen : (o : Option Command) (a : Asked) → o ≡ Some Replay → o ≡ Some (Gen a) → ⊥
replay-gen o a e f = let h : Some Replay ≡ Some (Gen a) = sym e ∙ f in absurd (cc (h))

audit-gen : (o : Option Command) (a : Asked) → o ≡ Some Audit → o ≡ Some (Gen a) → ⊥
audit-gen o a e f = let h : Some Audit ≡ Some (Gen a) = sym e ∙ f in absurd (cc (h))

-- nor is a run of clients asked
init-run : (o : Option Command) (p : ℕ) → o ≡ Some (Init p) → o ≡ Some Run → ⊥
init-run o p e f = let h : Some (Init p) ≡ Some Run = sym e ∙ f in absurd (cc (h))

replay-run : (o : Option Command) → o ≡ Some Replay → o ≡ Some Run → ⊥
replay-run o e f = let h : Some Replay ≡ Some Run = sym e ∙ f in absurd (cc (h))

audit-run : (o : Option Command) → o ≡ Some Audit → o ≡ Some Run → ⊥
audit-run o e f = let h : Some Audit ≡ Some Run = sym e ∙ f in absurd (cc (h))

gen-run : (o : Option Command) (a : Asked) → o ≡ Some (Gen a) → o ≡ Some Run → ⊥
gen-run o a e f = let h : Some (Gen a) ≡ Some Run = sym e ∙ f in absurd (cc (h))

-- nor is a parallel audit
init-par_audit : (o : Option Command) (p n : ℕ) → o ≡ Some (Init p) → o ≡ Some (ParAudit n) → ⊥
init-par_audit o p n e f = let h : Some (Init p) ≡ Some (ParAudit n) = sym e ∙ f in absurd (cc (h))

replay-par_audit : (o : Option Command) (n : ℕ) → o ≡ Some Replay → o ≡ Some (ParAudit n) → ⊥
replay-par_audit o n e f = let h : Some Replay ≡ Some (ParAudit n) = sym e ∙ f in absurd (cc (h))

run-par_audit : (o : Option Command) (n : ℕ) → o ≡ Some Run → o ≡ Some (ParAudit n) → ⊥
run-par_audit o n e f = let h : Some Run ≡ Some (ParAudit n) = sym e ∙ f in absurd (cc (h))

audit-par_audit : (o : Option Command) (n : ℕ) → o ≡ Some Audit → o ≡ Some (ParAudit n) → ⊥
audit-par_audit o n e f = let h : Some Audit ≡ Some (ParAudit n) = sym e ∙ f in absurd (cc (h))

gen-par_audit : (o : Option Command) (a : Asked) (n : ℕ) → o ≡ Some (Gen a) → o ≡ Some (ParAudit n) → ⊥
gen-par_audit o a n e f = let h : Some (Gen a) ≡ Some (ParAudit n) = sym e ∙ f in absurd (cc (h))

-- nor a migration
init-migrate : (o : Option Command) (p : ℕ) → o ≡ Some (Init p) → o ≡ Some Migrate → ⊥
init-migrate o p e f = let h : Some (Init p) ≡ Some Migrate = sym e ∙ f in absurd (cc (h))

replay-migrate : (o : Option Command) → o ≡ Some Replay → o ≡ Some Migrate → ⊥
replay-migrate o e f = let h : Some Replay ≡ Some Migrate = sym e ∙ f in absurd (cc (h))

run-migrate : (o : Option Command) → o ≡ Some Run → o ≡ Some Migrate → ⊥
run-migrate o e f = let h : Some Run ≡ Some Migrate = sym e ∙ f in absurd (cc (h))

audit-migrate : (o : Option Command) → o ≡ Some Audit → o ≡ Some Migrate → ⊥
audit-migrate o e f = let h : Some Audit ≡ Some Migrate = sym e ∙ f in absurd (cc (h))

gen-migrate : (o : Option Command) (a : Asked) → o ≡ Some (Gen a) → o ≡ Some Migrate → ⊥
gen-migrate o a e f = let h : Some (Gen a) ≡ Some Migrate = sym e ∙ f in absurd (cc (h))

par_audit-migrate : (o : Option Command) (n : ℕ) → o ≡ Some (ParAudit n) → o ≡ Some Migrate → ⊥
par_audit-migrate o n e f = let h : Some (ParAudit n) ≡ Some Migrate = sym e ∙ f in absurd (cc (h))

same-asked : (o : Option Command) (a b : Asked) → o ≡ Some (Gen a) → o ≡ Some (Gen b) → a ≡ b
same-asked o a b e f = let h : Some (Gen a) ≡ Some (Gen b) = sym e ∙ f in cc (h)

-- the usage is no status of a replay
pub not-usage : (status : ℕ) → IsStatusOfReplay status → status ≡ 2 → ⊥
not-usage status is e =
    ⊎_elim (λ h. omega (arith, h, e))
    (λ is. ⊎_elim (λ h. omega (arith, h, e))
    (λ is. ⊎_elim (λ h. omega (arith, h, e))
    (λ is. ⊎_elim (λ h. omega (arith, h, e))
    (λ is. ⊎_elim (λ h. omega (arith, h, e))
    (λ is. ⊎_elim (λ h. omega (arith, h, e))
    (λ is. ⊎_elim (λ h. omega (arith, h, e)) (λ h. omega (arith, h, e)) is) is) is) is) is) is) is

-- the statuses of the other commands are among them
of-init : (status : ℕ) → (status ≡ 0) ⊎ ((status ≡ 5) ⊎ (status ≡ 6)) → IsStatusOfReplay status
of-init status is = ⊎_elim (λ h. inl h) (λ is. ⊎_elim (λ h. inr (inr (inr (inl h)))) (λ h. inr (inr (inr (inr (inl h))))) is) is

of-gen : (status : ℕ) → (status ≡ 0) ⊎ ((status ≡ 5) ⊎ ((status ≡ 6) ⊎ ((status ≡ 7) ⊎ ((status ≡ 8) ⊎ (status ≡ 9))))) → IsStatusOfReplay status
of-gen status is = ⊎_elim (λ h. inl h) (λ is. inr (inr (inr is))) is

of-ship : (status : ℕ) → (status ≡ 0) ⊎ ((status ≡ 5) ⊎ ((status ≡ 6) ⊎ ((status ≡ 7) ⊎ (status ≡ 8)))) → IsStatusOfReplay status
of-ship status is =
    ⊎_elim (λ h. inl h)
    (λ is. inr (inr (inr (⊎_elim (λ h. inl h) (λ is. inr (⊎_elim (λ h. inl h) (λ is. inr (⊎_elim (λ h. inl h) (λ h. inr (inl h)) is)) is)) is)))) is

of-standby : (status : ℕ) → (status ≡ 0) ⊎ ((status ≡ 3) ⊎ ((status ≡ 4) ⊎ ((status ≡ 5) ⊎ ((status ≡ 6) ⊎ ((status ≡ 7) ⊎ (status ≡ 8)))))) → IsStatusOfReplay status
of-standby status is =
    ⊎_elim (λ h. inl h)
    (λ is. inr (⊎_elim (λ h. inl h) (λ is. inr (⊎_elim (λ h. inl h) (λ is. inr (⊎_elim (λ h. inl h) (λ is. inr (⊎_elim (λ h. inl h) (λ is. inr (⊎_elim (λ h. inl h) (λ h. inr (inl h)) is)) is)) is)) is)) is)) is

pub same-command : (o : Option Command) (c d : Command) → o ≡ Some c → o ≡ Some d → c ≡ d
same-command o c d e f = let h : Some c ≡ Some d = sym e ∙ f in cc (h)

-- a store that was made is not refused, nor one that was opened
not-refused : (status : ℕ) → (status ≡ 0) ⊎ ((status ≡ 5) ⊎ (status ≡ 6)) → status ≡ 7 → ⊥
not-refused status is e = ⊎_elim (λ h. omega (arith, h, e)) (λ is. ⊎_elim (λ h. omega (arith, h, e)) (λ h. omega (arith, h, e)) is) is

audit-opened : (status : ℕ) → (status ≡ 0) ⊎ ((status ≡ 5) ⊎ (status ≡ 8)) → status ≡ 7 → ⊥
audit-opened status is e = ⊎_elim (λ h. omega (arith, h, e)) (λ is. ⊎_elim (λ h. omega (arith, h, e)) (λ h. omega (arith, h, e)) is) is

gen-opened : (status : ℕ) → (status ≡ 0) ⊎ ((status ≡ 5) ⊎ ((status ≡ 6) ⊎ ((status ≡ 8) ⊎ (status ≡ 9)))) → status ≡ 7 → ⊥
gen-opened status is e =
    ⊎_elim (λ h. omega (arith, h, e))
    (λ is. ⊎_elim (λ h. omega (arith, h, e))
    (λ is. ⊎_elim (λ h. omega (arith, h, e))
    (λ is. ⊎_elim (λ h. omega (arith, h, e)) (λ h. omega (arith, h, e)) is) is) is) is

run-opened : (status : ℕ) → (status ≡ 0) ⊎ ((status ≡ 3) ⊎ ((status ≡ 4) ⊎ ((status ≡ 5) ⊎ ((status ≡ 6) ⊎ ((status ≡ 8) ⊎ (status ≡ 9)))))) → status ≡ 7 → ⊥
run-opened status is e =
    ⊎_elim (λ h. omega (arith, h, e))
    (λ is. ⊎_elim (λ h. omega (arith, h, e))
    (λ is. ⊎_elim (λ h. omega (arith, h, e))
    (λ is. ⊎_elim (λ h. omega (arith, h, e))
    (λ is. ⊎_elim (λ h. omega (arith, h, e))
    (λ is. ⊎_elim (λ h. omega (arith, h, e)) (λ h. omega (arith, h, e)) is) is) is) is) is) is

-- ---- a number of pages

both : (a b : Bool) → (a && b) ≡ true → (a ≡ true) × (b ≡ true)
both true true e = (refl, refl)
both true false e = absurd (cc (e))
both false b e = absurd (cc (e))

if-some : (b : Bool) (n p : ℕ) → (if b then Some n else None) ≡ Some p → (b ≡ true) × (n ≡ p)
if-some true n p e = (refl, cc (e))
if-some false n p e = absurd (cc (e))

within : (o : Option ℕ) (p : ℕ) → option_and_then (λ n. if nat_le 1 n && nat_lt n 1025 then Some n else None) o ≡ Some p → (1 ≤ p) × (p ≤ 1024)
within None p e = absurd (cc (e))
within (Some n) p e =
    let h = if-some (nat_le 1 n && nat_lt n 1025) n p e in
    let b = both (nat_le 1 n) (nat_lt n 1025) h.0 in
    let low = leb-true 1 n b.0 in
    let high = ltb-true n 1025 b.1 in
    (omega (arith, low, h.1), omega (arith, high, h.1))

mapped : (o : Option ℕ) (p : ℕ) → option_map Init o ≡ Some (Init p) → o ≡ Some p
mapped None p e = absurd (cc (e))
mapped (Some n) p e = cc (e)

one-word : (a b c d e f g h i j : Bool) (p : ℕ) → (if a then Some Replay else if b then Some Run else if c then Some Audit else if d then Some Migrate else if e then Some Backup else if f then Some Ship else if g then Some Log else if h then Some Standby else if i then Some Check else if j then Some Map else None) ≡ Some (Init p) → ⊥
one-word true b c d e f g h i j p is = absurd (cc (is))
one-word false true c d e f g h i j p is = absurd (cc (is))
one-word false false true d e f g h i j p is = absurd (cc (is))
one-word false false false true e f g h i j p is = absurd (cc (is))
one-word false false false false true f g h i j p is = absurd (cc (is))
one-word false false false false false true g h i j p is = absurd (cc (is))
one-word false false false false false false true h i j p is = absurd (cc (is))
one-word false false false false false false false true i j p is = absurd (cc (is))
one-word false false false false false false false false true j p is = absurd (cc (is))
one-word false false false false false false false false false true p is = absurd (cc (is))
one-word false false false false false false false false false false p is = absurd (cc (is))

two-words : (a b : Bool) (o : Option ℕ) (p : ℕ) → (if a then option_map Init o else if b then option_map ParAudit o else None) ≡ Some (Init p) → o ≡ Some p
two-words true b o p e = mapped o p e
two-words false true None p e = absurd (cc (e))
two-words false true (Some n) p e = absurd (cc (e))
two-words false false o p e = absurd (cc (e))

pieces-mapped : (o : Option ℕ) (p : ℕ) → option_map ParAudit o ≡ Some (ParAudit p) → o ≡ Some p
pieces-mapped None p e = absurd (cc (e))
pieces-mapped (Some n) p e = cc (e)

two-pieces : (a b : Bool) (o : Option ℕ) (p : ℕ) → (if a then option_map Init o else if b then option_map ParAudit o else None) ≡ Some (ParAudit p) → o ≡ Some p
two-pieces true b None p e = absurd (cc (e))
two-pieces true b (Some n) p e = absurd (cc (e))
two-pieces false true o p e = pieces-mapped o p e
two-pieces false false o p e = absurd (cc (e))

one-pieces : (a b c d e f g h i j : Bool) (p : ℕ) → (if a then Some Replay else if b then Some Run else if c then Some Audit else if d then Some Migrate else if e then Some Backup else if f then Some Ship else if g then Some Log else if h then Some Standby else if i then Some Check else if j then Some Map else None) ≡ Some (ParAudit p) → ⊥
one-pieces true b c d e f g h i j p is = absurd (cc (is))
one-pieces false true c d e f g h i j p is = absurd (cc (is))
one-pieces false false true d e f g h i j p is = absurd (cc (is))
one-pieces false false false true e f g h i j p is = absurd (cc (is))
one-pieces false false false false true f g h i j p is = absurd (cc (is))
one-pieces false false false false false true g h i j p is = absurd (cc (is))
one-pieces false false false false false false true h i j p is = absurd (cc (is))
one-pieces false false false false false false false true i j p is = absurd (cc (is))
one-pieces false false false false false false false false true j p is = absurd (cc (is))
one-pieces false false false false false false false false false true p is = absurd (cc (is))
one-pieces false false false false false false false false false false p is = absurd (cc (is))

more-pieces : (a : Bool) (o : Option Asked) (p : ℕ) → (if a then option_map Gen o else None) ≡ Some (ParAudit p) → ⊥
more-pieces true None p e = absurd (cc (e))
more-pieces true (Some x) p e = absurd (cc (e))
more-pieces false o p e = absurd (cc (e))

more-words : (a : Bool) (o : Option Asked) (p : ℕ) → (if a then option_map Gen o else None) ≡ Some (Init p) → ⊥
more-words true None p e = absurd (cc (e))
more-words true (Some x) p e = absurd (cc (e))
more-words false o p e = absurd (cc (e))

-- `init` is asked with a number of pages from 1 to 1,024
pub pages-within : (words : List (List ℕ)) (p : ℕ) → Some (Init p) ≡ command_of words → (1 ≤ p) × (p ≤ 1024)
pages-within [] p e = absurd (cc (e))
pages-within (word ∷ []) p e = absurd (one-word (bytes_eq word (codes "replay")) (bytes_eq word (codes "run")) (bytes_eq word (codes "audit")) (bytes_eq word (codes "migrate")) (bytes_eq word (codes "backup")) (bytes_eq word (codes "ship")) (bytes_eq word (codes "log")) (bytes_eq word (codes "standby")) (bytes_eq word (codes "check")) (bytes_eq word (codes "map")) p (sym e))
pages-within (word ∷ number ∷ []) p e = within (number_of number) p (two-words (bytes_eq word (codes "init")) (bytes_eq word (codes "paudit")) (pages_of number) p (sym e))
pages-within (word ∷ number ∷ other ∷ words) p e = absurd (more-words (bytes_eq word (codes "gen")) (asked_of (number ∷ other ∷ words)) p (sym e))

-- `paudit` is asked with a number of pieces from 1 to 1,024
pub pieces-within : (words : List (List ℕ)) (p : ℕ) → Some (ParAudit p) ≡ command_of words → (1 ≤ p) × (p ≤ 1024)
pieces-within [] p e = absurd (cc (e))
pieces-within (word ∷ []) p e = absurd (one-pieces (bytes_eq word (codes "replay")) (bytes_eq word (codes "run")) (bytes_eq word (codes "audit")) (bytes_eq word (codes "migrate")) (bytes_eq word (codes "backup")) (bytes_eq word (codes "ship")) (bytes_eq word (codes "log")) (bytes_eq word (codes "standby")) (bytes_eq word (codes "check")) (bytes_eq word (codes "map")) p (sym e))
pieces-within (word ∷ number ∷ []) p e = within (number_of number) p (two-pieces (bytes_eq word (codes "init")) (bytes_eq word (codes "paudit")) (pages_of number) p (sym e))
pieces-within (word ∷ number ∷ other ∷ words) p e = absurd (more-pieces (bytes_eq word (codes "gen")) (asked_of (number ∷ other ∷ words)) p (sym e))

-- ---- no memory to read the options of `gen`

of-options : (b : Bool) (o : Option Asked) (c : Command) → (if b then option_map Gen o else None) ≡ Some c → (a : Asked) × (c ≡ Gen a)
of-options true None c e = absurd (cc (e))
of-options true (Some a) c e = (a, cc (e))
of-options false o c e = absurd (cc (e))

-- options ask for no other command
options-gen : (words : List (List ℕ)) (c : Command) → AskOptions words → command_of words ≡ Some c → (a : Asked) × (c ≡ Gen a)
options-gen [] c ask e = absurd ask
options-gen (word ∷ []) c ask e = absurd ask
options-gen (word ∷ number ∷ []) c ask e = absurd ask
options-gen (word ∷ number ∷ other ∷ words) c ask e = of-options (bytes_eq word (codes "gen")) (asked_of (number ∷ other ∷ words)) c e

options-init : (words : List (List ℕ)) (pages : ℕ) → AskOptions words → command_of words ≡ Some (Init pages) → ⊥
options-init words pages ask e = let g = options-gen words (Init pages) ask e in absurd (cc (g.1))

options-replay : (words : List (List ℕ)) → AskOptions words → command_of words ≡ Some Replay → ⊥
options-replay words ask e = let g = options-gen words Replay ask e in absurd (cc (g.1))

pub options-run : (words : List (List ℕ)) → AskOptions words → command_of words ≡ Some Run → ⊥
options-run words ask e = let g = options-gen words Run ask e in absurd (cc (g.1))

options-audit : (words : List (List ℕ)) → AskOptions words → command_of words ≡ Some Audit → ⊥
options-audit words ask e = let g = options-gen words Audit ask e in absurd (cc (g.1))

pub options-par_audit : (words : List (List ℕ)) (n : ℕ) → AskOptions words → command_of words ≡ Some (ParAudit n) → ⊥
options-par_audit words n ask e = let g = options-gen words (ParAudit n) ask e in absurd (cc (g.1))

options-backup : (words : List (List ℕ)) → AskOptions words → command_of words ≡ Some Backup → ⊥
options-backup words ask e = let g = options-gen words Backup ask e in absurd (cc (g.1))

options-ship : (words : List (List ℕ)) → AskOptions words → command_of words ≡ Some Ship → ⊥
options-ship words ask e = let g = options-gen words Ship ask e in absurd (cc (g.1))

options-log : (words : List (List ℕ)) → AskOptions words → command_of words ≡ Some Log → ⊥
options-log words ask e = let g = options-gen words Log ask e in absurd (cc (g.1))

options-standby : (words : List (List ℕ)) → AskOptions words → command_of words ≡ Some Standby → ⊥
options-standby words ask e = let g = options-gen words Standby ask e in absurd (cc (g.1))

options-check : (words : List (List ℕ)) → AskOptions words → command_of words ≡ Some Check → ⊥
options-check words ask e = let g = options-gen words Check ask e in absurd (cc (g.1))

options-map : (words : List (List ℕ)) → AskOptions words → command_of words ≡ Some Map → ⊥
options-map words ask e = let g = options-gen words Map ask e in absurd (cc (g.1))

options-migrate : (words : List (List ℕ)) → AskOptions words → command_of words ≡ Some Migrate → ⊥
options-migrate words ask e = let g = options-gen words Migrate ask e in absurd (cc (g.1))

module _ {S D : Type 0} (content : D → Area → Option (List ℕ)) (may_leave : D → Area → List ℕ → Type 0) (moment : D → ℕ) (left_since : D → ℕ → Bytes → Type 0)
    (words : List (List ℕ)) (script later : S) (disk : D) (before after : Outside) (status : ℕ) (ended : Ended D) (goes : GoesLater before after)
    (stay : (d : D) (area : Area) → IfSome (content d area) (may_leave d area)) (counts : (d : D) (t : ℕ) (image : Bytes) → t ≤ moment d → IsImage may_leave d image → left_since d t image) where
  -- a disk that is asked for nothing is only looked at
  pub not-asked : ((d : D) (image : Bytes) → left_since d (moment d) image → IsImage may_leave d image) → IsLookedAt content may_leave moment left_since disk disk
  not-asked only_now = record { keeps = λ area. record { same = refl; no_more = λ c may. may }; moments = no_call may_leave (IsImage may_leave disk) only_now (λ image may. may) }

  -- the words have no reading
  pub asks-nothing : ((d : D) (image : Bytes) → left_since d (moment d) image → IsImage may_leave d image) → command_of words ≡ None → status ≡ 2 → later ≡ script → ended ≡ Shut disk → Ends before after [] (codes "usage\n") → Answered content may_leave moment left_since words script later disk before after status ended
  asks-nothing only_now none two same back ends = record {
    usage = λ _. none;
    no_reading = λ _. inl two;
    statuses = inl two;
    goes_later = goes;
    only_looks = λ other image reads closed. subst (λ (e : Ended D). IsLookedAt content may_leave moment left_since disk (disk_in e)) (sym back) (not-asked only_now);
    unread = λ _. (same, back, ends);
    made = λ pages e. absurd (none-some (command_of words) (Init pages) none e);
    replayed = λ e. absurd (none-some (command_of words) Replay none e);
    ran = λ e. absurd (none-some (command_of words) Run none e);
    audited = λ e. absurd (none-some (command_of words) Audit none e);
    par_audited = λ n e. absurd (none-some (command_of words) (ParAudit n) none e);
    generated = λ a e. absurd (none-some (command_of words) (Gen a) none e);
    migrated = λ e. absurd (none-some (command_of words) Migrate none e);
    backed_up = λ e. absurd (none-some (command_of words) Backup none e);
    shipped = λ e. absurd (none-some (command_of words) Ship none e);
    logged = λ e. absurd (none-some (command_of words) Log none e);
    stood_by = λ e. absurd (none-some (command_of words) Standby none e);
    checked = λ e. absurd (none-some (command_of words) Check none e);
    mapped = λ e. absurd (none-some (command_of words) Map none e);
    makes_open = λ pages e. absurd (none-some (command_of words) (Init pages) none e);
    stays_open = λ tell ids opens other. subst (λ (e : Ended D). AlwaysOpens may_leave ids (disk_in e)) (sym back) opens;
    stays_either = λ tell ids opens other. subst (λ (e : Ended D). AlwaysOpensAtEither may_leave ids (disk_in e)) (sym back) opens;
    migrates = λ tell ids opens e. absurd (none-some (command_of words) Migrate none e);
    complete = λ tell command e. absurd (none-some (command_of words) command none e);
    refuses = λ image reads closed ask. absurd (⊎_elim (none-some (command_of words) Replay none) (λ h. ⊎_elim (none-some (command_of words) Run none) (λ h. ⊎_elim (none-some (command_of words) Audit none) (λ h. ⊎_elim (λ n. none-some (command_of words) (ParAudit n.0) none n.1) (λ h. ⊎_elim (λ g. none-some (command_of words) (Gen g.0) none g.1) (λ h. ⊎_elim (none-some (command_of words) Backup none) (none-some (command_of words) Map none) h) h) h) h) h) ask);
    refuses_to_migrate = λ image reads closed e. absurd (none-some (command_of words) Migrate none e);
    only_refused = λ no_stream tell seven. absurd (omega (arith, two, seven));
  }

  -- there is no memory to read the options of `gen`
  pub asks-starved : ((d : D) (image : Bytes) → left_since d (moment d) image → IsImage may_leave d image) → AskOptions words → status ≡ 8 → later ≡ script → ended ≡ Shut disk → Ends before after [] (codes "refused: memory\n") → Answered content may_leave moment left_since words script later disk before after status ended
  asks-starved only_now ask eight same back ends =
      let looked = subst (λ (e : Ended D). IsLookedAt content may_leave moment left_since disk (disk_in e)) (sym back) (not-asked only_now) in
      let unopened : Unopened content may_leave moment left_since disk before after status ended = record {
        refusal = Memory;
        refused = record {
          refused = λ image reads. tt;
          for_good = λ of. absurd of;
          unwritten = inr looked;
          only_looks = λ image reads closed. looked;
        };
        told = eight;
        printed = ends;
        shut = ap (λ (e : Ended D). is_some (shut_in e)) back;
        failed = λ six. absurd (omega (arith, eight, six));
        moments = λ cells image reads opens. subst (λ (e : Ended D). LeavesOnlyImages moment left_since disk (disk_in e) (λ other. IsImage may_leave disk other ⊎ Opened object_slots other (OpensTo cells))) (sym back) (no_call may_leave (λ other. IsImage may_leave disk other ⊎ Opened object_slots other (OpensTo cells)) only_now (λ other may. inl may));
      } in
      record {
        usage = λ two. absurd (omega (arith, eight, two));
        no_reading = λ none. inr (record { options = ask; told = eight; unread = (same, back); printed = ends });
        statuses = inr (inr (inr (inr (inr (inr (inr (inl eight)))))));
        goes_later = goes;
        only_looks = λ other image reads closed. looked;
        unread = λ two. absurd (omega (arith, eight, two));
        made = λ pages e. absurd (options-init words pages ask e);
        replayed = λ e. absurd (options-replay words ask e);
        ran = λ e. absurd (options-run words ask e);
        audited = λ e. absurd (options-audit words ask e);
        par_audited = λ n e. absurd (options-par_audit words n ask e);
        generated = λ a e. (same, inl unopened);
        migrated = λ e. absurd (options-migrate words ask e);
        backed_up = λ e. absurd (options-backup words ask e);
        shipped = λ e. absurd (options-ship words ask e);
        logged = λ e. absurd (options-log words ask e);
        stood_by = λ e. absurd (options-standby words ask e);
        checked = λ e. absurd (options-check words ask e);
        mapped = λ e. absurd (options-map words ask e);
        makes_open = λ pages e. absurd (options-init words pages ask e);
        stays_open = λ tell ids opens other. subst (λ (e : Ended D). AlwaysOpens may_leave ids (disk_in e)) (sym back) opens;
        stays_either = λ tell ids opens other. subst (λ (e : Ended D). AlwaysOpensAtEither may_leave ids (disk_in e)) (sym back) opens;
        migrates = λ tell ids opens e. absurd (options-migrate words ask e);
        complete = λ tell command e can reads writes faults. inr (inl eight);
        refuses = λ image reads closed ask. unopened;
        refuses_to_migrate = λ image reads closed e. absurd (options-migrate words ask e);
        only_refused = λ no_stream tell seven. absurd (omega (arith, eight, seven));
      }

  pub asks-init : (pages : ℕ) → command_of words ≡ Some (Init pages) → later ≡ script → Made may_leave moment left_since disk pages before after status ended → Answered content may_leave moment left_since words script later disk before after status ended
  asks-init pages asked same made =
      let is = of-init status made.statuses in
      record {
        usage = λ two. absurd (not-usage status is two);
        no_reading = λ none. absurd (none-some (command_of words) (Init pages) none asked);
        statuses = inr is;
        goes_later = goes;
        only_looks = λ other. absurd (other (inl (pages, asked)));
        unread = λ two. absurd (not-usage status is two);
        made = λ other e. (same, subst (λ (n : ℕ). Made may_leave moment left_since disk n before after status ended) (same-pages (command_of words) pages other asked e) made);
        replayed = λ e. absurd (init-replay (command_of words) pages asked e);
        ran = λ e. absurd (init-run (command_of words) pages asked e);
        audited = λ e. absurd (init-audit (command_of words) pages asked e);
        par_audited = λ n e. absurd (init-par_audit (command_of words) pages n asked e);
        generated = λ a e. absurd (init-gen (command_of words) pages a asked e);
        migrated = λ e. absurd (init-migrate (command_of words) pages asked e);
        backed_up = λ e. absurd (cc (same-command (command_of words) (Init pages) Backup asked e));
        shipped = λ e. absurd (cc (same-command (command_of words) (Init pages) Ship asked e));
        logged = λ e. absurd (cc (same-command (command_of words) (Init pages) Log asked e));
        stood_by = λ e. absurd (cc (same-command (command_of words) (Init pages) Standby asked e));
        checked = λ e. absurd (cc (same-command (command_of words) (Init pages) Check asked e));
        mapped = λ e. absurd (cc (same-command (command_of words) (Init pages) Map asked e));
        makes_open = λ other e not_six. subst (λ (n : ℕ). AlwaysOpens may_leave (8 * n) (disk_in ended)) (same-pages (command_of words) pages other asked e) (made-open may_leave (disk_in ended) pages (pages-within words pages (sym asked)).0 (made.opens not_six));
        stays_open = λ tell ids opens other. absurd (other (inl (pages, asked)));
        stays_either = λ tell ids opens other. absurd (other (inl (pages, asked)));
        migrates = λ tell ids opens e. absurd (init-migrate (command_of words) pages asked e);
        complete = λ tell command e can reads writes faults. ⊎_elim (λ zero. inl zero) (λ h. ⊎_elim (λ five. absurd (writes (made.write five).0)) (λ six. absurd (faults (made.failed six).0)) h) made.statuses;
        refuses = λ image reads closed ask. absurd (⊎_elim (init-replay (command_of words) pages asked) (λ h. ⊎_elim (init-run (command_of words) pages asked) (λ h. ⊎_elim (init-audit (command_of words) pages asked) (λ h. ⊎_elim (λ n. init-par_audit (command_of words) pages n.0 asked n.1) (λ h. ⊎_elim (λ g. init-gen (command_of words) pages g.0 asked g.1) (λ h. ⊎_elim (λ e. cc (same-command (command_of words) (Init pages) Backup asked e)) (λ e. cc (same-command (command_of words) (Init pages) Map asked e)) h) h) h) h) h) ask);
        refuses_to_migrate = λ image reads closed e. absurd (init-migrate (command_of words) pages asked e);
        only_refused = λ no_stream tell seven. absurd (not-refused status made.statuses seven);
      }

  pub asks-replay : command_of words ≡ Some Replay → IsStatusOfReplay status → (later ≡ script) × Unopened content may_leave moment left_since disk before after status ended ⊎ Replayed content may_leave script later disk before after status ended
      → Answered content may_leave moment left_since words script later disk before after status ended
  asks-replay asked is replayed = record {
    usage = λ two. absurd (not-usage status is two);
    no_reading = λ none. absurd (none-some (command_of words) Replay none asked);
    statuses = inr is;
    goes_later = goes;
    only_looks = λ other image reads closed. ⊎_elim (λ u. u.1.refused.only_looks image reads closed.0) (λ r. absurd (closed.0 r.run.opening (r.opened image reads))) replayed;
    unread = λ two. absurd (not-usage status is two);
    made = λ pages e. absurd (init-replay (command_of words) pages e asked);
    replayed = λ _. replayed;
    ran = λ e. absurd (replay-run (command_of words) asked e);
    audited = λ e. absurd (replay-audit (command_of words) asked e);
    par_audited = λ n e. absurd (replay-par_audit (command_of words) n asked e);
    generated = λ a e. absurd (replay-gen (command_of words) a asked e);
    migrated = λ e. absurd (replay-migrate (command_of words) asked e);
    backed_up = λ e. absurd (cc (same-command (command_of words) Replay Backup asked e));
    shipped = λ e. absurd (cc (same-command (command_of words) Replay Ship asked e));
    logged = λ e. absurd (cc (same-command (command_of words) Replay Log asked e));
    stood_by = λ e. absurd (cc (same-command (command_of words) Replay Standby asked e));
    checked = λ e. absurd (cc (same-command (command_of words) Replay Check asked e));
    mapped = λ e. absurd (cc (same-command (command_of words) Replay Map asked e));
    makes_open = λ pages e. absurd (init-replay (command_of words) pages e asked);
    stays_open = λ tell ids opens other. ⊎_elim (λ u. unopened-open content may_leave moment left_since disk before after status ended u.1 stay counts tell ids opens) (λ r. replayed-open content may_leave script later disk before after status ended r stay tell ids (at-either may_leave ids disk opens)) replayed;
    stays_either = λ tell ids opens other. ⊎_elim (λ u. unopened-either content may_leave moment left_since disk before after status ended u.1 stay counts tell ids opens) (λ r. at-either may_leave ids (disk_in ended) (replayed-open content may_leave script later disk before after status ended r stay tell ids opens)) replayed;
    migrates = λ tell ids opens e. absurd (replay-migrate (command_of words) asked e);
    complete = λ tell command e can reads writes faults.
        let c = subst (CanBeDone may_leave disk before.left) (same-command (command_of words) command Replay e asked) can in
        ⊎_elim (λ u. unopened-memory content may_leave moment left_since disk before after status ended u.1 stay tell c.0 c.1 faults) (λ r. replayed-done content may_leave script later disk before after status ended r stay tell c.0 (at-either may_leave c.0 disk c.1) c.2 reads writes faults) replayed;
    refuses = λ image reads closed ask. ⊎_elim (λ u. u.1) (λ r. absurd (closed r.run.opening (r.opened image reads))) replayed;
    refuses_to_migrate = λ image reads closed e. absurd (replay-migrate (command_of words) asked e);
    only_refused = λ no_stream tell seven image reads. inl (⊎_elim (λ u. unopened-closed content may_leave moment left_since disk before after status ended u.1 seven image reads) (λ r. absurd (r.only_untold seven tell)) replayed, λ e. absurd (replay-migrate (command_of words) asked e));
  }

  pub asks-audit : command_of words ≡ Some Audit → (status ≡ 0) ⊎ ((status ≡ 5) ⊎ ((status ≡ 6) ⊎ ((status ≡ 7) ⊎ ((status ≡ 8) ⊎ (status ≡ 9))))) → later ≡ script → Unopened content may_leave moment left_since disk before after status ended ⊎ Audited content may_leave disk before after status ended
      → Answered content may_leave moment left_since words script later disk before after status ended
  asks-audit asked statuses same audited =
      let is = of-gen status statuses in
      record {
        usage = λ two. absurd (not-usage status is two);
        no_reading = λ none. absurd (none-some (command_of words) Audit none asked);
        statuses = inr is;
        goes_later = goes;
        only_looks = λ other image reads closed. ⊎_elim (λ u. u.refused.only_looks image reads closed.0) (λ a. absurd (closed.0 a.cells (a.opened image reads))) audited;
        unread = λ two. absurd (not-usage status is two);
        made = λ pages e. absurd (init-audit (command_of words) pages e asked);
        replayed = λ e. absurd (replay-audit (command_of words) e asked);
        ran = λ e. absurd (audit-run (command_of words) asked e);
        audited = λ _. (same, audited);
        par_audited = λ n e. absurd (audit-par_audit (command_of words) n asked e);
        generated = λ a e. absurd (audit-gen (command_of words) a asked e);
        migrated = λ e. absurd (audit-migrate (command_of words) asked e);
        backed_up = λ e. absurd (cc (same-command (command_of words) Audit Backup asked e));
        shipped = λ e. absurd (cc (same-command (command_of words) Audit Ship asked e));
        logged = λ e. absurd (cc (same-command (command_of words) Audit Log asked e));
        stood_by = λ e. absurd (cc (same-command (command_of words) Audit Standby asked e));
        checked = λ e. absurd (cc (same-command (command_of words) Audit Check asked e));
        mapped = λ e. absurd (cc (same-command (command_of words) Audit Map asked e));
        makes_open = λ pages e. absurd (init-audit (command_of words) pages e asked);
        stays_open = λ tell ids opens other. ⊎_elim (λ u. unopened-open content may_leave moment left_since disk before after status ended u stay counts tell ids opens) (λ a. audited-open content may_leave disk before after status ended a stay tell ids (at-either may_leave ids disk opens)) audited;
        stays_either = λ tell ids opens other. ⊎_elim (λ u. unopened-either content may_leave moment left_since disk before after status ended u stay counts tell ids opens) (λ a. at-either may_leave ids (disk_in ended) (audited-open content may_leave disk before after status ended a stay tell ids opens)) audited;
        migrates = λ tell ids opens e. absurd (audit-migrate (command_of words) asked e);
        complete = λ tell command e can reads writes faults.
            let c = subst (CanBeDone may_leave disk before.left) (same-command (command_of words) command Audit e asked) can in
            ⊎_elim (λ u. unopened-memory content may_leave moment left_since disk before after status ended u stay tell c.0 c.1 faults) (λ a. audited-done content may_leave disk before after status ended a writes) audited;
        refuses = λ image reads closed ask. ⊎_elim (λ u. u) (λ a. absurd (closed a.cells (a.opened image reads))) audited;
        refuses_to_migrate = λ image reads closed e. absurd (audit-migrate (command_of words) asked e);
        only_refused = λ no_stream tell seven image reads. inl (⊎_elim (λ u. unopened-closed content may_leave moment left_since disk before after status ended u seven image reads) (λ a. absurd (audit-opened status a.statuses seven)) audited, λ e. absurd (audit-migrate (command_of words) asked e));
      }

  pub asks-par_audit : (n : ℕ) → command_of words ≡ Some (ParAudit n) → (status ≡ 0) ⊎ ((status ≡ 5) ⊎ ((status ≡ 6) ⊎ ((status ≡ 7) ⊎ ((status ≡ 8) ⊎ (status ≡ 9))))) → later ≡ script → Unopened content may_leave moment left_since disk before after status ended ⊎ ParAudited content may_leave disk before after status ended
      → Answered content may_leave moment left_since words script later disk before after status ended
  asks-par_audit n asked statuses same audited =
      let is = of-gen status statuses in
      record {
        usage = λ two. absurd (not-usage status is two);
        no_reading = λ none. absurd (none-some (command_of words) (ParAudit n) none asked);
        statuses = inr is;
        goes_later = goes;
        only_looks = λ other image reads closed. ⊎_elim (λ u. u.refused.only_looks image reads closed.0) (λ a. absurd (closed.0 a.cells (a.opened image reads))) audited;
        unread = λ two. absurd (not-usage status is two);
        made = λ pages e. absurd (init-par_audit (command_of words) pages n e asked);
        replayed = λ e. absurd (replay-par_audit (command_of words) n e asked);
        ran = λ e. absurd (run-par_audit (command_of words) n e asked);
        audited = λ e. absurd (audit-par_audit (command_of words) n e asked);
        par_audited = λ m e. (same, audited);
        generated = λ a e. absurd (gen-par_audit (command_of words) a n e asked);
        migrated = λ e. absurd (par_audit-migrate (command_of words) n asked e);
        backed_up = λ e. absurd (cc (same-command (command_of words) (ParAudit n) Backup asked e));
        shipped = λ e. absurd (cc (same-command (command_of words) (ParAudit n) Ship asked e));
        logged = λ e. absurd (cc (same-command (command_of words) (ParAudit n) Log asked e));
        stood_by = λ e. absurd (cc (same-command (command_of words) (ParAudit n) Standby asked e));
        checked = λ e. absurd (cc (same-command (command_of words) (ParAudit n) Check asked e));
        mapped = λ e. absurd (cc (same-command (command_of words) (ParAudit n) Map asked e));
        makes_open = λ pages e. absurd (init-par_audit (command_of words) pages n e asked);
        stays_open = λ tell ids opens other. ⊎_elim (λ u. unopened-open content may_leave moment left_since disk before after status ended u stay counts tell ids opens) (λ a. par_audited-open content may_leave disk before after status ended a stay tell ids (at-either may_leave ids disk opens)) audited;
        stays_either = λ tell ids opens other. ⊎_elim (λ u. unopened-either content may_leave moment left_since disk before after status ended u stay counts tell ids opens) (λ a. at-either may_leave ids (disk_in ended) (par_audited-open content may_leave disk before after status ended a stay tell ids opens)) audited;
        migrates = λ tell ids opens e. absurd (par_audit-migrate (command_of words) n asked e);
        complete = λ tell command e can reads writes faults.
            let c = subst (CanBeDone may_leave disk before.left) (same-command (command_of words) command (ParAudit n) e asked) can in
            ⊎_elim (λ u. unopened-memory content may_leave moment left_since disk before after status ended u stay tell c.0 c.1 faults) (λ a. par_audited-done content may_leave disk before after status ended a writes) audited;
        refuses = λ image reads closed ask. ⊎_elim (λ u. u) (λ a. absurd (closed a.cells (a.opened image reads))) audited;
        refuses_to_migrate = λ image reads closed e. absurd (par_audit-migrate (command_of words) n asked e);
        only_refused = λ no_stream tell seven image reads. inl (⊎_elim (λ u. unopened-closed content may_leave moment left_since disk before after status ended u seven image reads) (λ a. absurd (audit-opened status a.statuses seven)) audited, λ e. absurd (par_audit-migrate (command_of words) n asked e));
      }

  pub asks-gen : (a : Asked) → command_of words ≡ Some (Gen a) → (status ≡ 0) ⊎ ((status ≡ 5) ⊎ ((status ≡ 6) ⊎ ((status ≡ 7) ⊎ ((status ≡ 8) ⊎ (status ≡ 9))))) → later ≡ script
      → Unopened content may_leave moment left_since disk before after status ended ⊎ ((v : LoggedView D) × (ended ≡ Kept v) × Generated content may_leave a disk before after status v)
      → Answered content may_leave moment left_since words script later disk before after status ended
  asks-gen a asked statuses same generated =
      let is = of-gen status statuses in
      record {
        usage = λ two. absurd (not-usage status is two);
        no_reading = λ none. absurd (none-some (command_of words) (Gen a) none asked);
        statuses = inr is;
        goes_later = goes;
        only_looks = λ other image reads closed. ⊎_elim (λ u. u.refused.only_looks image reads closed.0) (λ g. absurd (closed.0 g.0.journal.opening (g.2.opened image reads))) generated;
        unread = λ two. absurd (not-usage status is two);
        made = λ pages e. absurd (init-gen (command_of words) pages a e asked);
        replayed = λ e. absurd (replay-gen (command_of words) a e asked);
        ran = λ e. absurd (gen-run (command_of words) a asked e);
        audited = λ e. absurd (audit-gen (command_of words) a e asked);
        par_audited = λ n e. absurd (gen-par_audit (command_of words) a n asked e);
        generated = λ b e. (same, subst (λ (x : Asked). Unopened content may_leave moment left_since disk before after status ended ⊎ ((v : LoggedView D) × (ended ≡ Kept v) × Generated content may_leave x disk before after status v)) (same-asked (command_of words) a b asked e) generated);
        migrated = λ e. absurd (gen-migrate (command_of words) a asked e);
        backed_up = λ e. absurd (cc (same-command (command_of words) (Gen a) Backup asked e));
        shipped = λ e. absurd (cc (same-command (command_of words) (Gen a) Ship asked e));
        logged = λ e. absurd (cc (same-command (command_of words) (Gen a) Log asked e));
        stood_by = λ e. absurd (cc (same-command (command_of words) (Gen a) Standby asked e));
        checked = λ e. absurd (cc (same-command (command_of words) (Gen a) Check asked e));
        mapped = λ e. absurd (cc (same-command (command_of words) (Gen a) Map asked e));
        makes_open = λ pages e. absurd (init-gen (command_of words) pages a e asked);
        stays_open = λ tell ids opens other. ⊎_elim (λ u. unopened-open content may_leave moment left_since disk before after status ended u stay counts tell ids opens) (λ g. generated-open content may_leave a disk before after status g.0 g.2 ended g.1 stay tell ids (at-either may_leave ids disk opens)) generated;
        stays_either = λ tell ids opens other. ⊎_elim (λ u. unopened-either content may_leave moment left_since disk before after status ended u stay counts tell ids opens) (λ g. at-either may_leave ids (disk_in ended) (generated-open content may_leave a disk before after status g.0 g.2 ended g.1 stay tell ids opens)) generated;
        migrates = λ tell ids opens e. absurd (gen-migrate (command_of words) a asked e);
        complete = λ tell command e can reads writes faults.
            let c = subst (CanBeDone may_leave disk before.left) (same-command (command_of words) command (Gen a) e asked) can in
            ⊎_elim (λ u. unopened-memory content may_leave moment left_since disk before after status ended u stay tell c.0 c.1 faults) (λ g. generated-done content may_leave a disk before after status g.0 g.2 writes faults) generated;
        refuses = λ image reads closed ask. ⊎_elim (λ u. u) (λ g. absurd (closed g.0.journal.opening (g.2.opened image reads))) generated;
        refuses_to_migrate = λ image reads closed e. absurd (gen-migrate (command_of words) a asked e);
        only_refused = λ no_stream tell seven image reads. inl (⊎_elim (λ u. unopened-closed content may_leave moment left_since disk before after status ended u seven image reads) (λ g. absurd (gen-opened status g.2.statuses seven)) generated, λ e. absurd (gen-migrate (command_of words) a asked e));
      }

  pub asks-run : command_of words ≡ Some Run → IsStatusOfReplay status → (later ≡ script) × Unopened content may_leave moment left_since disk before after status ended ⊎ ((v : LoggedView D) × (ended ≡ Kept v) × Ran content may_leave disk before after status v)
      → Answered content may_leave moment left_since words script later disk before after status ended
  asks-run asked is ran = record {
    usage = λ two. absurd (not-usage status is two);
    no_reading = λ none. absurd (none-some (command_of words) Run none asked);
    statuses = inr is;
    goes_later = goes;
    only_looks = λ other image reads closed. ⊎_elim (λ u. u.1.refused.only_looks image reads closed.0) (λ r. absurd (closed.0 r.0.journal.opening (r.2.opened image reads))) ran;
    unread = λ two. absurd (not-usage status is two);
    made = λ pages e. absurd (init-run (command_of words) pages e asked);
    replayed = λ e. absurd (replay-run (command_of words) e asked);
    ran = λ _. ran;
    audited = λ e. absurd (audit-run (command_of words) e asked);
    par_audited = λ n e. absurd (run-par_audit (command_of words) n asked e);
    generated = λ a e. absurd (gen-run (command_of words) a e asked);
    migrated = λ e. absurd (run-migrate (command_of words) asked e);
    backed_up = λ e. absurd (cc (same-command (command_of words) Run Backup asked e));
    shipped = λ e. absurd (cc (same-command (command_of words) Run Ship asked e));
    logged = λ e. absurd (cc (same-command (command_of words) Run Log asked e));
    stood_by = λ e. absurd (cc (same-command (command_of words) Run Standby asked e));
    checked = λ e. absurd (cc (same-command (command_of words) Run Check asked e));
    mapped = λ e. absurd (cc (same-command (command_of words) Run Map asked e));
    makes_open = λ pages e. absurd (init-run (command_of words) pages e asked);
    stays_open = λ tell ids opens other. ⊎_elim (λ u. unopened-open content may_leave moment left_since disk before after status ended u.1 stay counts tell ids opens) (λ r. ran-open content may_leave disk before after status r.0 r.2 stay tell ids (at-either may_leave ids disk opens) ended r.1) ran;
    stays_either = λ tell ids opens other. ⊎_elim (λ u. unopened-either content may_leave moment left_since disk before after status ended u.1 stay counts tell ids opens) (λ r. at-either may_leave ids (disk_in ended) (ran-open content may_leave disk before after status r.0 r.2 stay tell ids opens ended r.1)) ran;
    migrates = λ tell ids opens e. absurd (run-migrate (command_of words) asked e);
    complete = λ tell command e can reads writes faults.
        let c = subst (CanBeDone may_leave disk before.left) (same-command (command_of words) command Run e asked) can in
        ⊎_elim (λ u. unopened-memory content may_leave moment left_since disk before after status ended u.1 stay tell c.0 c.1 faults) (λ r. ran-done content may_leave disk before after status r.0 r.2 stay tell c.0 (at-either may_leave c.0 disk c.1) c.2 reads writes faults) ran;
    refuses = λ image reads closed ask. ⊎_elim (λ u. u.1) (λ r. absurd (closed r.0.journal.opening (r.2.opened image reads))) ran;
    refuses_to_migrate = λ image reads closed e. absurd (run-migrate (command_of words) asked e);
    only_refused = λ no_stream tell seven image reads. inl (⊎_elim (λ u. unopened-closed content may_leave moment left_since disk before after status ended u.1 seven image reads) (λ r. absurd (run-opened status r.2.statuses seven)) ran, λ e. absurd (run-migrate (command_of words) asked e));
  }

  pub asks-migrate : command_of words ≡ Some Migrate → (status ≡ 0) ⊎ ((status ≡ 5) ⊎ ((status ≡ 6) ⊎ ((status ≡ 7) ⊎ ((status ≡ 8) ⊎ (status ≡ 9))))) → later ≡ script
      → Unmigrated content may_leave moment left_since disk before after status ended ⊎ Migrated content may_leave moment left_since disk before after status ended
      → Answered content may_leave moment left_since words script later disk before after status ended
  asks-migrate asked statuses same migrated =
      let is = of-gen status statuses in
      record {
        usage = λ two. absurd (not-usage status is two);
        no_reading = λ none. absurd (none-some (command_of words) Migrate none asked);
        statuses = inr is;
        goes_later = goes;
        only_looks = λ other image reads closed.
            let u = closed-unmigrated content may_leave moment left_since disk before after status ended migrated image reads closed.0 (closed.1 asked) in
            u.only_looks image reads (closed.1 asked) closed.0;
        unread = λ two. absurd (not-usage status is two);
        made = λ pages e. absurd (init-migrate (command_of words) pages e asked);
        replayed = λ e. absurd (replay-migrate (command_of words) e asked);
        ran = λ e. absurd (run-migrate (command_of words) e asked);
        audited = λ e. absurd (audit-migrate (command_of words) e asked);
        par_audited = λ n e. absurd (par_audit-migrate (command_of words) n e asked);
        generated = λ a e. absurd (gen-migrate (command_of words) a e asked);
        migrated = λ _. (same, migrated);
        backed_up = λ e. absurd (cc (same-command (command_of words) Migrate Backup asked e));
        shipped = λ e. absurd (cc (same-command (command_of words) Migrate Ship asked e));
        logged = λ e. absurd (cc (same-command (command_of words) Migrate Log asked e));
        stood_by = λ e. absurd (cc (same-command (command_of words) Migrate Standby asked e));
        checked = λ e. absurd (cc (same-command (command_of words) Migrate Check asked e));
        mapped = λ e. absurd (cc (same-command (command_of words) Migrate Map asked e));
        makes_open = λ pages e. absurd (init-migrate (command_of words) pages e asked);
        stays_open = λ tell ids opens other. goes-on-open content may_leave moment left_since disk before after status ended migrated stay tell ids counts opens;
        stays_either = λ tell ids opens other. goes-on-either content may_leave moment left_since disk before after status ended migrated stay tell ids counts opens;
        migrates = λ tell ids opens e done. migrated-open content may_leave moment left_since disk before after status ended migrated stay tell ids opens done;
        complete = λ tell command e can reads writes faults.
            let c = subst (CanBeDone may_leave disk before.left) (same-command (command_of words) command Migrate e asked) can in
            migration-done content may_leave moment left_since disk before after status ended migrated stay tell c.0 c.1 writes faults;
        refuses = λ image reads closed ask.
            absurd (⊎_elim (λ e. replay-migrate (command_of words) e asked) (λ h. ⊎_elim (λ e. run-migrate (command_of words) e asked) (λ h. ⊎_elim (λ e. audit-migrate (command_of words) e asked) (λ h. ⊎_elim (λ n. par_audit-migrate (command_of words) n.0 n.1 asked) (λ h. ⊎_elim (λ g. gen-migrate (command_of words) g.0 g.1 asked) (λ h. ⊎_elim (λ e. cc (same-command (command_of words) Migrate Backup asked e)) (λ e. cc (same-command (command_of words) Migrate Map asked e)) h) h) h) h) h) ask);
        refuses_to_migrate = λ image reads closed e. closed-unmigrated content may_leave moment left_since disk before after status ended migrated image reads closed.0 (closed.1 asked);
        only_refused = λ no_stream tell seven image reads.
            let closed = unmigrated-closed content may_leave moment left_since disk before after status ended migrated seven image reads in
            inl (closed.0, λ e. closed.1);
      }

  pub asks-backup : command_of words ≡ Some Backup → (status ≡ 0) ⊎ ((status ≡ 5) ⊎ ((status ≡ 6) ⊎ ((status ≡ 7) ⊎ ((status ≡ 8) ⊎ (status ≡ 9))))) → later ≡ script → Unopened content may_leave moment left_since disk before after status ended ⊎ BackedUp content may_leave disk before after status ended
      → Answered content may_leave moment left_since words script later disk before after status ended
  asks-backup asked statuses same backed_up =
      let is = of-gen status statuses in
      record {
        usage = λ two. absurd (not-usage status is two);
        no_reading = λ none. absurd (none-some (command_of words) Backup none asked);
        statuses = inr is;
        goes_later = goes;
        only_looks = λ other image reads closed. ⊎_elim (λ u. u.refused.only_looks image reads closed.0) (λ b. absurd (closed.0 b.cells (b.opened image reads))) backed_up;
        unread = λ two. absurd (not-usage status is two);
        made = λ pages e. absurd (cc (same-command (command_of words) (Init pages) Backup e asked));
        replayed = λ e. absurd (cc (same-command (command_of words) Replay Backup e asked));
        ran = λ e. absurd (cc (same-command (command_of words) Run Backup e asked));
        audited = λ e. absurd (cc (same-command (command_of words) Audit Backup e asked));
        par_audited = λ n e. absurd (cc (same-command (command_of words) (ParAudit n) Backup e asked));
        generated = λ a e. absurd (cc (same-command (command_of words) (Gen a) Backup e asked));
        migrated = λ e. absurd (cc (same-command (command_of words) Migrate Backup e asked));
        backed_up = λ _. (same, backed_up);
        shipped = λ e. absurd (cc (same-command (command_of words) Ship Backup e asked));
        logged = λ e. absurd (cc (same-command (command_of words) Log Backup e asked));
        stood_by = λ e. absurd (cc (same-command (command_of words) Standby Backup e asked));
        checked = λ e. absurd (cc (same-command (command_of words) Check Backup e asked));
        mapped = λ e. absurd (cc (same-command (command_of words) Map Backup e asked));
        makes_open = λ pages e. absurd (cc (same-command (command_of words) (Init pages) Backup e asked));
        stays_open = λ tell ids opens other. ⊎_elim (λ u. unopened-open content may_leave moment left_since disk before after status ended u stay counts tell ids opens) (λ b. backed_up-open content may_leave disk before after status ended b stay tell ids (at-either may_leave ids disk opens)) backed_up;
        stays_either = λ tell ids opens other. ⊎_elim (λ u. unopened-either content may_leave moment left_since disk before after status ended u stay counts tell ids opens) (λ b. at-either may_leave ids (disk_in ended) (backed_up-open content may_leave disk before after status ended b stay tell ids opens)) backed_up;
        migrates = λ tell ids opens e. absurd (cc (same-command (command_of words) Migrate Backup e asked));
        complete = λ tell command e can reads writes faults.
            let c = subst (CanBeDone may_leave disk before.left) (same-command (command_of words) command Backup e asked) can in
            ⊎_elim (λ u. unopened-memory content may_leave moment left_since disk before after status ended u stay tell c.0 c.1 faults) (λ b. backed_up-done content may_leave disk before after status ended b writes faults) backed_up;
        refuses = λ image reads closed ask. ⊎_elim (λ u. u) (λ b. absurd (closed b.cells (b.opened image reads))) backed_up;
        refuses_to_migrate = λ image reads closed e. absurd (cc (same-command (command_of words) Migrate Backup e asked));
        only_refused = λ no_stream tell seven image reads. inl (
          ⊎_elim (λ u. unopened-closed content may_leave moment left_since disk before after status ended u seven image reads) (λ b. absurd (backed_up-opened content may_leave disk before after status ended b seven)) backed_up,
          λ e. absurd (cc (same-command (command_of words) Migrate Backup e asked)),
        );
      }

  pub asks-ship : command_of words ≡ Some Ship → later ≡ script → Shipped content may_leave moment left_since disk before after status ended
      → Answered content may_leave moment left_since words script later disk before after status ended
  asks-ship asked same shipped =
      let is = of-ship status shipped.statuses in
      record {
        usage = λ two. absurd (not-usage status is two);
        no_reading = λ none. absurd (none-some (command_of words) Ship none asked);
        statuses = inr is;
        goes_later = goes;
        only_looks = λ other image reads closed. shipped.looks;
        unread = λ two. absurd (not-usage status is two);
        made = λ pages e. absurd (cc (same-command (command_of words) (Init pages) Ship e asked));
        replayed = λ e. absurd (cc (same-command (command_of words) Replay Ship e asked));
        ran = λ e. absurd (cc (same-command (command_of words) Run Ship e asked));
        audited = λ e. absurd (cc (same-command (command_of words) Audit Ship e asked));
        par_audited = λ n e. absurd (cc (same-command (command_of words) (ParAudit n) Ship e asked));
        generated = λ a e. absurd (cc (same-command (command_of words) (Gen a) Ship e asked));
        migrated = λ e. absurd (cc (same-command (command_of words) Migrate Ship e asked));
        backed_up = λ e. absurd (cc (same-command (command_of words) Backup Ship e asked));
        shipped = λ _. (same, shipped);
        logged = λ e. absurd (cc (same-command (command_of words) Log Ship e asked));
        stood_by = λ e. absurd (cc (same-command (command_of words) Standby Ship e asked));
        checked = λ e. absurd (cc (same-command (command_of words) Check Ship e asked));
        mapped = λ e. absurd (cc (same-command (command_of words) Map Ship e asked));
        makes_open = λ pages e. absurd (cc (same-command (command_of words) (Init pages) Ship e asked));
        stays_open = λ tell ids opens other. shipped-images content may_leave moment left_since disk before after status ended shipped _ opens;
        stays_either = λ tell ids opens other. shipped-images content may_leave moment left_since disk before after status ended shipped _ opens;
        migrates = λ tell ids opens e. absurd (cc (same-command (command_of words) Migrate Ship e asked));
        complete = λ tell command e can reads writes faults.
            let c = subst (CanBeDone may_leave disk before.left) (same-command (command_of words) command Ship e asked) can in
            shipped-done content may_leave moment left_since disk before after status ended shipped stay tell c.0 c.1 writes faults;
        refuses = λ image reads closed ask.
            absurd (⊎_elim (λ e. cc (same-command (command_of words) Replay Ship e asked)) (λ h. ⊎_elim (λ e. cc (same-command (command_of words) Run Ship e asked)) (λ h. ⊎_elim (λ e. cc (same-command (command_of words) Audit Ship e asked)) (λ h. ⊎_elim (λ n. cc (same-command (command_of words) (ParAudit n.0) Ship n.1 asked)) (λ h. ⊎_elim (λ g. cc (same-command (command_of words) (Gen g.0) Ship g.1 asked)) (λ h. ⊎_elim (λ e. cc (same-command (command_of words) Backup Ship e asked)) (λ e. cc (same-command (command_of words) Map Ship e asked)) h) h) h) h) h) ask);
        refuses_to_migrate = λ image reads closed e. absurd (cc (same-command (command_of words) Migrate Ship e asked));
        only_refused = λ no_stream tell seven image reads. inl (shipped-closed content may_leave moment left_since disk before after status ended shipped seven image reads, λ e. absurd (cc (same-command (command_of words) Migrate Ship e asked)));
      }

  pub asks-log : command_of words ≡ Some Log → later ≡ script → Logged content may_leave moment left_since disk before after status ended
      → Answered content may_leave moment left_since words script later disk before after status ended
  asks-log asked same logged =
      let is = of-ship status logged.statuses in
      record {
        usage = λ two. absurd (not-usage status is two);
        no_reading = λ none. absurd (none-some (command_of words) Log none asked);
        statuses = inr is;
        goes_later = goes;
        only_looks = λ other image reads closed. logged.looks;
        unread = λ two. absurd (not-usage status is two);
        made = λ pages e. absurd (cc (same-command (command_of words) (Init pages) Log e asked));
        replayed = λ e. absurd (cc (same-command (command_of words) Replay Log e asked));
        ran = λ e. absurd (cc (same-command (command_of words) Run Log e asked));
        audited = λ e. absurd (cc (same-command (command_of words) Audit Log e asked));
        par_audited = λ n e. absurd (cc (same-command (command_of words) (ParAudit n) Log e asked));
        generated = λ a e. absurd (cc (same-command (command_of words) (Gen a) Log e asked));
        migrated = λ e. absurd (cc (same-command (command_of words) Migrate Log e asked));
        backed_up = λ e. absurd (cc (same-command (command_of words) Backup Log e asked));
        shipped = λ e. absurd (cc (same-command (command_of words) Ship Log e asked));
        logged = λ _. (same, logged);
        stood_by = λ e. absurd (cc (same-command (command_of words) Standby Log e asked));
        checked = λ e. absurd (cc (same-command (command_of words) Check Log e asked));
        mapped = λ e. absurd (cc (same-command (command_of words) Map Log e asked));
        makes_open = λ pages e. absurd (cc (same-command (command_of words) (Init pages) Log e asked));
        stays_open = λ tell ids opens other. logged-images content may_leave moment left_since disk before after status ended logged _ opens;
        stays_either = λ tell ids opens other. logged-images content may_leave moment left_since disk before after status ended logged _ opens;
        migrates = λ tell ids opens e. absurd (cc (same-command (command_of words) Migrate Log e asked));
        complete = λ tell command e can reads writes faults.
            let c = subst (CanBeDone may_leave disk before.left) (same-command (command_of words) command Log e asked) can in
            logged-done content may_leave moment left_since disk before after status ended logged stay tell c.0 c.1 writes faults;
        refuses = λ image reads closed ask.
            absurd (⊎_elim (λ e. cc (same-command (command_of words) Replay Log e asked)) (λ h. ⊎_elim (λ e. cc (same-command (command_of words) Run Log e asked)) (λ h. ⊎_elim (λ e. cc (same-command (command_of words) Audit Log e asked)) (λ h. ⊎_elim (λ n. cc (same-command (command_of words) (ParAudit n.0) Log n.1 asked)) (λ h. ⊎_elim (λ g. cc (same-command (command_of words) (Gen g.0) Log g.1 asked)) (λ h. ⊎_elim (λ e. cc (same-command (command_of words) Backup Log e asked)) (λ e. cc (same-command (command_of words) Map Log e asked)) h) h) h) h) h) ask);
        refuses_to_migrate = λ image reads closed e. absurd (cc (same-command (command_of words) Migrate Log e asked));
        only_refused = λ no_stream tell seven image reads. inl (logged-closed content may_leave moment left_since disk before after status ended logged seven image reads, λ e. absurd (cc (same-command (command_of words) Migrate Log e asked)));
      }

  pub asks-standby : command_of words ≡ Some Standby → StoodBy may_leave moment left_since disk before after status ended
      → Answered content may_leave moment left_since words script later disk before after status ended
  asks-standby asked stood_by =
      let is = of-standby status stood_by.statuses in
      record {
        usage = λ two. absurd (not-usage status is two);
        no_reading = λ none. absurd (none-some (command_of words) Standby none asked);
        statuses = inr is;
        goes_later = goes;
        only_looks = λ other image reads closed. absurd (other (inr asked));
        unread = λ two. absurd (not-usage status is two);
        made = λ pages e. absurd (cc (same-command (command_of words) (Init pages) Standby e asked));
        replayed = λ e. absurd (cc (same-command (command_of words) Replay Standby e asked));
        ran = λ e. absurd (cc (same-command (command_of words) Run Standby e asked));
        audited = λ e. absurd (cc (same-command (command_of words) Audit Standby e asked));
        par_audited = λ n e. absurd (cc (same-command (command_of words) (ParAudit n) Standby e asked));
        generated = λ a e. absurd (cc (same-command (command_of words) (Gen a) Standby e asked));
        migrated = λ e. absurd (cc (same-command (command_of words) Migrate Standby e asked));
        backed_up = λ e. absurd (cc (same-command (command_of words) Backup Standby e asked));
        shipped = λ e. absurd (cc (same-command (command_of words) Ship Standby e asked));
        logged = λ e. absurd (cc (same-command (command_of words) Log Standby e asked));
        stood_by = λ _. stood_by;
        checked = λ e. absurd (cc (same-command (command_of words) Standby Check asked e));
        mapped = λ e. absurd (cc (same-command (command_of words) Standby Map asked e));
        makes_open = λ pages e. absurd (cc (same-command (command_of words) (Init pages) Standby e asked));
        stays_open = λ tell ids opens other. absurd (other (inr asked));
        stays_either = λ tell ids opens other. absurd (other (inr asked));
        migrates = λ tell ids opens e. absurd (cc (same-command (command_of words) Migrate Standby e asked));
        complete = λ tell command e can reads writes faults. stood-complete may_leave moment left_since disk before after status ended stood_by (subst (CanBeDone may_leave disk before.left) (same-command (command_of words) command Standby e asked) can) reads writes faults;
        refuses = λ image reads closed ask.
            absurd (⊎_elim (λ e. cc (same-command (command_of words) Replay Standby e asked)) (λ h. ⊎_elim (λ e. cc (same-command (command_of words) Run Standby e asked)) (λ h. ⊎_elim (λ e. cc (same-command (command_of words) Audit Standby e asked)) (λ h. ⊎_elim (λ n. cc (same-command (command_of words) (ParAudit n.0) Standby n.1 asked)) (λ h. ⊎_elim (λ g. cc (same-command (command_of words) (Gen g.0) Standby g.1 asked)) (λ h. ⊎_elim (λ e. cc (same-command (command_of words) Backup Standby e asked)) (λ e. cc (same-command (command_of words) Map Standby e asked)) h) h) h) h) h) ask);
        refuses_to_migrate = λ image reads closed e. absurd (cc (same-command (command_of words) Migrate Standby e asked));
        only_refused = λ no_stream tell seven image reads. absurd (no_stream (inl asked));
      }

-- ---- the command that was read

pub named : (r o : Option Command) (f c : Command) → r ≡ o → r ≡ Some f → f ≡ c → o ≡ Some c
named r o f c e is i = sym e ∙ is ∙ ap (λ (d : Command). Some d) i
