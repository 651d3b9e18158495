-- What `gen` is asked has at most 64 clients.
use Rattle.std.proofs.Common.{◌≡◌, ℕ, ◌≤◌, Bool, true, false, List, [], ◌∷◌, Option, Some, None, subst}
use Rattle.std.specs.Prelude.{IfSome, codes, bytes_eq, if◌then◌else◌, option_map}
use Rattle.brahma_shell.specs.declared.commands.Command.TheVariants.{Init, Replay, Run, Gen, Audit, ParAudit, Migrate, Backup, Ship, Log, Standby, Check, Map}
use Rattle.call_generator.specs.declared.options.Asked.{Asked}
use Rattle.brahma_shell.specs.Commands.{command_of}
use Rattle.script_lines.specs.Numbers.{pages_of}
use Rattle.call_generator.specs.Options.{asked_of}
use Rattle.call_generator.proofs.FewClients.{asked-few}

of-more : (b : Bool) (o : Option Asked) (a : Asked) → IfSome o (λ x. x.clients ≤ 64) → (if b then option_map Gen o else None) ≡ Some (Gen a) → a.clients ≤ 64
of-more true None a h e = absurd (cc (e))
of-more true (Some x) a h e = let same : x ≡ a = cc (e) in subst (λ (y : Asked). y.clients ≤ 64) same h
of-more false o a h e = absurd (cc (e))

of-one : (p q r t u v w x y z : Bool) (a : Asked) → (if p then Some Replay else if q then Some Run else if r then Some Audit else if t then Some Migrate else if u then Some Backup else if v then Some Ship else if w then Some Log else if x then Some Standby else if y then Some Check else if z then Some Map else None) ≡ Some (Gen a) → ⊥
of-one true q r t u v w x y z a e = absurd (cc (e))
of-one false true r t u v w x y z a e = absurd (cc (e))
of-one false false true t u v w x y z a e = absurd (cc (e))
of-one false false false true u v w x y z a e = absurd (cc (e))
of-one false false false false true v w x y z a e = absurd (cc (e))
of-one false false false false false true w x y z a e = absurd (cc (e))
of-one false false false false false false true x y z a e = absurd (cc (e))
of-one false false false false false false false true y z a e = absurd (cc (e))
of-one false false false false false false false false true z a e = absurd (cc (e))
of-one false false false false false false false false false true a e = absurd (cc (e))
of-one false false false false false false false false false false a e = absurd (cc (e))

of-two : (p q : Bool) (o : Option ℕ) (a : Asked) → (if p then option_map Init o else if q then option_map ParAudit o else None) ≡ Some (Gen a) → ⊥
of-two true q None a e = absurd (cc (e))
of-two true q (Some n) a e = absurd (cc (e))
of-two false true None a e = absurd (cc (e))
of-two false true (Some n) a e = absurd (cc (e))
of-two false false o a e = absurd (cc (e))

pub gen-few : (words : List (List ℕ)) (a : Asked) → command_of words ≡ Some (Gen a) → a.clients ≤ 64
gen-few [] a e = absurd (cc (e))
gen-few (word ∷ []) a e = absurd (of-one (bytes_eq word (codes "replay")) (bytes_eq word (codes "run")) (bytes_eq word (codes "audit")) (bytes_eq word (codes "migrate")) (bytes_eq word (codes "backup")) (bytes_eq word (codes "ship")) (bytes_eq word (codes "log")) (bytes_eq word (codes "standby")) (bytes_eq word (codes "check")) (bytes_eq word (codes "map")) a e)
gen-few (word ∷ number ∷ []) a e = absurd (of-two (bytes_eq word (codes "init")) (bytes_eq word (codes "paudit")) (pages_of number) a e)
gen-few (word ∷ number ∷ other ∷ words) a e = of-more (bytes_eq word (codes "gen")) (asked_of (number ∷ other ∷ words)) a (asked-few (number ∷ other ∷ words)) e
