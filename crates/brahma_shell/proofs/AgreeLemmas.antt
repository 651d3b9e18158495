-- Each client's transaction is as the generator has it, so none is active after the last turn.
use Rattle.std.proofs.Common.{◌≡◌, ◌≢◌, ℕ, zero, suc, ◌+◌, ◌<◌, ◌≤◌, Bool, true, false, List, [], ◌∷◌, ◌++◌, length, get_or, set, replicate, Option, Some, None, refl, sym, ap, subst, ◌∙◌, ⊎_elim, arith}
use Rattle.std.specs.Prelude.{nat_le, if◌then◌else◌, ◌==◌, flat_map, IfSome}
use Rattle.std.proofs.lemmas.Bool.{cases_eq, ltb-false}
use Rattle.std.specs.List.{AllByRecursion}
use Rattle.std.proofs.lemmas.List.{append-nil, get_or-set_same, get_or-set_other}
use Rattle.plain_model.specs.declared.calls.Call.{Call as TransactionCall}
use Rattle.plain_model.specs.declared.calls.Call.TheVariants.{Begin, Read, Make, Store, GetPay, SetPay, Release, Commit, Abort}
use Rattle.plain_model.specs.declared.calls.Reply.{Reply}
use Rattle.plain_model.specs.declared.calls.Entry.{Entry}
use Rattle.plain_model.specs.declared.calls.Entry.TheVariants as entry
use Rattle.plain_model.specs.ActiveTransaction.{ActiveTransaction}
use Rattle.plain_model.specs.Machine.{State, transaction_of, step, success, new_transaction, with_transaction, without_transaction}
use Rattle.plain_model.specs.History.{Moment, next, moment_after, left_to_undo}
use Rattle.plain_model.proofs.StepLemmas.{step-begin, step-commit, step-abort}
use Rattle.plain_laws.specs.Sound.{PassesAscend}
use Rattle.plain_laws.proofs.Entries.{at, at_here, ascend-insert, ascend-remove}
use Rattle.plain_laws.proofs.Locks.{transaction_of-with_same, transaction_of-with_other, transaction_of-without_same, transaction_of-without_other, marked_aborting, transaction_of-undo_same, transaction_of-undo_other, ascend-undo}
use Rattle.plain_laws.proofs.Ways.{Way, refused, begins, succeeds, way}
use Rattle.core_store.specs.declared.note.Note.{Note}
use Rattle.call_generator.specs.declared.client.Client.{Client}
use Rattle.call_generator.specs.declared.turns.Turn.{Turn}
use Rattle.call_generator.specs.Draws.{next_number, drawn}
use Rattle.call_generator.specs.Generator.{Generating, new_client, waiting_from, waiting, has_left, chosen, client_of, call_of_client, drawn_call, after_call, asked, next_turn, after_turn, Generates, done, turn, IsWithin, IsGenerating}
use Rattle.call_generator.proofs.TurnLaws.{chosen-waits, turn-goes-on}
use Rattle.script_lines.specs.declared.grammar.Line.TheVariants as line
use Rattle.brahma_shell.specs.Points.{Point, after_notes, entries_in}
use Rattle.brahma_shell.specs.Follows.{Gives, IsOfCollector}
use Rattle.brahma_shell.specs.Generated.{line_of, lines_in, GivesLines}
use Rattle.brahma_shell.proofs.PointLemmas.{after_notes-append, moment-after}
use Rattle.brahma_shell.proofs.GivesLemmas.{lines-split}

-- ---- what agrees

-- a client is in no transaction, or in one that isn't being undone
abbrev IsAsTold : Option ℕ → Option ActiveTransaction → Type 0
IsAsTold None o = o ≡ None
IsAsTold (Some n) o = (t : ActiveTransaction) × (o ≡ Some t) × (t.aborting ≡ false)

-- how many calls a client has made, by its number
abbrev calls_at : List Client → ℕ → Option ℕ
calls_at cs zero = None
calls_at cs (suc i) = (get_or cs i (new_client 0)).calls

pub record Agrees (cs : List Client) (s : State) : Type 0 where
  pub ascend : PassesAscend s.active
  pub told : (pass : ℕ) → IsAsTold (calls_at cs pass) (transaction_of s pass)

-- one client and its transaction change
agrees-set : (cs : List Client) (i : ℕ) (y : Client) (s s' : State) → i < length cs → PassesAscend s'.active → ((q : ℕ) → q ≢ suc i → transaction_of s' q ≡ transaction_of s q) → IsAsTold y.calls (transaction_of s' (suc i)) → Agrees cs s → Agrees (set cs i y) s'
agrees-set cs i y s s' within ascend others own a = record { ascend = ascend; told = told }
  where
    told : (pass : ℕ) → IsAsTold (calls_at (set cs i y) pass) (transaction_of s' pass)
    told zero = others zero (λ e. omega (arith, e)) ∙ a.told zero
    told (suc j) =
        ⊎_elim
        (λ e. subst (λ (k : ℕ). IsAsTold (get_or (set cs i y) k (new_client 0)).calls (transaction_of s' (suc k))) (sym e) (subst (λ (c : Client). IsAsTold c.calls (transaction_of s' (suc i))) (sym (get_or-set_same cs i y (new_client 0) within)) own))
        (λ n. subst (λ (c : Client). IsAsTold c.calls (transaction_of s' (suc j))) (sym (get_or-set_other cs i j y (new_client 0) n)) (subst (IsAsTold (get_or cs j (new_client 0)).calls) (sym (others (suc j) (λ e. n (omega (arith, e))))) (a.told (suc j))))
        (cases_eq j i)

-- ---- one call

-- what a call leaves of the other clients, and of its own
record Changes (s s' : State) (pass : ℕ) (calls : Option ℕ) : Type 0 where
  ascend : PassesAscend s'.active
  others : (q : ℕ) → q ≢ pass → transaction_of s' q ≡ transaction_of s q
  own : IsAsTold calls (transaction_of s' pass)

put : (s s' : State) (pass n : ℕ) (t : ActiveTransaction) → PassesAscend s.active → s'.active ≡ (with_transaction s pass t).active → t.aborting ≡ false → Changes s s' pass (Some n)
put s s' pass n t ascend e alive = record {
  ascend = subst PassesAscend (sym e) (ascend-insert pass t s.active ascend);
  others = λ q apart. ap (λ a. transaction_of (record s { active = a }) q) e ∙ transaction_of-with_other s pass q t apart;
  own = (t, ap (λ a. transaction_of (record s { active = a }) pass) e ∙ transaction_of-with_same s pass t, alive);
}

taken : (s s' : State) (pass : ℕ) → PassesAscend s.active → s'.active ≡ (without_transaction s pass).active → Changes s s' pass None
taken s s' pass ascend e = record {
  ascend = subst PassesAscend (sym e) (ascend-remove pass s.active ascend);
  others = λ q apart. ap (λ a. transaction_of (record s { active = a }) q) e ∙ transaction_of-without_other s pass q apart;
  own = ap (λ a. transaction_of (record s { active = a }) pass) e ∙ transaction_of-without_same s pass ascend;
}

kept : (s : State) (pass n : ℕ) (t : ActiveTransaction) → PassesAscend s.active → transaction_of s pass ≡ Some t → t.aborting ≡ false → Changes s s pass (Some n)
kept s pass n t ascend e alive = record { ascend = ascend; others = λ q apart. refl; own = (t, e, alive) }

-- a call of a transaction that neither begins nor ends it
abbrev IsWork : TransactionCall → Type 0
IsWork Begin = ⊥
IsWork Commit = ⊥
IsWork Abort = ⊥
IsWork c = Unit {0}

some-same : (o : Option ActiveTransaction) (t u : ActiveTransaction) → o ≡ Some t → o ≡ Some u → t ≡ u
some-same o t u e f = let h : Some t ≡ Some u = sym e ∙ f in cc (h)

worked : (s : State) (pass n : ℕ) (t : ActiveTransaction) (call : TransactionCall) → PassesAscend s.active → t.aborting ≡ false → IsWork call → Changes s (success s pass t call).1 pass (Some n)
worked s pass n t Begin ascend alive w = absurd w
worked s pass n t (Read r slot into) ascend alive w = put s _ pass n _ ascend refl alive
worked s pass n t (Make into) ascend alive w = put s _ pass n _ ascend refl alive
worked s pass n t (Store r slot f) ascend alive w = put s _ pass n _ ascend refl alive
worked s pass n t (GetPay r) ascend alive w = put s _ pass n _ ascend refl alive
worked s pass n t (Release r) ascend alive w = put s _ pass n _ ascend refl alive
worked s pass n t (SetPay r v) ascend alive w = put s _ pass n _ ascend refl alive
worked s pass n t Commit ascend alive w = absurd w
worked s pass n t Abort ascend alive w = absurd w

step-worked : (s : State) (pass n : ℕ) (t : ActiveTransaction) (call : TransactionCall) → PassesAscend s.active → transaction_of s pass ≡ Some t → t.aborting ≡ false → IsWork call → Changes s (step s pass call).1 pass (Some n)
step-worked s pass n t call ascend e alive w = by (way s pass call)
  where
    by : Way s pass call → Changes s (step s pass call).1 pass (Some n)
    by (refused r f b) = subst (λ (x : Reply × State). Changes s x.1 pass (Some n)) (sym f) (kept s pass n t ascend e alive)
    by (begins b f) = absurd (subst IsWork b w)
    by (succeeds u h r f) =
        let same = some-same (transaction_of s pass) t u e h in
        subst (λ (x : Reply × State). Changes s x.1 pass (Some n)) (sym f) (worked s pass n u call ascend (subst (λ (v : ActiveTransaction). v.aborting ≡ false) same alive) w)

begun : (s : State) (pass : ℕ) → PassesAscend s.active → transaction_of s pass ≡ None → Changes s (step s pass Begin).1 pass (Some 0)
begun s pass ascend e = subst (λ (x : Reply × State). Changes s x.1 pass (Some 0)) (sym (step-begin s pass e)) (put s (with_transaction s pass new_transaction) pass 0 new_transaction ascend refl refl)

committed : (s : State) (pass : ℕ) (t : ActiveTransaction) → PassesAscend s.active → transaction_of s pass ≡ Some t → t.aborting ≡ false → Changes s (step s pass Commit).1 pass None
committed s pass t ascend e alive = subst (λ (x : Reply × State). Changes s x.1 pass None) (sym (step-commit s pass t e alive)) (taken s _ pass ascend refl)

-- a transaction that is being undone, or not, and then ends
record Undoing (s s' : State) (pass : ℕ) : Type 0 where
  ascend : PassesAscend s'.active
  others : (q : ℕ) → q ≢ pass → transaction_of s' q ≡ transaction_of s q
  own : (t : ActiveTransaction) × (transaction_of s' pass ≡ Some t)

undone-more : (n : ℕ) (m : Moment) (s : State) (pass : ℕ) → Undoing s m.state pass → Undoing s (moment_after m (replicate n (entry.Undo pass))).state pass
undone-more zero m s pass u = u
undone-more (suc n) m s pass u =
    undone-more n (next m (entry.Undo pass)) s pass (record {
      ascend = ascend-undo m.state pass u.ascend;
      others = λ q apart. transaction_of-undo_other m.state pass q apart ∙ u.others q apart;
      own = (marked_aborting u.own.0, transaction_of-undo_same m.state pass u.own.0 u.own.1);
    })

moment-append : (m : Moment) (xs ys : List Entry) → moment_after m (xs ++ ys) ≡ moment_after (moment_after m xs) ys
moment-append m [] ys = refl
moment-append m (x ∷ xs) ys = moment-append (next m x) xs ys

aborted : (m : Moment) (pass n : ℕ) (t : ActiveTransaction) (reply : Reply) → PassesAscend m.state.active → transaction_of m.state pass ≡ Some t → Changes m.state (moment_after m (replicate n (entry.Undo pass) ++ entry.Call pass Abort reply ∷ [])).state pass None
aborted m pass n t reply ascend e =
    let mid = moment_after m (replicate n (entry.Undo pass)) in
    let u = undone-more n m m.state pass (record { ascend = ascend; others = λ q apart. refl; own = (t, e) }) in
    let ended = taken mid.state (step mid.state pass Abort).1 pass u.ascend (ap (λ (x : Reply × State). x.1.active) (step-abort mid.state pass u.own.0 u.own.1)) in
    subst (λ (x : Moment). Changes m.state x.state pass None) (sym (moment-append m (replicate n (entry.Undo pass)) (entry.Call pass Abort reply ∷ [])))
    (record { ascend = ended.ascend; others = λ q apart. ended.others q apart ∙ u.others q apart; own = ended.own })

-- ---- what a client asks

-- a transaction's client asks no second begin
abbrev IsInside : TransactionCall → Type 0
IsInside Begin = ⊥
IsInside c = Unit {0}

if-inside : (b : Bool) (p q : TransactionCall × ℕ) → IsInside p.0 → IsInside q.0 → IsInside (if b then p else q).0
if-inside true p q h k = h
if-inside false p q h k = k

drawn-inside : (kind x : ℕ) → IsInside (drawn_call kind x).0
drawn-inside kind x =
    if-inside (nat_le kind 2) _ _ tt
    (if-inside (nat_le kind 5) _ _ tt
    (if-inside (nat_le kind 10) _ _ tt
    (if-inside (kind == 11) _ _ tt
    (if-inside (kind == 12) _ _ tt
    (if-inside (nat_le kind 14) _ _ tt tt)))))

asked-inside : (calls x : ℕ) → IsInside (call_of_client (Some calls) x).0
asked-inside calls x = if-inside (nat_le 64 calls) (Commit, x) (drawn_call (drawn (next_number x) 16) (next_number x)) tt (drawn-inside (drawn (next_number x) 16) (next_number x))

-- the notes of a client's line change its transaction as the generator has it
line-changes : (p : Point) (left : ℕ) (calls : Option ℕ) (pass : ℕ) (call : TransactionCall) (notes : List Note) → PassesAscend p.moment.state.active → IsAsTold calls (transaction_of p.moment.state pass) → ((n : ℕ) → calls ≡ Some n → IsInside call) → (calls ≡ None → call ≡ Begin)
    → Gives p (line_of pass call) notes → Changes p.moment.state (moment_after p.moment (entries_in notes)).state pass (after_call (record { left = left; calls = calls }) call).calls
line-changes p left None pass call notes ascend told inside outside g = by call (outside refl) g
  where
    by : (c : TransactionCall) → c ≡ Begin → Gives p (line_of pass c) notes → Changes p.moment.state (moment_after p.moment (entries_in notes)).state pass (after_call (record { left = left; calls = None }) c).calls
    by Begin e g = rw g.1 (begun p.moment.state pass ascend told)
    by (Read r slot into) e g = absurd (cc (e))
    by (Make into) e g = absurd (cc (e))
    by (Store r slot f) e g = absurd (cc (e))
    by (GetPay r) e g = absurd (cc (e))
    by (Release r) e g = absurd (cc (e))
    by (SetPay r v) e g = absurd (cc (e))
    by Commit e g = absurd (cc (e))
    by Abort e g = absurd (cc (e))
line-changes p left (Some n) pass call notes ascend told inside outside g = by call (inside n refl) g
  where
    by : (c : TransactionCall) → IsInside c → Gives p (line_of pass c) notes → Changes p.moment.state (moment_after p.moment (entries_in notes)).state pass (after_call (record { left = left; calls = Some n }) c).calls
    by Begin i g = absurd i
    by (Read r slot into) i g = rw g.1 (step-worked p.moment.state pass (n + 1) told.0 (Read r slot into) ascend told.1 told.2 tt)
    by (Make into) i g = rw g.1 (step-worked p.moment.state pass (n + 1) told.0 (Make into) ascend told.1 told.2 tt)
    by (Store r slot f) i g = rw g.1 (step-worked p.moment.state pass (n + 1) told.0 (Store r slot f) ascend told.1 told.2 tt)
    by (GetPay r) i g = rw g.1 (step-worked p.moment.state pass (n + 1) told.0 (GetPay r) ascend told.1 told.2 tt)
    by (Release r) i g = rw g.1 (step-worked p.moment.state pass (n + 1) told.0 (Release r) ascend told.1 told.2 tt)
    by (SetPay r v) i g = rw g.1 (step-worked p.moment.state pass (n + 1) told.0 (SetPay r v) ascend told.1 told.2 tt)
    by Commit i g = rw g.1 (committed p.moment.state pass told.0 ascend told.1 told.2)
    by Abort i g = rw g.1 (aborted p.moment pass (left_to_undo p.moment pass) told.0 g.0 ascend told.1)

-- ---- the collector's step

collector-keeps : (m : Moment) (e : Entry) → IsOfCollector e → (next m e).state.active ≡ m.state.active
collector-keeps m entry.Hidden c = refl
collector-keeps m (entry.Delete id) c = refl
collector-keeps m (entry.Call pass call reply) c = absurd c
collector-keeps m (entry.Undo pass) c = absurd c
collector-keeps m (entry.TurnBusy pass) c = absurd c
collector-keeps m (entry.Crash cells) c = absurd c

agrees-active : (cs : List Client) (s s' : State) → s'.active ≡ s.active → Agrees cs s → Agrees cs s'
agrees-active cs s s' e a = record {
  ascend = subst PassesAscend (sym e) a.ascend;
  told = λ pass. subst (IsAsTold (calls_at cs pass)) (sym (ap (λ x. transaction_of (record s { active = x }) pass) e)) (a.told pass);
}

step-keeps : (p : Point) (notes : List Note) → Gives p line.CollectStep notes → (moment_after p.moment (entries_in notes)).state.active ≡ p.moment.state.active
step-keeps p notes g =
    ⊎_elim
    (λ h. ap (λ (ns : List Note). (moment_after p.moment (entries_in ns)).state.active) h.1 ∙ collector-keeps p.moment h.0.entry h.2.entry)
    (λ h. ap (λ (ns : List Note). (moment_after p.moment (entries_in ns)).state.active) h.0)
    g

tail-agrees : (b : Bool) (cs : List Client) (q : Point) (notes : List Note) → Agrees cs q.moment.state → GivesLines q (if b then line.CollectStep ∷ [] else []) notes → Agrees cs (after_notes q notes).moment.state
tail-agrees false cs q notes a g = subst (λ (ns : List Note). Agrees cs (after_notes q ns).moment.state) (sym g) a
tail-agrees true cs q notes a g =
    let same : notes ≡ g.0 = g.2 ∙ ap (λ (ns : List Note). g.0 ++ ns) g.4 ∙ append-nil g.0 in
    let moment = moment-after q g.0 in
    subst (λ (ns : List Note). Agrees cs (after_notes q ns).moment.state) (sym same)
    (agrees-active cs q.moment.state (after_notes q g.0).moment.state (ap (λ (m : Moment). m.state.active) moment ∙ step-keeps q g.0 g.3) a)

-- ---- a turn, and all turns

pub turn-agrees : (g : Generating) → IsGenerating g → (waiting g.clients ≡ [] → ⊥) → (p : Point) (notes : List Note) → Agrees g.clients p.moment.state → GivesLines p (lines_in (next_turn g)) notes → Agrees (after_turn g).clients (after_notes p notes).moment.state
turn-agrees g inside some p notes a given =
    let w = chosen-waits g some in
    let i = chosen g in
    let c = client_of g in
    let there : i < length g.clients = (let e = w.is in let l = w.within in omega (arith, e, l)) in
    let number : suc i ≡ i + 1 = omega arith in
    let told = subst (λ (q : ℕ). IsAsTold c.calls (transaction_of p.moment.state q)) number (a.told (suc i)) in
    let s1 = (moment_after p.moment (entries_in given.0)).state in
    let changes = line-changes p c.left c.calls (i + 1) (asked g).0 given.0 a.ascend told
    (λ n e. subst (λ (o : Option ℕ). IsInside (call_of_client o (next_number g.number)).0) (sym e) (asked-inside n (next_number g.number)))
    (λ e. ap (λ (o : Option ℕ). (call_of_client o (next_number g.number)).0) e) given.3 in
    let own = subst (λ (q : ℕ). Changes p.moment.state s1 q (after_call c (asked g).0).calls) (sym number) changes in
    let agreed = agrees-set g.clients i (after_call c (asked g).0) p.moment.state s1 there own.ascend own.others own.own a in
    let mid = subst (λ (m : Moment). Agrees (after_turn g).clients m.state) (sym (moment-after p given.0)) agreed in
    subst (λ (q : Point). Agrees (after_turn g).clients q.moment.state) (sym (ap (after_notes p) given.2 ∙ after_notes-append p given.0 given.1))
    (tail-agrees (next_turn g).collects (after_turn g).clients (after_notes p given.0) given.1 mid given.4)

calls-none : (n : ℕ) (cs : List Client) → waiting_from n cs ≡ [] → AllByRecursion IsWithin cs → (i : ℕ) → (get_or cs i (new_client 0)).calls ≡ None
calls-none n [] e all i = refl
calls-none n (c ∷ cs) e all i = by (λ f. calls-none (n + 1) cs f all.1) (has_left c) refl e i
  where
    own : (o : Option ℕ) → c.calls ≡ o → has_left c ≡ false → o ≡ None
    own None e f = refl
    own (Some k) e f = let w = subst (λ (o : Option ℕ). IfSome o (λ n. (n ≤ 64) × (0 < c.left))) e all.0 in absurd (let low = ltb-false 0 c.left f in let some = w.1 in omega (arith, low, some))

    by : (waiting_from (n + 1) cs ≡ [] → (j : ℕ) → (get_or cs j (new_client 0)).calls ≡ None) → (b : Bool) → has_left c ≡ b → (if b then n ∷ waiting_from (n + 1) cs else waiting_from (n + 1) cs) ≡ [] → (j : ℕ) → (get_or (c ∷ cs) j (new_client 0)).calls ≡ None
    by behind true f e j = absurd (cc (e))
    by behind false f e zero = own c.calls refl f
    by behind false f e (suc j) = behind e j

no-active : (active : List (ℕ × ActiveTransaction)) → ((q : ℕ) → at q active ≡ None) → active ≡ []
no-active [] h = refl
no-active (e ∷ es) h = let some = at_here e.0 e es refl in let none = h e.0 in let bad : Some e.1 ≡ None = sym some ∙ none in absurd (cc (bad))

told-none : (cs : List Client) (s : State) → waiting cs ≡ [] → AllByRecursion IsWithin cs → Agrees cs s → (q : ℕ) → transaction_of s q ≡ None
told-none cs s e all a zero = a.told zero
told-none cs s e all a (suc i) = subst (λ (o : Option ℕ). IsAsTold o (transaction_of s (suc i))) (calls-none 0 cs e all i) (a.told (suc i))

-- after the last turn no transaction is active
pub all-idle : (g : Generating) (turns : List Turn) → Generates g turns → IsGenerating g → (p : Point) (notes : List Note) → Agrees g.clients p.moment.state → GivesLines p (flat_map lines_in turns) notes → (after_notes p notes).moment.state.active ≡ []
all-idle g ts (done _ none) inside p notes a given = subst (λ (ns : List Note). (after_notes p ns).moment.state.active ≡ []) (sym given) (no-active p.moment.state.active (told-none g.clients p.moment.state none inside.each a))
all-idle g ts (turn _ turns some more) inside p notes a given =
    let s = lines-split p (lines_in (next_turn g)) (flat_map lines_in turns) notes given in
    let on = turn-goes-on g inside some in
    let rest = all-idle (after_turn g) turns more on.inside (after_notes p s.front) s.back (turn-agrees g inside some p s.front a s.before) s.behind in
    subst (λ (q : Point). q.moment.state.active ≡ []) (sym (ap (after_notes p) s.all ∙ after_notes-append p s.front s.back)) rest

-- before the first turn none is
pub start-agrees : (clients transactions : ℕ) (s : State) → s.active ≡ [] → Agrees (replicate clients (new_client transactions)) s
start-agrees clients transactions s e = record {
  ascend = subst PassesAscend (sym e) tt;
  told = λ pass. subst (λ (o : Option ℕ). IsAsTold o (transaction_of s pass)) (sym (new pass)) (ap (λ (active : List (ℕ × ActiveTransaction)). at pass active) e);
}
  where
    calls : (n i : ℕ) → (get_or (replicate n (new_client transactions)) i (new_client 0)).calls ≡ None
    calls zero i = refl
    calls (suc n) zero = refl
    calls (suc n) (suc i) = calls n i

    new : (pass : ℕ) → calls_at (replicate clients (new_client transactions)) pass ≡ None
    new zero = refl
    new (suc i) = calls clients i
