-- What a generator asks, one turn after another.
use Rattle.std.specs.Prelude.{◌≡◌, ℕ, ◌+◌, ◌-◌, ◌*◌, ◌^◌, ◌<◌, ◌≤◌, Bool, true, false, ◌==◌, nat_lt, nat_le, if◌then◌else◌, List, [], ◌∷◌, length, map, sum, replicate, slice_index, slice_index_or, slice_set, Option, Some, None, IfSome}
use Rattle.std.specs.List.{AllByRecursion}
use Rattle.std.specs.Option.{option_map_or}
use Rattle.plain_model.specs.declared.calls.Call.{Call}
use Rattle.plain_model.specs.declared.calls.Call.TheVariants.{Begin, Read, Make, Store, GetPay, SetPay, Commit, Abort}
use Rattle.call_generator.specs.declared.client.Client.{Client}
use Rattle.call_generator.specs.declared.turns.Turn.{Turn}
use Rattle.call_generator.specs.Draws.{next_number, drawn}

-- a generator: the number that was drawn from last, and its clients, from client 1 on
pub record Generating : Type 0 where
  pub number : ℕ
  pub clients : List Client

abbrev pub generating : ℕ → List Client → Generating
generating number clients = record { number = number; clients = clients }

-- a client before its first transaction, of which it has so many
abbrev pub new_client : ℕ → Client
new_client transactions = record { left = transactions; calls = None }

-- the generator of a seed, before its first turn
abbrev pub generator : (seed clients transactions : ℕ) → Generating
generator seed clients transactions = record { number = seed; clients = replicate clients (new_client transactions) }

-- ---- which client asks

-- whether a client has a transaction left
abbrev pub has_left : Client → Bool
has_left c = nat_lt 0 c.left

-- the indices of the clients with a transaction left, ascending, where the first client has this index
abbrev pub waiting_from : ℕ → List Client → List ℕ
waiting_from index [] = []
waiting_from index (c ∷ cs) = if has_left c then index ∷ waiting_from (index + 1) cs else waiting_from (index + 1) cs

-- the indices of the clients with a transaction left, ascending
abbrev pub waiting : List Client → List ℕ
waiting clients = waiting_from 0 clients

-- the index of the client whose turn it is: one of those with a transaction left is drawn
abbrev pub chosen : Generating → ℕ
chosen g = slice_index (waiting g.clients) (drawn (next_number g.number) (length (waiting g.clients)))

-- that client
abbrev pub client_of : Generating → Client
client_of g = slice_index_or g.clients (chosen g) (new_client 0)

-- ---- what it asks

-- what a slot is to hold: the id in the register of this number, or null for 8
abbrev pub source_of : ℕ → Option ℕ
source_of number = if number == 8 then None else Some number

-- a slot is drawn of the first so many
abbrev pub drawn_slots : ℕ
drawn_slots = 6

-- the call whose kind was drawn as this one, of sixteen. The first argument is drawn from the number after x, and each further
-- one from the next. Beside the call stands the last number that was drawn from
abbrev pub drawn_call : (kind x : ℕ) → Call × ℕ
drawn_call kind x =
    let x1 = next_number x in
    let x2 = next_number x1 in
    let x3 = next_number x2 in
    if nat_le kind 2 then (Read (drawn x1 8) (drawn x2 drawn_slots) (1 + drawn x3 7), x3)
    else if nat_le kind 5 then (Make (1 + drawn x1 7), x1)
    else if nat_le kind 10 then (Store (drawn x1 8) (drawn x2 drawn_slots) (source_of (drawn x3 9)), x3)
    else if kind == 11 then (GetPay (drawn x1 8), x1)
    else if kind == 12 then (SetPay (drawn x1 8) (drawn x2 1000000), x2)
    else if nat_le kind 14 then (Commit, x)
    else (Abort, x)

-- what a client asks that has made so many calls since its transaction began: to begin one, where it is in none; to commit after
-- 64 calls; else what is drawn
abbrev pub call_of_client : Option ℕ → ℕ → Call × ℕ
call_of_client None x = (Begin, x)
call_of_client (Some calls) x = if nat_le 64 calls then (Commit, x) else drawn_call (drawn (next_number x) 16) (next_number x)

-- whether the call ends its client's transaction
abbrev pub ends : Call → Bool
ends Commit = true
ends Abort = true
ends call = false

-- the client after its call. The one that begins a transaction isn't counted
abbrev pub after_call : Client → Call → Client
after_call c call =
    if ends call then record { left = c.left - 1; calls = None }
    else record { left = c.left; calls = Some (option_map_or (λ n. n + 1) c.calls 0) }

-- ---- turns

-- what is asked in the next turn, and the last number that was drawn from for it
abbrev pub asked : Generating → Call × ℕ
asked g = call_of_client (client_of g).calls (next_number g.number)

-- the next turn. Whether the collector makes a step after the call is drawn last
abbrev pub next_turn : Generating → Turn
next_turn g = record { client = chosen g + 1; call = (asked g).0; collects = nat_le (drawn (next_number (asked g).1) 4) 1 }

-- the generator after it
abbrev pub after_turn : Generating → Generating
after_turn g = record { number = next_number (asked g).1; clients = slice_set g.clients (chosen g) (after_call (client_of g) (asked g).0) }

-- the generator gives these turns, one after another, until no client has a transaction left
pub data Generates : Generating → List Turn → Type 0 where
  done : (g : Generating) → waiting g.clients ≡ [] → Generates g []
  turn : (g : Generating) (turns : List Turn) → (waiting g.clients ≡ [] → ⊥) → Generates (after_turn g) turns → Generates g (next_turn g ∷ turns)

-- ---- what holds between two turns

-- a client has made at most 64 calls since its transaction began, and this transaction is one of those left
abbrev pub IsWithin : Client → Type 0
IsWithin c = IfSome c.calls (λ n. (n ≤ 64) × (0 < c.left))

-- there are at most 64 clients, each of which keeps that
pub record IsGenerating (g : Generating) : Type 0 where
  pub few : length g.clients ≤ 64
  pub each : AllByRecursion IsWithin g.clients

-- a transaction takes at most 66 turns: its begin, 64 calls and the end. At most so many turns are left to a client
abbrev pub turns_of : Client → ℕ
turns_of c = c.left * 66 - option_map_or (λ n. n + 1) c.calls 0

-- at most so many turns are left
abbrev pub turns_left : Generating → ℕ
turns_left g = sum (map turns_of g.clients)
