-- What a field spells.
use Rattle.std.specs.Prelude.{ℕ, ◌^◌, Bool, ◌&&◌, nat_lt, nat_le, if◌then◌else◌, List, length, Option, Some, None, option_and_then, option_map, bytes_eq, codes}
use Rattle.std.specs.Str.{all_ascii_digits}
use Rattle.std.specs.Str.Parse.{digits_value}

-- a number is 1 to 20 decimal digits, where leading zeros are allowed
abbrev pub is_number : List ℕ → Bool
is_number field = nat_le 1 (length field) && nat_le (length field) 20 && all_ascii_digits field

-- the number that a field spells
abbrev pub number_of : List ℕ → Option ℕ
number_of field = if is_number field then Some (digits_value 10 field) else None

-- that number, where it is at least `low` and below `limit`
abbrev pub number_within : ℕ → ℕ → List ℕ → Option ℕ
number_within low limit field = option_and_then (λ n. if nat_le low n && nat_lt n limit then Some n else None) (number_of field)

-- a client: 1 to 64
abbrev pub client_of : List ℕ → Option ℕ
client_of field = number_within 1 65 field

-- a register: 0 to 7
abbrev pub register_of : List ℕ → Option ℕ
register_of field = number_within 0 8 field

-- so many slots an object of the program's store has
abbrev pub object_slots : ℕ
object_slots = 14

-- a slot of such an object
abbrev pub slot_of : List ℕ → Option ℕ
slot_of field = number_within 0 object_slots field

-- a page: 0 to 1,023. Whether a store has it is for the store to say
abbrev pub page_of : List ℕ → Option ℕ
page_of field = number_within 0 1024 field

-- a pick of what a power loss leaves: below 2^32
abbrev pub pick_of : List ℕ → Option ℕ
pick_of field = number_within 0 (2 ^ 32) field

-- a number of pages: 1 to 1,024
abbrev pub pages_of : List ℕ → Option ℕ
pages_of word = number_within 1 1025 word

-- a seed: below 2^64
abbrev pub seed_of : List ℕ → Option ℕ
seed_of word = number_within 0 (2 ^ 64) word

-- a number of clients: 1 to 64
abbrev pub clients_of : List ℕ → Option ℕ
clients_of word = number_within 1 65 word

-- a number of transactions: 0 to 1,000
abbrev pub transactions_of : List ℕ → Option ℕ
transactions_of word = number_within 0 1001 word

-- a payload: below 2^64
abbrev pub payload_of : List ℕ → Option ℕ
payload_of field = number_within 0 (2 ^ 64) field

-- what a slot is to hold: the id in a register, or nothing for `-`
abbrev pub source_of : List ℕ → Option (Option ℕ)
source_of field = if bytes_eq field (codes "-") then Some None else option_map (λ r. Some r) (register_of field)
