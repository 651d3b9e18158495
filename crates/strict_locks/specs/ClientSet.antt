-- A set of clients.
use Rattle.std.specs.Prelude.{ℕ, ◌-◌, Bool, ◌==◌, ◌&&◌, List, [], ◌∷◌, ◌++◌, zero, suc, nat_lt, if◌then◌else◌}
use Rattle.std.specs.Int.{bit_at}
use Rattle.strict_locks.specs.declared.client_set.ClientSet.{ClientSet}

-- whether the word has the bit
abbrev pub has_bit : ℕ → ℕ → Bool
has_bit word place = bit_at word place == 1

-- whether the client is in the set
unfoldable pub is_in : ClientSet → ℕ → Bool
is_in set p = if nat_lt p 128 then has_bit set.low p else (nat_lt p 256 && has_bit set.high (p - 128))

-- the numbers below n that pass the test, ascending
unfoldable pub passing_below : (ℕ → Bool) → ℕ → List ℕ
passing_below test zero = []
passing_below test (suc n) = if test n then passing_below test n ++ n ∷ [] else passing_below test n

-- the clients of the set, ascending
unfoldable pub members : ClientSet → List ℕ
members set = passing_below (is_in set) 256
