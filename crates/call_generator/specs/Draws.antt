-- Draws from a sequence of numbers.
use Rattle.std.specs.Prelude.{ℕ, ◌+◌, ◌*◌, ◌^◌, ◌/◌, ◌%◌}

-- the number after a number of the sequence
unfoldable pub next_number : ℕ → ℕ
next_number number = (number * 6364136223846793005 + 1442695040888963407) % 2 ^ 64

-- what a number of the sequence draws, below a limit
unfoldable pub drawn : ℕ → ℕ → ℕ
drawn number below = number / 2 ^ 33 % below
