-- Fields of a word, by quotient and remainder. Bit 0 is the lowest.
-- Assumes nothing.
use Rattle.std.specs.Prelude.{ℕ, ◌-◌, ◌/◌, ◌%◌, ◌^◌, Bool, ◌==◌}

-- the lowest n bits of w
abbrev pub low : ℕ → ℕ → ℕ
low w n = w % 2 ^ n

-- the n bits of w from bit i upward
abbrev pub bits : ℕ → ℕ → ℕ → ℕ
bits w i n = w / 2 ^ i % 2 ^ n

-- the same two, with each bit inverted
abbrev pub inverted : ℕ → ℕ → ℕ
inverted w n = 2 ^ n - 1 - low w n

abbrev pub inverted_bits : ℕ → ℕ → ℕ → ℕ
inverted_bits w i n = 2 ^ n - 1 - bits w i n

-- the field x of n bits is all ones
abbrev pub ones : ℕ → ℕ → Bool
ones x n = x == 2 ^ n - 1
