-- Pairs of bytes as numbers.
-- Assumes nothing.
use Rattle.std.proofs.Common.{◌≡◌, ℕ, zero, suc, ◌+◌, ◌*◌, ◌/◌, List, map, length, take, drop, refl, arith}
use Rattle.std.proofs.lemmas.Grind.{common_steps}
use Rattle.std.proofs.lemmas.List.{drop-drop}
use Rattle.std.specs.Int.{w16, from_be_bytes}
use Rattle.std.specs.List.{range_with_len}
use Rattle.std.specs.Simd.{first_chunks}
use Rattle.job.specs.Jobs.{number_at, numbers}

first_number : (a : ℕ) (bytes : List ℕ) → from_be_bytes w16 (take 2 (drop a bytes)) ≡ number_at bytes a
first_number a bytes = grind (arith, common_steps)

from_pairs : (n a : ℕ) (bytes : List ℕ) → map (from_be_bytes w16) (first_chunks 2 n (drop (2 * a) bytes)) ≡ map (λ k. number_at bytes (2 * k)) (range_with_len a n)
from_pairs zero a bytes = refl
from_pairs (suc n) a bytes =
    let next : 2 * a + 2 ≡ 2 * (a + 1) = omega arith in
    cc (first_number (2 * a) bytes, drop-drop 2 (2 * a) bytes, from_pairs n (a + 1) bytes)

pub numbers_from_pairs : (bytes : List ℕ) → map (from_be_bytes w16) (first_chunks 2 (length bytes / 2) bytes) ≡ numbers bytes
numbers_from_pairs bytes = from_pairs (length bytes / 2) 0 bytes
