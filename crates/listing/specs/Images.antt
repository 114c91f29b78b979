-- What a program image holds, and what there is to say of it at the end.
-- Assumes nothing.
use Rattle.std.specs.Prelude.{ℕ, zero, suc, ◌+◌, ◌*◌, ◌/◌, ◌%◌, ◌^◌, cond, List, length, Ok, Err, Result, is_ok, ◌==◌, ◌≢◌, slice_index}
use Rattle.words.specs.Decoding.{decoded}
use Rattle.listing.specs.declared.errors.ImageError.{ImageError}
use Rattle.listing.specs.declared.errors.ImageError.TheVariants.{LeftOver}
use Rattle.listing.specs.declared.tallies.Tally.{Tally}

-- three bytes to a word, highest byte first
abbrev pub word_at : List ℕ → ℕ → ℕ
word_at image address = slice_index image (3 * address) * 2 ^ 16 + slice_index image (3 * address + 1) * 2 ^ 8 + slice_index image (3 * address + 2)

-- 1 for a number that is no instruction, and 0 for one that is
abbrev pub refusals : ℕ → ℕ
refusals w = cond (is_ok (decoded w)) 0 1

-- how many of the first n words are no instructions
abbrev pub refused_below : List ℕ → ℕ → ℕ
refused_below image zero = 0
refused_below image (suc n) = refused_below image n + refusals (word_at image n)

-- the words of the image, and how many of them are no instructions
abbrev pub tally_of : List ℕ → Tally
tally_of image = record {
  words = length image / 3;
  refused = refused_below image (length image / 3);
}

abbrev pub ending_of : List ℕ → Result Tally ImageError
ending_of image = cond (length image % 3 == 0) (Ok (tally_of image)) (Err LeftOver)

-- the bytes are no whole number of words
abbrev pub Uneven : List ℕ → Type 0
Uneven image = (words : ℕ) → length image ≢ 3 * words
