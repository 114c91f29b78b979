-- The text of the lines of a listing.
-- Assumes nothing.
use Rattle.std.specs.Prelude.{ℕ, zero, suc, ◌/◌, List, [], ◌++◌, length, codes, decimal, Ok, Err, Result}
use Rattle.words.specs.Decoding.{decoded}
use Rattle.words.specs.Notation.{hexadecimal, instruction_text}
use Rattle.words.specs.Refusals.{decode_error_text}
use Rattle.words.specs.declared.errors.DecodeError.{DecodeError}
use Rattle.words.specs.declared.instructions.Instruction.{Instruction}
use Rattle.listing.specs.Images.{word_at, ending_of}
use Rattle.listing.specs.Refusals.{image_number, image_place}
use Rattle.listing.specs.declared.errors.ImageError.{ImageError}
use Rattle.listing.specs.declared.lines.Line.{Line}
use Rattle.listing.specs.declared.tallies.Tally.{Tally}

-- the instruction, or the refusal
abbrev pub reading_text : Result Instruction DecodeError → List ℕ
reading_text (Ok instruction) = instruction_text instruction
reading_text (Err error) = decode_error_text error

-- the address and the word in hexadecimal, and what the word reads as
abbrev pub line_text : Line → List ℕ
line_text line = hexadecimal 4 line.address ++ codes " " ++ hexadecimal 6 line.word ++ codes " " ++ reading_text (decoded line.word)

-- numbers are decimal
abbrev pub tally_text : Tally → List ℕ
tally_text tally = decimal tally.words ++ codes " words, " ++ decimal tally.refused ++ codes " refused"

abbrev pub error_text : ImageError → List ℕ
error_text error = codes "refused " ++ decimal (image_number error) ++ codes " at " ++ decimal (image_place error)

-- the lines of the first n words
abbrev pub lines_text : List ℕ → ℕ → List ℕ
lines_text image zero = []
lines_text image (suc n) = lines_text image n ++ (line_text (record { address = n; word = word_at image n }) ++ codes "\n")

abbrev pub ending_text : Result Tally ImageError → List ℕ
ending_text (Ok tally) = tally_text tally
ending_text (Err error) = error_text error

-- a line for each word, and the last line
abbrev pub listing_text : List ℕ → List ℕ
listing_text image = lines_text image (length image / 3) ++ (ending_text (ending_of image) ++ codes "\n")
