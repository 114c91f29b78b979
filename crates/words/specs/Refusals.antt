-- The number and the place under which a refusal is logged. A word or an instruction by itself has no place, so it is 0.
-- Assumes nothing.
use Rattle.std.specs.Prelude.{ℕ, List, ◌++◌, codes, decimal}
use Rattle.words.specs.declared.errors.DecodeError.{DecodeError}
use Rattle.words.specs.declared.errors.DecodeError.TheVariants.{Reserved, TooWide}
use Rattle.words.specs.declared.errors.EncodeError.{EncodeError}
use Rattle.words.specs.declared.errors.EncodeError.TheVariants.{NoSuchForm, FieldRange}

abbrev pub decode_number : DecodeError → ℕ
decode_number Reserved = 25
decode_number TooWide = 30

abbrev pub decode_log : DecodeError → ℕ × ℕ
decode_log e = (decode_number e, 0)

-- its text, where there is no place to say
abbrev pub decode_error_text : DecodeError → List ℕ
decode_error_text e = codes "refused " ++ decimal (decode_number e)

abbrev pub encode_number : EncodeError → ℕ
encode_number NoSuchForm = 31
encode_number FieldRange = 32

abbrev pub encode_log : EncodeError → ℕ × ℕ
encode_log e = (encode_number e, 0)
