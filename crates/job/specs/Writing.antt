-- A job as one writes it down, part after part. `Jobs` says how it is read.
-- Assumes nothing.
use Rattle.std.specs.Prelude.{ℕ, ◌/◌, ◌%◌, List, [], ◌∷◌, ◌++◌, length}
use Rattle.std.specs.List.{flat_map}
use Rattle.platform.specs.Stores.{listed}
use Rattle.platform.specs.declared.description.CoreDescription.{CoreDescription}
use Rattle.admission.specs.Program.{Program, program}

-- high byte first
abbrev pub two_bytes : ℕ → List ℕ
two_bytes x = x / 256 ∷ x % 256 ∷ []

abbrev pub three_bytes : ℕ → List ℕ
three_bytes w = w / 256 / 256 ∷ w / 256 % 256 ∷ w % 256 ∷ []

abbrev pub describes : ℕ → ℕ → ℕ → ℕ → CoreDescription
describes depth v0 v1 v2 = record { depth = depth; vectors = v0 ∷ v1 ∷ v2 ∷ [] }

-- the header; the words; the depth table; the lines
abbrev pub written : ℕ → ℕ → ℕ → ℕ → List ℕ → List ℕ → List ℕ → List ℕ
written depth v0 v1 v2 words T L =
    (two_bytes (length words) ++ (two_bytes depth ++ (two_bytes v0 ++ (two_bytes v1 ++ (two_bytes v2 ++ two_bytes (length T))))))
    ++ (flat_map three_bytes words ++ (flat_map two_bytes T ++ flat_map two_bytes L))

abbrev pub meant : ℕ → ℕ → ℕ → ℕ → List ℕ → List ℕ → List ℕ → Program
meant depth v0 v1 v2 words T L = program (describes depth v0 v1 v2) (length words) (listed words) T L
