-- The depth table, number by number, and the lines of the words.
-- Assumes nothing.
use Rattle.std.specs.Prelude.{ℕ, ◌-◌, ◌*◌, ◌/◌, ◌%◌, cond, List, length, Some, None, Option, ◌==◌, slice_index}
use Rattle.admission.specs.declared.kinds.Kind.{Kind}
use Rattle.admission.specs.declared.kinds.Kind.TheVariants.{Background, Quiet, Interrupt, Open}

-- how many records a table of 4 R + 1 numbers has
abbrev pub records : List ℕ → ℕ
records T = length T / 4

-- record k takes four numbers, up to the one at 4 k: its entry, its kind, its need, and the index of the next record
abbrev pub entry : List ℕ → ℕ → ℕ
entry T k = slice_index T (4 * k - 3)

abbrev pub kind_of : ℕ → Option Kind
kind_of n = cond (n == 1) (Some Background) (cond (n == 2) (Some Quiet) (cond (n == 3) (Some Interrupt) (cond (n == 4) (Some Open) None)))

abbrev pub kind : List ℕ → ℕ → Option Kind
kind T k = kind_of (slice_index T (4 * k - 2))

-- the most stack words that the routine and its calls use
abbrev pub need : List ℕ → ℕ → ℕ
need T k = slice_index T (4 * k - 1)

-- the number before all records names the first one, as if it were the next of a record 0
abbrev pub next : List ℕ → ℕ → ℕ
next T k = slice_index T (4 * k)

-- the line of a word: 32 times the index of the routine that owns it, and the height of that routine's own words on the
-- stack before it; 0 for a word that is never run
abbrev pub line : List ℕ → ℕ → ℕ
line L a = slice_index L a

abbrev pub owner : List ℕ → ℕ → ℕ
owner L a = line L a / 32

abbrev pub height : List ℕ → ℕ → ℕ
height L a = line L a % 32
