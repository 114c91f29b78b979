-- What a store means, and what it can be made from.
-- Assumes nothing.
use Rattle.std.specs.Prelude.{◌≡◌, ℕ, ◌+◌, ◌-◌, ◌*◌, ◌/◌, ◌%◌, ◌^◌, ◌<◌, ◌≤◌, Bool, cond, ◌&&◌, leb, ◌↔◌, List, [], ◌∷◌, length, drop, is_ok, Some, None, Ok, Err, Option, Result, Decides, true, ◌==◌, nat_le, nat_lt, slice_index}
use Rattle.platform.specs.Lowest.{lowest}
use Rattle.platform.specs.Refusals.{store_log}
use Rattle.platform.specs.declared.errors.StoreError.{StoreError}
use Rattle.platform.specs.declared.errors.StoreError.TheVariants.{Size, WideWord}

-- a store has 1 to 8,192 words
abbrev pub count_fits : ℕ → Bool
count_fits n = nat_le 1 n && nat_le n 8192

-- the lowest address whose number has more than 22 bits
abbrev pub first_wide : (ℕ → ℕ) → ℕ → Option ℕ
first_wide word n = lowest (λ a. leb (2 ^ 22) (word a)) n

abbrev pub wide_refusal : Option ℕ → Result (Unit {0}) StoreError
wide_refusal None = Ok tt
wide_refusal (Some a) = Err (WideWord a)

-- what the test of n numbers answers, by whether their count is in range
abbrev pub tested_if : Bool → ℕ → (ℕ → ℕ) → Result (Unit {0}) StoreError
tested_if fits n word = cond fits (wide_refusal (first_wide word n)) (Err Size)

abbrev pub tested : ℕ → (ℕ → ℕ) → Result (Unit {0}) StoreError
tested n word = tested_if (count_fits n) n word

-- a list of numbers, one to a word
abbrev pub listed : List ℕ → ℕ → ℕ
listed words a = slice_index words a

abbrev pub words_tested : List ℕ → Result (Unit {0}) StoreError
words_tested words = tested (length words) (listed words)

-- the number of three bytes, highest first
abbrev pub big_endian : List ℕ → ℕ
big_endian bytes = slice_index bytes 0 * 2 ^ 16 + slice_index bytes 1 * 2 ^ 8 + slice_index bytes 2

-- three bytes to a word; bytes left over make none
abbrev pub formed : List ℕ → ℕ → ℕ
formed bytes a = cond (nat_lt a (length bytes / 3)) (big_endian (drop (3 * a) bytes)) 0

-- how a list of numbers is read as words
pub record Reading : Type 0 where
  -- whether nothing is left over
  pub whole : List ℕ → Bool
  pub count : List ℕ → ℕ
  pub number : List ℕ → ℕ → ℕ
  -- what is read as the one word 0
  pub blank : List ℕ

-- how many words there are, where nothing is left over
abbrev pub count_read : Reading → List ℕ → Option ℕ
count_read how xs = cond (how.whole xs) (Some (how.count xs)) None

abbrev pub tested_by : Reading → List ℕ → Result (Unit {0}) StoreError
tested_by how xs = tested_if (how.whole xs && count_fits (how.count xs)) (how.count xs) (how.number xs)

-- Making refuses nothing: what the test turns down makes the one word 0.
abbrev pub used_by : Reading → List ℕ → List ℕ
used_by how xs = cond (is_ok (tested_by how xs)) xs how.blank

abbrev pub one_to_a_word : Reading
one_to_a_word = record { whole = λ words. true; count = length; number = listed; blank = 0 ∷ [] }

abbrev pub three_to_a_word : Reading
three_to_a_word = record { whole = λ bytes. length bytes % 3 == 0; count = λ bytes. length bytes / 3; number = formed; blank = 0 ∷ 0 ∷ 0 ∷ [] }

abbrev pub bytes_tested : List ℕ → Result (Unit {0}) StoreError
bytes_tested bytes = tested_by three_to_a_word bytes

abbrev pub used_words : List ℕ → List ℕ
used_words words = used_by one_to_a_word words

abbrev pub used_bytes : List ℕ → List ℕ
used_bytes bytes = used_by three_to_a_word bytes

-- two stores of m and n words, joined end to end
abbrev pub join_tested : ℕ → ℕ → Result (Unit {0}) StoreError
join_tested m n = cond (count_fits (m + n)) (Ok tt) (Err Size)

abbrev pub joined_count : ℕ → ℕ → ℕ
joined_count m n = cond (count_fits (m + n)) (m + n) 1

abbrev pub joined_word : ℕ → (ℕ → ℕ) → ℕ → (ℕ → ℕ) → ℕ → ℕ
joined_word m first n second a = cond (count_fits (m + n)) (cond (nat_lt a m) (first a) (second (a - m))) 0

-- What the tests promise, whatever way they go about it.

-- the log number and the place of an answer that is a refusal
abbrev pub store_refusal : Result (Unit {0}) StoreError → Option (ℕ × ℕ)
store_refusal (Ok u) = None
store_refusal (Err e) = Some (store_log e)

abbrev pub Narrow : (ℕ → ℕ) → ℕ → Type 0
Narrow word n = (a : ℕ) → a < n → word a < 2 ^ 22

-- r judges n numbers, where Fits says that there are as many as a store has
pub record Tests (Fits : Type 0) (n : ℕ) (word : ℕ → ℕ) (r : Result (Unit {0}) StoreError) : Type 0 where
  pub passes : (r ≡ Ok tt) ↔ (Fits × Narrow word n)
  pub size : (store_refusal r ≡ Some (29, 0)) ↔ (Fits → ⊥)
  -- the lowest address whose number is too wide
  pub wide : (p : ℕ) → (store_refusal r ≡ Some (30, p)) ↔ (Fits × (p < n) × Narrow word p × (2 ^ 22 ≤ word p))

abbrev pub InRange : ℕ → Type 0
InRange n = (1 ≤ n) × (n ≤ 8192)

-- r judges whether two stores, which have n words together, are one store
pub record TestsJoin (n : ℕ) (r : Result (Unit {0}) StoreError) : Type 0 where
  pub passes : (r ≡ Ok tt) ↔ InRange n
  pub size : (store_refusal r ≡ Some (29, 0)) ↔ (InRange n → ⊥)

-- the bytes are a whole number of words
abbrev pub InRangeOf3 : List ℕ → Type 0
InRangeOf3 bytes = (n : ℕ) × (length bytes ≡ 3 * n) × InRange n

-- Fits says which lists are as many words as a store has
pub record IsReading (how : Reading) (Fits : List ℕ → Type 0) : Type 0 where
  pub fits : (xs : List ℕ) → Decides (how.whole xs && count_fits (how.count xs)) (Fits xs)
  pub outside : (xs : List ℕ) (a : ℕ) → how.count xs ≤ a → how.number xs a ≡ 0
  pub blank_passes : is_ok (tested_by how how.blank) ≡ true
  pub blank_count : how.count how.blank ≡ 1
  pub blank_word : how.number how.blank 0 ≡ 0
