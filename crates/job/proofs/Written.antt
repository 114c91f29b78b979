-- What is read from a job is what was written.
-- Assumes nothing.
use Rattle.std.proofs.Common.{◌≡◌, ℕ, zero, suc, ◌*◌, ◌/◌, ◌<◌, List, [], ◌∷◌, ◌++◌, length, map, get_or, take, drop, sym, refl, ap, ◌∙◌, not-suc-le-zero, arith}
use mathlib.Core.Path.{fun_ext}
use Rattle.std.proofs.lemmas.List.{take_at, drop_at, drop-drop, get_or_past}
use Rattle.std.proofs.lemmas.Bool.Decides.{nat_tests}
use Rattle.std.specs.Int.{w16, from_be_bytes}
use Rattle.std.specs.List.{flat_map}
use Rattle.std.specs.Simd.{first_chunks}
use Rattle.platform.specs.Stores.{listed, big_endian, formed}
use Rattle.admission.specs.Program.{program}
use Rattle.job.specs.Jobs.{number_at, numbers, word_count, table_count, table_start, description_in, word_bytes, table_bytes, line_bytes, program_of}
use Rattle.job.specs.Laws.{ReadsBack}
use Rattle.job.specs.Writing.{two_bytes, three_bytes, describes, written, meant}
use Rattle.job.proofs.Pairs.{numbers_from_pairs}

long_two : (xs : List ℕ) → length (flat_map two_bytes xs) ≡ 2 * length xs
long_two [] = refl
long_two (x ∷ xs) = let rest = long_two xs in omega arith

long_three : (xs : List ℕ) → length (flat_map three_bytes xs) ≡ 3 * length xs
long_three [] = refl
long_three (x ∷ xs) = let rest = long_three xs in omega arith

-- read in pairs, two bytes to a number are that number
pairs_back : (xs : List ℕ) → map (from_be_bytes w16) (first_chunks 2 (length xs) (flat_map two_bytes xs)) ≡ xs
pairs_back [] = refl
pairs_back (x ∷ xs) = let first : from_be_bytes w16 (two_bytes x) ≡ x = omega arith in cc (pairs_back xs)

numbers_back : (xs : List ℕ) → numbers (flat_map two_bytes xs) ≡ xs
numbers_back xs = let half : length (flat_map two_bytes xs) / 2 ≡ length xs = omega (arith, long_two xs) in cc (numbers_from_pairs (flat_map two_bytes xs), pairs_back xs)

word_back : (xs : List ℕ) (k : ℕ) → k < length xs → big_endian (drop (3 * k) (flat_map three_bytes xs)) ≡ get_or xs k 0
word_back [] k lt = absurd (not-suc-le-zero lt)
word_back (x ∷ xs) zero lt = omega arith
word_back (x ∷ xs) (suc k) lt =
    let three : 3 * suc k ≡ suc (suc (suc (3 * k))) = omega arith in
    ap (λ j. big_endian (drop j (flat_map three_bytes (x ∷ xs)))) three ∙ word_back xs k (omega arith)

words_back : (xs : List ℕ) (a : ℕ) → formed (flat_map three_bytes xs) a ≡ listed xs a
words_back xs a = grind (arith, nat_tests, long_three xs, word_back xs a, get_or_past xs a 0)

module _ (depth v0 v1 v2 : ℕ) (words T L : List ℕ) where
  abbrev job : List ℕ
  job = written depth v0 v1 v2 words T L

  abbrev W : List ℕ
  W = flat_map three_bytes words

  abbrev TT : List ℕ
  TT = flat_map two_bytes T

  abbrev LL : List ℕ
  LL = flat_map two_bytes L

  words_counted : word_count job ≡ length words
  words_counted = omega arith

  numbers_counted : table_count job ≡ length T
  numbers_counted = omega arith

  described : description_in job ≡ describes depth v0 v1 v2
  described =
      let d : number_at job 2 ≡ depth = omega arith in
      let e0 : number_at job 4 ≡ v0 = omega arith in
      let e1 : number_at job 6 ≡ v1 = omega arith in
      let e2 : number_at job 8 ≡ v2 = omega arith in
      λ i. record { depth = d i; vectors = e0 i ∷ e1 i ∷ e2 i ∷ [] }

  word_part : word_bytes job ≡ W
  word_part =
      let n = words_counted in
      let long = long_three words in
      take_at W (TT ++ LL) (3 * word_count job) (omega arith)

  after_words : drop (table_start job) job ≡ TT ++ LL
  after_words =
      let n = words_counted in
      let long = long_three words in
      sym (drop-drop (3 * word_count job) 12 job) ∙ drop_at W (TT ++ LL) (3 * word_count job) (omega arith)

  table_part : table_bytes job ≡ TT
  table_part =
      let n = numbers_counted in
      let long = long_two T in
      ap (take (2 * table_count job)) after_words ∙ take_at TT LL (2 * table_count job) (omega arith)

  line_part : line_bytes job ≡ LL
  line_part =
      let n = numbers_counted in
      let long = long_two T in
      sym (drop-drop (2 * table_count job) (table_start job) job) ∙ ap (drop (2 * table_count job)) after_words ∙ drop_at TT LL (2 * table_count job) (omega arith)

  read_back : program_of job ≡ meant depth v0 v1 v2 words T L
  read_back =
      let word : formed (word_bytes job) ≡ listed words = ap formed word_part ∙ fun_ext (words_back words) in
      let table = ap numbers table_part ∙ numbers_back T in
      let lines = ap numbers line_part ∙ numbers_back L in
      λ i. program (described i) (words_counted i) (word i) (table i) (lines i)

pub reads_back : (given : List ℕ) → ReadsBack given
reads_back given depth v0 v1 v2 words T L e = ap program_of e ∙ read_back depth v0 v1 v2 words T L
