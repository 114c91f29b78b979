-- What the tests of stores promise, and what a store has that passed one.
-- Assumes nothing.
use Rattle.std.proofs.Common.{◌≡◌, ℕ, ◌/◌, ◌^◌, ◌<◌, ◌≤◌, Bool, true, false, cond, leb, List, length, is_ok, Some, None, Err, Decides, Option, Result, sym, refl, ap, ◌∙◌, subst, ⊎_elim, arith}
use borrow.Author.Tests.{clash}
use Rattle.std.proofs.lemmas.Bool.{leb-true, leb-false, le-leb, lt-leb, cases_lt}
use Rattle.std.proofs.lemmas.Option.{some_pair_parts}
use Rattle.platform.specs.Stores.{first_wide, wide_refusal, tested_if, listed, words_tested, formed, Reading, tested_by, bytes_tested, store_refusal, Narrow, Tests, InRange, InRangeOf3, IsReading}
use Rattle.platform.specs.declared.errors.StoreError.{StoreError}
use Rattle.platform.specs.declared.errors.StoreError.TheVariants.{Size}
use Rattle.platform.specs.Readings.{reads_words, reads_bytes}
use Rattle.platform.proofs.Search.{none_gives, some_gives, some_from}

abbrev Answer : Type 0
Answer = Result (Unit {0}) StoreError

module _ (n : ℕ) (word : ℕ → ℕ) where
  abbrev wide : ℕ → Bool
  wide a = leb (2 ^ 22) (word a)

  none_narrow : first_wide word n ≡ None → Narrow word n
  none_narrow e a lt = leb-false (2 ^ 22) (word a) (none_gives wide n e a lt)

  module _ {Fits : Type 0} where
    -- by what the test of the count said, and by the first wide number
    tests_at : (b : Bool) → Decides b Fits → (o : Option ℕ) → first_wide word n ≡ o → Tests Fits n word (cond b (wide_refusal o) (Err Size))
    tests_at false d o at = record {
      passes = (λ e. grind arith, λ h. absurd (clash (d.1 h.0)));
      size = (λ e h. clash (d.1 h), λ no. refl);
      wide = λ p. (λ e. grind arith, λ h. absurd (clash (d.1 h.0)));
    }
    tests_at true d None at = record {
      passes = (λ e. (d.0 refl, none_narrow at), λ h. refl);
      size = (λ e. grind arith, λ no. absurd (no (d.0 refl)));
      wide = λ p. (λ e. grind arith, λ h. let lt = none_narrow at p h.1 in let ge = h.3 in absurd (omega arith));
    }
    tests_at true d (Some a) at =
        let got = some_gives wide n a at in
        record {
          passes = (λ e. grind arith, λ h. let lt = h.1 a got.0 in let ge = leb-true (2 ^ 22) (word a) got.2 in absurd (omega arith));
          size = (λ e. grind arith, λ no. absurd (no (d.0 refl)));
          wide = λ p. (
            λ e. subst (λ q. Fits × (q < n) × Narrow word q × (2 ^ 22 ≤ word q)) (some_pair_parts 30 30 a p e).1 (d.0 refl, got.0, (λ k lt. leb-false (2 ^ 22) (word k) (got.1 k lt)), leb-true (2 ^ 22) (word a) got.2),
            λ h. ap (λ o. store_refusal (wide_refusal o)) (sym at ∙ some_from wide p n h.1 (λ k lt. lt-leb (2 ^ 22) (word k) (h.2 k lt)) (le-leb (2 ^ 22) (word p) h.3)),
          );
        }

    pub tests : (b : Bool) → Decides b Fits → Tests Fits n word (tested_if b n word)
    tests b d = tests_at b d (first_wide word n) refl

-- whatever the reading, the test promises the same
pub tested_as : {how : Reading} {Fits : List ℕ → Type 0} → IsReading how Fits → (xs : List ℕ) (r : Answer) → r ≡ tested_by how xs → Tests (Fits xs) (how.count xs) (how.number xs) r
tested_as {how} {Fits} is xs r e = subst (Tests (Fits xs) (how.count xs) (how.number xs)) (sym e) (tests (how.count xs) (how.number xs) _ (is.fits xs))

passed : (n : ℕ) (word : ℕ → ℕ) (fits : Bool) → is_ok (tested_if fits n word) ≡ true → Narrow word n
passed n word false e = absurd (clash e)
passed n word true e = by (first_wide word n) refl e
  where
    by : (o : Option ℕ) → first_wide word n ≡ o → is_ok (wide_refusal o) ≡ true → Narrow word n
    by None at e = none_narrow n word at
    by (Some a) at e = absurd (clash e)

-- what passed its test is narrow everywhere
pub narrow : {how : Reading} {Fits : List ℕ → Type 0} → IsReading how Fits → (xs : List ℕ) → is_ok (tested_by how xs) ≡ true → (a : ℕ) → how.number xs a < 2 ^ 22
narrow {how} is xs e a = ⊎_elim (passed _ (how.number xs) _ e a) (λ ge. let z = is.outside xs a ge in omega arith) (cases_lt a (how.count xs))

pub tested_words : (words : List ℕ) (r : Answer) → r ≡ words_tested words → Tests (InRange (length words)) (length words) (listed words) r
tested_words = tested_as reads_words

pub tested_bytes : (bytes : List ℕ) (r : Answer) → r ≡ bytes_tested bytes → Tests (InRangeOf3 bytes) (length bytes / 3) (formed bytes) r
tested_bytes = tested_as reads_bytes
