-- The two readings keep the laws of a reading.
-- Assumes nothing.
use Rattle.std.proofs.Common.{◌≡◌, ℕ, ◌/◌, ◌%◌, ◌&&◌, eqb, leb, List, length, Decides, refl, subst, arith}
use Rattle.std.proofs.lemmas.Bool.{leb-true, le-leb, cond-false, le-ltb}
use Rattle.std.proofs.lemmas.Bool.Decides.{Decides-eqb, Decides-like, Decides-and}
use Rattle.std.proofs.lemmas.List.{get_or_past}
use Rattle.platform.specs.Stores.{count_fits, one_to_a_word, three_to_a_word, InRange, InRangeOf3, IsReading}

pub in_range : (n : ℕ) → Decides (count_fits n) (InRange n)
in_range n = Decides-and (leb 1 n) (leb n 8192) (leb-true 1 n, le-leb 1 n) (leb-true n 8192, le-leb n 8192)

pub in_range_of_3 : (bytes : List ℕ) → Decides (eqb (length bytes % 3) 0 && count_fits (length bytes / 3)) (InRangeOf3 bytes)
in_range_of_3 bytes =
    let n = length bytes / 3 in
    let parts = Decides-and (eqb (length bytes % 3) 0) (count_fits n) (Decides-eqb (length bytes % 3) 0) (in_range n) in
    Decides-like _ (λ p. let whole = p.0 in (n, omega arith, p.1)) (λ h. let whole = h.1 in let same : h.0 ≡ n = omega arith in (omega arith, subst InRange same h.2)) parts

pub reads_words : IsReading one_to_a_word (λ words. InRange (length words))
reads_words = record {
  fits = λ words. in_range (length words);
  outside = λ words a ge. get_or_past words a 0 ge;
  blank_passes = refl;
  blank_count = refl;
  blank_word = refl;
}

pub reads_bytes : IsReading three_to_a_word InRangeOf3
reads_bytes = record {
  fits = in_range_of_3;
  outside = λ bytes a ge. cond-false _ _ _ (le-ltb a (length bytes / 3) ge);
  blank_passes = refl;
  blank_count = refl;
  blank_word = refl;
}
