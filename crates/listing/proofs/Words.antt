-- The word that three bytes in a row hold is the word at its address.
-- Assumes nothing.
use Rattle.std.proofs.Common.{◌≡◌, ℕ, zero, suc, ◌+◌, ◌*◌, ◌<◌, List, slice_index, slice_index_or, take, drop, ap, ◌∙◌, arith, get_or-take, get_or-drop, drop-drop}
use Rattle.std.specs.Simd.{first_chunks}
use Rattle.listing.specs.Images.{word_at}

module _ (image : List ℕ) where
  -- what is left from the k-th word on
  abbrev pub left : ℕ → List ℕ
  left k = drop (3 * k) image

  pub left_next : (k : ℕ) → drop 3 (left k) ≡ left (suc k)
  left_next k = drop-drop 3 (3 * k) image ∙ ap (λ i. drop i image) (omega arith)

  byte : (k i : ℕ) → i < 3 → slice_index (take 3 (left k)) i ≡ slice_index image (3 * k + i)
  byte k i small = get_or-take 3 (left k) i 0 small ∙ get_or-drop (3 * k) image i 0

  pub word : (k : ℕ) → word_at (take 3 (left k)) 0 ≡ word_at image k
  word k =
      let high : slice_index (take 3 (left k)) (3 * 0) ≡ slice_index image (3 * k) = byte k 0 (omega arith) ∙ ap (slice_index image) (omega arith) in
      let middle : slice_index (take 3 (left k)) (3 * 0 + 1) ≡ slice_index image (3 * k + 1) = byte k 1 (omega arith) in
      let low : slice_index (take 3 (left k)) (3 * 0 + 2) ≡ slice_index image (3 * k + 2) = byte k 2 (omega arith) in
      omega arith

  after : (k n i : ℕ) (d : List ℕ) → i < n → slice_index_or (first_chunks 3 n (left k)) i d ≡ take 3 (left (k + i))
  after k zero i d small = elim small [ ]
  after k (suc n) zero d small = ap (λ j. take 3 (left j)) (omega arith)
  after k (suc n) (suc i) d small = ap (λ bytes. slice_index_or (first_chunks 3 n bytes) i d) (left_next k) ∙ after (suc k) n i d (omega arith) ∙ ap (λ j. take 3 (left j)) (omega arith)

  pub word_of_chunk : (n i : ℕ) (d : List ℕ) → i < n → word_at (slice_index_or (first_chunks 3 n image) i d) 0 ≡ word_at image i
  word_of_chunk n i d small = ap (λ bytes. word_at bytes 0) (after 0 n i d small) ∙ word (0 + i) ∙ ap (word_at image) (omega arith)
