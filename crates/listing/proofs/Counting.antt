-- Counted over the words one by one, as many are no instructions as are counted by their addresses.
-- Assumes nothing.
use Rattle.std.proofs.Common.{◌≡◌, ℕ, zero, suc, ◌+◌, ◌/◌, cond, List, length, take, drop, Ok, Err, Result, is_ok, is_err, refl, ap, ◌∙◌, arith}
use Rattle.std.proofs.lemmas.List.Sums.{sum_by-cons}
use Rattle.std.specs.List.{count_by}
use Rattle.std.specs.Simd.{first_chunks}
use Rattle.words.specs.Decoding.{decoded}
use Rattle.words.specs.declared.errors.DecodeError.{DecodeError}
use Rattle.words.specs.declared.instructions.Instruction.{Instruction}
use Rattle.listing.specs.Images.{word_at, refusals, refused_below}
use Rattle.listing.proofs.Words.{left, left_next, word}

one : (r : Result Instruction DecodeError) → ◌≡◌ {A = ℕ} (cond (is_err r) 1 0) (cond (is_ok r) 0 1)
one (Ok i) = refl
one (Err e) = refl

module _ (image : List ℕ) where
  abbrev count : List (List ℕ) → ℕ
  count words = count_by (λ bytes. is_err (decoded (word_at bytes 0))) words

  from : (k n : ℕ) → refused_below image k + count (first_chunks 3 n (left image k)) ≡ refused_below image (k + n)
  from k zero =
      let same : refused_below image (k + 0) ≡ refused_below image k = ap (refused_below image) (omega arith) in
      omega arith
  from k (suc n) =
      let this = one (decoded (word_at (take 3 (left image k)) 0)) ∙ ap refusals (word image k) in
      let rest = ap (λ bytes. count (first_chunks 3 n bytes)) (left_next image k) in
      let all = sum_by-cons (λ bytes. cond (is_err (decoded (word_at bytes 0))) 1 0) (take 3 (left image k)) (first_chunks 3 n (drop 3 (left image k))) in
      let later = from (suc k) n in
      let same : refused_below image (suc k + n) ≡ refused_below image (k + suc n) = ap (refused_below image) (omega arith) in
      omega arith

pub counted : (image : List ℕ) → count_by (λ bytes. is_err (decoded (word_at bytes 0))) (first_chunks 3 (length image / 3) image) ≡ refused_below image (length image / 3)
counted image =
    let all : 0 + count image (first_chunks 3 (length image / 3) image) ≡ refused_below image (0 + length image / 3) = from image 0 (length image / 3) in
    let same : refused_below image (0 + length image / 3) ≡ refused_below image (length image / 3) = ap (refused_below image) (omega arith) in
    omega arith
