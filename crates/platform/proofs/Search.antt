-- The lowest number that a test takes is what any search finds that goes up from 0.
-- Assumes nothing.
use Rattle.std.proofs.Common.{◌≡◌, ℕ, zero, suc, ◌+◌, ◌<◌, ◌≤◌, Bool, true, false, cond, Some, None, Option, IfSome, MatchOption, sym, refl, ap, ◌∙◌, ⊎_elim, not-suc-le-zero, add-one, arith}
use borrow.Author.Tests.{clash}
use Rattle.std.proofs.lemmas.Bool.{cases_order}
use Rattle.std.proofs.lemmas.Option.{MatchOption-at_some, MatchOption-at_none}
use Rattle.platform.specs.Lowest.{or_else, lowest}

module _ (test : ℕ → Bool) where
  -- what the answer of a search below n says of the numbers
  abbrev Searched : ℕ → Option ℕ → Type 0
  Searched n r = MatchOption r ((k : ℕ) → k < n → test k ≡ false) (λ i. (i < n) × ((j : ℕ) → j < i → test j ≡ false) × (test i ≡ true))

  searched : (n : ℕ) → Searched n (lowest test n)
  searched zero = λ k lt. absurd (not-suc-le-zero lt)
  searched (suc n) = by (lowest test n) (test n) refl (searched n)
    where
      by : (o : Option ℕ) (b : Bool) → test n ≡ b → Searched n o → Searched (suc n) (or_else o (cond b (Some n) None))
      by (Some i) b here before = (let lt = before.0 in omega arith, before.1, before.2)
      by None true here before = (omega arith, before, here)
      by None false here before = λ k lt. ⊎_elim (λ same. ap test same ∙ here) (⊎_elim (before k) (λ more. absurd (omega arith))) (cases_order k n)

  -- two searches answer the same
  same : (n : ℕ) (o r : Option ℕ) → Searched n o → Searched n r → o ≡ r
  same n None None p q = refl
  same n None (Some j) p q = absurd (clash (sym (p j q.0) ∙ q.2))
  same n (Some i) None p q = absurd (clash (sym (q i p.0) ∙ p.2))
  same n (Some i) (Some j) p q =
      ⊎_elim (λ e. ap Some e) (⊎_elim (λ less. absurd (clash (sym (q.1 i less) ∙ p.2))) (λ more. absurd (clash (sym (p.1 j more) ∙ q.2)))) (cases_order i j)

  -- what a search that found nothing passed
  pub none_gives : (n : ℕ) → lowest test n ≡ None → (k : ℕ) → k < n → test k ≡ false
  none_gives n e = MatchOption-at_none _ _ e (searched n)

  -- what a search that found k passed, and what it took
  pub some_gives : (n k : ℕ) → lowest test n ≡ Some k → (k < n) × ((j : ℕ) → j < k → test j ≡ false) × (test k ≡ true)
  some_gives n k e = MatchOption-at_some _ _ k e (searched n)

  pub none_from : (n : ℕ) → ((k : ℕ) → k < n → test k ≡ false) → lowest test n ≡ None
  none_from n each = same n (lowest test n) None (searched n) each

  pub some_from : (k n : ℕ) → k < n → ((j : ℕ) → j < k → test j ≡ false) → test k ≡ true → lowest test n ≡ Some k
  some_from k n lt before here = same n (lowest test n) (Some k) (searched n) (lt, before, here)

  -- none below n, and none at n
  pub none_more : (n : ℕ) → lowest test n ≡ None → test n ≡ false → lowest test (n + 1) ≡ None
  none_more n before here = rw (add-one, before, here)

  -- the first that the test takes stays the lowest, however far the search goes on
  pub found : (k n : ℕ) → k < n → lowest test k ≡ None → test k ≡ true → lowest test n ≡ Some k
  found k n lt before here = some_from k n lt (none_gives k before) here

  -- what `find` over the numbers below n answers
  pub found_below : (n : ℕ) (r : Option ℕ) → MatchOption r ((k : ℕ) → 0 ≤ k → k < n → test k ≡ false) (λ i. (0 ≤ i) × (i < n) × (test i ≡ true) × ((k : ℕ) → 0 ≤ k → k < i → test k ≡ false)) → (r ≡ lowest test n) × IfSome r (λ i. i < n)
  found_below n None none = (sym (none_from n (λ k lt. none k (omega arith) lt)), tt)
  found_below n (Some i) some = (sym (some_from i n some.1 (λ j lt. some.3 j (omega arith) lt) some.2), some.1)
