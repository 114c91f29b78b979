-- What a search over the numbers from 0 on answers, said by the lowest that a test takes.
-- Assumes nothing.
use Rattle.std.proofs.Common.{◌≡◌, ℕ, ◌<◌, ◌≤◌, Bool, true, false, List, length, is_some, Some, None, Option, MatchOption, sym, refl, ap, ◌∙◌, subst, zero-add, arith, Bor}
use denote.Param.Members.{Mut}
use Rattle.std.specs.Bool.{MatchBool}
use Rattle.std.specs.Fn.{Called, CalledAt}
use Rattle.std.specs.Iterator.{FindsItem, ChecksAny}
use Rattle.std.specs.List.{AllWithin, HoldsAt, range_with_len}
use Rattle.std.specs.declared.ops.Range.{Range}
use Rattle.std.proofs.iter.Yields.{nat_range_steps}
use Rattle.std.proofs.lemmas.Bool.{false≢true}
use Rattle.std.proofs.lemmas.Iterator.{first_from_Range, cases_from_any, YieldsList-from_range}
use Rattle.std.proofs.lemmas.List.FromFn.{length-range_with_len, get_or-range_with_len}
use Rattle.platform.specs.Lowest.{lowest}
use Rattle.platform.proofs.Search.{none_from, some_from, none_gives}

module _ {F : Type 0} {s : Range ℕ} (u : Range ℕ) {f : F} (test : ℕ → Bool) (n : ℕ) where
  pub lowest_from_find : {g : Mut F (Bor ℕ × Unit {0}) Bool} (r : Option ℕ) → s ≡ record { start = 0; end = n } → FindsItem nat_range_steps g s f r u → ((x : ℕ) (b : Bool) (q : F) → CalledAt g f x b q → (q ≡ f) × (b ≡ test x)) → r ≡ lowest test n
  lowest_from_find {g} r whole ran each = by r (first_from_Range s u f r (λ k. test k ≡ true) (λ k. test k ≡ false) ran (λ x q k. sym (each x true q k).1) (λ x q k. let h = each x false q k in (h.0, sym h.1)))
    where
      low : (k : ℕ) → s.start ≤ k
      low k = omega (arith, ap (λ x. x.start) whole)

      by : (o : Option ℕ) → MatchOption o ((k : ℕ) → s.start ≤ k → k < s.end → test k ≡ false) (λ i. (s.start ≤ i) × (i < s.end) × (test i ≡ true) × ((k : ℕ) → s.start ≤ k → k < i → test k ≡ false)) → o ≡ lowest test n
      by None none = sym (none_from test n (λ k lt. none k (low k) (omega (arith, ap (λ x. x.end) whole))))
      by (Some i) (at, lt, here, before) = sym (some_from test i n (omega (arith, ap (λ x. x.end) whole)) (λ k less. before k (low k) less) here)

  pub is_some_from_any : {g : Mut F (ℕ × Unit {0}) Bool} (r : Bool) → s ≡ record { start = 0; end = n } → ChecksAny nat_range_steps g s f r u → ((x : ℕ) (b : Bool) (q : F) → Called g f (x, tt) b q → (q ≡ f) × (b ≡ test x)) → r ≡ is_some (lowest test n)
  is_some_from_any {g} r whole ran each = by r (cases_from_any u f r (λ k. test k ≡ true) (λ k. test k ≡ false) ran (YieldsList-from_range 0 n n whole (omega arith)) (λ x q k. sym (each x true q k).1) (λ x q k. let h = each x false q k in (h.0, sym h.1)))
    where
      all : List ℕ
      all = range_with_len 0 n

      by : (b : Bool) → MatchBool b ((k : ℕ) × (k < length all) × HoldsAt (λ y. test y ≡ true) all k) (AllWithin (λ y. test y ≡ false) all 0 (length all)) → b ≡ is_some (lowest test n)
      by true (k, lt, here) = some (lowest test n) refl
        where
          some : (o : Option ℕ) → lowest test n ≡ o → true ≡ is_some o
          some (Some i) e = refl
          some None e =
              let less : k < n = omega (arith, length-range_with_len 0 n) in
              absurd (false≢true (sym (none_gives test n e k less) ∙ subst (λ y. test y ≡ true) (get_or-range_with_len 0 n k 0 less ∙ zero-add k) (here 0)))
      by false none = sym (ap is_some (none_from test n (λ k lt. subst (λ y. test y ≡ false) (get_or-range_with_len 0 n k 0 lt ∙ zero-add k) (none k 0 (omega arith) (omega (arith, length-range_with_len 0 n))))))
