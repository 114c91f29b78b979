-- Going up through the records finds just those that the chain reaches.
-- Assumes nothing.
use Rattle.std.proofs.Common.{◌≡◌, ℕ, zero, suc, ◌<◌, ◌≤◌, true, false, eqb, ltb, ◌⊎◌, List, Decides, sym, refl, ◌∙◌, subst, inl, inr, ⊎_elim, arith, rules}
use Rattle.std.proofs.lemmas.Bool.{false≢true, and_parts, and_from, and_right, or_cases, or_left, or_right, cases_eq, ltb-true, lt-ltb, eqb-true, eq-eqb, ne_eqb, cond-true, cond-false}
use Rattle.admission.specs.Chain.{OnChain, head, link, Chained, awaited, chained, on_chain, linked}
use Rattle.admission.specs.Tables.{records, next}

module _ (T : List ℕ) where
  -- one record further on, the awaited index is the same unless that record is the one
  stays_one : (m i : ℕ) → awaited T i ≡ m → (suc i ≡ m → ⊥) → awaited T (suc i) ≡ m
  stays_one m i before other = cond-false _ _ _ (ne_eqb (awaited T i) (suc i) (λ same. other (sym same ∙ before))) ∙ before

  stays : (j m i : ℕ) → awaited T j ≡ m → j ≤ i → ((x : ℕ) → j < x → x ≤ i → x ≡ m → ⊥) → awaited T i ≡ m
  stays j m zero e le other = let z : j ≡ 0 = omega arith in subst (λ k. awaited T k ≡ m) z e
  stays j m (suc i) e le other =
      ⊎_elim (λ same. subst (λ k. awaited T k ≡ m) same e)
      (λ apart. stays_one m i (stays j m i e (omega arith) (λ x lt le'. other x lt (omega arith))) (other (suc i) (omega arith) (omega arith)))
      (cases_eq j (suc i))

  -- the record before the awaited one awaits it still
  before_it : (j k i : ℕ) → awaited T j ≡ k → j < k → suc i ≡ k → awaited T i ≡ suc i
  before_it j k i e lt at = subst (λ m. awaited T i ≡ m) (sym at) (stays j k i e (omega arith) (λ x more le same. omega arith))

  at_it : (i : ℕ) → awaited T i ≡ suc i → awaited T (suc i) ≡ next T (suc i)
  at_it i e = cond-true _ _ _ (eq-eqb (awaited T i) (suc i) e)

  -- after a record of the chain, what that record names is awaited
  pub on_awaited : {k : ℕ} → OnChain T k → awaited T k ≡ next T k
  on_awaited {k} (head e) = subst (λ m. awaited T m ≡ next T m) (sym e) refl
  on_awaited {k} (link {j} on e lt le) = by k (on_awaited on) e lt
    where
      by : (m : ℕ) → awaited T j ≡ next T j → next T j ≡ m → j < m → awaited T m ≡ next T m
      by zero before e lt = absurd (omega arith)
      by (suc i) before e lt = at_it i (before_it j (suc i) i (before ∙ e) lt refl)

  on_chained : {k : ℕ} → OnChain T k → 1 ≤ k → chained T k ≡ true
  on_chained {k} (head e) some = absurd (omega arith)
  on_chained {k} (link {j} on e lt le) some = by k (on_awaited on) e lt le
    where
      by : (m : ℕ) → awaited T j ≡ next T j → next T j ≡ m → j < m → m ≤ records T → chained T m ≡ true
      by zero before e lt le = absurd (omega arith)
      by (suc i) before e lt le =
          and_from (ltb i (records T)) (eqb (awaited T i) (suc i)) (lt-ltb i (records T) (omega arith))
          (eq-eqb (awaited T i) (suc i) (before_it j (suc i) i (before ∙ e) lt refl))

  -- what is awaited was named by a record of the chain
  source : (k : ℕ) → k ≤ records T → (j : ℕ) × OnChain T j × (j ≤ k) × (awaited T k ≡ next T j)
  source zero le = (0, head refl, omega arith, refl)
  source (suc k) le = by (source k (omega arith)) (cases_eq (awaited T k) (suc k))
    where
      by : (j : ℕ) × OnChain T j × (j ≤ k) × (awaited T k ≡ next T j) → (awaited T k ≡ suc k) ⊎ (awaited T k ≡ suc k → ⊥) → (j : ℕ) × OnChain T j × (j ≤ suc k) × (awaited T (suc k) ≡ next T j)
      by (j, on, low, named) (inl same) = (suc k, link on (sym named ∙ same) (omega arith) le, omega arith, at_it k same)
      by (j, on, low, named) (inr apart) = (j, on, omega arith, cond-false _ _ _ (ne_eqb (awaited T k) (suc k) apart) ∙ named)

  chained_on : (k : ℕ) → chained T k ≡ true → Chained T k
  chained_on zero e = absurd (false≢true e)
  chained_on (suc k) e =
      let parts = and_parts (ltb k (records T)) (eqb (awaited T k) (suc k)) e in
      let lt = ltb-true k (records T) parts.0 in
      let from = source k (omega arith) in
      (link from.1 (sym from.3 ∙ eqb-true (awaited T k) (suc k) parts.1) (omega arith) lt, omega arith)

  pub decides_chained : (k : ℕ) → Decides (chained T k) (Chained T k)
  decides_chained k = (chained_on k, λ h. on_chained h.0 h.1)

  pub low_on : {k : ℕ} → OnChain T k → k ≤ records T
  low_on {k} (head e) = omega arith
  low_on {k} (link on e lt le) = le

  pub decides_on_chain : (k : ℕ) → Decides (on_chain T k) (OnChain T k)
  decides_on_chain k = (
    λ e. ⊎_elim (λ z. head (eqb-true k 0 z)) (λ c. (chained_on k c).0) (or_cases (eqb k 0) (chained T k) e),
    λ on. ⊎_elim (λ z. or_left (eqb k 0) (chained T k) (eq-eqb k 0 z)) (λ some. or_right (eqb k 0) (chained T k) (on_chained on (omega arith))) (cases_eq k 0),
  )

  -- no record is chained while the awaited index is another
  not_chained : (m k : ℕ) → awaited T k ≡ m → (suc k ≡ m → ⊥) → chained T (suc k) ≡ false
  not_chained m k e other = and_right (ltb k (records T)) (eqb (awaited T k) (suc k)) (ne_eqb (awaited T k) (suc k) (λ same. other (sym same ∙ e)))

  pub skipped : {k : ℕ} → OnChain T k → (m q : ℕ) → next T k ≡ m → k < q → ((x : ℕ) → k < x → x ≤ q → x ≡ m → ⊥) → chained T q ≡ false
  skipped {k} on m zero e lt other = refl
  skipped {k} on m (suc q) e lt other =
      not_chained m q (stays k m q (on_awaited on ∙ e) (omega arith) (λ x more le. other x more (omega arith))) (other (suc q) lt (omega arith))

  pub decides_linked : (k : ℕ) → Decides (linked T k) (((next T k ≡ 0) × (k ≡ 0 → ⊥)) ⊎ ((k < next T k) × (next T k ≤ records T)))
  decides_linked k = search rules
