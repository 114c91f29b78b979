-- What the walk along the chain keeps true, and what it finds.
-- Assumes nothing.
use Rattle.std.proofs.Common.{◌≡◌, ℕ, ◌+◌, ◌<◌, ◌≤◌, Bool, true, false, not, ◌&&◌, eqb, leb, ◌⊎◌, List, length, get_or, set, replicate, Some, None, sym, refl, ◌∙◌, subst, inl, inr, ⊎_elim, arith}
use Rattle.std.proofs.lemmas.List.{length-set, length-replicate, get_or-replicate, get_or-set_same, get_or-set_other}
use Rattle.std.proofs.lemmas.Bool.{false_from_ne_true, or_left, or_right, or_from, cases_eq, cases_order, not_from_true, not_from_false, ne_eqb}
use Rattle.std.proofs.lemmas.Bool.Decides.{nat_tests}
use Rattle.platform.proofs.Search.{none_from, some_from}
use Rattle.admission.specs.Chain.{OnChain, head, link, chained, on_chain, linked, link_sound, broken_link}
use Rattle.admission.specs.Tables.{records, next}
use Rattle.admission.proofs.Chains.{decides_chained, decides_on_chain, decides_linked, low_on, skipped}

-- the walk has come to record k, and has marked the records up to there
pub record Walked (T : List ℕ) (marks : List Bool) (k : ℕ) : Type 0 where
  pub on : OnChain T k
  pub before : (q : ℕ) → q < k → link_sound T q ≡ true
  pub long : length marks ≡ 256
  pub marked : (q : ℕ) → q < 256 → get_or marks q false ≡ (leb q k && chained T q)

module _ (T : List ℕ) where
  off : (q : ℕ) → on_chain T q ≡ false → link_sound T q ≡ true
  off q e = or_left (not (on_chain T q)) (linked T q) (not_from_false (on_chain T q) e)

  not_on : (q : ℕ) → 0 < q → chained T q ≡ false → on_chain T q ≡ false
  not_on q some e = or_from (eqb q 0) (chained T q) (ne_eqb q 0 (λ z. omega arith)) e

  on_link : (q : ℕ) → linked T q ≡ true → link_sound T q ≡ true
  on_link q e = or_right (not (on_chain T q)) (linked T q) e

  -- the chain neither ends nor goes on
  pub unlinked : (k : ℕ) → (next T k ≡ 0 → k ≡ 0) → (next T k ≤ k) ⊎ (records T < next T k) → linked T k ≡ false
  unlinked k no_end no_next = false_from_ne_true (linked T k) (λ t. ⊎_elim (λ end. end.1 (no_end end.0)) (λ on. ⊎_elim (λ back. omega (arith, on.0)) (λ far. omega (arith, on.1)) no_next) ((decides_linked T k).0 t))

  pub begun : Walked T (replicate 256 false) 0
  begun = record {
    on = head refl;
    before = λ q lt. absurd (omega arith);
    long = length-replicate 256 false;
    marked = λ q lt. get_or-replicate 256 q false false lt ∙ sym (none q);
  }
    where
      none : (q : ℕ) → (leb q 0 && chained T q) ≡ false
      none q = grind (arith, nat_tests)

  module _ (few : records T ≤ 255) (marks : List Bool) (k : ℕ) (w : Walked T marks k) where
    pub goes_on_lem : (m : ℕ) → next T k ≡ m → k < m → m ≤ records T → Walked T (set marks m true) m
    goes_on_lem m e lt le = record {
      on = link w.on e lt le;
      before = λ q low. ⊎_elim (λ here. subst (λ x. link_sound T x ≡ true) (sym here) (on_link k ((decides_linked T k).1 (inr (omega arith, omega arith))))) (⊎_elim (λ less. w.before q less) (λ more. off q (not_on q (omega arith) (between q more low)))) (cases_order q k);
      long = length-set marks m true ∙ w.long;
      marked = λ q small. ⊎_elim (at q small) (away q small) (cases_eq q m);
    }
      where
        between : (q : ℕ) → k < q → q < m → chained T q ≡ false
        between q more low = skipped T w.on m q e more (λ x up le' same. omega arith)

        at : (q : ℕ) → q < 256 → q ≡ m → get_or (set marks m true) q false ≡ (leb q m && chained T q)
        at q small same =
            let long = w.long in
            grind (arith, nat_tests, get_or-set_same marks m true false (omega arith), (decides_chained T m).1 (link w.on e lt le, omega arith))

        away : (q : ℕ) → q < 256 → (q ≡ m → ⊥) → get_or (set marks m true) q false ≡ (leb q m && chained T q)
        away q small other = get_or-set_other marks m q true false other ∙ w.marked q small ∙ grind (arith, nat_tests, between)

    pub breaks : linked T k ≡ false → broken_link T ≡ Some k
    breaks e =
        let low = low_on T w.on in
        some_from (λ q. not (link_sound T q)) k (records T + 1) (omega arith) (λ q lt. not_from_true (link_sound T q) (w.before q lt))
        (not_from_false (link_sound T k) (or_from (not (on_chain T k)) (linked T k) (not_from_true (on_chain T k) ((decides_on_chain T k).1 w.on)) e))

    module _ (e : next T k ≡ 0) (some : 0 < k) where
      beyond : (q : ℕ) → k < q → chained T q ≡ false
      beyond q more = skipped T w.on 0 q e more (λ x up le same. omega arith)

      pub ends : broken_link T ≡ None
      ends = none_from (λ q. not (link_sound T q)) (records T + 1) (λ q lt. not_from_true (link_sound T q) (each q))
        where
          each : (q : ℕ) → link_sound T q ≡ true
          each q = ⊎_elim (λ here. subst (λ x. link_sound T x ≡ true) (sym here) (on_link k ((decides_linked T k).1 (inl (e, λ z. omega arith))))) (⊎_elim (λ less. w.before q less) (λ more. off q (not_on q (omega arith) (beyond q more)))) (cases_order q k)

      pub all_marked : (q : ℕ) → q < 256 → get_or marks q false ≡ chained T q
      all_marked q small = w.marked q small ∙ grind (arith, nat_tests, beyond)
