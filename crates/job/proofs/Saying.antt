-- What is said of a job follows from what is said of its length, of its words, and of the program that they mean.
-- Assumes nothing.
use Rattle.std.proofs.Common.{◌≡◌, ℕ, ◌<◌, ◌≤◌, Bool, true, false, cond, List, Some, None, Ok, Err, Option, Result, sym, refl, ap, ◌∙◌, subst, arith}
use Rattle.platform.specs.Refusals.{store_number}
use Rattle.platform.specs.Stores.{bytes_tested, store_refusal, Narrow, Tests, InRange, InRangeOf3}
use Rattle.platform.specs.declared.errors.StoreError.{StoreError}
use Rattle.platform.specs.declared.errors.StoreError.TheVariants.{Size, WideWord}
use Rattle.platform.proofs.Words.{tested_bytes}
use Rattle.admission.specs.Admission.{admission}
use Rattle.admission.specs.Laws.{Judges}
use Rattle.admission.specs.Refusals.{broken_rule, refusal}
use Rattle.admission.specs.declared.faults.Fault.{Fault}
use Rattle.admission.proofs.Judging.{few_rules, answers}
use Rattle.job.specs.Jobs.{word_count, word_bytes, well_sized, program_of, ruled, stored, verdict_of}
use Rattle.job.specs.Laws.{verdict_refusal, WellSized, word, Says}
use Rattle.job.specs.declared.verdicts.Refusal.{Refusal}
use Rattle.job.specs.declared.verdicts.Refusal.TheVariants.{Length, Store}
use Rattle.job.proofs.Sizes.{decides_sized, long, counted}
use Rattle.job.proofs.Written.{reads_back}

abbrev number : Option (ℕ × ℕ) → ℕ
number None = 0
number (Some log) = log.0

-- above the numbers of rules, and below that of a length
store_number_bounds : (e : StoreError) → (29 ≤ store_number e) × (store_number e ≤ 30)
store_number_bounds Size = (omega arith, omega arith)
store_number_bounds (WideWord p) = (omega arith, omega arith)

module _ (job : List ℕ) where
  module _ (sized : WellSized job) where
    -- what the test of the store says, in the counts of the header
    tests : Tests (InRange (word_count job)) (word_count job) (word job) (bytes_tested (word_bytes job))
    tests =
        let t = subst (λ k. Tests (InRangeOf3 (word_bytes job)) k (word job) (bytes_tested (word_bytes job))) (counted job sized) (tested_bytes (word_bytes job) (bytes_tested (word_bytes job)) refl) in
        let to : InRangeOf3 (word_bytes job) → InRange (word_count job) = λ h. let whole = long job sized in let three = h.1 in let same : h.0 ≡ word_count job = omega arith in subst InRange same h.2 in
        let from : InRange (word_count job) → InRangeOf3 (word_bytes job) = λ h. (word_count job, long job sized, h) in
        record {
          passes = (λ e. let h = t.passes.0 e in (to h.0, h.1), λ h. t.passes.1 (from h.0, h.1));
          size = (λ e h. t.size.0 e (from h), λ no-fit. t.size.1 (λ h. no-fit (to h)));
          wide = λ p. (λ e. let h = (t.wide p).0 e in (to h.0, h.1, h.2, h.3), λ h. (t.wide p).1 (from h.0, h.1, h.2, h.3));
        }

  -- a job that is not as long as its counts say
  says_length : (WellSized job → ⊥) → Says job (Err Length)
  says_length short = record {
    length = (λ e. short, λ h. refl);
    size = (λ e. absurd (omega (arith, ap number e)), λ h. absurd (short h.0));
    wide = λ p. (λ e. absurd (omega (arith, ap number e)), λ h. absurd (short h.0));
    admits = λ d. (λ e. cc, λ h. absurd (short h.0.0));
    refuses = λ rule p. (λ e. absurd (omega (arith, ap number e, few_rules rule)), λ h. absurd (short h.0.0));
    carries = λ p e at. absurd (omega (arith, ap number at));
    means = reads_back job;
  }

  -- a job whose words are no store
  says_store : WellSized job → (e : StoreError) → bytes_tested (word_bytes job) ≡ Err e → Says job (Err (Store e))
  says_store sized x at = record {
    length = (λ e. absurd (omega (arith, ap number e, store_number_bounds x)), λ h. absurd (h sized));
    size = (λ e. (sized, t.size.0 (ap store_refusal at ∙ e)), λ h. sym (ap store_refusal at) ∙ t.size.1 h.1);
    wide = λ p. (λ e. (sized, (t.wide p).0 (ap store_refusal at ∙ e)), λ h. sym (ap store_refusal at) ∙ (t.wide p).1 h.1);
    admits = λ d. (λ e. cc, λ h. absurd (fails h.0.1));
    refuses = λ rule p. (λ e. absurd (omega (arith, ap number e, few_rules rule, store_number_bounds x)), λ h. absurd (fails h.0.1));
    carries = λ p e at. absurd (omega (arith, ap number at, store_number_bounds x));
    means = reads_back job;
  }
    where
      t : Tests (InRange (word_count job)) (word_count job) (word job) (bytes_tested (word_bytes job))
      t = tests sized

      fails : InRange (word_count job) × Narrow (word job) (word_count job) → ⊥
      fails h = let passes = t.passes.1 h in cc

  -- a job that means a program
  says_rules : WellSized job → bytes_tested (word_bytes job) ≡ Ok tt → (a : Result ℕ Fault) → Judges (program_of job) a → Says job (ruled a)
  says_rules sized at a j = record {
    length = (λ e. absurd (omega (arith, low a (ap number e))), λ h. absurd (h sized));
    size = (λ e. absurd (omega (arith, low a (ap number e))), λ h. absurd (h.1 (t.passes.0 at).0));
    wide = λ p. (λ e. absurd (omega (arith, low a (ap number e))), λ h. absurd (omega (arith, (t.passes.0 at).1 p h.1.1, h.1.3)));
    admits = λ d. (λ e. ((sized, t.passes.0 at), (j.admits d).0 (back a (Ok d) e)), λ h. ap ruled ((j.admits d).1 h.1));
    refuses = λ rule p. (λ e. ((sized, t.passes.0 at), (j.refuses rule p).0 (sym (same a) ∙ e)), λ h. same a ∙ (j.refuses rule p).1 h.1);
    carries = λ p e at. let c = j.carries p e (sym (same a) ∙ at) in (λ h. c.0 (back a _ h), λ h. ap ruled (c.1 h));
    means = reads_back job;
  }
    where
      t : Tests (InRange (word_count job)) (word_count job) (word job) (bytes_tested (word_bytes job))
      t = tests sized

      same : (a : Result ℕ Fault) → verdict_refusal (ruled a) ≡ refusal a
      same (Ok d) = refl
      same (Err f) = refl

      low : {k : ℕ} (a : Result ℕ Fault) → number (verdict_refusal (ruled a)) ≡ k → k < 14
      low (Ok d) e = omega arith
      low (Err f) e = let few = few_rules (broken_rule f.breach) in omega arith

      back : (a b : Result ℕ Fault) → ruled a ≡ ruled b → a ≡ b
      back (Ok c) (Ok d) e = cc
      back (Ok c) (Err g) e = cc
      back (Err f) (Ok d) e = cc
      back (Err f) (Err g) e = cc

  says : Says job (verdict_of job)
  says = by (well_sized job) refl (bytes_tested (word_bytes job)) refl
    where
      by : (b : Bool) → well_sized job ≡ b → (r : Result (Unit {0}) StoreError) → bytes_tested (word_bytes job) ≡ r → Says job (cond b (stored r (ruled (admission (program_of job)))) (Err Length))
      by false s r at = says_length (λ h. let long = (decides_sized job).1 h in cc)
      by true s (Err e) at = says_store ((decides_sized job).0 s) e at
      by true s (Ok u) at = says_rules ((decides_sized job).0 s) at (admission (program_of job)) (answers (program_of job) (admission (program_of job)) refl).judges

  pub saying : (v : Result ℕ Refusal) → v ≡ verdict_of job → Says job v
  saying v e = subst (Says job) (sym e) says
