-- What admission answers is what the rules say.
-- Assumes nothing.
use Rattle.std.proofs.Common.{◌≡◌, ℕ, ◌<◌, Bool, true, false, cond, not, eqb, ◌↔◌, List, Some, None, Ok, Err, Result, unwrap_or, sym, refl, ap, ◌∙◌, subst, ⊎_elim, arith}
use Rattle.std.proofs.lemmas.Bool.{cases_order, cond-false, ne_eqb}
use Rattle.std.proofs.lemmas.Option.{none-some, some_pair_parts}
use Rattle.std.specs.Result.{result_err}
use Rattle.words.specs.Decoding.{decoded}
use Rattle.words.specs.declared.errors.DecodeError.{DecodeError}
use Rattle.words.specs.declared.instructions.Instruction.{Instruction}
use Rattle.platform.specs.Description.{in_limits}
use Rattle.admission.specs.Admission.{roles, breach, fault, unless_at, checked, depth_of, admission}
use Rattle.admission.specs.Chain.{broken_link}
use Rattle.admission.specs.Laws.{AllHold, FirstBreak, Judges}
use Rattle.admission.specs.Program.{Program}
use Rattle.admission.specs.Refusals.{rules, later_rules, rule_number, broken_rule, refusal}
use Rattle.admission.specs.Rules.{Holds, Deepest}
use Rattle.admission.specs.Tables.{line}
use Rattle.admission.specs.Tests.{sized, word_checked, if_defined, owned_checked, line_breach}
use Rattle.admission.specs.declared.faults.Breach.{Breach}
use Rattle.admission.specs.declared.faults.Breach.TheVariants.{Broken, Undefined}
use Rattle.admission.specs.declared.faults.Fault.{Fault}
use Rattle.admission.specs.declared.rules.LineRule.{LineRule}
use Rattle.admission.specs.declared.rules.LineRule.TheVariants.{Word}
use Rattle.admission.specs.declared.rules.Rule.{Rule}
use Rattle.admission.specs.declared.rules.Rule.TheVariants.{Description, Sizes, Chain, Entries, Line, Depth}
use Rattle.admission.proofs.Assigned.{roles_filled, entered_roles}
use Rattle.admission.proofs.Verdicts.{numbered, same_rule, Outcome, outcome, is_deepest, one_depth}

abbrev pub Answer : Type 0
Answer = Result ℕ Fault

pub few_rules : (q : Rule) → rule_number q < 14
few_rules q = (numbered q).1

ok_err : {d : ℕ} {f : Fault} → ◌≡◌ {A = Answer} (Err f) (Ok d) → ⊥
ok_err {d} {f} e = cc

same_ok : {c d : ℕ} → ◌≡◌ {A = Answer} (Ok c) (Ok d) → c ≡ d
same_ok {c} {d} e = cc

of_word : (d : Result Instruction DecodeError) → broken_rule (unwrap_or (result_err (word_checked d)) (Broken (Line Word))) ≡ Line Word
of_word d = grind arith

of_defined : (d : Result Instruction DecodeError) (rule : LineRule) (test : Instruction → Bool) → broken_rule (unwrap_or (result_err (if_defined d rule test)) (Broken (Line rule))) ≡ Line rule
of_defined d rule test = grind arith

module _ (P : Program) where
  abbrev L : List ℕ
  L = P.lines

  of_owned : (rule : LineRule) (p : ℕ) → broken_rule (unwrap_or (result_err (owned_checked rule P.count P.table L (P.word p) p)) (Broken (Line rule))) ≡ Line rule
  of_owned rule p = grind (arith, of_word, of_defined)

  of_line : (rule : LineRule) (p : ℕ) → broken_rule (line_breach rule P.count P.table L (P.word p) p) ≡ Line rule
  of_line rule p = by (eqb (line L p) 0)
    where
      by : (b : Bool) → broken_rule (unwrap_or (result_err (cond b (Ok tt) (owned_checked rule P.count P.table L (P.word p) p))) (Broken (Line rule))) ≡ Line rule
      by true = refl
      by false = of_owned rule p

  of_breach : (rule : Rule) (p : ℕ) → broken_rule (breach rule P p) ≡ rule
  of_breach rule p = grind (arith, of_line)

  logged : (rule : Rule) (p : ℕ) → refusal (Err (fault rule P p)) ≡ Some (rule_number rule, p)
  logged rule p = ap (λ r. Some (rule_number r, p)) (of_breach rule p)

  abbrev pub depth : ℕ
  depth = depth_of P.table (roles P)

  answered : Outcome P rules (Ok depth)
  answered = outcome P 1 rules (Ok depth) refl (λ q lt. let some = (numbered q).0 in absurd (omega arith))

  -- two first breaks are one
  one_break : (r q : Rule) (p s : ℕ) → FirstBreak P r p → FirstBreak P q s → (r ≡ q) × (p ≡ s)
  one_break r q p s x y = ⊎_elim (λ e. let same = same_rule r q e in (same, at same)) (⊎_elim (λ lt. absurd (x.breaks (y.before r lt p))) (λ gt. absurd (y.breaks (x.before q gt s)))) (cases_order (rule_number r) (rule_number q))
    where
      at : r ≡ q → p ≡ s
      at same = ⊎_elim (λ e. e) (⊎_elim (λ lt. absurd (x.breaks (subst (λ z. Holds P z p) (sym same) (y.below p lt)))) (λ gt. absurd (y.breaks (subst (λ z. Holds P z s) same (x.below s gt))))) (cases_order p s)

  -- at the depth that is answered
  is_depth : AllHold P → Deepest P depth
  is_depth all =
      let r = entered_roles P (all Description 0 refl) (all Entries 0 refl) in
      subst (λ o. Deepest P (depth_of P.table o)) (sym r.1) (is_deepest P r.0 (roles_filled P r.0 r.1))

  -- a break of the rule on words has the decoder's refusal exactly if there is one
  module _ (p : ℕ) (x : DecodeError) (f : FirstBreak P (Line Word) p) where
    run : eqb (line L p) 0 ≡ false
    run = ne_eqb (line L p) 0 (λ z. f.breaks (λ o. absurd (o.1 z)))

    abbrev said : Result Instruction DecodeError → Breach
    said d = unwrap_or (result_err (word_checked d)) (Broken (Line Word))

    says : breach (Line Word) P p ≡ said (decoded (P.word p))
    says = ap (λ r. unwrap_or (result_err r) (Broken (Line Word))) (cond-false (eqb (line L p) 0) (Ok tt) (word_checked (decoded (P.word p))) run)

    own : (d : Result Instruction DecodeError) → said d ≡ Undefined x → d ≡ Err x
    own d e = grind arith

    whole : (◌≡◌ {A = Answer} (Err (fault (Line Word) P p)) (Err (record { breach = Undefined x; place = p }))) ↔ (decoded (P.word p) ≡ Err x)
    whole = (λ e. own (decoded (P.word p)) (sym says ∙ breach_in e), λ e. ap (λ b. Err (record { breach = b; place = p })) (says ∙ ap said e))
      where
        breach_of : Answer → Breach
        breach_of (Ok d) = Broken Depth
        breach_of (Err g) = g.breach

        breach_in : ◌≡◌ {A = Answer} (Err (fault (Line Word) P p)) (Err (record { breach = Undefined x; place = p })) → breach (Line Word) P p ≡ Undefined x
        breach_in e = ap breach_of e

  judges_all : (r : Answer) → AllHold P → r ≡ Ok depth → Judges P r
  judges_all r all e = record {
    admits = λ d. (λ h. (all, subst (Deepest P) (same_ok (sym e ∙ h)) (is_depth all)), λ x. e ∙ ap Ok (one_depth P (all Entries 0 refl) depth d (is_depth all) x.1));
    refuses = λ rule p. (λ h. absurd (none-some _ (sym (ap refusal e) ∙ h)), λ f. absurd (f.breaks (all rule p)));
    carries = λ p x h. absurd (none-some _ (sym (ap refusal e) ∙ h));
  }

  judges_break : (r : Answer) (q : Rule) (s : ℕ) → FirstBreak P q s → r ≡ Err (fault q P s) → Judges P r
  judges_break r q s f e = record {
    admits = λ d. (λ h. absurd (ok_err (sym e ∙ h)), λ x. absurd (f.breaks (x.0 q s)));
    refuses = λ rule p. (λ h. moved rule p (is_break rule p h), λ g. let same = one_break q rule s p f g in ap refusal e ∙ logged q s ∙ ap (λ z. Some (rule_number z, s)) same.0 ∙ ap (λ z. Some (rule_number rule, z)) same.1);
    carries = λ p x h.
        let same = is_break (Line Word) p h in
        let at : r ≡ Err (fault (Line Word) P p) = e ∙ ap (λ z. Err (fault z P s)) same.0 ∙ ap (λ z. Err (fault (Line Word) P z)) same.1 in
        let w = whole p x (moved (Line Word) p same) in
        (λ is_it. w.0 (sym at ∙ is_it), λ d. at ∙ w.1 d);
  }
    where
      is_break : (rule : Rule) (p : ℕ) → refusal r ≡ Some (rule_number rule, p) → (q ≡ rule) × (s ≡ p)
      is_break rule p h =
          let log = some_pair_parts _ _ _ _ (sym (logged q s) ∙ sym (ap refusal e) ∙ h) in
          (same_rule q rule log.0, log.1)

      moved : (rule : Rule) (p : ℕ) → (q ≡ rule) × (s ≡ p) → FirstBreak P rule p
      moved rule p same = subst (λ z. FirstBreak P rule z) same.1 (subst (λ z. FirstBreak P z s) same.0 f)

  judges : (r : Answer) → r ≡ admission P → Judges P r
  unfolding admission
  judges r e = ⊎_elim (λ h. judges_all r h.0 (e ∙ h.1)) (λ h. judges_break r h.0 h.1 h.2 (e ∙ h.3)) answered

  -- what the contract of `admit` says of an answer
  abbrev pub Promised : Answer → Type 0
  Promised r = record { value : r ≡ admission P; judges : Judges P r }

  pub answers : (r : Answer) → r ≡ admission P → Promised r
  answers r e = record { value = e; judges = judges r e }

  -- The first three rules, as they are checked.

  abbrev pub later : Answer
  later = checked later_rules P (Ok depth)

  abbrev from_chain : Answer
  from_chain = unless_at (broken_link P.table) (fault Chain P) later

  -- a rule that has no places
  abbrev at_once : Bool → Rule → Answer → Answer
  at_once b rule rest = unless_at (cond (not b) (Some 0) None) (fault rule P) rest

  module _ (r : Answer) where
    pub out_of_limits : in_limits P.description ≡ false → r ≡ Err (fault Description P 0) → Promised r
    unfolding admission
    out_of_limits l e = answers r (e ∙ sym (ap (λ b. at_once b Description (at_once (sized P.count P.table L) Sizes from_chain)) l))

    module _ (l : in_limits P.description ≡ true) where
      in_limits_lem : at_once (sized P.count P.table L) Sizes from_chain ≡ admission P
      unfolding admission
      in_limits_lem = sym (ap (λ b. at_once b Description (at_once (sized P.count P.table L) Sizes from_chain)) l)

      pub missized : sized P.count P.table L ≡ false → r ≡ Err (fault Sizes P 0) → Promised r
      missized s e = answers r (e ∙ sym (ap (λ b. at_once b Sizes from_chain) s) ∙ in_limits_lem)

      module _ (s : sized P.count P.table L ≡ true) where
        from_sizes : from_chain ≡ admission P
        from_sizes = sym (ap (λ b. at_once b Sizes from_chain) s) ∙ in_limits_lem

        pub unchained : (p : ℕ) → broken_link P.table ≡ Some p → r ≡ Err (fault Chain P p) → Promised r
        unchained p b e = answers r (e ∙ sym (ap (λ o. unless_at o (fault Chain P) later) b) ∙ from_sizes)

        pub chained_well : broken_link P.table ≡ None → r ≡ later → Promised r
        chained_well b e = answers r (e ∙ sym (ap (λ o. unless_at o (fault Chain P) later) b) ∙ from_sizes)
