-- The tests of the rules of lines decide what the rules say.
-- Assumes nothing.
use Rattle.std.proofs.Common.{◌≡◌, ℕ, ◌+◌, ◌*◌, ◌<◌, ◌≤◌, Bool, true, cond, ◌&&◌, ◌||◌, eqb, ◌⊎◌, List, is_ok, Some, Ok, Err, Decides, Option, Result, sym, refl, ap, ◌∙◌, subst, inl, inr, ⊎_elim, arith}
use Rattle.std.proofs.lemmas.Bool.{false≢true, cond-false, cond-true, eq-eqb, ne_eqb, cases_eq}
use Rattle.std.proofs.lemmas.Bool.Decides.{nat_tests, Decides-at, Decides-eqb, Decides-ltb, Decides-and, Decides-or, Decides-not, Decides-like}
use Rattle.words.specs.Decoding.{decoded}
use Rattle.words.specs.declared.conditions.Condition.{Condition}
use Rattle.words.specs.declared.conditions.Condition.TheVariants.{Always}
use Rattle.words.specs.declared.errors.DecodeError.{DecodeError}
use Rattle.words.specs.declared.instructions.Instruction.{Instruction}
use Rattle.words.specs.declared.instructions.Instruction.TheVariants.{Push, Pop, Ret, Reti, Jump, Call}
use Rattle.words.specs.declared.instructions.Target.{Target}
use Rattle.words.specs.declared.instructions.Target.TheVariants.{Address}
use Rattle.words.specs.declared.registers.Register.{Register}
use Rattle.words.specs.declared.registers.Register.TheVariants.{Stat}
use Rattle.admission.specs.Chain.{Chained}
use Rattle.admission.specs.Instructions.{Flow, push, pop, jump, call, flow, permitted, goes_on, jump_target, call_target, destination}
use Rattle.admission.specs.Program.{Program}
use Rattle.admission.specs.Roles.{is}
use Rattle.admission.specs.Rules.{Owned, SoundOwner, At, Permitted, SoundStack, Leads, Leaves, GoesOn, SoundSuccessors, MayCall, SoundCall, WritesStat, EntryLine, kind_at, height_at, owner_of}
use Rattle.admission.specs.Tables.{entry, kind, need, line, owner, height}
use Rattle.admission.specs.Tests.{owner_sound, stack_sound, moves, leads, if_some, next_sound, target_sound, may_call, callable, callee_sound, call_sound, writes_stat, stat_sound, word_checked, if_defined, owned_checked, line_checked}
use Rattle.admission.specs.declared.faults.Breach.{Breach}
use Rattle.admission.specs.declared.kinds.Kind.{Kind}
use Rattle.admission.specs.declared.kinds.Kind.TheVariants.{Background, Quiet, Interrupt, Open}
use Rattle.admission.specs.declared.rules.LineRule.{LineRule}
use Rattle.admission.specs.declared.rules.LineRule.TheVariants.{Owner, Word, StackUse, Successors, Callee, StatWrite}
use Rattle.admission.proofs.Chains.{decides_chained}
use Rattle.admission.proofs.Deciding.{decides_leb, decides_implies, decides_is, is_ok-unless}
use Rattle.admission.proofs.Shapes.{Shape, shape}

abbrev Decoded : Type 0
Decoded = Result Instruction DecodeError

same_ok : {i j : Instruction} → ◌≡◌ {A = Decoded} (Ok i) (Ok j) → i ≡ j
same_ok {i} {j} e = cc

err_ok : {e : DecodeError} {i : Instruction} → ◌≡◌ {A = Decoded} (Err e) (Ok i) → ⊥
err_ok {e} {i} h = cc

-- PUSH and POP alone move the height
moving : (f : Flow) → (f ≡ push) ⊎ ((f ≡ pop) ⊎ ((f ≡ push → ⊥) × (f ≡ pop → ⊥) × ((h g : ℕ) → moves f h g ≡ eqb g h)))
moving f = grind arith

-- a rule that speaks of the instruction is decided by a test of it
defined : (d : Decoded) (rule : LineRule) (test : Instruction → Bool) {X : Type 0} → ((i : Instruction) → d ≡ Ok i → Decides (test i) X) → (((i : Instruction) → d ≡ Ok i → ⊥) → X) → Decides (is_ok (if_defined d rule test)) X
defined (Ok i) rule test with_it without = Decides-at _ (test i) (is_ok-unless (test i) rule) (with_it i refl)
defined (Err e) rule test with_it without = (λ t. without (λ i h. err_ok h), λ x. refl)

decides_writes_stat : (o : Option Register) → Decides (writes_stat o) (o ≡ Some Stat)
decides_writes_stat o = (λ e. grind arith, λ e. ap writes_stat e)

decides_may_call : (caller callee : Option Kind) → Decides (may_call caller callee) (MayCall caller callee)
decides_may_call caller callee =
    Decides-like _ (⊎_elim (λ q. (inl q, λ c. q)) (λ o. (inr o.0, λ c. absurd (o.1 c)))) (λ h. ⊎_elim inl (λ o. inr (o, λ c. let e : ◌≡◌ {A = Option Kind} (Some Open) (Some Quiet) = sym o ∙ h.1 c in cc)) h.0)
    (Decides-or _ _ (decides_is callee Quiet) (Decides-and _ _ (decides_is callee Open) (Decides-not _ (Decides-or _ _ (decides_is caller Quiet) (decides_is caller Interrupt)))))

module _ (P : Program) (a : ℕ) where
  abbrev T : List ℕ
  T = P.table

  abbrev L : List ℕ
  L = P.lines

  -- a line of 0 keeps every rule
  owned : (X : Type 0) (c : Result (Unit {0}) Breach) → a < P.count → Decides (is_ok c) X → Decides (is_ok (cond (eqb (line L a) 0) (Ok tt) c)) (Owned P a → X)
  owned X c lt d = ⊎_elim none some (cases_eq (line L a) 0)
    where
      none : line L a ≡ 0 → Decides (is_ok (cond (eqb (line L a) 0) (Ok tt) c)) (Owned P a → X)
      none z = (λ e h. absurd (h.1 z), λ h. ap is_ok (cond-true (eqb (line L a) 0) (Ok tt) c (eq-eqb (line L a) 0 z)))

      some : (line L a ≡ 0 → ⊥) → Decides (is_ok (cond (eqb (line L a) 0) (Ok tt) c)) (Owned P a → X)
      some other =
          let same = ap is_ok (cond-false (eqb (line L a) 0) (Ok tt) c (ne_eqb (line L a) 0 other)) in
          (λ e h. d.0 (sym same ∙ e), λ h. same ∙ d.1 (h (lt, other)))

  pub decides_owner : Decides (is_ok (owned_checked Owner P.count T L (P.word a) a)) (SoundOwner P a)
  decides_owner = Decides-at _ _ (is_ok-unless (owner_sound T L a) Owner) (Decides-and _ _ (decides_chained T (owner L a)) (decides_leb (height L a) (need T (owner L a))))

  pub decides_word : Decides (is_ok (owned_checked Word P.count T L (P.word a) a)) (Permitted P a)
  decides_word = by (decoded (P.word a)) refl
    where
      by : (d : Decoded) → decoded (P.word a) ≡ d → Decides (is_ok (word_checked d)) (Permitted P a)
      by (Err e) at = (λ t. absurd (false≢true t), λ h. absurd (err_ok (sym at ∙ h.at)))
      by (Ok i) at = (
        λ t.
            let yes' = sym (is_ok-unless (permitted (flow i)) Word) ∙ t in
            record {
              instruction = i;
              at = at;
              no_calls = λ t e. false≢true (sym (ap (λ j. permitted (flow j)) e) ∙ yes');
              no_call_ip = λ e. false≢true (sym (ap (λ j. permitted (flow j)) e) ∙ yes');
              no_jump_ip = λ cc e. false≢true (sym (ap (λ j. permitted (flow j)) e) ∙ yes');
            },
        λ h. is_ok-unless (permitted (flow i)) Word ∙ allowed h (same_ok (sym h.at ∙ at)) (flow i) (shape i),
      )
        where
          allowed : (h : Permitted P a) → h.instruction ≡ i → (f : Flow) → Shape f i → permitted f ≡ true
          allowed h same f s = grind (arith, h.no_calls, h.no_call_ip, h.no_jump_ip)

  module _ (i : Instruction) (at : At P a i) where
    -- the instruction at a is i, and no other
    is_it : (j : Instruction) → At P a j → i ≡ j
    is_it j h = same_ok (sym at ∙ h)

    flows : (j : Instruction) → At P a j → flow i ≡ flow j
    flows j h = ap flow (is_it j h)

    there : {j : Instruction} → i ≡ j → At P a j
    there e = at ∙ ap Ok e

    decides_stack : Decides (stack_sound (flow i) (kind_at P a) (height_at P a)) (SoundStack P a)
    decides_stack = (gives, takes (flow i) (shape i))
      where
        returning : Decides ((is (kind_at P a) Quiet || is (kind_at P a) Open) && eqb (height_at P a) 0) (((kind_at P a ≡ Some Quiet) ⊎ (kind_at P a ≡ Some Open)) × (height_at P a ≡ 0))
        returning = Decides-and _ _ (Decides-or _ _ (decides_is (kind_at P a) Quiet) (decides_is (kind_at P a) Open)) (Decides-eqb (height_at P a) 0)

        returningi : Decides (is (kind_at P a) Interrupt && eqb (height_at P a) 0) ((kind_at P a ≡ Some Interrupt) × (height_at P a ≡ 0))
        returningi = Decides-and _ _ (decides_is (kind_at P a) Interrupt) (Decides-eqb (height_at P a) 0)

        gives : stack_sound (flow i) (kind_at P a) (height_at P a) ≡ true → SoundStack P a
        gives t = record {
          pop = λ q. (decides_leb 1 (height_at P a)).0 (subst (λ f. stack_sound f (kind_at P a) (height_at P a) ≡ true) (flows Pop q) t);
          ret = λ q. returning.0 (subst (λ f. stack_sound f (kind_at P a) (height_at P a) ≡ true) (flows Ret q) t);
          reti = λ q. returningi.0 (subst (λ f. stack_sound f (kind_at P a) (height_at P a) ≡ true) (flows Reti q) t);
        }

        takes : (f : Flow) → Shape f i → SoundStack P a → stack_sound f (kind_at P a) (height_at P a) ≡ true
        takes f s x = grind (arith, nat_tests, there, x.pop, x.ret, x.reti, returning.1, returningi.1)

    decides_goes_on : Decides (goes_on (flow i)) (GoesOn P a)
    decides_goes_on = (gives, takes (flow i) (shape i))
      where
        gives : goes_on (flow i) ≡ true → GoesOn P a
        gives t = record {
          instruction = i;
          at = at;
          no_jump = λ to q. false≢true (subst (λ f. goes_on f ≡ true) (flows (Jump Always to) q) t);
          no_ret = λ q. false≢true (subst (λ f. goes_on f ≡ true) (flows Ret q) t);
          no_reti = λ q. false≢true (subst (λ f. goes_on f ≡ true) (flows Reti q) t);
        }

        takes : (f : Flow) → Shape f i → GoesOn P a → goes_on f ≡ true
        takes f s x = grind (arith, there, x.no_jump, x.no_ret, x.no_reti)

    no_both : {f : Flow} → f ≡ push → f ≡ pop → ⊥
    no_both p q = let e : push ≡ pop = sym p ∙ q in cc

    -- the height g is what the instruction leaves
    decides_moves : (g : ℕ) → Decides (moves (flow i) (height_at P a) g) (Leaves P a g)
    decides_moves g = ⊎_elim pushed (⊎_elim popped other) (moving (flow i))
      where
        is_push : flow i ≡ push → i ≡ Push
        is_push e = subst (λ f. Shape f i) e (shape i)

        is_pop : flow i ≡ pop → i ≡ Pop
        is_pop e = subst (λ f. Shape f i) e (shape i)

        pushed : flow i ≡ push → Decides (moves (flow i) (height_at P a) g) (Leaves P a g)
        pushed e =
            Decides-like _ (λ t. record { push = λ q. t; pop = λ q. absurd (no_both e (flows Pop q)); other = λ no_push no_pop. absurd (no_push (there (is_push e))) }) (λ x. x.push (there (is_push e)))
            (Decides-at _ _ (ap (λ f. moves f (height_at P a) g) e) (Decides-eqb g (height_at P a + 1)))

        popped : flow i ≡ pop → Decides (moves (flow i) (height_at P a) g) (Leaves P a g)
        popped e =
            Decides-like _ (λ t. record { push = λ q. absurd (no_both (flows Push q) e); pop = λ q. t; other = λ no_push no_pop. absurd (no_pop (there (is_pop e))) }) (λ x. x.pop (there (is_pop e)))
            (Decides-at _ _ (ap (λ f. moves f (height_at P a) g) e) (Decides-eqb (g + 1) (height_at P a)))

        other : (flow i ≡ push → ⊥) × (flow i ≡ pop → ⊥) × ((h g : ℕ) → moves (flow i) h g ≡ eqb g h) → Decides (moves (flow i) (height_at P a) g) (Leaves P a g)
        other (no_push, no_pop, stays) =
            Decides-like _ (λ t. record { push = λ q. absurd (no_push (flows Push q)); pop = λ q. absurd (no_pop (flows Pop q)); other = λ np nq. t }) (λ x. x.other (λ q. no_push (flows Push q)) (λ q. no_pop (flows Pop q)))
            (Decides-at _ _ (stays (height_at P a) g) (Decides-eqb g (height_at P a)))

    decides_leads : (b : ℕ) → Decides (leads P.count L (flow i) a b) ((b < P.count) × ((owner_of P b ≡ owner_of P a) × Leaves P a (height_at P b)))
    decides_leads b = Decides-and _ _ (Decides-ltb b P.count) (Decides-and _ _ (Decides-eqb (owner_of P b) (owner_of P a)) (decides_moves (height_at P b)))

    decides_next : Decides (next_sound P.count L (flow i) a) (GoesOn P a → (h : ℕ) × Leaves P a h × Leads P a (a + 1) h)
    decides_next =
        Decides-like _ (λ f on. let x = f on in (height_at P (a + 1), x.1.1, (x.0, x.1.0, refl)))
        (λ f on. let x = f on in (x.2.0, (x.2.1, subst (Leaves P a) (sym x.2.2) x.1)))
        (decides_implies _ _ decides_goes_on (decides_leads (a + 1)))

    decides_target : Decides (target_sound P.count L (flow i) a) ((cc : Condition) (t : ℕ) → At P a (Jump cc (Address t)) → Leads P a t (height_at P a))
    decides_target = (gives, takes (flow i) refl (shape i))
      where
        no_push : {on : Condition} {to : Target} → At P a (Jump on to) → At P a Push → ⊥
        no_push {on} {to} q p = let e : jump on to ≡ push = sym (flows (Jump on to) q) ∙ flows Push p in cc

        no_pop : {on : Condition} {to : Target} → At P a (Jump on to) → At P a Pop → ⊥
        no_pop {on} {to} q p = let e : jump on to ≡ pop = sym (flows (Jump on to) q) ∙ flows Pop p in cc

        gives : target_sound P.count L (flow i) a ≡ true → (cc : Condition) (t : ℕ) → At P a (Jump cc (Address t)) → Leads P a t (height_at P a)
        gives e cc t q =
            let to = ap (λ f. if_some (jump_target f) (leads P.count L (flow i) a)) (flows (Jump cc (Address t)) q) in
            let x = (decides_leads t).0 (sym to ∙ e) in
            (x.0, x.1.0, x.1.1.other (no_push q) (no_pop q))

        takes : (f : Flow) → flow i ≡ f → Shape f i → ((cc : Condition) (t : ℕ) → At P a (Jump cc (Address t)) → Leads P a t (height_at P a)) → target_sound P.count L f a ≡ true
        takes (jump cc (Address t)) e s x =
            let q = there s in
            let to = x cc t q in
            subst (λ f. leads P.count L f a t ≡ true) e
            ((decides_leads t).1 (to.0, (to.1, record { push = λ p. absurd (no_push q p); pop = λ p. absurd (no_pop q p); other = λ np nq. to.2 })))
        takes f e s x = grind arith

    decides_successors : Decides (next_sound P.count L (flow i) a && target_sound P.count L (flow i) a) (SoundSuccessors P a)
    decides_successors = Decides-like _ (λ h. record { next = h.0; target = h.1 }) (λ h. (h.next, h.target)) (Decides-and _ _ decides_next decides_target)

    decides_stat : Decides (stat_sound i (kind_at P a)) (WritesStat P a → (kind_at P a ≡ Some Background) ⊎ (kind_at P a ≡ Some Open))
    decides_stat =
        Decides-like _ (λ f w. f (ap destination (is_it w.0 w.1) ∙ w.2)) (λ f e. f (i, at, e))
        (decides_implies _ _ (decides_writes_stat (destination i)) (Decides-or _ _ (decides_is (kind_at P a) Background) (decides_is (kind_at P a) Open)))

    -- the callee's line names its record
    decides_call : ((k : ℕ) → Chained T k → EntryLine P k) → Decides (call_sound T L (flow i) a) ((t : ℕ) → At P a (Call (Address t)) → SoundCall P a t)
    decides_call entries = (gives, takes (flow i) (shape i))
      where
        decides_callable : (t k : ℕ) → Decides (callable T L a t k) ((Chained T k × (entry T k ≡ t)) × (MayCall (kind_at P a) (kind T k) × (height_at P a + 1 + need T k ≤ need T (owner_of P a))))
        decides_callable t k = Decides-and _ _ (Decides-and _ _ (decides_chained T k) (Decides-eqb (entry T k) t)) (Decides-and _ _ (decides_may_call (kind_at P a) (kind T k)) (decides_leb _ _))

        gives : call_sound T L (flow i) a ≡ true → (t : ℕ) → At P a (Call (Address t)) → SoundCall P a t
        gives e t q =
            let to = ap (λ f. if_some (call_target f) (callee_sound T L a)) (flows (Call (Address t)) q) in
            let x = (decides_callable t (owner L t)).0 (sym to ∙ e) in
            record { callee = owner L t; reached = x.0.0; entered = x.0.1; kinds = x.1.0; words = x.1.1 }

        named : (t : ℕ) → SoundCall P a t → callee_sound T L a t ≡ true
        named t x =
            let k = x.callee in
            let at_entry : line L (entry T k) ≡ 32 * k = (entries k x.reached).1 in
            let at_target : line L t ≡ 32 * k = subst (λ u. line L u ≡ 32 * k) x.entered at_entry in
            let same : k ≡ owner L t = omega arith in
            subst (λ j. callable T L a t j ≡ true) same ((decides_callable t k).1 ((x.reached, x.entered), (x.kinds, x.words)))

        takes : (f : Flow) → Shape f i → ((t : ℕ) → At P a (Call (Address t)) → SoundCall P a t) → call_sound T L f a ≡ true
        takes (call (Address t)) s x = named t (x t (there s))
        takes f s x = grind arith

  module _ (lt : a < P.count) where
    abbrev Sound : LineRule → Bool
    Sound rule = is_ok (line_checked rule P.count T L (P.word a) a)

    pub owner_decided : Decides (Sound Owner) (Owned P a → SoundOwner P a)
    owner_decided = owned _ _ lt decides_owner

    pub word_decided : Decides (Sound Word) (Owned P a → Permitted P a)
    word_decided = owned _ _ lt decides_word

    pub stack_decided : Decides (Sound StackUse) (Owned P a → SoundStack P a)
    stack_decided = owned _ _ lt (defined _ StackUse _ decides_stack (λ none. record { pop = λ q. absurd (none Pop q); ret = λ q. absurd (none Ret q); reti = λ q. absurd (none Reti q) }))

    pub successors_decided : Decides (Sound Successors) (Owned P a → SoundSuccessors P a)
    successors_decided = owned _ _ lt (defined _ Successors _ decides_successors (λ none. record { next = λ on. absurd (none on.instruction on.at); target = λ cc t q. absurd (none (Jump cc (Address t)) q) }))

    pub call_decided : ((k : ℕ) → Chained T k → EntryLine P k) → Decides (Sound Callee) (Owned P a → (t : ℕ) → At P a (Call (Address t)) → SoundCall P a t)
    call_decided entries = owned _ _ lt (defined _ Callee _ (λ i at. decides_call i at entries) (λ none t q. absurd (none (Call (Address t)) q)))

    pub stat_decided : Decides (Sound StatWrite) (Owned P a → WritesStat P a → (kind_at P a ≡ Some Background) ⊎ (kind_at P a ≡ Some Open))
    stat_decided = owned _ _ lt (defined _ StatWrite _ decides_stat (λ none w. absurd (none w.0 w.1)))
