-- What the rules are tested by decides what they say, and the first one that is broken is found.
-- Assumes nothing.
use Rattle.std.proofs.Common.{◌≡◌, ℕ, ◌+◌, ◌-◌, ◌*◌, ◌<◌, ◌≤◌, max, Bool, true, false, not, ◌&&◌, eqb, leb, ◌⊎◌, List, [], ◌∷◌, get_or, Some, None, Err, Decides, Option, Result, sym, refl, ap, ◌∙◌, subst, inl, inr, ⊎_elim, arith, rules as steps}
use Rattle.std.proofs.lemmas.Bool.{false≢true, and_parts, eqb-true, not-true, not-false, cases_lt, cases_eq}
use Rattle.std.proofs.lemmas.Bool.Decides.{Decides-at, Decides-eqb, Decides-ltb, Decides-and, Decides-like}
use Rattle.platform.specs.Description.{in_limits, InLimits}
use Rattle.platform.specs.declared.description.CoreDescription.{CoreDescription}
use Rattle.platform.proofs.Search.{none_gives, some_gives}
use Rattle.admission.specs.Admission.{places, roles, fits, sound, broken, fault, unless_at, checked}
use Rattle.admission.specs.Chain.{OnChain, linked}
use Rattle.admission.specs.Laws.{Before, AllHold, FirstBreak}
use Rattle.admission.specs.Program.{Program}
use Rattle.admission.specs.Refusals.{rules, rule_number}
use Rattle.admission.specs.Roles.{level, deepest}
use Rattle.admission.specs.Rules.{Routine, Sized, Linked, Entered, Owned, FitsDepth, Holds, Deepest}
use Rattle.admission.specs.Tables.{records, entry, kind, need, line}
use Rattle.admission.specs.Tests.{sized}
use Rattle.admission.specs.declared.faults.Fault.{Fault}
use Rattle.admission.specs.declared.kinds.Kind.TheVariants.{Interrupt}
use Rattle.admission.specs.declared.roles.Roles.{Roles}
use Rattle.admission.specs.declared.rules.LineRule.{LineRule}
use Rattle.admission.specs.declared.rules.LineRule.TheVariants.{Owner, Word, StackUse, Successors, Callee, StatWrite}
use Rattle.admission.specs.declared.rules.RecordRule.TheVariants.{Kinds, EntryLines}
use Rattle.admission.specs.declared.rules.Rule.{Rule}
use Rattle.admission.specs.declared.rules.Rule.TheVariants.{Description, Sizes, Chain, Record, Entries, Line, Depth}
use Rattle.admission.proofs.Assigned.{Filled, roles_filled, filled_entered, entered_roles}
use Rattle.admission.proofs.Chains.{decides_chained, decides_on_chain, low_on}
use Rattle.admission.proofs.Deciding.{decides_leb, decides_implies, decides_is_some}
use Rattle.admission.proofs.LineRules.{owner_decided, word_decided, stack_decided, successors_decided, call_decided, stat_decided}

limits_decided : (d : CoreDescription) → Decides (in_limits d) (InLimits d)
limits_decided d = search steps

-- each rule has a number of its own
abbrev Numbered : Rule → Type 0
Numbered rule = (1 ≤ rule_number rule) × (rule_number rule < 14) × (get_or rules (rule_number rule - 1) Depth ≡ rule)

pub numbered : (rule : Rule) → Numbered rule
numbered rule = (grind arith, grind arith, grind arith)

pub same_rule : (q r : Rule) → rule_number q ≡ rule_number r → q ≡ r
same_rule q r e = sym (numbered q).2 ∙ ap (λ n. get_or rules (n - 1) Depth) e ∙ (numbered r).2

-- the list has the rules from number low on, in their order
abbrev pub in_order : ℕ → List Rule → Bool
in_order low [] = eqb low 14
in_order low (r ∷ rs) = eqb (rule_number r) low && in_order (low + 1) rs

module _ (P : Program) where
  abbrev pub T : List ℕ
  T = P.table

  -- at each of its places the test decides what the rule says, and elsewhere the rule says nothing
  abbrev Judged : Rule → Type 0
  Judged rule = (p : ℕ) → (p < places rule P → Decides (sound rule P p) (Holds P rule p)) × (places rule P ≤ p → Holds P rule p)

  -- a rule without places is tested at 0
  placeless : {X : Type 0} (b : Bool) → Decides b X → (p : ℕ) → (p < 1 → Decides b (p ≡ 0 → X)) × (1 ≤ p → p ≡ 0 → X)
  placeless b d p = (λ lt. Decides-like b (λ x z. x) (λ f. f (omega arith)) d, λ some z. absurd (omega arith))

  sizes_decided : Decides (sized P.count T P.lines) (Sized P)
  sizes_decided = search steps

  linked_decided : (k : ℕ) → Decides (linked T k) (Linked P k)
  linked_decided k = search steps

  far : {X : Type 0} {p : ℕ} → records T + 1 ≤ p → OnChain T p → X
  far ge on = let low = low_on T on in absurd (omega arith)

  module _ (r : Roles) (f : Filled P r) where
    at_most : (i : ℕ) → i < 3 → need T (level r i) ≤ max (need T (level r 0)) (max (need T (level r 1)) (need T (level r 2)))
    at_most i lt = grind arith

    -- every interrupt routine is one of the three
    largest : (k : ℕ) → Routine P Interrupt k → need T k ≤ max (need T (level r 0)) (max (need T (level r 1)) (need T (level r 2)))
    largest k h =
        let t = f.three k h in
        let up = at_most t.0 t.1 in
        let same = ap (need T) t.2 in
        omega arith

    depth_decided : Decides (leb (deepest T r) P.description.depth) (FitsDepth P)
    depth_decided =
        Decides-like _ (λ le b k hb hk. let same = ap (need T) (f.one b hb) in let up = largest k hk in omega arith)
        (λ h.
        let b = f.first.0 in
        let h0 = h r.background (level r 0) b (f.vectors 0 (omega arith)).0 in
        let h1 = h r.background (level r 1) b (f.vectors 1 (omega arith)).0 in
        let h2 = h r.background (level r 2) b (f.vectors 2 (omega arith)).0 in
        omega arith)
        (decides_leb (deepest T r) P.description.depth)

    -- the level that needs most
    most : (i : ℕ) × (i < 3) × (need T (level r i) ≡ max (need T (level r 0)) (max (need T (level r 1)) (need T (level r 2))))
    most =
        ⊎_elim (λ l01. ⊎_elim (λ l12. (2, omega arith, omega arith)) (λ g12. (1, omega arith, omega arith)) (cases_lt (need T (level r 1)) (need T (level r 2))))
        (λ g01. ⊎_elim (λ l02. (2, omega arith, omega arith)) (λ g02. (0, omega arith, omega arith)) (cases_lt (need T (level r 0)) (need T (level r 2))))
        (cases_lt (need T (level r 0)) (need T (level r 1)))

    pub is_deepest : Deepest P (deepest T r)
    is_deepest =
        let top = most.2 in
        record {
          background = r.background;
          is_background = f.first.0;
          interrupt = level r most.0;
          is_interrupt = (f.vectors most.0 most.1).0;
          sum = omega arith;
          largest = λ k h. let up = largest k h in omega arith;
        }

  -- a program has one depth
  pub one_depth : Entered P → (d e : ℕ) → Deepest P d → Deepest P e → d ≡ e
  one_depth h d e x y =
      let same = ap (need T) (h.one x.background x.is_background ∙ sym (h.one y.background y.is_background)) in
      let up = x.largest y.interrupt y.is_interrupt in
      let down = y.largest x.interrupt x.is_interrupt in
      let sx = x.sum in
      let sy = y.sum in
      omega arith

  judged : (rule : Rule) → Before P rule → Judged rule
  judged Description before = placeless _ (limits_decided P.description)
  judged Sizes before = placeless _ sizes_decided
  judged Chain before = λ p. (λ lt. decides_implies _ _ (decides_on_chain T p) (linked_decided p), λ ge on. far ge on)
  judged (Record Kinds) before = λ p. (λ lt. decides_implies _ _ (decides_chained T p) (Decides-and _ _ (decides_is_some (kind T p)) (decides_leb (need T p) 16)), λ ge h. far ge h.0)
  judged Entries before = placeless _ ((λ e. let r = (decides_is_some (roles P)).0 e in filled_entered P r.0 (roles_filled P r.0 r.1)), λ h. (decides_is_some (roles P)).1 (entered_roles P (before Description (omega arith) 0 refl) h))
  judged (Record EntryLines) before = λ p. (λ lt. decides_implies _ _ (decides_chained T p) (Decides-and _ _ (Decides-ltb (entry T p) P.count) (Decides-eqb (line P.lines (entry T p)) (32 * p))), λ ge h. far ge h.0)
  judged (Line rule) before = λ p. (λ lt. let all = lines.lines in (by rule before p).1 (omega arith), λ ge. (by rule before p).2 (λ h. let all = lines.lines in let low = h.0 in omega arith))
    where
      -- the rule comes after that on sizes, is decided at each word, and says nothing elsewhere
      by : (rule : LineRule) → Before P (Line rule) → (p : ℕ) → (rule_number Sizes < rule_number (Line rule)) × (p < P.count → Decides (sound (Line rule) P p) (Holds P (Line rule) p)) × ((Owned P p → ⊥) → Holds P (Line rule) p)
      by Owner before p = (omega arith, owner_decided P p, λ none h. absurd (none h))
      by Word before p = (omega arith, word_decided P p, λ none h. absurd (none h))
      by StackUse before p = (omega arith, stack_decided P p, λ none h. absurd (none h))
      by Successors before p = (omega arith, successors_decided P p, λ none h. absurd (none h))
      by Callee before p = (omega arith, (λ lt. call_decided P p lt (λ k on. before (Record EntryLines) (omega arith) k on)), λ none h. absurd (none h))
      by StatWrite before p = (omega arith, stat_decided P p, λ none h. absurd (none h))

      lines : Sized P
      lines = before Sizes (by rule before 0).0 0 refl
  judged Depth before =
      let r = entered_roles P (before Description (omega arith) 0 refl) (before Entries (omega arith) 0 refl) in
      placeless _ (Decides-at _ _ (ap (fits T P.description.depth) r.1) (depth_decided r.0 (roles_filled P r.0 r.1)))

  abbrev pub Held : Rule → Type 0
  Held rule = (p : ℕ) → Holds P rule p

  module _ (rule : Rule) (j : Judged rule) where
    abbrev fails : ℕ → Bool
    fails p = not (sound rule P p)

    passed_at : (p : ℕ) → p < places rule P → fails p ≡ false → Holds P rule p
    passed_at p lt e = ((j p).0 lt).0 (not-false (sound rule P p) e)

    held_from : broken rule P ≡ None → Held rule
    held_from none p = ⊎_elim (λ lt. passed_at p lt (none_gives fails (places rule P) none p lt)) (λ ge. (j p).1 ge) (cases_lt p (places rule P))

    breaks_from : (before : Before P rule) (p : ℕ) → broken rule P ≡ Some p → FirstBreak P rule p
    breaks_from before p some =
        let got = some_gives fails (places rule P) p some in
        let low = got.0 in
        record {
          before = before;
          below = λ q lt. passed_at q (omega arith) (got.1 q lt);
          breaks = λ h. false≢true (sym (not-true (sound rule P p) got.2) ∙ ((j p).0 got.0).1 h);
        }

  abbrev pub BeforeAll : ℕ → Type 0
  BeforeAll low = (q : Rule) → rule_number q < low → Held q

  abbrev pub Outcome : List Rule → Result ℕ Fault → Type 0
  Outcome rs last = (AllHold P × (checked rs P last ≡ last)) ⊎ ((rule : Rule) × (p : ℕ) × FirstBreak P rule p × (checked rs P last ≡ Err (fault rule P p)))

  pub outcome : (low : ℕ) (rs : List Rule) (last : Result ℕ Fault) → in_order low rs ≡ true → BeforeAll low → Outcome rs last
  outcome low [] last all before = inl (λ q p. let few = (numbered q).1 in let end = eqb-true low 14 all in before q (omega arith) p, refl)
  outcome low (r ∷ rs) last order before = by (outcome (low + 1) rs last parts.1) (broken r P) refl
    where
      parts : (eqb (rule_number r) low ≡ true) × (in_order (low + 1) rs ≡ true)
      parts = and_parts _ _ order

      is_low : rule_number r ≡ low
      is_low = eqb-true (rule_number r) low parts.0

      here : Before P r
      here q lt = before q (omega (arith, is_low))

      by : (BeforeAll (low + 1) → Outcome rs last) → (o : Option ℕ) → broken r P ≡ o → Outcome (r ∷ rs) last
      by rest None none =
          let held = held_from r (judged r here) none in
          let same = ap (λ o. unless_at o (fault r P) (checked rs P last)) none in
          ⊎_elim (λ h. inl (h.0, same ∙ h.1)) (λ h. inr (h.0, h.1, h.2, same ∙ h.3))
          (rest (λ q lt. ⊎_elim (λ e. subst Held (sym (same_rule q r (e ∙ sym is_low))) held) (λ other. before q (omega arith)) (cases_eq (rule_number q) low)))
      by rest (Some p) some = inr (r, p, breaks_from r (judged r here) here p some, ap (λ o. unless_at o (fault r P) (checked rs P last)) some)
