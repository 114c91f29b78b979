-- The records that are found for the background and the levels are the only ones of their kinds.
-- Assumes nothing.
use Rattle.std.proofs.Common.{◌≡◌, ℕ, zero, suc, ◌+◌, ◌<◌, Bool, true, false, cond, ◌⊎◌, List, [], ◌∷◌, is_some, Some, None, Decides, Option, sym, refl, ap, ◌∙◌, subst, inl, inr, ⊎_elim, arith}
use Rattle.std.proofs.lemmas.Bool.{false_from_ne_true, cases_eq, cases_order}
use Rattle.std.proofs.lemmas.Bool.Decides.{Decides-eqb, Decides-and, Decides-or, Decides-not, not_from_Decides}
use Rattle.std.proofs.lemmas.Option.{none-some, same_Some}
use Rattle.platform.specs.Description.{vector, InLimits}
use Rattle.platform.specs.Lowest.{lowest}
use Rattle.platform.proofs.Search.{none_from, none_gives, some_gives}
use Rattle.admission.specs.Admission.{roles}
use Rattle.admission.specs.Chain.{Chained}
use Rattle.admission.specs.Program.{Program}
use Rattle.admission.specs.Roles.{in_role, found, level, stray, strays, joint}
use Rattle.admission.specs.Rules.{Routine, Entered}
use Rattle.admission.specs.Tables.{records, entry, kind}
use Rattle.admission.specs.declared.kinds.Kind.{Kind}
use Rattle.admission.specs.declared.kinds.Kind.TheVariants.{Background, Interrupt}
use Rattle.admission.specs.declared.roles.Roles.{Roles}
use Rattle.admission.proofs.Chains.{decides_chained, low_on}
use Rattle.admission.proofs.Deciding.{decides_is}

module _ (P : Program) where
  abbrev T : List ℕ
  T = P.table

  -- the roles r are filled, each by a record of its kind and entry, and no other record has one of these kinds
  pub record Filled (r : Roles) : Type 0 where
    pub first : Routine P Background r.background × (entry T r.background ≡ 0)
    pub one : (k : ℕ) → Routine P Background k → k ≡ r.background
    pub vectors : (i : ℕ) → i < 3 → Routine P Interrupt (level r i) × (entry T (level r i) ≡ vector P.description i)
    pub three : (k : ℕ) → Routine P Interrupt k → (i : ℕ) × (i < 3) × (k ≡ level r i)

  decides_role : (κ : Kind) (e k : ℕ) → Decides (in_role T κ e k) (Chained T k × ((kind T k ≡ Some κ) × (entry T k ≡ e)))
  decides_role κ e k = Decides-and _ _ (decides_chained T k) (Decides-and _ _ (decides_is (kind T k) κ) (Decides-eqb (entry T k) e))

  in_role_lem : (κ : Kind) (e k : ℕ) → found T κ e ≡ Some k → Routine P κ k × (entry T k ≡ e)
  in_role_lem κ e k at = let h = (decides_role κ e k).0 (some_gives (in_role T κ e) (records T + 1) k at).2 in ((h.0, h.1.0), h.1.1)

  -- where a record has the role, one is found
  is_found : (κ : Kind) (e k : ℕ) → Routine P κ k → entry T k ≡ e → (j : ℕ) × (found T κ e ≡ Some j)
  is_found κ e k routine at = by (found T κ e) refl
    where
      by : (o : Option ℕ) → found T κ e ≡ o → (j : ℕ) × (found T κ e ≡ Some j)
      by (Some j) is_it = (j, is_it)
      by None gone =
          let low = low_on T routine.0.0 in
          absurd (not_from_Decides (in_role T κ e k) (decides_role κ e k) (none_gives (in_role T κ e) (records T + 1) gone k (omega arith)) (routine.0, (routine.1, at)))

  module _ (r : Roles) where
    abbrev Another : ℕ → Type 0
    Another k = Chained T k × (((kind T k ≡ Some Background) × (k ≡ r.background → ⊥)) ⊎ ((kind T k ≡ Some Interrupt) × ((k ≡ level r 0) ⊎ ((k ≡ level r 1) ⊎ (k ≡ level r 2)) → ⊥)))

    decides_stray : (k : ℕ) → Decides (stray T r k) (Another k)
    decides_stray k =
        Decides-and _ _ (decides_chained T k)
        (Decides-or _ _ (Decides-and _ _ (decides_is (kind T k) Background) (Decides-not _ (Decides-eqb k r.background)))
        (Decides-and _ _ (decides_is (kind T k) Interrupt) (Decides-not _ (Decides-or _ _ (Decides-eqb k (level r 0)) (Decides-or _ _ (Decides-eqb k (level r 1)) (Decides-eqb k (level r 2)))))))

    -- no chained record is a stray
    no_other : strays T r ≡ false → (k : ℕ) → Another k → ⊥
    no_other none k h =
        let low = low_on T h.0.0 in
        not_from_Decides (stray T r k) (decides_stray k) (none_gives (stray T r) (records T + 1) (gone (lowest (stray T r) (records T + 1)) none) k (omega arith)) h
      where
        gone : (o : Option ℕ) → is_some o ≡ false → o ≡ None
        gone o e = grind arith

    none_other : ((k : ℕ) → Another k → ⊥) → strays T r ≡ false
    none_other none = ap is_some (none_from (stray T r) (records T + 1) (λ k lt. false_from_ne_true (stray T r k) (λ t. none k ((decides_stray k).0 t))))

  abbrev four : ℕ → ℕ → ℕ → ℕ → Roles
  four b l0 l1 l2 = record { background = b; levels = l0 ∷ l1 ∷ l2 ∷ [] }

  abbrev v : ℕ → ℕ
  v i = vector P.description i

  module _ (b l0 l1 l2 : ℕ) (fb : found T Background 0 ≡ Some b) (f0 : found T Interrupt (v 0) ≡ Some l0) (f1 : found T Interrupt (v 1) ≡ Some l1) (f2 : found T Interrupt (v 2) ≡ Some l2) where
    at_level : (i : ℕ) → i < 3 → Routine P Interrupt (level (four b l0 l1 l2) i) × (entry T (level (four b l0 l1 l2) i) ≡ v i)
    at_level zero lt = in_role_lem Interrupt (v 0) l0 f0
    at_level (suc zero) lt = in_role_lem Interrupt (v 1) l1 f1
    at_level (suc (suc zero)) lt = in_role_lem Interrupt (v 2) l2 f2
    at_level (suc (suc (suc i))) lt = absurd (omega arith)

    filled : strays T (four b l0 l1 l2) ≡ false → Filled (four b l0 l1 l2)
    filled none = record {
      first = in_role_lem Background 0 b fb;
      one = λ k h. ⊎_elim (λ e. e) (λ other. absurd (no_other (four b l0 l1 l2) none k (h.0, inl (h.1, other)))) (cases_eq k b);
      vectors = at_level;
      three = λ k h. three k h (cases_eq k l0) (cases_eq k l1) (cases_eq k l2);
    }
      where
        three : (k : ℕ) → Routine P Interrupt k → (k ≡ l0) ⊎ (k ≡ l0 → ⊥) → (k ≡ l1) ⊎ (k ≡ l1 → ⊥) → (k ≡ l2) ⊎ (k ≡ l2 → ⊥) → (i : ℕ) × (i < 3) × (k ≡ level (four b l0 l1 l2) i)
        three k h (inl e) c1 c2 = (0, omega arith, e)
        three k h (inr n0) (inl e) c2 = (1, omega arith, e)
        three k h (inr n0) (inr n1) (inl e) = (2, omega arith, e)
        three k h (inr n0) (inr n1) (inr n2) = absurd (no_other (four b l0 l1 l2) none k (h.0, inr (h.1, ⊎_elim n0 (⊎_elim n1 n2))))

  pub roles_filled : (r : Roles) → roles P ≡ Some r → Filled r
  roles_filled r e = by (found T Background 0) refl (found T Interrupt (v 0)) refl (found T Interrupt (v 1)) refl (found T Interrupt (v 2)) refl e
    where
      by : (ob : Option ℕ) → found T Background 0 ≡ ob → (o0 : Option ℕ) → found T Interrupt (v 0) ≡ o0 → (o1 : Option ℕ) → found T Interrupt (v 1) ≡ o1 → (o2 : Option ℕ) → found T Interrupt (v 2) ≡ o2 → joint T ob o0 o1 o2 ≡ Some r → Filled r
      by None eb o0 e0 o1 e1 o2 e2 j = absurd (none-some _ j)
      by (Some b) eb None e0 o1 e1 o2 e2 j = absurd (none-some _ j)
      by (Some b) eb (Some l0) e0 None e1 o2 e2 j = absurd (none-some _ j)
      by (Some b) eb (Some l0) e0 (Some l1) e1 None e2 j = absurd (none-some _ j)
      by (Some b) eb (Some l0) e0 (Some l1) e1 (Some l2) e2 j = whole (strays T (four b l0 l1 l2)) refl j
        where
          whole : (s : Bool) → strays T (four b l0 l1 l2) ≡ s → cond s None (Some (four b l0 l1 l2)) ≡ Some r → Filled r
          whole true es j = absurd (none-some _ j)
          whole false es j = subst Filled (same_Some _ _ j) (filled b l0 l1 l2 eb e0 e1 e2 es)

  pub filled_entered : (r : Roles) → Filled r → Entered P
  filled_entered r f = record { background = r.background; first = f.first; one = f.one; level = level r; vectors = f.vectors; three = f.three }

  module _ (limits : InLimits P.description) (h : Entered P) where
    -- vectors differ, so a vector has one level
    same_level : (i j : ℕ) → i < 3 → j < 3 → v i ≡ v j → i ≡ j
    same_level i j li lj e = ⊎_elim (λ s. s) (⊎_elim (λ lt. absurd (limits.apart i j lt lj e)) (λ gt. absurd (limits.apart j i gt li (sym e)))) (cases_order i j)

    only_one : (i k : ℕ) → i < 3 → Routine P Interrupt k → entry T k ≡ v i → k ≡ h.level i
    only_one i k lt routine at =
        let t = h.three k routine in
        let e = sym (h.vectors t.0 t.1).1 ∙ ap (entry T) (sym t.2) ∙ at in
        t.2 ∙ ap h.level (same_level t.0 i t.1 lt e)

    pub entered_roles : (r : Roles) × (roles P ≡ Some r)
    entered_roles =
        let fb = is_found Background 0 h.background h.first.0 h.first.1 in
        let f0 = is_found Interrupt (v 0) (h.level 0) (h.vectors 0 (omega arith)).0 (h.vectors 0 (omega arith)).1 in
        let f1 = is_found Interrupt (v 1) (h.level 1) (h.vectors 1 (omega arith)).0 (h.vectors 1 (omega arith)).1 in
        let f2 = is_found Interrupt (v 2) (h.level 2) (h.vectors 2 (omega arith)).0 (h.vectors 2 (omega arith)).1 in
        (four fb.0 f0.0 f1.0 f2.0, together fb.0 f0.0 f1.0 f2.0 fb.1 f0.1 f1.1 f2.1)
      where
        together : (b l0 l1 l2 : ℕ) → found T Background 0 ≡ Some b → found T Interrupt (v 0) ≡ Some l0 → found T Interrupt (v 1) ≡ Some l1 → found T Interrupt (v 2) ≡ Some l2 → roles P ≡ Some (four b l0 l1 l2)
        together b l0 l1 l2 eb e0 e1 e2 = rw (eb, e0, e1, e2, none_other (four b l0 l1 l2) none)
          where
            is_level : (k i : ℕ) → i < 3 → (l : ℕ) → found T Interrupt (v i) ≡ Some l → k ≡ h.level i → k ≡ l
            is_level k i lt l e same = let r = in_role_lem Interrupt (v i) l e in same ∙ sym (only_one i l lt r.0 r.1)

            at : (k : ℕ) → (i : ℕ) → i < 3 → k ≡ h.level i → (k ≡ l0) ⊎ ((k ≡ l1) ⊎ (k ≡ l2))
            at k zero lt same = inl (is_level k 0 lt l0 e0 same)
            at k (suc zero) lt same = inr (inl (is_level k 1 lt l1 e1 same))
            at k (suc (suc zero)) lt same = inr (inr (is_level k 2 lt l2 e2 same))
            at k (suc (suc (suc i))) lt same = absurd (omega arith)

            none : (k : ℕ) → Another (four b l0 l1 l2) k → ⊥
            none k (on, inl (κ, other)) = other (h.one k (on, κ) ∙ sym (h.one b (in_role_lem Background 0 b eb).0))
            none k (on, inr (κ, other)) = let t = h.three k (on, κ) in other (at k t.0 t.1 t.2)
