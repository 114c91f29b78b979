-- A code names what it is the code of, and nothing else. Where all cases of a lemma have one proof, its second clause stands for all
-- but the first, and is checked at each.
-- Assumes nothing.
use Rattle.std.proofs.Common.{◌≡◌, ℕ, ◌+◌, ◌*◌, ◌^◌, ◌<◌, true, cond, eqb, ltb, List, [], ◌∷◌, Some, unwrap_or, refl, ap, subst, ◌∙◌, arith, lit<}
use Rattle.std.proofs.lemmas.Bool.{agree_below, agree_below_at, eqb-true, ltb-true}
use Rattle.words.specs.Bits.{low, bits}
use Rattle.words.specs.Codes.{find, register_code, registers, register, index_code, index_registers, index, condition_code, conditions, condition, division_code, divisions, operation_code, operations}
use Rattle.words.specs.declared.conditions.Condition.{Condition}
use Rattle.words.specs.declared.conditions.Condition.TheVariants.{CarryClear, Event}
use Rattle.words.specs.declared.divisions.Division.{Division}
use Rattle.words.specs.declared.divisions.Division.TheVariants.{Undivided}
use Rattle.words.specs.Forms.{has_form}
use Rattle.words.specs.declared.operations.Form.TheVariants.{Immediate}
use Rattle.words.specs.declared.operations.Operation.{Operation}
use Rattle.words.specs.declared.operations.Operation.TheVariants.{Cmpa}
use Rattle.words.specs.declared.registers.IndexRegister.{IndexRegister}
use Rattle.words.specs.declared.registers.IndexRegister.TheVariants.{I0, I3}
use Rattle.words.specs.declared.registers.Register.{Register}
use Rattle.words.specs.declared.registers.Register.TheVariants.{I0l, A}
use Rattle.words.proofs.Fields.{field, lowest}

-- How the codes of a field name the values of X: each value is found under its own code, which fits the field.
pub record Naming (X : Type 0) : Type 0 where
  pub width : ℕ
  pub code : X → ℕ
  pub all : List X
  pub stands : (x : X) → (code x < 2 ^ width) × (find code all (code x) ≡ Some x)

-- what is found under a code has that code
pub find_code : {X : Type 0} (code : X → ℕ) (xs : List X) (n : ℕ) (x : X) → find code xs n ≡ Some x → code x ≡ n
find_code code [] n x e = grind arith
find_code code (y ∷ xs) n x e = grind (arith, find_code code xs n x)

module _ {X : Type 0} (N : Naming X) where
  pub found : (n : ℕ) (x : X) → n ≡ N.code x → find N.code N.all n ≡ Some x
  found n x e = ap (find N.code N.all) e ∙ (N.stands x).1

  -- x stands in the field from bit k on, with p above it and rest below it
  pub found_at : (w k p rest : ℕ) (x : X) → w ≡ (p * 2 ^ N.width + N.code x) * 2 ^ k + rest → rest < 2 ^ k → find N.code N.all (bits w k N.width) ≡ Some x
  found_at w k p rest x e lt = found (bits w k N.width) x (field w k N.width p (N.code x) rest e (N.stands x).0 lt)

  -- x stands in the lowest field, with p above it
  pub found_low : (w p : ℕ) (x : X) → w ≡ p * 2 ^ N.width + N.code x → find N.code N.all (low w N.width) ≡ Some x
  found_low w p x e = found (low w N.width) x (lowest w N.width p (N.code x) e (N.stands x).0)

-- where each value of the field is a code, the d that stands in for a missing name is never taken
every_code : {X : Type 0} (code : X → ℕ) (all : List X) (d : X) (n : ℕ) → agree_below (λ k. eqb (code (unwrap_or (find code all k) d)) k) (λ k. true) n ≡ true → (k : ℕ) → k < n → code (unwrap_or (find code all k) d) ≡ k
every_code code all d n t k lt = eqb-true _ _ (agree_below_at (λ k. eqb (code (unwrap_or (find code all k) d)) k) (λ k. true) n k t lt)

pub register_stands : (x : Register) → (register_code x < 2 ^ 4) × (find register_code registers (register_code x) ≡ Some x)
register_stands I0l = (lit< tt, refl)
register_stands x = (lit< tt, refl)

abbrev pub by_register : Naming Register
by_register = record { width = 4; code = register_code; all = registers; stands = register_stands }

pub index_stands : (x : IndexRegister) → (index_code x < 2 ^ 2) × (find index_code index_registers (index_code x) ≡ Some x)
index_stands I0 = (lit< tt, refl)
index_stands x = (lit< tt, refl)

abbrev pub by_index : Naming IndexRegister
by_index = record { width = 2; code = index_code; all = index_registers; stands = index_stands }

pub condition_stands : (x : Condition) → (condition_code x < 2 ^ 3) × (find condition_code conditions (condition_code x) ≡ Some x)
condition_stands CarryClear = (lit< tt, refl)
condition_stands x = (lit< tt, refl)

abbrev pub by_condition : Naming Condition
by_condition = record { width = 3; code = condition_code; all = conditions; stands = condition_stands }

pub division_stands : (x : Division) → (division_code x < 2 ^ 4) × (find division_code divisions (division_code x) ≡ Some x)
division_stands Undivided = (lit< tt, refl)
division_stands x = (lit< tt, refl)

abbrev pub by_division : Naming Division
by_division = record { width = 4; code = division_code; all = divisions; stands = division_stands }

pub operation_stands : (x : Operation) → (operation_code x < 2 ^ 5) × (find operation_code operations (operation_code x) ≡ Some x)
operation_stands Cmpa = (lit< tt, refl)
operation_stands x = (lit< tt, refl)

abbrev pub by_operation : Naming Operation
by_operation = record { width = 5; code = operation_code; all = operations; stands = operation_stands }

pub register_code-register : (n : ℕ) → n < 16 → register_code (register n) ≡ n
register_code-register = every_code register_code registers A 16 refl

pub index_code-index : (n : ℕ) → n < 4 → index_code (index n) ≡ n
index_code-index = every_code index_code index_registers I3 4 refl

pub condition_code-condition : (n : ℕ) → n < 8 → condition_code (condition n) ≡ n
condition_code-condition = every_code condition_code conditions Event 8 refl

-- four bits hold the code of an operation that the immediate form has
immediate_fits : (x : Operation) → cond (has_form x Immediate) (ltb (operation_code x) 16) true ≡ true
immediate_fits Cmpa = refl
immediate_fits x = refl

pub immediate_below : (x : Operation) → has_form x Immediate ≡ true → operation_code x < 16
immediate_below x h = ltb-true _ _ (subst (λ has. cond has (ltb (operation_code x) 16) true ≡ true) h (immediate_fits x))
