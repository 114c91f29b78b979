-- A word that fits the row of an instruction is read as that instruction.
-- Assumes nothing.
use Rattle.std.proofs.Common.{◌≡◌, ℕ, ◌+◌, ◌-◌, ◌*◌, ◌^◌, ◌<◌, ◌≤◌, true, false, cond, ltb, leb, length, get_or, Some, None, Ok, Option, unwrap_or, refl, ap, ◌∙◌, arith, lit<}
use Rattle.std.proofs.lemmas.Bool.{ltb-true, leb-true, eq-eqb, ne_eqb, and_parts, cond-true, cond-false}
use Rattle.std.specs.Option.{option_map, ok_or}
use Rattle.words.specs.Bits.{low, bits, inverted, inverted_bits}
use Rattle.words.specs.Codes.{register_code, register, index_code, index, condition_code, condition, operation_code}
use Rattle.words.specs.Decoding.{rows, reading, operation_in, alu_memory, registers_of, stepped, decoded}
use Rattle.words.specs.Encoding.{alu_fields}
use Rattle.words.specs.Forms.{Kind, kind, in_form, has_form}
use Rattle.words.specs.Laws.{WordOf}
use Rattle.words.specs.declared.addresses.MemoryAddress.{MemoryAddress}
use Rattle.words.specs.declared.addresses.MemoryAddress.TheVariants.{Direct, Offset, OffsetR3, PostIncrement, PreDecrement}
use Rattle.words.specs.declared.conditions.Condition.{Condition}
use Rattle.words.specs.declared.conditions.Condition.TheVariants.{Event}
use Rattle.words.specs.declared.errors.DecodeError.TheVariants.{Reserved}
use Rattle.words.specs.declared.instructions.Instruction.{Instruction}
use Rattle.words.specs.declared.instructions.Instruction.TheVariants.{Nop, Halt, Sflag, Freq, Push, Pop, Ret, Reti, Jump, Call, Calls, AluMemory, AluImmediate, AluOneSource, AluTwoSources, Store, StoreImmediate}
use Rattle.words.specs.declared.instructions.Target.TheVariants.{Address, Ip}
use Rattle.words.specs.declared.operations.Form.{Form}
use Rattle.words.specs.declared.operations.Form.TheVariants.{Memory, Immediate, OneSource, TwoSources}
use Rattle.words.specs.declared.operations.Operation.{Operation}
use Rattle.words.specs.declared.registers.IndexRegister.{IndexRegister}
use Rattle.words.specs.declared.registers.IndexRegister.TheVariants.{I3}
use Rattle.words.specs.declared.registers.Register.{Register}
use Rattle.words.specs.declared.registers.Register.TheVariants.{A}
use Rattle.words.proofs.Fields.{field, lowest}
use Rattle.words.proofs.Names.{by_register, by_index, by_condition, by_division, by_operation, found, found_at, found_low, immediate_below}
use Rattle.words.proofs.Fitting.{Has, none, at_row}

-- a register, an index or a condition that stands at a place of a sum is read there
named : {X : Type 0} (o : Option X) (d x : X) → o ≡ Some x → unwrap_or o d ≡ x
named o d x e = ap (λ v. unwrap_or v d) e

register_at : (w k p rest : ℕ) (r : Register) → w ≡ (p * 2 ^ 4 + register_code r) * 2 ^ k + rest → rest < 2 ^ k → register (bits w k 4) ≡ r
register_at w k p rest r e lt = named _ A r (found_at by_register w k p rest r e lt)

register_low : (w p : ℕ) (r : Register) → w ≡ p * 2 ^ 4 + register_code r → register (low w 4) ≡ r
register_low w p r e = named _ A r (found_low by_register w p r e)

index_at : (w k p rest : ℕ) (ix : IndexRegister) → w ≡ (p * 2 ^ 2 + index_code ix) * 2 ^ k + rest → rest < 2 ^ k → index (bits w k 2) ≡ ix
index_at w k p rest ix e lt = named _ I3 ix (found_at by_index w k p rest ix e lt)

condition_at : (w k p rest : ℕ) (c : Condition) → w ≡ (p * 2 ^ 3 + condition_code c) * 2 ^ k + rest → rest < 2 ^ k → condition (bits w k 3) ≡ c
condition_at w k p rest c e lt = named _ Event c (found_at by_condition w k p rest c e lt)

-- a number that is held inverted in the lowest field, with p above it
inverted_low : (w n p x : ℕ) → w ≡ p * 2 ^ n + (2 ^ n - 1 - x) → x < 2 ^ n → inverted w n ≡ x
inverted_low w n p x e lt = let held = lowest w n p (2 ^ n - 1 - x) e (omega arith) in omega arith

-- the operation of a word, where the form has it
operation_read : (form : Form) (n : ℕ) (op : Operation) → has_form op form ≡ true → n ≡ operation_code op → operation_in form n ≡ Some op
operation_read form n op has e = ap (λ o. reading o (λ x. cond (has_form x form) (Some x) None)) (found by_operation n op e) ∙ cond-true _ _ _ has

-- the fields that all ALU operations on memory have, with p above them and rest below
memory_read : (w p rest : ℕ) (op : Operation) (r : Register) (source read : MemoryAddress) → has_form op Memory ≡ true → w ≡ p * 2 ^ 17 + alu_fields op r + rest → rest < 2 ^ 8 → read ≡ source → alu_memory w read ≡ Some (AluMemory op r source)
memory_read w p rest op r source read has e lt same =
    let lo = (by_operation.stands op).0 in
    let lr = (by_register.stands r).0 in
    ap (λ o. option_map (λ x. AluMemory x (register (bits w 8 4)) read) o) (operation_read Memory (bits w 12 5) op has (field w 12 5 p (operation_code op) (register_code r * 2 ^ 8 + rest) (omega arith) lo (omega arith)))
    ∙ (λ t. Some (AluMemory op (register_at w 8 (p * 2 ^ 5 + operation_code op) rest r (omega arith) lt t) (same t)))

stepped_up : (w p step : ℕ) (ix read : IndexRegister) → w ≡ p * 2 ^ 8 + step → step < 2 ^ 7 → read ≡ ix → stepped w read ≡ PostIncrement ix step
stepped_up w p step ix read e lt same =
    cond-true _ _ _ (eq-eqb _ _ (field w 7 1 p 0 step (omega arith) (lit< tt) lt)) ∙ (λ t. PostIncrement (same t) (lowest w 7 (p * 2) step (omega arith) lt t))

stepped_down : (w p step : ℕ) (ix read : IndexRegister) → w ≡ p * 2 ^ 8 + 2 ^ 7 + (2 ^ 7 - step) → 1 ≤ step → step ≤ 2 ^ 7 → read ≡ ix → stepped w read ≡ PreDecrement ix step
stepped_down w p step ix read e one top same =
    let bit = field w 7 1 p 1 (2 ^ 7 - step) (omega arith) (lit< tt) (omega arith) in
    let held = lowest w 7 (p * 2 + 1) (2 ^ 7 - step) (omega arith) (omega arith) in
    let back : 128 - low w 7 ≡ step = omega arith in
    cond-false _ _ _ (ne_eqb (bits w 7 1) 0 (λ z. omega arith)) ∙ (λ t. PreDecrement (same t) (back t))

-- an operation on two sources has no form with one
two_not_one : (op : Operation) → has_form op TwoSources ≡ true → has_form op OneSource ≡ false
two_not_one op h = kinds (kind op) h
  where
    kinds : (k : Kind) → in_form k TwoSources ≡ true → in_form k OneSource ≡ false
    kinds k h = grind arith

-- row k fits w, and says what w is
row_says : (k : ℕ) → k < length rows → (w : ℕ) → Has (get_or rows k none) w → {i : Instruction} → (get_or rows k none).meaning w ≡ Some i → decoded w ≡ Ok i
row_says k lt w h e = at_row k lt w h ∙ ap (λ o. ok_or o Reserved) e

pub complete : (w : ℕ) (i : Instruction) → WordOf w i → decoded w ≡ Ok i
complete w Nop h = row_says 0 (lit< tt) w (omega arith) refl
complete w Halt h = row_says 15 (lit< tt) w (omega arith) refl
complete w Sflag h = row_says 17 (lit< tt) w (omega arith) refl
complete w (Freq d) h =
    let lt = (by_division.stands d).0 in
    row_says 16 (lit< tt) w (omega arith)
    (ap (option_map Freq) (found_low by_division w 0x0BBFF d (omega arith)))
complete w Push h = row_says 7 (lit< tt) w (omega arith) refl
complete w Pop h = row_says 3 (lit< tt) w (omega arith) refl
complete w Ret h = row_says 1 (lit< tt) w (omega arith) refl
complete w Reti h = row_says 2 (lit< tt) w (omega arith) refl
complete w (Jump c (Address a)) h =
    let lc = (by_condition.stands c).0 in
    let la = ltb-true a (2 ^ 16) h.fields in
    let back = inverted_low w 16 (0b110000 + condition_code c) a (omega arith) la in
    row_says 6 (lit< tt) w (omega arith)
    (λ t. Some (Jump (condition_at w 16 0b110 (0xFFFF - a) c (omega arith) (omega arith) t) (Address (back t))))
complete w (Jump c Ip) h =
    let lc = (by_condition.stands c).0 in
    row_says 10 (lit< tt) w (omega arith)
    (cond-true _ _ _ (eq-eqb _ _ (lowest w 16 (0b100000 + condition_code c) 0xFFFF (omega arith) (lit< tt)))
    ∙ ap (λ x. Some (Jump x Ip)) (condition_at w 16 0b100 0xFFFF c (omega arith) (lit< tt)))
complete w (Call (Address a)) h =
    let la = ltb-true a (2 ^ 16) h.fields in
    let back : inverted w 16 ≡ a = omega arith in
    row_says 5 (lit< tt) w (omega arith)
    (ap (λ x. Some (Call (Address x))) back)
complete w (Call Ip) h = row_says 9 (lit< tt) w (omega arith) refl
complete w (Calls (Address a)) h =
    let la = ltb-true a (2 ^ 16) h.fields in
    let back : inverted w 16 ≡ a = omega arith in
    row_says 4 (lit< tt) w (omega arith)
    (ap (λ x. Some (Calls (Address x))) back)
complete w (Calls Ip) h = row_says 8 (lit< tt) w (omega arith) refl
complete w (AluMemory op r (Direct a)) h =
    let lo = (by_operation.stands op).0 in
    let lr = (by_register.stands r).0 in
    let la = ltb-true a (2 ^ 8) h.fields in
    let back = inverted_low w 8 (0b00010 * 2 ^ 9 + operation_code op * 2 ^ 4 + register_code r) a (omega arith) la in
    row_says 19 (lit< tt) w (omega arith)
    (memory_read w 0b00010 (0xFF - a) op r (Direct a) (Direct (inverted w 8)) h.form (omega arith) (omega arith) (ap Direct back))
complete w (AluMemory op r (Offset ix offset)) h =
    let lo = (by_operation.stands op).0 in
    let lr = (by_register.stands r).0 in
    let lx = (by_index.stands ix).0 in
    let la = ltb-true offset (2 ^ 8) h.fields in
    row_says 11 (lit< tt) w (omega arith)
    (memory_read w (0b011 * 2 ^ 2 + index_code ix) offset op r (Offset ix offset) (Offset (index (bits w 17 2)) (low w 8)) h.form (omega arith) la
    (λ t. Offset (index_at w 17 0b011 (alu_fields op r + offset) ix (omega arith) (omega arith) t) (lowest w 8 ((0b011 * 2 ^ 2 + index_code ix) * 2 ^ 9 + operation_code op * 2 ^ 4 + register_code r) offset (omega arith) la t)))
complete w (AluMemory op r (OffsetR3 ix)) h =
    let lo = (by_operation.stands op).0 in
    let lr = (by_register.stands r).0 in
    let lx = (by_index.stands ix).0 in
    let above = 0b00011 * 2 ^ 9 + operation_code op * 2 ^ 4 + register_code r in
    row_says 18 (lit< tt) w (omega arith)
    (cond-true _ _ _ (eq-eqb _ _ (field w 2 6 above 0b111111 (index_code ix) (omega arith) (lit< tt) lx))
    ∙ memory_read w 0b00011 (0b111111 * 2 ^ 2 + index_code ix) op r (OffsetR3 ix) (OffsetR3 (index (low w 2))) h.form (omega arith) (omega arith)
    (ap OffsetR3 (named _ I3 ix (found_low by_index w (above * 2 ^ 6 + 0b111111) ix (omega arith)))))
complete w (AluMemory op r (PostIncrement ix step)) h =
    let lo = (by_operation.stands op).0 in
    let lr = (by_register.stands r).0 in
    let lx = (by_index.stands ix).0 in
    let ls = ltb-true step (2 ^ 7) h.fields in
    let above = (0b010 * 2 ^ 2 + index_code ix) * 2 ^ 9 + operation_code op * 2 ^ 4 + register_code r in
    row_says 12 (lit< tt) w (omega arith)
    (memory_read w (0b010 * 2 ^ 2 + index_code ix) step op r (PostIncrement ix step) (stepped w (index (bits w 17 2))) h.form (omega arith) (omega arith)
    (stepped_up w above step ix (index (bits w 17 2)) (omega arith) ls (index_at w 17 0b010 (alu_fields op r + step) ix (omega arith) (omega arith))))
complete w (AluMemory op r (PreDecrement ix step)) h =
    let lo = (by_operation.stands op).0 in
    let lr = (by_register.stands r).0 in
    let lx = (by_index.stands ix).0 in
    let range = and_parts (leb 1 step) (leb step (2 ^ 7)) h.fields in
    let one = leb-true 1 step range.0 in
    let top = leb-true step (2 ^ 7) range.1 in
    let above = (0b010 * 2 ^ 2 + index_code ix) * 2 ^ 9 + operation_code op * 2 ^ 4 + register_code r in
    row_says 12 (lit< tt) w (omega arith)
    (memory_read w (0b010 * 2 ^ 2 + index_code ix) (2 ^ 7 + (2 ^ 7 - step)) op r (PreDecrement ix step) (stepped w (index (bits w 17 2))) h.form (omega arith) (omega arith)
    (stepped_down w above step ix (index (bits w 17 2)) (omega arith) one top (index_at w 17 0b010 (alu_fields op r + (2 ^ 7 + (2 ^ 7 - step))) ix (omega arith) (omega arith))))
complete w (AluImmediate op r value) h =
    let lo = immediate_below op h.form in
    let lr = (by_register.stands r).0 in
    let lv = ltb-true value (2 ^ 8) h.fields in
    let above = 0b001110 * 2 ^ 4 + operation_code op in
    let back = inverted_low w 8 (above * 2 ^ 4 + register_code r) value (omega arith) lv in
    row_says 13 (lit< tt) w (omega arith)
    (ap (λ o. option_map (λ x. AluImmediate x (register (bits w 8 4)) (inverted w 8)) o) (operation_read Immediate (bits w 12 4) op h.form (field w 12 4 0b001110 (operation_code op) (register_code r * 2 ^ 8 + (0xFF - value)) (omega arith) lo (omega arith)))
    ∙ (λ t. Some (AluImmediate op (register_at w 8 above (0xFF - value) r (omega arith) (omega arith) t) (back t))))
complete w (AluOneSource op result source) h =
    let lo = (by_operation.stands op).0 in
    let lr = (by_register.stands result).0 in
    let ls = (by_register.stands source).0 in
    let u = h.unread in
    let lu : u < 2 ^ 4 = h.four in
    let above = (0b00110 * 2 ^ 5 + operation_code op) * 2 ^ 4 + u in
    row_says 14 (lit< tt) w (omega arith)
    (ap (λ o. reading o (registers_of w)) (found_at by_operation w 12 0b00110 (u * 2 ^ 8 + register_code source * 2 ^ 4 + register_code result) op (omega arith) (omega arith))
    ∙ cond-true _ _ _ h.form
    ∙ (λ t. Some (AluOneSource op (register_low w (above * 2 ^ 4 + register_code source) result (omega arith) t) (register_at w 4 above (register_code result) source (omega arith) lr t))))
complete w (AluTwoSources op result op1 op2) h =
    let lo = (by_operation.stands op).0 in
    let lr = (by_register.stands result).0 in
    let l1 = (by_register.stands op1).0 in
    let l2 = (by_register.stands op2).0 in
    let top = 0b00110 * 2 ^ 5 + operation_code op in
    let above = top * 2 ^ 4 + register_code op2 in
    row_says 14 (lit< tt) w (omega arith)
    (ap (λ o. reading o (registers_of w)) (found_at by_operation w 12 0b00110 (register_code op2 * 2 ^ 8 + register_code op1 * 2 ^ 4 + register_code result) op (omega arith) (omega arith))
    ∙ cond-false _ _ _ (two_not_one op h.form)
    ∙ cond-true _ _ _ h.form
    ∙ (λ t. Some (AluTwoSources op (register_low w (above * 2 ^ 4 + register_code op1) result (omega arith) t) (register_at w 4 above (register_code result) op1 (omega arith) lr t) (register_at w 8 top (register_code op1 * 2 ^ 4 + register_code result) op2 (omega arith) (omega arith) t))))
complete w (Store (Direct a) r) h =
    let lr = (by_register.stands r).0 in
    let la = ltb-true a (2 ^ 8) h.fields in
    let back = inverted_low w 8 (0b0000011011 * 2 ^ 4 + register_code r) a (omega arith) la in
    row_says 23 (lit< tt) w (omega arith)
    (λ t. Some (Store (Direct (back t)) (register_at w 8 0b0000011011 (0xFF - a) r (omega arith) (omega arith) t)))
complete w (Store (Offset ix offset) r) h =
    let lr = (by_register.stands r).0 in
    let lx = (by_index.stands ix).0 in
    let la = ltb-true offset (2 ^ 8) h.fields in
    let above = 0b00001011 * 2 ^ 2 + index_code ix in
    row_says 22 (lit< tt) w (omega arith)
    (λ t. Some (Store (Offset (index_at w 12 0b00001011 (register_code r * 2 ^ 8 + offset) ix (omega arith) (omega arith) t) (lowest w 8 (above * 2 ^ 4 + register_code r) offset (omega arith) la t)) (register_at w 8 above offset r (omega arith) la t)))
complete w (Store (OffsetR3 ix) r) h =
    let lr = (by_register.stands r).0 in
    let lx = (by_index.stands ix).0 in
    let above = 0b00001110 * 2 ^ 2 + index_code ix in
    row_says 20 (lit< tt) w (omega arith)
    (cond-true _ _ _ (eq-eqb _ _ (lowest w 8 (above * 2 ^ 4 + register_code r) 0xFF (omega arith) (lit< tt)))
    ∙ (λ t. Some (Store (OffsetR3 (index_at w 12 0b00001110 (register_code r * 2 ^ 8 + 0xFF) ix (omega arith) (omega arith) t)) (register_at w 8 above 0xFF r (omega arith) (lit< tt) t))))
complete w (Store (PostIncrement ix step) r) h =
    let lr = (by_register.stands r).0 in
    let lx = (by_index.stands ix).0 in
    let ls = ltb-true step (2 ^ 7) h.fields in
    let above = 0b00001101 * 2 ^ 2 + index_code ix in
    let same = index_at w 12 0b00001101 (register_code r * 2 ^ 8 + step) ix (omega arith) (omega arith) in
    row_says 21 (lit< tt) w (omega arith)
    (λ t. Some (Store (stepped_up w (above * 2 ^ 4 + register_code r) step ix (index (bits w 12 2)) (omega arith) ls same t) (register_at w 8 above step r (omega arith) (omega arith) t)))
complete w (Store (PreDecrement ix step) r) h =
    let lr = (by_register.stands r).0 in
    let lx = (by_index.stands ix).0 in
    let range = and_parts (leb 1 step) (leb step (2 ^ 7)) h.fields in
    let one = leb-true 1 step range.0 in
    let top = leb-true step (2 ^ 7) range.1 in
    let above = 0b00001101 * 2 ^ 2 + index_code ix in
    let held = 2 ^ 7 + (2 ^ 7 - step) in
    let same = index_at w 12 0b00001101 (register_code r * 2 ^ 8 + held) ix (omega arith) (omega arith) in
    row_says 21 (lit< tt) w (omega arith)
    (λ t. Some (Store (stepped_down w (above * 2 ^ 4 + register_code r) step ix (index (bits w 12 2)) (omega arith) one top same t) (register_at w 8 above held r (omega arith) (omega arith) t)))
complete w (StoreImmediate target value) h =
    let range = and_parts (ltb target (2 ^ 8)) (ltb value (2 ^ 8)) h.fields in
    let la = ltb-true target (2 ^ 8) range.0 in
    let lv = ltb-true value (2 ^ 8) range.1 in
    let high_held = field w 8 8 0 (0xFF - value) (0xFF - target) (omega arith) (omega arith) (omega arith) in
    let low-back = inverted_low w 8 (0xFF - value) target (omega arith) la in
    let high-back : inverted_bits w 8 8 ≡ value = omega arith in
    row_says 24 (lit< tt) w (omega arith)
    (λ t. Some (StoreImmediate (low-back t) (high-back t)))
