-- An instruction that is read from a word has a row that the word fits.
-- Assumes nothing.
use Rattle.std.proofs.Common.{◌≡◌, ℕ, ◌+◌, ◌-◌, ◌/◌, ◌^◌, Bool, true, false, cond, eqb, ltb, leb, List, [], ◌∷◌, get_or, Some, None, Ok, Err, Option, refl, subst, arith, lit<}
use Rattle.std.proofs.lemmas.Bool.{lt-ltb, le-leb, eqb-true, eqb-false, and_from}
use Rattle.std.specs.Option.{option_map, ok_or}
use Rattle.words.specs.Bits.{low, bits, inverted, inverted_bits, ones}
use Rattle.words.specs.Codes.{register_code, register, index_code, index, condition_code, condition, division, operation_code, operation, division_code, divisions, operations}
use Rattle.words.specs.Decoding.{Row, first, rows, reading, operation_in, alu_memory, registers_of, given, fits, stepped, decoded}
use Rattle.words.specs.Encoding.{formed, fields_fit, address_fits, word_with, alu_memory_word, store_word}
use Rattle.words.specs.Forms.{has_form}
use Rattle.words.specs.Laws.{WordOf}
use Rattle.words.specs.declared.addresses.MemoryAddress.{MemoryAddress}
use Rattle.words.specs.declared.addresses.MemoryAddress.TheVariants.{Direct, Offset, OffsetR3, PostIncrement, PreDecrement}
use Rattle.words.specs.declared.conditions.Condition.{Condition}
use Rattle.words.specs.declared.divisions.Division.{Division}
use Rattle.words.specs.declared.errors.DecodeError.TheVariants.{Reserved, TooWide}
use Rattle.words.specs.declared.instructions.Instruction.{Instruction}
use Rattle.words.specs.declared.instructions.Instruction.TheVariants.{Nop, Halt, Sflag, Freq, Push, Pop, Ret, Reti, Jump, Call, Calls, AluMemory, AluImmediate, AluOneSource, AluTwoSources, Store, StoreImmediate}
use Rattle.words.specs.declared.instructions.Target.TheVariants.{Address, Ip}
use Rattle.words.specs.declared.operations.Form.{Form}
use Rattle.words.specs.declared.operations.Form.TheVariants.{Memory, Immediate, OneSource, TwoSources}
use Rattle.words.specs.declared.operations.Operation.{Operation}
use Rattle.words.specs.declared.registers.IndexRegister.{IndexRegister}
use Rattle.words.specs.declared.registers.Register.{Register}
use Rattle.words.proofs.Fields.{ended, parted}
use Rattle.words.proofs.Names.{find_code, register_code-register, index_code-index, condition_code-condition}
use Rattle.words.proofs.Fitting.{Has, none}

-- what the row r reads from a word of its own is the instruction of that word
abbrev Sound : Row → Type 0
Sound r = (w : ℕ) (i : Instruction) → Has r w → r.meaning w ≡ Some i → WordOf w i

-- the instruction that was read is the x that the row gives, which leaves no bits unread
said : (w : ℕ) (x i : Instruction) → ◌≡◌ {A = Option Instruction} (Some x) (Some i) → formed x ≡ true → fields_fit x ≡ true → w ≡ word_with 0 x → WordOf w i
said w x i e form fields sum =
    let same : x ≡ i = cc in
    subst (WordOf w) same (record { form = form; fields = fields; unread = 0; four = lit< tt; sum = sum })

word_of_lem : (w : ℕ) (x : Instruction) → formed x ≡ true → fields_fit x ≡ true → w ≡ word_with 0 x → WordOf w x
word_of_lem w x form fields sum = said w x x refl form fields sum

-- a row that asks for more than its prefix gives nothing where that is not met
met : (b : Bool) (r : Option Instruction) (i : Instruction) → given b r ≡ Some i → (b ≡ true) × (r ≡ Some i)
met b r i e = grind arith

-- the operation that was read has its code and its form
operation_said : (form : Form) (n : ℕ) (f : Operation → Instruction) (i : Instruction) → option_map f (operation_in form n) ≡ Some i → (op : Operation) × (operation_code op ≡ n) × (has_form op form ≡ true) × ◌≡◌ {A = Option Instruction} (Some (f op)) (Some i)
operation_said form n f i e = found (operation n) refl e
  where
    formed_so : (op : Operation) → operation n ≡ Some op → (b : Bool) → has_form op form ≡ b → option_map f (cond b (Some op) None) ≡ Some i → (op : Operation) × (operation_code op ≡ n) × (has_form op form ≡ true) × ◌≡◌ {A = Option Instruction} (Some (f op)) (Some i)
    formed_so op at true has e = (op, find_code operation_code operations n op at, has, e)
    formed_so op at false has e = grind arith

    found : (o : Option Operation) → operation n ≡ o → option_map f (reading o (λ op. cond (has_form op form) (Some op) None)) ≡ Some i → (op : Operation) × (operation_code op ≡ n) × (has_form op form ≡ true) × ◌≡◌ {A = Option Instruction} (Some (f op)) (Some i)
    found None at e = grind arith
    found (Some op) at e = formed_so op at (has_form op form) refl e

-- an ALU operation on memory, of which the rest of the word is known
memory_said : (w : ℕ) (source : MemoryAddress) (i : Instruction) → alu_memory w source ≡ Some i → address_fits source ≡ true → ((op : Operation) (r : Register) → operation_code op ≡ bits w 12 5 → register_code r ≡ bits w 8 4 → w ≡ alu_memory_word op r source) → WordOf w i
memory_said w source i e fit sum =
    let read = operation_said Memory (bits w 12 5) (λ op. AluMemory op (register (bits w 8 4)) source) i e in
    said w (AluMemory read.0 (register (bits w 8 4)) source) i read.3 read.2 fit (sum read.0 (register (bits w 8 4)) read.1 (register_code-register (bits w 8 4) (omega arith)))

-- a step fits its field, and is held there
stepped_fits : (w : ℕ) (ix : IndexRegister) → address_fits (stepped w ix) ≡ true
stepped_fits w ix = by (eqb (bits w 7 1) 0)
  where
    by : (b : Bool) → address_fits (cond b (PostIncrement ix (low w 7)) (PreDecrement ix (128 - low w 7))) ≡ true
    by true = lt-ltb (low w 7) (2 ^ 7) (omega arith)
    by false = and_from (leb 1 (128 - low w 7)) (leb (128 - low w 7) (2 ^ 7)) (le-leb 1 (128 - low w 7) (omega arith)) (le-leb (128 - low w 7) (2 ^ 7) (omega arith))

abbrev nth : ℕ → Row
nth k = get_or rows k none

sound_nop : Sound (nth 0)
sound_nop w i h e = said w Nop i e refl refl (omega arith)

sound_ret : Sound (nth 1)
sound_ret w i h e = said w Ret i e refl refl (omega arith)

sound_reti : Sound (nth 2)
sound_reti w i h e = said w Reti i e refl refl (omega arith)

sound_pop : Sound (nth 3)
sound_pop w i h e = said w Pop i e refl refl (omega arith)

sound_calls : Sound (nth 4)
sound_calls w i h e = said w (Calls (Address (inverted w 16))) i e refl (lt-ltb _ _ (omega arith)) (omega arith)

sound_call : Sound (nth 5)
sound_call w i h e = said w (Call (Address (inverted w 16))) i e refl (lt-ltb _ _ (omega arith)) (omega arith)

jump_sum : (w : ℕ) (c : Condition) → w / 2 ^ 19 ≡ 0b110 → condition_code c ≡ bits w 16 3 → w ≡ word_with 0 (Jump c (Address (inverted w 16)))
jump_sum w c h code = omega arith

sound_jump : Sound (nth 6)
sound_jump w i h e = said w (Jump (condition (bits w 16 3)) (Address (inverted w 16))) i e refl (lt-ltb _ _ (omega arith)) (jump_sum w _ h (condition_code-condition (bits w 16 3) (omega arith)))

sound_push : Sound (nth 7)
sound_push w i h e = said w Push i e refl refl (omega arith)

sound_calls_ip : Sound (nth 8)
sound_calls_ip w i h e = said w (Calls Ip) i e refl refl (omega arith)

sound_call_ip : Sound (nth 9)
sound_call_ip w i h e = said w (Call Ip) i e refl refl (omega arith)

jump_ip_sum : (w : ℕ) (c : Condition) → w / 2 ^ 19 ≡ 0b100 → low w 16 ≡ 0xFFFF → condition_code c ≡ bits w 16 3 → w ≡ word_with 0 (Jump c Ip)
jump_ip_sum w c h ones code = omega arith

sound_jump_ip : Sound (nth 10)
sound_jump_ip w i h e =
    let parts = met (ones (low w 16) 16) (Some (Jump (condition (bits w 16 3)) Ip)) i e in
    said w (Jump (condition (bits w 16 3)) Ip) i parts.1 refl refl (jump_ip_sum w _ h (eqb-true _ _ parts.0) (condition_code-condition (bits w 16 3) (omega arith)))

alu_offset_sum : (w : ℕ) (op : Operation) (r : Register) (ix : IndexRegister) → w / 2 ^ 19 ≡ 0b011 → operation_code op ≡ bits w 12 5 → register_code r ≡ bits w 8 4 → index_code ix ≡ bits w 17 2 → w ≡ alu_memory_word op r (Offset ix (low w 8))
alu_offset_sum w op r ix h eo er ex = omega (arith, ended w 8, parted w 8 4, parted w 12 5, parted w 17 2)

sound_alu_offset : Sound (nth 11)
sound_alu_offset w i h e =
    memory_said w (Offset (index (bits w 17 2)) (low w 8)) i e (lt-ltb _ _ (omega arith))
    (λ op r eo er. alu_offset_sum w op r (index (bits w 17 2)) h eo er (index_code-index (bits w 17 2) (omega arith)))

-- bit 7 and the step below it, as an address of either kind holds them
step_sum : (w : ℕ) (ix : IndexRegister) (P : MemoryAddress → Type 0) → (low w 8 ≡ low w 7 → P (PostIncrement ix (low w 7))) → (low w 8 ≡ 2 ^ 7 + (2 ^ 7 - (128 - low w 7)) → P (PreDecrement ix (128 - low w 7))) → P (stepped w ix)
step_sum w ix P up down = by (eqb (bits w 7 1) 0) refl
  where
    by : (b : Bool) → eqb (bits w 7 1) 0 ≡ b → P (cond b (PostIncrement ix (low w 7)) (PreDecrement ix (128 - low w 7)))
    by true t = up (omega (arith, eqb-true (bits w 7 1) 0 t, ended w 8, ended w 7, parted w 7 1))
    by false t =
        let bit : bits w 7 1 ≡ 1 = omega (arith, eqb-false (bits w 7 1) 0 t) in
        down (omega (arith, ended w 8, ended w 7, parted w 7 1))

alu_stepped_sum : (w : ℕ) (op : Operation) (r : Register) (ix : IndexRegister) → w / 2 ^ 19 ≡ 0b010 → operation_code op ≡ bits w 12 5 → register_code r ≡ bits w 8 4 → index_code ix ≡ bits w 17 2 → w ≡ alu_memory_word op r (stepped w ix)
alu_stepped_sum w op r ix h eo er ex =
    step_sum w ix (λ address. w ≡ alu_memory_word op r address) (λ low8. omega (arith, ended w 8, parted w 8 4, parted w 12 5, parted w 17 2))
    (λ low8. omega (arith, ended w 8, parted w 8 4, parted w 12 5, parted w 17 2))

sound_alu_stepped : Sound (nth 12)
sound_alu_stepped w i h e =
    memory_said w (stepped w (index (bits w 17 2))) i e (stepped_fits w (index (bits w 17 2)))
    (λ op r eo er. alu_stepped_sum w op r (index (bits w 17 2)) h eo er (index_code-index (bits w 17 2) (omega arith)))

alu_immediate_sum : (w : ℕ) (op : Operation) (r : Register) → w / 2 ^ 16 ≡ 0b001110 → operation_code op ≡ bits w 12 4 → register_code r ≡ bits w 8 4 → w ≡ word_with 0 (AluImmediate op r (inverted w 8))
alu_immediate_sum w op r h eo er = omega (arith, ended w 8, parted w 8 4, parted w 12 4)

sound_alu_immediate : Sound (nth 13)
sound_alu_immediate w i h e =
    let read = operation_said Immediate (bits w 12 4) (λ op. AluImmediate op (register (bits w 8 4)) (inverted w 8)) i e in
    said w (AluImmediate read.0 (register (bits w 8 4)) (inverted w 8)) i read.3 read.2 (lt-ltb _ _ (omega arith))
    (alu_immediate_sum w read.0 (register (bits w 8 4)) h read.1 (register_code-register (bits w 8 4) (omega arith)))

one_source_sum : (w : ℕ) (op : Operation) (result source : Register) → w / 2 ^ 17 ≡ 0b00110 → operation_code op ≡ bits w 12 5 → register_code source ≡ bits w 4 4 → register_code result ≡ low w 4 → w ≡ word_with (bits w 8 4) (AluOneSource op result source)
one_source_sum w op result source h eo es er = omega (arith, ended w 4, parted w 4 4, parted w 8 4, parted w 12 5)

two_sources_sum : (w : ℕ) (op : Operation) (result op1 op2 : Register) → w / 2 ^ 17 ≡ 0b00110 → operation_code op ≡ bits w 12 5 → register_code op2 ≡ bits w 8 4 → register_code op1 ≡ bits w 4 4 → register_code result ≡ low w 4 → w ≡ word_with 0 (AluTwoSources op result op1 op2)
two_sources_sum w op result op1 op2 h eo e2 e1 er = omega (arith, ended w 4, parted w 4 4, parted w 8 4, parted w 12 5)

sound_alu_registers : Sound (nth 14)
sound_alu_registers w i h e = found (operation (bits w 12 5)) refl e
  where
    two : (op : Operation) → operation (bits w 12 5) ≡ Some op → (b : Bool) → has_form op TwoSources ≡ b → cond b (Some (AluTwoSources op (register (low w 4)) (register (bits w 4 4)) (register (bits w 8 4)))) None ≡ Some i → WordOf w i
    two op at false has e = grind arith
    two op at true has e =
        said w (AluTwoSources op (register (low w 4)) (register (bits w 4 4)) (register (bits w 8 4))) i e has refl
        (two_sources_sum w op _ _ _ h (find_code operation_code operations (bits w 12 5) op at) (register_code-register (bits w 8 4) (omega arith)) (register_code-register (bits w 4 4) (omega arith)) (register_code-register (low w 4) (omega arith)))

    one : (op : Operation) → operation (bits w 12 5) ≡ Some op → (b : Bool) → has_form op OneSource ≡ b → cond b (Some (AluOneSource op (register (low w 4)) (register (bits w 4 4)))) (cond (has_form op TwoSources) (Some (AluTwoSources op (register (low w 4)) (register (bits w 4 4)) (register (bits w 8 4)))) None) ≡ Some i → WordOf w i
    one op at false has e = two op at (has_form op TwoSources) refl e
    one op at true has e =
        let same : AluOneSource op (register (low w 4)) (register (bits w 4 4)) ≡ i = cc in
        subst (WordOf w) same (record {
          form = has;
          fields = refl;
          unread = bits w 8 4;
          four = omega arith;
          sum = one_source_sum w op _ _ h (find_code operation_code operations (bits w 12 5) op at) (register_code-register (bits w 4 4) (omega arith)) (register_code-register (low w 4) (omega arith));
        })

    found : (o : Option Operation) → operation (bits w 12 5) ≡ o → reading o (registers_of w) ≡ Some i → WordOf w i
    found None at e = grind arith
    found (Some op) at e = one op at (has_form op OneSource) refl e

sound_halt : Sound (nth 15)
sound_halt w i h e = said w Halt i e refl refl (omega arith)

sound_freq : Sound (nth 16)
sound_freq w i h e = found (division (low w 4)) refl e
  where
    found : (o : Option Division) → division (low w 4) ≡ o → option_map Freq o ≡ Some i → WordOf w i
    found None at e = grind arith
    found (Some d) at e = said w (Freq d) i e refl refl (let code = find_code division_code divisions (low w 4) d at in omega arith)

sound_sflag : Sound (nth 17)
sound_sflag w i h e = said w Sflag i e refl refl (omega arith)

alu_r3_sum : (w : ℕ) (op : Operation) (r : Register) (ix : IndexRegister) → w / 2 ^ 17 ≡ 0b00011 → bits w 2 6 ≡ 0b111111 → operation_code op ≡ bits w 12 5 → register_code r ≡ bits w 8 4 → index_code ix ≡ low w 2 → w ≡ alu_memory_word op r (OffsetR3 ix)
alu_r3_sum w op r ix h ones eo er ex = omega (arith, ended w 2, parted w 2 6, parted w 8 4, parted w 12 5)

sound_alu_r3 : Sound (nth 18)
sound_alu_r3 w i h e =
    let parts = met (ones (bits w 2 6) 6) (alu_memory w (OffsetR3 (index (low w 2)))) i e in
    memory_said w (OffsetR3 (index (low w 2))) i parts.1 refl
    (λ op r eo er. alu_r3_sum w op r (index (low w 2)) h (eqb-true _ _ parts.0) eo er (index_code-index (low w 2) (omega arith)))

alu_direct_sum : (w : ℕ) (op : Operation) (r : Register) → w / 2 ^ 17 ≡ 0b00010 → operation_code op ≡ bits w 12 5 → register_code r ≡ bits w 8 4 → w ≡ alu_memory_word op r (Direct (inverted w 8))
alu_direct_sum w op r h eo er = omega (arith, ended w 8, parted w 8 4, parted w 12 5)

sound_alu_direct : Sound (nth 19)
sound_alu_direct w i h e = memory_said w (Direct (inverted w 8)) i e (lt-ltb _ _ (omega arith)) (λ op r eo er. alu_direct_sum w op r h eo er)

-- a move to memory, of which the rest of the word is known
store_said : (w : ℕ) (target : MemoryAddress) (i : Instruction) → ◌≡◌ {A = Option Instruction} (Some (Store target (register (bits w 8 4)))) (Some i) → address_fits target ≡ true → ((r : Register) → register_code r ≡ bits w 8 4 → w ≡ store_word target r) → WordOf w i
store_said w target i e fit sum = said w (Store target (register (bits w 8 4))) i e refl fit (sum (register (bits w 8 4)) (register_code-register (bits w 8 4) (omega arith)))

store_r3_sum : (w : ℕ) (r : Register) (ix : IndexRegister) → w / 2 ^ 14 ≡ 0b00001110 → low w 8 ≡ 0xFF → register_code r ≡ bits w 8 4 → index_code ix ≡ bits w 12 2 → w ≡ store_word (OffsetR3 ix) r
store_r3_sum w r ix h ones er ex = omega (arith, ended w 8, parted w 8 4, parted w 12 2)

sound_store_r3 : Sound (nth 20)
sound_store_r3 w i h e =
    let parts = met (ones (low w 8) 8) (Some (Store (OffsetR3 (index (bits w 12 2))) (register (bits w 8 4)))) i e in
    store_said w (OffsetR3 (index (bits w 12 2))) i parts.1 refl
    (λ r er. store_r3_sum w r (index (bits w 12 2)) h (eqb-true _ _ parts.0) er (index_code-index (bits w 12 2) (omega arith)))

store_stepped_sum : (w : ℕ) (r : Register) (ix : IndexRegister) → w / 2 ^ 14 ≡ 0b00001101 → register_code r ≡ bits w 8 4 → index_code ix ≡ bits w 12 2 → w ≡ store_word (stepped w ix) r
store_stepped_sum w r ix h er ex =
    step_sum w ix (λ address. w ≡ store_word address r) (λ low8. omega (arith, ended w 8, parted w 8 4, parted w 12 2))
    (λ low8. omega (arith, ended w 8, parted w 8 4, parted w 12 2))

sound_store_stepped : Sound (nth 21)
sound_store_stepped w i h e =
    store_said w (stepped w (index (bits w 12 2))) i e (stepped_fits w (index (bits w 12 2)))
    (λ r er. store_stepped_sum w r (index (bits w 12 2)) h er (index_code-index (bits w 12 2) (omega arith)))

store_offset_sum : (w : ℕ) (r : Register) (ix : IndexRegister) → w / 2 ^ 14 ≡ 0b00001011 → register_code r ≡ bits w 8 4 → index_code ix ≡ bits w 12 2 → w ≡ store_word (Offset ix (low w 8)) r
store_offset_sum w r ix h er ex = omega (arith, ended w 8, parted w 8 4, parted w 12 2)

sound_store_offset : Sound (nth 22)
sound_store_offset w i h e =
    store_said w (Offset (index (bits w 12 2)) (low w 8)) i e (lt-ltb _ _ (omega arith))
    (λ r er. store_offset_sum w r (index (bits w 12 2)) h er (index_code-index (bits w 12 2) (omega arith)))

store_direct_sum : (w : ℕ) (r : Register) → w / 2 ^ 12 ≡ 0b0000011011 → register_code r ≡ bits w 8 4 → w ≡ store_word (Direct (inverted w 8)) r
store_direct_sum w r h er = omega (arith, ended w 8, parted w 8 4)

sound_store_direct : Sound (nth 23)
sound_store_direct w i h e = store_said w (Direct (inverted w 8)) i e (lt-ltb _ _ (omega arith)) (λ r er. store_direct_sum w r h er)

sound_store_immediate : Sound (nth 24)
sound_store_immediate w i h e =
    said w (StoreImmediate (inverted w 8) (inverted_bits w 8 8)) i e refl
    (and_from (ltb (inverted w 8) (2 ^ 8)) (ltb (inverted_bits w 8 8) (2 ^ 8)) (lt-ltb _ _ (omega arith)) (lt-ltb _ _ (omega arith)))
    (omega (arith, ended w 8, parted w 8 8))

abbrev AllSound : List Row → Type 0
AllSound [] = Unit {0}
AllSound (r ∷ rs) = Sound r × AllSound rs

rows_sound : AllSound rows
rows_sound = (sound_nop, (sound_ret, (sound_reti, (sound_pop, (sound_calls, (sound_call, (sound_jump, (sound_push, (sound_calls_ip, (sound_call_ip, (sound_jump_ip, (sound_alu_offset, (sound_alu_stepped, (sound_alu_immediate, (sound_alu_registers, (sound_halt, (sound_freq, (sound_sflag, (sound_alu_r3, (sound_alu_direct, (sound_store_r3, (sound_store_stepped, (sound_store_offset, (sound_store_direct, (sound_store_immediate, tt)))))))))))))))))))))))))

first_sound : (rs : List Row) → AllSound rs → (w : ℕ) (i : Instruction) → first rs w ≡ Some i → WordOf w i
first_sound [] s w i e = grind arith
first_sound (r ∷ rs) s w i e = here (fits r w) refl e (first_sound rs s.1 w i)
  where
    here : (b : Bool) → fits r w ≡ b → cond b (r.meaning w) (first rs w) ≡ Some i → (first rs w ≡ Some i → WordOf w i) → WordOf w i
    here true t e later = s.0 w i (eqb-true _ _ t) e
    here false t e later = later e

pub sound : (w : ℕ) (i : Instruction) → decoded w ≡ Ok i → WordOf w i
unfolding decoded
sound w i e = first_sound rows rows_sound w i (read (leb (2 ^ 22) w) (first rows w) e)
  where
    read : (wide : Bool) (o : Option Instruction) → cond wide (Err TooWide) (ok_or o Reserved) ≡ Ok i → o ≡ Some i
    read wide o e = grind arith
