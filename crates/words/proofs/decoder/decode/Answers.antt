-- Each range of `decode` holds the words of one row, and what is left between them those of none.
-- Assumes nothing.
use Rattle.std.proofs.Common.{◌==◌, ◌≡◌, ℕ, ◌^◌, ◌<◌, ◌≤◌, true, false, List, [], ◌∷◌, length, get_or, is_ok, Some, None, Ok, Err, Option, Result, sym, refl, ap, ◌∙◌, arith, lit<, lit≤}
use borrow.Author.Tests.{clash}
use Rattle.std.proofs.lemmas.Bool.{eq-eqb, ne_eqb, cond-true, cond-false}
use Rattle.std.specs.Option.{option_map, ok_or}
use Rattle.words.specs.Bits.{low, bits}
use Rattle.words.specs.Codes.{division}
use Rattle.words.specs.Decoding.{given, rows, decoded}
use Rattle.words.specs.Laws.{Reads}
use Rattle.words.specs.declared.divisions.Division.{Division}
use Rattle.words.specs.declared.errors.DecodeError.{DecodeError}
use Rattle.words.specs.declared.errors.DecodeError.TheVariants.{Reserved}
use Rattle.words.specs.declared.instructions.Instruction.{Instruction}
use Rattle.words.specs.declared.instructions.Instruction.TheVariants.{Call, Calls, Freq}
use Rattle.words.proofs.Laws.{reads}
use Rattle.words.proofs.Fitting.{Has, none, Avoids, gaps, at_row, reserved_between, too_wide}
use Rattle.words.proofs.decoder.decode.Goals as goal

-- what the contract says of an answer
abbrev Says : ℕ → Result Instruction DecodeError → Type 0
Says w r = record { value : r ≡ decoded w; reads : Reads w r }

said : (w : ℕ) (r : Result Instruction DecodeError) → r ≡ decoded w → Says w r
said w r e = record { value = e; reads = reads w r e }

-- row k fits w, and what it says is what was answered
row : (k : ℕ) → k < length rows → (w : ℕ) (r : Result Instruction DecodeError) → Has (get_or rows k none) w → ok_or ((get_or rows k none).meaning w) Reserved ≡ r → Says w r
row k lt w r h e = said w r (sym (at_row k lt w h ∙ e))

-- no row has a word from a up to b but those of ss, and w is none of them
gap : (a : ℕ) (ss : List ℕ) (b w : ℕ) → gaps a ss b ≡ true → b ≤ 2 ^ 22 → a ≤ w → w < b → Avoids w ss → Says w (Err Reserved)
gap a ss b w c top lo hi avoids = said w (Err Reserved) (sym (reserved_between a ss b w c top lo hi avoids))

-- what a row that fixes bits below its prefix says, where they are as it fixes them and where they are not
fixed : (x ones : ℕ) (i : Option Instruction) → x ≡ ones → ok_or (given (x == ones) i) Reserved ≡ ok_or i Reserved
fixed x ones i e = ap (λ o. ok_or o Reserved) (cond-true _ _ _ (eq-eqb x ones e))

loose : (x ones : ℕ) (i : Option Instruction) → (x ≡ ones → ⊥) → ok_or (given (x == ones) i) Reserved ≡ Err Reserved
loose x ones i apart = ap (λ o. ok_or o Reserved) (cond-false _ _ _ (ne_eqb x ones apart))

-- a code that names no division
unnamed : (d : Option Division) → is_ok (ok_or d Reserved) ≡ false → ok_or (option_map Freq d) Reserved ≡ Err Reserved
unnamed None e = refl
unnamed (Some d) e = absurd (clash (sym e))

pub returns-in-753663 : goal.returns-in-753663
returns-in-753663 c = row 17 (lit< tt) c.args.word _ (omega arith) refl

pub returns-in-778239 : goal.returns-in-778239
returns-in-778239 c = row 15 (lit< tt) c.args.word _ (omega arith) refl

pub returns-in-2752511 : goal.returns-in-2752511
returns-in-2752511 c = row 9 (lit< tt) c.args.word _ (omega arith) refl

pub returns-in-2818047 : goal.returns-in-2818047
returns-in-2818047 c = row 8 (lit< tt) c.args.word _ (omega arith) refl

pub returns-in-3014655 : goal.returns-in-3014655
returns-in-3014655 c = row 7 (lit< tt) c.args.word _ (omega arith) refl

pub returns-in-4112383 : goal.returns-in-4112383
returns-in-4112383 c = row 3 (lit< tt) c.args.word _ (omega arith) refl

pub returns-in-4136959 : goal.returns-in-4136959
returns-in-4136959 c = row 2 (lit< tt) c.args.word _ (omega arith) refl

pub returns-in-4145151 : goal.returns-in-4145151
returns-in-4145151 c = row 1 (lit< tt) c.args.word _ (omega arith) refl

pub returns-in-4194303 : goal.returns-in-4194303
returns-in-4194303 c = row 0 (lit< tt) c.args.word _ (omega arith) refl

pub returns-in-0-to-65535 : goal.returns-in-0-to-65535
returns-in-0-to-65535 c = row 24 (lit< tt) c.args.word _ (omega arith) (ap Ok (sym c.store_immediate.ensures))

pub returns-in-110592-to-114687 : goal.returns-in-110592-to-114687
returns-in-110592-to-114687 c = row 23 (lit< tt) c.args.word _ (omega arith) (ap Ok (sym c.store_direct.ensures))

pub returns-in-180224-to-196607 : goal.returns-in-180224-to-196607
returns-in-180224-to-196607 c = row 22 (lit< tt) c.args.word _ (omega arith) (ap Ok (sym c.store_offset.ensures))

pub returns-in-212992-to-229375 : goal.returns-in-212992-to-229375
returns-in-212992-to-229375 c = row 21 (lit< tt) c.args.word _ (omega arith) (ap Ok (sym c.store_stepped.ensures))

pub returns-in-229376-to-245759 : goal.returns-in-229376-to-245759
returns-in-229376-to-245759 c = row 20 (lit< tt) c.args.word _ (omega arith) (fixed (low c.args.word 8) 0xFF _ (omega arith) ∙ ap Ok (sym c.store_r3.ensures))

pub returns-in-262144-to-393215 : goal.returns-in-262144-to-393215
returns-in-262144-to-393215 c = row 19 (lit< tt) c.args.word _ (omega arith) (sym c.alu_direct.ensures)

pub returns-in-393216-to-524287 : goal.returns-in-393216-to-524287
returns-in-393216-to-524287 c = row 18 (lit< tt) c.args.word _ (omega arith) (fixed (bits c.args.word 2 6) 0b111111 _ (omega arith) ∙ sym c.alu_r3.ensures)

pub returns-in-770032-to-770047 : goal.returns-in-770032-to-770047
returns-in-770032-to-770047 c = row 16 (lit< tt) c.args.word _ (omega arith) (sym c.frequency.ensures)

pub returns-in-786432-to-917503 : goal.returns-in-786432-to-917503
returns-in-786432-to-917503 c = row 14 (lit< tt) c.args.word _ (omega arith) (sym c.alu_registers.ensures)

pub returns-in-917504-to-983039 : goal.returns-in-917504-to-983039
returns-in-917504-to-983039 c = row 13 (lit< tt) c.args.word _ (omega arith) (sym c.alu_immediate.ensures)

pub returns-in-1048576-to-1572863 : goal.returns-in-1048576-to-1572863
returns-in-1048576-to-1572863 c = row 12 (lit< tt) c.args.word _ (omega arith) (sym c.alu_stepped.ensures)

pub returns-in-1572864-to-2097151 : goal.returns-in-1572864-to-2097151
returns-in-1572864-to-2097151 c = row 11 (lit< tt) c.args.word _ (omega arith) (sym c.alu_offset.ensures)

pub returns-in-2097152-to-2621439 : goal.returns-in-2097152-to-2621439
returns-in-2097152-to-2621439 c = row 10 (lit< tt) c.args.word _ (omega arith) (fixed (low c.args.word 16) 0xFFFF _ (omega arith) ∙ ap Ok (sym c.jump_ip.ensures))

pub returns-in-3145728-to-3670015 : goal.returns-in-3145728-to-3670015
returns-in-3145728-to-3670015 c = row 6 (lit< tt) c.args.word _ (omega arith) (ap Ok (sym c.jump_to.ensures))

pub returns-in-3735552-to-3801087 : goal.returns-in-3735552-to-3801087
returns-in-3735552-to-3801087 c = row 5 (lit< tt) c.args.word _ (omega arith) (ap (λ t. Ok (Call t)) (sym c.jump_target.ensures))

pub returns-in-3801088-to-3866623 : goal.returns-in-3801088-to-3866623
returns-in-3801088-to-3866623 c = row 4 (lit< tt) c.args.word _ (omega arith) (ap (λ t. Ok (Calls t)) (sym c.jump_target-in-3801088-to-3866623.ensures))

pub returns-in_default : goal.returns-in_default
returns-in_default c = said _ _ (sym (too_wide c.args.word (omega arith)))

pub returns-in-0-to-4194303 : goal.returns-in-0-to-4194303
returns-in-0-to-4194303 c = gap 0x010000 [] 0x01B000 c.args.word refl (lit≤ tt) (omega arith) (omega arith) tt

pub returns-in-0-to-4194303-2 : goal.returns-in-0-to-4194303-2
returns-in-0-to-4194303-2 c = gap 0x01C000 [] 0x02C000 c.args.word refl (lit≤ tt) (omega arith) (omega arith) tt

pub returns-in-0-to-4194303-3 : goal.returns-in-0-to-4194303-3
returns-in-0-to-4194303-3 c = gap 0x030000 [] 0x034000 c.args.word refl (lit≤ tt) (omega arith) (omega arith) tt

pub returns-in-0-to-4194303-4 : goal.returns-in-0-to-4194303-4
returns-in-0-to-4194303-4 c = row 20 (lit< tt) c.args.word _ (omega arith) (loose (low c.args.word 8) 0xFF _ (λ e. omega arith))

pub returns-in-0-to-4194303-5 : goal.returns-in-0-to-4194303-5
returns-in-0-to-4194303-5 c = gap 0x03C000 [] 0x040000 c.args.word refl (lit≤ tt) (omega arith) (omega arith) tt

pub returns-in-0-to-4194303-6 : goal.returns-in-0-to-4194303-6
returns-in-0-to-4194303-6 c = row 18 (lit< tt) c.args.word _ (omega arith) (loose (bits c.args.word 2 6) 0b111111 _ (λ e. omega arith))

pub returns-in-0-to-4194303-7 : goal.returns-in-0-to-4194303-7
returns-in-0-to-4194303-7 c = gap 0x080000 (0x0B7FFF ∷ []) 0x0BBFF0 c.args.word refl (lit≤ tt) (omega arith) (omega arith) (λ e. omega arith, tt)

pub returns-in-0-to-4194303-8 : goal.returns-in-0-to-4194303-8
returns-in-0-to-4194303-8 c = row 16 (lit< tt) c.args.word _ (omega arith) (unnamed (division (low c.args.word 4)) (ap is_ok (sym c.try_from.ensures) ∙ sym c.is_ok.ensures.value ∙ c.if-is_ok.false))

pub returns-in-0-to-4194303-9 : goal.returns-in-0-to-4194303-9
returns-in-0-to-4194303-9 c = gap 0x0BC000 (0x0BDFFF ∷ []) 0x0C0000 c.args.word refl (lit≤ tt) (omega arith) (omega arith) (λ e. omega arith, tt)

pub returns-in-0-to-4194303-10 : goal.returns-in-0-to-4194303-10
returns-in-0-to-4194303-10 c = gap 0x0F0000 [] 0x100000 c.args.word refl (lit≤ tt) (omega arith) (omega arith) tt

pub returns-in-0-to-4194303-11 : goal.returns-in-0-to-4194303-11
returns-in-0-to-4194303-11 c = row 10 (lit< tt) c.args.word _ (omega arith) (loose (low c.args.word 16) 0xFFFF _ (λ e. omega arith))

pub returns-in-0-to-4194303-12 : goal.returns-in-0-to-4194303-12
returns-in-0-to-4194303-12 c = gap 0x280000 (0x29FFFF ∷ 0x2AFFFF ∷ 0x2DFFFF ∷ []) 0x300000 c.args.word refl (lit≤ tt) (omega arith) (omega arith) (λ e. omega arith, (λ e. omega arith, (λ e. omega arith, tt)))

pub returns-in-0-to-4194303-13 : goal.returns-in-0-to-4194303-13
returns-in-0-to-4194303-13 c = gap 0x380000 [] 0x390000 c.args.word refl (lit≤ tt) (omega arith) (omega arith) tt

pub returns-in-0-to-4194303-14 : goal.returns-in-0-to-4194303-14
returns-in-0-to-4194303-14 c = gap 0x3B0000 (0x3EBFFF ∷ 0x3F1FFF ∷ 0x3F3FFF ∷ 0x3FFFFF ∷ []) 0x400000 c.args.word refl (lit≤ tt) (omega arith) (omega arith) (λ e. omega arith, (λ e. omega arith, (λ e. omega arith, (λ e. omega arith, tt))))
