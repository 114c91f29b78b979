-- What reading and writing promise each other follows from how each goes about it.
-- Assumes nothing.
use Rattle.std.proofs.Common.{◌≡◌, ℕ, ◌^◌, ◌<◌, ◌≤◌, Bool, true, false, cond, ◌↔◌, Some, None, Ok, Err, Option, Result, sym, refl, ap, ◌∙◌, subst, ⊎_elim, arith, lit<}
use Rattle.std.proofs.lemmas.Bool.{cases_lt}
use Rattle.std.specs.Option.{ok_or}
use Rattle.words.specs.Decoding.{first, rows, decoded}
use Rattle.words.specs.Encoding.{formed, fields_fit, word_of, encoded}
use Rattle.words.specs.Laws.{WordOf, NoRow, decode_refusal, encode_refusal, Reads, Writes}
use Rattle.words.specs.declared.errors.DecodeError.{DecodeError}
use Rattle.words.specs.declared.errors.DecodeError.TheVariants.{Reserved, TooWide}
use Rattle.words.specs.declared.errors.EncodeError.{EncodeError}
use Rattle.words.specs.declared.errors.EncodeError.TheVariants.{NoSuchForm, FieldRange}
use Rattle.words.specs.declared.instructions.Instruction.{Instruction}
use Rattle.words.proofs.Complete.{complete}
use Rattle.words.proofs.Fitting.{narrow, too_wide}
use Rattle.words.proofs.Sound.{sound}

module _ (w : ℕ) where
  -- below 2 ^ 22 a number is an instruction or reserved, and no row is at odds with that
  reserved_from : w < 2 ^ 22 → NoRow w → decoded w ≡ Err Reserved
  reserved_from lt none = narrow w lt ∙ by (first rows w) refl
    where
      by : (o : Option Instruction) → first rows w ≡ o → ok_or o Reserved ≡ Err Reserved
      by None at = refl
      by (Some i) at = absurd (none i (sound w i (narrow w lt ∙ ap (λ o. ok_or o Reserved) at)))

  no_row_from : decoded w ≡ Err Reserved → NoRow w
  no_row_from e i h = let read = complete w i h in grind arith

  below_from : decoded w ≡ Err Reserved → w < 2 ^ 22
  below_from e = ⊎_elim (λ lt. lt) (λ le. let wide = too_wide w le in grind arith) (cases_lt w (2 ^ 22))

  wide_from : decoded w ≡ Err TooWide → 2 ^ 22 ≤ w
  wide_from e = ⊎_elim (λ lt. absurd (never (first rows w) (sym (narrow w lt) ∙ e))) (λ le. le) (cases_lt w (2 ^ 22))
    where
      never : (o : Option Instruction) → ok_or o Reserved ≡ Err TooWide → ⊥
      never o e = grind arith

  refused_25 : (r : Result Instruction DecodeError) → decode_refusal r ≡ Some (25, 0) → r ≡ Err Reserved
  refused_25 r e = grind arith

  refused_30 : (r : Result Instruction DecodeError) → decode_refusal r ≡ Some (30, 0) → r ≡ Err TooWide
  refused_30 r e = grind arith

  decoded_reads : Reads w (decoded w)
  decoded_reads = record {
    instruction = λ i. (sound w i, complete w i);
    one = λ i j hi hj. let first = complete w i hi in let other = complete w j hj in cc;
    reserved = (λ e. let is = refused_25 (decoded w) e in (below_from is, no_row_from is), λ h. ap decode_refusal (reserved_from h.0 h.1));
    wide = (λ e. wide_from (refused_30 (decoded w) e), λ h. ap decode_refusal (too_wide w h));
  }

pub reads : (w : ℕ) (r : Result Instruction DecodeError) → r ≡ decoded w → Reads w r
reads w r e = subst (Reads w) (sym e) (decoded_reads w)

-- what writing answers, by whether the form has the operation and whether the fields fit
abbrev answer : Bool → Bool → ℕ → Result ℕ EncodeError
answer form fit w = cond form (cond fit (Ok w) (Err FieldRange)) (Err NoSuchForm)

answered : (form fit : Bool) (v w : ℕ) → answer form fit v ≡ Ok w → (form ≡ true) × (fit ≡ true) × (w ≡ v)
answered form fit v w e = grind arith

answered_31 : (form fit : Bool) (v : ℕ) → (encode_refusal (answer form fit v) ≡ Some (31, 0)) ↔ (form ≡ false)
answered_31 form fit v = (λ e. grind arith, λ h. grind arith)

answered_32 : (form fit : Bool) (v : ℕ) → (encode_refusal (answer form fit v) ≡ Some (32, 0)) ↔ ((form ≡ true) × (fit ≡ false))
answered_32 form fit v = (λ e. grind arith, λ h. grind arith)

encoded_word : (i : Instruction) (w : ℕ) → encoded i ≡ Ok w → WordOf w i
unfolding encoded
encoded_word i w e =
    let parts = answered (formed i) (fields_fit i) (word_of i) w e in
    record { form = parts.0; fields = parts.1; unread = 0b1111; four = lit< tt; sum = parts.2 }

-- what is read as an instruction is no wider than a word
read_below : (w : ℕ) (i : Instruction) → decoded w ≡ Ok i → w < 2 ^ 22
read_below w i e = ⊎_elim (λ lt. lt) (λ le. let wide = too_wide w le in grind arith) (cases_lt w (2 ^ 22))

encoded_writes : (i : Instruction) → Writes i (encoded i)
unfolding encoded
encoded_writes i = record {
  word = λ w e. let read = complete w i (encoded_word i w e) in (read_below w i read, read);
  one = λ w j e f. let first = complete w i (encoded_word i w e) in let other = complete w j (encoded_word j w f) in cc;
  no_form = answered_31 (formed i) (fields_fit i) (word_of i);
  field = answered_32 (formed i) (fields_fit i) (word_of i);
}

pub writes : (i : Instruction) (r : Result ℕ EncodeError) → r ≡ encoded i → Writes i r
writes i r e = subst (Writes i) (sym e) (encoded_writes i)
