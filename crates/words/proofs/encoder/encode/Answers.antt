use Rattle.std.proofs.Common.{◌≡◌, ℕ, Result, Ok, sym, ap, ◌∙◌}
use Rattle.std.proofs.lemmas.Bool.{cond-true, cond-false}
use Rattle.words.specs.Encoding.{encoded}
use Rattle.words.specs.Laws.{Writes}
use Rattle.words.specs.declared.errors.EncodeError.{EncodeError}
use Rattle.words.specs.declared.instructions.Instruction.{Instruction}
use Rattle.words.proofs.Laws.{writes}
use Rattle.words.proofs.encoder.encode.Goals as goal

-- what the contract says of an answer
said : (i : Instruction) (r : Result ℕ EncodeError) → r ≡ encoded i → record { value : r ≡ encoded i; writes : Writes i r }
said i r e = record { value = e; writes = writes i r e }

pub returns-then-not-has_its_form : goal.returns-then-not-has_its_form
unfolding encoded
returns-then-not-has_its_form c = said _ _ (sym (cond-false _ _ _ (sym c.has_its_form.ensures ∙ c.if-not-has_its_form.true)))

pub returns-then-not-fields_fit : goal.returns-then-not-fields_fit
unfolding encoded
returns-then-not-fields_fit c =
    said _ _
    (sym (cond-true _ _ _ (sym c.has_its_form.ensures ∙ c.if-not-has_its_form.false) ∙ cond-false _ _ _ (sym c.fields_fit.ensures ∙ c.if-not-fields_fit.true)))

pub returns : goal.returns
unfolding encoded
returns c =
    said _ _
    (ap Ok c.word_of.ensures ∙ sym (cond-true _ _ _ (sym c.has_its_form.ensures ∙ c.if-not-has_its_form.false) ∙ cond-true _ _ _ (sym c.fields_fit.ensures ∙ c.if-not-fields_fit.false)))
