-- The number and the place under which a refusal is logged.
-- Assumes nothing.
use Rattle.std.specs.Prelude.{ℕ}
use Rattle.platform.specs.declared.errors.StoreError.{StoreError}
use Rattle.platform.specs.declared.errors.StoreError.TheVariants.{Size, WideWord}

abbrev pub store_number : StoreError → ℕ
store_number Size = 29
store_number (WideWord address) = 30

abbrev pub store_place : StoreError → ℕ
store_place Size = 0
store_place (WideWord address) = address

abbrev pub store_log : StoreError → ℕ × ℕ
store_log e = (store_number e, store_place e)
