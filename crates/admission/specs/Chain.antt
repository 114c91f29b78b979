-- The chain of records: which of them the table uses.
-- Assumes nothing.
use Rattle.std.specs.Prelude.{◌≡◌, ℕ, zero, suc, ◌+◌, ◌<◌, ◌≤◌, Bool, false, cond, not, ◌&&◌, ◌||◌, List, Option, ◌==◌, nat_le, nat_lt, slice_index_or}
use Rattle.platform.specs.Lowest.{lowest}
use Rattle.admission.specs.Tables.{records, next}

-- The chain begins before all records, at 0, and goes on as long as the next index is above its own and has a record.
pub data OnChain (T : List ℕ) : ℕ → Type 0 where
  head : {k : ℕ} → k ≡ 0 → OnChain T k
  link : {j k : ℕ} → OnChain T j → next T j ≡ k → j < k → k ≤ records T → OnChain T k

-- the chain reaches record k; 0 never counts as reached
abbrev pub Chained : List ℕ → ℕ → Type 0
Chained T k = OnChain T k × (1 ≤ k)

-- The same by going up through the records: the index that the chain goes on to after record k.
abbrev pub awaited : List ℕ → ℕ → ℕ
awaited T zero = next T 0
awaited T (suc k) = cond (awaited T k == suc k) (next T (suc k)) (awaited T k)

abbrev pub chained : List ℕ → ℕ → Bool
chained T zero = false
chained T (suc k) = nat_lt k (records T) && awaited T k == suc k

-- a mark for each index from 0 to 255
abbrev pub Marks : List ℕ → List Bool → Type 0
Marks T marks = (k : ℕ) → k < 256 → slice_index_or marks k false ≡ chained T k

abbrev pub on_chain : List ℕ → ℕ → Bool
on_chain T k = k == 0 || chained T k

-- the next index is 0 where that ends the chain, or above its own with a record
abbrev pub linked : List ℕ → ℕ → Bool
linked T k = (next T k == 0 && not (k == 0)) || (nat_lt k (next T k) && nat_le (next T k) (records T))

abbrev pub link_sound : List ℕ → ℕ → Bool
link_sound T k = not (on_chain T k) || linked T k

-- the lowest place where the chain breaks
abbrev pub broken_link : List ℕ → Option ℕ
broken_link T = lowest (λ k. not (link_sound T k)) (records T + 1)
