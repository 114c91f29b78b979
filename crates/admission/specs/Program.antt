-- What is judged: a core description, the words of a store, and the depth table with the line of each word.
-- Assumes nothing.
use Rattle.std.specs.Prelude.{ℕ, List}
use Rattle.platform.specs.declared.description.CoreDescription.{CoreDescription}

pub record Program : Type 0 where
  pub description : CoreDescription
  pub count : ℕ
  pub word : ℕ → ℕ
  pub table : List ℕ
  pub lines : List ℕ

abbrev pub program : CoreDescription → ℕ → (ℕ → ℕ) → List ℕ → List ℕ → Program
program d n w T L = record { description = d; count = n; word = w; table = T; lines = L }
