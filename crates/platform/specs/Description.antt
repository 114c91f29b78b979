-- The limits of a core description.
-- Assumes nothing.
use Rattle.std.specs.Prelude.{ℕ, ◌<◌, ◌≤◌, Bool, not, ◌&&◌, ◌==◌, ◌≢◌, nat_le, slice_index}
use Rattle.platform.specs.declared.description.CoreDescription.{CoreDescription}

-- where the routine of a level is entered
abbrev pub vector : CoreDescription → ℕ → ℕ
vector d level = slice_index d.vectors level

-- a depth of 1 to 16 words, and three vectors that differ and are not 0
pub record InLimits (d : CoreDescription) : Type 0 where
  pub some : 1 ≤ d.depth
  pub few : d.depth ≤ 16
  pub set : (level : ℕ) → level < 3 → vector d level ≢ 0
  pub apart : (level other : ℕ) → level < other → other < 3 → vector d level ≢ vector d other

abbrev differ : ℕ → ℕ → Bool
differ a b = not (a == b)

abbrev pub in_limits : CoreDescription → Bool
in_limits d =
    (nat_le 1 d.depth && nat_le d.depth 16)
    && (differ (vector d 0) 0 && (differ (vector d 1) 0 && differ (vector d 2) 0))
    && (differ (vector d 0) (vector d 1) && (differ (vector d 0) (vector d 2) && differ (vector d 1) (vector d 2)))
