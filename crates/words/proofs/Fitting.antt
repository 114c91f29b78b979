-- The rows of the table lie apart, so the one row that fits a word says what it means.
-- Assumes nothing.
use Rattle.std.proofs.Common.{◌≡◌, ℕ, zero, suc, ◌+◌, ◌*◌, ◌/◌, ◌^◌, ◌<◌, ◌≤◌, Bool, true, ◌&&◌, ◌||◌, leb, List, [], ◌∷◌, length, get_or, None, Err, refl, ap, ◌∙◌, ⊎_elim, le_of_suc-le-suc, not-suc-le-zero, div-lt_iff_lt-mul, add-mul, le-div_iff_mul-le, arith, pow_pos}
use Rattle.std.proofs.lemmas.Bool.{leb-true, eq-eqb, ne_eqb, lt-leb, cond-true, cond-false, and_parts, or_cases, cases_order, le-leb}
use Rattle.std.specs.Option.{ok_or}
use Rattle.words.specs.Decoding.{Row, fits, first, rows, decoded}
use Rattle.words.specs.declared.errors.DecodeError.TheVariants.{Reserved, TooWide}

-- where the words of a row begin and end
abbrev from : Row → ℕ
from r = r.prefix * 2 ^ r.low

abbrev to : Row → ℕ
to r = (r.prefix + 1) * 2 ^ r.low

-- the word w has the bits that r fixes
abbrev pub Has : Row → ℕ → Type 0
Has r w = w / 2 ^ r.low ≡ r.prefix

has_below : (r : Row) (w : ℕ) → Has r w → w < to r
has_below r w h = (div-lt_iff_lt-mul (pow_pos r.low)).0 (omega arith)

has_above : (r : Row) (w : ℕ) → Has r w → from r ≤ w
has_above r w h = (le-div_iff_mul-le (pow_pos r.low)).0 (omega arith)

-- the words of each row lie below b and below those of the rows before it
abbrev descending : ℕ → List Row → Bool
descending b [] = true
descending b (r ∷ rs) = leb (to r) b && descending (from r) rs

table_descends : descending (2 ^ 22) rows ≡ true
table_descends = refl

-- what stands past the end of the table
abbrev pub none : Row
none = record { low = 0; prefix = 0; meaning = λ w. None }

first_fits : (rs : List Row) (b : ℕ) → descending b rs ≡ true → (k : ℕ) → k < length rs → (w : ℕ) → Has (get_or rs k none) w → (w < b) × (first rs w ≡ (get_or rs k none).meaning w)
first_fits [] b d k lt w h = absurd (not-suc-le-zero lt)
first_fits (r ∷ rs) b d zero lt w h =
    let top = leb-true (to r) b (and_parts (leb (to r) b) (descending (from r) rs) d).0 in
    let under = has_below r w h in
    (omega arith, cond-true (fits r w) (r.meaning w) (first rs w) (eq-eqb _ _ h))
first_fits (r ∷ rs) b d (suc k) lt w h =
    let parts = and_parts (leb (to r) b) (descending (from r) rs) d in
    let top = leb-true (to r) b parts.0 in
    let rest = first_fits rs (from r) parts.1 k (le_of_suc-le-suc lt) w h in
    let under : w < from r = rest.0 in
    let within : from r ≤ to r = omega (arith, add-mul r.prefix 1 (2 ^ r.low)) in
    (omega arith, cond-false (fits r w) (r.meaning w) (first rs w) (ne_eqb _ _ (λ e. let up = has_above r w e in omega arith)) ∙ rest.1)

-- a number below 2 ^ 22 is what the first row that fits says
pub narrow : (w : ℕ) → w < 2 ^ 22 → decoded w ≡ ok_or (first rows w) Reserved
unfolding decoded
narrow w lt = cond-false (leb (2 ^ 22) w) (Err TooWide) (ok_or (first rows w) Reserved) (lt-leb (2 ^ 22) w lt)

-- row k fits w
pub at_row : (k : ℕ) → k < length rows → (w : ℕ) → Has (get_or rows k none) w → decoded w ≡ ok_or ((get_or rows k none).meaning w) Reserved
at_row k lt w h = let found = first_fits rows (2 ^ 22) table_descends k lt w h in narrow w found.0 ∙ ap (λ o. ok_or o Reserved) found.1

-- no row has a word from a up to b
abbrev clear : ℕ → ℕ → List Row → Bool
clear a b [] = true
clear a b (r ∷ rs) = (leb b (from r) || leb (to r) a) && clear a b rs

first_none : (rs : List Row) (a b w : ℕ) → clear a b rs ≡ true → a ≤ w → w < b → first rs w ≡ None
first_none [] a b w c lo hi = refl
first_none (r ∷ rs) a b w c lo hi =
    let parts = and_parts (leb b (from r) || leb (to r) a) (clear a b rs) c in
    let miss : Has r w → ⊥ =
    λ e.
    let up = has_above r w e in
    let down = has_below r w e in
    ⊎_elim (λ t. omega (arith, leb-true b (from r) t)) (λ t. omega (arith, leb-true (to r) a t)) (or_cases (leb b (from r)) (leb (to r) a) parts.0) in
    cond-false (fits r w) (r.meaning w) (first rs w) (ne_eqb _ _ miss) ∙ first_none rs a b w parts.1 lo hi

-- from a up to b the rows have no words but those of ss, which ascend
abbrev pub gaps : ℕ → List ℕ → ℕ → Bool
gaps a [] b = clear a b rows
gaps a (s ∷ ss) b = clear a s rows && gaps (suc s) ss b

abbrev pub Avoids : ℕ → List ℕ → Type 0
Avoids w [] = Unit {0}
Avoids w (s ∷ ss) = (w ≡ s → ⊥) × Avoids w ss

between : (a : ℕ) (ss : List ℕ) (b w : ℕ) → gaps a ss b ≡ true → a ≤ w → w < b → Avoids w ss → first rows w ≡ None
between a [] b w c lo hi avoids = first_none rows a b w c lo hi
between a (s ∷ ss) b w c lo hi avoids =
    let parts = and_parts (clear a s rows) (gaps (suc s) ss b) c in
    ⊎_elim (λ e. absurd (avoids.0 e))
    (⊎_elim (λ below. first_none rows a s w parts.0 lo below) (λ above. between (suc s) ss b w parts.1 above hi avoids.1))
    (cases_order w s)

pub reserved_between : (a : ℕ) (ss : List ℕ) (b w : ℕ) → gaps a ss b ≡ true → b ≤ 2 ^ 22 → a ≤ w → w < b → Avoids w ss → decoded w ≡ Err Reserved
reserved_between a ss b w c top lo hi avoids = narrow w (omega arith) ∙ ap (λ o. ok_or o Reserved) (between a ss b w c lo hi avoids)

pub too_wide : (w : ℕ) → 2 ^ 22 ≤ w → decoded w ≡ Err TooWide
unfolding decoded
too_wide w h = cond-true (leb (2 ^ 22) w) (Err TooWide) (ok_or (first rows w) Reserved) (le-leb (2 ^ 22) w h)
