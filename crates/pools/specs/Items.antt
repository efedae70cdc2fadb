-- Items of owners, known by numbers: item x is the owner x / 32's, at place x % 32. K says which items there are. Assumes nothing.
-- A notion of the proofs: no promise cites it.
use Rattle.std.specs.Prelude.{Bool, cond, ℕ, ◌+◌, ◌*◌, ◌/◌, ◌%◌, eqb}
use Rattle.bits.specs.Bits.{one}
use Rattle.rules.specs.Sums.{sum}

-- a function changed at one place
unfoldable pub upd : {A : Type 0} → (ℕ → A) → ℕ → A → ℕ → A
upd f i a j = cond (eqb i j) a (f j)

-- how many of the n items from a on there are
abbrev pub among : (ℕ → Bool) → ℕ → ℕ → ℕ
among K a n = sum n (λ i. one (K (a + i)))

-- how many items an owner has
abbrev pub items : (ℕ → Bool) → ℕ → ℕ
items K n = among K (32 * n) 32

-- how many of its owner's items stand before x
abbrev pub slot : (ℕ → Bool) → ℕ → ℕ
slot K x = among K (32 * (x / 32)) (x % 32)

-- where x stands: the items of an owner n stand in order from st n on
abbrev pub place_of : (ℕ → Bool) → (ℕ → ℕ) → ℕ → ℕ
place_of K st x = st (x / 32) + slot K x
