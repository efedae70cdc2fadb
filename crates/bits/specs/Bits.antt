-- Bits of a number, by division alone. Assumes nothing.
use Rattle.std.specs.Prelude.{◌≡◌, Bool, true, false, ℕ, zero, suc, ◌+◌, ◌-◌, ◌*◌, ◌/◌, ◌%◌, ◌^◌, ◌<◌, eqb}

-- a test as a number: 1 where it holds, else 0
abbrev pub one : Bool → ℕ
one true = 1
one false = 0

-- bit k of n, 0 or 1
unfoldable pub bit_at : ℕ → ℕ → ℕ
bit_at n k = n / 2 ^ k % 2

-- bit k of n is set
abbrev pub has : ℕ → ℕ → Bool
has n k = eqb (bit_at n k) 1

-- how many of the bits below b are set: the slot of bit b
unfoldable pub set_below : ℕ → ℕ → ℕ
set_below n zero = 0
set_below n (suc b) = set_below n b + bit_at n b

-- how many of the 32 bits are set
abbrev pub count : ℕ → ℕ
count n = set_below n 32

-- n with bit b set, and every other bit as it was
unfoldable pub with_bit : ℕ → ℕ → ℕ
with_bit n b = n + (1 - bit_at n b) * 2 ^ b

-- n with bit b clear, and every other bit as it was
unfoldable pub without_bit : ℕ → ℕ → ℕ
without_bit n b = n - bit_at n b * 2 ^ b

-- the number whose bits below k are those that the test picks
unfoldable pub word : ℕ → (ℕ → Bool) → ℕ
word zero f = 0
word (suc k) f = word k f + one (f k) * 2 ^ k

-- r is the highest set bit of n
pub record Highest (n r : ℕ) : Type 0 where
  pub set : bit_at n r ≡ 1
  pub above : (k : ℕ) → r < k → bit_at n k ≡ 0

-- r is the lowest set bit of n
pub record Lowest (n r : ℕ) : Type 0 where
  pub set : bit_at n r ≡ 1
  pub below : (k : ℕ) → k < r → bit_at n k ≡ 0
