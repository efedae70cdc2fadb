-- What is read of a node's words: the bits, counts and slots of its bitmaps, and the start of a block. Assumes nothing.
use mathlib.Core.Path.{◌≡◌, refl, sym, ap, ◌∙◌}
use mathlib.Core.Bool.{Bool, true, false}
use mathlib.Core.Logic.{◌⊎◌, inl, inr}
use Prim.Native.Nat.{ℕ, zero, suc, ◌+◌, ◌*◌, ◌/◌, ◌^◌, ◌≤◌, ◌<◌}
use native.Mathlib.Omega.{arith}
use native.Mathlib.Decide.{ℕ_discrete}
use borrow.Author.Tests.{eq-eqb, eqb-true}
use lib.Dec.{eqb}
use Rattle.bits.specs.Bits.{one, bit_at, has, set_below, count, with_bit, without_bit, word}
use Rattle.bits.proofs.BitByBit.{bit_cases, ext}
use Rattle.bits.proofs.OneBit.{with_same, with_other, with_lt, without_same, without_other, without_le}
use Rattle.bits.proofs.Slots.{below_none, below_strict}
use Rattle.bits.proofs.Words.{word_lt, word_bit, word_is, word_ext}
use Rattle.rules.specs.Sums.{sum}
use Rattle.rules.proofs.Tests.{agree}
use Rattle.pools.specs.Items.{upd, among, items}
use Rattle.pools.proofs.Items.{upd_same, upd_other}
use Rattle.image.specs.Image.{start_of, bits_of}

module _ (K : ℕ → Bool) (n : ℕ) where
  -- bit i of a bitmap as a number
  pub bits_bit : (i : ℕ) → i < 32 → bit_at (bits_of K n) i ≡ one (K (32 * n + i))
  bits_bit i h = word_bit 32 (λ i. K (32 * n + i)) i h

  -- bit i of a bitmap says whether the owner has item i
  pub bits_has : (i : ℕ) → i < 32 → has (bits_of K n) i ≡ K (32 * n + i)
  bits_has i h = ap (λ (x : ℕ). eqb x 1) (bits_bit i h) ∙ go (K (32 * n + i))
    where
      go : (b : Bool) → eqb (one b) 1 ≡ b
      go true = refl
      go false = refl

  -- the slot of bit i is how many items stand before item i
  pub bits_slot : (i : ℕ) → i ≤ 32 → set_below (bits_of K n) i ≡ among K (32 * n) i
  unfolding set_below sum
  bits_slot = elim [
    | zero ↦ λ h. refl
    | suc (i → ih) ↦ λ h. let a = ih (omega arith) in let b = bits_bit i (omega arith) in omega arith
  ]

  -- a bitmap counts its owner's items
  pub bits_count : count (bits_of K n) ≡ items K n
  bits_count = bits_slot 32 (omega arith)

  -- a bitmap fits its word
  pub bits_lt : bits_of K n < 2 ^ 32
  bits_lt = word_lt 32 (λ i. K (32 * n + i))

  -- a bitmap is zero exactly where its owner has no items
  pub bits_zero : eqb (bits_of K n) 0 ≡ eqb (items K n) 0
  bits_zero =
      agree (eqb (bits_of K n) 0) (eqb (items K n) 0)
      (λ e. eq-eqb (items K n) 0 (sym bits_count ∙ ap count (eqb-true (bits_of K n) 0 e) ∙ below_none 32))
      (λ e. eq-eqb (bits_of K n) 0 (none (bits_count ∙ eqb-true (items K n) 0 e)))
    where
      none : count (bits_of K n) ≡ 0 → bits_of K n ≡ 0
      none z =
          ext 32 (bits_of K n) 0 bits_lt (omega arith) (λ j h. go j h (bit_cases (bits_of K n) j) (bit_cases 0 j))
        where
          go : (j : ℕ) → j < 32 → (bit_at (bits_of K n) j ≡ 0) ⊎ (bit_at (bits_of K n) j ≡ 1) → (bit_at 0 j ≡ 0) ⊎ (bit_at 0 j ≡ 1) → bit_at (bits_of K n) j ≡ bit_at 0 j
          go j h (inl a) (inl b) = a ∙ sym b
          go j h (inr a) b = absurd (omega (arith, below_strict (bits_of K n) a h))
          go j h (inl a) (inr b) = absurd (omega (arith, below_strict 0 b h, below_none 32))

  -- without item 31 a bitmap has at most 31 bits
  pub bits_low : K (32 * n + 31) ≡ false → bits_of K n < 2 ^ 31
  unfolding word
  bits_low e = rw e (omega (arith, word_lt 31 (λ i. K (32 * n + i))))

  -- ---- one bit changed

  -- a word that differs from a bitmap at bit i alone is that of the items changed at item i
  changed : (i : ℕ) (v : Bool) (w : ℕ) → w < 2 ^ 32 → bit_at w i ≡ one v → ((j : ℕ) → (j ≡ i → ⊥) → bit_at w j ≡ bit_at (bits_of K n) j)
      → w ≡ bits_of (upd K (32 * n + i) v) n
  changed i v w h same other = word_is 32 (λ j. upd K (32 * n + i) v (32 * n + j)) w h (λ j l. go j l (ℕ_discrete j i))
    where
      go : (j : ℕ) → j < 32 → Dec (j ≡ i) → bit_at w j ≡ one (upd K (32 * n + i) v (32 * n + j))
      go j l (yes e) = rw e (same ∙ sym (ap one (upd_same K (32 * n + i) v)))
      go j l (no f) = other j f ∙ bits_bit j l ∙ sym (ap one (upd_other K (32 * n + i) (32 * n + j) v (λ e. f (omega arith))))

  -- a bitmap with bit i set is that of the items with item i
  pub bits_with : (i : ℕ) → i < 32 → with_bit (bits_of K n) i ≡ bits_of (upd K (32 * n + i) true) n
  bits_with i h =
      changed i true (with_bit (bits_of K n) i) (with_lt 32 (bits_of K n) i bits_lt h) (with_same (bits_of K n) i) (λ j f. with_other (bits_of K n) i j f)

  -- and with bit i clear that of the items without it
  pub bits_without : (i : ℕ) → i < 32 → without_bit (bits_of K n) i ≡ bits_of (upd K (32 * n + i) false) n
  bits_without i h =
      changed i false (without_bit (bits_of K n) i) (omega (arith, bits_lt, without_le (bits_of K n) i)) (without_same (bits_of K n) i)
      (λ j f. without_other (bits_of K n) i j f)

-- an item of another owner changes nothing of a bitmap
pub bits_other : (K : ℕ → Bool) (x n : ℕ) (v : Bool) → (x / 32 ≡ n → ⊥) → bits_of (upd K x v) n ≡ bits_of K n
bits_other K x n v f =
    word_ext 32 (λ i. upd K x v (32 * n + i)) (λ i. K (32 * n + i)) (λ i h. upd_other K x (32 * n + i) v (λ e. f (omega arith)))

-- the start of a block that holds items
pub start_some : (c s : ℕ) → 0 < c → start_of c s ≡ s
start_some zero s h = absurd (omega arith)
start_some (suc c) s h = refl
