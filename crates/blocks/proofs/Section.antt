-- Laws of a section of the free list, with n blocks from `from` on: which is taken, how it leaves, how one comes. What a take
-- or a return does to a list is proved from these alone. Assumes nothing.
use mathlib.Core.Path.{◌≡◌, refl, ap, ◌∙◌}
use mathlib.Core.Logic.{◌⊎◌, inl, inr}
use mathlib.Core.List.{List}
use Prim.Native.Nat.{ℕ, suc, ◌+◌, ◌-◌, ◌≤◌, ◌<◌}
use native.Mathlib.Decide.{dec_lt}
use native.Mathlib.Omega.{arith}
use lib.ListN.{length, get_or, length-set}
use lib.Seq.{get_or-set_same, get_or-set_other}
use Rattle.blocks.specs.Blocks.{first_out, take_out, put_in}

module _ (l : List ℕ) (from n : ℕ) where
  -- a list keeps its length when a block leaves
  pub out_length : length (take_out l from n) ≡ length l
  out_length = length-set l (from + (n - 1)) 0

  -- no entry outside the section changes
  pub out_other : (i : ℕ) → 0 < n → (from ≤ i → i < from + n → ⊥) → get_or (take_out l from n) i 0 ≡ get_or l i 0
  out_other i h k = get_or-set_other l (from + (n - 1)) i 0 0 (λ e. k (omega arith) (omega arith))

  -- those that are left stay
  pub out_rest : (i : ℕ) → suc i < n → get_or (take_out l from n) (from + i) 0 ≡ get_or l (from + i) 0
  out_rest i h = get_or-set_other l (from + (n - 1)) (from + i) 0 0 (λ e. omega arith)

  -- the popped entry becomes 0
  pub out_zero : from + (n - 1) < length l → get_or (take_out l from n) (from + (n - 1)) 0 ≡ 0
  out_zero h = get_or-set_same l (from + (n - 1)) 0 0 h

  -- what is taken is an entry of the section
  pub first_entry : first_out l from n ≡ get_or l (from + (n - 1)) 0
  first_entry = refl

  -- a list keeps its length when a block comes
  pub in_length : (s : ℕ) → length (put_in l from n s) ≡ length l
  in_length s = length-set l (from + n) s

  -- no entry outside the section changes
  pub in_other : (s i : ℕ) → (from ≤ i → i < from + suc n → ⊥) → get_or (put_in l from n s) i 0 ≡ get_or l i 0
  in_other s i k = get_or-set_other l (from + n) i s 0 (λ e. k (omega arith) (omega arith))

  -- those that were there stay
  pub in_old : (s i : ℕ) → i < n → get_or (put_in l from n s) (from + i) 0 ≡ get_or l (from + i) 0
  in_old s i h = get_or-set_other l (from + n) (from + i) s 0 (λ e. omega arith)

  -- the last returned is taken first
  pub in_first : (s : ℕ) → from + n < length l → first_out (put_in l from n s) from (suc n) ≡ s
  in_first s h =
      let e : from + (suc n - 1) ≡ from + n = omega arith in
      ap (λ (i : ℕ). get_or (put_in l from n s) i 0) e ∙ get_or-set_same l (from + n) s 0 h

  -- an entry of the section is the new one or an old one
  pub in_entry : (s i : ℕ) → from + n < length l → i < suc n → (get_or (put_in l from n s) (from + i) 0 ≡ s) ⊎ (get_or (put_in l from n s) (from + i) 0 ≡ get_or l (from + i) 0)
  in_entry s i h k = go (dec_lt i n)
    where
      go : Dec (i < n) → (get_or (put_in l from n s) (from + i) 0 ≡ s) ⊎ (get_or (put_in l from n s) (from + i) 0 ≡ get_or l (from + i) 0)
      go (yes w) = inr (in_old s i w)
      go (no w) =
          let e : from + i ≡ from + n = omega arith in
          inl (ap (λ (j : ℕ). get_or (put_in l from n s) j 0) e ∙ get_or-set_same l (from + n) s 0 h)
