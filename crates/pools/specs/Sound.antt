-- A pool whose blocks are known: each place is an owner's, a free block's or unused, so no two blocks overlap; and each item stands
-- at its place. `top` is the kind of pool: its last spacing. Assumes nothing. A notion of the proofs: no promise cites it.
use Rattle.std.specs.Prelude.{◌≡◌, Bool, true, false, List, ℕ, zero, suc, ◌+◌, ◌-◌, ◌≤◌, ◌<◌, get_or}
use Rattle.tiers.specs.Tiers.{spacings, spacing_of}
use Rattle.blocks.specs.declared.Pool.{Pool}
use Rattle.blocks.specs.Blocks.{free_of, section_of}
use Rattle.blocks.specs.Growth.{tier_in, stays_of, fits_of}
use Rattle.blocks.proofs.Shape.{InShape}
use Rattle.store.proofs.Blocks.{Grows, GrowsInto, Shrinks, ShrinksInto, Apart}
use Rattle.pools.specs.Items.{items, place_of}

-- the cells of a block of tier t, and of the block for c items: none for 0
abbrev pub cells_of : ℕ → ℕ → ℕ
cells_of top t = spacing_of (spacings top) t

abbrev pub block_for : ℕ → ℕ → ℕ
block_for top zero = 0
block_for top (suc c) = cells_of top (tier_in top (suc c))

-- ---- free blocks

-- s is one of the n entries of a list from `from` on
abbrev pub Listed : List ℕ → ℕ → ℕ → ℕ → Type 0
Listed l from n s = (i : ℕ) × (i < n) × (get_or l (from + i) 0 ≡ s)

-- these entries differ
abbrev pub Distinct : List ℕ → ℕ → ℕ → Type 0
Distinct l from n = (i j : ℕ) → i < n → j < n → get_or l (from + i) 0 ≡ get_or l (from + j) 0 → i ≡ j

-- a block of tier t is free at s
abbrev pub FreeAt : ℕ → Pool → List ℕ → ℕ → ℕ → Type 0
FreeAt top p l t s = Listed l (section_of top p t) (free_of p t) s

-- what the numbers of an edit need: the pool has its shape, and every free block lies below the mark as the edit found it
pub record Stock (top : ℕ) (p : Pool) (l : List ℕ) (lim : ℕ) : Type 0 where
  pub shape : InShape p top l
  pub under : (t s : ℕ) → t < 7 → FreeAt top p l t s → s + cells_of top t ≤ lim

-- ---- whose each place is

-- in the block of owner n; in the free block of tier t at s; never issued
pub data Owner : Type 0 where
  kept : ℕ → Owner
  free : ℕ → ℕ → Owner
  unused : Owner

-- the places of free blocks are theirs alone, each block is listed once, and nothing from the mark on is issued
pub record Coloured (top : ℕ) (p : Pool) (l : List ℕ) (own : ℕ → Owner) : Type 0 where
  pub shape : InShape p top l
  pub freed : (t s i : ℕ) → t < 7 → FreeAt top p l t s → i < cells_of top t → own (s + i) ≡ free t s
  pub once : (t : ℕ) → t < 7 → Distinct l (section_of top p t) (free_of p t)
  pub fresh : (i : ℕ) → p.mark ≤ i → own i ≡ unused

-- the items of owners stand in their blocks: mem holds val x at the place of each item x
pub record Sound {A : Type 0} (top : ℕ) (p : Pool) (l : List ℕ) (mem : ℕ → A) (K : ℕ → Bool) (st : ℕ → ℕ) (val : ℕ → A) (own : ℕ → Owner) : Type 0 where
  pub blocks : Coloured top p l own
  pub mine : (n i : ℕ) → i < block_for top (items K n) → own (st n + i) ≡ kept n
  pub few : (n : ℕ) → items K n ≤ top
  pub held : (x : ℕ) → K x ≡ true → mem (place_of K st x) ≡ val x

-- ---- what growth and shrinkage do to a memory of items, where there is room for it: c items at old, slot k, the new block at t

pub record Widens {A : Type 0} (size : ℕ) (mem mem' : ℕ → A) (e a : A) (top old t c k : ℕ) : Type 0 where
  pub here : stays_of top c ≡ true → old + c < size → Grows mem mem' a old c k
  pub there : stays_of top c ≡ false → (0 < c → old + c ≤ size) → t + c < size → Apart old c t (suc c) → GrowsInto mem mem' e a old t c k

pub record Narrows {A : Type 0} (size : ℕ) (mem mem' : ℕ → A) (e : A) (top old t c k : ℕ) : Type 0 where
  pub here : fits_of top c ≡ true → old + c ≤ size → Shrinks mem mem' e old c k
  pub there : fits_of top c ≡ false → old + c ≤ size → t + (c - 1) ≤ size → Apart old c t (c - 1) → ShrinksInto mem mem' e old t c k
