-- Taking a block from a pool and returning one (document 01, "Allocators"): the numbers, and apart from them what is done.
-- `top` is the kind of pool: its last spacing. `lim` is the issued mark as an edit found it. Assumes nothing.
use Rattle.std.specs.Prelude.{ℕ, ◌+◌, ◌-◌, min, cond, List, get_or, set, ltb, leb, eqb}
use Rattle.tiers.specs.Tiers.{spacings, spacing_of, section_start, section_length}
use Rattle.blocks.specs.declared.Pool.{Pool}
use Rattle.blocks.specs.declared.Block.{Block}

-- a number of document 01, and the pool after where it is 0
pub record Asked : Type 0 where
  pub number : ℕ
  pub pool : Pool

abbrev pub with_mark : Pool → ℕ → Pool
with_mark p m = record { size = p.size; mark = m; free = p.free }

abbrev pub with_free : Pool → List ℕ → Pool
with_free p f = record { size = p.size; mark = p.mark; free = f }

abbrev pub block_as : ℕ → Pool → Block
block_as s p = record { start = s; pool = p }

abbrev pub asked_as : ℕ → Pool → Asked
asked_as n p = record { number = n; pool = p }

-- how many blocks of the tier are free
abbrev pub free_of : Pool → ℕ → ℕ
free_of p t = get_or p.free t 0

-- where the tier's section of the free list begins
abbrev pub section_of : ℕ → Pool → ℕ → ℕ
section_of top p t = section_start (spacings top) p.size t

-- ---- which free block is taken: of n in a section from `from` on, the last returned; its entry becomes 0. Request [9] changes these three

abbrev pub first_out : List ℕ → ℕ → ℕ → ℕ
first_out l from n = get_or l (from + (n - 1)) 0

abbrev pub take_out : List ℕ → ℕ → ℕ → List ℕ
take_out l from n = set l (from + (n - 1)) 0

abbrev pub put_in : List ℕ → ℕ → ℕ → ℕ → List ℕ
put_in l from n s = set l (from + n) s

-- ---- a block is taken

-- 5 unless the block of the tier at s lies wholly below the mark as found
unfoldable pub within_of : ℕ → ℕ → ℕ → ℕ → ℕ
within_of top lim t s = cond (leb (s + spacing_of (spacings top) t) lim) 0 5

-- may a block of the tier be taken: a free one before unused room
unfoldable pub ask_of : Pool → ℕ → ℕ → List ℕ → ℕ → ℕ
ask_of p top lim l t =
    cond (eqb (free_of p t) 0)
    (cond (leb (p.mark + spacing_of (spacings top) t) p.size) 0 4)
    (within_of top lim t (first_out l (section_of top p t) (free_of p t)))

-- the pool without it; nothing is issued past the pool's end
unfoldable pub less_of : Pool → ℕ → ℕ → Pool
less_of p top t =
    cond (eqb (free_of p t) 0)
    (with_mark p (min p.size (p.mark + spacing_of (spacings top) t)))
    (with_free p (set p.free t (free_of p t - 1)))

-- where it starts, the pool and the free list without it
unfoldable pub take_of : Pool → ℕ → List ℕ → ℕ → Block × List ℕ
take_of p top l t =
    cond (eqb (free_of p t) 0)
    (block_as p.mark (less_of p top t), l)
    (block_as (first_out l (section_of top p t) (free_of p t)) (less_of p top t), take_out l (section_of top p t) (free_of p t))

-- ---- a block is returned

-- may the block at s be returned: 5 where its section is full, or the block isn't wholly below the mark as found
unfoldable pub room_of : Pool → ℕ → ℕ → ℕ → ℕ → ℕ
room_of p top lim t s = cond (ltb (free_of p t) (section_length (spacings top) p.size t)) (within_of top lim t s) 5

-- the pool with it; no count goes past its section
unfoldable pub more_of : Pool → ℕ → ℕ → Pool
more_of p top t = with_free p (set p.free t (min (section_length (spacings top) p.size t) (free_of p t + 1)))

-- the pool and the free list with it
unfoldable pub give_of : Pool → ℕ → List ℕ → ℕ → ℕ → Pool × List ℕ
give_of p top l t s = (more_of p top t, put_in l (section_of top p t) (free_of p t) s)
