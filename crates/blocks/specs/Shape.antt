-- What the first step of every call tests of a pool (document 01, numbers 3 and 5). Assumes nothing.
use Rattle.std.specs.Prelude.{ℕ, zero, suc, Bool, true, ◌&&◌, List, get_or, leb, eqb}
use Rattle.tiers.specs.Tiers.{spacings, section_length, free_list_length, pool_max}
use Rattle.blocks.specs.declared.Pool.{Pool}

-- the size is allowed, and the free list has just its length: else 3
unfoldable pub shaped_of : Pool → ℕ → ℕ → Bool
shaped_of p top list = leb 1 p.size && leb p.size pool_max && eqb list (free_list_length (spacings top) p.size)

-- the free counts of the first n tiers are within their sections
unfoldable pub sections_of : ℕ → ℕ → ℕ → List ℕ → Bool
sections_of zero top size f = true
sections_of (suc n) top size f = leb (get_or f n 0) (section_length (spacings top) size n) && sections_of n top size f

-- the mark is within the pool and each free count within its section: else 5
unfoldable pub sane_of : Pool → ℕ → Bool
sane_of p top = leb p.mark p.size && sections_of 7 top p.size p.free
