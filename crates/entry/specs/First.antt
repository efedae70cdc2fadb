-- What every call tests first: 3, then 1, then the first step's 5 (document 01, the order of refusals). Assumes nothing.
use Rattle.std.specs.Prelude.{ℕ, ◌*◌, Bool, ◌&&◌, cond, leb, eqb}
use Rattle.prefix.specs.Prefix.{width}
use Rattle.tiers.specs.Tiers.{pool_max, data_top, child_top, node_words, cell_words, spacings, free_list_length}
use Rattle.blocks.specs.declared.Pool.{Pool}
use Rattle.blocks.specs.Shape.{sane_of}

-- a pool's size is one of 1 to the limit
abbrev pub allowed : ℕ → Bool
allowed size = leb 1 size && leb size pool_max

-- the slices of a lookup over n nodes and d cells: exactly their words
unfoldable pub lookup_shaped : ℕ → ℕ → ℕ → ℕ → Bool
lookup_shaped n d nodes cells = allowed n && allowed d && eqb nodes (n * node_words) && eqb cells (d * cell_words)

-- the slices of an edit: these, and exactly the two free lists
unfoldable pub edit_shaped : ℕ → ℕ → ℕ → ℕ → ℕ → ℕ → Bool
edit_shaped n d nodes cells node_free cell_free =
    lookup_shaped n d nodes cells && eqb node_free (free_list_length (spacings child_top) n) && eqb cell_free (free_list_length (spacings data_top) d)

-- no mark exceeds its pool, no free count its section, nor the rule count D
unfoldable pub sane_state : Pool → Pool → ℕ → Bool
sane_state p q rules = sane_of p child_top && sane_of q data_top && leb rules q.size

-- the number of a call that is refused here, else 0: nodes p, cells q
unfoldable pub lookup_first : Pool → Pool → ℕ → ℕ → ℕ → ℕ → ℕ
lookup_first p q rules nodes cells len =
    cond (lookup_shaped p.size q.size nodes cells) (cond (leb len width) (cond (sane_state p q rules) 0 5) 1) 3

-- request [7] tests the key of an edit between number 1 and the steps
unfoldable pub edit_first : Pool → Pool → ℕ → ℕ → ℕ → ℕ → ℕ → ℕ → ℕ → ℕ
edit_first p q rules nodes cells node_free cell_free key len =
    cond (edit_shaped p.size q.size nodes cells node_free cell_free) (cond (leb len width) (cond (sane_state p q rules) 0 5) 1) 3
