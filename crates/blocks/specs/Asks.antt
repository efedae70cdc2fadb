-- The numbers as the code asks for them, on the free list as found. `spare`: a single block has just come back, which that
-- list doesn't show. proofs/Spare.antt (inserts) and proofs/Climb.antt (removals) show that these are the numbers of the steps. Assumes nothing.
use Rattle.std.specs.Prelude.{ℕ, zero, suc, ◌-◌, Bool, false, cond, ◌&&◌, List, leb, eqb}
use Rattle.blocks.specs.declared.Pool.{Pool}
use Rattle.blocks.specs.Blocks.{Asked, within_of, ask_of, less_of, room_of, more_of, asked_as}
use Rattle.blocks.specs.Growth.{tier_in}

-- may a block of the tier be taken
unfoldable pub ask_found : Pool → ℕ → ℕ → List ℕ → Bool → ℕ → ℕ
ask_found p top lim l spare t = cond (spare && eqb t 0) 0 (ask_of p top lim l t)

-- n single blocks
unfoldable pub singles_found : ℕ → Pool → ℕ → ℕ → List ℕ → Bool → ℕ
singles_found zero p top lim l spare = 0
singles_found (suc n) p top lim l spare =
    cond (eqb (ask_found p top lim l spare 0) 0) (singles_found n (less_of p top 0) top lim l false) (ask_found p top lim l spare 0)

-- contents that move
unfoldable pub move_found : Pool → ℕ → ℕ → List ℕ → Bool → ℕ → ℕ → ℕ → Asked
move_found p top lim l spare old a b =
    cond (eqb (ask_found p top lim l spare b) 0)
    (asked_as (room_of (less_of p top b) top lim a old) (more_of (less_of p top b) top a))
    (asked_as (ask_found p top lim l spare b) p)

-- one item less
unfoldable pub shrink_found : Pool → ℕ → ℕ → List ℕ → Bool → ℕ → ℕ → Asked
shrink_found p top lim l spare old c =
    cond (leb c 1) (asked_as (room_of p top lim 0 old) (more_of p top 0))
    (cond (eqb (tier_in top c) (tier_in top (c - 1))) (asked_as (within_of top lim (tier_in top c) old) p)
    (move_found p top lim l spare old (tier_in top c) (tier_in top (c - 1))))
