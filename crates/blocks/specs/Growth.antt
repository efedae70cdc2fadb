-- A node's block of c items gets one more, or one less: the new block is taken before the old one is returned. Assumes nothing.
use Rattle.std.specs.Prelude.{ℕ, zero, suc, ◌+◌, ◌-◌, Bool, true, false, cond, List, leb, eqb}
use Rattle.tiers.specs.Tiers.{spacings, tier_of, empty}
use Rattle.blocks.specs.declared.Pool.{Pool}
use Rattle.blocks.specs.declared.Block.{Block}
use Rattle.blocks.specs.Blocks.{Asked, within_of, ask_of, less_of, take_of, room_of, more_of, give_of, block_as, asked_as}

-- the tier of a count of items of a kind
abbrev pub tier_in : ℕ → ℕ → ℕ
tier_in top c = tier_of (spacings top) c

-- contents that move: a block of tier b is taken, then the old one of tier a is returned. Numbers, then what is done
unfoldable pub move_ask_of : Pool → ℕ → ℕ → List ℕ → ℕ → ℕ → ℕ → Asked
move_ask_of p top lim l old a b =
    cond (eqb (ask_of p top lim l b) 0) (asked_as (room_of (less_of p top b) top lim a old) (more_of (less_of p top b) top a)) (asked_as (ask_of p top lim l b) p)

unfoldable pub move_of : Pool → ℕ → List ℕ → ℕ → ℕ → ℕ → Block × List ℕ
move_of p top l old a b =
    let x = take_of p top l b in
    let y = give_of x.0.pool top x.1 a old in
    (block_as x.0.start y.0, y.1)

-- one item more: a first block, the same block, or a move to the next tier
unfoldable pub grow_ask_of : Pool → ℕ → ℕ → List ℕ → ℕ → ℕ → Asked
grow_ask_of p top lim l old c =
    cond (eqb c 0) (asked_as (ask_of p top lim l 0) (less_of p top 0))
    (cond (eqb (tier_in top c) (tier_in top (c + 1))) (asked_as (within_of top lim (tier_in top c) old) p)
    (move_ask_of p top lim l old (tier_in top c) (tier_in top (c + 1))))

unfoldable pub grow_of : Pool → ℕ → List ℕ → ℕ → ℕ → Block × List ℕ
grow_of p top l old c =
    cond (eqb c 0) (take_of p top l 0)
    (cond (eqb (tier_in top c) (tier_in top (c + 1))) (block_as old p, l)
    (move_of p top l old (tier_in top c) (tier_in top (c + 1))))

-- one item less: the last item's block is returned, the same block, or a move to the tier below. Request [4] changes this place
unfoldable pub shrink_ask_of : Pool → ℕ → ℕ → List ℕ → ℕ → ℕ → Asked
shrink_ask_of p top lim l old c =
    cond (leb c 1) (asked_as (room_of p top lim 0 old) (more_of p top 0))
    (cond (eqb (tier_in top c) (tier_in top (c - 1))) (asked_as (within_of top lim (tier_in top c) old) p)
    (move_ask_of p top lim l old (tier_in top c) (tier_in top (c - 1))))

unfoldable pub shrink_of : Pool → ℕ → List ℕ → ℕ → ℕ → Block × List ℕ
shrink_of p top l old c =
    cond (leb c 1) (block_as empty (give_of p top l 0 old).0, (give_of p top l 0 old).1)
    (cond (eqb (tier_in top c) (tier_in top (c - 1))) (block_as old p, l)
    (move_of p top l old (tier_in top c) (tier_in top (c - 1))))

-- does a count stay in its block when one more comes, when one goes
unfoldable pub stays_of : ℕ → ℕ → Bool
stays_of top c = cond (eqb c 0) false (eqb (tier_in top c) (tier_in top (c + 1)))

unfoldable pub fits_of : ℕ → ℕ → Bool
fits_of top c = cond (leb c 1) true (eqb (tier_in top c) (tier_in top (c - 1)))

-- n single blocks, one after the other: the number, on the running pool and list
unfoldable pub singles_of : ℕ → Pool → ℕ → ℕ → List ℕ → ℕ
singles_of zero p top lim l = 0
singles_of (suc n) p top lim l =
    cond (eqb (ask_of p top lim l 0) 0) (singles_of n (take_of p top l 0).0.pool top lim (take_of p top l 0).1) (ask_of p top lim l 0)

-- k items of one more block each, the first in a block of c items at old: the number of an insert's missing nodes
unfoldable pub chain_ask_of : Pool → ℕ → List ℕ → ℕ → ℕ → ℕ → ℕ
chain_ask_of p top l old c k =
    cond (eqb (grow_ask_of p top p.mark l old c).number 0)
    (singles_of (k - 1) (grow_of p top l old c).0.pool top p.mark (grow_of p top l old c).1)
    (grow_ask_of p top p.mark l old c).number
