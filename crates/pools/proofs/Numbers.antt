-- Where every free block lies below the mark as an edit found it, the numbers of its asks are the ledger's. Assumes nothing.
use mathlib.Core.Path.{◌≡◌, refl, sym, ap, ap₂, ◌∙◌}
use mathlib.Core.Bool.{Bool, true, false, cond, ◌||◌}
use mathlib.Core.Logic.{◌⊎◌, inl, inr}
use mathlib.Core.Option.{none}
use mathlib.Core.List.{List}
use Prim.Native.Nat.{ℕ, zero, suc, ◌+◌, ◌-◌, ◌≤◌, ◌<◌}
use native.Mathlib.Nat.{not-suc-le-zero}
use native.Mathlib.Omega.{arith}
use borrow.Author.Tests.{le-leb, lt-ltb, leb-true, eqb-true, eqb-false}
use lib.Dec.{eqb, ltb, leb, lit<}
use Rattle.tiers.specs.Tiers.{spacings, spacing_of, section_length}
use Rattle.tiers.proofs.Tiers.{tier_lt}
use Rattle.blocks.specs.declared.Pool.{Pool}
use Rattle.blocks.specs.declared.Block.{Block}
use Rattle.blocks.specs.Blocks.{Asked, asked_as, free_of, section_of, first_out, within_of, ask_of, less_of, take_of, room_of, more_of, give_of}
use Rattle.blocks.specs.Growth.{tier_in, move_ask_of, move_of, grow_ask_of, grow_of, shrink_ask_of, shrink_of, singles_of, chain_ask_of}
use Rattle.blocks.proofs.Moves.{take_pool}
use Rattle.blocks.proofs.Shape.{take_shape, give_shape}
use Rattle.blocks.proofs.Settled.{either₂}
use Rattle.blocks.proofs.Spare.{tier_one}
use Rattle.rules.specs.Rules.{is_some}
use Rattle.rules.specs.Account.{Account, taking, Move, takes, supplies, moved, run, allows, steps}
use Rattle.rules.specs.Ledger.{rise, fall, times, nodes_come}
use Rattle.rules.proofs.Returns.{Fits}
use Rattle.pools.specs.Sound.{cells_of, block_for, FreeAt, Stock}
use Rattle.pools.specs.Accounts.{kind_of, account_of, supplied, number_of}
use Rattle.pools.proofs.Entries.{first_listed, take_listed, give_listed}
use Rattle.pools.proofs.Rows.{Swaps, rise_ways, fall_ways, take_supplied, up_swaps, down_swaps}
use Rattle.pools.proofs.Accounts.{number_append, fits_front, take_size, grow_size, take_account, room_here, room_after, grow_account}

-- the block of some items is one of their tier
pub block_tier : (top c : ℕ) → 0 < c → block_for top c ≡ cells_of top (tier_in top c)
block_tier top zero h = absurd (not-suc-le-zero h)
block_tier top (suc c) h = refl

-- a block that lies below the mark as found is no fault
within_none : (top lim t s : ℕ) → s + cells_of top t ≤ lim → within_of top lim t s ≡ 0
unfolding within_of
within_none top lim t s h = rw (le-leb (s + spacing_of (spacings top) t) lim h)

-- and may be returned where its section has room
room_none : (top : ℕ) (p : Pool) (lim t s : ℕ) → free_of p t < section_length (spacings top) p.size t → s + cells_of top t ≤ lim → room_of p top lim t s ≡ 0
unfolding room_of
room_none top p lim t s r h = rw (lt-ltb (free_of p t) (section_length (spacings top) p.size t) r) (within_none top lim t s h)

module _ (top : ℕ) (p : Pool) (l : List ℕ) (lim : ℕ) (stock : Stock top p l lim) where
  -- a take leaves the free blocks below the mark as found
  pub stock_take : (t : ℕ) → t < 7 → Stock top (take_of p top l t).0.pool (take_of p top l t).1 lim
  stock_take t h =
      record {
        shape = take_shape p top l t stock.shape;
        under = λ u s k f. stock.under u s k (take_listed top p l t stock.shape h u s k f);
      }

  -- and so does the return of a block that lies there
  pub stock_give : (t s : ℕ) → t < 7 → free_of p t < section_length (spacings top) p.size t → s + cells_of top t ≤ lim
      → Stock top (give_of p top l t s).0 (give_of p top l t s).1 lim
  stock_give t s h room below =
      record {
        shape = give_shape p top l t stock.shape s h;
        under = λ u r k f. go u r k (give_listed top p l t stock.shape h room s u r k f);
      }
    where
      go : (u r : ℕ) → u < 7 → ((u ≡ t) × (r ≡ s)) ⊎ FreeAt top p l u r → r + cells_of top u ≤ lim
      go u r k (inl (e, q)) = rw (e, q) below
      go u r k (inr f) = stock.under u r k f

  -- a block may be taken exactly where the ledger supplies one
  pub ask_number : (t : ℕ) → t < 7 → ask_of p top lim l t ≡ cond (supplies (kind_of top p) t (account_of p)) 0 4
  unfolding ask_of supplies
  ask_number t h = go (eqb (free_of p t) 0) refl
    where
      m : Bool
      m = leb (p.mark + spacing_of (spacings top) t) p.size

      go : (b : Bool) → eqb (free_of p t) 0 ≡ b → cond b (cond m 0 4) (within_of top lim t (first_out l (section_of top p t) (free_of p t))) ≡ cond (ltb 0 (free_of p t) || m) 0 4
      go true e = rw (eqb-true (free_of p t) 0 e)
      go false e =
          let n : 0 < free_of p t = omega (arith, eqb-false (free_of p t) 0 e) in
          rw (lt-ltb 0 (free_of p t) n) (within_none top lim t _ (stock.under t _ h (first_listed l (section_of top p t) (free_of p t) n)))

module _ (top : ℕ) (p : Pool) (l : List ℕ) (lim : ℕ) (stock : Stock top p l lim) where
  -- an ask, and the pool after an act, against a row of moves
  abbrev Tells : Asked → List Move → Type 0
  Tells x ms = Fits (kind_of top p) ms (account_of p) → x.number ≡ number_of (kind_of top p) ms (account_of p)

  abbrev Stocks : Block × List ℕ → List Move → Type 0
  Stocks x ms = supplied (kind_of top p) ms (account_of p) ≡ true → Fits (kind_of top p) ms (account_of p) → Stock top x.0.pool x.1 lim

  -- ---- contents that move, their old block below the mark as found

  module _ (old c d : ℕ) (ms : List Move) (swaps : Swaps (kind_of top p) (tier_in top c) (tier_in top d) (account_of p) ms)
      (below : old + cells_of top (tier_in top c) ≤ lim) where
    -- the old block's section has room
    back : supplies (kind_of top p) (tier_in top d) (account_of p) ≡ true → Fits (kind_of top p) ms (account_of p)
        → free_of (take_of p top l (tier_in top d)).0.pool (tier_in top c) < section_length (spacings top) (take_of p top l (tier_in top d)).0.pool.size (tier_in top c)
    back s f = room_after top p l stock.shape (tier_in top c) (tier_in top d) (tier_lt (spacings top) d (lit< tt)) s (swaps.place f)

    -- the number of the ask is the ledger's
    move_number : Tells (move_ask_of p top lim l old (tier_in top c) (tier_in top d)) ms
    unfolding move_ask_of
    move_number f = rw (ask_number top p l lim stock (tier_in top d) (tier_lt (spacings top) d (lit< tt)), swaps.supply) (go (supplies (kind_of top p) (tier_in top d) (account_of p)) refl)
      where
        go : (b : Bool) → supplies (kind_of top p) (tier_in top d) (account_of p) ≡ b
            → (cond (eqb (cond b 0 4) 0) (asked_as (room_of (less_of p top (tier_in top d)) top lim (tier_in top c) old) (more_of (less_of p top (tier_in top d)) top (tier_in top c)))
            (asked_as (cond b 0 4) p)).number ≡ cond b 0 4
        go true e = room_none top (less_of p top (tier_in top d)) lim (tier_in top c) old (rw (take_pool p top l (tier_in top d)) at (back e f)) below
        go false e = refl

    -- and the free blocks stay below the mark as found
    move_stock : Stocks (move_of p top l old (tier_in top c) (tier_in top d)) ms
    unfolding move_of
    move_stock s f =
        stock_give top _ _ lim (stock_take top p l lim stock (tier_in top d) (tier_lt (spacings top) d (lit< tt)))
        (tier_in top c) old (tier_lt (spacings top) c (lit< tt)) (back (sym swaps.supply ∙ s) f) below

  -- ---- a block of items, below the mark as found where there are any

  module _ (old c : ℕ) (below : 0 < c → old + block_for top c ≤ lim) where
    -- so is the block of its tier
    held : 0 < c → old + cells_of top (tier_in top c) ≤ lim
    held h = rw (block_tier top c h) at (below h)

    -- a single one
    held_single : 0 < c → leb c 1 ≡ true → old + cells_of top 0 ≤ lim
    held_single h e =
        let z : c ≡ 1 = omega (arith, leb-true c 1 e) in
        rw (z, tier_one top) at (held h)

    -- where it grows, its ask gives the ledger's number
    pub grow_number : Fits (kind_of top p) (rise (kind_of top p) c) (account_of p)
        → (grow_ask_of p top lim l old c).number ≡ number_of (kind_of top p) (rise (kind_of top p) c) (account_of p)
    unfolding grow_ask_of steps
    grow_number =
        rw (rise_ways top p.size c)
        (either₂ Tells (eqb c 0) _ _ _ _ (λ e f. ask_number top p l lim stock 0 (lit< tt) ∙ ap (λ (b : Bool). cond b 0 4) (sym (take_supplied (kind_of top p) (account_of p) 0)))
        (λ e. let h = held (omega (arith, eqb-false c 0 e)) in
        either₂ Tells (eqb (tier_in top c) (tier_in top (c + 1))) _ _ _ _ (λ g f. within_none top lim (tier_in top c) old h)
        (λ g. move_number old c (c + 1) _ (up_swaps (kind_of top p) (account_of p) _ _) h)))

    -- and the free blocks stay below the mark as found
    pub grow_stock : supplied (kind_of top p) (rise (kind_of top p) c) (account_of p) ≡ true → Fits (kind_of top p) (rise (kind_of top p) c) (account_of p)
        → Stock top (grow_of p top l old c).0.pool (grow_of p top l old c).1 lim
    unfolding grow_of
    grow_stock =
        rw (rise_ways top p.size c)
        (either₂ Stocks (eqb c 0) _ _ _ _ (λ e s f. stock_take top p l lim stock 0 (lit< tt))
        (λ e. either₂ Stocks (eqb (tier_in top c) (tier_in top (c + 1))) _ _ _ _ (λ g s f. stock)
        (λ g. move_stock old c (c + 1) _ (up_swaps (kind_of top p) (account_of p) _ _) (held (omega (arith, eqb-false c 0 e))))))

  module _ (old c : ℕ) (some : 0 < c) (below : old + block_for top c ≤ lim) where
    -- where it shrinks, its ask gives the ledger's number
    pub shrink_number : Fits (kind_of top p) (fall (kind_of top p) c) (account_of p)
        → (shrink_ask_of p top lim l old c).number ≡ number_of (kind_of top p) (fall (kind_of top p) c) (account_of p)
    unfolding shrink_ask_of steps allows
    shrink_number =
        let h = held old c (λ n. below) some in
        rw (fall_ways top p.size c some)
        (either₂ Tells (leb c 1) _ _ _ _ (λ e f. room_none top p lim 0 old (room_here top p l stock.shape 0 f.0) (held_single old c (λ n. below) some e))
        (λ e. either₂ Tells (eqb (tier_in top c) (tier_in top (c - 1))) _ _ _ _ (λ g f. within_none top lim (tier_in top c) old h)
        (λ g. move_number old c (c - 1) _ (down_swaps (kind_of top p) (account_of p) _ _) h)))

    -- and the free blocks stay below the mark as found
    pub shrink_stock : supplied (kind_of top p) (fall (kind_of top p) c) (account_of p) ≡ true → Fits (kind_of top p) (fall (kind_of top p) c) (account_of p)
        → Stock top (shrink_of p top l old c).0.pool (shrink_of p top l old c).1 lim
    unfolding shrink_of
    shrink_stock =
        rw (fall_ways top p.size c some)
        (either₂ Stocks (leb c 1) _ _ _ _
        (λ e s f. stock_give top p l lim stock 0 old (lit< tt) (room_here top p l stock.shape 0 f.0) (held_single old c (λ n. below) some e))
        (λ e. either₂ Stocks (eqb (tier_in top c) (tier_in top (c - 1))) _ _ _ _ (λ g s f. stock)
        (λ g. move_stock old c (c - 1) _ (down_swaps (kind_of top p) (account_of p) _ _) (held old c (λ n. below) some))))

-- ---- singles, one after the other

-- on a pool of p's kind, with the account that a row left, numbers are the ledger's there
left_number : (top : ℕ) (p q : Pool) (ms : List Move) (a : Account) → q.size ≡ p.size → account_of q ≡ a → number_of (kind_of top q) ms (account_of q) ≡ number_of (kind_of top p) ms a
left_number top p q ms a e f = ap₂ (λ (s : ℕ) (b : Account). number_of (record { spacings = spacings top; size = s }) ms b) e f

-- n singles may be taken exactly where the ledger supplies them
pub singles_number : (top : ℕ) (p : Pool) (l : List ℕ) (lim : ℕ) → Stock top p l lim → (n : ℕ) → singles_of n p top lim l ≡ number_of (kind_of top p) (times n (takes 0)) (account_of p)
unfolding singles_of steps allows moved
singles_number top p l lim stock zero = refl
singles_number top p l lim stock (suc n) =
    rw (ask_number top p l lim stock 0 (lit< tt))
    (go (supplies (kind_of top p) 0 (account_of p)) refl (singles_number top (take_of p top l 0).0.pool (take_of p top l 0).1 lim (stock_take top p l lim stock 0 (lit< tt)) n))
  where
    go : (b : Bool) → supplies (kind_of top p) 0 (account_of p) ≡ b
        → singles_of n (take_of p top l 0).0.pool top lim (take_of p top l 0).1
        ≡ number_of (kind_of top (take_of p top l 0).0.pool) (times n (takes 0)) (account_of (take_of p top l 0).0.pool)
        → cond (eqb (cond b 0 4) 0) (singles_of n (take_of p top l 0).0.pool top lim (take_of p top l 0).1) (cond b 0 4)
        ≡ cond (is_some (cond b (steps (kind_of top p) (times n (takes 0)) (taking (kind_of top p) 0 (account_of p))) none)) 0 4
    go true e ih = ih ∙ left_number top p (take_of p top l 0).0.pool (times n (takes 0)) _ (take_size top p l 0) (take_account top p l stock.shape 0 (lit< tt) e)
    go false e ih = refl

-- an insert's missing nodes, whose first grows a block of items while the others take singles, get the ledger's number
pub chain_number : (top : ℕ) (p : Pool) (l : List ℕ) → Stock top p l p.mark → (old c n : ℕ) → (0 < c → old + block_for top c ≤ p.mark)
    → Fits (kind_of top p) (nodes_come (kind_of top p) (suc n) c) (account_of p) → chain_ask_of p top l old c (suc n) ≡ number_of (kind_of top p) (nodes_come (kind_of top p) (suc n) c) (account_of p)
unfolding chain_ask_of nodes_come
chain_number top p l stock old c n below fits =
    let z : suc n - 1 ≡ n = omega arith in
    rw (z, grow_number top p l p.mark stock old c below first, number_append (kind_of top p) (rise (kind_of top p) c) (times n (takes 0)) (account_of p))
    (go (supplied (kind_of top p) (rise (kind_of top p) c) (account_of p)) refl)
  where
    first : Fits (kind_of top p) (rise (kind_of top p) c) (account_of p)
    first = fits_front (kind_of top p) (rise (kind_of top p) c) (times n (takes 0)) (account_of p) fits

    q : Block × List ℕ
    q = grow_of p top l old c

    go : (b : Bool) → supplied (kind_of top p) (rise (kind_of top p) c) (account_of p) ≡ b
        → cond (eqb (cond b 0 4) 0) (singles_of n q.0.pool top p.mark q.1) (cond b 0 4)
        ≡ cond b (number_of (kind_of top p) (times n (takes 0)) (run (kind_of top p) (rise (kind_of top p) c) (account_of p))) 4
    go true e =
        singles_number top q.0.pool q.1 p.mark (grow_stock top p l p.mark stock old c below e first) n
        ∙ left_number top p q.0.pool (times n (takes 0)) _ (grow_size top p l old c) (grow_account top p l stock.shape old c e first)
    go false e = refl
