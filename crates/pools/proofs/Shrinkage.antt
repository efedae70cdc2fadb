-- A sound pool is sound again when an item goes: its owner's block comes back, stays, or is left for one of a lower tier. Assumes nothing.
use mathlib.Core.Path.{◌≡◌, sym, ◌∙◌}
use mathlib.Core.Bool.{Bool, true, false}
use mathlib.Core.List.{List, [], ◌∷◌}
use Prim.Native.Nat.{ℕ, ◌+◌, ◌-◌, ◌/◌, ◌≤◌, ◌<◌}
use native.Mathlib.Omega.{arith}
use borrow.Author.Tests.{leb-true, leb-false, eqb-true}
use lib.Dec.{leb, eqb, lit<}
use Rattle.tiers.specs.Tiers.{empty, spacings}
use Rattle.tiers.proofs.Tiers.{tier_lt, tier_first}
use Rattle.blocks.specs.declared.Pool.{Pool}
use Rattle.blocks.specs.declared.Block.{Block}
use Rattle.blocks.specs.Blocks.{give_of, block_as}
use Rattle.blocks.specs.Growth.{tier_in, fits_of, move_of, shrink_of}
use Rattle.blocks.proofs.Settled.{either₂}
use Rattle.store.proofs.Moves.{Outside}
use Rattle.store.proofs.Blocks.{Apart, Shrinks, ShrinksInto}
use Rattle.rules.specs.Account.{Move, gives, lowers}
use Rattle.rules.specs.Ledger.{fall}
use Rattle.rules.proofs.Returns.{Fits}
use Rattle.pools.specs.Items.{upd, items, slot}
use Rattle.pools.specs.Sound.{cells_of, block_for, Owner, kept, free, Sound, Narrows}
use Rattle.pools.specs.Accounts.{kind_of, account_of, supplied}
use Rattle.pools.proofs.Items.{slot_lt}
use Rattle.pools.proofs.Rows.{Swaps, fall_ways, down_swaps}
use Rattle.pools.proofs.Accounts.{room_here}
use Rattle.pools.proofs.Colours.{paint, paint_off, give_coloured}
use Rattle.pools.proofs.Moving.{not_of, ranges_apart, Moved, move_coloured}
use Rattle.pools.proofs.Growth.{block_holds, block_below}
use Rattle.pools.proofs.Numbers.{block_tier}
use Rattle.pools.proofs.Losses.{loss_sound}

module _ {A : Type 0} {top : ℕ} {p : Pool} {l : List ℕ} {mem : ℕ → A} {K : ℕ → Bool} {st : ℕ → ℕ} {val : ℕ → A} {own : ℕ → Owner}
    (sound : Sound top p l mem K st val own) (x : ℕ) (e : A) (mem' : ℕ → A) (there : K x ≡ true) where
  -- the owner of the item, how many items it has, and where they stand
  abbrev owner : ℕ
  owner = x / 32

  abbrev count : ℕ
  count = items K (x / 32)

  abbrev old : ℕ
  old = st (x / 32)

  -- the tiers of the count, and of one less
  abbrev above : ℕ
  above = tier_in top (items K (x / 32))

  abbrev under : ℕ
  under = tier_in top (items K (x / 32) - 1)

  -- the pool is sound without the item, with the block, the pool and the list that an act leaves and a row of moves allows
  abbrev Goes : Block × List ℕ → List Move → Type 0
  Goes b ms =
      supplied (kind_of top p) ms (account_of p) ≡ true → Fits (kind_of top p) ms (account_of p)
      → Narrows p.size mem mem' e top old b.0.start count (slot K x)
      → (own' : ℕ → Owner) × Sound top b.0.pool b.1 mem' (upd K x false) (upd st owner b.0.start) val own'

  -- there are items
  some : 0 < count
  some = omega (arith, slot_lt K x there)

  -- the places of their block are the owner's
  block : (i : ℕ) → i < cells_of top above → own (old + i) ≡ kept owner
  block i h = sound.mine owner i (rw (block_tier top count some) h)

  -- and so are their own
  places : (i : ℕ) → i < count → own (old + i) ≡ kept owner
  places i h = sound.mine owner i (omega (arith, block_holds top count (sound.few owner)))

  -- which lie in the pool
  inside : old + count ≤ p.size
  inside = omega (arith, block_holds top count (sound.few owner), block_below sound owner some, sound.blocks.shape.below)

  -- what another owner keeps is none of them
  others : (n i : ℕ) → (owner ≡ n → ⊥) → own i ≡ kept n → Outside old count i
  others n i d o = not_of own old count owner n i places d o

  -- the last item goes: its block comes back
  last : leb count 1 ≡ true → Goes (block_as empty (give_of p top l 0 old).0, (give_of p top l 0 old).1) (gives 0 ∷ [])
  last b sup fits w = (
    paint old (cells_of top 0) (free 0 old) own,
    loss_sound sound x there _ _ mem' _ empty
        (give_coloured top p l own sound.blocks 0 old owner (lit< tt) (room_here top p l sound.blocks.shape 0 fits.0) single)
        (record { below = λ i h. absurd (omega (arith, one, slot_lt K x there)); above = λ i g h. absurd (omega (arith, one)) })
        (λ i h. let z : count - 1 ≡ 0 = omega (arith, one) in let g = rw z at h in absurd (omega arith))
        (λ n i d o. (
          paint_off old (cells_of top 0) (free 0 old) own i (not_of own old (cells_of top 0) owner n i single d o) ∙ o,
          (w.here (unfold fits_of in rw b) inside).rest i (others n i d o),
        )),
  )
    where
      one : count ≤ 1
      one = leb-true _ _ b

      single : (i : ℕ) → i < cells_of top 0 → own (old + i) ≡ kept owner
      single i h = block i (rw (tier_first 1 _ count one) h)

  -- the items stay in their block
  stays : leb count 1 ≡ false → eqb above under ≡ true → Goes (block_as old p, l) []
  stays b c sup fits w = (
    own,
    loss_sound sound x there p l mem' own old sound.blocks s.shrunk
        (λ i h. block i (rw (block_tier top (count - 1) (omega (arith, leb-false count 1 b)), ← eqb-true above under c) at h))
        (λ n i d o. (o, s.rest i (others n i d o))),
  )
    where
      s : Shrinks mem mem' e old count (slot K x)
      s = w.here (unfold fits_of in rw (b, c)) inside

  -- they go to a block of a lower tier
  moves : leb count 1 ≡ false → eqb above under ≡ false → Goes (move_of p top l old above under) (lowers above under ∷ [])
  moves b c sup fits w = (
    moved.0,
    loss_sound sound x there _ _ mem' _ start m.blocks s.shrunk (λ i h. m.mine i (rw cells at h)) (λ n i d o. (m.rest n i d o, s.rest i (others n i d o) (clear n i o))),
  )
    where
      start : ℕ
      start = (move_of p top l old above under).0.start

      row : Swaps (kind_of top p) above under (account_of p) (lowers above under ∷ [])
      row = down_swaps (kind_of top p) (account_of p) above under

      moved : (own' : ℕ → Owner) × Moved top p l own old owner above under own'
      moved =
          move_coloured top p l own sound.blocks old owner above under (tier_lt (spacings top) count (lit< tt)) (tier_lt (spacings top) (count - 1) (lit< tt))
          (sym row.supply ∙ sup) (row.place fits) block

      m : Moved top p l own old owner above under moved.0
      m = moved.1

      many : 0 < count - 1
      many = omega (arith, leb-false count 1 b)

      cells : block_for top (count - 1) ≡ cells_of top under
      cells = block_tier top (count - 1) many

      enough : count - 1 ≤ cells_of top under
      enough = rw cells at (block_holds top (count - 1) (omega (arith, sound.few owner)))

      clear : (n i : ℕ) → own i ≡ kept n → Outside start (count - 1) i
      clear n i o u v = m.clear n i o u (omega (arith, enough))

      between : Apart old count start (count - 1)
      between =
          ranges_apart old count start (count - 1) some many
          (λ j u v. let q : old + (j - old) ≡ j = omega arith in clear owner j (rw q at (places (j - old) (omega arith))))

      s : ShrinksInto mem mem' e old start count (slot K x)
      s = w.there (unfold fits_of in rw (b, c)) inside (omega (arith, enough, m.within)) between

  -- an item goes as a shrinkage of its owner's block says
  goes : Goes (shrink_of p top l old count) (fall (kind_of top p) count)
  unfolding shrink_of
  goes =
      rw (fall_ways top p.size count some)
      (either₂ Goes (leb count 1) _ _ _ _ last (λ b. either₂ Goes (eqb above under) _ _ _ _ (stays b) (moves b)))

-- an item goes from a sound pool: where the ledger allows it, and memory changes as the block's change says, the pool is sound without the item
pub shrink_sound :
    {A : Type 0} {top : ℕ} {p : Pool} {l : List ℕ} {mem : ℕ → A} {K : ℕ → Bool} {st : ℕ → ℕ} {val : ℕ → A} {own : ℕ → Owner}
    → Sound top p l mem K st val own → 31 ≤ top → top ≤ 32 → (x : ℕ) (e : A) (mem' : ℕ → A)
    → K x ≡ true
    → supplied (kind_of top p) (fall (kind_of top p) (items K (x / 32))) (account_of p) ≡ true → Fits (kind_of top p) (fall (kind_of top p) (items K (x / 32))) (account_of p)
    → Narrows p.size mem mem' e top (st (x / 32)) (shrink_of p top l (st (x / 32)) (items K (x / 32))).0.start (items K (x / 32)) (slot K x)
    → (own' : ℕ → Owner) × Sound top (shrink_of p top l (st (x / 32)) (items K (x / 32))).0.pool (shrink_of p top l (st (x / 32)) (items K (x / 32))).1 mem'
    (upd K x false) (upd st (x / 32) (shrink_of p top l (st (x / 32)) (items K (x / 32))).0.start) val own'
shrink_sound sound low high x e mem' there = goes sound x e mem' there
