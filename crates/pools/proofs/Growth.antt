-- Items of a sound pool: their places, a write to one, and an owner that gets one more. Assumes nothing.
use mathlib.Core.Path.{◌≡◌, refl, sym, ap, ◌∙◌}
use mathlib.Core.Bool.{Bool, true, false, cond}
use mathlib.Core.List.{List, [], ◌∷◌}
use mathlib.Core.Logic.{inl, inr}
use Prim.Native.Nat.{ℕ, zero, suc, ◌+◌, ◌-◌, ◌*◌, ◌/◌, ◌%◌, ◌≤◌, ◌<◌}
use native.Mathlib.Omega.{arith}
use native.Mathlib.Decide.{dec_lt, dec_le, ℕ_discrete}
use borrow.Author.Tests.{leb-true, eqb-true, eqb-false}
use lib.Dec.{leb, eqb, lit<}
use lib.ListN.{length}
use Rattle.tiers.specs.Tiers.{spacings, spacing_of, tier_of}
use Rattle.tiers.proofs.Tiers.{tier_lt}
use Rattle.blocks.specs.declared.Pool.{Pool}
use Rattle.blocks.specs.declared.Block.{Block}
use Rattle.blocks.specs.Blocks.{take_of, block_as}
use Rattle.blocks.specs.Growth.{tier_in, stays_of, move_of, grow_of}
use Rattle.blocks.proofs.Moves.{either}
use Rattle.blocks.proofs.Spare.{tier_one}
use Rattle.store.proofs.Moves.{Outside}
use Rattle.store.proofs.Blocks.{Apart, Grows, GrowsInto}
use Rattle.rules.specs.Account.{takes, gives}
use Rattle.rules.specs.Ledger.{rise}
use Rattle.rules.proofs.Returns.{Fits}
use Rattle.pools.specs.Items.{upd, among, items, slot, place_of}
use Rattle.pools.specs.Sound.{cells_of, block_for, Owner, kept, Coloured, Sound, Widens}
use Rattle.pools.specs.Accounts.{kind_of, account_of, supplied}
use Rattle.pools.proofs.Items.{upd_same, upd_other, among_strict, parts, slot_lt}
use Rattle.pools.proofs.Rows.{Swaps, rise_ways, take_supplied, up_swaps}
use Rattle.pools.proofs.Numbers.{block_tier}
use Rattle.pools.proofs.Colours.{paint, paint_in, paint_off, kept_one, kept_below, take_coloured}
use Rattle.pools.proofs.Moving.{outside, not_of, ranges_apart, Moved, move_coloured}
use Rattle.pools.proofs.Gains.{gain_sound}

-- ---- a count's block holds it

-- a count that the last spacing of a list holds is held by its tier's
tier_room : (s : ℕ) (kind : List ℕ) (c : ℕ) → c ≤ spacing_of (s ∷ kind) (length kind) → c ≤ spacing_of (s ∷ kind) (tier_of (s ∷ kind) c)
unfolding spacing_of tier_of
tier_room s [] c h = h
tier_room s (u ∷ kind) c h = go (leb c s) refl (tier_room u kind c h)
  where
    go : (b : Bool) → leb c s ≡ b → c ≤ spacing_of (u ∷ kind) (tier_of (u ∷ kind) c)
        → c ≤ spacing_of (s ∷ u ∷ kind) (cond b 0 (suc (tier_of (u ∷ kind) c)))
    go true e r = leb-true _ _ e
    go false e r = r

-- the block of a count that a kind allows holds it
pub block_holds : (top c : ℕ) → c ≤ top → c ≤ block_for top c
unfolding spacing_of
block_holds top zero h = omega arith
block_holds top (suc c) h = tier_room 1 (2 ∷ 4 ∷ 8 ∷ 16 ∷ 24 ∷ top ∷ []) (suc c) h

-- a block with a place is that of a count which isn't 0
pub owner_some : (top c i : ℕ) → i < block_for top c → 0 < c
owner_some top zero i h = absurd (omega arith)
owner_some top (suc c) i h = omega arith

-- items of one owner that stand in one slot are one
among_one : (K : ℕ → Bool) (a i j : ℕ) → K (a + i) ≡ true → K (a + j) ≡ true → among K a i ≡ among K a j → i ≡ j
among_one K a i j h k e = go (dec_lt i j) (dec_lt j i)
  where
    go : Dec (i < j) → Dec (j < i) → i ≡ j
    go (yes l) d = absurd (omega (arith, among_strict K a i j h l))
    go (no l) (yes m) = absurd (omega (arith, among_strict K a j i k m))
    go (no l) (no m) = omega arith

module _ {A : Type 0} {top : ℕ} {p : Pool} {l : List ℕ} {mem : ℕ → A} {K : ℕ → Bool} {st : ℕ → ℕ} {val : ℕ → A} {own : ℕ → Owner} where
  -- an item stands in its owner's block
  pub place_kept : Sound top p l mem K st val own → (x : ℕ) → K x ≡ true → own (place_of K st x) ≡ kept (x / 32)
  place_kept s x h = s.mine (x / 32) (slot K x) (omega (arith, slot_lt K x h, block_holds top (items K (x / 32)) (s.few (x / 32))))

  -- no two items stand at one place
  pub places_differ : Sound top p l mem K st val own → (x y : ℕ) → K x ≡ true → K y ≡ true → place_of K st x ≡ place_of K st y → x ≡ y
  places_differ s x y h k e =
      omega (arith, owner, among_one K (32 * (x / 32)) (x % 32) (y % 32) (ap K (sym (parts x)) ∙ h) (rw owner (ap K (sym (parts y)) ∙ k)) slots)
    where
      owner : x / 32 ≡ y / 32
      owner = kept_one _ (x / 32) (y / 32) (place_kept s x h) (ap own e ∙ place_kept s y k)

      slots : among K (32 * (x / 32)) (x % 32) ≡ among K (32 * (x / 32)) (y % 32)
      slots = omega (arith, rw (← owner) at e)

  -- an owner's block lies below the mark
  pub block_below : Sound top p l mem K st val own → (n : ℕ) → 0 < items K n → st n + block_for top (items K n) ≤ p.mark
  block_below s n h =
      let b = block_holds top (items K n) (s.few n) in
      omega (arith, kept_below top p l own s.blocks (st n + (block_for top (items K n) - 1)) n (s.mine n (block_for top (items K n) - 1) (omega arith)))

  -- and so does an item
  pub place_below : Sound top p l mem K st val own → (x : ℕ) → K x ≡ true → place_of K st x < p.mark
  place_below s x h = kept_below top p l own s.blocks (place_of K st x) (x / 32) (place_kept s x h)

  -- a write at an item's place changes that item alone
  pub write_sound : Sound top p l mem K st val own → (x : ℕ) (v : A) (mem' : ℕ → A) → K x ≡ true → mem' (place_of K st x) ≡ v
      → ((i : ℕ) → (place_of K st x ≡ i → ⊥) → mem' i ≡ mem i) → Sound top p l mem' K st (upd val x v) own
  write_sound s x v mem' h e rest = record { blocks = s.blocks; mine = s.mine; few = s.few; held = λ y k. held y k (ℕ_discrete x y) }
    where
      held : (y : ℕ) → K y ≡ true → Dec (x ≡ y) → mem' (place_of K st y) ≡ upd val x v y
      held y k (yes z) = rw (← z) (e ∙ sym (upd_same val x v))
      held y k (no z) = rest (place_of K st y) (λ q. z (places_differ s x y h k q)) ∙ s.held y k ∙ sym (upd_other val x y v z)

  -- only the values of items that are there matter
  pub sound_values : {val' : ℕ → A} → ((x : ℕ) → K x ≡ true → val x ≡ val' x) → Sound top p l mem K st val own → Sound top p l mem K st val' own
  sound_values same s = record { blocks = s.blocks; mine = s.mine; few = s.few; held = λ x k. s.held x k ∙ same x k }

-- ---- one more item

module _ {A : Type 0} {top : ℕ} {p : Pool} {l : List ℕ} {mem : ℕ → A} {K : ℕ → Bool} {st : ℕ → ℕ} {val : ℕ → A} {own : ℕ → Owner}
    (s : Sound top p l mem K st val own) (x old : ℕ) (e v : A) (mem' : ℕ → A) (new : K x ≡ false) (room : items K (x / 32) < top)
    (there : 0 < items K (x / 32) → old ≡ st (x / 32)) where
  -- how many items the owner has
  abbrev count : ℕ
  count = items K (x / 32)

  -- the tiers of the count, and of one more
  abbrev low : ℕ
  low = tier_in top count

  abbrev next : ℕ
  next = tier_in top (count + 1)

  -- the item comes as a block and a free list say
  abbrev Comes : Block × List ℕ → Type 0
  Comes b =
      Widens p.size mem mem' e v top old b.0.start count (slot K x)
      → (own' : ℕ → Owner) × Sound top b.0.pool b.1 mem' (upd K x true) (upd st (x / 32) b.0.start) (upd val x v) own'

  -- the old block is the owner's
  old_kept : (i : ℕ) → i < block_for top count → own (old + i) ≡ kept (x / 32)
  old_kept i h = rw (there (owner_some top count i h)) (s.mine (x / 32) i h)

  -- it holds the count
  old_holds : count ≤ block_for top count
  old_holds = block_holds top count (s.few (x / 32))

  -- and it lies in the pool
  old_below : 0 < count → old + block_for top count ≤ p.size
  old_below h = rw (there h) (omega (arith, block_below s (x / 32) h, s.blocks.shape.below))

  -- the block for one more is one of the next tier
  new_cells : block_for top (suc count) ≡ cells_of top next
  new_cells = let z : suc count ≡ count + 1 = omega arith in ap (λ (i : ℕ). cells_of top (tier_in top i)) z

  -- and holds it
  new_holds : suc count ≤ block_for top (suc count)
  new_holds = block_holds top (suc count) room

  -- another owner's item isn't in the old block
  not_old : (y m : ℕ) → m ≤ block_for top count → K y ≡ true → (x / 32 ≡ y / 32 → ⊥) → Outside old m (place_of K st y)
  not_old y m h k d = not_of own old m (x / 32) (y / 32) (place_of K st y) (λ i w. old_kept i (omega arith)) d (place_kept s y k)

  -- the items leave for a block at t, where nobody kept a place
  module _ (t : ℕ) (clear : (n i : ℕ) → own i ≡ kept n → Outside t (cells_of top next) i) (within : t + cells_of top next ≤ p.size) where
    -- it is apart from the old one
    between : Dec (0 < count) → Dec (old ≤ t) → Apart old count t (suc count)
    between (yes h) d =
        ranges_apart old count t (suc count) h (omega arith)
        (λ i u w a b. let z : old + (i - old) ≡ i = omega arith in
        clear (x / 32) i (rw z at (old_kept (i - old) (omega (arith, old_holds)))) a (omega (arith, new_cells, new_holds)))
    between (no h) (yes d) = inl (omega arith)
    between (no h) (no d) = inr (omega arith)

    -- if all places are known afterwards, the pool is sound
    into : stays_of top count ≡ false → (p' : Pool) (l' : List ℕ) (own' : ℕ → Owner) → Coloured top p' l' own'
        → ((i : ℕ) → i < cells_of top next → own' (t + i) ≡ kept (x / 32)) → ((n i : ℕ) → (x / 32 ≡ n → ⊥) → own i ≡ kept n → own' i ≡ kept n)
        → Widens p.size mem mem' e v top old t count (slot K x) → Sound top p' l' mem' (upd K x true) (upd st (x / 32) t) (upd val x v) own'
    into leaves p' l' own' c block theirs w =
        gain_sound s x old t v new room there p' l' mem' own' c g.grown (λ i h. block i (rw new_cells at h)) theirs
        (λ y k d. g.rest (place_of K st y) (not_old y count old_holds k d) (λ a b. clear (y / 32) (place_of K st y) (place_kept s y k) a (omega (arith, new_cells, new_holds))))
      where
        g : GrowsInto mem mem' e v old t count (slot K x)
        g = w.there leaves (λ h. omega (arith, old_holds, old_below h)) (omega (arith, new_cells, new_holds)) (between (dec_lt 0 count) (dec_le old t))

  -- the first tier is next where there is none
  first_tier : eqb count 0 ≡ true → next ≡ 0
  first_tier b = let z : count + 1 ≡ 1 = omega (arith, eqb-true count 0 b) in rw (z, tier_one top)

  -- a first block
  first : eqb count 0 ≡ true → supplied (kind_of top p) (rise (kind_of top p) count) (account_of p) ≡ true → Comes (take_of p top l next)
  first b sup w =
      let supply = rw (rise_ways top p.size count, b, take_supplied (kind_of top p) (account_of p) 0, ← first_tier b) at sup in
      let g = take_coloured top p l own s.blocks next (x / 32) (tier_lt (spacings top) (count + 1) (lit< tt)) supply in
      let clear : (n i : ℕ) → own i ≡ kept n → Outside start (cells_of top next) i = λ n i o. outside (λ j. own j ≡ kept n) start (cells_of top next) i (λ j h. g.1 j n h) o in (
        paint start (cells_of top next) (kept (x / 32)) own,
        into start clear g.2 (unfold stays_of in rw b) _ _ _ g.0 (paint_in start (cells_of top next) (kept (x / 32)) own)
            (λ n i d o. paint_off start (cells_of top next) (kept (x / 32)) own i (clear n i o) ∙ o) w,
      )
    where
      start : ℕ
      start = (take_of p top l next).0.start

  module _ (b : eqb count 0 ≡ false) where
    -- there are some items
    some : 0 < count
    some = let z = eqb-false count 0 b in omega arith

    -- the same block
    here : eqb low next ≡ true → Comes (block_as old p, l)
    here f w = (
      own,
      gain_sound s x old old v new room there p l mem' own s.blocks g.grown (λ i h. old_kept i (rw same at h)) (λ n i d o. o)
          (λ y k d. g.rest (place_of K st y) (not_old y (suc count) (omega (arith, same, new_holds)) k d)),
    )
      where
        same : block_for top (suc count) ≡ block_for top count
        same = new_cells ∙ ap (cells_of top) (sym (eqb-true low next f)) ∙ sym (block_tier top count some)

        g : Grows mem mem' v old count (slot K x)
        g = w.here (unfold stays_of in rw (b, f)) (omega (arith, same, new_holds, old_below some))

    -- a move to the next tier
    moves : eqb low next ≡ false → supplied (kind_of top p) (rise (kind_of top p) count) (account_of p) ≡ true
        → Fits (kind_of top p) (rise (kind_of top p) count) (account_of p) → Comes (move_of p top l old low next)
    moves f sup fits w = (g.0, into _ g.1.clear g.1.within (unfold stays_of in rw (b, f)) _ _ _ g.1.blocks g.1.mine g.1.rest w)
      where
        row : rise (kind_of top p) count ≡ takes next ∷ gives low ∷ []
        row = rw (rise_ways top p.size count, b, f)

        swaps : Swaps (kind_of top p) low next (account_of p) (takes next ∷ gives low ∷ [])
        swaps = up_swaps (kind_of top p) (account_of p) low next

        g : (own' : ℕ → Owner) × Moved top p l own old (x / 32) low next own'
        g =
            move_coloured top p l own s.blocks old (x / 32) low next (tier_lt (spacings top) count (lit< tt)) (tier_lt (spacings top) (count + 1) (lit< tt))
            (sym swaps.supply ∙ (rw row at sup)) (swaps.place (rw row at fits)) (λ i h. old_kept i (rw (block_tier top count some) h))

  -- in all three cases the pool is sound again
  comes : supplied (kind_of top p) (rise (kind_of top p) count) (account_of p) ≡ true → Fits (kind_of top p) (rise (kind_of top p) count) (account_of p)
      → Comes (grow_of p top l old count)
  unfolding grow_of
  comes sup fits =
      either Comes (eqb count 0) _ _ (λ b. rw (first_tier b) at (first b sup))
      (λ b. either Comes (eqb low next) _ _ (λ f. here b f) (λ f. moves b f sup fits))

-- a sound pool whose owner of x gets the item x is sound again, as long as the ledger supplies the blocks and each that comes back finds a place
pub grow_sound : {A : Type 0} {top : ℕ} {p : Pool} {l : List ℕ} {mem : ℕ → A} {K : ℕ → Bool} {st : ℕ → ℕ} {val : ℕ → A} {own : ℕ → Owner}
    → Sound top p l mem K st val own → 31 ≤ top → top ≤ 32 → (x old : ℕ) (e v : A) (mem' : ℕ → A)
    → K x ≡ false → items K (x / 32) < top → (0 < items K (x / 32) → old ≡ st (x / 32))
    → supplied (kind_of top p) (rise (kind_of top p) (items K (x / 32))) (account_of p) ≡ true → Fits (kind_of top p) (rise (kind_of top p) (items K (x / 32))) (account_of p)
    → Widens p.size mem mem' e v top old (grow_of p top l old (items K (x / 32))).0.start (items K (x / 32)) (slot K x)
    → (own' : ℕ → Owner) × Sound top (grow_of p top l old (items K (x / 32))).0.pool (grow_of p top l old (items K (x / 32))).1 mem'
    (upd K x true) (upd st (x / 32) (grow_of p top l old (items K (x / 32))).0.start) (upd val x v) own'
grow_sound s a b x old e v mem' new room there sup fits w = comes s x old e v mem' new room there sup fits w
