-- What a bitmap and an index of a node say of a block in a sound pool, of either kind. Assumes nothing.
use mathlib.Core.Path.{◌≡◌, refl, sym, ap, ap₂, ◌∙◌}
use mathlib.Core.Bool.{Bool, true, not}
use mathlib.Core.List.{List}
use Prim.Native.Nat.{ℕ, zero, suc, ◌+◌, ◌*◌, ◌/◌, ◌%◌, ◌≤◌, ◌<◌}
use native.Mathlib.Omega.{arith}
use borrow.Author.Tests.{le-leb, ne_eqb}
use lib.Dec.{leb, eqb}
use Rattle.bits.specs.Bits.{set_below, count}
use Rattle.tiers.specs.Tiers.{empty}
use Rattle.blocks.specs.declared.Pool.{Pool}
use Rattle.blocks.specs.Growth.{tier_in}
use Rattle.walk.specs.Steps.{agree}
use Rattle.pools.specs.Items.{among, items, place_of}
use Rattle.pools.specs.Sound.{Owner, Sound, cells_of, block_for}
use Rattle.pools.proofs.Items.{among_strict}
use Rattle.pools.proofs.Growth.{block_below}
use Rattle.image.specs.Image.{start_of, bits_of}
use Rattle.image.proofs.Words.{bits_zero, bits_count, bits_slot, start_some}

-- an owner with an item has items
pub items_some : (K : ℕ → Bool) (n c : ℕ) → c < 32 → K (32 * n + c) ≡ true → 0 < items K n
items_some K n c h k = omega (arith, among_strict K (32 * n) c 32 k h)

-- the place of item c of owner n
pub place_at : (K : ℕ → Bool) (st : ℕ → ℕ) (n c : ℕ) → c < 32 → place_of K st (32 * n + c) ≡ st n + among K (32 * n) c
place_at K st n c h = let a : (32 * n + c) / 32 ≡ n = omega arith in rw a (let b : (32 * n + c) % 32 ≡ c = omega arith in rw b)

-- a bitmap and an index give an item its place
pub index_place : (K : ℕ → Bool) (st : ℕ → ℕ) (n c : ℕ) → c < 32 → K (32 * n + c) ≡ true
    → start_of (items K n) (st n) + set_below (bits_of K n) c ≡ place_of K st (32 * n + c)
index_place K st n c h k =
    ap₂ (λ (s i : ℕ). s + i) (start_some (items K n) (st n) (items_some K n c h k)) (bits_slot K n c (omega arith)) ∙ sym (place_at K st n c h)

module _ {A : Type 0} {top : ℕ} {p : Pool} {l : List ℕ} {mem : ℕ → A} {K : ℕ → Bool} {st : ℕ → ℕ} {val : ℕ → A} {own : ℕ → Owner}
    (s : Sound top p l mem K st val own)
  where
    -- a bitmap is zero exactly where its index is empty
    pub index_agrees : (n : ℕ) → agree (eqb (bits_of K n) 0) (eqb (start_of (items K n) (st n)) empty) ≡ true
    index_agrees n = rw (bits_zero K n) (go (items K n) (block_below s n))
      where
        go : (c : ℕ) → (0 < c → st n + block_for top c ≤ p.mark) → agree (eqb c 0) (eqb (start_of c (st n)) empty) ≡ true
        go zero h = refl
        go (suc c) h =
            rw (ne_eqb (suc c) 0 (λ e. omega arith))
            (ap not (ne_eqb (st n) empty (λ e. omega (arith, h (omega arith), s.blocks.shape.below, s.blocks.shape.most))))

    -- a block with items lies wholly below the mark
    pub index_within : (n : ℕ) → 0 < items K n → leb (start_of (items K n) (st n) + cells_of top (tier_in top (count (bits_of K n)))) p.mark ≡ true
    index_within n h = rw (bits_count K n, start_some (items K n) (st n) h) (go (items K n) h (block_below s n h))
      where
        go : (c : ℕ) → 0 < c → st n + block_for top c ≤ p.mark → leb (st n + cells_of top (tier_in top c)) p.mark ≡ true
        go zero h b = absurd (omega arith)
        go (suc c) h b = le-leb (st n + cells_of top (tier_in top (suc c))) p.mark b
