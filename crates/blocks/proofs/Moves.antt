-- Laws of a take and of a return: what they do to the size, the mark, the free counts and the list. Assumes nothing.
use mathlib.Core.Path.{◌≡◌, refl}
use mathlib.Core.Bool.{Bool, true, false, cond}
use mathlib.Core.List.{List}
use Prim.Native.Nat.{ℕ, suc, ◌+◌, ◌-◌, ◌≤◌, ◌<◌, min}
use native.Mathlib.Nat.{min-le_left}
use native.Mathlib.Decide.{dec_lt}
use native.Mathlib.Omega.{arith}
use borrow.Author.Tests.{eqb-true, eqb-false, ltb-true}
use lib.Dec.{eqb, ltb}
use lib.ListN.{length, get_or, length-set, get_or-eq_default}
use lib.Seq.{get_or-set_same, get_or-set_other}
use Rattle.tiers.specs.Tiers.{spacings, section_length}
use Rattle.blocks.specs.declared.Pool.{Pool}
use Rattle.blocks.specs.declared.Block.{Block}
use Rattle.blocks.specs.Blocks.{free_of, section_of, first_out, within_of, less_of, take_of, room_of, more_of, give_of}
use Rattle.blocks.proofs.Section.{out_length, out_other, out_rest, in_length, in_other, in_old, in_first}

-- what holds of both cases holds of the case that a test picks
pub either : {A : Type 0} (P : A → Type 0) (b : Bool) (x y : A) → (b ≡ true → P x) → (b ≡ false → P y) → P (cond b x y)
either P true x y f g = f refl
either P false x y f g = g refl

-- a tier with a free block is one of the counts
counted : (f : List ℕ) (t : ℕ) → (get_or f t 0 ≡ 0 → ⊥) → t < length f
counted f t n = go (dec_lt t (length f))
  where
    go : Dec (t < length f) → t < length f
    go (yes h) = h
    go (no h) = absurd (n (get_or-eq_default f 0 {n = t} (omega arith)))

module _ (p : Pool) (top t : ℕ) where
  -- a take keeps the size
  pub less_size : (less_of p top t).size ≡ p.size
  unfolding less_of
  less_size = either (λ (q : Pool). q.size ≡ p.size) (eqb (free_of p t) 0) _ _ (λ e. refl) (λ e. refl)

  -- the mark stays within the pool
  pub less_mark : p.mark ≤ p.size → (less_of p top t).mark ≤ p.size
  unfolding less_of
  less_mark h = either (λ (q : Pool). q.mark ≤ p.size) (eqb (free_of p t) 0) _ _ (λ e. min-le_left p.size _) (λ e. h)

  -- there are as many counts
  pub less_tiers : length (less_of p top t).free ≡ length p.free
  unfolding less_of
  less_tiers = either (λ (q : Pool). length q.free ≡ length p.free) (eqb (free_of p t) 0) _ _ (λ e. refl) (λ e. length-set p.free t _)

  -- the other tiers' counts stay
  pub less_other : (u : ℕ) → (u ≡ t → ⊥) → free_of (less_of p top t) u ≡ free_of p u
  unfolding less_of
  less_other u h = either (λ (q : Pool). free_of q u ≡ free_of p u) (eqb (free_of p t) 0) _ _ (λ e. refl) (λ e. get_or-set_other p.free t u _ 0 h)

  -- the tier's count falls by one, where there is one
  pub less_same : free_of (less_of p top t) t ≡ free_of p t - 1
  unfolding less_of
  less_same =
      either (λ (q : Pool). free_of q t ≡ free_of p t - 1) (eqb (free_of p t) 0) _ _ (λ e. let z : free_of p t ≡ 0 = eqb-true _ 0 e in omega arith)
      (λ e. get_or-set_same p.free t _ 0 (counted p.free t (eqb-false _ 0 e)))

  -- no count rises
  pub less_le : (u : ℕ) → free_of (less_of p top t) u ≤ free_of p u
  less_le u = go (dec_lt u t) (dec_lt t u)
    where
      go : Dec (u < t) → Dec (t < u) → free_of (less_of p top t) u ≤ free_of p u
      go (yes h) d = let e = less_other u (λ z. omega arith) in omega arith
      go (no h) (yes k) = let e = less_other u (λ z. omega arith) in omega arith
      go (no h) (no k) =
          let z : u ≡ t = omega arith in
          let e = less_same in
          rw z (omega arith)

  -- a return keeps the size
  pub more_size : (more_of p top t).size ≡ p.size
  unfolding more_of
  more_size = refl

  -- and the mark
  pub more_mark : (more_of p top t).mark ≡ p.mark
  unfolding more_of
  more_mark = refl

  -- there are as many counts
  pub more_tiers : length (more_of p top t).free ≡ length p.free
  unfolding more_of
  more_tiers = length-set p.free t _

  -- the other tiers' counts stay
  pub more_other : (u : ℕ) → (u ≡ t → ⊥) → free_of (more_of p top t) u ≡ free_of p u
  unfolding more_of
  more_other u h = get_or-set_other p.free t u _ 0 h

  -- the tier's count rises by one, up to its section
  pub more_same : t < length p.free → free_of (more_of p top t) t ≡ min (section_length (spacings top) p.size t) (free_of p t + 1)
  unfolding more_of
  more_same h = get_or-set_same p.free t _ 0 h

module _ (p : Pool) (top : ℕ) (l : List ℕ) (t : ℕ) where
  abbrev In : ℕ → Type 0
  In i = (section_of top p t ≤ i) × (i < section_of top p t + free_of p t)

  -- a take's pool
  pub take_pool : (take_of p top l t).0.pool ≡ less_of p top t
  unfolding take_of
  take_pool = either (λ (x : Block × List ℕ). x.0.pool ≡ less_of p top t) (eqb (free_of p t) 0) _ _ (λ e. refl) (λ e. refl)

  -- the list keeps its length
  pub take_length : length (take_of p top l t).1 ≡ length l
  unfolding take_of
  take_length = either (λ (x : Block × List ℕ). length x.1 ≡ length l) (eqb (free_of p t) 0) _ _ (λ e. refl) (λ e. out_length l (section_of top p t) (free_of p t))

  -- only the tier's free entries change
  pub take_other : (i : ℕ) → (In i → ⊥) → get_or (take_of p top l t).1 i 0 ≡ get_or l i 0
  unfolding take_of
  take_other i h =
      either (λ (x : Block × List ℕ). get_or x.1 i 0 ≡ get_or l i 0) (eqb (free_of p t) 0) _ _ (λ e. refl)
      (λ e. let n : free_of p t ≡ 0 → ⊥ = eqb-false _ 0 e in out_other l (section_of top p t) (free_of p t) i (omega arith) (λ a b. h (a, b)))

  -- the entries that are left stay
  pub take_rest : (i : ℕ) → suc i < free_of p t → get_or (take_of p top l t).1 (section_of top p t + i) 0 ≡ get_or l (section_of top p t + i) 0
  unfolding take_of
  take_rest i h =
      either (λ (x : Block × List ℕ). get_or x.1 (section_of top p t + i) 0 ≡ get_or l (section_of top p t + i) 0) (eqb (free_of p t) 0) _ _ (λ e. refl)
      (λ e. out_rest l (section_of top p t) (free_of p t) i h)

  module _ (s : ℕ) where
    -- a return's pool
    pub give_pool : (give_of p top l t s).0 ≡ more_of p top t
    unfolding give_of
    give_pool = refl

    -- the list keeps its length
    pub give_length : length (give_of p top l t s).1 ≡ length l
    unfolding give_of
    give_length = in_length l (section_of top p t) (free_of p t) s

    -- only the tier's free entries change, the new one among them
    pub give_other : (i : ℕ) → (section_of top p t ≤ i → i < section_of top p t + suc (free_of p t) → ⊥) → get_or (give_of p top l t s).1 i 0 ≡ get_or l i 0
    unfolding give_of
    give_other i h = in_other l (section_of top p t) (free_of p t) s i h

    -- the old entries stay
    pub give_old : (i : ℕ) → i < free_of p t → get_or (give_of p top l t s).1 (section_of top p t + i) 0 ≡ get_or l (section_of top p t + i) 0
    unfolding give_of
    give_old i h = in_old l (section_of top p t) (free_of p t) s i h

    -- the block that was returned last is taken first
    pub give_first : section_of top p t + free_of p t < length l → first_out (give_of p top l t s).1 (section_of top p t) (suc (free_of p t)) ≡ s
    unfolding give_of
    give_first h = in_first l (section_of top p t) (free_of p t) s h

-- where a return is allowed, its section has room, and the block lies below the mark as found
pub room_zero : (p : Pool) (top lim t s : ℕ) → room_of p top lim t s ≡ 0 → (free_of p t < section_length (spacings top) p.size t) × (within_of top lim t s ≡ 0)
unfolding room_of
room_zero p top lim t s e = go (ltb (free_of p t) (section_length (spacings top) p.size t)) refl e
  where
    go : (b : Bool) → ltb (free_of p t) (section_length (spacings top) p.size t) ≡ b → cond b (within_of top lim t s) 5 ≡ 0 → (free_of p t < section_length (spacings top) p.size t) × (within_of top lim t s ≡ 0)
    go true q r = (ltb-true _ _ q, r)
    go false q r = absurd (omega arith)
