-- The free blocks of a pool after a take and after a return. Assumes nothing.
use mathlib.Core.Path.{◌≡◌, refl, sym, ◌∙◌}
use mathlib.Core.Logic.{◌⊎◌, inl, inr}
use mathlib.Core.List.{List}
use Prim.Native.Nat.{ℕ, suc, ◌+◌, ◌-◌, ◌<◌}
use native.Mathlib.Decide.{dec_lt, ℕ_discrete}
use native.Mathlib.Omega.{arith}
use borrow.Author.Tests.{ne_eqb}
use lib.ListN.{length, get_or}
use lib.Seq.{get_or-set_same}
use Rattle.tiers.specs.Tiers.{spacings, section_length}
use Rattle.tiers.proofs.Sections.{entry_one, entry_lt}
use Rattle.blocks.specs.declared.Pool.{Pool}
use Rattle.blocks.specs.Blocks.{block_as, free_of, section_of, first_out, take_out, put_in, less_of, take_of, give_of}
use Rattle.blocks.proofs.Section.{out_rest, in_old}
use Rattle.blocks.proofs.Moves.{less_size, less_same, less_other, more_size, more_same, more_other, take_pool, take_other, give_other}
use Rattle.blocks.proofs.Shape.{InShape}
use Rattle.pools.specs.Sound.{Listed, Distinct, FreeAt}

-- ---- a section of a list, with n entries from `from` on. These six say all that the laws below need of which free block is taken

module _ (l : List ℕ) (from n : ℕ) where
  -- what is taken is an entry
  pub first_listed : 0 < n → Listed l from n (first_out l from n)
  first_listed h = (n - 1, omega arith, refl)

  -- what is left was an entry
  pub out_listed : (s : ℕ) → Listed (take_out l from n) from (n - 1) s → Listed l from n s
  out_listed s (i, h, e) = (i, omega arith, sym (out_rest l from n i (omega arith)) ∙ e)

  -- what was taken isn't left, where the entries differ
  pub out_apart : Distinct l from n → (s : ℕ) → Listed (take_out l from n) from (n - 1) s → s ≡ first_out l from n → ⊥
  out_apart d s (i, h, e) q =
      let z : i ≡ n - 1 = d i (n - 1) (omega arith) (omega arith) (sym (out_rest l from n i (omega arith)) ∙ e ∙ q) in
      omega arith

  -- what is left differs
  pub out_once : Distinct l from n → Distinct (take_out l from n) from (n - 1)
  out_once d i j h k e =
      d i j (omega arith) (omega arith) (sym (out_rest l from n i (omega arith)) ∙ e ∙ out_rest l from n j (omega arith))

  module _ (room : from + n < length l) (s : ℕ) where
    -- the new entry stands behind the old ones
    in_new : (i : ℕ) → (i < n → ⊥) → i < suc n → get_or (put_in l from n s) (from + i) 0 ≡ s
    in_new i h k = let z : i ≡ n = omega arith in rw z (get_or-set_same l (from + n) s 0 room)

    -- an entry afterwards is the new one, or was one
    pub in_listed : (r : ℕ) → Listed (put_in l from n s) from (suc n) r → (r ≡ s) ⊎ Listed l from n r
    in_listed r (i, h, e) = go (dec_lt i n)
      where
        go : Dec (i < n) → (r ≡ s) ⊎ Listed l from n r
        go (yes k) = inr (i, k, sym (in_old l from n s i k) ∙ e)
        go (no k) = inl (sym e ∙ in_new i k h)

    -- a new entry leaves the entries different
    pub in_once : Distinct l from n → (Listed l from n s → ⊥) → Distinct (put_in l from n s) from (suc n)
    in_once d f i j h k e = go (dec_lt i n) (dec_lt j n)
      where
        go : Dec (i < n) → Dec (j < n) → i ≡ j
        go (yes a) (yes b) = d i j a b (sym (in_old l from n s i a) ∙ e ∙ in_old l from n s j b)
        go (yes a) (no b) = absurd (f (i, a, sym (in_old l from n s i a) ∙ e ∙ in_new j b k))
        go (no a) (yes b) = absurd (f (j, b, sym (in_old l from n s j b) ∙ sym e ∙ in_new i a h))
        go (no a) (no b) = omega arith

-- lists with the same entries there
module _ (l m : List ℕ) (from n : ℕ) (same : (i : ℕ) → i < n → get_or m (from + i) 0 ≡ get_or l (from + i) 0) where
  same_listed : (s : ℕ) → Listed m from n s → Listed l from n s
  same_listed s (i, h, e) = (i, h, sym (same i h) ∙ e)

  same_once : Distinct l from n → Distinct m from n
  same_once d i j h k e = d i j h k (sym (same i h) ∙ e ∙ same j k)

-- ---- of a pool

module _ (top : ℕ) (p : Pool) (l : List ℕ) (t : ℕ) (shape : InShape p top l) (ht : t < 7) where
  -- a free entry of another tier is none of this tier's section
  elsewhere : (u i j : ℕ) → u < 7 → (u ≡ t → ⊥) → i < free_of p u → j < section_length (spacings top) p.size t
      → section_of top p u + i ≡ section_of top p t + j → ⊥
  elsewhere u i j h ne k v e = ne (entry_one (spacings top) p.size u i t j (omega (arith, shape.counts u h)) v e).0

  -- ---- a take

  -- where a section begins, and its free blocks, afterwards
  take_section : (u : ℕ) → section_of top (take_of p top l t).0.pool u ≡ section_of top p u
  take_section u = rw (take_pool p top l t, less_size p top t)

  take_fewer : free_of (take_of p top l t).0.pool t ≡ free_of p t - 1
  take_fewer = rw (take_pool p top l t) (less_same p top t)

  take_count : (u : ℕ) → (u ≡ t → ⊥) → free_of (take_of p top l t).0.pool u ≡ free_of p u
  take_count u h = rw (take_pool p top l t) (less_other p top t u h)

  -- a free block is taken
  take_free : 0 < free_of p t
      → take_of p top l t ≡ (block_as (first_out l (section_of top p t) (free_of p t)) (less_of p top t), take_out l (section_of top p t) (free_of p t))
  unfolding take_of
  take_free h = simp (ne_eqb (free_of p t) 0 (λ e. omega arith))

  -- the entries of another tier stay
  take_stays : (u : ℕ) → u < 7 → (u ≡ t → ⊥) → (i : ℕ) → i < free_of p u → get_or (take_of p top l t).1 (section_of top p u + i) 0 ≡ get_or l (section_of top p u + i) 0
  take_stays u h ne i k =
      take_other p top l t (section_of top p u + i)
      (λ w. elsewhere u i (section_of top p u + i - section_of top p t) h ne k (omega (arith, w.0, w.1, shape.counts t ht)) (omega (arith, w.0)))

  -- the block that is taken was free
  pub taken_listed : 0 < free_of p t → FreeAt top p l t (take_of p top l t).0.start
  taken_listed h = rw (take_free h) (first_listed l (section_of top p t) (free_of p t) h)

  -- a block of the tier that is free afterwards is one of those left, and there was a free one
  take_left : (s : ℕ) → FreeAt top (take_of p top l t).0.pool (take_of p top l t).1 t s
      → (0 < free_of p t) × Listed (take_out l (section_of top p t) (free_of p t)) (section_of top p t) (free_of p t - 1) s
  take_left s f =
      let h : 0 < free_of p t = omega (arith, f.1, take_fewer) in
      (h, rw (take_section t, take_fewer, take_free h) at f)

  -- a block that is free afterwards was free
  pub take_listed : (u s : ℕ) → u < 7 → FreeAt top (take_of p top l t).0.pool (take_of p top l t).1 u s → FreeAt top p l u s
  take_listed u s h f = go (ℕ_discrete u t)
    where
      go : Dec (u ≡ t) → FreeAt top p l u s
      go (yes e) = rw e (out_listed l (section_of top p t) (free_of p t) s (take_left s (rw e at f)).1)
      go (no e) = same_listed l (take_of p top l t).1 (section_of top p u) (free_of p u) (take_stays u h e) s (rw (take_section u, take_count u e) at f)

  -- the block that was taken isn't
  pub take_apart : Distinct l (section_of top p t) (free_of p t) → 0 < free_of p t → (s : ℕ) → FreeAt top (take_of p top l t).0.pool (take_of p top l t).1 t s
      → s ≡ (take_of p top l t).0.start → ⊥
  take_apart d h s f e = out_apart l (section_of top p t) (free_of p t) d s (take_left s f).1 (rw (take_free h) at e)

  -- each free block is listed once, still
  pub take_once : ((u : ℕ) → u < 7 → Distinct l (section_of top p u) (free_of p u))
      → (u : ℕ) → u < 7 → Distinct (take_of p top l t).1 (section_of top (take_of p top l t).0.pool u) (free_of (take_of p top l t).0.pool u)
  take_once d u h = go (ℕ_discrete u t)
    where
      here : Dec (0 < free_of p t) → Distinct (take_of p top l t).1 (section_of top (take_of p top l t).0.pool t) (free_of (take_of p top l t).0.pool t)
      here (yes k) = rw (take_section t, take_fewer, take_free k) (out_once l (section_of top p t) (free_of p t) (d t ht))
      here (no k) = λ i j v w e. absurd (omega (arith, take_fewer))

      go : Dec (u ≡ t) → Distinct (take_of p top l t).1 (section_of top (take_of p top l t).0.pool u) (free_of (take_of p top l t).0.pool u)
      go (yes e) = rw e (here (dec_lt 0 (free_of p t)))
      go (no e) = rw (take_section u, take_count u e) (same_once l (take_of p top l t).1 (section_of top p u) (free_of p u) (take_stays u h e) (d u h))

  -- ---- a return to a section that has room

  module _ (room : free_of p t < section_length (spacings top) p.size t) where
    -- its place is one of the list
    give_place : section_of top p t + free_of p t < length l
    give_place = omega (arith, entry_lt (spacings top) p.size t (free_of p t) ht room, shape.whole)

    module _ (s : ℕ) where
      -- where a section begins, and its free blocks, afterwards
      give_section : (u : ℕ) → section_of top (give_of p top l t s).0 u ≡ section_of top p u
      unfolding give_of
      give_section u = rw (more_size p top t)

      give_more : free_of (give_of p top l t s).0 t ≡ suc (free_of p t)
      unfolding give_of
      give_more = more_same p top t (omega (arith, shape.tiers)) ∙ (omega arith)

      give_count : (u : ℕ) → (u ≡ t → ⊥) → free_of (give_of p top l t s).0 u ≡ free_of p u
      unfolding give_of
      give_count u h = more_other p top t u h

      give_list : (give_of p top l t s).1 ≡ put_in l (section_of top p t) (free_of p t) s
      unfolding give_of
      give_list = refl

      -- the entries of another tier stay
      give_stays : (u : ℕ) → u < 7 → (u ≡ t → ⊥) → (i : ℕ) → i < free_of p u → get_or (give_of p top l t s).1 (section_of top p u + i) 0 ≡ get_or l (section_of top p u + i) 0
      give_stays u h ne i k =
          give_other p top l t s (section_of top p u + i)
          (λ v w. elsewhere u i (section_of top p u + i - section_of top p t) h ne k (omega (arith, v, w, room)) (omega (arith, v)))

      -- a block that is free afterwards is the one returned, or was free
      pub give_listed : (u r : ℕ) → u < 7 → FreeAt top (give_of p top l t s).0 (give_of p top l t s).1 u r → ((u ≡ t) × (r ≡ s)) ⊎ FreeAt top p l u r
      give_listed u r h f = go (ℕ_discrete u t)
        where
          old : u ≡ t → (r ≡ s) ⊎ FreeAt top p l t r → ((u ≡ t) × (r ≡ s)) ⊎ FreeAt top p l u r
          old e (inl q) = inl (e, q)
          old e (inr q) = inr (rw e q)

          go : Dec (u ≡ t) → ((u ≡ t) × (r ≡ s)) ⊎ FreeAt top p l u r
          go (yes e) = old e (in_listed l (section_of top p t) (free_of p t) give_place s r (rw (e, give_section t, give_more, give_list) at f))
          go (no e) = inr (same_listed l (give_of p top l t s).1 (section_of top p u) (free_of p u) (give_stays u h e) r (rw (give_section u, give_count u e) at f))

    -- each free block is listed once, where the one returned wasn't free
    pub give_once : ((u : ℕ) → u < 7 → Distinct l (section_of top p u) (free_of p u)) → (s : ℕ) → (FreeAt top p l t s → ⊥)
        → (u : ℕ) → u < 7 → Distinct (give_of p top l t s).1 (section_of top (give_of p top l t s).0 u) (free_of (give_of p top l t s).0 u)
    give_once d s ns u h = go (ℕ_discrete u t)
      where
        go : Dec (u ≡ t) → Distinct (give_of p top l t s).1 (section_of top (give_of p top l t s).0 u) (free_of (give_of p top l t s).0 u)
        go (yes e) = rw (e, give_section s t, give_more s, give_list s) (in_once l (section_of top p t) (free_of p t) give_place s (d t ht) ns)
        go (no e) = rw (give_section s u, give_count s u e) (same_once l (give_of p top l t s).1 (section_of top p u) (free_of p u) (give_stays s u h e) (d u h))
