-- An owner loses an item: what the others' slots and places are then, and what a sound pool needs so as to be sound again. Assumes nothing.
use mathlib.Core.Path.{◌≡◌, sym, ap, ◌∙◌}
use mathlib.Core.Bool.{Bool, true, false}
use mathlib.Core.List.{List}
use Prim.Native.Nat.{ℕ, suc, ◌+◌, ◌-◌, ◌*◌, ◌/◌, ◌%◌, ◌≤◌, ◌<◌}
use native.Mathlib.Omega.{arith}
use native.Mathlib.Decide.{dec_lt, ℕ_discrete}
use Rattle.blocks.specs.declared.Pool.{Pool}
use Rattle.blocks.proofs.Ways.{never}
use Rattle.store.proofs.Blocks.{Shrunk}
use Rattle.pools.specs.Items.{upd, among, items, slot, place_of}
use Rattle.pools.specs.Sound.{block_for, Owner, kept, Coloured, Sound}
use Rattle.pools.proofs.Items.{upd_same, upd_other, among_strict, among_off, among_out, parts, items_out, items_other}
use Rattle.pools.proofs.Growth.{place_kept}

-- ---- the items that stay

module _ (K : ℕ → Bool) (x : ℕ) (there : K x ≡ true) where
  -- what is still there was there, and is another
  pub still_there : (y : ℕ) → upd K x false y ≡ true → (x ≡ y → ⊥) × (K y ≡ true)
  still_there y e = go (ℕ_discrete x y)
    where
      go : Dec (x ≡ y) → (x ≡ y → ⊥) × (K y ≡ true)
      go (yes p) = absurd (never (sym (rw (← p, upd_same K x false) at e)))
      go (no p) = (p, rw (upd_other K x y false p) at e)

  -- no owner has more items
  pub no_more : (n : ℕ) → items (upd K x false) n ≤ items K n
  no_more n = go (ℕ_discrete (x / 32) n)
    where
      go : Dec (x / 32 ≡ n) → items (upd K x false) n ≤ items K n
      go (yes e) = rw (← e) (omega (arith, items_out K x there))
      go (no e) = rw (items_other K x n false e) (omega arith)

  -- an item of the same owner that stands before it keeps its slot
  slot_before : (b : ℕ) → b ≤ x % 32 → among (upd K x false) (32 * (x / 32)) b ≡ among K (32 * (x / 32)) b
  slot_before b h = among_off K x (32 * (x / 32)) b false (λ i l z. omega arith)

  -- one that stands behind it moves up by one
  slot_behind : (b : ℕ) → x % 32 < b → suc (among (upd K x false) (32 * (x / 32)) b) ≡ among K (32 * (x / 32)) b
  slot_behind b h =
      let e = parts x in
      ap (λ (y : ℕ). suc (among (upd K y false) (32 * (x / 32)) b)) e ∙ among_out K (32 * (x / 32)) (x % 32) b (rw e at there) h

  -- the others of its owner stand at t in their order, where a block is said to have lost the item's slot
  others_stand : {A : Type 0} (mem mem' : ℕ → A) (old t : ℕ) → Shrunk mem mem' old t (items K (x / 32)) (slot K x)
      → (b : ℕ) → b < 32 → K (32 * (x / 32) + b) ≡ true → (x % 32 ≡ b → ⊥)
      → mem' (t + among (upd K x false) (32 * (x / 32)) b) ≡ mem (old + among K (32 * (x / 32)) b)
  others_stand mem mem' old t s b h k ne = go (dec_lt b (x % 32))
    where
      go : Dec (b < x % 32) → mem' (t + among (upd K x false) (32 * (x / 32)) b) ≡ mem (old + among K (32 * (x / 32)) b)
      go (yes l) = rw (slot_before b (omega arith)) (s.below (among K (32 * (x / 32)) b) (among_strict K (32 * (x / 32)) b (x % 32) k l))
      go (no l) =
          let u = slot_behind b (omega arith) in
          s.above (among (upd K x false) (32 * (x / 32)) b)
          (omega (arith, among_strict K (32 * (x / 32)) (x % 32) b (ap K (sym (parts x)) ∙ there) (omega arith)))
          (omega (arith, among_strict K (32 * (x / 32)) b 32 k h))
          ∙ ap (λ (i : ℕ). mem (old + i)) u

-- ---- the pool

module _ {A : Type 0} {top : ℕ} {p : Pool} {l : List ℕ} {mem : ℕ → A} {K : ℕ → Bool} {st : ℕ → ℕ} {val : ℕ → A} {own : ℕ → Owner}
    (sound : Sound top p l mem K st val own) (x : ℕ) (there : K x ≡ true) (p' : Pool) (l' : List ℕ) (mem' : ℕ → A) (own' : ℕ → Owner) (t : ℕ) where
  -- a pool without an item is sound: the owner's block at t is its own and has lost the item's slot, and what others keep stays theirs, and as it was
  pub loss_sound : Coloured top p' l' own' → Shrunk mem mem' (st (x / 32)) t (items K (x / 32)) (slot K x)
      → ((i : ℕ) → i < block_for top (items K (x / 32) - 1) → own' (t + i) ≡ kept (x / 32))
      → ((n i : ℕ) → (x / 32 ≡ n → ⊥) → own i ≡ kept n → (own' i ≡ kept n) × (mem' i ≡ mem i))
      → Sound top p' l' mem' (upd K x false) (upd st (x / 32) t) val own'
  loss_sound c s new rest = record {
    blocks = c;
    mine = λ n i h. mine n i h (ℕ_discrete (x / 32) n);
    few = λ n. omega (arith, no_more K x there n, sound.few n);
    held = λ y k. held y (still_there K x there y k) (ℕ_discrete (x / 32) (y / 32));
  }
    where
      mine : (n i : ℕ) → i < block_for top (items (upd K x false) n) → Dec (x / 32 ≡ n) → own' (upd st (x / 32) t n + i) ≡ kept n
      mine n i h (yes e) =
          let f : items (upd K x false) (x / 32) ≡ items K (x / 32) - 1 = omega (arith, items_out K x there) in
          rw (← e, upd_same st (x / 32) t) (new i (rw (← e, f) at h))
      mine n i h (no e) = rw (upd_other st (x / 32) n t e) (rest n (st n + i) e (sound.mine n i (rw (items_other K x n false e) at h))).0

      -- an item of the same owner
      near : (y : ℕ) → K y ≡ true → (x ≡ y → ⊥) → x / 32 ≡ y / 32 → mem' (t + among (upd K x false) (32 * (x / 32)) (y % 32)) ≡ val y
      near y k d e =
          others_stand K x there mem mem' (st (x / 32)) t s (y % 32) (omega arith) (rw e (ap K (sym (parts y)) ∙ k)) (λ z. d (omega arith))
          ∙ rw e (sound.held y k)

      held : (y : ℕ) → (x ≡ y → ⊥) × (K y ≡ true) → Dec (x / 32 ≡ y / 32) → mem' (place_of (upd K x false) (upd st (x / 32) t) y) ≡ val y
      held y k (yes e) = rw (← e, upd_same st (x / 32) t) (near y k.1 k.0 e)
      held y k (no e) =
          rw (upd_other st (x / 32) (y / 32) t e, among_off K x (32 * (y / 32)) (y % 32) false (λ i m z. e (omega arith)))
          ((rest (y / 32) (place_of K st y) e (place_kept sound y k.1)).1 ∙ sound.held y k.1)
