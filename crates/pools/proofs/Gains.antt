-- An owner gets an item: where the others of its items stand then, and what a sound pool needs so as to be sound again. Assumes nothing.
use mathlib.Core.Path.{◌≡◌, sym, ap, ◌∙◌}
use mathlib.Core.Bool.{Bool, true, false}
use mathlib.Core.List.{List}
use Prim.Native.Nat.{ℕ, suc, ◌+◌, ◌*◌, ◌/◌, ◌%◌, ◌≤◌, ◌<◌}
use native.Mathlib.Omega.{arith}
use native.Mathlib.Decide.{dec_lt, ℕ_discrete}
use Rattle.blocks.specs.declared.Pool.{Pool}
use Rattle.store.proofs.Blocks.{Grown}
use Rattle.pools.specs.Items.{upd, among, items, slot, place_of}
use Rattle.pools.specs.Sound.{block_for, Owner, kept, Coloured, Sound}
use Rattle.pools.proofs.Items.{upd_same, upd_other, among_mono, among_strict, among_off, among_in, parts, items_in, items_other, slot_lt}

module _ (K : ℕ → Bool) (x : ℕ) (new : K x ≡ false) where
  -- an item of the same owner that stands before it keeps its slot, and so does the item itself
  slot_before : (b : ℕ) → b ≤ x % 32 → among (upd K x true) (32 * (x / 32)) b ≡ among K (32 * (x / 32)) b
  slot_before b h = among_off K x (32 * (x / 32)) b true (λ i l z. omega arith)

  -- one that stands behind it moves down by one
  slot_behind : (b : ℕ) → x % 32 < b → among (upd K x true) (32 * (x / 32)) b ≡ suc (among K (32 * (x / 32)) b)
  slot_behind b h =
      let e = parts x in
      ap (λ (y : ℕ). among (upd K y true) (32 * (x / 32)) b) e ∙ among_in K (32 * (x / 32)) (x % 32) b (rw e at new) h

  -- the others of its owner stand at t in their order, where a block is said to have got the item's slot
  others_stand : {A : Type 0} (mem mem' : ℕ → A) (v : A) (old t : ℕ) → Grown mem mem' v old t (items K (x / 32)) (slot K x)
      → (b : ℕ) → b < 32 → K (32 * (x / 32) + b) ≡ true → (x % 32 ≡ b → ⊥)
      → mem' (t + among (upd K x true) (32 * (x / 32)) b) ≡ mem (old + among K (32 * (x / 32)) b)
  others_stand mem mem' v old t g b h k ne = go (dec_lt b (x % 32))
    where
      go : Dec (b < x % 32) → mem' (t + among (upd K x true) (32 * (x / 32)) b) ≡ mem (old + among K (32 * (x / 32)) b)
      go (yes l) = rw (slot_before b (omega arith)) (g.below (among K (32 * (x / 32)) b) (among_strict K (32 * (x / 32)) b (x % 32) k l))
      go (no l) =
          rw (slot_behind b (omega arith))
          (g.above (among K (32 * (x / 32)) b) (among_mono K (32 * (x / 32)) (x % 32) b (omega arith)) (among_strict K (32 * (x / 32)) b 32 k h))

module _ {A : Type 0} {top : ℕ} {p : Pool} {l : List ℕ} {mem : ℕ → A} {K : ℕ → Bool} {st : ℕ → ℕ} {val : ℕ → A} {own : ℕ → Owner}
    (s : Sound top p l mem K st val own) (x old t : ℕ) (v : A) (new : K x ≡ false) (room : items K (x / 32) < top)
    (there : 0 < items K (x / 32) → old ≡ st (x / 32)) (p' : Pool) (l' : List ℕ) (mem' : ℕ → A) (own' : ℕ → Owner) where
  -- A pool with one more item is sound: its places are known; the owner's block at t is its own, and has got the slot; what others keep stays theirs, and their items stand as they stood
  pub gain_sound : Coloured top p' l' own' → Grown mem mem' v old t (items K (x / 32)) (slot K x)
      → ((i : ℕ) → i < block_for top (suc (items K (x / 32))) → own' (t + i) ≡ kept (x / 32))
      → ((n i : ℕ) → (x / 32 ≡ n → ⊥) → own i ≡ kept n → own' i ≡ kept n)
      → ((y : ℕ) → K y ≡ true → (x / 32 ≡ y / 32 → ⊥) → mem' (place_of K st y) ≡ mem (place_of K st y))
      → Sound top p' l' mem' (upd K x true) (upd st (x / 32) t) (upd val x v) own'
  gain_sound c g block theirs rest = record {
    blocks = c;
    mine = λ n i h. mine n i h (ℕ_discrete (x / 32) n);
    few = λ n. few n (ℕ_discrete (x / 32) n);
    held = λ y k. held y k (ℕ_discrete x y) (ℕ_discrete (x / 32) (y / 32));
  }
    where
      mine : (n i : ℕ) → i < block_for top (items (upd K x true) n) → Dec (x / 32 ≡ n) → own' (upd st (x / 32) t n + i) ≡ kept n
      mine n i h (yes e) = rw (← e, upd_same st (x / 32) t) (block i (rw (← e, items_in K x new) at h))
      mine n i h (no e) = rw (upd_other st (x / 32) n t e) (theirs n (st n + i) e (s.mine n i (rw (items_other K x n true e) at h)))

      few : (n : ℕ) → Dec (x / 32 ≡ n) → items (upd K x true) n ≤ top
      few n (yes e) = rw (← e, items_in K x new) room
      few n (no e) = rw (items_other K x n true e) (s.few n)

      -- an item of the same owner
      near : (y : ℕ) → K y ≡ true → (x ≡ y → ⊥) → x / 32 ≡ y / 32 → mem' (t + among (upd K x true) (32 * (x / 32)) (y % 32)) ≡ val y
      near y k d e =
          others_stand K x new mem mem' v old t g (y % 32) (omega arith) (rw e (ap K (sym (parts y)) ∙ k)) (λ z. d (omega arith))
          ∙ rw (there (rw e (omega (arith, slot_lt K y k))), e) (s.held y k)

      held : (y : ℕ) → upd K x true y ≡ true → Dec (x ≡ y) → Dec (x / 32 ≡ y / 32) → mem' (place_of (upd K x true) (upd st (x / 32) t) y) ≡ upd val x v y
      held y k (yes d) e = rw (← d, upd_same st (x / 32) t, upd_same val x v, slot_before K x new (x % 32) (omega arith)) g.slot
      held y k (no d) (yes e) = rw (← e, upd_same st (x / 32) t, upd_other val x y v d) (near y (rw (upd_other K x y true d) at k) d e)
      held y k (no d) (no e) =
          let j : K y ≡ true = rw (upd_other K x y true d) at k in
          rw (upd_other st (x / 32) (y / 32) t e, among_off K x (32 * (y / 32)) (y % 32) true (λ i m z. e (omega arith)), upd_other val x y v d)
          (rest y j e ∙ s.held y j)
