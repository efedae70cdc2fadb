-- Two ways through an insert, over plain variables: each gives what the definition gives there. Assumes nothing.
use mathlib.Core.Path.{◌≡◌, refl}
use mathlib.Core.List.{List}
use Prim.Native.Nat.{ℕ, ◌-◌, ◌/◌}
use borrow.Author.Tests.{eq-eqb, ne_eqb}
use Rattle.bits.specs.Bits.{count}
use Rattle.tiers.specs.Tiers.{stride, data_top, child_top}
use Rattle.places.specs.Places.{data_bit}
use Rattle.node.specs.declared.MultiBitNode.{MultiBitNode}
use Rattle.blocks.specs.declared.Pool.{Pool}
use Rattle.blocks.specs.Blocks.{Asked, ask_of}
use Rattle.blocks.specs.Growth.{grow_ask_of, chain_ask_of}
use Rattle.store.specs.declared.Cell.{Cell}
use Rattle.edits.specs.Adding.{keep_of}
use Rattle.map.specs.declared.State.{State}
use Rattle.map.specs.declared.Edited.{Edited}
use Rattle.map.specs.Memory.{memory, edited, refusal}
use Rattle.map.specs.Inserts.{added_of, here_of, below_of}

module _ (s : State) (l cells f g : List ℕ) (key len : ℕ) (v : Cell) (at : ℕ) (x : MultiBitNode) {b : ℕ} (eb : b ≡ data_bit key len)
    {c : ℕ} (ec : c ≡ count x.data_bitmap) {a : Asked} (ea : a ≡ grow_ask_of s.cells data_top s.cells.mark g x.data_idx.0 c)
  where
    -- the data block can grow: the value is kept
    pub here_kept :
        a.number ≡ 0 → {i : ℕ} → i ≡ at → {q : Pool} {l₂ cells₂ g₂ : List ℕ} → (q, l₂, cells₂, g₂) ≡ keep_of s.cells l cells g i x b v
        → {e : Edited} → e ≡ added_of s key len s.nodes q → (e, memory l₂ cells₂ f g₂) ≡ here_of s (memory l cells f g) key len v at x
    unfolding here_of
    here_kept h ei k r = simp (← ec, ← ea, eq-eqb _ 0 h, ← eb, ← ei, ← k, r)

-- a first block is asked as a single one
first_ask : (p : Pool) (top lim : ℕ) (l : List ℕ) (old : ℕ) → (grow_ask_of p top lim l old 0).number ≡ ask_of p top lim l 0
unfolding grow_ask_of
first_ask p top lim l old = refl

module _ (s : State) (l cells f g : List ℕ) (key len : ℕ) (v : Cell) (at d : ℕ) (x : MultiBitNode) {b : ℕ} (eb : b ≡ data_bit key len)
    {c : ℕ} (ec : c ≡ count x.child_bitmap) {a : ℕ} (ea : a ≡ chain_ask_of s.nodes child_top f x.children_idx.0 c ((len - d) / stride))
  where
    module _ (h : a ≡ 0) {n : ℕ} (en : n ≡ ask_of s.cells data_top s.cells.mark g 0) where
      -- no block for the value
      pub below_full : (n ≡ 0 → ⊥) → {e : Edited} → e ≡ edited (refusal n) s → (e, memory l cells f g) ≡ below_of s (memory l cells f g) key len v at d x
      unfolding below_of
      below_full k q = simp (← ec, ← ea, eq-eqb a 0 h, first_ask, ← en, ne_eqb n 0 k, q)
