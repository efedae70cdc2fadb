-- A rule comes into a node of an image: its cell and the node's words are written, and what stands there is the image with it.
-- A rule that is there gets another value. Assumes nothing.
use mathlib.Core.Path.{◌≡◌, refl, sym, ap, ◌∙◌}
use mathlib.Core.Bool.{Bool, true, false}
use mathlib.Core.Logic.{⊎_elim}
use mathlib.Core.List.{List}
use Prim.Native.Nat.{ℕ, suc, ◌+◌, ◌*◌, ◌/◌, ◌%◌, ◌≤◌, ◌<◌}
use native.Mathlib.Nat.{le_refl}
use native.Mathlib.Omega.{arith}
use Rattle.bits.specs.Bits.{one, with_bit}
use Rattle.tiers.specs.Tiers.{data_top}
use Rattle.node.specs.declared.MultiBitNode.{MultiBitNode}
use Rattle.blocks.specs.declared.Pool.{Pool}
use Rattle.blocks.specs.declared.Block.{Block}
use Rattle.blocks.specs.Growth.{stays_of}
use Rattle.store.specs.declared.Cell.{Cell}
use Rattle.store.specs.Words.{cell_at, save_cell, empty_cell, save_node}
use Rattle.store.specs.Moves.{widen_cells}
use Rattle.store.proofs.Items.{cell_length, node_length}
use Rattle.store.proofs.Items as InWords
use Rattle.store.proofs.Changes.{widen_cells_length}
use Rattle.edits.specs.Nodes.{with_rules}
use Rattle.edits.specs.Adding.{keep_of}
use Rattle.rules.specs.Sums.{sum}
use Rattle.rules.specs.Account.{run}
use Rattle.rules.specs.Ledger.{rise}
use Rattle.rules.proofs.Returns.{Fits}
use Rattle.pools.specs.Items.{upd, among, items, slot, place_of}
use Rattle.pools.specs.Sound.{Owner, Sound}
use Rattle.pools.specs.Accounts.{kind_of, account_of, supplied}
use Rattle.pools.proofs.Items.{upd_other, among_le, items_in, slot_le}
use Rattle.pools.proofs.Accounts.{grow_account, grow_size}
use Rattle.pools.proofs.Growth.{place_below, write_sound, grow_sound}
use Rattle.image.specs.Tree.{Shape}
use Rattle.image.specs.Image.{start_of, bits_of, node_of, Image}
use Rattle.image.proofs.Words.{bits_count, bits_slot, start_some}
use Rattle.image.proofs.Chains.{more_cases}
use Rattle.image.proofs.Changes.{with_rule, other_rule, node_written, grown, cells_widen}

-- an owner has at most 31 items where place 31 is never used
items_few : (K : ℕ → Bool) (n : ℕ) → K (32 * n + 31) ≡ false → items K n ≤ 31
items_few K n h = omega (arith, among_le K (32 * n) 31, last 31, ap one h)
  where
    last : (i : ℕ) → among K (32 * n) (suc i) ≡ among K (32 * n) i + one (K (32 * n + i))
    last i = unfold sum in refl

module _
    {p : Pool} {nodes nf : List ℕ} {q : Pool} {cells cf : List ℕ} {E D : ℕ → Bool} {es vs : ℕ → ℕ} {val : ℕ → Cell} {on od : ℕ → Owner}
    (m : Image p nodes nf q cells cf E D es vs val on od) (x : ℕ) (v : Cell)
  where
    -- the rule's node, its rules so far, and where their cells stand
    abbrev n : ℕ
    n = x / 32

    abbrev c : ℕ
    c = items D n

    abbrev old : ℕ
    old = start_of c (vs n)

    -- the block with room for the rule, where it starts, and the cells with the new one
    abbrev g : Block × List ℕ
    g = grown data_top q cf D vs x

    abbrev T : ℕ
    T = g.0.start

    abbrev wide : List ℕ
    wide = widen_cells (stays_of data_top c) cells old T c (slot D x) v

    abbrev D' : ℕ → Bool
    D' = upd D x true

    abbrev vs' : ℕ → ℕ
    vs' = upd vs n T

    -- what is written
    keep_is : (at : ℕ) → D x ≡ false
        → keep_of q nodes cells cf at (node_of E D es vs n) (x % 32) v ≡ (g.0.pool, save_node nodes at (node_of E D' es vs' n), wide, g.1)
    keep_is at h = written ∙ ap (λ (w : MultiBitNode). (g.0.pool, save_node nodes at w, wide, g.1)) (with_rule E D es vs x T h)
      where
        written : keep_of q nodes cells cf at (node_of E D es vs n) (x % 32) v
            ≡ (g.0.pool, save_node nodes at (with_rules (node_of E D es vs n) (with_bit (bits_of D n) (x % 32)) T), wide, g.1)
        written = unfold keep_of node_of in rw (bits_count D n, bits_slot D n (x % 32) (omega arith))

    module _ (holds : E n ≡ true) (low : x % 32 < 31) where
      -- the new rule hangs on a node, and has another data bit than 31
      keep_shape : Shape E D'
      keep_shape = record {
        root = m.shape.root;
        alone = m.shape.alone;
        parent = m.shape.parent;
        holder = λ y h. ⊎_elim (λ z. rw (← z) holds) (λ k. m.shape.holder y k) (more_cases D x y h);
        low = λ k. upd_other D x (32 * k + 31) true (λ z. omega arith) ∙ m.shape.low k;
      }

      -- a node has room for one rule more
      keep_few : D x ≡ false → c < 31
      keep_few new = omega (arith, items_in D x new, items_few D' n (keep_shape.low n))

    -- the image with the rule
    pub keep_image : E n ≡ true → D x ≡ false → x % 32 < 31
        → supplied (kind_of data_top q) (rise (kind_of data_top q) c) (account_of q) ≡ true
        → Fits (kind_of data_top q) (rise (kind_of data_top q) c) (account_of q)
        → let k = keep_of q nodes cells cf (place_of E es n) (node_of E D es vs n) (x % 32) v in
        (od' : ℕ → Owner) × Image p k.1 nf k.0 k.2 k.3 E D' es vs' (upd val x v) on od'
    keep_image holds new low s r = rw (keep_is (place_of E es n) new) (
      block_grown.0,
      record {
        shape = keep_shape holds low;
        trees = node_written nodes m.trees m.nodes_length n holds (λ y h z. sym (other_rule E D es vs x T y true z));
        values = block_grown.1;
        rooted = m.rooted;
        nodes_length = node_length nodes (place_of E es n) _ ∙ m.nodes_length;
        cells_length = widen_cells_length (stays_of data_top c) cells old T c (slot D x) v ∙ (rw (grow_size data_top q cf old c) m.cells_length);
      },
    )
      where
        block_grown : (od' : ℕ → Owner) × Sound data_top g.0.pool g.1 (cell_at wide) D' vs' (upd val x v) od'
        block_grown =
            grow_sound m.values (le_refl 31) (omega arith) x old empty_cell v (cell_at wide) new (keep_few holds low new) (start_some c (vs n)) s r
            (cells_widen q.size data_top cells old T c (slot D x) m.cells_length v (slot_le D x))

    -- the data pool's account
    pub keep_account : (at : ℕ) → D x ≡ false
        → supplied (kind_of data_top q) (rise (kind_of data_top q) c) (account_of q) ≡ true
        → Fits (kind_of data_top q) (rise (kind_of data_top q) c) (account_of q)
        → account_of (keep_of q nodes cells cf at (node_of E D es vs n) (x % 32) v).0 ≡ run (kind_of data_top q) (rise (kind_of data_top q) c) (account_of q)
    keep_account at new s r = rw (keep_is at new) (grow_account data_top q cf m.values.blocks.shape old c s r)

    -- and its size
    pub keep_size : (at : ℕ) → D x ≡ false → (keep_of q nodes cells cf at (node_of E D es vs n) (x % 32) v).0.size ≡ q.size
    keep_size at new = rw (keep_is at new) (grow_size data_top q cf old c)

    -- another value at the rule's place
    pub replace_image : D x ≡ true → Image p nodes nf q (save_cell cells (place_of D vs x) v) cf E D es vs (upd val x v) on od
    replace_image there = record {
      shape = m.shape;
      trees = m.trees;
      values =
          write_sound m.values x v (cell_at (save_cell cells (place_of D vs x) v)) there
          ((InWords.cells).same cells (place_of D vs x) v (omega (arith, place_below m.values x there, m.values.blocks.shape.below, m.cells_length)))
          (λ i f. (InWords.cells).other cells (place_of D vs x) i v f);
      rooted = m.rooted;
      nodes_length = m.nodes_length;
      cells_length = cell_length cells (place_of D vs x) v ∙ m.cells_length;
    }
