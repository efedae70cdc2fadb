-- Items in a list of words, seen as a memory of items: what one write changes. Said once, and shown of cells and of nodes. Assumes nothing.
use mathlib.Core.Path.{◌≡◌, sym, ap, ◌∙◌}
use mathlib.Core.List.{List}
use Prim.Native.Nat.{ℕ, ◌+◌, ◌*◌, ◌/◌, ◌≤◌, ◌<◌}
use native.Mathlib.Omega.{arith}
use lib.ListN.{length, get_or, set, length-set}
use lib.Seq.{get_or-set_same, get_or-set_other}
use Rattle.node.specs.declared.MultiBitNode.{MultiBitNode}
use Rattle.store.specs.declared.Cell.{Cell}
use Rattle.store.specs.Words.{cell_at, save_cell, node_at, save_node}

-- a way to hold items in words: how many whole ones there is room for, how one is read and how it is written
pub record Items {A : Type 0} (room : List ℕ → ℕ) (at : List ℕ → ℕ → A) (save : List ℕ → ℕ → A → List ℕ) : Type 0 where
  pub stays : (l : List ℕ) (i : ℕ) (x : A) → room (save l i x) ≡ room l
  pub same : (l : List ℕ) (i : ℕ) (x : A) → i < room l → at (save l i x) i ≡ x
  pub other : (l : List ℕ) (i j : ℕ) (x : A) → (i ≡ j → ⊥) → at (save l i x) j ≡ at l j

-- whole nodes in a list of words
abbrev pub node_room : List ℕ → ℕ
node_room l = length l / 4

-- ---- cells

-- a cell written keeps the length
pub cell_length : (l : List ℕ) (i : ℕ) (c : Cell) → length (save_cell l i c) ≡ length l
unfolding save_cell
cell_length l i c = length-set l i c.value

-- cells in a list of words
pub cells : Items length cell_at save_cell
unfolding cell_at save_cell
cells = record {
  stays = cell_length;
  same = λ l i c h. rw (get_or-set_same l i c.value 0 h);
  other = λ l i j c f. rw (get_or-set_other l i j c.value 0 (λ e. f (sym e)));
}

-- ---- nodes

-- a node written keeps the length
pub node_length : (l : List ℕ) (i : ℕ) (n : MultiBitNode) → length (save_node l i n) ≡ length l
unfolding save_node
node_length l i n = simp length-set

-- four words written one after the other: each is read back, and no other word changes
module _ (l : List ℕ) (i x y z w : ℕ) where
  abbrev one : List ℕ
  one = set l i x

  abbrev two : List ℕ
  two = set one (i + 1) y

  abbrev three : List ℕ
  three = set two (i + 2) z

  abbrev four : List ℕ
  four = set three (i + 3) w

  four_off : (j : ℕ) → (i ≤ j → j < i + 4 → ⊥) → get_or four j 0 ≡ get_or l j 0
  four_off j f =
      get_or-set_other three (i + 3) j w 0 (λ e. f (omega arith) (omega arith))
      ∙ get_or-set_other two (i + 2) j z 0 (λ e. f (omega arith) (omega arith))
      ∙ get_or-set_other one (i + 1) j y 0 (λ e. f (omega arith) (omega arith))
      ∙ get_or-set_other l i j x 0 (λ e. f (omega arith) (omega arith))

  module _ (h : i + 4 ≤ length l) where
    four_0 : get_or four i 0 ≡ x
    four_0 =
        get_or-set_other three (i + 3) i w 0 (λ e. omega arith) ∙ get_or-set_other two (i + 2) i z 0 (λ e. omega arith)
        ∙ get_or-set_other one (i + 1) i y 0 (λ e. omega arith) ∙ get_or-set_same l i x 0 (omega arith)

    four_1 : get_or four (i + 1) 0 ≡ y
    four_1 =
        get_or-set_other three (i + 3) (i + 1) w 0 (λ e. omega arith) ∙ get_or-set_other two (i + 2) (i + 1) z 0 (λ e. omega arith)
        ∙ get_or-set_same one (i + 1) y 0 (simp length-set (omega arith))

    four_2 : get_or four (i + 2) 0 ≡ z
    four_2 = get_or-set_other three (i + 3) (i + 2) w 0 (λ e. omega arith) ∙ get_or-set_same two (i + 2) z 0 (simp length-set (omega arith))

    four_3 : get_or four (i + 3) 0 ≡ w
    four_3 = get_or-set_same three (i + 3) w 0 (simp length-set (omega arith))

-- nodes in a list of words
pub nodes : Items node_room node_at save_node
unfolding node_at save_node
nodes = record { stays = λ l i n. ap (λ (k : ℕ). k / 4) (node_length l i n); same = same; other = other }
  where
    same : (l : List ℕ) (i : ℕ) (n : MultiBitNode) → i < node_room l → node_at (save_node l i n) i ≡ n
    same l i n h =
        let r : i * 4 + 4 ≤ length l = omega arith in
        rw (
          four_0 l (i * 4) n.data_bitmap n.child_bitmap n.children_idx.0 n.data_idx.0 r,
          four_1 l (i * 4) n.data_bitmap n.child_bitmap n.children_idx.0 n.data_idx.0 r,
          four_2 l (i * 4) n.data_bitmap n.child_bitmap n.children_idx.0 n.data_idx.0 r,
          four_3 l (i * 4) n.data_bitmap n.child_bitmap n.children_idx.0 n.data_idx.0 r,
        )

    other : (l : List ℕ) (i j : ℕ) (n : MultiBitNode) → (i ≡ j → ⊥) → node_at (save_node l i n) j ≡ node_at l j
    other l i j n f =
        rw (
          off (j * 4) (λ p q. f (omega arith)),
          off (j * 4 + 1) (λ p q. f (omega arith)),
          off (j * 4 + 2) (λ p q. f (omega arith)),
          off (j * 4 + 3) (λ p q. f (omega arith)),
        )
      where
        off : (k : ℕ) → (i * 4 ≤ k → k < i * 4 + 4 → ⊥)
            → get_or (four l (i * 4) n.data_bitmap n.child_bitmap n.children_idx.0 n.data_idx.0) k 0 ≡ get_or l k 0
        off k g = four_off l (i * 4) n.data_bitmap n.child_bitmap n.children_idx.0 n.data_idx.0 k g
