-- A removal's way up a key's path, level by level: after the lowest node has gone, the rest of the way is one too. Assumes nothing.
use mathlib.Core.Path.{◌≡◌, sym, ap, ◌∙◌}
use mathlib.Core.Bool.{Bool, true, false, ◌&&◌, and-eq-true_iff}
use mathlib.Core.List.{List, ◌++◌}
use Prim.Native.Nat.{ℕ, zero, suc, ◌+◌, ◌-◌, ◌/◌, ◌%◌, ◌^◌, ◌≤◌, ◌<◌}
use native.Mathlib.Omega.{arith}
use lib.Dec.{leb, ltb, eqb, leb-suc-suc}
use lib.ListN.{get_or}
use borrow.Author.Tests.{leb-true, lt-ltb, eqb-true}
use Rattle.prefix.specs.Prefix.{width}
use Rattle.places.specs.Places.{child_bit}
use Rattle.places.proofs.Children.{child_lt}
use Rattle.node.specs.declared.MultiBitNode.{MultiBitNode}
use Rattle.node.specs.Nodes.{empty_node}
use Rattle.edits.specs.Removing.{last_child}
use Rattle.rules.specs.Nodes.{depth}
use Rattle.rules.specs.Account.{Kind, tier}
use Rattle.rules.specs.Ledger.{fall, nodes_go}
use Rattle.pools.specs.Items.{upd, items, place_of}
use Rattle.pools.proofs.Items.{upd_other, items_out, items_other}
use Rattle.image.specs.Numbers.{path_no}
use Rattle.image.specs.Image.{node_of}
use Rattle.image.proofs.Paths.{path_root, path_up, path_child, path_far, path_differ}
use Rattle.image.proofs.Words.{bits_count, bits_zero}
use Rattle.image.proofs.Changes.{other_child, place_other}
use Rattle.image.proofs.Turning.{go_first}

-- of n + 1 nodes that go from level i + 1 up, n go from level i up: level j goes, or not, by either count
pub one_above : (i j n : ℕ) → j ≤ i → ltb (suc i - j) (suc n) ≡ ltb (i - j) n
one_above i j n h = let e : suc i - j ≡ suc (i - j) = omega arith in rw e (leb-suc-suc (suc (i - j)) n)

-- the lowest parent goes where any node above the lowest goes
pub parent_goes : (i n : ℕ) → ltb (suc i - i) (suc n) ≡ ltb 0 n
parent_goes i n = let e : i - i ≡ 0 = omega arith in one_above i i n (omega arith) ∙ (rw e)

-- a node goes with its last child where it has one child at the most, and no rules
pub last_child_is : (E D : ℕ → Bool) (es vs : ℕ → ℕ) (n : ℕ) → last_child (node_of E D es vs n) ≡ leb (items E n) 1 && eqb (items D n) 0
unfolding node_of
last_child_is E D es vs n = rw (bits_count E n, bits_zero D n)

-- a way up from level i of a key's path, where n nodes go: the walk's places and nodes, down to the lowest parent; the lowest
-- node holds nothing, and the parents that go have one child and no rules
pub record Climb (key i n : ℕ) (places : List ℕ) (path : List MultiBitNode) (E D : ℕ → Bool) (es vs : ℕ → ℕ) : Type 0 where
  pub place_is : (j : ℕ) → j < i → get_or places j 0 ≡ place_of E es (path_no key j)
  pub node_is : (j : ℕ) → j < i → get_or path j empty_node ≡ node_of E D es vs (path_no key j)
  pub there : (j : ℕ) → j ≤ i → E (path_no key j) ≡ true
  pub bare : 0 < n → (items E (path_no key i) ≡ 0) × (items D (path_no key i) ≡ 0)
  pub last : (j : ℕ) → 0 < j → j < i → i < suc j + n → (leb (items E (path_no key j)) 1 && eqb (items D (path_no key j)) 0) ≡ ltb (i - j) n

-- a path's node hangs on the node of the level before, and on no other of them
apart : (key i j : ℕ) → key < 2 ^ width → i ≤ 5 → j < i → path_no key (suc i) / 32 ≡ path_no key j → ⊥
apart key i j b h l e = let z = path_differ key i j b (omega arith) (omega arith) (sym (path_up key i h) ∙ e) in omega arith

-- so no two of a path's nodes hang on one node
above : (key i j : ℕ) → key < 2 ^ width → i ≤ 5 → j < i → path_no key (suc i) / 32 ≡ path_no key j / 32 → ⊥
above key zero j b h l e = omega arith
above key (suc i) zero b h l e = omega (arith, path_root key b, path_up key (suc i) h, path_far key i)
above key (suc i) (suc j) b h l e = apart key (suc i) j b h (omega arith) (e ∙ path_up key j (omega arith))

module _ (key : ℕ) (bits : key < 2 ^ width) (places : List ℕ) (path : List MultiBitNode) (i n : ℕ) (E D : ℕ → Bool) (es vs : ℕ → ℕ)
    (h : i ≤ 5) (short : n ≤ i) (c : Climb key (suc i) (suc n) places path E D es vs)
  where
    -- the node that goes first
    abbrev x : ℕ
    x = path_no key (suc i)

    -- it is the child on the key's path
    pub child_is : child_bit (depth i) key ≡ x % 32
    child_is = omega (arith, path_child key i h, child_lt (depth i) key)

    -- its parent has one child less
    one_less : suc (items (upd E x false) (path_no key i)) ≡ items E (path_no key i)
    one_less = rw (path_up key i h) at (items_out E x (c.there (suc i) (omega arith)))

    -- the parent goes too where more than one node goes
    parent_last : 0 < i → (leb (items E (path_no key i)) 1 && eqb (items D (path_no key i)) 0) ≡ ltb 0 n
    parent_last o = c.last i o (omega arith) (omega arith) ∙ parent_goes i n

    -- and the words that the walk read of it say so
    pub parent_flag : 0 < i → last_child (node_of E D es vs (x / 32)) ≡ ltb 0 n
    parent_flag o = last_child_is E D es vs (x / 32) ∙ (rw (path_up key i h) (parent_last o))

    -- a parent that goes has this one child, and no rules
    parent_one : 0 < n → (items E (path_no key i) ≡ 1) × (items D (path_no key i) ≡ 0)
    parent_one o =
        let b = (and-eq-true_iff (leb (items E (path_no key i)) 1) (eqb (items D (path_no key i)) 0)).0 (parent_last (omega arith) ∙ lt-ltb 0 n o) in
        (omega (arith, one_less, leb-true (items E (path_no key i)) 1 b.0), eqb-true (items D (path_no key i)) 0 b.1)

    -- the parent's row comes first
    pub parent_row : (K : Kind) → tier K 1 ≡ 0
        → nodes_go K (suc n) (items E (path_no key (suc i - suc n))) ≡ fall K (items E (x / 32)) ++ nodes_go K n (items (upd E x false) (path_no key (i - n)))
    parent_row =
        let e : suc i - suc n ≡ i - n = omega arith in
        go_first n (items E (path_no key (suc i - suc n))) (items E (x / 32)) (items (upd E x false) (path_no key (i - n)))
        (λ z. ap (items E) (path_up key i h ∙ ap (path_no key) (omega (arith, z))))
        (λ o. (
          ap (items E) (path_up key i h) ∙ (parent_one o).0,
          items_other E x (path_no key (i - n)) false (apart key i (i - n) bits h (omega arith)) ∙ ap (λ (j : ℕ). items E (path_no key j)) (sym e),
        ))

    -- after it the rest of the way is a way up: no other node of the path was written, and none has moved
    pub climb_up : (t : ℕ) → Climb key i n places path (upd E x false) D (upd es (x / 32) t) vs
    climb_up t = record {
      place_is = λ j l. c.place_is j (omega arith) ∙ sym (place_other E es x (path_no key j) t false (above key i j bits h l));
      node_is = λ j l. c.node_is j (omega arith) ∙ sym (other_child E D es vs x t (path_no key j) false (apart key i j bits h l));
      there = λ j l.
          upd_other E x (path_no key j) false (λ e. let z = path_differ key (suc i) j bits (omega arith) (omega arith) e in omega arith) ∙ c.there j (omega arith);
      bare = λ o. (omega (arith, one_less, (parent_one o).0), (parent_one o).1);
      last = λ j o l r.
          rw (items_other E x (path_no key j) false (apart key i j bits h l)) (c.last j o (omega arith) (omega arith) ∙ one_above i j n (omega arith));
    }
