-- A walk over an image of live rules: it goes down the nodes that the node count counts, and ends at the last of them. Assumes nothing.
use mathlib.Core.Path.{◌≡◌, refl, sym, ap, ◌∙◌}
use mathlib.Core.Bool.{Bool, true, false, ◌&&◌, cond}
use mathlib.Core.List.{List}
use Prim.Native.Nat.{ℕ, zero, suc, ◌+◌, ◌-◌, ◌/◌, ◌≤◌, ◌<◌}
use native.Mathlib.Omega.{arith}
use borrow.Author.Tests.{leb-true, leb-false, lt-ltb, le-ltb}
use lib.Dec.{leb, ltb}
use Rattle.tiers.specs.Tiers.{stride}
use Rattle.blocks.specs.declared.Pool.{Pool}
use Rattle.store.specs.declared.Cell.{Cell}
use Rattle.store.specs.Words.{node_at}
use Rattle.std.specs.Prelude.{Some, None, Ok}
use Rattle.walk.specs.Steps.{step_of}
use Rattle.walk.proofs.Turns.{Standing}
use Rattle.rules.specs.Rules.{Rules, IsPrefix}
use Rattle.rules.specs.Nodes.{depth, node_count}
use Rattle.rules.proofs.Paths.{path_node, count_path}
use Rattle.pools.specs.Items.{place_of}
use Rattle.pools.specs.Sound.{Owner}
use Rattle.pools.proofs.Growth.{place_below}
use Rattle.image.specs.Numbers.{path_no}
use Rattle.image.specs.Tree.{Tree}
use Rattle.image.specs.Image.{Image, node_of}
use Rattle.image.proofs.Paths.{path_root}
use Rattle.image.proofs.Trees.{path_there}
use Rattle.image.proofs.Walks.{node_there, node_step, root_place_lem}

-- what holds at the last of n levels, and at each level if at the next, holds at every level
pub from_last : (n : ℕ) (P : ℕ → Type 0) → ((j : ℕ) → suc j ≡ n → P j) → ((j : ℕ) → suc j < n → P (suc j) → P j) → (j : ℕ) → j < n → P j
from_last n P last step j h = go (n - suc j) j (omega arith)
  where
    go : (m j : ℕ) → m + suc j ≡ n → P j
    go = elim [
      | zero ↦ λ j e. last j (omega arith)
      | suc (m → ih) ↦ λ j e. step j (omega arith) (ih (suc j) (omega arith))
    ]

module _ {p : Pool} {nodes nf : List ℕ} {q : Pool} {cells cf : List ℕ} {E D : ℕ → Bool} {es vs : ℕ → ℕ} {val : ℕ → Cell} {on od : ℕ → Owner}
    (image : Image p nodes nf q cells cf E D es vs val on od) {rs : Rules Cell} (tree : Tree rs E D val) (key len : ℕ) (pre : IsPrefix key len)
  where
    abbrev N : ℕ
    N = node_count rs key len

    -- counted levels are those of the query's length at the most
    pub level_le : (j : ℕ) → j < node_count rs key len → j ≤ len / stride
    level_le j h = omega (arith, count_path rs key len pre.short)

    -- a node of the path, where its depth isn't above the query's length, is there exactly where it is counted
    pub counted_there : (j : ℕ) → j ≤ len / stride → E (path_no key j) ≡ ltb j (node_count rs key len)
    counted_there j h =
        path_there tree key j pre.bits (omega (arith, pre.short)) ∙ path_node rs key len pre.short j h

    -- so the counted ones are there
    pub level_there : (j : ℕ) → j < node_count rs key len → E (path_no key j) ≡ true
    level_there j h = counted_there j (level_le j h) ∙ lt-ltb j (node_count rs key len) h

    -- a walk begins at the root
    pub walk_root : place_of E es (path_no key 0) ≡ 0
    walk_root = ap (place_of E es) (path_root key pre.bits) ∙ root_place_lem image

    -- at a counted level it stands below the mark
    pub walk_stands : (j : ℕ) → j < node_count rs key len → Standing p.mark len (place_of E es (path_no key j)) (depth j)
    walk_stands j h =
        record {
          tree = record { node = omega arith; from = omega (arith, level_le j h); within = pre.short };
          below = place_below image.trees (path_no key j) (level_there j h);
        }

    -- and reads that level's node
    pub walk_node : (j : ℕ) → j < node_count rs key len → node_of E D es vs (path_no key j) ≡ node_at nodes (place_of E es (path_no key j))
    walk_node j h = sym (node_there image (path_no key j) (level_there j h))

    -- a step from a counted level goes down where the next is counted, and ends elsewhere
    walk_step : (j : ℕ) → j < N
        → step_of p.mark key len (depth j) (node_of E D es vs (path_no key j)) ≡ cond (ltb (suc j) N) (Ok (Some (place_of E es (path_no key (suc j))))) (Ok None)
    walk_step j h =
        node_step image key len j (omega (arith, level_le j h, pre.short)) pre.short
        ∙ ap (λ (b : Bool). cond b (Ok (Some (place_of E es (path_no key (suc j))))) (Ok None)) (go (leb (depth (suc j)) len) refl)
      where
        go : (b : Bool) → leb (depth (suc j)) len ≡ b → b && E (path_no key (suc j)) ≡ ltb (suc j) N
        go true e = counted_there (suc j) (omega (arith, leb-true (depth (suc j)) len e))
        go false e = sym (le-ltb (suc j) N (omega (arith, leb-false (depth (suc j)) len e, count_path rs key len pre.short)))

    -- it ends at the last counted level
    pub walk_end : (j : ℕ) → suc j ≡ node_count rs key len → step_of p.mark key len (depth j) (node_of E D es vs (path_no key j)) ≡ Ok None
    walk_end j e = walk_step j (omega arith) ∙ rw (le-ltb (suc j) N (omega arith))

    -- and goes down before it
    pub walk_down : (j : ℕ) → suc j < node_count rs key len
        → step_of p.mark key len (depth j) (node_of E D es vs (path_no key j)) ≡ Ok (Some (place_of E es (path_no key (suc j))))
    walk_down j h = walk_step j (omega arith) ∙ rw (lt-ltb (suc j) N h)
