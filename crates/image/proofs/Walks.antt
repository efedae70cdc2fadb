-- What a walk meets on an image: each node at its place, whole, and a step to the next node of the key's path. Assumes nothing.
use mathlib.Core.Path.{◌≡◌, refl, ap, ◌∙◌, subst}
use mathlib.Core.Bool.{Bool, true, false, ◌&&◌, cond}
use mathlib.Core.List.{List}
use Prim.Native.Nat.{ℕ, suc, ◌+◌, ◌*◌, ◌≤◌, ◌<◌}
use native.Mathlib.Omega.{arith}
use borrow.Author.Tests.{leb-true, leb-false, lt-ltb}
use lib.Dec.{leb}
use Rattle.bits.specs.Bits.{one}
use Rattle.prefix.specs.Prefix.{width}
use Rattle.prefix.proofs.Covering.{fails}
use Rattle.tiers.specs.Tiers.{stride}
use Rattle.places.specs.Places.{child_bit}
use Rattle.places.proofs.Children.{child_lt}
use Rattle.blocks.specs.declared.Pool.{Pool}
use Rattle.store.specs.declared.Cell.{Cell}
use Rattle.store.specs.Words.{node_at}
use Rattle.std.specs.Prelude.{Some, None, Ok}
use Rattle.walk.specs.Steps.{sound_of, step_of, children_within}
use Rattle.walk.proofs.Steps.{step_deep, step_none, step_down}
use Rattle.rules.specs.Sums.{sum}
use Rattle.rules.specs.Nodes.{depth}
use Rattle.pools.specs.Items.{place_of}
use Rattle.pools.specs.Sound.{Owner}
use Rattle.pools.proofs.Growth.{place_below}
use Rattle.image.specs.Numbers.{path_no}
use Rattle.image.specs.Image.{Image, bits_of, node_of}
use Rattle.image.proofs.Words.{bits_has, bits_low}
use Rattle.image.proofs.Blocks.{items_some, index_place, index_agrees, index_within}
use Rattle.image.proofs.Paths.{path_child}

module _ {p : Pool} {nodes nf : List ℕ} {q : Pool} {cells cf : List ℕ} {E D : ℕ → Bool} {es vs : ℕ → ℕ} {val : ℕ → Cell} {on od : ℕ → Owner}
    (image : Image p nodes nf q cells cf E D es vs val on od)
  where
    -- a node's words stand at its place
    pub node_there : (n : ℕ) → E n ≡ true → node_at nodes (place_of E es n) ≡ node_of E D es vs n
    node_there n e = image.trees.held n e

    -- they are whole
    pub node_whole : (n : ℕ) → sound_of (node_of E D es vs n) ≡ true
    unfolding sound_of node_of
    node_whole n = rw (index_agrees image.values n, index_agrees image.trees n) (lt-ltb (bits_of D n) 0x8000_0000 (bits_low D n (image.shape.low n)))

    -- the root stands first
    pub root_place_lem : place_of E es 1 ≡ 0
    unfolding sum
    root_place_lem =
        let z : one (E 0) ≡ 0 = ap one (fails (E 0) (λ e. omega (arith, image.shape.alone 0 (omega arith) e))) in
        omega (arith, image.rooted)

    -- so there is something issued
    pub mark_some : 0 < p.mark
    mark_some = subst (λ (x : ℕ). x < p.mark) root_place_lem (place_below image.trees 1 image.shape.root)

    -- the child of a node that a key goes on to
    step_child : (n key len d : ℕ) → d + stride ≤ len
        → step_of p.mark key len d (node_of E D es vs n)
        ≡ cond (E (32 * n + child_bit d key)) (Ok (Some (place_of E es (32 * n + child_bit d key)))) (Ok None)
    unfolding node_of children_within
    step_child n key len d h = go (E (32 * n + child_bit d key)) refl
      where
        go : (b : Bool) → E (32 * n + child_bit d key) ≡ b → step_of p.mark key len d (node_of E D es vs n) ≡ cond b (Ok (Some (place_of E es (32 * n + child_bit d key)))) (Ok None)
        go true e =
            step_down p.mark key len d (node_of E D es vs n) h (bits_has E n (child_bit d key) (child_lt d key) ∙ e)
            (index_within image.trees n (items_some E n (child_bit d key) (child_lt d key) e))
            ∙ ap (λ (a : ℕ). Ok (Some a)) (index_place E es n (child_bit d key) (child_lt d key) e)
        go false e = step_none p.mark key len d (node_of E D es vs n) h (bits_has E n (child_bit d key) (child_lt d key) ∙ e)

    -- a walk goes down to the next node of the key's path where that node exists and the query is long enough, and ends elsewhere
    pub node_step : (key len j : ℕ) → j ≤ 6 → len ≤ width
        → step_of p.mark key len (depth j) (node_of E D es vs (path_no key j))
        ≡ cond (leb (depth (suc j)) len && E (path_no key (suc j))) (Ok (Some (place_of E es (path_no key (suc j))))) (Ok None)
    node_step key len j h short = go (leb (depth (suc j)) len) refl
      where
        go : (b : Bool) → leb (depth (suc j)) len ≡ b → step_of p.mark key len (depth j) (node_of E D es vs (path_no key j))
            ≡ cond (b && E (path_no key (suc j))) (Ok (Some (place_of E es (path_no key (suc j))))) (Ok None)
        go true e =
            let l = leb-true (depth (suc j)) len e in
            rw (path_child key j (omega arith)) (step_child (path_no key j) key len (depth j) (omega arith))
        go false e = let l = leb-false (depth (suc j)) len e in step_deep p.mark key len (depth j) (node_of E D es vs (path_no key j)) (omega arith)
