-- The trail of an edit over an image: as deep as the node count says, each node of the path with its place. Assumes nothing.
use mathlib.Core.Path.{◌≡◌, refl, sym, ◌∙◌, subst}
use mathlib.Core.Bool.{Bool}
use mathlib.Core.List.{List}
use Prim.Native.Nat.{ℕ, suc, ◌-◌, ◌/◌, ◌<◌}
use native.Mathlib.Omega.{arith}
use native.Mathlib.Decide.{ℕ_discrete}
use lib.ListN.{length, get_or, set, length-set}
use lib.Seq.{get_or-set_same, get_or-set_other}
use Rattle.tiers.specs.Tiers.{stride}
use Rattle.node.specs.declared.MultiBitNode.{MultiBitNode}
use Rattle.node.specs.Nodes.{empty_node}
use Rattle.blocks.specs.declared.Pool.{Pool}
use Rattle.store.specs.declared.Cell.{Cell}
use Rattle.std.specs.Prelude.{Ok}
use Rattle.walk.specs.declared.Trail.{Trail}
use Rattle.walk.specs.Trails.{trail_from, trail_of, no_places, no_nodes}
use Rattle.walk.proofs.Turns.{left, trail_root, trail_end, trail_down}
use Rattle.rules.specs.Rules.{Rules, IsPrefix, Proper}
use Rattle.rules.specs.Nodes.{depth, node_count}
use Rattle.rules.proofs.Paths.{count_root}
use Rattle.rules.proofs.InUse.{depth_next}
use Rattle.pools.specs.Items.{place_of}
use Rattle.pools.specs.Sound.{Owner}
use Rattle.image.specs.Numbers.{path_no}
use Rattle.image.specs.Tree.{Tree}
use Rattle.image.specs.Image.{Image, node_of}
use Rattle.image.proofs.Walks.{node_whole, mark_some}
use Rattle.image.proofs.Descents.{from_last, level_le, walk_root, walk_stands, walk_node, walk_end, walk_down}

-- a trail holds the first n nodes of a key's path: each with its place
pub record Filled (E D : ℕ → Bool) (es vs : ℕ → ℕ) (key n : ℕ) (ps : List ℕ) (xs : List MultiBitNode) : Type 0 where
  pub all_places : length ps ≡ 7
  pub all_nodes : length xs ≡ 7
  pub place : (i : ℕ) → i < n → get_or ps i 0 ≡ place_of E es (path_no key i)
  pub node : (i : ℕ) → i < n → get_or xs i empty_node ≡ node_of E D es vs (path_no key i)

-- an edit's walk went down all n nodes that its path has
pub record Walked (E D : ℕ → Bool) (es vs : ℕ → ℕ) (key n : ℕ) (t : Trail) : Type 0 where
  pub ends : t.depth ≡ depth (n - 1)
  pub path : Filled E D es vs key n t.places t.nodes

-- one node more
fill : {E D : ℕ → Bool} {es vs : ℕ → ℕ} {key : ℕ} {ps : List ℕ} {xs : List MultiBitNode} (j : ℕ) → j < 7 → Filled E D es vs key j ps xs
    → Filled E D es vs key (suc j) (set ps j (place_of E es (path_no key j))) (set xs j (node_of E D es vs (path_no key j)))
fill {E} {D} {es} {vs} {key} {ps} {xs} j h f =
    record {
      all_places = length-set ps j (place_of E es (path_no key j)) ∙ f.all_places;
      all_nodes = length-set xs j (node_of E D es vs (path_no key j)) ∙ f.all_nodes;
      place = λ i l. place i l (ℕ_discrete i j);
      node = λ i l. node i l (ℕ_discrete i j);
    }
  where
    place : (i : ℕ) → i < suc j → Dec (i ≡ j) → get_or (set ps j (place_of E es (path_no key j))) i 0 ≡ place_of E es (path_no key i)
    place i l (yes e) = rw e (get_or-set_same ps j (place_of E es (path_no key j)) 0 (omega (arith, f.all_places)))
    place i l (no g) = get_or-set_other ps j i (place_of E es (path_no key j)) 0 g ∙ f.place i (omega arith)

    node : (i : ℕ) → i < suc j → Dec (i ≡ j) → get_or (set xs j (node_of E D es vs (path_no key j))) i empty_node ≡ node_of E D es vs (path_no key i)
    node i l (yes e) = rw e (get_or-set_same xs j (node_of E D es vs (path_no key j)) empty_node (omega (arith, f.all_nodes)))
    node i l (no g) = get_or-set_other xs j i (node_of E D es vs (path_no key j)) empty_node g ∙ f.node i (omega arith)

module _ {p : Pool} {nodes nf : List ℕ} {q : Pool} {cells cf : List ℕ} {E D : ℕ → Bool} {es vs : ℕ → ℕ} {val : ℕ → Cell} {on od : ℕ → Owner}
    (image : Image p nodes nf q cells cf E D es vs val on od) {rs : Rules Cell} (proper : Proper rs) (tree : Tree rs E D val) (key len : ℕ) (pre : IsPrefix key len)
  where
    abbrev N : ℕ
    N = node_count rs key len

    -- what the walk makes of what level j finds
    abbrev From : ℕ → ℕ → ℕ → Type 0
    From at d j =
        (ps : List ℕ) (xs : List MultiBitNode) → Filled E D es vs key j ps xs
        → (t : Trail) × (trail_from (left d) nodes p.mark key len at d ps xs ≡ Ok t) × Walked E D es vs key N t

    -- one level more
    filled : (j : ℕ) → j < N → {ps : List ℕ} {xs : List MultiBitNode} → Filled E D es vs key j ps xs
        → Filled E D es vs key (suc j) (set ps j (place_of E es (path_no key j))) (set xs j (node_of E D es vs (path_no key j)))
    filled j h f = fill j (omega (arith, level_le image tree key len pre j h, pre.short)) f

    last : (j : ℕ) → suc j ≡ N → From (place_of E es (path_no key j)) (depth j) j
    last j e ps xs f =
        let h : j < N = omega arith in
        let i : j ≡ depth j / stride = omega arith in
        let v = walk_stands image tree key len pre j h in
        let ends = trail_end nodes key v (walk_node image tree key len pre j h) ps xs i (node_whole image (path_no key j)) refl (walk_end image tree key len pre j e) in
        (_, sym ends, record { ends = omega arith; path = rw e at (filled j h f) })

    on_down : (j : ℕ) → suc j < N → From (place_of E es (path_no key (suc j))) (depth (suc j)) (suc j) → From (place_of E es (path_no key j)) (depth j) j
    on_down j l ih ps xs f =
        let h : j < N = omega arith in
        let i : j ≡ depth j / stride = omega arith in
        let v = walk_stands image tree key len pre j h in
        let down = trail_down nodes key v (walk_node image tree key len pre j h) ps xs i (node_whole image (path_no key j)) refl _ (walk_down image tree key len pre j l) in
        let on = subst (λ (d : ℕ). From (place_of E es (path_no key (suc j))) d (suc j)) (depth_next j) ih _ _ (filled j h f) in
        (on.0, sym down ∙ on.1, on.2)

    -- the trail of an edit holds the path's nodes with their places, as many as the node count says
    pub trail_is : (t : Trail) × (trail_of nodes p.mark key len ≡ Ok t) × Walked E D es vs key (node_count rs key len) t
    trail_is =
        let on =
        subst (λ (at : ℕ). From at 0 0) (walk_root image tree key len pre)
        (from_last N (λ j. From (place_of E es (path_no key j)) (depth j) j) last on_down 0 (count_root rs key len)) no_places no_nodes
        (record { all_places = refl; all_nodes = refl; place = λ i h. absurd (omega arith); node = λ i h. absurd (omega arith) })
        in
        (on.0, sym (trail_root nodes p.mark key len empty_node refl (λ z. omega (arith, mark_some image))) ∙ on.1, on.2)
