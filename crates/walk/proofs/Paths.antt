-- What a trail says: the path from the root, node by node, each with its position. Assumes nothing.
use mathlib.Core.Path.{◌≡◌, refl, sym, ap, ◌∙◌}
use mathlib.Core.Bool.{Bool, true, false, cond}
use mathlib.Core.List.{List}
use Prim.Native.Nat.{ℕ, zero, suc, ◌+◌, ◌*◌, ◌/◌, ◌%◌, ◌≤◌, ◌<◌}
use native.Mathlib.Decide.{dec_lt}
use native.Mathlib.Omega.{arith}
use borrow.Author.Tests.{ltb-true}
use lib.Dec.{ltb}
use lib.ListN.{length, get_or, set, length-set}
use lib.Seq.{get_or-set_same, get_or-set_other}
use Rattle.prefix.specs.Prefix.{width}
use Rattle.tiers.specs.Tiers.{stride}
use Rattle.node.specs.declared.MultiBitNode.{MultiBitNode}
use Rattle.node.specs.Nodes.{empty_node}
use Rattle.store.specs.Words.{node_at}
use Rattle.std.specs.Prelude.{Option, Some, None, Result, Ok, Err, IfOk}
use Rattle.refusals.specs.declared.Refusal.{Refusal}
use Rattle.refusals.specs.declared.Refusal.TheVariants.{Broken}
use Rattle.walk.specs.declared.Trail.{Trail}
use Rattle.walk.specs.Steps.{sound_of, step_of}
use Rattle.walk.specs.Trails.{trail_as, trail_step, trail_from, no_places, no_nodes, trail_of}
use Rattle.walk.proofs.Steps.{descent}
use Rattle.walk.proofs.Turns.{Standing, at_root}
use Rattle.walk.proofs.Visits.{along}

-- the lists of a path whose last level is k: it starts at the root, every position is below the mark and has its node,
-- every node above the last is whole and leads down to the next
pub record Path (l : List ℕ) (lim key len k : ℕ) (p : List ℕ) (n : List MultiBitNode) : Type 0 where
  pub all_places : length p ≡ 7
  pub all_nodes : length n ≡ 7
  pub root : get_or p 0 0 ≡ 0
  pub below : (i : ℕ) → i ≤ k → get_or p i 0 < lim
  pub node : (i : ℕ) → i ≤ k → get_or n i empty_node ≡ node_at l (get_or p i 0)
  pub whole : (i : ℕ) → i < k → sound_of (get_or n i empty_node) ≡ true
  pub down : (i : ℕ) → i < k → step_of lim key len (stride * i) (get_or n i empty_node) ≡ Ok (Some (get_or p (suc i) 0))

-- a trail: a path to its depth, whose last node is whole and ends it
pub record Trailed (l : List ℕ) (lim key len : ℕ) (t : Trail) : Type 0 where
  pub stands : t.depth % stride ≡ 0
  pub from : t.depth ≤ len
  pub path : Path l lim key len (t.depth / stride) t.places t.nodes
  pub last_whole : sound_of (get_or t.nodes (t.depth / stride) empty_node) ≡ true
  pub last : step_of lim key len t.depth (get_or t.nodes (t.depth / stride) empty_node) ≡ Ok None

module _ (l : List ℕ) (lim key len : ℕ) where
  -- a path of the root alone
  root_path : 0 < lim → Path l lim key len 0 (set no_places 0 0) (set no_nodes 0 (node_at l 0))
  root_path h =
      record {
        all_places = refl;
        all_nodes = refl;
        root = refl;
        below = λ i k. first i k;
        node = λ i k. first_node i k;
        whole = λ i k. absurd (omega arith);
        down = λ i k. absurd (omega arith);
      }
    where
      first : (i : ℕ) → i ≤ 0 → get_or (set no_places 0 0) i 0 < lim
      first zero k = h
      first (suc i) k = absurd (omega arith)

      first_node : (i : ℕ) → i ≤ 0 → get_or (set no_nodes 0 (node_at l 0)) i empty_node ≡ node_at l (get_or (set no_places 0 0) i 0)
      first_node zero k = refl
      first_node (suc i) k = absurd (omega arith)

  -- one level more
  module _ (k next : ℕ) (p : List ℕ) (n : List MultiBitNode) (w : Path l lim key len k p n) (room : suc k < 7)
      (s : sound_of (get_or n k empty_node) ≡ true) (e : step_of lim key len (stride * k) (get_or n k empty_node) ≡ Ok (Some next)) (b : next < lim)
    where
      -- the lists with the next level
      p₁ : List ℕ
      p₁ = set p (suc k) next

      n₁ : List MultiBitNode
      n₁ = set n (suc k) (node_at l next)

      -- the new level
      new_place : get_or p₁ (suc k) 0 ≡ next
      unfolding p₁
      new_place = let h = w.all_places in get_or-set_same p (suc k) next 0 (omega arith)

      new_node : get_or n₁ (suc k) empty_node ≡ node_at l next
      unfolding n₁
      new_node = let h = w.all_nodes in get_or-set_same n (suc k) (node_at l next) empty_node (omega arith)

      -- the levels before it
      old_place : (i : ℕ) → i ≤ k → get_or p₁ i 0 ≡ get_or p i 0
      unfolding p₁
      old_place i h = get_or-set_other p (suc k) i next 0 (λ z. omega arith)

      old_node : (i : ℕ) → i ≤ k → get_or n₁ i empty_node ≡ get_or n i empty_node
      unfolding n₁
      old_node i h = get_or-set_other n (suc k) i (node_at l next) empty_node (λ z. omega arith)

      -- the longer path
      longer : Path l lim key len (suc k) p₁ n₁
      unfolding p₁ n₁
      longer =
          record {
            all_places = length-set p (suc k) next ∙ w.all_places;
            all_nodes = length-set n (suc k) (node_at l next) ∙ w.all_nodes;
            root = old_place 0 (omega arith) ∙ w.root;
            below = λ i h. below i h (dec_lt k i);
            node = λ i h. node i h (dec_lt k i);
            whole = λ i h. whole i h (dec_lt i k);
            down = λ i h. down i h (dec_lt i k);
          }
        where
          below : (i : ℕ) → i ≤ suc k → Dec (k < i) → get_or p₁ i 0 < lim
          below i h (yes g) = let z : i ≡ suc k = omega arith in rw (z, new_place) b
          below i h (no g) = rw (old_place i (omega arith)) (w.below i (omega arith))

          node : (i : ℕ) → i ≤ suc k → Dec (k < i) → get_or n₁ i empty_node ≡ node_at l (get_or p₁ i 0)
          node i h (yes g) = let z : i ≡ suc k = omega arith in rw (z, new_node, new_place)
          node i h (no g) = old_node i (omega arith) ∙ w.node i (omega arith) ∙ ap (node_at l) (sym (old_place i (omega arith)))

          whole : (i : ℕ) → i < suc k → Dec (i < k) → sound_of (get_or n₁ i empty_node) ≡ true
          whole i h (yes g) = ap sound_of (old_node i (omega arith)) ∙ w.whole i g
          whole i h (no g) = let z : i ≡ k = omega arith in ap sound_of (old_node i (omega arith)) ∙ ap (λ (j : ℕ). sound_of (get_or n j empty_node)) z ∙ s

          down : (i : ℕ) → i < suc k → Dec (i < k) → step_of lim key len (stride * i) (get_or n₁ i empty_node) ≡ Ok (Some (get_or p₁ (suc i) 0))
          down i h (yes g) =
              ap (step_of lim key len (stride * i)) (old_node i (omega arith)) ∙ w.down i g ∙ ap (λ (a : ℕ). Ok (Some a)) (sym (old_place (suc i) (omega arith)))
          down i h (no g) =
              let z : i ≡ k = omega arith in
              ap (step_of lim key len (stride * i)) (old_node i (omega arith)) ∙ ap (λ (j : ℕ). step_of lim key len (stride * j) (get_or n j empty_node)) z
              ∙ e ∙ ap (λ (a : ℕ). Ok (Some a)) (sym new_place) ∙ ap (λ (j : ℕ). Ok (Some (get_or p₁ (suc j) 0))) (sym z)

  -- one turn of the walk
  turned : (s : Bool) (t : Result (Option ℕ) Refusal) (d : ℕ) (p : List ℕ) (n : List MultiBitNode) (on : ℕ → Result Trail Refusal)
      → (s ≡ true → t ≡ Ok None → Trailed l lim key len (trail_as d p n))
      → ((next : ℕ) → s ≡ true → t ≡ Ok (Some next) → IfOk (on next) (Trailed l lim key len))
      → IfOk (cond s (trail_step t d p n on) (Err Broken)) (Trailed l lim key len)
  unfolding trail_step
  turned true (Ok (Some at)) d p n on a b = b at refl refl
  turned true (Ok None) d p n on a b = a refl refl
  turned true (Err r) d p n on a b = tt
  turned false t d p n on a b = tt

  module _ (short : len ≤ width) where
    -- what a turn needs of the lists so far, and what a walk from there gives
    abbrev On : ℕ → ℕ → ℕ → Type 0
    On f at d =
        (p : List ℕ) (n : List MultiBitNode) → Path l lim key len (d / stride) (set p (d / stride) at) (set n (d / stride) (node_at l at))
        → IfOk (trail_from f l lim key len at d p n) (Trailed l lim key len)

    -- a turn
    turn : (f at d : ℕ) → Standing lim len at d → ((next : ℕ) → step_of lim key len d (node_at l at) ≡ Ok (Some next) → On f next (d + stride)) → On (suc f) at d
    unfolding trail_from p₁ n₁
    turn f at d w h p n v =
        turned (sound_of x) (step_of lim key len d x) d (set p k at) (set n k x) (λ next. trail_from f l lim key len next (d + stride) (set p k at) (set n k x))
        (λ s e. record { stands = w.tree.node; from = w.tree.from; path = v; last_whole = ap sound_of here ∙ s; last = ap (step_of lim key len d) here ∙ e })
        (λ next s e.
        let g = descent lim key len d x next e in
        let m = w.tree.node in
        let z : (d + stride) / stride ≡ suc k = omega arith in
        let q : stride * k ≡ d = omega arith in
        let o = longer k next (set p k at) (set n k x) v (let y = g.deeper in omega arith) (ap sound_of here ∙ s) (rw (q, here) e) g.below in
        h next e (set p k at) (set n k x) (rw z o))
      where
        x : MultiBitNode
        x = node_at l at

        k : ℕ
        k = d / stride

        here : get_or (set n (d / stride) (node_at l at)) (d / stride) empty_node ≡ node_at l at
        here =
            let a = v.all_nodes in
            let c = length-set n (d / stride) (node_at l at) in
            let y = w.tree.from in
            get_or-set_same n (d / stride) (node_at l at) empty_node (omega arith)

    -- a trail is a path from the root
    pub trailed : (t : Trail) → trail_of l lim key len ≡ Ok t → Trailed l lim key len t
    unfolding trail_of
    trailed t e = ok (cond (ltb 0 lim) (trail_from 7 l lim key len 0 0 no_places no_nodes) (Err Broken)) e (go (ltb 0 lim) refl)
      where
        ok : (r : Result Trail Refusal) → r ≡ Ok t → IfOk r (Trailed l lim key len) → Trailed l lim key len t
        ok r q w = rw q at w

        go : (b : Bool) → ltb 0 lim ≡ b → IfOk (cond b (trail_from 7 l lim key len 0 0 no_places no_nodes) (Err Broken)) (Trailed l lim key len)
        go true p =
            let h = ltb-true 0 lim p in
            along l lim key len On turn 7 0 0 (at_root lim len short (λ z. omega arith)) (omega arith) no_places no_nodes (root_path h)
        go false p = tt

-- the last node of a trail stands at depth 30 or above
pub trailed_depth : (l : List ℕ) (lim key len : ℕ) (t : Trail) → len ≤ width → Trailed l lim key len t → t.depth ≤ 30
trailed_depth l lim key len t h w = let a = w.stands in let b = w.from in omega arith
