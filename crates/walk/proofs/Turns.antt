-- One turn of each walk, over plain variables: x is the node, s whether it is whole, t the step. Assumes nothing.
use mathlib.Core.Path.{◌≡◌, refl, sym, ap, ◌∙◌}
use mathlib.Core.Bool.{Bool, true, false, cond}
use mathlib.Core.List.{List, [], ◌∷◌}
use Prim.Native.Nat.{ℕ, zero, suc, ◌+◌, ◌-◌, ◌/◌, ◌^◌, ◌≤◌, ◌<◌}
use native.Mathlib.Omega.{arith}
use borrow.Author.Tests.{lt-ltb, le-ltb}
use lib.ListN.{set}
use Rattle.prefix.specs.Prefix.{width}
use Rattle.tiers.specs.Tiers.{stride}
use Rattle.node.specs.declared.MultiBitNode.{MultiBitNode}
use Rattle.node.specs.Masks.{InTree}
use Rattle.node.specs.Nodes.{empty_node}
use Rattle.store.specs.Words.{node_at}
use Rattle.std.specs.Prelude.{Option, Some, None, Result, Ok, Err, ltb}
use Rattle.refusals.specs.declared.Refusal.{Refusal}
use Rattle.refusals.specs.declared.Refusal.TheVariants.{Broken}
use Rattle.walk.specs.declared.Rule.{Rule}
use Rattle.walk.specs.Steps.{sound_of, data_whole, children_whole, step_of}
use Rattle.walk.specs.Lookups.{Way, seen_at, walk_step, walk_from, walk_of}
use Rattle.walk.specs.declared.Trail.{Trail}
use Rattle.walk.specs.Trails.{trail_as, trail_step, trail_from, no_places, no_nodes, trail_of, route_as, route_step, route_from, route_of}
use Rattle.walk.proofs.Steps.{descent, broken_alone}
use Rattle.walk.proofs.Halves.{data_fails, children_fail, both_hold, down_whole, either_way}

-- the nodes that a walk at depth d may still visit
abbrev pub left : ℕ → ℕ
left d = 7 - d / stride

-- where a walk stands: at a depth that the query reaches, below the mark
pub record Standing (lim len at d : ℕ) : Type 0 where
  pub tree : InTree d len
  pub below : at < lim

-- it stands at the root where a node is issued
pub at_root : (lim len : ℕ) → len ≤ width → (lim ≡ 0 → ⊥) → Standing lim len 0 0
at_root lim len h z = record { tree = record { node = refl; from = omega arith; within = h }; below = omega arith }

-- a step down keeps it standing
pub stands : (key : ℕ) (x : MultiBitNode) (next : ℕ) {lim len at d : ℕ} → Standing lim len at d
    → {t : Result (Option ℕ) Refusal} → t ≡ step_of lim key len d x → t ≡ Ok (Some next) → Standing lim len next (d + stride)
stands key x next {lim} {len} {at} {d} w et e =
    let g = descent lim key len d x next (sym et ∙ e) in
    let m = w.tree.node in
    record { tree = record { node = omega arith; from = g.deeper; within = w.tree.within }; below = g.below }

-- as there is room for one node more
pub deeper : (key : ℕ) (x : MultiBitNode) (next : ℕ) {lim len at d : ℕ} → Standing lim len at d
    → {t : Result (Option ℕ) Refusal} → t ≡ step_of lim key len d x → t ≡ Ok (Some next) → d + stride ≤ len
deeper key x next {lim} {len} {at} {d} w et e = (descent lim key len d x next (sym et ∙ e)).deeper

-- within the key's width there is a node left to visit
one_left : {lim len at d : ℕ} → Standing lim len at d → left d ≡ suc (left (d + stride))
one_left w = let f = w.tree.from in let u = w.tree.within in omega arith

-- a list of seven nodes that are one
abbrev pub seven : MultiBitNode → List MultiBitNode
seven e = e ∷ e ∷ e ∷ e ∷ e ∷ e ∷ e ∷ []

-- every walk starts at the root, and a mark of 0 leaves no root to read
module _ (l : List ℕ) (lim key len : ℕ) where
  -- no root
  pub no_root : (w : Way) → lim ≡ 0 → Err Broken ≡ walk_of w l lim key len
  unfolding walk_of
  no_root w e = simp (le-ltb 0 lim (omega arith))

  -- the root
  pub from_root : (w : Way) → (lim ≡ 0 → ⊥) → walk_from w 7 l lim key len 0 0 None ≡ walk_of w l lim key len
  unfolding walk_of
  from_root w h = simp (lt-ltb 0 lim (omega arith))

  -- no root for a trail
  pub trail_no_root : lim ≡ 0 → Err Broken ≡ trail_of l lim key len
  unfolding trail_of
  trail_no_root z = simp (le-ltb 0 lim (omega arith))

  -- its root
  pub trail_root : (e : MultiBitNode) → e ≡ empty_node → (lim ≡ 0 → ⊥) → trail_from 7 l lim key len 0 0 no_places (seven e) ≡ trail_of l lim key len
  unfolding trail_of
  trail_root e ee h = rw ee (simp (lt-ltb 0 lim (omega arith)))

  -- no root for a route, whose steps are unread
  pub route_no_root : (e : MultiBitNode) → e ≡ empty_node → lim ≡ 0 → route_as (Err Broken) 0 no_places (seven e) ≡ route_of l lim key len
  unfolding route_of
  route_no_root e ee z = rw ee (simp (le-ltb 0 lim (omega arith)))

  -- its root
  pub route_root : (e : MultiBitNode) → e ≡ empty_node → (lim ≡ 0 → ⊥) → route_from 7 l lim key len 0 0 no_places (seven e) ≡ route_of l lim key len
  unfolding route_of
  route_root e ee h = rw ee (simp (lt-ltb 0 lim (omega arith)))

module _ (l : List ℕ) (key : ℕ) {lim len at d : ℕ} (v : Standing lim len at d) {x : MultiBitNode} (ex : x ≡ node_at l at) where
  -- ---- a lookup

  module _ (w : Way) (best : Option Rule) where
    -- a node that isn't whole
    pub turn_unsound : sound_of x ≡ false → Err Broken ≡ walk_from w (left d) l lim key len at d best
    unfolding walk_from
    turn_unsound f = rw (one_left v) (simp (← ex, f))

    module _ (f : sound_of x ≡ true) {b : Option Rule} (eb : b ≡ w.meets best x d key len) where
      -- a rule that ends the walk
      pub turn_stop : w.stops b ≡ true → Ok (seen_at d (w.tells b x d key len)) ≡ walk_from w (left d) l lim key len at d best
      unfolding walk_from
      turn_stop g = rw (one_left v) (simp (← ex, f, ← eb, g))

      module _ (g : w.stops b ≡ false) {t : Result (Option ℕ) Refusal} (et : t ≡ step_of lim key len d x) where
        -- the turn of a node that doesn't
        whole_turn : walk_from w (left d) l lim key len at d best
            ≡ walk_step t (seen_at d (w.tells b x d key len)) (λ next. walk_from w (left (d + stride)) l lim key len next (d + stride) b)
        unfolding walk_from
        whole_turn = rw (one_left v) (simp (← ex, f, ← eb, g, ← et))

        -- a step that leaves what is issued
        pub turn_refused : (r : Refusal) → t ≡ Err r → Err r ≡ walk_from w (left d) l lim key len at d best
        unfolding walk_step
        turn_refused r e = sym (whole_turn ∙ simp e)

        -- the end of the path
        pub turn_end : t ≡ Ok None → Ok (seen_at d (w.tells b x d key len)) ≡ walk_from w (left d) l lim key len at d best
        unfolding walk_step
        turn_end e = sym (whole_turn ∙ simp e)

        -- on to the child
        pub turn_down : (next : ℕ) → t ≡ Ok (Some next) → walk_from w (left (d + stride)) l lim key len next (d + stride) b ≡ walk_from w (left d) l lim key len at d best
        unfolding walk_step
        turn_down next e = sym (whole_turn ∙ simp e)

    -- ---- the same where the two halves of the test are asked one by one: s answers the rules'
    module _ {s : Bool} (es : s ≡ data_whole x) where
      -- the rules' half fails
      pub walk_no_rules : s ≡ false → Err Broken ≡ walk_from w (left d) l lim key len at d best
      walk_no_rules f = turn_unsound (data_fails x es f)

      module _ (hold : s ≡ true) {b : Option Rule} (eb : b ≡ w.meets best x d key len) where
        -- a walk that ends here, once the children's half is asked
        last : (r : Option Rule) → r ≡ w.tells b x d key len → (sound_of x ≡ true → Ok (seen_at d (w.tells b x d key len)) ≡ walk_from w (left d) l lim key len at d best)
            → cond (children_whole x) (Ok (seen_at d r)) (Err Broken) ≡ walk_from w (left d) l lim key len at d best
        last r e told = go (children_whole x) refl
          where
            go : (c : Bool) → children_whole x ≡ c → cond c (Ok (seen_at d r)) (Err Broken) ≡ walk_from w (left d) l lim key len at d best
            go true f = rw e (told (both_hold x es hold f))
            go false f = turn_unsound (children_fail x es hold f)

        -- by a rule that ends it
        pub last_stop : w.stops b ≡ true → (r : Option Rule) → r ≡ w.tells b x d key len
            → cond (children_whole x) (Ok (seen_at d r)) (Err Broken) ≡ walk_from w (left d) l lim key len at d best
        last_stop g r e = last r e (λ f. turn_stop f eb g)

        module _ (g : w.stops b ≡ false) {t : Result (Option ℕ) Refusal} (et : t ≡ step_of lim key len d x) where
          -- by the end of the path
          pub last_end : t ≡ Ok None → (r : Option Rule) → r ≡ w.tells b x d key len
              → cond (children_whole x) (Ok (seen_at d r)) (Err Broken) ≡ walk_from w (left d) l lim key len at d best
          last_end n r e = last r e (λ f. turn_end f eb g et n)

          -- a step that is refused, whether the node is whole or not
          pub step_refused : (r : Refusal) → t ≡ Err r → Err r ≡ walk_from w (left d) l lim key len at d best
          step_refused r e =
              either_way x (λ f. ap (λ (q : Refusal). Err q) (broken_alone lim key len d x r (sym et ∙ e)) ∙ turn_unsound f) (λ f. turn_refused f eb g et r e)

          -- on to the child: the step says that the node is whole
          pub on_down : lim < 2 ^ 32 → (next : ℕ) → t ≡ Ok (Some next) → walk_from w (left (d + stride)) l lim key len next (d + stride) b ≡ walk_from w (left d) l lim key len at d best
          on_down h next e = turn_down (down_whole lim key len d x h es hold et next e) eb g et next e

  -- ---- a trail

  module _ (p : List ℕ) (n : List MultiBitNode) {i : ℕ} (ei : i ≡ d / stride) where
    -- a node that isn't whole
    pub trail_unsound : sound_of x ≡ false → Err Broken ≡ trail_from (left d) l lim key len at d p n
    unfolding trail_from
    trail_unsound f = rw (one_left v) (simp (← ex, f))

    module _ (f : sound_of x ≡ true) {t : Result (Option ℕ) Refusal} (et : t ≡ step_of lim key len d x) where
      -- the turn of a node that is whole
      trail_turn : trail_from (left d) l lim key len at d p n
          ≡ trail_step t d (set p i at) (set n i x) (λ next. trail_from (left (d + stride)) l lim key len next (d + stride) (set p i at) (set n i x))
      unfolding trail_from
      trail_turn = rw (ei, one_left v) (simp (← ex, f, ← et))

      -- a step that leaves what is issued
      pub trail_refused : (r : Refusal) → t ≡ Err r → Err r ≡ trail_from (left d) l lim key len at d p n
      unfolding trail_step
      trail_refused r e = sym (trail_turn ∙ simp e)

      -- the end of the path
      pub trail_end : t ≡ Ok None → Ok (trail_as d (set p i at) (set n i x)) ≡ trail_from (left d) l lim key len at d p n
      unfolding trail_step
      trail_end e = sym (trail_turn ∙ simp e)

      -- on to the child
      pub trail_down : (next : ℕ) → t ≡ Ok (Some next)
          → trail_from (left (d + stride)) l lim key len next (d + stride) (set p i at) (set n i x) ≡ trail_from (left d) l lim key len at d p n
      unfolding trail_step
      trail_down next e = sym (trail_turn ∙ simp e)

  -- ---- a route

  module _ (p : List ℕ) (n : List MultiBitNode) {i : ℕ} (ei : i ≡ d / stride) where
    -- a node that isn't whole, which was read
    pub route_unsound : sound_of x ≡ false → route_as (Err Broken) d (set p i at) (set n i x) ≡ route_from (left d) l lim key len at d p n
    unfolding route_from
    route_unsound f = rw (ei, one_left v) (simp (← ex, f))

    module _ (f : sound_of x ≡ true) {t : Result (Option ℕ) Refusal} (et : t ≡ step_of lim key len d x) where
      -- the turn of a node that is whole
      route_turn : route_from (left d) l lim key len at d p n
          ≡ route_step t d (set p i at) (set n i x) (λ next. route_from (left (d + stride)) l lim key len next (d + stride) (set p i at) (set n i x))
      unfolding route_from
      route_turn = rw (ei, one_left v) (simp (← ex, f, ← et))

      -- a step that leaves what is issued
      pub route_refused : (r : Refusal) → t ≡ Err r → route_as (Err r) d (set p i at) (set n i x) ≡ route_from (left d) l lim key len at d p n
      unfolding route_step
      route_refused r e = sym (route_turn ∙ simp e)

      -- the end of the path
      pub route_end : t ≡ Ok None → route_as (Ok tt) d (set p i at) (set n i x) ≡ route_from (left d) l lim key len at d p n
      unfolding route_step
      route_end e = sym (route_turn ∙ simp e)

      -- on to the child
      pub route_down : (next : ℕ) → t ≡ Ok (Some next)
          → route_from (left (d + stride)) l lim key len next (d + stride) (set p i at) (set n i x) ≡ route_from (left d) l lim key len at d p n
      unfolding route_step
      route_down next e = sym (route_turn ∙ simp e)

-- ---- the trail is the route's, where nothing is refused

-- the trail of a walk that ended so
abbrev pub kept : Result (Unit {0}) Refusal → Trail → Result Trail Refusal
kept (Ok x) t = Ok t
kept (Err r) t = Err r

trail_kept_from : (fuel : ℕ) (l : List ℕ) (lim key len at d : ℕ) (p : List ℕ) (n : List MultiBitNode)
    → kept (route_from fuel l lim key len at d p n).done (route_from fuel l lim key len at d p n).trail ≡ trail_from fuel l lim key len at d p n
unfolding route_from trail_from route_step trail_step
trail_kept_from zero l lim key len at d p n = refl
trail_kept_from (suc fuel) l lim key len at d p n =
    let x = node_at l at in
    go (sound_of x) (step_of lim key len d x) (set p (d / stride) at) (set n (d / stride) x) (λ next p' n'. trail_kept_from fuel l lim key len next (d + stride) p' n')
  where
    go : (s : Bool) (t : Result (Option ℕ) Refusal) (p' : List ℕ) (n' : List MultiBitNode)
        → ((next : ℕ) (p' : List ℕ) (n' : List MultiBitNode)
        → kept (route_from fuel l lim key len next (d + stride) p' n').done (route_from fuel l lim key len next (d + stride) p' n').trail
        ≡ trail_from fuel l lim key len next (d + stride) p' n')
        → (let r = cond s (route_step t d p' n' (λ next. route_from fuel l lim key len next (d + stride) p' n')) (route_as (Err Broken) d p' n') in kept r.done r.trail)
        ≡ cond s (trail_step t d p' n' (λ next. trail_from fuel l lim key len next (d + stride) p' n')) (Err Broken)
    go false t p' n' on = refl
    go true (Err r) p' n' on = refl
    go true (Ok None) p' n' on = refl
    go true (Ok (Some next)) p' n' on = on next p' n'

pub trail_kept : (l : List ℕ) (lim key len : ℕ) → kept (route_of l lim key len).done (route_of l lim key len).trail ≡ trail_of l lim key len
unfolding route_of trail_of
trail_kept l lim key len = go (ltb 0 lim)
  where
    go : (b : Bool)
        → (let r = cond b (route_from 7 l lim key len 0 0 no_places no_nodes) (route_as (Err Broken) 0 no_places no_nodes) in kept r.done r.trail)
        ≡ cond b (trail_from 7 l lim key len 0 0 no_places no_nodes) (Err Broken)
    go false = refl
    go true = trail_kept_from 7 l lim key len 0 0 no_places no_nodes
