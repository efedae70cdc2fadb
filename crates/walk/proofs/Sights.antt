-- What every sight says: a count of at most seven nodes; of a rule, its data bit, its length, and a bitmap that a node may have. Assumes nothing.
use mathlib.Core.Path.{◌≡◌, refl, ap, ◌∙◌, sym}
use mathlib.Core.Bool.{Bool, true, false, cond}
use mathlib.Core.List.{List}
use Prim.Native.Nat.{ℕ, ◌+◌, ◌*◌, ◌≤◌, ◌<◌}
use native.Mathlib.Omega.{arith}
use borrow.Author.Tests.{ltb-true}
use lib.Dec.{ltb}
use Rattle.std.specs.Prelude.{Option, Some, None, Result, Ok, Err}
use Rattle.bits.specs.Bits.{has}
use Rattle.prefix.specs.Prefix.{width}
use Rattle.tiers.specs.Tiers.{stride}
use Rattle.places.specs.Places.{data_bit, depth_of, length_at}
use Rattle.places.proofs.Prefixes.{data_length}
use Rattle.node.specs.declared.MultiBitNode.{MultiBitNode}
use Rattle.node.specs.Masks.{InTree}
use Rattle.node.specs.Matches.{longest_in, shortest_in}
use Rattle.refusals.specs.declared.Refusal.{Refusal}
use Rattle.refusals.specs.declared.Refusal.TheVariants.{Broken}
use Rattle.store.specs.Words.{node_at}
use Rattle.walk.specs.declared.Rule.{Rule}
use Rattle.walk.specs.declared.Sight.{Sight}
use Rattle.walk.specs.Steps.{sound_of, step_of}
use Rattle.walk.specs.Lookups.{Way, rule_in, seen_at, better, longest_way, shortest_way, exact_way, walk_step, walk_from, walk_of, longest_sight, shortest_sight, exact_sight, exact_in}
use Rattle.walk.specs.Sights.{ToldIf, Seen}
use Rattle.walk.proofs.Whole.{sound_31}
use Rattle.walk.proofs.Kept.{Kept, longest_kept, shortest_kept}
use Rattle.walk.proofs.Turns.{Standing, at_root}
use Rattle.walk.proofs.Steps.{broken_alone}
use Rattle.walk.proofs.Visits.{along, visited_le}

module _ (key len : ℕ) where
  -- the better of two rules
  better_told : (x : MultiBitNode) (d : ℕ) (m : Option ℕ) (best : Option Rule) → sound_of x ≡ true → ((b : ℕ) → m ≡ Some b → Kept x.data_bitmap d key len b)
      → ToldIf key len best → ToldIf key len (better m x d best)
  unfolding better
  better_told x d (Some b) best s k h = let g = k b refl in record { set = g.set; small = sound_31 x s; there = g.there; upto = g.upto }
  better_told x d None best s k h = h

  -- the rule itself where the path ends
  exact_told : (x : MultiBitNode) (d : ℕ) → sound_of x ≡ true → InTree d len → ToldIf key len (exact_in x key len d)
  unfolding exact_in
  exact_told x d s t = go (ltb len (d + stride)) refl (has x.data_bitmap (data_bit key len)) refl
    where
      go : (u : Bool) → ltb len (d + stride) ≡ u → (v : Bool) → has x.data_bitmap (data_bit key len) ≡ v
          → ToldIf key len (cond u (cond v (Some (rule_in x d (data_bit key len))) None) None)
      go false p v q = tt
      go true p false q = tt
      go true p true q =
          let r = ltb-true len (d + stride) p in
          let w : depth_of len ≡ d = omega (arith, t.node, t.from) in
          let k : length_at d (data_bit key len) ≡ len = ap (λ (y : ℕ). length_at y (data_bit key len)) (sym w) ∙ data_length key len in
          record { set = q; small = sound_31 x s; there = ap (data_bit key) (sym k); upto = omega (arith, k) }

  -- ---- a lookup whose way keeps to such rules

  -- at a node that is whole
  record Kind (w : Way) : Type 0 where
    pub meets : (best : Option Rule) (x : MultiBitNode) (d : ℕ) → sound_of x ≡ true → InTree d len → ToldIf key len best → ToldIf key len (w.meets best x d key len)
    pub tells : (best : Option Rule) (x : MultiBitNode) (d : ℕ) → sound_of x ≡ true → InTree d len → ToldIf key len best → ToldIf key len (w.tells best x d key len)

  -- a turn
  turn_seen : (s g : Bool) (t : Result (Option ℕ) Refusal) (told : Sight) (on : ℕ → Result Sight Refusal) → ((r : Refusal) → t ≡ Err r → r ≡ Broken)
      → (s ≡ true → Seen key len (Ok told)) → ((next : ℕ) → s ≡ true → t ≡ Ok (Some next) → Seen key len (on next))
      → Seen key len (cond s (cond g (Ok told) (walk_step t told on)) (Err Broken))
  unfolding walk_step
  turn_seen false g t told on b h k = refl
  turn_seen true true t told on b h k = h refl
  turn_seen true false (Ok (Some at)) told on b h k = k at refl refl
  turn_seen true false (Ok None) told on b h k = h refl
  turn_seen true false (Err r) told on b h k = b r refl

  module _ (short : len ≤ width) (l : List ℕ) (lim : ℕ) where
    -- sees such a rule
    way_seen : (w : Way) → Kind w → Seen key len (walk_of w l lim key len)
    unfolding walk_of walk_from
    way_seen w kind = go (ltb 0 lim) refl
      where
        on : (f at d : ℕ) → Standing lim len at d → len < d + stride * f → (best : Option Rule) → ToldIf key len best → Seen key len (walk_from w f l lim key len at d best)
        on =
            along l lim key len (λ f at d. (best : Option Rule) → ToldIf key len best → Seen key len (walk_from w f l lim key len at d best))
            (λ f at d v h best k.
            let x = node_at l at in
            let b = w.meets best x d key len in
            let met : sound_of x ≡ true → ToldIf key len b = λ s. kind.meets best x d s v.tree k in
            turn_seen (sound_of x) (w.stops b) (step_of lim key len d x) (seen_at d (w.tells b x d key len)) (λ next. walk_from w f l lim key len next (d + stride) b)
            (broken_alone lim key len d x) (λ s. (visited_le d len v.tree.from, kind.tells b x d s v.tree (met s))) (λ next s e. h next e b (met s)))

        go : (t : Bool) → ltb 0 lim ≡ t → Seen key len (cond t (walk_from w 7 l lim key len 0 0 None) (Err Broken))
        go true p = on 7 0 0 (at_root lim len short (let k = ltb-true 0 lim p in λ z. omega arith)) (omega arith) None tt
        go false p = refl

    -- what longest sees
    pub longest_seen : Seen key len (longest_sight l lim key len)
    longest_seen = way_seen longest_way (record {
      meets = λ best x d s t k. better_told x d (longest_in x.data_bitmap d key len) best s (longest_kept x.data_bitmap d key len t.node t.from) k;
      tells = λ best x d s t k. k;
    })

    -- what shortest sees
    pub shortest_seen : Seen key len (shortest_sight l lim key len)
    shortest_seen = way_seen shortest_way (record {
      meets = λ best x d s t k. better_told x d (shortest_in x.data_bitmap d key len) best s (shortest_kept x.data_bitmap d key len t.node t.from) k;
      tells = λ best x d s t k. k;
    })

    -- what exact sees
    pub exact_seen : Seen key len (exact_sight l lim key len)
    exact_seen = way_seen exact_way (record { meets = λ best x d s t k. k; tells = λ best x d s t k. exact_told x d s t })
