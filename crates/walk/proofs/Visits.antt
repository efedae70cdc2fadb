-- A walk never runs out of fuel: along the nodes that it visits there is always one turn left. Assumes nothing.
use mathlib.Core.Path.{◌≡◌, refl}
use mathlib.Core.Bool.{Bool, true, false, cond}
use mathlib.Core.List.{List}
use Prim.Native.Nat.{ℕ, zero, suc, ◌+◌, ◌*◌, ◌/◌, ◌≤◌, ◌<◌}
use native.Mathlib.Omega.{arith}
use lib.ListN.{set}
use Rattle.prefix.specs.Prefix.{width}
use Rattle.tiers.specs.Tiers.{stride}
use Rattle.node.specs.declared.MultiBitNode.{MultiBitNode}
use Rattle.store.specs.Words.{node_at}
use Rattle.std.specs.Prelude.{Option, Some, None, Result, Ok, Err}
use Rattle.refusals.specs.declared.Refusal.{Refusal}
use Rattle.refusals.specs.declared.Refusal.TheVariants.{Broken}
use Rattle.walk.specs.declared.Rule.{Rule}
use Rattle.walk.specs.declared.Sight.{Sight}
use Rattle.walk.specs.declared.Trail.{Trail}
use Rattle.walk.specs.Steps.{sound_of, step_of}
use Rattle.walk.specs.Lookups.{Way, visited, seen_at, walk_step, walk_from}
use Rattle.walk.specs.Trails.{trail_step, trail_from}
use Rattle.walk.proofs.Turns.{Standing, stands}

-- the nodes visited never exceed those of the query's length, and those are at most seven
pub visited_le : (d len : ℕ) → d ≤ len → visited d ≤ visited len
visited_le d len h = omega arith

pub visited_seven : (len : ℕ) → len ≤ width → visited len ≤ 7
visited_seven len h = omega arith

module _ (l : List ℕ) (lim key len : ℕ) where
  -- what holds of a turn if it holds of the turn below, holds of a walk: with fuel for the query's length no turn is the last of the fuel
  pub along : (P : ℕ → ℕ → ℕ → Type 0)
      → ((f at d : ℕ) → Standing lim len at d → ((next : ℕ) → step_of lim key len d (node_at l at) ≡ Ok (Some next) → P f next (d + stride)) → P (suc f) at d)
      → (f at d : ℕ) → Standing lim len at d → len < d + stride * f → P f at d
  along P turn zero at d w h = let g = w.tree.from in absurd (omega arith)
  along P turn (suc f) at d w h =
      turn f at d w (λ next e. let v = stands key (node_at l at) next w refl e in along P turn f next (d + stride) v (omega arith))

  -- ---- so more fuel changes nothing

  -- a turn of a lookup is the same where the turns below are
  walk_same : (s g : Bool) (t : Result (Option ℕ) Refusal) (told : Sight) (on more : ℕ → Result Sight Refusal) → ((next : ℕ) → t ≡ Ok (Some next) → on next ≡ more next)
      → cond s (cond g (Ok told) (walk_step t told on)) (Err Broken) ≡ cond s (cond g (Ok told) (walk_step t told more)) (Err Broken)
  unfolding walk_step
  walk_same true false (Ok (Some at)) told on more h = h at refl
  walk_same true false (Ok None) told on more h = refl
  walk_same true false (Err r) told on more h = refl
  walk_same true true t told on more h = refl
  walk_same false g t told on more h = refl

  -- more fuel changes nothing of a lookup
  pub walk_fuel : (w : Way) (f at d : ℕ) → Standing lim len at d → len < d + stride * f → (best : Option Rule)
      → walk_from w f l lim key len at d best ≡ walk_from w (suc f) l lim key len at d best
  unfolding walk_from
  walk_fuel w =
      along (λ f at d. (best : Option Rule) → walk_from w f l lim key len at d best ≡ walk_from w (suc f) l lim key len at d best)
      (λ f at d v h best.
      let x = node_at l at in
      let b = w.meets best x d key len in
      walk_same (sound_of x) (w.stops b) (step_of lim key len d x) (seen_at d (w.tells b x d key len)) (λ next. walk_from w f l lim key len next (d + stride) b)
      (λ next. walk_from w (suc f) l lim key len next (d + stride) b) (λ next e. h next e b))

  -- a turn of the trail is the same where the turns below are
  trail_same : (s : Bool) (t : Result (Option ℕ) Refusal) (d : ℕ) (p : List ℕ) (n : List MultiBitNode) (on more : ℕ → Result Trail Refusal)
      → ((next : ℕ) → t ≡ Ok (Some next) → on next ≡ more next)
      → cond s (trail_step t d p n on) (Err Broken) ≡ cond s (trail_step t d p n more) (Err Broken)
  unfolding trail_step
  trail_same true (Ok (Some at)) d p n on more h = h at refl
  trail_same true (Ok None) d p n on more h = refl
  trail_same true (Err r) d p n on more h = refl
  trail_same false t d p n on more h = refl

  -- more fuel changes nothing of the trail
  pub trail_fuel : (f at d : ℕ) → Standing lim len at d → len < d + stride * f → (p : List ℕ) (n : List MultiBitNode)
      → trail_from f l lim key len at d p n ≡ trail_from (suc f) l lim key len at d p n
  unfolding trail_from
  trail_fuel =
      along (λ f at d. (p : List ℕ) (n : List MultiBitNode) → trail_from f l lim key len at d p n ≡ trail_from (suc f) l lim key len at d p n)
      (λ f at d w h p n.
      let x = node_at l at in
      let p₁ = set p (d / stride) at in
      let n₁ = set n (d / stride) x in
      trail_same (sound_of x) (step_of lim key len d x) d p₁ n₁ (λ next. trail_from f l lim key len next (d + stride) p₁ n₁)
      (λ next. trail_from (suc f) l lim key len next (d + stride) p₁ n₁) (λ next e. h next e p₁ n₁))
