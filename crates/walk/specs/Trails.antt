-- The walk of an edit: the nodes on the way and their positions, all read before the first write. Assumes nothing.
use Rattle.std.specs.Prelude.{cond, List, [], ◌∷◌, Option, Some, None, Result, Ok, Err, ℕ, zero, suc, ◌+◌, ◌/◌, ltb, set}
use Rattle.tiers.specs.Tiers.{stride}
use Rattle.node.specs.declared.MultiBitNode.{MultiBitNode}
use Rattle.node.specs.Nodes.{empty_node}
use Rattle.store.specs.Words.{node_at}
use Rattle.refusals.specs.declared.Refusal.{Refusal}
use Rattle.refusals.specs.declared.Refusal.TheVariants.{Broken}
use Rattle.walk.specs.declared.Route.{Route}
use Rattle.walk.specs.declared.Trail.{Trail}
use Rattle.walk.specs.Steps.{sound_of, step_of}

-- depth: of the last node; its level is depth / 5; places and nodes by level
abbrev pub trail_as : ℕ → List ℕ → List MultiBitNode → Trail
trail_as d p n = record { depth = d; places = p; nodes = n }

unfoldable pub trail_step : Result (Option ℕ) Refusal → ℕ → List ℕ → List MultiBitNode → (ℕ → Result Trail Refusal) → Result Trail Refusal
trail_step (Err r) d p n on = Err r
trail_step (Ok None) d p n on = Ok (trail_as d p n)
trail_step (Ok (Some at)) d p n on = on at

unfoldable pub trail_from : ℕ → List ℕ → ℕ → ℕ → ℕ → ℕ → ℕ → List ℕ → List MultiBitNode → Result Trail Refusal
trail_from zero l lim key len at d p n = Err Broken
trail_from (suc fuel) l lim key len at d p n =
    let x = node_at l at in
    let p' = set p (d / stride) at in
    let n' = set n (d / stride) x in
    cond (sound_of x) (trail_step (step_of lim key len d x) d p' n' (λ next. trail_from fuel l lim key len next (d + stride) p' n')) (Err Broken)

abbrev pub no_places : List ℕ
no_places = 0 ∷ 0 ∷ 0 ∷ 0 ∷ 0 ∷ 0 ∷ 0 ∷ []

abbrev pub no_nodes : List MultiBitNode
no_nodes = empty_node ∷ empty_node ∷ empty_node ∷ empty_node ∷ empty_node ∷ empty_node ∷ empty_node ∷ []

-- from the root; a mark of 0 leaves no root to read
unfoldable pub trail_of : List ℕ → ℕ → ℕ → ℕ → Result Trail Refusal
trail_of l lim key len = cond (ltb 0 lim) (trail_from 7 l lim key len 0 0 no_places no_nodes) (Err Broken)

-- ---- the same with what was read on the way, where the walk is refused too

abbrev pub route_as : Result (Unit {0}) Refusal → ℕ → List ℕ → List MultiBitNode → Route
route_as r d p n = record { done = r; trail = trail_as d p n }

unfoldable pub route_step : Result (Option ℕ) Refusal → ℕ → List ℕ → List MultiBitNode → (ℕ → Route) → Route
route_step (Err r) d p n on = route_as (Err r) d p n
route_step (Ok None) d p n on = route_as (Ok tt) d p n
route_step (Ok (Some at)) d p n on = on at

unfoldable pub route_from : ℕ → List ℕ → ℕ → ℕ → ℕ → ℕ → ℕ → List ℕ → List MultiBitNode → Route
route_from zero l lim key len at d p n = route_as (Err Broken) d p n
route_from (suc fuel) l lim key len at d p n =
    let x = node_at l at in
    let p' = set p (d / stride) at in
    let n' = set n (d / stride) x in
    cond (sound_of x) (route_step (step_of lim key len d x) d p' n' (λ next. route_from fuel l lim key len next (d + stride) p' n')) (route_as (Err Broken) d p' n')

unfoldable pub route_of : List ℕ → ℕ → ℕ → ℕ → Route
route_of l lim key len = cond (ltb 0 lim) (route_from 7 l lim key len 0 0 no_places no_nodes) (route_as (Err Broken) 0 no_places no_nodes)
