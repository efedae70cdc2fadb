-- The three lookups as walks over lent words: what each sees (document 01, calls and number 5). Assumes nothing.
-- `lim` is the node mark; a walk visits at most seven nodes, so `fuel` starts at 7.
use Rattle.std.specs.Prelude.{Bool, false, cond, List, Option, Some, None, is_some, Result, Ok, Err, ℕ, zero, suc, ◌+◌, ◌/◌, ltb}
use Rattle.bits.specs.Bits.{has}
use Rattle.tiers.specs.Tiers.{stride}
use Rattle.places.specs.Places.{data_bit, length_at}
use Rattle.node.specs.declared.MultiBitNode.{MultiBitNode}
use Rattle.node.specs.Matches.{longest_in, shortest_in}
use Rattle.store.specs.Words.{node_at}
use Rattle.refusals.specs.declared.Refusal.{Refusal}
use Rattle.refusals.specs.declared.Refusal.TheVariants.{Broken}
use Rattle.walk.specs.declared.Sight.{Sight}
use Rattle.walk.specs.declared.Rule.{Rule}
use Rattle.walk.specs.declared.best.Best.{Best}
use Rattle.walk.specs.Steps.{sound_of, step_of}

-- nodes visited when the walk stands at depth d
abbrev pub visited : ℕ → ℕ
visited d = d / stride + 1

-- the rule of data bit b in the node x at depth d
abbrev pub rule_in : MultiBitNode → ℕ → ℕ → Rule
rule_in x d b = record { cells = x.data_idx; bitmap = x.data_bitmap; bit = b; len = length_at d b }

-- a rule seen, with its length worked out
abbrev pub rule_of : Best → Rule
rule_of best = record { cells = best.cells; bitmap = best.bitmap; bit = best.bit; len = length_at best.depth best.bit }

-- what is seen by a walk that ends at depth d
abbrev pub seen_at : ℕ → Option Rule → Sight
seen_at d rule = record { rule = rule; visits = visited d }

-- ---- a lookup's way: what it makes of the nodes of the path, one after the other

-- the best rule after a node, from the best before it; whether that rule ends the walk; what is told where the walk ends.
-- Of a node: its words, its depth, the query's key and length
pub record Way : Type 0 where
  pub meets : Option Rule → MultiBitNode → ℕ → ℕ → ℕ → Option Rule
  pub stops : Option Rule → Bool
  pub tells : Option Rule → MultiBitNode → ℕ → ℕ → ℕ → Option Rule

-- a node's own rule, if a match in it found one, before the best so far
unfoldable pub better : Option ℕ → MultiBitNode → ℕ → Option Rule → Option Rule
better (Some b) x d best = Some (rule_in x d b)
better None x d best = best

-- longest: the candidate of a deeper node wins, and the path is walked to its end
abbrev pub longest_way : Way
longest_way = record {
  meets = λ best x d key len. better (longest_in x.data_bitmap d key len) x d best;
  stops = λ best. false;
  tells = λ best x d key len. best;
}

-- shortest: the first node that holds a covering rule
abbrev pub shortest_way : Way
shortest_way = record {
  meets = λ best x d key len. better (shortest_in x.data_bitmap d key len) x d best;
  stops = λ best. is_some best;
  tells = λ best x d key len. best;
}

-- exact: the rule itself, in the node where the path ends at the query's own depth
unfoldable pub exact_in : MultiBitNode → ℕ → ℕ → ℕ → Option Rule
exact_in x key len d = cond (ltb len (d + stride)) (cond (has x.data_bitmap (data_bit key len)) (Some (rule_in x d (data_bit key len))) None) None

abbrev pub exact_way : Way
exact_way = record {
  meets = λ best x d key len. best;
  stops = λ best. false;
  tells = λ best x d key len. exact_in x key len d;
}

-- ---- the walk

unfoldable pub walk_step : Result (Option ℕ) Refusal → Sight → (ℕ → Result Sight Refusal) → Result Sight Refusal
walk_step (Err r) told on = Err r
walk_step (Ok None) told on = Ok told
walk_step (Ok (Some at)) told on = on at

unfoldable pub walk_from : Way → ℕ → List ℕ → ℕ → ℕ → ℕ → ℕ → ℕ → Option Rule → Result Sight Refusal
walk_from w zero l lim key len at d best = Err Broken
walk_from w (suc fuel) l lim key len at d best =
    let x = node_at l at in
    let b = w.meets best x d key len in
    let told = seen_at d (w.tells b x d key len) in
    let on = walk_step (step_of lim key len d x) told (λ next. walk_from w fuel l lim key len next (d + stride) b) in
    cond (sound_of x) (cond (w.stops b) (Ok told) on) (Err Broken)

-- from the root; a mark of 0 leaves no root to read
unfoldable pub walk_of : Way → List ℕ → ℕ → ℕ → ℕ → Result Sight Refusal
walk_of w l lim key len = cond (ltb 0 lim) (walk_from w 7 l lim key len 0 0 None) (Err Broken)

abbrev pub longest_sight : List ℕ → ℕ → ℕ → ℕ → Result Sight Refusal
longest_sight = walk_of longest_way

abbrev pub shortest_sight : List ℕ → ℕ → ℕ → ℕ → Result Sight Refusal
shortest_sight = walk_of shortest_way

abbrev pub exact_sight : List ℕ → ℕ → ℕ → ℕ → Result Sight Refusal
exact_sight = walk_of exact_way
