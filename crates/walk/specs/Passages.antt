-- What the walk of an edit tells, by level, and how a trail keeps it. Assumes nothing.
use Rattle.std.specs.Prelude.{◌≡◌, refl, List, [], ◌∷◌, ℕ, map}
use Rattle.std.proofs.Common.{ap}
use Rattle.node.specs.declared.MultiBitNode.{MultiBitNode}
use Rattle.walk.specs.declared.Passed.{Passed}

-- depth: of the last node; its level is depth / 5; places and nodes by level
pub record Passage : Type 0 where
  pub depth : ℕ
  pub places : List ℕ
  pub nodes : List MultiBitNode

abbrev pub passed_as : ℕ → MultiBitNode → Passed
passed_as at x = record { at = at; node = x }

-- where the steps stand, and their nodes
abbrev pub places_of : List Passed → List ℕ
places_of = map (λ s. s.at)

abbrev pub nodes_of : List Passed → List MultiBitNode
nodes_of = map (λ s. s.node)

-- each position with its node
abbrev pub steps_of : List ℕ → List MultiBitNode → List Passed
steps_of [] nodes = []
steps_of (at ∷ places) [] = []
steps_of (at ∷ places) (x ∷ nodes) = passed_as at x ∷ steps_of places nodes

-- and so the steps again
pub steps_again : (l : List Passed) → steps_of (places_of l) (nodes_of l) ≡ l
steps_again [] = refl
steps_again (s ∷ l) = ap (λ (m : List Passed). s ∷ m) (steps_again l)
