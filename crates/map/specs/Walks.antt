-- What stands before an edit's own steps: the first tests, then the walk to the end of the prefix's path. Assumes nothing.
use Rattle.std.specs.Prelude.{◌≡◌, ◌⊎◌, true, Result, Ok, Err, ℕ, ◌≤◌, length}
use Rattle.prefix.specs.Prefix.{width, masked}
use Rattle.tiers.specs.Tiers.{child_top, pool_max}
use Rattle.blocks.specs.Shape.{shaped_of, sane_of}
use Rattle.refusals.specs.declared.Refusal.{Refusal}
use Rattle.refusals.specs.Numbers.{number_of}
use Rattle.walk.specs.declared.Trail.{Trail}
use Rattle.walk.specs.Trails.{trail_of}
use Rattle.entry.specs.First.{edit_first}
use Rattle.map.specs.declared.State.{State}
use Rattle.map.specs.Memory.{Memory}

-- the number of the first tests
abbrev pub first_of : State → Memory → ℕ → ℕ → ℕ
first_of s m key len = edit_first s.nodes s.cells s.rules (length m.nodes) (length m.cells) (length m.node_free) (length m.cell_free) key len

-- nothing is refused: the trail, and what the edit's steps rely on
pub record Walked (s : State) (m : Memory) (key len : ℕ) (t : Trail) : Type 0 where
  pub first : first_of s m key len ≡ 0
  pub trail : trail_of m.nodes s.nodes.mark (masked key len) len ≡ Ok t
  pub short : len ≤ width
  pub upto : t.depth ≤ 30
  pub few_rules : s.rules ≤ pool_max
  pub shaped : shaped_of s.nodes child_top (length m.node_free) ≡ true
  pub sane : sane_of s.nodes child_top ≡ true

-- how an edit begins: its trail, or the first tests refuse, or the walk does
abbrev pub Begun : State → Memory → ℕ → ℕ → Result Trail Refusal → Type 0
Begun s m key len (Ok t) = Walked s m key len t
Begun s m key len (Err r) = (first_of s m key len ≡ number_of r) ⊎ ((first_of s m key len ≡ 0) × (trail_of m.nodes s.nodes.mark (masked key len) len ≡ Err r))
