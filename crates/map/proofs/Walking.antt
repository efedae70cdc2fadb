-- What an edit may rely on past its first tests and its walk. Assumes nothing.
use mathlib.Core.Path.{◌≡◌, sym}
use mathlib.Core.Logic.{inr}
use Prim.Native.Nat.{ℕ}
use native.Mathlib.Omega.{arith}
use lib.ListN.{length}
use Rattle.std.specs.Prelude.{Result, Ok, Err}
use Rattle.prefix.specs.Prefix.{masked}
use Rattle.refusals.specs.declared.Refusal.{Refusal}
use Rattle.walk.specs.declared.Trail.{Trail}
use Rattle.walk.specs.Trails.{trail_of}
use Rattle.walk.proofs.Paths.{trailed, trailed_depth}
use Rattle.entry.proofs.Ready.{Ready, edit_ready}
use Rattle.map.specs.declared.State.{State}
use Rattle.map.specs.Memory.{Memory}
use Rattle.map.specs.Walks.{first_of, Begun}

module _ (s : State) (m : Memory) (key len : ℕ) (first : first_of s m key len ≡ 0) where
  -- the first tests refuse nothing
  pub started : Ready s.nodes s.cells s.rules (length m.nodes) (length m.cells) (length m.node_free) (length m.cell_free) len
  started = edit_ready s.nodes s.cells s.rules (length m.nodes) (length m.cells) len (length m.node_free) (length m.cell_free) key first

  -- and the walk has ended, or refuses
  pub walked : (k : ℕ) → k ≡ masked key len → (x : Result Trail Refusal) → x ≡ trail_of m.nodes s.nodes.mark k len
      → Begun s m key len x
  walked k e (Err r) h = inr (first, rw e at (sym h))
  walked k e (Ok t) h =
      let l = started.look in
      record {
        first = first;
        trail = rw e at (sym h);
        short = l.short;
        upto = trailed_depth m.nodes s.nodes.mark k len t l.short (trailed m.nodes s.nodes.mark k len l.short t (sym h));
        few_rules = omega (arith, l.few_rules, l.most_cells);
        shaped = started.shaped_nodes;
        sane = l.sane_nodes;
      }
