-- The invariant of a history: lent memory holds the live rules of a ledger, and the state is the ledger's. Assumes nothing.
use mathlib.Core.Path.{◌≡◌, refl, ap}
use mathlib.Core.Bool.{Bool, true, false}
use Prim.Native.Nat.{ℕ, ◌≤◌}
use native.Mathlib.Omega.{arith}
use lib.ListN.{length}
use Rattle.prefix.specs.Prefix.{width}
use Rattle.tiers.specs.Tiers.{data_top, child_top}
use Rattle.blocks.proofs.Shape.{InShape, shaped_again, sane_again}
use Rattle.store.specs.declared.Cell.{Cell}
use Rattle.entry.specs.First.{lookup_shaped, edit_shaped, lookup_first, edit_first}
use Rattle.entry.proofs.Ways.{lookup_3, edit_3}
use Rattle.entry.proofs.Ready.{LookupReady}
use Rattle.entry.proofs.Numbers.{lookup_passes, edit_passes}
use Rattle.map.specs.declared.State.{State}
use Rattle.map.specs.Memory.{Memory}
use Rattle.rules.specs.Rules.{Proper, rule_count}
use Rattle.rules.specs.Account.{node_pool, cell_pool}
use Rattle.rules.specs.Ledger.{Ledger, Balanced}
use Rattle.rules.proofs.RuleCount.{rules_fit}
use Rattle.pools.specs.Sound.{Owner}
use Rattle.pools.specs.Accounts.{kind_of, account_of}
use Rattle.image.specs.Tree.{Tree}
use Rattle.image.specs.Image.{Image}

-- memory holds the ledger's live rules, and sizes, marks, free counts and rule count are the ledger's
pub record Booked (N D : ℕ) (g : Ledger Cell) (s : State) (m : Memory) : Type 0 where
  pub E : ℕ → Bool
  pub R : ℕ → Bool
  pub es : ℕ → ℕ
  pub vs : ℕ → ℕ
  pub val : ℕ → Cell
  pub on : ℕ → Owner
  pub od : ℕ → Owner
  pub image : Image s.nodes m.nodes m.node_free s.cells m.cells m.cell_free E R es vs val on od
  pub tree : Tree g.rules E R val
  pub proper : Proper g.rules
  pub balanced : Balanced N D g
  pub node_size : s.nodes.size ≡ N
  pub cell_size : s.cells.size ≡ D
  pub node_account : account_of s.nodes ≡ g.nodes
  pub cell_account : account_of s.cells ≡ g.cells
  pub count : s.rules ≡ rule_count g.rules

module _ {N D : ℕ} {g : Ledger Cell} {s : State} {m : Memory} (b : Booked N D g s m) where
  -- the pools are of the ledger's kinds
  pub node_kind : kind_of child_top s.nodes ≡ node_pool N
  node_kind = ap node_pool b.node_size

  pub cell_kind : kind_of data_top s.cells ≡ cell_pool D
  cell_kind = ap cell_pool b.cell_size

  -- and have their shape
  pub node_shape : InShape s.nodes child_top m.node_free
  node_shape = b.image.trees.blocks.shape

  pub cell_shape : InShape s.cells data_top m.cell_free
  cell_shape = b.image.values.blocks.shape

  -- so a lookup's first tests pass
  look_ready : (len : ℕ) → len ≤ width → LookupReady s.nodes s.cells s.rules (length m.nodes) (length m.cells) len
  look_ready len h =
      record {
        short = h;
        some_nodes = node_shape.some;
        most_nodes = node_shape.most;
        some_cells = cell_shape.some;
        most_cells = cell_shape.most;
        nodes_length = b.image.nodes_length;
        cells_length = b.image.cells_length;
        sane_nodes = sane_again s.nodes child_top m.node_free node_shape;
        sane_cells = sane_again s.cells data_top m.cell_free cell_shape;
        node_mark = node_shape.below;
        cell_mark = cell_shape.below;
        few_rules = rw (b.count, b.cell_size) (rules_fit N D g b.proper b.balanced);
        issued_nodes = omega (arith, b.image.nodes_length, node_shape.below);
        issued_cells = omega (arith, b.image.cells_length, cell_shape.below);
      }

  pub look_first : (len : ℕ) → len ≤ width → lookup_first s.nodes s.cells s.rules (length m.nodes) (length m.cells) len ≡ 0
  look_first len h = lookup_passes s.nodes s.cells s.rules (length m.nodes) (length m.cells) len (look_ready len h)

  -- and so do an edit's
  pub edit_first_lem : (key len : ℕ) → len ≤ width
      → edit_first s.nodes s.cells s.rules (length m.nodes) (length m.cells) (length m.node_free) (length m.cell_free) key len ≡ 0
  edit_first_lem key len h =
      edit_passes s.nodes s.cells s.rules (length m.nodes) (length m.cells) (length m.node_free) (length m.cell_free) key len
      (record {
        look = look_ready len h;
        node_list = node_shape.whole;
        cell_list = cell_shape.whole;
        shaped_nodes = shaped_again s.nodes child_top m.node_free node_shape;
        shaped_cells = shaped_again s.cells data_top m.cell_free cell_shape;
      })

  -- the lent slices are whole, whatever the length of a call
  pub look_shaped : lookup_shaped s.nodes.size s.cells.size (length m.nodes) (length m.cells) ≡ true
  look_shaped = go (lookup_shaped s.nodes.size s.cells.size (length m.nodes) (length m.cells)) refl
    where
      go : (t : Bool) → lookup_shaped s.nodes.size s.cells.size (length m.nodes) (length m.cells) ≡ t
          → lookup_shaped s.nodes.size s.cells.size (length m.nodes) (length m.cells) ≡ true
      go true e = e
      go false e = absurd (omega (arith, lookup_3 s.nodes s.cells s.rules (length m.nodes) (length m.cells) 0 e, look_first 0 (omega arith)))

  pub edit_shaped_lem : edit_shaped s.nodes.size s.cells.size (length m.nodes) (length m.cells) (length m.node_free) (length m.cell_free) ≡ true
  edit_shaped_lem = go (edit_shaped s.nodes.size s.cells.size (length m.nodes) (length m.cells) (length m.node_free) (length m.cell_free)) refl
    where
      go : (t : Bool) → edit_shaped s.nodes.size s.cells.size (length m.nodes) (length m.cells) (length m.node_free) (length m.cell_free) ≡ t
          → edit_shaped s.nodes.size s.cells.size (length m.nodes) (length m.cells) (length m.node_free) (length m.cell_free) ≡ true
      go true e = e
      go false e = absurd (omega (
        arith,
        edit_3 s.nodes s.cells s.rules (length m.nodes) (length m.cells) (length m.node_free) (length m.cell_free) 0 0 e,
        edit_first_lem 0 0 (omega arith),
      ))
