-- A length above 32 is refused with number 1, whatever the rules. Assumes nothing.
use mathlib.Core.Path.{◌≡◌, refl, sym}
use mathlib.Core.Bool.{cond}
use Prim.Native.Nat.{ℕ, ◌<◌}
use lib.Dec.{eqb}
use lib.ListN.{length}
use Rattle.prefix.specs.Prefix.{width}
use Rattle.store.specs.declared.Cell.{Cell}
use Rattle.entry.specs.First.{lookup_first, edit_first}
use Rattle.entry.proofs.Ways.{lookup_1, edit_1}
use Rattle.std.specs.Prelude.{Result}
use Rattle.refusals.specs.declared.Refusal.{Refusal}
use Rattle.walk.specs.declared.Sight.{Sight}
use Rattle.map.specs.declared.State.{State}
use Rattle.map.specs.declared.Answer.TheVariants.{TooLong}
use Rattle.map.specs.Memory.{Memory, refusal}
use Rattle.map.specs.Lookups.{answer_of, lookup_of}
use Rattle.map.specs.Inserts.{insert_of}
use Rattle.map.specs.Removals.{remove_of}
use Rattle.rules.specs.Ledger.{Ledger}
use Rattle.history.proofs.Booked.{Booked, look_shaped, edit_shaped_lem}
use Rattle.history.proofs.Settling.{Done}

-- number 1 picks a refusal
picked : {A : Type 0} (n : ℕ) (x : A) (f : ℕ → A) → n ≡ 1 → cond (eqb n 0) x (f n) ≡ f 1
picked n x f e = rw e refl

module _ {N D : ℕ} {g : Ledger Cell} {s : State} {m : Memory} (b : Booked N D g s m) (key len : ℕ) (h : width < len) where
  -- a lookup
  pub lookup_long : (sight : Result Sight Refusal) → lookup_of s m.nodes m.cells key len sight ≡ TooLong
  lookup_long sight =
      picked (lookup_first s.nodes s.cells s.rules (length m.nodes) (length m.cells) len) (answer_of sight m.cells s.cells.mark key) refusal
      (sym (lookup_1 s.nodes s.cells s.rules (length m.nodes) (length m.cells) len (look_shaped b) h))

  first : edit_first s.nodes s.cells s.rules (length m.nodes) (length m.cells) (length m.node_free) (length m.cell_free) key len ≡ 1
  first = sym (edit_1 s.nodes s.cells s.rules (length m.nodes) (length m.cells) (length m.node_free) (length m.cell_free) key len (edit_shaped_lem b) h)

  -- an insert
  pub insert_long : (v : Cell) → Done N D g TooLong (insert_of s m key len v)
  unfolding insert_of
  insert_long v = rw first (record { answer = refl; booked = b })

  -- a removal
  pub remove_long : Done N D g TooLong (remove_of s m key len)
  unfolding remove_of
  remove_long = rw first (record { answer = refl; booked = b })
