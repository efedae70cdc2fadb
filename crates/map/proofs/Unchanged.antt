-- A refused edit changes no state and no lent memory. Assumes nothing.
use mathlib.Core.Path.{◌≡◌, refl}
use mathlib.Core.Bool.{Bool, true, false, cond}
use Prim.Native.Nat.{ℕ, ◌+◌, ◌-◌, ◌/◌}
use lib.Dec.{leb, eqb}
use lib.ListN.{length, get_or}
use Rattle.bits.specs.Bits.{has, count}
use Rattle.prefix.specs.Prefix.{masked}
use Rattle.tiers.specs.Tiers.{stride, data_top, child_top, empty}
use Rattle.places.specs.Places.{data_bit}
use Rattle.node.specs.declared.MultiBitNode.{MultiBitNode}
use Rattle.node.specs.Nodes.{empty_node}
use Rattle.blocks.specs.Growth.{grow_ask_of, chain_ask_of}
use Rattle.store.specs.declared.Cell.{Cell}
use Rattle.walk.specs.Steps.{data_within}
use Rattle.std.specs.Prelude.{Result, Ok, Err}
use Rattle.refusals.specs.declared.Refusal.{Refusal}
use Rattle.refusals.specs.Numbers.{number_of as refusal_number}
use Rattle.walk.specs.declared.Trail.{Trail}
use Rattle.map.specs.Inserts as inserts
use Rattle.map.specs.Removals as removals
use Rattle.walk.specs.Trails.{trail_of}
use Rattle.entry.specs.First.{edit_first}
use Rattle.edits.specs.Removing.{drop_ask_of, last_rule, prune_ask_of}
use Rattle.map.specs.declared.State.{State}
use Rattle.map.specs.declared.Edited.{Edited}
use Rattle.map.specs.Answers.{values_of}
use Rattle.map.specs.Memory.{Memory, refuse}
use Rattle.map.specs.Inserts.{replace_of, here_of, below_of, arrived_of, insert_of}
use Rattle.map.specs.Removals.{taken_of, remove_of}

-- the number of an edit's answer
abbrev number_of : Edited × Memory → ℕ
number_of r = (values_of r.0.answer).number

-- a number other than 0 and 8 leaves the state and the memory as they were
pub record Unchanged (s : State) (m : Memory) (r : Edited × Memory) : Type 0 where
  pub state : (number_of r ≡ 0 → ⊥) → (number_of r ≡ 8 → ⊥) → r.0.state ≡ s
  pub memory : (number_of r ≡ 0 → ⊥) → (number_of r ≡ 8 → ⊥) → r.1 ≡ m

module _ (s : State) (m : Memory) where
  either : (b : Bool) (x y : Edited × Memory) → Unchanged s m x → Unchanged s m y → Unchanged s m (cond b x y)
  either true x y p q = p
  either false x y p q = q

  refused : (n : ℕ) → Unchanged s m (refuse n s m)
  refused n = record { state = λ a c. refl; memory = λ a c. refl }

  done : (r : Edited × Memory) → number_of r ≡ 0 → Unchanged s m r
  done r e = record { state = λ a c. absurd (a e); memory = λ a c. absurd (a e) }

  swapped : (r : Edited × Memory) → number_of r ≡ 8 → Unchanged s m r
  swapped r e = record { state = λ a c. absurd (c e); memory = λ a c. absurd (c e) }

  module _ (key len : ℕ) (v : Cell) (at d : ℕ) (x : MultiBitNode) where
    replace_unchanged : Unchanged s m (replace_of s m key len v x)
    unfolding replace_of
    replace_unchanged = either (data_within s.cells.mark (count x.data_bitmap) x.data_idx.0) _ _ (swapped _ refl) (refused 5)

    here_unchanged : Unchanged s m (here_of s m key len v at x)
    unfolding here_of
    here_unchanged =
        let n = (grow_ask_of s.cells data_top s.cells.mark m.cell_free x.data_idx.0 (count x.data_bitmap)).number in
        either (eqb n 0) _ _ (done _ refl) (refused n)

    below_unchanged : Unchanged s m (below_of s m key len v at d x)
    unfolding below_of
    below_unchanged =
        let a = chain_ask_of s.nodes child_top m.node_free x.children_idx.0 (count x.child_bitmap) ((len - d) / stride) in
        let c = (grow_ask_of s.cells data_top s.cells.mark m.cell_free empty 0).number in
        either (eqb a 0) _ _ (either (eqb c 0) _ _ (done _ refl) (refused c)) (refused a)

    arrived_unchanged : Unchanged s m (arrived_of s m key len v at d x)
    unfolding arrived_of
    arrived_unchanged =
        either (leb (d + stride) len) _ _ below_unchanged (either (has x.data_bitmap (data_bit key len)) _ _ replace_unchanged here_unchanged)

  walked_unchanged : (key len : ℕ) (v : Cell) (r : Result Trail Refusal) → Unchanged s m (inserts.walked_of s m key len v r)
  unfolding inserts.walked_of
  walked_unchanged key len v (Err r) = refused (refusal_number r)
  walked_unchanged key len v (Ok t) = let i = t.depth / stride in arrived_unchanged key len v (get_or t.places i 0) t.depth (get_or t.nodes i empty_node)

  -- a refused insert changes no state and no memory
  pub insert_unchanged : (key len : ℕ) (v : Cell) → Unchanged s m (insert_of s m key len v)
  unfolding insert_of
  insert_unchanged key len v =
      let n =
      edit_first s.nodes s.cells s.rules (length m.nodes) (length m.cells) (length m.node_free) (length m.cell_free) key len
      in
      let k = masked key len in
      either (eqb n 0) _ _ (walked_unchanged k len v (trail_of m.nodes s.nodes.mark k len)) (refused n)

  taken_unchanged : (key len : ℕ) (t : Trail) (i : ℕ) (x : MultiBitNode) → Unchanged s m (taken_of s m key len t i x)
  unfolding taken_of
  taken_unchanged key len t i x =
      let a = drop_ask_of s.cells m.cell_free x in
      let u = prune_ask_of i s.nodes s.nodes.mark m.node_free t.nodes (last_rule x) in
      either (eqb s.rules 0) _ _ (refused 5) (either (eqb a 0) _ _ (either (eqb u 0) _ _ (done _ refl) (refused u)) (refused a))

  gone_unchanged : (key len : ℕ) (r : Result Trail Refusal) → Unchanged s m (removals.walked_of s m key len r)
  unfolding removals.walked_of
  gone_unchanged key len (Err r) = refused (refusal_number r)
  gone_unchanged key len (Ok t) =
      let i = t.depth / stride in
      let x = get_or t.nodes i empty_node in
      either (leb (t.depth + stride) len) _ _ (refused 2)
      (either (has x.data_bitmap (data_bit key len)) _ _ (taken_unchanged key len t i x) (refused 2))

  -- a refused removal changes no state and no lent memory
  pub remove_unchanged : (key len : ℕ) → Unchanged s m (remove_of s m key len)
  unfolding remove_of
  remove_unchanged key len =
      let n = edit_first s.nodes s.cells s.rules (length m.nodes) (length m.cells) (length m.node_free) (length m.cell_free) key len in
      let k = masked key len in
      either (eqb n 0) _ _ (gone_unchanged k len (trail_of m.nodes s.nodes.mark k len)) (refused n)
