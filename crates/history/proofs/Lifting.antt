-- The whole removal on a booked map: refused with 2 where the rule isn't stored, with 4 where the ledger can't supply, else done. Assumes nothing.
use mathlib.Core.Path.{◌≡◌, refl, ap, ◌∙◌}
use mathlib.Core.Bool.{Bool, true, false, cond, ◌&&◌}
use mathlib.Core.Option.{Option, none, some}
use Prim.Native.Nat.{ℕ, suc, ◌+◌, ◌-◌, ◌/◌, ◌<◌}
use native.Mathlib.Decide.{dec_lt}
use native.Mathlib.Omega.{arith}
use borrow.Author.Tests.{le-leb, lt-leb, ne_eqb}
use lib.Dec.{leb, ltb}
use Rattle.bits.specs.Bits.{has}
use Rattle.prefix.specs.Prefix.{masked}
use Rattle.prefix.proofs.Masking.{masked_again}
use Rattle.tiers.specs.Tiers.{stride}
use Rattle.places.specs.Places.{data_bit}
use Rattle.node.specs.declared.MultiBitNode.{MultiBitNode}
use Rattle.store.specs.declared.Cell.{Cell}
use Rattle.std.specs.Prelude.{Ok}
use Rattle.walk.specs.declared.Trail.{Trail}
use Rattle.walk.specs.Trails.{trail_of}
use Rattle.edits.specs.Removing.{last_rule}
use Rattle.map.specs.declared.State.{State}
use Rattle.map.specs.declared.Answer.TheVariants.{NoRoom, Missing, Removed}
use Rattle.map.specs.declared.Edited.{Edited}
use Rattle.map.specs.Memory.{Memory, refuse}
use Rattle.map.specs.Removals.{taken_of, remove_of, walked_of}
use Rattle.rules.specs.Rules.{Rules, del, value_at, is_some, IsPrefix}
use Rattle.rules.specs.Nodes.{depth, node_count}
use Rattle.rules.specs.Ledger.{Ledger, emptied, remove_room, entered}
use Rattle.rules.proofs.RuleCount.{rules_some}
use Rattle.rules.proofs.Paths.{count_root, count_path, count_live}
use Rattle.image.specs.Numbers.{path_no}
use Rattle.image.specs.Image.{node_of}
use Rattle.image.proofs.Cells.{data_live, cell_there}
use Rattle.image.proofs.Trails.{Filled, Walked, trail_is}
use Rattle.history.specs.Calls.{taken}
use Rattle.history.proofs.Masked.{masked_prefix, value_masked, del_entered, remove_masked}
use Rattle.history.proofs.Booked.{Booked, edit_first_lem}
use Rattle.history.proofs.Settling.{Done, done_as, settle_both}
use Rattle.history.proofs.Removals.{home_node, nodes_ok, cells_ok, room_is, last, cells_number, nodes_number, root_stays}
use Rattle.history.proofs.Removing.{pruned, removed}

-- either order of two tests
swap : (x y : Bool) → x && y ≡ y && x
swap true true = refl
swap true false = refl
swap false true = refl
swap false false = refl

-- the ledger that a removal leaves
abbrev pub left_by : ℕ → ℕ → Ledger Cell → ℕ → ℕ → Option Cell → Ledger Cell
left_by N D g key len none = g
left_by N D g key len (some old) = cond (remove_room N D g key len) (entered N D (del key len) g) g

module _ {N D : ℕ} {g : Ledger Cell} {s : State} {m : Memory} (b : Booked N D g s m) (key len : ℕ) (prefix : IsPrefix key len) (shown : masked key len ≡ key) where
  abbrev rs : Rules Cell
  rs = g.rules

  abbrev end : ℕ
  end = len / stride

  -- ---- the rule is stored

  module _ (old : Cell) (stored : value_at rs key len ≡ some old) (t : Trail) (walked : Filled b.E b.R b.es b.vs key (node_count rs key len) t.places t.nodes) where
    abbrev x : MultiBitNode
    x = home_node b key len prefix old stored

    counted : node_count rs key len ≡ suc end
    counted = count_live rs key len old prefix.short stored

    -- both numbers are the ledger's, in whichever order they are asked
    room : remove_room N D g key len ≡ cells_ok b key len prefix old stored && nodes_ok b key len prefix old stored
    room = room_is b key len prefix old stored ∙ swap (nodes_ok b key len prefix old stored) (cells_ok b key len prefix old stored)

    -- the root never goes, whatever the flag says
    flagged : pruned b key len prefix old stored t.places t.nodes walked (last_rule x) ≡ pruned b key len prefix old stored t.places t.nodes walked (ltb 0 (emptied rs key len))
    flagged = go (dec_lt 0 end)
      where
        go : Dec (0 < end) → pruned b key len prefix old stored t.places t.nodes walked (last_rule x) ≡ pruned b key len prefix old stored t.places t.nodes walked (ltb 0 (emptied rs key len))
        go (yes h) = ap (pruned b key len prefix old stored t.places t.nodes walked) (last b key len prefix old stored h)
        go (no h) = root_stays end (omega arith) s.nodes _ m.node_free t.places t.nodes key (last_rule x) (ltb 0 (emptied rs key len))

    lifted : Done N D (cond (remove_room N D g key len) (entered N D (del key len) g) g) (cond (remove_room N D g key len) (Removed (masked key len) len old.value) NoRoom)
        (taken_of s m key len t end x)
    unfolding taken_of
    lifted =
        let c = cell_there b.image b.proper b.tree key len old prefix stored in
        rw (
          ne_eqb s.rules 0 (λ z. omega (arith, b.count, rules_some rs key len old stored)),
          cells_number b key len prefix old stored,
          nodes_number b key len prefix old stored t.places t.nodes walked,
          walked.place end (omega (arith, counted)),
          c.1,
          flagged,
          room,
        )
        (settle_both b (entered N D (del key len) g) (Removed (masked key len) len old.value) (cells_ok b key len prefix old stored) (nodes_ok b key len prefix old stored) _
        (λ e f. record {
          answer = rw shown refl;
          booked = removed b key len prefix old stored t.places t.nodes walked (room ∙ (rw (e, f) refl)) e f (ltb 0 (emptied rs key len)) refl;
        }))

  -- ---- where the walk ends

  -- what a removal makes of the trail: level i is the last of the path that is there
  abbrev ends : Trail → ℕ → Edited × Memory
  ends t i =
      cond (leb (depth i + stride) len) (refuse 2 s m)
      (cond (has (node_of b.E b.R b.es b.vs (path_no key i)).data_bitmap (data_bit key len))
      (taken_of s m key len t i (node_of b.E b.R b.es b.vs (path_no key i))) (refuse 2 s m))

  ended : (t : Trail) → Filled b.E b.R b.es b.vs key (node_count rs key len) t.places t.nodes → (i : ℕ) → node_count rs key len ≡ suc i
      → (o : Option Cell) → value_at rs key len ≡ o → Done N D (left_by N D g key len o) (taken key len (remove_room N D g key len) o) (ends t i)
  ended t walked i short none e = go (dec_lt i end)
    where
      go : Dec (i < end) → Done N D g (Missing 0) (ends t i)
      go (yes h) = rw (le-leb (depth i + stride) len (omega arith)) (record { answer = refl; booked = b })
      go (no h) =
          let z : i ≡ end = omega (arith, count_path rs key len prefix.short) in
          rw (lt-leb (depth i + stride) len (omega arith), z, data_live b.es b.vs b.tree key len prefix ∙ ap is_some e) (record { answer = refl; booked = b })
  ended t walked i short (some old) e =
      let z : i ≡ end = omega (arith, count_live rs key len old prefix.short e) in
      rw (lt-leb (depth i + stride) len (omega arith), z, data_live b.es b.vs b.tree key len prefix ∙ ap is_some e) (lifted old e t walked)

-- ---- the whole removal

module _ {N D : ℕ} {g : Ledger Cell} {s : State} {m : Memory} (b : Booked N D g s m) (key len : ℕ) (prefix : IsPrefix key len) where
  abbrev k : ℕ
  k = masked key len

  abbrev deepest : ℕ
  deepest = node_count g.rules k len - 1

  found : (t : Trail) × (trail_of m.nodes s.nodes.mark k len ≡ Ok t) × Walked b.E b.R b.es b.vs k (node_count g.rules k len) t
  found = trail_is b.image b.proper b.tree k len (masked_prefix key len prefix)

  abbrev trail : Trail
  trail = found.0

  abbrev walked : Walked b.E b.R b.es b.vs k (node_count g.rules k len) found.0
  walked = found.2

  walks : remove_of s m key len ≡ ends b k len (masked_prefix key len prefix) (masked_again key len) trail deepest
  unfolding remove_of walked_of
  walks =
      let z : depth deepest / stride ≡ deepest = omega arith in
      let r = count_root g.rules k len in
      rw (edit_first_lem b key len prefix.short, found.1, walked.ends, z, walked.path.node deepest (omega arith)) refl

  -- A REMOVAL leaves what the ledger says: not stored, removed, or refused for room exactly where a block can't be supplied
  pub remove_done : (o : Option Cell) → value_at g.rules key len ≡ o
      → Done N D (left_by N D g key len o) (taken key len (remove_room N D g key len) o) (remove_of s m key len)
  remove_done o e =
      let r = count_root g.rules k len in
      let d = ended b k len (masked_prefix key len prefix) (masked_again key len) trail walked.path deepest (omega arith) o (value_masked key len prefix.short g.rules ∙ e) in
      rw walks (done_as (kept o) (same o) d)
    where
      same : (o : Option Cell) → taken k len (remove_room N D g k len) o ≡ taken key len (remove_room N D g key len) o
      same none = refl
      same (some old) = rw (masked_again key len, remove_masked key len prefix.short N D g) refl

      kept : (o : Option Cell) → left_by N D g k len o ≡ left_by N D g key len o
      kept none = refl
      kept (some old) = rw (del_entered key len prefix.short N D g, remove_masked key len prefix.short N D g) refl
