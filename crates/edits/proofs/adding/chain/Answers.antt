-- `edits::adding::chain` meets its contract: each turn writes one node of the chain. Assumes nothing.
use mathlib.Core.Path.{◌≡◌, refl}
use mathlib.Core.List.{List}
use Prim.Native.Nat.{ℕ, zero, suc, ◌+◌, ◌-◌, ◌*◌, ◌<◌}
use native.Mathlib.Omega.{arith}
use Rattle.bits.specs.Bits.{with_bit}
use Rattle.tiers.specs.Tiers.{stride, child_top}
use Rattle.places.specs.Places.{child_bit}
use Rattle.node.specs.declared.MultiBitNode.{MultiBitNode}
use Rattle.node.specs.Nodes.{empty_node}
use Rattle.blocks.specs.declared.Pool.{Pool}
use Rattle.blocks.specs.declared.Block.{Block}
use Rattle.blocks.specs.Blocks.{take_of}
use Rattle.store.specs.Words.{save_node}
use Rattle.edits.specs.declared.Made.{Made}
use Rattle.edits.specs.Nodes.{with_children}
use Rattle.edits.specs.Adding.{chain_of}
use Rattle.edits.proofs.adding.chain.Goals as goal

-- one node of the chain, the i-th of n, where m are left: x is what the whole chain gives
chain_on :
    (n i key depth m : ℕ) (q : Pool) (l f : List ℕ) (low : ℕ) {x : Made × List ℕ × List ℕ} {next b w : ℕ} {g : Block} {f₂ l₁ l₂ : List ℕ} {e e₂ y : MultiBitNode}
    → i < n → m ≡ n - i → chain_of m q l f low (depth + i * stride) key ≡ x
    → b ≡ child_bit (depth + i * stride) key → (g, f₂) ≡ take_of q child_top f 0 → next ≡ g.start
    → e ≡ empty_node → l₁ ≡ save_node l next e → e₂ ≡ empty_node → w ≡ with_bit 0 b → y ≡ with_children e₂ w g.start → l₂ ≡ save_node l₁ low y
    → chain_of (n - (i + 1)) g.pool l₂ f₂ next (depth + (i + 1) * stride) key ≡ x
unfolding chain_of
chain_on n i key depth zero q l f low h em v eb eg en ee el ee₂ ew ey el₂ = absurd (omega arith)
chain_on n i key depth (suc m) q l f low h em v eb eg en ee el ee₂ ew ey el₂ =
    let k : n - (i + 1) ≡ m = omega arith in
    let d : depth + (i + 1) * stride ≡ depth + i * stride + stride = omega arith in
    simp (k, d, el₂, el, ey, ee₂, ee, ew, eb, en) (simp (← eg) at v)

pub loop-i-preserved : goal.loop-i-preserved
loop-i-preserved c =
    let l = c.loop-i in
    let a = c.args in (
      omega (arith, c.wide-next.ensures, c.take-g.type_inv),
      chain_on a.n l.i a.key a.depth (a.n - l.i) l.q l.nodes l.list l.low c.loop-i-test.true refl l.invariant.1 c.child_bit-bit.ensures c.take-g.ensures c.wide-next.ensures
          c.empty.ensures c.save.ensures c.empty-in-loop-i.ensures c.set_bit.ensures c.with.ensures c.save-in-loop-i.ensures,
    )
