-- The way up after a removal, turn by turn: what is left to ask or to write gives the result of the whole. Assumes nothing.
use mathlib.Core.Path.{◌≡◌, refl, sym, ap, ◌∙◌}
use mathlib.Core.Bool.{Bool, true, false, ◌&&◌}
use mathlib.Core.List.{List}
use Prim.Native.Nat.{ℕ, zero, suc, ◌-◌, ◌*◌, ◌<◌, ◌≤◌}
use native.Mathlib.Nat.{not-suc-le-zero}
use native.Mathlib.Omega.{arith}
use borrow.Author.Tests.{ne_eqb, leb-true}
use lib.Dec.{leb, eqb}
use lib.ListN.{length, get_or}
use lib.Seq.{set-get_or, get_or-set_same}
use Rattle.bits.specs.Bits.{count}
use Rattle.tiers.specs.Tiers.{stride, child_top}
use Rattle.node.specs.declared.MultiBitNode.{MultiBitNode}
use Rattle.node.specs.Nodes.{empty_node}
use Rattle.blocks.specs.declared.Pool.{Pool}
use Rattle.blocks.specs.Blocks.{Asked}
use Rattle.blocks.specs.Growth.{shrink_ask_of, shrink_of}
use Rattle.blocks.specs.Asks.{shrink_found}
use Rattle.blocks.proofs.Shape.{InShape}
use Rattle.blocks.proofs.Climb.{like_same, shrink_same, Climbed, found, climbed_shrink, climbed_pool, climbed_back}
use Rattle.edits.specs.Removing.{last_child, up_of, prune_ask_of, prune_of}

-- an entry within a list is the same for every default
pub within_list : {A : Type 0} (l : List A) (i : ℕ) (a b : A) → i < length l → get_or l i a ≡ get_or l i b
within_list {A} l i a b h = ap (λ (m : List A). get_or m i a) (sym (set-get_or l i b)) ∙ get_or-set_same l i (get_or l i b) a h

-- where no single has come back, the number on the list as found is that of the shrinkage
pub ask_alone : (p : Pool) (top lim : ℕ) (l : List ℕ) (old c : ℕ) → shrink_found p top lim l false old c ≡ shrink_ask_of p top lim l old c
ask_alone p top lim l old c = sym (shrink_same p top lim l l false (like_same p top lim l) old c)

-- a turn of the ask: the pool q after the steps so far, on some running list; where a parent is to be asked, the list is the one as
-- found with singles returned to it; r is the number of the whole
pub record Asking (lim : ℕ) (l : List ℕ) (path : List MultiBitNode) (r i : ℕ) (q : Pool) (go spare : Bool) : Type 0 where
  pub running : List ℕ
  pub like : go ≡ true → Climbed child_top lim l q running spare
  pub rest : prune_ask_of i q lim running path go ≡ r

-- at the start the running list is the one as found
pub ask_start :
    (lim : ℕ) (l : List ℕ) (path : List MultiBitNode) (i : ℕ) (p : Pool) (bare : Bool) → InShape p child_top l
    → Asking lim l path (prune_ask_of i p lim l path bare) i p bare false
ask_start lim l path i p bare h = record { running = l; like = λ _. found h; rest = refl }

-- a node that goes with its last child had one child at most
last_one : (x : MultiBitNode) → last_child x ≡ true → count x.child_bitmap ≤ 1
last_one x e = go (leb (count x.child_bitmap) 1) refl e
  where
    go : (b : Bool) → leb (count x.child_bitmap) 1 ≡ b → b && eqb x.data_bitmap 0 ≡ true → count x.child_bitmap ≤ 1
    go true a _ = leb-true _ 1 a
    go false a h = let z : ◌≡◌ {A = ℕ} 0 1 = cc in absurd (omega arith)

module _ (lim : ℕ) (l : List ℕ) (path : List MultiBitNode) (r : ℕ) where
  -- nothing is asked of a node that isn't left empty
  pub ask_stop : (i : ℕ) {q : Pool} {go spare : Bool} → Asking lim l path r i q go spare → go ≡ false → 0 ≡ r
  unfolding prune_ask_of
  ask_stop zero a e = a.rest
  ask_stop (suc i) a e = rw e at a.rest

  -- nor of the root
  pub ask_end : (i : ℕ) {q : Pool} {go spare : Bool} → Asking lim l path r i q go spare → i ≤ 0 → 0 ≡ r
  unfolding prune_ask_of
  ask_end zero a e = a.rest
  ask_end (suc i) a e = absurd (not-suc-le-zero e)

  -- the parent x is asked, on the list as found: n is the number
  module _ (q : Pool) (go spare : Bool) (x : MultiBitNode) (c n : ℕ) (ec : c ≡ count x.child_bitmap)
      (en : n ≡ (shrink_found q child_top lim l spare x.children_idx.0 c).number) where
    -- a parent that is refused decides
    pub ask_no : (i : ℕ) → Asking lim l path r i q go spare → 0 < i → go ≡ true → x ≡ get_or path (i - 1) empty_node → 0 < n → n ≡ r
    unfolding prune_ask_of
    ask_no zero a h t ex f = absurd (not-suc-le-zero h)
    ask_no (suc i) a h t ex f =
        let w : suc i - 1 ≡ i = omega arith in
        let y : x ≡ get_or path i empty_node = rw w at ex in
        let s = (rw ec at en) ∙ ap (λ (g : Asked). g.number) (sym (climbed_shrink child_top lim l (a.like t) x.children_idx.0 (count x.child_bitmap))) in
        let z = ne_eqb n 0 (λ o. omega arith) in
        simp (t, ← y, ← s, z) at a.rest

    -- one that is allowed leaves the rest of the way, with a single more where it is left empty
    pub ask_on :
        (i : ℕ) → Asking lim l path r i q go spare → 0 < i → go ≡ true → x ≡ get_or path (i - 1) empty_node → n ≡ 0
        → {q₂ : Pool} → q₂ ≡ (shrink_found q child_top lim l spare x.children_idx.0 c).pool → {z : Bool} → z ≡ last_child x
        → Asking lim l path r (i - 1) q₂ z true
    unfolding prune_ask_of
    ask_on zero a h t ex f ep ez = absurd (not-suc-le-zero h)
    ask_on (suc i) a h t ex f ep ez =
        let w : suc i - 1 ≡ i = omega arith in
        let y : x ≡ get_or path i empty_node = rw w at ex in
        let b = count x.child_bitmap in
        let k = a.like t in
        let f' = sym (rw ec at en) ∙ f in
        let s = ap (λ (g : Asked). g.number) (climbed_shrink child_top lim l k x.children_idx.0 b) ∙ f' in
        let e = (rw ec at ep) ∙ climbed_pool child_top lim l k x.children_idx.0 b f' in
        rw (w, e, ez)
        (record {
          running = (shrink_of q child_top a.running x.children_idx.0 b).1;
          like = λ h. climbed_back child_top lim l k x.children_idx.0 b (last_one x h) f';
          rest = simp (t, ← y, s) at a.rest;
        })

module _ (places : List ℕ) (path : List MultiBitNode) (key : ℕ) (r : Pool × List ℕ × List ℕ) where
  -- a parent that loses its child leaves the rest of the way
  pub up_on :
      (i : ℕ) (q : Pool) (l f : List ℕ) (go : Bool) → 0 < i → go ≡ true → prune_of i q l f places path key go ≡ r
      → {x : MultiBitNode} → x ≡ get_or path (i - 1) empty_node → {at : ℕ} → at ≡ get_or places (i - 1) 0
      → {q₂ : Pool} {l₂ f₂ : List ℕ} → (q₂, l₂, f₂) ≡ up_of q l f at x ((i - 1) * stride) key
      → {z : Bool} → z ≡ last_child x → prune_of (i - 1) q₂ l₂ f₂ places path key z ≡ r
  unfolding prune_of
  up_on zero q l f go h t v ex ea eu ez = absurd (not-suc-le-zero h)
  up_on (suc i) q l f go h t v ex ea eu ez =
      let w : suc i - 1 ≡ i = omega arith in
      let o : i * stride ≡ stride * i = omega arith in
      rw w (simp (t, ← (rw w at ex), ← (rw w at ea), ← (rw (w, o) at eu), ← ez) at v)

  -- nothing is written above a node that isn't left empty
  pub up_stop : (i : ℕ) (q : Pool) (l f : List ℕ) (go : Bool) → go ≡ false → prune_of i q l f places path key go ≡ r → (q, l, f) ≡ r
  unfolding prune_of
  up_stop zero q l f go t v = v
  up_stop (suc i) q l f go t v = simp t at v

  -- nor at the root
  pub up_end : (i : ℕ) (q : Pool) (l f : List ℕ) (go : Bool) → i ≤ 0 → prune_of i q l f places path key go ≡ r → (q, l, f) ≡ r
  unfolding prune_of
  up_end zero q l f go h v = v
  up_end (suc i) q l f go h v = absurd (not-suc-le-zero h)
