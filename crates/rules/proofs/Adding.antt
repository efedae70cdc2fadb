-- One rule more: what an insert of a new prefix adds to nodes and counts, and what a removal takes away, said once for both. Assumes nothing.
use mathlib.Core.Path.{◌≡◌, refl, sym, ap, ◌∙◌, subst}
use mathlib.Core.Bool.{Bool, true, false, ◌||◌, and-eq-true_iff, or-false, or_comm}
use mathlib.Core.Option.{none, some, none-ne-some}
use mathlib.Core.List.{[], ◌∷◌}
use Prim.Native.Nat.{ℕ, suc, ◌+◌, ◌-◌, ◌*◌, ◌/◌, ◌%◌, ◌^◌, ◌≤◌, ◌<◌}
use native.Mathlib.Decide.{dec_le}
use native.Mathlib.Omega.{arith}
use lib.Dec.{eqb}
use borrow.Author.Tests.{eqb-true, eq-eqb}
use Rattle.bits.specs.Bits.{one}
use Rattle.prefix.specs.Prefix.{width, first, masked}
use Rattle.prefix.proofs.Masking.{masked_same, masked_again, first_first, first_fewer}
use Rattle.prefix.proofs.Ordering.{Same}
use Rattle.prefix.proofs.Covering.{fails}
use Rattle.tiers.specs.Tiers.{stride}
use Rattle.rules.specs.Rules.{Rule, Rules, put, del, same, value_at, without, edited, IsPrefix, Proper}
use Rattle.rules.specs.Nodes.{depth, home, passes, lives_at, passed, node, data_count, child_count, node_count}
use Rattle.rules.specs.Ledger.{data_on}
use Rattle.rules.proofs.Tests.{clash, agree, or_left, or_right}
use Rattle.rules.proofs.Sums.{sum_same, sum_zero, sum_at}
use Rattle.rules.proofs.Live.{same_true, same_refl, value_same, value_gone, without_none}
use Rattle.rules.proofs.NodeSet.{passes_true, node_parent, node_deep, node_put, node_del}
use Rattle.rules.proofs.Paths.{count_whole}

-- the rules rs' are the rules rs and one more, for the prefix (k, l): its nodes and its place in one of them
pub record Adds {Value : Type 0} (k l : ℕ) (rs rs' : Rules Value) : Type 0 where
  pub nodes : (d b : ℕ) → node rs' d b ≡ node rs d b || passes k l d b
  pub data' : (d b : ℕ) → data_count rs' d b ≡ data_count rs d b + one (lives_at k l d b)

-- the test holds only where the node has the prefix's home depth and bits
pub lives_true : (k l d b : ℕ) → lives_at k l d b ≡ true → (home l ≡ d) × (first d k ≡ b)
lives_true k l d b e =
    let h = (and-eq-true_iff (eqb (home l) d) (eqb (first d k) b)).0 e in
    (eqb-true (home l) d h.0, eqb-true (first d k) b h.1)

-- and where it has, the test holds
pub lives_is : (k l d b : ℕ) → home l ≡ d → first d k ≡ b → lives_at k l d b ≡ true
lives_is k l d b h e = (and-eq-true_iff (eqb (home l) d) (eqb (first d k) b)).1 (eq-eqb (home l) d h, eq-eqb (first d k) b e)

-- the same prefix lives in the same node
pub lives_same : (p l q m d b : ℕ) → Same p l q m → lives_at p l d b ≡ lives_at q m d b
lives_same p l q m d b s = agree (lives_at p l d b) (lives_at q m d b)
    (λ e. let h = lives_true p l d b e in lives_is q m d b (ap home (sym s.len) ∙ h.0) (sym (bits h.0) ∙ h.1))
    (λ e. let h = lives_true q m d b e in let g : home l ≡ d = ap home s.len ∙ h.0 in lives_is p l d b g (bits g ∙ h.1))
  where
    bits : home l ≡ d → first d p ≡ first d q
    bits h = first_fewer p q d l (omega arith) ((masked_same p q l).0 (s.key ∙ ap (masked q) (sym s.len)))

module _ {Value : Type 0} where
  -- what a removal takes from a node's data
  data_without : (rs : Rules Value) → Proper rs → (k l : ℕ) (v : Value) → value_at rs k l ≡ some v → (d b : ℕ)
      → data_count rs d b ≡ data_count (without k l rs) d b + one (lives_at k l d b)
  unfolding data_count without value_at
  data_without [] p k l v e d b = absurd (none-ne-some v e)
  data_without (r ∷ rs) p k l v e d b = go (same r.key r.len k l) refl (λ w. data_without rs p.1 k l v w d b)
    where
      go : (x : Bool) → same r.key r.len k l ≡ x
          → (value_at rs k l ≡ some v → data_count rs d b ≡ data_count (without k l rs) d b + one (lives_at k l d b))
          → one (lives_at r.key r.len d b) + data_count rs d b ≡ data_count (without k l (r ∷ rs)) d b + one (lives_at k l d b)
      go true s ih =
          let t = (same_true r.key r.len k l).0 s in
          let n : value_at rs k l ≡ none = sym (value_same rs r.key r.len k l t) ∙ p.0.once in
          rw (s, without, without_none rs k l n, lives_same r.key r.len k l d b t) (omega arith)
      go false s ih = rw (s, without, data_count) (omega (arith, ih (rw (s, value_at) at e)))

  -- an insert of a new prefix adds it
  pub adds_put : (rs : Rules Value) (k l : ℕ) (v : Value) → value_at rs k l ≡ none → Adds k l rs (edited (put k l v) rs)
  adds_put rs k l v e = record { nodes = node_put rs k l v; data' = λ d b. counts d b }
    where
      counts : (d b : ℕ) → data_count (edited (put k l v) rs) d b ≡ data_count rs d b + one (lives_at k l d b)
      counts d b = unfold edited data_count in
          rw (without_none rs k l e, lives_same (masked k l) l k l d b (record { key = masked_again k l; len = refl })) (omega arith)

  -- a removal of a stored one leaves the rules to which it was added
  pub adds_del : (rs : Rules Value) → Proper rs → (k l : ℕ) (v : Value) → value_at rs k l ≡ some v → Adds k l (edited (del k l) rs) rs
  adds_del rs p k l v e = record { nodes = node_del rs k l v e; data' = λ d b. unfold edited in data_without rs p k l v e d b }

  -- a rule in front of others is one more
  pub adds_front : (r : Rule Value) (rs : Rules Value) → Adds r.key r.len rs (r ∷ rs)
  adds_front r rs = record { nodes = nodes; data' = λ d b. unfold data_count in omega arith }
    where
      turn : (x y z : Bool) → x || (y || z) ≡ (x || z) || y
      turn true y z = refl
      turn false y z = or_comm y z

      nodes : (d b : ℕ) → node (r ∷ rs) d b ≡ node rs d b || passes r.key r.len d b
      nodes d b = unfold node passed in turn (eqb d 0) (passes r.key r.len d b) (passed rs d b)

  -- so does a replacement: the rules without the prefix are those to which it is added, before and after
  pub adds_again : (rs : Rules Value) (k l : ℕ) (v : Value) → Adds k l (edited (del k l) rs) (edited (put k l v) rs)
  adds_again rs k l v = unfold edited in
      subst (λ (x : Rules Value). Adds k l (without k l rs) (record { key = masked k l; len = l; value = v } ∷ x))
      (without_none (without k l rs) k l gone)
      (adds_put (without k l rs) k l v gone)
    where
      gone : value_at (without k l rs) k l ≡ none
      gone = value_gone rs k l k l (same_refl k l)

  -- rules with one more in common have the same nodes and counts
  pub adds_same : {k l : ℕ} {rs rs' rs'' : Rules Value} → Adds k l rs rs' → Adds k l rs rs''
      → ((d b : ℕ) → node rs'' d b ≡ node rs' d b) × ((d b : ℕ) → child_count rs'' d b ≡ child_count rs' d b) × ((d b : ℕ) → data_count rs'' d b ≡ data_count rs' d b)
  unfolding child_count
  adds_same {rs' = rs'} {rs'' = rs''} p q =
      let n : (d b : ℕ) → node rs'' d b ≡ node rs' d b = λ d b. q.nodes d b ∙ sym (p.nodes d b) in
      (n, λ d b. sum_same (2 ^ stride) _ _ (λ c h. ap one (n (d + stride) (b * 2 ^ stride + c))), λ d b. q.data' d b ∙ sym (p.data' d b))

  -- ---- counts of nodes that don't exist

  -- where there is no node, there is no child
  pub childless : (rs : Rules Value) → Proper rs → (d b : ℕ) → node rs d b ≡ false → child_count rs d b ≡ 0
  unfolding child_count
  childless rs p d b n =
      sum_zero (2 ^ stride) _ (λ c h. ap one (fails (node rs (d + stride) (b * 2 ^ stride + c)) (λ e. go c h e (dec_le (d + stride) width))))
    where
      go : (c : ℕ) → c < 2 ^ stride → node rs (d + stride) (b * 2 ^ stride + c) ≡ true → Dec (d + stride ≤ width) → ⊥
      go c h e (yes w) = clash (node rs d b) (node_parent rs d b c w h e) n
      go c h e (no w) = clash (node rs (d + stride) (b * 2 ^ stride + c)) e (node_deep rs p (d + stride) (b * 2 ^ stride + c) (omega arith))

  -- nor a rule
  pub dataless : (rs : Rules Value) (d b : ℕ) → node rs d b ≡ false → data_count rs d b ≡ 0
  unfolding data_count node passed
  dataless [] d b n = refl
  dataless (r ∷ rs) d b n = go (lives_at r.key r.len d b) refl (dataless rs d b)
    where
      go : (x : Bool) → lives_at r.key r.len d b ≡ x → (node rs d b ≡ false → data_count rs d b ≡ 0)
          → one (lives_at r.key r.len d b) + data_count rs d b ≡ 0
      go true e ih =
          let h = lives_true r.key r.len d b e in
          clash (node (r ∷ rs) d b) (or_right (eqb d 0) _ (or_left _ _ ((passes_true r.key r.len d b).1 (omega (arith, h.0), h.1)))) n
      go false e ih =
          rw (e, ih (fails (node rs d b) (λ w. clash (node (r ∷ rs) d b) (or_more (eqb d 0) (passes r.key r.len d b) (passed rs d b) w) n)))
        where
          or_more : (x y z : Bool) → x || z ≡ true → x || (y || z) ≡ true
          or_more true y z e = refl
          or_more false true z e = refl
          or_more false false z e = e

  -- ---- counts beside one rule more

  module _ {k l : ℕ} {rs rs' : Rules Value} (prefix : IsPrefix k l) (adds : Adds k l rs rs') where
    -- all nodes of the prefix's path are there
    pub path_there : (j : ℕ) → j ≤ l / stride → node rs' (depth j) (first (depth j) k) ≡ true
    path_there j h =
        adds.nodes (depth j) (first (depth j) k)
        ∙ or_right (node rs (depth j) (first (depth j) k)) _ ((passes_true k l (depth j) (first (depth j) k)).1 (omega arith, refl))

    -- as many as there are depths
    pub path_count : node_count rs' k l ≡ suc (l / stride)
    path_count = count_whole rs' k l prefix.short path_there

    -- the node where the prefix lives holds one rule more
    pub data_more : data_on rs' k l ≡ suc (data_on rs k l)
    data_more = adds.data' (home l) (first (home l) k) ∙ (rw (lives_is k l (home l) (first (home l) k) refl refl) (omega arith))

    -- the bits of the path's next node begin with the node's own
    next : (d : ℕ) → d + stride ≤ l → first d k ≡ first (d + stride) k / 2 ^ stride
    next d h =
        let e : (width - d) - (width - (d + stride)) ≡ stride = omega (arith, prefix.short) in
        first_first k d (d + stride) (omega arith) ∙ ap (λ (x : ℕ). first (d + stride) k / 2 ^ x) e

    -- a node that the prefix doesn't pass is there or not, as it was
    pub node_off : (d b : ℕ) → (passes k l d b ≡ true → ⊥) → node rs' d b ≡ node rs d b
    node_off d b n = adds.nodes d b ∙ ap (λ (x : Bool). node rs d b || x) (fails (passes k l d b) n) ∙ or-false (node rs d b)

    -- a node that isn't on the path, or is at its end, keeps its children
    pub children_off : (d b : ℕ) → (d + stride ≤ l → first d k ≡ b → ⊥) → child_count rs' d b ≡ child_count rs d b
    unfolding child_count
    children_off d b off = sum_same (2 ^ stride) _ _ (λ c h. ap one (node_off (d + stride) (b * 2 ^ stride + c) (no_pass c h)))
      where
        no_pass : (c : ℕ) → c < 2 ^ stride → passes k l (d + stride) (b * 2 ^ stride + c) ≡ true → ⊥
        no_pass c h e =
            let g = (passes_true k l (d + stride) (b * 2 ^ stride + c)).0 e in
            off g.0 (next d g.0 ∙ ap (λ (x : ℕ). x / 2 ^ stride) g.1 ∙ (omega arith))

    -- and so does a node whose child on the path was there
    pub children_kept : (d : ℕ) → node rs (d + stride) (first (d + stride) k) ≡ true → child_count rs' d (first d k) ≡ child_count rs d (first d k)
    unfolding child_count
    children_kept d n =
        sum_same (2 ^ stride) _ _ (λ c h. ap one (kept (first d k * 2 ^ stride + c)))
      where
        absorb : (x y : Bool) → (y ≡ true → x ≡ true) → x || y ≡ x
        absorb true y f = refl
        absorb false true f = sym (f refl)
        absorb false false f = refl

        kept : (b : ℕ) → node rs' (d + stride) b ≡ node rs (d + stride) b
        kept b =
            adds.nodes (d + stride) b
            ∙ absorb (node rs (d + stride) b) (passes k l (d + stride) b)
            (λ e. ap (node rs (d + stride)) (sym ((passes_true k l (d + stride) b).0 e).1) ∙ n)

    -- one whose child on the path was missing has one more
    pub children_more : (d : ℕ) → d + stride ≤ l → node rs (d + stride) (first (d + stride) k) ≡ false
        → child_count rs' d (first d k) ≡ suc (child_count rs d (first d k))
    unfolding child_count
    children_more d h n =
        omega (
          arith,
          sum_at (2 ^ stride) i (λ c. one (node rs' (d + stride) (first d k * 2 ^ stride + c))) (λ c. one (node rs (d + stride) (first d k * 2 ^ stride + c))) low rest,
          new,
          old,
        )
      where
        i : ℕ
        i = first (d + stride) k % 2 ^ stride

        low : i < 2 ^ stride
        low = omega arith

        here : first d k * 2 ^ stride + i ≡ first (d + stride) k
        here = omega (arith, next d h)

        new : one (node rs' (d + stride) (first d k * 2 ^ stride + i)) ≡ 1
        new =
            let p = (passes_true k l (d + stride) (first (d + stride) k)).1 (h, refl) in
            ap one (ap (node rs' (d + stride)) here ∙ adds.nodes (d + stride) (first (d + stride) k) ∙ or_right (node rs (d + stride) (first (d + stride) k)) _ p)

        old : one (node rs (d + stride) (first d k * 2 ^ stride + i)) ≡ 0
        old = ap one (ap (node rs (d + stride)) here ∙ n)

        rest : (c : ℕ) → c < 2 ^ stride → (i ≡ c → ⊥)
            → one (node rs' (d + stride) (first d k * 2 ^ stride + c)) ≡ one (node rs (d + stride) (first d k * 2 ^ stride + c))
        rest c m ne =
            ap one (node_off (d + stride) (first d k * 2 ^ stride + c) (λ e. ne (omega (arith, ((passes_true k l (d + stride) (first d k * 2 ^ stride + c)).0 e).1))))
