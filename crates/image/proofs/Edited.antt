-- What an accepted edit makes of a tree: an insert of a new rule, a replacement, a removal. Assumes nothing.
use mathlib.Core.Path.{◌≡◌, refl, sym, ap, ap₂, ◌∙◌}
use mathlib.Core.Logic.{◌⊎◌, inl, inr, ⊎_elim}
use mathlib.Core.Bool.{Bool, true, false, cond}
use mathlib.Core.Option.{Option, none, some, none-ne-some}
use Prim.Native.Nat.{ℕ, suc, ◌+◌, ◌-◌, ◌/◌, ◌^◌, ◌≤◌, ◌<◌}
use native.Mathlib.Decide.{ℕ_discrete, dec_le}
use native.Mathlib.Omega.{arith}
use lib.Dec.{eqb}
use borrow.Author.Tests.{eqb-true, eq-eqb, lt-ltb}
use Rattle.prefix.specs.Prefix.{first, masked}
use Rattle.prefix.proofs.Masking.{masked_same}
use Rattle.tiers.specs.Tiers.{stride}
use Rattle.rules.specs.Rules.{Rules, put, del, same, value_at, is_some, is_live, without, edited, IsPrefix, Proper}
use Rattle.rules.specs.Nodes.{depth, passes, node, node_count}
use Rattle.rules.specs.Ledger.{emptied}
use Rattle.rules.proofs.Tests.{clash, agree, or_cases, or_left, or_right}
use Rattle.rules.proofs.Live.{same_true, value_put, value_del}
use Rattle.rules.proofs.NodeSet.{passes_true, node_put, node_del}
use Rattle.rules.proofs.Paths.{path_node}
use Rattle.rules.proofs.Adding.{adds_del, adds_again, adds_same}
use Rattle.pools.specs.Items.{upd}
use Rattle.pools.proofs.Items.{upd_same, upd_other}
use Rattle.image.specs.Numbers.{node_no, rule_no, with_path, without_path}
use Rattle.image.specs.Tree.{Tree}
use Rattle.image.proofs.Paths.{node_inj, path_low, rule_inj, rule_bits}
use Rattle.image.proofs.Chains.{Between, more_cases, less_cases, with_path_lem, without_path_lem}
use Rattle.image.proofs.Bare.{emptied_le, gone, left}

-- ---- a change at one rule

-- prefixes are the same exactly where their rules have one number
pub rule_same : (k l p m : ℕ) → IsPrefix k l → IsPrefix p m → eqb (rule_no k l) (rule_no p m) ≡ same k l p m
rule_same k l p m hk hp = agree (eqb (rule_no k l) (rule_no p m)) (same k l p m)
    (λ e.
    let h = rule_inj k l p m hk hp (eqb-true (rule_no k l) (rule_no p m) e) in
    (same_true k l p m).1 (record { key = (masked_same k p l).1 h.1 ∙ ap (masked p) h.0; len = h.0 }))
    (λ e.
    let s = (same_true k l p m).0 e in
    let b : first l k ≡ first l p = (masked_same k p l).0 (s.key ∙ ap (masked p) (sym s.len)) in
    eq-eqb (rule_no k l) (rule_no p m) (rule_bits k p l b ∙ ap (rule_no p) s.len))

-- a function changed at one rule has the new value for that prefix alone
pub upd_rule : {A : Type 0} (f : ℕ → A) (x : A) (k l p m : ℕ) → IsPrefix k l → IsPrefix p m
    → upd f (rule_no k l) x (rule_no p m) ≡ cond (same k l p m) x (f (rule_no p m))
unfolding upd
upd_rule f x k l p m hk hp = rw (rule_same k l p m hk hp)

-- a change to what is there already changes nothing
upd_own : {A : Type 0} (f : ℕ → A) (i j : ℕ) (x : A) → f i ≡ x → upd f i x j ≡ f j
upd_own f i j x e = go (ℕ_discrete i j)
  where
    go : Dec (i ≡ j) → upd f i x j ≡ f j
    go (yes h) = rw (← h) (upd_same f i x ∙ sym e)
    go (no h) = upd_other f i j x h

module _ {Value : Type 0} where
  -- there is a value or not, as in the case that holds
  some_cond : (b : Bool) (x o : Option Value) → is_some (cond b x o) ≡ cond b (is_some x) (is_some o)
  some_cond true x o = refl
  some_cond false x o = refl

  module _ {rs : Rules Value} {E D : ℕ → Bool} {val : ℕ → Value} (proper : Proper rs) (tree : Tree rs E D val) where
    -- where an edit gives one prefix x and leaves every other as it was, the rules change at its number alone
    rule_changed : (rs' : Rules Value) (key len : ℕ) (x : Option Value) → IsPrefix key len
        → ((p m : ℕ) → value_at rs' p m ≡ cond (same key len p m) x (value_at rs p m)) → (p m : ℕ) → IsPrefix p m
        → upd D (rule_no key len) (is_some x) (rule_no p m) ≡ is_live rs' p m
    rule_changed rs' key len x prefix e p m hp =
        upd_rule D (is_some x) key len p m prefix hp
        ∙ ap (cond (same key len p m) (is_some x)) (tree.rule_is p m hp)
        ∙ sym (ap is_some (e p m) ∙ some_cond (same key len p m) x (value_at rs p m))

    -- an insert, of a new rule or for a stored one, changes values at its number alone
    value_changed : (key len : ℕ) (v : Value) → IsPrefix key len → (p m : ℕ) (w : Value) → IsPrefix p m
        → value_at (edited (put key len v) rs) p m ≡ some w → upd val (rule_no key len) v (rule_no p m) ≡ w
    value_changed key len v prefix p m w hp e =
        upd_rule val v key len p m prefix hp ∙ go (same key len p m) (sym (value_put rs key len v p m) ∙ e)
      where
        go : (b : Bool) → cond b (some v) (value_at rs p m) ≡ some w → cond b v (val (rule_no p m)) ≡ w
        go true h = cc
        go false h = tree.value_is p m w hp h

    -- an insert of a new rule: below the root i nodes of its path were there, and the n missing ones come
    pub tree_put : (key len i n : ℕ) (v : Value) → IsPrefix key len → value_at rs key len ≡ none → node_count rs key len ≡ suc i → i + n ≡ len / stride
        → Tree (edited (put key len v) rs) (with_path E key i n) (upd D (rule_no key len) true) (upd val (rule_no key len) v)
    tree_put key len i n v prefix absent count sum = record {
      node_is = λ j b hj hb. agree (with_path E key i n (node_no (depth j) b)) (node (edited (put key len v) rs) (depth j) b) (there j b hj hb) (kept j b hj hb);
      node_only = λ x e. ⊎_elim (tree.node_only x) only ((with_path_lem E key i n x).0 e);
      rule_is = rule_changed (edited (put key len v) rs) key len (some v) prefix (value_put rs key len v);
      rule_only = λ x e. ⊎_elim (λ h. (key, len, prefix, sym h)) (tree.rule_only x) (more_cases D (rule_no key len) x e);
      value_is = λ p m w hp e. value_changed key len v prefix p m w hp e;
    }
      where
        low : (j : ℕ) → j ≤ i + n → j ≤ 6
        low j h = omega (arith, prefix.short)

        only : {x : ℕ} → Between key i (i + n) x → (j : ℕ) × (b : ℕ) × (j ≤ 6) × (b < 2 ^ depth j) × (x ≡ node_no (depth j) b)
        only t = let h = low t.level t.within in (t.level, first (depth t.level) key, h, path_low key t.level prefix.bits h, t.here)

        there : (j b : ℕ) → j ≤ 6 → b < 2 ^ depth j → with_path E key i n (node_no (depth j) b) ≡ true → node (edited (put key len v) rs) (depth j) b ≡ true
        there j b hj hb e =
            node_put rs key len v (depth j) b
            ∙ ⊎_elim (λ t. or_left _ _ (sym (tree.node_is j b hj hb) ∙ t)) (λ t. or_right (node rs (depth j) b) _ (path t)) ((with_path_lem E key i n (node_no (depth j) b)).0 e)
          where
            path : Between key i (i + n) (node_no (depth j) b) → passes key len (depth j) b ≡ true
            path t =
                let o = only t in
                let s = node_inj j o.0 b o.1 hb o.3 o.4 in
                (passes_true key len (depth j) b).1 (omega (arith, s.0, t.within), ap (λ (x : ℕ). first (depth x) key) s.0 ∙ sym s.1)

        kept : (j b : ℕ) → j ≤ 6 → b < 2 ^ depth j → node (edited (put key len v) rs) (depth j) b ≡ true → with_path E key i n (node_no (depth j) b) ≡ true
        kept j b hj hb e =
            (with_path_lem E key i n (node_no (depth j) b)).1
            (⊎_elim (λ h. inl (tree.node_is j b hj hb ∙ h)) (λ h. path ((passes_true key len (depth j) b).0 h) (dec_le j i))
            (or_cases (node rs (depth j) b) (passes key len (depth j) b) (sym (node_put rs key len v (depth j) b) ∙ e)))
          where
            path : (depth j ≤ len) × (first (depth j) key ≡ b) → Dec (j ≤ i) → (E (node_no (depth j) b) ≡ true) ⊎ Between key i (i + n) (node_no (depth j) b)
            path h (yes l) = inl (tree.node_is j b hj hb
                ∙ ap (node rs (depth j)) (sym h.1)
                ∙ path_node rs key len prefix.short j (omega arith)
                ∙ lt-ltb j (node_count rs key len) (omega arith))
            path h (no l) = inr (record { level = j; after = omega arith; within = omega (arith, h.0); here = ap (node_no (depth j)) (sym h.1) })

    -- a replacement: the nodes and the rules stay, one value changes
    pub tree_replace : (key len : ℕ) (v w : Value) → IsPrefix key len → value_at rs key len ≡ some w
        → Tree (edited (put key len v) rs) E D (upd val (rule_no key len) v)
    tree_replace key len v w prefix stored =
        let nodes = (adds_same (adds_del rs proper key len w stored) (adds_again rs key len v)).0 in
        let own : D (rule_no key len) ≡ true = tree.rule_is key len prefix ∙ ap is_some stored in
        let rules = rule_changed (edited (put key len v) rs) key len (some v) prefix (value_put rs key len v) in record {
          node_is = λ j b hj hb. tree.node_is j b hj hb ∙ sym (nodes (depth j) b);
          node_only = tree.node_only;
          rule_is = λ p m hp. sym (upd_own D (rule_no key len) (rule_no p m) true own) ∙ rules p m hp;
          rule_only = tree.rule_only;
          value_is = λ p m x hp e. value_changed key len v prefix p m x hp e;
        }

    -- a removal: the nodes that it empties go
    pub tree_del : (key len : ℕ) (v : Value) → IsPrefix key len → value_at rs key len ≡ some v
        → Tree (edited (del key len) rs) (without_path E key (len / stride) (emptied rs key len)) (upd D (rule_no key len) false) val
    tree_del key len v prefix stored = record {
      node_is = λ j b hj hb. agree (E' (node_no (depth j) b)) (node (edited (del key len) rs) (depth j) b) (there j b hj hb) (kept j b hj hb);
      node_only = λ x e. tree.node_only x ((without_path_lem E key end few x).0 e).0;
      rule_is = rule_changed (edited (del key len) rs) key len none prefix (value_del rs key len);
      rule_only = λ x e. tree.rule_only x (less_cases D (rule_no key len) x e).0;
      value_is = λ p m w hp e. values p m w hp (same key len p m) (sym (value_del rs key len p m) ∙ e);
    }
      where
        end : ℕ
        end = len / stride

        few : ℕ
        few = emptied rs key len

        E' : ℕ → Bool
        E' = without_path E key end few

        values : (p m : ℕ) (w : Value) → IsPrefix p m → (b : Bool) → cond b none (value_at rs p m) ≡ some w → val (rule_no p m) ≡ w
        values p m w hp true e = absurd (none-ne-some w e)
        values p m w hp false e = tree.value_is p m w hp e

        there : (j b : ℕ) → j ≤ 6 → b < 2 ^ depth j → E' (node_no (depth j) b) ≡ true → node (edited (del key len) rs) (depth j) b ≡ true
        there j b hj hb e =
            let h = (without_path_lem E key end few (node_no (depth j) b)).0 e in
            ⊎_elim (λ t. t) (λ t. path h.1 ((passes_true key len (depth j) b).0 t) (dec_le (j + few) end))
            (or_cases (node (edited (del key len) rs) (depth j) b) (passes key len (depth j) b)
            (sym (node_del rs key len v stored (depth j) b) ∙ sym (tree.node_is j b hj hb) ∙ h.0))
          where
            path : (Between key (end - few) end (node_no (depth j) b) → ⊥) → (depth j ≤ len) × (first (depth j) key ≡ b) → Dec (j + few ≤ end)
                → node (edited (del key len) rs) (depth j) b ≡ true
            path off h (yes l) = unfold edited in ap (node (without key len rs) (depth j)) (sym h.1) ∙ left rs key len v prefix stored j l
            path off h (no l) = absurd (off (record {
              level = j;
              after = omega (arith, emptied_le rs key len v prefix stored);
              within = omega (arith, h.0);
              here = ap (node_no (depth j)) (sym h.1);
            }))

        kept : (j b : ℕ) → j ≤ 6 → b < 2 ^ depth j → node (edited (del key len) rs) (depth j) b ≡ true → E' (node_no (depth j) b) ≡ true
        kept j b hj hb e =
            (without_path_lem E key end few (node_no (depth j) b)).1
            (tree.node_is j b hj hb ∙ node_del rs key len v stored (depth j) b ∙ or_left _ _ e, off)
          where
            off : Between key (end - few) end (node_no (depth j) b) → ⊥
            off t =
                let m : ℕ = t.level in
                let h : m ≤ 6 = omega (arith, t.within, prefix.short) in
                let s = node_inj j m b (first (depth m) key) hb (path_low key m prefix.bits h) t.here in
                let g : node (edited (del key len) rs) (depth m) (first (depth m) key) ≡ false =
                unfold edited in gone rs key len v prefix stored m (omega (arith, t.after)) t.within in
                let z : node (edited (del key len) rs) (depth j) b ≡ node (edited (del key len) rs) (depth m) (first (depth m) key) =
                ap₂ (λ (x y : ℕ). node (edited (del key len) rs) (depth x) y) s.0 s.1 in
                clash (node (edited (del key len) rs) (depth j) b) e (z ∙ g)
