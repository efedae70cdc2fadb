-- Laws of the nodes that live rules fix: the root, a node's parent, and what an edit adds or takes away. Assumes nothing.
use mathlib.Core.Path.{◌≡◌, refl, sym, ap, ◌∙◌, subst}
use mathlib.Core.Logic.{◌↔◌, ◌⊎◌, inl, inr, ⊎_elim}
use mathlib.Core.Bool.{Bool, true, false, ◌||◌, and-eq-true_iff, or_assoc, or_comm, or_self_left}
use mathlib.Core.Option.{some, none-ne-some}
use mathlib.Core.List.{[], ◌∷◌}
use Prim.Native.Nat.{ℕ, ◌+◌, ◌-◌, ◌*◌, ◌/◌, ◌^◌, ◌≤◌, ◌<◌}
use native.Mathlib.Nat.{le_trans}
use native.Mathlib.Omega.{arith}
use lib.Dec.{leb, eqb}
use borrow.Author.Tests.{leb-true, eqb-true, le-leb, eq-eqb}
use Rattle.prefix.specs.Prefix.{width, first, masked}
use Rattle.prefix.proofs.Masking.{masked_same, masked_first, first_first, first_fewer}
use Rattle.prefix.proofs.Ordering.{Same}
use Rattle.prefix.proofs.Covering.{fails}
use Rattle.tiers.specs.Tiers.{stride}
use Rattle.rules.specs.Rules.{Rule, Rules, put, del, same, value_at, without, edited, Proper}
use Rattle.rules.specs.Nodes.{home, passes, passed, node}
use Rattle.rules.proofs.Tests.{clash, agree, or_cases, or_left, or_right}
use Rattle.rules.proofs.Live.{same_true, same_refl}

-- the test holds exactly where the length is at least d and the leading bits are b
pub passes_true : (k l d b : ℕ) → passes k l d b ≡ true ↔ ((d ≤ l) × (first d k ≡ b))
passes_true k l d b = (
  λ e. let h = (and-eq-true_iff (leb d l) (eqb (first d k) b)).0 e in (leb-true d l h.0, eqb-true (first d k) b h.1),
  λ h. (and-eq-true_iff (leb d l) (eqb (first d k) b)).1 (le-leb d l h.0, eq-eqb (first d k) b h.1),
)

-- the same prefix passes the same nodes
pub passes_same : (p l q m d b : ℕ) → Same p l q m → passes p l d b ≡ passes q m d b
passes_same p l q m d b s = agree (passes p l d b) (passes q m d b)
    (λ e. let h = (passes_true p l d b).0 e in (passes_true q m d b).1 (subst (λ (x : ℕ). d ≤ x) s.len h.0, sym (bits h.0) ∙ h.1))
    (λ e. let h = (passes_true q m d b).0 e in let g : d ≤ l = subst (λ (x : ℕ). d ≤ x) (sym s.len) h.0 in (passes_true p l d b).1 (g, bits g ∙ h.1))
  where
    bits : d ≤ l → first d p ≡ first d q
    bits h = first_fewer p q d l h ((masked_same p q l).0 (s.key ∙ ap (masked q) (sym s.len)))

-- and so does the masked key
pub passes_masked : (k l d b : ℕ) → passes (masked k l) l d b ≡ passes k l d b
passes_masked k l d b = agree (passes (masked k l) l d b) (passes k l d b)
    (λ e. let h = (passes_true (masked k l) l d b).0 e in (passes_true k l d b).1 (h.0, sym (masked_first k l d h.0) ∙ h.1))
    (λ e. let h = (passes_true k l d b).0 e in (passes_true (masked k l) l d b).1 (h.0, masked_first k l d h.0 ∙ h.1))

-- some live rule of length at least d has those d leading bits
pub record Fixed {Value : Type 0} (rs : Rules Value) (d b : ℕ) : Type 0 where
  pub key : ℕ
  pub len : ℕ
  pub value : Value
  pub alive : value_at rs key len ≡ some value
  pub long : d ≤ len
  pub bits : first d key ≡ b

module _ {Value : Type 0} where
  -- what a list fixes, it fixes with one more rule in front
  more : (r : Rule Value) (rs : Rules Value) (d b : ℕ) → Fixed rs d b → Fixed (r ∷ rs) d b
  unfolding value_at
  more r rs d b f = go (same r.key r.len f.key f.len) refl
    where
      go : (x : Bool) → same r.key r.len f.key f.len ≡ x → Fixed (r ∷ rs) d b
      go true e = record { key = f.key; len = f.len; value = r.value; alive = rw (e, value_at); long = f.long; bits = f.bits }
      go false e = record { key = f.key; len = f.len; value = f.value; alive = rw (e, value_at) f.alive; long = f.long; bits = f.bits }

  -- where the test holds, some live rule fixes the node
  pub passed_fixed : (rs : Rules Value) (d b : ℕ) → passed rs d b ≡ true → Fixed rs d b
  unfolding passed value_at
  passed_fixed [] d b e = clash false e refl
  passed_fixed (r ∷ rs) d b e = ⊎_elim here (λ h. more r rs d b (passed_fixed rs d b h)) (or_cases (passes r.key r.len d b) (passed rs d b) e)
    where
      here : passes r.key r.len d b ≡ true → Fixed (r ∷ rs) d b
      here h =
          let g = (passes_true r.key r.len d b).0 h in
          record { key = r.key; len = r.len; value = r.value; alive = rw (same_refl r.key r.len, value_at); long = g.0; bits = g.1 }

  -- where a live rule passes the node, the test holds
  pub fixed_passed : (rs : Rules Value) (d b k l : ℕ) (v : Value) → value_at rs k l ≡ some v → passes k l d b ≡ true → passed rs d b ≡ true
  unfolding passed value_at
  fixed_passed [] d b k l v e h = absurd (none-ne-some v e)
  fixed_passed (r ∷ rs) d b k l v e h = go (same r.key r.len k l) refl (λ w. fixed_passed rs d b k l v w h)
    where
      go : (x : Bool) → same r.key r.len k l ≡ x → (value_at rs k l ≡ some v → passed rs d b ≡ true)
          → passes r.key r.len d b || passed rs d b ≡ true
      go true s ih = or_left _ _ (passes_same r.key r.len k l d b ((same_true r.key r.len k l).0 s) ∙ h)
      go false s ih = or_right (passes r.key r.len d b) _ (ih (rw (s, value_at) at e))

  -- a node is the root, or some live rule fixes it
  pub node_fixed : (rs : Rules Value) (d b : ℕ) → node rs d b ≡ true ↔ ((d ≡ 0) ⊎ Fixed rs d b)
  unfolding node
  node_fixed rs d b = (
    λ e. ⊎_elim (λ z. inl (eqb-true d 0 z)) (λ h. inr (passed_fixed rs d b h)) (or_cases (eqb d 0) (passed rs d b) e),
    ⊎_elim (λ z. or_left _ _ (eq-eqb d 0 z))
        (λ f. or_right (eqb d 0) _ (fixed_passed rs d b f.key f.len f.value f.alive ((passes_true f.key f.len d b).1 (f.long, f.bits)))),
  )

  -- a live rule has the node where its length lives
  pub live_node : (rs : Rules Value) (k l : ℕ) (v : Value) → value_at rs k l ≡ some v → node rs (home l) (first (home l) k) ≡ true
  unfolding node
  live_node rs k l v e =
      or_right (eqb (home l) 0) _ (fixed_passed rs (home l) (first (home l) k) k l v e ((passes_true k l (home l) (first (home l) k)).1 (omega arith, refl)))

  -- the root is always there
  pub node_root : (rs : Rules Value) (b : ℕ) → node rs 0 b ≡ true
  unfolding node
  node_root rs b = refl

  -- above a node of a key's path, there is a node
  pub node_above : (rs : Rules Value) (q d e : ℕ) → d ≤ e → node rs e (first e q) ≡ true → node rs d (first d q) ≡ true
  node_above rs q d e h n = (node_fixed rs d (first d q)).1 (⊎_elim (λ z. inl (omega arith)) (λ f. inr (up f)) ((node_fixed rs e (first e q)).0 n))
    where
      up : Fixed rs e (first e q) → Fixed rs d (first d q)
      up f =
          record { key = f.key; len = f.len; value = f.value; alive = f.alive; long = le_trans h f.long; bits = first_fewer f.key q d e h f.bits }

  -- a node's parent is a node
  pub node_parent : (rs : Rules Value) (d b c : ℕ) → d + stride ≤ width → c < 2 ^ stride → node rs (d + stride) (b * 2 ^ stride + c) ≡ true
      → node rs d b ≡ true
  node_parent rs d b c h l n =
      (node_fixed rs d b).1 (⊎_elim (λ z. absurd (omega arith)) (λ f. inr (up f)) ((node_fixed rs (d + stride) (b * 2 ^ stride + c)).0 n))
    where
      up : Fixed rs (d + stride) (b * 2 ^ stride + c) → Fixed rs d b
      up f =
          let e : (width - d) - (width - (d + stride)) ≡ stride = omega arith in
          let z : first d f.key ≡ first (d + stride) f.key / 2 ^ stride =
          first_first f.key d (d + stride) (omega arith) ∙ ap (λ (x : ℕ). first (d + stride) f.key / 2 ^ x) e in
          record {
            key = f.key;
            len = f.len;
            value = f.value;
            alive = f.alive;
            long = omega (arith, f.long);
            bits = z ∙ ap (λ (x : ℕ). x / 2 ^ stride) f.bits ∙ (omega arith);
          }

  -- no node stands deeper than a key is long
  pub node_deep : (rs : Rules Value) → Proper rs → (d b : ℕ) → width < d → node rs d b ≡ false
  unfolding node
  node_deep rs p d b h =
      fails (eqb d 0 || passed rs d b) (λ e. ⊎_elim (λ z. omega (arith, eqb-true d 0 z)) (λ q. none rs p q) (or_cases (eqb d 0) (passed rs d b) e))
    where
      none : (rs : Rules Value) → Proper rs → passed rs d b ≡ true → ⊥
      none = unfold passed in elim [
        | [] ↦ λ p e. clash false e refl
        | r ∷ (rs → ih) ↦ λ p e.
            ⊎_elim (λ q. omega (arith, ((passes_true r.key r.len d b).0 q).0, p.0.prefix.short)) (ih p.1)
            (or_cases (passes r.key r.len d b) (passed rs d b) e)
      ]

  -- ---- what an edit adds and takes away

  -- beside a prefix, its own rule makes no difference
  passed_without : (rs : Rules Value) (k l d b : ℕ) → passes k l d b || passed (without k l rs) d b ≡ passes k l d b || passed rs d b
  unfolding passed without
  passed_without [] k l d b = refl
  passed_without (r ∷ rs) k l d b = go (same r.key r.len k l) refl (passed_without rs k l d b)
    where
      P : Bool
      P = passes k l d b

      aside : (p x y z : Bool) → p || y ≡ p || z → p || (x || y) ≡ p || (x || z)
      aside true x y z e = refl
      aside false true y z e = refl
      aside false false y z e = e

      go : (x : Bool) → same r.key r.len k l ≡ x → P || passed (without k l rs) d b ≡ P || passed rs d b
          → P || passed (without k l (r ∷ rs)) d b ≡ P || (passes r.key r.len d b || passed rs d b)
      go true s ih =
          rw (s, without, passes_same r.key r.len k l d b ((same_true r.key r.len k l).0 s)) (ih ∙ sym (or_self_left P (passed rs d b)))
      go false s ih = rw (s, without, passed) (aside P (passes r.key r.len d b) (passed (without k l rs) d b) (passed rs d b) ih)

  -- an insert adds the nodes that its prefix passes
  pub node_put : (rs : Rules Value) (k l : ℕ) (v : Value) (d b : ℕ) → node (edited (put k l v) rs) d b ≡ node rs d b || passes k l d b
  unfolding node edited passed
  node_put rs k l v d b =
      let m = ap (λ (x : Bool). x || passed (without k l rs) d b) (passes_masked k l d b) in
      ap (λ (x : Bool). eqb d 0 || x) (m ∙ passed_without rs k l d b ∙ or_comm (passes k l d b) (passed rs d b))
      ∙ sym (or_assoc (eqb d 0) (passed rs d b) (passes k l d b))

  -- a removal leaves all but those that its prefix alone passes
  pub node_del : (rs : Rules Value) (k l : ℕ) (v : Value) → value_at rs k l ≡ some v → (d b : ℕ)
      → node rs d b ≡ node (edited (del k l) rs) d b || passes k l d b
  unfolding node edited
  node_del rs k l v e d b =
      let m = mine (passes k l d b) (passed rs d b) (fixed_passed rs d b k l v e) in
      ap (λ (x : Bool). eqb d 0 || x) (sym m ∙ sym (passed_without rs k l d b) ∙ or_comm (passes k l d b) (passed (without k l rs) d b))
      ∙ sym (or_assoc (eqb d 0) (passed (without k l rs) d b) (passes k l d b))
    where
      mine : (p x : Bool) → (p ≡ true → x ≡ true) → p || x ≡ x
      mine true x f = sym (f refl)
      mine false x f = refl
