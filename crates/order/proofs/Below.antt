-- Where the prefixes of a node and below it stand among each other: as the node's elements that hold them. A listing leans on it. Assumes nothing.
use mathlib.Core.Path.{◌≡◌, refl, sym, ap, ap₂, ◌∙◌}
use mathlib.Core.Logic.{◌⊎◌, inl, inr}
use mathlib.Core.Bool.{Bool, true, false, true≢false, ◌&&◌, ◌||◌}
use Prim.Native.Nat.{ℕ, ◌+◌, ◌≤◌, ◌<◌}
use native.Mathlib.Nat.{le_refl, le_trans}
use native.Mathlib.Omega.{arith}
use borrow.Author.Tests.{ltb-true, lt-ltb}
use lib.Dec.{ltb, eqb}
use Rattle.prefix.specs.Prefix.{width, first, masked, Covers, before}
use Rattle.prefix.proofs.Masking.{masked_first}
use Rattle.prefix.proofs.Covering.{covers_refl, covers_one}
use Rattle.prefix.proofs.Ordering.{Same, before_irrefl}
use Rattle.tiers.specs.Tiers.{stride}
use Rattle.places.specs.Places.{depth_of, data_bit, child_bit, length_at, key_at, child_key}
use Rattle.places.proofs.Levels.{level_lt}
use Rattle.places.proofs.Prefixes.{data_length, data_key, at_masked, at_same}
use Rattle.places.proofs.Children.{child_own, child_same}
use Rattle.order.specs.declared.LexElem.{LexElem}
use Rattle.order.specs.declared.LexElem.TheVariants.{Data, Child}
use Rattle.order.specs.Order.{comes_before, is_elem}
use Rattle.order.proofs.Order.{comes_irrefl, comes_total}
use Rattle.order.proofs.Sides.{side_before, side_after}
use Rattle.order.proofs.WholeKeys.{length_of, whole, whole_same}

-- ---- below a child

module _ (d key : ℕ) (h : d + stride ≤ width) where
  -- a data bit's length is less than a child's
  data_shorter : (a : ℕ) → a < 31 → length_at d a < d + stride
  unfolding length_at
  data_shorter a l = let v = level_lt a l in omega arith

  -- all that is below a child comes after a data bit, or before it, exactly where the child does
  pub below_data : (a c k l : ℕ) → a < 31 → c < 32 → Covers (child_key d key c) (d + stride) k l
      → (before (key_at d key a) (length_at d a) k l ≡ comes_before (Data a) (Child c)) × (before k l (key_at d key a) (length_at d a) ≡ comes_before (Child c) (Data a))
  below_data a c k l ha hc g =
      let s = data_shorter a ha in
      let t : length_at d a ≤ width = omega arith in
      let out : Covers (child_key d key c) (d + stride) (key_at d key a) (length_at d a) → ⊥ = λ x. let y = x.shorter in omega arith in (
        side_before g out ∙ whole d key (Data a) (Child c) (lt-ltb a 31 ha) (lt-ltb c 32 hc) t h,
        side_after g out ∙ whole d key (Child c) (Data a) (lt-ltb c 32 hc) (lt-ltb a 31 ha) h t,
      )

  -- no prefix is below two children
  one_child : (a b k l : ℕ) → a < 32 → b < 32 → Covers (child_key d key a) (d + stride) k l → Covers (child_key d key b) (d + stride) k l → a ≡ b
  one_child a b k l ha hb p q =
      let s = whole_same d key (Child a) (Child b) (lt-ltb a 32 ha) (lt-ltb b 32 hb) h h (record { key = covers_one p q; len = refl }) in
      cc

  -- what is below two children stands as they do
  pub below_children : (a b k l p m : ℕ) → a < 32 → b < 32 → (a ≡ b → ⊥) → Covers (child_key d key a) (d + stride) k l → Covers (child_key d key b) (d + stride) p m
      → before k l p m ≡ comes_before (Child a) (Child b)
  below_children a b k l p m ha hb n u v =
      side_after u (λ x. n (one_child a b p m ha hb x v))
      ∙ side_before v (λ x. n (one_child a b (child_key d key a) (d + stride) ha hb (covers_refl (child_key d key a) (d + stride)) x))
      ∙ whole d key (Child a) (Child b) (lt-ltb a 32 ha) (lt-ltb b 32 hb) h h

  -- all that is below a child comes before all that is below a later one
  pub below_later : (a b k l p m : ℕ) → a < b → b < 32 → Covers (child_key d key a) (d + stride) k l → Covers (child_key d key b) (d + stride) p m → before k l p m ≡ true
  unfolding comes_before
  below_later a b k l p m ab hb u v =
      below_children a b k l p m (omega arith) hb (λ e. omega arith) u v ∙ ap (λ (x : Bool). x || (eqb a b && false)) (lt-ltb a b ab)

-- ---- what an element holds

-- a data bit its own prefix, a child all that is below it
abbrev pub Holds : ℕ → ℕ → LexElem → ℕ → ℕ → Type 0
Holds d key (Data b) k l = Same k l (key_at d key b) (length_at d b)
Holds d key (Child c) k l = Covers (child_key d key c) (d + stride) k l

-- one prefix, under two names, stands where it stands
same_before : {k l q m : ℕ} (p n : ℕ) → Same k l q m → before k l p n ≡ before q m p n
unfolding before
same_before p n s = ap₂ (λ (x y : ℕ). ltb x (masked p n) || (eqb x (masked p n) && ltb y n)) s.key s.len

-- and others stand about it as they do
same_after : {k l q m : ℕ} (p n : ℕ) → Same k l q m → before p n k l ≡ before p n q m
unfolding before
same_after p n s = ap₂ (λ (x y : ℕ). ltb (masked p n) x || (eqb (masked p n) x && ltb n y)) s.key s.len

-- what two elements hold stands as they do
pub held_order : (d key : ℕ) (e f : LexElem) (k l p m : ℕ) → is_elem e ≡ true → is_elem f ≡ true → length_of d e ≤ width → length_of d f ≤ width
    → (e ≡ f → ⊥) → Holds d key e k l → Holds d key f p m → before k l p m ≡ comes_before e f
held_order d key (Data a) (Data b) k l p m i j he hf n u v =
    same_before p m u ∙ same_after (key_at d key a) (length_at d a) v ∙ whole d key (Data a) (Data b) i j he hf
held_order d key (Data a) (Child c) k l p m i j he hf n u v = same_before p m u ∙ (below_data d key hf a c p m (ltb-true a 31 i) (ltb-true c 32 j) v).0
held_order d key (Child c) (Data b) k l p m i j he hf n u v = same_after k l v ∙ (below_data d key he b c k l (ltb-true b 31 j) (ltb-true c 32 i) u).1
held_order d key (Child a) (Child b) k l p m i j he hf n u v =
    below_children d key he a b k l p m (ltb-true a 32 i) (ltb-true b 32 j) (λ e. n (ap Child e)) u v

-- a prefix of the node is held by its data bit
pub held_by_data : (d key k l : ℕ) → depth_of l ≡ d → l ≤ width → first d k ≡ first d key → Holds d key (Data (data_bit k l)) k l
held_by_data d key k l e h s =
    let b : ℕ = data_bit k l in
    let n : length_at d b ≡ l = ap (λ (x : ℕ). length_at x b) (sym e) ∙ data_length k l in
    record {
      key = sym (at_masked d key b (omega arith) ∙ at_same d key k b (sym s) ∙ ap (λ (x : ℕ). key_at x k b) (sym e) ∙ data_key k l h);
      len = sym n;
    }

-- a longer one by the child that its key goes on to
pub held_by_child : (d key k l : ℕ) → d + stride ≤ l → l ≤ width → first d k ≡ first d key → Holds d key (Child (child_bit d k)) k l
held_by_child d key k l g h s = record {
  shorter = g;
  agree =
      ap (first (d + stride)) (child_same d key k (child_bit d k) (sym s) ∙ child_own d k (le_trans g h)) ∙ masked_first k (d + stride) (d + stride) (le_refl (d + stride));
}

-- and by no other element
pub held_once : (d key : ℕ) (e f : LexElem) (k l : ℕ) → is_elem e ≡ true → is_elem f ≡ true → length_of d e ≤ width → length_of d f ≤ width
    → Holds d key e k l → Holds d key f k l → e ≡ f
held_once d key e f k l i j he hf u v = go (comes_total e f i j)
  where
    apart : (x y : LexElem) → is_elem x ≡ true → comes_before x y ≡ true → ((x ≡ y → ⊥) → before k l k l ≡ comes_before x y) → ⊥
    apart x y a p h = true≢false (sym p ∙ sym (h (λ s. true≢false (sym p ∙ ap (comes_before x) (sym s) ∙ comes_irrefl x a))) ∙ before_irrefl k l)

    go : (e ≡ f) ⊎ ((comes_before e f ≡ true) ⊎ (comes_before f e ≡ true)) → e ≡ f
    go (inl s) = s
    go (inr (inl p)) = absurd (apart e f i p (λ n. held_order d key e f k l k l i j he hf n u v))
    go (inr (inr p)) = absurd (apart f e j p (λ n. held_order d key f e k l k l j i hf he n v u))
