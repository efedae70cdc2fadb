-- The order of a node's elements is strict and total, so that each place holds one element and each element has one place. Assumes nothing.
use mathlib.Core.Path.{◌≡◌, refl, sym, ap, ◌∙◌}
use mathlib.Core.Logic.{◌⊎◌, inl, inr}
use mathlib.Core.Bool.{true, false}
use mathlib.Core.List.{[], ◌∷◌, map}
use Prim.Native.Nat.{ℕ, ◌≤◌, ◌<◌}
use native.Mathlib.Omega.{arith}
use borrow.Author.Tests.{ltb-true, lt-ltb, le-ltb}
use lib.Dec.{ltb}
use lib.ListN.{get_or}
use Rattle.prefix.specs.Prefix.{width}
use Rattle.prefix.proofs.Covering.{fails}
use Rattle.prefix.proofs.Ordering.{Stand, earlier, same, later, before_irrefl, before_trans, before_total}
use Rattle.places.specs.Places.{level_of, path_of, length_at}
use Rattle.places.proofs.Levels.{level_lt}
use Rattle.order.specs.declared.LexElem.{LexElem}
use Rattle.order.specs.declared.LexElem.TheVariants.{Data, Child}
use Rattle.order.specs.Order.{comes_before, how_many, is_elem, place_of, AtPlace}
use Rattle.order.proofs.HowMany.{many_le, many_lt, many_most, many_fewer}
use Rattle.order.proofs.Tables.{lex_order, stands}
use Rattle.order.proofs.WholeKeys.{key_of, length_of, whole, whole_same}

-- ---- strict and total: the elements of the root are prefixes, and prefixes are so ordered

-- each fits the key
root_length : (e : LexElem) → is_elem e ≡ true → length_of 0 e ≤ width
unfolding length_at
root_length (Data b) i = let l = level_lt b (ltb-true b 31 i) in omega arith
root_length (Child c) i = omega arith

-- no element comes before itself
pub comes_irrefl : (e : LexElem) → is_elem e ≡ true → comes_before e e ≡ false
comes_irrefl e i =
    let h = root_length e i in
    sym (whole 0 0 e e i i h h) ∙ before_irrefl (key_of 0 0 e) (length_of 0 e)

-- what comes before an element comes before all that the element comes before
pub comes_trans : (e f g : LexElem) → is_elem e ≡ true → is_elem f ≡ true → is_elem g ≡ true
    → comes_before e f ≡ true → comes_before f g ≡ true → comes_before e g ≡ true
comes_trans e f g i j k p q =
    let he = root_length e i in
    let hf = root_length f j in
    let hg = root_length g k in
    sym (whole 0 0 e g i k he hg)
    ∙ before_trans (key_of 0 0 e) (length_of 0 e) (key_of 0 0 f) (length_of 0 f) (key_of 0 0 g) (length_of 0 g) (whole 0 0 e f i j he hf ∙ p) (whole 0 0 f g j k hf hg ∙ q)

-- two elements are one, or one comes before the other
pub comes_total : (e f : LexElem) → is_elem e ≡ true → is_elem f ≡ true → (e ≡ f) ⊎ ((comes_before e f ≡ true) ⊎ (comes_before f e ≡ true))
comes_total e f i j = go (before_total (key_of 0 0 e) (length_of 0 e) (key_of 0 0 f) (length_of 0 f))
  where
    go : Stand (key_of 0 0 e) (length_of 0 e) (key_of 0 0 f) (length_of 0 f) → (e ≡ f) ⊎ ((comes_before e f ≡ true) ⊎ (comes_before f e ≡ true))
    go (earlier t u v) = inr (inl (sym (whole 0 0 e f i j (root_length e i) (root_length f j)) ∙ t))
    go (same s u v) = inl (whole_same 0 0 e f i j (root_length e i) (root_length f j) s)
    go (later t u v) = inr (inr (sym (whole 0 0 f e j i (root_length f j) (root_length e i)) ∙ t))

-- ---- places

-- a node has 63 places
pub place_below : (e : LexElem) → is_elem e ≡ true → place_of e < 63
unfolding place_of
place_below (Data b) i =
    let h = many_fewer 31 (λ x. comes_before (Data x) (Data b)) b (ltb-true b 31 i) (comes_irrefl (Data b) i) in
    let k = many_most 32 (λ x. comes_before (Child x) (Data b)) in
    omega arith
place_below (Child c) i =
    let h = many_fewer 32 (λ x. comes_before (Child x) (Child c)) c (ltb-true c 32 i) (comes_irrefl (Child c) i) in
    let k = many_most 31 (λ x. comes_before (Data x) (Child c)) in
    omega arith

-- an element has a lower place than all that it comes before
pub place_lt : (e f : LexElem) → is_elem e ≡ true → is_elem f ≡ true → comes_before e f ≡ true → place_of e < place_of f
unfolding place_of
place_lt (Data b) f i j p =
    let h =
    many_lt 31 (λ x. comes_before (Data x) (Data b)) (λ x. comes_before (Data x) f) (λ x l q. comes_trans (Data x) (Data b) f (lt-ltb x 31 l) i j q p) b (ltb-true b 31 i)
    (comes_irrefl (Data b) i) p in
    let k = many_le 32 (λ x. comes_before (Child x) (Data b)) (λ x. comes_before (Child x) f) (λ x l q. comes_trans (Child x) (Data b) f (lt-ltb x 32 l) i j q p) in
    omega arith
place_lt (Child c) f i j p =
    let h =
    many_lt 32 (λ x. comes_before (Child x) (Child c)) (λ x. comes_before (Child x) f) (λ x l q. comes_trans (Child x) (Child c) f (lt-ltb x 32 l) i j q p) c (ltb-true c 32 i)
    (comes_irrefl (Child c) i) p in
    let k = many_le 31 (λ x. comes_before (Data x) (Child c)) (λ x. comes_before (Data x) f) (λ x l q. comes_trans (Data x) (Child c) f (lt-ltb x 31 l) i j q p) in
    omega arith

-- the order of elements is that of their places
pub place_order : (e f : LexElem) → is_elem e ≡ true → is_elem f ≡ true → comes_before e f ≡ ltb (place_of e) (place_of f)
place_order e f i j = go (comes_total e f i j)
  where
    go : (e ≡ f) ⊎ ((comes_before e f ≡ true) ⊎ (comes_before f e ≡ true)) → comes_before e f ≡ ltb (place_of e) (place_of f)
    go (inl s) = ap (comes_before e) (sym s) ∙ comes_irrefl e i ∙ sym (le-ltb (place_of e) (place_of f) (let q = ap place_of s in omega arith))
    go (inr (inl p)) = p ∙ sym (lt-ltb (place_of e) (place_of f) (place_lt e f i j p))
    go (inr (inr p)) =
        fails (comes_before e f) (λ q. let a = place_lt e f i j q in let b = place_lt f e j i p in omega arith)
        ∙ sym (le-ltb (place_of e) (place_of f) (let b = place_lt f e j i p in omega arith))

-- elements at one place are one
pub at_place_same : {k : ℕ} {e f : LexElem} → AtPlace k e → AtPlace k f → e ≡ f
at_place_same {k} {e} {f} a b = go (comes_total e f a.there b.there)
  where
    go : (e ≡ f) ⊎ ((comes_before e f ≡ true) ⊎ (comes_before f e ≡ true)) → e ≡ f
    go (inl s) = s
    go (inr (inl p)) = absurd (let h = place_lt e f a.there b.there p in let x = a.place_is in let y = b.place_is in omega arith)
    go (inr (inr p)) = absurd (let h = place_lt f e b.there a.there p in let x = a.place_is in let y = b.place_is in omega arith)

-- every element stands at its place
pub at_place : (e : LexElem) → is_elem e ≡ true → AtPlace (place_of e) e
at_place e i = record { there = i; place_is = refl }

-- and the table has it there
pub at_entry : (e : LexElem) → is_elem e ≡ true → get_or lex_order (place_of e) (Data 0) ≡ e
at_entry e i = at_place_same (stands (place_of e) (place_below e i)) (at_place e i)

-- the order begins so (document 01)
pub start_of_order : map place_of (Data 0 ∷ Data 1 ∷ Data 3 ∷ Data 7 ∷ Data 15 ∷ Child 0 ∷ Child 1 ∷ Data 16 ∷ []) ≡ 0 ∷ 1 ∷ 2 ∷ 3 ∷ 4 ∷ 5 ∷ 6 ∷ 7 ∷ []
unfolding place_of how_many comes_before level_of path_of
start_of_order = refl
