-- Nodes that come or go along a key's path: which numbers are then nodes. Assumes nothing.
use mathlib.Core.Path.{◌≡◌, sym, ap, ◌∙◌}
use mathlib.Core.Logic.{◌↔◌, ◌⊎◌, inl, inr, ⊎_elim}
use mathlib.Core.Bool.{Bool, true, false}
use Prim.Native.Nat.{ℕ, zero, suc, ◌+◌, ◌-◌, ◌≤◌, ◌<◌}
use native.Mathlib.Decide.{ℕ_discrete}
use native.Mathlib.Omega.{arith}
use Rattle.rules.proofs.Tests.{clash}
use Rattle.pools.specs.Items.{upd}
use Rattle.pools.proofs.Items.{upd_same, upd_other}
use Rattle.image.specs.Numbers.{path_no, with_path, without_path}

-- ---- a set with one number more or less

-- what is in the larger set is the new number or was there
pub more_cases : (K : ℕ → Bool) (y x : ℕ) → upd K y true x ≡ true → (y ≡ x) ⊎ (K x ≡ true)
more_cases K y x e = go (ℕ_discrete y x)
  where
    go : Dec (y ≡ x) → (y ≡ x) ⊎ (K x ≡ true)
    go (yes h) = inl h
    go (no h) = inr (sym (upd_other K y x true h) ∙ e)

-- and what was there still is
pub more_kept : (K : ℕ → Bool) (y x : ℕ) → K x ≡ true → upd K y true x ≡ true
more_kept K y x e = go (ℕ_discrete y x)
  where
    go : Dec (y ≡ x) → upd K y true x ≡ true
    go (yes h) = ap (upd K y true) (sym h) ∙ upd_same K y true
    go (no h) = upd_other K y x true h ∙ e

-- what is in the smaller set was there, and is another number
pub less_cases : (K : ℕ → Bool) (y x : ℕ) → upd K y false x ≡ true → (K x ≡ true) × (y ≡ x → ⊥)
less_cases K y x e = let d : y ≡ x → ⊥ = differs in (sym (upd_other K y x false d) ∙ e, d)
  where
    differs : y ≡ x → ⊥
    differs h = clash (upd K y false x) e (ap (upd K y false) (sym h) ∙ upd_same K y false)

-- ---- along a path

-- the number is that of the path's node of some level above a and up to b
pub record Between (key a b x : ℕ) : Type 0 where
  pub level : ℕ
  pub after : a < level
  pub within : level ≤ b
  pub here : x ≡ path_no key level

-- the same level between others
between_in : {key a b c d x : ℕ} (t : Between key a b x) → c < t.level → t.level ≤ d → Between key c d x
between_in t h l = record { level = t.level; after = h; within = l; here = t.here }

-- with more of a path, the nodes are those that were there and those of the path
pub with_path_lem : (E : ℕ → Bool) (key i n x : ℕ) → with_path E key i n x ≡ true ↔ ((E x ≡ true) ⊎ Between key i (i + n) x)
unfolding with_path
with_path_lem E key i zero x = (inl, ⊎_elim (λ e. e) (λ b. absurd (omega (arith, b.after, b.within))))
with_path_lem E key i (suc n) x =
    let y : ℕ = path_no key (suc i) in
    let ih = with_path_lem (upd E y true) key (suc i) n x in (
      λ e. ⊎_elim (λ u. ⊎_elim (λ h. inr (first_one h)) (λ h. inl h) (more_cases E y x u)) (λ b. inr (later b)) (ih.0 e),
      λ s. ih.1 (⊎_elim (λ e. inl (more_kept E y x e)) (λ b. split b (ℕ_discrete (suc i) b.level)) s),
    )
  where
    first_one : path_no key (suc i) ≡ x → Between key i (i + suc n) x
    first_one h = record { level = suc i; after = omega arith; within = omega arith; here = sym h }

    later : Between key (suc i) (suc i + n) x → Between key i (i + suc n) x
    later b = between_in b (omega (arith, b.after)) (omega (arith, b.within))

    split : (b : Between key i (i + suc n) x) → Dec (suc i ≡ b.level) → (upd E (path_no key (suc i)) true x ≡ true) ⊎ Between key (suc i) (suc i + n) x
    split b (yes h) = inl (ap (upd E (path_no key (suc i)) true) (b.here ∙ ap (path_no key) (sym h)) ∙ upd_same E (path_no key (suc i)) true)
    split b (no h) = inr (between_in b (omega (arith, b.after)) (omega (arith, b.within)))

-- with less of a path, they are those that were there but for those of the path; the root stays
pub without_path_lem : (E : ℕ → Bool) (key i n x : ℕ) → without_path E key i n x ≡ true ↔ ((E x ≡ true) × (Between key (i - n) i x → ⊥))
unfolding without_path
without_path_lem E key i zero x = (λ e. (e, λ b. omega (arith, b.after, b.within)), λ h. h.0)
without_path_lem E key zero (suc n) x = (λ e. (e, λ b. omega (arith, b.after, b.within)), λ h. h.0)
without_path_lem E key (suc i) (suc n) x =
    let y : ℕ = path_no key (suc i) in
    let ih = without_path_lem (upd E y false) key i n x in (
      λ e. let h = ih.0 e in let l = less_cases E y x h.0 in (l.0, λ b. split b l.1 h.1 (ℕ_discrete (suc i) b.level)),
      λ h. ih.1 (upd_other E y x false (λ e. h.1 (last e)) ∙ h.0, λ b. h.1 (earlier b)),
    )
  where
    last : path_no key (suc i) ≡ x → Between key (suc i - suc n) (suc i) x
    last h = record { level = suc i; after = omega arith; within = omega arith; here = sym h }

    earlier : Between key (i - n) i x → Between key (suc i - suc n) (suc i) x
    earlier b = between_in b (omega (arith, b.after)) (omega (arith, b.within))

    split : (b : Between key (suc i - suc n) (suc i) x) → (path_no key (suc i) ≡ x → ⊥) → (Between key (i - n) i x → ⊥) → Dec (suc i ≡ b.level) → ⊥
    split b ne up (yes h) = ne (ap (path_no key) h ∙ sym b.here)
    split b ne up (no h) = up (between_in b (omega (arith, b.after)) (omega (arith, b.within)))
