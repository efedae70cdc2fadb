-- Laws of covering (RFC 4632): an order on prefixes, in which those that cover one prefix stand in a row. Assumes nothing.
use mathlib.Core.Path.{◌≡◌, refl, sym, ap, ◌∙◌}
use mathlib.Core.Logic.{◌↔◌}
use mathlib.Core.Bool.{Bool, true, false, false≢true, and-eq-true_iff}
use Prim.Native.Nat.{ℕ, ◌^◌, ◌≤◌, ◌<◌, zero-le}
use native.Mathlib.Nat.{le_refl, le_trans, le_antisymm}
use borrow.Author.Tests.{leb-true, eqb-true, le-leb, eq-eqb}
use lib.Dec.{leb, eqb}
use Rattle.prefix.specs.Prefix.{width, first, masked, Covers, covers}
use Rattle.prefix.proofs.Masking.{first_none, first_fewer, masked_first, masked_same}

-- a test that can't hold fails
pub fails : (b : Bool) → (b ≡ true → ⊥) → b ≡ false
fails true n = absurd (n refl)
fails false n = refl

-- a prefix covers itself
pub covers_refl : (p l : ℕ) → Covers p l p l
covers_refl p l = record { shorter = le_refl l; agree = refl }

-- what covers a prefix covers all that the prefix covers
pub covers_trans : {p l q m r n : ℕ} → Covers p l q m → Covers q m r n → Covers p l r n
covers_trans {p} {l} {q} {m} {r} a b = record {
  shorter = le_trans a.shorter b.shorter;
  agree = a.agree ∙ first_fewer q r l m a.shorter b.agree;
}

-- two prefixes that cover each other have one length and one masked key
pub covers_antisym : {p l q m : ℕ} → Covers p l q m → Covers q m p l → (l ≡ m) × (masked p l ≡ masked q m)
covers_antisym {p} {l} {q} {m} a b =
    let e : l ≡ m = le_antisymm a.shorter b.shorter in
    (e, (masked_same p q l).1 a.agree ∙ ap (masked q) e)

-- length 0 covers everything
pub covers_all : {p q : ℕ} (m : ℕ) → p < 2 ^ width → q < 2 ^ width → Covers p 0 q m
covers_all m h k = record { shorter = zero-le; agree = first_none h ∙ sym (first_none k) }

-- of two prefixes that cover a third, the one with no more bits covers the other
pub covers_row : {p l q m r n : ℕ} → Covers p l r n → Covers q m r n → l ≤ m → Covers p l q m
covers_row {p} {l} {q} {m} {r} a b h = record { shorter = h; agree = a.agree ∙ sym (first_fewer q r l m h b.agree) }

-- two prefixes of one length that cover a third have one masked key
pub covers_one : {p q l r n : ℕ} → Covers p l r n → Covers q l r n → masked p l ≡ masked q l
covers_one {p} {q} {l} a b = (masked_same p q l).1 (a.agree ∙ sym b.agree)

-- covering sees masked keys alone
pub covers_masked : (p l q m : ℕ) → Covers (masked p l) l (masked q m) m ↔ Covers p l q m
covers_masked p l q m = (
  λ c. record {
    shorter = c.shorter;
    agree = sym (masked_first p l l (le_refl l)) ∙ c.agree ∙ masked_first q m l c.shorter;
  },
  λ c. record {
    shorter = c.shorter;
    agree = masked_first p l l (le_refl l) ∙ c.agree ∙ sym (masked_first q m l c.shorter);
  },
)

-- covering is equality of the two keys, masked to the shorter length
pub covers_by_mask : (p l q m : ℕ) → Covers p l q m ↔ ((l ≤ m) × (masked p l ≡ masked q l))
covers_by_mask p l q m = (
  λ c. (c.shorter, (masked_same p q l).1 c.agree),
  λ e. record { shorter = e.0; agree = (masked_same p q l).0 e.1 },
)

-- the test holds exactly where one prefix covers the other
pub covers_true : (p l q m : ℕ) → covers p l q m ≡ true ↔ Covers p l q m
unfolding covers
covers_true p l q m = (
  λ e.
      let h = (and-eq-true_iff (leb l m) (eqb (first l p) (first l q))).0 e in
      record { shorter = leb-true l m h.0; agree = eqb-true (first l p) (first l q) h.1 },
  λ c. (and-eq-true_iff (leb l m) (eqb (first l p) (first l q))).1 (le-leb l m c.shorter, eq-eqb (first l p) (first l q) c.agree),
)

-- and fails exactly where it doesn't
pub covers_false : (p l q m : ℕ) → covers p l q m ≡ false ↔ (Covers p l q m → ⊥)
covers_false p l q m = (
  λ e c. false≢true (sym e ∙ (covers_true p l q m).1 c),
  λ n. fails (covers p l q m) (λ e. n ((covers_true p l q m).0 e)),
)
