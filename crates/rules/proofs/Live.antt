-- Laws of live rules: what an edit changes and what it leaves. Assumes nothing.
use mathlib.Core.Path.{◌≡◌, refl, sym, ◌∙◌}
use mathlib.Core.Logic.{◌↔◌}
use mathlib.Core.Bool.{Bool, true, false, cond, and-eq-true_iff}
use mathlib.Core.Option.{none, some, some-ne-none}
use mathlib.Core.List.{List, [], ◌∷◌}
use Prim.Native.Nat.{ℕ}
use lib.Dec.{eqb}
use borrow.Author.Tests.{eqb-true, eq-eqb}
use Rattle.prefix.specs.Prefix.{first, masked}
use Rattle.prefix.proofs.Masking.{masked_same, masked_again, masked_lt}
use Rattle.prefix.proofs.Ordering.{Same}
use Rattle.rules.specs.Rules.{Rules, Edit, put, del, same, value_at, without, edited, live_from, Names, AllName, Proper}
use Rattle.rules.proofs.Tests.{eqb_sym}

-- the test holds exactly where two prefixes are the same
pub same_true : (p l q m : ℕ) → same p l q m ≡ true ↔ Same p l q m
unfolding same
same_true p l q m = (
  λ e.
      let h = (and-eq-true_iff (eqb l m) (eqb (masked p l) (masked q m))).0 e in
      record { key = eqb-true (masked p l) (masked q m) h.1; len = eqb-true l m h.0 },
  λ s. (and-eq-true_iff (eqb l m) (eqb (masked p l) (masked q m))).1 (eq-eqb l m s.len, eq-eqb (masked p l) (masked q m) s.key),
)

-- a prefix is the same as itself
pub same_refl : (p l : ℕ) → same p l p l ≡ true
same_refl p l = (same_true p l p l).1 (record { key = refl; len = refl })

-- and sameness goes both ways
pub same_sym : (p l q m : ℕ) → same p l q m ≡ same q m p l
unfolding same
same_sym p l q m = rw (eqb_sym l m, eqb_sym (masked p l) (masked q m))

-- what is the same as one of two same prefixes is the same as the other
pub same_via : (p l q m k n : ℕ) → Same p l q m → same p l k n ≡ same q m k n
unfolding same
same_via p l q m k n s = rw (s.key, s.len)

-- a masked key is the same prefix
pub same_masked : (p l q m : ℕ) → same (masked p l) l q m ≡ same p l q m
same_masked p l q m = same_via (masked p l) l p l q m (record { key = masked_again p l; len = refl })

module _ {Value : Type 0} where
  -- same prefixes have one value
  pub value_same : (rs : Rules Value) (p l q m : ℕ) → Same p l q m → value_at rs p l ≡ value_at rs q m
  unfolding value_at
  value_same [] p l q m s = refl
  value_same (r ∷ rs) p l q m s =
      let e : same r.key r.len p l ≡ same r.key r.len q m =
      same_sym r.key r.len p l ∙ same_via p l q m r.key r.len s ∙ same_sym q m r.key r.len in
      rw (e, value_same rs p l q m s)

  -- a rule is known by its first len bits
  pub value_first : (rs : Rules Value) (p q l : ℕ) → first l p ≡ first l q → value_at rs p l ≡ value_at rs q l
  value_first rs p q l e = value_same rs p l q l (record { key = (masked_same p q l).1 e; len = refl })

  -- a removed prefix has no value
  pub value_gone : (rs : Rules Value) (k l p m : ℕ) → same k l p m ≡ true → value_at (without k l rs) p m ≡ none
  unfolding value_at without
  value_gone [] k l p m s = refl
  value_gone (r ∷ rs) k l p m s = go (same r.key r.len k l) refl (value_gone rs k l p m s)
    where
      go : (x : Bool) → same r.key r.len k l ≡ x → value_at (without k l rs) p m ≡ none → value_at (without k l (r ∷ rs)) p m ≡ none
      go true x ih = rw (x, without) ih
      go false x ih =
          let y : same r.key r.len p m ≡ false =
          same_sym r.key r.len p m ∙ sym (same_via k l p m r.key r.len ((same_true k l p m).0 s)) ∙ same_sym k l r.key r.len ∙ x in
          rw (x, without, value_at, y) ih

  -- and every other prefix keeps its own
  pub value_kept : (rs : Rules Value) (k l p m : ℕ) → same k l p m ≡ false → value_at (without k l rs) p m ≡ value_at rs p m
  unfolding value_at without
  value_kept [] k l p m s = refl
  value_kept (r ∷ rs) k l p m s = go (same r.key r.len k l) refl (value_kept rs k l p m s)
    where
      go : (x : Bool) → same r.key r.len k l ≡ x → value_at (without k l rs) p m ≡ value_at rs p m
          → value_at (without k l (r ∷ rs)) p m ≡ value_at (r ∷ rs) p m
      go true x ih =
          let y : same r.key r.len p m ≡ false = same_via r.key r.len k l p m ((same_true r.key r.len k l).0 x) ∙ s in
          rw (x, without, value_at, y) ih
      go false x ih = rw (x, without, value_at, ih)

  -- after a removal: nothing for its prefix, and the old value for any other
  pub value_del : (rs : Rules Value) (k l p m : ℕ) → value_at (edited (del k l) rs) p m ≡ cond (same k l p m) none (value_at rs p m)
  unfolding edited
  value_del rs k l p m = go (same k l p m) refl
    where
      go : (s : Bool) → same k l p m ≡ s → value_at (without k l rs) p m ≡ cond (same k l p m) none (value_at rs p m)
      go true s = rw s (value_gone rs k l p m s)
      go false s = rw s (value_kept rs k l p m s)

  -- after an insert: the new value for its prefix, stored or not before, and the old value for any other
  pub value_put : (rs : Rules Value) (k l : ℕ) (v : Value) (p m : ℕ)
      → value_at (edited (put k l v) rs) p m ≡ cond (same k l p m) (some v) (value_at rs p m)
  unfolding edited value_at
  value_put rs k l v p m = go (same k l p m) refl
    where
      go : (s : Bool) → same k l p m ≡ s
          → cond (same (masked k l) l p m) (some v) (value_at (without k l rs) p m) ≡ cond (same k l p m) (some v) (value_at rs p m)
      go true s = rw (same_masked k l p m, s)
      go false s = rw (same_masked k l p m, s) (value_kept rs k l p m s)

  -- so an inserted prefix has its value, whatever it had before
  pub value_put_own : (rs : Rules Value) (k l : ℕ) (v : Value) → value_at (edited (put k l v) rs) k l ≡ some v
  value_put_own rs k l v = value_put rs k l v k l ∙ (rw (same_refl k l))

  -- what isn't stored can't be taken out
  pub without_none : (rs : Rules Value) (k l : ℕ) → value_at rs k l ≡ none → without k l rs ≡ rs
  unfolding value_at without
  without_none [] k l e = refl
  without_none (r ∷ rs) k l e = go (same r.key r.len k l) refl (without_none rs k l)
    where
      go : (x : Bool) → same r.key r.len k l ≡ x → (value_at rs k l ≡ none → without k l rs ≡ rs) → without k l (r ∷ rs) ≡ r ∷ rs
      go true x ih = absurd (some_none (rw (x, value_at) at e))
        where
          some_none : some r.value ≡ none → ⊥
          some_none z = some-ne-none r.value z
      go false x ih = rw (x, without, ih (rw (x, value_at) at e))

  -- only the first `length` bits of an edit's key count
  without_masked : (rs : Rules Value) (k l : ℕ) → without (masked k l) l rs ≡ without k l rs
  unfolding without
  without_masked [] k l = refl
  without_masked (r ∷ rs) k l =
      let e : same r.key r.len (masked k l) l ≡ same r.key r.len k l =
      same_sym r.key r.len (masked k l) l ∙ same_masked k l r.key r.len ∙ same_sym k l r.key r.len in
      rw (e, without_masked rs k l)

  -- of an insert
  pub put_masked : (rs : Rules Value) (k l : ℕ) (v : Value) → edited (put (masked k l) l v) rs ≡ edited (put k l v) rs
  unfolding edited
  put_masked rs k l v = rw (masked_again k l, without_masked rs k l)

  -- of a removal
  pub del_masked : (rs : Rules Value) (k l : ℕ) → edited (del (masked k l) l) rs ≡ edited (del k l) rs
  unfolding edited
  del_masked rs k l = without_masked rs k l

  -- ---- rules as edits leave them

  -- what a removal leaves is proper
  proper_without : (k l : ℕ) (rs : Rules Value) → Proper rs → Proper (without k l rs)
  unfolding without
  proper_without k l [] p = tt
  proper_without k l (r ∷ rs) p = go (same r.key r.len k l) refl (proper_without k l rs p.1)
    where
      go : (x : Bool) → same r.key r.len k l ≡ x → Proper (without k l rs) → Proper (without k l (r ∷ rs))
      go true x ih = rw (x, without) ih
      go false x ih = rw (x, without) (
        record {
          prefix = p.0.prefix;
          shown = p.0.shown;
          once = value_kept rs k l r.key r.len (same_sym k l r.key r.len ∙ x) ∙ p.0.once;
        },
        ih,
      )

  -- every accepted edit leaves proper rules
  pub proper_edited : (e : Edit Value) (rs : Rules Value) → Names e → Proper rs → Proper (edited e rs)
  unfolding edited
  proper_edited (put k l v) rs n p = (
    record {
      prefix = record { bits = masked_lt l n.bits; short = n.short };
      shown = masked_again k l;
      once = value_gone rs k l (masked k l) l (same_sym k l (masked k l) l ∙ same_masked k l k l ∙ same_refl k l);
    },
    proper_without k l rs p,
  )
  proper_edited (del k l) rs n p = proper_without k l rs p

  -- and so does every history
  pub proper_live : (rs : Rules Value) (h : List (Edit Value)) → AllName h → Proper rs → Proper (live_from rs h)
  unfolding live_from
  proper_live rs [] n p = p
  proper_live rs (e ∷ h) n p = proper_edited e (live_from rs h) n.0 (proper_live rs h n.1 p)
