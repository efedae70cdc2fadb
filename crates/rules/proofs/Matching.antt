-- The three lookups, each a scan of lengths, meet their meaning by covering, and nothing else does. Assumes nothing.
use mathlib.Core.Path.{◌≡◌, refl, sym, ap, ap₂, ◌∙◌, subst}
use mathlib.Core.Logic.{◌↔◌, ◌⊎◌, inl, inr, ⊎_elim}
use mathlib.Core.Option.{Option, none, some, none-ne-some, some-injective}
use Prim.Native.Nat.{ℕ, zero, suc, ◌≤◌, ◌<◌}
use native.Mathlib.Nat.{le_refl, le_antisymm, eq-or-lt_of_le}
use native.Mathlib.Omega.{arith}
use Rattle.prefix.specs.Prefix.{first, masked}
use Rattle.prefix.proofs.Masking.{first_fewer, masked_first, masked_again, masked_same}
use Rattle.prefix.proofs.Covering.{covers_one}
use Rattle.rules.specs.Rules.{Rules, value_at, Answer, nothing, found, told, or_else, exact, longest, shortest}
use Rattle.rules.specs.Answers.{Covering, NoneCovers, Chosen, Longest, Shortest, Exact}
use Rattle.rules.proofs.Live.{value_first}

module _ {Value : Type 0} where
  none_some : {A : Type 0} (o : Option Value) (v : Value) → o ≡ none → o ≡ some v → A
  none_some o v a b = absurd (none-ne-some v (sym a ∙ b))

  module _ (rs : Rules Value) (q : ℕ) where
    -- a covering rule is the one for as many of the query's bits
    pub covering_here : (n p l : ℕ) (v : Value) → Covering rs q n p l v → value_at rs q l ≡ some v
    covering_here n p l v c = sym (value_first rs p q l c.covers.agree) ∙ c.alive

    -- and the rule for as many of the query's bits covers it
    pub here_covering : (n l : ℕ) (v : Value) → l ≤ n → value_at rs q l ≡ some v → Covering rs q n (masked q l) l v
    here_covering n l v h e = record {
      alive = value_first rs (masked q l) q l (masked_first q l l (le_refl l)) ∙ e;
      covers = record { shorter = h; agree = masked_first q l l (le_refl l) };
    }

    -- a longer query has the same covering rules
    longer : (n p l : ℕ) (v : Value) → Covering rs q n p l v → Covering rs q (suc n) p l v
    longer n p l v c = record { alive = c.alive; covers = record { shorter = omega (arith, c.covers.shorter); agree = c.covers.agree } }

    -- and at most one more
    shorter : (n p l : ℕ) (v : Value) → Covering rs q (suc n) p l v → (l ≡ suc n) ⊎ Covering rs q n p l v
    shorter n p l v c = go (eq-or-lt_of_le c.covers.shorter)
      where
        go : (l ≡ suc n) ⊎ (l < suc n) → (l ≡ suc n) ⊎ Covering rs q n p l v
        go (inl e) = inl e
        go (inr h) = inr (record { alive = c.alive; covers = record { shorter = omega arith; agree = c.covers.agree } })

    -- namely the rule for the whole query
    not_longer : (n p l : ℕ) (v : Value) → value_at rs q (suc n) ≡ none → Covering rs q (suc n) p l v → Covering rs q n p l v
    not_longer n p l v e c = ⊎_elim
        (λ z. none_some (value_at rs q l) v (ap (value_at rs q) z ∙ e) (covering_here (suc n) p l v c))
        (λ d. d) (shorter n p l v c)

    exact_told : (n : ℕ) (o : Option Value) → value_at rs q n ≡ o → Exact rs q n (told q n o)
    exact_told n none e = λ p v c. none_some (value_at rs q n) v e (covering_here n p n v c)
    exact_told n (some v) e = record { covering = here_covering n n v (le_refl n) e; shown = masked_again q n; own = refl }

    -- exact gives the rule for the query's own prefix
    pub exact_right : (n : ℕ) → Exact rs q n (exact rs q n)
    unfolding exact
    exact_right n = exact_told n (value_at rs q n) refl

    longest_zero : (o : Option Value) → value_at rs q 0 ≡ o → Longest rs q 0 (told q 0 o)
    longest_zero none e =
        λ p l v c. let z : l ≡ 0 = omega (arith, c.covers.shorter) in none_some (value_at rs q l) v (ap (value_at rs q) z ∙ e) (covering_here 0 p l v c)
    longest_zero (some v) e = record { covering = here_covering 0 0 v (le_refl 0) e; shown = masked_again q 0; best = λ p l w c. c.covers.shorter }

    longest_step_lem : (n : ℕ) (a : Answer Value) → Longest rs q n a → (o : Option Value) → value_at rs q (suc n) ≡ o
        → Longest rs q (suc n) (or_else (told q (suc n) o) a)
    longest_step_lem n a ih (some v) e =
        record { covering = here_covering (suc n) (suc n) v (le_refl (suc n)) e; shown = masked_again q (suc n); best = λ p l w c. c.covers.shorter }
    longest_step_lem n nothing ih none e = λ p l v c. ih p l v (not_longer n p l v e c)
    longest_step_lem n (found k m w) ih none e =
        record { covering = longer n k m w ih.covering; shown = ih.shown; best = λ p l v c. ih.best p l v (not_longer n p l v e c) }

    -- longest gives the longest live rule that covers
    pub longest_right : (n : ℕ) → Longest rs q n (longest rs q n)
    unfolding longest exact
    longest_right zero = longest_zero (value_at rs q 0) refl
    longest_right (suc n) = longest_step_lem n (longest rs q n) (longest_right n) (value_at rs q (suc n)) refl

    shortest_zero : (o : Option Value) → value_at rs q 0 ≡ o → Shortest rs q 0 (told q 0 o)
    shortest_zero none e = longest_zero none e
    shortest_zero (some v) e = record { covering = here_covering 0 0 v (le_refl 0) e; shown = masked_again q 0; best = λ p l w c. omega arith }

    shortest_step_lem : (n : ℕ) (a : Answer Value) → Shortest rs q n a → (o : Option Value) → value_at rs q (suc n) ≡ o
        → Shortest rs q (suc n) (or_else a (told q (suc n) o))
    shortest_step_lem n (found k m w) ih o e = record {
      covering = longer n k m w ih.covering;
      shown = ih.shown;
      best = λ p l v c. ⊎_elim (λ z. omega (arith, ih.covering.covers.shorter)) (λ d. ih.best p l v d) (shorter n p l v c);
    }
    shortest_step_lem n nothing ih none e = λ p l v c. ih p l v (not_longer n p l v e c)
    shortest_step_lem n nothing ih (some v) e = record {
      covering = here_covering (suc n) (suc n) v (le_refl (suc n)) e;
      shown = masked_again q (suc n);
      best = λ p l w c. ⊎_elim (λ z. omega arith) (λ d. absurd (ih p l w d)) (shorter n p l w c);
    }

    -- shortest gives the shortest
    pub shortest_right : (n : ℕ) → Shortest rs q n (shortest rs q n)
    unfolding shortest exact
    shortest_right zero = shortest_zero (value_at rs q 0) refl
    shortest_right (suc n) = shortest_step_lem n (shortest rs q n) (shortest_right n) (value_at rs q (suc n)) refl

    -- ---- there is one answer

    -- two covering rules of one length, their keys masked, are one answer
    one_rule : (n p l p' l' : ℕ) (v v' : Value) → masked p l ≡ p → masked p' l' ≡ p' → l ≡ l' → Covering rs q n p l v
        → Covering rs q n p' l' v' → found p l v ≡ found p' l' v'
    one_rule n p l p' l' v v' s s' e c d =
        let b : value_at rs q l ≡ some v' = ap (value_at rs q) e ∙ covering_here n p' l' v' d in
        let w : v ≡ v' = some-injective v v' (sym (covering_here n p l v c) ∙ b) in
        let d' : Covering rs q n p' l v' = subst (λ (x : ℕ). Covering rs q n p' x v') (sym e) d in
        let k : p ≡ p' = sym s ∙ covers_one c.covers d'.covers ∙ ap (masked p') e ∙ s' in
        cc

    -- whatever is better, if no length is better than another and worse
    pub chosen_one : (better : ℕ → ℕ → Type 0) → ((l m : ℕ) → better l m → better m l → l ≡ m)
        → (n : ℕ) (a b : Answer Value) → Chosen rs q n better a → Chosen rs q n better b → a ≡ b
    chosen_one better anti n nothing nothing f g = refl
    chosen_one better anti n nothing (found p l v) f g = absurd (f p l v g.covering)
    chosen_one better anti n (found p l v) nothing f g = absurd (g p l v f.covering)
    chosen_one better anti n (found p l v) (found p' l' v') f g =
        let e : l ≡ l' = anti l l' (f.best p' l' v' g.covering) (g.best p l v f.covering) in
        one_rule n p l p' l' v v' f.shown g.shown e f.covering g.covering

    -- one longest
    pub longest_one : (n : ℕ) (a b : Answer Value) → Longest rs q n a → Longest rs q n b → a ≡ b
    longest_one n a b f g = chosen_one (λ mine other. other ≤ mine) (λ l m h k. le_antisymm k h) n a b f g

    -- one shortest
    pub shortest_one : (n : ℕ) (a b : Answer Value) → Shortest rs q n a → Shortest rs q n b → a ≡ b
    shortest_one n a b f g = chosen_one (λ mine other. mine ≤ other) (λ l m h k. le_antisymm h k) n a b f g

    -- one exact
    pub exact_one : (n : ℕ) (a b : Answer Value) → Exact rs q n a → Exact rs q n b → a ≡ b
    exact_one n nothing nothing f g = refl
    exact_one n nothing (found p l v) f g = absurd (f p v (subst (λ (x : ℕ). Covering rs q n p x v) g.own g.covering))
    exact_one n (found p l v) nothing f g = absurd (g p v (subst (λ (x : ℕ). Covering rs q n p x v) f.own f.covering))
    exact_one n (found p l v) (found p' l' v') f g =
        one_rule n p l p' l' v v' f.shown g.shown (f.own ∙ sym g.own) f.covering g.covering

    -- demand 3: nothing is the answer exactly where no live rule covers
    pub longest_nothing : (n : ℕ) → longest rs q n ≡ nothing ↔ NoneCovers rs q n
    longest_nothing n = (λ e. subst (Longest rs q n) e (longest_right n), λ f. longest_one n (longest rs q n) nothing (longest_right n) f)

    -- of shortest too
    pub shortest_nothing : (n : ℕ) → shortest rs q n ≡ nothing ↔ NoneCovers rs q n
    shortest_nothing n = (λ e. subst (Shortest rs q n) e (shortest_right n), λ f. shortest_one n (shortest rs q n) nothing (shortest_right n) f)

  -- ---- only the first `length` bits of a query count

  module _ (rs : Rules Value) (p q : ℕ) where
    -- of exact
    pub exact_bits : (n : ℕ) → first n p ≡ first n q → exact rs p n ≡ exact rs q n
    unfolding exact
    exact_bits n e = rw (value_first rs p q n e) (go (value_at rs q n))
      where
        go : (o : Option Value) → told p n o ≡ told q n o
        go none = refl
        go (some v) = ap (λ (x : ℕ). found x n v) ((masked_same p q n).1 e)

    -- of longest
    pub longest_bits : (n : ℕ) → first n p ≡ first n q → longest rs p n ≡ longest rs q n
    unfolding longest
    longest_bits zero e = exact_bits zero e
    longest_bits (suc n) e = ap₂ or_else (exact_bits (suc n) e) (longest_bits n (first_fewer p q n (suc n) (omega arith) e))

    -- of shortest
    pub shortest_bits : (n : ℕ) → first n p ≡ first n q → shortest rs p n ≡ shortest rs q n
    unfolding shortest
    shortest_bits zero e = exact_bits zero e
    shortest_bits (suc n) e = ap₂ or_else (shortest_bits n (first_fewer p q n (suc n) (omega arith) e)) (exact_bits (suc n) e)
