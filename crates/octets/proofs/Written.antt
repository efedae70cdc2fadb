-- Bytes written one after the other: lengths, one part after another, four at once, and what stays before and behind. Assumes nothing.
use mathlib.Core.Path.{◌≡◌, refl, sym, ap, ap₂, ◌∙◌}
use mathlib.Core.List.{List, [], ◌∷◌, ◌++◌, append_assoc}
use Prim.Native.Nat.{ℕ, suc, ◌+◌, ◌≤◌}
use native.Mathlib.Nat.{add-zero, not-suc-le-zero}
use native.Mathlib.Omega.{arith}
use lib.ListN.{length, set, take, drop, length-set, length-append, length-drop, take-append-drop}
use lib.Seq.{length-take-le}
use Rattle.octets.specs.Octets.{written}

-- the length stays
pub written_length : (l : List ℕ) (at : ℕ) (bs : List ℕ) → length (written l at bs) ≡ length l
unfolding written
written_length l at [] = refl
written_length l at (b ∷ bs) = written_length (set l at b) (at + 1) bs ∙ length-set l at b

-- two parts, one after the other
pub written_append : (l : List ℕ) (at : ℕ) (xs bs : List ℕ) → written l at (xs ++ bs) ≡ written (written l at xs) (at + length xs) bs
unfolding written
written_append l at [] bs = ap (λ (i : ℕ). written l i bs) (sym (add-zero at))
written_append l at (a ∷ xs) bs =
    written_append (set l at a) (at + 1) xs bs
    ∙ ap (λ (i : ℕ). written (written (set l at a) (at + 1) xs) i bs) (let e : at + 1 + length xs ≡ at + suc (length xs) = omega arith in e)

-- four bytes
pub written_four : (l : List ℕ) (at a b c d : ℕ) → set (set (set (set l at a) (at + 1) b) (at + 2) c) (at + 3) d ≡ written l at (a ∷ b ∷ c ∷ d ∷ [])
unfolding written
written_four l at a b c d =
    let e : at + 2 ≡ at + 1 + 1 = omega arith in
    let f : at + 3 ≡ at + 1 + 1 + 1 = omega arith in
    ap₂ (λ (i j : ℕ). set (set (set (set l at a) (at + 1) b) i c) j d) e f

-- one byte between what stands before and behind
set_between : (a : List ℕ) (y : ℕ) (b : List ℕ) (x : ℕ) → set (a ++ (y ∷ b)) (length a) x ≡ a ++ (x ∷ []) ++ b
set_between [] y b x = refl
set_between (z ∷ a) y b x = ap (λ (l : List ℕ). z ∷ l) (set_between a y b x)

-- bytes written right behind a part: the part stays, and so does what is behind them
pub written_between : (a b bs : List ℕ) → length bs ≤ length b → written (a ++ b) (length a) bs ≡ a ++ (bs ++ drop (length bs) b)
unfolding written
written_between a b [] h = refl
written_between a [] (x ∷ bs) h = absurd (not-suc-le-zero h)
written_between a (y ∷ b) (x ∷ bs) h =
    let e : length (a ++ (x ∷ [])) ≡ length a + 1 = length-append a (x ∷ []) in
    let f : length bs ≤ length b = omega arith in
    ap (λ (l : List ℕ). written l (length a + 1) bs) (set_between a y b x)
    ∙ ap (λ (i : ℕ). written (a ++ (x ∷ []) ++ b) i bs) (sym e)
    ∙ written_between (a ++ (x ∷ [])) b bs f
    ∙ append_assoc a (x ∷ []) (bs ++ drop (length bs) b)

-- the same as a part of a list put in the place of as many
pub written_part : (l : List ℕ) (at : ℕ) (bs : List ℕ) → at + length bs ≤ length l → take at l ++ (bs ++ drop (length bs) (drop at l)) ≡ written l at bs
written_part l at bs h =
    let n : length (take at l) ≡ at = length-take-le at l (omega arith) in
    let f : length bs ≤ length (drop at l) = simp length-drop (omega arith) in
    let e = written_between (take at l) (drop at l) bs f in
    sym (simp (take-append-drop, n) at e)
