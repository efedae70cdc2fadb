-- An answer's twelve bytes as the code writes them: four bytes, then two words. Assumes nothing.
use mathlib.Core.Path.{◌≡◌, sym, ap, ◌∙◌}
use mathlib.Core.List.{List, [], ◌∷◌, ◌++◌}
use Prim.Native.Nat.{ℕ, ◌+◌, ◌%◌}
use native.Mathlib.Omega.{arith}
use lib.ListN.{set}
use Rattle.octets.specs.Octets.{bytes_of, written}
use Rattle.octets.proofs.Written.{written_append, written_four}
use Rattle.map.specs.declared.Values.{Values}
use Rattle.records.specs.Records.{reply_of}

-- number, length, node count and zero, then the key, then the value
pub reply_written :
    (l a b : List ℕ) (at : ℕ) (v : Values)
    → a ≡ written (set (set (set (set l at (v.number % 256)) (at + 1) (v.len % 256)) (at + 2) (v.nodes % 256)) (at + 3) 0) (at + 4) (bytes_of v.key)
    → b ≡ written a (at + 8) (bytes_of v.value)
    → b ≡ written l at (reply_of v)
unfolding reply_of
reply_written l a b at v p q =
    let key = v.key in
    let value = v.value in
    let four = v.number % 256 ∷ v.len % 256 ∷ v.nodes % 256 ∷ 0 ∷ [] in
    let e : at + 4 + 4 ≡ at + 8 = omega arith in
    let f : a ≡ written (written l at four) (at + 4) (bytes_of key) = p ∙ ap (λ (x : List ℕ). written x (at + 4) (bytes_of key)) (written_four l at (v.number % 256) (v.len % 256) (v.nodes % 256) 0) in
    q
    ∙ ap (λ (x : List ℕ). written x (at + 8) (bytes_of value)) f
    ∙ ap (λ (i : ℕ). written (written (written l at four) (at + 4) (bytes_of key)) i (bytes_of value)) (sym e)
    ∙ sym (written_append (written l at four) (at + 4) (bytes_of key) (bytes_of value))
    ∙ sym (written_append l at four (bytes_of key ++ bytes_of value))
