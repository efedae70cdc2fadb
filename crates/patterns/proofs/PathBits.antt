-- The ancestors of a path, worked out: the places of a node's heap, counted from 1, halve on the way up. Assumes nothing.
use mathlib.Core.Path.{◌≡◌, ap, ◌∙◌}
use mathlib.Core.Bool.{Bool}
use Prim.Native.Nat.{ℕ, suc, ◌+◌, ◌-◌, ◌*◌, ◌/◌, ◌%◌, ◌^◌, ◌<◌, max}
use native.Mathlib.Nat.{mod-lt, div-le_self, lt_of_le_of_lt}
use native.Mathlib.Omega.{arith}
use lib.Bits.{bit_or, or_lt}
use lib.Dec.{T, eqb, eqb→eq}
use lib.Pow.{pow_pos}
use Rattle.bits.specs.Bits.{one, bit_at, word}
use Rattle.bits.proofs.BitByBit.{bit_of_or, bit_half}
use Rattle.bits.proofs.Table.{up_to, up_to_at}
use Rattle.bits.proofs.Words.{word_is}
use Rattle.places.specs.Places.{level_of, path_of}
use Rattle.patterns.specs.Patterns.{lead, is_ancestor}

-- the place of a path in the node's heap, counted from 1
abbrev pub heap_at : ℕ → ℕ → ℕ
heap_at level place = (16 + place) / 2 ^ (4 - level)

-- it has five bits
pub heap_lt : (level place : ℕ) → place < 16 → heap_at level place < 32
heap_lt level place h = let l = div-le_self (16 + place) (2 ^ (4 - level)) in omega arith

-- 1 << u on the machine
abbrev up : ℕ → ℕ
up u = 1 * 2 ^ u % 2 ^ 32

up_lt : (u : ℕ) → up u < 2 ^ 32
up_lt u = mod-lt (1 * 2 ^ u) (pow_pos 32)

-- what the machine works out from the place t: it and its halves as bits, shifted down by one
abbrev pub way : ℕ → ℕ
way t = bit_or (bit_or (bit_or (bit_or (up t) (up (t / 2))) (up (t / 4))) (up (t / 8))) (up (t / 16)) / 2

way_lt : (t : ℕ) → way t < 2 ^ 32
way_lt t =
    let a : ℕ = bit_or (up t) (up (t / 2)) in
    let b : ℕ = bit_or a (up (t / 4)) in
    let c : ℕ = bit_or b (up (t / 8)) in
    let ha : a < 2 ^ 32 = or_lt 32 (up t) (up (t / 2)) (up_lt t) (up_lt (t / 2)) in
    let hb : b < 2 ^ 32 = or_lt 32 a (up (t / 4)) ha (up_lt (t / 4)) in
    let hc : c < 2 ^ 32 = or_lt 32 b (up (t / 8)) hb (up_lt (t / 8)) in
    lt_of_le_of_lt (div-le_self (bit_or c (up (t / 16))) 2) (or_lt 32 c (up (t / 16)) hc (up_lt (t / 16)))

-- its bits
marked : ℕ → ℕ → ℕ
marked t k = max (max (max (max (bit_at (up t) k) (bit_at (up (t / 2)) k)) (bit_at (up (t / 4)) k)) (bit_at (up (t / 8)) k)) (bit_at (up (t / 16)) k)

way_bit : (t i : ℕ) → bit_at (way t) i ≡ marked t (suc i)
unfolding marked
way_bit t i =
    let k : ℕ = suc i in
    let a : ℕ = bit_or (up t) (up (t / 2)) in
    let b : ℕ = bit_or a (up (t / 4)) in
    let c : ℕ = bit_or b (up (t / 8)) in
    bit_half (bit_or c (up (t / 16))) i
    ∙ bit_of_or c (up (t / 16)) k
    ∙ ap (λ (x : ℕ). max x (bit_at (up (t / 16)) k)) (bit_of_or b (up (t / 8)) k)
    ∙ ap (λ (x : ℕ). max (max x (bit_at (up (t / 8)) k)) (bit_at (up (t / 16)) k)) (bit_of_or a (up (t / 4)) k)
    ∙ ap (λ (x : ℕ). max (max (max x (bit_at (up (t / 4)) k)) (bit_at (up (t / 8)) k)) (bit_at (up (t / 16)) k)) (bit_of_or (up t) (up (t / 2)) k)

-- ---- they are the ancestors, tested at each level, place and bit

right : ℕ → ℕ → ℕ → Bool
right level place i = eqb (marked (heap_at level place) (suc i)) (one (is_ancestor level place i))

right_row : ℕ → ℕ → Bool
right_row level place = up_to 32 (right level place)

right_level : ℕ → Bool
right_level level = up_to 16 (right_row level)

all_right : T (up_to 5 right_level)
unfolding right_level right_row right marked bit_at is_ancestor lead level_of path_of
all_right = tt

marked_is : (level place i : ℕ) → level < 5 → place < 16 → i < 32 → marked (heap_at level place) (suc i) ≡ one (is_ancestor level place i)
unfolding right_level right_row right
marked_is level place i hl hp hi =
    eqb→eq (marked (heap_at level place) (suc i)) (one (is_ancestor level place i))
    (up_to_at 32 (right level place) (up_to_at 16 (right_row level) (up_to_at 5 right_level all_right level hl) place hp) i hi)

-- the way up from a path's place is the word of its ancestors
pub way_word : (level place : ℕ) → level < 5 → place < 16 → way (heap_at level place) ≡ word 32 (is_ancestor level place)
way_word level place hl hp =
    word_is 32 (is_ancestor level place) (way (heap_at level place)) (way_lt (heap_at level place))
    (λ i h. way_bit (heap_at level place) i ∙ marked_is level place i hl hp h)
