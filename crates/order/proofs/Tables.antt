-- The order's tables: the rule of each is tested once over the whole table, and carried to an entry. Assumes nothing.
use mathlib.Core.Path.{◌≡◌, sym, ap₂, ◌∙◌}
use mathlib.Core.Bool.{Bool, ◌&&◌}
use mathlib.Core.List.{List, [], ◌∷◌}
use Prim.Native.Nat.{ℕ, ◌-◌, ◌*◌, ◌^◌, ◌<◌}
use lib.Dec.{T, eqb, eqb→eq}
use lib.ListN.{length, get_or}
use Rattle.bits.specs.Bits.{word}
use Rattle.bits.proofs.Table.{every, at_or, and_left, and_right, true_of}
use Rattle.places.specs.Places.{level_of, path_of}
use Rattle.order.specs.declared.LexElem.{LexElem}
use Rattle.order.specs.declared.LexMasks.{LexMasks}
use Rattle.order.specs.declared.BitPrefix.{BitPrefix}
use Rattle.order.specs.declared.LexElem.TheVariants.{Data, Child}
use Rattle.order.specs.Order.{comes_before, how_many, is_elem, place_of, data_from, data_after, child_after, AtPlace, FromData, AfterChild, Offset}

-- ---- LEX_ORDER

-- the table as the code has it
unfoldable pub lex_order : List LexElem
lex_order =
    Data 0 ∷ Data 1 ∷ Data 3 ∷ Data 7 ∷ Data 15 ∷ Child 0 ∷ Child 1 ∷ Data 16
    ∷ Child 2 ∷ Child 3 ∷ Data 8 ∷ Data 17 ∷ Child 4 ∷ Child 5 ∷ Data 18 ∷ Child 6
    ∷ Child 7 ∷ Data 4 ∷ Data 9 ∷ Data 19 ∷ Child 8 ∷ Child 9 ∷ Data 20 ∷ Child 10
    ∷ Child 11 ∷ Data 10 ∷ Data 21 ∷ Child 12 ∷ Child 13 ∷ Data 22 ∷ Child 14 ∷ Child 15
    ∷ Data 2 ∷ Data 5 ∷ Data 11 ∷ Data 23 ∷ Child 16 ∷ Child 17 ∷ Data 24 ∷ Child 18
    ∷ Child 19 ∷ Data 12 ∷ Data 25 ∷ Child 20 ∷ Child 21 ∷ Data 26 ∷ Child 22 ∷ Child 23
    ∷ Data 6 ∷ Data 13 ∷ Data 27 ∷ Child 24 ∷ Child 25 ∷ Data 28 ∷ Child 26 ∷ Child 27
    ∷ Data 14 ∷ Data 29 ∷ Child 28 ∷ Child 29 ∷ Data 30 ∷ Child 30 ∷ Child 31 ∷ []

-- the entry is an element, and as many come before it as entries do
unfoldable stands_at : ℕ → LexElem → Bool
stands_at k e = is_elem e && eqb (place_of e) k

-- the test passes at every entry
order_right : T (every stands_at 0 lex_order)
unfolding lex_order stands_at place_of how_many comes_before level_of path_of
order_right = tt

-- at each of the 63 places stands an element
pub stands : (k : ℕ) → k < 63 → AtPlace k (get_or lex_order k (Data 0))
unfolding lex_order stands_at
stands k h =
    let e = get_or lex_order k (Data 0) in
    let s = at_or (Data 0) stands_at lex_order order_right k h in record {
      there = true_of (is_elem e) (and_left (is_elem e) (eqb (place_of e) k) s);
      place_is = eqb→eq (place_of e) k (and_right (is_elem e) (eqb (place_of e) k) s);
    }

-- ---- tables of pairs

-- entry i is the pair of f i and g i
unfoldable pairs : (ℕ → ℕ) → (ℕ → ℕ) → ℕ → ℕ × ℕ → Bool
pairs f g i p = eqb p.0 (f i) && eqb p.1 (g i)

-- what the test of a whole table says of one pair
pair : (f g : ℕ → ℕ) (xs : List (ℕ × ℕ)) → T (every (pairs f g) 0 xs) → (i : ℕ) → i < length xs
    → ((get_or xs i (0, 0)).0 ≡ f i) × ((get_or xs i (0, 0)).1 ≡ g i)
unfolding pairs
pair f g xs t i h =
    let p = get_or xs i (0, 0) in
    let s = at_or (0, 0) (pairs f g) xs t i h in (
      eqb→eq p.0 (f i) (and_left (eqb p.0 (f i)) (eqb p.1 (g i)) s),
      eqb→eq p.1 (g i) (and_right (eqb p.0 (f i)) (eqb p.1 (g i)) s),
    )

-- ---- LEX_AFTER_DATA

-- the table as the code has it
unfoldable pub lex_after_data : List (ℕ × ℕ)
lex_after_data =
    (2147483647, 4294967295) ∷ (2147483646, 4294967295) ∷ (2139125860, 4294901760) ∷ (2147483644, 4294967295)
    ∷ (2146991732, 4294967040) ∷ (2139125856, 4294901760) ∷ (2013290560, 4278190080) ∷ (2147483636, 4294967295)
    ∷ (2147385204, 4294967280) ∷ (2146991716, 4294967040) ∷ (2145418340, 4294963200) ∷ (2139125824, 4294901760)
    ∷ (2113957952, 4293918720) ∷ (2013290496, 4278190080) ∷ (1610629120, 4026531840) ∷ (2147483508, 4294967295)
    ∷ (2147450740, 4294967292) ∷ (2147384948, 4294967280) ∷ (2147253876, 4294967232) ∷ (2146991204, 4294967040)
    ∷ (2146466916, 4294966272) ∷ (2145417316, 4294963200) ∷ (2143320164, 4294950912) ∷ (2139123776, 4294901760)
    ∷ (2130735168, 4294705152) ∷ (2113953856, 4293918720) ∷ (2080399424, 4290772992) ∷ (2013282304, 4278190080)
    ∷ (1879064576, 4227858432) ∷ (1610612736, 4026531840) ∷ (1073741824, 3221225472) ∷ []

-- the test passes at every entry
after_data_right : T (every (pairs (λ b. word 32 (data_from (Data b))) (λ b. word 32 (child_after (Data b)))) 0 lex_after_data)
unfolding lex_after_data pairs word data_from child_after comes_before level_of path_of
after_data_right = tt

-- the two masks of a data bit
pub from_data : (b : ℕ) → b < 31 → let p = get_or lex_after_data b (0, 0) in FromData b (record { data_mask = p.0; child_mask = p.1 })
unfolding lex_after_data
from_data b h =
    let p = pair (λ i. word 32 (data_from (Data i))) (λ i. word 32 (child_after (Data i))) lex_after_data after_data_right b h in
    record { of_data = p.0; of_child = p.1 }

-- there are no others
pub from_data_same : {b : ℕ} {m n : LexMasks} → FromData b m → FromData b n → m ≡ n
from_data_same p q = ap₂ (λ (x y : ℕ). record { data_mask = x; child_mask = y }) (p.of_data ∙ sym q.of_data) (p.of_child ∙ sym q.of_child)

-- ---- LEX_AFTER_CHILD

-- the table as the code has it
unfoldable pub lex_after_child : List (ℕ × ℕ)
lex_after_child =
    (2147450740, 4294967294) ∷ (2147450740, 4294967292) ∷ (2147385204, 4294967288) ∷ (2147385204, 4294967280)
    ∷ (2147253876, 4294967264) ∷ (2147253876, 4294967232) ∷ (2146991732, 4294967168) ∷ (2146991732, 4294967040)
    ∷ (2146466916, 4294966784) ∷ (2146466916, 4294966272) ∷ (2145418340, 4294965248) ∷ (2145418340, 4294963200)
    ∷ (2143320164, 4294959104) ∷ (2143320164, 4294950912) ∷ (2139125860, 4294934528) ∷ (2139125860, 4294901760)
    ∷ (2130735168, 4294836224) ∷ (2130735168, 4294705152) ∷ (2113957952, 4294443008) ∷ (2113957952, 4293918720)
    ∷ (2080399424, 4292870144) ∷ (2080399424, 4290772992) ∷ (2013290560, 4286578688) ∷ (2013290560, 4278190080)
    ∷ (1879064576, 4261412864) ∷ (1879064576, 4227858432) ∷ (1610629120, 4160749568) ∷ (1610629120, 4026531840)
    ∷ (1073741824, 3758096384) ∷ (1073741824, 3221225472) ∷ (0, 2147483648) ∷ (0, 0) ∷ []

-- the test passes at every entry
after_child_right : T (every (pairs (λ c. word 32 (data_after (Child c))) (λ c. word 32 (child_after (Child c)))) 0 lex_after_child)
unfolding lex_after_child pairs word data_after child_after comes_before level_of path_of
after_child_right = tt

-- the two masks of a child
pub after_child : (c : ℕ) → c < 32 → let p = get_or lex_after_child c (0, 0) in AfterChild c (record { data_mask = p.0; child_mask = p.1 })
unfolding lex_after_child
after_child c h =
    let p = pair (λ i. word 32 (data_after (Child i))) (λ i. word 32 (child_after (Child i))) lex_after_child after_child_right c h in
    record { of_data = p.0; of_child = p.1 }

-- there are no others
pub after_child_same : {c : ℕ} {m n : LexMasks} → AfterChild c m → AfterChild c n → m ≡ n
after_child_same p q = ap₂ (λ (x y : ℕ). record { data_mask = x; child_mask = y }) (p.of_data ∙ sym q.of_data) (p.of_child ∙ sym q.of_child)

-- ---- DATA_BIT_TO_PREFIX

-- the table as the code has it
unfoldable pub bit_to_prefix : List (ℕ × ℕ)
bit_to_prefix =
    (0, 0) ∷ (0, 1) ∷ (8, 1) ∷ (0, 2) ∷ (4, 2) ∷ (8, 2) ∷ (12, 2) ∷ (0, 3)
    ∷ (2, 3) ∷ (4, 3) ∷ (6, 3) ∷ (8, 3) ∷ (10, 3) ∷ (12, 3) ∷ (14, 3) ∷ (0, 4)
    ∷ (1, 4) ∷ (2, 4) ∷ (3, 4) ∷ (4, 4) ∷ (5, 4) ∷ (6, 4) ∷ (7, 4) ∷ (8, 4)
    ∷ (9, 4) ∷ (10, 4) ∷ (11, 4) ∷ (12, 4) ∷ (13, 4) ∷ (14, 4) ∷ (15, 4) ∷ []

-- the test passes at every entry
bit_to_prefix_right : T (every (pairs (λ b. path_of b * 2 ^ (4 - level_of b)) level_of) 0 bit_to_prefix)
unfolding bit_to_prefix pairs level_of path_of
bit_to_prefix_right = tt

-- the offset and the level of a data bit
pub bit_offset : (b : ℕ) → b < 31 → let p = get_or bit_to_prefix b (0, 0) in Offset b (record { offset = p.0; level = p.1 })
unfolding bit_to_prefix
bit_offset b h =
    let p = pair (λ i. path_of i * 2 ^ (4 - level_of i)) level_of bit_to_prefix bit_to_prefix_right b h in
    record { offset_is = p.0; level_is = p.1 }

-- there are no others
pub offset_same : {b : ℕ} {p q : BitPrefix} → Offset b p → Offset b q → p ≡ q
offset_same p q = ap₂ (λ (x y : ℕ). record { offset = x; level = y }) (p.offset_is ∙ sym q.offset_is) (p.level_is ∙ sym q.level_is)
