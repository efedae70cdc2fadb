-- The three lookups over an image of live rules: each sees the answer that the live rules give, with its node count. Assumes nothing.
use mathlib.Core.Path.{◌≡◌, refl, sym, ap, ◌∙◌, subst}
use mathlib.Core.Bool.{Bool, true, false}
use mathlib.Core.Option.{Option, none, some}
use mathlib.Core.List.{List}
use Prim.Native.Nat.{ℕ, suc, ◌+◌, ◌≤◌, ◌<◌}
use native.Mathlib.Decide.{dec_lt}
use native.Mathlib.Omega.{arith}
use Rattle.bits.specs.Bits.{has}
use Rattle.tiers.specs.Tiers.{stride}
use Rattle.places.specs.Places.{data_bit}
use Rattle.node.specs.declared.MultiBitNode.{MultiBitNode}
use Rattle.std.specs.Prelude as std
use Rattle.std.specs.Prelude.{Some, None, Ok}
use Rattle.node.specs.Matches.{longest_in, shortest_in}
use Rattle.node.proofs.Matches.{Held, IsShortest, longest_is, shortest_is}
use Rattle.blocks.specs.declared.Pool.{Pool}
use Rattle.store.specs.declared.Cell.{Cell}
use Rattle.walk.specs.declared.Rule.{Rule}
use Rattle.store.specs.Words.{node_at}
use Rattle.walk.specs.Steps.{sound_of}
use Rattle.walk.specs.Lookups.{visited, better, exact_in, longest_way, shortest_way, exact_way, walk_from, longest_sight, shortest_sight, exact_sight}
use Rattle.walk.proofs.LookupWays.{better_some, better_none, exact_short, exact_missing, exact_rule}
use Rattle.walk.proofs.Turns.{left, Standing, from_root, turn_stop, turn_end, turn_down}
use Rattle.rules.specs.Rules.{Rules, value_at, is_some, nothing, exact, longest, shortest, IsPrefix, Proper}
use Rattle.rules.specs.Nodes.{depth, node_count, count_to, shortest_count}
use Rattle.rules.proofs.Paths.{count_root, shortest_count_lem}
use Rattle.rules.proofs.InUse.{depth_next}
use Rattle.pools.specs.Items.{place_of}
use Rattle.pools.specs.Sound.{Owner}
use Rattle.image.specs.Numbers.{path_no}
use Rattle.image.specs.Tree.{Tree}
use Rattle.image.specs.Image.{Image, node_of}
use Rattle.image.proofs.Walks.{node_whole, mark_some}
use Rattle.image.proofs.Descents.{from_last, level_le, walk_root, walk_stands, walk_node, walk_end, walk_down}
use Rattle.image.proofs.Answers.{Quiet, quiet_join, shortest_quiet, shortest_first, exact_none, exact_own}
use Rattle.image.proofs.Best.{Met, unmet, met_all, shown, quiet_node, met_node, quiet_before}
use Rattle.image.proofs.Sights.{seen, rule_for, Sighted, Reach, reach_down, reach_end, none_below, held_level, held_live}

module _ {p : Pool} {nodes nf : List ℕ} {q : Pool} {cells cf : List ℕ} {E D : ℕ → Bool} {es vs : ℕ → ℕ} {val : ℕ → Cell} {on od : ℕ → Owner}
    (image : Image p nodes nf q cells cf E D es vs val on od) {rs : Rules Cell} (proper : Proper rs) (tree : Tree rs E D val) (key len : ℕ) (pre : IsPrefix key len)
  where
    abbrev N : ℕ
    N = node_count rs key len

    -- the words of the path's node at level j, and its place
    abbrev at : ℕ → MultiBitNode
    at j = node_of E D es vs (path_no key j)

    abbrev place : ℕ → ℕ
    place j = place_of E es (path_no key j)

    -- it is whole
    whole : (j : ℕ) → sound_of (at j) ≡ true
    whole j = node_whole image (path_no key j)

    -- its depth is at most the query's length
    upto : (j : ℕ) → j < N → depth j ≤ len
    upto j h = omega (arith, level_le image tree key len pre j h)

    -- where the walk stands at level j, and the node that it reads there
    stands : (j : ℕ) → j < N → Standing p.mark len (place j) (depth j)
    stands = walk_stands image tree key len pre

    reads : (j : ℕ) → j < N → at j ≡ node_at nodes (place j)
    reads = walk_node image tree key len pre

    -- there is a root to begin with
    some_mark : p.mark ≡ 0 → ⊥
    some_mark z = omega (arith, mark_some image)

    -- ---- longest

    abbrev Longest : ℕ → ℕ → ℕ → Type 0
    Longest j s d =
        (best : std.Option Rule) → Met es vs tree key len pre (depth j) best
        → Sighted E D es vs key (longest rs key len) N (walk_from longest_way (left d) nodes p.mark key len s d best)

    -- a lookup of the longest match sees the live rules' answer and its node count
    pub longest_sight_lem : Sighted E D es vs key (longest rs key len) (node_count rs key len) (longest_sight nodes p.mark key len)
    longest_sight_lem =
        subst (Sighted E D es vs key (longest rs key len) N) (from_root nodes p.mark key len longest_way some_mark)
        (subst (λ (s : ℕ). Longest 0 s 0) (walk_root image tree key len pre) (from_last N (λ j. Longest j (place j) (depth j)) last down 0 (count_root rs key len))
        None (unmet (λ l h k. absurd (omega arith)) refl))
      where
        with_node : (j m : ℕ) → j < N → Reach rs key len pre j m → (best : std.Option Rule) → Met es vs tree key len pre (depth j) best
            → Met es vs tree key len pre m (better (longest_in (at j).data_bitmap (depth j) key len) (at j) (depth j) best)
        with_node j m h r best w =
            met_node es vs tree key len pre j m r (upto j h) best (longest_in (at j).data_bitmap (depth j) key len)
            (longest_is (at j).data_bitmap (depth j) key len (upto j h)) w

        last : (j : ℕ) → suc j ≡ N → Longest j (place j) (depth j)
        last j e best w =
            let h : j < N = omega arith in
            let z : N ≡ visited (depth j) = omega arith in
            let b = better (longest_in (at j).data_bitmap (depth j) key len) (at j) (depth j) best in
            subst (Sighted E D es vs key (longest rs key len) N)
            (ap (seen b) z
            ∙ turn_end nodes key (stands j h) (reads j h) longest_way best (whole j) refl refl refl (walk_end image tree key len pre j e))
            (met_all es vs tree key len pre b N (with_node j (suc len) h (reach_end rs key len pre j e) best w))

        down : (j : ℕ) → suc j < N → Longest (suc j) (place (suc j)) (depth (suc j)) → Longest j (place j) (depth j)
        down j l ih best w =
            let h : j < N = omega arith in
            subst (Sighted E D es vs key (longest rs key len) N)
            (turn_down nodes key (stands j h) (reads j h) longest_way best (whole j) refl refl refl (place (suc j)) (walk_down image tree key len pre j l))
            (subst (Longest (suc j) (place (suc j))) (depth_next j) ih _ (with_node j (depth (suc j)) h (reach_down rs key len pre j l) best w))

    -- ---- shortest

    abbrev Shortest : ℕ → ℕ → ℕ → Type 0
    Shortest j s d =
        Quiet rs key 0 (depth j) → Sighted E D es vs key (shortest rs key len) (shortest_count rs key len) (walk_from shortest_way (left d) nodes p.mark key len s d None)

    -- where shortest finds nothing, it counts the whole path
    count_nothing : shortest rs key len ≡ nothing → shortest_count rs key len ≡ N
    unfolding shortest_count
    count_nothing e = ap (count_to rs key len) e

    -- a lookup of the shortest match sees the live rules' answer and its node count
    pub shortest_sight_lem : Sighted E D es vs key (shortest rs key len) (shortest_count rs key len) (shortest_sight nodes p.mark key len)
    shortest_sight_lem =
        subst (Sighted E D es vs key (shortest rs key len) (shortest_count rs key len)) (from_root nodes p.mark key len shortest_way some_mark)
        (subst (λ (s : ℕ). Shortest 0 s 0) (walk_root image tree key len pre) (from_last N (λ j. Shortest j (place j) (depth j)) last down 0 (count_root rs key len))
        (λ l h k. absurd (omega arith)))
      where
        -- a match in the node ends the walk; without one the rest decides
        turn : (j : ℕ) → j < N
            → (shortest_in (at j).data_bitmap (depth j) key len ≡ None → ((l : ℕ) → Held (depth j) len l → has (at j).data_bitmap (data_bit key l) ≡ false)
            → Shortest j (place j) (depth j))
            → Shortest j (place j) (depth j)
        turn j h rest q = go (shortest_in (at j).data_bitmap (depth j) key len) refl (shortest_is (at j).data_bitmap (depth j) key len (upto j h))
          where
            go : (f : std.Option ℕ) → shortest_in (at j).data_bitmap (depth j) key len ≡ f → IsShortest (at j).data_bitmap (depth j) key len f
                → Sighted E D es vs key (shortest rs key len) (shortest_count rs key len) (walk_from shortest_way (left (depth j)) nodes p.mark key len (place j) (depth j) None)
            go None e w = rest e w q
            go (Some b) e w =
                let s = shown es vs tree key len pre j w.size b w.held w.there w.set in
                let a = shortest_first rs key len w.size s.value w.held.within s.alive (quiet_before es vs tree key len pre j b w q) in
                let c : visited (depth j) ≡ shortest_count rs key len =
                omega (arith, shortest_count_lem rs key len _ w.size s.value pre.short a, held_level es vs tree key len pre j w.size w.held) in
                rw a
                (sym (turn_stop nodes key (stands j h) (reads j h) shortest_way None (whole j)
                (better_some (at j) (depth j) None (shortest_in (at j).data_bitmap (depth j) key len) b e) refl)
                ∙ ap (λ (r : Rule). seen (Some r) (visited (depth j))) s.told ∙ ap (seen (Some (rule_for E D es vs key w.size))) c)

        last : (j : ℕ) → suc j ≡ N → Shortest j (place j) (depth j)
        last j e =
            let h : j < N = omega arith in
            turn j h (λ f w q.
            let a = shortest_quiet rs key len (quiet_join rs key 0 (depth j) (suc len) q (quiet_node es vs tree key len pre j (suc len) (reach_end rs key len pre j e) w)) in
            let c : visited (depth j) ≡ shortest_count rs key len = omega (arith, count_nothing a) in
            rw a
            (sym (turn_end nodes key (stands j h) (reads j h) shortest_way None (whole j)
            (better_none (at j) (depth j) None (shortest_in (at j).data_bitmap (depth j) key len) f) refl refl (walk_end image tree key len pre j e)) ∙ ap (seen None) c))

        down : (j : ℕ) → suc j < N → Shortest (suc j) (place (suc j)) (depth (suc j)) → Shortest j (place j) (depth j)
        down j l ih =
            let h : j < N = omega arith in
            turn j h (λ f w q.
            subst (Sighted E D es vs key (shortest rs key len) (shortest_count rs key len))
            (turn_down nodes key (stands j h) (reads j h) shortest_way None (whole j)
            (better_none (at j) (depth j) None (shortest_in (at j).data_bitmap (depth j) key len) f) refl refl (place (suc j)) (walk_down image tree key len pre j l))
            (subst (Shortest (suc j) (place (suc j))) (depth_next j) ih
            (quiet_join rs key 0 (depth j) (depth (suc j)) q (quiet_node es vs tree key len pre j (depth (suc j)) (reach_down rs key len pre j l) w))))

    -- ---- exact

    abbrev Exact : ℕ → ℕ → Type 0
    Exact s d = Sighted E D es vs key (exact rs key len) N (walk_from exact_way (left d) nodes p.mark key len s d None)

    -- a lookup of the exact match sees the live rules' answer and its node count
    pub exact_sight_lem : Sighted E D es vs key (exact rs key len) (node_count rs key len) (exact_sight nodes p.mark key len)
    exact_sight_lem =
        subst (Sighted E D es vs key (exact rs key len) N) (from_root nodes p.mark key len exact_way some_mark)
        (subst (λ (s : ℕ). Exact s 0) (walk_root image tree key len pre) (from_last N (λ j. Exact (place j) (depth j)) last down 0 (count_root rs key len)))
      where
        -- the last node has the query's rule exactly where it is live
        ends : (j : ℕ) → suc j ≡ N → Sighted E D es vs key (exact rs key len) N (seen (exact_in (at j) key len (depth j)) (visited (depth j)))
        ends j e = go (dec_lt len (depth j + stride)) (value_at rs key len) refl
          where
            z : N ≡ visited (depth j)
            z = omega arith

            told : {r s : std.Option Rule} → r ≡ s → seen r (visited (depth j)) ≡ seen s N
            told {r} {s} q = ap (λ (o : std.Option Rule). seen o (visited (depth j))) q ∙ ap (seen s) (sym z)

            own : len < depth j + stride → Held (depth j) len len
            own h = record { from = upto j (omega arith); to = h; within = omega arith }

            go : Dec (len < depth j + stride) → (o : Option Cell) → value_at rs key len ≡ o → Sighted E D es vs key (exact rs key len) N (seen (exact_in (at j) key len (depth j)) (visited (depth j)))
            go (no h) o x = rw (exact_none rs key len (none_below rs key len pre len (omega arith) (omega arith))) (told (sym (exact_short (at j) key len (depth j) (omega arith))))
            go (yes h) none x =
                rw (exact_none rs key len x)
                (told (sym (exact_missing (at j) key len (depth j) h (data_bit key len) refl _ refl (held_live es vs tree key len pre j len (own h) ∙ ap is_some x))))
            go (yes h) (some v) x =
                rw (exact_own rs key len v x)
                (told (sym (exact_rule (at j) key len (depth j) h (data_bit key len) refl _ refl (held_live es vs tree key len pre j len (own h) ∙ ap is_some x)
                (omega arith) (own h).from)
                ∙ ap (λ (i : ℕ). Some (record { cells = (at i).data_idx; bitmap = (at i).data_bitmap; bit = data_bit key len; len = len })) (sym (held_level es vs tree key len pre j len (own h)))))

        last : (j : ℕ) → suc j ≡ N → Exact (place j) (depth j)
        last j e =
            let h : j < N = omega arith in
            subst (Sighted E D es vs key (exact rs key len) N)
            (turn_end nodes key (stands j h) (reads j h) exact_way None (whole j) refl refl refl (walk_end image tree key len pre j e)) (ends j e)

        down : (j : ℕ) → suc j < N → Exact (place (suc j)) (depth (suc j)) → Exact (place j) (depth j)
        down j l ih =
            let h : j < N = omega arith in
            subst (Sighted E D es vs key (exact rs key len) N)
            (turn_down nodes key (stands j h) (reads j h) exact_way None (whole j) refl refl refl (place (suc j)) (walk_down image tree key len pre j l))
            (subst (Exact (place (suc j))) (depth_next j) ih)
