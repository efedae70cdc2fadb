-- `intake::read_full` meets its contract: a read puts its bytes behind those that came before. Assumes nothing.
use Rattle.std.proofs.Common.{◌≡◌, ℕ, ◌+◌, ◌-◌, ◌≤◌, List, ◌++◌, rules, length, take, drop, sym, ap, ◌∙◌, subst, le_refl, drop_at, length-take-le}
use Rattle.std.proofs.lemmas.Slice.{take-put_mid_below}
use Rattle.std.specs.Io.KnownBytes.{Consumes}
use Rattle.std.proofs.KnownBytes.{Consumes-trans}
use borrow.Rule.Slice.PartMut.{put_mid, post_of}
use lib.Seq.{take-add, take-append-le}
use Rattle.intake.proofs.read_full.Goals as goal

-- n elements of ys behind the first a of xs
take-put_mid : (a k n : ℕ) (xs ys : List ℕ) → a ≤ length xs → n ≤ length ys → take a xs ++ take n ys ≡ take (a + n) (put_mid a k xs ys)
take-put_mid a k n xs ys within fits =
    let after = post_of a k xs in
    let front = take-put_mid_below a k xs ys a (le_refl a) within in
    let back : take n (drop a (put_mid a k xs ys)) ≡ take n ys =
    ap (take n) (drop_at (take a xs) (ys ++ after) a (length-take-le a xs within)) ∙ take-append-le n ys after fits in
    ap (λ l. l ++ take n ys) (sym front) ∙ ap (λ l. take a (put_mid a k xs ys) ++ l) (sym back) ∙ sym (take-add a n (put_mid a k xs ys))

pub loop-filled-preserved : goal.loop-filled-preserved
loop-filled-preserved g c =
    let from = c.loop-filled.filled in
    let room = length c.loop-filled.buf - from in
    let part = take-put_mid from room c.in-Ok.n c.loop-filled.buf c.read.new.buf c.loop-filled.invariant.0 c.in-Ok.ensures.bound.0 in
    (search rules, subst (Consumes _ _) part (Consumes-trans _ _ _ _ _ c.loop-filled.invariant.1 c.in-Ok.ensures.bytes.0))
