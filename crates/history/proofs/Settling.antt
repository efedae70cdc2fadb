-- What an edit is to leave, and that its number settles it: blocks that the ledger supplies, or number 4 and nothing changed. Assumes nothing.
use mathlib.Core.Path.{◌≡◌, refl, sym, ◌∙◌, subst}
use mathlib.Core.Bool.{Bool, true, false, cond, ◌&&◌}
use Prim.Native.Nat.{ℕ}
use lib.Dec.{eqb}
use Rattle.store.specs.declared.Cell.{Cell}
use Rattle.map.specs.declared.State.{State}
use Rattle.map.specs.declared.Answer.{Answer}
use Rattle.map.specs.declared.Answer.TheVariants.{NoRoom}
use Rattle.map.specs.declared.Edited.{Edited}
use Rattle.map.specs.Memory.{Memory, refuse}
use Rattle.rules.specs.Account.{Kind, Account}
use Rattle.rules.specs.Ledger.{Ledger}
use Rattle.history.proofs.Booked.{Booked}

-- a call is done: it answers a, and leaves the ledger g booked
pub record Done (N D : ℕ) (g : Ledger Cell) (a : Answer) (r : Edited × Memory) : Type 0 where
  pub answer : r.0.answer ≡ a
  pub booked : Booked N D g r.0.state r.1

-- said of an equal ledger and an equal answer
pub done_as : {N D : ℕ} {g g' : Ledger Cell} {a a' : Answer} {r : Edited × Memory} → g ≡ g' → a ≡ a' → Done N D g a r → Done N D g' a' r
done_as {N} {D} {r = r} e f d = record { answer = d.answer ∙ f; booked = subst (λ (x : Ledger Cell). Booked N D x r.0.state r.1) e d.booked }

-- what holds of the ledger's pool holds of the map's
pub alike : (P : Kind → ℕ → Account → Type 0) {K K' : Kind} {c c' : ℕ} {a a' : Account} → K ≡ K' → c ≡ c' → a ≡ a' → P K' c' a' → P K c a
alike P {K} {K'} {c} {c'} {a} {a'} e f h p =
    subst (λ (x : Kind). P x c a) (sym e) (subst (λ (x : ℕ). P K' x a) (sym f) (subst (λ (x : Account). P K' c' x) (sym h) p))

module _ {N D : ℕ} {g : Ledger Cell} {s : State} {m : Memory} (b : Booked N D g s m) (g' : Ledger Cell) (a : Answer) where
  -- what an edit leaves whose blocks are supplied, or aren't
  abbrev pub Settled : Bool → Edited × Memory → Type 0
  Settled room r = Done N D (cond room g' g) (cond room a NoRoom) r

  -- refused for room: nothing changed
  pub no_room : Settled false (refuse 4 s m)
  no_room = record { answer = refl; booked = b }

  -- one number
  pub settle : (x : Bool) (z : Edited × Memory) → (x ≡ true → Done N D g' a z) → Settled x (cond (eqb (cond x 0 4) 0) z (refuse (cond x 0 4) s m))
  settle true z f = f refl
  settle false z f = no_room

  -- two numbers, one after the other
  pub settle_both : (x y : Bool) (z : Edited × Memory) → (x ≡ true → y ≡ true → Done N D g' a z)
      → Settled (x && y) (cond (eqb (cond x 0 4) 0) (cond (eqb (cond y 0 4) 0) z (refuse (cond y 0 4) s m)) (refuse (cond x 0 4) s m))
  settle_both true y z f = settle y z (f refl)
  settle_both false y z f = no_room
