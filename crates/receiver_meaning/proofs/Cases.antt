-- What a piece and a finish owe is one of two things each. Whoever wants a fact of what is owed shows it of both.
--   piece-cases     the piece goes, or it is uneven; piece-goes, the first where it is of whole symbols
--   finish-cases    the room is too small for the rest, or the rest is written
use mathlib.Core.Path.{◌≡◌, refl}
use mathlib.Core.Bool.{Bool, true, false, cond}
use Prim.Native.Nat.{ℕ, ◌≤◌, ◌<◌}
use native.Mathlib.Omega.{arith}
use lib.Dec.{ltb}
use lib.ListN.{length}
use borrow.Author.Tests.{ltb-true, ltb-false}
use Rattle.receiver_meaning.specs.Told.{Told}
use Rattle.receiver_meaning.specs.Piece.{Piece}
use Rattle.receiver_meaning.specs.Owed.{Owed, piece_goes, piece_uneven, piece_owed, FinishOwed, rest_of, finish_short, finish_done, finish_owed}

either : {A : Type 0} (P : A → Type 0) (b : Bool) (x y : A) → (b ≡ true → P x) → (b ≡ false → P y) → P (cond b x y)
either P true x y f g = f refl
either P false x y f g = g refl

module _ (t : Told) where
  pub piece-cases : (p : Piece) (room : ℕ) (P : Owed → Type 0) → (p.fits ≡ true → P (piece_goes t p room)) → (p.fits ≡ false → P (piece_uneven t)) →
      P (piece_owed t p room)
  unfolding piece_owed
  piece-cases p room P = either P p.fits (piece_goes t p room) (piece_uneven t)

  -- so a piece of whole symbols goes
  pub piece-goes : (p : Piece) (room : ℕ) → p.fits ≡ true → piece_owed t p room ≡ piece_goes t p room
  piece-goes p room e = piece-cases p room (λ d. d ≡ piece_goes t p room) (λ _. refl) (λ f. absurd (let z : ◌≡◌ {A = ℕ} 0 1 = cc in omega arith))

  pub finish-cases : (room : ℕ) (P : FinishOwed → Type 0) → (room < length (rest_of t) → P finish_short) → (length (rest_of t) ≤ room → P (finish_done t)) →
      P (finish_owed t room)
  unfolding finish_owed
  finish-cases room P f g =
      let n = length (rest_of t) in either P (ltb room n) finish_short (finish_done t) (λ e. f (ltb-true room n e)) (λ e. g (ltb-false room n e))
