-- What a sound sender's numbers are, and that every end is sound or closed.
--   Ranges s      the width, the turn and the state are in range
--   ranges        a sound sender's are
--   end-sound     an end that is open is sound: so 9 is given exactly to a closed end
use mathlib.Core.Path.{◌≡◌, refl, sym, subst}
use mathlib.Core.Bool.{Bool, true, false, cond, ◌&&◌}
use Prim.Native.Nat.{ℕ, ◌≤◌, ◌<◌}
use native.Mathlib.Omega.{arith}
use borrow.Author.Tests.{lt-ltb}
use lib.Dec.{T, leb, ltb, ltb→lt}
use lib.ListN.{length}
use Rattle.wei.specs.Word.{is_word}
use Rattle.wei.proofs.Finite.{and_left, and_right}
use Rattle.wei.proofs.States.{next-below}
use Rattle.wei.specs.Symbol.{symbol_of}
use Rattle.points.specs.Agreed.{is_accord}
use Rattle.points.proofs.Agreed.{accord-width}
use Rattle.sender.specs.declared.Sender.{Sender}
use Rattle.sender.specs.Send.{sound, after, Given, fresh, opening, sending, End, opened, called}

pub record Ranges (s : Sender) : Type 0 where
  pub agreed : is_accord s.accord ≡ true
  pub turn : s.turn < 4
  pub state : s.state < 16

T_true : (b : Bool) → T b → b ≡ true
T_true true t = refl
T_true false t = absurd t

pub ranges : (s : Sender) → sound s ≡ true → Ranges s
ranges s e =
    let t : T (sound s) = subst T (sym e) tt in
    let t₁ = and_right s.live (is_accord s.accord && (ltb s.turn 4 && ltb s.state 16)) t in
    let t₂ = and_right (is_accord s.accord) (ltb s.turn 4 && ltb s.state 16) t₁ in
    record {
      agreed = T_true (is_accord s.accord) (and_left (is_accord s.accord) (ltb s.turn 4 && ltb s.state 16) t₁);
      turn = ltb→lt s.turn 4 (and_left (ltb s.turn 4) (ltb s.state 16) t₂);
      state = ltb→lt s.state 16 (and_right (ltb s.turn 4) (ltb s.state 16) t₂);
    }

pub wide : (s : Sender) → Ranges s → s.accord.u ≤ 8
wide s r = accord-width s.accord r.agreed

pub ranged : (s : Sender) → s.live ≡ true → Ranges s → sound s ≡ true
ranged s e r = simp (e, r.agreed, lt-ltb s.turn 4 r.turn, lt-ltb s.state 16 r.state)

-- ---- ends

pub after-sound : (s : Sender) (n : ℕ) → Ranges s → sound (after s n) ≡ true
unfolding after symbol_of
after-sound s n r =
    ranged (after s n) refl
    (record { agreed = r.agreed; turn = omega arith; state = next-below s.state _ _ })

-- an open sender is sound
Good : Sender → Type 0
Good s = s.live ≡ true → sound s ≡ true

-- whichever of two things a test gives
either : (b : Bool) (x y : Given) → (b ≡ true → Good x.sender) → (b ≡ false → Good y.sender) → Good (cond b x y).sender
either true x y f g = f refl
either false x y f g = g refl

end-good : (s : Sender) → End s → Good s
unfolding Good opening sending
end-good s (opened k) =
    either (is_accord k) _ _ (λ e h. ranged (fresh k) refl (record { agreed = e; turn = omega arith; state = omega arith }))
    (λ e h. absurd (subst T (sym h) tt))
end-good r (called {s = t} e n out) =
    let same = end-good t e in
    either (sound t) _ _
    (λ b. either (is_word t.accord.u n) _ _ (λ b₁. either (leb 4 (length out)) _ _ (λ b₂ h. after-sound t n (ranges t b)) (λ b₂. same)) (λ b₁. same))
    (λ b. same)

pub end-sound : (s : Sender) → End s → s.live ≡ true → sound s ≡ true
unfolding Good
end-sound s e = end-good s e
