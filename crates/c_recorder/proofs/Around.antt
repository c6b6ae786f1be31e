-- A state in words whose receiver's picks are lent in their place: what is lent, what the state is once they have come back, and that they
-- are those of the receiver in it. It leans on how a state is read (crates c_states and front).
--   receiver-long   an open receiver has the words it needs
--   picks_in         the picks in a state; around: the state with other picks in their place
--   long, around-long, picks-at, front-is, all_there   where the state holds a receiver
use mathlib.Core.Path.{◌≡◌, refl, ap}
use mathlib.Core.Bool.{Bool, true, false}
use mathlib.Core.List.{List, ◌++◌}
use Prim.Native.Nat.{ℕ, ◌≤◌}
use native.Mathlib.Omega.{arith}
use lib.ListN.{length, take, drop, length-drop, length-append}
use lib.Seq.{length-take-le}
use Rattle.machine.specs.Machine.{shut, sound}
use Rattle.receiver.specs.Promise.{parts_of}
use Rattle.c_layout.specs.Layout.{receiver_length, receiver_tag, picks_at}
use Rattle.c_layout.specs.Tagged.{holds}
use Rattle.c_layout.proofs.Held.{held}
use Rattle.c_states.specs.declared.Copied.{Copied}
use Rattle.c_states.specs.Front.{copied_in}
use Rattle.c_states.specs.State.{receiver_in}

differ : false ≡ true → ⊥
differ e = let z : ◌≡◌ {A = ℕ} 0 1 = cc in omega arith

pub receiver-long : (ws : List ℕ) → sound (receiver_in ws) ≡ true → receiver_length ≤ length ws
unfolding receiver_in sound shut
receiver-long ws e = go (holds receiver_length receiver_tag ws) refl where
  go : (b : Bool) → holds receiver_length receiver_tag ws ≡ b → receiver_length ≤ length ws
  go true h = (held receiver_length receiver_tag ws h).long
  go false h = absurd (differ (rw h at e))

module _ (state : List ℕ) where
  abbrev pub picks_in : List ℕ
  picks_in = take 72 (drop picks_at state)

  abbrev pub around : List ℕ → List ℕ
  around picks = take picks_at state ++ (picks ++ drop 72 (drop picks_at state))

  module _ (yes : holds receiver_length receiver_tag state ≡ true) where
    pub long : picks_at ≤ length state
    long = omega (arith, (held receiver_length receiver_tag state yes).long)

    pub around-long : (picks : List ℕ) → picks_at ≤ length (around picks)
    around-long picks = rw (length-append (take picks_at state), length-take-le picks_at state long) (omega arith)

    pub picks-at : (receiver_in state).picks ≡ picks_in
    unfolding receiver_in
    picks-at = rw yes

    pub front-is : (f : Copied) → f ≡ copied_in state → parts_of true f.core f.sums f.registers picks_in ≡ receiver_in state
    unfolding receiver_in
    front-is f e = rw yes (ap (λ (x : Copied). parts_of true x.core x.sums x.registers picks_in) e)

    pub all_there : length picks_in ≡ 72
    all_there = length-take-le 72 (drop picks_at state) (rw length-drop (omega (arith, (held receiver_length receiver_tag state yes).long)))
