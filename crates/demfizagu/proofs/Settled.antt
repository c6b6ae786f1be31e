-- Each promise of an exported function settles it: any two results that it allows are equal, number by number and place by place.
--   opens-settled, sends-settled, list-settled, answers-settled, card-settled   one for each family of functions; those of samples are
--                                                                              in c_samples/proofs/Settled
use Prim.Native.Nat.{ℕ}
use mathlib.Core.Path.{◌≡◌, refl, sym, ◌∙◌}
use mathlib.Core.Bool.{Bool, true, false}
use mathlib.Core.List.{List}
use native.Mathlib.Omega.{arith}
use borrow.Author.Tests.{eqb-true, eqb-false}
use lib.Dec.{eqb}
use lib.IntN.{ℤ}
use Rattle.points.specs.declared.Accord.{Accord}
use Rattle.card.specs.Card.{Card}
use Rattle.demfizagu.specs.Calls.{Opening, Sending, ListCall, Call}
use Rattle.demfizagu.specs.Promise.{Opens, Sends, SendsList, Answers, ChecksCard}

pub opens-settled : {End : Type 0} (read : List ℕ → End) (c : Opening End) (n m : ℕ) (state other : List ℕ) → Opens read c n state → Opens read c m other → (n ≡ m) × (state ≡ other)
opens-settled read c n m state other a b = (a.number ∙ sym b.number, a.state-is ∙ sym b.state-is)

pub sends-settled : (c : Sending) (n m : ℕ) (state other : List ℕ) (out after : List ℤ) → Sends c n state out → Sends c m other after → (n ≡ m) × (state ≡ other) × (out ≡ after)
sends-settled c n m state other out after a b = (a.number ∙ sym b.number, a.state-is ∙ sym b.state-is, a.out-is ∙ sym b.out-is)

pub list-settled : (c : ListCall) (n m : ℕ) (state other : List ℕ) (out after : List ℤ) (told then : List ℕ) → SendsList c n state out told →
    SendsList c m other after then → (n ≡ m) × (state ≡ other) × (out ≡ after) × (told ≡ then)
list-settled c n m state other out after told then a b =
    (a.number ∙ sym b.number, a.state-is ∙ sym b.state-is, a.out-is ∙ sym b.out-is, a.told_is ∙ sym b.told_is)

pub answers-settled : (c : Call) (n m : ℕ) (state other out after told then : List ℕ) → Answers c n state out told → Answers c m other after then →
    (n ≡ m) × (state ≡ other) × (out ≡ after) × (told ≡ then)
answers-settled c n m state other out after told then a b =
    (a.number ∙ sym b.number, a.state-is ∙ sym b.state-is, a.out-is ∙ sym b.out-is, a.told_is ∙ sym b.told_is)

pub card-settled : (k : Accord) (c : Card) (n m : ℕ) → ChecksCard k c n → ChecksCard k c m → n ≡ m
card-settled k c n m a b = go (eqb m 1) (a.checks.always ∙ sym b.checks.always) refl
  where
    go : (t : Bool) → eqb n 1 ≡ t → eqb m 1 ≡ t → n ≡ m
    go true p q = eqb-true n 1 p ∙ sym (eqb-true m 1 q)
    go false p q = let h = eqb-false n 1 p in let k = eqb-false m 1 q in omega (arith, a.one-or-none, b.one-or-none)
