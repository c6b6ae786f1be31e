-- The outcomes of an opening and of a word sent, one law each over plain values, in the order of the tests.
use mathlib.Core.Path.{◌≡◌, refl, sym, ap, subst, ◌∙◌}
use mathlib.Core.Bool.{Bool, true, false, not}
use mathlib.Core.List.{List, [], ◌∷◌, ◌++◌}
use Prim.Native.Nat.{ℕ, ◌≤◌, ◌<◌}
use native.Mathlib.Omega.{arith}
use borrow.Author.Tests.{le-leb, lt-leb, eqb-true, eqb-false}
use lib.Dec.{eqb}
use lib.IntN.{ℤ}
use lib.ListN.{length, drop, set}
use Rattle.std.specs.Prelude.{Result, Ok, Err, ⊤, is_err}
use Rattle.maps.specs.PointMap.{first_at, second_at}
use Rattle.wei.specs.State.{next_state}
use Rattle.wei.specs.Symbol.{first_label}
use Rattle.wei.specs.Word.{is_word}
use Rattle.word_symbol.specs.declared.Symbol.{Symbol as Made}
use Rattle.points.specs.declared.Accord.{Accord}
use Rattle.points.specs.Agreed.{is_accord}
use Rattle.sender.specs.declared.Sender.{Sender}
use Rattle.sender.specs.declared.Sent.{Sent}
use Rattle.sender.specs.declared.Why.{Why}
use Rattle.sender.specs.declared.Why.TheVariants.{BadWidth, BadWord, NoRoom, Closed}
use Rattle.sender.specs.Send.{number_of, sound, symbol_for, after, four, Given, fresh, shut, opening, sending, End, opened, called}
use Rattle.sender.specs.Promise.{Opens, Sends}

-- four stores are the first four places
stored : (l : List ℤ) (a b c d : ℤ) → 4 ≤ length l → set (set (set (set l 0 a) 1 b) 2 c) 3 d ≡ a ∷ b ∷ c ∷ d ∷ drop 4 l
stored [] a b c d h = absurd (omega arith)
stored (w ∷ []) a b c d h = absurd (omega arith)
stored (w ∷ x ∷ []) a b c d h = absurd (omega arith)
stored (w ∷ x ∷ y ∷ []) a b c d h = absurd (omega arith)
stored (w ∷ x ∷ y ∷ z ∷ l) a b c d h = refl

-- ---- the code asks whether what a call says is an Err, the promises whether its number is 0

number-err : (w : Result ⊤ Why) → eqb (number_of w) 0 ≡ not (is_err w)
number-err (Ok x) = refl
number-err (Err BadWidth) = refl
number-err (Err BadWord) = refl
number-err (Err NoRoom) = refl
number-err (Err Closed) = refl

pub err-done : (w : Result ⊤ Why) (b : Bool) → b ≡ is_err w → b ≡ false → number_of w ≡ 0
err-done w b e f = eqb-true (number_of w) 0 (number-err w ∙ ap not (sym e ∙ f))

pub err-refused : (w : Result ⊤ Why) (b : Bool) → b ≡ is_err w → b ≡ true → number_of w ≡ 0 → ⊥
err-refused w b e t = eqb-false (number_of w) 0 (number-err w ∙ ap not (sym e ∙ t))

-- ---- the opening

opens : (k : Accord) (r : Sent) (g : Given) → opening k ≡ g → number_of r.why ≡ g.number → r.sender ≡ g.sender → Opens k r
opens k r g e n s =
    let t : r.sender ≡ (opening k).sender = s ∙ ap (λ (x : Given). x.sender) (sym e) in
    record { number = n ∙ ap (λ (x : Given). x.number) (sym e); sender = t; end = subst End (sym t) (opened k) }

pub opens-done : (k : Accord) → is_accord k ≡ true → Opens k (record { sender = fresh k; why = Ok tt })
unfolding opening
opens-done k h = opens k _ (record { number = 0; sender = fresh k; output = [] }) (rw h) refl refl

pub opens-wide : (k : Accord) (s : Sender) → is_accord k ≡ false → s ≡ shut → Opens k (record { sender = s; why = Err BadWidth })
unfolding opening
opens-wide k s h e = opens k _ (record { number = 1; sender = shut; output = [] }) (rw h) refl e

-- ---- sending a word

module _ (s : Sender) (n : ℕ) (out : List ℤ) where
  sends : (r : Sent) (o : List ℤ) (g : Given) → sending s n out ≡ g → number_of r.why ≡ g.number → r.sender ≡ g.sender → o ≡ g.output → Sends s n out r o
  sends r o g e a b c =
      let t : r.sender ≡ (sending s n out).sender = b ∙ ap (λ (x : Given). x.sender) (sym e) in
      record {
        number = a ∙ ap (λ (x : Given). x.number) (sym e);
        sender = t;
        output = c ∙ ap (λ (x : Given). x.output) (sym e);
        again = λ z. subst End (sym t) (called z n out);
      }

  -- refused with number k: all as before
  refused : (w : Result ⊤ Why) (k : ℕ) (r : Sent) → number_of w ≡ k → sending s n out ≡ record { number = k; sender = s; output = out } → r ≡ record { sender = s; why = w } → Sends s n out r out
  refused w k r a e t = subst (λ (r : Sent). Sends s n out r out) (sym t) (sends (record { sender = s; why = w }) out (record { number = k; sender = s; output = out }) e a refl refl)

  pub sends-closed : (r : Sent) → sound s ≡ false → r ≡ record { sender = s; why = Err Closed } → Sends s n out r out
  unfolding sending
  sends-closed r e t = refused (Err Closed) 9 r refl (rw e) t

  pub sends-bad : (r : Sent) → sound s ≡ true → is_word s.accord.u n ≡ false → r ≡ record { sender = s; why = Err BadWord } → Sends s n out r out
  unfolding sending
  sends-bad r e f t = refused (Err BadWord) 4 r refl (rw (e, f)) t

  pub sends-short : (r : Sent) → sound s ≡ true → is_word s.accord.u n ≡ true → length out < 4 → r ≡ record { sender = s; why = Err NoRoom } → Sends s n out r out
  unfolding sending
  sends-short r e f h t = refused (Err NoRoom) 8 r refl (rw (e, f, lt-leb 4 (length out) h)) t

  -- y is what `word_symbol::make` promises
  pub sends-done : (y : Made) (o : List ℤ) → sound s ≡ true → is_word s.accord.u n ≡ true → 4 ≤ length out →
      (let c = symbol_for s n in
      y ≡ record { turn = first_label c; state = next_state s.state c.i1 c.i2; first = first_at s.accord c; second = second_at s.accord c }) →
      o ≡ set (set (set (set out 0 y.first.x) 1 y.first.y) 2 y.second.x) 3 y.second.y →
      Sends s n out (record { sender = record { live = true; accord = s.accord; turn = y.turn; state = y.state }; why = Ok tt }) o
  unfolding sending four after
  sends-done y o e f h m d =
      let now : Sender = record { live = true; accord = s.accord; turn = y.turn; state = y.state } in
      sends (record { sender = now; why = Ok tt }) o (record { number = 0; sender = after s n; output = four s.accord (symbol_for s n) ++ drop 4 out })
      (rw (e, f, le-leb 4 (length out) h)) refl (λ i. record { live = true; accord = s.accord; turn = (m i).turn; state = (m i).state })
      (d ∙ stored out y.first.x y.first.y y.second.x y.second.y h
      ∙ ap (λ (z : Made). z.first.x ∷ z.first.y ∷ z.second.x ∷ z.second.y ∷ drop 4 out) m)
