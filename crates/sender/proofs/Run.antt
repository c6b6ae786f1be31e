-- The symbols of any run of accepted words from a fresh sender are an allowed sequence from state 0, and their parts are the
-- words' (specs/Run, `Ran`). The invariant follows the run: the sender's state and turn are those after the symbols made so far.
--   along    what each word taken preserves holds after any run, whichever calls it is made of
--   ran
use mathlib.Core.Path.{◌≡◌, refl, sym, ap, ap₂, subst, ◌∙◌}
use mathlib.Core.List.{List, [], ◌∷◌, ◌++◌, append_assoc, append-nil}
use Prim.Native.Nat.{ℕ, ◌+◌, ◌*◌, ◌≤◌}
use native.Mathlib.Numerals.{add-one}
use native.Mathlib.Omega.{arith}
use lib.IntN.{ℤ}
use lib.ListN.{length, take, drop}
use Rattle.wei.specs.State.{next_state}
use Rattle.wei.specs.Symbol.{Symbol, first_label, Carries, AllowedFrom, ending, symbol_of, symbols_from}
use Rattle.wei.proofs.Words.{parts-range}
use Rattle.wei.proofs.Symbols.{ending-snoc, allowed-snoc, turns_to, turns-snoc, symbols-snoc}
use Rattle.word_symbol.proofs.Parts.{turn_is}
use Rattle.points.specs.declared.Accord.{Accord}
use Rattle.sender.specs.declared.Sender.{Sender}
use Rattle.sender.specs.Send.{symbol_for, after, four, fresh, opening, sending}
use Rattle.sender.specs.SendList.{GivenList, given_list, sending_all, sending_list}
use Rattle.sender.specs.Run.{Made, AllMade, coordinates_of, Talk, opens, takes, refuses, lists, Ran}
use Rattle.sender.proofs.Sound.{Ranges, ranges}
use Rattle.sender.proofs.Exactly.{Taken, done, refused-keeps, opened_with}
use Rattle.sender.proofs.Lists.{sent-room, onward-by, list-by, wrote}

-- ---- one symbol more

made-snoc : (u q : ℕ) (ns : List ℕ) (cs : List Symbol) (n : ℕ) (c : Symbol) → AllMade u q ns cs → Made u (turns_to q cs) n c → AllMade u q (ns ++ (n ∷ [])) (cs ++ (c ∷ []))
made-snoc u q [] [] n c a m = (m, tt)
made-snoc u q [] (d ∷ cs) n c a m = absurd a
made-snoc u q (k ∷ ns) [] n c a m = absurd a
made-snoc u q (k ∷ ns) (d ∷ cs) n c a m = (a.0, made-snoc u (first_label d) ns cs n c a.1 m)

coordinates-snoc : (k : Accord) (cs : List Symbol) (c : Symbol) → coordinates_of k (cs ++ (c ∷ [])) ≡ coordinates_of k cs ++ four k c
coordinates-snoc k [] c = append-nil (four k c)
coordinates-snoc k (d ∷ cs) c = ap (λ (l : List ℤ). four k d ++ l) (coordinates-snoc k cs c) ∙ sym (append_assoc (four k d) (coordinates_of k cs) (four k c))

symbol-made : (s : Sender) (n : ℕ) → Made s.accord.u s.turn n (symbol_for s n)
unfolding symbol_of
symbol-made s n = record { i1 = refl; turn = sym (turn_is s.accord.u s.state s.turn n); w1 = refl; w2 = refl }

symbol-carries : (s : Sender) (n : ℕ) → Ranges s → Carries s.accord.u s.state (next_state s.state (symbol_for s n).i1 (symbol_for s n).i2) (symbol_for s n)
unfolding symbol_of
symbol-carries s n r =
    let p = parts-range s.accord.u n in
    record {
      valid = record { y0-below = omega arith; i1-below = p.i1-below; i2-below = omega arith; i3-below = omega arith; w1-below = p.w1-below; w2-below = p.w2-below };
      parity = refl;
      leads = refl;
    }

take-four : (k : Accord) (c : Symbol) (l : List ℤ) → take 4 (four k c ++ l) ≡ four k c
unfolding four
take-four k c l = refl

-- ---- the invariant

record Follows (ac : Accord) (ws : List ℕ) (ps : List ℤ) (s : Sender) : Type 0 where
  cs : List Symbol
  are : cs ≡ symbols_from ac.u 0 0 ws
  made : AllMade ac.u 0 ws cs
  allowed : AllowedFrom ac.u 0 cs
  written : ps ≡ coordinates_of ac cs
  accord : s.accord ≡ ac
  turn : s.turn ≡ turns_to 0 cs
  state : s.state ≡ ending 0 cs

-- a sender that accepts a word follows the run with that word's symbol
step : (ac : Accord) (ws : List ℕ) (ps : List ℤ) (s : Sender) (n : ℕ) (out : List ℤ) → Follows ac ws ps s → Taken s n out
    → Follows ac (ws ++ (n ∷ [])) (ps ++ take 4 (sending s n out).output) (sending s n out).sender
unfolding after
step ac ws ps s n out f t =
    let c = symbol_for s n in
    let cs = f.cs in
    let m : Made ac.u (turns_to 0 cs) n c = subst (λ (v : Accord). Made v.u (turns_to 0 cs) n c) f.accord (subst (λ (q : ℕ). Made s.accord.u q n c) f.turn (symbol-made s n)) in
    let k : Carries ac.u (ending 0 cs) (next_state (ending 0 cs) c.i1 c.i2) c =
    subst (λ (v : Accord). Carries v.u (ending 0 cs) (next_state (ending 0 cs) c.i1 c.i2) c) f.accord
    (subst (λ (q : ℕ). Carries s.accord.u q (next_state q c.i1 c.i2) c) f.state (symbol-carries s n (ranges s t.is_open))) in
    let e = t.sender in
    let w : take 4 (sending s n out).output ≡ four ac c = ap (take 4) t.output ∙ take-four s.accord c (drop 4 out) ∙ ap (λ (v : Accord). four v c) f.accord in
    record {
      cs = cs ++ (c ∷ []);
      are =
          (λ i. f.are i ++ (symbol_of (f.accord i).u (f.state i) (f.turn i) n ∷ []))
          ∙ ap (λ (l : List Symbol). symbols_from ac.u 0 0 ws ++ (symbol_of ac.u (ending 0 l) (turns_to 0 l) n ∷ [])) f.are ∙ sym (symbols-snoc ac.u 0 0 ws n);
      made = made-snoc ac.u 0 ws cs n c f.made m;
      allowed = allowed-snoc ac.u 0 cs c f.allowed k;
      written = ap₂ (λ (a b : List ℤ). a ++ b) f.written w ∙ sym (coordinates-snoc ac cs c);
      accord = ap (λ (r : Sender). r.accord) e ∙ f.accord;
      turn = ap (λ (r : Sender). r.turn) e ∙ sym (turns-snoc 0 cs c);
      state = ap (λ (r : Sender). r.state) e ∙ ap (λ (q : ℕ). next_state q c.i1 c.i2) f.state ∙ sym (ending-snoc 0 cs c);
    }

-- ---- along a run

-- one word, and k after it
sent-as : (ws : List ℕ) (n : ℕ) (ns : List ℕ) (k : ℕ) → ws ++ take (k + 1) (n ∷ ns) ≡ (ws ++ (n ∷ [])) ++ take k ns
sent-as ws n ns k = ap (λ (m : ℕ). ws ++ take m (n ∷ ns)) (add-one k) ∙ sym (append_assoc ws (n ∷ []) (take k ns))

-- its coordinates, and theirs
wrote_as : (ps first rest : List ℤ) (k : ℕ) → 4 ≤ length first → ps ++ take (4 * (k + 1)) (take 4 first ++ rest) ≡ (ps ++ take 4 first) ++ take (4 * k) rest
wrote_as ps first rest k h = ap (λ (m : List ℤ). ps ++ m) (wrote first rest k h) ∙ sym (append_assoc ps (take 4 first) (take (4 * k) rest))

module _ (P : List ℕ → List ℤ → Sender → Type 0)
    (more : (ws : List ℕ) (ps : List ℤ) (s : Sender) (n : ℕ) (out : List ℤ) → P ws ps s → Taken s n out → P (ws ++ (n ∷ [])) (ps ++ take 4 (sending s n out).output) (sending s n out).sender) where
  -- P after a list that gave r
  abbrev After : List ℕ → List ℤ → List ℕ → GivenList → Type 0
  After ws ps ns r = P (ws ++ take r.sent ns) (ps ++ take (4 * r.sent) r.output) r.sender

  none : (ws : List ℕ) (ps : List ℤ) (ns : List ℕ) (s : Sender) (number : ℕ) (out : List ℤ) → P ws ps s → After ws ps ns (given_list number s 0 out)
  none ws ps ns s number out p = rw (append-nil ws, append-nil ps) p

  along-all : (ns ws : List ℕ) (ps : List ℤ) (s : Sender) (out : List ℤ) → P ws ps s → After ws ps ns (sending_all s ns out)
  unfolding sending_all
  along-all [] ws ps s out p = none ws ps [] s 0 out p
  along-all (n ∷ ns) ws ps s out p =
      let x = sending s n out in
      let front : List ℤ = take 4 x.output in
      let g : GivenList = sending_all x.sender ns (drop 4 x.output) in
      onward-by (After ws ps (n ∷ ns)) x g
      (λ z. rw (wrote_as ps x.output g.output g.sent (sent-room s n out z), sent-as ws n ns g.sent)
      (along-all ns (ws ++ (n ∷ [])) (ps ++ front) x.sender (drop 4 x.output) (more ws ps s n out p (done s n out z))))
      (λ h. none ws ps (n ∷ ns) x.sender x.number x.output (rw (refused-keeps s n out h).0 p))

  along-list : (ns ws : List ℕ) (ps : List ℤ) (s : Sender) (out : List ℤ) → P ws ps s → After ws ps ns (sending_list s ns out)
  along-list ns ws ps s out p = list-by (After ws ps ns) s ns out (along-all ns ws ps s out p) (none ws ps ns s 9 out p)

  -- what holds after the opening, and stays through each word that is taken, holds after any run
  pub along : (k : Accord) → ((opening k).number ≡ 0 → P [] [] (fresh k)) → (ws : List ℕ) (ps : List ℤ) (s : Sender) → Talk k ws ps s → P ws ps s
  along k begin ws ps s (opens r p z) = rw (p.sender ∙ opened_with k (sym p.number ∙ z)) (begin (sym p.number ∙ z))
  along k begin ws ps s (takes {ws = vs} {ps = qs} {s = t} h n out o r p z) =
      rw (p.output, p.sender) (more vs qs t n out (along k begin vs qs t h) (done t n out (sym p.number ∙ z)))
  along k begin ws ps s (refuses {ws = vs} {ps = qs} {s = t} h n out o r p z) = rw (p.sender ∙ (refused-keeps t n out (λ e. z (p.number ∙ e))).0) (along k begin vs qs t h)
  along k begin ws ps s (lists {ws = vs} {ps = qs} {s = t} h ns out o r p) = rw (p.output, p.sender, p.sent) (along-list ns vs qs t out (along k begin vs qs t h))

pub ran : (ac : Accord) (ws : List ℕ) (ps : List ℤ) (s : Sender) → Talk ac ws ps s → Ran ac ws ps
unfolding symbols_from
ran ac ws ps s t =
    let f =
    along (Follows ac) (step ac) ac (λ _. record { cs = []; are = refl; made = tt; allowed = tt; written = refl; accord = refl; turn = refl; state = refl })
    ws ps s t in
    record { symbols = f.cs; are = f.are; made = f.made; allowed = f.allowed; written = f.written }
