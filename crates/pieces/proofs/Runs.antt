-- A piece: the machine, symbol by symbol, does what `calls` says of anything that speaks and answers, with 01's judge.
--   RunsAs        a run of the machine, after n symbols and the words ws, goes as the walk e
--   runs          every run does
use mathlib.Core.Path.{◌≡◌, refl, sym, ap, subst, ◌∙◌}
use mathlib.Core.Bool.{Bool, true, false, cond}
use mathlib.Core.List.{List, [], ◌∷◌, ◌++◌, append_assoc, append-nil}
use Prim.Native.Nat.{ℕ, ◌+◌, ◌-◌}
use native.Mathlib.Omega.{arith}
use borrow.Author.Tests.{eqb-true}
use lib.Dec.{eqb}
use lib.ListN.{length, length-append}
use Rattle.calls.specs.Calls.{Ended, walk, after, fresh}
use Rattle.trellis.specs.Measure.{Two}
use Rattle.nearest.specs.declared.Received.{Received}
use Rattle.machine.specs.declared.Receiver.{Receiver}
use Rattle.machine.specs.Machine.{Outcome, machine_after}
use Rattle.receiver_meaning.specs.Told.{Told, speaker_of, judge_symbol, judge_of, Fine, with_heard}
use Rattle.reasons.specs.Reason.{Reason, given_of, is_done}
use Rattle.pieces.specs.Running.{symbol_at, Ran, running}
use Rattle.pieces.proofs.Symbols.{Judged, symbol-judged}

-- how the walk goes after ys
abbrev pub walked : (t : Told) → List (Two Received) → List (Two Received) → ℕ → Ended (speaker_of t) (judge_of t)
walked t ys zs room = walk (speaker_of t) (judge_of t) ys zs room

pub record RunsAs (t : Told) (e : Ended (speaker_of t) (judge_of t)) (n : ℕ) (ws : List ℕ) (r : Ran) : Type 0 where
  pub given : given_of r.why ≡ e.why
  pub taken : r.taken ≡ n + e.taken
  pub words : r.words ≡ ws ++ e.said
  pub fine : Fine (with_heard t e.heard)
  pub receiver : r.receiver ≡ machine_after t e.heard

module _ (t : Told) where
  abbrev Runs : List (Two Received) → Type 0
  Runs zs = (ys : List (Two Received)) → Fine (with_heard t ys) → (n : ℕ) (ws : List ℕ) (room : ℕ) → RunsAs t (walked t ys zs (room - length ws)) n ws (running zs (machine_after t ys) n ws room)

  -- the symbol is refused: the walk ends before it
  stops : (ys : List (Two Received)) → Fine (with_heard t ys) → (y : Two Received) (n : ℕ) (ws : List ℕ) (j : Reason) (o : Outcome) (e : Ended (speaker_of t) (judge_of t)) → given_of o.why ≡ j →
      RunsAs t (after (speaker_of t) (judge_of t) ys y j false e) n ws (record { receiver = machine_after t ys; taken = n; words = ws; why = o.why })
  stops ys f y n ws j o e g = record { given = g; taken = omega arith; words = sym (append-nil ws); fine = f; receiver = refl }

  -- it is taken: what follows is the walk from there
  goes_on : (ys : List (Two Received)) (y : Two Received) (n : ℕ) (ws : List ℕ) (j : Reason) (o : Outcome) (e : Ended (speaker_of t) (judge_of t)) (r : Ran) →
      o.words ≡ fresh (speaker_of t) ys y → RunsAs t e (n + 1) (ws ++ o.words) r → RunsAs t (after (speaker_of t) (judge_of t) ys y j true e) n ws r
  goes_on ys y n ws j o e r w k =
      record {
        given = k.given;
        taken = omega (arith, k.taken);
        words = k.words ∙ append_assoc ws o.words e.said ∙ ap (λ (l : List ℕ). ws ++ (l ++ e.said)) w;
        fine = k.fine;
        receiver = k.receiver;
      }

  pub runs : (zs : List (Two Received)) → Runs zs
  unfolding walk running
  runs [] ys f n ws room = record { given = refl; taken = omega arith; words = sym (append-nil ws); fine = f; receiver = refl }
  runs (y ∷ zs) ys f n ws room = go (eqb j.number 0) refl (runs zs)
    where
      left : ℕ
      left = room - length ws

      j : Reason
      j = judge_symbol t ys y left

      o : Outcome
      o = symbol_at (machine_after t ys) y left

      jd : Judged t ys y left o
      jd = symbol-judged t ys f y left

      done-is : is_done o.why ≡ eqb j.number 0
      done-is = ap (λ (r : Reason). eqb r.number 0) jd.given

      both : Bool → Bool → Type 0
      both a b =
          RunsAs t (after (speaker_of t) (judge_of t) ys y j a (walked t (y ∷ ys) zs (left - length (fresh (speaker_of t) ys y)))) n ws
          (cond b (running zs o.receiver (n + 1) (ws ++ o.words) room) (record { receiver = machine_after t ys; taken = n; words = ws; why = o.why }))

      more : j.number ≡ 0 → Runs zs → both true true
      more z ih =
          let w = jd.words z in
          let k = ih (y ∷ ys) (jd.fine z) (n + 1) (ws ++ o.words) room in
          let l : room - length (ws ++ o.words) ≡ left - length (fresh (speaker_of t) ys y) = omega (arith, length-append ws o.words, ap length w) in
          goes_on ys y n ws j o (walked t (y ∷ ys) zs (left - length (fresh (speaker_of t) ys y))) (running zs o.receiver (n + 1) (ws ++ o.words) room) w
          (subst (λ (m : ℕ). RunsAs t (walked t (y ∷ ys) zs m) (n + 1) (ws ++ o.words) (running zs o.receiver (n + 1) (ws ++ o.words) room)) l
          (subst (λ (rx : Receiver). RunsAs t (walked t (y ∷ ys) zs (room - length (ws ++ o.words))) (n + 1) (ws ++ o.words) (running zs rx (n + 1) (ws ++ o.words) room)) (sym (jd.receiver z)) k))

      go : (b : Bool) → eqb j.number 0 ≡ b → Runs zs → both b (is_done o.why)
      go true e ih = subst (both true) (sym (done-is ∙ e)) (more (eqb-true j.number 0 e) ih)
      go false e ih = subst (both false) (sym (done-is ∙ e)) (stops ys f y n ws j o (walked t (y ∷ ys) zs (left - length (fresh (speaker_of t) ys y))) jd.given)
