-- A run of calls follows what the receiver has been told: the words written are what is spoken of the symbols taken, and after a
-- finish that succeeds the whole answer.
--   Follows    the invariant of a run
--   follows    every run keeps it
--   ended-fine what a run that ended told is a history that calls can tell
--   answers    and a finish that succeeds completes the answer
use mathlib.Core.Path.{◌≡◌, refl, sym, ap, ap₂, subst, ◌∙◌}
use mathlib.Core.List.{List, [], ◌++◌, append-nil, reverse, reverse-reverse}
use Prim.Native.Nat.{ℕ}
use native.Mathlib.Omega.{arith}
use lib.ListN.{length, take, drop}
use lib.Seq.{take_at}
use Rattle.points.specs.declared.Accord.{Accord}
use Rattle.calls.specs.Calls.{Ended as WalkEnded, walk}
use Rattle.calls.proofs.Steps.{walk-heard, walk-said}
use Rattle.calls.proofs.Prefixes.{joined}
use Rattle.trellis.specs.Measure.{Two, GoodStart}
use Rattle.nearest.specs.declared.Received.{Received}
use Rattle.receiver_meaning.specs.Told.{Told, speaker_of, judge_of, Fine, with_heard}
use Rattle.reasons.specs.Reason.{Reason, given_of}
use Rattle.openings.specs.declared.Start.{Start}
use Rattle.receiver.specs.declared.Answer.{Answer}
use Rattle.openings.specs.Given.{start_of}
use Rattle.receiver_meaning.specs.Piece.{Piece}
use Rattle.receiver_meaning.proofs.Speaks.{speaks}
use Rattle.receiver_meaning.specs.Owed.{ended_of, rest_of}
use Rattle.receiver_meaning.proofs.Cases.{piece-cases, finish-cases}
use Rattle.openings.specs.Opening.{Receiver, machine_of}
use Rattle.receiver.specs.Promise.{Pays, Hears, EndPays, Finishes}
use Rattle.promises.specs.Talk.{Talk, opens, hears, refuses, Ended, ends}

-- what the receiver has been told after the symbols `took`
abbrev pub told_of : Accord → ℕ → Start → List (Two Received) → Told
told_of ac w b took = record { accord = ac; window = w; start = start_of b; heard = reverse took }

-- the words of a call are those at the front of the output
front : (ws out o : List ℕ) (n : ℕ) → n ≡ length ws → o ≡ ws ++ drop (length ws) out → take n o ≡ ws
front ws out o n e f = ap (take n) f ∙ take_at ws (drop (length ws) out) n (sym e)

pub record Follows (ac : Accord) (w : ℕ) (b : Start) (took : List (Two Received)) (ws : List ℕ) (rx : Receiver) : Type 0 where
  pub fine : Fine (told_of ac w b took)
  pub machine : rx ≡ machine_of (told_of ac w b took)
  pub said : ws ≡ (speaker_of (told_of ac w b took)).spoken (reverse took)

-- nothing taken and nothing written
idle : (ac : Accord) (w : ℕ) (b : Start) (took : List (Two Received)) (ws : List ℕ) (rx s : Receiver) (zs : List (Two Received)) (o : List ℕ) (m n : ℕ) →
    Follows ac w b took ws rx → m ≡ 0 → n ≡ 0 → s ≡ rx →
    Follows ac w b (took ++ take m zs) (ws ++ take n o) s
idle ac w b took ws rx s zs o m n f p q e =
    let a : took ++ take m zs ≡ took = ap (λ (k : ℕ). took ++ take k zs) p ∙ append-nil took in
    let d : ws ++ take n o ≡ ws = ap (λ (k : ℕ). ws ++ take k o) q ∙ append-nil ws in
    rw (a, d, e) f

module _ (ac : Accord) (w : ℕ) (b : Start) (took : List (Two Received)) (ws : List ℕ) (rx : Receiver) (f : Follows ac w b took ws rx) (out o : List ℕ) (r : Answer) where
  abbrev t : Told
  t = told_of ac w b took

  -- a piece that goes symbol by symbol
  walks : (zs : List (Two Received)) (e : WalkEnded (speaker_of t) (judge_of t)) → walk (speaker_of t) (judge_of t) (reverse took) zs (length out) ≡ e →
      Pays (record { reason = e.why; taken = e.taken; words = e.said; told = with_heard t e.heard }) out r o → Follows ac w b (took ++ take r.taken zs)
      (ws ++ take r.written o) r.receiver
  walks zs e z k =
      let h : reverse e.heard ≡ took ++ take e.taken zs =
      ap (λ (x : WalkEnded (speaker_of t) (judge_of t)). reverse x.heard) (sym z) ∙ walk-heard (speaker_of t) (judge_of t) (reverse took) zs (length out)
      ∙ ap₂ (λ (l : List (Two Received)) (x : WalkEnded (speaker_of t) (judge_of t)). l ++ take x.taken zs) (reverse-reverse took) z in
      let g : e.heard ≡ reverse (took ++ take r.taken zs) =
      sym (reverse-reverse e.heard) ∙ ap reverse (h ∙ ap (λ (n : ℕ). took ++ take n zs) (sym k.taken)) in
      let s : (speaker_of t).spoken (reverse took) ++ e.said ≡ (speaker_of t).spoken e.heard =
      ap (λ (x : WalkEnded (speaker_of t) (judge_of t)). (speaker_of t).spoken (reverse took) ++ x.said) (sym z) ∙ walk-said (speaker_of t) (speaks t f.fine) (judge_of t) (reverse took) zs (length out)
      ∙ ap (λ (x : WalkEnded (speaker_of t) (judge_of t)). (speaker_of t).spoken x.heard) z in
      record {
        fine = subst (λ (l : List (Two Received)). Fine (with_heard t l)) g k.fine;
        machine = k.receiver ∙ ap (λ (l : List (Two Received)). machine_of (with_heard t l)) g;
        said = ap₂ (λ (x y : List ℕ). x ++ y) f.said (front e.said out o r.written k.written k.output) ∙ s ∙ ap (λ (l : List (Two Received)). (speaker_of t).spoken l) g;
      }

  pub piece-follows : (p : Piece) → Hears rx p out r o → Follows ac w b (took ++ take r.taken p.symbols) (ws ++ take r.written o) r.receiver
  piece-follows p h =
      piece-cases t p (length out) (λ d. Pays d out r o → Follows ac w b (took ++ take r.taken p.symbols) (ws ++ take r.written o) r.receiver)
      (λ _. walks p.symbols (ended_of t p (length out)) refl)
      (λ _ k. idle ac w b took ws rx r.receiver p.symbols o r.taken r.written f k.taken k.written (k.receiver ∙ sym f.machine))
      (h.owed t f.fine f.machine)

  -- a finish: refused, all as before; done, the answer whole
  pub finish-refused : Finishes rx out r o → ((given_of r.why).number ≡ 0 → ⊥) → Follows ac w b took (ws ++ take r.written o) r.receiver
  finish-refused h z =
      finish-cases t (length out) (λ d. EndPays d rx out r o → Follows ac w b took (ws ++ take r.written o) r.receiver)
      (λ _ k. subst (λ (l : List (Two Received)). Follows ac w b l (ws ++ take r.written o) r.receiver) (append-nil took)
      (idle ac w b took ws rx r.receiver [] o 0 r.written f refl k.written k.receiver))
      (λ _ k. absurd (z (ap (λ (x : Reason). x.number) k.given))) (h.owed t f.fine f.machine)

  pub finish-answers : Finishes rx out r o → (given_of r.why).number ≡ 0 → ws ++ take r.written o ≡ (speaker_of t).answered (reverse took)
  finish-answers h z =
      finish-cases t (length out) (λ d. EndPays d rx out r o → ws ++ take r.written o ≡ (speaker_of t).answered (reverse took))
      (λ _ k. absurd (let n = ap (λ (x : Reason). x.number) k.given in omega arith))
      (λ _ k. ap₂ (λ (x y : List ℕ). x ++ y) f.said (front (rest_of t) out o r.written k.written k.output)
      ∙ joined ((speaker_of t).spoken (reverse took)) ((speaker_of t).answered (reverse took)) ((speaks t f.fine).within (reverse took))) (h.owed t f.fine f.machine)

-- ---- whole runs

pub follows : (ac : Accord) (w : ℕ) (b : Start) (took : List (Two Received)) (ws : List ℕ) (rx : Receiver) → Talk ac w b took ws rx → Follows ac w b took ws rx
follows ac w b took ws rx (opens r p z) =
    let k = p.fresh z in
    record { fine = k.0; machine = k.1; said = sym (speaks (told_of ac w b []) k.0).starts }
follows ac w b took ws rx (hears {took = l} {ws = vs} {rx = q} k p out o r h) = piece-follows ac w b l vs q (follows ac w b l vs q k) out o r p h
follows ac w b took ws rx (refuses {took = l} {ws = vs} {rx = q} k out o r h z) = finish-refused ac w b l vs q (follows ac w b l vs q k) out o r h z

pub answers : (ac : Accord) (w : ℕ) (b : Start) (took : List (Two Received)) (ws : List ℕ) → Ended ac w b took ws → ws ≡ (speaker_of (told_of ac w b took)).answered (reverse took)
answers ac w b took ws (ends {ws = vs} {rx = q} k out o r h z) = finish-answers ac w b took vs q (follows ac w b took vs q k) out o r h z

pub ended-fine : (ac : Accord) (w : ℕ) (b : Start) (took : List (Two Received)) (ws : List ℕ) → Ended ac w b took ws → Fine (told_of ac w b took)
ended-fine ac w b took ws (ends {ws = vs} {rx = q} k out o r h z) = (follows ac w b took vs q k).fine

pub start-of : (ac : Accord) (w : ℕ) (b : Start) (took : List (Two Received)) (ws : List ℕ) → Ended ac w b took ws → GoodStart (start_of b)
start-of ac w b took ws (ends {ws = vs} {rx = q} k out o r h z) = (follows ac w b took vs q k).fine.good_start
