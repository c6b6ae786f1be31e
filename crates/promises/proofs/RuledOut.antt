-- WHAT THE PROMISES RULE OUT. 01 names five wrong receivers. For each a theorem, from the demand that 01 says it breaks, on inputs where
-- the wrong receiver gives something else.
--   first_taken        one that refuses everything, from demand 1: a fresh receiver takes every good symbol
--   word-one-back      one that always writes word 0, or writes nothing, from demand 2: after word 1 on a clean line, a run that ends has
--                      written a 1
--   zero-one-back      one that decodes the first symbol and repeats it, from demand 2: after words 0 and 1, a run that ends has written
--                      0, 1
--   five-release-one   one that holds all words until finish, from demand 3: a run that took five symbols (A,A) after the start 0 has
--                      written
--                      one word, and no finish has been asked for
--   counts-true        one that reports made-up counts, from demands 1 and 3: as many symbols are taken as the receiver has been told
--                      more, and
--                      as many words written as are spoken more
use mathlib.Core.Path.{◌≡◌, refl, sym, subst, ap, ◌∙◌}
use mathlib.Core.Bool.{Bool, true, false}
use mathlib.Core.List.{List, [], ◌∷◌, ◌++◌, append-nil, reverse}
use Prim.Native.Nat.{ℕ, zero, suc, ◌+◌, ◌-◌}
use native.Mathlib.Omega.{arith}
use lib.Dec.{eqb}
use lib.IntN.{ℤ}
use lib.ListN.{length, take, drop, length-append, length-drop}
use Rattle.points.specs.declared.Accord.{Accord}
use Rattle.points.specs.Agreed.{of_width}
use Rattle.calls.specs.Calls.{Ended as WalkEnded, walk, after, fresh}
use Rattle.calls.proofs.Steps.{walk-said}
use Rattle.trellis.specs.Measure.{Two}
use Rattle.trellis.proofs.Spoken.{spoken-pending}
use Rattle.nearest.specs.declared.Received.{Received}
use Rattle.nearest.specs.Line.{BothInRange, line_measure, line_choice}
use Rattle.nearest.proofs.Laws.{line-chooses}
use Rattle.reasons.specs.Reason.{Reason, reason, given_of}
use Rattle.receiver_meaning.specs.Told.{Told, speaker_of, judge_symbol, judge_of, Fine}
use Rattle.receiver_meaning.specs.Piece.{Piece, symbols_of, piece_of}
use Rattle.receiver_meaning.specs.Owed.{Owed, ended_of, piece_goes, piece_owed}
use Rattle.receiver_meaning.proofs.Cases.{piece-cases, piece-goes}
use Rattle.receiver_meaning.proofs.Telling.{fine-opened}
use Rattle.receiver_meaning.proofs.Speaks.{speaks}
use Rattle.openings.specs.declared.Start.{Start}
use Rattle.openings.specs.declared.Start.TheVariants.{At}
use Rattle.openings.specs.Opening.{Receiver, machine_of}
use Rattle.openings.proofs.Openings.{opening-told}
use Rattle.sender.specs.declared.Sender.{Sender}
use Rattle.sender.specs.Run as sender
use Rattle.receiver.specs.declared.Answer.{Answer}
use Rattle.receiver.specs.Doors.{hearing}
use Rattle.receiver.specs.Promise.{Hears}
use Rattle.receiver.proofs.Doors.{OwedBy, hearing-owes}
use Rattle.worked_cases.proofs.Computed.{a-a-five, five-one, five-taken}
use Rattle.promises.specs.Talk.{Talk, Ended}
use Rattle.promises.specs.Clean.{all_on_line}
use Rattle.promises.specs.Table as table
use Rattle.promises.proofs.Numbers.{said-is, heard-then}
use Rattle.promises.proofs.Follows.{told_of, follows}
use Rattle.promises.proofs.History.{single}
use Rattle.promises.proofs.Demand1.{hears}
use Rattle.promises.proofs.Demand2.{round_trip}

-- ---- one that refuses everything

module _ (ac : Accord) (w : ℕ) (b : Start) (f : Fine (told_of ac w b [])) (y : Two Received) (good : BothInRange y) where
  abbrev t : Told
  t = told_of ac w b []

  -- nothing is final after one symbol, so one is pending, and that fits every window
  said-nothing : length ((speaker_of t).spoken (y ∷ [])) ≡ 0
  said-nothing = omega (arith, spoken-pending ac.u (line_measure ac) (line_choice ac) (line-chooses ac) t.start f.good_start y [])

  taken-first : (room : ℕ) → judge_symbol t [] y room ≡ reason 0
  taken-first room =
      said-is t [] y room (reason 0)
      (table.SymbolGives.taken good (omega (arith, said-nothing, f.some-window))
      (omega (arith, said-nothing, length-drop (length ((speaker_of t).spoken [])) ((speaker_of t).spoken (y ∷ [])))))

  pub first_taken : (out : List ℕ) (r : Answer) (o : List ℕ) → Hears (machine_of t) (single y) out r o → (r.taken ≡ 1) × (given_of r.why ≡ reason 0)
  first_taken out r o h = go r.taken (given_of r.why) ((hears t f (machine_of t) refl out r o (single y) h (given_of r.why)).0 refl)
    where
      -- the one symbol would have to be refused
      never : (m : ℕ) (z : Two Received) (later : List (Two Received)) (g : Reason) → drop m (y ∷ []) ≡ z ∷ later →
          table.SymbolGives t (reverse (take m (y ∷ [])) ++ []) z (length out - r.written) g → g.number ≡ 0
      never zero z later g d s =
          ap (λ (x : Reason). x.number) (sym (said-is t [] z (length out - r.written) g s)
          ∙ ap (λ (x : Two Received). judge_symbol t [] x (length out - r.written)) (let e : z ≡ y = cc in e) ∙ taken-first (length out - r.written))
      never (suc m) z later g d s = absurd (omega (arith, ap length d, length-drop (suc m) (y ∷ [])))

      go : (m : ℕ) (g : Reason) → table.PieceGives t (single y) (length out) m r.written g → (m ≡ 1) × (g ≡ reason 0)
      go m g (table.PieceGives.ten a p q) = absurd (let z : ◌≡◌ {A = ℕ} 0 1 = cc in omega arith)
      go m g (table.PieceGives.whole a p k) = (p, refl)
      go m g (table.PieceGives.stopped a z later d k g' n s) = absurd (n (never m z later g d s))

-- ---- one that always writes word 0, or writes nothing; one that repeats the first symbol

module _ (w : ℕ) (ps : List ℤ) (s : Sender) (ws : List ℕ) where
  pub word-one-back : sender.Talk (of_width 0) (1 ∷ []) ps s → Ended (of_width 0) w (At 0) (symbols_of (all_on_line ps)) ws → ws ≡ 1 ∷ []
  word-one-back k e = round_trip (of_width 0) w (At 0) tt (1 ∷ []) ps s k ws e

  pub zero-one-back : sender.Talk (of_width 0) (0 ∷ 1 ∷ []) ps s → Ended (of_width 0) w (At 0) (symbols_of (all_on_line ps)) ws → ws ≡ 0 ∷ 1 ∷ []
  zero-one-back k e = round_trip (of_width 0) w (At 0) tt (0 ∷ 1 ∷ []) ps s k ws e

-- ---- one that holds all words until finish

abbrev fresh-told : Told
fresh-told = told_of (of_width 0) 64 (At 0) []

fresh-fine : Fine fresh-told
fresh-fine = fine-opened (of_width 0) 64 fresh-told.start refl (omega arith) (omega arith) (omega arith)

-- what is spoken of five (A,A), as the machine computes it
five-spoken : (speaker_of fresh-told).spoken (reverse (symbols_of a-a-five)) ≡ 0 ∷ []
five-spoken =
    let p = piece_of a-a-five in
    let owes = subst (OwedBy (hearing (machine_of fresh-told) p 5)) (piece-goes fresh-told p 5 refl) (hearing-owes fresh-told fresh-fine p 5) in
    let d = subst (λ (rx : Receiver). OwedBy (hearing rx p 5) (piece_goes fresh-told p 5)) (sym (opening-told (of_width 0) 64 (At 0) fresh-fine)) owes in
    let e = ended_of fresh-told p 5 in
    let n : e.taken ≡ 5 = sym d.taken ∙ five-taken in
    let l : e.heard ≡ reverse (symbols_of a-a-five) =
    heard-then fresh-told [] p.symbols 5 ∙ append-nil (reverse (take e.taken p.symbols)) ∙ ap (λ (m : ℕ). reverse (take m p.symbols)) n in
    let ws : e.said ≡ 0 ∷ [] = sym d.words ∙ five-one in
    ap (speaker_of fresh-told).spoken (sym l)
    ∙ sym (walk-said (speaker_of fresh-told) (speaks fresh-told fresh-fine) (judge_of fresh-told) [] p.symbols 5)
    ∙ ap (λ (l : List ℕ). l ++ e.said) (speaks fresh-told fresh-fine).starts ∙ ws

pub five-release-one : (ws : List ℕ) (rx : Receiver) → Talk (of_width 0) 64 (At 0) (symbols_of a-a-five) ws rx → ws ≡ 0 ∷ []
five-release-one ws rx k = (follows (of_width 0) 64 (At 0) (symbols_of a-a-five) ws rx k).said ∙ five-spoken

-- ---- one that reports made-up counts

module _ (t : Told) where
  heard-many : (zs ys : List (Two Received)) (room : ℕ) → length (walk (speaker_of t) (judge_of t) ys zs room).heard ≡ length ys + (walk (speaker_of t) (judge_of t) ys zs room).taken
  unfolding walk
  heard-many [] ys room = omega arith
  heard-many (z ∷ zs) ys room =
      go (judge_symbol t ys z room) (eqb (judge_symbol t ys z room).number 0) (walk (speaker_of t) (judge_of t) (z ∷ ys) zs (room - length (fresh (speaker_of t) ys z)))
      (heard-many zs (z ∷ ys) (room - length (fresh (speaker_of t) ys z)))
    where
      go : (j : Reason) (b : Bool) (e : WalkEnded (speaker_of t) (judge_of t)) → length e.heard ≡ length (z ∷ ys) + e.taken →
          length (after (speaker_of t) (judge_of t) ys z j b e).heard ≡ length ys + (after (speaker_of t) (judge_of t) ys z j b e).taken
      go j true e h = omega (arith, h)
      go j false e h = omega arith

  record Owing (o : Owed) : Type 0 where
    taken : length o.told.heard ≡ length t.heard + o.taken
    written : length ((speaker_of t).spoken o.told.heard) ≡ length ((speaker_of t).spoken t.heard) + length o.words

  owing : Fine t → (p : Piece) (room : ℕ) → Owing (piece_owed t p room)
  owing f p room =
      let said = walk-said (speaker_of t) (speaks t f) (judge_of t) t.heard p.symbols room in
      let words = sym (ap length said) ∙ length-append ((speaker_of t).spoken t.heard) (ended_of t p room).said in
      piece-cases t p room Owing (λ _. record { taken = heard-many p.symbols t.heard room; written = words }) (λ _. record { taken = omega arith; written = omega arith })

  -- the symbols and the words that an answer counts
  pub record Counts (q : Piece) (room : ℕ) (r : Answer) : Type 0 where
    pub after : Told
    pub receiver : r.receiver ≡ machine_of after
    pub taken : length after.heard ≡ length t.heard + r.taken
    pub written : length ((speaker_of t).spoken after.heard) ≡ length ((speaker_of t).spoken t.heard) + r.written

  pub counts-true : Fine t → (rx : Receiver) → rx ≡ machine_of t → (q : Piece) (out : List ℕ) (r : Answer) (o : List ℕ) → Hears rx q out r o → Counts q (length out) r
  counts-true f rx m q out r o h =
      let w = h.owed t f m in
      let c = owing f q (length out) in
      record {
        after = (piece_owed t q (length out)).told;
        receiver = w.receiver;
        taken = omega (arith, c.taken, w.taken);
        written = omega (arith, c.written, w.written);
      }
