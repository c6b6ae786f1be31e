-- The numbers of each door, by what specs/Table says of them: the number that is given is one that the table gives (the laws `..-case`),
-- and what the table gives is the number (the laws `..-is`).
use mathlib.Core.Path.{◌≡◌, refl, sym, ap, subst, ◌∙◌}
use mathlib.Core.Bool.{Bool, true, false, cond, ◌&&◌}
use mathlib.Core.Logic.{inl, inr}
use mathlib.Core.List.{List, [], ◌∷◌, ◌++◌, reverse, reverse-append, reverse-reverse}
use Prim.Native.Nat.{ℕ, suc, ◌-◌, ◌<◌}
use native.Mathlib.Nat.{sub-zero}
use native.Mathlib.Omega.{arith}
use borrow.Author.Tests.{ltb-true, ltb-false, leb-true, leb-false, eqb-true, eqb-false, lt-ltb, le-ltb, le-leb, lt-leb}
use lib.Dec.{eqb, leb, ltb}
use lib.IntN.{ℤ}
use lib.ListN.{length, take, drop, length-append, drop_of_length-le}
use Rattle.points.specs.declared.Accord.{Accord}
use Rattle.points.specs.Agreed.{is_accord}
use Rattle.calls.specs.Calls.{Ended, fresh, after, walk}
use Rattle.calls.proofs.Steps.{walk-heard}
use Rattle.trellis.specs.Measure.{Two}
use Rattle.nearest.specs.declared.Received.{Received}
use Rattle.receiver_meaning.specs.Told.{Told, speaker_of, judge_of, judge_symbol, pending_after, fault_of}
use Rattle.reasons.specs.Reason.{Reason, reason}
use Rattle.receiver_meaning.proofs.Telling.{no-fault, in-range}
use Rattle.sender.specs.declared.Sender.{Sender}
use Rattle.sender.specs.Send as sender
use Rattle.sender.proofs.Sound.{end-sound}
use Rattle.sender.proofs.Exactly as sending
use Rattle.openings.specs.declared.Start.{Start}
use Rattle.openings.specs.declared.Start.TheVariants.{Free, At}
use Rattle.openings.specs.Given.{start_fits}
use Rattle.openings.specs.Opening.{opening, opening_owed}
use Rattle.receiver_meaning.specs.Piece.{Piece}
use Rattle.receiver.specs.Doors.{stopped}
use Rattle.promises.specs.End.{End, heard}
use Rattle.receiver_meaning.specs.Owed.{ended_of, piece_owed, finish_owed}
use Rattle.receiver_meaning.proofs.Cases.{piece-cases, finish-cases}
use Rattle.promises.specs.Table as table

-- ---- the sender

sender-shut : (s : Sender) → s.live ≡ false → sender.sound s ≡ false
sender-shut s e = rw e

pub sender-opening-case : (ac : Accord) → table.SenderOpens ac (sender.opening ac).number
unfolding sender.opening
sender-opening-case ac = go (is_accord ac) refl
  where
    go : (b : Bool) → is_accord ac ≡ b →
        table.SenderOpens ac (cond {A = sender.Given} b (record { number = 0; sender = sender.fresh ac; output = [] }) (record { number = 1; sender = sender.shut; output = [] })).number
    go true e = table.SenderOpens.done e
    go false e = table.SenderOpens.one e

pub sender-opening-is : (ac : Accord) (k : ℕ) → table.SenderOpens ac k → (sender.opening ac).number ≡ k
unfolding sender.opening
sender-opening-is ac k (table.SenderOpens.one h) = rw h
sender-opening-is ac k (table.SenderOpens.done h) = rw h

module _ (s : Sender) (e : sender.End s) (n : ℕ) (out : List ℤ) where
  pub live-sound : (b : Bool) → s.live ≡ b → sender.sound s ≡ b
  live-sound true l = end-sound s e l
  live-sound false l = sender-shut s l

  pub shut-live : (b : Bool) → s.live ≡ b → sender.sound s ≡ false → s.live ≡ false
  shut-live true l z = absurd (let x : ◌≡◌ {A = Bool} true false = sym (end-sound s e l) ∙ z in let y : ◌≡◌ {A = ℕ} 0 1 = cc in omega arith)
  shut-live false l z = l

  pub sound-live : (b : Bool) → s.live ≡ b → sender.sound s ≡ true → s.live ≡ true
  sound-live true l z = l
  sound-live false l z = absurd (let x : ◌≡◌ {A = Bool} false true = sym (sender-shut s l) ∙ z in let y : ◌≡◌ {A = ℕ} 0 1 = cc in omega arith)

  pub sending-case : table.SendGives s n out (sender.sending s n out).number
  sending-case = go (sender.sending s n out) (sending.outcome s n out)
    where
      go : (g : sender.Given) → sending.Outcome s n out g → table.SendGives s n out g.number
      go g (sending.closed f) = table.SendGives.nine (shut-live s.live refl f)
      go g (sending.bad-word f w) = table.SendGives.four (sound-live s.live refl f) w
      go g (sending.no_room f w l) = table.SendGives.eight (sound-live s.live refl f) w l
      go g (sending.taken f w l) = table.SendGives.done (sound-live s.live refl f) w l

  pub sending-is : (k : ℕ) → table.SendGives s n out k → (sender.sending s n out).number ≡ k
  unfolding sender.sending
  sending-is k (table.SendGives.nine l) = rw (live-sound false l)
  sending-is k (table.SendGives.four l w) = rw (live-sound true l, w)
  sending-is k (table.SendGives.eight l w r) = rw (live-sound true l, w, lt-leb 4 (length out) r)
  sending-is k (table.SendGives.done l w r) = rw (live-sound true l, w, le-leb 4 (length out) r)

-- ---- the receiver's opening

no_start : (b : Start) → start_fits b ≡ false → (n : ℕ) × (b ≡ At n) × (15 < n)
no_start Free e = absurd (let y : ◌≡◌ {A = ℕ} 0 1 = cc in omega arith)
no_start (At n) e = (n, refl, leb-false n 15 e)

module _ (ac : Accord) (w : ℕ) (b : Start) where
  pub opening-case : table.ReceiverOpens ac w b (opening_owed ac w b)
  unfolding opening_owed
  opening-case = go (is_accord ac) (leb 1 w) (leb w 64) (start_fits b) refl refl refl refl
    where
      go : (p q r s : Bool) → is_accord ac ≡ p → leb 1 w ≡ q → leb w 64 ≡ r → start_fits b ≡ s → table.ReceiverOpens ac w b (cond p (cond (q && r) (cond s 0 3) 2) 1)
      go false q r s e f g h = table.ReceiverOpens.one e
      go true false r s e f g h = table.ReceiverOpens.two e (inl (omega (arith, leb-false 1 w f)))
      go true true false s e f g h = table.ReceiverOpens.two e (inr (leb-false w 64 g))
      go true true true false e f g h = let (n, i, l) = no_start b h in table.ReceiverOpens.three e (leb-true 1 w f) (leb-true w 64 g) n i l
      go true true true true e f g h = table.ReceiverOpens.done e (leb-true 1 w f) (leb-true w 64 g) h

  pub opening-is : (k : ℕ) → table.ReceiverOpens ac w b k → opening_owed ac w b ≡ k
  unfolding opening_owed
  opening-is k (table.ReceiverOpens.one h) = rw h
  opening-is k (table.ReceiverOpens.two h (inl z)) = rw (h, z)
  opening-is k (table.ReceiverOpens.two h (inr z)) = rw (h, le-leb 1 w (omega arith), lt-leb w 64 z)
  opening-is k (table.ReceiverOpens.three h i j n e l) = rw (h, le-leb 1 w i, le-leb w 64 j, e, lt-leb n 15 l)
  opening-is k (table.ReceiverOpens.done h i j s) = rw (h, le-leb 1 w i, le-leb w 64 j, s)

-- ---- a symbol

module _ (t : Told) (ys : List (Two Received)) (y : Two Received) (room : ℕ) where
  pub said-case : table.SymbolGives t ys y room (judge_symbol t ys y room)
  unfolding judge_symbol
  said-case = go (ltb (fault_of y) 4) (ltb t.window (pending_after t (y ∷ ys))) (ltb room (length (fresh (speaker_of t) ys y))) refl refl refl
    where
      go : (a c d : Bool) → ltb (fault_of y) 4 ≡ a → ltb t.window (pending_after t (y ∷ ys)) ≡ c → ltb room (length (fresh (speaker_of t) ys y)) ≡ d →
          table.SymbolGives t ys y room (cond a (record { number = 5; place = fault_of y }) (cond c (reason 6) (cond d (reason 8) (reason 0))))
      go true c d e g h = table.SymbolGives.five (ltb-true (fault_of y) 4 e)
      go false true d e g h = table.SymbolGives.six (in-range y e) (ltb-true t.window (pending_after t (y ∷ ys)) g)
      go false false true e g h =
          table.SymbolGives.eight (in-range y e) (ltb-false t.window (pending_after t (y ∷ ys)) g) (ltb-true room (length (fresh (speaker_of t) ys y)) h)
      go false false false e g h =
          table.SymbolGives.taken (in-range y e) (ltb-false t.window (pending_after t (y ∷ ys)) g) (ltb-false room (length (fresh (speaker_of t) ys y)) h)

  pub said-is : (g : Reason) → table.SymbolGives t ys y room g → judge_symbol t ys y room ≡ g
  unfolding judge_symbol
  said-is g (table.SymbolGives.five h) = rw (lt-ltb (fault_of y) 4 h)
  said-is g (table.SymbolGives.six r p) = rw (no-fault y r, lt-ltb t.window (pending_after t (y ∷ ys)) p)
  said-is g (table.SymbolGives.eight r p q) = rw (no-fault y r, le-ltb t.window (pending_after t (y ∷ ys)) p, lt-ltb room (length (fresh (speaker_of t) ys y)) q)
  said-is g (table.SymbolGives.taken r p q) = rw (no-fault y r, le-ltb t.window (pending_after t (y ∷ ys)) p, le-ltb room (length (fresh (speaker_of t) ys y)) q)

-- ---- a piece

-- a symbol is answered with 0 only if it is taken
said-taken : (t : Told) (ys : List (Two Received)) (y : Two Received) (room : ℕ) → (judge_symbol t ys y room).number ≡ 0 → table.SymbolGives t ys y room (reason 0)
said-taken t ys y room z = go (judge_symbol t ys y room) (said-case t ys y room) z
  where
    go : (g : Reason) → table.SymbolGives t ys y room g → g.number ≡ 0 → table.SymbolGives t ys y room (reason 0)
    go g (table.SymbolGives.five a) e = absurd (omega arith)
    go g (table.SymbolGives.six a b) e = absurd (omega arith)
    go g (table.SymbolGives.eight a b c) e = absurd (omega arith)
    go g (table.SymbolGives.taken a b c) e = table.SymbolGives.taken a b c

-- how the symbols zs went after ys: all taken, or up to the first that is refused
data Went (t : Told) (ys zs : List (Two Received)) (room : ℕ) (e : Ended (speaker_of t) (judge_of t)) : Type 0 where
  all : e.taken ≡ length zs → e.why ≡ reason 0 → table.Takes t ys zs room (length e.said) → Went t ys zs room e
  some : (y : Two Received) (later : List (Two Received)) → drop e.taken zs ≡ y ∷ later → e.why ≡ judge_symbol t e.heard y (room - length e.said) → (e.why.number ≡ 0 → ⊥) →
      table.Takes t ys (take e.taken zs) room (length e.said) → Went t ys zs room e

went : (t : Told) (ys zs : List (Two Received)) (room : ℕ) → Went t ys zs room (walk (speaker_of t) (judge_of t) ys zs room)
unfolding walk
went t ys [] room = all refl refl (table.Takes.none ys room)
went t ys (z ∷ zs) room =
    let f = fresh (speaker_of t) ys z in
    go (eqb (judge_symbol t ys z room).number 0) refl (walk (speaker_of t) (judge_of t) (z ∷ ys) zs (room - length f)) (went t (z ∷ ys) zs (room - length f))
  where
    -- one symbol more
    more : (ls : List (Two Received)) (ws : List ℕ) → eqb (judge_symbol t ys z room).number 0 ≡ true → table.Takes t (z ∷ ys) ls (room - length (fresh (speaker_of t) ys z)) (length ws) →
        table.Takes t ys (z ∷ ls) room (length (fresh (speaker_of t) ys z ++ ws))
    more ls ws q k =
        subst (table.Takes t ys (z ∷ ls) room) (sym (length-append (fresh (speaker_of t) ys z) ws))
        (table.Takes.next ys ls z room (length ws) (said-taken t ys z room (eqb-true (judge_symbol t ys z room).number 0 q)) k)

    go : (b : Bool) → eqb (judge_symbol t ys z room).number 0 ≡ b → (e : Ended (speaker_of t) (judge_of t)) → Went t (z ∷ ys) zs (room - length (fresh (speaker_of t) ys z)) e →
        Went t ys (z ∷ zs) room (after (speaker_of t) (judge_of t) ys z (judge_symbol t ys z room) b e)
    go true q e (all m w k) = all (ap suc m) w (more zs e.said q k)
    go true q e (some y later d w n k) =
        let l : room - length (fresh (speaker_of t) ys z) - length e.said ≡ room - length (fresh (speaker_of t) ys z ++ e.said) =
        omega (arith, length-append (fresh (speaker_of t) ys z) e.said) in
        some y later d (w ∙ ap (judge_symbol t e.heard y) l) n (more (take e.taken zs) e.said q k)
    go false q e x = some z zs refl (ap (judge_symbol t ys z) (sym (sub-zero room))) (eqb-false (judge_symbol t ys z room).number 0 q) (table.Takes.none ys room)

pub heard-then : (t : Told) (ys zs : List (Two Received)) (room : ℕ) → let e = walk (speaker_of t) (judge_of t) ys zs room in e.heard ≡ reverse (take e.taken zs) ++ ys
heard-then t ys zs room =
    let e = walk (speaker_of t) (judge_of t) ys zs room in
    sym (reverse-reverse e.heard) ∙ ap reverse (walk-heard (speaker_of t) (judge_of t) ys zs room) ∙ reverse-append (reverse ys) (take e.taken zs)
    ∙ ap (λ (l : List (Two Received)). reverse (take e.taken zs) ++ l) (reverse-reverse ys)

module _ (t : Told) (q : Piece) (room : ℕ) where
  pub piece-case : let d = piece_owed t q room in table.PieceGives t q room d.taken (length d.words) d.reason
  piece-case =
      piece-cases t q room (λ d. table.PieceGives t q room d.taken (length d.words) d.reason) (λ z. walked z (went t t.heard q.symbols room)) (λ z. table.PieceGives.ten z refl refl)
    where
      e : Ended (speaker_of t) (judge_of t)
      e = ended_of t q room

      walked : q.fits ≡ true → Went t t.heard q.symbols room e → table.PieceGives t q room e.taken (length e.said) e.why
      walked z (all m w k) = subst (table.PieceGives t q room e.taken (length e.said)) (sym w) (table.PieceGives.whole z m k)
      walked z (some y later d w n k) =
          table.PieceGives.stopped z y later d k e.why n
          (subst (table.SymbolGives t (reverse (take e.taken q.symbols) ++ t.heard) y (room - length e.said))
          (sym (w ∙ ap (λ (l : List (Two Received)). judge_symbol t l y (room - length e.said)) (heard-then t t.heard q.symbols room)))
          (said-case t (reverse (take e.taken q.symbols) ++ t.heard) y (room - length e.said)))

pub apart : (b : Bool) → b ≡ true → b ≡ false → ⊥
apart b e f = let z : ◌≡◌ {A = ℕ} 0 1 = cc in omega arith

-- one place has one next symbol
not_more : (l : List (Two Received)) (m : ℕ) (y : Two Received) (later : List (Two Received)) → m ≡ length l → drop m l ≡ y ∷ later → ⊥
not_more l m y later e d = let z : ◌≡◌ {A = ℕ} 0 (suc (length later)) = ap length (sym (drop_of_length-le l {i = m} (omega arith)) ∙ d) in omega arith

abbrev head_or : Two Received → List (Two Received) → Two Received
head_or d [] = d
head_or d (x ∷ l) = x

pub piece-one : (t : Told) (q : Piece) (room m n : ℕ) (g h : Reason) → table.PieceGives t q room m n g → table.PieceGives t q room m n h → g ≡ h
piece-one t q room m n g h (table.PieceGives.ten a p k) (table.PieceGives.ten b r s) = refl
piece-one t q room m n g h (table.PieceGives.ten a p k) (table.PieceGives.whole b r v) = absurd (apart q.fits b a)
piece-one t q room m n g h (table.PieceGives.ten a p k) (table.PieceGives.stopped b y later d v₂ g' z s) = absurd (apart q.fits b a)
piece-one t q room m n g h (table.PieceGives.whole a p v) (table.PieceGives.ten b r s) = absurd (apart q.fits a b)
piece-one t q room m n g h (table.PieceGives.whole a p v) (table.PieceGives.whole b r v₂) = refl
piece-one t q room m n g h (table.PieceGives.whole a p v) (table.PieceGives.stopped b y later d v₂ g' z s) = absurd (not_more q.symbols m y later p d)
piece-one t q room m n g h (table.PieceGives.stopped a y later d v g' z s) (table.PieceGives.ten b r k) = absurd (apart q.fits a b)
piece-one t q room m n g h (table.PieceGives.stopped a y later d v g' z s) (table.PieceGives.whole b r v₂) = absurd (not_more q.symbols m y later r d)
piece-one t q room m n g h (table.PieceGives.stopped a y later d v g' z s) (table.PieceGives.stopped b y₂ later₂ d₂ v₂ g₂ z₂ s₂) =
    let ys = reverse (take m q.symbols) ++ t.heard in
    let e : y ≡ y₂ = ap (head_or y) (sym d ∙ d₂) in
    sym (said-is t ys y (room - n) g s) ∙ ap (λ (x : Two Received). judge_symbol t ys x (room - n)) e ∙ said-is t ys y₂ (room - n) h s₂

-- ---- a finish

module _ (t : Told) (room : ℕ) where
  pub finish-case : table.FinishGives t room (finish_owed t room).reason.number
  finish-case = finish-cases t room (λ d. table.FinishGives t room d.reason.number) table.FinishGives.eight table.FinishGives.done

  pub finish-is : (k : ℕ) → table.FinishGives t room k → (finish_owed t room).reason.number ≡ k
  finish-is k (table.FinishGives.eight h) = finish-cases t room (λ d. d.reason.number ≡ 8) (λ _. refl) (λ g. absurd (omega arith))
  finish-is k (table.FinishGives.done h) = finish-cases t room (λ d. d.reason.number ≡ 0) (λ g. absurd (omega arith)) (λ _. refl)
