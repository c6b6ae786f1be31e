-- DEMANDS 1 AND 2 OF THE LIBRARY, call by call, on the caller's own words. The table of numbers is specs/Table, behind specs/LibraryTable: a lent
-- list that is too short is an 8 before all else. A run of plain and recorded calls is a run of plain ones (`library-plainly`, proofs/EveryCall), so each
-- holds after such runs too. What a call leaves behind stands beside its numbers; `-short` is a call whose `told` is too short.
--   sender-opens, sender-opens-left        a sender's opening: 8 of the state, 1
--   receiver-opens, receiver-opens-left    a receiver's opening: 8 of the state, 1, 2, 3
--   sends, sends-left                      a word: 9, 4, 8
--   sends-list, list_left, list-short      a list: 8 of `told`; 9, then 4, 8 for the first word that is refused
--   hears, hears-nine, hears-left, hears-short   a piece: 8 of `told`; 9, 10, then 5, 6, 8 for the first symbol that is refused
--   finishes, finishes-nine, finishes-left, finishes-done, finishes-short   a finish: 8 of `told`; 9, 8
--   finishes-eight                         its 8 by meaning: less room than symbols are pending
--   least, any-cut, begins, first_back     demand 2
use mathlib.Core.Path.{◌≡◌, refl, sym, ap, subst, ◌∙◌}
use mathlib.Core.Bool.{Bool, true, false, cond}
use mathlib.Core.Logic.{◌↔◌}
use mathlib.Core.List.{List, [], ◌++◌, reverse, IsPrefix}
use Prim.Native.Nat.{ℕ, ◌-◌, ◌*◌, ◌≤◌, ◌<◌}
use native.Mathlib.Omega.{arith}
use borrow.Author.Tests.{le-ltb, lt-ltb, ltb-true, ltb-false, ne_eqb}
use lib.Dec.{eqb, ltb}
use lib.IntN.{ℤ}
use lib.ListN.{length, get_or, take, drop}
use lib.Seq.{drop_at}
use Rattle.std.specs.Prelude.{Ok, Err}
use Rattle.points.specs.declared.Accord.{Accord}
use Rattle.points.specs.Agreed.{is_accord}
use Rattle.wei.specs.Symbol.{Symbol}
use Rattle.trellis.specs.Best.{Longest}
use Rattle.trellis.specs.Measure.{Two}
use Rattle.trellis.specs.Words.{as_heard}
use Rattle.nearest.specs.declared.Received.{Received}
use Rattle.machine.specs.Machine.{last_words, sound}
use Rattle.reasons.specs.declared.Why.TheVariants.{NoRoom, Closed}
use Rattle.reasons.specs.Reason.{Reason, given_of}
use Rattle.receiver_meaning.specs.Told.{code_of}
use Rattle.receiver_meaning.specs.Piece.{Piece, symbols_of}
use Rattle.openings.specs.declared.Start.{Start}
use Rattle.openings.specs.declared.Opened.{Opened}
use Rattle.openings.specs.Given.{start_of}
use Rattle.openings.specs.Opening.{Receiver, shut, opening, opening_owed}
use Rattle.openings.proofs.Openings.{opening-opens, opens-left}
use Rattle.receiver.specs.Doors as doors
use Rattle.receiver.proofs.Doors as kept
use Rattle.receiver.specs.Promise as receiver
use Rattle.receiver.proofs.Left.{finishes-left as finishes-left-door}
use Rattle.recorder.specs.Doors.{taped_hearing, taped_finishing}
use Rattle.sender.specs.declared.Sender.{Sender}
use Rattle.sender.specs.Send as sender
use Rattle.sender.specs.SendList.{GivenList, sending_list}
use Rattle.sender.proofs.Exactly.{refused-keeps}
use Rattle.sender.proofs.Lists.{list-end}
use Rattle.c_layout.specs.Layout.{sender_length, receiver_length}
use Rattle.c_states.specs.State.{sender_in, receiver_in, words_of_sender, words_of_receiver}
use Rattle.c_samples.specs.Counts.{told_of}
use Rattle.c_recorder.specs.Calls as taped
use Rattle.demfizagu.specs.Calls.{Opening, ListCall, call_of, sender_opening, send_call, send_list_call, receiver_opening, hear_call, finish_call}
use Rattle.demfizagu.specs.Promise as library
use Rattle.promises.specs.Clean.{all_on_line, StartsAtZero}
use Rattle.promises.specs.End.{End}
use Rattle.promises.specs.EveryCall.{AnyEnd}
use Rattle.promises.specs.Table as table
use Rattle.promises.specs.Library.{taken, written, LibrarySends, LibraryHears, LibraryEnded}
use Rattle.promises.specs.LibraryTable.{Lent, SenderState, ReceiverState}
use Rattle.promises.proofs.Numbers.{sender-opening-case, sender-opening-is, sending-case, sending-is, opening-case, opening-is, piece-one, finish-case, finish-is}
use Rattle.promises.proofs.Meant.{finish-eight}
use Rattle.promises.proofs.Listed.{list-case, list-is, list-behind}
use Rattle.promises.proofs.Follows as follows
use Rattle.promises.proofs.Demand1 as demand1
use Rattle.promises.proofs.Demand2 as demand2
use Rattle.promises.proofs.Left.{hears-refused}
use Rattle.promises.proofs.Library as demands
use Rattle.promises.proofs.EveryCall.{end-plainly}

-- ---- what is lent

-- n is 8 where a list is too short, and else g, which the table gives and nothing else
module _ (need : ℕ) (l : List ℕ) (Gives : ℕ → Type 0) (g n : ℕ) (e : n ≡ cond (ltb (length l) need) 8 g) (c : Gives g) (only : (m : ℕ) → Gives m → g ≡ m) where
  lent-case : (b : Bool) → ltb (length l) need ≡ b → Lent need l Gives (cond b 8 g)
  lent-case true f = Lent.short (ltb-true (length l) need f)
  lent-case false f = Lent.enough (ltb-false (length l) need f) g c

  lent-only : (m : ℕ) → Lent need l Gives m → n ≡ m
  lent-only m (Lent.short h) = e ∙ rw (lt-ltb (length l) need h)
  lent-only m (Lent.enough h k x) = e ∙ rw (le-ltb (length l) need h) (only k x)

  lent_is : (m : ℕ) → (n ≡ m) ↔ Lent need l Gives m
  lent_is m = (λ z. subst (Lent need l Gives) (sym e ∙ z) (lent-case (ltb (length l) need) refl), lent-only m)

-- ---- openings

module _ {E : Type 0} (read : List ℕ → E) (need : ℕ) (before words : List ℕ) (g : ℕ) (x : E) where
  abbrev put : Bool → Opening E
  put c = cond c (record { number = 8; state = before; end = read before }) (record { number = g; state = words ++ drop need before; end = x })

  opening-number : (c : Bool) → (put c).number ≡ cond c 8 g
  opening-number true = refl
  opening-number false = refl

module _ (before : List ℕ) (k : Accord) (n : ℕ) (state : List ℕ) (p : library.Opens sender_in (sender_opening before k) n state) where
  abbrev g : sender.Given
  g = sender.opening k

  pub sender-opens : (m : ℕ) → (n ≡ m) ↔ Lent sender_length before (table.SenderOpens k) m
  unfolding sender_opening
  sender-opens =
      lent_is sender_length before (table.SenderOpens k) g.number n
      (p.number ∙ opening-number sender_in sender_length before (words_of_sender g.sender) g.number g.sender (ltb (length before) sender_length))
      (sender-opening-case k) (sender-opening-is k)

  -- an 8 leaves the state as it was; a 1 puts a closed sender in front, and leaves the words behind it
  pub sender-opens-left : (length before < sender_length → state ≡ before)
      × (sender_length ≤ length before → (n ≡ 0 → ⊥) → (sender_in state ≡ sender.shut) × (state ≡ words_of_sender sender.shut ++ drop sender_length before))
  unfolding sender_opening sender.opening
  sender-opens-left = (λ few. p.state-is ∙ rw (lt-ltb (length before) sender_length few), closes)
    where
      closed : ((sender.opening k).number ≡ 0 → ⊥) → (sender.opening k).sender ≡ sender.shut
      closed = go (is_accord k)
        where
          go : (c : Bool) → let q : sender.Given = cond c (record { number = 0; sender = sender.fresh k; output = [] }) (record { number = 1; sender = sender.shut; output = [] }) in
              (q.number ≡ 0 → ⊥) → q.sender ≡ sender.shut
          go true z = absurd (z refl)
          go false z = refl

      closes : sender_length ≤ length before → (n ≡ 0 → ⊥) → (sender_in state ≡ sender.shut) × (state ≡ words_of_sender sender.shut ++ drop sender_length before)
      closes long z =
          let l = le-ltb (length before) sender_length long in
          let e = closed (λ y. z (p.number ∙ rw l y)) in
          (p.reads ∙ rw l e, p.state-is ∙ rw l (ap (λ (x : Sender). words_of_sender x ++ drop sender_length before) e))

module _ (before : List ℕ) (k : Accord) (w : ℕ) (b : Start) (n : ℕ) (state : List ℕ) (p : library.Opens receiver_in (receiver_opening before k w b) n state) where
  abbrev opens : Opened
  opens = record { receiver = (opening k w b).receiver; why = (opening k w b).why }

  owed : (given_of (opening k w b).why).number ≡ opening_owed k w b
  owed = (opening-opens k w b).owed

  pub receiver-opens : (m : ℕ) → (n ≡ m) ↔ Lent receiver_length before (table.ReceiverOpens k w b) m
  unfolding receiver_opening
  receiver-opens =
      lent_is receiver_length before (table.ReceiverOpens k w b) (given_of (opening k w b).why).number n
      (p.number ∙ opening-number receiver_in receiver_length before (words_of_receiver (opening k w b).receiver) (given_of (opening k w b).why).number (opening k w b).receiver (ltb (length before) receiver_length))
      (subst (table.ReceiverOpens k w b) (sym owed) (opening-case k w b)) (λ m h. owed ∙ opening-is k w b m h)

  pub receiver-opens-left : (length before < receiver_length → state ≡ before)
      × (receiver_length ≤ length before → (n ≡ 0 → ⊥) → (receiver_in state ≡ shut) × (state ≡ words_of_receiver shut ++ drop receiver_length before))
  unfolding receiver_opening
  receiver-opens-left = (
    λ few. p.state-is ∙ rw (lt-ltb (length before) receiver_length few),
    λ long z.
        let l = le-ltb (length before) receiver_length long in
        let e : (opening k w b).receiver ≡ shut = opens-left k w b opens (opening-opens k w b) (λ y. z (p.number ∙ rw l y)) in
        (p.reads ∙ rw l e, p.state-is ∙ rw l (ap (λ (x : Receiver). words_of_receiver x ++ drop receiver_length before) e)),
  )

-- ---- the sender

pub sender-end : {state : List ℕ} → SenderState state → sender.End (sender_in state)
unfolding sender_opening send_call send_list_call
sender-end (SenderState.opened k before state n long p) = subst sender.End (sym (p.reads ∙ rw (le-ltb (length before) sender_length long))) (sender.End.opened k)
sender-end (SenderState.sent h word n out o s' a) = subst sender.End (sym a.reads) (sender.End.called (sender-end h) word out)
sender-end (SenderState.listed {state = s} h words out told n s' o told' a) = go (ltb (length told) 3) (sender-end h) a
  where
    go : (c : Bool) → sender.End (sender_in s) →
        library.SendsList (cond c (record { number = 8; state = s; sender = sender_in s; out = out; told = told })
        (let g = sending_list (sender_in s) words out in
        record {
          number = g.number;
          state = cond (ltb 0 g.sent) (words_of_sender g.sender ++ drop sender_length s) s;
          sender = g.sender;
          out = g.output;
          told = told_of g.sent (4 * g.sent) 0 told;
        })) n s' o told' → sender.End (sender_in s')
    go true e q = subst sender.End (sym q.reads) e
    go false e q = subst sender.End (sym q.reads) (list-end (sender_in s) words out e)
sender-end (SenderState.copied h other e) = subst sender.End (sym e) (sender-end h)

module _ (state : List ℕ) (word n : ℕ) (out o : List ℤ) (state' : List ℕ) (a : library.Sends (send_call state word out) n state' o) where
  pub sends : SenderState state → (m : ℕ) → (n ≡ m) ↔ table.SendGives (sender_in state) word out m
  unfolding send_call
  sends h m = (
    λ z. subst (table.SendGives (sender_in state) word out) (sym a.number ∙ z) (sending-case (sender_in state) (sender-end h) word out),
    λ x. a.number ∙ sending-is (sender_in state) (sender-end h) word out m x,
  )

  pub sends-left : (n ≡ 0 → ⊥) → (state' ≡ state) × (o ≡ out)
  unfolding send_call
  sends-left z =
      let k : (sender.sending (sender_in state) word out).number ≡ 0 → ⊥ = λ e. z (a.number ∙ e) in
      (a.state-is ∙ rw (ne_eqb (sender.sending (sender_in state) word out).number 0 k), a.out-is ∙ (refused-keeps (sender_in state) word out k).1)

module _ (state words : List ℕ) (out : List ℤ) (told : List ℕ) (n : ℕ) (state' : List ℕ) (o : List ℤ) (told' : List ℕ)
    (a : library.SendsList (send_list_call state words out told) n state' o told') where
  abbrev l : GivenList
  l = sending_list (sender_in state) words out

  list-number : n ≡ cond (ltb (length told) 3) 8 l.number
  unfolding send_list_call
  list-number = a.number ∙ go (ltb (length told) 3)
    where
      go : (c : Bool) → (cond {A = ListCall} c (record { number = 8; state = state; sender = sender_in state; out = out; told = told })
          (record {
            number = l.number;
            state = cond (ltb 0 l.sent) (words_of_sender l.sender ++ drop sender_length state) state;
            sender = l.sender;
            out = l.output;
            told = told_of l.sent (4 * l.sent) 0 told;
          })).number ≡ cond c 8 l.number
      go true = refl
      go false = refl

  pub list-short : length told < 3 → (n ≡ 8) × (state' ≡ state) × (o ≡ out) × (told' ≡ told)
  unfolding send_list_call
  list-short few = let e = lt-ltb (length told) 3 few in (a.number ∙ rw e, a.state-is ∙ rw e, a.out-is ∙ rw e, a.told_is ∙ rw e)

  module _ (long : 3 ≤ length told) where
    told_is : demands.Listed state words out told n state' o told' a
    told_is = demands.list-told state words out told n state' o told' a long

    pub sends-list : SenderState state → (m : ℕ) → (n ≡ m) ↔ table.ListGives (sender_in state) words out (taken told') m
    sends-list h m =
        let e = sender-end h in
        let d : n ≡ l.number = list-number ∙ rw (le-ltb (length told) 3 long) in (
          λ z. subst (table.ListGives (sender_in state) words out (taken told')) (sym d ∙ z)
              (subst (λ (i : ℕ). table.ListGives (sender_in state) words out i l.number) (sym told_is.taken_is) (list-case (sender_in state) e words out)),
          λ x. d ∙ list-is (sender_in state) e words out (taken told') m told_is.taken_is x,
        )

    -- four places for each word sent, and those behind them as they were lent; where no word was sent the state too
    pub list_left : (written told' ≡ 4 * taken told') × (drop (written told') o ≡ drop (written told') out) × (taken told' ≡ 0 → (state' ≡ state) × (o ≡ out))
    unfolding send_list_call
    list_left =
        let t = told_is in
        let behind : drop (written told') o ≡ drop (written told') out = rw (t.written_is, t.out-is) (list-behind (sender_in state) words out) in (
          t.written_is ∙ ap (λ (i : ℕ). 4 * i) (sym t.taken_is),
          behind,
          λ z.
              let none : l.sent ≡ 0 = sym t.taken_is ∙ z in
              let w : written told' ≡ 0 = t.written_is ∙ ap (λ (i : ℕ). 4 * i) none in
              (a.state-is ∙ rw (le-ltb (length told) 3 long, none), subst (λ (i : ℕ). drop i o ≡ drop i out) w behind),
        )

-- ---- the receiver

pub receiver-end : {state : List ℕ} → ReceiverState state → AnyEnd (receiver_in state)
unfolding receiver_opening hear_call finish_call taped.hear_call taped.finish_call
receiver-end (ReceiverState.opened k w b before state n long p) = subst AnyEnd (sym (p.reads ∙ rw (le-ltb (length before) receiver_length long))) (AnyEnd.fresh k w b)
receiver-end (ReceiverState.heard {state = s} h piece out told n s' o told' a) = subst AnyEnd (sym a.reads) (go (ltb (length told) 3) (receiver-end h))
  where
    go : (c : Bool) → AnyEnd (receiver_in s) → let r = doors.hearing (receiver_in s) piece (length out) in
        AnyEnd (cond c (record { number = 8; state = s; receiver = receiver_in s; out = out; told = told }) (call_of (ltb 0 r.taken) r s out told)).receiver
    go true e = e
    go false e = AnyEnd.heard e piece (length out)
receiver-end (ReceiverState.finished {state = s} h out told n s' o told' a) = subst AnyEnd (sym a.reads) (go (ltb (length told) 3) (receiver-end h))
  where
    go : (c : Bool) → AnyEnd (receiver_in s) → let r = doors.finishing (receiver_in s) (length out) in
        AnyEnd (cond c (record { number = 8; state = s; receiver = receiver_in s; out = out; told = told }) (call_of (eqb (given_of r.why).number 0) r s out told)).receiver
    go true e = e
    go false e = AnyEnd.finished e (length out)
receiver-end (ReceiverState.taped-heard {state = s} h piece out bytes told n s' o b told' a) = subst AnyEnd (sym a.reads) (go (ltb (length told) 4) (receiver-end h))
  where
    go : (c : Bool) → AnyEnd (receiver_in s) → let r = taped_hearing (receiver_in s) piece (length out) (length bytes) in
        AnyEnd (cond c (record { number = 8; state = s; receiver = receiver_in s; out = out; bytes = bytes; told = told }) (taped.call_of (ltb 0 r.taken) r s out bytes told)).receiver
    go true e = e
    go false e = AnyEnd.taped-heard e piece (length out) (length bytes)
receiver-end (ReceiverState.taped-finished {state = s} h out bytes told n s' o b told' a) = subst AnyEnd (sym a.reads) (go (ltb (length told) 4) (receiver-end h))
  where
    go : (c : Bool) → AnyEnd (receiver_in s) → let r = taped_finishing (receiver_in s) (length out) (length bytes) in
        AnyEnd (cond c (record { number = 8; state = s; receiver = receiver_in s; out = out; bytes = bytes; told = told }) (taped.call_of (eqb (given_of r.why).number 0) r s out bytes told)).receiver
    go true e = e
    go false e = AnyEnd.taped-finished e (length out) (length bytes)
receiver-end (ReceiverState.copied h other e) = subst AnyEnd (sym e) (receiver-end h)

module _ (state : List ℕ) (piece : Piece) (out told : List ℕ) (n : ℕ) (state' o told' : List ℕ) (a : library.Answers (hear_call state piece out told) n state' o told') where
  abbrev h : doors.Ran
  h = doors.hearing (receiver_in state) piece (length out)

  pub hears-short : length told < 3 → (n ≡ 8) × (state' ≡ state) × (o ≡ out) × (told' ≡ told)
  unfolding hear_call
  hears-short few = let e = lt-ltb (length told) 3 few in (a.number ∙ rw e, a.state-is ∙ rw e, a.out-is ∙ rw e, a.told_is ∙ rw e)

  module _ (long : 3 ≤ length told) where
    heard : demands.Answered h out n state' o told'
    heard = demands.heard-by state out told long n state' o told' piece a

    promised : receiver.Hears (receiver_in state) piece out (demands.answer h) o
    promised = kept.hears (receiver_in state) piece out (demands.answer h) o (demands.is-answer h out n state' o told' heard)

    -- the number and the place, exactly as the table says; `numbers` of proofs/Library is half of it
    pub hears : (k : Accord) (w : ℕ) (b : Start) (took : List (Two Received)) (ws : List ℕ) → LibraryHears k w b took ws state → (g : Reason) →
        (record { number = n; place = get_or told' 2 0 } ≡ g) ↔ table.PieceGives (follows.told_of k w b took) piece (length out) (taken told') (written told') g
    hears k w b took ws r g =
        let x = demands.numbers k w b took ws state r piece out told long n state' o told' a in (
          λ z. subst (table.PieceGives (follows.told_of k w b took) piece (length out) (taken told') (written told')) z x,
          λ y. piece-one (follows.told_of k w b took) piece (length out) (taken told') (written told') (record { number = n; place = get_or told' 2 0 }) g x y,
        )

    pub hears-nine : ReceiverState state → (n ≡ 9) ↔ ((receiver_in state).live ≡ false)
    hears-nine r = let x = demand1.hears-nine (receiver_in state) (end-plainly (receiver-end r)) out (demands.answer h) o piece promised in (λ z. x.0 (sym heard.number ∙ z), λ z. heard.number ∙ x.1 z)

    -- the places behind the words written are as they were lent; where no symbol was taken the state too, and no word was written
    pub hears-left : (drop (written told') o ≡ drop (written told') out) × (ReceiverState state → taken told' ≡ 0 → (state' ≡ state) × (written told' ≡ 0) × (o ≡ out))
    unfolding hear_call
    hears-left = (
      ap (drop (written told')) heard.out-is ∙ drop_at h.words (drop (length h.words) out) (written told') (sym heard.written_is) ∙ ap (λ (i : ℕ). drop i out) (sym heard.written_is),
      λ r z.
          let none : h.taken ≡ 0 = sym heard.taken_is ∙ z in
          let x = hears-refused (receiver_in state) (end-plainly (receiver-end r)) piece out (demands.answer h) o promised none in
          (a.state-is ∙ rw (le-ltb (length told) 3 long, none), heard.written_is ∙ x.1, x.2),
    )

module _ (state out told : List ℕ) (n : ℕ) (state' o told' : List ℕ) (a : library.Answers (finish_call state out told) n state' o told') where
  abbrev f : doors.Ran
  f = doors.finishing (receiver_in state) (length out)

  pub finishes-short : length told < 3 → (n ≡ 8) × (state' ≡ state) × (o ≡ out) × (told' ≡ told)
  unfolding finish_call
  finishes-short few = let e = lt-ltb (length told) 3 few in (a.number ∙ rw e, a.state-is ∙ rw e, a.out-is ∙ rw e, a.told_is ∙ rw e)

  module _ (long : 3 ≤ length told) where
    ended : demands.Answered f out n state' o told'
    ended = demands.ended_by state out told long n state' o told' a

    keeps : receiver.Finishes (receiver_in state) out (demands.answer f) o
    keeps = kept.finishes (receiver_in state) out (demands.answer f) o (demands.is-answer f out n state' o told' ended)

    pub finishes : (k : Accord) (w : ℕ) (b : Start) (took : List (Two Received)) (ws : List ℕ) → LibraryHears k w b took ws state → (m : ℕ) →
        (n ≡ m) ↔ table.FinishGives (follows.told_of k w b took) (length out) m
    finishes k w b took ws r m =
        let run = follows.follows k w b took ws (receiver_in state) (demands.talks k w b took ws state r) in
        let x = demand1.finishes (follows.told_of k w b took) run.fine (receiver_in state) run.machine out (demands.answer f) o keeps m in
        (λ z. x.0 (sym ended.number ∙ z), λ y. ended.number ∙ x.1 y)

    -- "Need for 8: room .. at finish for all pending words", by any longest common beginning
    pub finishes-eight : (k : Accord) (w : ℕ) (b : Start) (took : List (Two Received)) (ws : List ℕ) → LibraryHears k w b took ws state → (l : List Symbol) →
        Longest (code_of k (start_of b)) (reverse took) l → (n ≡ 8) ↔ (length out < length (reverse took) - length l)
    finishes-eight k w b took ws r l h =
        let run = follows.follows k w b took ws (receiver_in state) (demands.talks k w b took ws state r) in
        let t = follows.told_of k w b took in
        let x = finish-eight t run.fine (length out) l h in
        let y = finishes k w b took ws r 8 in
        (λ z. x.0 (finish-is t (length out) 8 (y.0 z)), λ z. y.1 (subst (table.FinishGives t (length out)) (x.1 z) (finish-case t (length out))))

    pub finishes-nine : ReceiverState state → (n ≡ 9) ↔ ((receiver_in state).live ≡ false)
    finishes-nine r = let x = demand1.finishes-nine (receiver_in state) (end-plainly (receiver-end r)) out (demands.answer f) o keeps in (λ z. x.0 (sym ended.number ∙ z), λ z. ended.number ∙ x.1 z)

    -- a refused finish leaves all as it was, and counts 0 taken, 0 written
    pub finishes-left : (n ≡ 0 → ⊥) → (state' ≡ state) × (o ≡ out) × (taken told' ≡ 0) × (written told' ≡ 0)
    unfolding finish_call doors.finishing
    finishes-left z =
        let k : (given_of f.why).number ≡ 0 → ⊥ = λ e. z (ended.number ∙ e) in
        let x = kept-finish k in (
          a.state-is ∙ rw (le-ltb (length told) 3 long, ne_eqb (given_of f.why).number 0 k),
          (finishes-left-door (receiver_in state) out (demands.answer f) o keeps k).1,
          ended.taken_is ∙ x.0,
          ended.written_is ∙ ap length x.1,
        )
      where
        kept-finish : ((given_of f.why).number ≡ 0 → ⊥) → (f.taken ≡ 0) × (f.words ≡ [])
        kept-finish = go (sound (receiver_in state)) (ltb (length out) (receiver_in state).core.pending)
          where
            go : (i j : Bool) → let q : doors.Ran = cond i (cond j (doors.stopped (receiver_in state) (Err NoRoom)) (record { receiver = shut; taken = 0; words = last_words (receiver_in state); why = Ok tt })) (doors.stopped (receiver_in state) (Err Closed)) in
                ((given_of q.why).number ≡ 0 → ⊥) → (q.taken ≡ 0) × (q.words ≡ [])
            go true true y = (refl, refl)
            go true false y = absurd (y refl)
            go false j y = (refl, refl)

    -- one that is done closes the receiver
    pub finishes-done : n ≡ 0 → receiver_in state' ≡ shut
    unfolding doors.finishing
    finishes-done z = ended.reads ∙ go (sound (receiver_in state)) (ltb (length out) (receiver_in state).core.pending) (sym ended.number ∙ z)
      where
        go : (i j : Bool) → let q : doors.Ran = cond i (cond j (doors.stopped (receiver_in state) (Err NoRoom)) (record { receiver = shut; taken = 0; words = last_words (receiver_in state); why = Ok tt })) (doors.stopped (receiver_in state) (Err Closed)) in
            (given_of q.why).number ≡ 0 → q.receiver ≡ shut
        go true true y = absurd (omega arith)
        go true false y = refl
        go false j y = absurd (omega arith)

-- ---- demand 2

pub least : (k : Accord) (w : ℕ) (b : Start) (took : List (Two Received)) (ws : List ℕ) → LibraryEnded k w b took ws → demand2.LeastWords k b took ws
least k w b took ws e = demand2.least k w b took ws (demands.ended k w b took ws e)

pub any-cut : (k : Accord) (v w : ℕ) (b : Start) (took : List (Two Received)) (ws vs : List ℕ) → LibraryEnded k v b took ws → LibraryEnded k w b took vs → ws ≡ vs
any-cut k v w b took ws vs d e = demand2.any-cut k v w b took ws vs (demands.ended k v b took ws d) (demands.ended k w b took vs e)

module _ (k : Accord) (w : ℕ) (b : Start) (z : StartsAtZero b) (words : List ℕ) (ps : List ℤ) (state : List ℕ) (s : LibrarySends k words ps state) where
  pub begins : (m : ℕ) (ws state' : List ℕ) → LibraryHears k w b (take m (symbols_of (all_on_line ps))) ws state' → IsPrefix ws (as_heard (start_of b) words)
  begins m ws state' r =
      demand2.begins k w b z words ps (sender_in state) (demands.sent k words ps state s) m ws (receiver_in state') (demands.talks k w b (take m (symbols_of (all_on_line ps))) ws state' r)

  pub first_back : (m : ℕ) (ws : List ℕ) → LibraryEnded k w b (take m (symbols_of (all_on_line ps))) ws → ws ≡ take m (as_heard (start_of b) words)
  first_back m ws e =
      demand2.first_back k w b z words ps (sender_in state) (demands.sent k words ps state s) m ws (demands.ended k w b (take m (symbols_of (all_on_line ps))) ws e)
